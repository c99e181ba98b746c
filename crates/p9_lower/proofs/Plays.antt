-- Plays of sources and of trees, operation by operation.
use Rattle.std.proofs.Common.{◌≡◌, Option, Some, None, Result, Ok, Err, refl, sym, ap, subst}
use Rattle.p9_cmean.specs.declared.Cause.{Cause}
use Rattle.p9_cmean.specs.declared.Place.{Place}
use Rattle.p9_cmean.specs.Cells.{Value, Word, Address, Missing, State}
use Rattle.p9_cmean.specs.Plays.{Play, Done, Wrong, NoMeaning, Exit, Cut, Turn, Ask, Moved, bind}
use Rattle.p9_cmean.specs.Places.{used, or_wrong, done_at, or_no_meaning}
use Rattle.p9_tree.specs.Same.{Alike, Same}
use Rattle.p9_tree.proofs.Same.{same_bind}
use Rattle.p9_lower.specs.Keeping.{Stands}

pub stands_refl : (v : Value) → Stands v v
stands_refl (Word n) = refl
stands_refl (Address p) = refl
stands_refl (Missing c) = tt

pub stands_alike : (v w : Value) → Alike v w → Stands v w
stands_alike (Word n) w h = h
stands_alike (Address p) w h = h
stands_alike (Missing c) w h = tt

pub bind_done : {A : Type 0} (p : Play A) → bind p (λ v s. Done v s) ≡ p
bind_done (Done x s) = refl
bind_done (Wrong why place s) = refl
bind_done (NoMeaning place s) = refl
bind_done (Exit text s) = refl
bind_done (Cut s) = refl
bind_done (Turn s p) = ap (Turn s) (bind_done p)
bind_done (Ask call s k) = λ i. Ask call s (λ v t. bind_done (k v t) i)
bind_done (Moved bytes p) = ap (Moved bytes) (bind_done p)

pub along : {A : Type 0} (R : A → A → Type 0) (p q r : Play A) → q ≡ r → Same R p r → Same R p q
along R p q r e h = subst (λ x. Same R p x) (sym e) h

-- USE: where the source has no value, nothing is said

pub used_free : {A : Type 0} (R : A → A → Type 0) (v w : Value) (s : State) (k : Value → Play A) (q : Play A)
    → Stands v w → Same R (k w) q → Same R (used v s k) q
used_free R (Word n) w s k q a h = subst (λ x. Same R (k x) q) (sym a) h
used_free R (Address p) w s k q a h = subst (λ x. Same R (k x) q) (sym a) h
used_free R (Missing c) w s k q a h = tt

pub used_same : {A : Type 0} (R : A → A → Type 0) (v w : Value) (s : State) (k l : Value → Play A)
    → Stands v w → Same R (k w) (l w) → Same R (used v s k) (used w s l)
used_same R (Word n) w s k l a h = subst (λ x. Same R (k x) (l x) → Same R (k (Word n)) (used x s l)) a (λ g. g) h
used_same R (Address p) w s k l a h = subst (λ x. Same R (k x) (l x) → Same R (k (Address p)) (used x s l)) a (λ g. g) h
used_same R (Missing c) w s k l a h = tt

-- RESULTS: what an operation gives, where it gives something

pub result_same : {A B : Type 0} (R : B → B → Type 0) (place : Place) (s : State) (r : Result A Cause) (k : A → Play B) (q : Play B)
    → ((x : A) → r ≡ Ok x → Same R (k x) q) → Same R (or_wrong place s r k) q
result_same R place s (Ok x) k q h = h x refl
result_same R place s (Err why) k q h = tt

pub done_same : (place : Place) (s : State) (r : Result Value Cause) (q : Play Value)
    → ((x : Value) → r ≡ Ok x → q ≡ Done x s) → Same Stands (done_at place s r) q
done_same place s (Ok x) q h = (x, h x refl, stands_refl x)
done_same place s (Err why) q h = tt

pub meant_same : {A B : Type 0} (R : B → B → Type 0) (place : Place) (s : State) (o : Option A) (k : A → Play B) (q : Play B)
    → ((x : A) → o ≡ Some x → Same R (k x) q) → Same R (or_no_meaning place s o k) q
meant_same R place s (Some x) k q h = h x refl
meant_same R place s None k q h = tt

pub given_same : (place : Place) (s : State) (o : Option (Result Value Cause)) (q : Play Value)
    → ((x : Value) → o ≡ Some (Ok x) → q ≡ Done x s) → Same Stands (or_no_meaning place s o (λ r. done_at place s r)) q
given_same place s (Some (Ok x)) q h = (x, h x refl, stands_refl x)
given_same place s (Some (Err why)) q h = tt
given_same place s None q h = tt

-- an operation on two values that are used
pub operation_same : (place : Place) (s : State) (r : Value → Value → Option (Result Value Cause)) (q : Value → Value → Play Value) (a b a' b' : Value)
    → Stands a a' → Stands b b' → ((v w x : Value) → r v w ≡ Some (Ok x) → q v w ≡ Done x s)
    → Same Stands (used a s (λ v. used b s (λ w. or_no_meaning place s (r v w) (λ result. done_at place s result)))) (q a' b')
operation_same place s r q a b a' b' h g f =
    used_free Stands a a' s (λ v. used b s (λ w. or_no_meaning place s (r v w) (λ result. done_at place s result))) (q a' b') h
    (used_free Stands b b' s (λ w. or_no_meaning place s (r a' w) (λ result. done_at place s result)) (q a' b') g
    (given_same place s (r a' b') (q a' b') (f a' b')))

-- two operands, one after the other, and an operation on them
pub operands_same : (p p' : Play Value) (k k' : State → Play Value) (place : Place)
    (r : State → Value → Value → Option (Result Value Cause)) (q : State → Value → Value → Play Value)
    → Same Stands p p' → ((s : State) → Same Stands (k s) (k' s))
    → ((s : State) (v w x : Value) → r s v w ≡ Some (Ok x) → q s v w ≡ Done x s)
    → Same Stands
    (bind p (λ a t. bind (k t) (λ b u. used a u (λ v. used b u (λ w. or_no_meaning place u (r u v w) (λ result. done_at place u result))))))
    (bind p' (λ a t. bind (k' t) (λ b u. q u a b)))
operands_same p p' k k' place r q hp hk hq =
    same_bind Stands Stands p p' _ _ hp (λ a a' t h.
    same_bind Stands Stands (k t) (k' t) _ _ (hk t) (λ b b' u g.
    operation_same place u (r u) (q u) a b a' b' h g (hq u)))
