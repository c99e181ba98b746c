-- Plays one after the other, plays that do the same for some turns, and plays that last.
use Rattle.std.proofs.Common.{◌≡◌, ◌≤◌, ℕ, zero, suc, Bool, true, false, if◌then◌else◌, refl, sym, ap, subst, arith}
use Rattle.p9_cmean.specs.Cells.{State}
use Rattle.p9_cmean.specs.Plays.{Play, Done, Wrong, NoMeaning, Exit, Cut, Turn, Ask, Moved, bind, Flow, Normal, Broke, Continued, Returned, Went, after_turn, then_go, Loop, turn_of}
use Rattle.p9_cmean.specs.PlayLaws.{BindIsAssociative, Follows, LoopFollows, LoopsFollow, TestedLoopsFollow, Lasts, LoopLasts, LoopsLast, TestedLoopsLast}

pub bind_assoc : {A B C : Type 0} (p : Play A) (k : A → State → Play B) (l : B → State → Play C) → bind (bind p k) l ≡ bind p (λ x s. bind (k x s) l)
bind_assoc (Done x s) k l = refl
bind_assoc (Wrong why place s) k l = refl
bind_assoc (NoMeaning place s) k l = refl
bind_assoc (Exit text s) k l = refl
bind_assoc (Cut s) k l = refl
bind_assoc (Turn s p) k l = ap (Turn s) (bind_assoc p k l)
bind_assoc (Ask call s p) k l = λ i. Ask call s (λ v t. bind_assoc (p v t) k l i)
bind_assoc (Moved bytes p) k l = ap (Moved bytes) (bind_assoc p k l)

pub bind_is_associative : (A B C : Type 0) → BindIsAssociative A B C
bind_is_associative A B C p k l = bind_assoc p k l

-- FOLLOWING

pub follows_refl : {A : Type 0} (n : ℕ) (p : Play A) → Follows n p p
follows_refl n (Done x s) = refl
follows_refl n (Wrong why place s) = refl
follows_refl n (NoMeaning place s) = refl
follows_refl n (Exit text s) = refl
follows_refl n (Cut s) = refl
follows_refl zero (Turn s p) = (p, refl)
follows_refl (suc n) (Turn s p) = (p, refl, follows_refl n p)
follows_refl zero (Ask call s p) = (p, refl)
follows_refl (suc n) (Ask call s p) = (p, refl, λ v t. follows_refl n (p v t))
follows_refl n (Moved bytes p) = (p, refl, follows_refl n p)

pub follows_less : {A : Type 0} (p q : Play A) (m n : ℕ) → n ≤ m → Follows m p q → Follows n p q
follows_less (Done x s) q m n le h = h
follows_less (Wrong why place s) q m n le h = h
follows_less (NoMeaning place s) q m n le h = h
follows_less (Exit text s) q m n le h = h
follows_less (Cut s) q m n le h = h
follows_less (Turn s p) q zero zero le h = h
follows_less (Turn s p) q zero (suc n) le h = absurd (omega arith)
follows_less (Turn s p) q (suc m) zero le h = (h.0, h.1)
follows_less (Turn s p) q (suc m) (suc n) le h = (h.0, h.1, follows_less p h.0 m n (omega arith) h.2)
follows_less (Ask call s p) q zero zero le h = h
follows_less (Ask call s p) q zero (suc n) le h = absurd (omega arith)
follows_less (Ask call s p) q (suc m) zero le h = (h.0, h.1)
follows_less (Ask call s p) q (suc m) (suc n) le h = (h.0, h.1, λ v t. follows_less (p v t) (h.0 v t) m n (omega arith) (h.2 v t))
follows_less (Moved bytes p) q m n le h = (h.0, h.1, follows_less p h.0 m n le h.2)

pub follows_bind : {A B : Type 0} (n : ℕ) (p q : Play A) (k l : A → State → Play B) → Follows n p q → ((x : A) (s : State) → Follows n (k x s) (l x s)) → Follows n (bind p k) (bind q l)
follows_bind n (Done x s) q k l h g = subst (λ r. Follows n (k x s) (bind r l)) (sym h) (g x s)
follows_bind n (Wrong why place s) q k l h g = ap (λ r. bind r l) h
follows_bind n (NoMeaning place s) q k l h g = ap (λ r. bind r l) h
follows_bind n (Exit text s) q k l h g = ap (λ r. bind r l) h
follows_bind n (Cut s) q k l h g = ap (λ r. bind r l) h
follows_bind zero (Turn s p) q k l h g = (bind h.0 l, ap (λ r. bind r l) h.1)
follows_bind (suc n) (Turn s p) q k l h g =
    (bind h.0 l, ap (λ r. bind r l) h.1, follows_bind n p h.0 k l h.2 (λ x t. follows_less (k x t) (l x t) (suc n) n (omega arith) (g x t)))
follows_bind zero (Ask call s p) q k l h g = (λ v t. bind (h.0 v t) l, ap (λ r. bind r l) h.1)
follows_bind (suc n) (Ask call s p) q k l h g = (
  λ v t. bind (h.0 v t) l,
  ap (λ r. bind r l) h.1,
  λ v t. follows_bind n (p v t) (h.0 v t) k l (h.2 v t) (λ x u. follows_less (k x u) (l x u) (suc n) n (omega arith) (g x u)),
)
follows_bind n (Moved bytes p) q k l h g = (bind h.0 l, ap (λ r. bind r l) h.1, follows_bind n p h.0 k l h.2 g)

-- the same play, and then plays that follow
pub follows_then : {A B : Type 0} (n : ℕ) (p : Play A) (k l : A → State → Play B) → ((x : A) (s : State) → Follows n (k x s) (l x s)) → Follows n (bind p k) (bind p l)
follows_then n p k l g = follows_bind n p p k l (follows_refl n p) g

pub follows_if : {A : Type 0} (n : ℕ) (b : Bool) (p q r r' : Play A) → Follows n p q → Follows n r r' → Follows n (if b then p else r) (if b then q else r')
follows_if n true p q r r' h g = h
follows_if n false p q r r' h g = g

pub follows_after : (n : ℕ) (flow : Flow) (s : State) (p q : State → Play Flow) → ((t : State) → Follows n (p t) (q t)) → Follows n (after_turn flow s p) (after_turn flow s q)
follows_after n Normal s p q h = h s
follows_after n Continued s p q h = h s
follows_after n Broke s p q h = refl
follows_after n (Returned v) s p q h = refl
follows_after n (Went l) s p q h = refl

pub follows_go : (n : ℕ) (flow : Flow) (s : State) (p q : State → Play Flow) → ((t : State) → Follows n (p t) (q t)) → Follows n (then_go flow s p) (then_go flow s q)
follows_go n Normal s p q h = h s
follows_go n Continued s p q h = refl
follows_go n Broke s p q h = refl
follows_go n (Returned v) s p q h = refl
follows_go n (Went l) s p q h = refl

loop_follows_less : (m n : ℕ) → n ≤ m → (a b : Loop) → LoopFollows m a b → LoopFollows n a b
loop_follows_less m n le a b h = record {
  tests = λ s. follows_less (a.test s) (b.test s) m n le (h.tests s);
  bodies = λ s. follows_less (a.body s) (b.body s) m n le (h.bodies s);
  steps = λ s. follows_less (a.step s) (b.step s) m n le (h.steps s);
}

-- what follows a run of the body
after_body : (turns : ℕ) → Loop → Flow → State → Play Flow
after_body turns loop flow t =
    after_turn flow t (λ u. bind (loop.step u) (λ done w. bind (loop.test w) (λ holds x. if holds then turn_of turns loop x else Done Normal x)))

pub loops_follow : LoopsFollow
unfolding after_body
loops_follow zero zero le a b h s = (Cut s, refl)
loops_follow zero (suc n) le a b h s = (bind (b.body s) (after_body n b), refl)
loops_follow (suc m) zero le a b h s = absurd (omega arith)
loops_follow (suc m) (suc n) le a b h s =
    let less : LoopFollows m a b = loop_follows_less (suc m) m (omega arith) a b h in (
      bind (b.body s) (after_body n b),
      refl,
      follows_bind m (a.body s) (b.body s) (after_body m a) (after_body n b) (less.bodies s) (λ flow t.
          follows_after m flow t (λ u. bind (a.step u) (λ done w. bind (a.test w) (λ holds x. if holds then turn_of m a x else Done Normal x)))
          (λ u. bind (b.step u) (λ done w. bind (b.test w) (λ holds x. if holds then turn_of n b x else Done Normal x))) (λ u.
          follows_bind m (a.step u) (b.step u) (λ done w. bind (a.test w) (λ holds x. if holds then turn_of m a x else Done Normal x))
          (λ done w. bind (b.test w) (λ holds x. if holds then turn_of n b x else Done Normal x)) (less.steps u) (λ done w.
          follows_bind m (a.test w) (b.test w) (λ holds x. if holds then turn_of m a x else Done Normal x) (λ holds x. if holds then turn_of n b x else Done Normal x) (less.tests w) (λ holds x.
          follows_if m holds (turn_of m a x) (turn_of n b x) (Done Normal x) (Done Normal x) (loops_follow m n (omega arith) a b less x) refl)))),
    )

pub tested_loops_follow : TestedLoopsFollow
tested_loops_follow m n le a b h s =
    follows_bind m (a.test s) (b.test s) (λ holds t. if holds then turn_of m a t else Done Normal t) (λ holds t. if holds then turn_of n b t else Done Normal t) (h.tests s) (λ holds t.
    follows_if m holds (turn_of m a t) (turn_of n b t) (Done Normal t) (Done Normal t) (loops_follow m n le a b h t) refl)

-- LASTING

pub lasts_less : {A : Type 0} (p : Play A) (m n : ℕ) → n ≤ m → Lasts m p → Lasts n p
lasts_less p m zero le h = tt
lasts_less p zero (suc n) le h = absurd (omega arith)
lasts_less (Done x s) (suc m) (suc n) le h = tt
lasts_less (Wrong why place s) (suc m) (suc n) le h = tt
lasts_less (NoMeaning place s) (suc m) (suc n) le h = tt
lasts_less (Exit text s) (suc m) (suc n) le h = tt
lasts_less (Cut s) (suc m) (suc n) le h = absurd h
lasts_less (Turn s p) (suc m) (suc n) le h = lasts_less p m n (omega arith) h
lasts_less (Ask call s p) (suc m) (suc n) le h = λ v t. lasts_less (p v t) m n (omega arith) (h v t)
lasts_less (Moved bytes p) (suc m) (suc n) le h = lasts_less p (suc m) (suc n) le h

pub lasts_bind : {A B : Type 0} (p : Play A) (k : A → State → Play B) (n : ℕ) → Lasts n p → ((x : A) (s : State) → Lasts n (k x s)) → Lasts n (bind p k)
lasts_bind p k zero h g = tt
lasts_bind (Done x s) k (suc n) h g = g x s
lasts_bind (Wrong why place s) k (suc n) h g = tt
lasts_bind (NoMeaning place s) k (suc n) h g = tt
lasts_bind (Exit text s) k (suc n) h g = tt
lasts_bind (Cut s) k (suc n) h g = absurd h
lasts_bind (Turn s p) k (suc n) h g = lasts_bind p k n h (λ x t. lasts_less (k x t) (suc n) n (omega arith) (g x t))
lasts_bind (Ask call s p) k (suc n) h g = λ v t. lasts_bind (p v t) k n (h v t) (λ x u. lasts_less (k x u) (suc n) n (omega arith) (g x u))
lasts_bind (Moved bytes p) k (suc n) h g = lasts_bind p k (suc n) h g

pub lasts_if : {A : Type 0} (n : ℕ) (b : Bool) (p q : Play A) → Lasts n p → Lasts n q → Lasts n (if b then p else q)
lasts_if n true p q h g = h
lasts_if n false p q h g = g

pub lasts_done : {A : Type 0} (n : ℕ) (x : A) (s : State) → Lasts n (Done x s)
lasts_done zero x s = tt
lasts_done (suc n) x s = tt

pub lasts_after : (n : ℕ) (flow : Flow) (s : State) (p : State → Play Flow) → ((t : State) → Lasts n (p t)) → Lasts n (after_turn flow s p)
lasts_after n Normal s p h = h s
lasts_after n Continued s p h = h s
lasts_after n Broke s p h = lasts_done n Normal s
lasts_after n (Returned v) s p h = lasts_done n (Returned v) s
lasts_after n (Went l) s p h = lasts_done n (Went l) s

pub lasts_go : (n : ℕ) (flow : Flow) (s : State) (p : State → Play Flow) → ((t : State) → Lasts n (p t)) → Lasts n (then_go flow s p)
lasts_go n Normal s p h = h s
lasts_go n Continued s p h = lasts_done n Continued s
lasts_go n Broke s p h = lasts_done n Broke s
lasts_go n (Returned v) s p h = lasts_done n (Returned v) s
lasts_go n (Went l) s p h = lasts_done n (Went l) s

loop_lasts_less : (m n : ℕ) → n ≤ m → (loop : Loop) → LoopLasts m loop → LoopLasts n loop
loop_lasts_less m n le loop h = record {
  tests = λ s. lasts_less (loop.test s) m n le (h.tests s);
  bodies = λ s. lasts_less (loop.body s) m n le (h.bodies s);
  steps = λ s. lasts_less (loop.step s) m n le (h.steps s);
}

pub loops_last : LoopsLast
unfolding after_body
loops_last zero loop h s = tt
loops_last (suc m) loop h s =
    lasts_bind (loop.body s) (after_body m loop) (suc m) (h.bodies s) (λ flow t.
    lasts_after (suc m) flow t (λ u. bind (loop.step u) (λ done w. bind (loop.test w) (λ holds x. if holds then turn_of m loop x else Done Normal x))) (λ u.
    lasts_bind (loop.step u) (λ done w. bind (loop.test w) (λ holds x. if holds then turn_of m loop x else Done Normal x)) (suc m) (h.steps u) (λ done w.
    lasts_bind (loop.test w) (λ holds x. if holds then turn_of m loop x else Done Normal x) (suc m) (h.tests w) (λ holds x.
    lasts_if (suc m) holds (turn_of m loop x) (Done Normal x) (loops_last m loop (loop_lasts_less (suc m) m (omega arith) loop h) x) tt))))

pub tested_loops_last : TestedLoopsLast
tested_loops_last m loop h s =
    lasts_bind (loop.test s) (λ holds t. if holds then turn_of m loop t else Done Normal t) (suc m) (h.tests s) (λ holds t.
    lasts_if (suc m) holds (turn_of m loop t) (Done Normal t) (loops_last m loop (loop_lasts_less (suc m) m (omega arith) loop h) t) tt)
