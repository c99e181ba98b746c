-- Plays one after the other, and plays that do the same for some turns.
use Rattle.std.proofs.Common.{◌≡◌, ◌≤◌, ℕ, zero, suc, Bool, true, false, if◌then◌else◌, refl, sym, ap, subst, arith}
use Rattle.p9_first.specs.Cells.{State}
use Rattle.p9_first.specs.Plays.{Play, Done, Wrong, Exit, Cut, Turn, Ask, Moved, bind, Flow, Normal, Broke, Continued, Returned, Went, after_turn, then_go, loop}
use Rattle.p9_first.specs.PlayLaws.{BindIsAssociative, Follows, LoopsFollow, Lasts, LoopsLast}

pub bind_assoc : {A B C : Type 0} (p : Play A) (k : A → State → Play B) (l : B → State → Play C) → bind (bind p k) l ≡ bind p (λ x s. bind (k x s) l)
bind_assoc (Done x s) k l = refl
bind_assoc (Wrong why place s) k l = refl
bind_assoc (Exit text s) k l = refl
bind_assoc (Cut s) k l = refl
bind_assoc (Turn s p) k l = ap (Turn s) (bind_assoc p k l)
bind_assoc (Ask call s p) k l = λ i. Ask call s (λ v t. bind_assoc (p v t) k l i)
bind_assoc (Moved bytes p) k l = ap (Moved bytes) (bind_assoc p k l)

pub bind_is_associative : (A B C : Type 0) → BindIsAssociative A B C
bind_is_associative A B C p k l = bind_assoc p k l

pub follows_refl : {A : Type 0} (n : ℕ) (p : Play A) → Follows n p p
follows_refl n (Done x s) = refl
follows_refl n (Wrong why place s) = refl
follows_refl n (Exit text s) = refl
follows_refl n (Cut s) = refl
follows_refl zero (Turn s p) = (p, refl)
follows_refl (suc n) (Turn s p) = (p, refl, follows_refl n p)
follows_refl zero (Ask call s p) = (p, refl)
follows_refl (suc n) (Ask call s p) = (p, refl, λ v t. follows_refl n (p v t))
follows_refl n (Moved bytes p) = (p, refl, follows_refl n p)

pub follows_less : {A : Type 0} (p q : Play A) (m n : ℕ) → n ≤ m → Follows m p q → Follows n p q
follows_less (Done x s) q m n le h = h
follows_less (Wrong why place s) q m n le h = h
follows_less (Exit text s) q m n le h = h
follows_less (Cut s) q m n le h = h
follows_less (Turn s p) q zero zero le h = h
follows_less (Turn s p) q zero (suc n) le h = absurd (omega arith)
follows_less (Turn s p) q (suc m) zero le h = (h.0, h.1)
follows_less (Turn s p) q (suc m) (suc n) le h = (h.0, h.1, follows_less p h.0 m n (omega arith) h.2)
follows_less (Ask call s p) q zero zero le h = h
follows_less (Ask call s p) q zero (suc n) le h = absurd (omega arith)
follows_less (Ask call s p) q (suc m) zero le h = (h.0, h.1)
follows_less (Ask call s p) q (suc m) (suc n) le h = (h.0, h.1, λ v t. follows_less (p v t) (h.0 v t) m n (omega arith) (h.2 v t))
follows_less (Moved bytes p) q m n le h = (h.0, h.1, follows_less p h.0 m n le h.2)

pub follows_bind : {A B : Type 0} (n : ℕ) (p q : Play A) (k l : A → State → Play B) → Follows n p q → ((x : A) (s : State) → Follows n (k x s) (l x s)) → Follows n (bind p k) (bind q l)
follows_bind n (Done x s) q k l h g = subst (λ r. Follows n (k x s) (bind r l)) (sym h) (g x s)
follows_bind n (Wrong why place s) q k l h g = ap (λ r. bind r l) h
follows_bind n (Exit text s) q k l h g = ap (λ r. bind r l) h
follows_bind n (Cut s) q k l h g = ap (λ r. bind r l) h
follows_bind zero (Turn s p) q k l h g = (bind h.0 l, ap (λ r. bind r l) h.1)
follows_bind (suc n) (Turn s p) q k l h g =
    (bind h.0 l, ap (λ r. bind r l) h.1, follows_bind n p h.0 k l h.2 (λ x t. follows_less (k x t) (l x t) (suc n) n (omega arith) (g x t)))
follows_bind zero (Ask call s p) q k l h g = (λ v t. bind (h.0 v t) l, ap (λ r. bind r l) h.1)
follows_bind (suc n) (Ask call s p) q k l h g = (
  λ v t. bind (h.0 v t) l,
  ap (λ r. bind r l) h.1,
  λ v t. follows_bind n (p v t) (h.0 v t) k l (h.2 v t) (λ x u. follows_less (k x u) (l x u) (suc n) n (omega arith) (g x u)),
)
follows_bind n (Moved bytes p) q k l h g = (bind h.0 l, ap (λ r. bind r l) h.1, follows_bind n p h.0 k l h.2 g)

pub follows_if : {A : Type 0} (n : ℕ) (b : Bool) (p q r : Play A) → Follows n p q → Follows n (if b then p else r) (if b then q else r)
follows_if n true p q r h = h
follows_if n false p q r h = follows_refl n r

pub follows_after : (n : ℕ) (flow : Flow) (s : State) (p q : State → Play Flow) → ((t : State) → Follows n (p t) (q t)) → Follows n (after_turn flow s p) (after_turn flow s q)
follows_after n Normal s p q h = h s
follows_after n Continued s p q h = h s
follows_after n Broke s p q h = refl
follows_after n (Returned v) s p q h = refl
follows_after n (Went l) s p q h = refl

pub follows_then : (n : ℕ) (flow : Flow) (s : State) (p q : State → Play Flow) → ((t : State) → Follows n (p t) (q t)) → Follows n (then_go flow s p) (then_go flow s q)
follows_then n Normal s p q h = h s
follows_then n Continued s p q h = refl
follows_then n Broke s p q h = refl
follows_then n (Returned v) s p q h = refl
follows_then n (Went l) s p q h = refl

pub loops_follow : LoopsFollow
loops_follow zero zero le test test' body body' ht hb s =
    follows_bind zero (test s) (test' s) (λ holds t. if holds then Turn t (Cut t) else Done Normal t) (λ holds t. if holds then Turn t (Cut t) else Done Normal t) (ht s) (λ holds t. follows_refl zero (if holds then Turn t (Cut t) else Done Normal t))
loops_follow zero (suc n) le test test' body body' ht hb s =
    follows_bind zero (test s) (test' s) (λ holds t. if holds then Turn t (Cut t) else Done Normal t) (λ holds t. if holds then Turn t (bind (body' t) (λ flow u. after_turn flow u (loop n test' body'))) else Done Normal t) (ht s) (λ holds t. follows_if zero holds (Turn t (Cut t)) (Turn t (bind (body' t) (λ flow u. after_turn flow u (loop n test' body')))) (Done Normal t) (bind (body' t) (λ flow u. after_turn flow u (loop n test' body')), refl))
loops_follow (suc m) zero le test test' body body' ht hb s = absurd (omega arith)
loops_follow (suc m) (suc n) le test test' body body' ht hb s =
    follows_bind (suc m) (test s) (test' s)
    (λ holds t. if holds then Turn t (bind (body t) (λ flow u. after_turn flow u (loop m test body))) else Done Normal t)
    (λ holds t. if holds then Turn t (bind (body' t) (λ flow u. after_turn flow u (loop n test' body'))) else Done Normal t)
    (ht s) (λ holds t.
    follows_if (suc m) holds (Turn t (bind (body t) (λ flow u. after_turn flow u (loop m test body)))) (Turn t (bind (body' t) (λ flow u. after_turn flow u (loop n test' body')))) (Done Normal t) (
      bind (body' t) (λ flow u. after_turn flow u (loop n test' body')),
      refl,
      follows_bind m (body t) (body' t) (λ flow u. after_turn flow u (loop m test body)) (λ flow u. after_turn flow u (loop n test' body')) (follows_less (body t) (body' t) (suc m) m (omega arith) (hb t))
          (λ flow u. follows_after m flow u (loop m test body) (loop n test' body') (loops_follow m n (omega arith) test test' body body'
          (λ x. follows_less (test x) (test' x) (suc m) m (omega arith) (ht x))
          (λ x. follows_less (body x) (body' x) (suc m) m (omega arith) (hb x)))),
    ))

-- Plays that last

pub lasts_less : {A : Type 0} (p : Play A) (m n : ℕ) → n ≤ m → Lasts m p → Lasts n p
lasts_less p m zero le h = tt
lasts_less p zero (suc n) le h = absurd (omega arith)
lasts_less (Done x s) (suc m) (suc n) le h = tt
lasts_less (Wrong why place s) (suc m) (suc n) le h = tt
lasts_less (Exit text s) (suc m) (suc n) le h = tt
lasts_less (Cut s) (suc m) (suc n) le h = absurd h
lasts_less (Turn s p) (suc m) (suc n) le h = lasts_less p m n (omega arith) h
lasts_less (Ask call s p) (suc m) (suc n) le h = λ v t. lasts_less (p v t) m n (omega arith) (h v t)
lasts_less (Moved bytes p) (suc m) (suc n) le h = lasts_less p (suc m) (suc n) le h

pub lasts_bind : {A B : Type 0} (p : Play A) (k : A → State → Play B) (n : ℕ) → Lasts n p → ((x : A) (s : State) → Lasts n (k x s)) → Lasts n (bind p k)
lasts_bind p k zero h g = tt
lasts_bind (Done x s) k (suc n) h g = g x s
lasts_bind (Wrong why place s) k (suc n) h g = tt
lasts_bind (Exit text s) k (suc n) h g = tt
lasts_bind (Cut s) k (suc n) h g = absurd h
lasts_bind (Turn s p) k (suc n) h g = lasts_bind p k n h (λ x t. lasts_less (k x t) (suc n) n (omega arith) (g x t))
lasts_bind (Ask call s p) k (suc n) h g = λ v t. lasts_bind (p v t) k n (h v t) (λ x u. lasts_less (k x u) (suc n) n (omega arith) (g x u))
lasts_bind (Moved bytes p) k (suc n) h g = lasts_bind p k (suc n) h g

lasts_if : {A : Type 0} (n : ℕ) (b : Bool) (p q : Play A) → Lasts n p → Lasts n q → Lasts n (if b then p else q)
lasts_if n true p q h g = h
lasts_if n false p q h g = g

lasts_done : {A : Type 0} (n : ℕ) (x : A) (s : State) → Lasts n (Done x s)
lasts_done zero x s = tt
lasts_done (suc n) x s = tt

lasts_after : (n : ℕ) (flow : Flow) (s : State) (p : State → Play Flow) → ((t : State) → Lasts n (p t)) → Lasts n (after_turn flow s p)
lasts_after n Normal s p h = h s
lasts_after n Continued s p h = h s
lasts_after n Broke s p h = lasts_done n Normal s
lasts_after n (Returned v) s p h = lasts_done n (Returned v) s
lasts_after n (Went l) s p h = lasts_done n (Went l) s

pub loops_last : LoopsLast
loops_last zero test body ht hb s =
    lasts_bind (test s) (λ holds t. if holds then Turn t (Cut t) else Done Normal t) 1 (ht s) (λ holds t. lasts_if 1 holds (Turn t (Cut t)) (Done Normal t) tt tt)
loops_last (suc m) test body ht hb s =
    lasts_bind (test s) (λ holds t. if holds then Turn t (bind (body t) (λ flow u. after_turn flow u (loop m test body))) else Done Normal t) (suc (suc m)) (ht s) (λ holds t.
    lasts_if (suc (suc m)) holds (Turn t (bind (body t) (λ flow u. after_turn flow u (loop m test body)))) (Done Normal t)
    (lasts_bind (body t) (λ flow u. after_turn flow u (loop m test body)) (suc m) (lasts_less (body t) (suc (suc m)) (suc m) (omega arith) (hb t)) (λ flow u.
    lasts_after (suc m) flow u (loop m test body) (loops_last m test body
    (λ x. lasts_less (test x) (suc (suc m)) (suc m) (omega arith) (ht x))
    (λ x. lasts_less (body x) (suc (suc m)) (suc m) (omega arith) (hb x)))))
    tt)
