-- What is marked is in the order, also after one more mark or one more number.
use Rattle.std.proofs.Common.{ℕ, zero, suc, ◌==◌, ◌≡◌, ◌≢◌, ◌⊎◌, inl, inr, ◌<◌, Bool, true, false, refl, sym, ap, ◌∙◌, subst, arith, List, Contains, slice_index_or, slice_set, replicate}
use Rattle.std.proofs.lemmas.Bool.{false≢true}
use Rattle.std.proofs.lemmas.Bool.Decides.{eqb_tells}
use Rattle.std.proofs.lemmas.List.{get_or-set_other}
use Rattle.p9_flow.specs.Columns.{AreNamed}

unmarked : (n k : ℕ) → slice_index_or (replicate n false) k false ≡ false
unmarked zero k = refl
unmarked (suc n) zero = refl
unmarked (suc n) (suc k) = unmarked n k

pub named-none : (n : ℕ) (placed : List Bool) (order : List ℕ) → placed ≡ replicate n false → AreNamed placed order
unfolding AreNamed
named-none n placed order e k h = absurd (false≢true (sym (ap (λ z. slice_index_or z k false) e ∙ unmarked n k) ∙ h))

pub named-more : (placed after : List Bool) (order : List ℕ) (i : ℕ) → after ≡ slice_set placed i true → Contains order i → AreNamed placed order → AreNamed after order
unfolding AreNamed
named-more placed after order i e c named k h = by (eqb_tells k i)
  where
    by : (((k == i) ≡ true) × (k ≡ i)) ⊎ (((k == i) ≡ false) × (k ≢ i)) → Contains order k
    by (inl t) = subst (Contains order) (sym t.1) c
    by (inr t) = named k (sym (ap (λ z. slice_index_or z k false) e ∙ get_or-set_other placed i k true false t.1) ∙ h)

pub named-at : (placed : List Bool) (order : List ℕ) (k : ℕ) → AreNamed placed order → slice_index_or placed k false ≡ true → Contains order k
unfolding AreNamed
named-at placed order k named h = named k h

pub named-kept : (placed same : List Bool) (order after : List ℕ) → same ≡ placed → ((k : ℕ) → Contains order k → Contains after k) → AreNamed placed order → AreNamed same after
unfolding AreNamed
named-kept placed same order after e kept named k h = kept k (named k (ap (λ z. slice_index_or z k false) (sym e) ∙ h))

pub each-more : (order after : List ℕ) (i : ℕ) → ((k : ℕ) → Contains order k → Contains after k) → Contains after i → ((k : ℕ) → k < i → Contains order k) → (k : ℕ) → k < suc i → Contains after k
each-more order after i kept here below k l = by (eqb_tells k i)
  where
    by : (((k == i) ≡ true) × (k ≡ i)) ⊎ (((k == i) ≡ false) × (k ≢ i)) → Contains after k
    by (inl t) = subst (Contains after) (sym t.1) here
    by (inr t) = kept k (below k (omega (arith, l, t.1)))
