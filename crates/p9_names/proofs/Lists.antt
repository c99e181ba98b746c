-- Lists of places in order: members, the first that passes a test, and what stands before what.
use Rattle.std.proofs.Common.{zero, suc, ◌≡◌, ℕ, ◌<◌, ◌⊎◌, inl, inr, Bool, true, false, cond, List, [], ◌∷◌, ◌++◌, Some, None, find, slice_get, slice_index_or, length, refl, sym, ap, subst, ◌∙◌, arith, true≢false}
use Rattle.p9_abs.specs.declared.modules.Def.{Def}
use Rattle.p9_abs.specs.Names.{IsBefore, IsNotAfter}

pub before-trans : (a b c : Def) → IsBefore a b → IsBefore b c → IsBefore a c
before-trans a b c (inl p) (inl q) = inl (omega arith)
before-trans a b c (inl p) (inr q) = inl (omega arith)
before-trans a b c (inr p) (inl q) = inl (omega arith)
before-trans a b c (inr p) (inr q) = inr (omega arith, omega arith)

pub before-irrefl : (a : Def) → IsBefore a a → ⊥
before-irrefl a (inl p) = omega arith
before-irrefl a (inr p) = omega arith

pub not_after-trans : (a b c : Def) → IsNotAfter a b → IsBefore b c → IsBefore a c
not_after-trans a b c (inl e) q = let P : Def → Type 0 = λ x. IsBefore x c in subst P (sym e) q
not_after-trans a b c (inr p) q = before-trans a b c p q

-- members

abbrev pub Among : {X : Type 0} → List X → X → Type 0
Among [] d = ⊥
Among (x ∷ xs) d = (d ≡ x) ⊎ Among xs d

pub among-push : {X : Type 0} (xs : List X) (x y : X) → Among xs y → Among (xs ++ x ∷ []) y
among-push [] x y h = absurd h
among-push (z ∷ xs) x y (inl e) = inl e
among-push (z ∷ xs) x y (inr h) = inr (among-push xs x y h)

pub among-last : {X : Type 0} (xs : List X) (x : X) → Among (xs ++ x ∷ []) x
among-last [] x = inl refl
among-last (z ∷ xs) x = inr (among-last xs x)

pub among-split : {X : Type 0} (xs ys : List X) (d : X) → Among (xs ++ ys) d → Among xs d ⊎ Among ys d
among-split [] ys d h = inr h
among-split (x ∷ xs) ys d (inl e) = inl (inl e)
among-split (x ∷ xs) ys d (inr h) = elim (among-split xs ys d h) [ inl p ↦ inl (inr p) | inr q ↦ inr q ]

pub among-left : {X : Type 0} (xs ys : List X) (d : X) → Among xs d → Among (xs ++ ys) d
among-left [] ys d h = absurd h
among-left (x ∷ xs) ys d (inl e) = inl e
among-left (x ∷ xs) ys d (inr h) = inr (among-left xs ys d h)

pub among-right : {X : Type 0} (xs ys : List X) (d : X) → Among ys d → Among (xs ++ ys) d
among-right [] ys d h = h
among-right (x ∷ xs) ys d h = inr (among-right xs ys d h)

pub among-pushed : {X : Type 0} (xs : List X) (x d : X) → Among (xs ++ x ∷ []) d → Among xs d ⊎ (d ≡ x)
among-pushed xs x d h = elim (among-split xs (x ∷ []) d h) [ inl p ↦ inl p | inr q ↦ elim q [ inl e ↦ inr e | inr n ↦ absurd n ] ]

-- the place at an index

pub slice_get-some : {X : Type 0} (xs : List X) (i : ℕ) (s : X) → slice_get xs i ≡ Some s → (i < length xs) × ((d : X) → slice_index_or xs i d ≡ s)
slice_get-some [] i s h = cc
slice_get-some (x ∷ xs) zero s h = (omega arith, λ d. cc)
slice_get-some (x ∷ xs) (suc i) s h = let rest = slice_get-some xs i s h in (omega (arith, rest.0), rest.1)

-- places in order

abbrev pub Sorted : List Def → Type 0
Sorted [] = Unit {0}
Sorted (x ∷ xs) = ((y : Def) → Among xs y → IsBefore x y) × Sorted xs

pub sorted-append : (xs ys : List Def) → Sorted xs → Sorted ys → ((x y : Def) → Among xs x → Among ys y → IsBefore x y) → Sorted (xs ++ ys)
sorted-append [] ys s t h = t
sorted-append (x ∷ xs) ys s t h = (
  λ y m. elim (among-split xs ys y m) [ inl p ↦ s.0 y p | inr q ↦ h x y (inl refl) q ],
  sorted-append xs ys s.1 t (λ a b p q. h a b (inr p) q),
)

pub sorted-apart : (xs ys : List Def) → Sorted (xs ++ ys) → (x y : Def) → Among xs x → Among ys y → IsBefore x y
sorted-apart [] ys s x y p q = absurd p
sorted-apart (z ∷ xs) ys s x y (inl e) q = let P : Def → Type 0 = λ v. IsBefore v y in subst P (sym e) (s.0 y (among-right xs ys y q))
sorted-apart (z ∷ xs) ys s x y (inr p) q = sorted-apart xs ys s.1 x y p q

pub sorted-right : (xs ys : List Def) → Sorted (xs ++ ys) → Sorted ys
sorted-right [] ys s = s
sorted-right (x ∷ xs) ys s = sorted-right xs ys s.1

pub sorted-left : (xs ys : List Def) → Sorted (xs ++ ys) → Sorted xs
sorted-left [] ys s = tt
sorted-left (x ∷ xs) ys s = (λ y m. s.0 y (among-left xs ys y m), sorted-left xs ys s.1)

-- two members are the same, or one is before the other
pub sorted-total : (xs : List Def) → Sorted xs → (x y : Def) → Among xs x → Among xs y → (x ≡ y) ⊎ (IsBefore x y ⊎ IsBefore y x)
sorted-total [] s x y p q = absurd p
sorted-total (z ∷ xs) s x y (inl e) (inl f) = inl (e ∙ sym f)
sorted-total (z ∷ xs) s x y (inl e) (inr q) = let P : Def → Type 0 = λ v. IsBefore v y in inr (inl (subst P (sym e) (s.0 y q)))
sorted-total (z ∷ xs) s x y (inr p) (inl f) = let P : Def → Type 0 = λ v. IsBefore v x in inr (inr (subst P (sym f) (s.0 x p)))
sorted-total (z ∷ xs) s x y (inr p) (inr q) = sorted-total xs s.1 x y p q

-- the first member that passes

pub find-some : (test : Def → Bool) (xs : List Def) (d : Def) → find test xs ≡ Some d → Among xs d × (test d ≡ true)
find-some test [] d h = cc
find-some test (x ∷ xs) d h = by (test x) refl h (find-some test xs d)
  where
    by : (b : Bool) → test x ≡ b → cond b (Some x) (find test xs) ≡ Some d → (find test xs ≡ Some d → Among xs d × (test d ≡ true)) → Among (x ∷ xs) d × (test d ≡ true)
    by true e g rest = let same : d ≡ x = cc in (inl same, ap test same ∙ e)
    by false e g rest = let r = rest g in (inr r.0, r.1)

pub find-none : (test : Def → Bool) (xs : List Def) → find test xs ≡ None → (d : Def) → Among xs d → test d ≡ false
find-none test [] h d m = absurd m
find-none test (x ∷ xs) h d m = by (test x) refl h m (find-none test xs)
  where
    by : (b : Bool) → test x ≡ b → cond b (Some x) (find test xs) ≡ None → Among (x ∷ xs) d → (find test xs ≡ None → (e : Def) → Among xs e → test e ≡ false) → test d ≡ false
    by true e g m rest = cc
    by false e g (inl same) rest = ap test same ∙ e
    by false e g (inr n) rest = rest g d n

pub find-first : (test : Def → Bool) (xs : List Def) (d : Def) → Sorted xs → find test xs ≡ Some d → (e : Def) → Among xs e → test e ≡ true → IsNotAfter d e
find-first test [] d s h e m t = absurd m
find-first test (x ∷ xs) d s h e m t = by (test x) refl h m (find-first test xs d s.1)
  where
    by : (b : Bool) → test x ≡ b → cond b (Some x) (find test xs) ≡ Some d → Among (x ∷ xs) e → (find test xs ≡ Some d → (f : Def) → Among xs f → test f ≡ true → IsNotAfter d f) → IsNotAfter d e
    by true w g (inl same) rest = inl cc
    by true w g (inr n) rest = let P : Def → Type 0 = λ v. IsBefore v e in let same : x ≡ d = cc in inr (subst P same (s.0 e n))
    by false w g (inl same) rest = absurd (true≢false (sym t ∙ ap test same ∙ w))
    by false w g (inr n) rest = rest g e n t
