-- Names that were met.
use Rattle.std.proofs.Common.{◌≡◌, ℕ, ◌==◌, ◌||◌, Bool, true, false, List, [], ◌∷◌, ◌++◌, refl, ap, ◌∙◌}
use Rattle.std.proofs.lemmas.Bool.{eqb-true, eq-eqb, and_parts, and_from, or_left, or_right}
use Rattle.p9_lang.specs.Names.{same_name, is_among}

pub same_is : (x y : List ℕ) → same_name x y ≡ true → x ≡ y
same_is [] [] e = refl
same_is [] (b ∷ y) e = cc
same_is (a ∷ x) [] e = cc
same_is (a ∷ x) (b ∷ y) e =
    let p = and_parts (a == b) (same_name x y) e in
    ap (λ c. c ∷ x) (eqb-true a b p.0) ∙ ap (λ l. b ∷ l) (same_is x y p.1)

pub same_self : (x : List ℕ) → same_name x x ≡ true
same_self [] = refl
same_self (a ∷ x) = and_from (a == a) (same_name x x) (eq-eqb a a refl) (same_self x)

-- all that were met are still met
abbrev pub Grows : List (List ℕ) → List (List ℕ) → Type 0
Grows met later = (x : List ℕ) → is_among met x ≡ true → is_among later x ≡ true

pub grows_on : (a b c : List (List ℕ)) → Grows a b → Grows b c → Grows a c
grows_on a b c g h x m = h x (g x m)

pub meets : (met : List (List ℕ)) (y : List ℕ) → Grows met (met ++ y ∷ [])
meets [] y x m = cc
meets (z ∷ met) y x m = by (same_name x z) (meets met y x) m
  where
    by : (b : Bool) → (is_among met x ≡ true → is_among (met ++ y ∷ []) x ≡ true) → (b || is_among met x) ≡ true
        → (b || is_among (met ++ y ∷ []) x) ≡ true
    by true h m = refl
    by false h m = h m

pub met_now : (met : List (List ℕ)) (y : List ℕ) → is_among (met ++ y ∷ []) y ≡ true
met_now [] y = or_left (same_name y y) false (same_self y)
met_now (z ∷ met) y = or_right (same_name y z) (is_among (met ++ y ∷ []) y) (met_now met y)
