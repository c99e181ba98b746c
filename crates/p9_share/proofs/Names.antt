-- Names among others.
use Rattle.std.proofs.Common.{◌≡◌, ℕ, Bool, true, false, ◌&&◌, ◌||◌, List, [], ◌∷◌, ◌++◌, flat_map, bytes_eq, arith, refl, sym, ap, ◌∙◌}
use Rattle.std.proofs.lemmas.Bool.Decides.{nat_tests}
use Rattle.std.specs.Prelude.{◌==◌}
use Rattle.p9_first.specs.Form.{same_name, is_among}
use Rattle.p9_form.specs.declared.file.Statement.{Statement}
use Rattle.p9_form.specs.Sharing.{names_in}

pub same_bytes : (a b : List ℕ) → bytes_eq a b ≡ same_name a b
same_bytes [] [] = refl
same_bytes [] (y ∷ ys) = refl
same_bytes (x ∷ xs) [] = refl
same_bytes (x ∷ xs) (y ∷ ys) = refl

or_assoc : (a b c : Bool) → (a || (b || c)) ≡ ((a || b) || c)
or_assoc true b c = refl
or_assoc false b c = refl

or_false : (a : Bool) → (a || false) ≡ a
or_false true = refl
or_false false = refl

pub among_append : (xs ys : List (List ℕ)) (x : List ℕ) → is_among (xs ++ ys) x ≡ (is_among xs x || is_among ys x)
among_append [] ys x = refl
among_append (y ∷ xs) ys x =
    ap (λ b. same_name x y || b) (among_append xs ys x)
    ∙ or_assoc (same_name x y) (is_among xs x) (is_among ys x)

-- a place and a sum
pub named_three : (place : List ℕ) (xs ys : List (List ℕ)) (x : List ℕ)
    → is_among (place ∷ (xs ++ ys)) x ≡ (is_among (place ∷ []) x || (is_among xs x || is_among ys x))
named_three place xs ys x =
    ap (λ b. same_name x place || b) (among_append xs ys x)
    ∙ ap (λ b. b || (is_among xs x || is_among ys x)) (sym (or_false (same_name x place)))

pub named_first : (s : Statement) (ss : List Statement) (x : List ℕ)
    → is_among (flat_map names_in (s ∷ ss)) x ≡ (is_among (names_in s) x || is_among (flat_map names_in ss) x)
named_first s ss x = among_append (names_in s) (flat_map names_in ss) x

eq_of : (a b : ℕ) → (a == b) ≡ true → a ≡ b
eq_of a b h = grind (arith, nat_tests)

both_left : (a b : Bool) → (a && b) ≡ true → a ≡ true
both_left true b h = refl
both_left false b h = cc

both_right : (a b : Bool) → (a && b) ≡ true → b ≡ true
both_right true b h = h
both_right false b h = cc

pub same_is : (x y : List ℕ) → same_name x y ≡ true → x ≡ y
same_is [] [] h = refl
same_is [] (b ∷ ys) h = cc
same_is (a ∷ xs) [] h = cc
same_is (a ∷ xs) (b ∷ ys) h =
    ap (λ c. c ∷ xs) (eq_of a b (both_left (a == b) (same_name xs ys) h))
    ∙ ap (λ l. b ∷ l) (same_is xs ys (both_right (a == b) (same_name xs ys) h))
