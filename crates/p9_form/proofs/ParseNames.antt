-- Names in the order in which they are declared, and the newest first.
use Rattle.std.proofs.Common.{◌≡◌, ℕ, Bool, true, false, ◌||◌, List, [], ◌∷◌, ◌++◌, reverse, refl, ap, ◌∙◌, sym, cond}
use Rattle.std.specs.List.{list_any}
use Rattle.std.specs.Str.{bytes_eq}
use Rattle.std.proofs.lemmas.List.{reverse-append}
use Rattle.indexmap.specs.IndexSet.{insert_key}
use Rattle.p9_first.specs.Form.{is_among}
use Rattle.p9_form.proofs.ParseSteps.{same_bytes}

or_append : (p : List ℕ → Bool) (xs ys : List (List ℕ)) → list_any p (xs ++ ys) ≡ (list_any p xs || list_any p ys)
or_append p [] ys = refl
or_append p (x ∷ xs) ys = by (p x) (or_append p xs ys)
  where
    by : (b : Bool) → list_any p (xs ++ ys) ≡ (list_any p xs || list_any p ys) → (b || list_any p (xs ++ ys)) ≡ ((b || list_any p xs) || list_any p ys)
    by true h = refl
    by false h = h

or_turned : (a b : Bool) → (a || (b || false)) ≡ (b || a)
or_turned true true = refl
or_turned true false = refl
or_turned false true = refl
or_turned false false = refl

reverse_more : (x : List ℕ) (xs : List (List ℕ)) → reverse (x ∷ xs) ≡ reverse xs ++ x ∷ []
reverse_more x xs = reverse-append (x ∷ []) xs

any_reversed : (p : List ℕ → Bool) (xs : List (List ℕ)) → list_any p (reverse xs) ≡ list_any p xs
any_reversed p [] = refl
any_reversed p (x ∷ xs) =
    ap (list_any p) (reverse_more x xs)
    ∙ or_append p (reverse xs) (x ∷ [])
    ∙ or_turned (list_any p (reverse xs)) (p x)
    ∙ ap (λ b. p x || b) (any_reversed p xs)

among_by : (names : List (List ℕ)) (x : List ℕ) → is_among names x ≡ list_any (bytes_eq x) names
among_by [] x = refl
among_by (y ∷ names) x = ap (λ b. b || is_among names x) (same_bytes x y) ∙ ap (λ b. bytes_eq x y || b) (among_by names x)

pub among_reversed : (names : List (List ℕ)) (x : List ℕ) → list_any (bytes_eq x) names ≡ is_among (reverse names) x
among_reversed names x = sym (any_reversed (bytes_eq x) names) ∙ sym (among_by (reverse names) x)

pub added : (names more : List (List ℕ)) (x : List ℕ) → more ≡ insert_key bytes_eq names x → is_among (reverse names) x ≡ false → reverse more ≡ x ∷ reverse names
added names more x h new =
    let absent : list_any (bytes_eq x) names ≡ false = among_reversed names x ∙ new in
    ap reverse (h ∙ ap (λ b. cond b names (names ++ x ∷ [])) absent) ∙ reverse-append names (x ∷ [])
