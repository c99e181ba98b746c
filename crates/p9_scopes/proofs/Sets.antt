-- Names in a set.
use Rattle.std.proofs.Common.{◌≡◌, ℕ, ◌||◌, Bool, true, false, List, [], ◌∷◌, ◌++◌, refl, sym, ap, ◌∙◌}
use Rattle.std.specs.Prelude.{if◌then◌else◌, bytes_eq}
use Rattle.std.specs.List.{list_any}
use Rattle.std.proofs.lemmas.List.Folds.{list_any-append}
use Rattle.p9_lang.specs.Names.{same_name, is_among}
use Rattle.p9_scopes.proofs.Held.{same_bytes, bytes_eq-to}

or_false : (b : Bool) → (b || false) ≡ b
or_false true = refl
or_false false = refl

or_true : (b : Bool) → (b || true) ≡ true
or_true true = refl
or_true false = refl

pub has_more : (ks : List (List ℕ)) (k q : List ℕ) (b : Bool) → is_among ks k ≡ b
    → is_among (if b then ks else ks ++ k ∷ []) q ≡ (is_among ks q || same_name q k)
has_more ks k q false e = list_any-append (same_name q) ks (k ∷ []) ∙ ap (λ c. is_among ks q || c) (or_false (same_name q k))
has_more ks k q true e = by (same_name q k) refl
  where
    by : (c : Bool) → same_name q k ≡ c → is_among ks q ≡ (is_among ks q || c)
    by false h = sym (or_false (is_among ks q))
    by true h = ap (is_among ks) (bytes_eq-to q k (sym (same_bytes q k) ∙ h)) ∙ e ∙ sym (or_true (is_among ks q))

pub among_bytes : (names : List (List ℕ)) (x : List ℕ) → list_any (bytes_eq x) names ≡ is_among names x
among_bytes [] x = refl
among_bytes (y ∷ names) x = ap (λ b. b || list_any (bytes_eq x) names) (sym (same_bytes x y)) ∙ ap (λ b. same_name x y || b) (among_bytes names x)

-- one more in a list and in a set
pub has_same_more : (ks later list : List (List ℕ)) (k : List ℕ) → ((q : List ℕ) → is_among ks q ≡ is_among list q)
    → ((q : List ℕ) → is_among later q ≡ (is_among ks q || same_name q k)) → (q : List ℕ) → is_among later q ≡ is_among (list ++ k ∷ []) q
has_same_more ks later list k h g q =
    g q ∙ ap (λ b. b || same_name q k) (h q) ∙ ap (λ c. is_among list q || c) (sym (or_false (same_name q k)))
    ∙ sym (list_any-append (same_name q) list (k ∷ []))
