-- A map of names after one more is put into it.
use Rattle.std.proofs.Common.{◌≡◌, ℕ, Bool, true, false, List, [], ◌∷◌, Option, Some, refl, sym, ap, ◌∙◌, cond, inl, inr}
use Rattle.std.specs.Prelude.{Vec, bytes_eq, if◌then◌else◌, unwrap_or, ◌⊎◌}
use Rattle.std.proofs.lemmas.Slice.Eq.{bytes_eq-Decides}
use Rattle.indexmap.specs.IndexMap.{insert_entry}
use Rattle.p9_grammar.specs.declared.scope.ScopeName.{ScopeName}
use Rattle.p9_grammar.specs.Scopes.{is_type_in}
use Rattle.p9_tree_build.specs.Names.{held, Knows}

abbrev same : {Z : Type 0} → Vec ℕ Z → Vec ℕ Z → Bool
same a b = bytes_eq a.items b.items

true_or_false : (b : Bool) → (b ≡ true) ⊎ (b ≡ false)
true_or_false true = inl refl
true_or_false false = inr refl

replaced : (b : Bool) (v w o : Option Bool) → cond b v o ≡ (if b then v else cond b w o)
replaced true v w o = refl
replaced false v w o = refl

kept : (b c : Bool) (v w o : Option Bool) → (b ≡ true → c ≡ true → ⊥) → cond b w (if c then v else o) ≡ (if c then v else cond b w o)
kept true true v w o h = absurd (h refl refl)
kept true false v w o h = refl
kept false true v w o h = refl
kept false false v w o h = refl

bytes_eq-from : (xs ys : List ℕ) → xs ≡ ys → bytes_eq xs ys ≡ true
bytes_eq-from xs ys e = (bytes_eq-Decides xs ys).1 e

bytes_eq-to : (xs ys : List ℕ) → bytes_eq xs ys ≡ true → xs ≡ ys
bytes_eq-to xs ys e = (bytes_eq-Decides xs ys).0 e

absurd_bool : true ≡ false → ⊥
absurd_bool e = cc

inserted : {Z : Type 0} (e : Vec ℕ Z × Bool) (es : List (Vec ℕ Z × Bool)) (k : Vec ℕ Z) (v : Bool) (q : List ℕ) (b : Bool) → same k e.0 ≡ b →
    held (insert_entry same es k v) q ≡ (if bytes_eq q k.items then Some v else held es q) →
    held (if b then (e.0, v) ∷ es else e ∷ insert_entry same es k v) q ≡ (if bytes_eq q k.items then Some v else held (e ∷ es) q)
inserted e es k v q true h g =
    ap (λ n. cond (bytes_eq q n) (Some v) (held es q)) (sym (bytes_eq-to k.items e.0.items h))
    ∙ replaced (bytes_eq q k.items) (Some v) (Some e.1) (held es q)
    ∙ ap (λ n. (if bytes_eq q k.items then Some v else cond (bytes_eq q n) (Some e.1) (held es q))) (bytes_eq-to k.items e.0.items h)
inserted e es k v q false h g =
    ap (λ o. cond (bytes_eq q e.0.items) (Some e.1) o) g
    ∙ kept (bytes_eq q e.0.items) (bytes_eq q k.items) (Some v) (Some e.1) (held es q)
    (λ m n. absurd_bool (sym (bytes_eq-from k.items e.0.items (sym (bytes_eq-to q k.items n) ∙ bytes_eq-to q e.0.items m)) ∙ h))

pub held-insert : {Z : Type 0} (es : List (Vec ℕ Z × Bool)) (k : Vec ℕ Z) (v : Bool) (q : List ℕ) →
    held (insert_entry same es k v) q ≡ (if bytes_eq q k.items then Some v else held es q)
held-insert [] k v q = refl
held-insert (e ∷ es) k v q = inserted e es k v q (same k e.0) refl (held-insert es k v q)

turned_by : (a b : Bool) (xs ys : List ℕ) → bytes_eq xs ys ≡ a → bytes_eq ys xs ≡ b → a ≡ b
turned_by true true xs ys p q = refl
turned_by false false xs ys p q = refl
turned_by true false xs ys p q = absurd (absurd_bool (sym (bytes_eq-from ys xs (sym (bytes_eq-to xs ys p))) ∙ q))
turned_by false true xs ys p q = absurd (absurd_bool (sym (bytes_eq-from xs ys (sym (bytes_eq-to ys xs q))) ∙ p))

turned : (xs ys : List ℕ) → bytes_eq xs ys ≡ bytes_eq ys xs
turned xs ys = turned_by (bytes_eq xs ys) (bytes_eq ys xs) xs ys refl refl

chosen : (b : Bool) (v w : Bool) (o : Option Bool) (outside : Bool) → w ≡ unwrap_or o outside →
    (if b then v else w) ≡ unwrap_or (if b then Some v else o) outside
chosen true v w o outside e = refl
chosen false v w o outside e = e

-- one more name in the list and in the map
pub knows-more : {Z : Type 0} (es after : List (Vec ℕ Z × Bool)) (names : List ScopeName) (x : List ℕ) (v : Bool) → Knows es names →
    ((q : List ℕ) → held after q ≡ (if bytes_eq q x then Some v else held es q)) →
    Knows after (record { name = x; is_type = v } ∷ names)
knows-more es after names x v h g q outside =
    chosen (bytes_eq x q) v (is_type_in names q outside) (held es q) outside (h q outside)
    ∙ ap (λ b. unwrap_or (if b then Some v else held es q) outside) (turned x q)
    ∙ ap (λ o. unwrap_or o outside) (sym (g q))
