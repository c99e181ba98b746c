-- A map of names after one more is put into it.
use Rattle.std.proofs.Common.{◌≡◌, ℕ, Bool, true, false, List, [], ◌∷◌, length, Option, Some, refl, sym, ap, ◌∙◌, cond}
use Rattle.std.specs.Prelude.{Vec, bytes_eq, if◌then◌else◌, ◌&&◌, ◌==◌}
use Rattle.std.proofs.lemmas.Slice.Eq.{bytes_eq-Decides}
use Rattle.indexmap.specs.IndexMap.{insert_entry}
use Rattle.p9_lang.specs.Names.{same_name}
use Rattle.p9_scopes.specs.declared.newest.Latest.{Latest}
use Rattle.p9_scopes.specs.Newest.{held, older, latest_in, Finds}

abbrev same : {Z : Type 0} → Vec ℕ Z → Vec ℕ Z → Bool
same a b = bytes_eq a.items b.items

replaced : {A : Type 0} (b : Bool) (v w o : Option A) → cond b v o ≡ (if b then v else cond b w o)
replaced true v w o = refl
replaced false v w o = refl

kept : {A : Type 0} (b c : Bool) (v w o : Option A) → (b ≡ true → c ≡ true → ⊥) → cond b w (if c then v else o) ≡ (if c then v else cond b w o)
kept true true v w o h = absurd (h refl refl)
kept true false v w o h = refl
kept false true v w o h = refl
kept false false v w o h = refl

bytes_eq-from : (xs ys : List ℕ) → xs ≡ ys → bytes_eq xs ys ≡ true
bytes_eq-from xs ys e = (bytes_eq-Decides xs ys).1 e

pub bytes_eq-to : (xs ys : List ℕ) → bytes_eq xs ys ≡ true → xs ≡ ys
bytes_eq-to xs ys e = (bytes_eq-Decides xs ys).0 e

absurd_bool : true ≡ false → ⊥
absurd_bool e = cc

inserted : {A Z : Type 0} (e : Vec ℕ Z × A) (es : List (Vec ℕ Z × A)) (k : Vec ℕ Z) (v : A) (q : List ℕ) (b : Bool) → same k e.0 ≡ b →
    held (insert_entry same es k v) q ≡ (if bytes_eq q k.items then Some v else held es q) →
    held (if b then (e.0, v) ∷ es else e ∷ insert_entry same es k v) q ≡ (if bytes_eq q k.items then Some v else held (e ∷ es) q)
inserted e es k v q true h g =
    ap (λ n. cond (bytes_eq q n) (Some v) (held es q)) (sym (bytes_eq-to k.items e.0.items h))
    ∙ replaced (bytes_eq q k.items) (Some v) (Some e.1) (held es q)
    ∙ ap (λ n. (if bytes_eq q k.items then Some v else cond (bytes_eq q n) (Some e.1) (held es q))) (bytes_eq-to k.items e.0.items h)
inserted e es k v q false h g =
    ap (λ o. cond (bytes_eq q e.0.items) (Some e.1) o) g
    ∙ kept (bytes_eq q e.0.items) (bytes_eq q k.items) (Some v) (Some e.1) (held es q)
    (λ m n. absurd_bool (sym (bytes_eq-from k.items e.0.items (sym (bytes_eq-to q k.items n) ∙ bytes_eq-to q e.0.items m)) ∙ h))

pub held-insert : {A Z : Type 0} (es : List (Vec ℕ Z × A)) (k : Vec ℕ Z) (v : A) (q : List ℕ) →
    held (insert_entry same es k v) q ≡ (if bytes_eq q k.items then Some v else held es q)
held-insert [] k v q = refl
held-insert (e ∷ es) k v q = inserted e es k v q (same k e.0) refl (held-insert es k v q)

pub same_bytes : (x y : List ℕ) → same_name x y ≡ bytes_eq x y
same_bytes [] [] = refl
same_bytes [] (b ∷ y) = refl
same_bytes (a ∷ x) [] = refl
same_bytes (a ∷ x) (b ∷ y) = ap (λ v. (a == b) && v) (same_bytes x y)

-- one more name in the list and in the map
pub finds_more : {Z : Type 0} (es after : List (Vec ℕ Z × Latest)) (names : List (List ℕ)) (x : List ℕ) (l : Latest) → Finds es names →
    l ≡ record { at = length names; before = older (held es x) } →
    ((q : List ℕ) → held after q ≡ (if bytes_eq q x then Some l else held es q)) →
    Finds after (x ∷ names)
finds_more es after names x l h e g q = by (bytes_eq q x) refl
  where
    here : bytes_eq q x ≡ true → l ≡ record { at = length names; before = older (latest_in q names) }
    here b =
        e ∙ ap (λ o. record { at = length names; before = older o }) (ap (held es) (sym (bytes_eq-to q x b)) ∙ h q)

    by : (b : Bool) → bytes_eq q x ≡ b → held after q ≡ latest_in q (x ∷ names)
    by true b =
        g q ∙ ap (λ c. if c then Some l else held es q) b ∙ ap (λ m. Some m) (here b)
        ∙ ap (λ c. if c then Some (record { at = length names; before = older (latest_in q names) }) else latest_in q names) (sym (same_bytes q x ∙ b))
    by false b =
        g q ∙ ap (λ c. if c then Some l else held es q) b ∙ h q
        ∙ ap (λ c. if c then Some (record { at = length names; before = older (latest_in q names) }) else latest_in q names) (sym (same_bytes q x ∙ b))
