-- Sets of names after one more is added.
use Rattle.std.proofs.Common.{◌≡◌, ℕ, Bool, true, false, ◌||◌, List, [], ◌∷◌, ◌++◌, refl, sym, ap, ◌∙◌}
use Rattle.std.specs.Prelude.{if◌then◌else◌, bytes_eq}
use Rattle.std.specs.List.{list_any}
use Rattle.std.specs.Borrow.{Bor}
use Rattle.std.specs.Cmp.Lexicographic.{bytes_decides}
use Rattle.indexmap.specs.IndexSet.{insert_key}
use Rattle.p9_lang.specs.declared.tree.Kind.{Kind}
use Rattle.p9_lang.specs.Names.{same_name, is_among}
use Rattle.p9_lang.specs.Trees.{node, none, more}
use Rattle.p9_lang.specs.Modules.{Label, TypedRow}
use Rattle.p9_lang.specs.Symbols.{use_at, uses_in_row}
use Rattle.p9_outline.specs.Held.{has_name}
use Rattle.p9_numbering.proofs.Noting.{same_bytes}

or_assoc : (a b c : Bool) → (a || b) || c ≡ a || (b || c)
or_assoc true b c = refl
or_assoc false b c = refl

pub or_false : (b : Bool) → b ≡ b || false
or_false true = refl
or_false false = refl

has_behind : (ks : List (Bor (List ℕ))) (k : Bor (List ℕ)) (q : List ℕ) → has_name (ks ++ k ∷ []) q ≡ has_name ks q || bytes_eq q k.now
has_behind [] k q = sym (or_false (bytes_eq q k.now))
has_behind (x ∷ ks) k q = ap (λ b. bytes_eq q x.now || b) (has_behind ks k q) ∙ sym (or_assoc (bytes_eq q x.now) (has_name ks q) (bytes_eq q k.now))

-- one that is there already
has_already : (ks : List (Bor (List ℕ))) (k : Bor (List ℕ)) (q : List ℕ) → has_name ks k.now ≡ true → has_name ks q ≡ has_name ks q || bytes_eq q k.now
has_already ks k q h = by (bytes_eq q k.now) refl
  where
    by : (b : Bool) → bytes_eq q k.now ≡ b → has_name ks q ≡ has_name ks q || b
    by false e = or_false (has_name ks q)
    by true e =
        let t : has_name ks q ≡ true = ap (has_name ks) ((bytes_decides q k.now).0 e) ∙ h in
        t ∙ sym (ap (λ b. b || true) t)

same_any : (eq : Bor (List ℕ) → Bor (List ℕ) → Bool) → ((x y : Bor (List ℕ)) → eq x y ≡ bytes_eq x.now y.now)
    → (k : Bor (List ℕ)) (ks : List (Bor (List ℕ))) → list_any (eq k) ks ≡ has_name ks k.now
same_any eq same k [] = refl
same_any eq same k (x ∷ ks) = ap (λ b. b || list_any (eq k) ks) (same k x) ∙ ap (λ b. bytes_eq k.now x.now || b) (same_any eq same k ks)

pub name_added : (eq : Bor (List ℕ) → Bor (List ℕ) → Bool) → ((x y : Bor (List ℕ)) → eq x y ≡ bytes_eq x.now y.now)
    → (ks later : List (Bor (List ℕ))) (k : Bor (List ℕ)) → later ≡ insert_key eq ks k
    → (q : List ℕ) → has_name later q ≡ has_name ks q || same_name q k.now
name_added eq same ks later k e q =
    ap (λ l. has_name l q) e ∙ by (has_name ks k.now) (same_any eq same k ks) refl ∙ ap (λ b. has_name ks q || b) (sym (same_bytes q k.now))
  where
    by : (b : Bool) → list_any (eq k) ks ≡ has_name ks k.now → has_name ks k.now ≡ b
        → has_name (if list_any (eq k) ks then ks else ks ++ k ∷ []) q ≡ has_name ks q || bytes_eq q k.now
    by true h g = ap (λ c. has_name (if c then ks else ks ++ k ∷ []) q) (h ∙ g) ∙ has_already ks k q g
    by false h g = ap (λ c. has_name (if c then ks else ks ++ k ∷ []) q) (h ∙ g) ∙ has_behind ks k q

-- names that are gone through

pub among_append : (xs ys : List (List ℕ)) (q : List ℕ) → is_among (xs ++ ys) q ≡ is_among xs q || is_among ys q
among_append [] ys q = refl
among_append (x ∷ xs) ys q = ap (λ b. same_name q x || b) (among_append xs ys q) ∙ sym (or_assoc (same_name q x) (is_among xs q) (is_among ys q))

pub name_passed : (rest after : List (List ℕ)) (x : List ℕ) (q : List ℕ) (old new all : Bool) → rest ≡ x ∷ after → new ≡ old || same_name q x
    → old || is_among rest q ≡ all → new || is_among after q ≡ all
name_passed rest after x q old new all e h g =
    ap (λ b. b || is_among after q) h ∙ or_assoc old (same_name q x) (is_among after q) ∙ ap (λ l. old || is_among l q) (sym e) ∙ g

pub none_left : (rest : List (List ℕ)) (q : List ℕ) (old all : Bool) → rest ≡ [] → old || is_among rest q ≡ all → old ≡ all
none_left rest q old all e g = or_false old ∙ ap (λ l. old || is_among l q) (sym e) ∙ g

-- the names of a node, behind those of its parts
pub node_used : (row others parts : TypedRow) (k : Kind) (label : Label) (q : List ℕ) (old inner new all : Bool)
    → row ≡ more (node k label parts) others → inner ≡ old || is_among (uses_in_row parts) q
    → new ≡ inner || is_among (use_at k label.means) q → old || is_among (uses_in_row row) q ≡ all
    → new || is_among (uses_in_row others) q ≡ all
node_used row others parts k label q old inner new all e h g f =
    ap (λ b. b || is_among (uses_in_row others) q) (g ∙ ap (λ b. b || is_among (use_at k label.means) q) h ∙ or_assoc old _ _
    ∙ ap (λ b. old || b) (sym (among_append (uses_in_row parts) (use_at k label.means) q)))
    ∙ or_assoc old _ _
    ∙ ap (λ b. old || b) (sym (among_append (uses_in_row parts ++ use_at k label.means) (uses_in_row others) q))
    ∙ ap (λ r. old || is_among (uses_in_row r) q) (sym e) ∙ f

pub none_used : (row : TypedRow) (q : List ℕ) (old all : Bool) → row ≡ none → old || is_among (uses_in_row row) q ≡ all → old ≡ all
none_used row q old all e g = or_false old ∙ ap (λ r. old || is_among (uses_in_row r) q) (sym e) ∙ g
