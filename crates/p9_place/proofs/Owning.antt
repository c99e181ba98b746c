-- The table gives each name the definition that it stands for, so the common objects by the table are those of the run.
use Rattle.std.proofs.Common.{ℕ, ◌≡◌, ◌==◌, ◌&&◌, Bool, true, false, Option, Some, None, IsSome, List, [], ◌∷◌, cond, refl, sym, ap, ◌∙◌, subst, All, bytes_eq, arith}
use Rattle.std.specs.Prelude.{filter}
use Rattle.std.specs.Map.{lookup}
use Rattle.std.specs.Cmp.Lexicographic.{bytes_decides}
use Rattle.std.proofs.lemmas.List.Elements.{All-head, All-tail}
use Rattle.std.proofs.lemmas.Option.{none-some, same_Some}
use Rattle.std.proofs.lemmas.Bool.Decides.{nat_tests}
use Rattle.p9_abs.specs.declared.modules.AModule.{AModule}
use Rattle.p9_abs.specs.declared.modules.Def.{Def}
use Rattle.p9_abs.specs.declared.modules.Symbol.{Symbol}
use Rattle.p9_abs.specs.Programs.{Numbered, chosen, same_def, is_its_own, stands_for, is_common_body, is_bss}
use Rattle.p9_abs.proofs.Choosing.{chosen_is_chosen}
use Rattle.p9_names.specs.Linking.{IsTable, ChoosesAll}
use Rattle.p9_place.specs.Objects.{is_own, is_object}

-- what is looked up is an entry
looked-up : (P : List ℕ × Def → Type 0) (name : List ℕ) (entries : List (List ℕ × Def)) (d : Def) → All P entries →
    lookup (bytes_eq name) entries ≡ Some d → P (name, d)
looked-up P name [] d all h = absurd (none-some d h)
looked-up P name (e ∷ es) d all h = by (bytes_eq name e.0) refl h (looked-up P name es d (All-tail P e es all))
  where
    by : (b : Bool) → bytes_eq name e.0 ≡ b → cond b (Some e.1) (lookup (bytes_eq name) es) ≡ Some d → (lookup (bytes_eq name) es ≡ Some d → P (name, d)) → P (name, d)
    by true t g rest =
        let key : name ≡ e.0 = (bytes_decides name e.0).0 t in
        let value : e.1 ≡ d = same_Some e.1 d g in
        subst (λ (v : Def). P (name, v)) value (subst (λ (k : List ℕ). P (k, e.1)) (sym key) (All-head P e es all))
    by false t g rest = rest g

pub held-chosen : (ms : List AModule) (entries : List (List ℕ × Def)) (name : List ℕ) → IsTable ms entries → ChoosesAll ms entries →
    lookup (bytes_eq name) entries ≡ chosen ms name
held-chosen ms entries name table chooses = by (lookup (bytes_eq name) entries) refl (chosen ms name) refl
  where
    by : (held : Option Def) → lookup (bytes_eq name) entries ≡ held → (own : Option Def) → chosen ms name ≡ own → held ≡ own
    by (Some d) h own e = sym (looked-up (λ entry. chosen ms entry.0 ≡ Some entry.1) name entries d chooses h) ∙ e
    by None h None e = refl
    by None h (Some d) e =
        let there : IsSome (lookup (bytes_eq name) entries) = table.complete name d (chosen_is_chosen ms name d e).defines in
        absurd (let none : IsSome {T = Def} None = subst (λ (o : Option Def). IsSome o) h there in cc none)

eqb-same : (n : ℕ) → (n == n) ≡ true
eqb-same n = grind (arith, nat_tests)

same_def-same : (d : Def) → same_def d d ≡ true
same_def-same d = ap (λ b. b && (d.symbol == d.symbol)) (eqb-same d.«module») ∙ eqb-same d.symbol

own-same : (ms : List AModule) (entries : List (List ℕ × Def)) (d : Def) (s : Symbol) → IsTable ms entries → ChoosesAll ms entries →
    is_own entries d s ≡ is_its_own d (stands_for ms d s)
own-same ms entries d s table chooses = by s.local
  where
    by : (b : Bool) → (cond b true (is_its_own d (lookup (bytes_eq s.name) entries))) ≡ is_its_own d (cond b (Some d) (chosen ms s.name))
    by true = sym (same_def-same d)
    by false = ap (is_its_own d) (held-chosen ms entries s.name table chooses)

object-same : (ms : List AModule) (entries : List (List ℕ × Def)) (r : Numbered) → IsTable ms entries → ChoosesAll ms entries →
    is_object entries r ≡ is_bss ms r
object-same ms entries r table chooses = ap (λ b. is_common_body r.symbol.body && b) (own-same ms entries r.def r.symbol table chooses)

filter-same : (p q : Numbered → Bool) → ((r : Numbered) → p r ≡ q r) → (rs : List Numbered) → filter p rs ≡ filter q rs
filter-same p q h [] = refl
filter-same p q h (r ∷ rs) =
    ap (λ b. cond b (r ∷ filter p rs) (filter p rs)) (h r) ∙ ap (λ l. cond (q r) (r ∷ l) l) (filter-same p q h rs)

-- the common objects by a table are those of the run
pub commons-same : (ms : List AModule) (entries : List (List ℕ × Def)) (rs : List Numbered) → IsTable ms entries → ChoosesAll ms entries →
    filter (is_object entries) rs ≡ filter (is_bss ms) rs
commons-same ms entries rs table chooses =
    filter-same (is_object entries) (is_bss ms) (λ r. object-same ms entries r table chooses) rs
