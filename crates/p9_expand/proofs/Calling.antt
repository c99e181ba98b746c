-- Functions by a table of names and numbers are those of the modules.
use Rattle.std.proofs.Common.{ℕ, ◌≡◌, Option, Some, None, List, cond, refl, ap, ◌∙◌}
use Rattle.std.specs.Prelude.{option_and_then}
use mathlib.Core.Path.{fun_ext}
use Rattle.p9_abs.specs.declared.modules.AModule.{AModule}
use Rattle.p9_abs.specs.declared.modules.Def.{Def}
use Rattle.p9_abs.specs.declared.modules.Symbol.{Symbol}
use Rattle.p9_abs.specs.Names.{symbol_at}
use Rattle.p9_abs.specs.BuiltIn.{linked}
use Rattle.p9_abs.specs.Programs.{stands_for, definition_of, routines_of}
use Rattle.p9_names.specs.Linking.{IsTable, ChoosesAll}
use Rattle.p9_place.proofs.Owning.{held-chosen}
use Rattle.p9_text.specs.Entries.{entry_number}
use Rattle.p9_pieces.specs.Callees.{callee_in, named_by, callee_by}

named-same : (ms : List AModule) (table : List (List ℕ × Def)) (d : Def) (s : Symbol) → IsTable ms table → ChoosesAll ms table → named_by table d s ≡ stands_for ms d s
named-same ms table d s is chooses = ap (λ o. cond s.local (Some d) o) (held-chosen ms table s.name is chooses)

and-then-same : {A B : Type 0} (f g : A → Option B) → ((a : A) → f a ≡ g a) → (o : Option A) → option_and_then f o ≡ option_and_then g o
and-then-same f g h None = refl
and-then-same f g h (Some a) = h a

callee-same : (modules seen : List AModule) (table : List (List ℕ × Def)) (numbers : Def → Option ℕ) (unit symbol : ℕ) →
    seen ≡ linked modules → IsTable (linked modules) table → ChoosesAll (linked modules) table →
    ((d : Def) → numbers d ≡ entry_number (routines_of modules) 0 d) →
    callee_by seen table numbers unit symbol ≡ callee_in modules unit symbol
callee-same modules seen table numbers unit symbol e is chooses h =
    let d : Def = record { «module» = unit; symbol = symbol } in
    ap (λ ms. option_and_then numbers (option_and_then (named_by table d) (symbol_at ms d))) e
    ∙ ap (λ o. option_and_then numbers o) (and-then-same (named_by table d) (stands_for (linked modules) d) (λ s. named-same (linked modules) table d s is chooses) (symbol_at (linked modules) d))
    ∙ and-then-same numbers (entry_number (routines_of modules) 0) h (definition_of (linked modules) d)

pub callees_same : (modules seen : List AModule) (table : List (List ℕ × Def)) (numbers : Def → Option ℕ) →
    seen ≡ linked modules → IsTable (linked modules) table → ChoosesAll (linked modules) table →
    ((d : Def) → numbers d ≡ entry_number (routines_of modules) 0 d) →
    callee_by seen table numbers ≡ callee_in modules
callees_same modules seen table numbers e is chooses h =
    fun_ext (λ unit. fun_ext (λ symbol. callee-same modules seen table numbers unit symbol e is chooses h))
