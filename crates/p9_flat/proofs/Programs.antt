-- The table of a program names the program's functions.
use Rattle.std.proofs.Common.{◌≡◌, ℕ, List, [], Option, Some, None, refl, sym, ap, subst, ◌∙◌}
use Rattle.p9_lang.specs.Layout.{on_some}
use Rattle.p9_cmean.specs.Cells.{FunctionName, State}
use Rattle.p9_cmean.specs.Plays.{Call}
use Rattle.p9_cmean.specs.Union.{FunctionEntry, Union}
use Rattle.p9_cmean.specs.CRun.{Callee, Defined, NoCallee, callee, surroundings, callee_body, callee_need, functions_of}
use Rattle.p9_cmean.specs.CRun as callees
use Rattle.p9_cmean.specs.Statements.{function_body}
use Rattle.p9_cmean.proofs.Fitting.{bodies_last}
use Rattle.p9_flat.specs.declared.op.Op.{Op}
use Rattle.p9_flat.specs.Code.{Numbers}
use Rattle.p9_flat.specs.Flat.{HasAt, function_code, parameter_sizes}
use Rattle.p9_flat.specs.Laws.{AreNamed, PlaysFrom}
use Rattle.p9_flat.specs.Machine.{need_of, EntryIs}
use Rattle.p9_flat.specs.Program.{defined_entry, callee_entry, ProgramsHaveTables}
use Rattle.p9_flat.specs.Step.{Names, received}
use Rattle.p9_flat.proofs.Whole.{code_is_right}

defined_need : (pc : ℕ) (entry : FunctionEntry) (o : Option (List ℕ)) → entry.need ≡ need_of (defined_entry pc entry o)
defined_need pc entry None = refl
defined_need pc entry (Some sizes) = refl

need_is : (pc : ℕ) (c : Callee) → callee_need c ≡ need_of (callee_entry pc c)
need_is pc (callees.System system) = refl
need_is pc (Defined entry) = defined_need pc entry (parameter_sizes entry.tags entry.definition.name.type)
need_is pc NoCallee = refl

module _ (union : Union) (names : Names) (code : List Op) (name : FunctionName) where
  -- the body of what is called by this name
  body_is : (c : Callee) → callee union name ≡ c → (turns : ℕ) (call : Call) (s : State) → call.function ≡ name
      → (functions_of union).body turns call s ≡ callee_body union turns c call s
  body_is c e turns call s same =
      ap (λ f. callee_body union turns (callee union f) call s) same ∙ ap (λ d. callee_body union turns d call s) e

  defined_is : (numbers : Numbers) (pc : ℕ) (entry : FunctionEntry) → callee union name ≡ Defined entry
      → AreNamed names numbers (surroundings union entry.owner entry.tags)
      → HasAt code pc (function_code numbers (surroundings union entry.owner entry.tags) pc entry.definition)
      → (o : Option (List ℕ)) → parameter_sizes entry.tags entry.definition.name.type ≡ o
      → EntryIs names code (functions_of union) name (defined_entry pc entry o)
  defined_is numbers pc entry e named stands None sizes = λ turns call s same.
      body_is (Defined entry) e turns call s same
      ∙ subst (λ o. PlaysFrom names code [] pc entry.owner (on_some o (λ l. received l call.arguments)) call s
      (function_body turns (surroundings union entry.owner entry.tags) entry.definition call s)) sizes
      (code_is_right names numbers (surroundings union entry.owner entry.tags) named code pc entry.definition stands turns call s [])
  defined_is numbers pc entry e named stands (Some l) sizes = λ turns call s same. (
    bodies_last union turns call s,
    λ below. subst (λ p. PlaysFrom names code below pc entry.owner (received l call.arguments) call s p) (sym (body_is (Defined entry) e turns call s same))
        (subst (λ o. PlaysFrom names code below pc entry.owner (on_some o (λ k. received k call.arguments)) call s
        (function_body turns (surroundings union entry.owner entry.tags) entry.definition call s)) sizes
        (code_is_right names numbers (surroundings union entry.owner entry.tags) named code pc entry.definition stands turns call s below)),
  )

  entry_is : (numbers : ℕ → Numbers) (pc : ℕ)
      → ((entry : FunctionEntry) → callee union name ≡ Defined entry → AreNamed names (numbers entry.owner) (surroundings union entry.owner entry.tags))
      → ((entry : FunctionEntry) → callee union name ≡ Defined entry
      → HasAt code pc (function_code (numbers entry.owner) (surroundings union entry.owner entry.tags) pc entry.definition))
      → (c : Callee) → callee union name ≡ c → EntryIs names code (functions_of union) name (callee_entry pc c)
  entry_is numbers pc named stands (callees.System system) e = λ turns call s same. body_is (callees.System system) e turns call s same
  entry_is numbers pc named stands (Defined entry) e =
      defined_is (numbers entry.owner) pc entry e (named entry e) (stands entry e) (parameter_sizes entry.tags entry.definition.name.type) refl
  entry_is numbers pc named stands NoCallee e = λ turns call s same. body_is NoCallee e turns call s same

pub programs_have_tables : ProgramsHaveTables
programs_have_tables union names numbers code place h = record {
  needs = λ name. need_is (place name) (callee union name);
  entries = λ name. entry_is union names code name numbers (place name) (h.named name) (h.stands name) (callee union name) refl;
}
