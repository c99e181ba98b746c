-- The code of statements and functions.
use Rattle.std.specs.Prelude.{◌≡◌, ℕ, suc, ◌+◌, Bool, true, false, if◌then◌else◌, List, [], ◌∷◌, ◌++◌, length, map, Option, Some, None, slice_get}
use Rattle.p9_lang.specs.declared.tree.Kind.TheVariants as kind
use Rattle.p9_lang.specs.Types.{TypeTree, Function, Tags, row_types}
use Rattle.p9_lang.specs.Trees.{node, none, more}
use Rattle.p9_lang.specs.Layout.{size_of}
use Rattle.p9_lang.specs.Constants.{Constant, NotConstant, Undefined, constant_of}
use Rattle.p9_lang.specs.Constants as constants
use Rattle.p9_lang.specs.Modules.{Typed, TypedRow}
use Rattle.p9_cmean.specs.Automatics.{Declared}
use Rattle.p9_cmean.specs.Declarations.{Automatic, declared_by, declared_in, declaration_of, Definition}
use Rattle.p9_cmean.specs.Expressions.{Surroundings, operand_type, conversion_of}
use Rattle.p9_cmean.specs.Statements.{is_default, parameters_from}
use Rattle.p9_flat.specs.declared.op.Op.{Op}
use Rattle.p9_flat.specs.declared.op.Op.TheVariants as op
use Rattle.p9_flat.specs.declared.op.Scalar.TheVariants as scalar
use Rattle.p9_flat.specs.Resolved.{tests}
use Rattle.p9_flat.specs.Code.{Numbers, Slot, Setting, behind, lacks, lacks_of, meant_code, convert_code, assign_code, choice_code, value_code}

-- where a statement goes on that does not end by going on; at `returned` a value is at the top
pub record Ends : Type 0 where
  pub broke : ℕ
  pub continued : ℕ
  pub returned : ℕ

-- INITIALISERS

abbrev pub initial_code : Setting → (pc : ℕ) → Automatic → List Op
initial_code setting pc a = by a.initialiser
  where
    by : Option Typed → List Op
    by None = []
    by (Some e) =
        behind pc (meant_code setting a.name.type a.name.means a.name.number) (λ m. value_code setting m e
        ++ (assign_code setting.around a.name.number e a.name.type ++ op.Pop ∷ []))

abbrev pub initials_code : Setting → (pc : ℕ) → List Automatic → List Op
initials_code setting pc [] = []
initials_code setting pc (a ∷ others) = behind pc (initial_code setting pc a) (λ m. initials_code setting m others)

-- BLOCKS

abbrev pub slots : (number : ℕ) → List Declared → List Slot
slots number [] = []
slots number (d ∷ ds) = record { automatic = d.number; number = number } ∷ slots (suc number) ds

abbrev pub within : Setting → List Declared → Setting
within setting ds = record setting { scope = slots setting.alive ds ++ setting.scope; alive = setting.alive + length ds }

abbrev pub makes : Tags → List Declared → List Op
makes tags [] = []
makes tags (d ∷ ds) = op.Make (size_of tags d.type) ∷ makes tags ds

-- where a block's automatics die, however it is left
abbrev pub exits : Ends → (alive : ℕ) → List Op
exits ends alive =
    op.Leave alive ∷ op.Jump ends.broke ∷ op.Leave alive ∷ op.Jump ends.continued ∷ op.Leave alive ∷ op.Jump ends.returned ∷ []

abbrev pub ends_at : (pc : ℕ) → Ends
ends_at pc = record { broke = pc; continued = suc (suc pc); returned = suc (suc (suc (suc pc))) }

-- how many operations stand at a block's exits
abbrev pub body_at : (pc : ℕ) → ℕ
body_at pc = suc (suc (suc (suc (suc (suc pc)))))

abbrev pub left_body : Setting → Ends → (pc : ℕ) → (body : List Op) → List Op
left_body setting ends pc body = op.Jump (body_at (suc pc)) ∷ (exits ends setting.alive ++ (body ++ op.Leave setting.alive ∷ []))

abbrev pub block_code : Setting → Ends → (pc : ℕ) → List Declared → (Setting → Ends → ℕ → List Op) → List Op
block_code setting ends pc [] body = body setting ends pc
block_code setting ends pc (d ∷ ds) body =
    behind pc (makes setting.around.tags (d ∷ ds)) (λ m.
    left_body setting ends m (body (within setting (d ∷ ds)) (ends_at (suc m)) (body_at (suc m))))

-- TESTS, LOOPS AND SWITCHES

abbrev pub branch_code : Option Bool → (here otherwise : ℕ) → List Op
branch_code None here otherwise = lacks_of here
branch_code (Some of_pointer) here otherwise = op.Branch of_pointer here otherwise ∷ []

-- a statement behind a test
abbrev pub guarded : (of_pointer : Bool) → (here pc : ℕ) → List Op → List Op
guarded of_pointer here pc first = op.Branch of_pointer here (suc pc + length first) ∷ first

abbrev pub if_code : Option Bool → (here pc : ℕ) → (ℕ → List Op) → List Op
if_code None here pc first = lacks_of here
if_code (Some of_pointer) here pc first = guarded of_pointer here pc (first (suc pc))

abbrev pub condition_code : Setting → (here otherwise pc : ℕ) → Typed → List Op
condition_code setting here otherwise pc e = value_code setting pc e ++ branch_code (tests (operand_type e)) here otherwise

abbrev pub effect_code : Setting → (pc : ℕ) → Typed → List Op
effect_code setting pc e = value_code setting pc e ++ op.Pop ∷ []

abbrev pub no_code : ℕ → List Op
no_code pc = []

-- A loop: to its test, or to its turn; out of it; its step; its test; and a turn.
abbrev pub turning : (tested : Bool) → (pc : ℕ) → (step test body : List Op) → List Op
turning tested pc step test body =
    op.Jump (if tested then suc (suc pc) + length step else suc (suc pc) + length step + length test)
    ∷ op.Jump (suc (suc (suc (suc pc) + length step + length test + length body)))
    ∷ (step ++ (test ++ (op.Turn ∷ (body ++ op.Jump (suc (suc pc)) ∷ []))))

abbrev pub turning_from : (tested : Bool) → (pc : ℕ) → (step test : List Op) → (ℕ → List Op) → List Op
turning_from tested pc step test body = turning tested pc step test (body (suc (suc (suc pc) + length step + length test)))

abbrev pub loop_code : (tested : Bool) → (pc : ℕ) → (step test body : ℕ → List Op) → List Op
loop_code tested pc step test body =
    turning_from tested pc (step (suc (suc pc))) (test (suc (suc pc) + length (step (suc (suc pc))))) body

abbrev pub in_loop : (pc : ℕ) → Ends → Ends
in_loop pc ends = record ends { broke = suc pc; continued = suc (suc pc) }

abbrev pub case_code : Constant → (to : ℕ) → List Op
case_code NotConstant to = []
case_code Undefined to = []
case_code (constants.Value n) to = op.Case n to ∷ []
case_code constants.Null to = []

abbrev pub label_code : Tags → (to : ℕ) → Typed → List Op
label_code tags to (node kind.Case label (more constant none)) = case_code (constant_of tags constant) to
label_code tags to other = []

-- A switch: its labels stand behind its arms. It is entered at its value, which is at the top.
abbrev pub switching : (here pc : ℕ) → (arms labels : List Op) → (otherwise : ℕ) → List Op
switching here pc arms labels otherwise =
    op.Narrow scalar.Word here
    ∷ op.Jump (suc (suc (suc (suc pc)) + length arms))
    ∷ op.Jump (suc (suc (suc (suc (suc (suc pc)) + length arms) + length labels)))
    ∷ (arms ++ (op.Jump (suc (suc pc)) ∷ (labels ++ op.Pop ∷ op.Jump otherwise ∷ [])))

-- STATEMENTS

abbrev mutual
  pub statement_code : Setting → Ends → (pc : ℕ) → Typed → List Op
  statement_code setting ends pc (node kind.Block label parts) =
      block_code setting ends pc (map declaration_of (declared_in parts)) (λ inner outs m. statements_code inner outs m parts)
  statement_code setting ends pc (node (kind.Declaration spec inits) label parts) =
      initials_code setting pc (declared_by (node (kind.Declaration spec inits) label parts))
  statement_code setting ends pc (node kind.Expression label none) = []
  statement_code setting ends pc (node kind.Expression label (more e none)) = effect_code setting pc e
  statement_code setting ends pc (node kind.If label (more test (more first none))) =
      behind pc (value_code setting pc test) (λ m. if_code (tests (operand_type test)) label.number m
      (λ n. statement_code setting ends n first))
  statement_code setting ends pc (node kind.If label (more test (more first (more second none)))) =
      behind pc (value_code setting pc test) (λ m. choice_code (tests (operand_type test)) label.number m
      (λ n. statement_code setting ends n first) (λ n. statement_code setting ends n second))
  statement_code setting ends pc (node kind.While label (more test (more body none))) =
      loop_code true pc no_code (λ m. condition_code setting label.number (suc pc) m test)
      (λ m. statement_code setting (in_loop pc ends) m body)
  statement_code setting ends pc (node kind.Do label (more body (more test none))) =
      loop_code false pc no_code (λ m. condition_code setting label.number (suc pc) m test)
      (λ m. statement_code setting (in_loop pc ends) m body)
  statement_code setting ends pc (node (kind.For true test step) label (more first others)) =
      behind pc (effect_code setting pc first) (λ m. for_code setting ends label.number test step m others)
  statement_code setting ends pc (node (kind.For false test step) label others) =
      for_code setting ends label.number test step pc others
  statement_code setting ends pc (node kind.Switch label (more e arms)) =
      behind pc (value_code setting pc e) (λ m. switching label.number m
      (statements_code setting (record ends { broke = suc (suc m) }) (suc (suc (suc m))) arms)
      (labels_code setting (record ends { broke = suc (suc m) }) (suc (suc (suc m))) arms)
      (default_at setting (record ends { broke = suc (suc m) }) (suc (suc (suc m))) (suc (suc m)) arms))
  statement_code setting ends pc (node kind.Case label (more constant none)) = []
  statement_code setting ends pc (node kind.Default label none) = []
  statement_code setting ends pc (node kind.Break label none) = op.Jump ends.broke ∷ []
  statement_code setting ends pc (node kind.Continue label none) = op.Jump ends.continued ∷ []
  statement_code setting ends pc (node kind.Return label none) = op.Nothing ∷ op.Jump ends.returned ∷ []
  statement_code setting ends pc (node kind.Return label (more e none)) =
      value_code setting pc e ++ (convert_code (conversion_of setting.around e setting.around.result) setting.around.result label.number
      ++ op.Jump ends.returned ∷ [])
  statement_code setting ends pc (node k label parts) = lacks label.number

  pub statements_code : Setting → Ends → (pc : ℕ) → TypedRow → List Op
  statements_code setting ends pc none = []
  statements_code setting ends pc (more first others) =
      behind pc (statement_code setting ends pc first) (λ m. statements_code setting ends m others)

  -- the labels of a switch, whose arms stand from a place on
  pub labels_code : Setting → Ends → (pc : ℕ) → TypedRow → List Op
  labels_code setting ends pc none = []
  labels_code setting ends pc (more first others) =
      label_code setting.around.tags pc first
      ++ labels_code setting ends (pc + length (statement_code setting ends pc first)) others

  pub default_at : Setting → Ends → (pc otherwise : ℕ) → TypedRow → ℕ
  default_at setting ends pc otherwise none = otherwise
  default_at setting ends pc otherwise (more first others) =
      if is_default first then pc
      else default_at setting ends (pc + length (statement_code setting ends pc first)) otherwise others

  -- `for` behind its first part
  pub for_code : Setting → Ends → (here : ℕ) → (test step : Bool) → (pc : ℕ) → TypedRow → List Op
  for_code setting ends here true true pc (more test (more step (more body none))) =
      loop_code true pc (λ m. effect_code setting m step) (λ m. condition_code setting here (suc pc) m test)
      (λ m. statement_code setting (in_loop pc ends) m body)
  for_code setting ends here true false pc (more test (more body none)) =
      loop_code true pc no_code (λ m. condition_code setting here (suc pc) m test)
      (λ m. statement_code setting (in_loop pc ends) m body)
  for_code setting ends here false true pc (more step (more body none)) =
      loop_code true pc (λ m. effect_code setting m step) no_code (λ m. statement_code setting (in_loop pc ends) m body)
  for_code setting ends here false false pc (more body none) =
      loop_code true pc no_code no_code (λ m. statement_code setting (in_loop pc ends) m body)
  for_code setting ends here test step pc others = lacks here

-- FUNCTIONS: in front of a function's body stands how it is left

abbrev pub function_ends : (pc : ℕ) → Ends
function_ends pc = record { broke = suc (suc pc); continued = suc (suc pc); returned = pc }

-- where a function is entered
abbrev pub entry_at : (pc : ℕ) → ℕ
entry_at pc = suc (suc (suc (suc pc)))

abbrev pub body_code : Setting → (pc : ℕ) → (block : Typed) → List Op
body_code setting pc block =
    op.Leave 0 ∷ op.Return ∷ op.Leave 0 ∷ op.Stray
    ∷ (statement_code setting (function_ends pc) (entry_at pc) block ++ op.Nothing ∷ op.Jump pc ∷ [])

-- parameters are the first automatics
abbrev pub function_setting : Numbers → Surroundings → (result : TypeTree) → (parameters : List TypeTree) → Setting
function_setting numbers around result parameters =
    within (record { around = record around { result = result }; numbers = numbers; scope = []; alive = 0 }) (parameters_from 0 parameters)

-- what is no function has no code
abbrev pub function_code : Numbers → Surroundings → (pc : ℕ) → Definition → List Op
function_code numbers around pc definition = by definition.name.type
  where
    by : TypeTree → List Op
    by (Function result parameters) = body_code (function_setting numbers around result (row_types parameters)) pc definition.block
    by type = []

-- the sizes of a function's parameters
abbrev pub parameter_sizes : Tags → TypeTree → Option (List ℕ)
parameter_sizes tags (Function result parameters) = Some (map (size_of tags) (row_types parameters))
parameter_sizes tags type = None

-- the list stands in the code from a place on
abbrev pub HasAt : List Op → ℕ → List Op → Type 0
HasAt all pc [] = Unit {0}
HasAt all pc (o ∷ os) = (slice_get all pc ≡ Some o) × HasAt all (suc pc) os
