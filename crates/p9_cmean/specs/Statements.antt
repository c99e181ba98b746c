-- What statements and the bodies of functions do. A kind of node that has no clause here is no
-- statement.
use Rattle.std.specs.Prelude.{ℕ, zero, suc, ◌==◌, if◌then◌else◌, Bool, true, false, List, [], ◌∷◌, ◌++◌, map, option_map, Option, Some, None, Result, Ok, Err}
use Rattle.p9_lang.specs.declared.tree.Kind.TheVariants as kind
use Rattle.p9_lang.specs.Types.{TypeTree, Function, Tags, row_types}
use Rattle.p9_lang.specs.Trees.{node, none, more}
use Rattle.p9_lang.specs.Layout.{size_of, on_some}
use Rattle.p9_lang.specs.Modules.{Typed, TypedRow}
use Rattle.p9_lang.specs.Constants.{Constant, NotConstant, Undefined, constant_of}
use Rattle.p9_lang.specs.Constants as constants
use Rattle.p9_cmean.specs.declared.Cause.{Cause}
use Rattle.p9_cmean.specs.declared.Place.{Place}
use Rattle.p9_cmean.specs.Cells.{Cell, Object, Value, Address, Missing, State}
use Rattle.p9_cmean.specs.Plays.{Call, Play, Done, NoMeaning, bind, Flow, Normal, Broke, Continued, Returned, Went, then_go, after_switch, Loop, turn_of, tested_loop, no_step}
use Rattle.p9_cmean.specs.Access.{integer_in, value_cells}
use Rattle.p9_cmean.specs.Places.{used, or_wrong, or_no_meaning}
use Rattle.p9_cmean.specs.Automatics.{Declared, Living, live_object, unset_object, numbered, next_object, with_objects, left}
use Rattle.p9_cmean.specs.Declarations.{Automatic, declared_by, declared_in, declaration_of, Definition}
use Rattle.p9_cmean.specs.Expressions.{Surroundings, at, operand_type, pointer_to, convert_at, conversion_of, assign, test_at, value}

-- an expression whose value isn't used
abbrev pub effect : Surroundings → Typed → State → Play (Unit {0})
effect around e s = bind (value around e s) (λ v t. Done tt t)

-- a test of the statement at a place
abbrev pub condition : Surroundings → Place → Typed → State → Play Bool
condition around place e s = bind (value around e s) (λ v t. test_at place (operand_type e) v t)

-- An initialiser is an assignment to its automatic.
abbrev pub initialised : Surroundings → Automatic → State → Play (Unit {0})
initialised around a s = by a.initialiser
  where
    by : Option Typed → Play (Unit {0})
    by None = Done tt s
    by (Some e) =
        or_no_meaning (at around a.name) s (pointer_to around a.name.type a.name.means) (λ p.
        bind (value around e s) (λ v t.
        bind (assign around (at around a.name) e a.name.type (Address p) v t) (λ w u. Done tt u)))

abbrev pub all_initialised : Surroundings → List Automatic → State → Play (Unit {0})
all_initialised around [] s = Done tt s
all_initialised around (a ∷ others) s = bind (initialised around a s) (λ done t. all_initialised around others t)

-- the value of a `return`, as the function's result
abbrev pub returned : Surroundings → Place → Typed → State → Play Flow
returned around place e s =
    bind (value around e s) (λ v t.
    bind (convert_at (conversion_of around e around.result) place around.result v t) (λ w u. Done (Returned (Some w)) u))

-- A block makes its automatics, unset, when it is entered. They die however it is left.

abbrev pub entered : Surroundings → List Declared → State → State
entered around declared s = with_objects (map (unset_object around.tags) declared) s

abbrev pub living_in : List Declared → State → List Living
living_in declared s = numbered (next_object s) (map (λ d. d.number) declared)

abbrev pub inside : Surroundings → List Living → Surroundings
inside around living = record around { automatics = living ++ around.automatics }

abbrev pub in_block : Surroundings → List Declared → (Surroundings → State → Play Flow) → State → Play Flow
in_block around declared body s =
    bind (body (inside around (living_in declared s)) (entered around declared s)) (λ flow t. Done flow (left (living_in declared s) t))

-- LOOPS AND SWITCHES

abbrev pub loop_of : (test : State → Play Bool) → (step : State → Play (Unit {0})) → (body : State → Play Flow) → Loop
loop_of test step body = record { test = test; body = body; step = step }

-- a `for` without a test goes on
abbrev pub always : State → Play Bool
always s = Done true s

abbrev pub is_value : ℕ → Constant → Bool
is_value word NotConstant = false
is_value word Undefined = false
is_value word (constants.Value n) = n == word
is_value word constants.Null = false

abbrev pub is_case_of : Tags → ℕ → Typed → Bool
is_case_of tags word (node kind.Case label (more constant none)) = is_value word (constant_of tags constant)
is_case_of tags word other = false

abbrev pub is_default : Typed → Bool
is_default (node kind.Default label none) = true
is_default other = false

-- how many parts stand before the first that passes
abbrev pub parts_before : (Typed → Bool) → TypedRow → Option ℕ
parts_before passes none = None
parts_before passes (more first others) = if passes first then Some 0 else option_map suc (parts_before passes others)

abbrev pub or_else : Option ℕ → Option ℕ → Option ℕ
or_else (Some n) other = Some n
or_else None other = other

-- a switch is entered at the case with its value, else at its default; without these nothing is run
abbrev pub entry_of : Tags → ℕ → TypedRow → Option ℕ
entry_of tags word arms = or_else (parts_before (is_case_of tags word) arms) (parts_before is_default arms)

abbrev pub run_from : Option ℕ → (ℕ → State → Play Flow) → State → Play Flow
run_from None run s = Done Normal s
run_from (Some skipped) run s = bind (run skipped s) (λ flow t. after_switch flow t)

abbrev pub switched : Place → Value → State → (ℕ → Play Flow) → Play Flow
switched place value s next = used value s (λ v. or_wrong place s (integer_in v) next)

-- STATEMENTS

abbrev mutual
  -- a statement, in which each loop is given so many turns
  pub statement : (turns : ℕ) → Surroundings → Typed → State → Play Flow
  statement turns around (node kind.Block label parts) s =
      in_block around (map declaration_of (declared_in parts)) (λ within. statements turns within parts) s
  statement turns around (node (kind.Declaration spec inits) label parts) s =
      bind (all_initialised around (declared_by (node (kind.Declaration spec inits) label parts)) s) (λ done t. Done Normal t)
  statement turns around (node kind.Expression label none) s = Done Normal s
  statement turns around (node kind.Expression label (more e none)) s = bind (effect around e s) (λ done t. Done Normal t)
  statement turns around (node kind.If label (more test (more first none))) s =
      bind (condition around (at around label) test s) (λ holds t. if holds then statement turns around first t else Done Normal t)
  statement turns around (node kind.If label (more test (more first (more second none)))) s =
      bind (condition around (at around label) test s) (λ holds t.
      if holds then statement turns around first t else statement turns around second t)
  statement turns around (node kind.While label (more test (more body none))) s =
      tested_loop turns (loop_of (condition around (at around label) test) no_step (λ t. statement turns around body t)) s
  statement turns around (node kind.Do label (more body (more test none))) s =
      turn_of turns (loop_of (condition around (at around label) test) no_step (λ t. statement turns around body t)) s
  statement turns around (node (kind.For true test step) label (more first others)) s =
      bind (effect around first s) (λ done t. for_loop turns around (at around label) test step others t)
  statement turns around (node (kind.For false test step) label others) s =
      for_loop turns around (at around label) test step others s
  statement turns around (node kind.Switch label (more e arms)) s =
      bind (value around e s) (λ v t.
      switched (at around label) v t (λ word. run_from (entry_of around.tags word arms) (λ k u. statements_from turns around k arms u) t))
  statement turns around (node kind.Case label (more constant none)) s = Done Normal s
  statement turns around (node kind.Default label none) s = Done Normal s
  statement turns around (node kind.Break label none) s = Done Broke s
  statement turns around (node kind.Continue label none) s = Done Continued s
  statement turns around (node kind.Return label none) s = Done (Returned None) s
  statement turns around (node kind.Return label (more e none)) s = returned around (at around label) e s
  statement turns around (node k label parts) s = NoMeaning (at around label) s

  pub statements : (turns : ℕ) → Surroundings → TypedRow → State → Play Flow
  statements turns around none s = Done Normal s
  statements turns around (more first others) s =
      bind (statement turns around first s) (λ flow t. then_go flow t (λ u. statements turns around others u))

  -- statements without so many at the front
  pub statements_from : (turns : ℕ) → Surroundings → (skipped : ℕ) → TypedRow → State → Play Flow
  statements_from turns around skipped none s = Done Normal s
  statements_from turns around zero (more first others) s =
      bind (statement turns around first s) (λ flow t. then_go flow t (λ u. statements turns around others u))
  statements_from turns around (suc skipped) (more first others) s = statements_from turns around skipped others s

  -- `for` behind its first part, with its test and its step where there are such
  pub for_loop : (turns : ℕ) → Surroundings → Place → (test step : Bool) → TypedRow → State → Play Flow
  for_loop turns around place true true (more test (more step (more body none))) s =
      tested_loop turns (loop_of (condition around place test) (effect around step) (λ t. statement turns around body t)) s
  for_loop turns around place true false (more test (more body none)) s =
      tested_loop turns (loop_of (condition around place test) no_step (λ t. statement turns around body t)) s
  for_loop turns around place false true (more step (more body none)) s =
      tested_loop turns (loop_of always (effect around step) (λ t. statement turns around body t)) s
  for_loop turns around place false false (more body none) s =
      tested_loop turns (loop_of always no_step (λ t. statement turns around body t)) s
  for_loop turns around place test step others s = NoMeaning place s

-- FUNCTIONS

-- A parameter begins with its argument, which was converted at the call.
abbrev pub argument_object : Tags → TypeTree → Value → Option Object
argument_object tags type value = by (value_cells (size_of tags type) value)
  where
    by : Result (List Cell) Cause → Option Object
    by (Ok cells) = Some (live_object cells)
    by (Err why) = None

abbrev pub argument_objects : Tags → List TypeTree → List Value → Option (List Object)
argument_objects tags [] [] = Some []
argument_objects tags [] (value ∷ values) = None
argument_objects tags (type ∷ types) [] = None
argument_objects tags (type ∷ types) (value ∷ values) =
    on_some (argument_object tags type value) (λ object.
    on_some (argument_objects tags types values) (λ objects. Some (object ∷ objects)))

-- parameters are the first automatics
abbrev pub parameters_from : (number : ℕ) → List TypeTree → List Declared
parameters_from number [] = []
parameters_from number (type ∷ types) = record { number = number; type = type } ∷ parameters_from (suc number) types

-- A function that ends without `return`, or with one that has no value, gives none.
abbrev pub given : Place → Flow → State → Play Value
given call Normal s = Done (Missing call) s
given call (Returned None) s = Done (Missing call) s
given call (Returned (Some value)) s = Done value s
given call Broke s = NoMeaning call s
given call Continued s = NoMeaning call s
given call (Went label) s = NoMeaning call s

abbrev pub with_parameters : Surroundings → TypeTree → List Living → Surroundings
with_parameters around result living = record around { automatics = living; result = result }

-- what a function's block does, of these parameters and with this result
abbrev pub run_block : (turns : ℕ) → Surroundings → (result : TypeTree) → (parameters : List TypeTree) → Typed → Call → State → Play Value
run_block turns around result parameters block call s =
    or_no_meaning call.place s (argument_objects around.tags parameters call.arguments) (λ objects.
    bind (statement turns (with_parameters around result (living_in (parameters_from 0 parameters) s)) block (with_objects objects s)) (λ flow t.
    given call.place flow (left (living_in (parameters_from 0 parameters) s) t)))

abbrev pub function_body : (turns : ℕ) → Surroundings → Definition → Call → State → Play Value
function_body turns around definition call s = by definition.name.type
  where
    by : TypeTree → Play Value
    by (Function result parameters) = run_block turns around result (row_types parameters) definition.block call s
    by type = NoMeaning call.place s
