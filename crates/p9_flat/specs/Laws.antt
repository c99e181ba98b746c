-- The laws of linear code.
use Rattle.std.specs.Prelude.{◌≡◌, ℕ, List, length, Option, Some, None}
use Rattle.p9_lang.specs.Types.{TypeTree}
use Rattle.p9_lang.specs.Layout.{on_some}
use Rattle.p9_cmean.specs.Cells.{FunctionName, Object, Value, State}
use Rattle.p9_cmean.specs.Plays.{Call, Play, NoMeaning}
use Rattle.p9_cmean.specs.Automatics.{with_objects}
use Rattle.p9_cmean.specs.Declarations.{Definition}
use Rattle.p9_cmean.specs.Expressions.{Surroundings}
use Rattle.p9_cmean.specs.Statements.{function_body}
use Rattle.p9_flat.specs.declared.op.Op.{Op}
use Rattle.p9_flat.specs.Step.{Names, frame, received, own_at, Plays}
use Rattle.p9_flat.specs.Code.{Numbers}
use Rattle.p9_flat.specs.Flat.{HasAt, entry_at, function_code, parameter_sizes}

-- Numbers of functions and of types name what they are given for, where they are given.
pub record AreNamed (names : Names) (numbers : Numbers) (around : Surroundings) : Type 0 where
  pub functions : (name : FunctionName) (number : ℕ) → numbers.function name ≡ Some number → names.function number ≡ name
  pub types : (type : TypeTree) (number : ℕ) → numbers.call_type type ≡ Some number
      → (name : FunctionName) → names.has_type name number ≡ around.has_type name type

-- Code plays a play from a function's entry on, with the objects of its arguments; or there are none, and the
-- play has no meaning at the call.
abbrev pub PlaysFrom : Names → List Op → (below : List Value) → (pc owner : ℕ) → Option (List Object) → Call → State → Play Value → Type 0
PlaysFrom names all below pc owner None call s p = p ≡ NoMeaning call.place s
PlaysFrom names all below pc owner (Some objects) call s p =
    Plays names all below p (frame (entry_at pc) below (own_at owner call.place (length objects) s)) (with_objects objects s)

-- The code of a function, wherever it stands, plays what the function's body does, with any arguments.
abbrev pub CodeIsRight : Type 0
CodeIsRight =
    (names : Names) (numbers : Numbers) (around : Surroundings) → AreNamed names numbers around
    → (all : List Op) (pc : ℕ) (definition : Definition) → HasAt all pc (function_code numbers around pc definition)
    → (turns : ℕ) (call : Call) (s : State) (below : List Value)
    → PlaysFrom names all below pc around.owner
    (on_some (parameter_sizes around.tags definition.name.type) (λ sizes. received sizes call.arguments)) call s
    (function_body turns around definition call s)
