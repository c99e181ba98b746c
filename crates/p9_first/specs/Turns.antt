-- Calls: the turns that they take, the room that they need, and how a run ends.
use Rattle.std.specs.Prelude.{ℕ, zero, suc, ◌+◌, List, nat_lt, if◌then◌else◌}
use Rattle.p9_first.specs.declared.Cause.{Cause}
use Rattle.p9_first.specs.declared.Place.{Place}
use Rattle.p9_first.specs.Cells.{FunctionName, Value, State}
use Rattle.p9_first.specs.Plays.{Call, Play, Done, Wrong, Exit, Cut, Turn, Ask, Moved}

-- what a run comes to: it has ended with a text, it is out of turns, or it is at an operation that
-- isn't defined or at a call for which there is no room; each with its output so far
pub data Outcome : Type 0 where
  Ended : (output text : List ℕ) → Outcome
  Out : (output : List ℕ) → Outcome
  Undefined : (output : List ℕ) (why : Cause) (place : Place) → Outcome
  Deep : (output : List ℕ) (place : Place) → Outcome

-- how a call ends: it gives a value, with the turns that are left; or the run is over. Either way
-- with the number of bytes that structure copies have moved so far.
pub data End : Type 0 where
  Gave : (value : Value) (state : State) (turns copied : ℕ) → End
  Over : (outcome : Outcome) (copied : ℕ) → End

abbrev pub and_then : End → (Value → State → (turns copied : ℕ) → End) → End
and_then (Gave value s turns copied) next = next value s turns copied
and_then (Over outcome copied) next = Over outcome copied

-- what each call ends with, from the needs of the calls that are active, the turns that are left
-- and the bytes copied so far
abbrev pub Calls : Type 0
Calls = (active turns copied : ℕ) → Call → State → End

-- what a play ends with, where calls end so
abbrev pub resolve : Calls → (active turns copied : ℕ) → Play Value → End
resolve calls active turns copied (Done value s) = Gave value s turns copied
resolve calls active turns copied (Wrong why place s) = Over (Undefined s.output why place) copied
resolve calls active turns copied (Exit text s) = Over (Ended s.output text) copied
resolve calls active turns copied (Cut s) = Over (Out s.output) copied
resolve calls active zero copied (Turn s rest) = Over (Out s.output) copied
resolve calls active (suc turns) copied (Turn s rest) = resolve calls active turns copied rest
resolve calls active turns copied (Ask call s rest) =
    and_then (calls active turns copied call s) (λ value t left moved. resolve calls active left moved (rest value t))
resolve calls active turns copied (Moved bytes rest) = resolve calls active turns (copied + bytes) rest

-- The functions of a program: what the body of one does when it is called, each of its loops being
-- given so many turns; and the room that a call of one needs
pub record Functions : Type 0 where
  pub body : (turns : ℕ) → Call → State → Play Value
  pub need : FunctionName → ℕ

-- the room for the needs of all active calls
abbrev pub room : ℕ
room = 16777216

-- A call takes a turn, then it needs its room, then the function's body is run.
abbrev pub call_in : Functions → Calls → Calls
call_in functions inner active zero copied call s = Over (Out s.output) copied
call_in functions inner active (suc turns) copied call s =
    if nat_lt room (active + functions.need call.function) then Over (Deep s.output call.place) copied
    else resolve inner (active + functions.need call.function) turns copied (functions.body turns call s)

-- Calls within calls, to this depth. Since each call takes a turn, a depth of as many as there are
-- turns is never passed.
abbrev pub calls_to : (depth : ℕ) → Functions → Calls
calls_to zero functions = λ active turns copied call s. Over (Out s.output) copied
calls_to (suc depth) functions = call_in functions (calls_to depth functions)
