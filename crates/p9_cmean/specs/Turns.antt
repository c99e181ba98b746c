-- Calls: the turns that they take, the room that they need, and what a run comes to.
use Rattle.std.specs.Prelude.{ℕ, zero, suc, ◌+◌, List, Option, Some, None, nat_lt, if◌then◌else◌}
use Rattle.p9_cmean.specs.declared.Cause.{Cause}
use Rattle.p9_cmean.specs.declared.Place.{Place}
use Rattle.p9_cmean.specs.Cells.{FunctionName, Value, State}
use Rattle.p9_cmean.specs.Plays.{Call, Play, Done, Wrong, NoMeaning, Exit, Cut, Turn, Ask, Moved}

-- What a run comes to: it has ended with a text; it is out of turns, in a loop or at a call that
-- waits for a turn; it is at an operation that isn't defined, or at a call for which there is no
-- room; or it is at a node without a meaning. The state tells its output so far, and the input that
-- is left.
pub data Outcome : Type 0 where
  Ended : (text : List ℕ) (state : State) → Outcome
  Out : (waits : Option Call) (state : State) → Outcome
  Undefined : (why : Cause) (place : Place) (state : State) → Outcome
  Deep : (place : Place) (state : State) → Outcome
  NoOutcome : (place : Place) (state : State) → Outcome

-- how a call ends: it gives a value, with the turns that are left; or the run is over. Either way
-- with the number of bytes that structure copies have moved so far.
pub data End : Type 0 where
  Gave : (value : Value) (state : State) (turns copied : ℕ) → End
  Over : (outcome : Outcome) (copied : ℕ) → End

abbrev pub and_then : End → (Value → State → (turns copied : ℕ) → End) → End
and_then (Gave value s turns copied) next = next value s turns copied
and_then (Over outcome copied) next = Over outcome copied

-- what each call ends with, from the needs of the calls that are active, the turns that are left
-- and the bytes copied so far
abbrev pub Calls : Type 0
Calls = (active turns copied : ℕ) → Call → State → End

-- what a play ends with, where calls end so
abbrev pub resolve : Calls → (active turns copied : ℕ) → Play Value → End
resolve calls active turns copied (Done value s) = Gave value s turns copied
resolve calls active turns copied (Wrong why place s) = Over (Undefined why place s) copied
resolve calls active turns copied (NoMeaning place s) = Over (NoOutcome place s) copied
resolve calls active turns copied (Exit text s) = Over (Ended text s) copied
resolve calls active turns copied (Cut s) = Over (Out None s) copied
resolve calls active zero copied (Turn s rest) = Over (Out None s) copied
resolve calls active (suc turns) copied (Turn s rest) = resolve calls active turns copied rest
resolve calls active turns copied (Ask call s rest) =
    and_then (calls active turns copied call s) (λ value t left moved. resolve calls active left moved (rest value t))
resolve calls active turns copied (Moved bytes rest) = resolve calls active turns (copied + bytes) rest

-- The functions of a program: what the body of one does when it is called, each of its loops being
-- given so many turns; and the room that a call of one needs
pub record Functions : Type 0 where
  pub body : (turns : ℕ) → Call → State → Play Value
  pub need : FunctionName → ℕ

-- the room for the needs of all active calls
abbrev pub room : ℕ
room = 16777216

-- A call takes a turn, then it needs its room, then the function's body is run.
abbrev pub call_in : Functions → Calls → Calls
call_in functions inner active zero copied call s = Over (Out (Some call) s) copied
call_in functions inner active (suc turns) copied call s =
    if nat_lt room (active + functions.need call.function) then Over (Deep call.place s) copied
    else resolve inner (active + functions.need call.function) turns copied (functions.body turns call s)

-- Calls within calls, to this depth. Since each call takes a turn, a depth of as many as there are
-- turns is never passed.
abbrev pub calls_to : (depth : ℕ) → Functions → Calls
calls_to zero functions = λ active turns copied call s. Over (Out (Some call) s) copied
calls_to (suc depth) functions = call_in functions (calls_to depth functions)

-- where the first call returns, the run has ended with this text
abbrev pub outcome_of : (text : List ℕ) → End → Outcome
outcome_of text (Gave value s turns copied) = Ended text s
outcome_of text (Over outcome copied) = outcome

abbrev pub copied_of : End → ℕ
copied_of (Gave value s turns copied) = copied
copied_of (Over outcome copied) = copied

-- the state that an outcome tells
abbrev pub state_of : Outcome → State
state_of (Ended text s) = s
state_of (Out waits s) = s
state_of (Undefined why place s) = s
state_of (Deep place s) = s
state_of (NoOutcome place s) = s
