-- Bytes of which whole fields were taken.
use Rattle.std.specs.Prelude.{◌≡◌, ℕ, ◌-◌, ◌<◌, ◌≤◌, Bool, true, false, List, [], length, take, drop, Option, None, Some, Result, Ok}
use Rattle.p9_object.specs.Machine.{State, AtMagic, AtVersion, AtCount, InSymbols, Done}
use Rattle.p9_object.specs.Bytes.{Fault, Point, start, pushes}
use Rattle.p9_steps.specs.Places.{wanted}

-- behind so many bytes of whole fields, with bytes of the next one
abbrev pub waiting : (taken : ℕ) → State → (pending : List ℕ) → Result Point Fault
waiting taken s pending = Ok (record { at = taken; state = s; pending = pending })

-- the fields of the first bytes lead to the state
pub record AreTaken (bytes : List ℕ) (taken : ℕ) (s : State) : Type 0 where
  pub within : taken ≤ length bytes
  pub led : pushes (Ok start) (take taken bytes) ≡ waiting taken s []

-- and the bytes behind them are no whole field
pub record AllTaken (bytes : List ℕ) (taken : ℕ) (s : State) : Type 0 where
  pub taken_so : AreTaken bytes taken s
  pub left : pushes (Ok start) bytes ≡ waiting taken s (drop taken bytes)

-- so many bytes are fewer than are wanted
abbrev pub IsShort : ℕ → Option ℕ → Type 0
IsShort n None = Unit {0}
IsShort n (Some width) = n < width

-- where the next field ends among so many bytes; or it isn't whole there, or there is none
abbrev pub IsEnd : State → (taken size : ℕ) → Option ℕ → Type 0
IsEnd s taken size (Some end) = (taken ≤ end) × ((end ≤ size) × (wanted s ≡ Some (end - taken)))
IsEnd s taken size None = IsShort (size - taken) (wanted s)

abbrev pub is_done : State → Bool
is_done AtMagic = false
is_done AtVersion = false
is_done AtCount = false
is_done (InSymbols count before place) = false
is_done (Done symbols) = true
