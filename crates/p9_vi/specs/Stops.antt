-- How a simulation of at most n instructions stops.
use Rattle.std.specs.Prelude.{◌≡◌, ◌<◌, ◌≤◌, ℕ, List, ◌++◌, length, take, drop, Option, Some, None, Ok}
use Rattle.p9_base.specs.Outside.{Rose}
use Rattle.p9_base.specs.Calls.{Failing, Input, Out}
use Rattle.p9_r3k.specs.declared.inst.Inst.{Inst}
use Rattle.p9_base.specs.declared.halt.Effect.TheVariants.{Call}
use Rattle.p9_base.specs.declared.halt.Ending.{Ending}
use Rattle.p9_base.specs.declared.halt.Ending.TheVariants.{Running, Exited, Halted}
use Rattle.p9_base.specs.declared.halt.Asked.{Asked}
use Rattle.p9_base.specs.declared.halt.Asked.TheVariants as asks
use Rattle.p9_r3k.specs.Memory.{Core, bytes_from, with_bytes}
use Rattle.p9_r3k.specs.Effects.{effect_of}
use Rattle.p9_r3k.specs.Machine.{state, run, fetched, asked}
use Rattle.p9_vi.specs.declared.stop.Stop.{Stop}
use Rattle.p9_vi.specs.declared.stop.Stop.TheVariants as stops
use Rattle.p9_vi.specs.Run.{IsExited}

-- the stop of a machine whose run was simulated whole
abbrev pub stop_of : Ending → Stop
stop_of Running = stops.Budget
stop_of (Exited at length) = stops.Exit
stop_of (Halted cause pc) = stops.Halt cause pc

-- the machine stands before a system call
pub record IsAtCall (core : Core) : Type 0 where
  pub running : core.ending ≡ Running
  pub instruction : Inst
  pub fetches : fetched core ≡ Ok instruction
  pub calls : effect_of instruction core ≡ Call

-- a read that failed: its room holds the bytes that were taken
pub record ReadFails (request : Asked) (before new : Core) (left later : List ℕ) : Type 0 where
  pub room : ℕ
  pub size : ℕ
  pub reads : request ≡ asks.Read room size
  pub taken : ℕ
  pub in_room : taken < size
  pub in_left : taken ≤ length left
  pub new_is : new ≡ with_bytes before room (take taken left)
  pub later_is : later ≡ drop taken left

-- a write that failed: a part of its piece was put
pub record WriteFails (request : Asked) (core : Core) (out later : List ℕ) : Type 0 where
  pub piece : ℕ
  pub size : ℕ
  pub writes : request ≡ asks.Write piece size
  pub put : ℕ
  pub in_piece : put < size
  pub later_is : later ≡ out ++ take put (bytes_from core piece size)

-- n steps were made, or the run had ended before
pub record RunsWhole (stop : Stop) (n : ℕ) (old new : Core) (left out later now : List ℕ) : Type 0 where
  pub runs : state new later now ≡ run n (state old left out)
  pub stops : stop ≡ stop_of new.ending

-- fewer steps were made, up to a read that failed
pub record RunsToRead (n : ℕ) (old new : Core) (left out later now : List ℕ) : Type 0 where
  pub steps : ℕ
  pub fewer : steps < n
  pub before : Core
  pub left_before : List ℕ
  pub runs : state before left_before now ≡ run steps (state old left out)
  pub at_call : IsAtCall before
  pub fails : ReadFails (asked before) before new left_before later

-- fewer steps were made, up to a write that failed
pub record RunsToWrite (n : ℕ) (old new : Core) (left out later now : List ℕ) : Type 0 where
  pub steps : ℕ
  pub fewer : steps < n
  pub out_before : List ℕ
  pub runs : state new later out_before ≡ run steps (state old left out)
  pub at_call : IsAtCall new
  pub fails : WriteFails (asked new) new out_before now

abbrev pub Runs : Stop → (n : ℕ) (old new : Core) (left out later now : List ℕ) → Type 0
Runs stops.Exit n old new left out later now = RunsWhole stops.Exit n old new left out later now
Runs stops.Budget n old new left out later now = RunsWhole stops.Budget n old new left out later now
Runs (stops.Halt cause pc) n old new left out later now = RunsWhole (stops.Halt cause pc) n old new left out later now
Runs stops.ReadFault n old new left out later now = RunsToRead n old new left out later now
Runs stops.WriteFault n old new left out later now = RunsToWrite n old new left out later now

-- the machine stands before a read, but for bytes in its room
pub record IsBeforeRead (core : Core) : Type 0 where
  pub before : Core
  pub at_call : IsAtCall before
  pub room : ℕ
  pub size : ℕ
  pub reads : asked before ≡ asks.Read room size
  pub bytes : List ℕ
  pub fill : length bytes ≡ size
  pub is : core ≡ with_bytes before room bytes

-- the machine stands before a write
pub record IsBeforeWrite (core : Core) : Type 0 where
  pub at_call : IsAtCall core
  pub piece : ℕ
  pub size : ℕ
  pub writes : asked core ≡ asks.Write piece size

-- how the machine stands at the stop, whatever the objects tell
abbrev pub StandsAt : Stop → Core → Type 0
StandsAt stops.Exit core = IsExited core.ending
StandsAt stops.Budget core = core.ending ≡ Running
StandsAt (stops.Halt cause pc) core = core.ending ≡ Halted cause pc
StandsAt stops.ReadFault core = IsBeforeRead core
StandsAt stops.WriteFault core = IsBeforeWrite core

-- the counts of the source and of the sink
abbrev pub StopCause : Stop → (input later out now : ℕ) → Type 0
StopCause stops.Exit input later out now = (later ≡ input) × (now ≡ out)
StopCause stops.Budget input later out now = (later ≡ input) × (now ≡ out)
StopCause (stops.Halt cause pc) input later out now = (later ≡ input) × (now ≡ out)
StopCause stops.ReadFault input later out now = Rose input later × (now ≡ out)
StopCause stops.WriteFault input later out now = (later ≡ input) × Rose out now

-- the object whose call failed last
abbrev pub stop_failure : Stop → Option Failing
stop_failure stops.Exit = None
stop_failure stops.Budget = None
stop_failure (stops.Halt cause pc) = None
stop_failure stops.ReadFault = Some Input
stop_failure stops.WriteFault = Some Out
