-- How the machine's run reads what calls brought and writes what they put, whatever the objects tell.
use Rattle.std.specs.Prelude.{◌≡◌, ◌<◌, ◌≤◌, ℕ, ◌+◌, List, [], ◌∷◌, ◌++◌, length, take, drop, map, Option, Some, None}
use Rattle.p9_base.specs.Outside.{TakeCall, PutCall}
use Rattle.p9_base.specs.Calls.{StreamCall, OnInput, OnOut, Failing, Input, Out, Store, StreamsDid, StreamsEnd}
use Rattle.p9_base.specs.CallBytes.{brought, filled_by, written, KeepRests, FoundEnd, brought_in, written_in, IsSteady, Stretch, Going, Reading, calls_of, steps_of}
use Rattle.p9_base.specs.declared.halt.Asked.{Asked}
use Rattle.p9_base.specs.declared.halt.Asked.TheVariants as asks
use Rattle.p9_r3k.specs.Memory.{Core, bytes_from, with_bytes}
use Rattle.p9_r3k.specs.Machine.{state, step, run, asked, answered}
use Rattle.p9_vi.specs.declared.stop.Stop.{Stop}
use Rattle.p9_vi.specs.declared.stop.Stop.TheVariants as stops
use Rattle.p9_vi.specs.declared.stop.Stepped.{Stepped}
use Rattle.p9_vi.specs.declared.stop.Stepped.TheVariants.{Done, ReadFault, WriteFault}
use Rattle.p9_vi.specs.Stops.{IsAtCall}

-- the machine's run reads what these calls brought and writes what they wrote
abbrev pub IsRunOn : List StreamCall → (steps : ℕ) (old new : Core) → Type 0
IsRunOn calls steps old new =
    (l s : List ℕ) → IsSteady calls l →
    state new l (s ++ written_in calls) ≡ run steps (state old (brought_in calls ++ l) s)

-- a read that these takes did: its room holds what they brought, and the rest as the last one left it
pub record DoesRead (takes : List TakeCall) (old new : Core) : Type 0 where
  pub at_call : IsAtCall old
  pub room : ℕ
  pub size : ℕ
  pub reads : asked old ≡ asks.Read room size
  -- fewer bytes come only where the input was at its end
  pub short : length (brought takes) < size → FoundEnd takes
  pub fill : length (filled_by takes) ≡ size
  pub is : new ≡ answered (with_bytes old room (filled_by takes)) (length (brought takes))
  -- it is the machine's step, which reads what they brought, and nothing of what comes after it
  pub steps : KeepRests takes → (l s : List ℕ) → (length (brought takes) < size → l ≡ []) →
      state new l s ≡ step (state old (brought takes ++ l) s)

-- whatever the input, none of it is read, and the output grows by what is written
abbrev pub Passes : Stretch → (old new : Core) → Type 0
Passes (Going steps puts) old new = (l s : List ℕ) → state new l (s ++ written puts) ≡ run steps (state old l s)
Passes (Reading takes) old new = DoesRead takes old new

-- stretches one after the other
abbrev pub Goes : List Stretch → (old new : Core) → Type 0
Goes [] old new = new ≡ old
Goes (stretch ∷ more) old new = (middle : Core) × Passes stretch old middle × Goes more middle new

-- A system call that failed

-- the takes brought a part, and left the rest of the room as the last one left it
pub record FailsToRead (takes : List TakeCall) (before new : Core) : Type 0 where
  pub at_call : IsAtCall before
  pub room : ℕ
  pub size : ℕ
  pub reads : asked before ≡ asks.Read room size
  pub part : length (brought takes) < size
  pub fill : length (filled_by takes) ≡ size
  pub is : new ≡ with_bytes before room (filled_by takes)
  pub kept : KeepRests takes → new ≡ with_bytes before room (brought takes)

-- the puts wrote a part of the piece
pub record FailsToWrite (puts : List PutCall) (before new : Core) : Type 0 where
  pub at_call : IsAtCall before
  pub piece : ℕ
  pub size : ℕ
  pub writes : asked before ≡ asks.Write piece size
  pub part : length (written puts) < size
  pub is : written puts ≡ take (length (written puts)) (bytes_from before piece size)
  pub stays : new ≡ before

-- the last calls are those of a system call that failed, if one did
abbrev pub Fails : Option Failing → List StreamCall → (before new : Core) → Type 0
Fails None last before new = (last ≡ []) × (new ≡ before)
Fails (Some Input) last before new = (takes : List TakeCall) × (last ≡ map OnInput takes) × FailsToRead takes before new
Fails (Some Out) last before new = (puts : List PutCall) × (last ≡ map OnOut puts) × FailsToWrite puts before new
Fails (Some Store) last before new = ⊥

-- The calls that were made are those of the machine's steps, of which there are so many, and then those of a
-- system call that failed, if one did
pub record Ties {I O : Type 0} (takes : I → TakeCall → I → Type 0) (puts : O → PutCall → O → Type 0) (input : I) (out : O) (input' : I) (out' : O) (failed : Option Failing) (Count : ℕ → Type 0) (old new : Core) : Type 0 where
  pub stretches : List Stretch
  pub last : List StreamCall
  pub did : StreamsDid takes puts input out (calls_of stretches ++ last) input' out'
  pub ends : StreamsEnd (calls_of stretches ++ last) failed
  pub before : Core
  pub goes : Goes stretches old before
  pub fails : Fails failed last before new
  pub count : Count (steps_of stretches)

-- the machine stands before a system call that asks for this
abbrev pub AtRequest : Asked → Core → Type 0
AtRequest request core = IsAtCall core × (request ≡ asked core)

abbrev pub StepCount : Stepped → ℕ → Type 0
StepCount Done n = n ≡ 1
StepCount ReadFault n = n ≡ 0
StepCount WriteFault n = n ≡ 0

abbrev pub StopCount : Stop → (budget : ℕ) → ℕ → Type 0
StopCount stops.Exit budget n = n ≤ budget
StopCount stops.Budget budget n = n ≡ budget
StopCount (stops.Halt cause pc) budget n = n ≤ budget
StopCount stops.ReadFault budget n = n < budget
StopCount stops.WriteFault budget n = n < budget
