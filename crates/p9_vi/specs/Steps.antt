-- How one instruction ends, and the parts of a system call.
use Rattle.std.specs.Prelude.{◌≡◌, ◌<◌, ◌≤◌, ℕ, min, List, ◌++◌, length, take, drop, Option, Some, None, IfSome, Bool, true, false}
use Rattle.p9_base.specs.Outside.{Rose}
use Rattle.p9_base.specs.Calls.{Failing, Input, Out}
use Rattle.p9_base.specs.declared.halt.Asked.{Asked}
use Rattle.p9_base.specs.declared.halt.Asked.TheVariants as asks
use Rattle.p9_r3k.specs.Memory.{Core, bytes_from, over, with_bytes}
use Rattle.p9_r3k.specs.Machine.{state, step, run, asked, called, answered}
use Rattle.p9_vi.specs.declared.stop.Stepped.{Stepped}
use Rattle.p9_vi.specs.declared.stop.Stepped.TheVariants.{Done, ReadFault, WriteFault}
use Rattle.p9_vi.specs.Stops.{IsAtCall, ReadFails, WriteFails, IsBeforeRead, IsBeforeWrite}

-- A room in memory

abbrev pub FillsRoom : (left later : Option (List ℕ)) (old new : Core) (at size : ℕ) → Option ℕ → Type 0
FillsRoom left later old new at size (Some n) =
    IfSome left (λ l. (n ≡ min size (length l)) × (later ≡ Some (drop n l)) × (new ≡ with_bytes old at (take n l)))
FillsRoom left later old new at size None =
    IfSome left (λ l. (n : ℕ) × (n < size) × (n ≤ length l) × (later ≡ Some (drop n l)) × (new ≡ with_bytes old at (take n l)))

abbrev pub RoomChanges : (old new : Core) (at size : ℕ) → Type 0
RoomChanges old new at size = (xs : List ℕ) × (length xs ≡ size) × (new ≡ with_bytes old at xs)

-- A read, and a write: whether it was done

abbrev pub Reads : (left later : Option (List ℕ)) (old new : Core) (at size : ℕ) → Bool → Type 0
Reads left later old new at size true =
    IfSome left (λ l. (n : ℕ) × (n ≡ min size (length l)) × (later ≡ Some (drop n l)) × (new ≡ answered (with_bytes old at (take n l)) n))
Reads left later old new at size false =
    IfSome left (λ l. (n : ℕ) × (n < size) × (n ≤ length l) × (later ≡ Some (drop n l)) × (new ≡ with_bytes old at (take n l)))

abbrev pub ReadKeeps : (old new : Core) (at size : ℕ) → Bool → Type 0
ReadKeeps old new at size true = Unit {0}
ReadKeeps old new at size false = RoomChanges old new at size

abbrev pub read_failure : Bool → Option Failing
read_failure true = None
read_failure false = Some Input

abbrev pub PutsPiece : (sofar later : Option (List ℕ)) (core : Core) (at size : ℕ) → Bool → Type 0
PutsPiece sofar later core at size true = IfSome sofar (λ s. later ≡ Some (s ++ bytes_from core at size))
PutsPiece sofar later core at size false =
    IfSome sofar (λ s. (n : ℕ) × (n < size) × (later ≡ Some (s ++ take n (bytes_from core at size))))

-- A system call

abbrev pub Calls : Stepped → Asked → (old new : Core) → (l s l' s' : List ℕ) → Type 0
Calls Done request old new l s l' s' = state new l' s' ≡ called request (state old l s)
Calls ReadFault request old new l s l' s' = ReadFails request old new l l' × (s' ≡ s)
Calls WriteFault request old new l s l' s' = WriteFails request old s s' × (new ≡ old) × (l' ≡ l)

abbrev pub CallKeeps : Stepped → Asked → (old new : Core) → Type 0
CallKeeps Done request old new = Unit {0}
CallKeeps ReadFault request old new = (at size : ℕ) × (request ≡ asks.Read at size) × RoomChanges old new at size
CallKeeps WriteFault request old new = (at size : ℕ) × (request ≡ asks.Write at size) × (new ≡ old)

-- One step, or a read or write that failed

abbrev pub Steps : Stepped → (old new : Core) → (l s l' s' : List ℕ) → Type 0
Steps Done old new l s l' s' = state new l' s' ≡ step (state old l s)
Steps ReadFault old new l s l' s' = IsAtCall old × ReadFails (asked old) old new l l' × (s' ≡ s)
Steps WriteFault old new l s l' s' = IsAtCall old × WriteFails (asked old) old s s' × (new ≡ old) × (l' ≡ l)

-- a step that touches neither the input nor the output was done, or nothing was
abbrev pub Plain : Bool → (old new : Core) → Type 0
Plain true old new = (l s : List ℕ) → state new l s ≡ step (state old l s)
Plain false old new = new ≡ old

-- so many of these steps
abbrev pub PlainRun : ℕ → (old new : Core) → Type 0
PlainRun n old new = (l s : List ℕ) → state new l s ≡ run n (state old l s)

abbrev pub StepStands : Stepped → (new : Core) → Type 0
StepStands Done new = Unit {0}
StepStands ReadFault new = IsBeforeRead new
StepStands WriteFault new = IsBeforeWrite new

abbrev pub StepCause : Stepped → (input later out now : ℕ) → Type 0
StepCause Done input later out now = (later ≡ input) × (now ≡ out)
StepCause ReadFault input later out now = Rose input later × (now ≡ out)
StepCause WriteFault input later out now = (later ≡ input) × Rose out now

abbrev pub step_failure : Stepped → Option Failing
step_failure Done = None
step_failure ReadFault = Some Input
step_failure WriteFault = Some Out
