-- Lists of the calls that a run makes on a source, a sink and a store of files, and which of them failed.
use Rattle.std.specs.Prelude.{◌≡◌, ℕ, List, [], ◌∷◌, ◌++◌, Option, Some, None, Result, Ok, Err}
use Rattle.p9_base.specs.declared.outside.Took as took
use Rattle.p9_base.specs.declared.outside.Put as put
use Rattle.p9_base.specs.declared.outside.Got as got
use Rattle.p9_base.specs.declared.outside.FileFault as fault
use Rattle.p9_base.specs.Outside.{Rose, TakeCounts, PutCounts, FileCounts, TakeCall, Take, PutCall, PutPiece, FileCall, ReadCall, WriteCall}

-- a call on a source or a sink
pub data StreamCall : Type 0 where
  OnInput : (call : TakeCall) → StreamCall
  OnOut : (call : PutCall) → StreamCall

-- a call on one of the three objects
pub data Call : Type 0 where
  OnStream : (call : StreamCall) → Call
  OnFiles : (call : FileCall) → Call

-- the object whose call failed
pub data Failing : Type 0 where
  Input : Failing
  Out : Failing
  Store : Failing

-- What failed in a call

abbrev pub stream_failure : StreamCall → Option Failing
stream_failure (OnInput (Take room filled (took.TheVariants.Got n))) = None
stream_failure (OnInput (Take room filled took.TheVariants.End)) = None
stream_failure (OnInput (Take room filled took.TheVariants.Failed)) = Some Input
stream_failure (OnOut (PutPiece piece (put.TheVariants.Wrote n))) = None
stream_failure (OnOut (PutPiece piece put.TheVariants.Failed)) = Some Out

abbrev pub file_failure : FileCall → Option Failing
file_failure (ReadCall name (got.TheVariants.Found bytes)) = None
file_failure (ReadCall name got.TheVariants.Absent) = None
file_failure (ReadCall name got.TheVariants.Failed) = Some Store
file_failure (ReadCall name got.TheVariants.NoMemory) = None
file_failure (WriteCall name bytes (Ok _)) = None
file_failure (WriteCall name bytes (Err fault.TheVariants.Failed)) = Some Store
file_failure (WriteCall name bytes (Err fault.TheVariants.NoMemory)) = None

abbrev pub failure : Call → Option Failing
failure (OnStream call) = stream_failure call
failure (OnFiles call) = file_failure call

-- None of the calls failed

abbrev pub StreamsFine : List StreamCall → Type 0
StreamsFine [] = Unit {0}
StreamsFine (call ∷ calls) = (stream_failure call ≡ None) × StreamsFine calls

abbrev pub CallsFine : List Call → Type 0
CallsFine [] = Unit {0}
CallsFine (call ∷ calls) = (failure call ≡ None) × CallsFine calls

-- None of the calls failed, or the last of them alone, which was on this object

abbrev pub StreamsEnd : List StreamCall → Option Failing → Type 0
StreamsEnd calls None = StreamsFine calls
StreamsEnd calls (Some object) =
    (before : List StreamCall) × (last : StreamCall) × (calls ≡ before ++ last ∷ [])
    × StreamsFine before × (stream_failure last ≡ Some object)

abbrev pub CallsEnd : List Call → Option Failing → Type 0
CallsEnd calls None = CallsFine calls
CallsEnd calls (Some object) =
    (before : List Call) × (last : Call) × (calls ≡ before ++ last ∷ [])
    × CallsFine before × (failure last ≡ Some object)

-- The calls were made in this order, from the one states to the others

abbrev pub StreamDoes : {I O : Type 0} → (I → TakeCall → I → Type 0) → (O → PutCall → O → Type 0) → I → O → StreamCall → I → O → Type 0
StreamDoes takes puts input out (OnInput call) input' out' = takes input call input' × (out' ≡ out)
StreamDoes takes puts input out (OnOut call) input' out' = puts out call out' × (input' ≡ input)

abbrev pub StreamsDid : {I O : Type 0} → (I → TakeCall → I → Type 0) → (O → PutCall → O → Type 0) → I → O → List StreamCall → I → O → Type 0
StreamsDid takes puts input out [] input' out' = (input' ≡ input) × (out' ≡ out)
StreamsDid {I} {O} takes puts input out (call ∷ calls) input' out' =
    (next : I) × (next_out : O) × StreamDoes takes puts input out call next next_out
    × StreamsDid takes puts next next_out calls input' out'

-- The source, the sink and the store of a command
pub record Objects (I O F : Type 0) : Type 0 where
  pub input : I
  pub out : O
  pub files : F

-- What a call on each of them is
pub record Doing (I O F : Type 0) : Type 1 where
  pub takes : I → TakeCall → I → Type 0
  pub puts : O → PutCall → O → Type 0
  pub stores : F → FileCall → F → Type 0

abbrev pub Does : {I O F : Type 0} → Doing I O F → Objects I O F → Call → Objects I O F → Type 0
Does doing old (OnStream call) new =
    StreamDoes doing.takes doing.puts old.input old.out call new.input new.out × (new.files ≡ old.files)
Does doing old (OnFiles call) new =
    doing.stores old.files call new.files × (new.input ≡ old.input) × (new.out ≡ old.out)

abbrev pub Did : {I O F : Type 0} → Doing I O F → Objects I O F → List Call → Objects I O F → Type 0
Did doing old [] new = new ≡ old
Did {I} {O} {F} doing old (call ∷ calls) new =
    (next : Objects I O F) × Does doing old call next × Did doing next calls new

-- The counts of faults of the three objects
pub record Counts (I O F : Type 0) : Type 0 where
  pub input_faults : I → ℕ
  pub out_faults : O → ℕ
  pub store_faults : F → ℕ

abbrev pub SameCounts : {I O F : Type 0} → Counts I O F → Objects I O F → Objects I O F → Type 0
SameCounts counts old new =
    (counts.input_faults new.input ≡ counts.input_faults old.input)
    × (counts.out_faults new.out ≡ counts.out_faults old.out)
    × (counts.store_faults new.files ≡ counts.store_faults old.files)

-- no count has changed, or that of the object that failed has risen and the others are as before
abbrev pub CountsSay : {I O F : Type 0} → Counts I O F → Objects I O F → Objects I O F → Option Failing → Type 0
CountsSay counts old new None = SameCounts counts old new
CountsSay counts old new (Some Input) =
    Rose (counts.input_faults old.input) (counts.input_faults new.input)
    × (counts.out_faults new.out ≡ counts.out_faults old.out)
    × (counts.store_faults new.files ≡ counts.store_faults old.files)
CountsSay counts old new (Some Out) =
    Rose (counts.out_faults old.out) (counts.out_faults new.out)
    × (counts.input_faults new.input ≡ counts.input_faults old.input)
    × (counts.store_faults new.files ≡ counts.store_faults old.files)
CountsSay counts old new (Some Store) =
    Rose (counts.store_faults old.files) (counts.store_faults new.files)
    × (counts.input_faults new.input ≡ counts.input_faults old.input)
    × (counts.out_faults new.out ≡ counts.out_faults old.out)

-- a call counts as the traits say: one that failed makes its count rise, every other leaves it
pub record Counted (I O F : Type 0) (doing : Doing I O F) (counts : Counts I O F) : Type 0 where
  pub of_takes : (old : I) (call : TakeCall) (new : I) → doing.takes old call new → TakeCounts (counts.input_faults old) call (counts.input_faults new)
  pub of_puts : (old : O) (call : PutCall) (new : O) → doing.puts old call new → PutCounts (counts.out_faults old) call (counts.out_faults new)
  pub of_files : (old : F) (call : FileCall) (new : F) → doing.stores old call new → FileCounts (counts.store_faults old) call (counts.store_faults new)
