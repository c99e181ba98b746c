-- What a call on a source, a sink or a store of files does to its content and to its count of faults.
use Rattle.std.specs.Prelude.{◌≡◌, ◌≢◌, ◌<◌, ◌≤◌, ℕ, ◌+◌, ◌-◌, ◌^◌, min, max, List, [], ◌++◌, length, take, drop, Option, Some, None, Result, Ok, Err, IfSome, IsSomeAnd}
use Rattle.p9_base.specs.declared.outside.Took as took
use Rattle.p9_base.specs.declared.outside.Put as put
use Rattle.p9_base.specs.declared.outside.Got as got
use Rattle.p9_base.specs.declared.outside.FileFault as fault

-- the count has risen, or stands at its end
abbrev pub Rose : ℕ → ℕ → Type 0
Rose before now = max before (min (before + 1) (2 ^ 64 - 1)) ≤ now

-- A source

-- a call on a source: the room as it was and as it is left, and the answer
pub data TakeCall : Type 0 where
  Take : (room filled : List ℕ) (answer : took.Took) → TakeCall

-- what a take does to the bytes that are left, and to the room
abbrev pub Takes : Option (List ℕ) → Option (List ℕ) → List ℕ → List ℕ → took.Took → Type 0
Takes left later room filled (took.TheVariants.Got n) =
    (1 ≤ n) × (n ≤ length room)
    × IfSome left (λ bytes. (n ≤ length bytes) × (later ≡ Some (drop n bytes)) × (filled ≡ take n bytes ++ drop n room))
Takes left later room filled took.TheVariants.End = (later ≡ left) × IfSome left (λ bytes. (bytes ≡ []) × (filled ≡ room))
Takes left later room filled took.TheVariants.Failed = (later ≡ left) × IfSome left (λ bytes. filled ≡ room)

abbrev pub TakeCause : ℕ → ℕ → took.Took → Type 0
TakeCause before now (took.TheVariants.Got n) = now ≡ before
TakeCause before now took.TheVariants.End = now ≡ before
TakeCause before now took.TheVariants.Failed = Rose before now

abbrev pub TakeCounts : ℕ → TakeCall → ℕ → Type 0
TakeCounts before (Take room filled answer) now = TakeCause before now answer

-- what a call means for the content and the count of a source
abbrev pub TakeMeans : Option (List ℕ) → ℕ → TakeCall → Option (List ℕ) → ℕ → Type 0
TakeMeans left before (Take room filled answer) later now = Takes left later room filled answer × TakeCause before now answer

-- A sink

-- a call on a sink: the piece and the answer
pub data PutCall : Type 0 where
  PutPiece : (piece : List ℕ) (answer : put.Put) → PutCall

abbrev pub Puts : Option (List ℕ) → Option (List ℕ) → List ℕ → put.Put → Type 0
Puts sofar later piece (put.TheVariants.Wrote n) =
    (1 ≤ n) × (n ≤ length piece) × IfSome sofar (λ bytes. later ≡ Some (bytes ++ take n piece))
Puts sofar later piece put.TheVariants.Failed = later ≡ sofar

abbrev pub PutCause : ℕ → ℕ → put.Put → Type 0
PutCause before now (put.TheVariants.Wrote n) = now ≡ before
PutCause before now put.TheVariants.Failed = Rose before now

abbrev pub PutCounts : ℕ → PutCall → ℕ → Type 0
PutCounts before (PutPiece piece answer) now = PutCause before now answer

-- what a call means for the content and the count of a sink
abbrev pub PutMeans : Option (List ℕ) → ℕ → PutCall → Option (List ℕ) → ℕ → Type 0
PutMeans sofar before (PutPiece piece answer) later now = Puts sofar later piece answer × PutCause before now answer

-- A store of files

-- a map from names to bytes
abbrev pub Held : Type 0
Held = List ℕ → Option (List ℕ)

-- a call on a store, with its answer
pub data FileCall : Type 0 where
  ReadCall : (name : List ℕ) (answer : got.Got) → FileCall
  WriteCall : (name bytes : List ℕ) (answer : Result (Unit {0}) fault.FileFault) → FileCall

-- what a read answers where the name has this
abbrev pub Answers : Option (List ℕ) → got.Got → Type 0
Answers there (got.TheVariants.Found bytes) = there ≡ Some bytes
Answers there got.TheVariants.Absent = there ≡ None
Answers there got.TheVariants.Failed = Unit {0}
Answers there got.TheVariants.NoMemory = Unit {0}

-- a read leaves the map as it was
abbrev pub Reads : Option Held → Option Held → List ℕ → got.Got → Type 0
Reads held later name answer = (later ≡ held) × IfSome held (λ files. Answers (files name) answer)

abbrev pub ReadCause : ℕ → ℕ → got.Got → Type 0
ReadCause before now (got.TheVariants.Found bytes) = now ≡ before
ReadCause before now got.TheVariants.Absent = now ≡ before
ReadCause before now got.TheVariants.Failed = Rose before now
ReadCause before now got.TheVariants.NoMemory = now ≡ before

-- every other name is as before
abbrev pub OthersAsBefore : Held → Held → List ℕ → Type 0
OthersAsBefore before now name = (q : List ℕ) → q ≢ name → now q ≡ before q

abbrev pub Writes : Option Held → Option Held → List ℕ → List ℕ → Result (Unit {0}) fault.FileFault → Type 0
Writes held later name bytes (Ok _) =
    IfSome held (λ before. IsSomeAnd later (λ now. (now name ≡ Some bytes) × OthersAsBefore before now name))
Writes held later name bytes (Err fault.TheVariants.Failed) =
    IfSome held (λ before. IsSomeAnd later (λ now. OthersAsBefore before now name))
Writes held later name bytes (Err fault.TheVariants.NoMemory) = later ≡ held

abbrev pub WriteCause : ℕ → ℕ → Result (Unit {0}) fault.FileFault → Type 0
WriteCause before now (Ok _) = now ≡ before
WriteCause before now (Err fault.TheVariants.Failed) = Rose before now
WriteCause before now (Err fault.TheVariants.NoMemory) = now ≡ before

abbrev pub FileCounts : ℕ → FileCall → ℕ → Type 0
FileCounts before (ReadCall name answer) now = ReadCause before now answer
FileCounts before (WriteCall name bytes answer) now = WriteCause before now answer

-- what a call means for the content and the count of a store
abbrev pub FileMeans : Option Held → ℕ → FileCall → Option Held → ℕ → Type 0
FileMeans held before (ReadCall name answer) later now = Reads held later name answer × ReadCause before now answer
FileMeans held before (WriteCall name bytes answer) later now = Writes held later name bytes answer × WriteCause before now answer
