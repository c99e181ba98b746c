-- How the takes of one room, and the puts of one piece, are tied to its bytes.
use Rattle.std.specs.Prelude.{◌≡◌, ◌<◌, ℕ, List, ◌++◌, length, take, drop, map, Option, Some, None, Bool, true, false}
use Rattle.p9_base.specs.Outside.{TakeCall, PutCall}
use Rattle.p9_base.specs.Calls.{OnInput, OnOut, StreamsEnd}
use Rattle.p9_base.specs.Core.{Core, over, with_bytes}
use Rattle.p9_base.specs.SystemCalls.{answered}
use Rattle.p9_base.specs.Streams.{CallsDid, fill_failure, puts_failure}
use Rattle.p9_base.specs.CallBytes.{brought, filled_by, written, KeepRests, FoundEnd}

-- so many bytes came, of so many asked for; or a take failed before
abbrev pub Came : (size : ℕ) → Option ℕ → List TakeCall → Type 0
Came size (Some n) calls = (n ≡ length (brought calls)) × (n < size → FoundEnd calls)
Came size None calls = length (brought calls) < size

-- takes brought so many bytes of a room of this size, which becomes what they brought and left
pub record Brings {I : Type 0} (takes : I → TakeCall → I → Type 0) (old new : I) (size : ℕ) (result : Option ℕ) (Becomes : List ℕ → Type 0) : Type 0 where
  pub calls : List TakeCall
  pub did : CallsDid takes old calls new
  pub ends : StreamsEnd (map OnInput calls) (fill_failure result)
  pub came : Came size result calls
  pub fill : length (filled_by calls) ≡ size
  pub is : Becomes (filled_by calls)
  pub kept : KeepRests calls → Becomes (brought calls)

-- a room, a part of a list, and a part of the memory with these bytes in front

abbrev pub RoomIs : (room filled : List ℕ) → List ℕ → Type 0
RoomIs room filled xs = filled ≡ xs ++ drop (length xs) room

abbrev pub PartIs : (bytes new : List ℕ) (i : ℕ) → List ℕ → Type 0
PartIs bytes new i xs = new ≡ over bytes i xs

abbrev pub MemoryIs : (old new : Core) (at : ℕ) → List ℕ → Type 0
MemoryIs old new at xs = new ≡ with_bytes old at xs

abbrev pub AnswerIs : (old new : Core) (at n : ℕ) → List ℕ → Type 0
AnswerIs old new at n xs = new ≡ answered (with_bytes old at xs) n

-- a read was done, or a take failed before
abbrev pub ReadBrings : {I : Type 0} → (I → TakeCall → I → Type 0) → (input input' : I) → (old new : Core) (at size : ℕ) → Bool → Type 0
ReadBrings takes input input' old new at size true =
    (n : ℕ) × Brings takes input input' size (Some n) (AnswerIs old new at n)
ReadBrings takes input input' old new at size false = Brings takes input input' size None (MemoryIs old new at)

-- the whole piece was written, or a part of it
abbrev pub Wrote : (piece : List ℕ) → Bool → List ℕ → Type 0
Wrote piece true bytes = bytes ≡ piece
Wrote piece false bytes = (bytes ≡ take (length bytes) piece) × (length bytes < length piece)

-- puts wrote the bytes of a piece
pub record WritesPiece {O : Type 0} (puts : O → PutCall → O → Type 0) (old new : O) (piece : List ℕ) (result : Bool) : Type 0 where
  pub calls : List PutCall
  pub did : CallsDid puts old calls new
  pub ends : StreamsEnd (map OnOut calls) (puts_failure result)
  pub wrote : Wrote piece result (written calls)
