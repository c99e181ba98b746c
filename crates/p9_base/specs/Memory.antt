-- The source, the sink and the store of files that lie in memory: what they tell, and when their calls fail.
use Rattle.std.specs.Prelude.{◌≡◌, ◌≢◌, ◌≤◌, ◌⊎◌, ℕ, List, [], ◌∷◌, ◌++◌, Option, Some, None, take, drop, length, if◌then◌else◌, Bool, true, false, ◌==◌, ◌||◌, nat_le, min, ◌+◌, ◌-◌, ◌^◌, Result, Ok, Err, AllPairs, map}
use Rattle.std.specs.Str.{bytes_eq}
use Rattle.std.specs.List.{list_any}
use Rattle.p9_base.specs.declared.bytes.Entry.{Entry}
use Rattle.p9_base.specs.declared.outside.Took as took
use Rattle.p9_base.specs.declared.outside.Put as put
use Rattle.p9_base.specs.declared.outside.Got as got
use Rattle.p9_base.specs.declared.outside.FileFault as fault
use Rattle.p9_base.specs.Outside.{Held, TakeCall, Take, PutCall, PutPiece, FileCall, ReadCall, WriteCall, OthersAsBefore}

-- the numbers of the calls that are to fail, the number of the next call, and how many have failed
pub record Faults : Type 0 where
  pub fails : List ℕ
  pub calls : ℕ
  pub failed : ℕ

-- a count of 64 bits, which stays at its end
abbrev pub next_count : ℕ → ℕ
next_count n = min (n + 1) (2 ^ 64 - 1)

-- the call to come is among those that are to fail
abbrev pub is_to_fail : Faults → Bool
is_to_fail f = list_any (λ n. n == f.calls) f.fails

abbrev pub after_failure : Faults → Faults
after_failure f = record { fails = f.fails; calls = next_count f.calls; failed = next_count f.failed }

abbrev pub after_success : Faults → Faults
after_success f = record { fails = f.fails; calls = next_count f.calls; failed = f.failed }

-- A source

pub record SourceState : Type 0 where
  pub left : List ℕ
  pub faults : Faults

-- how many bytes a take moves: as many as are left and as the room holds
abbrev pub moved : List ℕ → List ℕ → ℕ
moved left room = min (length left) (length room)

-- a take fails where it is to, else ends where nothing is left, else moves as much as it can
abbrev pub SourceTakes : SourceState → TakeCall → SourceState → Type 0
SourceTakes old (Take room filled (took.TheVariants.Got n)) new =
    (is_to_fail old.faults ≡ false) × (old.left ≢ []) × (n ≡ moved old.left room)
    × (filled ≡ take n old.left ++ drop n room)
    × (new ≡ record { left = drop n old.left; faults = after_success old.faults })
SourceTakes old (Take room filled took.TheVariants.End) new =
    (is_to_fail old.faults ≡ false) × (old.left ≡ []) × (filled ≡ room)
    × (new ≡ record { left = old.left; faults = after_success old.faults })
SourceTakes old (Take room filled took.TheVariants.Failed) new =
    (is_to_fail old.faults ≡ true) × (filled ≡ room)
    × (new ≡ record { left = old.left; faults = after_failure old.faults })

-- A sink

pub record SinkState : Type 0 where
  pub sofar : List ℕ
  pub room : ℕ
  pub faults : Faults

-- a put fails where it is to, or where the sink is full; else it appends as much as fits
abbrev pub SinkPuts : SinkState → PutCall → SinkState → Type 0
SinkPuts old (PutPiece piece (put.TheVariants.Wrote n)) new =
    (is_to_fail old.faults ≡ false) × (n ≡ min (length piece) (old.room - length old.sofar)) × (1 ≤ n)
    × (new ≡ record { sofar = old.sofar ++ take n piece; room = old.room; faults = after_success old.faults })
SinkPuts old (PutPiece piece put.TheVariants.Failed) new =
    ((is_to_fail old.faults ≡ true) ⊎ (old.room ≤ length old.sofar))
    × (new ≡ record { sofar = old.sofar; room = old.room; faults = after_failure old.faults })

-- A store of files

-- the first file of that name
abbrev pub held_by : List Entry → Held
held_by [] name = None
held_by (e ∷ es) name = if bytes_eq e.name name then Some e.bytes else held_by es name

-- no two files have one name
abbrev pub HaveOwnNames : List Entry → Type 0
HaveOwnNames files = AllPairs (λ a b. a ≢ b) (map (λ e. e.name) files)

pub record StoreState : Type 0 where
  pub files : List Entry
  pub faults : Faults

abbrev pub StoreDoes : StoreState → FileCall → StoreState → Type 0
StoreDoes old (ReadCall name (got.TheVariants.Found bytes)) new =
    (is_to_fail old.faults ≡ false) × (held_by old.files name ≡ Some bytes)
    × (new ≡ record { files = old.files; faults = after_success old.faults })
StoreDoes old (ReadCall name got.TheVariants.Absent) new =
    (is_to_fail old.faults ≡ false) × (held_by old.files name ≡ None)
    × (new ≡ record { files = old.files; faults = after_success old.faults })
StoreDoes old (ReadCall name got.TheVariants.Failed) new =
    (is_to_fail old.faults ≡ true) × (new ≡ record { files = old.files; faults = after_failure old.faults })
StoreDoes old (ReadCall name got.TheVariants.NoMemory) new =
    (is_to_fail old.faults ≡ false) × (new ≡ record { files = old.files; faults = after_success old.faults })
StoreDoes old (WriteCall name bytes (Ok _)) new =
    (is_to_fail old.faults ≡ false) × (held_by new.files name ≡ Some bytes) × OthersAsBefore (held_by old.files) (held_by new.files) name
    × (new.faults ≡ after_success old.faults)
StoreDoes old (WriteCall name bytes (Err fault.TheVariants.Failed)) new =
    (is_to_fail old.faults ≡ true) × (new ≡ record { files = old.files; faults = after_failure old.faults })
StoreDoes old (WriteCall name bytes (Err fault.TheVariants.NoMemory)) new =
    (is_to_fail old.faults ≡ false) × (new ≡ record { files = old.files; faults = after_success old.faults })
