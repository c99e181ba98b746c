-- Stages: a command is made of them. A stage says with which calls each of its results comes: a value, with which the
-- command goes on, or a refusal, which ends it.
use Rattle.std.specs.Prelude.{◌≡◌, ℕ, List, [], ◌∷◌, ◌++◌, map, Result, Ok, Err}
use Rattle.p9_aout.specs.Image.{ImageParts, image_of}
use Rattle.p9_aout.specs.declared.format.AoutFault.{AoutFault}
use Rattle.p9_base.specs.Calls.{Call, OnFiles, OnStream, StreamCall, StreamsDid, Objects, Doing, Did}
use Rattle.p9_base.specs.Outside.{TakeCall, PutCall, FileCall, ReadCall, WriteCall}
use Rattle.p9_base.specs.Streams.{CallsDid}
use Rattle.p9_base.specs.declared.outside.FileFault.TheVariants as store
use Rattle.p9_base.specs.declared.outside.Got.TheVariants as got
use Rattle.p9_suite.specs.declared.answer.Refusal.{Refusal}
use Rattle.p9_suite.specs.declared.answer.Refusal.TheVariants.{Absent, StoreFault, Executable, Memory}

abbrev pub Stage : (C A : Type 0) → Type 1
Stage C A = Result A Refusal → List C → Type 0

-- one stage and then another, which is given the value of the first: the first refusal ends both
pub data Then {C A B : Type 0} (first : Stage C A) (next : A → Stage C B) : Result B Refusal → List C → Type 0 where
  stops : (why : Refusal) (calls : List C) → first (Err why) calls → Then first next (Err why) calls
  goes_on : (value : A) (result : Result B Refusal) (front behind : List C) →
      first (Ok value) front → next value result behind → Then first next result (front ++ behind)

-- a value without calls
abbrev pub Gives : {C A : Type 0} → A → Stage C A
Gives value result calls = (result ≡ Ok value) × (calls ≡ [])

-- a stage for each of these, one after the other
abbrev pub Each : {C A : Type 0} → (stage : List ℕ → Stage C A) → (names : List (List ℕ)) → Stage C (List A)
Each stage [] = Gives []
Each stage (name ∷ names) = Then (stage name) (λ value. Then (Each stage names) (λ values. Gives (value ∷ values)))

-- a stage that makes its calls on the store alone, or on the source and the sink alone, among the others
abbrev pub OnStore : {A : Type 0} → Stage FileCall A → Stage Call A
OnStore stage result calls = (own : List FileCall) × (calls ≡ map OnFiles own) × stage result own

abbrev pub OnStreams : {A : Type 0} → Stage StreamCall A → Stage Call A
OnStreams stage result calls = (own : List StreamCall) × (calls ≡ map OnStream own) × stage result own

-- the calls that were made are those of a stage with this result: of all calls, on the store alone, and on the source
-- and the sink alone

abbrev pub Makes : {I O F A : Type 0} → Doing I O F → (old new : Objects I O F) → Stage Call A → Result A Refusal → Type 0
Makes doing old new stage result = (calls : List Call) × Did doing old calls new × stage result calls

abbrev pub MakesOnStore : {F A : Type 0} → (F → FileCall → F → Type 0) → (old new : F) → Stage FileCall A → Result A Refusal → Type 0
MakesOnStore does old new stage result = (calls : List FileCall) × CallsDid does old calls new × stage result calls

abbrev pub MakesOnStreams : {I O A : Type 0} → (I → TakeCall → I → Type 0) → (O → PutCall → O → Type 0) → (i : I) (o : O) (j : I) (p : O) → Stage StreamCall A → Result A Refusal → Type 0
MakesOnStreams takes puts i o j p stage result =
    (calls : List StreamCall) × StreamsDid takes puts i o calls j p × stage result calls

-- The stages of several commands

-- a file is read; the name that a refusal tells takes memory, before the call
pub data ReadsFile (name : List ℕ) : Result (List ℕ) Refusal → List FileCall → Type 0 where
  found : (bytes : List ℕ) → ReadsFile name (Ok bytes) (ReadCall name (got.Found bytes) ∷ [])
  absent : ReadsFile name (Err (Absent name)) (ReadCall name got.Absent ∷ [])
  read_fault : ReadsFile name (Err (StoreFault name)) (ReadCall name got.Failed ∷ [])
  read_no_memory : ReadsFile name (Err Memory) (ReadCall name got.NoMemory ∷ [])
  name_no_memory : ReadsFile name (Err Memory) []

-- bytes are written as a file
pub data WritesFile (name bytes : List ℕ) : Result (Unit {0}) Refusal → List FileCall → Type 0 where
  written : WritesFile name bytes (Ok tt) (WriteCall name bytes (Ok tt) ∷ [])
  write_fault : WritesFile name bytes (Err (StoreFault name)) (WriteCall name bytes (Err store.Failed) ∷ [])
  write_no_memory : WritesFile name bytes (Err Memory) (WriteCall name bytes (Err store.NoMemory) ∷ [])
  output_no_memory : WritesFile name bytes (Err Memory) []

-- a file's bytes are taken as an executable; a machine for it takes all memory of its run
pub data Loads {C : Type 0} (name bytes : List ℕ) : Result ImageParts Refusal → List C → Type 0 where
  loaded : (parts : ImageParts) → image_of bytes ≡ Ok parts → Loads name bytes (Ok parts) []
  unloaded : (why : AoutFault) → image_of bytes ≡ Err why → Loads name bytes (Err (Executable name why)) []
  load_no_memory : Loads name bytes (Err Memory) []
