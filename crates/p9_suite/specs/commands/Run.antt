-- The command `run` of C sources: files are read in order and compiled, the executable is written, and then simulated.
use Rattle.std.specs.Prelude.{◌≡◌, ◌≢◌, ◌≤◌, ◌⊎◌, ◌↔◌, ℕ, true, List, [], ◌∷◌, ◌++◌, map, length, nat_le, Option, Some, None, IfSome, IsSomeAnd, if◌then◌else◌, Result, Ok, Err}
use Rattle.p9_abs.specs.BuiltIn.{linked}
use Rattle.p9_agree.specs.Depth.{IsNotDeep}
use Rattle.p9_agree.specs.Modules.{IsModuleOf, AreModulesOf}
use Rattle.p9_base.specs.CallBytes.{IsSteady, brought_in, written_in}
use Rattle.p9_base.specs.Calls.{Call, StreamCall, OnStream, OnFiles, Did}
use Rattle.p9_base.specs.Outside.{FileCall, WriteCall, Held}
use Rattle.p9_first.specs.declared.Cause.{Cause}
use Rattle.p9_first.specs.declared.Place.{Place}
use Rattle.p9_first.specs.CRun.{source_run}
use Rattle.p9_first.specs.Joins.{Join}
use Rattle.p9_first.specs.Modules.{Source, sources_of}
use Rattle.p9_first.specs.Turns as outcome
use Rattle.p9_first.specs.declared.module.Module.{Module}
use Rattle.p9_form.specs.declared.file.File.{File}
use Rattle.p9_form.specs.Items.{items_of, source_of}
use Rattle.p9_form.specs.Sharing.{IsSmall}
use Rattle.p9_form.specs.Spelling.{HasForm, HasNoForm}
use Rattle.p9_headline.specs.declared.TheConstants.{DEFAULT_BUDGET}
use Rattle.p9_headline.specs.Executable.{IsStripped}
use Rattle.p9_headline.specs.Headline.{KeepsMeaning}
use Rattle.p9_names.specs.Answers.{Joins, IsRefusal}
use Rattle.p9_names.specs.declared.table.LinkFault.{LinkFault}
use Rattle.p9_names.specs.declared.table.LinkFault.TheVariants as links
use Rattle.p9_share.specs.Symbols.{module_of}
use Rattle.p9_straight.specs.Headline.{union_run, EndsInTime}
use Rattle.p9_suite.specs.declared.answer.Answer.{Answer}
use Rattle.p9_suite.specs.declared.answer.Answer.TheVariants.{Refused}
use Rattle.p9_suite.specs.declared.answer.Refusal.{Refusal}
use Rattle.p9_suite.specs.declared.answer.Refusal.TheVariants.{Absent, NotBuilt, Link, Memory}
use Rattle.p9_suite.specs.declared.commands.run.request.Run as declared
use Rattle.p9_suite.specs.CommandLine.{Budgeted}
use Rattle.p9_suite.specs.Scene.{Scene, IsAnswer, HasPut, held, held_now, left, left_now, has_run}
use Rattle.p9_suite.specs.Simulation.{WritesAndRuns, IsRunBy, exit_answer}
use Rattle.p9_suite.specs.Stages.{Stage, Then, Each, OnStore, ReadsFile}
use Rattle.p9_suite.specs.Told.{OfRun}

-- The words

-- files are compiled, the executable is written by this name, and simulated for at most so many instructions
pub record Run : Type 0 where
  pub budget : ℕ
  pub output : List ℕ
  pub files : List (List ℕ)

-- of C sources alone there are at most 16
abbrev pub run_of : Budgeted → Option Run
run_of words =
    if nat_le (length words.made.files) 16
    then Some (record { budget = words.budget; output = words.made.output; files = words.made.files }) else None

-- the code's value stands for this
abbrev pub run_seen : declared.Run → Run
run_seen run = record { budget = run.budget; output = run.output.now; files = run.files.now }

-- Files

-- bytes are taken as a file of the form
pub data TakesForm {C : Type 0} (name bytes : List ℕ) : Result File Refusal → List C → Type 0 where
  taken : (file : File) → HasForm bytes (items_of file) → IsSmall file → TakesForm name bytes (Ok file) []
  formless : HasNoForm bytes → TakesForm name bytes (Err (NotBuilt name)) []
  take_no_memory : TakesForm name bytes (Err Memory) []

abbrev pub ReadsForm : (name : List ℕ) → Stage FileCall File
ReadsForm name = Then (ReadsFile name) (TakesForm name)

abbrev pub ReadsForms : (names : List (List ℕ)) → Stage FileCall (List File)
ReadsForms = Each ReadsForm

-- The executable

-- The files join, and the bytes are an executable without symbols that keeps the meaning of their sources. What is
-- special to the form: their run always has room for its calls, and where it does nothing undefined, the machine has
-- exited within the default budget.
pub record IsProgram (files : List File) (bytes : List ℕ) : Type 0 where
  pub joins : Joins (linked (map module_of files))
  pub stripped : IsStripped bytes
  pub keeps : KeepsMeaning (union_run (map source_of files)) bytes
  pub has_room : (input : List ℕ) (turns : ℕ) → IsNotDeep (source_run (map source_of files) input turns)
  pub ends : EndsInTime (map source_of files) bytes

-- files are joined and compiled
pub data Links {C : Type 0} (files : List File) : Result (List ℕ) Refusal → List C → Type 0 where
  compiled : (bytes : List ℕ) → IsProgram files bytes → Links files (Ok bytes) []
  unlinked : (why : LinkFault) → IsRefusal (linked (map module_of files)) why → Links files (Err (Link why)) []
  link_no_memory : Links files (Err Memory) []

-- The stages

abbrev pub LinksAndRuns : (output : List ℕ) (budget : ℕ) → List File → Stage Call Answer
LinksAndRuns output budget files = Then (Links files) (WritesAndRuns output budget)

abbrev pub RunStages : Run → Stage Call Answer
RunStages run = Then (OnStore (ReadsForms run.files)) (LinksAndRuns run.output run.budget)

-- What the store says of the answer

-- at these names stand bytes, of which each fits the value at its place
abbrev pub AreAt : {A : Type 0} → (Fits : (bytes : List ℕ) → A → Type 0) → Held → (names : List (List ℕ)) → List A → Type 0
AreAt Fits held [] [] = Unit {0}
AreAt Fits held [] (value ∷ values) = ⊥
AreAt Fits held (name ∷ names) [] = ⊥
AreAt Fits held (name ∷ names) (value ∷ values) = (bytes : List ℕ) × (held name ≡ Some bytes) × Fits bytes value × AreAt Fits held names values

-- the bytes at these names have the form of these files
abbrev pub AreFiles : Held → (names : List (List ℕ)) → List File → Type 0
AreFiles = AreAt (λ bytes file. HasForm bytes (items_of file))

-- so it is with what the store has at one of the names, and at those before it are files of the form
abbrev pub IsFirst : (Fault : (name : List ℕ) → Option (List ℕ) → Type 0) → Held → (names : List (List ℕ)) → Type 0
IsFirst Fault held [] = ⊥
IsFirst Fault held (name ∷ names) =
    Fault name (held name)
    ⊎ ((file : File) × (bytes : List ℕ) × (held name ≡ Some bytes) × HasForm bytes (items_of file) × IsFirst Fault held names)

abbrev pub IsAbsent : (name : List ℕ) → Option (List ℕ) → Type 0
IsAbsent name there = there ≡ None

abbrev pub IsFormless : (name : List ℕ) → Option (List ℕ) → Type 0
IsFormless name there = IsSomeAnd there HasNoForm

-- the files have this fault, which memory sufficed to find
abbrev pub AreRefused : List File → LinkFault → Type 0
AreRefused files why = (why ≢ links.Memory) × IsRefusal (linked (map module_of files)) why

-- the first of these that holds
pub data RunAnswer {I O F : Type 0} (call : Scene I O F) (run : Run) (before : Held) : Type 0 where
  at_absent : IsFirst (λ name there. IsAbsent name there × IsAnswer call (Refused (Absent name))) before run.files →
      RunAnswer call run before
  at_formless : IsFirst (λ name there. IsFormless name there × IsAnswer call (Refused (NotBuilt name))) before run.files →
      RunAnswer call run before
  at_refused : (files : List File) → AreFiles before run.files files →
      (why : LinkFault) → AreRefused files why → IsAnswer call (Refused (Link why)) → RunAnswer call run before
  at_run : (files : List File) → AreFiles before run.files files →
      (bytes : List ℕ) → IsProgram files bytes → IsSomeAnd (held_now call) (λ now. now run.output ≡ Some bytes) →
      OfRun call bytes run.budget → RunAnswer call run before

-- the answer, and the statuses 6, 16 and 5 exactly; at every other the files join
pub record OfFiles {I O F : Type 0} (call : Scene I O F) (run : Run) (before : Held) : Type 0 where
  pub answer : RunAnswer call run before
  pub absent : (call.status ≡ 6) ↔ IsFirst IsAbsent before run.files
  pub formless : (call.status ≡ 16) ↔ IsFirst IsFormless before run.files
  pub refused : (call.status ≡ 5) ↔ ((files : List File) × AreFiles before run.files files × (why : LinkFault) × AreRefused files why)
  pub joined :
      call.status ≢ 6 → call.status ≢ 16 → call.status ≢ 5 →
      (files : List File) × AreFiles before run.files files × Joins (linked (map module_of files))

-- where the store tells what it holds, no call on it failed and memory sufficed
abbrev pub FilesSay : {I O F : Type 0} → Scene I O F → Run → Type 0
FilesSay call run = call.status ≢ 9 → call.status ≢ 10 → IfSome (held call) (λ before. OfFiles call run before)

-- The units of the language so far. So the bytes are the C module: they spell a file of the form, and its tree with
-- its types is the module.
abbrev pub IsUnit : (bytes : List ℕ) → Module → Type 0
IsUnit bytes m = (file : File) × HasForm bytes (items_of file) × IsModuleOf file m

-- the files at these names are these modules
abbrev pub AreUnits : Held → (names : List (List ℕ)) → List Module → Type 0
AreUnits = AreAt IsUnit

-- the executable stands in the store and keeps the meaning of the modules' union, and the answer is that of its run
pub record KeepsUnion {I O F : Type 0} (call : Scene I O F) (run : Run) (units : List Module) : Type 0 where
  pub bytes : List ℕ
  pub stands : IsSomeAnd (held_now call) (λ now. now run.output ≡ Some bytes)
  pub keeps : KeepsMeaning (union_run (sources_of units)) bytes
  pub runs : OfRun call bytes run.budget

-- For every store and modules such that the files at the words are these modules, and these join by C's own
-- definition: where no call on the store failed and memory sufficed, `run` keeps their meaning.
abbrev pub Headline : {I O F : Type 0} → Scene I O F → Run → Type 0
Headline call run =
    (units : List Module) → IfSome (held call) (λ before. AreUnits before run.files units → Join (sources_of units) →
    call.status ≢ 9 → call.status ≢ 10 → KeepsUnion call run units)

-- What is special to the form of C so far, and goes when C is compiled whole: the programs of `run` read nothing, and
-- where they do nothing undefined they have ended within the default budget.

-- for this input the sources do nothing undefined
abbrev pub DoNothingUndefined : List Source → (input : List ℕ) → Type 0
DoNothingUndefined sources input =
    (turns : ℕ) (output : List ℕ) (why : Cause) (place : Place) → source_run sources input turns ≢ outcome.Undefined output why place

-- for this input the sources have ended with what was written, and the answer is that of their text
pub record HaveEnded {I O F : Type 0} (call : Scene I O F) (sources : List Source) (input written : List ℕ) : Type 0 where
  pub text : List ℕ
  pub turns : ℕ
  pub ended : source_run sources input turns ≡ outcome.Ended written text
  pub answers : IsAnswer call (exit_answer text)

-- Whatever the objects tell: each file was read, the executable was written, and the takes and puts behind that are
-- those of its run. Where the files do nothing undefined on what the takes brought and some bytes behind it, they have
-- ended. A source that tells what is left tells these bytes.
pub record OfForm {I O F : Type 0} (call : Scene I O F) (run : Run) : Type 0 where
  pub files : List File
  pub reads : List FileCall
  pub bytes : List ℕ
  pub behind : List StreamCall
  pub did : Did call.doing call.old (map OnFiles reads ++ OnFiles (WriteCall run.output bytes (Ok tt)) ∷ map OnStream behind) call.new
  pub are : ReadsForms run.files (Ok files) reads
  pub program : IsProgram files bytes
  pub answer : Answer
  pub answers : IsAnswer call answer
  pub runs : IsRunBy bytes run.budget behind answer
  pub takes : (input : List ℕ) → left call ≡ Some input →
      (after : List ℕ) × (input ≡ brought_in behind ++ after) × IsSteady behind after × (left_now call ≡ Some after)
  pub puts : HasPut call (written_in behind)
  pub ends : (after : List ℕ) → IsSteady behind after → DoNothingUndefined (map source_of files) (brought_in behind ++ after) →
      HaveEnded call (map source_of files) (brought_in behind ++ after) (written_in behind)
  -- modules of the files mean the same
  pub modules : (modules : List Module) → AreModulesOf files modules → sources_of modules ≡ map source_of files

-- where the run was whole, and its budget at least the default
abbrev pub FormSays : {I O F : Type 0} → Scene I O F → Run → Type 0
FormSays call run =
    DEFAULT_BUDGET ≤ run.budget → has_run call.status ≡ true → call.status ≢ 7 → call.status ≢ 8 → OfForm call run

-- What it says of its call: its answer is that of the files in the store and of their executable's run, the executable
-- keeps the meaning of the C modules, and what is special to the form.
pub record RunSays {I O F : Type 0} (call : Scene I O F) (run : Run) : Type 0 where
  pub files : FilesSay call run
  pub headline : Headline call run
  pub form : FormSays call run
