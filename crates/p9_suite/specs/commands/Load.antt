-- The commands `vl`, `build` and `run` of assembler files and objects: each file is read and made a module by way of
-- an object's bytes, the modules are loaded, the executable is written, and `run` simulates it.
use Rattle.std.specs.Prelude.{◌≡◌, ◌≢◌, ◌⊎◌, ◌&&◌, ℕ, Bool, true, false, List, [], ◌∷◌, Option, Some, None, IfSome, IsSomeAnd, if◌then◌else◌, Result, Ok, Err}
use Rattle.p9_abs.specs.Programs.{IsPlacing}
use Rattle.p9_abs.specs.declared.modules.AModule.{AModule}
use Rattle.p9_asm.specs.Assembled.{assembled}
use Rattle.p9_asm.specs.declared.fault.AsmFault.{AsmFault}
use Rattle.p9_base.specs.Calls.{Call}
use Rattle.p9_base.specs.Outside.{FileCall, Held}
use Rattle.p9_load.specs.Refusals.{AreLoadable, IsLoadRefusal}
use Rattle.p9_load.specs.Loading.{Loads, RunsAsModules, placing}
use Rattle.p9_load.specs.declared.fault.LoadFault.{LoadFault}
use Rattle.p9_load.specs.declared.fault.LoadFault.TheVariants as loads
use Rattle.p9_load.specs.declared.loaded.Loaded.{Loaded}
use Rattle.p9_object.specs.Laws.{IsObject}
use Rattle.p9_reader.specs.Answers.{answer}
use Rattle.p9_reader.specs.declared.faults.ObjFault.{ObjFault}
use Rattle.p9_suite.specs.declared.answer.Answer.{Answer}
use Rattle.p9_suite.specs.declared.answer.Answer.TheVariants.{Done, Refused}
use Rattle.p9_suite.specs.declared.answer.Refusal.{Refusal}
use Rattle.p9_suite.specs.declared.answer.Refusal.TheVariants.{Absent, Assembly, Object, Load as LoadRefused, Memory}
use Rattle.p9_suite.specs.declared.commands.load.request.Load as declared
use Rattle.p9_suite.specs.CommandLine.{is_assembly}
use Rattle.p9_suite.specs.Scene.{Scene, IsAnswer, held, held_now}
use Rattle.p9_suite.specs.Simulation.{WritesAndRuns}
use Rattle.p9_suite.specs.Stages.{Stage, Then, Each, Gives, OnStore, ReadsFile, WritesFile}
use Rattle.p9_suite.specs.Told.{OfRun}
use Rattle.p9_suite.specs.commands.Va.{Assembles}

-- What is asked

-- The files are loaded and the executable is written by this name; where there is a budget it is simulated for at most
-- so many instructions. By name, a file that ends in `.s` is an assembler file; any other file is an object.
pub record Load : Type 0 where
  pub by_name : Bool
  pub budget : Option ℕ
  pub output : List ℕ
  pub files : List (List ℕ)

-- the code's value stands for this
abbrev pub load_seen : declared.Load → Load
load_seen load = record { by_name = load.by_name; budget = load.budget; output = load.output.now; files = load.files.now }

-- The stages

-- bytes are taken as an object
pub data Decodes {C : Type 0} (name bytes : List ℕ) : Result AModule Refusal → List C → Type 0 where
  decodes : (m : AModule) → answer bytes ≡ Ok m → IsObject m → Decodes name bytes (Ok m) []
  no_object : (why : ObjFault) → answer bytes ≡ Err why → Decodes name bytes (Err (Object name why)) []
  decode_no_memory : Decodes name bytes (Err Memory) []

-- a text is assembled, and what is spelled is taken as an object
abbrev pub TakesText : {C : Type 0} → (name text : List ℕ) → Stage C AModule
TakesText name text = Then (Assembles name text) (Decodes name)

abbrev pub TakesBytes : {C : Type 0} → (is_text : Bool) (name bytes : List ℕ) → Stage C AModule
TakesBytes true name bytes = TakesText name bytes
TakesBytes false name bytes = Decodes name bytes

abbrev pub TakesModule : {C : Type 0} → (by_name : Bool) (name bytes : List ℕ) → Stage C AModule
TakesModule by_name name = TakesBytes (by_name && is_assembly name) name

abbrev pub ReadsModule : (by_name : Bool) (name : List ℕ) → Stage FileCall AModule
ReadsModule by_name name = Then (ReadsFile name) (TakesModule by_name name)

abbrev pub ReadsModules : (by_name : Bool) (names : List (List ℕ)) → Stage FileCall (List AModule)
ReadsModules by_name = Each (ReadsModule by_name)

-- The modules are loadable, and these are the bytes that loading them gives: an executable of their text, data and
-- symbols. From its start the machine shows what the modules' run shows after each number of steps: the same exit text, or
-- the same output so far, within 24n + 24 instructions for n steps.
pub record IsExecutable (modules : List AModule) (bytes : List ℕ) : Type 0 where
  pub loadable : AreLoadable modules
  pub loaded : Loaded
  pub same : bytes ≡ loaded.bytes
  pub loads : Loads modules loaded
  pub placed : IsPlacing modules (placing modules loaded)
  pub runs : RunsAsModules modules loaded

-- modules are loaded
pub data LoadsModules {C : Type 0} (modules : List AModule) : Result (List ℕ) Refusal → List C → Type 0 where
  loads_modules : (bytes : List ℕ) → IsExecutable modules bytes → LoadsModules modules (Ok bytes) []
  not_loaded : (why : LoadFault) → IsLoadRefusal modules why → LoadsModules modules (Err (LoadRefused why)) []

-- an executable is written, and simulated where there is a budget
abbrev pub Writes : (output bytes : List ℕ) → Stage FileCall Answer
Writes output bytes = Then (WritesFile output bytes) (λ _. Gives Done)

abbrev pub DeliversBy : Option ℕ → (output bytes : List ℕ) → Stage Call Answer
DeliversBy None output bytes = OnStore (Writes output bytes)
DeliversBy (Some budget) output bytes = WritesAndRuns output budget bytes

abbrev pub Delivers : Load → (bytes : List ℕ) → Stage Call Answer
Delivers load = DeliversBy load.budget load.output

abbrev pub LoadsAndDelivers : Load → List AModule → Stage Call Answer
LoadsAndDelivers load modules = Then (LoadsModules modules) (Delivers load)

abbrev pub LoadStages : Load → Stage Call Answer
LoadStages load = Then (OnStore (ReadsModules load.by_name load.files)) (LoadsAndDelivers load)

-- What it says of its call

abbrev pub of_text : (name : List ℕ) → Result AModule AsmFault → Result AModule Refusal
of_text name (Ok m) = Ok m
of_text name (Err why) = Err (Assembly name why)

abbrev pub of_object : (name : List ℕ) → Result AModule ObjFault → Result AModule Refusal
of_object name (Ok m) = Ok m
of_object name (Err why) = Err (Object name why)

-- the module of what stands at a name, or why it is none
abbrev pub module_at : (by_name : Bool) (name : List ℕ) → Option (List ℕ) → Result AModule Refusal
module_at by_name name None = Err (Absent name)
module_at by_name name (Some bytes) =
    if by_name && is_assembly name then of_text name (assembled bytes) else of_object name (answer bytes)

-- a module in front of others; what was refused first stays refused
abbrev pub in_front : Result AModule Refusal → Result (List AModule) Refusal → Result (List AModule) Refusal
in_front (Err why) others = Err why
in_front (Ok m) (Err why) = Err why
in_front (Ok m) (Ok ms) = Ok (m ∷ ms)

-- the modules at these names, or the first refusal
abbrev pub modules_at : (by_name : Bool) → Held → (names : List (List ℕ)) → Result (List AModule) Refusal
modules_at by_name before [] = Ok []
modules_at by_name before (name ∷ names) = in_front (module_at by_name name (before name)) (modules_at by_name before names)

-- the command is done; or, with a budget, the answer is that of the executable's run
abbrev pub OfBudget : {I O F : Type 0} → Scene I O F → Option ℕ → (bytes : List ℕ) → Type 0
OfBudget call None bytes = IsAnswer call Done
OfBudget call (Some budget) bytes = OfRun call bytes budget

-- the executable of the modules stands in the store, and the answer is that of these bytes
pub record OfExecutable {I O F : Type 0} (call : Scene I O F) (load : Load) (modules : List AModule) : Type 0 where
  pub bytes : List ℕ
  pub is : IsExecutable modules bytes
  pub stands : IsSomeAnd (held_now call) (λ now. now load.output ≡ Some bytes)
  pub answers : OfBudget call load.budget bytes

-- a refusal, but for want of memory
abbrev pub IsRefused : List AModule → LoadFault → Type 0
IsRefused modules why = (why ≢ loads.Memory) × IsLoadRefusal modules why

-- the modules are loadable or refused; where they are refused, the refusal is the answer
pub record OfModules {I O F : Type 0} (call : Scene I O F) (load : Load) (modules : List AModule) : Type 0 where
  pub either : AreLoadable modules ⊎ ((why : LoadFault) × IsRefused modules why)
  pub loaded : AreLoadable modules → OfExecutable call load modules
  pub refused : (why : LoadFault) → IsRefused modules why → IsAnswer call (Refused (LoadRefused why))

abbrev pub OfFiles : {I O F : Type 0} → Scene I O F → Load → Result (List AModule) Refusal → Type 0
OfFiles call load (Err why) = IsAnswer call (Refused why)
OfFiles call load (Ok modules) = OfModules call load modules

-- where the store tells what it holds, no call on it failed and memory sufficed
abbrev pub FilesSay : {I O F : Type 0} → Scene I O F → Load → Type 0
FilesSay call load =
    call.status ≢ 9 → call.status ≢ 10 → IfSome (held call) (λ before. OfFiles call load (modules_at load.by_name before load.files))

-- and whatever the status: without a budget the source and the sink are as they were
pub record LoadSays {I O F : Type 0} (call : Scene I O F) (load : Load) : Type 0 where
  pub files : FilesSay call load
  pub input : load.budget ≡ None → call.new.input ≡ call.old.input
  pub out : load.budget ≡ None → call.new.out ≡ call.old.out
