-- The table of commands: of each its words, the names that it may write, its stages, and what it says of its call.
use Rattle.std.specs.Prelude.{◌≡◌, ◌≢◌, ◌⊎◌, ℕ, true, false, List, [], ◌∷◌, Option, Some, None, if◌then◌else◌, codes, Result, Err}
use Rattle.std.specs.List.{list_all}
use Rattle.std.specs.Option.{option_map}
use Rattle.std.specs.Str.{bytes_eq}
use Rattle.p9_base.specs.Calls.{Call}
use Rattle.p9_suite.specs.declared.answer.Answer.{Answer}
use Rattle.p9_suite.specs.declared.answer.Answer.TheVariants.{Refused}
use Rattle.p9_suite.specs.declared.answer.Refusal.{Refusal}
use Rattle.p9_suite.specs.declared.answer.Refusal.TheVariants.{NotBuilt, Memory}
use Rattle.p9_suite.specs.declared.commands.Command as declared
use Rattle.p9_suite.specs.CommandLine.{Named, Budgeted, is_source, first_source, output_and_files, budget_and_files}
use Rattle.p9_suite.specs.Scene.{Scene, IsAnswer}
use Rattle.p9_suite.specs.Stages.{Stage}
use Rattle.p9_suite.specs.commands.Load.{Load as LoadRequest, load_seen, LoadStages, LoadSays}
use Rattle.p9_suite.specs.commands.Run.{Run as RunRequest, run_of, run_seen, RunStages, RunSays}
use Rattle.p9_suite.specs.commands.Va.{Va as VaRequest, va_of, va_seen, VaStages, VaSays}
use Rattle.p9_suite.specs.commands.Vi.{Vi as ViRequest, vi_of, vi_seen, ViStages, ViSays}
pub mod Va
pub mod Vi
pub mod Run
pub mod Load

pub data Command : Type 0 where
  RunCommand : RunRequest → Command
  ViCommand : ViRequest → Command
  VaCommand : VaRequest → Command
  LoadCommand : LoadRequest → Command
  -- this C source can't be built where it stands
  NotBuiltCommand : (file : List ℕ) → Command

-- The words

-- every file is an object
abbrev pub objects_of : Named → Command
objects_of made = LoadCommand (record { by_name = false; budget = None; output = made.output; files = made.files })

-- assembler files and objects; the first C source among them is told
abbrev pub modules_of : Option ℕ → Named → Option (List ℕ) → Command
modules_of budget made (Some source) = NotBuiltCommand source
modules_of budget made None = LoadCommand (record { by_name = true; budget = budget; output = made.output; files = made.files })

abbrev pub build_of : Named → Command
build_of made = modules_of None made (first_source made.files)

-- C sources alone are compiled in the form that is built so far
abbrev pub running_of : Budgeted → Option Command
running_of words =
    if list_all is_source words.made.files then option_map RunCommand (run_of words)
    else Some (modules_of (Some words.budget) words.made (first_source words.made.files))

abbrev pub running : Option Budgeted → Option Command
running None = None
running (Some words) = running_of words

-- the command of the words, where they are one
abbrev pub command_of : (words : List (List ℕ)) → Option Command
command_of [] = None
command_of (name ∷ words) =
    if bytes_eq name (codes "run") then running (budget_and_files words) else
    if bytes_eq name (codes "vi") then option_map ViCommand (vi_of words) else
    if bytes_eq name (codes "va") then option_map VaCommand (va_of words) else
    if bytes_eq name (codes "vl") then option_map objects_of (output_and_files words) else
    if bytes_eq name (codes "build") then option_map build_of (output_and_files words) else None

-- The stages

-- the names that it may write
abbrev pub outputs : Option Command → List (List ℕ)
outputs None = []
outputs (Some (RunCommand run)) = run.output ∷ []
outputs (Some (ViCommand vi)) = []
outputs (Some (VaCommand va)) = va.output ∷ []
outputs (Some (LoadCommand load)) = load.output ∷ []
outputs (Some (NotBuiltCommand file)) = []

-- no file is read, and no other call made
abbrev pub TellsNotBuilt : (file : List ℕ) → Stage Call Answer
TellsNotBuilt file result calls = ((result ≡ Err (NotBuilt file)) ⊎ (result ≡ Err Memory)) × (calls ≡ [])

abbrev pub stages : Command → Stage Call Answer
stages (RunCommand run) = RunStages run
stages (ViCommand vi) = ViStages vi
stages (VaCommand va) = VaStages va
stages (LoadCommand load) = LoadStages load
stages (NotBuiltCommand file) = TellsNotBuilt file

-- What it says of its call

-- where memory sufficed
abbrev pub NotBuiltSays : {I O F : Type 0} → Scene I O F → (file : List ℕ) → Type 0
NotBuiltSays call file = call.status ≢ 10 → IsAnswer call (Refused (NotBuilt file))

abbrev pub CommandSays : {I O F : Type 0} → Scene I O F → Command → Type 0
CommandSays call (RunCommand run) = RunSays call run
CommandSays call (ViCommand vi) = ViSays call vi
CommandSays call (VaCommand va) = VaSays call va
CommandSays call (LoadCommand load) = LoadSays call load
CommandSays call (NotBuiltCommand file) = NotBuiltSays call file

-- the code's value stands for this
abbrev pub command_seen : declared.Command → Command
command_seen (declared.TheVariants.Run run) = RunCommand (run_seen run)
command_seen (declared.TheVariants.Vi vi) = ViCommand (vi_seen vi)
command_seen (declared.TheVariants.Va va) = VaCommand (va_seen va)
command_seen (declared.TheVariants.Load load) = LoadCommand (load_seen load)
command_seen (declared.TheVariants.NotBuilt file) = NotBuiltCommand file.now
