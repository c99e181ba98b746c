-- The command `vi`: an executable is read and simulated.
use Rattle.std.specs.Prelude.{◌≢◌, ℕ, List, [], ◌∷◌, Option, Some, None, if◌then◌else◌, codes, IfSome, Result, Ok, Err}
use Rattle.std.specs.Str.{bytes_eq}
use Rattle.p9_aout.specs.Image.{ImageParts, image_of}
use Rattle.p9_aout.specs.declared.format.AoutFault.{AoutFault}
use Rattle.p9_base.specs.Calls.{Call}
use Rattle.p9_headline.specs.declared.TheConstants.{DEFAULT_BUDGET}
use Rattle.p9_suite.specs.declared.answer.Answer.{Answer}
use Rattle.p9_suite.specs.declared.answer.Answer.TheVariants.{Refused}
use Rattle.p9_suite.specs.declared.answer.Refusal.TheVariants.{Absent, Executable}
use Rattle.p9_suite.specs.declared.commands.vi.Vi as declared
use Rattle.p9_suite.specs.CommandLine.{is_file, number_of}
use Rattle.p9_suite.specs.Scene.{Scene, IsAnswer, held}
use Rattle.p9_suite.specs.Simulation.{RunsFile}
use Rattle.p9_suite.specs.Stages.{Stage, Then, OnStore, OnStreams, ReadsFile}
use Rattle.p9_suite.specs.Told.{OfRun}

-- The words

-- an executable is simulated for at most so many instructions
pub record Vi : Type 0 where
  pub budget : ℕ
  pub file : List ℕ

abbrev pub vi_with : Option ℕ → (file : List ℕ) → Option Vi
vi_with None file = None
vi_with (Some budget) file = if is_file file then Some (record { budget = budget; file = file }) else None

-- the words behind `vi` are a file, with or without a budget before it
abbrev pub vi_of : (words : List (List ℕ)) → Option Vi
vi_of (file ∷ []) = vi_with (Some DEFAULT_BUDGET) file
vi_of (option ∷ number ∷ file ∷ []) = if bytes_eq option (codes "-n") then vi_with (number_of number) file else None
vi_of _ = None

-- the code's value stands for this
abbrev pub vi_seen : declared.Vi → Vi
vi_seen vi = record { budget = vi.budget; file = vi.file.now }

-- The stages

abbrev pub ViStages : Vi → Stage Call Answer
ViStages vi = Then (OnStore (ReadsFile vi.file)) (λ bytes. OnStreams (RunsFile vi.file bytes vi.budget))

-- What it says of its call

-- the answer, by the image that the bytes are, or their first fault
abbrev pub OfBytes : {I O F : Type 0} → Scene I O F → Vi → (bytes : List ℕ) → Result ImageParts AoutFault → Type 0
OfBytes call vi bytes (Err why) = IsAnswer call (Refused (Executable vi.file why))
OfBytes call vi bytes (Ok parts) = OfRun call bytes vi.budget

-- and by what is at the file's name
abbrev pub OfFile : {I O F : Type 0} → Scene I O F → Vi → Option (List ℕ) → Type 0
OfFile call vi None = IsAnswer call (Refused (Absent vi.file))
OfFile call vi (Some bytes) = OfBytes call vi bytes (image_of bytes)

-- where the store tells what it holds, no call on it failed and memory sufficed
abbrev pub ViSays : {I O F : Type 0} → Scene I O F → Vi → Type 0
ViSays call vi =
    call.status ≢ 9 → call.status ≢ 10 → IfSome (held call) (λ before. OfFile call vi (before vi.file))
