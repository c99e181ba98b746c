-- The command `va`: an assembler file is read, assembled, and its object written.
use Rattle.std.specs.Prelude.{◌≡◌, ◌≢◌, ◌&&◌, ℕ, List, [], ◌∷◌, Option, Some, None, if◌then◌else◌, codes, IfSome, IsSomeAnd, Result, Ok, Err}
use Rattle.std.specs.Str.{bytes_eq}
use Rattle.p9_abs.specs.declared.modules.AModule.{AModule}
use Rattle.p9_asm.specs.Assembled.{assembled}
use Rattle.p9_asm.specs.declared.fault.AsmFault.{AsmFault}
use Rattle.p9_base.specs.Calls.{Call}
use Rattle.p9_base.specs.Outside.{FileCall}
use Rattle.p9_object.specs.Fields.{spelling}
use Rattle.p9_object.specs.Laws.{IsObject}
use Rattle.p9_suite.specs.declared.answer.Answer.{Answer}
use Rattle.p9_suite.specs.declared.answer.Answer.TheVariants.{Done, Refused}
use Rattle.p9_suite.specs.declared.answer.Refusal.{Refusal}
use Rattle.p9_suite.specs.declared.answer.Refusal.TheVariants.{Absent, Assembly, Memory}
use Rattle.p9_suite.specs.declared.commands.va.ObjectName.{ObjectName}
use Rattle.p9_suite.specs.declared.commands.va.ObjectName.TheVariants.{Given, Derived}
use Rattle.p9_suite.specs.declared.commands.va.Va as declared
use Rattle.p9_suite.specs.CommandLine.{is_file, is_assembly, object_name}
use Rattle.p9_suite.specs.Scene.{Scene, IsAnswer, held, held_now}
use Rattle.p9_suite.specs.Stages.{Stage, Then, Gives, OnStore, ReadsFile, WritesFile}

-- The words

-- a file is assembled, and its object written by this name
pub record Va : Type 0 where
  pub output : List ℕ
  pub file : List ℕ

abbrev pub va_with : (output file : List ℕ) → Option Va
va_with output file = if is_assembly file then Some (record { output = output; file = file }) else None

-- the words behind `va` are an assembler file, with or without the name of its object before it
abbrev pub va_of : (words : List (List ℕ)) → Option Va
va_of (file ∷ []) = va_with (object_name file) file
va_of (option ∷ output ∷ file ∷ []) = if bytes_eq option (codes "-o") && is_file output then va_with output file else None
va_of _ = None

-- the name that the words give, or that which the file's name gives
abbrev pub output_of : ObjectName → (file : List ℕ) → List ℕ
output_of Derived file = object_name file
output_of (Given output) file = output.now

-- the code's value stands for this
abbrev pub va_seen : declared.Va → Va
va_seen va = record { output = output_of va.output va.file.now; file = va.file.now }

-- The stages

-- a text is assembled, and the module spelled as an object
pub data Assembles {C : Type 0} (name text : List ℕ) : Result (List ℕ) Refusal → List C → Type 0 where
  assembles : (m : AModule) → assembled text ≡ Ok m → IsObject m → Assembles name text (Ok (spelling m)) []
  refuses : (why : AsmFault) → assembled text ≡ Err why → Assembles name text (Err (Assembly name why)) []
  assemble_no_memory : Assembles name text (Err Memory) []

abbrev pub WritesObject : (output object : List ℕ) → Stage FileCall Answer
WritesObject output object = Then (WritesFile output object) (λ _. Gives Done)

abbrev pub AssemblesFile : Va → Stage FileCall Answer
AssemblesFile va = Then (ReadsFile va.file) (λ text. Then (Assembles va.file text) (WritesObject va.output))

abbrev pub VaStages : Va → Stage Call Answer
VaStages va = OnStore (AssemblesFile va)

-- What it says of its call

-- the answer, by the module that the text is, or why it is none: a module has an object, its one spelling, and that
-- stands in the store
abbrev pub OfText : {I O F : Type 0} → Scene I O F → Va → Result AModule AsmFault → Type 0
OfText call va (Err why) = IsAnswer call (Refused (Assembly va.file why))
OfText call va (Ok m) = IsAnswer call Done × IsObject m × IsSomeAnd (held_now call) (λ now. now va.output ≡ Some (spelling m))

-- and by what is at the file's name
abbrev pub OfFile : {I O F : Type 0} → Scene I O F → Va → Option (List ℕ) → Type 0
OfFile call va None = IsAnswer call (Refused (Absent va.file))
OfFile call va (Some text) = OfText call va (assembled text)

-- where the store tells what it holds, no call on it failed and memory sufficed
abbrev pub FileSays : {I O F : Type 0} → Scene I O F → Va → Type 0
FileSays call va = call.status ≢ 9 → call.status ≢ 10 → IfSome (held call) (λ before. OfFile call va (before va.file))

-- and whatever the status, the source and the sink are as they were
pub record VaSays {I O F : Type 0} (call : Scene I O F) (va : Va) : Type 0 where
  pub file : FileSays call va
  pub input : call.new.input ≡ call.old.input
  pub out : call.new.out ≡ call.old.out
