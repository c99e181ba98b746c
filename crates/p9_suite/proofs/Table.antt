-- The table of commands: of each that its calls are in order, and that it says what it promises.
use Rattle.std.proofs.Common.{◌≡◌, ◌≢◌, List, Option, Some, None, IfSome, Result, refl}
use Rattle.p9_base.specs.Calls.{Call}
use Rattle.p9_suite.proofs.FormClause.{form_says}
use Rattle.p9_suite.proofs.HeadlineClause.{headline}
use Rattle.p9_suite.proofs.LoadCases.{load_case, load_tidy, load_usual}
use Rattle.p9_suite.proofs.LoadClause.{load_says}
use Rattle.p9_suite.proofs.Meaning.{Meaning}
use Rattle.p9_suite.proofs.NotBuiltCase.{not_built_tidy, not_built_usual, not_built_says}
use Rattle.p9_suite.proofs.RunCases.{run_case, run_tidy, run_usual}
use Rattle.p9_suite.proofs.RunClause.{run_says}
use Rattle.p9_suite.proofs.Tidy.{Tidy}
use Rattle.p9_suite.proofs.VaCases.{va_tidy, va_usual}
use Rattle.p9_suite.proofs.VaClause.{va_says}
use Rattle.p9_suite.proofs.ViCases.{vi_case, vi_tidy, vi_usual}
use Rattle.p9_suite.proofs.ViClause.{vi_says}
use Rattle.p9_suite.specs.Answers.{status}
use Rattle.p9_suite.specs.Scene.{Scene}
use Rattle.p9_suite.specs.Suite.{Answered, Says, answer_of, command}
use Rattle.p9_suite.specs.commands.{Command, RunCommand, ViCommand, VaCommand, LoadCommand, NotBuiltCommand, CommandSays, outputs, stages}
use Rattle.p9_suite.specs.declared.answer.Answer.{Answer}
use Rattle.p9_suite.specs.declared.answer.Refusal.{Refusal}

pub command_tidy : (c : Command) (r : Result Answer Refusal) (calls : List Call) → stages c r calls → Tidy (outputs (Some c)) (answer_of r) calls
command_tidy (RunCommand run) r calls s = run_tidy run r calls (run_case run r calls s)
command_tidy (ViCommand vi) r calls s = vi_tidy vi r calls (vi_case vi r calls s)
command_tidy (VaCommand va) r calls s = va_tidy va r calls s
command_tidy (LoadCommand load) r calls s = load_tidy load r calls (load_case load r calls s)
command_tidy (NotBuiltCommand file) r calls s = not_built_tidy file r calls s

pub command_usual : (c : Command) (r : Result Answer Refusal) (calls : List Call) → stages c r calls → status (answer_of r) ≢ 2
command_usual (RunCommand run) r calls s = run_usual run r calls (run_case run r calls s)
command_usual (ViCommand vi) r calls s = vi_usual vi r calls (vi_case vi r calls s)
command_usual (VaCommand va) r calls s = va_usual va r calls s
command_usual (LoadCommand load) r calls s = load_usual load r calls (load_case load r calls s)
command_usual (NotBuiltCommand file) r calls s = not_built_usual file r calls s

command_says : {I O F : Type 0} (call : Scene I O F) → Meaning call → Answered call → (c : Command) → command call ≡ Some c → CommandSays call c
command_says call means a (RunCommand run) w =
    record { files = run_says call means a run w; headline = headline call means a run w; form = form_says call means a run w }
command_says call means a (ViCommand vi) w = vi_says call means a vi w
command_says call means a (VaCommand va) w = va_says call means a va w
command_says call means a (LoadCommand load) w = load_says call means a load w
command_says call means a (NotBuiltCommand file) w = not_built_says call a file w

said : {I O F : Type 0} (call : Scene I O F) → Meaning call → Answered call → (c : Option Command) → command call ≡ c → IfSome c (CommandSays call)
said call means a None w = tt
said call means a (Some c) w = command_says call means a c w

pub says : {I O F : Type 0} (call : Scene I O F) → Meaning call → Answered call → Says call
says call means a = said call means a (command call) refl
