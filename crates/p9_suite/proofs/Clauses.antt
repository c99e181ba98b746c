-- The answer of a call.
use Rattle.std.proofs.Common.{◌≡◌, List}
use Rattle.p9_base.specs.Calls.{Call, Did}
use Rattle.p9_suite.specs.Answers.{status, message}
use Rattle.p9_suite.specs.Scene.{Scene}
use Rattle.p9_suite.specs.Suite.{Answered, CommandComes, command}
use Rattle.p9_suite.specs.declared.answer.Answer.{Answer}

pub answered : {I O F : Type 0} (call : Scene I O F) (a : Answer) → (calls : List Call) × Did call.doing call.old calls call.new × CommandComes (command call) a calls → call.status ≡ status a → call.Line (message a) → Answered call
answered call a m s line = record { answer = a; calls = m.0; did = m.1; comes = m.2; is = (s, line) }
