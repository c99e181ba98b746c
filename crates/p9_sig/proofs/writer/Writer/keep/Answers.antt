use Rattle.p9_sig.proofs.Composing.{final_keep}
use Rattle.p9_sig.proofs.writer.Writer.keep.Goals as goal

pub returns-clause-then : goal.returns-clause-then
returns-clause-then c = λ tag now. final_keep tag c.args.self.now.text.items c.args.self.now.tasks.items c.args.task _ c.args.self.now.met now c.in_ok-push.ensures.items
