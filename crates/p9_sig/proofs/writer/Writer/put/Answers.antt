use Rattle.p9_sig.proofs.Composing.{final_put}
use Rattle.p9_sig.proofs.writer.Writer.put.Goals as goal

pub returns-clause-then : goal.returns-clause-then
returns-clause-then c = λ tag now. final_put tag c.args.self.now.text.items c.args.text.now _ c.args.self.now.tasks.items c.args.self.now.met now c.in_ok-extend_from_slice.ensures.items
