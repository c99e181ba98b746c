use Rattle.std.proofs.Common.{ap, ◌∙◌, map}
use Rattle.p9_frame.specs.Emitted.{operand_in}
use Rattle.p9_frame.proofs.Making.{framed-made}
use Rattle.p9_frame.proofs.operands.framed_in.Goals as goal

pub returns : goal.returns
returns c =
    framed-made (operand_in c.args.table.now c.args.offsets.now c.args.starts.now c.args.taken c.args.i) c.args.a.now _ c.in_ok-list.list.items c.a.view_is
    (c.in_ok-list.ensures ∙ ap (map (operand_in c.args.table.now c.args.offsets.now c.args.starts.now c.args.taken c.args.i)) c.deref.ensures.value)
