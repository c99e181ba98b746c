use Rattle.std.proofs.Common.{arith}
use Rattle.p9_frame.proofs.Making.{block-step, block-end}
use Rattle.p9_frame.proofs.code.code_of.Goals as goal

pub loop-i-preserved : goal.loop-i-preserved
loop-i-preserved c =
    block-step c.args.code.now c.args.sizes.now c.args.table.now c.args.offsets.now c.args.starts.now c.args.taken c.loop-i.i c.index-code-i.result c.loop-i.out.items _ _ (omega arith) c.index-code-i.is
    c.in_ok-push_block.ensures c.loop-i.invariant

pub returns : goal.returns
returns c = block-end c.args.code.now c.args.sizes.now c.args.table.now c.args.offsets.now c.args.starts.now c.args.taken c.loop-i.i c.loop-i.out.items _ (omega arith) c.loop-i.invariant
