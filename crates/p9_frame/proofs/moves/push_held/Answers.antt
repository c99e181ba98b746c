use Rattle.std.proofs.Common.{ap, ◌∙◌, ◌++◌}
use Rattle.p9_frame.specs.Plans.{kept_for, shift_of}
use Rattle.p9_frame.specs.Emitted.{moves_of}
use Rattle.p9_frame.proofs.Moving.{moves-first, moves-more}
use Rattle.p9_frame.proofs.moves.push_held.Goals as goal

pub loop-g-init : goal.loop-g-init
loop-g-init c = moves-first c.args.sizes.now c.args.offsets.now c.args.code.now c.args.table.now c.args.loads c.args.i c.args.out.now.items

pub loop-g-preserved : goal.loop-g-preserved
loop-g-preserved c =
    moves-more c.args.sizes.now c.args.offsets.now c.args.code.now c.args.table.now c.args.loads c.args.i c.loop-g.g c.args.out.now.items c.loop-g.out.items _ c.loop-g.invariant
    (c.in_ok-push_shift.ensures ∙ ap (λ z. c.loop-g.out.items ++ moves_of c.args.sizes.now c.args.offsets.now (shift_of c.args.loads c.loop-g.g z)) (c.kept_for-kept.ensures ∙ ap (kept_for c.args.code.now c.args.i) c.holder.ensures))
