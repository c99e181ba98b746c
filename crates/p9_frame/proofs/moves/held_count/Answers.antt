use Rattle.std.proofs.Common.{arith, ap, sym, ◌∙◌, length}
use Rattle.p9_frame.specs.Plans.{shift_of}
use Rattle.p9_frame.proofs.Moving.{held-first, count-more}
use Rattle.p9_frame.proofs.moves.held_count.Goals as goal

pub loop-g-init : goal.loop-g-init
loop-g-init c = record { value = λ loads. sym (ap length (held-first c.args.code.now c.args.table.now loads c.args.i)); bound = omega arith }

pub loop-g-preserved : goal.loop-g-preserved
loop-g-preserved c = record {
  value =
      count-more c.args.code.now c.args.table.now c.args.i c.loop-g.g c.loop-g.count c.size_of_shift-count.result c.holder.result c.holder.ensures c.loop-g.invariant.value
      (λ loads h. c.size_of_shift-count.ensures.value loads h ∙ ap (λ z. length (shift_of loads h z)) c.kept_for.ensures);
  bound = (let a = c.loop-g.invariant.bound in let b = c.size_of_shift-count.ensures.bound in omega (arith, a, b));
}
