use Rattle.std.proofs.Common.{arith, ap, length, true, false, []}
use Rattle.p9_abs.specs.Framed.{start_of}
use Rattle.p9_frame.specs.Plans.{plan_of}
use Rattle.p9_frame.proofs.Making.{start-next, starts-pushed, starts-size}
use Rattle.p9_frame.proofs.starts.starts.Goals as goal

pub loop-i-init : goal.loop-i-init
loop-i-init c = record {
  size = ap length c.new-list.ensures.items;
  before = λ offsets k l. absurd (omega (arith, l));
  next = λ offsets. c.held_count-at.ensures.value true;
  bound = (let h = c.held_count-at.ensures.bound in omega (arith, h));
}

pub loop-i-preserved : goal.loop-i-preserved
loop-i-preserved c = record {
  size = starts-size c.loop-i.list.items _ c.loop-i.i c.loop-i.at (start_of (plan_of c.args.code.now c.args.table.now [])) c.loop-i.invariant.size c.in_ok-push.ensures.items (c.loop-i.invariant.next []) (c.loop-i.invariant.before []);
  before = λ offsets. starts-pushed c.loop-i.list.items _ c.loop-i.i c.loop-i.at (start_of (plan_of c.args.code.now c.args.table.now offsets)) c.loop-i.invariant.size c.in_ok-push.ensures.items (c.loop-i.invariant.next offsets) (c.loop-i.invariant.before offsets);
  next = λ offsets. start-next c.args.code.now c.args.table.now offsets c.loop-i.i c.loop-i.at c.count_at_call-before.result c.count_at_call-after.result _ (c.loop-i.invariant.next offsets) (c.count_at_call-before.ensures.value false) (c.count_at_call-after.ensures.value true) (omega arith);
  bound = (let a = c.count_at_call-before.ensures.bound in let b = c.count_at_call-after.ensures.bound in omega (arith, a, b));
}
