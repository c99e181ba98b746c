use Rattle.std.proofs.Common.{rules, ◌≡◌, ◌<◌, ◌≤◌, length, refl, arith}
use Rattle.p9_cpp.specs.Units.{in_file}
use Rattle.p9_cpp.proofs.Mapped.{mapped_next, mapped_all}
use Rattle.p9_cpp.proofs.unit.set_file.Goals as goal

pub loop-t-init : goal.loop-t-init
loop-t-init c = refl

pub loop-t-preserved : goal.loop-t-preserved
loop-t-preserved c = mapped_next (in_file c.args.number) c.loop-t.t-index c.args.tokens.now c.loop-t.tokens c.t-item.result c.loop-t.invariant (c.loop-t-test.true)

pub returns : goal.returns
returns c = mapped_all (in_file c.args.number) c.loop-t.t-index c.args.tokens.now c.loop-t.tokens c.loop-t.invariant c.loop-t-test.false
