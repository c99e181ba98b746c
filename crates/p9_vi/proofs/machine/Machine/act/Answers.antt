use Rattle.std.proofs.Common.{◌∙◌, ap}
use Rattle.p9_r3k.specs.Machine.{applied}
use Rattle.p9_vi.proofs.Stepping.{acts_plain}
use Rattle.p9_vi.proofs.machine.Machine.act.Goals as goal

pub returns-in_default : goal.returns-in_default
returns-in_default c =
    acts_plain c.args.self.now c.apply.new.self c.args.i c.effect.result c.requires.running c.requires.fetched c.effect.ensures.exact c.in_default.not-Call
    (c.apply.ensures ∙ ap (applied c.effect.result c.args.self.now) c.reads_pair.ensures)
