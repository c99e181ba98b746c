use Rattle.std.proofs.Common.{length, take, drop, ◌-◌}
use Rattle.p9_sig.specs.Writing.{final}
use Rattle.p9_sig.proofs.Steps.{parameters_step, first_and_others}
use Rattle.p9_sig.proofs.writer.Writer.write_parameters.Goals as goal

pub returns-in_ok-keep-in-len1-up-2-clause-then : goal.returns-in_ok-keep-in-len1-up-2-clause-then
returns-in_ok-keep-in-len1-up-2-clause-then c = λ tag.
    parameters_step (final tag c.args.self.now) (final tag c.keep-in-len1-up.new.self) (final tag c.keep-in-len1-up-2.new.self) tag c.args.parameters.now c.first-item.result
    (take (length c.args.parameters.now - 1) (drop 1 c.args.parameters.now)) c.args.result_type.now
    (first_and_others c.args.parameters.now c.first-item.result c.in-len1-up.len_at_least c.first-item.is)
    (c.in_ok-keep-in-len1-up.ensures.then tag) (c.in_ok-keep-in-len1-up-2.ensures.then tag)
