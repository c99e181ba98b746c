use Rattle.std.proofs.Common.{ap, subst, sym, ◌∙◌}
use Rattle.p9_operand.specs.Told.{told_rule, told_least}
use Rattle.p9_declare.specs.Judging.{Judges}
use Rattle.p9_parts.specs.Told.{part_of}
use Rattle.p9_judge.specs.Walking.{Counts}
use Rattle.p9_judge.proofs.Walking.{rule_broken}
use Rattle.p9_judge.proofs.walk.with_rule.Goals as goal

pub returns-in-Some-clause-judges : goal.returns-in-Some-clause-judges
returns-in-Some-clause-judges c n broken s answer h k j =
    rule_broken n c.args.number broken (told_rule c.in-Some.rule) (part_of c.in-Ok.part, s) answer
    (sym (ap told_least c.in-Some.is) ∙ h)
    (subst (λ r. Counts r c.args.number n) c.in-Ok.is k)
    (subst (λ r. Judges part_of r s answer) c.in-Ok.is j)
