use Rattle.std.proofs.Common.{ap, ◌∙◌}
use Rattle.p9_suite.specs.Answers.{disagree_line}
use Rattle.p9_suite.proofs.Puts.{line_is}
use Rattle.p9_suite.proofs.report.modules.put_disagree.Goals as goal

pub returns : goal.returns
returns g c =
    line_is _ (disagree_line c.args.name.now c.args.i c.args.j) _ _ _ _ c.put_two.result
    (ap (λ n. disagree_line c.args.name.now n c.from-2.result) c.from.ensures ∙ ap (λ n. disagree_line c.args.name.now c.args.i n) c.from-2.ensures) c.put_two.ensures
