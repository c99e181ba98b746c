use Rattle.std.proofs.Common.{◌∙◌, sym}
use Rattle.p9_lang.specs.Types.{tags_of}
use Rattle.p9_types.proofs.Lists.{first_and_others, empty_below}
use Rattle.p9_operand.specs.Told.{told_least}
use Rattle.p9_verdict.proofs.Arguments.{arguments_next, arguments_over}
use Rattle.p9_verdict.proofs.calls.argument_rules.Goals as goal

pub parameters-preserved : goal.parameters-preserved
parameters-preserved c =
    arguments_next (tags_of c.args.tags.now.list) (told_least c.parameters.broken) (told_least c.in_ok-rule.rule) _ _ c.parameters.asked.now _ c.parameters.given.now _
    c.parameter-item.result c.argument-item.result
    (first_and_others c.parameters.asked.now c.parameter-item.result c.in-len1-up.len_at_least c.parameter-item.is)
    (first_and_others c.parameters.given.now c.argument-item.result c.in-len1-up-given.len_at_least c.argument-item.is)
    c.in_ok-rule.ensures c.least_of_both-broken.ensures c.parameters.invariant

pub returns : goal.returns
returns c =
    c.least_of_both-2.ensures
    ∙ arguments_over (tags_of c.args.tags.now.list) (told_least c.parameters.broken) _ c.parameters.asked.now c.parameters.given.now
    (empty_below c.parameters.asked.now c.in_default.len_below) (sym c.is_empty.ensures ∙ c.if-is_empty.false) c.parameters.invariant
