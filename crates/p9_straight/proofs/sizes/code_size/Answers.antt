use Rattle.std.proofs.Common.{arith}
use Rattle.p9_straight.proofs.BuildSizes.{statement_most, count_below, count_end}
use Rattle.p9_straight.proofs.sizes.code_size.Goals as goal

pub overflow_add-count : goal.overflow_add-count
overflow_add-count c =
    omega (arith, count_below c.loop-rest.count c.loop-rest.rest.now c.args.statements.now c.requires c.loop-rest.invariant, statement_most c.statement-item.result, c.statement_count-count.ensures)

pub overflow_mul-result : goal.overflow_mul-result
overflow_mul-result c =
    omega (arith, count_below c.loop-rest.count c.loop-rest.rest.now c.args.statements.now c.requires c.loop-rest.invariant)

pub returns-clause-exact : goal.returns-clause-exact
returns-clause-exact c = count_end c.loop-rest.count c.loop-rest.rest.now c.args.statements.now c.in_default.len_below c.loop-rest.invariant

pub returns-clause-small : goal.returns-clause-small
returns-clause-small c =
    omega (arith, count_below c.loop-rest.count c.loop-rest.rest.now c.args.statements.now c.requires c.loop-rest.invariant)
