use Rattle.std.proofs.Common.{arith}
use Rattle.p9_straight.proofs.BuildSizes.{variables_length, variables_small}
use Rattle.p9_straight.proofs.BuildLayout.{declared_append}
use Rattle.p9_straight.proofs.sizes.variables_size.Goals as goal

pub values_count-requires : goal.values_count-requires
values_count-requires c = omega (arith, c.requires.data_size, declared_append c.args.file.now.before c.args.file.now.after)

pub values_count-requires-2 : goal.values_count-requires-2
values_count-requires-2 c = omega (arith, c.requires.data_size, declared_append c.args.file.now.before c.args.file.now.after)

pub overflow_add-result : goal.overflow_add-result
overflow_add-result c = omega (arith, variables_small c.args.file.now _ _ c.requires c.values_count.ensures.small c.values_count-2.ensures.small)

pub overflow_mul-result : goal.overflow_mul-result
overflow_mul-result c = omega (arith, variables_small c.args.file.now _ _ c.requires c.values_count.ensures.small c.values_count-2.ensures.small)

pub returns-clause-exact : goal.returns-clause-exact
returns-clause-exact c = omega (arith, c.values_count.ensures.exact, c.values_count-2.ensures.exact, variables_length c.args.file.now)

pub returns-clause-small : goal.returns-clause-small
returns-clause-small c = variables_small c.args.file.now _ _ c.requires c.values_count.ensures.small c.values_count-2.ensures.small
