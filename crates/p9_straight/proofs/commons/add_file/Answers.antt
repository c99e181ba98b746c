use Rattle.std.proofs.Common.{arith}
use Rattle.p9_straight.proofs.BuildLayout.{declared_append}
use Rattle.p9_straight.proofs.BuildCommons.{file_adds, file_small}
use Rattle.p9_straight.proofs.commons.add_file.Goals as goal

pub add_declarations-requires : goal.add_declarations-requires
add_declarations-requires c = omega (arith, c.requires.file.data_size, declared_append c.args.file.now.before c.args.file.now.after)

pub add_declarations-requires-2 : goal.add_declarations-requires-2
add_declarations-requires-2 c = omega (arith, c.requires.file.data_size, c.in_ok-add_declarations.ensures.small, declared_append c.args.file.now.before c.args.file.now.after)

pub returns-clause-adds : goal.returns-clause-adds
returns-clause-adds c = file_adds _ _ _ _ _ _ _ c.args.file.now c.in_ok-add_declarations.ensures.adds c.add_declarations-2.ensures.adds

pub returns-clause-small : goal.returns-clause-small
returns-clause-small c = file_small _ _ _ _ c.args.file.now c.requires.file c.in_ok-add_declarations.ensures.small c.add_declarations-2.ensures.small
