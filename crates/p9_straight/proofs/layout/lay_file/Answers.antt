use Rattle.std.proofs.Common.{arith}
use Rattle.p9_straight.proofs.BuildLayout.{declared_append, file_lays, file_small}
use Rattle.p9_straight.proofs.layout.lay_file.Goals as goal

pub lay_declarations-requires : goal.lay_declarations-requires
lay_declarations-requires c = omega (arith, declared_append c.args.file.now.before c.args.file.now.after)

pub lay_declarations-requires-2 : goal.lay_declarations-requires-2
lay_declarations-requires-2 c = omega (arith, c.in_ok-lay_declarations.ensures.small, declared_append c.args.file.now.before c.args.file.now.after)

pub returns-clause-lays : goal.returns-clause-lays
returns-clause-lays c =
    file_lays c.lay_main.result _ _ _ _ _ _ _ _ c.args.file.now c.in_ok-lay_declarations.ensures.lays c.in_ok-lay_declarations-2.ensures.lays c.lay_main.ensures

pub returns-clause-small : goal.returns-clause-small
returns-clause-small c =
    file_small c.lay_main.result _ _ _ _ c.args.file.now c.requires.file c.in_ok-lay_declarations.ensures.small c.in_ok-lay_declarations-2.ensures.small c.lay_main.ensures
