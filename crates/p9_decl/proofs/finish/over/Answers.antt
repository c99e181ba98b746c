use Rattle.std.proofs.Common.{None, ap, arith}
use Rattle.p9_grammar.specs.Trees.{tree_of}
use Rattle.p9_tree_build.specs.Machines.{frame_of, stack_of}
use Rattle.p9_decl.proofs.Finding.{few, many, over_more, over_other, over_top}
use Rattle.p9_decl.proofs.finish.over.Goals as goal

pub returns-in-Some-sole_part-clause-some : goal.returns-in-Some-sole_part-clause-some
returns-in-Some-sole_part-clause-some c =
    over_top (stack_of c.args.reader.stack) (stack_of c.pop.new.self) (frame_of c.in-Some.frame) (tree_of c.in-Some-sole_part.node) c.args.reader.scope.levels c.args.reader.at None
    (ap stack_of c.in-Some.ensures) (few c.pop.new.self c.as_slice.result.now c.as_slice.ensures (omega (arith, c.in-empty.len_below))) c.in-Some-sole_part.ensures.some

pub returns-in-empty-clause-none : goal.returns-in-empty-clause-none
returns-in-empty-clause-none c =
    over_other (stack_of c.args.reader.stack) (stack_of c.pop.new.self) (frame_of c.in-Some.frame) c.args.reader.scope.levels c.args.reader.at None (ap stack_of c.in-Some.ensures) c.in-None-sole_part.ensures.none

pub returns-clause-none : goal.returns-clause-none
returns-clause-none c =
    over_more (stack_of c.args.reader.stack) (stack_of c.pop.new.self) (frame_of c.in-Some.frame) c.args.reader.scope.levels c.args.reader.at None
    (ap stack_of c.in-Some.ensures) (many c.pop.new.self c.as_slice.result.now c.as_slice.ensures (omega (arith, c.in_default.len_at_least)))
