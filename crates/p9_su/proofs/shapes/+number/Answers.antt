use Rattle.std.proofs.Common.{rules}
use Rattle.p9_su.proofs.Numbers.{enough_registers, least_registers}
use Rattle.p9_su.proofs.shapes.+number.Goals as goal

pub returns-in-Leaf-clause-enough : goal.returns-in-Leaf-clause-enough
returns-in-Leaf-clause-enough t c = enough_registers c.args.shape.now 1 (search rules)

pub returns-then-left-right-clause-enough : goal.returns-then-left-right-clause-enough
returns-then-left-right-clause-enough t c = enough_registers c.args.shape.now _ (search rules)

pub returns-then-left-right-clause-least : goal.returns-then-left-right-clause-least
returns-then-left-right-clause-least t c = least_registers c.args.shape.now _ (search rules)

pub returns-else-left-right-clause-enough : goal.returns-else-left-right-clause-enough
returns-else-left-right-clause-enough t c = enough_registers c.args.shape.now _ (search rules)

pub returns-else-left-right-clause-least : goal.returns-else-left-right-clause-least
returns-else-left-right-clause-least t c = least_registers c.args.shape.now _ (search rules)
