use Rattle.std.proofs.Common.{◌≡◌, length}
use Rattle.p9_grammar.specs.Machine as machine
use Rattle.p9_tree_build.specs.Machines.{read_of, stack_of}
use Rattle.p9_tree_reader.proofs.reader.Reader.settle.Given as goal

abbrev pub invariant-loop-frame : goal.invariant-loop-frame
invariant-loop-frame l =
    machine.settle (stack_of l.initial.self.stack) (read_of l.initial.part) l.initial.self.scope.levels l.initial.self.at l.token
    ≡ machine.settle (stack_of l.self.stack) (read_of l.part) l.self.scope.levels l.self.at l.token

abbrev pub decreases-loop-frame : goal.decreases-loop-frame
decreases-loop-frame l = length l.self.stack
