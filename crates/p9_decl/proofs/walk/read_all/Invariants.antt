use Rattle.std.proofs.Common.{take}
use Rattle.p9_tree_reader.specs.Reading.{state_of}
use Rattle.p9_decl.specs.Walks.{HasRead}
use Rattle.p9_decl.proofs.walk.read_all.Given as goal

abbrev pub invariant-loop-i : goal.invariant-loop-i
invariant-loop-i l = HasRead (state_of l.fn.start) (take l.i l.tokens) (state_of l.reader)
