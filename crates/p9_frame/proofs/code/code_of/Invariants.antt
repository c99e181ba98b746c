use Rattle.std.proofs.Common.{◌≡◌, ◌++◌, true, drop}
use Rattle.p9_frame.specs.Plans.{held}
use Rattle.p9_frame.specs.Emitted.{moves_of, blocks_in}
use Rattle.p9_frame.proofs.code.code_of.Given as goal

abbrev pub invariant-loop-i : goal.invariant-loop-i
invariant-loop-i l =
    l.out.items ++ blocks_in l.code l.sizes l.table l.offsets l.starts l.taken l.i (drop l.i l.code)
    ≡ moves_of l.sizes l.offsets (held l.code l.table true 0 12) ++ blocks_in l.code l.sizes l.table l.offsets l.starts l.taken 0 l.code
