use Rattle.std.proofs.Common.{arith}
use Rattle.p9_cpp.proofs.Flags.{no_place}
use Rattle.p9_cpp.proofs.hidden.mark.Goals as goal

pub returns-else-index-len : goal.returns-else-index-len
returns-else-index-len c = no_place c.args.flags.now c.args.index c.args.flag (omega (arith, c.len.ensures))
