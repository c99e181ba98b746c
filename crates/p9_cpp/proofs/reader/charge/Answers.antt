use Rattle.std.proofs.Common.{arith}
use Rattle.p9_cpp.proofs.Counting.{past_here, not_past}
use Rattle.p9_cpp.proofs.reader.charge.Goals as goal

pub returns-in-Some : goal.returns-in-Some
returns-in-Some c =
    let e = c.in-Some.ensures.lookup in
    past_here c.args.room.now c.args.tokens.now c.in-Some.t.now c.in-Some.t.now e.3.0 e.1

pub returns-in-None : goal.returns-in-None
returns-in-None c =
    let e = c.in-None.ensures.lookup in
    (not_past c.args.room.now c.args.tokens.now e.3, omega (arith, e.3))
