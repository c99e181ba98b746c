use Rattle.std.proofs.Common.{◌<◌, length, arith}
use Rattle.p9_judge.proofs.Marks.{marked_there}
use Rattle.p9_judge.proofs.marking.mark.Goals as goal

pub returns-then-at-len : goal.returns-then-at-len
returns-then-at-len c =
    let h : c.args.at < length c.args.tags.now.items = omega (arith, c.if-at-len.true, c.len.ensures) in
    marked_there c.args.tags.now.items c.args.at c.index_mut.result.now h c.index_mut.ensures.value
