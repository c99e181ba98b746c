use Rattle.std.proofs.Common.{◌+◌, ◌-◌, length, ap, ◌∙◌, arith}
use Rattle.p9_init.proofs.Entries.{written}
use Rattle.p9_init.proofs.writing.write.Goals as goal
use borrow.Rule.Slice.PartMut.{put_mid}

pub returns : goal.returns
returns c =
    let start = c.args.start in
    let count = c.args.start + length c.args.new.now - c.args.start in
    ap (λ l. put_mid start count c.break_addresses.new.cells l) c.copy_from_slice.ensures.after
    ∙ written start count c.break_addresses.new.cells c.args.new.now c.args.cells.now (omega arith) c.break_addresses.ensures.each
