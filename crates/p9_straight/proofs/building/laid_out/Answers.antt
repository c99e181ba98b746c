use Rattle.std.proofs.Common.{◌≡◌, ◌+◌, [], length, arith}
use Rattle.p9_straight.proofs.BuildImage.{laid_is}
use Rattle.p9_straight.proofs.building.laid_out.Goals as goal

pub overflow_sub-result : goal.overflow_sub-result
overflow_sub-result c = let counted = (c.in_ok-add_files.ensures.adds.with_more []).end in omega (arith, counted)

pub returns : goal.returns
returns c =
    let end : c.args.start + c.len.result ≡ c.args.start + length c.lay_files.new.init.items = omega (arith, c.len.ensures, c.lay_files.new.init.ok.0) in
    let begin : c.args.start + c.len-2.result ≡ c.args.start + length c.push_text.new.init.items = omega (arith, c.len-2.ensures, c.push_text.new.init.ok.0) in
    laid_is _ _ _ _ _ _ _ _ _ _ _ c.new-places.ensures.empty c.new-init.ensures.items c.requires.count c.in_ok-lay_files.ensures.lays c.in_ok-lay_files.ensures.small c.in_ok-push_text.ensures end begin c.in_ok-add_files.ensures.adds c.in_ok-add_files.ensures.small
