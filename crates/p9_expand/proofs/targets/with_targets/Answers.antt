use Rattle.std.proofs.Common.{◌≡◌, false, replicate, length, arith}
use Rattle.std.proofs.lemmas.Grind.{common_steps}
use Rattle.p9_expand.proofs.Marking.{targets_marked, if-ok}
use Rattle.p9_expand.proofs.targets.with_targets.Goals as goal

pub returns : goal.returns
returns c =
    let none : c.in_ok-flags.flags.items ≡ replicate (length c.args.lines.now) false = grind (arith, common_steps) in
    let entered : c.deref_mut.result.now ≡ c.in_ok-flags.flags.items = grind (arith, common_steps) in
    let again : c.deref_mut-2.result.now ≡ c.mark_firsts.new.flags = grind (arith, common_steps) in
    let last : c.deref.result.now ≡ c.mark_named.new.flags = grind (arith, common_steps) in
    let long : length c.mark_firsts.new.flags ≡ length c.deref_mut.result.now = grind (arith, common_steps) in
    if-ok _ _ (λ new made. targets_marked c.args.starts.now c.args.routines.now c.args.lines.now c.in_ok-flags.flags.items c.deref_mut.result.now c.mark_firsts.new.flags c.deref_mut-2.result.now c.mark_named.new.flags c.deref.result.now new.items
    none entered c.in_ok-mark_firsts.ensures again long c.mark_named.ensures last made) c.marked.result c.marked.ensures
