use Rattle.std.proofs.Common.{length, sym, ap, ◌∙◌, arith, rules}
use Rattle.p9_form.proofs.ScanCode.{slice_front, start_of_code, found_inside, step_of_code, shorter_in_code, end_of_code, refused_in_code}
use Rattle.p9_form.proofs.scan.scan.Goals as goal

pub loop-left-init : goal.loop-left-init
loop-left-init c = start_of_code c.args.bytes.now c.after_blanks-left.result.now c.new-list.result.items c.new-list.ensures.items c.after_blanks-left.ensures

pub read_token-requires : goal.read_token-requires
read_token-requires c = omega (arith, c.loop-left.invariant.weighs, ap length (slice_front c.loop-left.left.now c.in-len1-up.len_at_least))

pub returns-in_default-2-clause-exact : goal.returns-in_default-2-clause-exact
returns-in_default-2-clause-exact c =
    refused_in_code c.args.bytes.now c.loop-left.left.now c.loop-left.list.items c.loop-left.invariant c.in-len1-up.len_at_least (sym c.in_default-2.is ∙ c.in_ok-found.ensures)

pub slice_bounds-after_blanks-count : goal.slice_bounds-after_blanks-count
slice_bounds-after_blanks-count c =
    (found_inside c.loop-left.left.now c.in-Some.found c.in-len1-up.len_at_least (sym c.in-Some.is ∙ c.in_ok-found.ensures)).1

pub slice_bounds-after_blanks-start : goal.slice_bounds-after_blanks-start
slice_bounds-after_blanks-start c =
    let inside = found_inside c.loop-left.left.now c.in-Some.found c.in-len1-up.len_at_least (sym c.in-Some.is ∙ c.in_ok-found.ensures) in
    search (rules, inside.1)

pub loop-left-smaller : goal.loop-left-smaller
loop-left-smaller c =
    shorter_in_code c.loop-left.left.now c.after_blanks-left-in-len1-up.result.now c.in-Some.found c.in-len1-up.len_at_least (sym c.in-Some.is ∙ c.in_ok-found.ensures) c.after_blanks-left-in-len1-up.ensures

pub loop-left-preserved : goal.loop-left-preserved
loop-left-preserved c =
    step_of_code c.args.bytes.now c.loop-left.left.now c.after_blanks-left-in-len1-up.result.now c.loop-left.list.items c.push_token.new.list.items c.in-Some.found c.loop-left.invariant c.in-len1-up.len_at_least (sym c.in-Some.is ∙ c.in_ok-found.ensures) c.in_ok-push_token.ensures c.after_blanks-left-in-len1-up.ensures

pub returns-clause-spelled : goal.returns-clause-spelled
returns-clause-spelled c =
    (end_of_code c.args.bytes.now c.loop-left.left.now c.loop-left.list.items c.push_token-2.new.list.items c.loop-left.invariant c.in_default.len_below c.in_ok-push_token-2.ensures).spelled

pub returns-clause-weighs : goal.returns-clause-weighs
returns-clause-weighs c =
    (end_of_code c.args.bytes.now c.loop-left.left.now c.loop-left.list.items c.push_token-2.new.list.items c.loop-left.invariant c.in_default.len_below c.in_ok-push_token-2.ensures).weighs

pub returns-clause-exact : goal.returns-clause-exact
returns-clause-exact c =
    (end_of_code c.args.bytes.now c.loop-left.left.now c.loop-left.list.items c.push_token-2.new.list.items c.loop-left.invariant c.in_default.len_below c.in_ok-push_token-2.ensures).only
