use Rattle.std.proofs.Common.{◌≡◌, ◌-◌, ◌∷◌, length, take, drop, get_or, refl, ap, ◌∙◌, arith}
use Rattle.std.proofs.lemmas.Grind.{common_steps}
use Rattle.p9_load.proofs.Numbers.{addresses_turn, first-of}
use Rattle.p9_load.proofs.addresses.entered_addresses.Goals as goal

pub loop-rest-preserved : goal.loop-rest-preserved
loop-rest-preserved c =
    let rest = c.loop-rest.rest.now in
    let after = take (length rest - 1) (drop 1 rest) in
    let old = get_or rest 0 0 in
    let e : rest ≡ old ∷ after = first-of rest c.in-len1-up.len_at_least in
    let count : c.in_ok-count.count ≡ length c.args.lines.now = grind (arith, common_steps) in
    addresses_turn c.args.moved.now c.in_ok-numbers.numbers.items c.in_ok-count.count (length c.args.lines.now) old c.number_at-number.result c.in_ok-line_address.field-0
    rest after c.loop-rest.places.items c.push.new.self.items _ count c.in_ok-numbers.ensures
    (c.number_at-number.ensures ∙ ap (λ l. get_or l old c.in_ok-count.count) c.deref.ensures.value) c.in_ok-line_address.ensures e (grind (arith, common_steps)) c.loop-rest.invariant
