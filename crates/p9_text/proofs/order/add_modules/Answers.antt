use Rattle.std.proofs.Common.{◌≡◌, ◌-◌, ◌<◌, ◌^◌, ◌∷◌, length, take, drop, refl, ap, arith}
use Rattle.std.proofs.lemmas.List.Elements.{All-rest}
use Rattle.p9_text.proofs.Listing.{front, modules_turn}
use Rattle.p9_text.proofs.order.add_modules.Goals as goal

pub loop-rest-preserved : goal.loop-rest-preserved
loop-rest-preserved c =
    let rest = c.loop-rest.rest.now in
    let after = take (length rest - 1) (drop 1 rest) in
    let e : rest ≡ c.module-item.result ∷ after = front rest after c.module-item.result c.in-len1-up.len_at_least c.module-item.is refl in
    record {
      count = omega (arith, ap length e, c.loop-rest.invariant.count);
      small = All-rest (λ m. length m.symbols < 2 ^ 32) c.module-item.result after rest e c.loop-rest.invariant.small;
      listed = modules_turn c.loop-rest.unit c.module-item.result c.deref.result.now rest after c.loop-rest.routines.items c.add_symbols.new.routines.items _ e (cc) c.in_ok-add_symbols.ensures c.loop-rest.invariant.listed;
    }
