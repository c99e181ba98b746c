use Rattle.std.proofs.Common.{◌≡◌, ◌-◌, ◌∷◌, length, take, drop, refl, ap, arith}
use Rattle.p9_text.proofs.Listing.{front, symbols_turn}
use Rattle.p9_text.proofs.order.add_symbols.Goals as goal

pub loop-rest-preserved : goal.loop-rest-preserved
loop-rest-preserved c =
    let rest = c.loop-rest.rest.now in
    let after = take (length rest - 1) (drop 1 rest) in
    let e : rest ≡ c.symbol-item.result ∷ after = front rest after c.symbol-item.result c.in-len1-up.len_at_least c.symbol-item.is refl in
    record {
      count = omega (arith, ap length e, c.loop-rest.invariant.count);
      listed = symbols_turn c.args.unit c.loop-rest.next c.symbol-item.result rest after c.loop-rest.routines.items c.add_symbol.new.routines.items _ e c.in_ok-add_symbol.ensures c.loop-rest.invariant.listed;
    }
