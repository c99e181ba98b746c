use Rattle.std.proofs.Common.{◌≡◌, ◌-◌, ◌<◌, ◌^◌, ◌∷◌, length, take, drop, refl, ap, ◌∙◌, arith}
use Rattle.std.proofs.lemmas.List.Elements.{All-rest}
use Rattle.std.proofs.lemmas.Grind.{common_steps}
use Rattle.p9_place.proofs.Collecting.{front}
use Rattle.p9_symbols.specs.Held.{address_held}
use Rattle.p9_symbols.specs.Tables.{addresses_in}
use Rattle.p9_symbols.proofs.Listing.{modules_turn}
use Rattle.p9_symbols.proofs.tables.symbol_tables.Goals as goal

pub loop-rest-preserved : goal.loop-rest-preserved
loop-rest-preserved c =
    let rest = c.loop-rest.rest.now in
    let after = take (length rest - 1) (drop 1 rest) in
    let e : rest ≡ c.module-item.result ∷ after = front rest after c.module-item.result c.in-len1-up.len_at_least c.module-item.is refl in
    let here : c.in_ok-addresses_in.field-0 ≡ addresses_in (address_held c.args.layout.now) c.loop-rest.unit 0 c.module-item.result.symbols =
    c.in_ok-addresses_in.ensures ∙ ap (addresses_in (address_held c.args.layout.now) c.loop-rest.unit 0) (cc) in
    record {
      count = omega (arith, ap length e, c.loop-rest.invariant.count);
      small = All-rest (λ m. length m.symbols < 2 ^ 32) c.module-item.result after rest e c.loop-rest.invariant.small;
      listed = modules_turn (address_held c.args.layout.now) c.loop-rest.unit c.module-item.result c.args.last.now _ rest after c.loop-rest.tables.items c.push.new.self.items _ e (grind (arith, common_steps)) here c.loop-rest.invariant.listed;
    }
