use Rattle.std.proofs.Common.{◌≡◌, ◌-◌, ◌∷◌, length, take, drop, refl, ap, arith}
use Rattle.std.proofs.lemmas.List.Elements.{All-rest}
use Rattle.p9_abs.specs.Validity.{HasSizeInRange}
use Rattle.p9_abs.specs.Programs.{is_data}
use Rattle.p9_place.specs.Objects.{is_object}
use Rattle.p9_place.proofs.Collecting.{front, symbols_turn}
use Rattle.p9_place.proofs.objects.add_module.Goals as goal

pub loop-rest-preserved : goal.loop-rest-preserved
loop-rest-preserved c =
    let rest = c.loop-rest.rest.now in
    let after = take (length rest - 1) (drop 1 rest) in
    let e : rest ≡ c.symbol-item.result ∷ after = front rest after c.symbol-item.result c.in-len1-up.len_at_least c.symbol-item.is refl in
    record {
      count = omega (arith, ap length e, c.loop-rest.invariant.count);
      sizes = All-rest (λ s. HasSizeInRange s.body) c.symbol-item.result after rest e c.loop-rest.invariant.sizes;
      inits = symbols_turn is_data c.args.number c.loop-rest.next c.symbol-item.result rest after c.loop-rest.objects.inits.items c.add_symbol.new.objects.inits.items _ e c.in_ok-add_symbol.ensures.inits c.loop-rest.invariant.inits;
      bss = symbols_turn (is_object c.args.defs.now.entries) c.args.number c.loop-rest.next c.symbol-item.result rest after c.loop-rest.objects.bss.items c.add_symbol.new.objects.bss.items _ e c.in_ok-add_symbol.ensures.bss c.loop-rest.invariant.bss;
    }
