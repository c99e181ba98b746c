use Rattle.std.proofs.Common.{◌≡◌, ◌-◌, ◌<◌, ◌^◌, ◌∷◌, length, take, drop, refl, ap, ◌∙◌, arith}
use Rattle.std.proofs.lemmas.List.Elements.{All-rest}
use Rattle.p9_place.proofs.Collecting.{front}
use Rattle.p9_data.proofs.Collecting.{modules_turn, collected_all}
use Rattle.p9_data.proofs.data.data_bytes.Goals as goal

pub loop-rest-preserved : goal.loop-rest-preserved
loop-rest-preserved c =
    let rest = c.loop-rest.rest.now in
    let after = take (length rest - 1) (drop 1 rest) in
    let e : rest ≡ c.module-item.result ∷ after = front rest after c.module-item.result c.in-len1-up.len_at_least c.module-item.is refl in
    record {
      count = omega (arith, ap length e, c.loop-rest.invariant.count);
      small = All-rest (λ m. length m.symbols < 2 ^ 32) c.module-item.result after rest e c.loop-rest.invariant.small;
      listed = modules_turn c.args.tables.now c.loop-rest.unit c.module-item.result c.deref.result.now rest after c.loop-rest.bytes.items c.push_module.new.out.items _ e (cc) c.in_ok-push_module.ensures c.loop-rest.invariant.listed;
    }

pub returns : goal.returns
returns c =
    collected_all c.args.tables.now c.args.modules.now c.deref-2.result.now c.loop-rest.unit c.loop-rest.rest.now c.loop-rest.bytes.items c.push_module-2.new.out.items
    (c.deref-2.ensures.value ∙ (cc (ap (λ m. m.symbols) c.requires.builtin))) c.in_default.len_below c.loop-rest.invariant.count c.loop-rest.invariant.listed c.in_ok-push_module-2.ensures
