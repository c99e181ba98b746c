use Rattle.std.proofs.Common.{◌≡◌, ◌-◌, ◌<◌, ◌^◌, ◌∷◌, length, take, drop, refl, ap, arith}
use Rattle.std.proofs.lemmas.List.Elements.{All-rest}
use Rattle.p9_abs.specs.Validity.{IsValid}
use Rattle.p9_abs.specs.Programs.{is_data}
use Rattle.p9_place.specs.Objects.{is_object}
use Rattle.p9_place.proofs.Collecting.{front, modules_turn, collected_all}
use Rattle.p9_place.proofs.objects.collected.Goals as goal

pub loop-rest-preserved : goal.loop-rest-preserved
loop-rest-preserved c =
    let rest = c.loop-rest.rest.now in
    let after = take (length rest - 1) (drop 1 rest) in
    let e : rest ≡ c.module-item.result ∷ after = front rest after c.module-item.result c.in-len1-up.len_at_least c.module-item.is refl in
    record {
      count = omega (arith, ap length e, c.loop-rest.invariant.count);
      valid = All-rest IsValid c.module-item.result after rest e c.loop-rest.invariant.valid;
      small = All-rest (λ m. length m.symbols < 2 ^ 32) c.module-item.result after rest e c.loop-rest.invariant.small;
      inits = modules_turn is_data c.loop-rest.number c.module-item.result c.deref.result.now rest after c.loop-rest.objects.inits.items c.add_module.new.objects.inits.items _ e (cc) c.in_ok-add_module.ensures.inits c.loop-rest.invariant.inits;
      bss = modules_turn (is_object c.args.defs.now.entries) c.loop-rest.number c.module-item.result c.deref.result.now rest after c.loop-rest.objects.bss.items c.add_module.new.objects.bss.items _ e (cc) c.in_ok-add_module.ensures.bss c.loop-rest.invariant.bss;
    }

pub returns-clause-inits : goal.returns-clause-inits
returns-clause-inits c =
    collected_all is_data c.args.modules.now c.deref-2.result.now c.loop-rest.number c.loop-rest.rest.now c.loop-rest.objects.inits.items c.add_module-2.new.objects.inits.items
    (cc (ap (λ m. m.symbols) c.in_ok-last.ensures.exactly)) c.in_default.len_below c.loop-rest.invariant.count c.loop-rest.invariant.inits c.in_ok-add_module-2.ensures.inits

pub returns-clause-bss : goal.returns-clause-bss
returns-clause-bss c =
    collected_all (is_object c.args.defs.now.entries) c.args.modules.now c.deref-2.result.now c.loop-rest.number c.loop-rest.rest.now c.loop-rest.objects.bss.items c.add_module-2.new.objects.bss.items
    (cc (ap (λ m. m.symbols) c.in_ok-last.ensures.exactly)) c.in_default.len_below c.loop-rest.invariant.count c.loop-rest.invariant.bss c.in_ok-add_module-2.ensures.bss
