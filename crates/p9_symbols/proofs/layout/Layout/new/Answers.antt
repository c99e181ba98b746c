use Rattle.std.proofs.Common.{◌≡◌, ◌++◌, ◌∷◌, [], Option, refl, sym, ap, ◌∙◌}
use Rattle.std.specs.Prelude.{ℕ}
use Rattle.p9_abs.specs.declared.modules.Def.{Def}
use Rattle.p9_abs.specs.BuiltIn.{linked}
use Rattle.p9_abs.specs.Programs.{routines_of, offset_in, data_objects, init_size, bss_of}
use Rattle.p9_place.specs.Places.{spots}
use Rattle.p9_text.specs.Entries.{entry_number, held}
use Rattle.p9_expand.proofs.Basing.{offset_found}
use Rattle.p9_symbols.specs.Placing.{placing_of}
use Rattle.p9_symbols.specs.Entries.{place_of}
use Rattle.p9_symbols.specs.Held.{offset_held, placed_by}
use Rattle.p9_symbols.proofs.Placed.{places_same, addresses_same}
use Rattle.p9_symbols.proofs.layout.Layout.new.Goals as goal

pub returns-clause-places : goal.returns-clause-places
returns-clause-places c =
    let modules = c.args.modules.now.items in
    let number = held c.in_ok-new.field-0 in
    let offset = offset_held c.in_ok-new-2.field-0 in
    let found : (d : Def) → offset d ≡ offset_in 0 (data_objects (linked modules)) d = λ d.
    c.in_ok-new-2.ensures d
    ∙ offset_found (linked modules) d c.args.objects.now.inits.items c.args.objects.now.bss.items c.requires.inits (c.requires.bss ∙ ap (λ n. spots n (bss_of (linked modules))) c.requires.data_size) in
    let each : (d : Def) → number d ≡ entry_number (routines_of modules) 0 d = λ d. c.in_ok-new.ensures d ∙ ap (λ rs. entry_number rs 0 d) c.requires.routines in
    places_same modules c.args.places.now c.args.text_size c.in_ok-data_start.field-0 offset number c.in_ok-data_start.ensures found each

pub returns-clause-addresses : goal.returns-clause-addresses
returns-clause-addresses c =
    let modules = c.args.modules.now.items in
    let number = held c.in_ok-new.field-0 in
    let offset = offset_held c.in_ok-new-2.field-0 in
    let found : (d : Def) → offset d ≡ offset_in 0 (data_objects (linked modules)) d = λ d.
    c.in_ok-new-2.ensures d
    ∙ offset_found (linked modules) d c.args.objects.now.inits.items c.args.objects.now.bss.items c.requires.inits (c.requires.bss ∙ ap (λ n. spots n (bss_of (linked modules))) c.requires.data_size) in
    let each : (d : Def) → number d ≡ entry_number (routines_of modules) 0 d = λ d. c.in_ok-new.ensures d ∙ ap (λ rs. entry_number rs 0 d) c.requires.routines in
    let seen : c.new.result ≡ linked modules = c.new.ensures ∙ ap (λ ms. ms ++ c.args.last.now ∷ []) c.deref.ensures.value ∙ ap (λ m. modules ++ m ∷ []) c.requires.builtin in
    addresses_same modules c.new.result c.args.table.now.defs.entries (placing_of modules c.args.places.now c.args.text_size)
    (λ d. placed_by c.args.places.now c.in_ok-data_start.field-0 (offset d) (number d)) seen c.requires.table c.requires.chosen
    (places_same modules c.args.places.now c.args.text_size c.in_ok-data_start.field-0 offset number c.in_ok-data_start.ensures found each)
