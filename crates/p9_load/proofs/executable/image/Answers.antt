use Rattle.std.proofs.Common.{◌≡◌, ap, ◌∙◌}
use Rattle.p9_abs.specs.Names.{symbol_at}
use Rattle.p9_abs.specs.Programs.{routines_of}
use Rattle.p9_image.specs.Text.{text_bytes}
use Rattle.p9_symbols.specs.Placing.{placing_of}
use Rattle.p9_symbols.specs.Tables.{symbol_tables}
use Rattle.p9_symbols.specs.Held.{address_held, place_held}
use Rattle.p9_load.proofs.Parts.{tables-same, init-same, entries-same}
use Rattle.p9_load.proofs.executable.image.Goals as goal

pub returns-clause-text : goal.returns-clause-text
returns-clause-text c =
    let modules = c.args.modules.now.items in
    let p = placing_of modules c.args.places.now c.args.text_size in
    let tables : c.in_ok-tables.tables.items ≡ symbol_tables modules p =
    tables-same modules c.deref-3.result.now p (address_held c.in_ok-layout.layout) c.in_ok-tables.tables.items c.deref-3.ensures.value c.in_ok-layout.ensures.addresses c.in_ok-tables.ensures in
    c.in_ok-text.ensures ∙ ap (λ t. text_bytes t c.args.lines.now) (c.deref-4.ensures.value ∙ tables)

pub returns-clause-init : goal.returns-clause-init
returns-clause-init c =
    let modules = c.args.modules.now.items in
    let p = placing_of modules c.args.places.now c.args.text_size in
    let tables : c.in_ok-tables.tables.items ≡ symbol_tables modules p =
    tables-same modules c.deref-3.result.now p (address_held c.in_ok-layout.layout) c.in_ok-tables.tables.items c.deref-3.ensures.value c.in_ok-layout.ensures.addresses c.in_ok-tables.ensures in
    init-same modules c.deref-6.result.now p c.deref-5.result.now c.in_ok-init.init.items c.deref-6.ensures.value (c.deref-5.ensures.value ∙ tables) c.in_ok-init.ensures

pub returns-clause-symbols : goal.returns-clause-symbols
returns-clause-symbols c =
    let modules = c.args.modules.now.items in
    let p = placing_of modules c.args.places.now c.args.text_size in
    let e = c.args.expansion.now in
    entries-same modules p (symbol_at c.in_ok-layout.layout.program) (place_held c.in_ok-layout.layout) c.deref-7.result.now e.places.inits.items e.places.bss.items e.places.data_size c.in_ok-symbol_entries.field-0.items
    (ap symbol_at c.in_ok-layout.ensures.symbols) c.in_ok-layout.ensures.places
    (c.deref-7.ensures.value ∙ c.in_ok-routines.ensures ∙ ap routines_of c.deref.ensures.value)
    c.requires.expansion.inits c.requires.expansion.bss c.in_ok-symbol_entries.ensures
