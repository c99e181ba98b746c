use Rattle.std.proofs.Common.{ap, refl, ◌∙◌}
use Rattle.p9_lang.specs.Names.{is_among}
use Rattle.p9_lang.specs.Modules.{source_of}
use Rattle.p9_nodes.specs.Nodes.{row_in}
use Rattle.p9_numbering.specs.Told.{symbols_told}
use Rattle.p9_outline.specs.Held.{has_name}
use Rattle.p9_outline.specs.Told.{told_entries, names_told, known_told}
use Rattle.p9_outline.proofs.Telling.{names_same}
use Rattle.p9_outline.proofs.Summing.{outlined}
use Rattle.p9_outline.proofs.outlining.outline.Goals as goal

pub returns : goal.returns
returns c =
    let m = c.args.source.now.typed.now in
    let entries = c.declare_items.new.names.map.entries in
    outlined (source_of m) (row_in m c.items-row.result) (has_name c.in_ok-statics.statics.set.keys) (has_name c.in_ok-used.used.set.keys)
    (told_entries m c.in_ok-names.names.map.entries) (told_entries m entries) (known_told m entries) (names_told entries)
    (symbols_told m c.new-symbols.result.items) (symbols_told m c.push_outers.new.symbols.items) _
    c.items-row.ensures (λ q. c.in_ok-statics.ensures q ∙ ap (λ l. is_among l q) c.as_slice.ensures) c.in_ok-used.ensures
    (c.in_ok-names.ensures m) c.in_ok-declare_items.ensures (λ q. refl) (names_same m entries) (ap (symbols_told m) c.new-symbols.ensures.items)
    (c.in_ok-push_outers.ensures m) c.in_ok-push_locals.ensures
