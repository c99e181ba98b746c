use Rattle.std.proofs.Common.{◌≡◌, ◌-◌, ◌∷◌, length, take, drop, sym, ap, ◌∙◌}
use Rattle.std.specs.Option.{option_or}
use Rattle.p9_types.proofs.Lists.{first_and_others}
use Rattle.p9_cmean.specs.Union.{number_from}
use Rattle.p9_lower.specs.Names.{is_outer_symbol, is_static_symbol}
use Rattle.p9_numbering.specs.Told.{told_symbol, symbols_told}
use Rattle.p9_numbering.specs.Maps.{outer_held, static_held}
use Rattle.p9_numbering.proofs.Noting.{symbol_passed}
use Rattle.p9_numbering.proofs.numbers.Numbering.new.Goals as goal

pub symbols-preserved : goal.symbols-preserved
symbols-preserved c =
    let m = c.args.source.now.typed.now in
    let rest = c.symbols.rest.now in
    let x = c.symbol-item.result in
    let after = take (length rest - 1) (drop 1 rest) in
    let e : rest ≡ x ∷ after = first_and_others rest x c.in-len1-up.len_at_least c.symbol-item.is in
    record {
      outers = λ q.
          symbol_passed (is_outer_symbol q) c.symbols.number c.in_ok-number.number (told_symbol m x) (symbols_told m after) (outer_held c.symbols.outers.entries q) _ _
          c.in_ok-number.ensures (c.in_ok-note_symbol.ensures.outers q)
          (ap (λ l. option_or (outer_held c.symbols.outers.entries q) (number_from c.symbols.number (is_outer_symbol q) (symbols_told m l))) (sym e) ∙ c.symbols.invariant.outers q);
      statics = λ q.
          symbol_passed (is_static_symbol q) c.symbols.number c.in_ok-number.number (told_symbol m x) (symbols_told m after) (static_held c.symbols.statics.entries q) _ _
          c.in_ok-number.ensures (c.in_ok-note_symbol.ensures.statics q)
          (ap (λ l. option_or (static_held c.symbols.statics.entries q) (number_from c.symbols.number (is_static_symbol q) (symbols_told m l))) (sym e) ∙ c.symbols.invariant.statics q);
    }
