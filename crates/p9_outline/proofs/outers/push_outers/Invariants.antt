use Rattle.std.proofs.Common.{◌≡◌, ◌++◌, drop}
use Rattle.p9_lang.specs.declared.module.Module.{Module}
use Rattle.p9_numbering.specs.Told.{symbols_told}
use Rattle.p9_outline.specs.Held.{has_name}
use Rattle.p9_outline.specs.Summaries.{outer_symbols}
use Rattle.p9_outline.specs.Told.{names_told, known_told}
use Rattle.p9_outline.proofs.outers.push_outers.Given as goal

abbrev pub invariant-loop-at : goal.invariant-loop-at
invariant-loop-at l = (m : Module) →
    symbols_told m l.symbols.items
    ++ outer_symbols (has_name l.statics.set.keys) (has_name l.used.set.keys) (known_told m l.names.map.entries) (names_told (drop l.at l.names.map.entries))
    ≡ symbols_told m l.initial.symbols.items
    ++ outer_symbols (has_name l.statics.set.keys) (has_name l.used.set.keys) (known_told m l.names.map.entries) (names_told l.names.map.entries)
