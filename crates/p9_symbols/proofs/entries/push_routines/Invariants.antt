use Rattle.std.proofs.Common.{◌≡◌, ◌++◌, length, map}
use Rattle.p9_abs.specs.Names.{symbol_at}
use Rattle.p9_symbols.specs.declared.entries.Section.TheVariants.{Text}
use Rattle.p9_symbols.specs.Held.{place_held}
use Rattle.p9_symbols.specs.Entries.{entries_of, routine_def}
use Rattle.p9_symbols.proofs.entries.push_routines.Given as goal

abbrev pub invariant-loop-rest : goal.invariant-loop-rest
invariant-loop-rest l =
    l.entries.items ++ entries_of (symbol_at l.layout.program) (place_held l.layout) Text (map routine_def l.rest)
    ≡ l.initial.entries.items ++ entries_of (symbol_at l.layout.program) (place_held l.layout) Text (map routine_def l.routines)

abbrev pub decreases-loop-rest : goal.decreases-loop-rest
decreases-loop-rest l = length l.rest
