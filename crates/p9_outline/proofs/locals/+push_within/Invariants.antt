use Rattle.std.proofs.Common.{◌≡◌, ◌++◌, map}
use Rattle.p9_lang.specs.Types.{tags_of}
use Rattle.p9_lang.specs.Trees.{count_of}
use Rattle.p9_lang.specs.Symbols.{local_symbol, local_objects_in}
use Rattle.p9_nodes.specs.Nodes.{row_in}
use Rattle.p9_numbering.specs.Told.{symbols_told}
use Rattle.p9_outline.proofs.locals.+push_within.Given as goal

abbrev pub decreases-push_within : goal.decreases-push_within
decreases-push_within l = l.levels

abbrev pub invariant-parts : goal.invariant-parts
invariant-parts l =
    symbols_told l.source.typed.now l.symbols.items
    ++ map local_symbol (local_objects_in (tags_of l.source.typed.now.tags.list) l.are_declared (row_in l.source.typed.now l.rest))
    ≡ symbols_told l.source.typed.now l.initial.symbols.items
    ++ map local_symbol (local_objects_in (tags_of l.source.typed.now.tags.list) l.are_declared (row_in l.source.typed.now l.row))

abbrev pub decreases-parts : goal.decreases-parts
decreases-parts l = count_of (row_in l.source.typed.now l.rest)
