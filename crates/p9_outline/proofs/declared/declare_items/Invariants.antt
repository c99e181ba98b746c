use Rattle.std.proofs.Common.{◌≡◌}
use Rattle.p9_lang.specs.Types.{tags_of}
use Rattle.p9_lang.specs.Trees.{count_of}
use Rattle.p9_lang.specs.Symbols.{declarations}
use Rattle.p9_nodes.specs.Nodes.{row_in}
use Rattle.p9_outline.specs.Summaries.{declare_all}
use Rattle.p9_outline.specs.Told.{told_entries}
use Rattle.p9_outline.proofs.declared.declare_items.Given as goal

abbrev pub invariant-items : goal.invariant-items
invariant-items l =
    declare_all (tags_of l.source.typed.now.tags.list) (told_entries l.source.typed.now l.names.map.entries) (declarations (row_in l.source.typed.now l.rest))
    ≡ declare_all (tags_of l.source.typed.now.tags.list) (told_entries l.source.typed.now l.initial.names.map.entries) (declarations (row_in l.source.typed.now l.row))

abbrev pub decreases-items : goal.decreases-items
decreases-items l = count_of (row_in l.source.typed.now l.rest)
