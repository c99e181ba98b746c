use Rattle.std.proofs.Common.{◌≡◌}
use Rattle.p9_lang.specs.Trees.{count_of}
use Rattle.p9_lang.specs.Symbols.{declared_body}
use Rattle.p9_nodes.specs.Nodes.{node_in, row_in}
use Rattle.p9_outline.specs.Told.{told_entries}
use Rattle.p9_outline.proofs.declared.declare_body.Given as goal

abbrev pub invariant-parts : goal.invariant-parts
invariant-parts l = record {
  same : told_entries l.source.typed.now l.names.map.entries ≡ told_entries l.source.typed.now l.initial.names.map.entries;
  body : declared_body (node_in l.source.typed.now l.item) (row_in l.source.typed.now l.rest)
      ≡ declared_body (node_in l.source.typed.now l.item) (row_in l.source.typed.now l.item.parts);
}

abbrev pub decreases-parts : goal.decreases-parts
decreases-parts l = count_of (row_in l.source.typed.now l.rest)
