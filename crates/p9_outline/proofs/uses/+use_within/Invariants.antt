use Rattle.std.proofs.Common.{◌≡◌, ◌||◌, ℕ, List}
use Rattle.p9_lang.specs.Names.{is_among}
use Rattle.p9_lang.specs.Trees.{count_of}
use Rattle.p9_lang.specs.Symbols.{uses_in_row}
use Rattle.p9_nodes.specs.Nodes.{row_in}
use Rattle.p9_outline.specs.Held.{has_name}
use Rattle.p9_outline.proofs.uses.+use_within.Given as goal

abbrev pub decreases-use_within : goal.decreases-use_within
decreases-use_within l = l.levels

abbrev pub invariant-parts : goal.invariant-parts
invariant-parts l = (q : List ℕ) → (has_name l.used.set.keys q || is_among (uses_in_row (row_in l.source.typed.now l.rest)) q)
    ≡ (has_name l.initial.used.set.keys q || is_among (uses_in_row (row_in l.source.typed.now l.row)) q)

abbrev pub decreases-parts : goal.decreases-parts
decreases-parts l = count_of (row_in l.source.typed.now l.rest)
