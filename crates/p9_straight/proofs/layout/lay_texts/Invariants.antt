use Rattle.std.proofs.Common.{◌≡◌, ◌++◌, length, flat_map}
use Rattle.p9_straight.specs.Layout.{text_bytes, text_in}
use Rattle.p9_straight.proofs.layout.lay_texts.Given as goal

abbrev pub invariant-loop-rest : goal.invariant-loop-rest
invariant-loop-rest l =
    l.init.items ++ flat_map text_bytes (flat_map text_in l.rest) ≡ l.initial.init.items ++ flat_map text_bytes (flat_map text_in l.statements)

abbrev pub decreases-loop-rest : goal.decreases-loop-rest
decreases-loop-rest l = length l.rest
