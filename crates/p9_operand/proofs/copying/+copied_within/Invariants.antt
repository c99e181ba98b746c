use Rattle.std.proofs.Common.{◌≡◌, take}
use Rattle.p9_operand.proofs.copying.+copied_within.Given as goal

abbrev pub invariant-all_within-each : goal.invariant-all_within-each
invariant-all_within-each l = l.copies ≡ take l.ty-index l.types
