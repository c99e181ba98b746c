use Rattle.std.proofs.Common.{◌≡◌, take}
use Rattle.p9_declare.proofs.shaping.all_copied.Given as goal

abbrev pub invariant-each : goal.invariant-each
invariant-each l = l.copies ≡ take l.ty-index l.types
