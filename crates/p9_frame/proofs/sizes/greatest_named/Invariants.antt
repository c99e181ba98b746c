use Rattle.std.proofs.Common.{◌≡◌, max, drop}
use Rattle.p9_frame.specs.Sizes.{greatest_named}
use Rattle.p9_frame.proofs.sizes.greatest_named.Given as goal

abbrev pub invariant-loop-a : goal.invariant-loop-a
invariant-loop-a l = max l.greatest (greatest_named (drop l.a-index l.code)) ≡ greatest_named l.code
