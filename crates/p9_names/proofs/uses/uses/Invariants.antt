use Rattle.std.proofs.Common.{◌≡◌, ◌++◌, drop}
use Rattle.p9_names.specs.Passes.{places_from, is_global_use}
use Rattle.p9_names.proofs.uses.uses.Given as goal

abbrev pub invariant-loop-i : goal.invariant-loop-i
invariant-loop-i l = l.places.items ++ places_from is_global_use l.i (drop l.i l.linked) ≡ places_from is_global_use 0 l.linked
