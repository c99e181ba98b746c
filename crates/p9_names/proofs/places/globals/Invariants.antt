use Rattle.std.proofs.Common.{◌≡◌, ◌++◌, drop}
use Rattle.p9_names.specs.Passes.{places_from, is_global}
use Rattle.p9_names.proofs.places.globals.Given as goal

abbrev pub invariant-loop-i : goal.invariant-loop-i
invariant-loop-i l = l.places.items ++ places_from is_global l.i (drop l.i l.linked) ≡ places_from is_global 0 l.linked
