use Rattle.std.proofs.Common.{◌↔◌, AllPairs, length}
use Rattle.p9_abs.specs.Validity.{AreApart}
use Rattle.p9_obj.proofs.Fresh.{IsFresh}
use Rattle.p9_obj.proofs.distinct.are_distinct.Given as goal

abbrev pub invariant-loop-rest : goal.invariant-loop-rest
invariant-loop-rest l = IsFresh l.seen.locals.keys l.seen.globals.keys l.rest ↔ AllPairs AreApart l.symbols

abbrev pub decreases-loop-rest : goal.decreases-loop-rest
decreases-loop-rest l = length l.rest
