use Rattle.p9_homes.specs.Tables.{IsTable}
use Rattle.p9_homes.proofs.tables.mark_all.Given as goal

abbrev pub invariant-loop-k : goal.invariant-loop-k
invariant-loop-k l = IsTable l.regions l.homes l.k l.count l.cells
