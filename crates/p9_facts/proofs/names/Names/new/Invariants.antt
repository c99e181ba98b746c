use Rattle.std.proofs.Common.{◌≡◌, length}
use Rattle.std.specs.List.{flat_map}
use Rattle.p9_facts.specs.Names.{with_names, names_of, symbols_of, IsNumbered}
use Rattle.p9_facts.proofs.names.Names.new.Given as goal

abbrev pub invariant-loop-rest : goal.invariant-loop-rest
invariant-loop-rest l = record {
  list : with_names l.names.list.items (flat_map names_of l.rest) ≡ symbols_of l.rows;
  numbered : IsNumbered l.names;
}

abbrev pub decreases-loop-rest : goal.decreases-loop-rest
decreases-loop-rest l = length l.rest
