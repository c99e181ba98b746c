use Rattle.std.proofs.Common.{◌≡◌, ◌+◌, length}
use Rattle.std.specs.Option.{option_or}
use Rattle.std.specs.List.{position_from}
use Rattle.std.specs.HashMap.{get}
use Rattle.p9_facts.specs.declared.facts.Fact.{Fact}
use Rattle.p9_facts.specs.Facts.{same_fact, says}
use Rattle.p9_facts.proofs.facts.Facts.new.Given as goal

abbrev pub invariant-loop-rest : goal.invariant-loop-rest
invariant-loop-rest l = record {
  known : (q : Fact) → option_or (get same_fact l.map q) (position_from (says q) l.index l.rest) ≡ position_from (says q) 0 l.rows;
  count : l.index + length l.rest ≡ length l.rows;
}

abbrev pub decreases-loop-rest : goal.decreases-loop-rest
decreases-loop-rest l = length l.rest
