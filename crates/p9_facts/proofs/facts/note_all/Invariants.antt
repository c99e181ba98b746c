use Rattle.std.proofs.Common.{◌≡◌, length}
use Rattle.std.specs.HashMap.{get}
use Rattle.p9_facts.specs.declared.facts.Fact.{Fact}
use Rattle.p9_facts.specs.Facts.{same_fact, among, noted}
use Rattle.p9_facts.proofs.facts.note_all.Given as goal

abbrev pub invariant-loop-rest : goal.invariant-loop-rest
invariant-loop-rest l = (q : Fact) → noted (get same_fact l.map q) l.row (among q l.rest) ≡ noted (get same_fact l.fn.map q) l.row (among q l.facts)

abbrev pub decreases-loop-rest : goal.decreases-loop-rest
decreases-loop-rest l = length l.rest
