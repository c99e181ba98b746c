use Rattle.expand_tests.proofs.tests.expanded.Goals as goal

pub resolve-requires-clause-valid : goal.resolve-requires-clause-valid
resolve-requires-clause-valid g c = c.in_ok-valid.ensures.0 c.if-not-valid.false

pub place-requires-clause-valid : goal.place-requires-clause-valid
place-requires-clause-valid g c = c.in_ok-valid.ensures.0 c.if-not-valid.false

pub expand-requires-clause-valid : goal.expand-requires-clause-valid
expand-requires-clause-valid g c = c.in_ok-valid.ensures.0 c.if-not-valid.false
