use Rattle.names_tests.proofs.samples.joined.Goals as goal

pub resolve-requires-clause-valid : goal.resolve-requires-clause-valid
resolve-requires-clause-valid g c = c.in_ok-valid.ensures.0 c.if-not-valid.false
