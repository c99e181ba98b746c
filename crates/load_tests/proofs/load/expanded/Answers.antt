use Rattle.load_tests.proofs.load.expanded.Goals as goal

pub expand_modules-requires-clause-valid : goal.expand_modules-requires-clause-valid
expand_modules-requires-clause-valid g c = c.in_ok-valid.ensures.0 c.if-not-valid.false
