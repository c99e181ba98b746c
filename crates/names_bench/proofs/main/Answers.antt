use Rattle.names_bench.proofs.main.Goals as goal

pub join-requires-clause-valid : goal.join-requires-clause-valid
join-requires-clause-valid c = c.in-Ok-all_valid.ensures.0 c.if-not-valid.false
