use Rattle.base_tests.proofs.su.+full.Given as goal

abbrev pub decreases-full : goal.decreases-full
decreases-full l = l.height
