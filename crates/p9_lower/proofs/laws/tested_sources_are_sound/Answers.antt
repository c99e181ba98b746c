use Rattle.p9_lower.proofs.Tests as tests
use Rattle.p9_lower.proofs.laws.tested_sources_are_sound.Goals as goal

pub returns : goal.returns
returns c = tests.tested_sources_are_sound
