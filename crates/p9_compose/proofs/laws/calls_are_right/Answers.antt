use Rattle.p9_compose.proofs.Composing.{calls_are_right}
use Rattle.p9_compose.proofs.laws.calls_are_right.Goals as goal

pub returns : goal.returns
returns c = calls_are_right
