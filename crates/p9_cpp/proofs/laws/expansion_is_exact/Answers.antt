use Rattle.p9_cpp.proofs.Derived.{exact}
use Rattle.p9_cpp.proofs.laws.expansion_is_exact.Goals as goal

pub returns : goal.returns
returns c = exact
