use Rattle.p9_cpp.proofs.Derived.{one_result}
use Rattle.p9_cpp.proofs.laws.expansion_is_one.Goals as goal

pub returns : goal.returns
returns c = one_result
