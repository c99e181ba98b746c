use Rattle.p9_lang.proofs.Counting.{each_node_is_typed}
use Rattle.p9_lang.proofs.laws.each_node_is_typed.Goals as goal

pub returns : goal.returns
returns c = each_node_is_typed
