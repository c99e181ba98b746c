use Rattle.p9_grammar.proofs.Unique.{one-expression-law}
use Rattle.p9_grammar.proofs.laws.expressions_have_one_tree.Goals as goal

pub returns : goal.returns
returns c = one-expression-law
