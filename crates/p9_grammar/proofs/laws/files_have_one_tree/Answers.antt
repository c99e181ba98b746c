use Rattle.p9_grammar.proofs.Unique.{one-file-law}
use Rattle.p9_grammar.proofs.laws.files_have_one_tree.Goals as goal

pub returns : goal.returns
returns c = one-file-law
