use Rattle.std.proofs.Common.{sym}
use Rattle.p9_grammar.proofs.Nodes.{start_of-tree}
use Rattle.p9_tree_build.proofs.frame.start_of.Goals as goal

pub returns : goal.returns
returns c = sym (start_of-tree c.args.node.now)
