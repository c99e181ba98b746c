use Rattle.std.proofs.Common.{ap, ◌∙◌}
use Rattle.p9_tree_build.specs.Names.{held}
use Rattle.p9_tree_build.proofs.Held.{held-insert}
use Rattle.p9_tree_build.proofs.level.note.Goals as goal

pub returns : goal.returns
returns c = λ q. ap (λ es. held es q) c.in_ok-insert.ensures.entries ∙ held-insert c.args.kinds.now.entries c.args.name c.args.is_type q
