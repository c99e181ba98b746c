use Rattle.std.proofs.Common.{sym, ap, ◌∙◌}
use Rattle.p9_grammar.specs.Trees.{trees_of}
use Rattle.p9_tree_build.specs.Machines.{told_of, through_star}
use Rattle.p9_tree_build.proofs.Naming.{through_more}
use Rattle.p9_tree_build.proofs.told.through_star.Goals as goal

pub returns-in-len1-up : goal.returns-in-len1-up
returns-in-len1-up c =
    sym (through_more c.as_slice.result.now (told_of c.args.told) c.in-len1-up.len_at_least)
    ∙ ap (λ ns. through_star (trees_of ns) (told_of c.args.told)) c.as_slice.ensures
