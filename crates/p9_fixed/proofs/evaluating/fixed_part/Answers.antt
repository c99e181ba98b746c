use Rattle.p9_lang.specs.Types.{tags_of}
use Rattle.p9_nodes.specs.Nodes.{node_in}
use Rattle.p9_fixed.specs.Told.{told_part}
use Rattle.p9_fixed.proofs.Parted.{part_is}
use Rattle.p9_fixed.proofs.evaluating.fixed_part.Goals as goal

pub returns : goal.returns
returns c =
    part_is (tags_of c.args.source.now.typed.now.tags.list) (node_in c.args.source.now.typed.now c.args.node)
    (told_part c.in_ok-part.part) c.in_ok-part.ensures
