use Rattle.std.proofs.Common.{length}
use Rattle.p9_lang.specs.Types.{members_of, tags_of}
use Rattle.p9_lang.proofs.Bodies.{HaveSizes}
use Rattle.p9_scopes.proofs.tag_table.all_have_sizes.Given as goal

abbrev pub invariant-members : goal.invariant-members
invariant-members l =
    HaveSizes (tags_of l.tags.list) (members_of l.rest) → HaveSizes (tags_of l.tags.list) (members_of l.initial.rest)

abbrev pub decreases-members : goal.decreases-members
decreases-members l = length l.rest
