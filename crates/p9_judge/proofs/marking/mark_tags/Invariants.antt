use Rattle.std.proofs.Common.{◌≡◌, reverse, length}
use Rattle.p9_lang.specs.Files.{mark_tags}
use Rattle.p9_lang.specs.Types.{tags_of}
use Rattle.p9_scopes.specs.Seen.{tag_level_of}
use Rattle.p9_judge.proofs.marking.mark_tags.Given as goal

abbrev pub invariant-tags : goal.invariant-tags
invariant-tags l =
    mark_tags l.marks (tag_level_of (reverse l.rest)) (tags_of l.list.items)
    ≡ mark_tags l.marks (tag_level_of (reverse l.level)) (tags_of l.fn.tags.list)

abbrev pub decreases-tags : goal.decreases-tags
decreases-tags l = length l.rest
