use Rattle.p9_lang.specs.Types.{tags_of}
use Rattle.p9_types.proofs.Lists.{first_and_others}
use Rattle.p9_judge.proofs.Marks.{mark_step}
use Rattle.p9_judge.proofs.marking.mark_tags.Goals as goal

pub tags-preserved : goal.tags-preserved
tags-preserved c =
    mark_step c.args.marks.now c.tags.rest.now _ c.named-item.result (tags_of c.tags.list.items) (tags_of c.mark_named.new.tags.items) _
    (first_and_others c.tags.rest.now c.named-item.result c.in-len1-up.len_at_least c.named-item.is)
    c.in_ok-mark_named.ensures c.tags.invariant
