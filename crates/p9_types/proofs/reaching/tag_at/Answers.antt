use Rattle.p9_types.proofs.TagsAt.{tag_looked_up}
use Rattle.p9_types.proofs.reaching.tag_at.Goals as goal

pub returns : goal.returns
returns c = let h = c.get.ensures.lookup in tag_looked_up c.args.tags.now c.args.number c.get.result h.3 h.1
