use Rattle.p9_behind.specs.Following.{told_follows}
use Rattle.p9_behind.proofs.Nodes.{first_follows}
use Rattle.p9_behind.proofs.following.what_follows.Goals as goal

pub returns-in-len1-up : goal.returns-in-len1-up
returns-in-len1-up c =
    first_follows c.args.rest.now c.first-item.result (told_follows c.kind_that_follows.result)
    c.in-len1-up.len_at_least c.first-item.is c.kind_that_follows.ensures
