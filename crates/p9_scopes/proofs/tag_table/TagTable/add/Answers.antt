use Rattle.std.proofs.Common.{refl}
use Rattle.p9_scopes.proofs.Tables.{more_sound}
use Rattle.p9_scopes.proofs.tag_table.TagTable.add.Goals as goal

pub invariant_of-self-2 : goal.invariant_of-self-2
invariant_of-self-2 c = more_sound c.self.inside.tags.list _ _ c.self.invariant c.in_ok-push.ensures.ok refl
