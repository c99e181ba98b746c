use Rattle.std.proofs.Common.{subst}
use Rattle.p9_lang.specs.Types.{tags_of}
use Rattle.p9_lang.specs.TagRules.{NoneContainsItself}
use Rattle.p9_scopes.proofs.Tables.{sound_ends}
use Rattle.p9_scopes.proofs.tag_table.TagTable.tags.Goals as goal

pub returns-clause-ends : goal.returns-clause-ends
returns-clause-ends c = subst (λ l. NoneContainsItself (tags_of l)) c.self.view_is (sound_ends c.self.inside.tags.list c.self.invariant)
