use Rattle.p9_lang.specs.Types.{type_of}
use Rattle.p9_kinds.proofs.Listing.{named_members}
use Rattle.p9_kinds.proofs.members.or_unnamed.Goals as goal

pub returns-else-is_empty : goal.returns-else-is_empty
returns-else-is_empty c = named_members (type_of c.args.base) c.args.members c.is_empty.result c.is_empty.ensures c.if-is_empty.false
