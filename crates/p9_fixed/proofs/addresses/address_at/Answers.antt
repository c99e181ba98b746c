use Rattle.p9_lang.specs.Types.{tags_of, meant}
use Rattle.p9_fixed.specs.Told.{told_fixed, told_parts}
use Rattle.p9_fixed.proofs.Parted.{unary_at}
use Rattle.p9_fixed.proofs.addresses.address_at.Goals as goal

pub returns-in-Unary : goal.returns-in-Unary
returns-in-Unary c =
    unary_at (tags_of c.args.tags.now.list) c.args.kind.now _ (meant c.args.means.now) (told_parts c.args.parts.now)
    (told_fixed c.unary_address.result) c.in-Unary.is c.unary_address.ensures
