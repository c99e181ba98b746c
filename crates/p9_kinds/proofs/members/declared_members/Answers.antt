use Rattle.std.proofs.Common.{◌≡◌, length, arith}
use Rattle.std.proofs.lemmas.Grind.{common_steps}
use Rattle.p9_lang.specs.Types.{members_of}
use Rattle.p9_lang.specs.Parts.{declared_members}
use Rattle.p9_parts.specs.Told.{parts_of}
use Rattle.p9_kinds.proofs.Listing.{members_step, all_members}
use Rattle.p9_kinds.proofs.members.declared_members.Goals as goal

pub parts-preserved : goal.parts-preserved
parts-preserved c =
    λ base. members_step base (members_of c.parts.members) (members_of c.in_ok-members.members) (declared_members base (parts_of c.args.parts))
    c.parts.left.items c.pop.new.self.items c.in-Some.part c.in-Some.ensures.items (c.in_ok-members.ensures base) (c.parts.invariant base)

pub returns : goal.returns
returns c =
    let e : length c.parts.left.items ≡ 0 = grind (arith, common_steps, c.in_default.ensures.cases.0) in
    λ base. all_members base (members_of c.parts.members) (declared_members base (parts_of c.args.parts)) c.parts.left.items e (c.parts.invariant base)
