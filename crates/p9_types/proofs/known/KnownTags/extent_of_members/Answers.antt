use Rattle.std.proofs.Common.{◌-◌, length, take, drop, subst}
use Rattle.p9_lang.specs.Types.{type_of, members_of}
use Rattle.p9_lang.specs.Layout.{extent, filled, nothing_yet}
use Rattle.p9_types.specs.Capping.{Alike}
use Rattle.p9_types.specs.Told.{told, told_option, known_extent}
use Rattle.p9_types.proofs.Lists.{first_and_others}
use Rattle.p9_types.proofs.AlikeExtents.{member_step}
use Rattle.p9_types.proofs.known.KnownTags.extent_of_members.Goals as goal

pub members-preserved : goal.members-preserved
members-preserved c =
    member_step (known_extent c.args.self.now.map.entries) c.args.is_union (told c.members.so_far) (told c.with_member-so_far.result) (type_of c.member-item.result.ty)
    (members_of (take (length c.members.rest.now - 1) (drop 1 c.members.rest.now))) (told c.in-Some.extent)
    (filled (known_extent c.args.self.now.map.entries) c.args.is_union nothing_yet (members_of c.args.members.now))
    (subst (λ o. Alike (told_option o) (extent (known_extent c.args.self.now.map.entries) (type_of c.member-item.result.ty))) c.in-Some.is c.extent_of.ensures)
    c.with_member-so_far.ensures
    (subst (λ ms. Alike (filled (known_extent c.args.self.now.map.entries) c.args.is_union (told c.members.so_far) (members_of ms))
    (filled (known_extent c.args.self.now.map.entries) c.args.is_union nothing_yet (members_of c.args.members.now)))
    (first_and_others c.members.rest.now c.member-item.result c.in-len1-up.len_at_least c.member-item.is) c.members.invariant)
