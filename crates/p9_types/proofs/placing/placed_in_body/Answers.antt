use Rattle.std.proofs.Common.{◌≡◌, ◌++◌, ◌-◌, ◌∷◌, List, length, map, take, drop, refl, ap, subst, ◌∙◌}
use Rattle.p9_lang.specs.declared.types.Member.{Member}
use Rattle.p9_lang.specs.Types.{member_of, members_of, tags_of, type_of}
use Rattle.p9_lang.specs.Layout.{layout, nothing_yet}
use Rattle.p9_lang.specs.Members.{placed_from}
use Rattle.p9_types.specs.Capping.{capped}
use Rattle.p9_types.specs.Told.{told}
use Rattle.p9_types.specs.Offsets.{cut_placed}
use Rattle.p9_types.specs.Standings.{all_placed}
use Rattle.p9_types.proofs.Lists.{first_and_others}
use Rattle.p9_types.proofs.Placings.{alike_or_empty, placed_step}
use Rattle.p9_types.proofs.placing.placed_in_body.Goals as goal

pub members-preserved : goal.members-preserved
members-preserved c =
    let others : List Member = take (length c.members.rest.now - 1) (drop 1 c.members.rest.now) in
    let whole : c.members.rest.now ≡ c.member-item.result ∷ others =
    first_and_others c.members.rest.now c.member-item.result c.in-len1-up.len_at_least c.member-item.is in
    record {
      sound = c.in_ok-extent_within.ensures.sound;
      placed = placed_step (tags_of c.args.tags.now) c.args.is_union c.members.so_far c.unwrap_or-extent.result c.with_member-so_far.result
          c.members.number c.in_ok-number.number (member_of c.member-item.result) (members_of others) c.members.placings.items c.push.new.self.items _
          (map cut_placed (placed_from (tags_of c.args.tags.now) c.args.is_union nothing_yet 0 (members_of c.args.members.now)))
          (alike_or_empty c.in_ok-extent_within.field-0 (layout (tags_of c.args.tags.now) (type_of c.member-item.result.ty)) c.unwrap_or-extent.result c.nothing.result
          c.in_ok-extent_within.ensures.extent c.nothing.ensures c.unwrap_or-extent.ensures)
          c.with_member-so_far.ensures c.in_ok-push.ensures.items refl refl (c.capped_number.ensures.value ∙ ap capped (c.from.ensures ∙ c.offset_of.ensures.value)) refl c.in_ok-number.ensures
          (subst (λ ms. all_placed c.members.placings.items ++ map cut_placed (placed_from (tags_of c.args.tags.now) c.args.is_union (told c.members.so_far) c.members.number (members_of ms))
          ≡ map cut_placed (placed_from (tags_of c.args.tags.now) c.args.is_union nothing_yet 0 (members_of c.args.members.now))) whole c.members.invariant.placed);
    }
