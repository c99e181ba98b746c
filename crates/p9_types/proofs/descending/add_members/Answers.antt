use Rattle.std.proofs.Common.{◌≡◌, ◌-◌, ◌∷◌, List, length, take, drop, sym, subst}
use Rattle.std.specs.List.{flat_map}
use Rattle.p9_types.specs.declared.placing.Placing.{Placing}
use Rattle.p9_types.specs.Offsets.{cut_unnamed}
use Rattle.p9_types.specs.Levels.{Adds, entering}
use Rattle.p9_types.specs.Standings.{placing_of, all_placed, spread_entries, met_by}
use Rattle.p9_types.proofs.Lists.{first_and_others, empty_below}
use Rattle.p9_types.proofs.Entries.{adds_nothing}
use Rattle.p9_types.proofs.Unnamed.{entered_then}
use Rattle.p9_types.proofs.descending.add_members.Goals as goal

pub placings-preserved : goal.placings-preserved
placings-preserved c =
    let others : List Placing = take (length c.placings.rest.now - 1) (drop 1 c.placings.rest.now) in
    let whole : c.placings.rest.now ≡ c.placing-item.result ∷ others =
    first_and_others c.placings.rest.now c.placing-item.result c.in-len1-up.len_at_least c.placing-item.is in
    λ later a. c.placings.invariant later
    (subst (λ ps. Adds (spread_entries c.placings.next.places.entries)
    (entering c.args.standing.several (met_by c.args.met.now) (flat_map (cut_unnamed c.args.standing.offset) (all_placed ps))) later) (sym whole)
    (entered_then c.args.standing.several (met_by c.args.met.now) (spread_entries c.placings.next.places.entries) (spread_entries c.add_member.new.next.places.entries) later
    (cut_unnamed c.args.standing.offset (placing_of c.placing-item.result)) (flat_map (cut_unnamed c.args.standing.offset) (all_placed others)) c.in_ok-add_member.ensures a))

pub returns : goal.returns
returns c =
    c.placings.invariant (spread_entries c.placings.next.places.entries)
    (subst (λ ps. Adds (spread_entries c.placings.next.places.entries)
    (entering c.args.standing.several (met_by c.args.met.now) (flat_map (cut_unnamed c.args.standing.offset) (all_placed ps))) (spread_entries c.placings.next.places.entries))
    (sym (empty_below c.placings.rest.now c.in_default.len_below)) (adds_nothing (spread_entries c.placings.next.places.entries)))
