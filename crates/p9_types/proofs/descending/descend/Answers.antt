use Rattle.std.proofs.Common.{◌≡◌, ◌-◌, ◌∷◌, List, length, take, drop, get_or, false, sym, subst}
use Rattle.std.specs.List.{flat_map}
use Rattle.p9_lang.specs.Types.{tags_of}
use Rattle.p9_types.specs.declared.level.Standing.{Standing}
use Rattle.p9_types.specs.Offsets.{cut_inner}
use Rattle.p9_types.specs.Levels.{Adds, unmet}
use Rattle.p9_types.specs.Standings.{spread, spread_entries, met_by}
use Rattle.p9_types.proofs.Lists.{first_or, empty_below}
use Rattle.p9_types.proofs.Entries.{adds_nothing}
use Rattle.p9_types.proofs.Unnamed.{level_then, adds_over}
use Rattle.p9_types.proofs.descending.descend.Goals as goal

abbrev none : Standing
none = record { tag = 0; offset = 0; several = false }

pub standings-preserved : goal.standings-preserved
standings-preserved c =
    let first : Standing = get_or c.standings.rest.now 0 none in
    let others : List Standing = take (length c.standings.rest.now - 1) (drop 1 c.standings.rest.now) in
    let whole : c.standings.rest.now ≡ first ∷ others = first_or c.standings.rest.now none c.in-len1-up.len_at_least in
    record {
      sound = c.in_ok-enter.ensures.sound;
      adds = λ later a. c.standings.invariant.adds later
          (subst (λ ss. Adds (spread_entries c.standings.next.places.entries) (unmet (met_by c.meet_all.new.self) (flat_map (cut_inner (tags_of c.args.tags.now)) (spread ss))) later) (sym whole)
          (level_then (tags_of c.args.tags.now) (met_by c.meet_all.new.self) first others (spread_entries c.standings.next.places.entries) (spread_entries c.enter.new.next.places.entries) later
          c.in_ok-enter.ensures.adds a));
    }

pub returns-clause-level : goal.returns-clause-level
returns-clause-level c =
    adds_over (unmet (met_by c.meet_all.new.self) (flat_map (cut_inner (tags_of c.args.tags.now)) (spread c.args.level.now)))
    (spread_entries c.standings.next.places.entries) (spread c.in_ok-standings.standings.items)
    (c.standings.invariant.adds (spread_entries c.standings.next.places.entries)
    (subst (λ ss. Adds (spread_entries c.standings.next.places.entries) (unmet (met_by c.meet_all.new.self) (flat_map (cut_inner (tags_of c.args.tags.now)) (spread ss))) (spread_entries c.standings.next.places.entries))
    (sym (empty_below c.standings.rest.now c.in_default.len_below)) (adds_nothing (spread_entries c.standings.next.places.entries))))
    c.in_ok-standings.ensures
