use Rattle.std.proofs.Common.{length, refl, sym, ap, ◌∙◌}
use Rattle.p9_lang.specs.Types.{tags_of}
use Rattle.std.specs.List.{flat_map}
use Rattle.p9_lang.specs.Members.{find_substructure}
use Rattle.p9_types.specs.Offsets.{kept_offset, kept_if}
use Rattle.p9_types.specs.Levels.{tally}
use Rattle.p9_types.specs.Standings.{spread, met_by}
use Rattle.p9_types.specs.Sightings.{told_sought, sought_map}
use Rattle.std.proofs.lemmas.Bool.{eqb-true}
use Rattle.p9_types.proofs.Lists.{empty_by_length}
use Rattle.p9_types.proofs.Advancing.{first_sound}
use Rattle.p9_types.proofs.NamedMembers.{there}
use Rattle.p9_types.proofs.Loops.{below, searched, searched_out, goes_on, starts_below, length_tags, unequal}
use Rattle.p9_types.proofs.substructure.find_below.Goals as goal

pub levels-init : goal.levels-init
levels-init c =
    let start = starts_below (tags_of c.args.tags.now) (length c.args.tags.now) c.args.outer c.args.inner (met_by c.new-met.result)
    c.new-level.result.items c.push.new.self.items (unequal c.args.outer c.args.inner c.requires.apart) c.new-level.ensures.items c.in_ok-push.ensures.items (sym (length_tags c.args.tags.now)) c.new-met.ensures in
    record {
      sound = first_sound (tags_of c.args.tags.now) c.new-known.result.map.entries c.new-known.ensures;
      searches = start.0;
      none = start.1;
    }

pub returns-then-is_empty : goal.returns-then-is_empty
returns-then-is_empty c =
    sym (searched_out (tags_of c.args.tags.now) (kept_if c.args.inner) (sought_map kept_offset (find_substructure (tags_of c.args.tags.now) c.args.outer c.args.inner))
    _ (met_by c.levels.met) c.levels.level.items c.levels.invariant.searches (empty_by_length c.levels.level.items (sym c.levels.level.ok.0 ∙ eqb-true c.levels.level.len 0 (sym c.is_empty.ensures ∙ c.if-is_empty.true))))

pub returns-in-One : goal.returns-in-One
returns-in-One c =
    sym (searched (tags_of c.args.tags.now) (kept_if c.args.inner) (sought_map kept_offset (find_substructure (tags_of c.args.tags.now) c.args.outer c.args.inner))
    (told_sought c.standing_at-found.result) c.levels.depth (met_by c.descend.new.met) (spread c.in_ok-level.level.items)
    (below (tags_of c.args.tags.now) c.args.inner (sought_map kept_offset (find_substructure (tags_of c.args.tags.now) c.args.outer c.args.inner)) c.levels.depth
    (met_by c.levels.met) (met_by c.descend.new.met) c.as_slice.result.now c.levels.level.items (spread c.in_ok-level.level.items)
    c.levels.invariant.searches c.levels.invariant.none c.as_slice.ensures.value c.in_ok-level.ensures.met c.in_ok-level.ensures.level)
    c.levels-test.true
    (c.standing_at-found.ensures ∙ ap (λ ss. tally (flat_map (kept_if c.args.inner) (spread ss))) c.as_slice-in-levels.ensures.value)
    (there c.standing_at-found.result c.in-One.is))

pub levels-preserved : goal.levels-preserved
levels-preserved c = record {
  sound = c.in_ok-level.ensures.sound;
  searches = goes_on (tags_of c.args.tags.now) (kept_if c.args.inner) (sought_map kept_offset (find_substructure (tags_of c.args.tags.now) c.args.outer c.args.inner)) c.levels.depth _
      (met_by c.descend.new.met) (spread c.in_ok-level.level.items)
      (below (tags_of c.args.tags.now) c.args.inner (sought_map kept_offset (find_substructure (tags_of c.args.tags.now) c.args.outer c.args.inner)) c.levels.depth
      (met_by c.levels.met) (met_by c.descend.new.met) c.as_slice.result.now c.levels.level.items (spread c.in_ok-level.level.items)
      c.levels.invariant.searches c.levels.invariant.none c.as_slice.ensures.value c.in_ok-level.ensures.met c.in_ok-level.ensures.level)
      c.levels-test.true refl;
  none = sym (ap (λ ss. tally (flat_map (kept_if c.args.inner) (spread ss))) c.as_slice-in-levels.ensures.value) ∙ sym c.standing_at-found.ensures ∙ ap told_sought c.in-Nowhere.is;
}
