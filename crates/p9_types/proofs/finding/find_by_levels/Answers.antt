use Rattle.std.proofs.Common.{◌||◌, [], ◌∷◌, length, refl, sym, ap, subst, ◌∙◌, arith}
use Rattle.p9_lang.specs.Types.{tags_of}
use Rattle.p9_lang.specs.Members.{sought, whole}
use Rattle.p9_types.specs.Offsets.{cut_inner}
use Rattle.p9_types.specs.Levels.{tally, unmet, Adds}
use Rattle.p9_types.specs.Standings.{spread, stands_in, met_by}
use Rattle.std.specs.List.{flat_map}
use Rattle.p9_types.specs.Sightings.{told_sought, named_places}
use Rattle.std.proofs.lemmas.Bool.{eqb-true}
use Rattle.p9_types.proofs.Lists.{empty_by_length}
use Rattle.p9_types.proofs.Advancing.{first_sound}
use Rattle.p9_types.proofs.NamedMembers.{names_uniform, names_blind, there}
use Rattle.p9_types.proofs.Loops.{searches_next, searched, searched_through, searched_out, starts, length_tags}
use Rattle.p9_types.proofs.finding.find_by_levels.Goals as goal

pub levels-init : goal.levels-init
levels-init c = record {
  sound = first_sound (tags_of c.args.tags.now) c.new-known.result.map.entries c.new-known.ensures;
  searches = starts (tags_of c.args.tags.now) (named_places (tags_of c.args.tags.now) c.args.name.now) (length c.args.tags.now) (length (tags_of c.args.tags.now)) c.args.tag (met_by c.new-met.result)
      c.new-level.result.items c.push.new.self.items c.new-level.ensures.items c.in_ok-push.ensures.items (sym (length_tags c.args.tags.now)) c.new-met.ensures;
}

pub returns-then-is_empty : goal.returns-then-is_empty
returns-then-is_empty c =
    sym (searched_out (tags_of c.args.tags.now) (named_places (tags_of c.args.tags.now) c.args.name.now)
    (sought (length (tags_of c.args.tags.now)) (tags_of c.args.tags.now) (named_places (tags_of c.args.tags.now) c.args.name.now) (whole c.args.tag ∷ []))
    c.levels.depth (met_by c.levels.met) c.levels.level.items c.levels.invariant.searches (empty_by_length c.levels.level.items (sym c.levels.level.ok.0 ∙ eqb-true c.levels.level.len 0 (sym c.is_empty.ensures ∙ c.if-is_empty.true))))

pub returns-in-One : goal.returns-in-One
returns-in-One c =
    sym (searched (tags_of c.args.tags.now) (named_places (tags_of c.args.tags.now) c.args.name.now)
    (sought (length (tags_of c.args.tags.now)) (tags_of c.args.tags.now) (named_places (tags_of c.args.tags.now) c.args.name.now) (whole c.args.tag ∷ []))
    (told_sought c.in_ok-found.found) c.levels.depth (met_by c.levels.met) (spread c.levels.level.items) c.levels.invariant.searches c.levels-test.true
    (c.in_ok-found.ensures.found ∙ ap (λ ss. tally (flat_map (named_places (tags_of c.args.tags.now) c.args.name.now) (spread ss))) c.as_slice.ensures.value)
    (there c.in_ok-found.found c.in-One.is))

pub levels-preserved : goal.levels-preserved
levels-preserved c = record {
  sound = c.in_ok-level.ensures.sound;
  searches = searches_next (tags_of c.args.tags.now) (named_places (tags_of c.args.tags.now) c.args.name.now)
      (sought (length (tags_of c.args.tags.now)) (tags_of c.args.tags.now) (named_places (tags_of c.args.tags.now) c.args.name.now) (whole c.args.tag ∷ []))
      c.levels.depth _ (met_by c.levels.met) (met_by c.descend.new.met) c.levels.level.items (spread c.in_ok-level.level.items)
      (names_uniform (tags_of c.args.tags.now) c.args.name.now) (names_blind (tags_of c.args.tags.now) c.args.name.now) c.levels.invariant.searches c.levels-test.true refl
      (sym (c.in_ok-found.ensures.found ∙ ap (λ ss. tally (flat_map (named_places (tags_of c.args.tags.now) c.args.name.now) (spread ss))) c.as_slice.ensures.value)
      ∙ ap told_sought c.in-Nowhere.is)
      (λ i. c.in_ok-level.ensures.met i ∙ ap (λ ss. stands_in i ss || met_by c.levels.met i) c.as_slice-in-levels.ensures.value)
      (subst (λ ss. Adds [] (unmet (met_by c.descend.new.met) (flat_map (cut_inner (tags_of c.args.tags.now)) (spread ss))) (spread c.in_ok-level.level.items))
      c.as_slice-in-levels.ensures.value c.in_ok-level.ensures.level);
}

pub returns : goal.returns
returns c =
    sym (searched_through (tags_of c.args.tags.now) (named_places (tags_of c.args.tags.now) c.args.name.now)
    (sought (length (tags_of c.args.tags.now)) (tags_of c.args.tags.now) (named_places (tags_of c.args.tags.now) c.args.name.now) (whole c.args.tag ∷ []))
    c.levels.depth (met_by c.levels.met) (spread c.levels.level.items) c.levels.invariant.searches (omega arith))
