use Rattle.std.proofs.Common.{List, length}
use Rattle.std.specs.List.{flat_map}
use Rattle.p9_lang.specs.Members.{Part}
use Rattle.p9_types.specs.Offsets.{cut_unnamed}
use Rattle.p9_types.specs.Levels.{Adds, entering}
use Rattle.p9_types.specs.Standings.{all_placed, spread_entries, met_by}
use Rattle.p9_types.proofs.descending.add_members.Given as goal

abbrev pub invariant-placings : goal.invariant-placings
invariant-placings l =
    (later : List Part)
    → Adds (spread_entries l.next.places.entries) (entering l.standing.several (met_by l.met) (flat_map (cut_unnamed l.standing.offset) (all_placed l.rest))) later
    → Adds (spread_entries l.initial.next.places.entries) (entering l.standing.several (met_by l.met) (flat_map (cut_unnamed l.standing.offset) (all_placed l.placings))) later

abbrev pub decreases-placings : goal.decreases-placings
decreases-placings l = length l.rest
