use Rattle.std.proofs.Common.{true≢false, sym}
use Rattle.p9_types.specs.Standings.{spread_entries}
use Rattle.p9_types.proofs.Entries.{goes_over, all_over, none_over}
use Rattle.p9_types.proofs.Lists.{nothing_left}
use Rattle.p9_types.proofs.level.NextLevel.into_standings.Goals as goal

pub places-init : goal.places-init
places-init c = none_over c.new-standings.result.items c.args.self.places.entries c.new-standings.ensures.items

pub places-preserved : goal.places-preserved
places-preserved c =
    goes_over c.places.standings.items c.push.new.self.items c.places.self.places.entries c.pop.new.self.entries (c.in-Some.tag, c.in-Some.place)
    (spread_entries c.args.self.places.entries) c.in-Some.ensures.entries c.in_ok-push.ensures.items c.places.invariant

pub returns : goal.returns
returns c = all_over c.places.standings.items c.places.self.places.entries (spread_entries c.args.self.places.entries) (nothing_left c.places.self.places.entries (λ h. true≢false (sym (c.in_default.ensures.found.1 h)))) c.places.invariant
