use Rattle.p9_types.proofs.Entries.{adds_standing}
use Rattle.p9_types.proofs.level.NextLevel.add.Goals as goal

pub returns : goal.returns
returns c =
    adds_standing c.args.self.now.places.entries c.insert.new.self.entries c.args.standing c.place_with-place.result c.in_ok-insert.ensures.entries c.place_with-place.ensures
