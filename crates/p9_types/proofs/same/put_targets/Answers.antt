use Rattle.p9_types.specs.Pairs.{left_of, right_of}
use Rattle.p9_types.proofs.Comparing.{target_put}
use Rattle.p9_types.proofs.same.put_targets.Goals as goal

pub returns-in-Some-target_of : goal.returns-in-Some-target_of
returns-in-Some-target_of c =
    target_put c.args.pairs.now.items c.push.new.self.items _ (left_of c.args.pair) (right_of c.args.pair) c.in_ok-push.ensures.items c.in-Some.ensures c.in-Some-target_of.ensures
