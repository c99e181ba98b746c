use Rattle.p9_types.specs.Pairs.{left_of, right_of}
use Rattle.p9_types.proofs.Comparing.{element_put}
use Rattle.p9_types.proofs.same.put_elements.Goals as goal

pub returns-in-Some-array_elements : goal.returns-in-Some-array_elements
returns-in-Some-array_elements c =
    element_put c.args.pairs.now.items c.push.new.self.items _ (left_of c.args.pair) (right_of c.args.pair) c.in-Some.left.count c.in-Some-array_elements.right.count
    c.in_ok-push.ensures.items c.in-Some.ensures c.in-Some-array_elements.ensures
