use Rattle.std.proofs.Common.{◌-◌, length, take, drop, refl}
use Rattle.p9_types.proofs.Lists.{first_and_others, empty_below}
use Rattle.p9_types.proofs.Comparing.{compares_next, compares_last}
use Rattle.p9_types.proofs.same.put_parameters.Goals as goal

pub parameters-preserved : goal.parameters-preserved
parameters-preserved c =
    compares_next c.args.pairs.now.items c.parameters.pairs.items c.push.new.self.items c.args.left.now c.args.right.now c.parameters.lefts.now c.parameters.rights.now
    (take (length c.parameters.lefts.now - 1) (drop 1 c.parameters.lefts.now)) (take (length c.parameters.rights.now - 1) (drop 1 c.parameters.rights.now))
    c.left-item.result c.right-item.result _
    (first_and_others c.parameters.lefts.now c.left-item.result c.in-len1-up.len_at_least c.left-item.is)
    (first_and_others c.parameters.rights.now c.right-item.result c.in-len1-up-rights.len_at_least c.right-item.is)
    c.in_ok-push.ensures.items refl refl c.parameters.invariant

pub returns : goal.returns
returns c =
    compares_last c.args.pairs.now.items c.parameters.pairs.items c.args.left.now c.args.right.now c.parameters.lefts.now c.parameters.rights.now c.is_empty.result
    (empty_below c.parameters.lefts.now c.in_default.len_below) c.is_empty.ensures c.parameters.invariant
