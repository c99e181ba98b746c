use Rattle.p9_lang.specs.Types.{types_of, type_row}
use Rattle.p9_types.specs.Pairs.{left_of, right_of}
use Rattle.p9_types.proofs.Comparing.{signature_put}
use Rattle.p9_types.proofs.same.put_signatures.Goals as goal

pub returns-in-Some-signature_of : goal.returns-in-Some-signature_of
returns-in-Some-signature_of c =
    signature_put c.args.pairs.now.items c.push.new.self.items c.put_parameters.new.pairs.items _ (left_of c.args.pair) (right_of c.args.pair)
    (type_row (types_of c.in-Some.parameters.now)) (type_row (types_of c.in-Some-signature_of.others.now)) c.in_ok-alike.alike
    c.in_ok-push.ensures.items c.in-Some.ensures c.in-Some-signature_of.ensures c.in_ok-alike.ensures
