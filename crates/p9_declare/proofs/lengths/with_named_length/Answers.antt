use Rattle.p9_lang.specs.Types.{type_of}
use Rattle.p9_scopes.specs.State.{known_of}
use Rattle.p9_declare.specs.Told.{steps_of}
use Rattle.p9_declare.proofs.Declared.{length_broken}
use Rattle.p9_declare.proofs.lengths.with_named_length.Goals as goal

pub returns-in-Err : goal.returns-in-Err
returns-in-Err c =
    length_broken (type_of c.args.base.now) (steps_of c.args.steps.now) c.args.last c.args.count c.args.name.now (known_of c.args.known.now) c.in-Err.fault c.in-Err.ensures
