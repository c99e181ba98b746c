use Rattle.std.proofs.Common.{Option}
use Rattle.p9_lang.specs.Types.{TypeTree, type_of}
use Rattle.p9_lang.specs.Scopes.{innermost, in_level}
use Rattle.p9_lang.specs.Declarators.{ByCaller}
use Rattle.p9_lang.specs.Declaring.{last_node, parameter_rules}
use Rattle.p9_operand.specs.Told.{told_least}
use Rattle.p9_scopes.specs.State.{known_of}
use Rattle.p9_declare.specs.Told.{steps_of}
use Rattle.p9_declare.proofs.Closed.{named_before}
use Rattle.p9_declare.proofs.parameters.close_parameter.Goals as goal

pub returns-in-Err : goal.returns-in-Err
returns-in-Err c =
    named_before (λ (type : Option TypeTree). parameter_rules c.args.name.now (in_level c.args.name.now (innermost (known_of c.args.known.now).names)))
    (last_node (known_of c.args.known.now)) c.last_node-last.result ByCaller (type_of c.args.base.now) (steps_of c.args.steps.now) (known_of c.args.known.now) c.in-Err.fault c.also_broken.result (told_least c.in_ok-untyped.untyped)
    c.last_node-last.ensures c.in-Err.ensures c.in_ok-untyped.ensures c.also_broken.ensures
