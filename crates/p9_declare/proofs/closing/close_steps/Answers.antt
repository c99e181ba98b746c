use Rattle.p9_lang.specs.Types.{type_of}
use Rattle.p9_types.proofs.Lists.{empty_by_length}
use Rattle.p9_scopes.specs.State.{known_of}
use Rattle.p9_declare.specs.Told.{told_by, told_step}
use Rattle.p9_declare.proofs.Inwards.{step_on, step_off, no_step}
use Rattle.p9_declare.proofs.closing.close_steps.Goals as goal

pub returns-in-Err : goal.returns-in-Err
returns-in-Err c =
    step_off told_step c.args.lengths.given (told_by c.args.lengths.by) c.make_no_type.result c.steps.rest.now c.in-Some.before.now c.in-Some.step.now (type_of c.steps.ty) (known_of c.steps.known) c.in-Err.fault _
    c.in-Some.ensures.cases.0 c.make_no_type.ensures c.in-Err.ensures c.steps.invariant

pub steps-preserved : goal.steps-preserved
steps-preserved c =
    step_on told_step c.args.lengths.given (told_by c.args.lengths.by) c.make_no_type.result c.steps.rest.now c.in-Some.before.now c.in-Some.step.now (type_of c.steps.ty) (type_of c.in-Ok.made) (known_of c.steps.known) (known_of c.close_step.new.known) _
    c.in-Some.ensures.cases.0 c.make_no_type.ensures c.in-Ok.ensures c.steps.invariant

pub returns : goal.returns
returns c =
    no_step told_step c.args.lengths.given (told_by c.args.lengths.by) c.steps.rest.now (type_of c.steps.ty) (known_of c.steps.known) _
    (empty_by_length c.steps.rest.now c.in_default.ensures.cases) c.steps.invariant
