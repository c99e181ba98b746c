use Rattle.p9_lang.specs.Types.{type_of}
use Rattle.p9_lang.specs.Declarators.{name_of}
use Rattle.p9_scopes.specs.State.{known_of}
use Rattle.p9_declare.specs.Told.{told_by, told_declaring, told_name, steps_of}
use Rattle.p9_declare.proofs.Declared.{object_declared, object_broken}
use Rattle.p9_declare.proofs.objects.declare_object.Goals as goal

pub returns-in_ok-declare_as-in-Ok : goal.returns-in_ok-declare_as-in-Ok
returns-in_ok-declare_as-in-Ok c =
    object_declared (told_declaring c.args.declaring) (told_by c.args.by) (type_of c.args.base.now) (steps_of c.args.steps.now) (name_of (steps_of c.args.steps.now)) (told_name c.in-Some.name)
    (known_of c.args.known.now) (known_of c.close_object.new.known) (known_of c.declare_as.new.known) (type_of c.in-Ok.ty)
    c.in-Some.ensures c.in-Ok.ensures c.in_ok-declare_as-in-Ok.ensures

pub returns-in-Err : goal.returns-in-Err
returns-in-Err c =
    object_broken (told_declaring c.args.declaring) (told_by c.args.by) (type_of c.args.base.now) (steps_of c.args.steps.now) (name_of (steps_of c.args.steps.now)) (told_name c.in-Some.name)
    (known_of c.args.known.now) c.in-Err.fault
    c.in-Some.ensures c.in-Err.ensures
