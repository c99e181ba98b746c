use Rattle.std.proofs.Common.{◌≡◌, List, None, ap, sym, ◌∙◌}
use Rattle.p9_lang.specs.Types.{Tags, type_of}
use Rattle.p9_lang.specs.Scopes.{Declared, innermost, in_level}
use Rattle.p9_lang.specs.Declarators.{naming_rules}
use Rattle.p9_lang.specs.Declaring.{last_node}
use Rattle.p9_operand.specs.Told.{told_rule, told_least}
use Rattle.p9_scopes.specs.State.{known_of}
use Rattle.p9_declare.specs.Told.{told_by, told_declaring, steps_of}
use Rattle.p9_declare.proofs.Closed.{named_ok, named_after, named_before}
use Rattle.p9_declare.proofs.objects.close_object.Goals as goal

pub returns-in-Some : goal.returns-in-Some
returns-in-Some c =
    named_after
    (λ (tags : Tags) (names : List (List Declared)). naming_rules tags (told_declaring c.args.declaring) c.args.name.name.now (in_level c.args.name.name.now (innermost names)))
    (last_node (known_of c.args.known.now)) c.last_node-last.result (told_by c.args.by) (type_of c.args.base.now) (steps_of c.args.steps.now) (known_of c.args.known.now) (known_of c.close.new.known) (type_of c.in-Ok.ty) (told_rule c.in-Some.rule)
    c.last_node-last.ensures c.in-Ok.ensures (sym c.in_ok-typed-in-Ok.ensures ∙ ap told_least c.in-Some.is)

pub returns-in-Ok : goal.returns-in-Ok
returns-in-Ok c =
    let none : c.in_ok-typed-in-Ok.typed ≡ None = cc in
    named_ok
    (λ (tags : Tags) (names : List (List Declared)). naming_rules tags (told_declaring c.args.declaring) c.args.name.name.now (in_level c.args.name.name.now (innermost names)))
    (last_node (known_of c.args.known.now)) (told_by c.args.by) (type_of c.args.base.now) (steps_of c.args.steps.now) (known_of c.args.known.now) (known_of c.close.new.known) (type_of c.in-Ok.ty)
    c.in-Ok.ensures (sym c.in_ok-typed-in-Ok.ensures ∙ ap told_least none)

pub returns : goal.returns
returns c =
    named_before
    (naming_rules (known_of c.args.known.now).tags (told_declaring c.args.declaring) c.args.name.name.now (in_level c.args.name.name.now (innermost (known_of c.args.known.now).names)))
    (last_node (known_of c.args.known.now)) c.last_node-last.result (told_by c.args.by) (type_of c.args.base.now) (steps_of c.args.steps.now) (known_of c.args.known.now) c.in-Err.fault c.also_broken.result (told_least c.in_ok-untyped.untyped)
    c.last_node-last.ensures c.in-Err.ensures c.in_ok-untyped.ensures c.also_broken.ensures
