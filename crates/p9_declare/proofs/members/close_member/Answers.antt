use Rattle.std.proofs.Common.{List, Some, ap, sym, ◌∙◌}
use Rattle.p9_lang.specs.Types.{Tags, type_of}
use Rattle.p9_lang.specs.Scopes.{Declared}
use Rattle.p9_lang.specs.Declarators.{ByNothing}
use Rattle.p9_lang.specs.Declaring.{last_node}
use Rattle.p9_operand.specs.Least.{least}
use Rattle.p9_operand.specs.Told.{told_rule, told_least}
use Rattle.p9_scopes.specs.State.{known_of}
use Rattle.p9_declare.specs.Operations.{named_member_rules}
use Rattle.p9_declare.specs.Told.{steps_of}
use Rattle.p9_declare.proofs.Closed.{named_after, named_before}
use Rattle.p9_declare.proofs.members.close_member.Goals as goal

pub returns-in-Some : goal.returns-in-Some
returns-in-Some c =
    named_after (λ (tags : Tags) (names : List (List Declared)). named_member_rules tags c.args.is_taken c.args.name.now)
    (last_node (known_of c.args.known.now)) c.last_node-last.result ByNothing (type_of c.args.base.now) (steps_of c.args.steps.now) (known_of c.args.known.now) (known_of c.close.new.known) (type_of c.in-Ok.ty) (told_rule c.in-Some.rule)
    c.last_node-last.ensures c.in-Ok.ensures
    (ap (λ l. least (named_member_rules l c.args.is_taken c.args.name.now (Some (type_of c.in-Ok.ty)))) (sym c.tags.ensures.tags)
    ∙ sym c.in_ok-typed-in-Ok.ensures ∙ ap told_least c.in-Some.is)

pub returns : goal.returns
returns c =
    named_before (named_member_rules (known_of c.args.known.now).tags c.args.is_taken c.args.name.now)
    (last_node (known_of c.args.known.now)) c.last_node-last.result ByNothing (type_of c.args.base.now) (steps_of c.args.steps.now) (known_of c.args.known.now) c.in-Err.fault c.also_broken.result (told_least c.in_ok-untyped.untyped)
    c.last_node-last.ensures c.in-Err.ensures c.in_ok-untyped.ensures c.also_broken.ensures
