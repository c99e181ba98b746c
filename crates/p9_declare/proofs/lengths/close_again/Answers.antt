use Rattle.std.proofs.Common.{List, map, refl, ap, sym, ◌∙◌}
use Rattle.p9_lang.specs.Types.{Tags, type_of}
use Rattle.p9_lang.specs.Scopes.{Declared, innermost}
use Rattle.p9_lang.specs.Declarators.{ByNothing, with_length}
use Rattle.p9_lang.specs.Declaring.{length_rules, declared_before}
use Rattle.p9_operand.specs.Told.{told_rule, told_least}
use Rattle.p9_scopes.specs.State.{known_of}
use Rattle.p9_declare.specs.Told.{steps_of}
use Rattle.p9_declare.proofs.Closed.{named_after}
use Rattle.p9_declare.proofs.lengths.close_again.Goals as goal

pub returns-in-Some : goal.returns-in-Some
returns-in-Some c =
    named_after (λ (tags : Tags) (names : List (List Declared)). length_rules c.args.name.now (declared_before c.args.name.now (innermost names)))
    c.args.last c.args.last ByNothing (type_of c.args.base.now) (map (with_length c.args.count) (steps_of c.args.steps.now)) (known_of c.args.known.now) (known_of c.close_given.new.known) (type_of c.in-Ok.ty) (told_rule c.in-Some.rule)
    refl c.in-Ok.ensures (sym c.in_ok-rule-in-Ok.ensures ∙ ap told_least c.in-Some.is)
