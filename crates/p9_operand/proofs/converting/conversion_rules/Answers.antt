use Rattle.std.proofs.Common.{[], ◌∷◌, ap, sym, ◌∙◌}
use Rattle.p9_lang.specs.Types.{tags_of, type_of}
use Rattle.p9_lang.specs.Conversions.{conversion}
use Rattle.p9_lang.specs.Rules.{Ambiguous, BadAssign}
use Rattle.p9_operand.proofs.Conversions.{told_broken, least_told, silent}
use Rattle.p9_operand.proofs.converting.conversion_rules.Goals as goal

pub returns-in-Same : goal.returns-in-Same
returns-in-Same c =
    least_told (tags_of c.args.tags.now.list) (type_of c.args.to.now) (conversion (tags_of c.args.tags.now.list) (type_of c.args.from.now) (type_of c.args.to.now) c.args.zero)
    c.in_ok-convert.field-0 [] c.in_ok-convert.ensures (silent (tags_of c.args.tags.now.list) (type_of c.args.to.now) c.in_ok-convert.field-0 c.in-Same.is)

pub returns-in_ok-target_name-in-Ambiguous : goal.returns-in_ok-target_name-in-Ambiguous
returns-in_ok-target_name-in-Ambiguous c =
    least_told (tags_of c.args.tags.now.list) (type_of c.args.to.now) (conversion (tags_of c.args.tags.now.list) (type_of c.args.from.now) (type_of c.args.to.now) c.args.zero)
    c.in_ok-convert.field-0 (Ambiguous c.in_ok-target_name-in-Ambiguous.field-0 ∷ []) c.in_ok-convert.ensures
    (ap (told_broken (tags_of c.args.tags.now.list) (type_of c.args.to.now)) c.in-Ambiguous.is ∙ ap (λ x. Ambiguous x ∷ []) (sym c.in_ok-target_name-in-Ambiguous.ensures))

pub returns-in-No : goal.returns-in-No
returns-in-No c =
    least_told (tags_of c.args.tags.now.list) (type_of c.args.to.now) (conversion (tags_of c.args.tags.now.list) (type_of c.args.from.now) (type_of c.args.to.now) c.args.zero)
    c.in_ok-convert.field-0 (BadAssign ∷ []) c.in_ok-convert.ensures (ap (told_broken (tags_of c.args.tags.now.list) (type_of c.args.to.now)) c.in-No.is)
