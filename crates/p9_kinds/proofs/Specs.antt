-- The rules of nodes with specs.
use Rattle.std.proofs.Common.{◌≡◌, List, [], ◌++◌, Option, Some, None, refl, sym, ap, ◌∙◌}
use Rattle.std.proofs.lemmas.List.{append-nil}
use Rattle.p9_lang.specs.Rules as rules
use Rattle.p9_operand.specs.declared.rule.Rule.{Rule}
use Rattle.p9_operand.specs.Least.{least, least_of_both}
use Rattle.p9_operand.specs.Told.{told_least}
use Rattle.p9_operand.proofs.Leasts.{least_append}
use Rattle.p9_parts.specs.Told.{rules_of}

own_least : (rule : Option Rule) → told_least rule ≡ least (rules_of rule)
own_least None = refl
own_least (Some rule) = refl

pub spec_least : (rule : Option Rule) (sizes others : List rules.Rule) (size other own all : Option rules.Rule)
    → size ≡ least sizes → own ≡ least_of_both (told_least rule) size → other ≡ least others → all ≡ least_of_both own other
    → all ≡ least ((rules_of rule ++ sizes) ++ others)
spec_least rule sizes others size other own all e f g h =
    h ∙ ap (λ r. least_of_both r other) (f ∙ ap (λ r. least_of_both r size) (own_least rule) ∙ ap (least_of_both (least (rules_of rule))) e ∙ sym (least_append (rules_of rule) sizes))
    ∙ ap (least_of_both (least (rules_of rule ++ sizes))) g
    ∙ sym (least_append (rules_of rule ++ sizes) others)

-- where no other rule is asked for
pub least_alone : (all : Option rules.Rule) (own : List rules.Rule) → all ≡ least (own ++ []) → all ≡ least own
least_alone all own e = e ∙ ap least (append-nil own)
