-- Arguments against parameters, one after the other.
use Rattle.std.proofs.Common.{◌≡◌, List, [], ◌∷◌, length, nat_eq, false, Option, Some, None, refl, sym, ap, ◌∙◌}
use Rattle.p9_lang.specs.declared.types.CType.{CType}
use Rattle.p9_lang.specs.Types.{Tags, type_of, types_of, type_row}
use Rattle.p9_lang.specs.Rules.{Rule, ArgCount}
use Rattle.p9_lang.specs.Expressions.{value_type, is_null, conversion_rules, argument_rules}
use Rattle.p9_operand.specs.declared.operand.Operand.{Operand}
use Rattle.p9_operand.specs.Least.{least, least_of_both}
use Rattle.p9_operand.specs.Told.{told_operand, told_operands}
use Rattle.p9_operand.proofs.Leasts.{least_append, least_of_both_assoc}

-- what is told of arguments against parameters
abbrev pub told_of : Tags → List CType → List Operand → Option Rule
told_of tags ps os = least (argument_rules tags (type_row (types_of ps)) (told_operands os))

-- what is known so far and what the others give is the whole
pub record Goes (tags : Tags) (so_far whole : Option Rule) (parameters : List CType) (arguments : List Operand) : Type 0 where
  pub same : least_of_both so_far (told_of tags parameters arguments) ≡ whole

pub arguments_first : (tags : Tags) (ps : List CType) (os : List Operand) → Goes tags None (told_of tags ps os) ps os
arguments_first tags ps os = record { same = refl }

pub arguments_next : (tags : Tags) (so_far rule later whole : Option Rule) (ps ps' : List CType) (os os' : List Operand) (p : CType) (o : Operand)
    → ps ≡ p ∷ ps' → os ≡ o ∷ os' → rule ≡ least (conversion_rules tags (value_type (told_operand o)) (type_of p) (is_null (told_operand o)))
    → later ≡ least_of_both so_far rule → Goes tags so_far whole ps os → Goes tags later whole ps' os'
arguments_next tags so_far rule later whole ps ps' os os' p o e f g h c = record {
  same =
      ap (λ r. least_of_both r (told_of tags ps' os')) h ∙ least_of_both_assoc so_far rule (told_of tags ps' os')
      ∙ ap (least_of_both so_far)
      (ap (λ r. least_of_both r (told_of tags ps' os')) g
      ∙ sym (least_append (conversion_rules tags (value_type (told_operand o)) (type_of p) (is_null (told_operand o))) (argument_rules tags (type_row (types_of ps')) (told_operands os')))
      ∙ sym (ap (λ x. told_of tags x os) e ∙ ap (told_of tags (p ∷ ps')) f))
      ∙ c.same;
}

-- an argument is lacking
pub arguments_short : (tags : Tags) (so_far whole : Option Rule) (ps ps' : List CType) (os : List Operand) (p : CType)
    → ps ≡ p ∷ ps' → os ≡ [] → Goes tags so_far whole ps os → least_of_both so_far (Some ArgCount) ≡ whole
arguments_short tags so_far whole ps ps' os p e f c =
    sym (ap (least_of_both so_far) (ap (λ x. told_of tags x os) e ∙ ap (told_of tags (p ∷ ps')) f)) ∙ c.same

-- the parameters are at an end
pub arguments_end : (tags : Tags) (so_far whole : Option Rule) (ps : List CType) (os : List Operand)
    → ps ≡ [] → os ≡ [] → Goes tags so_far whole ps os → so_far ≡ whole
arguments_end tags None whole ps os e f c = sym (ap (λ x. told_of tags x os) e ∙ ap (told_of tags []) f) ∙ c.same
arguments_end tags (Some rule) whole ps os e f c = sym (ap (least_of_both (Some rule)) (ap (λ x. told_of tags x os) e ∙ ap (told_of tags []) f)) ∙ c.same

-- there are more arguments
pub arguments_over : (tags : Tags) (so_far whole : Option Rule) (ps : List CType) (os : List Operand)
    → ps ≡ [] → nat_eq (length os) 0 ≡ false → Goes tags so_far whole ps os → least_of_both so_far (Some ArgCount) ≡ whole
arguments_over tags so_far whole ps [] e f c = cc
arguments_over tags so_far whole ps (o ∷ os) e f c = sym (ap (least_of_both so_far) (ap (λ x. told_of tags x (o ∷ os)) e)) ∙ c.same
