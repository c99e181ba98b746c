-- Operands that are taken from the parts, one after the other.
use Rattle.std.proofs.Common.{◌≡◌, false, List, [], ◌∷◌, ◌++◌, Option, Some, None, refl, sym, ap, ◌∙◌, append_assoc}
use Rattle.p9_lang.specs.Types.{TypeTree}
use Rattle.p9_lang.specs.Constants as constants
use Rattle.p9_lang.specs.Parts as parts
use Rattle.p9_lang.specs.Typing.{operand, operands_of}
use Rattle.p9_operand.specs.declared.operand.Operand.{Operand}
use Rattle.p9_operand.specs.Told.{told_operand, told_operands}
use Rattle.p9_parts.specs.declared.part.Part.{Part}
use Rattle.p9_parts.specs.Told.{part_of, parts_of}
use Rattle.p9_kinds.specs.Operands.{operand_in}

-- the operands so far, with those of the parts that are left
abbrev pub joined : List constants.Operand → Option (List constants.Operand) → Option (List constants.Operand)
joined before None = None
joined before (Some others) = Some (before ++ others)

told_append : (xs ys : List Operand) → told_operands (xs ++ ys) ≡ told_operands xs ++ told_operands ys
told_append [] ys = refl
told_append (x ∷ xs) ys = ap (λ l. told_operand x ∷ l) (told_append xs ys)

joined_twice : (before more : List constants.Operand) (others : Option (List constants.Operand)) → joined before (joined more others) ≡ joined (before ++ more) others
joined_twice before more None = refl
joined_twice before more (Some others) = ap Some (sym (append_assoc before more others))

value_first : (o : constants.Operand) (ps : List parts.Part) (others : Option (List constants.Operand)) → operands_of ps ≡ others
    → operands_of (parts.Value o ∷ ps) ≡ joined (o ∷ []) others
value_first o ps None e = rw e refl
value_first o ps (Some others) e = rw e refl

type_first : (t : TypeTree) (ps : List parts.Part) (others : Option (List constants.Operand)) → operands_of ps ≡ others
    → operands_of (parts.NamedType t ∷ ps) ≡ joined (operand t false constants.NotConstant ∷ []) others
type_first t ps None e = rw e refl
type_first t ps (Some others) e = rw e refl

operand_first : (o : constants.Operand) (p : parts.Part) (ps : List parts.Part) → operand_in p ≡ Some o → operands_of (p ∷ ps) ≡ joined (o ∷ []) (operands_of ps)
operand_first o (parts.Value v) ps e = value_first v ps (operands_of ps) refl ∙ ap (λ w. joined (w ∷ []) (operands_of ps)) (cc)
operand_first o (parts.NamedType t) ps e =
    type_first t ps (operands_of ps) refl ∙ ap (λ w. joined (w ∷ []) (operands_of ps)) (cc)
operand_first o (parts.Declarator steps) ps e = cc
operand_first o (parts.Object type steps last role) ps e = cc
operand_first o (parts.Members members) ps e = cc
operand_first o (parts.Enumerator name value) ps e = cc
operand_first o (parts.Parameter type) ps e = cc
operand_first o (parts.Braced count) ps e = cc
operand_first o (parts.Filled next) ps e = cc
operand_first o (parts.CaseLabel word) ps e = cc
operand_first o parts.DefaultLabel ps e = cc
operand_first o parts.Statement ps e = cc

-- one operand more
pub operand_taken : (whole : Option (List constants.Operand)) (before after : List Operand) (rest others : List Part) (p : Part) (o : Operand)
    → rest ≡ p ∷ others → Some (told_operand o) ≡ operand_in (part_of p) → after ≡ before ++ o ∷ []
    → whole ≡ joined (told_operands before) (operands_of (parts_of rest)) → whole ≡ joined (told_operands after) (operands_of (parts_of others))
operand_taken whole before after rest others p o e f g h =
    h
    ∙ ap (λ r. joined (told_operands before) (operands_of (parts_of r))) e
    ∙ ap (joined (told_operands before)) (operand_first (told_operand o) (part_of p) (parts_of others) (sym f))
    ∙ joined_twice (told_operands before) (told_operand o ∷ []) (operands_of (parts_of others))
    ∙ ap (λ l. joined l (operands_of (parts_of others))) (sym (told_append before (o ∷ [])) ∙ sym (ap told_operands g))
