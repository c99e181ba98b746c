-- Rules, constants, operands and verdicts of the program as plain data.
use Rattle.std.specs.Prelude.{List, [], ◌∷◌, Option, Some, None}
use Rattle.p9_lang.specs.Types.{type_of}
use Rattle.p9_lang.specs.Rules as rules
use Rattle.p9_lang.specs.Constants as constants
use Rattle.p9_lang.specs.Expressions as expressions
use Rattle.p9_operand.specs.declared.rule.Rule.{Rule}
use Rattle.p9_operand.specs.declared.rule.Rule.TheVariants as rule
use Rattle.p9_operand.specs.declared.operand.Constant.{Constant}
use Rattle.p9_operand.specs.declared.operand.Constant.TheVariants as constant
use Rattle.p9_operand.specs.declared.operand.Operand.{Operand}
use Rattle.p9_operand.specs.declared.operand.Verdict.{Verdict}

abbrev pub told_rule : Rule → rules.Rule
told_rule rule.Malformed = rules.Malformed
told_rule rule.Incomplete = rules.Incomplete
told_rule (rule.Ambiguous name) = rules.Ambiguous name
told_rule (rule.Undeclared name) = rules.Undeclared name
told_rule (rule.Redeclared name) = rules.Redeclared name
told_rule rule.NotLvalue = rules.NotLvalue
told_rule rule.BadOperands = rules.BadOperands
told_rule rule.BadAssign = rules.BadAssign
told_rule rule.NotFunction = rules.NotFunction
told_rule rule.ArgCount = rules.ArgCount
told_rule (rule.NoMember name) = rules.NoMember name
told_rule rule.NotScalar = rules.NotScalar
told_rule rule.BadConstant = rules.BadConstant
told_rule rule.BadReturn = rules.BadReturn
told_rule rule.Misplaced = rules.Misplaced
told_rule rule.TooManyItems = rules.TooManyItems

abbrev pub told_least : Option Rule → Option rules.Rule
told_least None = None
told_least (Some rule) = Some (told_rule rule)

abbrev pub told_constant : Constant → constants.Constant
told_constant constant.NotConstant = constants.NotConstant
told_constant constant.Undefined = constants.Undefined
told_constant (constant.Value word) = constants.Value word
told_constant constant.Null = constants.Null

abbrev pub told_operand : Operand → constants.Operand
told_operand o = record { type = type_of o.ty; is_lvalue = o.is_lvalue; constant = told_constant o.constant }

abbrev pub told_operands : List Operand → List constants.Operand
told_operands [] = []
told_operands (o ∷ os) = told_operand o ∷ told_operands os

abbrev pub told_verdict : Verdict → expressions.Verdict
told_verdict v = record { type = type_of v.ty; is_lvalue = v.is_lvalue }
