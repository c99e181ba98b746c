-- What an answer tells: what the definition gives, or the rule that the definition names. Of want of
-- memory nothing is told.
use Rattle.std.specs.Prelude.{◌≡◌, Result, Ok, Err}
use Rattle.p9_lang.specs.declared.types.CType.{CType}
use Rattle.p9_lang.specs.Types.{TypeTree, type_of}
use Rattle.p9_lang.specs.Rules as rules
use Rattle.p9_lang.specs.Expressions as expressions
use Rattle.p9_operand.specs.declared.rule.RuleFault.{RuleFault}
use Rattle.p9_operand.specs.declared.rule.RuleFault.TheVariants.{Rule, Memory}
use Rattle.p9_operand.specs.declared.operand.Verdict.{Verdict}
use Rattle.p9_operand.specs.Told.{told_rule, told_verdict}

abbrev pub TellsFault : {B : Type 0} → RuleFault → Result B rules.Rule → Type 0
TellsFault (Rule rule) answer = answer ≡ Err (told_rule rule)
TellsFault Memory answer = Unit {0}

-- a type
abbrev pub TellsType : Result CType RuleFault → Result TypeTree rules.Rule → Type 0
TellsType (Ok type) answer = answer ≡ Ok (type_of type)
TellsType (Err fault) answer = TellsFault fault answer

-- a type, and whether it is an lvalue's
abbrev pub TellsVerdict : Result Verdict RuleFault → Result expressions.Verdict rules.Rule → Type 0
TellsVerdict (Ok verdict) answer = answer ≡ Ok (told_verdict verdict)
TellsVerdict (Err fault) answer = TellsFault fault answer
