-- Operands, by the parts that they are.
use Rattle.std.specs.Prelude.{false, Option, Some, None}
use Rattle.p9_lang.specs.Constants.{Operand, NotConstant}
use Rattle.p9_lang.specs.Parts.{Part, Value, NamedType}
use Rattle.p9_lang.specs.Typing.{operand}

-- an expression, or a type's name
abbrev pub operand_in : Part → Option Operand
operand_in (Value o) = Some o
operand_in (NamedType type) = Some (operand type false NotConstant)
operand_in part = None
