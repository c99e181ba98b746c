-- What nodes are as constants, as proofs speak of them.
use Rattle.std.specs.Prelude.{List}
use Rattle.p9_lang.specs.Types.{Tags}
use Rattle.p9_lang.specs.Constants.{Constant, Operand, constant_of, constants_of}
use Rattle.p9_lang.specs.Modules.{Typed, TypedRow}

unfoldable pub constant_in : Tags → Typed → Constant
constant_in tags e = constant_of tags e

unfoldable pub operands_in : Tags → TypedRow → List Operand
operands_in tags row = constants_of tags row
