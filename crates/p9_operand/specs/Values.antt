-- Types of operands' values.
use Rattle.p9_lang.specs.Types.{TypeTree, type_of}
use Rattle.p9_operand.specs.declared.values.ValueType.{ValueType}
use Rattle.p9_operand.specs.declared.values.ValueType.TheVariants.{Own, Pointer}

abbrev pub type_in : ValueType → TypeTree
type_in (Own type) = type_of type.now
type_in (Pointer type) = type_of type
