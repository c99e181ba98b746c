-- What types are, without their parts.
use Rattle.p9_types.specs.declared.head.TypeHead.{TypeHead}
use Rattle.p9_types.specs.declared.head.TypeHead.TheVariants as head
use Rattle.p9_lang.specs.Types.{TypeTree, Void, Char, UChar, Short, UShort, Int, UInt, Long, ULong, Pointer, Array, Function, Tagged}

abbrev pub head_of : TypeTree → TypeHead
head_of Void = head.Void
head_of Char = head.Char
head_of UChar = head.UChar
head_of Short = head.Short
head_of UShort = head.UShort
head_of Int = head.Int
head_of UInt = head.UInt
head_of Long = head.Long
head_of ULong = head.ULong
head_of (Pointer target) = head.Pointer
head_of (Array element count) = head.Array
head_of (Function result parameters) = head.Function
head_of (Tagged tag) = head.Tagged
