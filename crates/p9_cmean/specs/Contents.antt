-- What an object of a type holds.
use Rattle.p9_lang.specs.Types.{TypeTree, Void, Char, UChar, Short, UShort, Int, UInt, Long, ULong, Pointer, Array, Function, Tagged}

-- an integer; a pointer; an array, function or structure, which isn't read: its address stands for
-- it; or nothing, of void
pub data Content : Type 0 where
  Integer : Content
  Reference : Content
  Aggregate : Content
  Nothing : Content

abbrev pub content_of : TypeTree → Content
content_of Void = Nothing
content_of Char = Integer
content_of UChar = Integer
content_of Short = Integer
content_of UShort = Integer
content_of Int = Integer
content_of UInt = Integer
content_of Long = Integer
content_of ULong = Integer
content_of (Pointer target) = Reference
content_of (Array element count) = Aggregate
content_of (Function result parameters) = Aggregate
content_of (Tagged tag) = Aggregate
