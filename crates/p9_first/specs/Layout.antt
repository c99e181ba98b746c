-- How many bytes an object of a type has, and what its offset is a multiple of. Functions, void and
-- structures have no clauses yet.
use Rattle.std.specs.Prelude.{ℕ, ◌*◌}
use Rattle.p9_first.specs.Types.{TypeTree, Char, UChar, Short, UShort, Int, UInt, Long, ULong, Pointer, Array}

abbrev pub size_of : TypeTree → ℕ
size_of Char = 1
size_of UChar = 1
size_of Short = 2
size_of UShort = 2
size_of Int = 4
size_of UInt = 4
size_of Long = 4
size_of ULong = 4
size_of (Pointer target) = 4
size_of (Array element count) = size_of element * count
size_of _ = 0

-- the alignment of a number or a pointer is its size, and that of an array its element's
abbrev pub alignment_of : TypeTree → ℕ
alignment_of (Array element count) = alignment_of element
alignment_of type = size_of type
