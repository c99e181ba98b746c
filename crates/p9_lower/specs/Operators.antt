-- The trees of operators, conversions, accesses and assignments, from those of their operands. Types
-- decide widths, unsigned forms, and by how many bytes pointers move. Where types leave an operation
-- without a meaning, which no valid module has, its operands are evaluated.
use Rattle.std.specs.Prelude.{ℕ, ◌==◌, Bool, true, false, if◌then◌else◌, Option, Some, None}
use Rattle.p9_base.specs.Words.{word_sum, word_product, word_negation}
use Rattle.p9_lang.specs.declared.tree.CBinary.{CBinary}
use Rattle.p9_lang.specs.declared.tree.CBinary.TheVariants as operator
use Rattle.p9_lang.specs.Types.{TypeTree, Void, Char, UChar, Short, UShort, Int, UInt, Long, ULong, Pointer, Array, Function, Tagged, Tags}
use Rattle.p9_lang.specs.Layout.{size_of}
use Rattle.p9_lang.specs.Conversions.{is_structure, Conversion, Same, Integer, Null, Inner, Ambiguous, No, conversion}
use Rattle.p9_lang.specs.Constants.{works_unsigned, is_null_constant, constant_of}
use Rattle.p9_lang.specs.Modules.{Typed}
use Rattle.p9_cmean.specs.Contents as contents
use Rattle.p9_cmean.specs.Contents.{content_of}
use Rattle.p9_cmean.specs.Expressions.{operand_type}
use Rattle.p9_tree.specs.declared.tree.Width.{Width}
use Rattle.p9_tree.specs.declared.tree.Width.TheVariants as width
use Rattle.p9_tree.specs.declared.tree.BinOp.{BinOp}
use Rattle.p9_tree.specs.declared.tree.BinOp.TheVariants as bin
use Rattle.p9_tree.specs.Trees.{Tree, Const, Addr, Load, Store, Update, Copy, Bin, Conv}

-- WIDTHS. What isn't read or stored counts as a word.

abbrev pub width_of : TypeTree → Width
width_of Void = width.W32
width_of Char = width.S8
width_of UChar = width.U8
width_of Short = width.S16
width_of UShort = width.U16
width_of Int = width.W32
width_of UInt = width.W32
width_of Long = width.W32
width_of ULong = width.W32
width_of (Pointer target) = width.W32
width_of (Array element count) = width.W32
width_of (Function result parameters) = width.W32
width_of (Tagged tag) = width.W32

-- the low bits of a word; a whole word stays as it is
abbrev pub narrowed_tree : Width → Tree → Tree
narrowed_tree width.S8 tree = Conv width.S8 tree
narrowed_tree width.U8 tree = Conv width.U8 tree
narrowed_tree width.S16 tree = Conv width.S16 tree
narrowed_tree width.U16 tree = Conv width.U16 tree
narrowed_tree width.W32 tree = tree

-- ACCESS: what an lvalue is worth, by its address. Arrays, functions and structures aren't read.

abbrev pub content_tree : contents.Content → Width → Tree → Tree
content_tree contents.Integer w address = Load w address
content_tree contents.Reference w address = Load w address
content_tree contents.Aggregate w address = address
content_tree contents.Nothing w address = address

abbrev pub read_tree : TypeTree → Tree → Tree
read_tree type address = content_tree (content_of type) (width_of type) address

-- POINTERS: an address that is moved by so many bytes. That of a symbol, moved by a constant, is known.

abbrev pub moved_tree : (address bytes : Tree) → Tree
moved_tree (Addr symbol offset) (Const bytes) = Addr symbol (word_sum offset bytes)
moved_tree address bytes = Bin bin.Add address bytes

-- the bytes of so many elements of a size
abbrev pub scaled_tree : (size : ℕ) → (count : Tree) → Tree
scaled_tree size (Const count) = Const (word_product count size)
scaled_tree size count = Bin bin.Mul count (Const size)

abbrev pub forward_tree : (size : ℕ) → (count : Tree) → Tree
forward_tree size count = if size == 1 then count else scaled_tree size count

-- the elements in so many bytes
abbrev pub divided_tree : (size : ℕ) → (bytes : Tree) → Tree
divided_tree size bytes = if size == 1 then bytes else Bin bin.Div bytes (Const size)

-- to a member or substructure
abbrev pub inner_tree : Option ℕ → Tree → Tree
inner_tree None address = address
inner_tree (Some offset) address = moved_tree address (Const offset)

-- OPERATIONS OF TWO OPERANDS. `&&` and `||` are no operations on two words.

abbrev pub word_operator : CBinary → (is_unsigned : Bool) → BinOp
word_operator operator.Mul is_unsigned = bin.Mul
word_operator operator.Div is_unsigned = if is_unsigned then bin.DivU else bin.Div
word_operator operator.Rem is_unsigned = if is_unsigned then bin.RemU else bin.Rem
word_operator operator.Add is_unsigned = bin.Add
word_operator operator.Sub is_unsigned = bin.Sub
word_operator operator.Shl is_unsigned = bin.Shl
word_operator operator.Shr is_unsigned = if is_unsigned then bin.ShrU else bin.Shr
word_operator operator.Lt is_unsigned = if is_unsigned then bin.LtU else bin.Lt
word_operator operator.Gt is_unsigned = if is_unsigned then bin.GtU else bin.Gt
word_operator operator.Le is_unsigned = if is_unsigned then bin.LeU else bin.Le
word_operator operator.Ge is_unsigned = if is_unsigned then bin.GeU else bin.Ge
word_operator operator.Eq is_unsigned = bin.Eq
word_operator operator.Ne is_unsigned = bin.Ne
word_operator operator.And is_unsigned = bin.And
word_operator operator.Xor is_unsigned = bin.Xor
word_operator operator.Or is_unsigned = bin.Or
word_operator operator.AndAnd is_unsigned = bin.And
word_operator operator.OrOr is_unsigned = bin.Or

-- addresses compare as unsigned words
abbrev pub pointers_tree : CBinary → (size : ℕ) → Tree → Tree → Tree
pointers_tree operator.Sub size a b = divided_tree size (Bin bin.Sub a b)
pointers_tree op size a b = Bin (word_operator op true) a b

abbrev pub pointer_integer_tree : CBinary → (size : ℕ) → Tree → Tree → Tree
pointer_integer_tree operator.Add size a b = moved_tree a (forward_tree size b)
pointer_integer_tree operator.Sub size a b = Bin bin.Sub a (scaled_tree size b)
pointer_integer_tree op size a b = Bin (word_operator op true) a b

abbrev pub integer_pointer_tree : CBinary → (size : ℕ) → Tree → Tree → Tree
integer_pointer_tree operator.Add size a b = Bin bin.Add (forward_tree size a) b
integer_pointer_tree op size a b = Bin (word_operator op true) a b

-- by the types of the operands, whose arrays and functions have become pointers
abbrev pub binary_tree : Tags → CBinary → (left right : TypeTree) → Tree → Tree → Tree
binary_tree tags op (Pointer target) (Pointer other) a b = pointers_tree op (size_of tags target) a b
binary_tree tags op (Pointer target) right a b = pointer_integer_tree op (size_of tags target) a b
binary_tree tags op left (Pointer target) a b = integer_pointer_tree op (size_of tags target) a b
binary_tree tags op left right a b = Bin (word_operator op (works_unsigned op left right)) a b

-- CONVERSIONS, of assignments, arguments and results. A store narrows by itself.

abbrev pub conversion_to : Tags → Typed → (to : TypeTree) → Conversion
conversion_to tags e to = conversion tags (operand_type e) to (is_null_constant (constant_of tags e))

abbrev pub stored_tree : Conversion → Tree → Tree
stored_tree Same tree = tree
stored_tree Integer tree = tree
stored_tree Null tree = Const 0
stored_tree (Inner offset) tree = moved_tree tree (Const offset)
stored_tree Ambiguous tree = tree
stored_tree No tree = tree

abbrev pub converted_tree : Conversion → (to : TypeTree) → Tree → Tree
converted_tree Same to tree = narrowed_tree (width_of to) tree
converted_tree Integer to tree = narrowed_tree (width_of to) tree
converted_tree Null to tree = Const 0
converted_tree (Inner offset) to tree = moved_tree tree (Const offset)
converted_tree Ambiguous to tree = tree
converted_tree No to tree = tree

-- an expression as a value of a type
abbrev pub passed_tree : Tags → Typed → (to : TypeTree) → Tree → Tree
passed_tree tags e to tree = converted_tree (conversion_to tags e to) to tree

-- a cast, by what it is to; one to void changes nothing
abbrev pub cast_tree : contents.Content → TypeTree → Tree → Tree
cast_tree contents.Integer type tree = narrowed_tree (width_of type) tree
cast_tree contents.Reference type tree = tree
cast_tree contents.Aggregate type tree = tree
cast_tree contents.Nothing type tree = tree

-- ASSIGNMENTS, of an expression to an lvalue of a type by its address. A structure is copied.

abbrev pub assigned_tree : Tags → Typed → TypeTree → (to from : Tree) → Tree
assigned_tree tags e type to from =
    if is_structure type then Copy (size_of tags type) to from
    else Store (width_of type) to (stored_tree (conversion_to tags e type) from)

-- the right side of `op=`, which for a pointer is a number of elements
abbrev pub elements_tree : CBinary → (size : ℕ) → Tree → Tree
elements_tree operator.Add size count = forward_tree size count
elements_tree op size count = scaled_tree size count

abbrev pub updated_tree : Tags → CBinary → (type right : TypeTree) → (to from : Tree) → Tree
updated_tree tags op (Pointer target) right to from =
    Update width.W32 (word_operator op (works_unsigned op (Pointer target) right)) to (elements_tree op (size_of tags target) from)
updated_tree tags op type right to from = Update (width_of type) (word_operator op (works_unsigned op type right)) to from

-- what `++` adds: 1 to an integer, and to a pointer the bytes of one element
abbrev pub step_bytes : Tags → TypeTree → ℕ
step_bytes tags (Pointer target) = word_product 1 (size_of tags target)
step_bytes tags type = 1

abbrev pub step_amount : Tags → (minus : Bool) → TypeTree → ℕ
step_amount tags false type = step_bytes tags type
step_amount tags true type = word_negation (step_bytes tags type)
