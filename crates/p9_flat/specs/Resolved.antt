-- What operations do whose operands' types are resolved: accesses, operators and tests, by the meaning's own.
use Rattle.std.specs.Prelude.{ℕ, Bool, true, false, if◌then◌else◌, nat_lt, nat_le, List, Option, Some, None, Result, Ok}
use Rattle.p9_lang.specs.declared.tree.CBinary.{CBinary}
use Rattle.p9_lang.specs.declared.tree.CBinary.TheVariants as operator
use Rattle.p9_lang.specs.Types.{TypeTree, Void, Char, UChar, Short, UShort, Int, UInt, Long, ULong, Pointer, Array, Function, Tagged, Tags}
use Rattle.p9_lang.specs.Layout.{size_of}
use Rattle.p9_lang.specs.Conversions.{is_integer, is_unsigned, is_pointer}
use Rattle.p9_lang.specs.Constants.{narrowed, word_operation, works_unsigned}
use Rattle.p9_cmean.specs.declared.Cause.{Cause}
use Rattle.p9_cmean.specs.declared.Place.{Place}
use Rattle.p9_cmean.specs.Cells.{Cell, Object, Value, Word, State}
use Rattle.p9_cmean.specs.Plays.{Play, Done}
use Rattle.p9_cmean.specs.Places.{used, or_wrong, or_no_meaning, done_at}
use Rattle.p9_cmean.specs.Access.{and_go, integer_in, integer_from, pointer_from, loaded, stored}
use Rattle.p9_cmean.specs.Operators.{word_or_cause, moved_elements, of_pointers, within_one, elements_between, compared, equality_of, inequality_of, holds}
use Rattle.p9_flat.specs.declared.op.Scalar.{Scalar}
use Rattle.p9_flat.specs.declared.op.Scalar.TheVariants as scalar
use Rattle.p9_flat.specs.declared.op.Operation.{Operation}
use Rattle.p9_flat.specs.declared.op.Operation.TheVariants as operation

-- ACCESSES

abbrev pub scalar_of : TypeTree → Scalar
scalar_of Void = scalar.Word
scalar_of Char = scalar.Char
scalar_of UChar = scalar.UnsignedChar
scalar_of Short = scalar.Short
scalar_of UShort = scalar.UnsignedShort
scalar_of Int = scalar.Word
scalar_of UInt = scalar.Word
scalar_of Long = scalar.Word
scalar_of ULong = scalar.Word
scalar_of (Pointer target) = scalar.Pointer
scalar_of (Array element count) = scalar.Word
scalar_of (Function result parameters) = scalar.Word
scalar_of (Tagged tag) = scalar.Word

-- how many bytes an access moves; its address is a multiple of this
abbrev pub width : Scalar → ℕ
width scalar.Char = 1
width scalar.UnsignedChar = 1
width scalar.Short = 2
width scalar.UnsignedShort = 2
width scalar.Word = 4
width scalar.Pointer = 4

-- what a word becomes in it
abbrev pub kept : Scalar → ℕ → ℕ
kept scalar.Char word = narrowed Char word
kept scalar.UnsignedChar word = narrowed UChar word
kept scalar.Short word = narrowed Short word
kept scalar.UnsignedShort word = narrowed UShort word
kept scalar.Word word = word
kept scalar.Pointer word = word

abbrev pub from_cells : Scalar → List Cell → Result Value Cause
from_cells scalar.Char cells = integer_from (kept scalar.Char) cells
from_cells scalar.UnsignedChar cells = integer_from (kept scalar.UnsignedChar) cells
from_cells scalar.Short cells = integer_from (kept scalar.Short) cells
from_cells scalar.UnsignedShort cells = integer_from (kept scalar.UnsignedShort) cells
from_cells scalar.Word cells = integer_from (kept scalar.Word) cells
from_cells scalar.Pointer cells = pointer_from cells

abbrev pub load : Scalar → Place → (address : Value) → State → Play Value
load moves place address s = done_at place s (loaded (from_cells moves) (width moves) (width moves) s.objects address)

abbrev pub store : Scalar → Place → (address value : Value) → State → Play Value
store moves place address value s =
    or_wrong place s (stored (width moves) (width moves) s.objects address value) (λ objects.
    Done value (record s { objects = objects }))

abbrev pub narrow_to : Scalar → Value → Result Value Cause
narrow_to moves value = and_go (integer_in value) (λ n. Ok (Word (kept moves n)))

-- OPERATORS

-- a type of a number of elements
abbrev pub count_type : (unsigned : Bool) → TypeTree
count_type true = UInt
count_type false = Int

abbrev pub of_words : CBinary → (unsigned : Bool) → Value → Value → Result Value Cause
of_words op unsigned a b =
    and_go (integer_in a) (λ m. and_go (integer_in b) (λ n. word_or_cause (word_operation op unsigned m n)))

abbrev pub operated : Operation → List Object → Value → Value → Result Value Cause
operated (operation.Words op unsigned) objects a b = of_words op unsigned a b
operated (operation.Advance back size unsigned) objects a b = moved_elements objects back size (count_type unsigned) a b
operated (operation.AdvanceBy size unsigned) objects a b = moved_elements objects false size (count_type unsigned) b a
operated (operation.Between size) objects a b = of_pointers objects a b (within_one (elements_between size))
operated operation.Less objects a b = of_pointers objects a b (compared (λ x y. nat_lt x y))
operated operation.Greater objects a b = of_pointers objects a b (compared (λ x y. nat_lt y x))
operated operation.LessOrEqual objects a b = of_pointers objects a b (compared (λ x y. nat_le x y))
operated operation.GreaterOrEqual objects a b = of_pointers objects a b (compared (λ x y. nat_le y x))
operated operation.Equal objects a b = equality_of objects a b
operated operation.NotEqual objects a b = inequality_of objects a b

-- what an operator does with operands of these types, arrays and functions no more

abbrev pub with_number : CBinary → Tags → (target type : TypeTree) → Option Operation
with_number operator.Add tags target type = Some (operation.Advance false (size_of tags target) (is_unsigned type))
with_number operator.Sub tags target type = Some (operation.Advance true (size_of tags target) (is_unsigned type))
with_number operator.Eq tags target type = Some operation.Equal
with_number operator.Ne tags target type = Some operation.NotEqual
with_number op tags target type = None

abbrev pub number_with : CBinary → Tags → (type target : TypeTree) → Option Operation
number_with operator.Add tags type target = Some (operation.AdvanceBy (size_of tags target) (is_unsigned type))
number_with operator.Eq tags type target = Some operation.Equal
number_with operator.Ne tags type target = Some operation.NotEqual
number_with op tags type target = None

abbrev pub between_pointers : CBinary → Tags → (target : TypeTree) → Option Operation
between_pointers operator.Sub tags target = Some (operation.Between (size_of tags target))
between_pointers operator.Lt tags target = Some operation.Less
between_pointers operator.Gt tags target = Some operation.Greater
between_pointers operator.Le tags target = Some operation.LessOrEqual
between_pointers operator.Ge tags target = Some operation.GreaterOrEqual
between_pointers operator.Eq tags target = Some operation.Equal
between_pointers operator.Ne tags target = Some operation.NotEqual
between_pointers op tags target = None

abbrev pub where_integer : TypeTree → Option Operation → Option Operation
where_integer type given = if is_integer type then given else None

abbrev pub operation_of : CBinary → Tags → (left right : TypeTree) → Option Operation
operation_of op tags (Pointer target) (Pointer other) = between_pointers op tags target
operation_of op tags (Pointer target) right = where_integer right (with_number op tags target right)
operation_of op tags left (Pointer target) = where_integer left (number_with op tags left target)
operation_of op tags left right =
    where_integer left (where_integer right (Some (operation.Words op (works_unsigned op left right))))

abbrev pub operate_on : Place → Operation → Value → Value → State → Play Value
operate_on place done a b s = used a s (λ v. used b s (λ w. done_at place s (operated done s.objects v w)))

-- TESTS of an integer or a pointer

abbrev pub tested_type : (of_pointer : Bool) → TypeTree
tested_type true = Pointer Void
tested_type false = Int

abbrev pub test : (of_pointer : Bool) → Place → Value → State → Play Bool
test of_pointer place value s =
    used value s (λ v. or_no_meaning place s (holds s.objects (tested_type of_pointer) v) (λ result. done_at place s result))

-- what is tested in an operand of a type, if that is possible
abbrev pub tests : TypeTree → Option Bool
tests type = if is_pointer type then Some true else (if is_integer type then Some false else None)
