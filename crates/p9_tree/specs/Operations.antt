-- What the operations of typed trees give of values, or why they are undefined. They know no types: a
-- word of four bytes may be an integer or a pointer.
use Rattle.std.specs.Prelude.{ℕ, ◌==◌, not, nat_lt, nat_le, if◌then◌else◌, Bool, true, false, List, Some, Result, Ok, Err}
use Rattle.std.specs.List.{list_any}
use Rattle.p9_base.specs.Numbers.{sign_extended}
use Rattle.p9_base.specs.Words.{word_sum, word_difference, word_negation, word_complement, low8, low16}
use Rattle.p9_lang.specs.declared.tree.CBinary.{CBinary}
use Rattle.p9_lang.specs.declared.tree.CBinary.TheVariants as operator
use Rattle.p9_lang.specs.Constants.{truth, word_operation}
use Rattle.p9_tree.specs.declared.tree.Width.{Width}
use Rattle.p9_tree.specs.declared.tree.Width.TheVariants as width
use Rattle.p9_tree.specs.declared.tree.UnOp.{UnOp}
use Rattle.p9_tree.specs.declared.tree.UnOp.TheVariants as un
use Rattle.p9_tree.specs.declared.tree.BinOp.{BinOp}
use Rattle.p9_tree.specs.declared.tree.BinOp.TheVariants as bin
use Rattle.p9_cmean.specs.declared.Cause.{Cause}
use Rattle.p9_cmean.specs.declared.Cause.TheVariants as cause
use Rattle.p9_cmean.specs.Cells.{FunctionName, Pointer, Into, ToFunction, Cell, Object, Value, Word, Address, Missing}
use Rattle.p9_cmean.specs.Access.{and_go, is_unset, is_part, number_of, integer_from, whole_pointer, loaded, stored, with_offset, pointer_in, not_null}
use Rattle.p9_cmean.specs.Operators.{word_or_cause, of_integer, of_pointers, within_one, compared, equality_of, inequality_of, pointer_holds}

-- WIDTHS

abbrev pub bytes_of : Width → ℕ
bytes_of width.S8 = 1
bytes_of width.U8 = 1
bytes_of width.S16 = 2
bytes_of width.U16 = 2
bytes_of width.W32 = 4

-- the low bits of a word, widened
abbrev pub narrowed_to : Width → ℕ → ℕ
narrowed_to width.S8 word = sign_extended 8 word
narrowed_to width.U8 word = low8 word
narrowed_to width.S16 word = sign_extended 16 word
narrowed_to width.U16 word = low16 word
narrowed_to width.W32 word = word

-- a value of a width: only one of four bytes may be a pointer
abbrev pub pointer_of_width : Width → Pointer → Result Value Cause
pointer_of_width width.S8 pointer = Err cause.Mixed
pointer_of_width width.U8 pointer = Err cause.Mixed
pointer_of_width width.S16 pointer = Err cause.Mixed
pointer_of_width width.U16 pointer = Err cause.Mixed
pointer_of_width width.W32 pointer = Ok (Address pointer)

abbrev pub of_width : Width → Value → Result Value Cause
of_width w (Word n) = Ok (Word (narrowed_to w n))
of_width w (Address pointer) = pointer_of_width w pointer
of_width w (Missing call) = Err cause.NoValue

-- LOADS AND STORES

-- four cells are a number, or the parts of a pointer
abbrev pub word_from : List Cell → Result Value Cause
word_from cells =
    if list_any is_unset cells then Err cause.Unset
    else (if list_any is_part cells then whole_pointer cells
    else Ok (Word (number_of 0 cells)))

abbrev pub value_from : Width → List Cell → Result Value Cause
value_from width.S8 cells = integer_from (narrowed_to width.S8) cells
value_from width.U8 cells = integer_from (narrowed_to width.U8) cells
value_from width.S16 cells = integer_from (narrowed_to width.S16) cells
value_from width.U16 cells = integer_from (narrowed_to width.U16) cells
value_from width.W32 cells = word_from cells

abbrev pub loaded_width : Width → List Object → (address : Value) → Result Value Cause
loaded_width w objects address = loaded (value_from w) (bytes_of w) (bytes_of w) objects address

abbrev pub stored_width : Width → List Object → (address value : Value) → Result (List Object) Cause
stored_width w objects address value = stored (bytes_of w) (bytes_of w) objects address value

-- OPERATIONS OF TWO OPERANDS

abbrev pub operator_of : BinOp → CBinary
operator_of bin.Mul = operator.Mul
operator_of bin.Div = operator.Div
operator_of bin.DivU = operator.Div
operator_of bin.Rem = operator.Rem
operator_of bin.RemU = operator.Rem
operator_of bin.Add = operator.Add
operator_of bin.Sub = operator.Sub
operator_of bin.Shl = operator.Shl
operator_of bin.Shr = operator.Shr
operator_of bin.ShrU = operator.Shr
operator_of bin.Lt = operator.Lt
operator_of bin.LtU = operator.Lt
operator_of bin.Gt = operator.Gt
operator_of bin.GtU = operator.Gt
operator_of bin.Le = operator.Le
operator_of bin.LeU = operator.Le
operator_of bin.Ge = operator.Ge
operator_of bin.GeU = operator.Ge
operator_of bin.Eq = operator.Eq
operator_of bin.Ne = operator.Ne
operator_of bin.And = operator.And
operator_of bin.Xor = operator.Xor
operator_of bin.Or = operator.Or

abbrev pub is_unsigned_form : BinOp → Bool
is_unsigned_form bin.DivU = true
is_unsigned_form bin.RemU = true
is_unsigned_form bin.ShrU = true
is_unsigned_form bin.LtU = true
is_unsigned_form bin.GtU = true
is_unsigned_form bin.LeU = true
is_unsigned_form bin.GeU = true
is_unsigned_form op = false

abbrev pub of_words : BinOp → ℕ → ℕ → Result Value Cause
of_words op a b = word_or_cause (word_operation (operator_of op) (is_unsigned_form op) a b)

-- A pointer is moved by a word, and is equal to null or not. It has no other operation with a word.
abbrev pub pointer_and_word : BinOp → List Object → Pointer → ℕ → Result Value Cause
pointer_and_word bin.Add objects p n = Ok (Address (with_offset (λ offset. word_sum offset n) p))
pointer_and_word bin.Sub objects p n = Ok (Address (with_offset (λ offset. word_difference offset n) p))
pointer_and_word bin.Eq objects p n = equality_of objects (Address p) (Word n)
pointer_and_word bin.Ne objects p n = inequality_of objects (Address p) (Word n)
pointer_and_word op objects p n = Err cause.Mixed

abbrev pub word_and_pointer : BinOp → List Object → ℕ → Pointer → Result Value Cause
word_and_pointer bin.Add objects n p = Ok (Address (with_offset (λ offset. word_sum offset n) p))
word_and_pointer bin.Eq objects n p = equality_of objects (Word n) (Address p)
word_and_pointer bin.Ne objects n p = inequality_of objects (Word n) (Address p)
word_and_pointer op objects n p = Err cause.Mixed

-- addresses compare as unsigned words, and their difference counts bytes
abbrev pub two_addresses : BinOp → List Object → Pointer → Pointer → Result Value Cause
two_addresses bin.Sub objects p q = of_pointers objects (Address p) (Address q) (within_one (λ a b. Ok (word_difference a b)))
two_addresses bin.LtU objects p q = of_pointers objects (Address p) (Address q) (compared (λ a b. nat_lt a b))
two_addresses bin.GtU objects p q = of_pointers objects (Address p) (Address q) (compared (λ a b. nat_lt b a))
two_addresses bin.LeU objects p q = of_pointers objects (Address p) (Address q) (compared (λ a b. nat_le a b))
two_addresses bin.GeU objects p q = of_pointers objects (Address p) (Address q) (compared (λ a b. nat_le b a))
two_addresses bin.Eq objects p q = equality_of objects (Address p) (Address q)
two_addresses bin.Ne objects p q = inequality_of objects (Address p) (Address q)
two_addresses op objects p q = Err cause.Mixed

abbrev pub of_two : BinOp → List Object → Value → Value → Result Value Cause
of_two op objects (Word m) (Word n) = of_words op m n
of_two op objects (Word m) (Address q) = word_and_pointer op objects m q
of_two op objects (Word m) (Missing call) = Err cause.NoValue
of_two op objects (Address p) (Word n) = pointer_and_word op objects p n
of_two op objects (Address p) (Address q) = two_addresses op objects p q
of_two op objects (Address p) (Missing call) = Err cause.NoValue
of_two op objects (Missing call) b = Err cause.NoValue

-- OPERATIONS OF ONE OPERAND

abbrev pub test_of : List Object → Value → Result Bool Cause
test_of objects (Word n) = Ok (not (n == 0))
test_of objects (Address p) = pointer_holds objects (Some p)
test_of objects (Missing call) = Err cause.NoValue

abbrev pub of_one : UnOp → List Object → Value → Result Value Cause
of_one un.Neg objects a = of_integer word_negation a
of_one un.Com objects a = of_integer word_complement a
of_one un.Not objects a = and_go (test_of objects a) (λ holds. Ok (Word (truth (not holds))))

-- CALLS: a call through a pointer that is to no function is undefined

abbrev pub function_at : Pointer → Result FunctionName Cause
function_at (Into object offset) = Err cause.WrongCall
function_at (ToFunction function) = Ok function

abbrev pub called : Value → Result FunctionName Cause
called value = and_go (pointer_in value) (λ p. and_go (not_null p) function_at)
