-- What operators give of their operands' values, by the operands' types, which are arrays and
-- functions no more: these have become pointers.
use Rattle.std.specs.Prelude.{ℕ, ◌*◌, ◌==◌, ◌||◌, nat_lt, nat_le, if◌then◌else◌, Bool, true, false, not, List, [], ◌∷◌, length, option_to_list, ◌++◌, Option, Some, None, Result, Ok, Err}
use Rattle.p9_base.specs.Words.{word_sum, word_difference, word_product, is_negative, magnitude, signed_quotient, signed_remainder}
use Rattle.p9_lang.specs.declared.tree.CBinary.{CBinary}
use Rattle.p9_lang.specs.declared.tree.CBinary.TheVariants as operator
use Rattle.p9_lang.specs.Types.{TypeTree, Pointer, Tags}
use Rattle.p9_lang.specs.Layout.{size_of}
use Rattle.p9_lang.specs.Conversions.{is_integer, is_unsigned}
use Rattle.p9_lang.specs.Constants.{WordFault, Divide, Shift, truth, word_operation, works_unsigned}
use Rattle.p9_cmean.specs.declared.Cause.{Cause}
use Rattle.p9_cmean.specs.declared.Cause.TheVariants as cause
use Rattle.p9_cmean.specs.Cells.{Object, Value, Word, Address, Missing}
use Rattle.p9_cmean.specs.Cells as cells
use Rattle.p9_cmean.specs.Access.{and_go, integer_in, pointer_in, usable, moved, object_at, same_function}

-- INTEGERS

abbrev pub cause_of : WordFault → Cause
cause_of Divide = cause.Divide
cause_of Shift = cause.Shift

abbrev pub word_or_cause : Result ℕ WordFault → Result Value Cause
word_or_cause (Ok word) = Ok (Word word)
word_or_cause (Err fault) = Err (cause_of fault)

abbrev pub of_integers : CBinary → (left right : TypeTree) → Value → Value → Result Value Cause
of_integers op left right a b =
    and_go (integer_in a) (λ m.
    and_go (integer_in b) (λ n. word_or_cause (word_operation op (works_unsigned op left right) m n)))

-- POINTERS

-- A pointer moves by so many elements of a size, forwards or backwards; the number has a sign if its
-- type has.
abbrev pub element_offset : (is_back : Bool) → (size count : ℕ) → ℕ → ℕ
element_offset false size count offset = word_sum offset (word_product count size)
element_offset true size count offset = word_difference offset (word_product count size)

abbrev pub moved_by : List Object → (is_back : Bool) → (size : ℕ) → (type : TypeTree) → (count : ℕ) → Option cells.Pointer → Result Value Cause
moved_by objects is_back size type count pointer =
    if is_unsigned type || not (is_negative count)
    then moved objects is_back (count * size) (element_offset is_back size count) pointer
    else moved objects (not is_back) (magnitude count * size) (element_offset is_back size count) pointer

abbrev pub moved_elements : List Object → (is_back : Bool) → (size : ℕ) → (type : TypeTree) → (pointer count : Value) → Result Value Cause
moved_elements objects is_back size type pointer count =
    and_go (pointer_in pointer) (λ p. and_go (integer_in count) (λ n. moved_by objects is_back size type n p))

abbrev pub pointers : Option cells.Pointer → Option cells.Pointer → List cells.Pointer
pointers p q = option_to_list p ++ option_to_list q

-- two pointers, neither of which is dead or outside its object
abbrev pub of_pointers : List Object → Value → Value → (Option cells.Pointer → Option cells.Pointer → Result ℕ Cause) → Result Value Cause
of_pointers objects a b operation =
    and_go (pointer_in a) (λ p.
    and_go (pointer_in b) (λ q.
    usable objects (pointers p q) (and_go (operation p q) (λ n. Ok (Word n)))))

-- what is computed of two offsets in one object
abbrev pub within_one : (ℕ → ℕ → Result ℕ Cause) → Option cells.Pointer → Option cells.Pointer → Result ℕ Cause
within_one operation None q = Err cause.Compare
within_one operation (Some p) None = Err cause.Compare
within_one operation (Some (cells.Into object a)) (Some (cells.Into other b)) =
    if object == other then operation a b else Err cause.Compare
within_one operation (Some (cells.Into object a)) (Some (cells.ToFunction g)) = Err cause.Compare
within_one operation (Some (cells.ToFunction f)) (Some q) = Err cause.Compare

abbrev pub compared : (ℕ → ℕ → Bool) → Option cells.Pointer → Option cells.Pointer → Result ℕ Cause
compared test = within_one (λ a b. Ok (truth (test a b)))

-- The difference of two offsets, a word with a sign, is a whole number of elements.
abbrev pub whole_elements : (size difference : ℕ) → Result ℕ Cause
whole_elements size difference =
    if signed_remainder difference size == 0 then Ok (signed_quotient difference size) else Err cause.Compare

abbrev pub elements_between : (size : ℕ) → (a b : ℕ) → Result ℕ Cause
elements_between size a b = whole_elements size (word_difference a b)

abbrev pub is_past_the_end : List Object → (object offset : ℕ) → Bool
is_past_the_end objects object offset = offset == length (object_at objects object).cells

-- Pointers are equal where object and offset are. Of pointers into different objects neither may be
-- past the end. A function is no object.
abbrev pub are_equal : List Object → Option cells.Pointer → Option cells.Pointer → Result Bool Cause
are_equal objects None None = Ok true
are_equal objects None (Some q) = Ok false
are_equal objects (Some p) None = Ok false
are_equal objects (Some (cells.Into object a)) (Some (cells.Into other b)) =
    if object == other then Ok (a == b)
    else (if is_past_the_end objects object a || is_past_the_end objects other b then Err cause.Compare
    else Ok false)
are_equal objects (Some (cells.Into object a)) (Some (cells.ToFunction g)) = Ok false
are_equal objects (Some (cells.ToFunction f)) (Some (cells.Into object b)) = Ok false
are_equal objects (Some (cells.ToFunction f)) (Some (cells.ToFunction g)) = Ok (same_function f g)

abbrev pub equality : List Object → Option cells.Pointer → Option cells.Pointer → Result ℕ Cause
equality objects p q = and_go (are_equal objects p q) (λ same. Ok (truth same))

abbrev pub inequality : List Object → Option cells.Pointer → Option cells.Pointer → Result ℕ Cause
inequality objects p q = and_go (are_equal objects p q) (λ same. Ok (truth (not same)))

abbrev pub equality_of : List Object → Value → Value → Result Value Cause
equality_of objects a b = of_pointers objects a b (equality objects)

abbrev pub inequality_of : List Object → Value → Value → Result Value Cause
inequality_of objects a b = of_pointers objects a b (inequality objects)

-- OPERATIONS OF TWO OPERANDS, by their types. An operation without a meaning, as of a structure, is
-- in no valid module.

-- an integer beside a pointer is a number of elements, or the null constant
abbrev pub pointer_and_integer : CBinary → Tags → List Object → (target type : TypeTree) → Value → Value → Option (Result Value Cause)
pointer_and_integer operator.Add tags objects target type p n = Some (moved_elements objects false (size_of tags target) type p n)
pointer_and_integer operator.Sub tags objects target type p n = Some (moved_elements objects true (size_of tags target) type p n)
pointer_and_integer operator.Eq tags objects target type p n = Some (equality_of objects p n)
pointer_and_integer operator.Ne tags objects target type p n = Some (inequality_of objects p n)
pointer_and_integer op tags objects target type p n = None

abbrev pub integer_and_pointer : CBinary → Tags → List Object → (type target : TypeTree) → Value → Value → Option (Result Value Cause)
integer_and_pointer operator.Add tags objects type target n p = Some (moved_elements objects false (size_of tags target) type p n)
integer_and_pointer operator.Eq tags objects type target n p = Some (equality_of objects n p)
integer_and_pointer operator.Ne tags objects type target n p = Some (inequality_of objects n p)
integer_and_pointer op tags objects type target n p = None

abbrev pub two_pointers : CBinary → Tags → List Object → (target : TypeTree) → Value → Value → Option (Result Value Cause)
two_pointers operator.Sub tags objects target p q = Some (of_pointers objects p q (within_one (elements_between (size_of tags target))))
two_pointers operator.Lt tags objects target p q = Some (of_pointers objects p q (compared (λ a b. nat_lt a b)))
two_pointers operator.Gt tags objects target p q = Some (of_pointers objects p q (compared (λ a b. nat_lt b a)))
two_pointers operator.Le tags objects target p q = Some (of_pointers objects p q (compared (λ a b. nat_le a b)))
two_pointers operator.Ge tags objects target p q = Some (of_pointers objects p q (compared (λ a b. nat_le b a)))
two_pointers operator.Eq tags objects target p q = Some (equality_of objects p q)
two_pointers operator.Ne tags objects target p q = Some (inequality_of objects p q)
two_pointers op tags objects target p q = None

abbrev pub if_integer : {A : Type 0} → TypeTree → Option A → Option A
if_integer type given = if is_integer type then given else None

abbrev pub operation : CBinary → Tags → List Object → (left right : TypeTree) → Value → Value → Option (Result Value Cause)
operation op tags objects (Pointer target) (Pointer other) a b = two_pointers op tags objects target a b
operation op tags objects (Pointer target) right a b = if_integer right (pointer_and_integer op tags objects target right a b)
operation op tags objects left (Pointer target) a b = if_integer left (integer_and_pointer op tags objects left target a b)
operation op tags objects left right a b = if_integer left (if_integer right (Some (of_integers op left right a b)))

-- OPERATIONS OF ONE OPERAND

abbrev pub of_integer : (ℕ → ℕ) → Value → Result Value Cause
of_integer f a = and_go (integer_in a) (λ n. Ok (Word (f n)))

-- A test holds of what isn't 0 or null.

abbrev pub pointer_holds : List Object → Option cells.Pointer → Result Bool Cause
pointer_holds objects None = Ok false
pointer_holds objects (Some p) = usable objects (p ∷ []) (Ok true)

abbrev pub holds : List Object → TypeTree → Value → Option (Result Bool Cause)
holds objects (Pointer target) a = Some (and_go (pointer_in a) (pointer_holds objects))
holds objects type a = if_integer type (Some (and_go (integer_in a) (λ n. Ok (not (n == 0)))))
