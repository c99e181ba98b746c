-- Constant expressions: their values, by the operations on words that C's meaning uses too.
use Rattle.std.specs.Prelude.{ℕ, zero, suc, ◌-◌, ◌/◌, ◌%◌, ◌^◌, Bool, true, false, not, ◌&&◌, ◌||◌, ◌==◌, nat_lt, if◌then◌else◌, bit_and, bit_or, bit_xor, List, [], ◌∷◌, Option, Some, None, nat_le, Result, Ok, Err}
use Rattle.p9_base.specs.Numbers.{sign_extended}
use Rattle.p9_base.specs.Words.{word_sum, word_difference, word_negation, word_product, word_complement, is_signed_less, signed_quotient, signed_remainder, shift_left, shift_right, shift_right_signed, low8, low16}
use Rattle.p9_lang.specs.declared.tree.CBinary.{CBinary}
use Rattle.p9_lang.specs.declared.tree.CBinary.TheVariants as operator
use Rattle.p9_lang.specs.declared.tree.CUnary.{CUnary}
use Rattle.p9_lang.specs.declared.tree.CUnary.TheVariants as unary
use Rattle.p9_lang.specs.declared.tree.Kind.{Kind}
use Rattle.p9_lang.specs.declared.tree.Kind.TheVariants as kind
use Rattle.p9_lang.specs.Types.{TypeTree, Void, Char, UChar, Short, UShort, Pointer, Meant, EnumValue, Tags}
use Rattle.p9_lang.specs.Layout.{Extent, layout, size_limit}
use Rattle.p9_lang.specs.Conversions.{is_integer, is_unsigned}
use Rattle.p9_lang.specs.Trees.{node, none, more}
use Rattle.p9_lang.specs.Modules.{Typed, TypedRow}

-- OPERATIONS ON WORDS, of integers that are 32 bits wide

-- why an operation gives no value
pub data WordFault : Type 0 where
  Divide : WordFault
  Shift : WordFault

abbrev pub truth : Bool → ℕ
truth true = 1
truth false = 0

abbrev pub least_word : ℕ
least_word = 2 ^ 31

abbrev pub minus_one : ℕ
minus_one = 2 ^ 32 - 1

-- a divisor may not be 0, and the least signed number isn't divided by -1
abbrev pub divided : (is_unsigned : Bool) → (unsigned signed : ℕ) → (a b : ℕ) → Result ℕ WordFault
divided is_unsigned unsigned signed a zero = Err Divide
divided true unsigned signed a (suc b) = Ok unsigned
divided false unsigned signed a (suc b) =
    if (a == least_word) && (suc b == minus_one) then Err Divide else Ok signed

-- a count is from 0 to 31
abbrev pub shifted : ℕ → ℕ → Result ℕ WordFault
shifted count word = if nat_lt count 32 then Ok word else Err Shift

abbrev pub is_less : (is_unsigned : Bool) → ℕ → ℕ → Bool
is_less true a b = nat_lt a b
is_less false a b = is_signed_less a b

abbrev pub right_shift : (is_unsigned : Bool) → ℕ → ℕ → ℕ
right_shift true a b = shift_right a b
right_shift false a b = shift_right_signed a b

-- `is_unsigned` is that of the operands' common type, for a shift of the left one's
abbrev pub word_operation : CBinary → (is_unsigned : Bool) → ℕ → ℕ → Result ℕ WordFault
word_operation operator.Mul is_unsigned a b = Ok (word_product a b)
word_operation operator.Div is_unsigned a b = divided is_unsigned (a / b) (signed_quotient a b) a b
word_operation operator.Rem is_unsigned a b = divided is_unsigned (a % b) (signed_remainder a b) a b
word_operation operator.Add is_unsigned a b = Ok (word_sum a b)
word_operation operator.Sub is_unsigned a b = Ok (word_difference a b)
word_operation operator.Shl is_unsigned a b = shifted b (shift_left a b)
word_operation operator.Shr is_unsigned a b = shifted b (right_shift is_unsigned a b)
word_operation operator.Lt is_unsigned a b = Ok (truth (is_less is_unsigned a b))
word_operation operator.Gt is_unsigned a b = Ok (truth (is_less is_unsigned b a))
word_operation operator.Le is_unsigned a b = Ok (truth (not (is_less is_unsigned b a)))
word_operation operator.Ge is_unsigned a b = Ok (truth (not (is_less is_unsigned a b)))
word_operation operator.Eq is_unsigned a b = Ok (truth (a == b))
word_operation operator.Ne is_unsigned a b = Ok (truth (not (a == b)))
word_operation operator.And is_unsigned a b = Ok (bit_and a b)
word_operation operator.Xor is_unsigned a b = Ok (bit_xor a b)
word_operation operator.Or is_unsigned a b = Ok (bit_or a b)
word_operation operator.AndAnd is_unsigned a b = Ok (truth (not (a == 0) && not (b == 0)))
word_operation operator.OrOr is_unsigned a b = Ok (truth (not (a == 0) || not (b == 0)))

-- whether an operator works on its operands as unsigned numbers, by their types
abbrev pub works_unsigned : CBinary → (left right : TypeTree) → Bool
works_unsigned operator.Shl left right = is_unsigned left
works_unsigned operator.Shr left right = is_unsigned left
works_unsigned op left right = is_unsigned left || is_unsigned right

-- a word as the value of an integer type: the low bits, with their sign or without
abbrev pub narrowed : TypeTree → ℕ → ℕ
narrowed Char word = sign_extended 8 word
narrowed UChar word = low8 word
narrowed Short word = sign_extended 16 word
narrowed UShort word = low16 word
narrowed type word = word

-- CONSTANTS

-- what an expression is as a constant: none; an integer constant whose evaluation is undefined, or
-- gives a word; or null, the number 0 cast to void*
pub data Constant : Type 0 where
  NotConstant : Constant
  Undefined : Constant
  Value : (word : ℕ) → Constant
  Null : Constant

abbrev pub is_null_constant : Constant → Bool
is_null_constant NotConstant = false
is_null_constant Undefined = false
is_null_constant (Value word) = word == 0
is_null_constant Null = true

-- an expression, to the operator that it is an operand of
pub record Operand : Type 0 where
  pub type : TypeTree
  pub is_lvalue : Bool
  pub constant : Constant

abbrev pub value_or_undefined : Result ℕ WordFault → Constant
value_or_undefined (Ok word) = Value word
value_or_undefined (Err fault) = Undefined

-- an operation on one integer constant
abbrev pub on_word : (ℕ → Constant) → Constant → Constant
on_word operation NotConstant = NotConstant
on_word operation Undefined = Undefined
on_word operation (Value word) = operation word
on_word operation Null = NotConstant

-- the second, where it is an integer constant
abbrev pub also : Constant → Constant → Constant
also NotConstant c = NotConstant
also Undefined c = c
also (Value word) c = c
also Null c = NotConstant

-- an operation on two integer constants
abbrev pub on_words : (ℕ → ℕ → Constant) → Constant → Constant → Constant
on_words operation a b = also b (on_word (λ x. on_word (operation x) b) a)

-- `&&` and `||` don't evaluate the right operand where the left one decides; it is a constant still
abbrev pub both_true : Constant → Constant → Constant
both_true a b = also b (on_word (λ x. if x == 0 then Value 0 else on_word (λ y. Value (truth (not (y == 0)))) b) a)

abbrev pub one_true : Constant → Constant → Constant
one_true a b = also b (on_word (λ x. if x == 0 then on_word (λ y. Value (truth (not (y == 0)))) b else Value 1) a)

abbrev pub chosen : Constant → Constant → Constant → Constant
chosen test a b = also a (also b (on_word (λ x. if x == 0 then b else a) test))

abbrev pub binary_constant : CBinary → Operand → Operand → Constant
binary_constant operator.AndAnd a b = both_true a.constant b.constant
binary_constant operator.OrOr a b = one_true a.constant b.constant
binary_constant op a b =
    on_words (λ x y. value_or_undefined (word_operation op (works_unsigned op a.type b.type) x y)) a.constant b.constant

abbrev pub unary_constant : CUnary → Constant → Constant
unary_constant unary.Address c = NotConstant
unary_constant unary.Deref c = NotConstant
unary_constant unary.Plus c = on_word (λ x. Value x) c
unary_constant unary.Minus c = on_word (λ x. Value (word_negation x)) c
unary_constant unary.Complement c = on_word (λ x. Value (word_complement x)) c
unary_constant unary.Not c = on_word (λ x. Value (truth (x == 0))) c

abbrev pub null_if : ℕ → Constant
null_if word = if word == 0 then Null else NotConstant

-- a cast to an integer type narrows, and one to void* makes 0 null
abbrev pub cast_constant : TypeTree → Constant → Constant
cast_constant (Pointer Void) c = on_word null_if c
cast_constant type c = if is_integer type then on_word (λ x. Value (narrowed type x)) c else NotConstant

-- the size of an incomplete type, or one above the limit, is none
abbrev pub size_constant_in : Option Extent → Constant
size_constant_in None = NotConstant
size_constant_in (Some e) = if nat_le e.size size_limit then Value e.size else NotConstant

abbrev pub size_constant : Tags → TypeTree → Constant
size_constant tags type = size_constant_in (layout tags type)

abbrev pub enumeration_constant : Meant → Constant
enumeration_constant (EnumValue value) = Value value
enumeration_constant means = NotConstant

-- Nodes by what their parts are

abbrev pub by_one : (Operand → Constant) → List Operand → Constant
by_one constant (a ∷ []) = constant a
by_one constant others = NotConstant

abbrev pub by_two : (Operand → Operand → Constant) → List Operand → Constant
by_two constant (a ∷ (b ∷ [])) = constant a b
by_two constant others = NotConstant

abbrev pub by_three : (Operand → Operand → Operand → Constant) → List Operand → Constant
by_three constant (a ∷ (b ∷ (c ∷ []))) = constant a b c
by_three constant others = NotConstant

-- calls, accesses, assignments and steps are no constants, nor is what is no expression
abbrev pub constant_at : Tags → Kind → (type : TypeTree) → Meant → List Operand → Constant
constant_at tags (kind.Number value unsigned long) type means operands = Value value
constant_at tags (kind.Character value) type means operands = Value value
constant_at tags (kind.Name x) type means operands = enumeration_constant means
constant_at tags kind.Parens type means operands = by_one (λ a. a.constant) operands
constant_at tags (kind.Unary op) type means operands = by_one (λ a. unary_constant op a.constant) operands
constant_at tags (kind.Binary op) type means operands = by_two (binary_constant op) operands
constant_at tags kind.Choose type means operands = by_three (λ t a b. chosen t.constant a.constant b.constant) operands
constant_at tags kind.Comma type means operands = by_two (λ a b. on_words (λ x y. Value y) a.constant b.constant) operands
constant_at tags kind.Cast type means operands = by_two (λ t a. cast_constant type a.constant) operands
constant_at tags kind.SizeofValue type means operands = by_one (λ a. size_constant tags a.type) operands
constant_at tags kind.SizeofType type means operands = by_one (λ t. size_constant tags t.type) operands
constant_at tags k type means operands = NotConstant

-- THE EVALUATOR, over the trees of a module; whether an operand is an lvalue plays no part

abbrev pub type_at : Typed → TypeTree
type_at (node k label parts) = label.type

abbrev mutual
  pub constant_of : Tags → Typed → Constant
  constant_of tags (node k label parts) = constant_at tags k label.type label.means (constants_of tags parts)

  pub constants_of : Tags → TypedRow → List Operand
  constants_of tags none = []
  constants_of tags (more first others) =
      record { type = type_at first; is_lvalue = false; constant = constant_of tags first } ∷ constants_of tags others
