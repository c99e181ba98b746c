-- The typing of expressions: of each operator, what its operands must be, its type, and whether it
-- is an lvalue. Names and string literals, which depend on where they stand, are in Typing.
use Rattle.std.specs.Prelude.{ℕ, Bool, true, false, not, ◌&&◌, ◌||◌, if◌then◌else◌, List, [], ◌∷◌, ◌++◌, slice_get, Option, Some, None, Result, Ok, Err}
use Rattle.p9_lang.specs.declared.tree.CBinary.{CBinary}
use Rattle.p9_lang.specs.declared.tree.CBinary.TheVariants as operator
use Rattle.p9_lang.specs.declared.tree.CUnary.{CUnary}
use Rattle.p9_lang.specs.declared.tree.CUnary.TheVariants as unary
use Rattle.p9_lang.specs.declared.tree.Kind.{Kind}
use Rattle.p9_lang.specs.declared.tree.Kind.TheVariants as kind
use Rattle.p9_lang.specs.Types.{TypeTree, Void, Char, UChar, Short, UShort, Int, UInt, Long, ULong, Pointer, Array, Function, Tagged, TypeRow, TagTree, Tags}
use Rattle.p9_lang.specs.Types as types
use Rattle.p9_lang.specs.Layout.{is_complete}
use Rattle.p9_lang.specs.Members.{Found, At, Missing, find_member}
use Rattle.p9_lang.specs.Members as members
use Rattle.p9_lang.specs.Conversions.{is_integer, is_pointer, is_void, is_function, is_array, is_structure, is_scalar, is_object, points_to, same_type, decayed, promoted, common, number_type, Conversion, Same, Integer, Null, Inner, No, conversion}
use Rattle.p9_lang.specs.Conversions as conversions
use Rattle.p9_lang.specs.Constants.{Operand, is_null_constant}
use Rattle.p9_lang.specs.Rules.{Rule, Malformed, Incomplete, Ambiguous, NotLvalue, BadOperands, BadAssign, NotFunction, ArgCount, NoMember, NotScalar, breaks_if, unless_rules, and_then}

pub record Verdict : Type 0 where
  pub type : TypeTree
  pub is_lvalue : Bool

abbrev pub value : TypeTree → Verdict
value type = record { type = type; is_lvalue = false }

-- what stands for an object; a function is no lvalue
abbrev pub object : TypeTree → Verdict
object type = record { type = type; is_lvalue = not (is_function type) }

-- the type if this holds, else the rule
abbrev pub asks : Bool → Rule → TypeTree → Result TypeTree Rule
asks true rule type = Ok type
asks false rule type = Err rule

abbrev pub as_value : Result TypeTree Rule → Result Verdict Rule
as_value (Ok type) = Ok (value type)
as_value (Err rule) = Err rule

abbrev pub as_object : Result TypeTree Rule → Result Verdict Rule
as_object (Ok type) = Ok (object type)
as_object (Err rule) = Err rule

-- an operand's type, where it stands for its value
abbrev pub value_type : Operand → TypeTree
value_type a = decayed a.type

abbrev pub is_null : Operand → Bool
is_null a = is_null_constant a.constant

-- an array or function is no lvalue that is written
abbrev pub is_writable : Operand → Bool
is_writable a = a.is_lvalue && not (is_array a.type)

abbrev pub is_complete_pointer : Tags → TypeTree → Bool
is_complete_pointer tags type = points_to (is_complete tags) type

abbrev pub is_void_pointer : TypeTree → Bool
is_void_pointer type = points_to is_void type

abbrev pub are_integers : TypeTree → TypeTree → Bool
are_integers a b = is_integer a && is_integer b

-- CONVERSIONS

abbrev pub name_of_tag : Option TagTree → List ℕ
name_of_tag None = []
name_of_tag (Some tag) = tag.name

-- the tag of the structure that a pointer points to
abbrev pub target_name : Tags → TypeTree → List ℕ
target_name tags (Pointer (Tagged i)) = name_of_tag (slice_get tags i)
target_name tags type = []

abbrev pub conversion_broken : Tags → (to : TypeTree) → Conversion → List Rule
conversion_broken tags to Same = []
conversion_broken tags to Integer = []
conversion_broken tags to Null = []
conversion_broken tags to (Inner offset) = []
conversion_broken tags to conversions.Ambiguous = Ambiguous (target_name tags to) ∷ []
conversion_broken tags to No = BadAssign ∷ []

-- the rules that a value of a type breaks where one of another is asked
abbrev pub conversion_rules : Tags → (from to : TypeTree) → (is_null : Bool) → List Rule
conversion_rules tags from to is_null = conversion_broken tags to (conversion tags from to is_null)

-- ARITHMETIC AND COMPARISON, by the types of values

abbrev pub sum_type : Tags → TypeTree → TypeTree → Result TypeTree Rule
sum_type tags a b =
    if are_integers a b then Ok (common a b)
    else (if is_complete_pointer tags a && is_integer b then Ok a
    else asks (is_integer a && is_complete_pointer tags b) BadOperands b)

abbrev pub difference_type : Tags → TypeTree → TypeTree → Result TypeTree Rule
difference_type tags a b =
    if are_integers a b then Ok (common a b)
    else (if is_complete_pointer tags a && is_integer b then Ok a
    else asks (is_complete_pointer tags a && same_type a b) BadOperands Long)

-- integers, or equal pointers to objects
abbrev pub are_ordered : TypeTree → TypeTree → Bool
are_ordered a b = are_integers a b || (points_to is_object a && same_type a b)

-- a pointer beside null or a pointer to void
abbrev pub meets_any : (a b : Operand) → Bool
meets_any a b = is_pointer (value_type a) && (is_null b || is_void_pointer (value_type b))

abbrev pub are_comparable : Operand → Operand → Bool
are_comparable a b =
    are_ordered (value_type a) (value_type b)
    || ((points_to is_function (value_type a) && same_type (value_type a) (value_type b)) || (meets_any a b || meets_any b a))

abbrev pub integers_type : TypeTree → TypeTree → Result TypeTree Rule
integers_type a b = asks (are_integers a b) BadOperands (common a b)

abbrev pub shift_type : TypeTree → TypeTree → Result TypeTree Rule
shift_type a b = asks (are_integers a b) BadOperands (promoted a)

abbrev pub test_type : TypeTree → TypeTree → Result TypeTree Rule
test_type a b = asks (is_scalar a && is_scalar b) NotScalar Int

abbrev pub order_type : TypeTree → TypeTree → Result TypeTree Rule
order_type a b = asks (are_ordered a b) BadOperands Int

abbrev pub equality_type : Operand → Operand → Result TypeTree Rule
equality_type a b = asks (are_comparable a b) BadOperands Int

abbrev pub binary_type : Tags → CBinary → Operand → Operand → Result TypeTree Rule
binary_type tags operator.Mul a b = integers_type (value_type a) (value_type b)
binary_type tags operator.Div a b = integers_type (value_type a) (value_type b)
binary_type tags operator.Rem a b = integers_type (value_type a) (value_type b)
binary_type tags operator.Add a b = sum_type tags (value_type a) (value_type b)
binary_type tags operator.Sub a b = difference_type tags (value_type a) (value_type b)
binary_type tags operator.Shl a b = shift_type (value_type a) (value_type b)
binary_type tags operator.Shr a b = shift_type (value_type a) (value_type b)
binary_type tags operator.Lt a b = order_type (value_type a) (value_type b)
binary_type tags operator.Gt a b = order_type (value_type a) (value_type b)
binary_type tags operator.Le a b = order_type (value_type a) (value_type b)
binary_type tags operator.Ge a b = order_type (value_type a) (value_type b)
binary_type tags operator.Eq a b = equality_type a b
binary_type tags operator.Ne a b = equality_type a b
binary_type tags operator.And a b = integers_type (value_type a) (value_type b)
binary_type tags operator.Xor a b = integers_type (value_type a) (value_type b)
binary_type tags operator.Or a b = integers_type (value_type a) (value_type b)
binary_type tags operator.AndAnd a b = test_type (value_type a) (value_type b)
binary_type tags operator.OrOr a b = test_type (value_type a) (value_type b)

-- integers, both void, equal pointers, or a pointer with null or with a pointer to void
abbrev pub choice_type : Operand → Operand → Result TypeTree Rule
choice_type a b =
    if are_integers (value_type a) (value_type b) then Ok (common a.type b.type)
    else (if is_void a.type && is_void b.type then Ok Void
    else (if is_pointer (value_type a) && (same_type (value_type a) (value_type b) || is_null b) then Ok (value_type a)
    else (if is_pointer (value_type b) && is_null a then Ok (value_type b)
    else (if meets_any a b then Ok (value_type b)
    else asks (meets_any b a) BadOperands (value_type a)))))

abbrev pub choose_verdict : (test a b : Operand) → Result Verdict Rule
choose_verdict test a b =
    as_value (and_then (choice_type a b) (λ type. asks (is_scalar (value_type test)) NotScalar type))

-- ACCESS

-- what a pointer points to: not void; a complete type or a function
abbrev pub target_type : Tags → TypeTree → Result TypeTree Rule
target_type tags (Pointer target) =
    if is_void target then Err BadOperands
    else asks (is_complete tags target || is_function target) Incomplete target
target_type tags type = Err BadOperands

abbrev pub index_verdict : Tags → Operand → Operand → Result Verdict Rule
index_verdict tags a i = as_object (and_then (sum_type tags (value_type a) (value_type i)) (target_type tags))

abbrev pub member_verdict : List ℕ → (is_lvalue : Bool) → Found → Result Verdict Rule
member_verdict x is_lvalue (At offset tag number type) = Ok (record { type = type; is_lvalue = is_lvalue })
member_verdict x is_lvalue Missing = Err (NoMember x)
member_verdict x is_lvalue members.Ambiguous = Err (Ambiguous x)
member_verdict x is_lvalue members.Incomplete = Err Incomplete

abbrev pub dot_verdict : Tags → List ℕ → (is_lvalue : Bool) → TypeTree → Result Verdict Rule
dot_verdict tags x is_lvalue (Tagged i) = member_verdict x is_lvalue (find_member tags i x)
dot_verdict tags x is_lvalue type = Err BadOperands

abbrev pub arrow_verdict : Tags → List ℕ → TypeTree → Result Verdict Rule
arrow_verdict tags x (Pointer (Tagged i)) = member_verdict x true (find_member tags i x)
arrow_verdict tags x type = Err BadOperands

abbrev pub select_verdict : Tags → (arrow : Bool) → List ℕ → Operand → Result Verdict Rule
select_verdict tags false x a = dot_verdict tags x a.is_lvalue a.type
select_verdict tags true x a = arrow_verdict tags x (value_type a)

-- UNARY OPERATORS, SIZES, CASTS

-- an lvalue or a function
abbrev pub address_type : Operand → Result TypeTree Rule
address_type a = asks (a.is_lvalue || is_function a.type) NotLvalue (Pointer a.type)

abbrev pub integer_type : TypeTree → Result TypeTree Rule
integer_type type = asks (is_integer type) BadOperands (promoted type)

abbrev pub unary_verdict : Tags → CUnary → Operand → Result Verdict Rule
unary_verdict tags unary.Address a = as_value (address_type a)
unary_verdict tags unary.Deref a = as_object (target_type tags (value_type a))
unary_verdict tags unary.Plus a = as_value (integer_type (value_type a))
unary_verdict tags unary.Minus a = as_value (integer_type (value_type a))
unary_verdict tags unary.Complement a = as_value (integer_type (value_type a))
unary_verdict tags unary.Not a = as_value (asks (is_scalar (value_type a)) NotScalar Int)

-- `++` and `--` ask for an lvalue that is an integer or a pointer to a complete type
abbrev pub step_verdict : Tags → Operand → Result Verdict Rule
step_verdict tags a =
    unless_rules
    (breaks_if (not (is_writable a)) NotLvalue
    ++ breaks_if (not (is_integer (value_type a) || is_complete_pointer tags (value_type a))) BadOperands)
    (value a.type)

abbrev pub size_verdict : Tags → TypeTree → Result Verdict Rule
size_verdict tags type =
    if is_function type then Err BadOperands
    else as_value (asks (is_complete tags type) Incomplete UInt)

abbrev pub are_of_one_kind : TypeTree → TypeTree → Bool
are_of_one_kind a b =
    (points_to is_function a && points_to is_function b)
    || (is_pointer a && (not (points_to is_function a) && (is_pointer b && not (points_to is_function b))))

-- anything to void; an integer to an integer; a pointer to a pointer, both to functions or both
-- not; the null constant to a pointer
abbrev pub cast_verdict : (to : TypeTree) → Operand → Result Verdict Rule
cast_verdict to a =
    as_value (asks
    (is_void to || (are_integers (value_type a) to || (are_of_one_kind (value_type a) to || (is_null a && is_pointer to))))
    BadOperands to)

-- CALLS

abbrev pub argument_rules : Tags → TypeRow → List Operand → List Rule
argument_rules tags types.none [] = []
argument_rules tags types.none (a ∷ others) = ArgCount ∷ []
argument_rules tags (types.more p ps) [] = ArgCount ∷ []
argument_rules tags (types.more p ps) (a ∷ others) =
    conversion_rules tags (value_type a) p (is_null a) ++ argument_rules tags ps others

abbrev pub call_of : Tags → TypeTree → List Operand → Result Verdict Rule
call_of tags (Pointer (Function result parameters)) operands =
    unless_rules (argument_rules tags parameters operands) (value result)
call_of tags type operands = Err NotFunction

abbrev pub call_verdict : Tags → List Operand → Result Verdict Rule
call_verdict tags [] = Err Malformed
call_verdict tags (f ∷ operands) = call_of tags (value_type f) operands

-- ASSIGNMENTS

-- a structure is copied only as a statement of its own
abbrev pub assigned_rules : Tags → (is_statement : Bool) → (to : TypeTree) → Operand → List Rule
assigned_rules tags is_statement to b =
    if is_structure to && same_type to b.type then breaks_if (not is_statement) BadOperands
    else conversion_rules tags (value_type b) to (is_null b)

abbrev pub result_rules : Tags → (to : TypeTree) → Result TypeTree Rule → List Rule
result_rules tags to (Ok type) = conversion_rules tags type to false
result_rules tags to (Err rule) = rule ∷ []

abbrev pub assign_rules : Tags → (is_statement : Bool) → Option CBinary → Operand → Operand → List Rule
assign_rules tags is_statement None a b = assigned_rules tags is_statement a.type b
assign_rules tags is_statement (Some op) a b = result_rules tags a.type (binary_type tags op a b)

abbrev pub assign_verdict : Tags → (is_statement : Bool) → Option CBinary → Operand → Operand → Result Verdict Rule
assign_verdict tags is_statement op a b =
    unless_rules (breaks_if (not (is_writable a)) NotLvalue ++ assign_rules tags is_statement op a b) (value a.type)

-- THE TABLE

abbrev pub of_one : (Operand → Result Verdict Rule) → List Operand → Result Verdict Rule
of_one verdict (a ∷ []) = verdict a
of_one verdict others = Err Malformed

abbrev pub of_two : (Operand → Operand → Result Verdict Rule) → List Operand → Result Verdict Rule
of_two verdict (a ∷ (b ∷ [])) = verdict a b
of_two verdict others = Err Malformed

abbrev pub of_three : (Operand → Operand → Operand → Result Verdict Rule) → List Operand → Result Verdict Rule
of_three verdict (a ∷ (b ∷ (c ∷ []))) = verdict a b c
of_three verdict others = Err Malformed

-- `is_statement` says that the node is the whole of an expression statement
abbrev pub verdict : Tags → (is_statement : Bool) → Kind → List Operand → Result Verdict Rule
verdict tags is_statement (kind.Number n unsigned long) operands = Ok (value (number_type n unsigned long))
verdict tags is_statement (kind.Character n) operands = Ok (value Int)
verdict tags is_statement kind.Parens operands = of_one (λ a. Ok (record { type = a.type; is_lvalue = a.is_lvalue })) operands
verdict tags is_statement kind.Index operands = of_two (index_verdict tags) operands
verdict tags is_statement kind.Call operands = call_verdict tags operands
verdict tags is_statement (kind.Dot arrow x) operands = of_one (select_verdict tags arrow x) operands
verdict tags is_statement (kind.Post minus) operands = of_one (step_verdict tags) operands
verdict tags is_statement (kind.Pre minus) operands = of_one (step_verdict tags) operands
verdict tags is_statement (kind.Unary op) operands = of_one (unary_verdict tags op) operands
verdict tags is_statement kind.SizeofValue operands = of_one (λ a. size_verdict tags a.type) operands
verdict tags is_statement kind.SizeofType operands = of_one (λ t. size_verdict tags t.type) operands
verdict tags is_statement kind.Cast operands = of_two (λ t a. cast_verdict t.type a) operands
verdict tags is_statement (kind.Binary op) operands = of_two (λ a b. as_value (binary_type tags op a b)) operands
verdict tags is_statement kind.Choose operands = of_three choose_verdict operands
verdict tags is_statement (kind.Assign op) operands = of_two (assign_verdict tags is_statement op) operands
verdict tags is_statement kind.Comma operands = of_two (λ a b. Ok (value (value_type b))) operands
verdict tags is_statement k operands = Err Malformed
