-- What an expression does and is worth: its value, and the address of an lvalue. Everything goes from
-- left to right. A kind of node that has no clause here is no expression, and one without a clause of
-- `address` no lvalue: valid modules have none there.
use Rattle.std.specs.Prelude.{ℕ, Bool, true, false, not, if◌then◌else◌, List, [], ◌∷◌, Option, Some, None, Result, Ok, Err}
use Rattle.p9_base.specs.Words.{word_negation, word_complement}
use Rattle.p9_lang.specs.declared.tree.CBinary.{CBinary}
use Rattle.p9_lang.specs.declared.tree.CBinary.TheVariants as operator
use Rattle.p9_lang.specs.declared.tree.CUnary.TheVariants as unary
use Rattle.p9_lang.specs.declared.tree.Kind.TheVariants as kind
use Rattle.p9_lang.specs.Types.{TypeTree, Void, Int, Pointer, Array, Function, Tagged, TypeRow, Tags, Meant, Outer, Static, Auto, EnumValue, TypeName}
use Rattle.p9_lang.specs.Types as types
use Rattle.p9_lang.specs.Trees.{node, none, more}
use Rattle.p9_lang.specs.Layout.{size_of, alignment_of}
use Rattle.p9_lang.specs.Members.{Found, At, Missing, Ambiguous, Incomplete, find_member}
use Rattle.p9_lang.specs.Modules.{Label, Typed, TypedRow}
use Rattle.p9_lang.specs.Conversions.{is_integer, is_pointer, is_structure, decayed, common, Conversion, Same, Null, Inner, No, conversion}
use Rattle.p9_lang.specs.Conversions as conversions
use Rattle.p9_lang.specs.Constants.{truth, narrowed, is_null_constant, type_at, constant_of}
use Rattle.p9_cmean.specs.declared.Cause.{Cause}
use Rattle.p9_cmean.specs.declared.Cause.TheVariants as cause
use Rattle.p9_cmean.specs.declared.Place.{Place}
use Rattle.p9_cmean.specs.Cells.{FunctionName, Value, Word, Address, Object, State}
use Rattle.p9_cmean.specs.Cells as cells
use Rattle.p9_cmean.specs.Plays.{Play, Done, Wrong, NoMeaning, Moved, Ask, bind}
use Rattle.p9_cmean.specs.Access.{and_go, integer_in, pointer_in, null, usable, integer_from, pointer_from, loaded, stored, read_whole, written_whole, moved_inside}
use Rattle.p9_cmean.specs.Contents.{Content, Integer, Reference, Aggregate, Nothing, content_of}
use Rattle.p9_cmean.specs.Operators.{operation, of_integer, holds}
use Rattle.p9_cmean.specs.Places.{used, or_wrong, done_at, or_no_meaning}
use Rattle.p9_cmean.specs.Automatics.{Living, living_object}

-- What stands round an expression: the number of its module, the module's structures, what names and
-- numbers of statics stand for in it, which functions have a type that agrees with one of the module;
-- and the automatics that are alive, and the type of the function's result.
pub record Surroundings : Type 0 where
  pub owner : ℕ
  pub tags : Tags
  pub object : (name : List ℕ) → Option cells.Pointer
  pub function : (name : List ℕ) → FunctionName
  pub static : (number : ℕ) → Option cells.Pointer
  pub has_type : FunctionName → TypeTree → Bool
  pub automatics : List Living
  pub result : TypeTree

abbrev pub at : Surroundings → Label → Place
at around label = record { «module» = around.owner; node = label.number }

-- the type of an operand, whose arrays and functions have become pointers
abbrev pub operand_type : Typed → TypeTree
operand_type e = decayed (type_at e)

-- the node of the lvalue that is read where an expression is one
abbrev pub lvalue_place : Surroundings → Typed → Place
lvalue_place around (node kind.Parens label (more e none)) = lvalue_place around e
lvalue_place around (node kind.Comma label (more left (more right none))) = lvalue_place around right
lvalue_place around (node k label parts) = at around label

-- NAMES: a name of function type is the function, any other of file scope an object

abbrev pub outer_pointer : Surroundings → TypeTree → List ℕ → Option cells.Pointer
outer_pointer around (Function result parameters) name = Some (cells.ToFunction (around.function name))
outer_pointer around type name = around.object name

abbrev pub pointer_to : Surroundings → TypeTree → Meant → Option cells.Pointer
pointer_to around type types.Nothing = None
pointer_to around type (Outer name) = outer_pointer around type name
pointer_to around type (Static number) = around.static number
pointer_to around type (Auto number) = living_object around.automatics number
pointer_to around type (EnumValue value) = None
pointer_to around type (TypeName other) = None

abbrev pub address_of_name : Surroundings → Label → State → Play Value
address_of_name around label s =
    or_no_meaning (at around label) s (pointer_to around label.type label.means) (λ p. Done (Address p) s)

-- READING AND WRITING

abbrev pub read_content : Content → Tags → TypeTree → Place → (address : Value) → State → Play Value
read_content Integer tags type place address s =
    done_at place s (loaded (integer_from (narrowed type)) (size_of tags type) (alignment_of tags type) s.objects address)
read_content Reference tags type place address s =
    done_at place s (loaded pointer_from (size_of tags type) (alignment_of tags type) s.objects address)
read_content Aggregate tags type place address s = Done address s
read_content Nothing tags type place address s = NoMeaning place s

-- what an lvalue of a type is worth, by its address
abbrev pub read_at : Surroundings → TypeTree → Place → (address : Value) → State → Play Value
read_at around type place address s = read_content (content_of type) around.tags type place address s

abbrev pub store_scalar : Tags → TypeTree → Place → (address value : Value) → State → Play Value
store_scalar tags type place address value s =
    or_wrong place s (stored (size_of tags type) (alignment_of tags type) s.objects address value) (λ objects.
    Done value (record s { objects = objects }))

abbrev pub store_content : Content → Tags → TypeTree → Place → (address value : Value) → State → Play Value
store_content Integer tags type place address value s = store_scalar tags type place address value s
store_content Reference tags type place address value s = store_scalar tags type place address value s
store_content Aggregate tags type place address value s = NoMeaning place s
store_content Nothing tags type place address value s = NoMeaning place s

-- CONVERSION: of an assignment, an argument, a returned value and an initialiser. An integer keeps its
-- low bits, a pointer stays as it is or becomes one to a substructure, and the null constant is null.

abbrev pub narrow : TypeTree → Value → Result Value Cause
narrow type value = and_go (integer_in value) (λ n. Ok (Word (narrowed type n)))

-- A value of an integer type has the width of its type. Where a call answers it, that is asked here, since nothing
-- else says what a call may answer.
abbrev pub kept_value : Place → (type : TypeTree) → Value → State → Play Value
kept_value place type value s = if is_integer type then done_at place s (narrow type value) else Done value s

abbrev pub by_conversion : Conversion → Place → (to : TypeTree) → Value → State → Play Value
by_conversion Same place to value s = kept_value place to value s
by_conversion conversions.Integer place to value s = done_at place s (narrow to value)
by_conversion Null place to value s = Done null s
by_conversion (Inner offset) place to value s = done_at place s (moved_inside s.objects offset value)
by_conversion conversions.Ambiguous place to value s = NoMeaning place s
by_conversion No place to value s = NoMeaning place s

abbrev pub convert_at : Conversion → Place → (to : TypeTree) → Value → State → Play Value
convert_at converts place to value s = used value s (λ v. by_conversion converts place to v s)

-- of an expression to a type
abbrev pub conversion_of : Surroundings → Typed → (to : TypeTree) → Conversion
conversion_of around e to = conversion around.tags (operand_type e) to (is_null_constant (constant_of around.tags e))

-- An assignment is worth the value that is written.
abbrev pub assign_scalar : Surroundings → Conversion → Place → TypeTree → (address value : Value) → State → Play Value
assign_scalar around converts place type address value s =
    bind (convert_at converts place type value s) (λ v t. store_content (content_of type) around.tags type place address v t)

-- A structure is copied: it is read at the right side's lvalue, and written at the assignment.
abbrev pub assign_structure : Surroundings → (place read : Place) → TypeTree → (to from : Value) → State → Play Value
assign_structure around place read type to from s =
    or_wrong read s (read_whole (size_of around.tags type) (alignment_of around.tags type) s.objects from) (λ cells.
    or_wrong place s (written_whole (size_of around.tags type) (alignment_of around.tags type) s.objects to from cells) (λ objects.
    Moved (size_of around.tags type) (Done to (record s { objects = objects }))))

-- an expression's value, to an lvalue of a type
abbrev pub assign : Surroundings → Place → Typed → TypeTree → (address value : Value) → State → Play Value
assign around place e type address value s =
    if is_structure type
    then assign_structure around place (lvalue_place around e) type address value s
    else assign_scalar around (conversion_of around e type) place type address value s

-- OPERATORS

abbrev pub operate : Surroundings → Place → CBinary → (left right : TypeTree) → Value → Value → State → Play Value
operate around place op left right a b s =
    used a s (λ v.
    used b s (λ w.
    or_no_meaning place s (operation op around.tags s.objects left right v w) (λ result. done_at place s result)))

abbrev pub test_at : Place → TypeTree → Value → State → Play Bool
test_at place type value s =
    used value s (λ v. or_no_meaning place s (holds s.objects type v) (λ result. done_at place s result))

abbrev pub negated : Place → Value → State → Play Value
negated place value s = used value s (λ v. done_at place s (of_integer word_negation v))

abbrev pub complemented : Place → Value → State → Play Value
complemented place value s = used value s (λ v. done_at place s (of_integer word_complement v))

abbrev pub promoted : Place → Value → State → Play Value
promoted place value s = used value s (λ v. done_at place s (of_integer (λ n. n) v))

-- The left of two operands is used before the right one is evaluated: it is a value, and a number where its type is no
-- pointer.
abbrev pub left_operand : Place → TypeTree → Play Value → Play Value
left_operand place type left =
    bind left (λ v s. if is_pointer type then used v s (λ w. Done w s) else promoted place v s)

-- What is read by `op=` is an operand, and what comes of it is assigned: a pointer of the same type, or
-- an integer of the common type.
abbrev pub result_conversion : Surroundings → (type right : TypeTree) → Conversion
result_conversion around type right =
    if is_pointer type then Same else conversion around.tags (common type right) type false

abbrev pub update : Surroundings → (place read : Place) → CBinary → (type right : TypeTree) → (address value : Value) → State → Play Value
update around place read op type right address value s =
    bind (read_at around type read address s) (λ old t.
    bind (operate around place op type right old value t) (λ new u.
    assign_scalar around (result_conversion around type right) place type address new u))

-- `++` and `--` add and subtract 1, and give the new value before their operand, the old one behind it
abbrev pub step_operator : (minus : Bool) → CBinary
step_operator true = operator.Sub
step_operator false = operator.Add

abbrev pub old_value : Surroundings → (place read : Place) → CBinary → TypeTree → (address : Value) → State → Play Value
old_value around place read op type address s =
    bind (read_at around type read address s) (λ old t.
    bind (operate around place op type Int old (Word 1) t) (λ new u.
    bind (assign_scalar around (result_conversion around type Int) place type address new u) (λ written w. Done old w)))

-- A cast to void gives no value, one to an integer narrows, and a pointer is kept.
abbrev pub cast_to : Content → TypeTree → Place → Value → State → Play Value
cast_to Integer type place value s = used value s (λ v. done_at place s (narrow type v))
cast_to Reference type place value s = used value s (λ v. Done v s)
cast_to Aggregate type place value s = NoMeaning place s
cast_to Nothing type place value s = Done (cells.Missing place) s

-- The parts of `? :` are used, but where they are void.
abbrev pub chosen : TypeTree → Value → State → Play Value
chosen Void value s = Done value s
chosen type value s = used value s (λ v. Done v s)

-- MEMBERS

abbrev pub found_offset : Found → Option ℕ
found_offset (At offset tag number type) = Some offset
found_offset Missing = None
found_offset Ambiguous = None
found_offset Incomplete = None

-- `.` has a structure before it, and `->` a pointer to one
abbrev pub member_offset : Tags → (arrow : Bool) → TypeTree → (name : List ℕ) → Option ℕ
member_offset tags false (Tagged tag) name = found_offset (find_member tags tag name)
member_offset tags true (Pointer (Tagged tag)) name = found_offset (find_member tags tag name)
member_offset tags arrow type name = None

abbrev pub member_at : Surroundings → Place → (arrow : Bool) → TypeTree → (name : List ℕ) → Value → State → Play Value
member_at around place arrow type name value s =
    used value s (λ v.
    or_no_meaning place s (member_offset around.tags arrow type name) (λ offset.
    done_at place s (moved_inside s.objects offset v)))

-- THE VALUE OF A NAME

abbrev pub value_of_name : Surroundings → Label → State → Play Value
value_of_name around label s = by label.means
  where
    by : Meant → Play Value
    by (EnumValue n) = Done (Word n) s
    by means = bind (address_of_name around label s) (λ p t. read_at around label.type (at around label) p t)

-- CALLS

abbrev pub parameters_of : TypeTree → TypeRow
parameters_of (Pointer (Function result parameters)) = parameters
parameters_of type = types.none

-- the type of what a pointer is to
abbrev pub pointed : TypeTree → TypeTree
pointed (Pointer target) = target
pointed type = type

abbrev pub function_at : Surroundings → TypeTree → List Object → Option cells.Pointer → Result FunctionName Cause
function_at around type objects None = Err cause.Null
function_at around type objects (Some (cells.Into object offset)) =
    usable objects (cells.Into object offset ∷ []) (Err cause.WrongCall)
function_at around type objects (Some (cells.ToFunction function)) =
    if around.has_type function type then Ok function else Err cause.WrongCall

-- What a call is worth: no address where the function's result is an integer. Nothing else says what a call may answer,
-- and no function of C answers one.

abbrev pub gives_integer : TypeTree → Bool
gives_integer (Function result parameters) = is_integer result
gives_integer type = false

abbrev pub answered_as : (an_integer : Bool) → Place → Value → State → Play Value
answered_as true place (Word n) s = Done (Word n) s
answered_as true place (Address pointer) s = Wrong cause.Mixed place s
answered_as true place (cells.Missing call) s = Done (cells.Missing call) s
answered_as false place value s = Done value s

abbrev pub answered : Place → (type : TypeTree) → Value → State → Play Value
answered place type value s = answered_as (gives_integer type) place value s

abbrev pub call_through : Surroundings → Place → TypeTree → Value → List Value → State → Play Value
call_through around place type function arguments s =
    used function s (λ f.
    or_wrong place s (and_go (pointer_in f) (function_at around type s.objects)) (λ name.
    Ask (record { function = name; arguments = arguments; place = place }) s (λ value t. answered place type value t)))

-- EXPRESSIONS

abbrev mutual
  -- the address of an lvalue, or of a function
  pub address : Surroundings → Typed → State → Play Value
  address around (node (kind.Name x) label none) s = address_of_name around label s
  address around (node (kind.Text texts) label none) s = address_of_name around label s
  address around (node kind.Parens label (more e none)) s = address around e s
  address around (node (kind.Unary unary.Deref) label (more e none)) s =
      bind (value around e s) (λ p t. used p t (λ q. Done q t))
  address around (node kind.Index label (more array (more index none))) s =
      bind (left_operand (at around label) (operand_type array) (value around array s)) (λ a t.
      bind (value around index t) (λ i u.
      operate around (at around label) operator.Add (operand_type array) (operand_type index) a i u))
  address around (node (kind.Dot arrow name) label (more e none)) s =
      bind (value around e s) (λ p t.
      member_at around (at around label) arrow (if arrow then operand_type e else type_at e) name p t)
  address around (node k label parts) s = NoMeaning (at around label) s

  -- the value of an expression
  pub value : Surroundings → Typed → State → Play Value
  value around (node (kind.Number n unsigned long) label none) s = Done (Word n) s
  value around (node (kind.Character n) label none) s = Done (Word n) s
  value around (node (kind.Name x) label none) s = value_of_name around label s
  value around (node (kind.Text texts) label none) s =
      bind (address_of_name around label s) (λ p t. read_at around label.type (at around label) p t)
  value around (node kind.Parens label (more e none)) s = value around e s
  value around (node (kind.Unary unary.Address) label (more e none)) s = address around e s
  value around (node (kind.Unary unary.Deref) label (more e none)) s =
      bind (value around e s) (λ p t. used p t (λ q. read_at around label.type (at around label) q t))
  value around (node (kind.Unary unary.Plus) label (more e none)) s =
      bind (value around e s) (λ v t. promoted (at around label) v t)
  value around (node (kind.Unary unary.Minus) label (more e none)) s =
      bind (value around e s) (λ v t. negated (at around label) v t)
  value around (node (kind.Unary unary.Complement) label (more e none)) s =
      bind (value around e s) (λ v t. complemented (at around label) v t)
  value around (node (kind.Unary unary.Not) label (more e none)) s =
      bind (value around e s) (λ v t.
      bind (test_at (at around label) (operand_type e) v t) (λ holds u. Done (Word (truth (not holds))) u))
  value around (node kind.SizeofValue label (more e none)) s = Done (Word (size_of around.tags (type_at e))) s
  value around (node kind.SizeofType label (more type none)) s = Done (Word (size_of around.tags (type_at type))) s
  value around (node kind.Cast label (more type (more e none))) s =
      bind (value around e s) (λ v t. cast_to (content_of label.type) label.type (at around label) v t)
  value around (node kind.Index label (more array (more index none))) s =
      bind (left_operand (at around label) (operand_type array) (value around array s)) (λ a t.
      bind (value around index t) (λ i u.
      bind (operate around (at around label) operator.Add (operand_type array) (operand_type index) a i u) (λ p w.
      read_at around label.type (at around label) p w)))
  value around (node (kind.Dot arrow name) label (more e none)) s =
      bind (value around e s) (λ p t.
      bind (member_at around (at around label) arrow (if arrow then operand_type e else type_at e) name p t) (λ q u.
      read_at around label.type (at around label) q u))
  value around (node (kind.Binary operator.AndAnd) label (more left (more right none))) s =
      bind (value around left s) (λ a t. bind (test_at (at around label) (operand_type left) a t) (λ first u.
      if first
      then bind (value around right u) (λ b w. bind (test_at (at around label) (operand_type right) b w) (λ second x. Done (Word (truth second)) x))
      else Done (Word 0) u))
  value around (node (kind.Binary operator.OrOr) label (more left (more right none))) s =
      bind (value around left s) (λ a t. bind (test_at (at around label) (operand_type left) a t) (λ first u.
      if first
      then Done (Word 1) u
      else bind (value around right u) (λ b w. bind (test_at (at around label) (operand_type right) b w) (λ second x. Done (Word (truth second)) x))))
  value around (node (kind.Binary op) label (more left (more right none))) s =
      bind (left_operand (at around label) (operand_type left) (value around left s)) (λ a t.
      bind (value around right t) (λ b u.
      operate around (at around label) op (operand_type left) (operand_type right) a b u))
  value around (node kind.Choose label (more test (more first (more second none)))) s =
      bind (value around test s) (λ v t. bind (test_at (at around label) (operand_type test) v t) (λ holds u.
      if holds
      then bind (value around first u) (λ w x. chosen label.type w x)
      else bind (value around second u) (λ w x. chosen label.type w x)))
  value around (node (kind.Assign None) label (more left (more right none))) s =
      bind (address around left s) (λ p t. bind (value around right t) (λ v u.
      assign around (at around label) right (type_at left) p v u))
  value around (node (kind.Assign (Some op)) label (more left (more right none))) s =
      bind (address around left s) (λ p t. bind (value around right t) (λ v u.
      update around (at around label) (lvalue_place around left) op (type_at left) (operand_type right) p v u))
  value around (node (kind.Pre minus) label (more e none)) s =
      bind (address around e s) (λ p t.
      update around (at around label) (lvalue_place around e) (step_operator minus) (type_at e) Int p (Word 1) t)
  value around (node (kind.Post minus) label (more e none)) s =
      bind (address around e s) (λ p t.
      old_value around (at around label) (lvalue_place around e) (step_operator minus) (type_at e) p t)
  value around (node kind.Comma label (more left (more right none))) s =
      bind (value around left s) (λ v t. value around right t)
  value around (node kind.Call label (more function arguments)) s =
      bind (value around function s) (λ f t.
      bind (values around (at around label) (parameters_of (operand_type function)) arguments t) (λ vs u.
      call_through around (at around label) (pointed (operand_type function)) f vs u))
  value around (node k label parts) s = NoMeaning (at around label) s

  -- the arguments of a call, each as its parameter's type
  pub values : Surroundings → Place → TypeRow → TypedRow → State → Play (List Value)
  values around place types.none none s = Done [] s
  values around place types.none (more first others) s = NoMeaning place s
  values around place (types.more parameter parameters) none s = NoMeaning place s
  values around place (types.more parameter parameters) (more first others) s =
      bind (value around first s) (λ v t.
      bind (convert_at (conversion_of around first parameter) place parameter v t) (λ w u.
      bind (values around place parameters others u) (λ vs x. Done (w ∷ vs) x)))
