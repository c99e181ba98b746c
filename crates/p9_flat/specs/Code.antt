-- The code of expressions. Each piece is given the place in the code where it begins.
use Rattle.std.specs.Prelude.{ℕ, suc, ◌+◌, ◌==◌, Bool, true, false, if◌then◌else◌, List, [], ◌∷◌, ◌++◌, length, Option, Some, None}
use Rattle.p9_lang.specs.declared.tree.CBinary.{CBinary}
use Rattle.p9_lang.specs.declared.tree.CBinary.TheVariants as operator
use Rattle.p9_lang.specs.declared.tree.CUnary.TheVariants as unary
use Rattle.p9_lang.specs.declared.tree.Kind.TheVariants as kind
use Rattle.p9_lang.specs.Types.{TypeTree, Void, Int, TypeRow, Tags, Meant, Outer, Static, Auto, EnumValue, TypeName}
use Rattle.p9_lang.specs.Types as types
use Rattle.p9_lang.specs.Trees.{node, none, more, count_of}
use Rattle.p9_lang.specs.Layout.{size_of, alignment_of}
use Rattle.p9_lang.specs.Modules.{Label, Typed, TypedRow}
use Rattle.p9_lang.specs.Conversions.{is_integer, is_pointer, is_structure, Conversion, Same, Null, Inner, No}
use Rattle.p9_lang.specs.Conversions as conversions
use Rattle.p9_lang.specs.Constants.{type_at}
use Rattle.p9_cmean.specs.Cells.{FunctionName, Pointer, Into, ToFunction}
use Rattle.p9_cmean.specs.Contents.{Content, Integer, Reference, Aggregate, Nothing, content_of}
use Rattle.p9_cmean.specs.Expressions.{Surroundings, operand_type, outer_pointer, conversion_of, result_conversion, step_operator, member_offset, parameters_of, pointed, gives_integer}
use Rattle.p9_flat.specs.declared.op.Op.{Op}
use Rattle.p9_flat.specs.declared.op.Op.TheVariants as op
use Rattle.p9_flat.specs.declared.op.Scalar.TheVariants as scalar
use Rattle.p9_flat.specs.declared.op.Operation.{Operation}
use Rattle.p9_flat.specs.Resolved.{scalar_of, operation_of, tests}

-- The numbers of functions, and of the types by which functions are called. Where one has no number, the code
-- says so, and does nothing that is known.
pub record Numbers : Type 0 where
  pub function : FunctionName → Option ℕ
  pub call_type : TypeTree → Option ℕ

-- an automatic in scope, by its number in the function, with its number among those that are alive
pub record Slot : Type 0 where
  pub automatic : ℕ
  pub number : ℕ

-- What stands round a piece of code: the surroundings, in which automatics play no part; the automatics in
-- scope, the innermost block's first; and how many are alive.
pub record Setting : Type 0 where
  pub around : Surroundings
  pub numbers : Numbers
  pub scope : List Slot
  pub alive : ℕ

-- one piece, and the next one behind it
abbrev pub behind : (pc : ℕ) → List Op → (ℕ → List Op) → List Op
behind pc first next = first ++ next (pc + length first)

-- what isn't there in valid modules
abbrev pub lacks : (here : ℕ) → List Op
lacks here = op.NoMeaning here ∷ []

-- so behind the use of the last value
abbrev pub lacks_of : (here : ℕ) → List Op
lacks_of here = op.Use ∷ op.NoMeaning here ∷ []

-- NAMES

abbrev pub slot_of : List Slot → (automatic : ℕ) → Option ℕ
slot_of [] automatic = None
slot_of (c ∷ cs) automatic = if c.automatic == automatic then Some c.number else slot_of cs automatic

abbrev pub slot_code : Option ℕ → (here : ℕ) → List Op
slot_code None here = lacks here
slot_code (Some number) here = op.Automatic number ∷ []

abbrev pub named_function_code : Option ℕ → List Op
named_function_code None = op.Unnumbered ∷ []
named_function_code (Some number) = op.Function number ∷ []

abbrev pub pointer_code : Numbers → Option Pointer → (here : ℕ) → List Op
pointer_code numbers None here = lacks here
pointer_code numbers (Some (Into object offset)) here = op.Object object offset ∷ []
pointer_code numbers (Some (ToFunction function)) here = named_function_code (numbers.function function)

abbrev pub meant_code : Setting → TypeTree → Meant → (here : ℕ) → List Op
meant_code setting type types.Nothing here = lacks here
meant_code setting type (Outer name) here = pointer_code setting.numbers (outer_pointer setting.around type name) here
meant_code setting type (Static number) here = pointer_code setting.numbers (setting.around.static number) here
meant_code setting type (Auto number) here = slot_code (slot_of setting.scope number) here
meant_code setting type (EnumValue value) here = lacks here
meant_code setting type (TypeName other) here = lacks here

abbrev pub name_code : Setting → Label → List Op
name_code setting label = meant_code setting label.type label.means label.number

-- READING, WRITING AND CONVERSION

abbrev pub read_code : TypeTree → (here : ℕ) → List Op
read_code type here = by (content_of type)
  where
    by : Content → List Op
    by Integer = op.Load (scalar_of type) here ∷ []
    by Reference = op.Load (scalar_of type) here ∷ []
    by Aggregate = []
    by Nothing = lacks here

abbrev pub store_code : TypeTree → (here : ℕ) → List Op
store_code type here = by (content_of type)
  where
    by : Content → List Op
    by Integer = op.Store (scalar_of type) here ∷ []
    by Reference = op.Store (scalar_of type) here ∷ []
    by Aggregate = lacks here
    by Nothing = lacks here

abbrev pub convert_code : Conversion → (to : TypeTree) → (here : ℕ) → List Op
convert_code Same to here = if is_integer to then op.Narrow (scalar_of to) here ∷ [] else op.Use ∷ []
convert_code conversions.Integer to here = op.Narrow (scalar_of to) here ∷ []
convert_code Null to here = op.Null ∷ []
convert_code (Inner offset) to here = op.Inner offset here ∷ []
convert_code conversions.Ambiguous to here = lacks_of here
convert_code No to here = lacks_of here

abbrev pub assign_scalar_code : Conversion → TypeTree → (here : ℕ) → List Op
assign_scalar_code converts type here = convert_code converts type here ++ store_code type here

abbrev pub lvalue_node : Typed → ℕ
lvalue_node (node kind.Parens label (more e none)) = lvalue_node e
lvalue_node (node kind.Comma label (more left (more right none))) = lvalue_node right
lvalue_node (node k label parts) = label.number

abbrev pub assign_code : Surroundings → (here : ℕ) → Typed → TypeTree → List Op
assign_code around here e type =
    if is_structure type
    then op.Copy (size_of around.tags type) (alignment_of around.tags type) (lvalue_node e) here ∷ []
    else assign_scalar_code (conversion_of around e type) type here

abbrev pub cast_code : Content → TypeTree → (here : ℕ) → List Op
cast_code Integer type here = op.Narrow (scalar_of type) here ∷ []
cast_code Reference type here = op.Use ∷ []
cast_code Aggregate type here = lacks here
cast_code Nothing type here = op.Void here ∷ []

-- OPERATORS

abbrev pub operation_code : Option Operation → (here : ℕ) → List Op
operation_code None here = op.Swap ∷ op.Use ∷ op.Swap ∷ lacks_of here
operation_code (Some done) here = op.Operate done here ∷ []

-- the left operand is used before the right one is evaluated
abbrev pub used_left : TypeTree → (here : ℕ) → List Op
used_left type here = if is_pointer type then op.Use ∷ [] else op.Narrow scalar.Word here ∷ []

abbrev pub left_code : List Op → TypeTree → (here : ℕ) → List Op
left_code first type here = first ++ used_left type here

abbrev pub operate_code : Surroundings → CBinary → (left right : TypeTree) → (here : ℕ) → List Op
operate_code around symbol left right here = operation_code (operation_of symbol around.tags left right) here

abbrev pub inner_code : Option ℕ → (here : ℕ) → List Op
inner_code None here = lacks_of here
inner_code (Some offset) here = op.Inner offset here ∷ []

abbrev pub member_code : Surroundings → (arrow : Bool) → (e : Typed) → (name : List ℕ) → (here : ℕ) → List Op
member_code around arrow e name here =
    inner_code (member_offset around.tags arrow (if arrow then operand_type e else type_at e) name) here

-- above the address is the right operand; below it is put what is read
abbrev pub update_code : Surroundings → (read here : ℕ) → CBinary → (type right : TypeTree) → List Op
update_code around read here symbol type right =
    read_code type read ++ (op.Swap ∷ (operate_code around symbol type right here
    ++ assign_scalar_code (result_conversion around type right) type here))

-- TESTS

abbrev pub truth_code : Option Bool → (here : ℕ) → List Op
truth_code None here = lacks_of here
truth_code (Some of_pointer) here = op.Truth of_pointer here ∷ []

abbrev pub not_code : Option Bool → (here : ℕ) → List Op
not_code None here = lacks_of here
not_code (Some of_pointer) here = op.Not of_pointer here ∷ []

-- one of two pieces by a test of the last value
abbrev pub pieces : (of_pointer : Bool) → (here pc : ℕ) → List Op → (ℕ → List Op) → List Op
pieces of_pointer here pc first next =
    op.Branch of_pointer here (suc (suc (pc + length first)))
    ∷ (first ++ (op.Jump (suc (suc (pc + length first)) + length (next (suc (suc (pc + length first)))))
    ∷ next (suc (suc (pc + length first)))))

abbrev pub choice_code : Option Bool → (here pc : ℕ) → (ℕ → List Op) → (ℕ → List Op) → List Op
choice_code None here pc first second = lacks_of here
choice_code (Some of_pointer) here pc first second = pieces of_pointer here pc (first (suc pc)) second

abbrev pub chosen_code : TypeTree → List Op
chosen_code Void = []
chosen_code type = op.Use ∷ []

-- CALLS

abbrev pub answer_code : (gives_integer : Bool) → (here : ℕ) → List Op
answer_code false here = []
answer_code true here = op.Answer here ∷ []

abbrev pub numbered_call_code : Option ℕ → (an_integer : Bool) → (count here : ℕ) → List Op
numbered_call_code None an_integer count here = op.Unnumbered ∷ []
numbered_call_code (Some number) an_integer count here = op.Call count number here ∷ answer_code an_integer here

abbrev pub call_code : Setting → TypeTree → (count here : ℕ) → List Op
call_code setting type count here =
    numbered_call_code (setting.numbers.call_type type) (gives_integer type) count here

-- EXPRESSIONS

abbrev pub named_code : Setting → Label → List Op
named_code setting label = by label.means
  where
    by : Meant → List Op
    by (EnumValue n) = op.Number n ∷ []
    by means = name_code setting label ++ read_code label.type label.number

abbrev mutual
  -- pushes the address of an lvalue, or of a function
  pub address_code : Setting → (pc : ℕ) → Typed → List Op
  address_code setting pc (node (kind.Name x) label none) = name_code setting label
  address_code setting pc (node (kind.Text texts) label none) = name_code setting label
  address_code setting pc (node kind.Parens label (more e none)) = address_code setting pc e
  address_code setting pc (node (kind.Unary unary.Deref) label (more e none)) = value_code setting pc e ++ op.Use ∷ []
  address_code setting pc (node kind.Index label (more array (more index none))) =
      behind pc (left_code (value_code setting pc array) (operand_type array) label.number) (λ m. value_code setting m index
      ++ operate_code setting.around operator.Add (operand_type array) (operand_type index) label.number)
  address_code setting pc (node (kind.Dot arrow name) label (more e none)) =
      value_code setting pc e ++ member_code setting.around arrow e name label.number
  address_code setting pc (node k label parts) = lacks label.number

  -- pushes the value of an expression
  pub value_code : Setting → (pc : ℕ) → Typed → List Op
  value_code setting pc (node (kind.Number n unsigned long) label none) = op.Number n ∷ []
  value_code setting pc (node (kind.Character n) label none) = op.Number n ∷ []
  value_code setting pc (node (kind.Name x) label none) = named_code setting label
  value_code setting pc (node (kind.Text texts) label none) = name_code setting label ++ read_code label.type label.number
  value_code setting pc (node kind.Parens label (more e none)) = value_code setting pc e
  value_code setting pc (node (kind.Unary unary.Address) label (more e none)) = address_code setting pc e
  value_code setting pc (node (kind.Unary unary.Deref) label (more e none)) =
      value_code setting pc e ++ (op.Use ∷ read_code label.type label.number)
  value_code setting pc (node (kind.Unary unary.Plus) label (more e none)) =
      value_code setting pc e ++ op.Narrow scalar.Word label.number ∷ []
  value_code setting pc (node (kind.Unary unary.Minus) label (more e none)) =
      value_code setting pc e ++ op.Negate label.number ∷ []
  value_code setting pc (node (kind.Unary unary.Complement) label (more e none)) =
      value_code setting pc e ++ op.Complement label.number ∷ []
  value_code setting pc (node (kind.Unary unary.Not) label (more e none)) =
      value_code setting pc e ++ not_code (tests (operand_type e)) label.number
  value_code setting pc (node kind.SizeofValue label (more e none)) = op.Number (size_of setting.around.tags (type_at e)) ∷ []
  value_code setting pc (node kind.SizeofType label (more type none)) = op.Number (size_of setting.around.tags (type_at type)) ∷ []
  value_code setting pc (node kind.Cast label (more type (more e none))) =
      value_code setting pc e ++ cast_code (content_of label.type) label.type label.number
  value_code setting pc (node kind.Index label (more array (more index none))) =
      behind pc (left_code (value_code setting pc array) (operand_type array) label.number) (λ m. value_code setting m index
      ++ (operate_code setting.around operator.Add (operand_type array) (operand_type index) label.number
      ++ read_code label.type label.number))
  value_code setting pc (node (kind.Dot arrow name) label (more e none)) =
      value_code setting pc e ++ (member_code setting.around arrow e name label.number ++ read_code label.type label.number)
  value_code setting pc (node (kind.Binary operator.AndAnd) label (more left (more right none))) =
      behind pc (value_code setting pc left) (λ m. choice_code (tests (operand_type left)) label.number m
      (λ n. value_code setting n right ++ truth_code (tests (operand_type right)) label.number)
      (λ n. op.Number 0 ∷ []))
  value_code setting pc (node (kind.Binary operator.OrOr) label (more left (more right none))) =
      behind pc (value_code setting pc left) (λ m. choice_code (tests (operand_type left)) label.number m
      (λ n. op.Number 1 ∷ [])
      (λ n. value_code setting n right ++ truth_code (tests (operand_type right)) label.number))
  value_code setting pc (node (kind.Binary symbol) label (more left (more right none))) =
      behind pc (left_code (value_code setting pc left) (operand_type left) label.number) (λ m. value_code setting m right
      ++ operate_code setting.around symbol (operand_type left) (operand_type right) label.number)
  value_code setting pc (node kind.Choose label (more test (more first (more second none)))) =
      behind pc (value_code setting pc test) (λ m. choice_code (tests (operand_type test)) label.number m
      (λ n. value_code setting n first ++ chosen_code label.type)
      (λ n. value_code setting n second ++ chosen_code label.type))
  value_code setting pc (node (kind.Assign None) label (more left (more right none))) =
      behind pc (address_code setting pc left) (λ m. value_code setting m right
      ++ assign_code setting.around label.number right (type_at left))
  value_code setting pc (node (kind.Assign (Some symbol)) label (more left (more right none))) =
      behind pc (address_code setting pc left) (λ m. value_code setting m right
      ++ (op.Over ∷ update_code setting.around (lvalue_node left) label.number symbol (type_at left) (operand_type right)))
  value_code setting pc (node (kind.Pre minus) label (more e none)) =
      address_code setting pc e ++ (op.Number 1 ∷ op.Over
      ∷ update_code setting.around (lvalue_node e) label.number (step_operator minus) (type_at e) Int)
  value_code setting pc (node (kind.Post minus) label (more e none)) =
      address_code setting pc e ++ (op.Twice ∷ (read_code (type_at e) (lvalue_node e) ++ (op.Tuck ∷ op.Number 1
      ∷ (operate_code setting.around (step_operator minus) (type_at e) Int label.number
      ++ (assign_scalar_code (result_conversion setting.around (type_at e) Int) (type_at e) label.number ++ op.Pop ∷ [])))))
  value_code setting pc (node kind.Comma label (more left (more right none))) =
      behind pc (value_code setting pc left) (λ m. op.Pop ∷ value_code setting (suc m) right)
  value_code setting pc (node kind.Call label (more function arguments)) =
      behind pc (value_code setting pc function) (λ m.
      values_code setting label.number m (parameters_of (operand_type function)) arguments
      ++ call_code setting (pointed (operand_type function)) (count_of arguments) label.number)
  value_code setting pc (node k label parts) = lacks label.number

  -- pushes the arguments of a call
  pub values_code : Setting → (here pc : ℕ) → TypeRow → TypedRow → List Op
  values_code setting here pc types.none none = []
  values_code setting here pc types.none (more first others) = lacks here
  values_code setting here pc (types.more parameter parameters) none = lacks here
  values_code setting here pc (types.more parameter parameters) (more first others) =
      behind pc (value_code setting pc first ++ convert_code (conversion_of setting.around first parameter) parameter here) (λ m.
      values_code setting here m parameters others)
