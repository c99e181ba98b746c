-- The code of an expression is brief.
use Rattle.std.proofs.Common.{ℕ, suc, ◌+◌, Bool, true, false, if◌then◌else◌, List, [], ◌∷◌, ◌++◌, length, Option, Some, None, refl}
use Rattle.p9_lang.specs.declared.tree.CBinary.{CBinary}
use Rattle.p9_lang.specs.declared.tree.CBinary.TheVariants as operator
use Rattle.p9_lang.specs.declared.tree.CUnary.TheVariants as unary
use Rattle.p9_lang.specs.declared.tree.Kind.TheVariants as kind
use Rattle.p9_lang.specs.Types.{TypeTree, Void, Array, Function, Tagged, TypeRow, Int, Meant, Outer, Static, Auto, EnumValue, TypeName}
use Rattle.p9_lang.specs.Types as types
use Rattle.p9_lang.specs.Trees.{node, none, more, count_of}
use Rattle.p9_lang.specs.Constants.{type_at}
use Rattle.p9_lang.specs.Conversions.{is_integer, is_pointer, is_structure, Conversion, Same, Null, Inner, No}
use Rattle.p9_lang.specs.Conversions as conversions
use Rattle.p9_lang.specs.Modules.{Label, Typed, TypedRow}
use Rattle.p9_cmean.specs.Cells.{Pointer, Into, ToFunction}
use Rattle.p9_cmean.specs.Contents.{Content, Integer, Reference, Aggregate, Nothing, content_of}
use Rattle.p9_cmean.specs.Expressions.{Surroundings, operand_type, outer_pointer, conversion_of, result_conversion, step_operator, member_offset, parameters_of, pointed, gives_integer}
use Rattle.p9_flat.specs.declared.op.Op.{Op}
use Rattle.p9_flat.specs.declared.op.Op.TheVariants as op
use Rattle.p9_flat.specs.declared.op.Scalar.TheVariants as scalar
use Rattle.p9_flat.specs.declared.op.Operation.{Operation}
use Rattle.p9_flat.specs.Resolved.{operation_of, tests, scalar_of}
use Rattle.p9_flat.specs.Code.{Numbers, Setting, slot_of, slot_code, named_function_code, pointer_code, meant_code, name_code, read_code, store_code, convert_code, assign_scalar_code, lvalue_node, assign_code, cast_code, operation_code, operate_code, used_left, left_code, inner_code, member_code, update_code, truth_code, not_code, chosen_code, answer_code, numbered_call_code, named_code, address_code, value_code, values_code}
use Rattle.p9_flat.proofs.Brief.{Brief, brief_seq, brief_none, plain, single, stopping, lacks_brief, lacks_of_brief, choice_brief}

module _ (code : List Op) (bound : ℕ) where
  slot_brief : (o : Option ℕ) (pc here : ℕ) → Brief code bound pc (slot_code o here)
  slot_brief None pc here = lacks_brief
  slot_brief (Some number) pc here = single refl refl

  function_brief : (o : Option ℕ) (pc : ℕ) → Brief code bound pc (named_function_code o)
  function_brief None pc = stopping refl refl
  function_brief (Some number) pc = single refl refl

  pointer_brief : (numbers : Numbers) (o : Option Pointer) (pc here : ℕ) → Brief code bound pc (pointer_code numbers o here)
  pointer_brief numbers None pc here = lacks_brief
  pointer_brief numbers (Some (Into object offset)) pc here = single refl refl
  pointer_brief numbers (Some (ToFunction f)) pc here = function_brief (numbers.function f) pc

  pub meant_brief : (setting : Setting) (type : TypeTree) (means : Meant) (pc here : ℕ) → Brief code bound pc (meant_code setting type means here)
  meant_brief setting type types.Nothing pc here = lacks_brief
  meant_brief setting type (Outer name) pc here = pointer_brief setting.numbers (outer_pointer setting.around type name) pc here
  meant_brief setting type (Static number) pc here = pointer_brief setting.numbers (setting.around.static number) pc here
  meant_brief setting type (Auto number) pc here = slot_brief (slot_of setting.scope number) pc here
  meant_brief setting type (EnumValue value) pc here = lacks_brief
  meant_brief setting type (TypeName other) pc here = lacks_brief

  read_brief : (type : TypeTree) (pc here : ℕ) → Brief code bound pc (read_code type here)
  read_brief Void pc here = lacks_brief
  read_brief (Array element n) pc here = brief_none
  read_brief (Function result parameters) pc here = brief_none
  read_brief (Tagged tag) pc here = brief_none
  read_brief type pc here = single refl refl

  store_brief : (type : TypeTree) (pc here : ℕ) → Brief code bound pc (store_code type here)
  store_brief Void pc here = lacks_brief
  store_brief (Array element n) pc here = lacks_brief
  store_brief (Function result parameters) pc here = lacks_brief
  store_brief (Tagged tag) pc here = lacks_brief
  store_brief type pc here = single refl refl

  pub convert_brief : (c : Conversion) (to : TypeTree) (pc here : ℕ) → Brief code bound pc (convert_code c to here)
  convert_brief Same to pc here = by (is_integer to)
    where
      by : (b : Bool) → Brief code bound pc (if b then op.Narrow (scalar_of to) here ∷ [] else op.Use ∷ [])
      by true = single refl refl
      by false = single refl refl
  convert_brief conversions.Integer to pc here = single refl refl
  convert_brief Null to pc here = single refl refl
  convert_brief (Inner offset) to pc here = single refl refl
  convert_brief conversions.Ambiguous to pc here = lacks_of_brief
  convert_brief No to pc here = lacks_of_brief

  scalar_brief : (c : Conversion) (type : TypeTree) (pc here : ℕ) → Brief code bound pc (assign_scalar_code c type here)
  scalar_brief c type pc here = brief_seq (convert_brief c type pc here) (store_brief type (pc + length (convert_code c type here)) here)

  pub assign_brief : (around : Surroundings) (e : Typed) (type : TypeTree) (pc here : ℕ) → Brief code bound pc (assign_code around here e type)
  assign_brief around e type pc here = by (is_structure type)
    where
      by : (b : Bool) → Brief code bound pc
          (if b then op.Copy (Rattle.p9_lang.specs.Layout.size_of around.tags type) (Rattle.p9_lang.specs.Layout.alignment_of around.tags type) (lvalue_node e) here ∷ []
          else assign_scalar_code (conversion_of around e type) type here)
      by true = single refl refl
      by false = scalar_brief (conversion_of around e type) type pc here

  cast_brief : (content : Content) (type : TypeTree) (pc here : ℕ) → Brief code bound pc (cast_code content type here)
  cast_brief Integer type pc here = single refl refl
  cast_brief Reference type pc here = single refl refl
  cast_brief Aggregate type pc here = lacks_brief
  cast_brief Nothing type pc here = single refl refl

  operation_brief : (o : Option Operation) (pc here : ℕ) → Brief code bound pc (operation_code o here)
  operation_brief None pc here = plain refl refl (plain refl refl (plain refl refl lacks_of_brief))
  operation_brief (Some done) pc here = single refl refl

  operate_brief : (around : Surroundings) (symbol : CBinary) (left right : TypeTree) (pc here : ℕ) → Brief code bound pc (operate_code around symbol left right here)
  operate_brief around symbol left right pc here = operation_brief (operation_of symbol around.tags left right) pc here

  left_brief : (type : TypeTree) (pc here : ℕ) → Brief code bound pc (used_left type here)
  left_brief type pc here = by (is_pointer type)
    where
      by : (b : Bool) → Brief code bound pc (if b then op.Use ∷ [] else op.Narrow scalar.Word here ∷ [])
      by true = single refl refl
      by false = single refl refl

  inner_brief : (o : Option ℕ) (pc here : ℕ) → Brief code bound pc (inner_code o here)
  inner_brief None pc here = lacks_of_brief
  inner_brief (Some offset) pc here = single refl refl

  member_brief : (around : Surroundings) (arrow : Bool) (e : Typed) (name : List ℕ) (pc here : ℕ) → Brief code bound pc (member_code around arrow e name here)
  member_brief around arrow e name pc here = inner_brief (member_offset around.tags arrow (if arrow then operand_type e else type_at e) name) pc here

  update_brief : (around : Surroundings) (read here : ℕ) (symbol : CBinary) (type right : TypeTree) (pc : ℕ) → Brief code bound pc (update_code around read here symbol type right)
  update_brief around read here symbol type right pc =
      brief_seq (read_brief type pc read) (plain refl refl (brief_seq (operate_brief around symbol type right _ here) (scalar_brief (result_conversion around type right) type _ here)))

  truth_brief : (o : Option Bool) (pc here : ℕ) → Brief code bound pc (truth_code o here)
  truth_brief None pc here = lacks_of_brief
  truth_brief (Some of_pointer) pc here = single refl refl

  not_brief : (o : Option Bool) (pc here : ℕ) → Brief code bound pc (not_code o here)
  not_brief None pc here = lacks_of_brief
  not_brief (Some of_pointer) pc here = single refl refl

  chosen_brief : (type : TypeTree) (pc : ℕ) → Brief code bound pc (chosen_code type)
  chosen_brief Void pc = brief_none
  chosen_brief type pc = single refl refl

  answer_brief : (b : Bool) (pc here : ℕ) → Brief code bound pc (answer_code b here)
  answer_brief false pc here = brief_none
  answer_brief true pc here = single refl refl

  call_brief : (o : Option ℕ) (b : Bool) (pc count here : ℕ) → Brief code bound pc (numbered_call_code o b count here)
  call_brief None b pc count here = stopping refl refl
  call_brief (Some number) b pc count here = plain refl refl (answer_brief b (suc pc) here)

  module _ (setting : Setting) where
    read_name_brief : (label : Label) (pc : ℕ) → Brief code bound pc (name_code setting label ++ read_code label.type label.number)
    read_name_brief label pc = brief_seq (meant_brief setting label.type label.means pc label.number) (read_brief label.type _ label.number)

    named_by : (number token : ℕ) (type : TypeTree) (means : Meant) (pc : ℕ)
        → Brief code bound pc (named_code setting (record { number = number; token = token; type = type; means = means }))
    named_by number token type (EnumValue n) pc = single refl refl
    named_by number token type means pc = read_name_brief (record { number = number; token = token; type = type; means = means }) pc

    left_code_brief : (first : List Op) (type : TypeTree) (pc here : ℕ) → Brief code bound pc first → Brief code bound pc (left_code first type here)
    left_code_brief first type pc here one = brief_seq one (left_brief type (pc + length first) here)

    mutual
      pub address_brief : (e : Typed) (pc : ℕ) → Brief code bound pc (address_code setting pc e)
      address_brief (node (kind.Name x) label none) pc = meant_brief setting label.type label.means pc label.number
      address_brief (node (kind.Text texts) label none) pc = meant_brief setting label.type label.means pc label.number
      address_brief (node kind.Parens label (more e none)) pc = address_brief e pc
      address_brief (node (kind.Unary unary.Deref) label (more e none)) pc = brief_seq (value_brief e pc) (single refl refl)
      address_brief (node kind.Index label (more array (more index none))) pc =
          brief_seq (left_code_brief (value_code setting pc array) (operand_type array) pc label.number (value_brief array pc))
          (brief_seq (value_brief index _) (operate_brief setting.around operator.Add (operand_type array) (operand_type index) _ label.number))
      address_brief (node (kind.Dot arrow name) label (more e none)) pc = brief_seq (value_brief e pc) (member_brief setting.around arrow e name _ label.number)
      address_brief (node k label parts) pc = lacks_brief

      pub value_brief : (e : Typed) (pc : ℕ) → Brief code bound pc (value_code setting pc e)
      value_brief (node (kind.Number n unsigned long) label none) pc = single refl refl
      value_brief (node (kind.Character n) label none) pc = single refl refl
      value_brief (node (kind.Name x) label none) pc = named_by label.number label.token label.type label.means pc
      value_brief (node (kind.Text texts) label none) pc = read_name_brief label pc
      value_brief (node kind.Parens label (more e none)) pc = value_brief e pc
      value_brief (node (kind.Unary unary.Address) label (more e none)) pc = address_brief e pc
      value_brief (node (kind.Unary unary.Deref) label (more e none)) pc = brief_seq (value_brief e pc) (plain refl refl (read_brief label.type _ label.number))
      value_brief (node (kind.Unary unary.Plus) label (more e none)) pc = brief_seq (value_brief e pc) (single refl refl)
      value_brief (node (kind.Unary unary.Minus) label (more e none)) pc = brief_seq (value_brief e pc) (single refl refl)
      value_brief (node (kind.Unary unary.Complement) label (more e none)) pc = brief_seq (value_brief e pc) (single refl refl)
      value_brief (node (kind.Unary unary.Not) label (more e none)) pc = brief_seq (value_brief e pc) (not_brief (tests (operand_type e)) _ label.number)
      value_brief (node kind.SizeofValue label (more e none)) pc = single refl refl
      value_brief (node kind.SizeofType label (more type none)) pc = single refl refl
      value_brief (node kind.Cast label (more type (more e none))) pc = brief_seq (value_brief e pc) (cast_brief (content_of label.type) label.type _ label.number)
      value_brief (node kind.Index label (more array (more index none))) pc =
          brief_seq (left_code_brief (value_code setting pc array) (operand_type array) pc label.number (value_brief array pc))
          (brief_seq (value_brief index _) (brief_seq (operate_brief setting.around operator.Add (operand_type array) (operand_type index) _ label.number)
          (read_brief label.type _ label.number)))
      value_brief (node (kind.Dot arrow name) label (more e none)) pc =
          brief_seq (value_brief e pc) (brief_seq (member_brief setting.around arrow e name _ label.number) (read_brief label.type _ label.number))
      value_brief (node (kind.Binary operator.AndAnd) label (more left (more right none))) pc =
          brief_seq (value_brief left pc) (choice_brief code bound (tests (operand_type left)) _ label.number
          (λ n. value_code setting n right ++ truth_code (tests (operand_type right)) label.number) (λ n. op.Number 0 ∷ [])
          (λ n. brief_seq (value_brief right n) (truth_brief (tests (operand_type right)) _ label.number)) (λ n. single refl refl))
      value_brief (node (kind.Binary operator.OrOr) label (more left (more right none))) pc =
          brief_seq (value_brief left pc) (choice_brief code bound (tests (operand_type left)) _ label.number
          (λ n. op.Number 1 ∷ []) (λ n. value_code setting n right ++ truth_code (tests (operand_type right)) label.number)
          (λ n. single refl refl) (λ n. brief_seq (value_brief right n) (truth_brief (tests (operand_type right)) _ label.number)))
      value_brief (node (kind.Binary symbol) label (more left (more right none))) pc =
          brief_seq (left_code_brief (value_code setting pc left) (operand_type left) pc label.number (value_brief left pc))
          (brief_seq (value_brief right _) (operate_brief setting.around symbol (operand_type left) (operand_type right) _ label.number))
      value_brief (node kind.Choose label (more which (more first (more second none)))) pc =
          brief_seq (value_brief which pc) (choice_brief code bound (tests (operand_type which)) _ label.number
          (λ n. value_code setting n first ++ chosen_code label.type) (λ n. value_code setting n second ++ chosen_code label.type)
          (λ n. brief_seq (value_brief first n) (chosen_brief label.type _)) (λ n. brief_seq (value_brief second n) (chosen_brief label.type _)))
      value_brief (node (kind.Assign None) label (more left (more right none))) pc =
          brief_seq (address_brief left pc) (brief_seq (value_brief right _) (assign_brief setting.around right (type_at left) _ label.number))
      value_brief (node (kind.Assign (Some symbol)) label (more left (more right none))) pc =
          brief_seq (address_brief left pc) (brief_seq (value_brief right _) (plain refl refl
          (update_brief setting.around (lvalue_node left) label.number symbol (type_at left) (operand_type right) _)))
      value_brief (node (kind.Pre minus) label (more e none)) pc =
          brief_seq (address_brief e pc) (plain refl refl (plain refl refl
          (update_brief setting.around (lvalue_node e) label.number (step_operator minus) (type_at e) Int _)))
      value_brief (node (kind.Post minus) label (more e none)) pc =
          brief_seq (address_brief e pc) (plain refl refl (brief_seq (read_brief (type_at e) _ (lvalue_node e)) (plain refl refl (plain refl refl
          (brief_seq (operate_brief setting.around (step_operator minus) (type_at e) Int _ label.number)
          (brief_seq (scalar_brief (result_conversion setting.around (type_at e) Int) (type_at e) _ label.number) (single refl refl)))))))
      value_brief (node kind.Comma label (more left (more right none))) pc = brief_seq (value_brief left pc) (plain refl refl (value_brief right _))
      value_brief (node kind.Call label (more function arguments)) pc =
          brief_seq (value_brief function pc) (brief_seq (arguments_brief label.number (parameters_of (operand_type function)) arguments _)
          (call_brief (setting.numbers.call_type (pointed (operand_type function))) (gives_integer (pointed (operand_type function))) _ (count_of arguments) label.number))
      value_brief (node k label parts) pc = lacks_brief

      arguments_brief : (here : ℕ) (parameters : TypeRow) (arguments : TypedRow) (pc : ℕ) → Brief code bound pc (values_code setting here pc parameters arguments)
      arguments_brief here types.none none pc = brief_none
      arguments_brief here types.none (more first others) pc = lacks_brief
      arguments_brief here (types.more parameter parameters) none pc = lacks_brief
      arguments_brief here (types.more parameter parameters) (more first others) pc =
          brief_seq (brief_seq (value_brief first pc) (convert_brief (conversion_of setting.around first parameter) parameter _ here))
          (arguments_brief here parameters others _)
