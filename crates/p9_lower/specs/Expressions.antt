-- The tree of an expression, and that of an lvalue's address. A kind of node that has no clause here is
-- no expression, and one without a clause of `place_tree` no lvalue: valid modules have none there.
use Rattle.std.specs.Prelude.{ℕ, Bool, true, false, List, if◌then◌else◌, Some, None}
use Rattle.p9_lang.specs.declared.tree.CBinary.TheVariants as operator
use Rattle.p9_lang.specs.declared.tree.CUnary.TheVariants as unary
use Rattle.p9_lang.specs.declared.tree.Kind.TheVariants as kind
use Rattle.p9_lang.specs.Types.{TypeTree, TypeRow, Tags, Meant, Nothing, Outer, Static, Auto, EnumValue, TypeName}
use Rattle.p9_lang.specs.Types as types
use Rattle.p9_lang.specs.Trees.{node, none, more}
use Rattle.p9_lang.specs.Layout.{size_of}
use Rattle.p9_lang.specs.Constants.{type_at}
use Rattle.p9_lang.specs.Modules.{Label, Typed, TypedRow}
use Rattle.p9_cmean.specs.Contents.{content_of}
use Rattle.p9_cmean.specs.Expressions.{operand_type, member_offset, parameters_of}
use Rattle.p9_tree.specs.declared.tree.UnOp.TheVariants as un
use Rattle.p9_tree.specs.Trees.{Tree, Const, Un, Choose, Both, Step, Seq, Call, Trees}
use Rattle.p9_tree.specs.Trees as trees
use Rattle.p9_lower.specs.Names.{Setting, name_tree, no_tree}
use Rattle.p9_lower.specs.Operators.{width_of, read_tree, inner_tree, binary_tree, passed_tree, cast_tree, assigned_tree, updated_tree, step_amount}

-- an enumeration constant is a number, and any other name is read
abbrev pub named_tree : Setting → Label → Tree
named_tree setting label = by label.means
  where
    by : Meant → Tree
    by (EnumValue n) = Const n
    by means = read_tree label.type (name_tree setting label.means)

-- the address of a member
abbrev pub member_tree : Tags → (e : Typed) → (arrow : Bool) → (name : List ℕ) → Tree → Tree
member_tree tags e arrow name tree = inner_tree (member_offset tags arrow (if arrow then operand_type e else type_at e) name) tree

abbrev mutual
  -- the address of an lvalue, or of a function
  pub place_tree : Setting → Typed → Tree
  place_tree setting (node (kind.Name x) label none) = name_tree setting label.means
  place_tree setting (node (kind.Text texts) label none) = name_tree setting label.means
  place_tree setting (node kind.Parens label (more e none)) = place_tree setting e
  place_tree setting (node (kind.Unary unary.Deref) label (more e none)) = value_tree setting e
  place_tree setting (node kind.Index label (more array (more index none))) =
      binary_tree setting.tags operator.Add (operand_type array) (operand_type index) (value_tree setting array) (value_tree setting index)
  place_tree setting (node (kind.Dot arrow name) label (more e none)) = member_tree setting.tags e arrow name (value_tree setting e)
  place_tree setting (node k label parts) = no_tree

  -- the value of an expression
  pub value_tree : Setting → Typed → Tree
  value_tree setting (node (kind.Number n unsigned long) label none) = Const n
  value_tree setting (node (kind.Character n) label none) = Const n
  value_tree setting (node (kind.Name x) label none) = named_tree setting label
  value_tree setting (node (kind.Text texts) label none) = read_tree label.type (name_tree setting label.means)
  value_tree setting (node kind.Parens label (more e none)) = value_tree setting e
  value_tree setting (node (kind.Unary unary.Address) label (more e none)) = place_tree setting e
  value_tree setting (node (kind.Unary unary.Deref) label (more e none)) = read_tree label.type (value_tree setting e)
  value_tree setting (node (kind.Unary unary.Plus) label (more e none)) = value_tree setting e
  value_tree setting (node (kind.Unary unary.Minus) label (more e none)) = Un un.Neg (value_tree setting e)
  value_tree setting (node (kind.Unary unary.Complement) label (more e none)) = Un un.Com (value_tree setting e)
  value_tree setting (node (kind.Unary unary.Not) label (more e none)) = Un un.Not (value_tree setting e)
  value_tree setting (node kind.SizeofValue label (more e none)) = Const (size_of setting.tags (type_at e))
  value_tree setting (node kind.SizeofType label (more type none)) = Const (size_of setting.tags (type_at type))
  value_tree setting (node kind.Cast label (more type (more e none))) = cast_tree (content_of label.type) label.type (value_tree setting e)
  value_tree setting (node kind.Index label (more array (more index none))) =
      read_tree label.type
      (binary_tree setting.tags operator.Add (operand_type array) (operand_type index) (value_tree setting array) (value_tree setting index))
  value_tree setting (node (kind.Dot arrow name) label (more e none)) =
      read_tree label.type (member_tree setting.tags e arrow name (value_tree setting e))
  value_tree setting (node (kind.Binary operator.AndAnd) label (more left (more right none))) =
      Both true (value_tree setting left) (value_tree setting right)
  value_tree setting (node (kind.Binary operator.OrOr) label (more left (more right none))) =
      Both false (value_tree setting left) (value_tree setting right)
  value_tree setting (node (kind.Binary op) label (more left (more right none))) =
      binary_tree setting.tags op (operand_type left) (operand_type right) (value_tree setting left) (value_tree setting right)
  value_tree setting (node kind.Choose label (more test (more first (more second none)))) =
      Choose (value_tree setting test) (value_tree setting first) (value_tree setting second)
  value_tree setting (node (kind.Assign None) label (more left (more right none))) =
      assigned_tree setting.tags right (type_at left) (place_tree setting left) (value_tree setting right)
  value_tree setting (node (kind.Assign (Some op)) label (more left (more right none))) =
      updated_tree setting.tags op (type_at left) (operand_type right) (place_tree setting left) (value_tree setting right)
  value_tree setting (node (kind.Pre minus) label (more e none)) =
      Step (width_of (type_at e)) true (step_amount setting.tags minus (type_at e)) (place_tree setting e)
  value_tree setting (node (kind.Post minus) label (more e none)) =
      Step (width_of (type_at e)) false (step_amount setting.tags minus (type_at e)) (place_tree setting e)
  value_tree setting (node kind.Comma label (more left (more right none))) = Seq (value_tree setting left) (value_tree setting right)
  value_tree setting (node kind.Call label (more function arguments)) =
      Call (value_tree setting function) (argument_trees setting (parameters_of (operand_type function)) arguments)
  value_tree setting (node k label parts) = no_tree

  -- the arguments of a call, each as its parameter's type; a valid call has as many as parameters
  pub argument_trees : Setting → TypeRow → TypedRow → Trees
  argument_trees setting types.none arguments = trees.none
  argument_trees setting (types.more parameter parameters) none = trees.none
  argument_trees setting (types.more parameter parameters) (more first others) =
      trees.more (passed_tree setting.tags first parameter (value_tree setting first)) (argument_trees setting parameters others)
