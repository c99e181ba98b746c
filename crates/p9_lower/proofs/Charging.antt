-- The code of the trees of expressions: at most 64 words a node, less 40.
use Rattle.std.proofs.Common.{◌≤◌, ℕ, ◌+◌, ◌*◌, ◌==◌, Bool, true, false, if◌then◌else◌, Option, Some, None, arith, lit≤}
use Rattle.p9_lang.specs.declared.tree.CBinary.{CBinary}
use Rattle.p9_lang.specs.declared.tree.CBinary.TheVariants as operator
use Rattle.p9_lang.specs.declared.tree.CUnary.TheVariants as unary
use Rattle.p9_lang.specs.declared.tree.Kind.{Kind}
use Rattle.p9_lang.specs.declared.tree.Kind.TheVariants as kind
use Rattle.p9_lang.specs.Trees.{node, none, more}
use Rattle.p9_lang.specs.Types.{TypeTree, TypeRow, Pointer, Tags, Meant, Nothing, Outer, Static, EnumValue, TypeName}
use Rattle.p9_lang.specs.Types as types
use Rattle.p9_lang.specs.Layout.{size_of}
use Rattle.p9_lang.specs.Conversions.{is_structure, Conversion, Same, Integer, Null, Inner, Ambiguous, No}
use Rattle.p9_lang.specs.Constants.{type_at}
use Rattle.p9_lang.specs.Modules.{Typed, TypedRow}
use Rattle.p9_cmean.specs.Contents.{Content, content_of}
use Rattle.p9_cmean.specs.Contents as contents
use Rattle.p9_cmean.specs.Union.{weight_of, weighed_nodes, weighed_row}
use Rattle.p9_cmean.specs.Expressions.{operand_type, member_offset, parameters_of}
use Rattle.p9_tree.specs.declared.tree.Width.{Width}
use Rattle.p9_tree.specs.declared.tree.Width.TheVariants as width
use Rattle.p9_tree.specs.declared.tree.BinOp.TheVariants as bin
use Rattle.p9_tree.specs.Trees.{Tree, Const, Addr, Bin, Copy, Store}
use Rattle.p9_tree.specs.Charges.{charge, charge_row}
use Rattle.p9_lower.specs.Names.{Setting, name_tree, symbol_tree, outer_symbol, static_symbol}
use Rattle.p9_lower.specs.Operators.{width_of, narrowed_tree, content_tree, read_tree, moved_tree, scaled_tree, forward_tree, divided_tree, inner_tree, pointers_tree, pointer_integer_tree, integer_pointer_tree, binary_tree, conversion_to, stored_tree, converted_tree, passed_tree, cast_tree, assigned_tree, elements_tree, updated_tree}
use Rattle.p9_lower.specs.Expressions.{named_tree, place_tree, value_tree, argument_trees}

-- NUMBERS

itself : (n : ℕ) → n ≤ n
itself n = omega arith

same_bound : (n k : ℕ) → n ≤ k + n
same_bound n k = omega arith

-- OPERATORS, by their operands

symbol_charge : (o : Option ℕ) → charge (symbol_tree o) ≤ 3
symbol_charge None = lit≤ tt
symbol_charge (Some k) = lit≤ tt

pub name_charge : (setting : Setting) (means : Meant) → charge (name_tree setting means) ≤ 3
name_charge setting Nothing = lit≤ tt
name_charge setting (Outer x) = symbol_charge (outer_symbol setting.symbols x)
name_charge setting (Static n) = symbol_charge (static_symbol setting.symbols n)
name_charge setting (types.Auto n) = lit≤ tt
name_charge setting (EnumValue n) = lit≤ tt
name_charge setting (TypeName t) = lit≤ tt

content_charge : (c : Content) (w : Width) (t : Tree) → charge (content_tree c w t) ≤ 4 + charge t
content_charge contents.Integer w t = itself (4 + charge t)
content_charge contents.Reference w t = itself (4 + charge t)
content_charge contents.Aggregate w t = same_bound (charge t) 4
content_charge contents.Nothing w t = same_bound (charge t) 4

read_charge : (type : TypeTree) (t : Tree) → charge (read_tree type t) ≤ 4 + charge t
read_charge type t = content_charge (content_of type) (width_of type) t

narrowed_charge : (w : Width) (t : Tree) → charge (narrowed_tree w t) ≤ 2 + charge t
narrowed_charge width.S8 t = itself (2 + charge t)
narrowed_charge width.U8 t = itself (2 + charge t)
narrowed_charge width.S16 t = itself (2 + charge t)
narrowed_charge width.U16 t = itself (2 + charge t)
narrowed_charge width.W32 t = same_bound (charge t) 2

moved_charge : (a b : Tree) → charge (moved_tree a b) ≤ 11 + (charge a + charge b)
moved_charge (Addr k o) (Const n) = lit≤ tt
moved_charge a b = itself (11 + (charge a + charge b))

scaled_charge : (size : ℕ) (t : Tree) → charge (scaled_tree size t) ≤ 13 + charge t
scaled_charge size (Const n) = lit≤ tt
scaled_charge size t = omega arith

forward_by : (b : Bool) (size : ℕ) (t : Tree) → charge (if b then t else scaled_tree size t) ≤ 13 + charge t
forward_by true size t = same_bound (charge t) 13
forward_by false size t = scaled_charge size t

forward_charge : (size : ℕ) (t : Tree) → charge (forward_tree size t) ≤ 13 + charge t
forward_charge size t = forward_by (size == 1) size t

divided_by : (b : Bool) (size : ℕ) (t : Tree) → charge (if b then t else Bin bin.Div t (Const size)) ≤ 13 + charge t
divided_by true size t = same_bound (charge t) 13
divided_by false size t = omega arith

divided_charge : (size : ℕ) (t : Tree) → charge (divided_tree size t) ≤ 13 + charge t
divided_charge size t = divided_by (size == 1) size t

pub inner_charge : (o : Option ℕ) (t : Tree) → charge (inner_tree o t) ≤ 13 + charge t
inner_charge None t = same_bound (charge t) 13
inner_charge (Some n) t = let h : charge (moved_tree t (Const n)) ≤ 11 + (charge t + 2) = moved_charge t (Const n) in omega arith

-- a tree of two, whose second is at most 13 above
behind : (c d d' k : ℕ) → d' ≤ 13 + d → k ≤ 11 + (c + d') → k ≤ 24 + (c + d)
behind c d d' k h g = omega arith

plain_charge : (a b : ℕ) → 11 + (a + b) ≤ 24 + (a + b)
plain_charge a b = omega arith

pointers_charge : (op : CBinary) (size : ℕ) (a b : Tree) → charge (pointers_tree op size a b) ≤ 24 + (charge a + charge b)
pointers_charge operator.Sub size a b =
    let h : charge (divided_tree size (Bin bin.Sub a b)) ≤ 13 + (11 + (charge a + charge b)) = divided_charge size (Bin bin.Sub a b) in omega arith
pointers_charge op size a b = plain_charge (charge a) (charge b)

pointer_integer_charge : (op : CBinary) (size : ℕ) (a b : Tree) → charge (pointer_integer_tree op size a b) ≤ 24 + (charge a + charge b)
pointer_integer_charge operator.Add size a b =
    behind (charge a) (charge b) (charge (forward_tree size b)) (charge (moved_tree a (forward_tree size b))) (forward_charge size b) (moved_charge a (forward_tree size b))
pointer_integer_charge operator.Sub size a b =
    behind (charge a) (charge b) (charge (scaled_tree size b)) (11 + (charge a + charge (scaled_tree size b))) (scaled_charge size b) (itself (11 + (charge a + charge (scaled_tree size b))))
pointer_integer_charge op size a b = plain_charge (charge a) (charge b)

before : (c c' d : ℕ) → c' ≤ 13 + c → 11 + (c' + d) ≤ 24 + (c + d)
before c c' d h = omega arith

integer_pointer_charge : (op : CBinary) (size : ℕ) (a b : Tree) → charge (integer_pointer_tree op size a b) ≤ 24 + (charge a + charge b)
integer_pointer_charge operator.Add size a b = before (charge a) (charge (forward_tree size a)) (charge b) (forward_charge size a)
integer_pointer_charge op size a b = plain_charge (charge a) (charge b)

pub binary_charge : (tags : Tags) (op : CBinary) (left right : TypeTree) (a b : Tree) → charge (binary_tree tags op left right a b) ≤ 24 + (charge a + charge b)
binary_charge tags op (Pointer target) (Pointer other) a b = pointers_charge op (size_of tags target) a b
binary_charge tags op (Pointer target) right a b = pointer_integer_charge op (size_of tags target) a b
binary_charge tags op left (Pointer target) a b = integer_pointer_charge op (size_of tags target) a b
binary_charge tags op left right a b = plain_charge (charge a) (charge b)

stored_charge : (c : Conversion) (t : Tree) → charge (stored_tree c t) ≤ 13 + charge t
stored_charge Same t = same_bound (charge t) 13
stored_charge Integer t = same_bound (charge t) 13
stored_charge Null t = omega arith
stored_charge (Inner offset) t = inner_charge (Some offset) t
stored_charge Ambiguous t = same_bound (charge t) 13
stored_charge No t = same_bound (charge t) 13

narrowed_more : (w : Width) (t : Tree) → charge (narrowed_tree w t) ≤ 13 + charge t
narrowed_more w t = let h : charge (narrowed_tree w t) ≤ 2 + charge t = narrowed_charge w t in omega arith

converted_charge : (c : Conversion) (to : TypeTree) (t : Tree) → charge (converted_tree c to t) ≤ 13 + charge t
converted_charge Same to t = narrowed_more (width_of to) t
converted_charge Integer to t = narrowed_more (width_of to) t
converted_charge Null to t = omega arith
converted_charge (Inner offset) to t = inner_charge (Some offset) t
converted_charge Ambiguous to t = same_bound (charge t) 13
converted_charge No to t = same_bound (charge t) 13

pub passed_charge : (tags : Tags) (e : Typed) (to : TypeTree) (t : Tree) → charge (passed_tree tags e to t) ≤ 13 + charge t
passed_charge tags e to t = converted_charge (conversion_to tags e to) to t

cast_charge : (c : Content) (type : TypeTree) (t : Tree) → charge (cast_tree c type t) ≤ 13 + charge t
cast_charge contents.Integer type t = narrowed_more (width_of type) t
cast_charge contents.Reference type t = same_bound (charge t) 13
cast_charge contents.Aggregate type t = same_bound (charge t) 13
cast_charge contents.Nothing type t = same_bound (charge t) 13

assigned_by : (b : Bool) (size : ℕ) (w : Width) (c : Conversion) (to from : Tree) → charge (if b then Copy size to from else Store w to (stored_tree c from)) ≤ 33 + (charge to + charge from)
assigned_by true size w c to from = omega arith
assigned_by false size w c to from = let h : charge (stored_tree c from) ≤ 13 + charge from = stored_charge c from in omega arith

pub assigned_charge : (tags : Tags) (e : Typed) (type : TypeTree) (to from : Tree) → charge (assigned_tree tags e type to from) ≤ 33 + (charge to + charge from)
assigned_charge tags e type to from = assigned_by (is_structure type) (size_of tags type) (width_of type) (conversion_to tags e type) to from

elements_charge : (op : CBinary) (size : ℕ) (t : Tree) → charge (elements_tree op size t) ≤ 13 + charge t
elements_charge operator.Add size t = forward_charge size t
elements_charge op size t = scaled_charge size t

update_more : (a b b' : ℕ) → b' ≤ 13 + b → 20 + (a + b') ≤ 33 + (a + b)
update_more a b b' h = omega arith

pub updated_charge : (tags : Tags) (op : CBinary) (type right : TypeTree) (to from : Tree) → charge (updated_tree tags op type right to from) ≤ 33 + (charge to + charge from)
updated_charge tags op (Pointer target) right to from =
    update_more (charge to) (charge from) (charge (elements_tree op (size_of tags target) from)) (elements_charge op (size_of tags target) from)
updated_charge tags op type right to from = update_more (charge to) (charge from) (charge from) (same_bound (charge from) 13)

-- EXPRESSIONS

pub weight_is : (k : Kind) → 1 ≤ weight_of k
weight_is kind.Call = lit≤ tt
weight_is k = lit≤ tt

leaf : (c w n : ℕ) → c ≤ 7 → 1 ≤ n → c + 40 ≤ 64 * (w + n)
leaf c w n h g = omega arith

one : (c c' w : ℕ) → c' ≤ 40 + c → c + 40 ≤ 64 * w → c' + 40 ≤ 64 * (w + 0 + 1)
one c c' w h g = omega arith

behind_one : (c c' v w : ℕ) → c' ≤ 40 + c → c + 40 ≤ 64 * w → c' + 40 ≤ 64 * (v + (w + 0) + 1)
behind_one c c' v w h g = omega arith

two : (a b c v w : ℕ) → c ≤ 40 + (a + b) → a + 40 ≤ 64 * v → b + 40 ≤ 64 * w → c + 40 ≤ 64 * (v + (w + 0) + 1)
two a b c v w h f g = omega arith

three : (a b c d u v w : ℕ) → d ≤ 40 + (a + (b + c)) → a + 40 ≤ 64 * u → b + 40 ≤ 64 * v → c + 40 ≤ 64 * w → d + 40 ≤ 64 * (u + (v + (w + 0)) + 1)
three a b c d u v w h e f g = omega arith

called : (f a v w : ℕ) → f + 40 ≤ 64 * v → a ≤ 64 * w → 93 + (f + a) + 40 ≤ 64 * (v + w + 2)
called f a v w h g = omega arith

argument : (a a' r v w : ℕ) → a' ≤ 13 + a → a + 40 ≤ 64 * v → r ≤ 64 * w → 10 + (a' + r) ≤ 64 * (v + w)
argument a a' r v w h f g = omega arith

some_more : (c c' k n : ℕ) → c' ≤ k + c → k ≤ n → c' ≤ n + c
some_more c c' k n h g = omega arith

more_two : (a b c k n : ℕ) → c ≤ k + (a + b) → k ≤ n → c ≤ n + (a + b)
more_two a b c k n h g = omega arith

none_more : (w : ℕ) → 0 ≤ w
none_more w = omega arith

named_by : (setting : Setting) (number token : ℕ) (type : TypeTree) (means : Meant)
    → charge (named_tree setting (record { number = number; token = token; type = type; means = means })) ≤ 7
named_by setting number token type (EnumValue n) = lit≤ tt
named_by setting number token type means =
    let h : charge (read_tree type (name_tree setting means)) ≤ 4 + charge (name_tree setting means) = read_charge type (name_tree setting means) in
    let g : charge (name_tree setting means) ≤ 3 = name_charge setting means in
    omega arith

read_name : (setting : Setting) (type : TypeTree) (means : Meant) → charge (read_tree type (name_tree setting means)) ≤ 7
read_name setting type means =
    let h : charge (read_tree type (name_tree setting means)) ≤ 4 + charge (name_tree setting means) = read_charge type (name_tree setting means) in
    let g : charge (name_tree setting means) ≤ 3 = name_charge setting means in
    omega arith

read_two : (type : TypeTree) (t : Tree) (a b : ℕ) → charge t ≤ 24 + (a + b) → charge (read_tree type t) ≤ 40 + (a + b)
read_two type t a b h = let g : charge (read_tree type t) ≤ 4 + charge t = read_charge type t in omega arith

read_one : (type : TypeTree) (t : Tree) (a : ℕ) → charge t ≤ 13 + a → charge (read_tree type t) ≤ 40 + a
read_one type t a h = let g : charge (read_tree type t) ≤ 4 + charge t = read_charge type t in omega arith

module _ (setting : Setting) where
  mutual
    pub place_charge : (e : Typed) → charge (place_tree setting e) + 40 ≤ 64 * weighed_nodes e
    place_charge (node (kind.Name x) label none) = leaf (charge (name_tree setting label.means)) 0 1 (some_more 0 _ 3 7 (name_charge setting label.means) (lit≤ tt)) (lit≤ tt)
    place_charge (node (kind.Text texts) label none) = leaf (charge (name_tree setting label.means)) 0 1 (some_more 0 _ 3 7 (name_charge setting label.means) (lit≤ tt)) (lit≤ tt)
    place_charge (node kind.Parens label (more e none)) = one (charge (place_tree setting e)) (charge (place_tree setting e)) (weighed_nodes e) (same_bound _ 40) (place_charge e)
    place_charge (node (kind.Unary unary.Deref) label (more e none)) = one (charge (value_tree setting e)) (charge (value_tree setting e)) (weighed_nodes e) (same_bound _ 40) (value_charge e)
    place_charge (node kind.Index label (more array (more index none))) =
        two (charge (value_tree setting array)) (charge (value_tree setting index)) _ (weighed_nodes array) (weighed_nodes index)
        (more_two (charge (value_tree setting array)) (charge (value_tree setting index)) _ 24 40
        (binary_charge setting.tags operator.Add (operand_type array) (operand_type index) (value_tree setting array) (value_tree setting index)) (lit≤ tt))
        (value_charge array) (value_charge index)
    place_charge (node (kind.Dot arrow name) label (more e none)) =
        one (charge (value_tree setting e)) _ (weighed_nodes e)
        (some_more (charge (value_tree setting e)) _ 13 40 (inner_charge (member_offset setting.tags arrow (if arrow then operand_type e else type_at e) name) (value_tree setting e)) (lit≤ tt))
        (value_charge e)
    place_charge (node k label parts) = leaf 2 (weighed_row parts) (weight_of k) (lit≤ tt) (weight_is k)

    pub value_charge : (e : Typed) → charge (value_tree setting e) + 40 ≤ 64 * weighed_nodes e
    value_charge (node (kind.Number n unsigned long) label none) = lit≤ tt
    value_charge (node (kind.Character n) label none) = lit≤ tt
    value_charge (node (kind.Name x) label none) = leaf (charge (named_tree setting label)) 0 1 (named_by setting label.number label.token label.type label.means) (lit≤ tt)
    value_charge (node (kind.Text texts) label none) = leaf (charge (read_tree label.type (name_tree setting label.means))) 0 1 (read_name setting label.type label.means) (lit≤ tt)
    value_charge (node kind.Parens label (more e none)) = one (charge (value_tree setting e)) (charge (value_tree setting e)) (weighed_nodes e) (same_bound _ 40) (value_charge e)
    value_charge (node (kind.Unary unary.Address) label (more e none)) = one (charge (place_tree setting e)) (charge (place_tree setting e)) (weighed_nodes e) (same_bound _ 40) (place_charge e)
    value_charge (node (kind.Unary unary.Deref) label (more e none)) =
        one (charge (value_tree setting e)) _ (weighed_nodes e) (some_more (charge (value_tree setting e)) _ 4 40 (read_charge label.type (value_tree setting e)) (lit≤ tt)) (value_charge e)
    value_charge (node (kind.Unary unary.Plus) label (more e none)) = one (charge (value_tree setting e)) (charge (value_tree setting e)) (weighed_nodes e) (same_bound _ 40) (value_charge e)
    value_charge (node (kind.Unary unary.Minus) label (more e none)) = one (charge (value_tree setting e)) (6 + charge (value_tree setting e)) (weighed_nodes e) (omega arith) (value_charge e)
    value_charge (node (kind.Unary unary.Complement) label (more e none)) = one (charge (value_tree setting e)) (6 + charge (value_tree setting e)) (weighed_nodes e) (omega arith) (value_charge e)
    value_charge (node (kind.Unary unary.Not) label (more e none)) = one (charge (value_tree setting e)) (6 + charge (value_tree setting e)) (weighed_nodes e) (omega arith) (value_charge e)
    value_charge (node kind.SizeofValue label (more e none)) = leaf 2 (weighed_nodes e + 0) 1 (lit≤ tt) (lit≤ tt)
    value_charge (node kind.SizeofType label (more type none)) = leaf 2 (weighed_nodes type + 0) 1 (lit≤ tt) (lit≤ tt)
    value_charge (node kind.Cast label (more type (more e none))) =
        behind_one (charge (value_tree setting e)) _ (weighed_nodes type) (weighed_nodes e)
        (some_more (charge (value_tree setting e)) _ 13 40 (cast_charge (content_of label.type) label.type (value_tree setting e)) (lit≤ tt)) (value_charge e)
    value_charge (node kind.Index label (more array (more index none))) =
        two (charge (value_tree setting array)) (charge (value_tree setting index)) _ (weighed_nodes array) (weighed_nodes index)
        (read_two label.type (binary_tree setting.tags operator.Add (operand_type array) (operand_type index) (value_tree setting array) (value_tree setting index)) _ _
        (binary_charge setting.tags operator.Add (operand_type array) (operand_type index) (value_tree setting array) (value_tree setting index)))
        (value_charge array) (value_charge index)
    value_charge (node (kind.Dot arrow name) label (more e none)) =
        one (charge (value_tree setting e)) _ (weighed_nodes e)
        (read_one label.type (inner_tree (member_offset setting.tags arrow (if arrow then operand_type e else type_at e) name) (value_tree setting e)) _
        (inner_charge (member_offset setting.tags arrow (if arrow then operand_type e else type_at e) name) (value_tree setting e)))
        (value_charge e)
    value_charge (node (kind.Binary operator.AndAnd) label (more left (more right none))) =
        two (charge (value_tree setting left)) (charge (value_tree setting right)) (11 + (charge (value_tree setting left) + charge (value_tree setting right))) (weighed_nodes left) (weighed_nodes right) (omega arith) (value_charge left) (value_charge right)
    value_charge (node (kind.Binary operator.OrOr) label (more left (more right none))) =
        two (charge (value_tree setting left)) (charge (value_tree setting right)) (11 + (charge (value_tree setting left) + charge (value_tree setting right))) (weighed_nodes left) (weighed_nodes right) (omega arith) (value_charge left) (value_charge right)
    value_charge (node (kind.Binary op) label (more left (more right none))) =
        two (charge (value_tree setting left)) (charge (value_tree setting right)) _ (weighed_nodes left) (weighed_nodes right)
        (more_two (charge (value_tree setting left)) (charge (value_tree setting right)) _ 24 40
        (binary_charge setting.tags op (operand_type left) (operand_type right) (value_tree setting left) (value_tree setting right)) (lit≤ tt))
        (value_charge left) (value_charge right)
    value_charge (node kind.Choose label (more test (more first (more second none)))) =
        three (charge (value_tree setting test)) (charge (value_tree setting first)) (charge (value_tree setting second)) (6 + (charge (value_tree setting test) + (charge (value_tree setting first) + charge (value_tree setting second))))
        (weighed_nodes test) (weighed_nodes first) (weighed_nodes second) (omega arith) (value_charge test) (value_charge first) (value_charge second)
    value_charge (node (kind.Assign None) label (more left (more right none))) =
        two (charge (place_tree setting left)) (charge (value_tree setting right)) _ (weighed_nodes left) (weighed_nodes right)
        (more_two (charge (place_tree setting left)) (charge (value_tree setting right)) _ 33 40
        (assigned_charge setting.tags right (type_at left) (place_tree setting left) (value_tree setting right)) (lit≤ tt))
        (place_charge left) (value_charge right)
    value_charge (node (kind.Assign (Some op)) label (more left (more right none))) =
        two (charge (place_tree setting left)) (charge (value_tree setting right)) _ (weighed_nodes left) (weighed_nodes right)
        (more_two (charge (place_tree setting left)) (charge (value_tree setting right)) _ 33 40
        (updated_charge setting.tags op (type_at left) (operand_type right) (place_tree setting left) (value_tree setting right)) (lit≤ tt))
        (place_charge left) (value_charge right)
    value_charge (node (kind.Pre minus) label (more e none)) = one (charge (place_tree setting e)) (14 + charge (place_tree setting e)) (weighed_nodes e) (omega arith) (place_charge e)
    value_charge (node (kind.Post minus) label (more e none)) = one (charge (place_tree setting e)) (14 + charge (place_tree setting e)) (weighed_nodes e) (omega arith) (place_charge e)
    value_charge (node kind.Comma label (more left (more right none))) =
        two (charge (value_tree setting left)) (charge (value_tree setting right)) (charge (value_tree setting left) + charge (value_tree setting right)) (weighed_nodes left) (weighed_nodes right)
        (same_bound _ 40) (value_charge left) (value_charge right)
    value_charge (node kind.Call label (more function arguments)) =
        called (charge (value_tree setting function)) (charge_row (argument_trees setting (parameters_of (operand_type function)) arguments)) (weighed_nodes function) (weighed_row arguments)
        (value_charge function) (arguments_charge (parameters_of (operand_type function)) arguments)
    value_charge (node k label parts) = leaf 2 (weighed_row parts) (weight_of k) (lit≤ tt) (weight_is k)

    arguments_charge : (parameters : TypeRow) (arguments : TypedRow) → charge_row (argument_trees setting parameters arguments) ≤ 64 * weighed_row arguments
    arguments_charge types.none arguments = none_more (64 * weighed_row arguments)
    arguments_charge (types.more parameter parameters) none = lit≤ tt
    arguments_charge (types.more parameter parameters) (more first others) =
        argument (charge (value_tree setting first)) (charge (passed_tree setting.tags first parameter (value_tree setting first)))
        (charge_row (argument_trees setting parameters others)) (weighed_nodes first) (weighed_row others)
        (passed_charge setting.tags first parameter (value_tree setting first)) (value_charge first) (arguments_charge parameters others)
