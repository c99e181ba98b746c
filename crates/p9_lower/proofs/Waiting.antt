-- The values of expressions that wait: fewer than their nodes.
use Rattle.std.proofs.Common.{◌≤◌, ℕ, suc, ◌+◌, ◌==◌, Bool, true, false, if◌then◌else◌, Option, Some, None, arith, lit≤}
use Rattle.p9_lang.specs.declared.tree.CBinary.{CBinary}
use Rattle.p9_lang.specs.declared.tree.CBinary.TheVariants as operator
use Rattle.p9_lang.specs.declared.tree.CUnary.TheVariants as unary
use Rattle.p9_lang.specs.declared.tree.Kind.TheVariants as kind
use Rattle.p9_lang.specs.Trees.{node, none, more}
use Rattle.p9_lang.specs.Types.{TypeTree, TypeRow, Pointer, Tags, Meant, Nothing, Outer, Static, EnumValue, TypeName}
use Rattle.p9_lang.specs.Types as types
use Rattle.p9_lang.specs.Layout.{size_of}
use Rattle.p9_lang.specs.Conversions.{is_structure, Conversion, Same, Integer, Null, Inner, Ambiguous, No}
use Rattle.p9_lang.specs.Constants.{type_at, works_unsigned}
use Rattle.p9_lang.specs.Modules.{Typed, TypedRow}
use Rattle.p9_cmean.specs.Contents.{Content, content_of}
use Rattle.p9_cmean.specs.Contents as contents
use Rattle.p9_cmean.specs.Union.{weight_of, weighed_nodes, weighed_row}
use Rattle.p9_cmean.specs.Expressions.{operand_type, member_offset, parameters_of}
use Rattle.p9_tree.specs.declared.tree.Width.{Width}
use Rattle.p9_tree.specs.declared.tree.Width.TheVariants as width
use Rattle.p9_tree.specs.declared.tree.BinOp.{BinOp}
use Rattle.p9_tree.specs.declared.tree.BinOp.TheVariants as bin
use Rattle.p9_tree.specs.Trees.{Tree, Const, Addr, Bin, Copy, Store}
use Rattle.p9_tree.specs.Charges.{waiting, waiting_row}
use Rattle.p9_lower.specs.Names.{Setting, name_tree, symbol_tree, outer_symbol, static_symbol}
use Rattle.p9_lower.specs.Operators.{word_operator, width_of, narrowed_tree, content_tree, read_tree, moved_tree, scaled_tree, forward_tree, divided_tree, inner_tree, pointers_tree, pointer_integer_tree, integer_pointer_tree, binary_tree, conversion_to, stored_tree, converted_tree, passed_tree, cast_tree, assigned_tree, elements_tree, updated_tree}
use Rattle.p9_lower.specs.Expressions.{named_tree, place_tree, value_tree, argument_trees}
use Rattle.p9_lower.proofs.Charging.{weight_is}

-- NUMBERS

itself : (n : ℕ) → n ≤ n
itself n = omega arith

no_bound : (n : ℕ) → 0 ≤ n
no_bound n = omega arith

-- OPERATORS

symbol_waits : (o : Option ℕ) → waiting (symbol_tree o) ≤ 0
symbol_waits None = lit≤ tt
symbol_waits (Some k) = lit≤ tt

pub name_waits : (setting : Setting) (means : Meant) → waiting (name_tree setting means) ≤ 0
name_waits setting Nothing = lit≤ tt
name_waits setting (Outer x) = symbol_waits (outer_symbol setting.symbols x)
name_waits setting (Static n) = symbol_waits (static_symbol setting.symbols n)
name_waits setting (types.Auto n) = lit≤ tt
name_waits setting (EnumValue n) = lit≤ tt
name_waits setting (TypeName t) = lit≤ tt

content_waits : (c : Content) (w : Width) (t : Tree) → waiting (content_tree c w t) ≤ waiting t
content_waits contents.Integer w t = itself (waiting t)
content_waits contents.Reference w t = itself (waiting t)
content_waits contents.Aggregate w t = itself (waiting t)
content_waits contents.Nothing w t = itself (waiting t)

read_waits : (type : TypeTree) (t : Tree) → waiting (read_tree type t) ≤ waiting t
read_waits type t = content_waits (content_of type) (width_of type) t

narrowed_waits : (w : Width) (t : Tree) → waiting (narrowed_tree w t) ≤ waiting t
narrowed_waits width.S8 t = itself (waiting t)
narrowed_waits width.U8 t = itself (waiting t)
narrowed_waits width.S16 t = itself (waiting t)
narrowed_waits width.U16 t = itself (waiting t)
narrowed_waits width.W32 t = itself (waiting t)

least_of : (a b c : ℕ) → a ≤ b → b ≤ c → a ≤ c
least_of a b c h g = omega arith

left_bound : (a b : ℕ) → a ≤ suc (a + b)
left_bound a b = omega arith

behind : (c d d' k : ℕ) → d' ≤ d → k ≤ suc (c + d') → k ≤ suc (c + d)
behind c d d' k h g = omega arith

before : (c c' d k : ℕ) → c' ≤ c → k ≤ suc (c' + d) → k ≤ suc (c + d)
before c c' d k h g = omega arith

-- nothing waits for a constant at the right
two_wait : (op : BinOp) (a b : Tree) → waiting (Bin op a b) ≤ suc (waiting a + waiting b)
two_wait op a (Const n) = left_bound (waiting a) 0
two_wait op a b = itself (suc (waiting a + waiting b))

moved_waits : (a b : Tree) → waiting (moved_tree a b) ≤ suc (waiting a + waiting b)
moved_waits (Addr k o) (Const n) = lit≤ tt
moved_waits a b = two_wait bin.Add a b

inner_waits : (o : Option ℕ) (t : Tree) → waiting (inner_tree o t) ≤ waiting t
inner_waits None t = itself (waiting t)
inner_waits (Some n) (Addr k o) = lit≤ tt
inner_waits (Some n) t = itself (waiting t)

scaled_waits : (size : ℕ) (t : Tree) → waiting (scaled_tree size t) ≤ waiting t
scaled_waits size (Const n) = lit≤ tt
scaled_waits size t = itself (waiting t)

forward_by : (b : Bool) (size : ℕ) (t : Tree) → waiting (if b then t else scaled_tree size t) ≤ waiting t
forward_by true size t = itself (waiting t)
forward_by false size t = scaled_waits size t

forward_waits : (size : ℕ) (t : Tree) → waiting (forward_tree size t) ≤ waiting t
forward_waits size t = forward_by (size == 1) size t

divided_by : (b : Bool) (size : ℕ) (t : Tree) → waiting (if b then t else Bin bin.Div t (Const size)) ≤ waiting t
divided_by true size t = itself (waiting t)
divided_by false size t = itself (waiting t)

divided_waits : (size : ℕ) (t : Tree) → waiting (divided_tree size t) ≤ waiting t
divided_waits size t = divided_by (size == 1) size t

pointers_wait : (op : CBinary) (size : ℕ) (a b : Tree) → waiting (pointers_tree op size a b) ≤ suc (waiting a + waiting b)
pointers_wait operator.Sub size a b =
    least_of (waiting (divided_tree size (Bin bin.Sub a b))) (waiting (Bin bin.Sub a b)) (suc (waiting a + waiting b)) (divided_waits size (Bin bin.Sub a b)) (two_wait bin.Sub a b)
pointers_wait op size a b = two_wait (word_operator op true) a b

pointer_integer_waits : (op : CBinary) (size : ℕ) (a b : Tree) → waiting (pointer_integer_tree op size a b) ≤ suc (waiting a + waiting b)
pointer_integer_waits operator.Add size a b =
    behind (waiting a) (waiting b) (waiting (forward_tree size b)) (waiting (moved_tree a (forward_tree size b))) (forward_waits size b) (moved_waits a (forward_tree size b))
pointer_integer_waits operator.Sub size a b =
    behind (waiting a) (waiting b) (waiting (scaled_tree size b)) (waiting (Bin bin.Sub a (scaled_tree size b))) (scaled_waits size b) (two_wait bin.Sub a (scaled_tree size b))
pointer_integer_waits op size a b = two_wait (word_operator op true) a b

integer_pointer_waits : (op : CBinary) (size : ℕ) (a b : Tree) → waiting (integer_pointer_tree op size a b) ≤ suc (waiting a + waiting b)
integer_pointer_waits operator.Add size a b =
    before (waiting a) (waiting (forward_tree size a)) (waiting b) (waiting (Bin bin.Add (forward_tree size a) b)) (forward_waits size a) (two_wait bin.Add (forward_tree size a) b)
integer_pointer_waits op size a b = two_wait (word_operator op true) a b

binary_waits : (tags : Tags) (op : CBinary) (left right : TypeTree) (a b : Tree) → waiting (binary_tree tags op left right a b) ≤ suc (waiting a + waiting b)
binary_waits tags op (Pointer target) (Pointer other) a b = pointers_wait op (size_of tags target) a b
binary_waits tags op (Pointer target) right a b = pointer_integer_waits op (size_of tags target) a b
binary_waits tags op left (Pointer target) a b = integer_pointer_waits op (size_of tags target) a b
binary_waits tags op left right a b = two_wait (word_operator op (works_unsigned op left right)) a b

stored_waits : (c : Conversion) (t : Tree) → waiting (stored_tree c t) ≤ waiting t
stored_waits Same t = itself (waiting t)
stored_waits Integer t = itself (waiting t)
stored_waits Null t = no_bound (waiting t)
stored_waits (Inner offset) t = inner_waits (Some offset) t
stored_waits Ambiguous t = itself (waiting t)
stored_waits No t = itself (waiting t)

converted_waits : (c : Conversion) (to : TypeTree) (t : Tree) → waiting (converted_tree c to t) ≤ waiting t
converted_waits Same to t = narrowed_waits (width_of to) t
converted_waits Integer to t = narrowed_waits (width_of to) t
converted_waits Null to t = no_bound (waiting t)
converted_waits (Inner offset) to t = inner_waits (Some offset) t
converted_waits Ambiguous to t = itself (waiting t)
converted_waits No to t = itself (waiting t)

pub passed_waits : (tags : Tags) (e : Typed) (to : TypeTree) (t : Tree) → waiting (passed_tree tags e to t) ≤ waiting t
passed_waits tags e to t = converted_waits (conversion_to tags e to) to t

cast_waits : (c : Content) (type : TypeTree) (t : Tree) → waiting (cast_tree c type t) ≤ waiting t
cast_waits contents.Integer type t = narrowed_waits (width_of type) t
cast_waits contents.Reference type t = itself (waiting t)
cast_waits contents.Aggregate type t = itself (waiting t)
cast_waits contents.Nothing type t = itself (waiting t)

more_waits : (a b b' : ℕ) → b' ≤ b → suc (a + b') ≤ suc (a + b)
more_waits a b b' h = omega arith

assigned_by : (b : Bool) (size : ℕ) (w : Width) (c : Conversion) (to from : Tree) → waiting (if b then Copy size to from else Store w to (stored_tree c from)) ≤ suc (waiting to + waiting from)
assigned_by true size w c to from = itself (suc (waiting to + waiting from))
assigned_by false size w c to from = more_waits (waiting to) (waiting from) (waiting (stored_tree c from)) (stored_waits c from)

pub assigned_waits : (tags : Tags) (e : Typed) (type : TypeTree) (to from : Tree) → waiting (assigned_tree tags e type to from) ≤ suc (waiting to + waiting from)
assigned_waits tags e type to from = assigned_by (is_structure type) (size_of tags type) (width_of type) (conversion_to tags e type) to from

elements_wait : (op : CBinary) (size : ℕ) (t : Tree) → waiting (elements_tree op size t) ≤ waiting t
elements_wait operator.Add size t = forward_waits size t
elements_wait op size t = scaled_waits size t

updated_waits : (tags : Tags) (op : CBinary) (type right : TypeTree) (to from : Tree) → waiting (updated_tree tags op type right to from) ≤ suc (waiting to + waiting from)
updated_waits tags op (Pointer target) right to from =
    more_waits (waiting to) (waiting from) (waiting (elements_tree op (size_of tags target) from)) (elements_wait op (size_of tags target) from)
updated_waits tags op type right to from = itself (suc (waiting to + waiting from))

-- EXPRESSIONS

leaf : (c w n : ℕ) → c ≤ 0 → 1 ≤ n → c + 1 ≤ w + n
leaf c w n h g = omega arith

one : (c c' w : ℕ) → c' ≤ c → c + 1 ≤ w → c' + 1 ≤ w + 0 + 1
one c c' w h g = omega arith

behind_one : (c c' v w : ℕ) → c' ≤ c → c + 1 ≤ w → c' + 1 ≤ v + (w + 0) + 1
behind_one c c' v w h g = omega arith

two : (a b c v w : ℕ) → c ≤ suc (a + b) → a + 1 ≤ v → b + 1 ≤ w → c + 1 ≤ v + (w + 0) + 1
two a b c v w h f g = omega arith

three : (a b c u v w : ℕ) → a + 1 ≤ u → b + 1 ≤ v → c + 1 ≤ w → a + (b + c) + 1 ≤ u + (v + (w + 0)) + 1
three a b c u v w h e f = omega arith

called : (f a v w : ℕ) → f + 1 ≤ v → a ≤ w → suc (f + a) + 1 ≤ v + w + 2
called f a v w h g = omega arith

argument : (a a' r v w : ℕ) → a' ≤ a → a + 1 ≤ v → r ≤ w → suc (a' + r) ≤ v + w
argument a a' r v w h f g = omega arith

both_more : (a b : ℕ) → a + b ≤ suc (a + b)
both_more a b = omega arith

stepped : (c w : ℕ) → c + 1 ≤ w → suc c + 1 ≤ w + 0 + 1
stepped c w h = omega arith

read_name : (setting : Setting) (type : TypeTree) (means : Meant) → waiting (read_tree type (name_tree setting means)) ≤ 0
read_name setting type means =
    let h : waiting (read_tree type (name_tree setting means)) ≤ waiting (name_tree setting means) = read_waits type (name_tree setting means) in
    let g : waiting (name_tree setting means) ≤ 0 = name_waits setting means in
    omega arith

named_by : (setting : Setting) (number token : ℕ) (type : TypeTree) (means : Meant)
    → waiting (named_tree setting (record { number = number; token = token; type = type; means = means })) ≤ 0
named_by setting number token type (EnumValue n) = lit≤ tt
named_by setting number token type means = read_name setting type means

read_after : (type : TypeTree) (t : Tree) (n : ℕ) → waiting t ≤ n → waiting (read_tree type t) ≤ n
read_after type t n h = least_of (waiting (read_tree type t)) (waiting t) n (read_waits type t) h

module _ (setting : Setting) where
  mutual
    pub place_waits : (e : Typed) → waiting (place_tree setting e) + 1 ≤ weighed_nodes e
    place_waits (node (kind.Name x) label none) = leaf (waiting (name_tree setting label.means)) 0 1 (name_waits setting label.means) (lit≤ tt)
    place_waits (node (kind.Text texts) label none) = leaf (waiting (name_tree setting label.means)) 0 1 (name_waits setting label.means) (lit≤ tt)
    place_waits (node kind.Parens label (more e none)) = one (waiting (place_tree setting e)) (waiting (place_tree setting e)) (weighed_nodes e) (itself _) (place_waits e)
    place_waits (node (kind.Unary unary.Deref) label (more e none)) = one (waiting (value_tree setting e)) (waiting (value_tree setting e)) (weighed_nodes e) (itself _) (value_waits e)
    place_waits (node kind.Index label (more array (more index none))) =
        two (waiting (value_tree setting array)) (waiting (value_tree setting index)) _ (weighed_nodes array) (weighed_nodes index)
        (binary_waits setting.tags operator.Add (operand_type array) (operand_type index) (value_tree setting array) (value_tree setting index))
        (value_waits array) (value_waits index)
    place_waits (node (kind.Dot arrow name) label (more e none)) =
        one (waiting (value_tree setting e)) _ (weighed_nodes e)
        (inner_waits (member_offset setting.tags arrow (if arrow then operand_type e else type_at e) name) (value_tree setting e)) (value_waits e)
    place_waits (node k label parts) = leaf 0 (weighed_row parts) (weight_of k) (lit≤ tt) (weight_is k)

    pub value_waits : (e : Typed) → waiting (value_tree setting e) + 1 ≤ weighed_nodes e
    value_waits (node (kind.Number n unsigned long) label none) = lit≤ tt
    value_waits (node (kind.Character n) label none) = lit≤ tt
    value_waits (node (kind.Name x) label none) = leaf (waiting (named_tree setting label)) 0 1 (named_by setting label.number label.token label.type label.means) (lit≤ tt)
    value_waits (node (kind.Text texts) label none) = leaf (waiting (read_tree label.type (name_tree setting label.means))) 0 1 (read_name setting label.type label.means) (lit≤ tt)
    value_waits (node kind.Parens label (more e none)) = one (waiting (value_tree setting e)) (waiting (value_tree setting e)) (weighed_nodes e) (itself _) (value_waits e)
    value_waits (node (kind.Unary unary.Address) label (more e none)) = one (waiting (place_tree setting e)) (waiting (place_tree setting e)) (weighed_nodes e) (itself _) (place_waits e)
    value_waits (node (kind.Unary unary.Deref) label (more e none)) =
        one (waiting (value_tree setting e)) _ (weighed_nodes e) (read_waits label.type (value_tree setting e)) (value_waits e)
    value_waits (node (kind.Unary unary.Plus) label (more e none)) = one (waiting (value_tree setting e)) (waiting (value_tree setting e)) (weighed_nodes e) (itself _) (value_waits e)
    value_waits (node (kind.Unary unary.Minus) label (more e none)) = one (waiting (value_tree setting e)) (waiting (value_tree setting e)) (weighed_nodes e) (itself _) (value_waits e)
    value_waits (node (kind.Unary unary.Complement) label (more e none)) = one (waiting (value_tree setting e)) (waiting (value_tree setting e)) (weighed_nodes e) (itself _) (value_waits e)
    value_waits (node (kind.Unary unary.Not) label (more e none)) = one (waiting (value_tree setting e)) (waiting (value_tree setting e)) (weighed_nodes e) (itself _) (value_waits e)
    value_waits (node kind.SizeofValue label (more e none)) = leaf 0 (weighed_nodes e + 0) 1 (lit≤ tt) (lit≤ tt)
    value_waits (node kind.SizeofType label (more type none)) = leaf 0 (weighed_nodes type + 0) 1 (lit≤ tt) (lit≤ tt)
    value_waits (node kind.Cast label (more type (more e none))) =
        behind_one (waiting (value_tree setting e)) _ (weighed_nodes type) (weighed_nodes e) (cast_waits (content_of label.type) label.type (value_tree setting e)) (value_waits e)
    value_waits (node kind.Index label (more array (more index none))) =
        two (waiting (value_tree setting array)) (waiting (value_tree setting index)) _ (weighed_nodes array) (weighed_nodes index)
        (read_after label.type (binary_tree setting.tags operator.Add (operand_type array) (operand_type index) (value_tree setting array) (value_tree setting index)) _
        (binary_waits setting.tags operator.Add (operand_type array) (operand_type index) (value_tree setting array) (value_tree setting index)))
        (value_waits array) (value_waits index)
    value_waits (node (kind.Dot arrow name) label (more e none)) =
        one (waiting (value_tree setting e)) _ (weighed_nodes e)
        (read_after label.type (inner_tree (member_offset setting.tags arrow (if arrow then operand_type e else type_at e) name) (value_tree setting e)) _
        (inner_waits (member_offset setting.tags arrow (if arrow then operand_type e else type_at e) name) (value_tree setting e)))
        (value_waits e)
    value_waits (node (kind.Binary operator.AndAnd) label (more left (more right none))) =
        two (waiting (value_tree setting left)) (waiting (value_tree setting right)) (waiting (value_tree setting left) + waiting (value_tree setting right)) (weighed_nodes left) (weighed_nodes right) (both_more _ _) (value_waits left) (value_waits right)
    value_waits (node (kind.Binary operator.OrOr) label (more left (more right none))) =
        two (waiting (value_tree setting left)) (waiting (value_tree setting right)) (waiting (value_tree setting left) + waiting (value_tree setting right)) (weighed_nodes left) (weighed_nodes right) (both_more _ _) (value_waits left) (value_waits right)
    value_waits (node (kind.Binary op) label (more left (more right none))) =
        two (waiting (value_tree setting left)) (waiting (value_tree setting right)) _ (weighed_nodes left) (weighed_nodes right)
        (binary_waits setting.tags op (operand_type left) (operand_type right) (value_tree setting left) (value_tree setting right))
        (value_waits left) (value_waits right)
    value_waits (node kind.Choose label (more test (more first (more second none)))) =
        three (waiting (value_tree setting test)) (waiting (value_tree setting first)) (waiting (value_tree setting second))
        (weighed_nodes test) (weighed_nodes first) (weighed_nodes second) (value_waits test) (value_waits first) (value_waits second)
    value_waits (node (kind.Assign None) label (more left (more right none))) =
        two (waiting (place_tree setting left)) (waiting (value_tree setting right)) _ (weighed_nodes left) (weighed_nodes right)
        (assigned_waits setting.tags right (type_at left) (place_tree setting left) (value_tree setting right))
        (place_waits left) (value_waits right)
    value_waits (node (kind.Assign (Some op)) label (more left (more right none))) =
        two (waiting (place_tree setting left)) (waiting (value_tree setting right)) _ (weighed_nodes left) (weighed_nodes right)
        (updated_waits setting.tags op (type_at left) (operand_type right) (place_tree setting left) (value_tree setting right))
        (place_waits left) (value_waits right)
    value_waits (node (kind.Pre minus) label (more e none)) = stepped (waiting (place_tree setting e)) (weighed_nodes e) (place_waits e)
    value_waits (node (kind.Post minus) label (more e none)) = stepped (waiting (place_tree setting e)) (weighed_nodes e) (place_waits e)
    value_waits (node kind.Comma label (more left (more right none))) =
        two (waiting (value_tree setting left)) (waiting (value_tree setting right)) (waiting (value_tree setting left) + waiting (value_tree setting right)) (weighed_nodes left) (weighed_nodes right)
        (both_more _ _) (value_waits left) (value_waits right)
    value_waits (node kind.Call label (more function arguments)) =
        called (waiting (value_tree setting function)) (waiting_row (argument_trees setting (parameters_of (operand_type function)) arguments)) (weighed_nodes function) (weighed_row arguments)
        (value_waits function) (arguments_wait (parameters_of (operand_type function)) arguments)
    value_waits (node k label parts) = leaf 0 (weighed_row parts) (weight_of k) (lit≤ tt) (weight_is k)

    arguments_wait : (parameters : TypeRow) (arguments : TypedRow) → waiting_row (argument_trees setting parameters arguments) ≤ weighed_row arguments
    arguments_wait types.none arguments = no_bound (weighed_row arguments)
    arguments_wait (types.more parameter parameters) none = lit≤ tt
    arguments_wait (types.more parameter parameters) (more first others) =
        argument (waiting (value_tree setting first)) (waiting (passed_tree setting.tags first parameter (value_tree setting first)))
        (waiting_row (argument_trees setting parameters others)) (weighed_nodes first) (weighed_row others)
        (passed_waits setting.tags first parameter (value_tree setting first)) (value_waits first) (arguments_wait parameters others)
