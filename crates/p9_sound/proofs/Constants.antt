-- Integer constants have integer types.
use Rattle.std.proofs.Common.{◌≡◌, ℕ, ◌==◌, Bool, true, false, ◌&&◌, ◌||◌, nat_le, if◌then◌else◌, ◌^◌, List, [], ◌∷◌, map, Result, Ok, Err, refl, sym, ap, subst, ◌∙◌}
use Rattle.p9_lang.specs.declared.tree.CBinary.{CBinary}
use Rattle.p9_lang.specs.declared.tree.CBinary.TheVariants as operator
use Rattle.p9_lang.specs.declared.tree.CUnary.{CUnary}
use Rattle.p9_lang.specs.declared.tree.CUnary.TheVariants as unary
use Rattle.p9_lang.specs.declared.tree.Kind.{Kind}
use Rattle.p9_lang.specs.declared.tree.Kind.TheVariants as kind
use Rattle.p9_lang.specs.Trees.{node, none, more}
use Rattle.p9_lang.specs.Types.{TypeTree, Void, Int, UInt, Pointer, Array, Function, Meant, EnumValue, Nothing, Outer, Static, Auto, TypeName, Tags}
use Rattle.p9_lang.specs.Layout.{is_complete}
use Rattle.p9_lang.specs.Conversions.{is_integer, is_pointer, is_void, is_function, is_scalar, decayed, promoted, common, integer_of, number_type, is_unsigned, is_long}
use Rattle.p9_lang.specs.Constants.{Operand, Constant, NotConstant, Undefined, Value, Null, also, on_word, on_words, binary_constant, unary_constant, cast_constant, narrowed, enumeration_constant, constant_at, constant_of, constants_of, type_at}
use Rattle.p9_lang.specs.Rules.{Rule, BadOperands, Incomplete, NotScalar, and_then}
use Rattle.p9_lang.specs.Expressions.{Verdict, value, asks, as_value, value_type, are_integers, are_of_one_kind, cast_verdict, integer_type, binary_type, are_ordered, are_comparable, choice_type, choose_verdict, unary_verdict, verdict}
use Rattle.p9_lang.specs.Modules.{Label, Typed, TypedRow}
use Rattle.p9_lang.specs.Typing.{operand}
use Rattle.p9_lang.proofs.Counting.{then_of}
use Rattle.p9_cmean.specs.ConstantLaws.{ConstantsAreTyped, AllConstantsAreTyped}
use Rattle.p9_sound.specs.Nodes.{has_verdict, valued, IsJudged, TreeIsTyped, RowIsTyped}
use Rattle.p9_sound.specs.Constants.{NameIsInteger, NamesAreIntegers, AllNamesAreIntegers, LeavesAreAlone, AllLeavesAreAlone, TypedConstantsAreIntegers}

-- AN INTEGER CONSTANT, whether its evaluation is defined or not

abbrev IsWord : Constant → Type 0
IsWord NotConstant = ⊥
IsWord Undefined = Unit {0}
IsWord (Value word) = Unit {0}
IsWord Null = ⊥

also_both : (a b : Constant) → IsWord (also a b) → IsWord a × IsWord b
also_both NotConstant b h = absurd h
also_both Undefined b h = (tt, h)
also_both (Value word) b h = (tt, h)
also_both Null b h = absurd h

on_word_is : (f : ℕ → Constant) (a : Constant) → IsWord (on_word f a) → IsWord a
on_word_is f NotConstant h = absurd h
on_word_is f Undefined h = tt
on_word_is f (Value word) h = tt
on_word_is f Null h = absurd h

on_words_both : (f : ℕ → ℕ → Constant) (a b : Constant) → IsWord (on_words f a b) → IsWord a × IsWord b
on_words_both f a b h =
    let x = also_both b (on_word (λ m. on_word (f m) b) a) h in
    (on_word_is (λ m. on_word (f m) b) a x.1, x.0)

-- INTEGER TYPES

integer_of_is : (unsigned long : Bool) → is_integer (integer_of unsigned long) ≡ true
integer_of_is false false = refl
integer_of_is true false = refl
integer_of_is false true = refl
integer_of_is true true = refl

decayed_integer : (type : TypeTree) → is_integer type ≡ true → decayed type ≡ type
decayed_integer (Array element n) h = cc
decayed_integer (Function result parameters) h = cc
decayed_integer type h = refl

both_integers : (a b : TypeTree) → is_integer a ≡ true → is_integer b ≡ true → are_integers (decayed a) (decayed b) ≡ true
both_integers a b h g =
    ap (λ x. is_integer x && is_integer (decayed b)) (decayed_integer a h)
    ∙ ap (λ x. is_integer a && is_integer x) (decayed_integer b g)
    ∙ ap (λ x. x && is_integer b) h
    ∙ g

-- OUTCOMES

abbrev IsIntegral : Verdict → Type 0
IsIntegral v = is_integer v.type ≡ true

value_integer : (type : TypeTree) (v : Verdict) (m : Result Verdict Rule) → m ≡ Ok (value type) → m ≡ Ok v → is_integer type ≡ true → IsIntegral v
value_integer type v m d e h =
    let f : Ok (value type) ≡ Ok v = sym d ∙ e in
    let z : value type ≡ v = cc in
    subst (λ x. IsIntegral x) z h

as_value_is : (r : Result TypeTree Rule) (v : Verdict) → as_value r ≡ Ok v → r ≡ Ok v.type
as_value_is (Ok type) v e = let z : value type ≡ v = cc in ap (λ x. Ok x.type) z
as_value_is (Err rule) v e = cc

asked_is : (b : Bool) (rule : Rule) (type x : TypeTree) → asks b rule type ≡ Ok x → type ≡ x
asked_is true rule type x e = cc
asked_is false rule type x e = cc

if_ok : (b : Bool) (type x : TypeTree) (r : Result TypeTree Rule) → b ≡ true → (if b then Ok type else r) ≡ Ok x → type ≡ x
if_ok true type x r h e = cc
if_ok false type x r h e = cc

asked_integer : (b : Bool) (rule : Rule) (type x : TypeTree) → asks b rule type ≡ Ok x → is_integer type ≡ true → is_integer x ≡ true
asked_integer b rule type x e h = subst (λ t. is_integer t ≡ true) (asked_is b rule type x e) h

if_integer : (b : Bool) (type x : TypeTree) (r : Result TypeTree Rule) → b ≡ true → (if b then Ok type else r) ≡ Ok x → is_integer type ≡ true → is_integer x ≡ true
if_integer b type x r c e h = subst (λ t. is_integer t ≡ true) (if_ok b type x r c e) h

-- OPERATORS

abbrev is_logical : CBinary → Bool
is_logical operator.AndAnd = true
is_logical operator.OrOr = true
is_logical op = false

abbrev AreIntegers : Operand → Operand → Type 0
AreIntegers a b = (is_integer a.type ≡ true) × (is_integer b.type ≡ true)

common_integer : (a b : TypeTree) → is_integer (common a b) ≡ true
common_integer a b = integer_of_is (is_unsigned a || is_unsigned b) (is_long a || is_long b)

promoted_integer : (a : TypeTree) → is_integer (promoted a) ≡ true
promoted_integer a = integer_of_is (is_unsigned a) (is_long a)

operands_integers : (a b : Operand) → AreIntegers a b → are_integers (value_type a) (value_type b) ≡ true
operands_integers a b h = both_integers a.type b.type h.0 h.1

binary_integer : (tags : Tags) (op : CBinary) (a b : Operand) (type : TypeTree) → (is_logical op ≡ false → AreIntegers a b) → binary_type tags op a b ≡ Ok type
    → is_integer type ≡ true
binary_integer tags operator.Mul a b type h e = asked_integer _ BadOperands _ type e (common_integer (value_type a) (value_type b))
binary_integer tags operator.Div a b type h e = asked_integer _ BadOperands _ type e (common_integer (value_type a) (value_type b))
binary_integer tags operator.Rem a b type h e = asked_integer _ BadOperands _ type e (common_integer (value_type a) (value_type b))
binary_integer tags operator.Add a b type h e =
    if_integer (are_integers (value_type a) (value_type b)) (common (value_type a) (value_type b)) type _ (operands_integers a b (h refl)) e
    (common_integer (value_type a) (value_type b))
binary_integer tags operator.Sub a b type h e =
    if_integer (are_integers (value_type a) (value_type b)) (common (value_type a) (value_type b)) type _ (operands_integers a b (h refl)) e
    (common_integer (value_type a) (value_type b))
binary_integer tags operator.Shl a b type h e = asked_integer _ BadOperands _ type e (promoted_integer (value_type a))
binary_integer tags operator.Shr a b type h e = asked_integer _ BadOperands _ type e (promoted_integer (value_type a))
binary_integer tags operator.Lt a b type h e = asked_integer (are_ordered (value_type a) (value_type b)) BadOperands Int type e refl
binary_integer tags operator.Gt a b type h e = asked_integer (are_ordered (value_type a) (value_type b)) BadOperands Int type e refl
binary_integer tags operator.Le a b type h e = asked_integer (are_ordered (value_type a) (value_type b)) BadOperands Int type e refl
binary_integer tags operator.Ge a b type h e = asked_integer (are_ordered (value_type a) (value_type b)) BadOperands Int type e refl
binary_integer tags operator.Eq a b type h e = asked_integer (are_comparable a b) BadOperands Int type e refl
binary_integer tags operator.Ne a b type h e = asked_integer (are_comparable a b) BadOperands Int type e refl
binary_integer tags operator.And a b type h e = asked_integer _ BadOperands _ type e (common_integer (value_type a) (value_type b))
binary_integer tags operator.Xor a b type h e = asked_integer _ BadOperands _ type e (common_integer (value_type a) (value_type b))
binary_integer tags operator.Or a b type h e = asked_integer _ BadOperands _ type e (common_integer (value_type a) (value_type b))
binary_integer tags operator.AndAnd a b type h e = asked_integer (is_scalar (value_type a) && is_scalar (value_type b)) NotScalar Int type e refl
binary_integer tags operator.OrOr a b type h e = asked_integer (is_scalar (value_type a) && is_scalar (value_type b)) NotScalar Int type e refl

binary_words : (op : CBinary) (a b : Operand) → is_logical op ≡ false → IsWord (binary_constant op a b) → IsWord a.constant × IsWord b.constant
binary_words operator.AndAnd a b l w = cc
binary_words operator.OrOr a b l w = cc
binary_words op a b l w = on_words_both _ a.constant b.constant w

unary_integer : (tags : Tags) (op : CUnary) (a : Operand) (v : Verdict) → unary_verdict tags op a ≡ Ok v → IsWord (unary_constant op a.constant) → IsIntegral v
unary_integer tags unary.Address a v e w = absurd w
unary_integer tags unary.Deref a v e w = absurd w
unary_integer tags unary.Plus a v e w =
    asked_integer (is_integer (value_type a)) BadOperands (promoted (value_type a)) v.type (as_value_is (integer_type (value_type a)) v e) (promoted_integer (value_type a))
unary_integer tags unary.Minus a v e w =
    asked_integer (is_integer (value_type a)) BadOperands (promoted (value_type a)) v.type (as_value_is (integer_type (value_type a)) v e) (promoted_integer (value_type a))
unary_integer tags unary.Complement a v e w =
    asked_integer (is_integer (value_type a)) BadOperands (promoted (value_type a)) v.type (as_value_is (integer_type (value_type a)) v e) (promoted_integer (value_type a))
unary_integer tags unary.Not a v e w =
    asked_integer (is_scalar (value_type a)) NotScalar Int v.type (as_value_is (asks (is_scalar (value_type a)) NotScalar Int) v e) refl

size_by : (f c : Bool) (v : Verdict) → (if f then Err BadOperands else as_value (asks c Incomplete UInt)) ≡ Ok v → IsIntegral v
size_by true c v e = cc
size_by false c v e = asked_integer c Incomplete UInt v.type (as_value_is (asks c Incomplete UInt) v e) refl

choice_integer : (a b : Operand) (type : TypeTree) → AreIntegers a b → choice_type a b ≡ Ok type → is_integer type ≡ true
choice_integer a b type h e =
    if_integer (are_integers (value_type a) (value_type b)) (common a.type b.type) type _ (operands_integers a b h) e (common_integer a.type b.type)

choose_integer : (test a b : Operand) (v : Verdict) → AreIntegers a b → choose_verdict test a b ≡ Ok v → IsIntegral v
choose_integer test a b v h e =
    let x = then_of (choice_type a b) (λ type. asks (is_scalar (value_type test)) NotScalar type) v.type
    (as_value_is (and_then (choice_type a b) (λ type. asks (is_scalar (value_type test)) NotScalar type)) v e) in
    asked_integer (is_scalar (value_type test)) NotScalar x.0 v.type x.2 (choice_integer a b x.0 h x.1)

-- CASTS: no integer constant whose evaluation is undefined is cast to a pointer

null_no_word : (b : Bool) → IsWord (if b then Null else NotConstant) → ⊥
null_no_word true w = w
null_no_word false w = w

refused : (type : TypeTree) → is_integer type ≡ true
    → (is_void (Pointer Void) || (are_integers (decayed type) (Pointer Void) || (are_of_one_kind (decayed type) (Pointer Void) || (false && is_pointer (Pointer Void))))) ≡ false
refused (Pointer target) h = cc
refused (Array element n) h = cc
refused (Function result parameters) h = cc
refused type h = refl

not_asked : (b : Bool) (to : TypeTree) (v : Verdict) → b ≡ false → as_value (asks b BadOperands to) ≡ Ok v → ⊥
not_asked true to v h e = cc
not_asked false to v h e = cc

void_cast : (type : TypeTree) (is_lvalue : Bool) (c : Constant) (v : Verdict) → cast_verdict (Pointer Void) (operand type is_lvalue c) ≡ Ok v
    → (IsWord c → is_integer type ≡ true) → IsWord (cast_constant (Pointer Void) c) → ⊥
void_cast type is_lvalue NotConstant v e h w = w
void_cast type is_lvalue Undefined v e h w = not_asked _ (Pointer Void) v (refused type (h tt)) e
void_cast type is_lvalue (Value word) v e h w = null_no_word (word == 0) w
void_cast type is_lvalue Null v e h w = w

if_word : (b : Bool) (c : Constant) → IsWord (if b then c else NotConstant) → b ≡ true
if_word true c w = refl
if_word false c w = absurd w

cast_integer : (type : TypeTree) (a : Operand) (v : Verdict) → cast_verdict type a ≡ Ok v → (IsWord a.constant → is_integer a.type ≡ true)
    → IsWord (cast_constant type a.constant) → is_integer type ≡ true
cast_integer (Pointer Void) a v e h w = absurd (void_cast a.type a.is_lvalue a.constant v e h w)
cast_integer type a v e h w = if_word (is_integer type) (on_word (λ x. Value (narrowed type x)) a.constant) w

-- THE TABLE

abbrev AllWords : List Operand → Type 0
AllWords [] = Unit {0}
AllWords (a ∷ others) = (IsWord a.constant → is_integer a.type ≡ true) × AllWords others

table_integer : (tags before : Tags) (is_statement : Bool) (k : Kind) (os : List Operand) (v : Verdict) (means : Meant) → has_verdict k ≡ true
    → verdict before is_statement k os ≡ Ok v → AllWords (map valued os) → IsWord (constant_at tags k v.type means (map valued os)) → IsIntegral v
table_integer tags before st (kind.Number n unsigned long) os v means h e a w =
    value_integer (number_type n unsigned long) v _ refl e (integer_of_is (unsigned || nat_le (2 ^ 31) n) long)
table_integer tags before st (kind.Character n) os v means h e a w = value_integer Int v _ refl e refl
table_integer tags before st kind.Parens [] v means h e a w = absurd w
table_integer tags before st kind.Parens (x ∷ []) v means h e a w =
    let z : record { type = x.type; is_lvalue = x.is_lvalue } ≡ v = cc in
    subst (λ y. IsIntegral y) z (a.0 w)
table_integer tags before st kind.Parens (x ∷ (y ∷ os)) v means h e a w = absurd w
table_integer tags before st kind.Index os v means h e a w = absurd w
table_integer tags before st kind.Call os v means h e a w = absurd w
table_integer tags before st (kind.Dot arrow x) os v means h e a w = absurd w
table_integer tags before st (kind.Post minus) os v means h e a w = absurd w
table_integer tags before st (kind.Pre minus) os v means h e a w = absurd w
table_integer tags before st (kind.Unary op) [] v means h e a w = absurd w
table_integer tags before st (kind.Unary op) (x ∷ []) v means h e a w = unary_integer before op x v e w
table_integer tags before st (kind.Unary op) (x ∷ (y ∷ os)) v means h e a w = absurd w
table_integer tags before st kind.SizeofValue [] v means h e a w = absurd w
table_integer tags before st kind.SizeofValue (x ∷ []) v means h e a w = size_by (is_function x.type) (is_complete before x.type) v e
table_integer tags before st kind.SizeofValue (x ∷ (y ∷ os)) v means h e a w = absurd w
table_integer tags before st kind.SizeofType [] v means h e a w = absurd w
table_integer tags before st kind.SizeofType (x ∷ []) v means h e a w = size_by (is_function x.type) (is_complete before x.type) v e
table_integer tags before st kind.SizeofType (x ∷ (y ∷ os)) v means h e a w = absurd w
table_integer tags before st kind.Cast [] v means h e a w = absurd w
table_integer tags before st kind.Cast (x ∷ []) v means h e a w = absurd w
table_integer tags before st kind.Cast (t ∷ (x ∷ [])) v means h e a w =
    let to : t.type ≡ v.type = asked_is _ BadOperands t.type v.type (as_value_is _ v e) in
    subst (λ y. is_integer y ≡ true) to
    (cast_integer t.type x v e a.1.0 (subst (λ y. IsWord (cast_constant y x.constant)) (sym to) w))
table_integer tags before st kind.Cast (t ∷ (x ∷ (y ∷ os))) v means h e a w = absurd w
table_integer tags before st (kind.Binary op) [] v means h e a w = absurd w
table_integer tags before st (kind.Binary op) (x ∷ []) v means h e a w = absurd w
table_integer tags before st (kind.Binary op) (x ∷ (y ∷ [])) v means h e a w =
    binary_integer before op x y v.type
    (λ l. let both = binary_words op (valued x) (valued y) l w in (a.0 both.0, a.1.0 both.1))
    (as_value_is (binary_type before op x y) v e)
table_integer tags before st (kind.Binary op) (x ∷ (y ∷ (z ∷ os))) v means h e a w = absurd w
table_integer tags before st kind.Choose [] v means h e a w = absurd w
table_integer tags before st kind.Choose (x ∷ []) v means h e a w = absurd w
table_integer tags before st kind.Choose (x ∷ (y ∷ [])) v means h e a w = absurd w
table_integer tags before st kind.Choose (t ∷ (x ∷ (y ∷ []))) v means h e a w =
    let first = also_both x.constant _ w in
    let second = also_both y.constant _ first.1 in
    choose_integer t x y v (a.1.0 first.0, a.1.1.0 second.0) e
table_integer tags before st kind.Choose (t ∷ (x ∷ (y ∷ (z ∷ os)))) v means h e a w = absurd w
table_integer tags before st (kind.Assign op) os v means h e a w = absurd w
table_integer tags before st kind.Comma [] v means h e a w = absurd w
table_integer tags before st kind.Comma (x ∷ []) v means h e a w = absurd w
table_integer tags before st kind.Comma (x ∷ (y ∷ [])) v means h e a w =
    let both = on_words_both _ x.constant y.constant w in
    let integer : is_integer y.type ≡ true = a.1.0 both.1 in
    value_integer (value_type y) v _ refl e (ap is_integer (decayed_integer y.type integer) ∙ integer)
table_integer tags before st kind.Comma (x ∷ (y ∷ (z ∷ os))) v means h e a w = absurd w
table_integer tags before st k os v means h e a w = cc

judged_integer : (tags : Tags) (k : Kind) (label : Label) (parts : TypedRow) → has_verdict k ≡ true → IsJudged tags k label parts → AllWords (constants_of tags parts)
    → IsWord (constant_at tags k label.type label.means (constants_of tags parts)) → is_integer label.type ≡ true
judged_integer tags k label parts h j a w =
    subst (λ t. is_integer t ≡ true) (sym j.type)
    (table_integer tags j.before j.is_statement k j.operands j.outcome label.means h j.taken (subst (λ xs. AllWords xs) j.are a)
    (subst (λ xs. IsWord (constant_at tags k j.outcome.type label.means xs)) j.are
    (subst (λ t. IsWord (constant_at tags k t label.means (constants_of tags parts))) j.type w)))

enumerator_integer : (label : Label) (means : Meant) → label.means ≡ means → NameIsInteger (kind.Name []) label → IsWord (enumeration_constant means) → is_integer label.type ≡ true
enumerator_integer label (EnumValue word) e n w = n word e
enumerator_integer label Nothing e n w = absurd w
enumerator_integer label (Outer name) e n w = absurd w
enumerator_integer label (Static number) e n w = absurd w
enumerator_integer label (Auto number) e n w = absurd w
enumerator_integer label (TypeName type) e n w = absurd w

other_integer : (tags : Tags) (k : Kind) (label : Label) (xs : List Operand) → has_verdict k ≡ false → NameIsInteger k label
    → IsWord (constant_at tags k label.type label.means xs) → is_integer label.type ≡ true
other_integer tags (kind.Name x) label xs v n w = enumerator_integer label label.means refl n w
other_integer tags (kind.Number value unsigned long) label xs v n w = cc
other_integer tags (kind.Character value) label xs v n w = cc
other_integer tags kind.Parens label xs v n w = cc
other_integer tags (kind.Unary op) label xs v n w = cc
other_integer tags (kind.Binary op) label xs v n w = cc
other_integer tags kind.Choose label xs v n w = cc
other_integer tags kind.Comma label xs v n w = cc
other_integer tags kind.Cast label xs v n w = cc
other_integer tags kind.SizeofValue label xs v n w = cc
other_integer tags kind.SizeofType label xs v n w = cc
other_integer tags k label xs v n w = absurd w

node_integer : (tags : Tags) (k : Kind) (label : Label) (parts : TypedRow) → (has_verdict k ≡ true → IsJudged tags k label parts) → NameIsInteger k label
    → AllWords (constants_of tags parts) → IsWord (constant_at tags k label.type label.means (constants_of tags parts)) → is_integer label.type ≡ true
node_integer tags k label parts j n a w = by (has_verdict k) refl
  where
    by : (b : Bool) → has_verdict k ≡ b → is_integer label.type ≡ true
    by true v = judged_integer tags k label parts v (j v) a w
    by false v = other_integer tags k label (constants_of tags parts) v n w

-- THE RECURSION

mutual
  tree_integer : (tags : Tags) (e : Typed) → TreeIsTyped tags e → NamesAreIntegers e → IsWord (constant_of tags e) → is_integer (type_at e) ≡ true
  tree_integer tags (node k label parts) h n w = node_integer tags k label parts h.0 n.0 (row_integers tags parts h.1 n.1) w

  row_integers : (tags : Tags) (parts : TypedRow) → RowIsTyped tags parts → AllNamesAreIntegers parts → AllWords (constants_of tags parts)
  row_integers tags none h n = tt
  row_integers tags (more first others) h n = (λ w. tree_integer tags first h.0 n.0 w, row_integers tags others h.1 n.1)

mutual
  tree_constants : (tags : Tags) (e : Typed) → TreeIsTyped tags e → NamesAreIntegers e → LeavesAreAlone e → ConstantsAreTyped tags e
  tree_constants tags (node k label parts) h n l = (
    λ word e. tree_integer tags (node k label parts) h n (subst (λ c. IsWord c) (sym e) tt),
    l.0,
    row_constants tags parts h.1 n.1 l.1,
  )

  row_constants : (tags : Tags) (parts : TypedRow) → RowIsTyped tags parts → AllNamesAreIntegers parts → AllLeavesAreAlone parts → AllConstantsAreTyped tags parts
  row_constants tags none h n l = tt
  row_constants tags (more first others) h n l = (tree_constants tags first h.0 n.0 l.0, row_constants tags others h.1 n.1 l.1)

pub typed_constants_are_integers : TypedConstantsAreIntegers
typed_constants_are_integers tags e h n l = tree_constants tags e h n l
