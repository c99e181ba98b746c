-- The null constant is worth null.
use Rattle.std.proofs.Common.{◌≡◌, ℕ, ◌==◌, ◌&&◌, Bool, true, false, not, if◌then◌else◌, List, [], ◌∷◌, Option, Some, None, Result, Ok, Err, refl, sym, ap, ◌∙◌, subst, nat_le}
use Rattle.std.proofs.lemmas.Bool.{eqb-true}
use Rattle.p9_lang.specs.declared.tree.CBinary.{CBinary}
use Rattle.p9_lang.specs.declared.tree.CBinary.TheVariants as operator
use Rattle.p9_lang.specs.declared.tree.CUnary.{CUnary}
use Rattle.p9_lang.specs.declared.tree.CUnary.TheVariants as unary
use Rattle.p9_lang.specs.declared.tree.Kind.{Kind}
use Rattle.p9_lang.specs.declared.tree.Kind.TheVariants as kind
use Rattle.p9_lang.specs.Trees.{node, none, more}
use Rattle.p9_lang.specs.Types.{TypeTree, Void, Pointer, Tagged, Tags, Meant, EnumValue}
use Rattle.p9_lang.specs.Layout.{Extent, layout, size_limit}
use Rattle.p9_lang.specs.Members.{Sought, Nowhere, One, Several, find_substructure}
use Rattle.p9_lang.specs.Conversions.{is_integer, is_pointer, stays, structure_conversion, inner_conversion, conversion}
use Rattle.p9_lang.specs.Conversions as conversions
use Rattle.p9_lang.specs.Constants.{Constant, NotConstant, Undefined, Value, Null, Operand, WordFault, truth, word_operation, works_unsigned, narrowed, on_word, on_words, also, chosen, value_or_undefined, binary_constant, unary_constant, null_if, cast_constant, size_constant, size_constant_in, enumeration_constant, by_one, by_two, by_three, constant_at, is_null_constant, constant_of, constants_of}
use Rattle.p9_lang.specs.Modules.{Typed}
use Rattle.p9_cmean.specs.Cells.{Word, State}
use Rattle.p9_cmean.specs.Plays.{Done, bind}
use Rattle.p9_cmean.specs.Contents.{content_of}
use Rattle.p9_cmean.specs.Access.{null}
use Rattle.p9_cmean.specs.ConstantLaws.{ConstantsAreTyped}
use Rattle.p9_cmean.specs.Expressions.{Surroundings, at, cast_to, value}
use Rattle.p9_cmean.proofs.Constants.{constants_keep_their_values}

-- CONVERSIONS: which are null, and which move a pointer

no_inner_null : (s : Sought ℕ) → inner_conversion s ≡ conversions.Null → ⊥
no_inner_null Nowhere e = cc
no_inner_null (One o) e = cc
no_inner_null Several e = cc

no_structure_null : (tags : Tags) (from to : TypeTree) → structure_conversion tags from to ≡ conversions.Null → ⊥
no_structure_null tags (Pointer (Tagged i)) (Pointer (Tagged j)) e = no_inner_null (find_substructure tags i j) e
no_structure_null tags from to e = cc

null_by : (same integers null pointer : Bool) (other : conversions.Conversion) → (other ≡ conversions.Null → ⊥)
    → (if same then conversions.Same else (if integers then conversions.Integer else (if null && pointer then conversions.Null else other))) ≡ conversions.Null → null ≡ true
null_by true integers null pointer other h e = cc
null_by false true null pointer other h e = cc
null_by false false true pointer other h e = refl
null_by false false false pointer other h e = absurd (h e)

pub null_conversion : (tags : Tags) (from to : TypeTree) (null : Bool) → conversion tags from to null ≡ conversions.Null → null ≡ true
null_conversion tags from to null e =
    null_by (stays from to) (is_integer from && is_integer to) null (is_pointer to) (structure_conversion tags from to) (no_structure_null tags from to) e

structure_pointer : (tags : Tags) (from to : TypeTree) (offset : ℕ) → structure_conversion tags from to ≡ conversions.Inner offset → is_pointer to ≡ true
structure_pointer tags (Pointer (Tagged i)) (Pointer (Tagged j)) offset e = refl
structure_pointer tags from to offset e = cc

inner_by : (same integers null : Bool) (other : conversions.Conversion) (offset : ℕ)
    → (if same then conversions.Same else (if integers then conversions.Integer else (if null then conversions.Null else other))) ≡ conversions.Inner offset
    → other ≡ conversions.Inner offset
inner_by true integers null other offset e = cc
inner_by false true null other offset e = cc
inner_by false false true other offset e = cc
inner_by false false false other offset e = e

pub inner_is_pointer : (tags : Tags) (from to : TypeTree) (null : Bool) (offset : ℕ) → conversion tags from to null ≡ conversions.Inner offset → is_pointer to ≡ true
inner_is_pointer tags from to null offset e =
    structure_pointer tags from to offset (inner_by (stays from to) (is_integer from && is_integer to) (null && is_pointer to) (structure_conversion tags from to) offset e)

-- CONSTANTS: only a cast of 0 to void* is the constant null

abbrev pub IsNull : Constant → Type 0
IsNull Null = Unit {0}
IsNull NotConstant = ⊥
IsNull Undefined = ⊥
IsNull (Value w) = ⊥

word_not_null : (f : ℕ → Constant) → ((n : ℕ) → IsNull (f n) → ⊥) → (c : Constant) → IsNull (on_word f c) → ⊥
word_not_null f h NotConstant i = i
word_not_null f h Undefined i = i
word_not_null f h (Value w) i = h w i
word_not_null f h Null i = i

also_not_null : (a b : Constant) → (IsNull b → ⊥) → IsNull (also a b) → ⊥
also_not_null NotConstant b h i = i
also_not_null Undefined b h i = h i
also_not_null (Value w) b h i = h i
also_not_null Null b h i = i

value_not_null : (r : Result ℕ WordFault) → IsNull (value_or_undefined r) → ⊥
value_not_null (Ok n) i = i
value_not_null (Err f) i = i

words_not_null : (f : ℕ → ℕ → Constant) → ((m n : ℕ) → IsNull (f m n) → ⊥) → (a b : Constant) → IsNull (on_words f a b) → ⊥
words_not_null f h a b i = also_not_null b (on_word (λ x. on_word (f x) b) a) (word_not_null (λ x. on_word (f x) b) (λ m. word_not_null (f m) (h m) b) a) i

if_not_null : (b : Bool) (c d : Constant) → (IsNull c → ⊥) → (IsNull d → ⊥) → IsNull (if b then c else d) → ⊥
if_not_null true c d h g i = h i
if_not_null false c d h g i = g i

truth_not_null : (c : Constant) → IsNull (on_word (λ y. Value (truth (not (y == 0)))) c) → ⊥
truth_not_null c i = word_not_null (λ y. Value (truth (not (y == 0)))) (λ n j. j) c i

binary_not_null : (op : CBinary) (a b : Operand) → IsNull (binary_constant op a b) → ⊥
binary_not_null operator.AndAnd a b i =
    also_not_null b.constant (on_word (λ x. if x == 0 then Value 0 else on_word (λ y. Value (truth (not (y == 0)))) b.constant) a.constant)
    (word_not_null (λ x. if x == 0 then Value 0 else on_word (λ y. Value (truth (not (y == 0)))) b.constant)
    (λ n. if_not_null (n == 0) (Value 0) (on_word (λ y. Value (truth (not (y == 0)))) b.constant) (λ j. j) (truth_not_null b.constant)) a.constant) i
binary_not_null operator.OrOr a b i =
    also_not_null b.constant (on_word (λ x. if x == 0 then on_word (λ y. Value (truth (not (y == 0)))) b.constant else Value 1) a.constant)
    (word_not_null (λ x. if x == 0 then on_word (λ y. Value (truth (not (y == 0)))) b.constant else Value 1)
    (λ n. if_not_null (n == 0) (on_word (λ y. Value (truth (not (y == 0)))) b.constant) (Value 1) (truth_not_null b.constant) (λ j. j)) a.constant) i
binary_not_null op a b i =
    words_not_null (λ x y. value_or_undefined (word_operation op (works_unsigned op a.type b.type) x y))
    (λ m n. value_not_null (word_operation op (works_unsigned op a.type b.type) m n)) a.constant b.constant i

unary_not_null : (op : CUnary) (c : Constant) → IsNull (unary_constant op c) → ⊥
unary_not_null unary.Address c i = i
unary_not_null unary.Deref c i = i
unary_not_null unary.Plus c i = word_not_null (λ x. Value x) (λ n j. j) c i
unary_not_null unary.Minus c i = word_not_null (λ x. Value _) (λ n j. j) c i
unary_not_null unary.Complement c i = word_not_null (λ x. Value _) (λ n j. j) c i
unary_not_null unary.Not c i = word_not_null (λ x. Value (truth (x == 0))) (λ n j. j) c i

choice_not_null : (t a b : Constant) → IsNull (chosen t a b) → ⊥
choice_not_null t NotConstant b i = i
choice_not_null t Undefined NotConstant i = i
choice_not_null t Undefined Undefined i = word_not_null (λ x. if x == 0 then Undefined else Undefined) (λ n. if_not_null (n == 0) Undefined Undefined (λ j. j) (λ j. j)) t i
choice_not_null t Undefined (Value n) i = word_not_null (λ x. if x == 0 then Value n else Undefined) (λ m. if_not_null (m == 0) (Value n) Undefined (λ j. j) (λ j. j)) t i
choice_not_null t Undefined Null i = i
choice_not_null t (Value m) NotConstant i = i
choice_not_null t (Value m) Undefined i = word_not_null (λ x. if x == 0 then Undefined else Value m) (λ n. if_not_null (n == 0) Undefined (Value m) (λ j. j) (λ j. j)) t i
choice_not_null t (Value m) (Value n) i = word_not_null (λ x. if x == 0 then Value n else Value m) (λ k. if_not_null (k == 0) (Value n) (Value m) (λ j. j) (λ j. j)) t i
choice_not_null t (Value m) Null i = i
choice_not_null t Null b i = i

size_not_null : (o : Option Extent) → IsNull (size_constant_in o) → ⊥
size_not_null None i = i
size_not_null (Some e) i = if_not_null (nat_le e.size size_limit) (Value e.size) NotConstant (λ j. j) (λ j. j) i

integer_cast_not_null : (type : TypeTree) (c : Constant) → IsNull (if is_integer type then on_word (λ x. Value (narrowed type x)) c else NotConstant) → ⊥
integer_cast_not_null type c i =
    if_not_null (is_integer type) (on_word (λ x. Value (narrowed type x)) c) NotConstant (word_not_null (λ x. Value (narrowed type x)) (λ n j. j) c) (λ j. j) i

-- a cast to a pointer that is null
pub record NullCast (type : TypeTree) (c : Constant) : Type 0 where
  pub is_reference : content_of type ≡ Rattle.p9_cmean.specs.Contents.Reference
  pub is_zero : c ≡ Value 0

null_if_zero : (n : ℕ) (zero : Bool) → (n == 0) ≡ zero → IsNull (if zero then Null else NotConstant) → Value n ≡ Value 0
null_if_zero n true e i = ap (λ k. Value k) (eqb-true n 0 e)
null_if_zero n false e i = absurd i

void_cast : (c : Constant) → IsNull (on_word null_if c) → c ≡ Value 0
void_cast NotConstant i = absurd i
void_cast Undefined i = absurd i
void_cast (Value n) i = null_if_zero n (n == 0) refl i
void_cast Null i = absurd i

null_cast : (type : TypeTree) (c : Constant) → IsNull (cast_constant type c) → NullCast type c
null_cast (Pointer Void) c i = record { is_reference = refl; is_zero = void_cast c i }
null_cast (Pointer target) c i = absurd i
null_cast type c i = absurd (integer_cast_not_null type c i)

one_not_null : (f : Operand → Constant) → ((a : Operand) → IsNull (f a) → ⊥) → (os : List Operand) → IsNull (by_one f os) → ⊥
one_not_null f h [] i = i
one_not_null f h (a ∷ []) i = h a i
one_not_null f h (a ∷ (b ∷ os)) i = i

two_not_null : (f : Operand → Operand → Constant) → ((a b : Operand) → IsNull (f a b) → ⊥) → (os : List Operand) → IsNull (by_two f os) → ⊥
two_not_null f h [] i = i
two_not_null f h (a ∷ []) i = i
two_not_null f h (a ∷ (b ∷ [])) i = h a b i
two_not_null f h (a ∷ (b ∷ (c ∷ os))) i = i

three_not_null : (f : Operand → Operand → Operand → Constant) → ((a b c : Operand) → IsNull (f a b c) → ⊥) → (os : List Operand) → IsNull (by_three f os) → ⊥
three_not_null f h [] i = i
three_not_null f h (a ∷ []) i = i
three_not_null f h (a ∷ (b ∷ [])) i = i
three_not_null f h (a ∷ (b ∷ (c ∷ []))) i = h a b c i
three_not_null f h (a ∷ (b ∷ (c ∷ (d ∷ os)))) i = i

name_not_null : (means : Meant) → IsNull (enumeration_constant means) → ⊥
name_not_null (EnumValue n) i = i
name_not_null means i = i

abbrev pub hands_on : Kind → Bool
hands_on kind.Parens = true
hands_on kind.Cast = true
hands_on k = false

kind_not_null : (tags : Tags) (k : Kind) (type : TypeTree) (means : Meant) (os : List Operand) → hands_on k ≡ false → IsNull (constant_at tags k type means os) → ⊥
kind_not_null tags kind.Parens type means os h i = cc
kind_not_null tags kind.Cast type means os h i = cc
kind_not_null tags (kind.Name x) type means os h i = name_not_null means i
kind_not_null tags (kind.Unary op) type means os h i = one_not_null (λ a. unary_constant op a.constant) (λ a. unary_not_null op a.constant) os i
kind_not_null tags (kind.Binary op) type means os h i = two_not_null (binary_constant op) (binary_not_null op) os i
kind_not_null tags kind.Choose type means os h i =
    three_not_null (λ t a b. chosen t.constant a.constant b.constant) (λ t a b. choice_not_null t.constant a.constant b.constant) os i
kind_not_null tags kind.Comma type means os h i =
    two_not_null (λ a b. on_words (λ x y. Value y) a.constant b.constant) (λ a b. words_not_null (λ x y. Value y) (λ m n j. j) a.constant b.constant) os i
kind_not_null tags kind.SizeofValue type means os h i =
    one_not_null (λ a. size_constant tags a.type) (λ a. size_not_null (layout tags a.type)) os i
kind_not_null tags kind.SizeofType type means os h i =
    one_not_null (λ a. size_constant tags a.type) (λ a. size_not_null (layout tags a.type)) os i
kind_not_null tags k type means os h i = i

pub null_is_worth_null : (around : Surroundings) (e : Typed) (s : State) → ConstantsAreTyped around.tags e → IsNull (constant_of around.tags e) → value around e s ≡ Done null s
null_is_worth_null around (node kind.Parens label (more e none)) s c i = null_is_worth_null around e s c.2.0 i
null_is_worth_null around (node kind.Parens label none) s c i = absurd i
null_is_worth_null around (node kind.Parens label (more a (more b others))) s c i = absurd i
null_is_worth_null around (node kind.Cast label (more type (more e none))) s c i =
    let n : NullCast label.type (constant_of around.tags e) = null_cast label.type (constant_of around.tags e) i in
    ap (λ p. bind p (λ v t. cast_to (content_of label.type) label.type (at around label) v t)) (constants_keep_their_values around e 0 s c.2.1.0 n.is_zero)
    ∙ ap (λ k. cast_to k label.type (at around label) (Word 0) s) n.is_reference
null_is_worth_null around (node kind.Cast label none) s c i = absurd i
null_is_worth_null around (node kind.Cast label (more a none)) s c i = absurd i
null_is_worth_null around (node kind.Cast label (more a (more b (more d others)))) s c i = absurd i
null_is_worth_null around (node k label parts) s c i = absurd (kind_not_null around.tags k label.type label.means (constants_of around.tags parts) refl i)

null_by_constant : (around : Surroundings) (e : Typed) (s : State) (c : Constant) → ConstantsAreTyped around.tags e → constant_of around.tags e ≡ c → is_null_constant c ≡ true
    → value around e s ≡ Done null s
null_by_constant around e s NotConstant t e' h = cc
null_by_constant around e s Undefined t e' h = cc
null_by_constant around e s (Value w) t e' h =
    constants_keep_their_values around e w s t e' ∙ ap (λ n. Done (Word n) s) (eqb-true w 0 h)
null_by_constant around e s Null t e' h = null_is_worth_null around e s t (subst IsNull (sym e') tt)

-- an expression that is converted to null is worth null
pub null_value : (around : Surroundings) (e : Typed) (from to : TypeTree) (s : State) → ConstantsAreTyped around.tags e
    → conversion around.tags from to (is_null_constant (constant_of around.tags e)) ≡ conversions.Null → value around e s ≡ Done null s
null_value around e from to s t h =
    null_by_constant around e s (constant_of around.tags e) t refl (null_conversion around.tags from to (is_null_constant (constant_of around.tags e)) h)
