-- The meaning of constant expressions.
use Rattle.std.proofs.Common.{◌≡◌, ℕ, Bool, true, false, not, if◌then◌else◌, List, Option, Some, None, Result, Ok, Err, refl, sym, ap, subst, ◌∙◌}
use Rattle.std.specs.Prelude.{◌==◌, nat_le}
use Rattle.p9_base.specs.Words.{word_negation, word_complement}
use Rattle.p9_lang.specs.declared.tree.CBinary.{CBinary}
use Rattle.p9_lang.specs.declared.tree.CBinary.TheVariants as operator
use Rattle.p9_lang.specs.declared.tree.CUnary.TheVariants as unary
use Rattle.p9_lang.specs.declared.tree.Kind.TheVariants as kind
use Rattle.p9_lang.specs.Types.{TypeTree, Void, Pointer, Array, Function, Tagged, Tags, Meant, EnumValue}
use Rattle.p9_lang.specs.Trees.{node, none, more}
use Rattle.p9_lang.specs.Layout.{Extent, layout, size_of, size_in, size_limit}
use Rattle.p9_lang.specs.Modules.{Typed, TypedRow}
use Rattle.p9_lang.specs.Conversions.{is_integer, is_pointer, decayed}
use Rattle.p9_lang.specs.Constants.{Constant, NotConstant, Undefined, Value, Null, WordFault, truth, word_operation, works_unsigned, narrowed, on_word, also, value_or_undefined, cast_constant, null_if, size_constant, size_constant_in, type_at, constant_of, enumeration_constant}
use Rattle.p9_cmean.specs.declared.Place.{Place}
use Rattle.p9_cmean.specs.Cells as cells
use Rattle.p9_cmean.specs.Cells.{Word, Object, State}
use Rattle.p9_cmean.specs.Plays.{Play, Done, bind}
use Rattle.p9_cmean.specs.Contents.{content_of}
use Rattle.p9_cmean.specs.Operators.{operation, of_integers, word_or_cause}
use Rattle.p9_cmean.specs.Places.{used, done_at, or_no_meaning}
use Rattle.p9_cmean.specs.Expressions as x
use Rattle.p9_cmean.specs.Expressions.{Surroundings, at, operand_type, value}
use Rattle.p9_cmean.specs.ConstantLaws.{HasIntegerType, ConstantsAreTyped, ConstantsKeepTheirValues}

-- CONSTANTS THAT ARE VALUES

abbrev Is : Constant → ℕ → Type 0
Is NotConstant w = ⊥
Is Undefined w = ⊥
Is (Value n) w = n ≡ w
Is Null w = ⊥

is_from : (c : Constant) (w : ℕ) → c ≡ Value w → Is c w
is_from c w h = subst (λ d. Is d w) (sym h) refl

abbrev FromWord : (ℕ → Constant) → Constant → ℕ → Type 0
FromWord f c w = (n : ℕ) × (c ≡ Value n) × (f n ≡ Value w)

from_word : (f : ℕ → Constant) (c : Constant) (w : ℕ) → on_word f c ≡ Value w → FromWord f c w
from_word f NotConstant w h = absurd (is_from NotConstant w h)
from_word f Undefined w h = absurd (is_from Undefined w h)
from_word f (Value n) w h = (n, refl, h)
from_word f Null w h = absurd (is_from NotConstant w h)

from_also : (a b : Constant) (w : ℕ) → also a b ≡ Value w → b ≡ Value w
from_also NotConstant b w h = absurd (is_from NotConstant w h)
from_also Undefined b w h = h
from_also (Value n) b w h = h
from_also Null b w h = absurd (is_from NotConstant w h)

word_done : (n w : ℕ) (s : State) → Value n ≡ Value w → Done (Word n) s ≡ Done (Word w) s
word_done n w s h = ap (λ i. Done (Word i) s) (is_from (Value n) w h)

-- OPERANDS OF INTEGER TYPES

abbrev IsFalse : Bool → Type 0
IsFalse true = ⊥
IsFalse false = Unit {0}

false_is_not_true : false ≡ true → ⊥
false_is_not_true h = subst IsFalse h tt

decayed_is : (type : TypeTree) → is_integer type ≡ true → decayed type ≡ type
decayed_is (Array t n) h = absurd (false_is_not_true h)
decayed_is (Function t ts) h = absurd (false_is_not_true h)
decayed_is type h = refl

test_is : (type : TypeTree) → is_integer type ≡ true → (pl : Place) (n : ℕ) (s : State) → x.test_at pl type (Word n) s ≡ Done (not (n == 0)) s
test_is Void h pl n s = absurd (false_is_not_true h)
test_is (Pointer t) h pl n s = absurd (false_is_not_true h)
test_is (Array t k) h pl n s = absurd (false_is_not_true h)
test_is (Function t ts) h pl n s = absurd (false_is_not_true h)
test_is (Tagged i) h pl n s = absurd (false_is_not_true h)
test_is type h pl n s = refl

test_operand : (type : TypeTree) → is_integer type ≡ true → (pl : Place) (n : ℕ) (s : State) → x.test_at pl (decayed type) (Word n) s ≡ Done (not (n == 0)) s
test_operand type h pl n s = subst (λ t. x.test_at pl t (Word n) s ≡ Done (not (n == 0)) s) (sym (decayed_is type h)) (test_is type h pl n s)

operation_is : (op : CBinary) (tags : Tags) (objects : List Object) (t u : TypeTree) (a b : cells.Value) → is_integer t ≡ true → is_integer u ≡ true
    → operation op tags objects t u a b ≡ Some (of_integers op t u a b)
operation_is op tags objects Void u a b h g = absurd (false_is_not_true h)
operation_is op tags objects (Pointer t) u a b h g = absurd (false_is_not_true h)
operation_is op tags objects (Array t n) u a b h g = absurd (false_is_not_true h)
operation_is op tags objects (Function t ts) u a b h g = absurd (false_is_not_true h)
operation_is op tags objects (Tagged i) u a b h g = absurd (false_is_not_true h)
operation_is op tags objects t Void a b h g = absurd (false_is_not_true g)
operation_is op tags objects t (Pointer u) a b h g = absurd (false_is_not_true g)
operation_is op tags objects t (Array u n) a b h g = absurd (false_is_not_true g)
operation_is op tags objects t (Function u us) a b h g = absurd (false_is_not_true g)
operation_is op tags objects t (Tagged i) a b h g = absurd (false_is_not_true g)
operation_is op tags objects t u a b h g = refl

done_is : (r : Result ℕ WordFault) (w : ℕ) (pl : Place) (s : State) → value_or_undefined r ≡ Value w → done_at pl s (word_or_cause r) ≡ Done (Word w) s
done_is (Ok n) w pl s h = word_done n w s h
done_is (Err fault) w pl s h = absurd (is_from Undefined w h)

operate_is : (around : Surroundings) (pl : Place) (op : CBinary) (t u : TypeTree) (m n w : ℕ) (s : State) → is_integer t ≡ true → is_integer u ≡ true
    → value_or_undefined (word_operation op (works_unsigned op t u) m n) ≡ Value w → x.operate around pl op t u (Word m) (Word n) s ≡ Done (Word w) s
operate_is around pl op t u m n w s h g k =
    ap (λ r. or_no_meaning pl s r (λ result. done_at pl s result)) (operation_is op around.tags s.objects t u (Word m) (Word n) h g)
    ∙ done_is (word_operation op (works_unsigned op t u) m n) w pl s k

operate_operands : (around : Surroundings) (pl : Place) (op : CBinary) (t u : TypeTree) (m n w : ℕ) (s : State) → is_integer t ≡ true → is_integer u ≡ true
    → value_or_undefined (word_operation op (works_unsigned op t u) m n) ≡ Value w → x.operate around pl op (decayed t) (decayed u) (Word m) (Word n) s ≡ Done (Word w) s
operate_operands around pl op t u m n w s h g k =
    subst (λ i. x.operate around pl op i (decayed u) (Word m) (Word n) s ≡ Done (Word w) s) (sym (decayed_is t h))
    (subst (λ i. x.operate around pl op t i (Word m) (Word n) s ≡ Done (Word w) s) (sym (decayed_is u g)) (operate_is around pl op t u m n w s h g k))

-- a left operand that is a number
left_by : (b : Bool) (pl : Place) (n : ℕ) (s : State)
    → (if b then used (Word n) s (λ w. Done w s) else x.promoted pl (Word n) s) ≡ Done (Word n) s
left_by true pl n s = refl
left_by false pl n s = refl

left_is : (pl : Place) (type : TypeTree) (p : Play cells.Value) (n : ℕ) (s : State) → p ≡ Done (Word n) s → x.left_operand pl type p ≡ Done (Word n) s
left_is pl type p n s h = ap (λ q. x.left_operand pl type q) h ∙ left_by (is_pointer type) pl n s

-- CHOICES

choose_and : (c : Bool) (k : Constant) (p : Play cells.Value) (w : ℕ) (s : State) → (if c then Value 0 else k) ≡ Value w → (k ≡ Value w → p ≡ Done (Word w) s)
    → (if not c then p else Done (Word 0) s) ≡ Done (Word w) s
choose_and true k p w s h g = word_done 0 w s h
choose_and false k p w s h g = g h

choose_or : (c : Bool) (k : Constant) (p : Play cells.Value) (w : ℕ) (s : State) → (if c then k else Value 1) ≡ Value w → (k ≡ Value w → p ≡ Done (Word w) s)
    → (if not c then Done (Word 1) s else p) ≡ Done (Word w) s
choose_or true k p w s h g = g h
choose_or false k p w s h g = word_done 1 w s h

choose_one : (c : Bool) (a b : Constant) (p q : Play cells.Value) (w : ℕ) (s : State) → (if c then b else a) ≡ Value w
    → (a ≡ Value w → p ≡ Done (Word w) s) → (b ≡ Value w → q ≡ Done (Word w) s) → (if not c then p else q) ≡ Done (Word w) s
choose_one true a b p q w s h f g = g h
choose_one false a b p q w s h f g = f h

not_not : (b : Bool) → not (not b) ≡ b
not_not true = refl
not_not false = refl

chosen_is : (type : TypeTree) (n : ℕ) (s : State) → x.chosen type (Word n) s ≡ Done (Word n) s
chosen_is Void n s = refl
chosen_is type n s = refl

-- NAMES, CASTS AND SIZES

name_is : (around : Surroundings) (number token : ℕ) (type : TypeTree) (means : Meant) (w : ℕ) (s : State) → enumeration_constant means ≡ Value w
    → x.value_of_name around (record { number = number; token = token; type = type; means = means }) s ≡ Done (Word w) s
name_is around number token type (EnumValue n) w s h = word_done n w s h
name_is around number token type means w s h = absurd (is_from NotConstant w h)

abbrev CastIs : TypeTree → Constant → ℕ → Type 0
CastIs type c w = (n : ℕ) × (c ≡ Value n) × ((pl : Place) (s : State) → x.cast_to (content_of type) type pl (Word n) s ≡ Done (Word w) s)

cast_null : (c : Constant) (w : ℕ) (type : TypeTree) → on_word null_if c ≡ Value w → CastIs type c w
cast_null c w type h = absurd (never (from_word null_if c w h))
  where
    null_is : (b : Bool) (w : ℕ) → (if b then Null else NotConstant) ≡ Value w → ⊥
    null_is true w h = is_from Null w h
    null_is false w h = is_from NotConstant w h

    never : FromWord null_if c w → ⊥
    never r = null_is (r.0 == 0) w r.2

cast_is : (type : TypeTree) (c : Constant) (w : ℕ) → cast_constant type c ≡ Value w → CastIs type c w
cast_is Void c w h = absurd (is_from NotConstant w h)
cast_is (Pointer Void) c w h = cast_null c w (Pointer Void) h
cast_is (Pointer t) c w h = absurd (is_from NotConstant w h)
cast_is (Array t n) c w h = absurd (is_from NotConstant w h)
cast_is (Function t ts) c w h = absurd (is_from NotConstant w h)
cast_is (Tagged i) c w h = absurd (is_from NotConstant w h)
cast_is type c w h =
    let r : FromWord (λ n. Value (narrowed type n)) c w = from_word (λ n. Value (narrowed type n)) c w h in
    (r.0, r.1, λ pl s. word_done (narrowed type r.0) w s r.2)

size_choice : (b : Bool) (n w : ℕ) → (if b then Value n else NotConstant) ≡ Value w → n ≡ w
size_choice true n w h = is_from (Value n) w h
size_choice false n w h = absurd (is_from NotConstant w h)

extent_is : (extent : Option Extent) (w : ℕ) → size_constant_in extent ≡ Value w → size_in extent ≡ w
extent_is None w h = absurd (is_from NotConstant w h)
extent_is (Some e) w h = size_choice (nat_le e.size size_limit) e.size w h

size_is : (tags : Tags) (type : TypeTree) (w : ℕ) → size_constant tags type ≡ Value w → size_of tags type ≡ w
size_is tags type w h = extent_is (layout tags type) w h

-- EXPRESSIONS

abbrev IsNoRow : TypedRow → Type 0
IsNoRow none = Unit {0}
IsNoRow (more e es) = ⊥

no_parts : (e : Typed) (es : TypedRow) → more e es ≡ none → ⊥
no_parts e es h = subst IsNoRow (sym h) tt

typed_of : (tags : Tags) (e : Typed) → ConstantsAreTyped tags e → HasIntegerType tags e
typed_of tags (node k label parts) t = t.0

module _ (around : Surroundings) where
  abbrev c_of : Typed → Constant
  c_of e = constant_of around.tags e

  after : (e : Typed) (n : ℕ) (s : State) (k : cells.Value → State → Play cells.Value) → value around e s ≡ Done (Word n) s → bind (value around e s) k ≡ k (Word n) s
  after e n s k h = ap (λ p. bind p k) h

  -- the test of an operand that is a constant
  tested : (e : Typed) (n : ℕ) (pl : Place) (s : State) (k : Bool → State → Play cells.Value) → ConstantsAreTyped around.tags e → c_of e ≡ Value n
      → bind (x.test_at pl (operand_type e) (Word n) s) k ≡ k (not (n == 0)) s
  tested e n pl s k t h = ap (λ p. bind p k) (test_operand (type_at e) (typed_of around.tags e t n h) pl n s)

  pub constants_are : (e : Typed) (w : ℕ) (s : State) → ConstantsAreTyped around.tags e → c_of e ≡ Value w → value around e s ≡ Done (Word w) s
  constants_are (node (kind.Number n unsigned long) label none) w s t h = word_done n w s h
  constants_are (node (kind.Number n unsigned long) label (more e es)) w s t h = absurd (no_parts e es t.1)
  constants_are (node (kind.Character n) label none) w s t h = word_done n w s h
  constants_are (node (kind.Character n) label (more e es)) w s t h = absurd (no_parts e es t.1)
  constants_are (node (kind.Name y) label none) w s t h = name_is around label.number label.token label.type label.means w s h
  constants_are (node (kind.Name y) label (more e es)) w s t h = absurd (no_parts e es t.1)
  constants_are (node kind.Parens label (more e none)) w s t h = constants_are e w s t.2.0 h
  constants_are (node (kind.Unary unary.Address) label none) w s t h = absurd (is_from NotConstant w h)
  constants_are (node (kind.Unary unary.Address) label (more e none)) w s t h = absurd (is_from NotConstant w h)
  constants_are (node (kind.Unary unary.Address) label (more e (more f es))) w s t h = absurd (is_from NotConstant w h)
  constants_are (node (kind.Unary unary.Deref) label none) w s t h = absurd (is_from NotConstant w h)
  constants_are (node (kind.Unary unary.Deref) label (more e none)) w s t h = absurd (is_from NotConstant w h)
  constants_are (node (kind.Unary unary.Deref) label (more e (more f es))) w s t h = absurd (is_from NotConstant w h)
  constants_are (node (kind.Unary unary.Plus) label (more e none)) w s t h =
      let r : FromWord (λ n. Value n) (c_of e) w = from_word (λ n. Value n) (c_of e) w h in
      after e r.0 s _ (constants_are e r.0 s t.2.0 r.1) ∙ word_done r.0 w s r.2
  constants_are (node (kind.Unary unary.Minus) label (more e none)) w s t h =
      let r : FromWord (λ n. Value (word_negation n)) (c_of e) w = from_word (λ n. Value (word_negation n)) (c_of e) w h in
      after e r.0 s _ (constants_are e r.0 s t.2.0 r.1) ∙ word_done (word_negation r.0) w s r.2
  constants_are (node (kind.Unary unary.Complement) label (more e none)) w s t h =
      let r : FromWord (λ n. Value (word_complement n)) (c_of e) w = from_word (λ n. Value (word_complement n)) (c_of e) w h in
      after e r.0 s _ (constants_are e r.0 s t.2.0 r.1) ∙ word_done (word_complement r.0) w s r.2
  constants_are (node (kind.Unary unary.Not) label (more e none)) w s t h =
      let r : FromWord (λ n. Value (truth (n == 0))) (c_of e) w = from_word (λ n. Value (truth (n == 0))) (c_of e) w h in
      after e r.0 s _ (constants_are e r.0 s t.2.0 r.1)
      ∙ tested e r.0 (at around label) s _ t.2.0 r.1
      ∙ ap (λ b. Done (Word (truth b)) s) (not_not (r.0 == 0))
      ∙ word_done (truth (r.0 == 0)) w s r.2
  constants_are (node (kind.Binary operator.AndAnd) label (more l (more r none))) w s t h =
      let k : Constant = on_word (λ y. Value (truth (not (y == 0)))) (c_of r) in
      let m : FromWord (λ n. if n == 0 then Value 0 else k) (c_of l) w =
      from_word (λ n. if n == 0 then Value 0 else k) (c_of l) w (from_also (c_of r) (on_word (λ n. if n == 0 then Value 0 else k) (c_of l)) w h)
      in
      after l m.0 s _ (constants_are l m.0 s t.2.0 m.1)
      ∙ tested l m.0 (at around label) s _ t.2.0 m.1
      ∙ choose_and (m.0 == 0) k _ w s m.2 (λ e.
      let q : FromWord (λ y. Value (truth (not (y == 0)))) (c_of r) w = from_word (λ y. Value (truth (not (y == 0)))) (c_of r) w e in
      after r q.0 s _ (constants_are r q.0 s t.2.1.0 q.1) ∙ tested r q.0 (at around label) s _ t.2.1.0 q.1 ∙ word_done (truth (not (q.0 == 0))) w s q.2)
  constants_are (node (kind.Binary operator.OrOr) label (more l (more r none))) w s t h =
      let k : Constant = on_word (λ y. Value (truth (not (y == 0)))) (c_of r) in
      let m : FromWord (λ n. if n == 0 then k else Value 1) (c_of l) w =
      from_word (λ n. if n == 0 then k else Value 1) (c_of l) w (from_also (c_of r) (on_word (λ n. if n == 0 then k else Value 1) (c_of l)) w h)
      in
      after l m.0 s _ (constants_are l m.0 s t.2.0 m.1)
      ∙ tested l m.0 (at around label) s _ t.2.0 m.1
      ∙ choose_or (m.0 == 0) k _ w s m.2 (λ e.
      let q : FromWord (λ y. Value (truth (not (y == 0)))) (c_of r) w = from_word (λ y. Value (truth (not (y == 0)))) (c_of r) w e in
      after r q.0 s _ (constants_are r q.0 s t.2.1.0 q.1) ∙ tested r q.0 (at around label) s _ t.2.1.0 q.1 ∙ word_done (truth (not (q.0 == 0))) w s q.2)
  constants_are (node (kind.Binary op) label (more l (more r none))) w s t h =
      let f : ℕ → ℕ → Constant = λ m n. value_or_undefined (word_operation op (works_unsigned op (type_at l) (type_at r)) m n) in
      let a : FromWord (λ m. on_word (f m) (c_of r)) (c_of l) w = from_word (λ m. on_word (f m) (c_of r)) (c_of l) w (from_also (c_of r) (on_word (λ m. on_word (f m) (c_of r)) (c_of l)) w h) in
      let b : FromWord (f a.0) (c_of r) w = from_word (f a.0) (c_of r) w a.2 in
      ap (λ p. bind p (λ v u. bind (value around r u) (λ y z. x.operate around (at around label) op (operand_type l) (operand_type r) v y z)))
      (left_is (at around label) (operand_type l) (value around l s) a.0 s (constants_are l a.0 s t.2.0 a.1))
      ∙ after r b.0 s _ (constants_are r b.0 s t.2.1.0 b.1)
      ∙ operate_operands around (at around label) op (type_at l) (type_at r) a.0 b.0 w s (typed_of around.tags l t.2.0 a.0 a.1) (typed_of around.tags r t.2.1.0 b.0 b.1) b.2
  constants_are (node kind.Choose label (more test (more first (more second none)))) w s t h =
      let f : ℕ → Constant = λ n. if n == 0 then c_of second else c_of first in
      let m : FromWord f (c_of test) w =
      from_word f (c_of test) w (from_also (c_of second) (on_word f (c_of test)) w (from_also (c_of first) (also (c_of second) (on_word f (c_of test))) w h))
      in
      after test m.0 s _ (constants_are test m.0 s t.2.0 m.1)
      ∙ tested test m.0 (at around label) s _ t.2.0 m.1
      ∙ choose_one (m.0 == 0) (c_of first) (c_of second) _ _ w s m.2
      (λ e. after first w s _ (constants_are first w s t.2.1.0 e) ∙ chosen_is label.type w s)
      (λ e. after second w s _ (constants_are second w s t.2.1.1.0 e) ∙ chosen_is label.type w s)
  constants_are (node kind.Comma label (more l (more r none))) w s t h =
      let a : FromWord (λ m. on_word (λ n. Value n) (c_of r)) (c_of l) w = from_word (λ m. on_word (λ n. Value n) (c_of r)) (c_of l) w (from_also (c_of r) (on_word (λ m. on_word (λ n. Value n) (c_of r)) (c_of l)) w h) in
      let b : FromWord (λ n. Value n) (c_of r) w = from_word (λ n. Value n) (c_of r) w a.2 in
      after l a.0 s _ (constants_are l a.0 s t.2.0 a.1) ∙ constants_are r b.0 s t.2.1.0 b.1 ∙ word_done b.0 w s b.2
  constants_are (node kind.Cast label (more type (more e none))) w s t h =
      let r : CastIs label.type (c_of e) w = cast_is label.type (c_of e) w h in
      after e r.0 s _ (constants_are e r.0 s t.2.1.0 r.1) ∙ r.2 (at around label) s
  constants_are (node kind.SizeofValue label (more e none)) w s t h = ap (λ i. Done (Word i) s) (size_is around.tags (type_at e) w h)
  constants_are (node kind.SizeofType label (more e none)) w s t h = ap (λ i. Done (Word i) s) (size_is around.tags (type_at e) w h)
  constants_are (node k label parts) w s t h = absurd (is_from NotConstant w h)

pub constants_keep_their_values : ConstantsKeepTheirValues
constants_keep_their_values around e w s t h = constants_are around e w s t h
