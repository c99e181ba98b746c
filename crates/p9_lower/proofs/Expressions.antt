-- The trees of expressions mean what the expressions mean.
use Rattle.std.proofs.Common.{◌≡◌, ℕ, zero, suc, Bool, true, false, not, if◌then◌else◌, List, [], ◌∷◌, Some, None, Result, Ok, Err, refl, sym, ap, ◌∙◌, subst}
use Rattle.std.specs.List.{list_any}
use Rattle.p9_base.specs.Words.{word_negation, word_complement}
use Rattle.p9_lang.specs.declared.tree.CBinary.TheVariants as operator
use Rattle.p9_lang.specs.declared.tree.CUnary.TheVariants as unary
use Rattle.p9_lang.specs.declared.tree.Kind.TheVariants as kind
use Rattle.p9_lang.specs.Trees.{node, none, more}
use Rattle.p9_lang.specs.Types.{TypeTree, TypeRow, Int, Meant, Nothing, Outer, Static, Auto, EnumValue, TypeName}
use Rattle.p9_lang.specs.Types as types
use Rattle.p9_lang.specs.Layout.{size_of}
use Rattle.p9_lang.specs.Conversions.{is_structure}
use Rattle.p9_lang.specs.Constants.{truth, type_at, constant_of, is_null_constant}
use Rattle.p9_lang.specs.Modules.{Label, Typed, TypedRow}
use Rattle.p9_lang.specs.Symbols.{Symbol}
use Rattle.p9_cmean.specs.declared.Cause.{Cause}
use Rattle.p9_cmean.specs.declared.Cause.TheVariants as cause
use Rattle.p9_cmean.specs.declared.Place.{Place}
use Rattle.p9_cmean.specs.Cells.{FunctionName, Value, Word, Address, Missing, Object, State}
use Rattle.p9_cmean.specs.Cells as cells
use Rattle.p9_cmean.specs.Plays.{Play, Done, Ask, bind}
use Rattle.p9_cmean.specs.Places.{used, or_wrong, done_at}
use Rattle.p9_cmean.specs.Access.{and_go, pointer_in, is_dead, is_outside}
use Rattle.p9_cmean.specs.Contents.{content_of}
use Rattle.p9_cmean.specs.ConstantLaws.{ConstantsAreTyped, AllConstantsAreTyped}
use Rattle.p9_cmean.specs.Expressions.{Surroundings, at, operand_type, lvalue_place, address_of_name, value_of_name, read_at, member_offset, member_at, left_operand, operate, conversion_of, convert_at, assign, assign_scalar, assign_structure, test_at, parameters_of, pointed, function_at, gives_integer, answered_as, answered, call_through, address, value, values}
use Rattle.p9_cmean.proofs.Plays.{bind_assoc}
use Rattle.p9_tree.specs.declared.tree.UnOp.TheVariants as un
use Rattle.p9_tree.specs.Same.{SameCall, Equal}
use Rattle.p9_tree.specs.Same as plays
use Rattle.p9_tree.specs.Trees.{Tree, Trees}
use Rattle.p9_tree.specs.Trees as trees
use Rattle.p9_tree.specs.Operations.{of_one, called}
use Rattle.p9_tree.specs.Operations as operations
use Rattle.p9_tree.specs.Meaning.{Environment, evaluate, evaluate_all, test, call, nowhere}
use Rattle.p9_tree.proofs.Same.{same_bind, same_if}
use Rattle.p9_lower.specs.Names.{name_tree}
use Rattle.p9_lower.specs.Operators.{width_of, stored_tree, read_tree, inner_tree, binary_tree, passed_tree, conversion_to, assigned_tree}
use Rattle.p9_lower.specs.Expressions.{named_tree, place_tree, value_tree, argument_trees}
use Rattle.p9_lower.specs.Premises.{NameIsKnown, NodesAreSound, RowIsSound}
use Rattle.p9_lower.specs.Keeping.{Stands, Agree, setting_in}
use Rattle.p9_lower.specs.Laws.{ValuesMean, PlacesMean}
use Rattle.p9_lower.proofs.Plays.{stands_refl, stands_alike, along, used_free, used_same, result_same}
use Rattle.p9_lower.proofs.Binary.{binary_same}
use Rattle.p9_lower.proofs.Access.{then_same, name_same, read_same, inner_same, test_same, converted_same, cast_same, chosen_same, word_same, plus_same}
use Rattle.p9_lower.proofs.Assigning.{scalar_same, structure_same}
use Rattle.p9_lower.proofs.Updating.{updated_same, before_same, behind_same}
use Rattle.p9_lower.proofs.Nulls.{inner_is_pointer, null_value}
use Rattle.p9_lower.proofs.Held.{Held, held_same, converted_gives, held_used}

-- CALLS

no_call : (dead outside : Bool) (f : FunctionName) → (if dead then Err cause.Dead else (if outside then Err cause.Range else Err cause.WrongCall)) ≡ Ok f → ⊥
no_call true outside f e = cc
no_call false true f e = cc
no_call false false f e = cc

has_type_call : (b : Bool) (g f : FunctionName) → (if b then Ok g else Err cause.WrongCall) ≡ Ok f → g ≡ f
has_type_call true g f e = cc
has_type_call false g f e = cc

called_by : (around : Surroundings) (type : TypeTree) (objects : List Object) (v : Value) (f : FunctionName)
    → and_go (pointer_in v) (function_at around type objects) ≡ Ok f → called v ≡ Ok f
called_by around type objects (Word zero) f e = cc
called_by around type objects (Word (suc n)) f e = cc
called_by around type objects (Address (cells.Into o n)) f e =
    absurd (no_call (list_any (is_dead objects) (cells.Into o n ∷ [])) (list_any (is_outside objects) (cells.Into o n ∷ [])) f e)
called_by around type objects (Address (cells.ToFunction g)) f e = ap Ok (has_type_call (around.has_type g type) g f e)
called_by around type objects (Missing c) f e = cc

-- what a call answers
answered_same : (integer : Bool) (place : Place) (x y : Value) (s : State) → plays.Alike x y → plays.Same Stands (answered_as integer place x s) (Done y s)
answered_same true place (Word n) y s a = (y, refl, a)
answered_same true place (Address p) y s a = tt
answered_same true place (Missing c) y s a = (y, refl, tt)
answered_same false place x y s a = (y, refl, stands_alike x y a)

call_same : (around : Surroundings) (place : Place) (type : TypeTree) (v w : Value) (vs ws : List Value) (s : State) → Stands v w → vs ≡ ws
    → plays.Same Stands (call_through around place type v vs s) (call w ws s)
call_same around place type v w vs ws s h e =
    used_same Stands v w s _ _ h (result_same Stands place s (and_go (pointer_in w) (function_at around type s.objects)) _ _ (λ f g.
    along Stands (Ask (record { function = f; arguments = vs; place = place }) s (λ x t. answered place type x t))
    (or_wrong nowhere s (called w) (λ name. Ask (record { function = name; arguments = ws; place = nowhere }) s (λ x t. Done x t)))
    (Ask (record { function = f; arguments = ws; place = nowhere }) s (λ x t. Done x t))
    (ap (λ r. or_wrong nowhere s r (λ name. Ask (record { function = name; arguments = ws; place = nowhere }) s (λ x t. Done x t))) (called_by around type s.objects w f g))
    (record { function = f; arguments = ws; place = nowhere }, λ x t. Done x t, refl, record { function = refl; arguments = sym e }, λ x y t a. answered_same (gives_integer type) place x y t a)))

-- GROUPS of plays

pub from_same : {A : Type 0} (R : A → A → Type 0) (p p' q : Play A) → p ≡ p' → plays.Same R p q → plays.Same R p' q
from_same R p p' q e h = subst (λ x. plays.Same R x q) e h

both_assoc : (p : Play Value) (k : State → Play Value) (o : Value → Value → State → Play Value) (r : Value → State → Play Value)
    → bind (bind p (λ a t. bind (k t) (λ i u. o a i u))) r ≡ bind p (λ a t. bind (k t) (λ i u. bind (o a i u) r))
both_assoc p k o r = bind_assoc p (λ a t. bind (k t) (λ i u. o a i u)) r ∙ (λ j. bind p (λ a t. bind_assoc (k t) (o a) r j))

used_bind : (v : Value) (s : State) (r : Value → State → Play Value) → bind (used v s (λ w. Done w s)) r ≡ used v s (λ w. r w s)
used_bind (Word n) s r = refl
used_bind (Address p) s r = refl
used_bind (Missing c) s r = refl

used_assoc : (p : Play Value) (r : Value → State → Play Value) → bind (bind p (λ v t. used v t (λ w. Done w t))) r ≡ bind p (λ v t. used v t (λ w. r w t))
used_assoc p r = bind_assoc p (λ v t. used v t (λ w. Done w t)) r ∙ (λ j. bind p (λ v t. used_bind v t r j))

-- `!`
not_done : (s : State) (r : Result Bool Cause)
    → done_at nowhere s (and_go r (λ holds. Ok (Word (truth (not holds))))) ≡ bind (done_at nowhere s r) (λ holds u. Done (Word (truth (not holds))) u)
not_done s (Ok b) = refl
not_done s (Err why) = refl

not_is : (v : Value) (s : State) → used v s (λ w. done_at nowhere s (of_one un.Not s.objects w)) ≡ bind (test v s) (λ holds u. Done (Word (truth (not holds))) u)
not_is (Word n) s = not_done s (operations.test_of s.objects (Word n))
not_is (Address p) s = not_done s (operations.test_of s.objects (Address p))
not_is (Missing c) s = refl

module _ (symbols : List Symbol) (around : Surroundings) (env : Environment) (agree : Agree symbols around env) where
  -- the second operand of `&&` and `||`, and what they are
  second_same : (place : Place) (type : TypeTree) (p : Play Value) (t : Tree) (s : State) → plays.Same Stands p (evaluate env t s)
      → plays.Same Stands (bind p (λ b w. bind (test_at place type b w) (λ second x. Done (Word (truth second)) x)))
      (bind (evaluate env t s) (λ b w. bind (test b w) (λ second x. Done (Word (truth second)) x)))
  second_same place type p t s h =
      same_bind Stands Stands p (evaluate env t s) _ _ h (λ b b' w g.
      same_bind Equal Stands (test_at place type b w) (test b' w) _ _ (test_same place type b b' w g) (λ x y u e. (Word (truth y), refl, ap (λ z. Word (truth z)) e)))

  -- an argument or a result, as a value of a type
  pub passed_same : (place : Place) (e : Typed) (to : TypeTree) (s : State) → ConstantsAreTyped around.tags e
      → plays.Same Stands (value around e s) (evaluate env (value_tree (setting_in symbols around) e) s)
      → plays.Same Held (bind (value around e s) (λ v t. convert_at (conversion_of around e to) place to v t))
      (evaluate env (passed_tree around.tags e to (value_tree (setting_in symbols around) e)) s)
  passed_same place e to s c h =
      held_same (bind (value around e s) (λ v t. convert_at (conversion_of around e to) place to v t)) _ (converted_gives (conversion_of around e to) place to (value around e s))
      (converted_same env agree.moved place (conversion_of around e to) to (value around e s) (value_tree (setting_in symbols around) e) s
      (λ i. null_value around e (operand_type e) to s c i) h)

  -- an assignment of an expression
  assigned_by : (structure : Bool) (place : Place) (e : Typed) (type : TypeTree) (p : Play Value) (a : Tree) (s : State) → ConstantsAreTyped around.tags e
      → plays.Same Stands p (evaluate env a s)
      → ((t : State) → plays.Same Stands (value around e t) (evaluate env (value_tree (setting_in symbols around) e) t))
      → plays.Same Stands
      (bind p (λ to t. bind (value around e t) (λ v u.
      if structure then assign_structure around place (lvalue_place around e) type to v u else assign_scalar around (conversion_of around e type) place type to v u)))
      (evaluate env (if structure then trees.Copy (size_of around.tags type) a (value_tree (setting_in symbols around) e)
      else trees.Store (width_of type) a (stored_tree (conversion_to around.tags e type) (value_tree (setting_in symbols around) e))) s)
  assigned_by true place e type p a s c hp hk =
      structure_same env around place (lvalue_place around e) type p (value around e) a (value_tree (setting_in symbols around) e) s hp hk
  assigned_by false place e type p a s c hp hk =
      scalar_same env agree.moved around place type p (value around e) a (value_tree (setting_in symbols around) e) s hp hk (conversion_to around.tags e type)
      (λ i t. null_value around e (operand_type e) type t c i)
      (λ offset i. inner_is_pointer around.tags (operand_type e) type (is_null_constant (constant_of around.tags e)) offset i)

  pub assigned_same : (place : Place) (e : Typed) (type : TypeTree) (p : Play Value) (a : Tree) (s : State) → ConstantsAreTyped around.tags e
      → plays.Same Stands p (evaluate env a s)
      → ((t : State) → plays.Same Stands (value around e t) (evaluate env (value_tree (setting_in symbols around) e) t))
      → plays.Same Stands (bind p (λ to t. bind (value around e t) (λ v u. assign around place e type to v u)))
      (evaluate env (assigned_tree around.tags e type a (value_tree (setting_in symbols around) e)) s)
  assigned_same place e type p a s c hp hk = assigned_by (is_structure type) place e type p a s c hp hk

  read_name : (number token : ℕ) (type : TypeTree) (means : Meant) (s : State) → NameIsKnown symbols type means
      → plays.Same Stands
      (bind (address_of_name around (record { number = number; token = token; type = type; means = means }) s)
      (λ p t. read_at around type (at around (record { number = number; token = token; type = type; means = means })) p t))
      (evaluate env (read_tree type (name_tree (setting_in symbols around) means)) s)
  read_name number token type means s h =
      read_same env around type (at around (record { number = number; token = token; type = type; means = means }))
      (address_of_name around (record { number = number; token = token; type = type; means = means }) s) (name_tree (setting_in symbols around) means) s
      (name_same symbols around env agree (at around (record { number = number; token = token; type = type; means = means })) s type means h)

  named_by : (number token : ℕ) (type : TypeTree) (means : Meant) (s : State) → NameIsKnown symbols type means
      → plays.Same Stands (value_of_name around (record { number = number; token = token; type = type; means = means }) s)
      (evaluate env (named_tree (setting_in symbols around) (record { number = number; token = token; type = type; means = means })) s)
  named_by number token type (EnumValue n) s h = (Word n, refl, refl)
  named_by number token type means s h = read_name number token type means s h

  named_same : (label : Label) (s : State) → NameIsKnown symbols label.type label.means
      → plays.Same Stands (value_of_name around label s) (evaluate env (named_tree (setting_in symbols around) label) s)
  named_same label s h = named_by label.number label.token label.type label.means s h

  mutual
    pub place_same : (e : Typed) (s : State) → ConstantsAreTyped around.tags e → NodesAreSound (setting_in symbols around) e
        → plays.Same Stands (address around e s) (evaluate env (place_tree (setting_in symbols around) e) s)
    place_same (node (kind.Name x) label none) s c n = name_same symbols around env agree (at around label) s label.type label.means n.0
    place_same (node (kind.Text texts) label none) s c n = name_same symbols around env agree (at around label) s label.type label.means n.0
    place_same (node kind.Parens label (more e none)) s c n = place_same e s c.2.0 n.1.0
    place_same (node (kind.Unary unary.Deref) label (more e none)) s c n =
        then_same (value around e s) _ _ (value_same e s c.2.0 n.1.0) (λ v w t g. used_free Stands v w t _ (Done w t) g (w, refl, stands_refl w))
    place_same (node kind.Index label (more array (more index none))) s c n =
        binary_same env agree.moved (at around label) around.tags (value around array s) (value around index)
        (value_tree (setting_in symbols around) array) (value_tree (setting_in symbols around) index) s
        (value_same array s c.2.0 n.1.0) (λ t. value_same index t c.2.1.0 n.1.1.0)
        operator.Add (operand_type array) (operand_type index) refl refl
    place_same (node (kind.Dot arrow name) label (more e none)) s c n =
        inner_same env agree.moved (at around label) (member_offset around.tags arrow (if arrow then operand_type e else type_at e) name)
        (value around e s) (value_tree (setting_in symbols around) e) s (value_same e s c.2.0 n.1.0)
    place_same (node k label parts) s c n = tt

    pub value_same : (e : Typed) (s : State) → ConstantsAreTyped around.tags e → NodesAreSound (setting_in symbols around) e
        → plays.Same Stands (value around e s) (evaluate env (value_tree (setting_in symbols around) e) s)
    value_same (node (kind.Number m unsigned long) label none) s c n = (Word m, refl, refl)
    value_same (node (kind.Character m) label none) s c n = (Word m, refl, refl)
    value_same (node (kind.Name x) label none) s c n = named_same label s n.0
    value_same (node (kind.Text texts) label none) s c n = read_name label.number label.token label.type label.means s n.0
    value_same (node kind.Parens label (more e none)) s c n = value_same e s c.2.0 n.1.0
    value_same (node (kind.Unary unary.Address) label (more e none)) s c n = place_same e s c.2.0 n.1.0
    value_same (node (kind.Unary unary.Deref) label (more e none)) s c n =
        from_same Stands
        (bind (bind (value around e s) (λ p t. used p t (λ q. Done q t))) (λ q t. read_at around label.type (at around label) q t))
        (bind (value around e s) (λ p t. used p t (λ q. read_at around label.type (at around label) q t)))
        (evaluate env (read_tree label.type (value_tree (setting_in symbols around) e)) s)
        (used_assoc (value around e s) (λ q t. read_at around label.type (at around label) q t))
        (read_same env around label.type (at around label) (bind (value around e s) (λ p t. used p t (λ q. Done q t))) (value_tree (setting_in symbols around) e) s
        (then_same (value around e s) _ _ (value_same e s c.2.0 n.1.0) (λ v w t g. used_free Stands v w t _ (Done w t) g (w, refl, stands_refl w))))
    value_same (node (kind.Unary unary.Plus) label (more e none)) s c n =
        plus_same (at around label) (value around e s) (evaluate env (value_tree (setting_in symbols around) e) s) (value_same e s c.2.0 n.1.0)
    value_same (node (kind.Unary unary.Minus) label (more e none)) s c n =
        word_same env (at around label) word_negation un.Neg (value around e s) (value_tree (setting_in symbols around) e) s (λ objects v. refl) (value_same e s c.2.0 n.1.0)
    value_same (node (kind.Unary unary.Complement) label (more e none)) s c n =
        word_same env (at around label) word_complement un.Com (value around e s) (value_tree (setting_in symbols around) e) s (λ objects v. refl) (value_same e s c.2.0 n.1.0)
    value_same (node (kind.Unary unary.Not) label (more e none)) s c n =
        same_bind Stands Stands (value around e s) (evaluate env (value_tree (setting_in symbols around) e) s) _ _ (value_same e s c.2.0 n.1.0) (λ v w t g.
        along Stands (bind (test_at (at around label) (operand_type e) v t) (λ holds u. Done (Word (truth (not holds))) u))
        (used w t (λ x. done_at nowhere t (of_one un.Not t.objects x))) (bind (test w t) (λ holds u. Done (Word (truth (not holds))) u)) (not_is w t)
        (same_bind Equal Stands (test_at (at around label) (operand_type e) v t) (test w t) _ _ (test_same (at around label) (operand_type e) v w t g)
        (λ x y u f. (Word (truth (not y)), refl, ap (λ z. Word (truth (not z))) f))))
    value_same (node kind.SizeofValue label (more e none)) s c n = (Word _, refl, refl)
    value_same (node kind.SizeofType label (more type none)) s c n = (Word _, refl, refl)
    value_same (node kind.Cast label (more type (more e none))) s c n =
        cast_same env (content_of label.type) label.type (at around label) (value around e s) (value_tree (setting_in symbols around) e) s (value_same e s c.2.1.0 n.1.1.0)
    value_same (node kind.Index label (more array (more index none))) s c n =
        from_same Stands
        (bind (bind (left_operand (at around label) (operand_type array) (value around array s)) (λ a t. bind (value around index t) (λ i u. operate around (at around label) operator.Add (operand_type array) (operand_type index) a i u)))
        (λ p w. read_at around label.type (at around label) p w))
        (value around (node kind.Index label (more array (more index none))) s)
        (evaluate env (value_tree (setting_in symbols around) (node kind.Index label (more array (more index none)))) s)
        (both_assoc (left_operand (at around label) (operand_type array) (value around array s)) (value around index) (λ a i u. operate around (at around label) operator.Add (operand_type array) (operand_type index) a i u)
        (λ p w. read_at around label.type (at around label) p w))
        (read_same env around label.type (at around label)
        (bind (left_operand (at around label) (operand_type array) (value around array s)) (λ a t. bind (value around index t) (λ i u. operate around (at around label) operator.Add (operand_type array) (operand_type index) a i u)))
        (binary_tree around.tags operator.Add (operand_type array) (operand_type index) (value_tree (setting_in symbols around) array) (value_tree (setting_in symbols around) index)) s
        (binary_same env agree.moved (at around label) around.tags (value around array s) (value around index)
        (value_tree (setting_in symbols around) array) (value_tree (setting_in symbols around) index) s
        (value_same array s c.2.0 n.1.0) (λ t. value_same index t c.2.1.0 n.1.1.0)
        operator.Add (operand_type array) (operand_type index) refl refl))
    value_same (node (kind.Dot arrow name) label (more e none)) s c n =
        from_same Stands
        (bind (bind (value around e s) (λ p t. member_at around (at around label) arrow (if arrow then operand_type e else type_at e) name p t))
        (λ q u. read_at around label.type (at around label) q u))
        (value around (node (kind.Dot arrow name) label (more e none)) s)
        (evaluate env (value_tree (setting_in symbols around) (node (kind.Dot arrow name) label (more e none))) s)
        (bind_assoc (value around e s) (λ p t. member_at around (at around label) arrow (if arrow then operand_type e else type_at e) name p t)
        (λ q u. read_at around label.type (at around label) q u))
        (read_same env around label.type (at around label)
        (bind (value around e s) (λ p t. member_at around (at around label) arrow (if arrow then operand_type e else type_at e) name p t))
        (inner_tree (member_offset around.tags arrow (if arrow then operand_type e else type_at e) name) (value_tree (setting_in symbols around) e)) s
        (inner_same env agree.moved (at around label) (member_offset around.tags arrow (if arrow then operand_type e else type_at e) name)
        (value around e s) (value_tree (setting_in symbols around) e) s (value_same e s c.2.0 n.1.0)))
    value_same (node (kind.Binary operator.AndAnd) label (more left (more right none))) s c n =
        same_bind Stands Stands (value around left s) (evaluate env (value_tree (setting_in symbols around) left) s) _ _ (value_same left s c.2.0 n.1.0) (λ a a' t g.
        same_bind Equal Stands (test_at (at around label) (operand_type left) a t) (test a' t) _ _ (test_same (at around label) (operand_type left) a a' t g) (λ first first' u e.
        same_if Stands first first' _ _ _ _ e
        (second_same (at around label) (operand_type right) (value around right u) (value_tree (setting_in symbols around) right) u (value_same right u c.2.1.0 n.1.1.0))
        (Word 0, refl, refl)))
    value_same (node (kind.Binary operator.OrOr) label (more left (more right none))) s c n =
        same_bind Stands Stands (value around left s) (evaluate env (value_tree (setting_in symbols around) left) s) _ _ (value_same left s c.2.0 n.1.0) (λ a a' t g.
        same_bind Equal Stands (test_at (at around label) (operand_type left) a t) (test a' t) _ _ (test_same (at around label) (operand_type left) a a' t g) (λ first first' u e.
        same_if Stands first first' _ _ _ _ e
        (Word 1, refl, refl)
        (second_same (at around label) (operand_type right) (value around right u) (value_tree (setting_in symbols around) right) u (value_same right u c.2.1.0 n.1.1.0))))
    value_same (node (kind.Binary op) label (more left (more right none))) s c n =
        binary_same env agree.moved (at around label) around.tags (value around left s) (value around right)
        (value_tree (setting_in symbols around) left) (value_tree (setting_in symbols around) right) s
        (value_same left s c.2.0 n.1.0) (λ t. value_same right t c.2.1.0 n.1.1.0)
        op (operand_type left) (operand_type right) refl n.0
    value_same (node kind.Choose label (more which (more first (more second none)))) s c n =
        same_bind Stands Stands (value around which s) (evaluate env (value_tree (setting_in symbols around) which) s) _ _ (value_same which s c.2.0 n.1.0) (λ a a' t g.
        same_bind Equal Stands (test_at (at around label) (operand_type which) a t) (test a' t) _ _ (test_same (at around label) (operand_type which) a a' t g) (λ holds holds' u e.
        same_if Stands holds holds' _ _ _ _ e
        (chosen_same label.type (value around first u) (evaluate env (value_tree (setting_in symbols around) first) u) (value_same first u c.2.1.0 n.1.1.0))
        (chosen_same label.type (value around second u) (evaluate env (value_tree (setting_in symbols around) second) u) (value_same second u c.2.1.1.0 n.1.1.1.0))))
    value_same (node (kind.Assign None) label (more left (more right none))) s c n =
        assigned_same (at around label) right (type_at left) (address around left s) (place_tree (setting_in symbols around) left) s c.2.1.0
        (place_same left s c.2.0 n.1.0) (λ t. value_same right t c.2.1.0 n.1.1.0)
    value_same (node (kind.Assign (Some op)) label (more left (more right none))) s c n =
        updated_same env around (at around label) (lvalue_place around left) (address around left s) (value around right)
        (place_tree (setting_in symbols around) left) (value_tree (setting_in symbols around) right) s
        (place_same left s c.2.0 n.1.0) (λ t. value_same right t c.2.1.0 n.1.1.0) op (type_at left) (operand_type right) n.0
    value_same (node (kind.Pre minus) label (more e none)) s c n =
        same_bind Stands Stands (address around e s) (evaluate env (place_tree (setting_in symbols around) e) s) _ _ (place_same e s c.2.0 n.1.0) (λ a a' t g.
        before_same around (at around label) (lvalue_place around e) minus (type_at e) a a' t g)
    value_same (node (kind.Post minus) label (more e none)) s c n =
        same_bind Stands Stands (address around e s) (evaluate env (place_tree (setting_in symbols around) e) s) _ _ (place_same e s c.2.0 n.1.0) (λ a a' t g.
        behind_same around (at around label) (lvalue_place around e) minus (type_at e) a a' t g)
    value_same (node kind.Comma label (more left (more right none))) s c n =
        same_bind Stands Stands (value around left s) (evaluate env (value_tree (setting_in symbols around) left) s) _ _ (value_same left s c.2.0 n.1.0) (λ a a' t g.
        value_same right t c.2.1.0 n.1.1.0)
    value_same (node kind.Call label (more function arguments)) s c n =
        same_bind Stands Stands (value around function s) (evaluate env (value_tree (setting_in symbols around) function) s) _ _ (value_same function s c.2.0 n.1.0) (λ f f' t g.
        same_bind Equal Stands (values around (at around label) (parameters_of (operand_type function)) arguments t)
        (evaluate_all env (argument_trees (setting_in symbols around) (parameters_of (operand_type function)) arguments) t) _ _
        (values_same (at around label) (parameters_of (operand_type function)) arguments t c.2.1 n.1.1) (λ vs ws u e.
        call_same around (at around label) (pointed (operand_type function)) f f' vs ws u g e))
    value_same (node k label parts) s c n = tt

    values_same : (place : Place) (parameters : TypeRow) (arguments : TypedRow) (s : State)
        → AllConstantsAreTyped around.tags arguments → RowIsSound (setting_in symbols around) arguments
        → plays.Same Equal (values around place parameters arguments s) (evaluate_all env (argument_trees (setting_in symbols around) parameters arguments) s)
    values_same place types.none none s c n = ([], refl, refl)
    values_same place types.none (more first others) s c n = tt
    values_same place (types.more parameter parameters) none s c n = tt
    values_same place (types.more parameter parameters) (more first others) s c n =
        from_same Equal
        (bind (bind (value around first s) (λ v t. convert_at (conversion_of around first parameter) place parameter v t)) (λ w u. bind (values around place parameters others u) (λ vs x. Done (w ∷ vs) x)))
        (values around place (types.more parameter parameters) (more first others) s)
        (evaluate_all env (argument_trees (setting_in symbols around) (types.more parameter parameters) (more first others)) s)
        (bind_assoc (value around first s) (λ v t. convert_at (conversion_of around first parameter) place parameter v t) (λ w u. bind (values around place parameters others u) (λ vs x. Done (w ∷ vs) x)))
        (same_bind Held Equal (bind (value around first s) (λ v t. convert_at (conversion_of around first parameter) place parameter v t))
        (evaluate env (passed_tree around.tags first parameter (value_tree (setting_in symbols around) first)) s) _ _
        (passed_same place first parameter s c.0 (value_same first s c.0 n.0)) (λ w w' u h.
        held_used Equal w w' u (bind (values around place parameters others u) (λ vs x. Done (w ∷ vs) x))
        (λ y. bind (evaluate_all env (argument_trees (setting_in symbols around) parameters others) u) (λ vs x. Done (y ∷ vs) x)) h
        (same_bind Equal Equal (values around place parameters others u) (evaluate_all env (argument_trees (setting_in symbols around) parameters others) u) _ _
        (values_same place parameters others u c.1 n.1) (λ vs ws x e. (w ∷ ws, refl, ap (λ l. w ∷ l) e)))))

pub values_mean : ValuesMean
values_mean symbols around env agree e h s = value_same symbols around env agree e s h.constants h.nodes

pub places_mean : PlacesMean
places_mean symbols around env agree e h s = place_same symbols around env agree e s h.constants h.nodes
