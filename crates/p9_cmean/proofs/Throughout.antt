-- What is true of each step of an expression, a statement or a function's body: a property of plays
-- that holds of states which go on, of undefined operations, of calls, and of plays one after the
-- other, holds of all of them.
use Rattle.std.proofs.Common.{map, ℕ, zero, suc, Bool, true, false, not, if◌then◌else◌, List, [], ◌∷◌, Option, Some, None, Result, Ok, Err}
use Rattle.p9_base.specs.Words.{word_negation, word_complement}
use Rattle.p9_lang.specs.declared.tree.CBinary.{CBinary}
use Rattle.p9_lang.specs.declared.tree.CBinary.TheVariants as operator
use Rattle.p9_lang.specs.declared.tree.CUnary.TheVariants as unary
use Rattle.p9_lang.specs.declared.tree.Kind.TheVariants as kind
use Rattle.p9_lang.specs.Types.{TypeTree, Void, TypeRow, row_types, Tags, Meant, EnumValue}
use Rattle.p9_lang.specs.Types as types
use Rattle.p9_lang.specs.Trees.{node, none, more}
use Rattle.p9_lang.specs.Layout.{size_of, alignment_of}
use Rattle.p9_lang.specs.Modules.{Label, Typed, TypedRow}
use Rattle.p9_lang.specs.Conversions.{is_integer, is_pointer, is_structure, Conversion, Same, Null, Inner, No}
use Rattle.p9_lang.specs.Conversions as conversions
use Rattle.p9_lang.specs.Constants.{truth, type_at}
use Rattle.p9_cmean.specs.declared.Cause.{Cause}
use Rattle.p9_cmean.specs.declared.Cause.TheVariants as cause
use Rattle.p9_cmean.specs.declared.Place.{Place}
use Rattle.p9_cmean.specs.Cells.{Value, Word, Address, Missing, State}
use Rattle.p9_cmean.specs.Plays.{Call, Play, Done, Wrong, NoMeaning, Moved, Ask, bind, Flow, Normal, Broke, Continued, Returned, Went, then_go, after_switch, Loop, turn_of, tested_loop, no_step}
use Rattle.p9_cmean.specs.Automatics.{Declared, with_objects, left}
use Rattle.p9_cmean.specs.Declarations.{Automatic, declared_by, declared_in, declaration_of, Definition}
use Rattle.p9_cmean.specs.Statements as st
use Rattle.p9_cmean.specs.Statements.{statement, statements, statements_from, for_loop}
use Rattle.p9_cmean.specs.PlayLaws.{Goes}
use Rattle.p9_cmean.specs.Access.{integer_in, read_whole, written_whole, moved_inside}
use Rattle.p9_cmean.specs.Operators.{of_integer}
use Rattle.p9_cmean.specs.Contents.{Content, Integer, Reference, Aggregate, Nothing, content_of}
use Rattle.p9_cmean.specs.Places.{used, or_wrong, done_at, or_no_meaning}
use Rattle.p9_cmean.specs.Expressions as x
use Rattle.p9_cmean.specs.Expressions.{Surroundings, at, operand_type, lvalue_place, address, value, values}
use Rattle.p9_cmean.proofs.Going.{goes_refl}

module _
    (Q : (A : Type 0) → State → Play A → Type 0)
    (q_from : (A : Type 0) (s t : State) (p : Play A) → Goes s t → Q A t p → Q A s p)
    (q_done : (A : Type 0) (a : A) (s : State) → Q A s (Done a s))
    (q_wrong : (A : Type 0) (why : Cause) (pl : Place) (s : State) → Q A s (Wrong why pl s))
    (q_no : (A : Type 0) (pl : Place) (s : State) → Q A s (NoMeaning pl s))
    (q_moved : (A : Type 0) (n : ℕ) (s : State) (p : Play A) → Q A s p → Q A s (Moved n p))
    (q_ask : (A : Type 0) (call : Call) (s : State) (k : Value → State → Play A) → ((v : Value) (t : State) → Q A t (k v t)) → Q A s (Ask call s k))
    (turns : ℕ)
    (q_turn : (loop : Loop) → ((s : State) → Q Bool s (loop.test s)) → ((s : State) → Q Flow s (loop.body s)) → ((s : State) → Q (Unit {0}) s (loop.step s))
    → (s : State) → Q Flow s (turn_of turns loop s))
    (q_bind : (A B : Type 0) (s : State) (p : Play A) (k : A → State → Play B) → Q A s p → ((a : A) (t : State) → Q B t (k a t)) → Q B s (bind p k))
  where
    abbrev P : {A : Type 0} → State → Play A → Type 0
    P {A = A} s p = Q A s p

    p_done : {A : Type 0} (a : A) (s t : State) → Goes s t → P s (Done a t)
    p_done {A = A} a s t h = q_from A s t (Done a t) h (q_done A a t)

    p_wrong : {A : Type 0} (why : Cause) (pl : Place) (s : State) → P {A = A} s (Wrong why pl s)
    p_wrong {A = A} why pl s = q_wrong A why pl s

    p_no : {A : Type 0} (pl : Place) (s : State) → P {A = A} s (NoMeaning pl s)
    p_no {A = A} pl s = q_no A pl s

    p_moved : {A : Type 0} (n : ℕ) (s : State) (p : Play A) → P s p → P s (Moved n p)
    p_moved {A = A} n s p h = q_moved A n s p h

    p_ask : {A : Type 0} (call : Call) (s : State) (k : Value → State → Play A) → ((v : Value) (t : State) → P t (k v t)) → P s (Ask call s k)
    p_ask {A = A} call s k h = q_ask A call s k h

    p_bind : {A B : Type 0} (s : State) (p : Play A) (k : A → State → Play B) → P s p → ((a : A) (t : State) → P t (k a t)) → P s (bind p k)
    p_bind {A = A} {B = B} s p k h g = q_bind A B s p k h g

    done : {A : Type 0} (a : A) (s : State) → P s (Done a s)
    done {A = A} a s = q_done A a s

    pub p_used : {A : Type 0} (v : Value) (s : State) (k : Value → Play A) → ((w : Value) → P s (k w)) → P s (used v s k)
    p_used (Word n) s k h = h (Word n)
    p_used (Address p) s k h = h (Address p)
    p_used (Missing c) s k h = p_wrong cause.NoValue c s

    pub p_or : {A B : Type 0} (pl : Place) (s : State) (r : Result A Cause) (k : A → Play B) → ((a : A) → P s (k a)) → P s (or_wrong pl s r k)
    p_or pl s (Ok a) k h = h a
    p_or pl s (Err why) k h = p_wrong why pl s

    pub p_done_at : {A : Type 0} (pl : Place) (s : State) (r : Result A Cause) → P s (done_at pl s r)
    p_done_at pl s r = p_or pl s r (λ a. Done a s) (λ a. done a s)

    pub p_or_no : {A B : Type 0} (pl : Place) (s : State) (r : Option A) (k : A → Play B) → ((a : A) → P s (k a)) → P s (or_no_meaning pl s r k)
    p_or_no pl s (Some a) k h = h a
    p_or_no pl s None k h = p_no pl s

    pub p_if : {A : Type 0} (s : State) (b : Bool) (p q : Play A) → P s p → P s q → P s (if b then p else q)
    p_if s true p q h g = h
    p_if s false p q h g = g

    p_name : (around : Surroundings) (label : Label) (s : State) → P s (x.address_of_name around label s)
    p_name around label s = p_or_no (at around label) s (x.pointer_to around label.type label.means) (λ p. Done (Address p) s) (λ p. done (Address p) s)

    p_read_content : (c : Content) (tags : Tags) (type : TypeTree) (pl : Place) (a : Value) (s : State) → P s (x.read_content c tags type pl a s)
    p_read_content Integer tags type pl a s = p_done_at pl s _
    p_read_content Reference tags type pl a s = p_done_at pl s _
    p_read_content Aggregate tags type pl a s = done a s
    p_read_content Nothing tags type pl a s = p_no pl s

    p_read : (around : Surroundings) (type : TypeTree) (pl : Place) (a : Value) (s : State) → P s (x.read_at around type pl a s)
    p_read around type pl a s = p_read_content (content_of type) around.tags type pl a s

    p_store_scalar : (tags : Tags) (type : TypeTree) (pl : Place) (a v : Value) (s : State) → P s (x.store_scalar tags type pl a v s)
    p_store_scalar tags type pl a v s = p_or pl s _ _ (λ objects. p_done v s (record s { objects = objects }) (goes_refl s))

    p_store : (c : Content) (tags : Tags) (type : TypeTree) (pl : Place) (a v : Value) (s : State) → P s (x.store_content c tags type pl a v s)
    p_store Integer tags type pl a v s = p_store_scalar tags type pl a v s
    p_store Reference tags type pl a v s = p_store_scalar tags type pl a v s
    p_store Aggregate tags type pl a v s = p_no pl s
    p_store Nothing tags type pl a v s = p_no pl s

    p_by : (c : Conversion) (pl : Place) (to : TypeTree) (v : Value) (s : State) → P s (x.by_conversion c pl to v s)
    p_by Same pl to v s = p_if s (is_integer to) (done_at pl s (x.narrow to v)) (Done v s) (p_done_at pl s _) (done v s)
    p_by conversions.Integer pl to v s = p_done_at pl s _
    p_by Null pl to v s = done (Word 0) s
    p_by (Inner offset) pl to v s = p_done_at pl s _
    p_by conversions.Ambiguous pl to v s = p_no pl s
    p_by No pl to v s = p_no pl s

    pub p_convert : (c : Conversion) (pl : Place) (to : TypeTree) (v : Value) (s : State) → P s (x.convert_at c pl to v s)
    p_convert c pl to v s = p_used v s _ (λ w. p_by c pl to w s)

    p_assign_scalar : (around : Surroundings) (c : Conversion) (pl : Place) (type : TypeTree) (a v : Value) (s : State) → P s (x.assign_scalar around c pl type a v s)
    p_assign_scalar around c pl type a v s =
        p_bind s (x.convert_at c pl type v s) _ (p_convert c pl type v s) (λ w t. p_store (content_of type) around.tags type pl a w t)

    p_assign_structure : (around : Surroundings) (pl rd : Place) (type : TypeTree) (to from : Value) (s : State) → P s (x.assign_structure around pl rd type to from s)
    p_assign_structure around pl rd type to from s =
        p_or rd s (read_whole (size_of around.tags type) (alignment_of around.tags type) s.objects from) _ (λ cs.
        p_or pl s (written_whole (size_of around.tags type) (alignment_of around.tags type) s.objects to from cs) _ (λ objects. p_moved (size_of around.tags type) s _ (p_done to s (record s { objects = objects }) (goes_refl s))))

    pub p_assign : (around : Surroundings) (pl : Place) (e : Typed) (type : TypeTree) (a v : Value) (s : State) → P s (x.assign around pl e type a v s)
    p_assign around pl e type a v s =
        p_if s (is_structure type) (x.assign_structure around pl (lvalue_place around e) type a v s) (x.assign_scalar around (x.conversion_of around e type) pl type a v s)
        (p_assign_structure around pl (lvalue_place around e) type a v s) (p_assign_scalar around (x.conversion_of around e type) pl type a v s)

    p_operate : (around : Surroundings) (pl : Place) (op : CBinary) (left right : TypeTree) (a b : Value) (s : State) → P s (x.operate around pl op left right a b s)
    p_operate around pl op left right a b s = p_used a s _ (λ v. p_used b s _ (λ w. p_or_no pl s _ _ (λ r. p_done_at pl s r)))

    p_left : (pl : Place) (type : TypeTree) (p : Play Value) (s : State) → P s p → P s (x.left_operand pl type p)
    p_left pl type p s h =
        p_bind s p _ h (λ v t.
        p_if t (is_pointer type) (used v t (λ w. Done w t)) (x.promoted pl v t)
        (p_used v t _ (λ w. done w t)) (p_used v t _ (λ w. p_done_at pl t (of_integer (λ n. n) w))))

    pub p_test : (pl : Place) (type : TypeTree) (v : Value) (s : State) → P s (x.test_at pl type v s)
    p_test pl type v s = p_used v s _ (λ w. p_or_no pl s _ _ (λ r. p_done_at pl s r))

    p_update : (around : Surroundings) (pl rd : Place) (op : CBinary) (type right : TypeTree) (a v : Value) (s : State) → P s (x.update around pl rd op type right a v s)
    p_update around pl rd op type right a v s =
        p_bind s (x.read_at around type rd a s) _ (p_read around type rd a s) (λ old t.
        p_bind t (x.operate around pl op type right old v t) _ (p_operate around pl op type right old v t) (λ new u.
        p_assign_scalar around (x.result_conversion around type right) pl type a new u))

    p_old : (around : Surroundings) (pl rd : Place) (op : CBinary) (type : TypeTree) (a : Value) (s : State) → P s (x.old_value around pl rd op type a s)
    p_old around pl rd op type a s =
        p_bind s (x.read_at around type rd a s) _ (p_read around type rd a s) (λ old t.
        p_bind t (x.operate around pl op type types.Int old (Word 1) t) _ (p_operate around pl op type types.Int old (Word 1) t) (λ new u.
        p_bind u (x.assign_scalar around (x.result_conversion around type types.Int) pl type a new u) _ (p_assign_scalar around (x.result_conversion around type types.Int) pl type a new u) (λ w y.
        done old y)))

    p_cast : (c : Content) (type : TypeTree) (pl : Place) (v : Value) (s : State) → P s (x.cast_to c type pl v s)
    p_cast Integer type pl v s = p_used v s _ (λ w. p_done_at pl s _)
    p_cast Reference type pl v s = p_used v s _ (λ w. done w s)
    p_cast Aggregate type pl v s = p_no pl s
    p_cast Nothing type pl v s = done (Missing pl) s

    p_chosen : (type : TypeTree) (v : Value) (s : State) → P s (x.chosen type v s)
    p_chosen Void v s = done v s
    p_chosen type v s = p_used v s _ (λ w. done w s)

    p_member : (around : Surroundings) (pl : Place) (arrow : Bool) (type : TypeTree) (name : List ℕ) (v : Value) (s : State) → P s (x.member_at around pl arrow type name v s)
    p_member around pl arrow type name v s = p_used v s _ (λ w.
        p_or_no pl s (x.member_offset around.tags arrow type name) _ (λ offset. p_done_at pl s (moved_inside s.objects offset w)))

    p_value_of_name : (around : Surroundings) (n : ℕ) (token : ℕ) (type : TypeTree) (means : Meant) (s : State) → P s (x.value_of_name around (record { number = n; token = token; type = type; means = means }) s)
    p_value_of_name around n token type (EnumValue k) s = done (Word k) s
    p_value_of_name around n token type means s = p_bind s _ _ (p_name around (record { number = n; token = token; type = type; means = means }) s) (λ p t. p_read around type (at around (record { number = n; token = token; type = type; means = means })) p t)

    p_answered_as : (b : Bool) (pl : Place) (v : Value) (s : State) → P s (x.answered_as b pl v s)
    p_answered_as true pl (Word n) s = done (Word n) s
    p_answered_as true pl (Address pointer) s = p_wrong cause.Mixed pl s
    p_answered_as true pl (Missing call) s = done (Missing call) s
    p_answered_as false pl v s = done v s

    p_call : (around : Surroundings) (pl : Place) (type : TypeTree) (f : Value) (vs : List Value) (s : State) → P s (x.call_through around pl type f vs s)
    p_call around pl type f vs s = p_used f s _ (λ g. p_or pl s _ _ (λ name. p_ask _ s _ (λ v t. p_answered_as (x.gives_integer type) pl v t)))

    mutual
      pub p_address : (around : Surroundings) (e : Typed) (s : State) → P s (address around e s)
      p_address around (node (kind.Name n) label none) s = p_name around label s
      p_address around (node (kind.Text texts) label none) s = p_name around label s
      p_address around (node kind.Parens label (more e none)) s = p_address around e s
      p_address around (node (kind.Unary unary.Deref) label (more e none)) s =
          p_bind s (value around e s) _ (p_value around e s) (λ p t. p_used p t _ (λ q. done q t))
      p_address around (node kind.Index label (more a (more i none))) s =
          p_bind s (x.left_operand (at around label) (operand_type a) (value around a s)) _ (p_left (at around label) (operand_type a) (value around a s) s (p_value around a s)) (λ p t. p_bind t (value around i t) _ (p_value around i t) (λ n u. p_operate around (at around label) operator.Add (operand_type a) (operand_type i) p n u))
      p_address around (node (kind.Dot arrow name) label (more e none)) s =
          p_bind s (value around e s) _ (p_value around e s) (λ p t.
          p_member around (at around label) arrow (if arrow then operand_type e else type_at e) name p t)
      p_address around (node k label parts) s = p_no (at around label) s

      pub p_value : (around : Surroundings) (e : Typed) (s : State) → P s (value around e s)
      p_value around (node (kind.Number n unsigned long) label none) s = done (Word n) s
      p_value around (node (kind.Character n) label none) s = done (Word n) s
      p_value around (node (kind.Name n) label none) s = p_value_of_name around label.number label.token label.type label.means s
      p_value around (node (kind.Text texts) label none) s = p_bind s _ _ (p_name around label s) (λ p t. p_read around label.type (at around label) p t)
      p_value around (node kind.Parens label (more e none)) s = p_value around e s
      p_value around (node (kind.Unary unary.Address) label (more e none)) s = p_address around e s
      p_value around (node (kind.Unary unary.Deref) label (more e none)) s =
          p_bind s (value around e s) _ (p_value around e s) (λ p t. p_used p t _ (λ q. p_read around label.type (at around label) q t))
      p_value around (node (kind.Unary unary.Plus) label (more e none)) s =
          p_bind s (value around e s) _ (p_value around e s) (λ v t. p_used v t _ (λ w. p_done_at (at around label) t (of_integer (λ n. n) w)))
      p_value around (node (kind.Unary unary.Minus) label (more e none)) s =
          p_bind s (value around e s) _ (p_value around e s) (λ v t. p_used v t _ (λ w. p_done_at (at around label) t (of_integer (word_negation) w)))
      p_value around (node (kind.Unary unary.Complement) label (more e none)) s =
          p_bind s (value around e s) _ (p_value around e s) (λ v t. p_used v t _ (λ w. p_done_at (at around label) t (of_integer (word_complement) w)))
      p_value around (node (kind.Unary unary.Not) label (more e none)) s =
          p_bind s (value around e s) _ (p_value around e s) (λ v t. p_bind t _ _ (p_test (at around label) (operand_type e) v t) (λ holds u. done (Word (truth (not holds))) u))
      p_value around (node kind.SizeofValue label (more e none)) s = done (Word (size_of around.tags (type_at e))) s
      p_value around (node kind.SizeofType label (more type none)) s = done (Word (size_of around.tags (type_at type))) s
      p_value around (node kind.Cast label (more type (more e none))) s =
          p_bind s (value around e s) _ (p_value around e s) (λ v t. p_cast (content_of label.type) label.type (at around label) v t)
      p_value around (node kind.Index label (more a (more i none))) s =
          p_bind s (x.left_operand (at around label) (operand_type a) (value around a s)) _ (p_left (at around label) (operand_type a) (value around a s) s (p_value around a s)) (λ p t. p_bind t (value around i t) _ (p_value around i t) (λ n u.
          p_bind u _ _ (p_operate around (at around label) operator.Add (operand_type a) (operand_type i) p n u) (λ q w.
          p_read around label.type (at around label) q w)))
      p_value around (node (kind.Dot arrow name) label (more e none)) s =
          p_bind s (value around e s) _ (p_value around e s) (λ p t.
          p_bind t _ _ (p_member around (at around label) arrow (if arrow then operand_type e else type_at e) name p t) (λ q u.
          p_read around label.type (at around label) q u))
      p_value around (node (kind.Binary operator.AndAnd) label (more l (more r none))) s =
          p_bind s (value around l s) _ (p_value around l s) (λ a t. p_bind t _ _ (p_test (at around label) (operand_type l) a t) (λ first u.
          p_if u first _ (Done (Word 0) u) (p_bind u (value around r u) _ (p_value around r u) (λ b w. p_bind w _ _ (p_test (at around label) (operand_type r) b w) (λ second y. done (Word (truth second)) y))) (done (Word 0) u)))
      p_value around (node (kind.Binary operator.OrOr) label (more l (more r none))) s =
          p_bind s (value around l s) _ (p_value around l s) (λ a t. p_bind t _ _ (p_test (at around label) (operand_type l) a t) (λ first u.
          p_if u first (Done (Word 1) u) _ (done (Word 1) u) (p_bind u (value around r u) _ (p_value around r u) (λ b w. p_bind w _ _ (p_test (at around label) (operand_type r) b w) (λ second y. done (Word (truth second)) y)))))
      p_value around (node (kind.Binary op) label (more l (more r none))) s =
          p_bind s (x.left_operand (at around label) (operand_type l) (value around l s)) _ (p_left (at around label) (operand_type l) (value around l s) s (p_value around l s)) (λ a t. p_bind t (value around r t) _ (p_value around r t) (λ b u. p_operate around (at around label) op (operand_type l) (operand_type r) a b u))
      p_value around (node kind.Choose label (more test (more first (more second none)))) s =
          p_bind s (value around test s) _ (p_value around test s) (λ v t. p_bind t _ _ (p_test (at around label) (operand_type test) v t) (λ holds u.
          p_if u holds _ _
          (p_bind u (value around first u) _ (p_value around first u) (λ w y. p_chosen label.type w y))
          (p_bind u (value around second u) _ (p_value around second u) (λ w y. p_chosen label.type w y))))
      p_value around (node (kind.Assign None) label (more l (more r none))) s =
          p_bind s (address around l s) _ (p_address around l s) (λ p t. p_bind t (value around r t) _ (p_value around r t) (λ v u. p_assign around (at around label) r (type_at l) p v u))
      p_value around (node (kind.Assign (Some op)) label (more l (more r none))) s =
          p_bind s (address around l s) _ (p_address around l s) (λ p t. p_bind t (value around r t) _ (p_value around r t) (λ v u. p_update around (at around label) (lvalue_place around l) op (type_at l) (operand_type r) p v u))
      p_value around (node (kind.Pre minus) label (more e none)) s =
          p_bind s (address around e s) _ (p_address around e s) (λ p t. p_update around (at around label) (lvalue_place around e) (x.step_operator minus) (type_at e) types.Int p (Word 1) t)
      p_value around (node (kind.Post minus) label (more e none)) s =
          p_bind s (address around e s) _ (p_address around e s) (λ p t. p_old around (at around label) (lvalue_place around e) (x.step_operator minus) (type_at e) p t)
      p_value around (node kind.Comma label (more l (more r none))) s =
          p_bind s (value around l s) _ (p_value around l s) (λ v t. p_value around r t)
      p_value around (node kind.Call label (more f arguments)) s =
          p_bind s (value around f s) _ (p_value around f s) (λ g t. p_bind t _ _ (p_values around (at around label) (x.parameters_of (operand_type f)) arguments t) (λ vs u.
          p_call around (at around label) (x.pointed (operand_type f)) g vs u))
      p_value around (node k label parts) s = p_no (at around label) s

      pub p_values : (around : Surroundings) (pl : Place) (parameters : TypeRow) (es : TypedRow) (s : State) → P s (values around pl parameters es s)
      p_values around pl types.none none s = done [] s
      p_values around pl types.none (more e es) s = p_no pl s
      p_values around pl (types.more t ts) none s = p_no pl s
      p_values around pl (types.more t ts) (more e es) s =
          p_bind s (value around e s) _ (p_value around e s) (λ v t1.
          p_bind t1 _ _ (p_convert (x.conversion_of around e t) pl t v t1) (λ w u.
          p_bind u _ _ (p_values around pl ts es u) (λ vs y. done (w ∷ vs) y)))

    -- STATEMENTS

    p_effect : (around : Surroundings) (e : Typed) (s : State) → P s (st.effect around e s)
    p_effect around e s = p_bind s (value around e s) _ (p_value around e s) (λ v t. done tt t)

    p_condition : (around : Surroundings) (pl : Place) (e : Typed) (s : State) → P s (st.condition around pl e s)
    p_condition around pl e s = p_bind s (value around e s) _ (p_value around e s) (λ v t. p_test pl (operand_type e) v t)

    p_initialised : (around : Surroundings) (number : ℕ) (name : Label) (e : Option Typed) (s : State) → P s (st.initialised around (record { number = number; name = name; initialiser = e }) s)
    p_initialised around number name None s = done tt s
    p_initialised around number name (Some e) s =
        p_or_no (at around name) s (x.pointer_to around name.type name.means) _ (λ p.
        p_bind s (value around e s) _ (p_value around e s) (λ v t.
        p_bind t (x.assign around (at around name) e name.type (Address p) v t) _ (p_assign around (at around name) e name.type (Address p) v t) (λ w u. done tt u)))

    p_all_initialised : (around : Surroundings) (list : List Automatic) (s : State) → P s (st.all_initialised around list s)
    p_all_initialised around [] s = done tt s
    p_all_initialised around (a ∷ others) s =
        p_bind s (st.initialised around a s) _ (p_initialised around a.number a.name a.initialiser s) (λ d t. p_all_initialised around others t)

    p_returned : (around : Surroundings) (pl : Place) (e : Typed) (s : State) → P s (st.returned around pl e s)
    p_returned around pl e s =
        p_bind s (value around e s) _ (p_value around e s) (λ v t.
        p_bind t (x.convert_at (x.conversion_of around e around.result) pl around.result v t) _ (p_convert (x.conversion_of around e around.result) pl around.result v t) (λ w u.
        done (Returned (Some w)) u))

    p_in_block : (around : Surroundings) (ds : List Declared) (body : Surroundings → State → Play Flow) → ((within : Surroundings) (s : State) → P s (body within s)) → (s : State) → P s (st.in_block around ds body s)
    p_in_block around ds body h s =
        p_bind s (body (st.inside around (st.living_in ds s)) (st.entered around ds s)) _
        (q_from Flow s (st.entered around ds s) (body (st.inside around (st.living_in ds s)) (st.entered around ds s)) (goes_refl s) (h (st.inside around (st.living_in ds s)) (st.entered around ds s))) (λ flow t.
        p_done flow t (left (st.living_in ds s) t) (goes_refl t))

    p_go : (flow : Flow) (s : State) (next : State → Play Flow) → ((t : State) → P t (next t)) → P s (then_go flow s next)
    p_go Normal s next h = h s
    p_go Broke s next h = done Broke s
    p_go Continued s next h = done Continued s
    p_go (Returned v) s next h = done (Returned v) s
    p_go (Went l) s next h = done (Went l) s

    p_after_switch : (flow : Flow) (s : State) → P s (after_switch flow s)
    p_after_switch Normal s = done Normal s
    p_after_switch Broke s = done Normal s
    p_after_switch Continued s = done Continued s
    p_after_switch (Returned v) s = done (Returned v) s
    p_after_switch (Went l) s = done (Went l) s

    p_run_from : (n : Option ℕ) (run : ℕ → State → Play Flow) → ((k : ℕ) (s : State) → P s (run k s)) → (s : State) → P s (st.run_from n run s)
    p_run_from None run h s = done Normal s
    p_run_from (Some k) run h s = p_bind s (run k s) _ (h k s) (λ flow t. p_after_switch flow t)

    p_switched : (pl : Place) (v : Value) (s : State) (next : ℕ → Play Flow) → ((n : ℕ) → P s (next n)) → P s (st.switched pl v s next)
    p_switched pl v s next h = p_used v s _ (λ w. p_or pl s (integer_in w) next h)

    p_turn : (test : State → Play Bool) (step : State → Play (Unit {0})) (body : State → Play Flow)
        → ((s : State) → P s (test s)) → ((s : State) → P s (step s)) → ((s : State) → P s (body s)) → (s : State) → P s (turn_of turns (st.loop_of test step body) s)
    p_turn test step body ht hs hb s = q_turn (st.loop_of test step body) ht hb hs s

    p_loop : (test : State → Play Bool) (step : State → Play (Unit {0})) (body : State → Play Flow)
        → ((s : State) → P s (test s)) → ((s : State) → P s (step s)) → ((s : State) → P s (body s)) → (s : State) → P s (tested_loop turns (st.loop_of test step body) s)
    p_loop test step body ht hs hb s =
        p_bind s (test s) _ (ht s) (λ holds t.
        p_if t holds (turn_of turns (st.loop_of test step body) t) (Done Normal t) (p_turn test step body ht hs hb t) (done Normal t))

    p_no_step : (s : State) → P s (no_step s)
    p_no_step s = done tt s

    p_always : (s : State) → P s (st.always s)
    p_always s = done true s

    mutual
      pub p_statement : (around : Surroundings) (e : Typed) (s : State) → P s (statement turns around e s)
      p_statement around (node kind.Block label parts) s =
          p_in_block around (map declaration_of (declared_in parts)) (λ within. statements turns within parts) (λ within t. p_statements within parts t) s
      p_statement around (node (kind.Declaration spec inits) label parts) s =
          p_bind s (st.all_initialised around (declared_by (node (kind.Declaration spec inits) label parts)) s) _
          (p_all_initialised around (declared_by (node (kind.Declaration spec inits) label parts)) s) (λ d t. done Normal t)
      p_statement around (node kind.Expression label none) s = done Normal s
      p_statement around (node kind.Expression label (more e none)) s = p_bind s (st.effect around e s) _ (p_effect around e s) (λ d t. done Normal t)
      p_statement around (node kind.If label (more test (more first none))) s =
          p_bind s (st.condition around (at around label) test s) _ (p_condition around (at around label) test s) (λ holds t.
          p_if t holds (statement turns around first t) (Done Normal t) (p_statement around first t) (done Normal t))
      p_statement around (node kind.If label (more test (more first (more second none)))) s =
          p_bind s (st.condition around (at around label) test s) _ (p_condition around (at around label) test s) (λ holds t.
          p_if t holds (statement turns around first t) (statement turns around second t) (p_statement around first t) (p_statement around second t))
      p_statement around (node kind.While label (more test (more body none))) s =
          p_loop (st.condition around (at around label) test) no_step (λ t. statement turns around body t)
          (p_condition around (at around label) test) p_no_step (λ t. p_statement around body t) s
      p_statement around (node kind.Do label (more body (more test none))) s =
          p_turn (st.condition around (at around label) test) no_step (λ t. statement turns around body t)
          (p_condition around (at around label) test) p_no_step (λ t. p_statement around body t) s
      p_statement around (node (kind.For true test step) label (more first others)) s =
          p_bind s (st.effect around first s) _ (p_effect around first s) (λ d t. p_for around (at around label) test step others t)
      p_statement around (node (kind.For false test step) label others) s = p_for around (at around label) test step others s
      p_statement around (node kind.Switch label (more e arms)) s =
          p_bind s (value around e s) _ (p_value around e s) (λ v t.
          p_switched (at around label) v t _ (λ word.
          p_run_from (st.entry_of around.tags word arms) (λ k u. statements_from turns around k arms u) (λ k u. p_from around k arms u) t))
      p_statement around (node kind.Case label (more constant none)) s = done Normal s
      p_statement around (node kind.Default label none) s = done Normal s
      p_statement around (node kind.Break label none) s = done Broke s
      p_statement around (node kind.Continue label none) s = done Continued s
      p_statement around (node kind.Return label none) s = done (Returned None) s
      p_statement around (node kind.Return label (more e none)) s = p_returned around (at around label) e s
      p_statement around (node k label parts) s = p_no (at around label) s

      p_statements : (around : Surroundings) (es : TypedRow) (s : State) → P s (statements turns around es s)
      p_statements around none s = done Normal s
      p_statements around (more first others) s =
          p_bind s (statement turns around first s) _ (p_statement around first s) (λ flow t.
          p_go flow t (λ u. statements turns around others u) (λ u. p_statements around others u))

      p_from : (around : Surroundings) (k : ℕ) (es : TypedRow) (s : State) → P s (statements_from turns around k es s)
      p_from around zero none s = done Normal s
      p_from around (suc k) none s = done Normal s
      p_from around zero (more first others) s =
          p_bind s (statement turns around first s) _ (p_statement around first s) (λ flow t.
          p_go flow t (λ u. statements turns around others u) (λ u. p_statements around others u))
      p_from around (suc k) (more first others) s = p_from around k others s

      p_for : (around : Surroundings) (pl : Place) (test step : Bool) (es : TypedRow) (s : State) → P s (for_loop turns around pl test step es s)
      p_for around pl true true (more test (more step (more body none))) s =
          p_loop (st.condition around pl test) (st.effect around step) (λ t. statement turns around body t)
          (p_condition around pl test) (p_effect around step) (λ t. p_statement around body t) s
      p_for around pl true false (more test (more body none)) s =
          p_loop (st.condition around pl test) no_step (λ t. statement turns around body t)
          (p_condition around pl test) p_no_step (λ t. p_statement around body t) s
      p_for around pl false true (more step (more body none)) s =
          p_loop st.always (st.effect around step) (λ t. statement turns around body t)
          p_always (p_effect around step) (λ t. p_statement around body t) s
      p_for around pl false false (more body none) s =
          p_loop st.always no_step (λ t. statement turns around body t)
          p_always p_no_step (λ t. p_statement around body t) s
      p_for around pl test step others s = p_no pl s

    -- FUNCTIONS

    p_given : (pl : Place) (flow : Flow) (s t : State) → Goes s t → P s (st.given pl flow t)
    p_given pl Normal s t g = p_done (Missing pl) s t g
    p_given pl (Returned None) s t g = p_done (Missing pl) s t g
    p_given pl (Returned (Some v)) s t g = p_done v s t g
    p_given pl Broke s t g = q_from Value s t (NoMeaning pl t) g (q_no Value pl t)
    p_given pl Continued s t g = q_from Value s t (NoMeaning pl t) g (q_no Value pl t)
    p_given pl (Went l) s t g = q_from Value s t (NoMeaning pl t) g (q_no Value pl t)

    p_run_block : (around : Surroundings) (result : TypeTree) (parameters : List TypeTree) (block : Typed) (call : Call) (s : State) → P s (st.run_block turns around result parameters block call s)
    p_run_block around result parameters block call s =
        p_or_no call.place s (st.argument_objects around.tags parameters call.arguments) _ (λ objects.
        p_bind s (statement turns (st.with_parameters around result (st.living_in (st.parameters_from 0 parameters) s)) block (with_objects objects s)) _
        (q_from Flow s (with_objects objects s) (statement turns (st.with_parameters around result (st.living_in (st.parameters_from 0 parameters) s)) block (with_objects objects s)) (goes_refl s)
        (p_statement (st.with_parameters around result (st.living_in (st.parameters_from 0 parameters) s)) block (with_objects objects s))) (λ flow t.
        p_given call.place flow t (left (st.living_in (st.parameters_from 0 parameters) s) t) (goes_refl t)))

    pub p_body : (around : Surroundings) (definition : Definition) (call : Call) (s : State) → P s (st.function_body turns around definition call s)
    p_body around definition call s = by definition.label definition.name.number definition.name.token definition.name.type definition.name.means definition.block
      where
        by : (label : Label) (n token : ℕ) (type : TypeTree) (means : Meant) (block : Typed)
            → Q Value s (st.function_body turns around (record { label = label; name = record { number = n; token = token; type = type; means = means }; block = block }) call s)
        by label n token (types.Function result parameters) means block = p_run_block around result (row_types parameters) block call s
        by label n token type means block = p_no call.place s
