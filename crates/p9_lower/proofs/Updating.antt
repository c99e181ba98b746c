-- `op=`, `++` and `--`: what is read, computed and assigned.
use Rattle.std.proofs.Common.{◌≡◌, ℕ, ◌==◌, ◌||◌, Bool, true, false, not, if◌then◌else◌, List, Option, Some, None, Result, Ok, Err, refl, sym, ap, ◌∙◌, subst}
use Rattle.std.proofs.lemmas.Bool.{eqb-true, not-true}
use Rattle.p9_base.specs.Words.{word_product, word_negation}
use Rattle.p9_lang.specs.declared.tree.CBinary.{CBinary}
use Rattle.p9_lang.specs.declared.tree.CBinary.TheVariants as operator
use Rattle.p9_lang.specs.Types.{TypeTree, Int, Pointer, Array, Function, Tagged, Tags}
use Rattle.p9_lang.specs.Layout.{size_of, alignment_of}
use Rattle.p9_lang.specs.Conversions.{is_pointer, is_integer, is_unsigned, is_long, integer_of, common, Conversion, Same, Integer, Null, Inner, Ambiguous, No, conversion}
use Rattle.p9_lang.specs.Constants.{narrowed, works_unsigned}
use Rattle.p9_cmean.specs.declared.Cause.{Cause}
use Rattle.p9_cmean.specs.declared.Place.{Place}
use Rattle.p9_cmean.specs.Cells.{Value, Word, Address, Missing, Object, State}
use Rattle.p9_cmean.specs.Cells as cells
use Rattle.p9_cmean.specs.Plays.{Play, Done, bind}
use Rattle.p9_cmean.specs.Places.{done_at, or_no_meaning}
use Rattle.p9_cmean.specs.Access.{pointer_in, loaded, integer_from, pointer_from}
use Rattle.p9_cmean.specs.Contents.{Content, content_of}
use Rattle.p9_cmean.specs.Contents as contents
use Rattle.p9_cmean.specs.Operators.{operation, if_integer, pointer_and_integer, of_integers, moved_elements, element_offset}
use Rattle.p9_cmean.specs.Expressions.{Surroundings, read_content, read_at, narrow, assign_scalar, result_conversion, step_operator, old_value}
use Rattle.p9_cmean.specs.Expressions as source
use Rattle.p9_cmean.proofs.Plays.{bind_assoc}
use Rattle.p9_tree.specs.declared.tree.Width.{Width}
use Rattle.p9_tree.specs.declared.tree.BinOp.{BinOp}
use Rattle.p9_tree.specs.declared.tree.BinOp.TheVariants as bin
use Rattle.p9_tree.specs.Same as plays
use Rattle.p9_tree.specs.Trees.{Tree, Update}
use Rattle.p9_tree.specs.Operations.{of_two}
use Rattle.p9_tree.specs.Meaning.{Environment, evaluate, load, store, operate, update, step}
use Rattle.p9_tree.proofs.Same.{same_bind}
use Rattle.p9_lower.specs.Operators.{width_of, word_operator, forward_tree, scaled_tree, updated_tree, step_bytes, step_amount}
use Rattle.p9_lower.specs.Premises.{works_on_words, is_additive, update_is_sound, is_plain}
use Rattle.p9_lower.specs.Keeping.{Stands}
use Rattle.p9_lower.proofs.Plays.{stands_refl, bind_done, along}
use Rattle.p9_lower.proofs.Truths.{left_true, right_true}
use Rattle.p9_lower.proofs.Widths.{narrow_width}
use Rattle.p9_lower.proofs.Moving.{moved_value, Moves, elements_move, word_added, word_subtracted, one_element_moved, negated_moved, back_is_negated}
use Rattle.p9_lower.proofs.Operating.{some_ok, of_integer_type, integers_are}
use Rattle.p9_lower.proofs.Trees.{operated, elements_in, forward_is, scaled_is}
use Rattle.p9_lower.proofs.Access.{integer_loaded, pointer_loaded}
use Rattle.p9_lower.proofs.Assigning.{IsThere, store_same, kept_stored, assigned_free, result_bind}

-- what isn't read has no operators
no_operation : (op : CBinary) (tags : Tags) (objects : List Object) (type right : TypeTree) (v w : Value) → content_of type ≡ contents.Aggregate
    → operation op tags objects type right v w ≡ None
no_operation op tags objects (Array t n) (Pointer o) v w c = refl
no_operation op tags objects (Array t n) right v w c = refl
no_operation op tags objects (Function t ts) (Pointer o) v w c = refl
no_operation op tags objects (Function t ts) right v w c = refl
no_operation op tags objects (Tagged i) (Pointer o) v w c = refl
no_operation op tags objects (Tagged i) right v w c = refl
no_operation op tags objects type right v w c = cc

-- an operation that is followed by another play
given_bind : (place : Place) (s : State) (o : Option (Result Value Cause)) (k : Value → State → Play Value) (q : Play Value)
    → ((x : Value) → o ≡ Some (Ok x) → plays.Same Stands (k x s) q) → plays.Same Stands (bind (or_no_meaning place s o (λ r. done_at place s r)) k) q
given_bind place s (Some (Ok x)) k q h = h x refl
given_bind place s (Some (Err why)) k q h = tt
given_bind place s None k q h = tt

operate_bind : (around : Surroundings) (place : Place) (op : CBinary) (left right : TypeTree) (v w : Value) (s : State) (k : Value → State → Play Value) (q : Play Value)
    → ((x : Value) → IsThere w → operation op around.tags s.objects left right v w ≡ Some (Ok x) → plays.Same Stands (k x s) q)
    → plays.Same Stands (bind (source.operate around place op left right v w s) k) q
operate_bind around place op left right (Missing c) w s k q h = tt
operate_bind around place op left right (Word n) (Missing c) s k q h = tt
operate_bind around place op left right (Word n) (Word m) s k q h = given_bind place s (operation op around.tags s.objects left right (Word n) (Word m)) k q (λ x e. h x tt e)
operate_bind around place op left right (Word n) (Address p) s k q h = given_bind place s (operation op around.tags s.objects left right (Word n) (Address p)) k q (λ x e. h x tt e)
operate_bind around place op left right (Address p) (Missing c) s k q h = tt
operate_bind around place op left right (Address p) (Word m) s k q h = given_bind place s (operation op around.tags s.objects left right (Address p) (Word m)) k q (λ x e. h x tt e)
operate_bind around place op left right (Address p) (Address r) s k q h = given_bind place s (operation op around.tags s.objects left right (Address p) (Address r)) k q (λ x e. h x tt e)

-- what is read, and an operation on it
read_by : (content : Content) (around : Surroundings) (place read : Place) (op : CBinary) (type right : TypeTree) (a a' v : Value) (s : State) (k : Value → Value → State → Play Value) (q : Play Value)
    → content_of type ≡ content → Stands a a'
    → ((old x : Value) → load (width_of type) a' s ≡ Done old s → IsThere v → operation op around.tags s.objects type right old v ≡ Some (Ok x) → plays.Same Stands (k old x s) q)
    → plays.Same Stands (bind (read_content content around.tags type read a s) (λ old t. bind (source.operate around place op type right old v t) (λ new u. k old new u))) q
read_by contents.Integer around place read op type right a a' v s k q c g h =
    result_bind read s (loaded (integer_from (narrowed type)) (size_of around.tags type) (alignment_of around.tags type) s.objects a) _ q (λ old e.
    operate_bind around place op type right old v s (k old) q (λ x i f. h old x (integer_loaded around.tags type s a a' old c g e) i f))
read_by contents.Reference around place read op type right a a' v s k q c g h =
    result_bind read s (loaded pointer_from (size_of around.tags type) (alignment_of around.tags type) s.objects a) _ q (λ old e.
    operate_bind around place op type right old v s (k old) q (λ x i f. h old x (pointer_loaded around.tags type s a a' old c g e) i f))
read_by contents.Aggregate around place read op type right a a' v s k q c g h =
    operate_bind around place op type right a v s (k a) q (λ x i f.
    let e : operation op around.tags s.objects type right a v ≡ None = no_operation op around.tags s.objects type right a v c in cc)
read_by contents.Nothing around place read op type right a a' v s k q c g h = tt

read_operate : (around : Surroundings) (place read : Place) (op : CBinary) (type right : TypeTree) (a a' v : Value) (s : State) (k : Value → Value → State → Play Value) (q : Play Value)
    → Stands a a'
    → ((old x : Value) → load (width_of type) a' s ≡ Done old s → IsThere v → operation op around.tags s.objects type right old v ≡ Some (Ok x) → plays.Same Stands (k old x s) q)
    → plays.Same Stands (bind (read_at around type read a s) (λ old t. bind (source.operate around place op type right old v t) (λ new u. k old new u))) q
read_operate around place read op type right a a' v s k q g h = read_by (content_of type) around place read op type right a a' v s k q refl g h

-- what comes of an operation is assigned
plain_same : (around : Surroundings) (conversion : Conversion) (place : Place) (type : TypeTree) (a a' x : Value) (s : State) → is_plain conversion ≡ true → Stands a a'
    → plays.Same Stands (assign_scalar around conversion place type a x s) (store (width_of type) a' x s)
plain_same around Same place type a a' x s c h =
    assigned_free around Same place type a x x s _ (stands_refl x) (λ there. kept_stored around.tags place type (is_integer type) a a' x s refl h there)
plain_same around Integer place type a a' x s c h =
    assigned_free around Integer place type a x x s _ (stands_refl x) (λ there.
    result_bind place s (narrow type x) _ _ (λ y e. store_same around.tags type place s a a' x y h (narrow_width type x y e)))
plain_same around Null place type a a' x s c h = cc
plain_same around (Inner offset) place type a a' x s c h = cc
plain_same around Ambiguous place type a a' x s c h = assigned_free around Ambiguous place type a x x s _ (stands_refl x) (λ there. tt)
plain_same around No place type a a' x s c h = assigned_free around No place type a x x s _ (stands_refl x) (λ there. tt)

common_is_plain : (tags : Tags) (unsigned long : Bool) (type : TypeTree) → is_pointer type ≡ false → is_plain (conversion tags (integer_of unsigned long) type false) ≡ true
common_is_plain tags true true (Pointer t) h = cc
common_is_plain tags true true type h = refl
common_is_plain tags true false (Pointer t) h = cc
common_is_plain tags true false type h = refl
common_is_plain tags false true (Pointer t) h = cc
common_is_plain tags false true type h = refl
common_is_plain tags false false (Pointer t) h = cc
common_is_plain tags false false type h = refl

result_by : (around : Surroundings) (type right : TypeTree) (pointer : Bool) → is_pointer type ≡ pointer
    → is_plain (if pointer then Same else conversion around.tags (common type right) type false) ≡ true
result_by around (Pointer t) right true h = refl
result_by around type right true h = cc
result_by around type right false h = common_is_plain around.tags (is_unsigned type || is_unsigned right) (is_long type || is_long right) type h

result_is_plain : (around : Surroundings) (type right : TypeTree) → is_plain (result_conversion around type right) ≡ true
result_is_plain around type right = result_by around type right (is_pointer type) refl

-- `op=`

there_is : (v w : Value) → Stands v w → IsThere v → v ≡ w
there_is (Word n) w h i = h
there_is (Address p) w h i = h
there_is (Missing c) w h i = absurd i

-- what the right side adds, by an operation on two words
pub record Adds (bop : BinOp) (scale : Play Value) (s : State) (old x : Value) : Type 0 where
  pub amount : Value
  pub scales : scale ≡ Done amount s
  pub gives : of_two bop s.objects old amount ≡ Ok x

update_done : (around : Surroundings) (place read : Place) (op : CBinary) (bop : BinOp) (type right : TypeTree) (a a' v v' : Value) (s : State) (scale : Value → State → Play Value)
    → Stands a a' → Stands v v'
    → ((old x : Value) → operation op around.tags s.objects type right old v' ≡ Some (Ok x) → Adds bop (scale v' s) s old x)
    → plays.Same Stands (source.update around place read op type right a v s) (bind (scale v' s) (λ m u. update (width_of type) bop a' m u))
update_done around place read op bop type right a a' v v' s scale g f h =
    read_operate around place read op type right a a' v s (λ old new u. assign_scalar around (result_conversion around type right) place type a new u)
    (bind (scale v' s) (λ m u. update (width_of type) bop a' m u)) g (λ old x l i e.
    let r : Adds bop (scale v' s) s old x = h old x (subst (λ y. operation op around.tags s.objects type right old y ≡ Some (Ok x)) (there_is v v' f i) e) in
    along Stands _ (bind (scale v' s) (λ m u. update (width_of type) bop a' m u)) (store (width_of type) a' x s)
    (ap (λ q. bind q (λ m u. update (width_of type) bop a' m u)) r.scales
    ∙ ap (λ q. bind q (λ o t. bind (operate bop o r.amount t) (λ new u. store (width_of type) a' new u))) l
    ∙ ap (λ q. bind q (λ new u. store (width_of type) a' new u)) (operated bop s old r.amount x r.gives))
    (plain_same around (result_conversion around type right) place type a a' x s (result_is_plain around type right) g))

-- operations by types
pointer_operation : (op : CBinary) (tags : Tags) (objects : List Object) (target right : TypeTree) (v w : Value) → is_pointer right ≡ false
    → operation op tags objects (Pointer target) right v w ≡ if_integer right (pointer_and_integer op tags objects target right v w)
pointer_operation op tags objects target (Pointer o) v w h = cc
pointer_operation op tags objects target right v w h = refl

integer_operation : (op : CBinary) (tags : Tags) (objects : List Object) (left right : TypeTree) (v w : Value) → is_pointer left ≡ false → is_pointer right ≡ false
    → operation op tags objects left right v w ≡ if_integer left (if_integer right (Some (of_integers op left right v w)))
integer_operation op tags objects (Pointer t) right v w h g = cc
integer_operation op tags objects left (Pointer t) v w h g = cc
integer_operation op tags objects left right v w h g = refl

elements_by : (size n : ℕ) (s : State) (old x : Value) (p : Option cells.Pointer) (one : Bool) → (size == 1) ≡ one
    → pointer_in old ≡ Ok p → moved_value (element_offset false size n) p ≡ x
    → Adds bin.Add (if one then Done (Word n) s else operate bin.Mul (Word n) (Word size) s) s old x
elements_by size n s old x p true o e g =
    let f : moved_value (element_offset false 1 n) p ≡ x = subst (λ k. moved_value (element_offset false k n) p ≡ x) (eqb-true size 1 o) g in
    record { amount = Word n; scales = refl; gives = word_added s.objects old p n e ∙ ap Ok (sym (one_element_moved n p) ∙ f) }
elements_by size n s old x p false o e g =
    record { amount = Word (word_product n size); scales = refl; gives = word_added s.objects old p (word_product n size) e ∙ ap Ok g }

elements_added : (size : ℕ) (type : TypeTree) (s : State) (old v x : Value) → moved_elements s.objects false size type old v ≡ Ok x → Adds bin.Add (elements_in size v s) s old x
elements_added size type s old v x e =
    let m : Moves false size old v x = elements_move s.objects false size type old v x e in
    subst (λ y. Adds bin.Add (elements_in size y s) s old x) (sym m.counts) (elements_by size m.count s old x m.pointer (size == 1) refl m.points m.gives)

elements_subtracted : (size : ℕ) (type : TypeTree) (s : State) (old v x : Value) → moved_elements s.objects true size type old v ≡ Ok x
    → Adds bin.Sub (operate bin.Mul v (Word size) s) s old x
elements_subtracted size type s old v x e =
    let m : Moves true size old v x = elements_move s.objects true size type old v x e in
    subst (λ y. Adds bin.Sub (operate bin.Mul y (Word size) s) s old x) (sym m.counts)
    (record { amount = Word (word_product m.count size); scales = refl; gives = word_subtracted s.objects old m.pointer (word_product m.count size) m.points ∙ ap Ok m.gives })

module _ (env : Environment) (around : Surroundings) (place read : Place) (p : Play Value) (k : State → Play Value) (a b : Tree) (s : State) (hp : plays.Same Stands p (evaluate env a s)) (hk : (t : State) → plays.Same Stands (k t) (evaluate env b t)) where
  -- a right side that is turned into bytes
  scaled_same : (op : CBinary) (bop : BinOp) (type right : TypeTree) (b' : Tree) (scale : Value → State → Play Value)
      → ((t : State) → evaluate env b' t ≡ bind (evaluate env b t) scale)
      → ((u : State) (v old x : Value) → operation op around.tags u.objects type right old v ≡ Some (Ok x) → Adds bop (scale v u) u old x)
      → plays.Same Stands (bind p (λ to t. bind (k t) (λ v u. source.update around place read op type right to v u))) (evaluate env (Update (width_of type) bop a b') s)
  scaled_same op bop type right b' scale e h =
      along Stands (bind p (λ to t. bind (k t) (λ v u. source.update around place read op type right to v u))) (evaluate env (Update (width_of type) bop a b') s)
      (bind (evaluate env a s) (λ to t. bind (evaluate env b t) (λ v u. bind (scale v u) (λ m x. update (width_of type) bop to m x))))
      (λ i. bind (evaluate env a s) (λ to t.
      (ap (λ r. bind r (λ m x. update (width_of type) bop to m x)) (e t) ∙ bind_assoc (evaluate env b t) scale (λ m x. update (width_of type) bop to m x)) i))
      (same_bind Stands Stands p (evaluate env a s) _ _ hp (λ to to' t g.
      same_bind Stands Stands (k t) (evaluate env b t) _ _ (hk t) (λ v v' u f.
      update_done around place read op bop type right to to' v v' u scale g f (λ old x i. h u v' old x i))))

  pointer_updated : (op : CBinary) (target right : TypeTree) → is_additive op ≡ true → is_pointer right ≡ false
      → plays.Same Stands (bind p (λ to t. bind (k t) (λ v u. source.update around place read op (Pointer target) right to v u)))
      (evaluate env (updated_tree around.tags op (Pointer target) right a b) s)
  pointer_updated operator.Add target right c n =
      scaled_same operator.Add bin.Add (Pointer target) right (forward_tree (size_of around.tags target) b) (elements_in (size_of around.tags target)) (forward_is env (size_of around.tags target) b)
      (λ u v old x e. elements_added (size_of around.tags target) right u old v x
      (some_ok _ x (of_integer_type right _ _ (sym (pointer_operation operator.Add around.tags u.objects target right old v n) ∙ e))))
  pointer_updated operator.Sub target right c n =
      scaled_same operator.Sub bin.Sub (Pointer target) right (scaled_tree (size_of around.tags target) b) (λ v u. operate bin.Mul v (Word (size_of around.tags target)) u) (scaled_is env (size_of around.tags target) b)
      (λ u v old x e. elements_subtracted (size_of around.tags target) right u old v x
      (some_ok _ x (of_integer_type right _ _ (sym (pointer_operation operator.Sub around.tags u.objects target right old v n) ∙ e))))
  pointer_updated op target right c n = cc

  integer_updated : (op : CBinary) (type right : TypeTree) → works_on_words op ≡ true → is_pointer type ≡ false → is_pointer right ≡ false
      → plays.Same Stands (bind p (λ to t. bind (k t) (λ v u. source.update around place read op type right to v u)))
      (evaluate env (Update (width_of type) (word_operator op (works_unsigned op type right)) a b) s)
  integer_updated op type right c n m =
      scaled_same op (word_operator op (works_unsigned op type right)) type right b (λ v u. Done v u) (λ t. sym (bind_done (evaluate env b t)))
      (λ u v old x e. record {
        amount = v;
        scales = refl;
        gives = integers_are op type right u.objects old v x c
            (some_ok _ x (of_integer_type right _ _ (of_integer_type type _ _ (sym (integer_operation op around.tags u.objects type right old v n m) ∙ e))));
      })

  pub updated_same : (op : CBinary) (type right : TypeTree) → update_is_sound op type right ≡ true
      → plays.Same Stands (bind p (λ to t. bind (k t) (λ v u. source.update around place read op type right to v u)))
      (evaluate env (updated_tree around.tags op type right a b) s)
  updated_same op (Pointer target) right h = pointer_updated op target right (left_true (is_additive op) (not (is_pointer right)) h) (not-true (is_pointer right) (right_true (is_additive op) (not (is_pointer right)) h))
  updated_same op type right h = integer_updated op type right (left_true (works_on_words op) (not (is_pointer right)) h) refl (not-true (is_pointer right) (right_true (works_on_words op) (not (is_pointer right)) h))

-- `++` AND `--`

one_byte : (tags : Tags) (type : TypeTree) → is_pointer type ≡ false → step_bytes tags type ≡ 1
one_byte tags (Pointer t) h = cc
one_byte tags type h = refl

step_word : (minus : Bool) (type : TypeTree) (old x : Value) (objects : List Object) → of_integers (step_operator minus) type Int old (Word 1) ≡ Ok x
    → of_two bin.Add objects old (Word (if minus then word_negation 1 else 1)) ≡ Ok x
step_word true type (Word n) x objects e = ap (λ k. Ok (Word k)) (sym (back_is_negated n 1)) ∙ e
step_word false type (Word n) x objects e = e
step_word minus type (Address p) x objects e = cc
step_word minus type (Missing c) x objects e = cc

amount_of : (tags : Tags) (minus : Bool) (type : TypeTree) → is_pointer type ≡ false → (if minus then word_negation 1 else 1) ≡ step_amount tags minus type
amount_of tags true type h = ap word_negation (sym (one_byte tags type h))
amount_of tags false type h = sym (one_byte tags type h)

step_element : (tags : Tags) (target : TypeTree) (s : State) (minus : Bool) (old x : Value) → moved_elements s.objects minus (size_of tags target) Int old (Word 1) ≡ Ok x
    → of_two bin.Add s.objects old (Word (step_amount tags minus (Pointer target))) ≡ Ok x
step_element tags target s minus old x e =
    let m : Moves minus (size_of tags target) old (Word 1) x = elements_move s.objects minus (size_of tags target) Int old (Word 1) x e in
    let c : 1 ≡ m.count = cc in
    by minus m.pointer m.points (subst (λ n. moved_value (element_offset minus (size_of tags target) n) m.pointer ≡ x) (sym c) m.gives)
  where
    by : (minus : Bool) (q : Option cells.Pointer) → pointer_in old ≡ Ok q → moved_value (element_offset minus (size_of tags target) 1) q ≡ x
        → of_two bin.Add s.objects old (Word (step_amount tags minus (Pointer target))) ≡ Ok x
    by true q h g = word_added s.objects old q (word_negation (word_product 1 (size_of tags target))) h ∙ ap Ok (sym (negated_moved (size_of tags target) q) ∙ g)
    by false q h g = word_added s.objects old q (word_product 1 (size_of tags target)) h ∙ ap Ok g

step_by : (tags : Tags) (type : TypeTree) (minus : Bool) (s : State) (old x : Value) → is_pointer type ≡ false
    → operation (step_operator minus) tags s.objects type Int old (Word 1) ≡ Some (Ok x) → of_two bin.Add s.objects old (Word (step_amount tags minus type)) ≡ Ok x
step_by tags type minus s old x n e =
    subst (λ k. of_two bin.Add s.objects old (Word k) ≡ Ok x) (amount_of tags minus type n)
    (step_word minus type old x s.objects (some_ok _ x (of_integer_type type _ _ (sym (integer_operation (step_operator minus) tags s.objects type Int old (Word 1) n refl) ∙ e))))

step_is : (tags : Tags) (type : TypeTree) (minus : Bool) (s : State) (old x : Value)
    → operation (step_operator minus) tags s.objects type Int old (Word 1) ≡ Some (Ok x) → of_two bin.Add s.objects old (Word (step_amount tags minus type)) ≡ Ok x
step_is tags (Pointer target) true s old x e = step_element tags target s true old x (some_ok _ x e)
step_is tags (Pointer target) false s old x e = step_element tags target s false old x (some_ok _ x e)
step_is tags type minus s old x e = step_by tags type minus s old x refl e

-- the play of a step, when its parts are known
stepped : (w : Width) (is_prefix : Bool) (amount : ℕ) (a old x : Value) (s : State) → load w a s ≡ Done old s → of_two bin.Add s.objects old (Word amount) ≡ Ok x
    → step w is_prefix amount a s ≡ bind (store w a x s) (λ kept u. Done (if is_prefix then kept else old) u)
stepped w is_prefix amount a old x s l e =
    ap (λ q. bind q (λ o t. bind (operate bin.Add o (Word amount) t) (λ new u. bind (store w a new u) (λ kept y. Done (if is_prefix then kept else o) y)))) l
    ∙ ap (λ q. bind q (λ new u. bind (store w a new u) (λ kept y. Done (if is_prefix then kept else old) y))) (operated bin.Add s old (Word amount) x e)

pub before_same : (around : Surroundings) (place read : Place) (minus : Bool) (type : TypeTree) (a a' : Value) (s : State) → Stands a a'
    → plays.Same Stands (source.update around place read (step_operator minus) type Int a (Word 1) s) (step (width_of type) true (step_amount around.tags minus type) a' s)
before_same around place read minus type a a' s g =
    read_operate around place read (step_operator minus) type Int a a' (Word 1) s (λ old new u. assign_scalar around (result_conversion around type Int) place type a new u)
    (step (width_of type) true (step_amount around.tags minus type) a' s) g (λ old x l i e.
    along Stands _ (step (width_of type) true (step_amount around.tags minus type) a' s) (store (width_of type) a' x s)
    (stepped (width_of type) true (step_amount around.tags minus type) a' old x s l (step_is around.tags type minus s old x e) ∙ bind_done (store (width_of type) a' x s))
    (plain_same around (result_conversion around type Int) place type a a' x s (result_is_plain around type Int) g))

pub behind_same : (around : Surroundings) (place read : Place) (minus : Bool) (type : TypeTree) (a a' : Value) (s : State) → Stands a a'
    → plays.Same Stands (old_value around place read (step_operator minus) type a s) (step (width_of type) false (step_amount around.tags minus type) a' s)
behind_same around place read minus type a a' s g =
    read_operate around place read (step_operator minus) type Int a a' (Word 1) s (λ old new u. bind (assign_scalar around (result_conversion around type Int) place type a new u) (λ written w. Done old w))
    (step (width_of type) false (step_amount around.tags minus type) a' s) g (λ old x l i e.
    along Stands _ (step (width_of type) false (step_amount around.tags minus type) a' s) (bind (store (width_of type) a' x s) (λ kept u. Done old u))
    (stepped (width_of type) false (step_amount around.tags minus type) a' old x s l (step_is around.tags type minus s old x e))
    (same_bind Stands Stands (assign_scalar around (result_conversion around type Int) place type a x s) (store (width_of type) a' x s) _ _
    (plain_same around (result_conversion around type Int) place type a a' x s (result_is_plain around type Int) g)
    (λ v w t h. (old, refl, stands_refl old))))
