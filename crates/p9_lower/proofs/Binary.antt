-- Operators of two operands: the trees of their types do what the sources do.
use Rattle.std.proofs.Common.{◌≡◌, ◌<◌, ℕ, ◌+◌, ◌-◌, ◌^◌, ◌==◌, Bool, true, false, if◌then◌else◌, List, Option, Some, None, Result, Ok, refl, sym, ap, ◌∙◌, subst, nat_lt, nat_le, mod-lt, lit<}
use Rattle.std.proofs.lemmas.Bool.{eqb-true}
use Rattle.p9_base.specs.Words.{word_difference, word_product}
use Rattle.p9_lang.specs.declared.tree.CBinary.{CBinary}
use Rattle.p9_lang.specs.declared.tree.CBinary.TheVariants as operator
use Rattle.p9_lang.specs.Types.{TypeTree, Pointer, Tags}
use Rattle.p9_lang.specs.Layout.{size_of}
use Rattle.p9_lang.specs.Conversions.{is_pointer}
use Rattle.p9_lang.specs.Constants.{works_unsigned}
use Rattle.p9_cmean.specs.declared.Cause.{Cause}
use Rattle.p9_cmean.specs.declared.Place.{Place}
use Rattle.p9_cmean.specs.Cells.{Value, Word, Address, Missing, Object, State}
use Rattle.p9_cmean.specs.Cells as cells
use Rattle.p9_cmean.specs.Plays.{Play, Done, bind}
use Rattle.p9_cmean.specs.Places.{used, done_at, or_no_meaning}
use Rattle.p9_cmean.specs.Access.{pointer_in}
use Rattle.p9_cmean.specs.Expressions.{left_operand}
use Rattle.p9_cmean.specs.Operators.{of_pointers, within_one, elements_between, moved_elements, whole_elements, element_offset, of_integers, two_pointers, pointer_and_integer, integer_and_pointer, if_integer, operation}
use Rattle.p9_cmean.proofs.Plays.{bind_assoc}
use Rattle.p9_tree.specs.declared.tree.BinOp.{BinOp}
use Rattle.p9_tree.specs.declared.tree.BinOp.TheVariants as bin
use Rattle.p9_tree.specs.Same.{Same}
use Rattle.p9_tree.specs.Trees.{Tree, Bin}
use Rattle.p9_tree.specs.Operations.{of_two}
use Rattle.p9_tree.specs.Meaning.{Environment, evaluate, operate}
use Rattle.p9_tree.proofs.Same.{same_bind}
use Rattle.p9_lower.specs.Operators.{word_operator, moved_tree, scaled_tree, forward_tree, divided_tree, pointers_tree, pointer_integer_tree, integer_pointer_tree, binary_tree}
use Rattle.p9_lower.specs.Premises.{is_size, works_on_words, operands_are_sound}
use Rattle.p9_lower.specs.Keeping.{Stands}
use Rattle.p9_lower.proofs.Plays.{along, used_free, given_same, operands_same}
use Rattle.p9_lower.proofs.Moving.{moved_value, Moves, elements_move, word_added, added_to_word, word_subtracted, one_element_moved}
use Rattle.p9_lower.proofs.Operating.{some_ok, of_integer_type, compared_is, equality_is, inequality_is, Between, pointers_differ, whole_divided, whole_of_one, integers_are}
use Rattle.p9_lower.proofs.Trees.{operated, SymbolsMove, moved_is, scaled_is, elements_in, forward_is, divided_in, divided_is, second_scaled}
use Rattle.p9_lower.proofs.Left.{StandsWord, left_same, left_word}

-- OF TWO VALUES

abbrev pub is_difference : CBinary → Bool
is_difference operator.Sub = true
is_difference op = false

pointers_are : (op : CBinary) (tags : Tags) (objects : List Object) (target : TypeTree) (v w x : Value) → is_difference op ≡ false
    → two_pointers op tags objects target v w ≡ Some (Ok x) → of_two (word_operator op true) objects v w ≡ Ok x
pointers_are operator.Sub tags objects t v w x h e = cc
pointers_are operator.Lt tags objects t v w x h e = compared_is (λ a b. nat_lt a b) bin.LtU objects v w x (λ p q. refl) (some_ok _ x e)
pointers_are operator.Gt tags objects t v w x h e = compared_is (λ a b. nat_lt b a) bin.GtU objects v w x (λ p q. refl) (some_ok _ x e)
pointers_are operator.Le tags objects t v w x h e = compared_is (λ a b. nat_le a b) bin.LeU objects v w x (λ p q. refl) (some_ok _ x e)
pointers_are operator.Ge tags objects t v w x h e = compared_is (λ a b. nat_le b a) bin.GeU objects v w x (λ p q. refl) (some_ok _ x e)
pointers_are operator.Eq tags objects t v w x h e = equality_is objects v w x (some_ok _ x e)
pointers_are operator.Ne tags objects t v w x h e = inequality_is objects v w x (some_ok _ x e)
pointers_are op tags objects t v w x h e = cc

-- the elements between two pointers
elements_are : (size : ℕ) (s : State) (d n : ℕ) (x : Value) (one : Bool) → is_size size ≡ true → (size == 1) ≡ one → d < 2 ^ 32
    → whole_elements size d ≡ Ok n → Word n ≡ x → (if one then Done (Word d) s else operate bin.Div (Word d) (Word size) s) ≡ Done x s
elements_are size s d n x true h o l e g =
    let f : whole_elements 1 d ≡ Ok n = subst (λ k. whole_elements k d ≡ Ok n) (eqb-true size 1 o) e in
    ap (λ k. Done (Word k) s) (whole_of_one d n l f) ∙ ap (λ y. Done y s) g
elements_are size s d n x false h o l e g = operated bin.Div s (Word d) (Word size) x (whole_divided size d n h e ∙ ap Ok g)

differences_are : (size : ℕ) (s : State) (v w x : Value) → is_size size ≡ true
    → Some (of_pointers s.objects v w (within_one (elements_between size))) ≡ Some (Ok x)
    → bind (operate bin.Sub v w s) (divided_in size) ≡ Done x s
differences_are size s v w x h e =
    let b : Between s.objects size v w x = pointers_differ s.objects size v w x (some_ok _ x e) in
    ap (λ p. bind p (divided_in size)) (operated bin.Sub s v w (Word (word_difference b.from b.to)) b.bytes)
    ∙ elements_are size s (word_difference b.from b.to) b.elements x (size == 1) h refl (mod-lt (b.from + (2 ^ 32 - b.to)) (lit< tt)) b.are_whole b.gives

-- a number of elements, in bytes
sums_by : (size n : ℕ) (s : State) (v x : Value) (p : Option cells.Pointer) (one : Bool) → (size == 1) ≡ one
    → pointer_in v ≡ Ok p → moved_value (element_offset false size n) p ≡ x
    → bind (if one then Done (Word n) s else operate bin.Mul (Word n) (Word size) s) (λ m u. operate bin.Add v m u) ≡ Done x s
sums_by size n s v x p true o e g =
    let f : moved_value (element_offset false 1 n) p ≡ x = subst (λ k. moved_value (element_offset false k n) p ≡ x) (eqb-true size 1 o) g in
    operated bin.Add s v (Word n) x (word_added s.objects v p n e ∙ ap Ok (sym (one_element_moved n p) ∙ f))
sums_by size n s v x p false o e g = operated bin.Add s v (Word (word_product n size)) x (word_added s.objects v p (word_product n size) e ∙ ap Ok g)

sums_are : (size : ℕ) (type : TypeTree) (s : State) (v w x : Value) → Some (moved_elements s.objects false size type v w) ≡ Some (Ok x)
    → bind (elements_in size w s) (λ m u. operate bin.Add v m u) ≡ Done x s
sums_are size type s v w x e =
    let m : Moves false size v w x = elements_move s.objects false size type v w x (some_ok _ x e) in
    subst (λ y. bind (elements_in size y s) (λ m u. operate bin.Add v m u) ≡ Done x s) (sym m.counts)
    (sums_by size m.count s v x m.pointer (size == 1) refl m.points m.gives)

less_are : (size : ℕ) (type : TypeTree) (s : State) (v w x : Value) → Some (moved_elements s.objects true size type v w) ≡ Some (Ok x)
    → bind (operate bin.Mul w (Word size) s) (λ m u. operate bin.Sub v m u) ≡ Done x s
less_are size type s v w x e =
    let m : Moves true size v w x = elements_move s.objects true size type v w x (some_ok _ x e) in
    subst (λ y. bind (operate bin.Mul y (Word size) s) (λ m u. operate bin.Sub v m u) ≡ Done x s) (sym m.counts)
    (operated bin.Sub s v (Word (word_product m.count size)) x (word_subtracted s.objects v m.pointer (word_product m.count size) m.points ∙ ap Ok m.gives))

-- OF TWO OPERANDS

abbrev pub Operands : Place → (State → Value → Value → Option (Result Value Cause)) → Play Value → (State → Play Value) → Play Value
Operands place r p k = bind p (λ a t. bind (k t) (λ b u. used a u (λ v. used b u (λ w. or_no_meaning place u (r u v w) (λ result. done_at place u result)))))

module _ (env : Environment) (moves : SymbolsMove env) (place : Place) (tags : Tags) (p : Play Value) (k : State → Play Value) (a b : Tree) (s : State) (hp : Same Stands p (evaluate env a s)) (hk : (t : State) → Same Stands (k t) (evaluate env b t)) where
  plain_same : (r : State → Value → Value → Option (Result Value Cause)) (op : BinOp)
      → ((t : State) (v w x : Value) → r t v w ≡ Some (Ok x) → of_two op t.objects v w ≡ Ok x)
      → Same Stands (Operands place r p k) (evaluate env (Bin op a b) s)
  plain_same r op h =
      operands_same p (evaluate env a s) k (evaluate env b) place r (λ t v w. operate op v w t) hp hk (λ t v w x e. operated op t v w x (h t v w x e))

  pointers_same : (op : CBinary) (target other : TypeTree) → operands_are_sound tags op (Pointer target) (Pointer other) ≡ true
      → Same Stands (Operands place (λ t v w. two_pointers op tags t.objects target v w) p k) (evaluate env (pointers_tree op (size_of tags target) a b) s)
  pointers_same operator.Sub target other h =
      along Stands (Operands place (λ t v w. two_pointers operator.Sub tags t.objects target v w) p k)
      (evaluate env (divided_tree (size_of tags target) (Bin bin.Sub a b)) s)
      (bind (evaluate env a s) (λ v t. bind (evaluate env b t) (λ w u. bind (operate bin.Sub v w u) (divided_in (size_of tags target)))))
      (divided_is env (size_of tags target) (Bin bin.Sub a b) s
      ∙ bind_assoc (evaluate env a s) (λ v t. bind (evaluate env b t) (λ w u. operate bin.Sub v w u)) (divided_in (size_of tags target))
      ∙ (λ i. bind (evaluate env a s) (λ v t. bind_assoc (evaluate env b t) (λ w u. operate bin.Sub v w u) (divided_in (size_of tags target)) i)))
      (operands_same p (evaluate env a s) k (evaluate env b) place (λ t v w. two_pointers operator.Sub tags t.objects target v w)
      (λ t v w. bind (operate bin.Sub v w t) (divided_in (size_of tags target))) hp hk
      (λ t v w x e. differences_are (size_of tags target) t v w x h e))
  pointers_same op target other h =
      plain_same (λ t v w. two_pointers op tags t.objects target v w) (word_operator op true)
      (λ t v w x e. pointers_are op tags t.objects target v w x refl e)

  pointer_integer_same : (op : CBinary) (target type : TypeTree)
      → Same Stands (Operands place (λ t v w. if_integer type (pointer_and_integer op tags t.objects target type v w)) p k) (evaluate env (pointer_integer_tree op (size_of tags target) a b) s)
  pointer_integer_same operator.Add target type =
      along Stands (Operands place (λ t v w. if_integer type (pointer_and_integer operator.Add tags t.objects target type v w)) p k)
      (evaluate env (moved_tree a (forward_tree (size_of tags target) b)) s)
      (bind (evaluate env a s) (λ v t. bind (evaluate env b t) (λ w u. bind (elements_in (size_of tags target) w u) (λ m x. operate bin.Add v m x))))
      (moved_is env moves a (forward_tree (size_of tags target) b) s
      ∙ second_scaled env bin.Add a b (forward_tree (size_of tags target) b) (elements_in (size_of tags target)) s (forward_is env (size_of tags target) b))
      (operands_same p (evaluate env a s) k (evaluate env b) place (λ t v w. if_integer type (pointer_and_integer operator.Add tags t.objects target type v w))
      (λ t v w. bind (elements_in (size_of tags target) w t) (λ m x. operate bin.Add v m x)) hp hk
      (λ t v w x e. sums_are (size_of tags target) type t v w x (of_integer_type type _ _ e)))
  pointer_integer_same operator.Sub target type =
      along Stands (Operands place (λ t v w. if_integer type (pointer_and_integer operator.Sub tags t.objects target type v w)) p k)
      (evaluate env (Bin bin.Sub a (scaled_tree (size_of tags target) b)) s)
      (bind (evaluate env a s) (λ v t. bind (evaluate env b t) (λ w u. bind (operate bin.Mul w (Word (size_of tags target)) u) (λ m x. operate bin.Sub v m x))))
      (second_scaled env bin.Sub a b (scaled_tree (size_of tags target) b) (λ w u. operate bin.Mul w (Word (size_of tags target)) u) s (scaled_is env (size_of tags target) b))
      (operands_same p (evaluate env a s) k (evaluate env b) place (λ t v w. if_integer type (pointer_and_integer operator.Sub tags t.objects target type v w))
      (λ t v w. bind (operate bin.Mul w (Word (size_of tags target)) t) (λ m x. operate bin.Sub v m x)) hp hk
      (λ t v w x e. less_are (size_of tags target) type t v w x (of_integer_type type _ _ e)))
  pointer_integer_same operator.Eq target type =
      plain_same (λ t v w. if_integer type (pointer_and_integer operator.Eq tags t.objects target type v w)) bin.Eq
      (λ t v w x e. equality_is t.objects v w x (some_ok _ x (of_integer_type type _ _ e)))
  pointer_integer_same operator.Ne target type =
      plain_same (λ t v w. if_integer type (pointer_and_integer operator.Ne tags t.objects target type v w)) bin.Ne
      (λ t v w x e. inequality_is t.objects v w x (some_ok _ x (of_integer_type type _ _ e)))
  pointer_integer_same op target type =
      plain_same (λ t v w. if_integer type (pointer_and_integer op tags t.objects target type v w)) (word_operator op true)
      (λ t v w x e. let f : None ≡ Some (Ok x) = of_integer_type type (pointer_and_integer op tags t.objects target type v w) (Ok x) e in cc)

  sum_of : (target type : TypeTree) (n : ℕ) (one : Bool) → (size_of tags target == 1) ≡ one → (t : State)
      → Same Stands (bind (k t) (λ c u. used c u (λ w. or_no_meaning place u (if_integer type (integer_and_pointer operator.Add tags u.objects type target (Word n) w)) (λ result. done_at place u result))))
      (bind (if one then Done (Word n) t else operate bin.Mul (Word n) (Word (size_of tags target)) t) (λ m x. bind (evaluate env b x) (λ w u. operate bin.Add m w u)))
  sum_of target type n true o t =
      same_bind Stands Stands (k t) (evaluate env b t) _ _ (hk t) (λ c c' u f.
      used_free Stands c c' u _ _ f (given_same place u _ _ (λ x e.
      let m : Moves false (size_of tags target) c' (Word n) x = elements_move u.objects false (size_of tags target) type c' (Word n) x (some_ok _ x (of_integer_type type _ _ e)) in
      let i : n ≡ m.count = cc in
      let g : moved_value (element_offset false 1 n) m.pointer ≡ x =
      subst (λ j. moved_value (element_offset false j n) m.pointer ≡ x) (eqb-true (size_of tags target) 1 o)
      (subst (λ j. moved_value (element_offset false (size_of tags target) j) m.pointer ≡ x) (sym i) m.gives) in
      operated bin.Add u (Word n) c' x (added_to_word u.objects c' m.pointer n m.points ∙ ap Ok (sym (one_element_moved n m.pointer) ∙ g)))))
  sum_of target type n false o t =
      same_bind Stands Stands (k t) (evaluate env b t) _ _ (hk t) (λ c c' u f.
      used_free Stands c c' u _ _ f (given_same place u _ _ (λ x e.
      let m : Moves false (size_of tags target) c' (Word n) x = elements_move u.objects false (size_of tags target) type c' (Word n) x (some_ok _ x (of_integer_type type _ _ e)) in
      let i : n ≡ m.count = cc in
      let g : moved_value (element_offset false (size_of tags target) n) m.pointer ≡ x =
      subst (λ j. moved_value (element_offset false (size_of tags target) j) m.pointer ≡ x) (sym i) m.gives in
      operated bin.Add u (Word (word_product n (size_of tags target))) c' x (added_to_word u.objects c' m.pointer (word_product n (size_of tags target)) m.points ∙ ap Ok g))))

  -- an integer before a pointer: its bytes are known before the pointer is
  sum_word : (target type : TypeTree) (v v' : Value) (t : State) → StandsWord v v'
      → Same Stands (bind (k t) (λ c u. used v u (λ x. used c u (λ w. or_no_meaning place u (if_integer type (integer_and_pointer operator.Add tags u.objects type target x w)) (λ result. done_at place u result)))))
      (bind (elements_in (size_of tags target) v' t) (λ m x. bind (evaluate env b x) (λ w u. operate bin.Add m w u)))
  sum_word target type (Missing c) v' t g = absurd g.1
  sum_word target type (Address q) v' t g = absurd g.1
  sum_word target type (Word n) v' t g =
      subst (λ y. Same Stands (bind (k t) (λ c u. used c u (λ w. or_no_meaning place u (if_integer type (integer_and_pointer operator.Add tags u.objects type target (Word n) w)) (λ result. done_at place u result))))
      (bind (elements_in (size_of tags target) y t) (λ m x. bind (evaluate env b x) (λ w u. operate bin.Add m w u)))) g.0
      (sum_of target type n (size_of tags target == 1) refl t)

  integer_pointer_same : (op : CBinary) (target type : TypeTree) → Same StandsWord p (evaluate env a s)
      → Same Stands (Operands place (λ t v w. if_integer type (integer_and_pointer op tags t.objects type target v w)) p k) (evaluate env (integer_pointer_tree op (size_of tags target) a b) s)
  integer_pointer_same operator.Add target type h =
      along Stands (Operands place (λ t v w. if_integer type (integer_and_pointer operator.Add tags t.objects type target v w)) p k)
      (evaluate env (Bin bin.Add (forward_tree (size_of tags target) a) b) s)
      (bind (evaluate env a s) (λ v t. bind (elements_in (size_of tags target) v t) (λ m x. bind (evaluate env b x) (λ w u. operate bin.Add m w u))))
      (ap (λ r. bind r (λ m x. bind (evaluate env b x) (λ w u. operate bin.Add m w u))) (forward_is env (size_of tags target) a s)
      ∙ bind_assoc (evaluate env a s) (elements_in (size_of tags target)) (λ m x. bind (evaluate env b x) (λ w u. operate bin.Add m w u)))
      (same_bind StandsWord Stands p (evaluate env a s) _ _ h (λ v v' t g. sum_word target type v v' t g))
  integer_pointer_same operator.Eq target type h =
      plain_same (λ t v w. if_integer type (integer_and_pointer operator.Eq tags t.objects type target v w)) bin.Eq
      (λ t v w x e. equality_is t.objects v w x (some_ok _ x (of_integer_type type _ _ e)))
  integer_pointer_same operator.Ne target type h =
      plain_same (λ t v w. if_integer type (integer_and_pointer operator.Ne tags t.objects type target v w)) bin.Ne
      (λ t v w x e. inequality_is t.objects v w x (some_ok _ x (of_integer_type type _ _ e)))
  integer_pointer_same op target type h =
      plain_same (λ t v w. if_integer type (integer_and_pointer op tags t.objects type target v w)) (word_operator op true)
      (λ t v w x e. let f : None ≡ Some (Ok x) = of_integer_type type (integer_and_pointer op tags t.objects type target v w) (Ok x) e in cc)

  integers_same : (op : CBinary) (left right : TypeTree) → works_on_words op ≡ true
      → Same Stands (Operands place (λ t v w. if_integer left (if_integer right (Some (of_integers op left right v w)))) p k)
      (evaluate env (Bin (word_operator op (works_unsigned op left right)) a b) s)
  integers_same op left right h =
      plain_same (λ t v w. if_integer left (if_integer right (Some (of_integers op left right v w)))) (word_operator op (works_unsigned op left right))
      (λ t v w x e. integers_are op left right t.objects v w x h (some_ok _ x (of_integer_type right _ _ (of_integer_type left _ _ e))))

  operands_by : (op : CBinary) (left right : TypeTree) → works_on_words op ≡ true → operands_are_sound tags op left right ≡ true
      → (is_pointer left ≡ false → Same StandsWord p (evaluate env a s))
      → Same Stands (Operands place (λ t v w. operation op tags t.objects left right v w) p k) (evaluate env (binary_tree tags op left right a b) s)
  operands_by op (Pointer target) (Pointer other) h g f = pointers_same op target other g
  operands_by op (Pointer target) right h g f = pointer_integer_same op target right
  operands_by op left (Pointer target) h g f = integer_pointer_same op target left (f refl)
  operands_by op left right h g f = integers_same op left right h

pub binary_same : (env : Environment) (moves : SymbolsMove env) (place : Place) (tags : Tags) (p : Play Value) (k : State → Play Value) (a b : Tree) (s : State)
    → Same Stands p (evaluate env a s) → ((t : State) → Same Stands (k t) (evaluate env b t))
    → (op : CBinary) (left right : TypeTree) → works_on_words op ≡ true → operands_are_sound tags op left right ≡ true
    → Same Stands (Operands place (λ t v w. operation op tags t.objects left right v w) (left_operand place left p) k) (evaluate env (binary_tree tags op left right a b) s)
binary_same env moves place tags p k a b s hp hk op left right h g =
    operands_by env moves place tags (left_operand place left p) k a b s (left_same place left p (evaluate env a s) hp) hk op left right h g
    (λ e. left_word place left p (evaluate env a s) e hp)
