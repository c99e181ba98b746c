-- The code of an expression runs what the expression does.
use Rattle.std.proofs.Common.{◌≡◌, ℕ, suc, ◌+◌, Bool, true, false, if◌then◌else◌, List, [], ◌∷◌, ◌++◌, length, take, drop, reverse, Some, None, Result, Ok, Err, slice_get, refl, sym, ap, subst, ◌∙◌, arith, append_assoc, Option}
use Rattle.std.proofs.lemmas.List.{length-reverse, reverse-reverse}
use Rattle.std.proofs.lemmas.Grind.{reverse_onto}
use Rattle.std.proofs.Math.Seq.{take-append_seam, drop-append_seam}
use Rattle.p9_base.specs.Words.{word_negation, word_complement}
use Rattle.p9_lang.specs.declared.tree.CBinary.{CBinary}
use Rattle.p9_lang.specs.declared.tree.CBinary.TheVariants as operator
use Rattle.p9_lang.specs.declared.tree.CUnary.TheVariants as unary
use Rattle.p9_lang.specs.declared.tree.Kind.TheVariants as kind
use Rattle.p9_lang.specs.Types.{TypeTree, TypeRow, Int}
use Rattle.p9_lang.specs.Types as types
use Rattle.p9_lang.specs.Trees.{node, none, more, count_of}
use Rattle.p9_lang.specs.Layout.{size_of, alignment_of}
use Rattle.p9_lang.specs.Constants.{truth, type_at}
use Rattle.p9_lang.specs.Conversions.{is_structure}
use Rattle.p9_lang.specs.Modules.{Label, Typed, TypedRow}
use Rattle.p9_cmean.specs.declared.Cause.{Cause}
use Rattle.p9_cmean.specs.declared.Cause.TheVariants as cause
use Rattle.p9_cmean.specs.declared.Place.{Place}
use Rattle.p9_cmean.specs.Cells.{FunctionName, Value, Word, Address, Missing, State}
use Rattle.p9_cmean.specs.Plays.{Play, Done, Ask, bind}
use Rattle.p9_cmean.specs.Places.{or_wrong}
use Rattle.p9_cmean.specs.Access.{and_go, pointer_in}
use Rattle.p9_cmean.specs.Automatics.{Living}
use Rattle.p9_cmean.specs.Expressions.{Surroundings, at, operand_type, lvalue_place, read_at, convert_at, conversion_of, assign_scalar, assign_structure, assign, operate, test_at, result_conversion, step_operator, update, old_value, chosen, member_offset, parameters_of, pointed, gives_integer, answered, function_at, call_through, address, value, values}
use Rattle.p9_cmean.proofs.Plays.{bind_assoc}
use Rattle.p9_flat.specs.declared.op.Op.{Op}
use Rattle.p9_flat.specs.declared.op.Op.TheVariants as op
use Rattle.p9_flat.specs.Resolved.{tests}
use Rattle.p9_flat.specs.Code.{numbered_call_code, Numbers, Slot, Setting, lvalue_node, assign_code, assign_scalar_code, update_code, operate_code, read_code, truth_code, chosen_code, answer_code, call_code, address_code, value_code, values_code, convert_code}
use Rattle.p9_flat.specs.Laws.{AreNamed}
use Rattle.p9_flat.specs.Step.{Own, Frame, frame, Step, Next, asking, calling, function_of, step}
use Rattle.p9_flat.proofs.Playing.{by_call, by_fails}
use Rattle.p9_flat.proofs.Resolving.{function_is}
use Rattle.p9_flat.proofs.Runs.{World, PlaysIn, Runs, StraightWhere, Pushes, seq, seq_where, empty, moving, lacking, unnumbered, using, along}
use Rattle.p9_flat.proofs.Accesses.{place_of, reading, narrowing, keeping, converting, assigning, casting, choosing, copying, left_used, operating, inner, truth_of, not_of, joined, choice, wording, answering}
use Rattle.p9_flat.proofs.Naming.{Fits, own_of, with_living, naming, read_name, valuing}

-- the last arguments come first
abbrev pub onto : List Value → List Value → List Value
onto [] stack = stack
onto (v ∷ vs) stack = onto vs (v ∷ stack)

onto_is : (vs stack : List Value) → onto vs stack ≡ reverse vs ++ stack
onto_is [] stack = refl
onto_is (v ∷ vs) stack =
    onto_is vs (v ∷ stack) ∙ sym (append_assoc (reverse vs) (v ∷ []) stack) ∙ ap (λ l. l ++ stack) (sym (reverse_onto vs v []))

take_onto : (vs stack : List Value) (n : ℕ) → n ≡ length vs → reverse (take n (onto vs stack)) ≡ vs
take_onto vs stack n e =
    ap reverse (ap (take n) (onto_is vs stack) ∙ ap (λ j. take j (reverse vs ++ stack)) (e ∙ sym (length-reverse vs)) ∙ take-append_seam (reverse vs) stack)
    ∙ reverse-reverse vs

drop_onto : (vs stack : List Value) (n : ℕ) → n ≡ length vs → drop n (onto vs stack) ≡ stack
drop_onto vs stack n e =
    ap (drop n) (onto_is vs stack) ∙ ap (λ j. drop j (reverse vs ++ stack)) (e ∙ sym (length-reverse vs)) ∙ drop-append_seam (reverse vs) stack

module _ (w : World) (numbers : Numbers) (around : Surroundings) (named : AreNamed w.names numbers around) (scope : List Slot) (alive : ℕ)
    (living : List Living) (automatics : List ℕ) (call : Place) (fits : Fits scope living automatics) where
  abbrev pub own : Own
  own = own_of around automatics call

  abbrev pub setting : Setting
  setting = record { around = around; numbers = numbers; scope = scope; alive = alive }

  abbrev pub now : Surroundings
  now = with_living around living

  -- ASSIGNMENT

  pub lvalue_is : (e : Typed) → lvalue_place now e ≡ place_of own (lvalue_node e)
  lvalue_is (node kind.Parens label (more e none)) = lvalue_is e
  lvalue_is (node kind.Comma label (more left (more right none))) = lvalue_is right
  lvalue_is (node k label parts) = refl

  assigned_by : (b : Bool) (e : Typed) (type : TypeTree) (pc here : ℕ) (p v : Value) (stack : List Value)
      → Runs Value w own pc
      (if b then op.Copy (size_of around.tags type) (alignment_of around.tags type) (lvalue_node e) here ∷ [] else assign_scalar_code (conversion_of around e type) type here)
      (v ∷ p ∷ stack)
      (λ s. if b then assign_structure now (place_of own here) (lvalue_place now e) type p v s
      else assign_scalar now (conversion_of now e type) (place_of own here) type p v s) (Pushes w own stack)
  assigned_by true e type pc here p v stack =
      along (λ s. assign_structure now (place_of own here) (place_of own (lvalue_node e)) type p v s)
      (λ s. ap (λ r. assign_structure now (place_of own here) r type p v s) (lvalue_is e))
      (copying w own now type pc (lvalue_node e) here p v stack)
  assigned_by false e type pc here p v stack = assigning w own now (conversion_of now e type) type pc here p v stack

  pub assigned : (e : Typed) (type : TypeTree) (pc here : ℕ) (p v : Value) (stack : List Value)
      → Runs Value w own pc (assign_code around here e type) (v ∷ p ∷ stack) (λ s. assign now (place_of own here) e type p v s) (Pushes w own stack)
  assigned e type pc here p v stack = assigned_by (is_structure type) e type pc here p v stack

  updating : (read : Place) (e : Typed) → read ≡ place_of own (lvalue_node e) → (symbol : CBinary) (type right : TypeTree) (pc here : ℕ) (p v : Value) (stack : List Value)
      → Runs Value w own pc (update_code around (lvalue_node e) here symbol type right) (p ∷ v ∷ p ∷ stack)
      (λ s. update now (place_of own here) read symbol type right p v s) (Pushes w own stack)
  updating read e same symbol type right pc here p v stack =
      along (λ s. update now (place_of own here) (place_of own (lvalue_node e)) symbol type right p v s)
      (λ s. ap (λ r. update now (place_of own here) r symbol type right p v s) same)
      (seq (reading w own now type pc (lvalue_node e) p (v ∷ p ∷ stack)) (λ old.
      moving (v ∷ old ∷ p ∷ stack) (λ s. refl)
      (seq (operating w own now symbol type right (suc (pc + length (read_code type (lvalue_node e)))) here old v (p ∷ stack)) (λ new.
      assigning w own now (result_conversion now type right) type
      (suc (pc + length (read_code type (lvalue_node e))) + length (operate_code around symbol type right here)) here p new stack))))

  keeping_old : (e : Typed) (symbol : CBinary) (type : TypeTree) (pc here : ℕ) (p : Value) (stack : List Value)
      → Runs Value w own pc
      (op.Twice ∷ (read_code type (lvalue_node e) ++ (op.Tuck ∷ op.Number 1 ∷ (operate_code around symbol type Int here
      ++ (assign_scalar_code (result_conversion around type Int) type here ++ op.Pop ∷ [])))))
      (p ∷ stack) (λ s. old_value now (place_of own here) (lvalue_place now e) symbol type p s) (Pushes w own stack)
  keeping_old e symbol type pc here p stack =
      along (λ s. old_value now (place_of own here) (place_of own (lvalue_node e)) symbol type p s)
      (λ s. ap (λ r. old_value now (place_of own here) r symbol type p s) (lvalue_is e))
      (moving (p ∷ p ∷ stack) (λ s. refl)
      (seq (reading w own now type (suc pc) (lvalue_node e) p (p ∷ stack)) (λ old.
      moving (old ∷ p ∷ old ∷ stack) (λ s. refl)
      (moving (Word 1 ∷ old ∷ p ∷ old ∷ stack) (λ s. refl)
      (seq (operating w own now symbol type Int (suc (suc (suc pc + length (read_code type (lvalue_node e))))) here old (Word 1) (p ∷ old ∷ stack)) (λ new.
      seq (assigning w own now (result_conversion now type Int) type
      (suc (suc (suc pc + length (read_code type (lvalue_node e)))) + length (operate_code around symbol type Int here)) here p new (old ∷ stack)) (λ written.
      moving (old ∷ stack) (λ s. refl) (empty old))))))))

  -- CALLS

  call_by : (type : TypeTree) (pc here : ℕ) (vs full stack : List Value) (s : State) (o : Op) (fin : ℕ) (k : Value → State → Play Value) (r : Result FunctionName Cause)
      → slice_get w.all pc ≡ Some o → step w.names o (frame pc full own) s ≡ asking (place_of own here) vs r (frame pc stack own) s
      → ((v : Value) (u : State) → PlaysIn w (bind (answered (place_of own here) type v u) k) (frame (suc pc) (v ∷ stack) own) u)
      → PlaysIn w
      (bind (or_wrong (place_of own here) s r (λ name. Ask (record { function = name; arguments = vs; place = place_of own here }) s (λ v t. answered (place_of own here) type v t))) k)
      (frame pc full own) s
  call_by type pc here vs full stack s o fin k (Ok name) there is go =
      by_call w.names w.all w.below (λ v t. bind (answered (place_of own here) type v t) k) (record { function = name; arguments = vs; place = place_of own here })
      (frame pc full own) (frame (suc pc) stack own) s s o there is go
  call_by type pc here vs full stack s o fin k (Err why) there is go =
      by_fails w.names w.all w.below why (place_of own here) (frame pc full own) s s o there is

  named_function : (type : TypeTree) (number : ℕ) → numbers.call_type type ≡ Some number → (s : State) (f : Value)
      → and_go (pointer_in f) (function_of w.names number s.objects) ≡ and_go (pointer_in f) (function_at now type s.objects)
  named_function type number i s f =
      λ j. and_go (pointer_in f) (λ o. function_is w.names now type number s.objects o (named.types type number i) j)

  call_step : (number count pc here : ℕ) (f : Value) (vs stack : List Value) → count ≡ length vs → (s : State)
      → step w.names (op.Call count number here) (frame pc (onto vs (f ∷ stack)) own) s
      ≡ calling w.names number (place_of own here) vs f (frame pc stack own) s
  call_step number count pc here f vs stack e s =
      ap (λ l. Rattle.p9_flat.specs.Step.on_one l (frame pc (onto vs (f ∷ stack)) own) (λ function g.
      calling w.names number (place_of own here) (reverse (take count (onto vs (f ∷ stack)))) function g s)) (drop_onto vs (f ∷ stack) count e)
      ∙ ap (λ l. calling w.names number (place_of own here) l f (frame pc stack own) s) (take_onto vs (f ∷ stack) count e)

  call_runs : (type : TypeTree) (number : ℕ) → numbers.call_type type ≡ Some number → (count pc here : ℕ) (f : Value) (vs stack : List Value) → count ≡ length vs
      → Runs Value w own pc (numbered_call_code (Some number) (gives_integer type) count here) (onto vs (f ∷ stack)) (λ s. call_through now (place_of own here) type f vs s) (Pushes w own stack)
  call_runs type number i count pc here (Word n) vs stack c = record {
    runs = λ h fin e s k go.
        call_by type pc here vs (onto vs (Word n ∷ stack)) stack s (op.Call count number here) fin k
        (and_go (pointer_in (Word n)) (function_at now type s.objects)) h.0
        (call_step number count pc here (Word n) vs stack c s ∙ ap (λ r. asking (place_of own here) vs r (frame pc stack own) s) (named_function type number i s (Word n)))
        (λ v u. (answering w own (gives_integer type) (suc pc) here v stack).runs h.1 fin (omega (arith, e)) u k go);
  }
  call_runs type number i count pc here (Address p) vs stack c = record {
    runs = λ h fin e s k go.
        call_by type pc here vs (onto vs (Address p ∷ stack)) stack s (op.Call count number here) fin k
        (and_go (pointer_in (Address p)) (function_at now type s.objects)) h.0
        (call_step number count pc here (Address p) vs stack c s ∙ ap (λ r. asking (place_of own here) vs r (frame pc stack own) s) (named_function type number i s (Address p)))
        (λ v u. (answering w own (gives_integer type) (suc pc) here v stack).runs h.1 fin (omega (arith, e)) u k go);
  }
  call_runs type number i count pc here (Missing there) vs stack c = record {
    runs = λ h fin e s k go.
        by_fails w.names w.all w.below cause.NoValue there (frame pc (onto vs (Missing there ∷ stack)) own) s s (op.Call count number here) h.0
        (call_step number count pc here (Missing there) vs stack c s);
  }

  calling_by : (type : TypeTree) (o : Option ℕ) → numbers.call_type type ≡ o → (count pc here : ℕ) (f : Value) (vs stack : List Value) → count ≡ length vs
      → Runs Value w own pc (numbered_call_code o (gives_integer type) count here) (onto vs (f ∷ stack)) (λ s. call_through now (place_of own here) type f vs s) (Pushes w own stack)
  calling_by type None i count pc here f vs stack c = unnumbered
  calling_by type (Some number) i count pc here f vs stack c = call_runs type number i count pc here f vs stack c

  calling_runs : (type : TypeTree) (count pc here : ℕ) (f : Value) (vs stack : List Value) → count ≡ length vs
      → Runs Value w own pc (call_code setting type count here) (onto vs (f ∷ stack)) (λ s. call_through now (place_of own here) type f vs s) (Pushes w own stack)
  calling_runs type count pc here f vs stack c = calling_by type (numbers.call_type type) refl count pc here f vs stack c

  -- ARGUMENTS

  no_arguments : (pc : ℕ) (stack : List Value)
      → Runs (List Value) w own pc [] stack (λ s. Done [] s) (StraightWhere (List Value) w own (λ vs. 0 ≡ length vs) (λ vs. onto vs stack))
  no_arguments pc stack = record {
    runs = λ h fin e s k go.
        subst (λ m. PlaysIn w (k [] s) (frame m stack own) s) (omega (arith, e)) ((go [] s).plays refl);
  }

  one_more : (v : Value) (count : ℕ) {pc : ℕ} {code : List Op} {stack : List Value} {f : State → Play (List Value)}
      → Runs (List Value) w own pc code (v ∷ stack) f (StraightWhere (List Value) w own (λ vs. count ≡ length vs) (λ vs. onto vs (v ∷ stack)))
      → Runs (List Value) w own pc code (v ∷ stack) (λ s. bind (f s) (λ vs x. Done (v ∷ vs) x))
      (StraightWhere (List Value) w own (λ vs. suc count ≡ length vs) (λ vs. onto vs stack))
  one_more v count {pc} {code} {stack} {f} others = record {
    runs = λ h fin e s k go.
        subst (λ p. PlaysIn w p (frame pc (v ∷ stack) own) s) (sym (bind_assoc (f s) (λ vs x. Done (v ∷ vs) x) k))
        (others.runs h fin e s (λ vs x. k (v ∷ vs) x) (λ vs x. record { plays = λ c. (go (v ∷ vs) x).plays (ap (λ j. suc j) c) }));
  }

  -- EXPRESSIONS

  pub left_runs : (e : Typed) (label : Label) (pc : ℕ) (stack : List Value)
      → Runs Value w own pc (value_code setting pc e) stack (λ s. value now e s) (Pushes w own stack)
      → Runs Value w own pc (Rattle.p9_flat.specs.Code.left_code (value_code setting pc e) (operand_type e) label.number) stack
      (λ s. Rattle.p9_cmean.specs.Expressions.left_operand (at around label) (operand_type e) (value now e s)) (Pushes w own stack)
  left_runs e label pc stack runs = seq runs (λ v. left_used w own (operand_type e) _ label.number v stack)

  mutual
    pub address_runs : (e : Typed) (pc : ℕ) (stack : List Value)
        → Runs Value w own pc (address_code setting pc e) stack (λ s. address now e s) (Pushes w own stack)
    address_runs (node (kind.Name x) label none) pc stack = naming w numbers around named scope alive living automatics call fits label pc stack
    address_runs (node (kind.Text texts) label none) pc stack = naming w numbers around named scope alive living automatics call fits label pc stack
    address_runs (node kind.Parens label (more e none)) pc stack = address_runs e pc stack
    address_runs (node (kind.Unary unary.Deref) label (more e none)) pc stack =
        seq (value_runs e pc stack) (λ v. keeping w own (pc + length (value_code setting pc e)) v stack)
    address_runs (node kind.Index label (more array (more index none))) pc stack =
        seq (left_runs array label pc stack (value_runs array pc stack)) (λ a. seq (value_runs index _ (a ∷ stack)) (λ i.
        operating w own now operator.Add (operand_type array) (operand_type index) _ label.number a i stack))
    address_runs (node (kind.Dot arrow name) label (more e none)) pc stack =
        seq (value_runs e pc stack) (λ p. inner w own (member_offset around.tags arrow (if arrow then operand_type e else type_at e) name) _ label.number p stack)
    address_runs (node k label parts) pc stack = lacking

    pub value_runs : (e : Typed) (pc : ℕ) (stack : List Value)
        → Runs Value w own pc (value_code setting pc e) stack (λ s. value now e s) (Pushes w own stack)
    value_runs (node (kind.Number n unsigned long) label none) pc stack = moving (Word n ∷ stack) (λ s. refl) (empty (Word n))
    value_runs (node (kind.Character n) label none) pc stack = moving (Word n ∷ stack) (λ s. refl) (empty (Word n))
    value_runs (node (kind.Name x) label none) pc stack = valuing w numbers around named scope alive living automatics call fits label pc stack
    value_runs (node (kind.Text texts) label none) pc stack = read_name w numbers around named scope alive living automatics call fits label pc stack
    value_runs (node kind.Parens label (more e none)) pc stack = value_runs e pc stack
    value_runs (node (kind.Unary unary.Address) label (more e none)) pc stack = address_runs e pc stack
    value_runs (node (kind.Unary unary.Deref) label (more e none)) pc stack =
        seq (value_runs e pc stack) (λ v. using v (λ q. reading w own now label.type _ label.number q stack))
    value_runs (node (kind.Unary unary.Plus) label (more e none)) pc stack =
        seq (value_runs e pc stack) (λ v. narrowing w own Int _ label.number v stack)
    value_runs (node (kind.Unary unary.Minus) label (more e none)) pc stack =
        seq (value_runs e pc stack) (λ v. wording w own word_negation _ label.number (op.Negate label.number) v stack (λ s. refl))
    value_runs (node (kind.Unary unary.Complement) label (more e none)) pc stack =
        seq (value_runs e pc stack) (λ v. wording w own word_complement _ label.number (op.Complement label.number) v stack (λ s. refl))
    value_runs (node (kind.Unary unary.Not) label (more e none)) pc stack =
        seq (value_runs e pc stack) (λ v. not_of w own (operand_type e) _ label.number v stack)
    value_runs (node kind.SizeofValue label (more e none)) pc stack =
        moving (Word (size_of around.tags (type_at e)) ∷ stack) (λ s. refl) (empty (Word (size_of around.tags (type_at e))))
    value_runs (node kind.SizeofType label (more type none)) pc stack =
        moving (Word (size_of around.tags (type_at type)) ∷ stack) (λ s. refl) (empty (Word (size_of around.tags (type_at type))))
    value_runs (node kind.Cast label (more type (more e none))) pc stack =
        seq (value_runs e pc stack) (λ v. casting w own label.type _ label.number v stack)
    value_runs (node kind.Index label (more array (more index none))) pc stack =
        seq (left_runs array label pc stack (value_runs array pc stack)) (λ a. seq (value_runs index _ (a ∷ stack)) (λ i.
        seq (operating w own now operator.Add (operand_type array) (operand_type index) _ label.number a i stack) (λ p.
        reading w own now label.type _ label.number p stack)))
    value_runs (node (kind.Dot arrow name) label (more e none)) pc stack =
        seq (value_runs e pc stack) (λ p. seq
        (inner w own (member_offset around.tags arrow (if arrow then operand_type e else type_at e) name) _ label.number p stack) (λ q.
        reading w own now label.type _ label.number q stack))
    value_runs (node (kind.Binary operator.AndAnd) label (more left (more right none))) pc stack =
        seq (value_runs left pc stack) (λ a. choice w own (operand_type left) _ label.number
        (λ n. value_code setting n right ++ truth_code (tests (operand_type right)) label.number) (λ n. op.Number 0 ∷ []) a stack
        (λ u. bind (value now right u) (λ b x. bind (test_at (at around label) (operand_type right) b x) (λ second y. Done (Word (truth second)) y)))
        (λ u. Done (Word 0) u) (Pushes w own stack) (joined w own (λ v. v ∷ stack))
        (λ n. seq (value_runs right n stack) (λ b. truth_of w own (operand_type right) _ label.number b stack))
        (λ n. moving (Word 0 ∷ stack) (λ s. refl) (empty (Word 0))))
    value_runs (node (kind.Binary operator.OrOr) label (more left (more right none))) pc stack =
        seq (value_runs left pc stack) (λ a. choice w own (operand_type left) _ label.number
        (λ n. op.Number 1 ∷ []) (λ n. value_code setting n right ++ truth_code (tests (operand_type right)) label.number) a stack
        (λ u. Done (Word 1) u)
        (λ u. bind (value now right u) (λ b x. bind (test_at (at around label) (operand_type right) b x) (λ second y. Done (Word (truth second)) y)))
        (Pushes w own stack) (joined w own (λ v. v ∷ stack))
        (λ n. moving (Word 1 ∷ stack) (λ s. refl) (empty (Word 1)))
        (λ n. seq (value_runs right n stack) (λ b. truth_of w own (operand_type right) _ label.number b stack)))
    value_runs (node (kind.Binary symbol) label (more left (more right none))) pc stack =
        seq (left_runs left label pc stack (value_runs left pc stack)) (λ a. seq (value_runs right _ (a ∷ stack)) (λ b.
        operating w own now symbol (operand_type left) (operand_type right) _ label.number a b stack))
    value_runs (node kind.Choose label (more which (more first (more second none)))) pc stack =
        seq (value_runs which pc stack) (λ a. choice w own (operand_type which) _ label.number
        (λ n. value_code setting n first ++ chosen_code label.type) (λ n. value_code setting n second ++ chosen_code label.type) a stack
        (λ u. bind (value now first u) (λ v x. chosen label.type v x)) (λ u. bind (value now second u) (λ v x. chosen label.type v x))
        (Pushes w own stack) (joined w own (λ v. v ∷ stack))
        (λ n. seq (value_runs first n stack) (λ v. choosing w own label.type _ v stack))
        (λ n. seq (value_runs second n stack) (λ v. choosing w own label.type _ v stack)))
    value_runs (node (kind.Assign None) label (more left (more right none))) pc stack =
        seq (address_runs left pc stack) (λ p. seq (value_runs right _ (p ∷ stack)) (λ v. assigned right (type_at left) _ label.number p v stack))
    value_runs (node (kind.Assign (Some symbol)) label (more left (more right none))) pc stack =
        seq (address_runs left pc stack) (λ p. seq (value_runs right _ (p ∷ stack)) (λ v.
        moving (p ∷ v ∷ p ∷ stack) (λ s. refl)
        (updating (lvalue_place now left) left (lvalue_is left) symbol (type_at left) (operand_type right) _ label.number p v stack)))
    value_runs (node (kind.Pre minus) label (more e none)) pc stack =
        seq (address_runs e pc stack) (λ p. moving (Word 1 ∷ p ∷ stack) (λ s. refl) (moving (p ∷ Word 1 ∷ p ∷ stack) (λ s. refl)
        (updating (lvalue_place now e) e (lvalue_is e) (step_operator minus) (type_at e) Int _ label.number p (Word 1) stack)))
    value_runs (node (kind.Post minus) label (more e none)) pc stack =
        seq (address_runs e pc stack) (λ p. keeping_old e (step_operator minus) (type_at e) _ label.number p stack)
    value_runs (node kind.Comma label (more left (more right none))) pc stack =
        seq (value_runs left pc stack) (λ v. moving stack (λ s. refl) (value_runs right _ stack))
    value_runs (node kind.Call label (more function arguments)) pc stack =
        seq (value_runs function pc stack) (λ f.
        seq_where (λ vs. count_of arguments ≡ length vs) (λ vs. onto vs (f ∷ stack))
        (arguments_run label.number (parameters_of (operand_type function)) arguments _ (f ∷ stack)) (λ vs count.
        calling_runs (pointed (operand_type function)) (count_of arguments) _ label.number f vs stack count))
    value_runs (node k label parts) pc stack = lacking

    pub arguments_run : (here : ℕ) (parameters : TypeRow) (arguments : TypedRow) (pc : ℕ) (stack : List Value)
        → Runs (List Value) w own pc (values_code setting here pc parameters arguments) stack (λ s. values now (place_of own here) parameters arguments s)
        (StraightWhere (List Value) w own (λ vs. count_of arguments ≡ length vs) (λ vs. onto vs stack))
    arguments_run here types.none none pc stack = no_arguments pc stack
    arguments_run here types.none (more first others) pc stack = lacking
    arguments_run here (types.more parameter parameters) none pc stack = lacking
    arguments_run here (types.more parameter parameters) (more first others) pc stack =
        along (λ s. bind (bind (value now first s) (λ v t. convert_at (conversion_of now first parameter) (place_of own here) parameter v t))
        (λ x u. bind (values now (place_of own here) parameters others u) (λ vs y. Done (x ∷ vs) y)))
        (λ s. sym (bind_assoc (value now first s) (λ v t. convert_at (conversion_of now first parameter) (place_of own here) parameter v t)
        (λ x u. bind (values now (place_of own here) parameters others u) (λ vs y. Done (x ∷ vs) y))))
        (seq (seq (value_runs first pc stack) (λ v. converting w own (conversion_of now first parameter) parameter _ here v stack)) (λ x.
        one_more x (count_of others) (arguments_run here parameters others _ (x ∷ stack))))
