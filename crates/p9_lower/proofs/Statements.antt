-- Typed statements mean what the statements mean.
use Rattle.std.proofs.Common.{◌≡◌, ℕ, zero, suc, ◌==◌, Bool, true, false, if◌then◌else◌, List, [], ◌∷◌, ◌++◌, map, replicate, unwrap_or, slice_get, option_map, Option, Some, None, Ok, refl, sym, ap, ◌∙◌, subst}
use Rattle.std.proofs.lemmas.Option.{slice_get-map}
use Rattle.p9_lang.specs.declared.tree.Kind.TheVariants as kind
use Rattle.p9_lang.specs.Trees.{node, none, more}
use Rattle.p9_lang.specs.Types.{TypeTree, Tags}
use Rattle.p9_lang.specs.Layout.{size_of, on_some}
use Rattle.p9_lang.specs.Constants.{Constant, NotConstant, Undefined, Null, constant_of}
use Rattle.p9_lang.specs.Constants as constants
use Rattle.p9_lang.specs.Modules.{Label, Typed, TypedRow}
use Rattle.p9_lang.specs.Symbols.{Symbol}
use Rattle.p9_cmean.specs.declared.Place.{Place}
use Rattle.p9_cmean.specs.Cells.{Pointer, Value, Word, Address, Missing, Unset, State}
use Rattle.p9_cmean.specs.Plays.{Play, Done, bind, Flow, Normal, Broke, Continued, Returned, Went, then_go, after_switch, no_step}
use Rattle.p9_cmean.specs.Places.{used, or_wrong, or_no_meaning}
use Rattle.p9_cmean.specs.Access.{integer_in}
use Rattle.p9_cmean.specs.Automatics.{Living, live_object, unset_object, numbered, next_object, with_objects, left}
use Rattle.p9_cmean.specs.Declarations.{Automatic, declared_by, declared_in, declaration_of}
use Rattle.p9_cmean.specs.Expressions.{Surroundings, at, operand_type, pointer_to, convert_at, conversion_of, assign, value}
use Rattle.p9_cmean.specs.Statements.{effect, condition, initialised, all_initialised, returned, loop_of, always, is_value, is_case_of, is_default, parts_before, or_else, entry_of, run_from, statement, statements, statements_from, for_loop}
use Rattle.p9_cmean.specs.Statements as source
use Rattle.p9_cmean.proofs.Plays.{bind_assoc}
use Rattle.p9_tree.specs.Same.{Alike, AlikeFlow, Equal, SameLoop}
use Rattle.p9_tree.specs.Same as plays
use Rattle.p9_tree.specs.Trees.{Tree, Arms}
use Rattle.p9_tree.specs.Meaning.{Environment, evaluate, test, execute, execute_all, execute_from, arms_before_case, arms_before_default, nowhere}
use Rattle.p9_tree.specs.Meaning as typed
use Rattle.p9_tree.proofs.Same.{same_bind, same_if, alike_refl, alike_flow_refl, loops_keep_same, tested_loops_keep_same}
use Rattle.p9_lower.specs.Names.{name_tree}
use Rattle.p9_lower.specs.Operators.{passed_tree, assigned_tree}
use Rattle.p9_lower.specs.Expressions.{value_tree}
use Rattle.p9_lower.specs.Statements.{initial_trees, sequence, effects, case_arm, first_stmt, stmt_tree, stmt_trees, loop_tree, arm_trees}
use Rattle.p9_lower.specs.Premises.{ExpressionIsSound, AutomaticsAreKnown, InitialIsSound, InitialisersAreSound, StatementIsSound, StatementsAreSound, LoopIsSound}
use Rattle.p9_lower.specs.Keeping.{Stands, Agree, setting_in}
use Rattle.p9_lower.specs.Laws.{StatementsMean}
use Rattle.p9_lower.proofs.Plays.{along, used_free, result_same}
use Rattle.p9_lower.proofs.Access.{name_same, test_same}
use Rattle.p9_lower.proofs.Held.{Held, held_used}
use Rattle.p9_lower.proofs.Expressions.{from_same, passed_same, assigned_same, value_same}

-- FLOWS

normal_same : (s : State) → plays.Same AlikeFlow (Done Normal s) (Done Normal s)
normal_same s = (Normal, refl, refl)

-- a flow with another that is alike: the same, or both return
pub flow_by : (Q : Flow → Flow → Type 0) (f g : Flow) → AlikeFlow f g
    → ((f : Flow) → Q f f) → ((v w : Value) → Alike v w → Q (Returned (Some v)) (Returned (Some w))) → Q f g
flow_by Q Normal g e h r = subst (Q Normal) e (h Normal)
flow_by Q Broke g e h r = subst (Q Broke) e (h Broke)
flow_by Q Continued g e h r = subst (Q Continued) e (h Continued)
flow_by Q (Returned None) g e h r = subst (Q (Returned None)) e (h (Returned None))
flow_by Q (Returned (Some v)) (Returned (Some w)) e h r = r v w e
flow_by Q (Returned (Some v)) (Returned None) e h r = cc
flow_by Q (Returned (Some v)) Normal e h r = cc
flow_by Q (Returned (Some v)) Broke e h r = cc
flow_by Q (Returned (Some v)) Continued e h r = cc
flow_by Q (Returned (Some v)) (Went l) e h r = cc
flow_by Q (Went l) g e h r = subst (Q (Went l)) e (h (Went l))

then_refl : (f : Flow) (s : State) (p q : State → Play Flow) → ((t : State) → plays.Same AlikeFlow (p t) (q t)) → plays.Same AlikeFlow (then_go f s p) (then_go f s q)
then_refl Normal s p q h = h s
then_refl Broke s p q h = (Broke, refl, refl)
then_refl Continued s p q h = (Continued, refl, refl)
then_refl (Returned v) s p q h = (Returned v, refl, alike_flow_refl (Returned v))
then_refl (Went l) s p q h = (Went l, refl, refl)

then_same : (f g : Flow) (s : State) (p q : State → Play Flow) → AlikeFlow f g → ((t : State) → plays.Same AlikeFlow (p t) (q t)) → plays.Same AlikeFlow (then_go f s p) (then_go g s q)
then_same f g s p q e h =
    flow_by (λ f g. plays.Same AlikeFlow (then_go f s p) (then_go g s q)) f g e (λ f. then_refl f s p q h) (λ v w a. (Returned (Some w), refl, a))

switch_refl : (f : Flow) (s : State) → plays.Same AlikeFlow (after_switch f s) (after_switch f s)
switch_refl Normal s = (Normal, refl, refl)
switch_refl Broke s = (Normal, refl, refl)
switch_refl Continued s = (Continued, refl, refl)
switch_refl (Returned v) s = (Returned v, refl, alike_flow_refl (Returned v))
switch_refl (Went l) s = (Went l, refl, refl)

switch_same : (f g : Flow) (s : State) → AlikeFlow f g → plays.Same AlikeFlow (after_switch f s) (after_switch g s)
switch_same f g s e = flow_by (λ f g. plays.Same AlikeFlow (after_switch f s) (after_switch g s)) f g e (λ f. switch_refl f s) (λ v w a. (Returned (Some w), refl, a))

-- AUTOMATICS of a block

same_numbers : (ds : List Automatic) → map (λ d. d.number) (map declaration_of ds) ≡ map (λ a. a.number) ds
same_numbers [] = refl
same_numbers (a ∷ ds) = ap (λ l. a.number ∷ l) (same_numbers ds)

size_at : (f : TypeTree → ℕ) (types : List TypeTree) (k : ℕ) (type : TypeTree) → slice_get types k ≡ Some type → unwrap_or (slice_get (map f types) k) 0 ≡ f type
size_at f types k type e = ap (λ o. unwrap_or o 0) (slice_get-map f types k) ∙ ap (λ o. unwrap_or (option_map f o) 0) e

same_unset : (tags : Tags) (env : Environment) (types : List TypeTree) (ds : List Automatic) → env.sizes ≡ map (size_of tags) types → AutomaticsAreKnown types ds
    → typed.unset_objects env (map (λ a. a.number) ds) ≡ map (unset_object tags) (map declaration_of ds)
same_unset tags env types [] e h = refl
same_unset tags env types (a ∷ ds) e h =
    ap (λ n. live_object (replicate n Unset) ∷ typed.unset_objects env (map (λ a. a.number) ds))
    (ap (λ l. unwrap_or (slice_get l a.number) 0) e ∙ size_at (size_of tags) types a.number a.name.type h.0)
    ∙ ap (λ l. unset_object tags (declaration_of a) ∷ l) (same_unset tags env types ds e h.1)

pub agree_inside : (symbols : List Symbol) (around : Surroundings) (env : Environment) (living : List Living) → Agree symbols around env
    → Agree symbols (source.inside around living) (typed.inside env living)
agree_inside symbols around env living agree =
    record { outer = agree.outer; static = agree.static; moved = agree.moved; automatics = ap (λ l. living ++ l) agree.automatics }

-- SWITCHES

suc_is : (o : Option ℕ) → on_some o (λ k. Some (suc k)) ≡ option_map suc o
suc_is (Some n) = refl
suc_is None = refl

module _ (symbols : List Symbol) (around : Surroundings) where
  -- labels of a switch, by their constants
  case_by : (word : ℕ) (c : Constant) (others : Arms) (o : Option ℕ) → arms_before_case word others ≡ o
      → arms_before_case word (case_arm c others) ≡ (if is_value word c then Some 0 else option_map suc o)
  case_by word NotConstant others o e = suc_is (arms_before_case word others) ∙ ap (option_map suc) e
  case_by word Undefined others o e = suc_is (arms_before_case word others) ∙ ap (option_map suc) e
  case_by word (constants.Value n) others o e = case_if (n == word)
    where
      case_if : (b : Bool) → (if b then Some 0 else on_some (arms_before_case word others) (λ k. Some (suc k))) ≡ (if b then Some 0 else option_map suc o)
      case_if true = refl
      case_if false = suc_is (arms_before_case word others) ∙ ap (option_map suc) e
  case_by word Null others o e = suc_is (arms_before_case word others) ∙ ap (option_map suc) e

  default_by : (c : Constant) (others : Arms) (o : Option ℕ) → arms_before_default others ≡ o → arms_before_default (case_arm c others) ≡ option_map suc o
  default_by NotConstant others o e = suc_is (arms_before_default others) ∙ ap (option_map suc) e
  default_by Undefined others o e = suc_is (arms_before_default others) ∙ ap (option_map suc) e
  default_by (constants.Value n) others o e = suc_is (arms_before_default others) ∙ ap (option_map suc) e
  default_by Null others o e = suc_is (arms_before_default others) ∙ ap (option_map suc) e

  next_is : (o r : Option ℕ) → o ≡ r → on_some o (λ k. Some (suc k)) ≡ option_map suc r
  next_is o r e = suc_is o ∙ ap (option_map suc) e

  cases_are : (word : ℕ) (row : TypedRow) → arms_before_case word (arm_trees (setting_in symbols around) row) ≡ parts_before (is_case_of around.tags word) row
  cases_are word none = refl
  cases_are word (more (node kind.Case label (more constant none)) others) =
      case_by word (constant_of around.tags constant) (arm_trees (setting_in symbols around) others) _ (cases_are word others)
  cases_are word (more (node kind.Default label none) others) = next_is _ _ (cases_are word others)
  cases_are word (more (node k label parts) others) = next_is _ _ (cases_are word others)

  defaults_are : (row : TypedRow) → arms_before_default (arm_trees (setting_in symbols around) row) ≡ parts_before is_default row
  defaults_are none = refl
  defaults_are (more (node kind.Case label (more constant none)) others) =
      default_by (constant_of around.tags constant) (arm_trees (setting_in symbols around) others) _ (defaults_are others)
  defaults_are (more (node kind.Default label none) others) = refl
  defaults_are (more (node k label parts) others) = next_is _ _ (defaults_are others)

  entries_are : (word : ℕ) (row : TypedRow) → typed.entry_of word (arm_trees (setting_in symbols around) row) ≡ entry_of around.tags word row
  entries_are word row = ap (λ o. or_else o (arms_before_default (arm_trees (setting_in symbols around) row))) (cases_are word row)
      ∙ ap (λ o. or_else (parts_before (is_case_of around.tags word) row) o) (defaults_are row)

-- a label in a switch does nothing
skip_case : (turns : ℕ) (env : Environment) (c : Constant) (others : Arms) (s : State) → execute_from turns env 0 (case_arm c others) s ≡ execute_from turns env 0 others s
skip_case turns env NotConstant others s = refl
skip_case turns env Undefined others s = refl
skip_case turns env (constants.Value n) others s = refl
skip_case turns env Null others s = refl

pass_case : (turns : ℕ) (env : Environment) (k : ℕ) (c : Constant) (others : Arms) (s : State) → execute_from turns env (suc k) (case_arm c others) s ≡ execute_from turns env k others s
pass_case turns env k NotConstant others s = refl
pass_case turns env k Undefined others s = refl
pass_case turns env k (constants.Value n) others s = refl
pass_case turns env k Null others s = refl

run_same : (o : Option ℕ) (run run' : ℕ → State → Play Flow) (s : State) → ((k : ℕ) (t : State) → plays.Same AlikeFlow (run k t) (run' k t))
    → plays.Same AlikeFlow (run_from o run s) (run_from o run' s)
run_same None run run' s h = normal_same s
run_same (Some k) run run' s h = same_bind AlikeFlow AlikeFlow (run k s) (run' k s) _ _ (h k s) (λ f g t e. switch_same f g t e)

-- the word of a switch
word_of_switch : (v : Value) (n : ℕ) (s : State) (k : ℕ → Play Flow) → integer_in v ≡ Ok n → used v s (λ w. or_wrong nowhere s (integer_in w) k) ≡ k n
word_of_switch (Word m) n s k e = ap (λ r. or_wrong nowhere s r k) e
word_of_switch (Address p) n s k e = cc
word_of_switch (Missing c) n s k e = cc

-- DECLARATIONS

abbrev effects_in : Environment → List Tree → State → Play (Unit {0})
effects_in env [] s = Done tt s
effects_in env (t ∷ ts) s = bind (evaluate env t s) (λ v u. effects_in env ts u)

effects_are : (env : Environment) (t : Tree) (ts : List Tree) (s : State) → typed.effect env (sequence t ts) s ≡ effects_in env (t ∷ ts) s
effects_are env t [] s = refl
effects_are env t (u ∷ us) s =
    bind_assoc (evaluate env t s) (λ v x. evaluate env (sequence u us) x) (λ v y. Done tt y)
    ∙ (λ i. bind (evaluate env t s) (λ v x. effects_are env u us x i))

executes : (turns : ℕ) (env : Environment) (ts : List Tree) (s : State) → execute turns env (effects ts) s ≡ bind (effects_in env ts s) (λ done t. Done Normal t)
executes turns env [] s = refl
executes turns env (t ∷ ts) s = ap (λ p. bind p (λ done x. Done Normal x)) (effects_are env t ts s)

abbrev finished : Value → State → Play (Unit {0})
finished w u = Done tt u

-- an initialiser, as an assignment
initial_is : (around : Surroundings) (place : Place) (e : Typed) (type : TypeTree) (o : Option Pointer) (s : State)
    → bind (bind (or_no_meaning place s o (λ p. Done (Address p) s)) (λ to t. bind (value around e t) (λ v u. assign around place e type to v u))) finished
    ≡ or_no_meaning place s o (λ p. bind (value around e s) (λ v t. bind (assign around place e type (Address p) v t) finished))
initial_is around place e type (Some p) s = bind_assoc (value around e s) (λ v u. assign around place e type (Address p) v u) finished
initial_is around place e type None s = refl

module _ (symbols : List Symbol) (around : Surroundings) (env : Environment) (agree : Agree symbols around env) where
  initials_by : (number : ℕ) (name : Label) (o : Option Typed) (ds : List Automatic) (s : State)
      → ((e : Typed) → o ≡ Some e → InitialIsSound (setting_in symbols around) (record { number = number; name = name; initialiser = o }) e)
      → ((t : State) → plays.Same Equal (all_initialised around ds t) (effects_in env (initial_trees (setting_in symbols around) ds) t))
      → plays.Same Equal (all_initialised around (record { number = number; name = name; initialiser = o } ∷ ds) s)
      (effects_in env (initial_trees (setting_in symbols around) (record { number = number; name = name; initialiser = o } ∷ ds)) s)
  initials_by number name None ds s h g = g s
  initials_by number name (Some e) ds s h g =
      let sound : InitialIsSound (setting_in symbols around) (record { number = number; name = name; initialiser = Some e }) e = h e refl in
      from_same Equal
      (bind (bind (or_no_meaning (at around name) s (pointer_to around name.type name.means) (λ p. Done (Address p) s)) (λ to t. bind (value around e t) (λ v u. assign around (at around name) e name.type to v u)))
      (λ w u. all_initialised around ds u))
      (all_initialised around (record { number = number; name = name; initialiser = Some e } ∷ ds) s)
      (effects_in env (initial_trees (setting_in symbols around) (record { number = number; name = name; initialiser = Some e } ∷ ds)) s)
      (sym (bind_assoc (bind (or_no_meaning (at around name) s (pointer_to around name.type name.means) (λ p. Done (Address p) s)) (λ to t. bind (value around e t) (λ v u. assign around (at around name) e name.type to v u)))
      finished (λ done u. all_initialised around ds u))
      ∙ ap (λ q. bind q (λ done u. all_initialised around ds u)) (initial_is around (at around name) e name.type (pointer_to around name.type name.means) s))
      (same_bind Stands Equal
      (bind (or_no_meaning (at around name) s (pointer_to around name.type name.means) (λ p. Done (Address p) s)) (λ to t. bind (value around e t) (λ v u. assign around (at around name) e name.type to v u)))
      (evaluate env (assigned_tree around.tags e name.type (name_tree (setting_in symbols around) name.means) (value_tree (setting_in symbols around) e)) s) _ _
      (assigned_same symbols around env agree (at around name) e name.type (or_no_meaning (at around name) s (pointer_to around name.type name.means) (λ p. Done (Address p) s))
      (name_tree (setting_in symbols around) name.means) s sound.expression.constants
      (name_same symbols around env agree (at around name) s name.type name.means sound.name)
      (λ t. value_same symbols around env agree e t sound.expression.constants sound.expression.nodes))
      (λ v w u i. g u))

  initials_same : (ds : List Automatic) (s : State) → InitialisersAreSound (setting_in symbols around) ds
      → plays.Same Equal (all_initialised around ds s) (effects_in env (initial_trees (setting_in symbols around) ds) s)
  initials_same [] s h = (tt, refl, refl)
  initials_same (a ∷ ds) s h = initials_by a.number a.name a.initialiser ds s h.0 (λ t. initials_same ds t h.1)

  condition_same : (place : Place) (e : Typed) (s : State) → ExpressionIsSound (setting_in symbols around) e
      → plays.Same Equal (condition around place e s) (typed.condition env (value_tree (setting_in symbols around) e) s)
  condition_same place e s h =
      same_bind Stands Equal (value around e s) (evaluate env (value_tree (setting_in symbols around) e) s) _ _ (value_same symbols around env agree e s h.constants h.nodes)
      (λ v w t g. test_same place (operand_type e) v w t g)

  effect_same : (e : Typed) (s : State) → ExpressionIsSound (setting_in symbols around) e
      → plays.Same Equal (effect around e s) (typed.effect env (value_tree (setting_in symbols around) e) s)
  effect_same e s h =
      same_bind Stands Equal (value around e s) (evaluate env (value_tree (setting_in symbols around) e) s) _ _ (value_same symbols around env agree e s h.constants h.nodes)
      (λ v w t g. (tt, refl, refl))

  returned_same : (place : Place) (e : Typed) (s : State) → ExpressionIsSound (setting_in symbols around) e
      → plays.Same AlikeFlow (returned around place e s) (typed.returned env (Some (passed_tree around.tags e around.result (value_tree (setting_in symbols around) e))) s)
  returned_same place e s h =
      from_same AlikeFlow
      (bind (bind (value around e s) (λ v t. convert_at (conversion_of around e around.result) place around.result v t)) (λ w u. Done (Returned (Some w)) u))
      (returned around place e s)
      (typed.returned env (Some (passed_tree around.tags e around.result (value_tree (setting_in symbols around) e))) s)
      (bind_assoc (value around e s) (λ v t. convert_at (conversion_of around e around.result) place around.result v t) (λ w u. Done (Returned (Some w)) u))
      (same_bind Held AlikeFlow (bind (value around e s) (λ v t. convert_at (conversion_of around e around.result) place around.result v t))
      (evaluate env (passed_tree around.tags e around.result (value_tree (setting_in symbols around) e)) s) _ _
      (passed_same symbols around env agree place e around.result s h.constants
      (value_same symbols around env agree e s h.constants h.nodes)) (λ v w u g.
      held_used AlikeFlow v w u (Done (Returned (Some v)) u) (λ x. Done (Returned (Some x)) u) g (Returned (Some v), refl, alike_refl v)))

first_is : (turns : ℕ) (env : Environment) (first : Option Tree) (s : State) → execute turns env (first_stmt first) s ≡ bind (typed.effect_if env first s) (λ done t. Done Normal t)
first_is turns env None s = refl
first_is turns env (Some t) s = refl

-- STATEMENTS

module _ (symbols : List Symbol) (types : List TypeTree) (turns : ℕ) where
  mutual
    pub statement_same : (around : Surroundings) (env : Environment) → Agree symbols around env → env.sizes ≡ map (size_of around.tags) types → (n : Typed) (s : State)
        → StatementIsSound (setting_in symbols around) types n
        → plays.Same AlikeFlow (statement turns around n s) (execute turns env (stmt_tree (setting_in symbols around) n) s)
    statement_same around env a z (node kind.Block label parts) s h =
        along AlikeFlow (statement turns around (node kind.Block label parts) s) (execute turns env (stmt_tree (setting_in symbols around) (node kind.Block label parts)) s)
        (bind (execute_all turns (typed.inside env (numbered (next_object s) (map (λ d. d.number) (map declaration_of (declared_in parts))))) (stmt_trees (setting_in symbols around) parts)
        (with_objects (map (unset_object around.tags) (map declaration_of (declared_in parts))) s))
        (λ flow t. Done flow (left (numbered (next_object s) (map (λ d. d.number) (map declaration_of (declared_in parts)))) t)))
        (λ i. bind (execute_all turns (typed.inside env (numbered (next_object s) (sym (same_numbers (declared_in parts)) i))) (stmt_trees (setting_in symbols around) parts)
        (with_objects (same_unset around.tags env types (declared_in parts) z h.0 i) s))
        (λ flow t. Done flow (left (numbered (next_object s) (sym (same_numbers (declared_in parts)) i)) t)))
        (same_bind AlikeFlow AlikeFlow
        (statements turns (source.inside around (numbered (next_object s) (map (λ d. d.number) (map declaration_of (declared_in parts))))) parts
        (with_objects (map (unset_object around.tags) (map declaration_of (declared_in parts))) s))
        (execute_all turns (typed.inside env (numbered (next_object s) (map (λ d. d.number) (map declaration_of (declared_in parts))))) (stmt_trees (setting_in symbols around) parts)
        (with_objects (map (unset_object around.tags) (map declaration_of (declared_in parts))) s)) _ _
        (statements_same (source.inside around (numbered (next_object s) (map (λ d. d.number) (map declaration_of (declared_in parts)))))
        (typed.inside env (numbered (next_object s) (map (λ d. d.number) (map declaration_of (declared_in parts)))))
        (agree_inside symbols around env (numbered (next_object s) (map (λ d. d.number) (map declaration_of (declared_in parts)))) a) z parts
        (with_objects (map (unset_object around.tags) (map declaration_of (declared_in parts))) s) h.1)
        (λ f g t e. (g, refl, e)))
    statement_same around env a z (node (kind.Declaration spec inits) label parts) s h =
        along AlikeFlow (statement turns around (node (kind.Declaration spec inits) label parts) s)
        (execute turns env (effects (initial_trees (setting_in symbols around) (declared_by (node (kind.Declaration spec inits) label parts)))) s)
        (bind (effects_in env (initial_trees (setting_in symbols around) (declared_by (node (kind.Declaration spec inits) label parts))) s) (λ done t. Done Normal t))
        (executes turns env (initial_trees (setting_in symbols around) (declared_by (node (kind.Declaration spec inits) label parts))) s)
        (same_bind Equal AlikeFlow (all_initialised around (declared_by (node (kind.Declaration spec inits) label parts)) s)
        (effects_in env (initial_trees (setting_in symbols around) (declared_by (node (kind.Declaration spec inits) label parts))) s) _ _
        (initials_same symbols around env a (declared_by (node (kind.Declaration spec inits) label parts)) s h) (λ x y t e. normal_same t))
    statement_same around env a z (node kind.Expression label none) s h = normal_same s
    statement_same around env a z (node kind.Expression label (more e none)) s h =
        same_bind Equal AlikeFlow (effect around e s) (typed.effect env (value_tree (setting_in symbols around) e) s) _ _ (effect_same symbols around env a e s h) (λ x y t e. normal_same t)
    statement_same around env a z (node kind.If label (more which (more first none))) s h =
        same_bind Equal AlikeFlow (condition around (at around label) which s) (typed.condition env (value_tree (setting_in symbols around) which) s) _ _
        (condition_same symbols around env a (at around label) which s h.0) (λ x y t e.
        same_if AlikeFlow x y _ _ _ _ e (statement_same around env a z first t h.1) (normal_same t))
    statement_same around env a z (node kind.If label (more which (more first (more second none)))) s h =
        same_bind Equal AlikeFlow (condition around (at around label) which s) (typed.condition env (value_tree (setting_in symbols around) which) s) _ _
        (condition_same symbols around env a (at around label) which s h.0) (λ x y t e.
        same_if AlikeFlow x y _ _ _ _ e (statement_same around env a z first t h.1) (statement_same around env a z second t h.2))
    statement_same around env a z (node kind.While label (more which (more body none))) s h =
        tested_loops_keep_same turns (loop_of (condition around (at around label) which) no_step (λ t. statement turns around body t))
        (loop_of (typed.condition env (value_tree (setting_in symbols around) which)) no_step (λ t. execute turns env (stmt_tree (setting_in symbols around) body) t))
        (record {
          tests = λ t. condition_same symbols around env a (at around label) which t h.0;
          bodies = λ t. statement_same around env a z body t h.1;
          steps = λ t. (tt, refl, refl);
        }) s
    statement_same around env a z (node kind.Do label (more body (more which none))) s h =
        loops_keep_same turns (loop_of (condition around (at around label) which) no_step (λ t. statement turns around body t))
        (loop_of (typed.condition env (value_tree (setting_in symbols around) which)) no_step (λ t. execute turns env (stmt_tree (setting_in symbols around) body) t))
        (record {
          tests = λ t. condition_same symbols around env a (at around label) which t h.0;
          bodies = λ t. statement_same around env a z body t h.1;
          steps = λ t. (tt, refl, refl);
        }) s
    statement_same around env a z (node (kind.For true which next) label (more first others)) s h =
        for_same around env a z (at around label) (Some (value_tree (setting_in symbols around) first)) (effect around first)
        (λ t. effect_same symbols around env a first t h.0) which next others s h.1
    statement_same around env a z (node (kind.For false which next) label others) s h =
        for_same around env a z (at around label) None (λ t. Done tt t) (λ t. (tt, refl, refl)) which next others s h
    statement_same around env a z (node kind.Switch label (more e arms)) s h =
        same_bind Stands AlikeFlow (value around e s) (evaluate env (value_tree (setting_in symbols around) e) s) _ _
        (value_same symbols around env a e s h.0.constants h.0.nodes) (λ v w t g.
        used_free AlikeFlow v w t _ _ g (result_same AlikeFlow (at around label) t (integer_in w) _ _ (λ word i.
        along AlikeFlow (run_from (entry_of around.tags word arms) (λ k u. statements_from turns around k arms u) t) _
        (run_from (entry_of around.tags word arms) (λ k u. execute_from turns env k (arm_trees (setting_in symbols around) arms) u) t)
        (word_of_switch w word t (λ word. run_from (typed.entry_of word (arm_trees (setting_in symbols around) arms)) (λ k u. execute_from turns env k (arm_trees (setting_in symbols around) arms) u) t) i
        ∙ ap (λ o. run_from o (λ k u. execute_from turns env k (arm_trees (setting_in symbols around) arms) u) t) (entries_are symbols around word arms))
        (run_same (entry_of around.tags word arms) (λ k u. statements_from turns around k arms u) (λ k u. execute_from turns env k (arm_trees (setting_in symbols around) arms) u) t
        (λ k u. arms_from_same around env a z k arms u h.1)))))
    statement_same around env a z (node kind.Case label (more constant none)) s h = normal_same s
    statement_same around env a z (node kind.Default label none) s h = normal_same s
    statement_same around env a z (node kind.Break label none) s h = (Broke, refl, refl)
    statement_same around env a z (node kind.Continue label none) s h = (Continued, refl, refl)
    statement_same around env a z (node kind.Return label none) s h = (Returned None, refl, refl)
    statement_same around env a z (node kind.Return label (more e none)) s h = returned_same symbols around env a (at around label) e s h
    statement_same around env a z (node k label parts) s h = tt

    pub statements_same : (around : Surroundings) (env : Environment) → Agree symbols around env → env.sizes ≡ map (size_of around.tags) types → (row : TypedRow) (s : State)
        → StatementsAreSound (setting_in symbols around) types row
        → plays.Same AlikeFlow (statements turns around row s) (execute_all turns env (stmt_trees (setting_in symbols around) row) s)
    statements_same around env a z none s h = normal_same s
    statements_same around env a z (more first others) s h =
        same_bind AlikeFlow AlikeFlow (statement turns around first s) (execute turns env (stmt_tree (setting_in symbols around) first) s) _ _
        (statement_same around env a z first s h.0) (λ f g t e.
        then_same f g t (statements turns around others) (execute_all turns env (stmt_trees (setting_in symbols around) others)) e (λ u. statements_same around env a z others u h.1))

    -- the parts of a switch, behind its labels
    arms_same : (around : Surroundings) (env : Environment) → Agree symbols around env → env.sizes ≡ map (size_of around.tags) types → (row : TypedRow) (s : State)
        → StatementsAreSound (setting_in symbols around) types row
        → plays.Same AlikeFlow (statements turns around row s) (execute_from turns env 0 (arm_trees (setting_in symbols around) row) s)
    arms_same around env a z none s h = normal_same s
    arms_same around env a z (more (node kind.Case label (more constant none)) others) s h =
        along AlikeFlow (statements turns around others s) (execute_from turns env 0 (case_arm (constant_of around.tags constant) (arm_trees (setting_in symbols around) others)) s)
        (execute_from turns env 0 (arm_trees (setting_in symbols around) others) s)
        (skip_case turns env (constant_of around.tags constant) (arm_trees (setting_in symbols around) others) s) (arms_same around env a z others s h.1)
    arms_same around env a z (more (node kind.Default label none) others) s h = arms_same around env a z others s h.1
    arms_same around env a z (more (node k label parts) others) s h =
        same_bind AlikeFlow AlikeFlow (statement turns around (node k label parts) s) (execute turns env (stmt_tree (setting_in symbols around) (node k label parts)) s) _ _
        (statement_same around env a z (node k label parts) s h.0) (λ f g t e.
        then_same f g t (statements turns around others) (execute_from turns env 0 (arm_trees (setting_in symbols around) others)) e (λ u. arms_same around env a z others u h.1))

    arms_from_same : (around : Surroundings) (env : Environment) → Agree symbols around env → env.sizes ≡ map (size_of around.tags) types → (k : ℕ) (row : TypedRow) (s : State)
        → StatementsAreSound (setting_in symbols around) types row
        → plays.Same AlikeFlow (statements_from turns around k row s) (execute_from turns env k (arm_trees (setting_in symbols around) row) s)
    arms_from_same around env a z zero none s h = normal_same s
    arms_from_same around env a z (suc k) none s h = normal_same s
    arms_from_same around env a z zero (more (node kind.Case label (more constant none)) others) s h =
        along AlikeFlow (statements turns around others s) (execute_from turns env 0 (case_arm (constant_of around.tags constant) (arm_trees (setting_in symbols around) others)) s)
        (execute_from turns env 0 (arm_trees (setting_in symbols around) others) s)
        (skip_case turns env (constant_of around.tags constant) (arm_trees (setting_in symbols around) others) s) (arms_same around env a z others s h.1)
    arms_from_same around env a z zero (more (node kind.Default label none) others) s h = arms_same around env a z others s h.1
    arms_from_same around env a z zero (more (node k label parts) others) s h =
        same_bind AlikeFlow AlikeFlow (statement turns around (node k label parts) s) (execute turns env (stmt_tree (setting_in symbols around) (node k label parts)) s) _ _
        (statement_same around env a z (node k label parts) s h.0) (λ f g t e.
        then_same f g t (statements turns around others) (execute_from turns env 0 (arm_trees (setting_in symbols around) others)) e (λ u. arms_same around env a z others u h.1))
    arms_from_same around env a z (suc k) (more (node kind.Case label (more constant none)) others) s h =
        along AlikeFlow (statements_from turns around k others s) (execute_from turns env (suc k) (case_arm (constant_of around.tags constant) (arm_trees (setting_in symbols around) others)) s)
        (execute_from turns env k (arm_trees (setting_in symbols around) others) s)
        (pass_case turns env k (constant_of around.tags constant) (arm_trees (setting_in symbols around) others) s) (arms_from_same around env a z k others s h.1)
    arms_from_same around env a z (suc k) (more (node kind.Default label none) others) s h = arms_from_same around env a z k others s h.1
    arms_from_same around env a z (suc k) (more (node kd label parts) others) s h = arms_from_same around env a z k others s h.1

    for_same : (around : Surroundings) (env : Environment) → Agree symbols around env → env.sizes ≡ map (size_of around.tags) types → (place : Place)
        → (first : Option Tree) (begin : State → Play (Unit {0})) → ((t : State) → plays.Same Equal (begin t) (typed.effect_if env first t))
        → (which next : Bool) (others : TypedRow) (s : State) → LoopIsSound (setting_in symbols around) types which next others
        → plays.Same AlikeFlow (bind (begin s) (λ done t. for_loop turns around place which next others t)) (execute turns env (loop_tree (setting_in symbols around) first which next others) s)
    for_same around env a z place first begin hf true true (more which (more next (more body none))) s h =
        same_bind Equal AlikeFlow (begin s) (typed.effect_if env first s) _ _ (hf s) (λ x y u e.
        tested_loops_keep_same turns (loop_of (condition around place which) (effect around next) (λ t. statement turns around body t))
        (loop_of (typed.condition env (value_tree (setting_in symbols around) which)) (typed.effect env (value_tree (setting_in symbols around) next)) (λ t. execute turns env (stmt_tree (setting_in symbols around) body) t))
        (record {
          tests = λ t. condition_same symbols around env a place which t h.0;
          bodies = λ t. statement_same around env a z body t h.2;
          steps = λ t. effect_same symbols around env a next t h.1;
        }) u)
    for_same around env a z place first begin hf true false (more which (more body none)) s h =
        same_bind Equal AlikeFlow (begin s) (typed.effect_if env first s) _ _ (hf s) (λ x y u e.
        tested_loops_keep_same turns (loop_of (condition around place which) no_step (λ t. statement turns around body t))
        (loop_of (typed.condition env (value_tree (setting_in symbols around) which)) (typed.effect_if env None) (λ t. execute turns env (stmt_tree (setting_in symbols around) body) t))
        (record {
          tests = λ t. condition_same symbols around env a place which t h.0;
          bodies = λ t. statement_same around env a z body t h.1;
          steps = λ t. (tt, refl, refl);
        }) u)
    for_same around env a z place first begin hf false true (more next (more body none)) s h =
        same_bind Equal AlikeFlow (begin s) (typed.effect_if env first s) _ _ (hf s) (λ x y u e.
        tested_loops_keep_same turns (loop_of always (effect around next) (λ t. statement turns around body t))
        (loop_of (typed.condition_if env None) (typed.effect env (value_tree (setting_in symbols around) next)) (λ t. execute turns env (stmt_tree (setting_in symbols around) body) t))
        (record {
          tests = λ t. (true, refl, refl);
          bodies = λ t. statement_same around env a z body t h.1;
          steps = λ t. effect_same symbols around env a next t h.0;
        }) u)
    for_same around env a z place first begin hf false false (more body none) s h =
        same_bind Equal AlikeFlow (begin s) (typed.effect_if env first s) _ _ (hf s) (λ x y u e.
        tested_loops_keep_same turns (loop_of always no_step (λ t. statement turns around body t))
        (loop_of (typed.condition_if env None) (typed.effect_if env None) (λ t. execute turns env (stmt_tree (setting_in symbols around) body) t))
        (record {
          tests = λ t. (true, refl, refl);
          bodies = λ t. statement_same around env a z body t h;
          steps = λ t. (tt, refl, refl);
        }) u)
    for_same around env a z place first begin hf which next others s h =
        along AlikeFlow (bind (begin s) (λ done t. for_loop turns around place which next others t)) (execute turns env (first_stmt first) s)
        (bind (typed.effect_if env first s) (λ done t. Done Normal t)) (first_is turns env first s)
        (same_bind Equal AlikeFlow (begin s) (typed.effect_if env first s) _ _ (hf s) (λ x y u e. tt))

pub statements_mean : StatementsMean
statements_mean turns symbols types around env agree sizes n h s = statement_same symbols types turns around env agree sizes n s h
