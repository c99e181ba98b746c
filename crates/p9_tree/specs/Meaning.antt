-- What typed trees, statements and functions mean, by the same plays as their sources. Typed trees
-- know no places of the source.
use Rattle.std.specs.Prelude.{ℕ, zero, suc, ◌==◌, if◌then◌else◌, Bool, true, false, List, [], ◌∷◌, ◌++◌, map, take, replicate, slice_get, unwrap_or, Option, Some, None, Result, Ok, Err}
use Rattle.p9_lang.specs.Layout.{on_some}
use Rattle.p9_lang.specs.Constants.{truth}
use Rattle.p9_tree.specs.declared.tree.Width.{Width}
use Rattle.p9_tree.specs.declared.tree.BinOp.{BinOp}
use Rattle.p9_tree.specs.declared.tree.BinOp.TheVariants as bin
use Rattle.p9_tree.specs.Trees.{Tree, Const, Addr, Auto, Load, Store, Update, Copy, Un, Bin, Conv, Choose, Both, Step, Seq, Call, Trees, none, more, Stmt, Nothing, Effect, Block, If, IfElse, While, DoWhile, For, Switch, Break, Continue, Return, Label, Goto, Stmts, end, thereafter, Arms, no_arms, Case, Default, Arm}
use Rattle.p9_tree.specs.Operations.{of_width, loaded_width, stored_width, of_two, of_one, test_of, called}
use Rattle.p9_cmean.specs.declared.Cause.{Cause}
use Rattle.p9_cmean.specs.declared.Place.{Place}
use Rattle.p9_cmean.specs.Cells.{Pointer, Cell, Unset, Object, Value, Word, Address, State}
use Rattle.p9_cmean.specs.Plays as plays
use Rattle.p9_cmean.specs.Plays.{Play, Done, NoMeaning, Turn, Moved, Ask, bind, Flow, Normal, Broke, Continued, Returned, Went, then_go, turn_of, tested_loop, no_step}
use Rattle.p9_cmean.specs.Access.{integer_in, read_whole, written_whole, value_cells}
use Rattle.p9_cmean.specs.Places.{used, or_wrong, done_at, or_no_meaning}
use Rattle.p9_cmean.specs.Automatics.{Living, living_object, live_object, numbered, next_object, with_objects, left}
use Rattle.p9_cmean.specs.Statements.{loop_of, always, or_else, run_from, given}

-- what symbols are in the program, which automatics are alive, and how many bytes each has
pub record Environment : Type 0 where
  pub symbol : (number offset : ℕ) → Option Pointer
  pub automatics : List Living
  pub sizes : List ℕ

abbrev pub nowhere : Place
nowhere = record { «module» = 0; node = 0 }

-- EXPRESSIONS

abbrev pub pointer_or_none : Option Pointer → State → Play Value
pointer_or_none pointer s = or_no_meaning nowhere s pointer (λ p. Done (Address p) s)

abbrev pub load : Width → (address : Value) → State → Play Value
load w address s = used address s (λ a. done_at nowhere s (loaded_width w s.objects a))

abbrev pub store : Width → (address value : Value) → State → Play Value
store w address value s =
    used value s (λ v.
    or_wrong nowhere s (of_width w v) (λ kept.
    or_wrong nowhere s (stored_width w s.objects address kept) (λ objects.
    Done kept (record s { objects = objects }))))

abbrev pub operate : BinOp → Value → Value → State → Play Value
operate op a b s = used a s (λ v. used b s (λ w. done_at nowhere s (of_two op s.objects v w)))

abbrev pub test : Value → State → Play Bool
test value s = used value s (λ v. done_at nowhere s (test_of s.objects v))

abbrev pub update : Width → BinOp → (address right : Value) → State → Play Value
update w op address right s =
    bind (load w address s) (λ old t. bind (operate op old right t) (λ new u. store w address new u))

-- the new value for the prefix form, else the old one
abbrev pub step : Width → (is_prefix : Bool) → (amount : ℕ) → (address : Value) → State → Play Value
step w is_prefix amount address s =
    bind (load w address s) (λ old t.
    bind (operate bin.Add old (Word amount) t) (λ new u.
    bind (store w address new u) (λ kept x. Done (if is_prefix then kept else old) x)))

abbrev pub copy : (bytes : ℕ) → (to from : Value) → State → Play Value
copy bytes to from s =
    or_wrong nowhere s (read_whole bytes 1 s.objects from) (λ cells.
    or_wrong nowhere s (written_whole bytes 1 s.objects to from cells) (λ objects.
    Moved bytes (Done to (record s { objects = objects }))))

abbrev pub call : (function : Value) → List Value → State → Play Value
call function arguments s =
    used function s (λ f.
    or_wrong nowhere s (called f) (λ name.
    Ask (record { function = name; arguments = arguments; place = nowhere }) s (λ value t. Done value t)))

abbrev mutual
  pub evaluate : Environment → Tree → State → Play Value
  evaluate env (Const word) s = Done (Word word) s
  evaluate env (Addr symbol offset) s = pointer_or_none (env.symbol symbol offset) s
  evaluate env (Auto number) s = pointer_or_none (living_object env.automatics number) s
  evaluate env (Load w from) s = bind (evaluate env from s) (λ a t. load w a t)
  evaluate env (Store w to value) s =
      bind (evaluate env to s) (λ a t. bind (evaluate env value t) (λ v u. store w a v u))
  evaluate env (Update w op to right) s =
      bind (evaluate env to s) (λ a t. bind (evaluate env right t) (λ v u. update w op a v u))
  evaluate env (Copy bytes to from) s =
      bind (evaluate env to s) (λ a t. bind (evaluate env from t) (λ b u. copy bytes a b u))
  evaluate env (Un op operand) s =
      bind (evaluate env operand s) (λ v t. used v t (λ w. done_at nowhere t (of_one op t.objects w)))
  evaluate env (Bin op left right) s =
      bind (evaluate env left s) (λ a t. bind (evaluate env right t) (λ b u. operate op a b u))
  evaluate env (Conv w operand) s =
      bind (evaluate env operand s) (λ v t. used v t (λ x. done_at nowhere t (of_width w x)))
  evaluate env (Choose which first second) s =
      bind (evaluate env which s) (λ v t. bind (test v t) (λ holds u.
      if holds then evaluate env first u else evaluate env second u))
  evaluate env (Both true left right) s =
      bind (evaluate env left s) (λ a t. bind (test a t) (λ first u.
      if first
      then bind (evaluate env right u) (λ b w. bind (test b w) (λ second x. Done (Word (truth second)) x))
      else Done (Word 0) u))
  evaluate env (Both false left right) s =
      bind (evaluate env left s) (λ a t. bind (test a t) (λ first u.
      if first
      then Done (Word 1) u
      else bind (evaluate env right u) (λ b w. bind (test b w) (λ second x. Done (Word (truth second)) x))))
  evaluate env (Step w is_prefix amount to) s = bind (evaluate env to s) (λ a t. step w is_prefix amount a t)
  evaluate env (Seq left right) s = bind (evaluate env left s) (λ v t. evaluate env right t)
  evaluate env (Call function arguments) s =
      bind (evaluate env function s) (λ f t. bind (evaluate_all env arguments t) (λ vs u. call f vs u))

  -- arguments, each used before the next
  pub evaluate_all : Environment → Trees → State → Play (List Value)
  evaluate_all env none s = Done [] s
  evaluate_all env (more first others) s =
      bind (evaluate env first s) (λ v t. used v t (λ w. bind (evaluate_all env others t) (λ vs u. Done (w ∷ vs) u)))

-- STATEMENTS

abbrev pub effect : Environment → Tree → State → Play (Unit {0})
effect env tree s = bind (evaluate env tree s) (λ v t. Done tt t)

abbrev pub effect_if : Environment → Option Tree → State → Play (Unit {0})
effect_if env None s = Done tt s
effect_if env (Some tree) s = effect env tree s

abbrev pub condition : Environment → Tree → State → Play Bool
condition env tree s = bind (evaluate env tree s) (λ v t. test v t)

-- a `for` without a test goes on
abbrev pub condition_if : Environment → Option Tree → State → Play Bool
condition_if env None s = always s
condition_if env (Some tree) s = condition env tree s

abbrev pub returned : Environment → Option Tree → State → Play Flow
returned env None s = Done (Returned None) s
returned env (Some tree) s = bind (evaluate env tree s) (λ v t. used v t (λ w. Done (Returned (Some w)) t))

-- the automatics of a block are unset
abbrev pub size_of_automatic : Environment → ℕ → ℕ
size_of_automatic env number = unwrap_or (slice_get env.sizes number) 0

abbrev pub unset_objects : Environment → (automatics : List ℕ) → List Object
unset_objects env automatics = map (λ a. live_object (replicate (size_of_automatic env a) Unset)) automatics

abbrev pub inside : Environment → List Living → Environment
inside env living = record env { automatics = living ++ env.automatics }

abbrev pub in_block : Environment → (automatics : List ℕ) → (Environment → State → Play Flow) → State → Play Flow
in_block env automatics body s =
    bind (body (inside env (numbered (next_object s) automatics)) (with_objects (unset_objects env automatics) s)) (λ flow t.
    Done flow (left (numbered (next_object s) automatics) t))

-- how many parts of a switch stand before the case with a value, and before the default
abbrev pub arms_before_case : ℕ → Arms → Option ℕ
arms_before_case word no_arms = None
arms_before_case word (Case n others) = if n == word then Some 0 else on_some (arms_before_case word others) (λ k. Some (suc k))
arms_before_case word (Default others) = on_some (arms_before_case word others) (λ k. Some (suc k))
arms_before_case word (Arm stmt others) = on_some (arms_before_case word others) (λ k. Some (suc k))

abbrev pub arms_before_default : Arms → Option ℕ
arms_before_default no_arms = None
arms_before_default (Case n others) = on_some (arms_before_default others) (λ k. Some (suc k))
arms_before_default (Default others) = Some 0
arms_before_default (Arm stmt others) = on_some (arms_before_default others) (λ k. Some (suc k))

abbrev pub entry_of : ℕ → Arms → Option ℕ
entry_of word arms = or_else (arms_before_case word arms) (arms_before_default arms)

abbrev mutual
  -- a statement, in which each loop is given so many turns
  pub execute : (turns : ℕ) → Environment → Stmt → State → Play Flow
  execute turns env Nothing s = Done Normal s
  execute turns env (Effect tree) s = bind (effect env tree s) (λ done t. Done Normal t)
  execute turns env (Block automatics body) s = in_block env automatics (λ within. execute_all turns within body) s
  execute turns env (If which first) s =
      bind (condition env which s) (λ holds t. if holds then execute turns env first t else Done Normal t)
  execute turns env (IfElse which first second) s =
      bind (condition env which s) (λ holds t. if holds then execute turns env first t else execute turns env second t)
  execute turns env (While which body) s = tested_loop turns (loop_of (condition env which) no_step (λ t. execute turns env body t)) s
  execute turns env (DoWhile body which) s = turn_of turns (loop_of (condition env which) no_step (λ t. execute turns env body t)) s
  execute turns env (For first which next body) s =
      bind (effect_if env first s) (λ done t.
      tested_loop turns (loop_of (condition_if env which) (effect_if env next) (λ u. execute turns env body u)) t)
  execute turns env (Switch tree arms) s =
      bind (evaluate env tree s) (λ v t.
      used v t (λ w.
      or_wrong nowhere t (integer_in w) (λ word.
      run_from (entry_of word arms) (λ k u. execute_from turns env k arms u) t)))
  execute turns env Break s = Done Broke s
  execute turns env Continue s = Done Continued s
  execute turns env (Return tree) s = returned env tree s
  execute turns env (Label number) s = Done Normal s
  execute turns env (Goto number) s = Turn s (Done (Went number) s)

  pub execute_all : (turns : ℕ) → Environment → Stmts → State → Play Flow
  execute_all turns env end s = Done Normal s
  execute_all turns env (thereafter first others) s =
      bind (execute turns env first s) (λ flow t. then_go flow t (λ u. execute_all turns env others u))

  -- the parts of a switch without so many at the front
  pub execute_from : (turns : ℕ) → Environment → (skipped : ℕ) → Arms → State → Play Flow
  execute_from turns env skipped no_arms s = Done Normal s
  execute_from turns env zero (Case word others) s = execute_from turns env zero others s
  execute_from turns env zero (Default others) s = execute_from turns env zero others s
  execute_from turns env zero (Arm stmt others) s =
      bind (execute turns env stmt s) (λ flow t. then_go flow t (λ u. execute_from turns env zero others u))
  execute_from turns env (suc skipped) (Case word others) s = execute_from turns env skipped others s
  execute_from turns env (suc skipped) (Default others) s = execute_from turns env skipped others s
  execute_from turns env (suc skipped) (Arm stmt others) s = execute_from turns env skipped others s

-- FUNCTIONS

-- parameters are the first automatics; each begins with its argument
abbrev pub argument_object : (size : ℕ) → Value → Option Object
argument_object size value = by (value_cells size value)
  where
    by : Result (List Cell) Cause → Option Object
    by (Ok cells) = Some (live_object cells)
    by (Err why) = None

abbrev pub argument_objects : List ℕ → List Value → Option (List Object)
argument_objects [] [] = Some []
argument_objects [] (value ∷ values) = None
argument_objects (size ∷ sizes) [] = None
argument_objects (size ∷ sizes) (value ∷ values) =
    on_some (argument_object size value) (λ object.
    on_some (argument_objects sizes values) (λ objects. Some (object ∷ objects)))

abbrev pub first_numbers : (from count : ℕ) → List ℕ
first_numbers from zero = []
first_numbers from (suc count) = from ∷ first_numbers (suc from) count

-- a function: its symbol's number, the sizes of its automatics, the number of its parameters, and the
-- number of nodes of its item, calls counted twice
pub record Function : Type 0 where
  pub symbol : ℕ
  pub sizes : List ℕ
  pub parameters : ℕ
  pub body : Stmt
  pub nodes : ℕ

abbrev pub with_automatics : Environment → List ℕ → List Living → Environment
with_automatics env sizes living = record env { automatics = living; sizes = sizes }

abbrev pub function_body : (turns : ℕ) → Environment → Function → plays.Call → State → Play Value
function_body turns env f c s =
    or_no_meaning c.place s (argument_objects (take f.parameters f.sizes) c.arguments) (λ objects.
    bind (execute turns (with_automatics env f.sizes (numbered (next_object s) (first_numbers 0 f.parameters))) f.body (with_objects objects s)) (λ flow t.
    given c.place flow (left (numbered (next_object s) (first_numbers 0 f.parameters)) t)))
