-- The functions of modules fit: they do the same with more turns, and never take back output.
use Rattle.std.proofs.Common.{◌≤◌, ℕ, zero, suc, Bool, true, false, not, if◌then◌else◌, List, [], ◌∷◌, Option, Some, None, Result, Ok, Err, refl}
use Rattle.std.specs.Prelude.{codes, ◌==◌}
use Rattle.p9_base.specs.Words.{is_negative}
use Rattle.p9_first.specs.declared.tree.CBinary.{CBinary}
use Rattle.p9_first.specs.declared.tree.CBinary.TheVariants as operator
use Rattle.p9_first.specs.declared.tree.Kind.TheVariants as kind
use Rattle.p9_first.specs.Types.{TypeTree, TypeRow, Pointer, Array, Function}
use Rattle.p9_first.specs.Types as types
use Rattle.p9_first.specs.Layout.{size_of, alignment_of}
use Rattle.p9_first.specs.Trees.{node, none, more}
use Rattle.p9_first.specs.Modules.{Typed, TypedRow, Source}
use Rattle.p9_first.specs.Form.{same_name, is_among}
use Rattle.p9_first.specs.Modules.{system_names}
use Rattle.p9_first.specs.declared.Cause.{Cause}
use Rattle.p9_first.specs.declared.Place.{Place}
use Rattle.p9_first.specs.Cells.{FunctionName, Global, Local, Value, Word, Address, Missing, State}
use Rattle.p9_first.specs.Cells as cells
use Rattle.p9_first.specs.Plays.{Call, Play, Done, bind, Normal, then_go}
use Rattle.p9_first.specs.Access as access
use Rattle.p9_first.specs.SystemCalls as system
use Rattle.p9_first.specs.Expressions.{Surroundings, at, value_at, binary, argument, call_through, place, value, values, parameters_of, type_of_node, pointer_of}
use Rattle.p9_first.specs.Statements.{statement, statements, given, item_body}
use Rattle.p9_first.specs.Union.{Defined, definition}
use Rattle.p9_first.specs.CRun.{surroundings, body_of, function_body, functions_of}
use Rattle.p9_first.specs.PlayLaws.{Follows}
use Rattle.p9_first.proofs.Plays.{follows_refl, follows_bind, follows_then}
use Rattle.p9_first.proofs.Outputs.{begins_refl, begins_append, Keeps, keeps_bind, keeps_then}
use Rattle.p9_first.proofs.Later.{Fit}

-- Output is kept

keeps_pointer : {A : Type 0} (pl : Place) (v : Value) (s : State) (next : cells.Pointer → Play A) → ((p : cells.Pointer) → Keeps s.output (next p)) → Keeps s.output (access.with_pointer pl v s next)
keeps_pointer pl (Word n) s next h = begins_refl s.output
keeps_pointer pl (Address p) s next h = h p
keeps_pointer pl (Missing c) s next h = begins_refl s.output

keeps_word : {A : Type 0} (pl : Place) (v : Value) (s : State) (next : ℕ → Play A) → ((n : ℕ) → Keeps s.output (next n)) → Keeps s.output (access.with_word pl v s next)
keeps_word pl (Word n) s next h = h n
keeps_word pl (Address p) s next h = begins_refl s.output
keeps_word pl (Missing c) s next h = begins_refl s.output

keeps_or : {A B : Type 0} (pl : Place) (s : State) (r : Result A Cause) (next : A → Play B) → ((x : A) → Keeps s.output (next x)) → Keeps s.output (access.or_wrong pl s r next)
keeps_or pl s (Ok x) next h = h x
keeps_or pl s (Err why) next h = begins_refl s.output

keeps_if : {A : Type 0} (o : List ℕ) (b : Bool) (p q : Play A) → Keeps o p → Keeps o q → Keeps o (if b then p else q)
keeps_if o true p q h g = h
keeps_if o false p q h g = g

keeps_read : (type : TypeTree) (pl : Place) (p : cells.Pointer) (s : State) → Keeps s.output (access.read_from type pl p s)
keeps_read type pl p s =
    keeps_or pl s (access.cells_at s.objects p (size_of type) (alignment_of type)) _ (λ cs.
    keeps_or pl s (access.integer_in type cs) _ (λ v. begins_refl s.output))

keeps_write : (type : TypeTree) (pl : Place) (p : cells.Pointer) (n : ℕ) (s : State) → Keeps s.output (access.write_to type pl p n s)
keeps_write type pl p n s =
    keeps_or pl s (access.cells_at s.objects p (size_of type) (alignment_of type)) _ (λ cs. begins_refl s.output)

keeps_store : (type : TypeTree) (pl : Place) (a v : Value) (s : State) → Keeps s.output (access.store type pl a v s)
keeps_store type pl a v s = keeps_pointer pl a s _ (λ p. keeps_word pl v s _ (λ n. keeps_write type pl p n s))

keeps_value_at : (type : TypeTree) (pl : Place) (p : cells.Pointer) (s : State) → Keeps s.output (value_at type pl p s)
keeps_value_at (Array element count) pl p s = begins_refl s.output
keeps_value_at (Function result parameters) pl p s = begins_refl s.output
keeps_value_at type pl p s = keeps_read type pl p s

keeps_binary : (op : CBinary) (pl : Place) (a b : Value) (s : State) → Keeps s.output (binary op pl a b s)
keeps_binary operator.Add pl a b s = keeps_word pl a s _ (λ x. keeps_word pl b s _ (λ y. begins_refl s.output))
keeps_binary _ pl a b s = begins_refl s.output

keeps_argument : (type : TypeTree) (v : Value) (s : State) → Keeps s.output (argument type v s)
keeps_argument (Pointer target) (Word zero) s = begins_refl s.output
keeps_argument type (Missing call) s = begins_refl s.output
keeps_argument type v s = begins_refl s.output

keeps_call : (pl : Place) (f : Value) (vs : List Value) (s : State) → Keeps s.output (call_through pl f vs s)
keeps_call pl (Address (cells.ToFunction function)) vs s = (begins_refl s.output, λ v t b. begins_refl t.output)
keeps_call pl (Address cells.Null) vs s = begins_refl s.output
keeps_call pl (Address (cells.Into o k)) vs s = begins_refl s.output
keeps_call pl (Word n) vs s = begins_refl s.output
keeps_call pl (Missing c) vs s = begins_refl s.output

keeps_place : (around : Surroundings) (e : Typed) (s : State) → Keeps s.output (place around e s)
keeps_place around (node (kind.Name x) label none) s = begins_refl s.output
keeps_place around (node k label parts) s = begins_refl s.output

mutual
  keeps_value : (around : Surroundings) (e : Typed) (s : State) → Keeps s.output (value around e s)
  keeps_value around (node (kind.Name x) label none) s = keeps_value_at label.type (at around label) (pointer_of around label.type label.means) s
  keeps_value around (node (kind.Number n unsigned long) label none) s = begins_refl s.output
  keeps_value around (node (kind.Text texts) label none) s = keeps_value_at label.type (at around label) (pointer_of around label.type label.means) s
  keeps_value around (node (kind.Binary op) label (more left (more right none))) s =
      keeps_bind s.output (value around left s) _ (keeps_value around left s) (λ a t. keeps_bind t.output (value around right t) _ (keeps_value around right t) (λ b u. keeps_binary op (at around label) a b u))
  keeps_value around (node (kind.Assign None) label (more left (more right none))) s =
      keeps_bind s.output (place around left s) _ (keeps_place around left s) (λ p t. keeps_bind t.output (value around right t) _ (keeps_value around right t) (λ v u. keeps_store (type_of_node left) (at around label) p v u))
  keeps_value around (node kind.Call label (more function arguments)) s =
      keeps_bind s.output (value around function s) _ (keeps_value around function s) (λ f t. keeps_bind t.output (values around (parameters_of (type_of_node function)) arguments t) _ (keeps_values around (parameters_of (type_of_node function)) arguments t) (λ vs u. keeps_call (at around label) f vs u))
  keeps_value around (node k label parts) s = begins_refl s.output

  keeps_values : (around : Surroundings) (parameters : TypeRow) (es : TypedRow) (s : State) → Keeps s.output (values around parameters es s)
  keeps_values around parameters none s = begins_refl s.output
  keeps_values around types.none (more first others) s = begins_refl s.output
  keeps_values around (types.more parameter parameters) (more first others) s =
      keeps_bind s.output (value around first s) _ (keeps_value around first s) (λ v t.
      keeps_bind t.output (argument parameter v t) _ (keeps_argument parameter v t) (λ w u.
      keeps_bind u.output (values around parameters others u) _ (keeps_values around parameters others u) (λ vs x. begins_refl x.output)))

mutual
  keeps_statement : (n : ℕ) (around : Surroundings) (e : Typed) (s : State) → Keeps s.output (statement n around e s)
  keeps_statement n around (node kind.Expression label (more e none)) s = keeps_bind s.output (value around e s) _ (keeps_value around e s) (λ v t. begins_refl t.output)
  keeps_statement n around (node kind.Block label parts) s = keeps_statements n around parts s
  keeps_statement n around (node k label parts) s = begins_refl s.output

  keeps_statements : (n : ℕ) (around : Surroundings) (es : TypedRow) (s : State) → Keeps s.output (statements n around es s)
  keeps_statements n around none s = begins_refl s.output
  keeps_statements n around (more first others) s =
      keeps_bind s.output (statement n around first s) _ (keeps_statement n around first s) (λ flow t. keeps_then flow t (statements n around others) (λ u. keeps_statements n around others u))

keeps_item : (n : ℕ) (around : Surroundings) (item : Typed) (c : Place) (s : State) → Keeps s.output (item_body n around item c s)
keeps_item n around (node (kind.Function spec) label (more declarator (more block none))) c s =
    keeps_bind s.output (statement n around block s) _ (keeps_statement n around block s) (λ flow t. begins_refl t.output)
keeps_item n around _ c s = begins_refl s.output

-- With more turns a body does the same

mutual
  statement_follows : (m n : ℕ) → m ≤ n → (around : Surroundings) (e : Typed) (s : State) → Follows m (statement m around e s) (statement n around e s)
  statement_follows m n le around (node kind.Expression label (more e none)) s = follows_refl m (bind (value around e s) (λ v t. Done Normal t))
  statement_follows m n le around (node kind.Block label parts) s = statements_follow m n le around parts s
  statement_follows m n le around (node k label parts) s = refl

  statements_follow : (m n : ℕ) → m ≤ n → (around : Surroundings) (es : TypedRow) (s : State) → Follows m (statements m around es s) (statements n around es s)
  statements_follow m n le around none s = refl
  statements_follow m n le around (more first others) s =
      follows_bind m (statement m around first s) (statement n around first s) (λ flow t. then_go flow t (statements m around others)) (λ flow t. then_go flow t (statements n around others))
      (statement_follows m n le around first s) (λ flow t. follows_then m flow t (statements m around others) (statements n around others) (λ u. statements_follow m n le around others u))

item_follows : (m n : ℕ) → m ≤ n → (around : Surroundings) (item : Typed) (c : Place) (s : State) → Follows m (item_body m around item c s) (item_body n around item c s)
item_follows m n le around (node (kind.Function spec) label (more declarator (more block none))) c s =
    follows_bind m (statement m around block s) (statement n around block s) (λ flow t. Done (given c flow) t) (λ flow t. Done (given c flow) t)
    (statement_follows m n le around block s) (λ flow t. refl)
item_follows m n le around _ c s = refl

-- System calls

keeps_exits : (pl : Place) (vs : List Value) (s : State) → Keeps s.output (system.exits_call pl vs s)
keeps_exits pl [] s = begins_refl s.output
keeps_exits pl (v ∷ []) s = keeps_pointer pl v s _ (λ p. keeps_or pl s (system.exit_text s.objects p) _ (λ text. begins_refl s.output))
keeps_exits pl (v ∷ w ∷ vs) s = begins_refl s.output

keeps_transfer : (transfer : Place → ℕ → cells.Pointer → ℕ → State → Play Value) → ((pl : Place) (d : ℕ) (p : cells.Pointer) (n : ℕ) (s : State) → Keeps s.output (transfer pl d p n s)) → (pl : Place) (vs : List Value) (s : State) → Keeps s.output (system.transfer_call transfer pl vs s)
keeps_transfer transfer h pl [] s = begins_refl s.output
keeps_transfer transfer h pl (d ∷ []) s = begins_refl s.output
keeps_transfer transfer h pl (d ∷ p ∷ []) s = begins_refl s.output
keeps_transfer transfer h pl (d ∷ p ∷ n ∷ []) s = keeps_word pl d s _ (λ x. keeps_pointer pl p s _ (λ y. keeps_word pl n s _ (λ z. h pl x y z s)))
keeps_transfer transfer h pl (d ∷ p ∷ n ∷ m ∷ vs) s = begins_refl s.output

keeps_written : (pl : Place) (p : cells.Pointer) (n : ℕ) (s : State) → Keeps s.output (system.written pl p n s)
keeps_written pl p zero s = begins_refl s.output
keeps_written pl p (suc n) s = keeps_or pl s (system.read_characters s.objects p (system.characters_in (suc n))) _ (λ cs. begins_append s.output cs)

keeps_filled : (pl : Place) (p : cells.Pointer) (n : ℕ) (s : State) → Keeps s.output (system.filled pl p n s)
keeps_filled pl p zero s = begins_refl s.output
keeps_filled pl p (suc n) s = keeps_or pl s (access.cells_at s.objects p (suc n) 1) _ (λ cs. begins_refl s.output)

keeps_write_call : (pl : Place) (d : ℕ) (p : cells.Pointer) (n : ℕ) (s : State) → Keeps s.output (system.write pl d p n s)
keeps_write_call pl d p n s =
    keeps_if s.output (not (d == 1)) (Done system.minus_one s) (if is_negative n then Done system.minus_one s else system.written pl p n s) (begins_refl s.output)
    (keeps_if s.output (is_negative n) (Done system.minus_one s) (system.written pl p n s) (begins_refl s.output) (keeps_written pl p n s))

keeps_read_call : (pl : Place) (d : ℕ) (p : cells.Pointer) (n : ℕ) (s : State) → Keeps s.output (system.read pl d p n s)
keeps_read_call pl d p n s =
    keeps_if s.output (not (d == 0)) (Done system.minus_one s) (if is_negative n then Done system.minus_one s else system.filled pl p n s) (begins_refl s.output)
    (keeps_if s.output (is_negative n) (Done system.minus_one s) (system.filled pl p n s) (begins_refl s.output) (keeps_filled pl p n s))

keeps_system : (name : List ℕ) (call : Call) (s : State) → Keeps s.output (system.system_body name call s)
keeps_system name call s =
    keeps_if s.output (same_name name (codes "exits")) (system.exits_call call.place call.arguments s)
    (if same_name name (codes "read") then system.transfer_call system.read call.place call.arguments s else system.transfer_call system.write call.place call.arguments s)
    (keeps_exits call.place call.arguments s)
    (keeps_if s.output (same_name name (codes "read")) (system.transfer_call system.read call.place call.arguments s) (system.transfer_call system.write call.place call.arguments s)
    (keeps_transfer system.read keeps_read_call call.place call.arguments s) (keeps_transfer system.write keeps_write_call call.place call.arguments s))

-- The functions of modules

keeps_body : (modules : List Source) (n : ℕ) (code : Option Defined) (call : Call) (s : State) → Keeps s.output (body_of modules n code call s)
keeps_body modules n (Some code) call s = keeps_item n (surroundings modules code.owner) code.item call.place s
keeps_body modules n None call s = begins_refl s.output

body_follows : (modules : List Source) (m n : ℕ) → m ≤ n → (code : Option Defined) (call : Call) (s : State) → Follows m (body_of modules m code call s) (body_of modules n code call s)
body_follows modules m n le (Some code) call s = item_follows m n le (surroundings modules code.owner) code.item call.place s
body_follows modules m n le None call s = refl

follows_either : {A : Type 0} (m : ℕ) (b : Bool) (p q r : Play A) → Follows m p q → Follows m (if b then r else p) (if b then r else q)
follows_either m true p q r h = follows_refl m r
follows_either m false p q r h = h

keeps_function : (modules : List Source) (n : ℕ) (function : FunctionName) (arguments : List Value) (pl : Place) (s : State) → Keeps s.output (function_body modules n (record { function = function; arguments = arguments; place = pl }) s)
keeps_function modules n (Global name) arguments pl s =
    keeps_if s.output (is_among system_names name) (system.system_body name (record { function = Global name; arguments = arguments; place = pl }) s) (body_of modules n (definition modules (Global name)) (record { function = Global name; arguments = arguments; place = pl }) s)
    (keeps_system name (record { function = Global name; arguments = arguments; place = pl }) s) (keeps_body modules n (definition modules (Global name)) (record { function = Global name; arguments = arguments; place = pl }) s)
keeps_function modules n (Local owner name) arguments pl s = keeps_body modules n (definition modules (Local owner name)) (record { function = Local owner name; arguments = arguments; place = pl }) s

function_follows : (modules : List Source) (m n : ℕ) → m ≤ n → (function : FunctionName) (arguments : List Value) (pl : Place) (s : State) → Follows m (function_body modules m (record { function = function; arguments = arguments; place = pl }) s) (function_body modules n (record { function = function; arguments = arguments; place = pl }) s)
function_follows modules m n le (Global name) arguments pl s =
    follows_either m (is_among system_names name) (body_of modules m (definition modules (Global name)) (record { function = Global name; arguments = arguments; place = pl }) s) (body_of modules n (definition modules (Global name)) (record { function = Global name; arguments = arguments; place = pl }) s)
    (system.system_body name (record { function = Global name; arguments = arguments; place = pl }) s)
    (body_follows modules m n le (definition modules (Global name)) (record { function = Global name; arguments = arguments; place = pl }) s)
function_follows modules m n le (Local owner name) arguments pl s = body_follows modules m n le (definition modules (Local owner name)) (record { function = Local owner name; arguments = arguments; place = pl }) s

pub functions_fit : (modules : List Source) → Fit (functions_of modules)
functions_fit modules = record {
  follows = λ m n call s le. function_follows modules m n le call.function call.arguments call.place s;
  keeps = λ n call s. keeps_function modules n call.function call.arguments call.place s;
}
