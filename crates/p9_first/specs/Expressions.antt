-- What an expression does and is worth. Nodes outside the form have no clauses
-- yet: they are undefined.
use Rattle.std.specs.Prelude.{zero, ℕ, List, [], ◌∷◌, None}
use Rattle.p9_base.specs.Words.{word_sum}
use Rattle.p9_first.specs.declared.tree.CBinary.{CBinary}
use Rattle.p9_first.specs.declared.tree.CBinary.TheVariants as operator
use Rattle.p9_first.specs.declared.tree.Kind.TheVariants as kind
use Rattle.p9_first.specs.Types.{TypeTree, Pointer, Array, Function, TypeRow, Meant, Nothing, Outer, Static, Auto, EnumValue, TypeName}
use Rattle.p9_first.specs.Types as types
use Rattle.p9_first.specs.Trees.{node, none, more}
use Rattle.p9_first.specs.Modules.{Label, Typed, TypedRow}
use Rattle.p9_first.specs.declared.Cause.TheVariants as cause
use Rattle.p9_first.specs.declared.Place.{Place}
use Rattle.p9_first.specs.Cells.{FunctionName, Value, Word, Address, Missing, State}
use Rattle.p9_first.specs.Cells as cells
use Rattle.p9_first.specs.Plays.{Play, Done, Wrong, Ask, bind}
use Rattle.p9_first.specs.Access.{with_word, read_from, store}

-- What names and texts stand for in the module that is run, and the module's number
pub record Surroundings : Type 0 where
  pub owner : ℕ
  pub object : (name : List ℕ) → cells.Pointer
  pub function : (name : List ℕ) → FunctionName
  pub static : (number : ℕ) → cells.Pointer

abbrev pub at : Surroundings → Label → Place
at around label = record { «module» = around.owner; node = label.number }

abbrev pub no_clause : {A : Type 0} → Place → State → Play A
no_clause place s = Wrong cause.NoValue place s

-- a name of function type is the function, any other is the object's place
abbrev pub outer_pointer : Surroundings → TypeTree → List ℕ → cells.Pointer
outer_pointer around (Function result parameters) name = cells.ToFunction (around.function name)
outer_pointer around type name = around.object name

abbrev pub pointer_of : Surroundings → TypeTree → Meant → cells.Pointer
pointer_of around type (Outer name) = outer_pointer around type name
pointer_of around type (Static number) = around.static number
pointer_of around type _ = cells.Null

-- the value at a place: arrays become pointers to their first elements and functions to
-- themselves, anything else is read
abbrev pub value_at : TypeTree → Place → cells.Pointer → State → Play Value
value_at (Array element count) place pointer s = Done (Address pointer) s
value_at (Function result parameters) place pointer s = Done (Address pointer) s
value_at type place pointer s = read_from type place pointer s

-- a sum of integers wraps
abbrev pub sum_of : Place → Value → Value → State → Play Value
sum_of place a b s = with_word place a s (λ x. with_word place b s (λ y. Done (Word (word_sum x y)) s))

abbrev pub binary : CBinary → Place → Value → Value → State → Play Value
binary operator.Add place a b s = sum_of place a b s
binary _ place a b s = no_clause place s

-- an argument as its parameter's type: the constant 0 as a pointer is null
abbrev pub argument : TypeTree → Value → State → Play Value
argument (Pointer target) (Word zero) s = Done (Address cells.Null) s
argument type (Missing call) s = Wrong cause.NoValue call s
argument type value s = Done value s

-- A call through null, or through a pointer that is to no function, takes no turn.
abbrev pub call_through : Place → Value → List Value → State → Play Value
call_through place (Address (cells.ToFunction function)) arguments s =
    Ask (record { function = function; arguments = arguments; place = place }) s (λ value t. Done value t)
call_through place (Address cells.Null) arguments s = Wrong cause.Null place s
call_through place (Address (cells.Into object offset)) arguments s = Wrong cause.WrongCall place s
call_through place (Word n) arguments s = Wrong cause.WrongCall place s
call_through place (Missing call) arguments s = Wrong cause.NoValue call s

-- the types of the parameters of a function or of what a pointer is to
abbrev pub parameters_of : TypeTree → TypeRow
parameters_of (Function result parameters) = parameters
parameters_of (Pointer (Function result parameters)) = parameters
parameters_of _ = types.none

abbrev pub type_of_node : Typed → TypeTree
type_of_node (node k label parts) = label.type

-- Everything goes from left to right: of an assignment the place comes first, of a call the function.
abbrev mutual
  -- the place of an expression
  pub place : Surroundings → Typed → State → Play Value
  place around (node (kind.Name x) label none) s = Done (Address (pointer_of around label.type label.means)) s
  place around (node k label parts) s = no_clause (at around label) s

  pub value : Surroundings → Typed → State → Play Value
  value around (node (kind.Name x) label none) s =
      value_at label.type (at around label) (pointer_of around label.type label.means) s
  value around (node (kind.Number n unsigned long) label none) s = Done (Word n) s
  value around (node (kind.Text texts) label none) s =
      value_at label.type (at around label) (pointer_of around label.type label.means) s
  value around (node (kind.Binary op) label (more left (more right none))) s =
      bind (value around left s) (λ a t. bind (value around right t) (λ b u. binary op (at around label) a b u))
  value around (node (kind.Assign None) label (more left (more right none))) s =
      bind (place around left s) (λ p t.
      bind (value around right t) (λ v u. store (type_of_node left) (at around label) p v u))
  value around (node kind.Call label (more function arguments)) s =
      bind (value around function s) (λ f t.
      bind (values around (parameters_of (type_of_node function)) arguments t) (λ vs u.
      call_through (at around label) f vs u))
  value around (node k label parts) s = no_clause (at around label) s

  -- arguments, each as its parameter's type
  pub values : Surroundings → TypeRow → TypedRow → State → Play (List Value)
  values around parameters none s = Done [] s
  values around types.none (more first others) s = Done [] s
  values around (types.more parameter parameters) (more first others) s =
      bind (value around first s) (λ v t.
      bind (argument parameter v t) (λ w u.
      bind (values around parameters others u) (λ vs x. Done (w ∷ vs) x)))
