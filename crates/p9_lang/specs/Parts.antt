-- The parts of nodes while a file is typed: what a part is asked to be, where it stands, what it
-- turned out to be, and what of that a node looks at.
use Rattle.std.specs.Prelude.{ℕ, ◌+◌, ◌%◌, ◌^◌, Bool, true, false, nat_lt, if◌then◌else◌, List, [], ◌∷◌, ◌++◌, map, Option, Some, None, Result}
use Rattle.p9_lang.specs.declared.tree.Kind.{Kind}
use Rattle.p9_lang.specs.declared.tree.Kind.TheVariants as kind
use Rattle.p9_lang.specs.Trees.{node, none, more, Syntax, SyntaxRow}
use Rattle.p9_lang.specs.Types.{TypeTree, MemberTree}
use Rattle.p9_lang.specs.Constants.{Operand, Constant, NotConstant, Undefined, Null, constant_at}
use Rattle.p9_lang.specs.Constants as constants
use Rattle.p9_lang.specs.Rules.{Rule, Broken}
use Rattle.p9_lang.specs.Scopes.{Known}
use Rattle.p9_lang.specs.Declarators.{Storage, Step, LengthBy, ByNothing, ByBraces, ByText, NameNode, name_of}

-- WHAT A NODE IS TO THE NODE THAT IT IS A PART OF

-- what a part is asked to be: nothing more; the whole of an expression statement; a declarator,
-- perhaps of a block static, perhaps with a function's body behind it; a parameter, perhaps of the
-- function that a body belongs to, with its number there; a member or constant in braces, behind
-- members of these names; an entry of a list, for what it fills if that is known, at the next
-- position; the initialiser of a static object or a part of one, or of an automatic, or one that
-- has no place
pub data Role : Type 0 where
  Plain : Role
  Whole : Role
  Declares : (is_block_static heads_body : Bool) → Role
  ParameterOf : (is_own : Bool) (number : ℕ) → Role
  InBraces : (names : List (List ℕ)) → Role
  EntryOf : (list : Option TypeTree) (next : ℕ) → Role
  Fills : (type : TypeTree) → Role
  Assigns : (type : TypeTree) → Role
  Outside : Role

-- where a node stands: in a loop or a switch, in a function with this result, in this role
pub record Context : Type 0 where
  pub is_in_loop : Bool
  pub is_in_switch : Bool
  pub result : Option TypeTree
  pub role : Role

abbrev pub in_role : Role → Context → Context
in_role role c = record c { role = role }

abbrev pub file_context : Context
file_context = record { is_in_loop = false; is_in_switch = false; result = None; role = Plain }

-- What a part turned out to be: an expression; a declarator; what it declares, with its type, its
-- steps, the last node of its declarator and the role of an initialiser; the members that a member
-- declaration has; an enumeration constant, with its value if one is written; a parameter; a named
-- type; a list in braces with the number of positions that it goes to; an entry with the position
-- behind it; a case label; a default label; or another statement or declaration.
pub data Part : Type 0 where
  Value : (operand : Operand) → Part
  Declarator : (steps : List Step) → Part
  Object : (type : TypeTree) (steps : List Step) (last : ℕ) (role : Role) → Part
  Members : (members : List MemberTree) → Part
  Enumerator : (name : List ℕ) (value : Option Constant) → Part
  Parameter : (type : TypeTree) → Part
  NamedType : (type : TypeTree) → Part
  Braced : (count : ℕ) → Part
  Filled : (next : ℕ) → Part
  CaseLabel : (word : ℕ) → Part
  DefaultLabel : Part
  Statement : Part

-- what a node keeps while its parts are judged: its context; and if it has a spec, the type that
-- this names, the structure whose body it has, how many parts its braces have, its storage class,
-- and the rules that it breaks
pub record Frame : Type 0 where
  pub context : Context
  pub base : TypeTree
  pub tag : Option ℕ
  pub braces : ℕ
  pub storage : Storage
  pub rules : List Rule

abbrev pub Judged : Type 0
Judged = Result (Part × Known) Broken

-- KINDS

abbrev pub is_declarator : Kind → Bool
is_declarator (kind.DeclName x) = true
is_declarator (kind.Star volatiles) = true
is_declarator (kind.Brackets inner sized) = true
is_declarator (kind.Params inner void_word) = true
is_declarator kind.DeclParens = true
is_declarator k = false

abbrev pub kind_at : Syntax → Kind
kind_at (node k at parts) = k

-- what stands behind a declarator: braces, a text, another initialiser, or none
pub data Follows : Type 0 where
  NoInitialiser : Follows
  Braces : Follows
  Text : Follows
  Expression : Follows

abbrev pub follows_kind : Kind → Follows
follows_kind (kind.InitList comma) = Braces
follows_kind (kind.Text texts) = Text
follows_kind k = if is_declarator k then NoInitialiser else Expression

abbrev pub follows : SyntaxRow → Follows
follows none = NoInitialiser
follows (more t ts) = follows_kind (kind_at t)

abbrev pub length_by : Follows → LengthBy
length_by NoInitialiser = ByNothing
length_by Braces = ByBraces
length_by Text = ByText
length_by Expression = ByNothing

abbrev pub has_initialiser : Follows → Bool
has_initialiser NoInitialiser = false
has_initialiser Braces = true
has_initialiser Text = true
has_initialiser Expression = true

-- PARTS SO FAR

abbrev pub or_object : Option Part → Part → Option Part
or_object (Some later) part = Some later
or_object None (Object type steps last role) = Some (Object type steps last role)
or_object None other = None

abbrev pub last_object : List Part → Option Part
last_object [] = None
last_object (part ∷ parts) = or_object (last_object parts) part

abbrev pub object_type : Option Part → (otherwise : TypeTree) → TypeTree
object_type (Some (Object type steps last role)) otherwise = type
object_type other otherwise = otherwise

abbrev pub object_role : Option Part → Role
object_role (Some (Object type steps last role)) = role
object_role other = Outside

abbrev pub name_in : Option NameNode → List ℕ
name_in None = []
name_in (Some n) = n.name

-- the names of the members that stand in braces so far, and of those that one declaration has
abbrev pub member_names : List Part → List (List ℕ)
member_names [] = []
member_names (Members members ∷ parts) = map (λ m. m.name) members ++ member_names parts
member_names (other ∷ parts) = member_names parts

abbrev pub object_names : List Part → List (List ℕ)
object_names [] = []
object_names (Object type steps last role ∷ parts) = name_in (name_of steps) ∷ object_names parts
object_names (other ∷ parts) = object_names parts

abbrev pub members_in : List Part → List MemberTree
members_in [] = []
members_in (Members members ∷ parts) = members ++ members_in parts
members_in (other ∷ parts) = members_in parts

-- an unnamed substructure is a member too
abbrev pub declared_members : TypeTree → List Part → List MemberTree
declared_members base [] = []
declared_members base (Object type steps last role ∷ parts) =
    record { name = name_in (name_of steps); type = type } ∷ declared_members base parts
declared_members base (other ∷ parts) = declared_members base parts

abbrev pub or_unnamed : TypeTree → List MemberTree → List MemberTree
or_unnamed base [] = record { name = []; type = base } ∷ []
or_unnamed base (m ∷ ms) = m ∷ ms

abbrev pub parameter_types : List Part → List TypeTree
parameter_types [] = []
parameter_types (Parameter type ∷ parts) = type ∷ parameter_types parts
parameter_types (other ∷ parts) = parameter_types parts

-- the value of the constant before, plus 1
abbrev pub next_value : ℕ → List Part → ℕ
next_value so_far [] = so_far
next_value so_far (Enumerator x (Some (constants.Value v)) ∷ parts) = next_value ((v + 1) % 2 ^ 32) parts
next_value so_far (other ∷ parts) = next_value so_far parts

abbrev pub next_position : ℕ → List Part → ℕ
next_position so_far [] = so_far
next_position so_far (Filled next ∷ parts) = next_position next parts
next_position so_far (other ∷ parts) = next_position so_far parts

-- how many positions a list goes to
abbrev pub positions : ℕ → List Part → ℕ
positions so_far [] = so_far
positions so_far (Filled next ∷ parts) = positions (if nat_lt so_far next then next else so_far) parts
positions so_far (other ∷ parts) = positions so_far parts

abbrev pub first_constant : List Part → Constant
first_constant (Value o ∷ parts) = o.constant
first_constant parts = NotConstant

-- the steps within, where a declarator has some
abbrev pub inner_steps : List Part → List Step
inner_steps (Declarator steps ∷ parts) = steps
inner_steps parts = []
