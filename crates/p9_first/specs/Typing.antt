-- The type of each node, and what it stands for. Nodes outside the form of Form.antt have no
-- clauses yet; in a file of the form no rule is broken.
use Rattle.std.specs.Prelude.{ℕ, ◌+◌, Bool, true, false, ◌||◌, nat_le, if◌then◌else◌, List, [], ◌∷◌, ◌++◌, length, sum, map, None, codes}
use Rattle.std.specs.List.{list_any}
use Rattle.p9_first.specs.declared.tree.CBinary.TheVariants as operator
use Rattle.p9_first.specs.declared.tree.SpecWord.TheVariants as word
use Rattle.p9_first.specs.declared.tree.SpecWord.{SpecWord}
use Rattle.p9_first.specs.declared.tree.Kind.{Kind}
use Rattle.p9_first.specs.declared.tree.Kind.TheVariants as kind
use Rattle.p9_first.specs.Types.{TypeTree, Void, Char, UChar, Short, UShort, Int, UInt, Long, ULong, Pointer, Array, Function, Tagged, TypeRow, Meant, Nothing, Outer, Static, Auto, EnumValue, TypeName}
use Rattle.p9_first.specs.Types as types
use Rattle.p9_first.specs.Trees.{Labelled, node, Row, none, more, Syntax, SyntaxRow}
use Rattle.p9_first.specs.Form.{same_name}

-- a node's type and what it stands for; or the number of the rule that it breaks; or neither is
-- known, since a part breaks a rule
pub data Judged : Type 0 where
  Has : (type : TypeTree) (means : Meant) → Judged
  Breaks : (rule : ℕ) → Judged
  Unknown : Judged

-- Names in scope, the newest first

pub record Declared : Type 0 where
  pub name : List ℕ
  pub type : TypeTree
  pub means : Meant

abbrev pub Scope : Type 0
Scope = List Declared

abbrev pub outer : List ℕ → TypeTree → Declared
outer name type = record { name = name; type = type; means = Outer name }

-- the system calls, which every file knows
abbrev pub exits_type : TypeTree
exits_type = Function Void (types.more (Pointer Char) types.none)

abbrev pub transfer_type : TypeTree
transfer_type = Function Long (types.more Int (types.more (Pointer Void) (types.more Long types.none)))

abbrev pub system_scope : Scope
system_scope =
    outer (codes "exits") exits_type ∷ outer (codes "read") transfer_type ∷ outer (codes "write") transfer_type ∷ []

-- a name that isn't declared breaks rule 15
abbrev pub named : Scope → List ℕ → Judged
named [] x = Breaks 15
named (d ∷ scope) x = if same_name x d.name then Has d.type d.means else named scope x

-- Types of heads and declarators

abbrev pub is_void : SpecWord → Bool
is_void word.Void = true
is_void _ = false

abbrev pub is_char : SpecWord → Bool
is_char word.Char = true
is_char _ = false

abbrev pub is_short : SpecWord → Bool
is_short word.Short = true
is_short _ = false

abbrev pub is_long : SpecWord → Bool
is_long word.Long = true
is_long _ = false

abbrev pub is_unsigned : SpecWord → Bool
is_unsigned word.Unsigned = true
is_unsigned _ = false

abbrev pub signed_or_not : List SpecWord → (signed unsigned : TypeTree) → TypeTree
signed_or_not words signed unsigned = if list_any is_unsigned words then unsigned else signed

-- the type that the words of a head name
abbrev pub head_type : List SpecWord → TypeTree
head_type words =
    if list_any is_void words then Void
    else (if list_any is_char words then signed_or_not words Char UChar
    else (if list_any is_short words then signed_or_not words Short UShort
    else (if list_any is_long words then signed_or_not words Long ULong
    else signed_or_not words Int UInt)))

-- the name that a declarator declares, and the type that it makes of its head's
abbrev pub declared_name : Syntax → List ℕ
declared_name (node (kind.DeclName x) at parts) = x
declared_name (node (kind.Params true true) at (more inner others)) = declared_name inner
declared_name _ = []

abbrev pub declared_type : TypeTree → Syntax → TypeTree
declared_type type (node (kind.Params true true) at (more inner others)) = declared_type (Function type types.none) inner
declared_type type _ = type

-- each step of a declarator has the type that is made so far, itself included; its name stands for
-- what is declared
abbrev pub judged_declarator : TypeTree → Meant → Syntax → List Judged
judged_declarator type means (node (kind.DeclName x) at none) = Has type means ∷ []
judged_declarator type means (node (kind.Params true true) at (more inner none)) =
    judged_declarator (Function type types.none) means inner ++ Has (Function type types.none) Nothing ∷ []
judged_declarator type means _ = Unknown ∷ []

-- Expressions, by the types of their parts

abbrev pub number_type : (value : ℕ) (unsigned long : Bool) → TypeTree
number_type value false false = if nat_le value 2147483647 then Int else UInt
number_type value true false = UInt
number_type value false true = if nat_le value 2147483647 then Long else ULong
number_type value true true = ULong

abbrev pub is_integer : TypeTree → Bool
is_integer Char = true
is_integer UChar = true
is_integer Short = true
is_integer UShort = true
is_integer Int = true
is_integer UInt = true
is_integer Long = true
is_integer ULong = true
is_integer _ = false

-- char and short operands become int
abbrev pub promoted : TypeTree → TypeTree
promoted UInt = UInt
promoted Long = Long
promoted ULong = ULong
promoted _ = Int

abbrev pub is_long_type : TypeTree → Bool
is_long_type Long = true
is_long_type ULong = true
is_long_type _ = false

abbrev pub is_unsigned_type : TypeTree → Bool
is_unsigned_type UInt = true
is_unsigned_type ULong = true
is_unsigned_type _ = false

abbrev pub integer_of : (unsigned long : Bool) → TypeTree
integer_of false false = Int
integer_of true false = UInt
integer_of false true = Long
integer_of true true = ULong

-- of two operands the result is unsigned if one is, and long if one is
abbrev pub common : TypeTree → TypeTree → TypeTree
common a b =
    integer_of (is_unsigned_type (promoted a) || is_unsigned_type (promoted b))
    (is_long_type (promoted a) || is_long_type (promoted b))

-- a sum of integers has their common type; other operands have no clause yet
abbrev pub sum_type : TypeTree → TypeTree → Judged
sum_type a b = if is_integer a then (if is_integer b then Has (common a b) Nothing else Breaks 18) else Breaks 18

-- what is called is a function, else rule 20
abbrev pub called_type : TypeTree → Judged
called_type (Function result parameters) = Has result Nothing
called_type _ = Breaks 20

-- a node by what its parts are judged to be; `statics` texts stand before it in the file
abbrev pub judge : Scope → (statics : ℕ) → Kind → List Judged → Judged
judge scope statics (kind.Name x) parts = named scope x
judge scope statics (kind.Number value unsigned long) parts = Has (number_type value unsigned long) Nothing
judge scope statics (kind.Text texts) parts = Has (Array Char (sum (map length texts) + 1)) (Static statics)
judge scope statics (kind.Binary operator.Add) (Has a x ∷ Has b y ∷ []) = sum_type a b
judge scope statics (kind.Assign None) (Has a x ∷ Has b y ∷ []) = Has a Nothing
judge scope statics kind.Call (Has f x ∷ arguments) = called_type f
judge scope statics _ parts = Unknown

-- how many texts there are in a tree
abbrev pub texts_at : Kind → ℕ
texts_at (kind.Text texts) = 1
texts_at _ = 0

abbrev mutual
  pub texts_in : {L : Type 0} → Labelled L → ℕ
  texts_in (node k label parts) = texts_in_row parts + texts_at k

  pub texts_in_row : {L : Type 0} → Row L → ℕ
  texts_in_row none = 0
  texts_in_row (more first others) = texts_in first + texts_in_row others

-- what an expression itself is judged to be
abbrev mutual
  pub judged : Scope → (statics : ℕ) → Syntax → Judged
  judged scope statics (node k at parts) = judge scope (statics + texts_in_row parts) k (judged_parts scope statics parts)

  pub judged_parts : Scope → (statics : ℕ) → SyntaxRow → List Judged
  judged_parts scope statics none = []
  judged_parts scope statics (more first others) =
      judged scope statics first ∷ judged_parts scope (statics + texts_in first) others

-- All nodes of a tree, in the order of their numbers: the parts of a node before the node.

abbrev mutual
  pub judged_nodes : Scope → (statics : ℕ) → Syntax → List Judged
  judged_nodes scope statics (node k at parts) =
      judged_rows scope statics parts ++ judged scope statics (node k at parts) ∷ []

  pub judged_rows : Scope → (statics : ℕ) → SyntaxRow → List Judged
  judged_rows scope statics none = []
  judged_rows scope statics (more first others) =
      judged_nodes scope statics first ++ judged_rows scope (statics + texts_in first) others

-- statements, blocks, declarations and functions have no type
abbrev pub typeless : Judged
typeless = Has Void Nothing

abbrev pub judged_statement : Scope → (statics : ℕ) → Syntax → List Judged
judged_statement scope statics (node kind.Expression at (more e none)) = judged_nodes scope statics e ++ typeless ∷ []
judged_statement scope statics _ = Unknown ∷ []

abbrev pub judged_statements : Scope → (statics : ℕ) → SyntaxRow → List Judged
judged_statements scope statics none = []
judged_statements scope statics (more first others) =
    judged_statement scope statics first ++ judged_statements scope (statics + texts_in first) others

abbrev pub judged_block : Scope → (statics : ℕ) → Syntax → List Judged
judged_block scope statics (node kind.Block at statements) = judged_statements scope statics statements ++ typeless ∷ []
judged_block scope statics _ = Unknown ∷ []

-- a name is in scope from the end of its declarator
abbrev pub declare : TypeTree → Syntax → Scope → Scope
declare type declarator scope = outer (declared_name declarator) (declared_type type declarator) ∷ scope

abbrev pub judged_file_declarator : TypeTree → Syntax → List Judged
judged_file_declarator type declarator = judged_declarator type (Outer (declared_name declarator)) declarator

abbrev pub judged_item : Scope → (statics : ℕ) → Syntax → List Judged
judged_item scope statics (node (kind.Declaration spec (false ∷ [])) at (more name none)) =
    judged_file_declarator (head_type spec.words) name ++ typeless ∷ []
judged_item scope statics (node (kind.Declaration spec (true ∷ [])) at (more name (more value none))) =
    judged_file_declarator (head_type spec.words) name
    ++ (judged_nodes (declare (head_type spec.words) name scope) statics value ++ typeless ∷ [])
judged_item scope statics (node (kind.Function spec) at (more name (more body none))) =
    judged_file_declarator (head_type spec.words) name
    ++ (judged_block (declare (head_type spec.words) name scope) statics body ++ typeless ∷ [])
judged_item scope statics _ = Unknown ∷ []

abbrev pub scope_after : Syntax → Scope → Scope
scope_after (node (kind.Declaration spec inits) at (more name others)) scope = declare (head_type spec.words) name scope
scope_after (node (kind.Function spec) at (more name others)) scope = declare (head_type spec.words) name scope
scope_after _ scope = scope

abbrev pub judged_items : Scope → (statics : ℕ) → SyntaxRow → List Judged
judged_items scope statics none = []
judged_items scope statics (more first others) =
    judged_item scope statics first ++ judged_items (scope_after first scope) (statics + texts_in first) others

abbrev pub judged_file : SyntaxRow → List Judged
judged_file items = judged_items system_scope 0 items
