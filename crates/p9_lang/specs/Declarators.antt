-- Declarators: the types that their steps make of the spec's, from the outside in, and what may be
-- declared.
use Rattle.std.specs.Prelude.{ℕ, zero, suc, Bool, true, false, not, ◌&&◌, ◌||◌, if◌then◌else◌, List, [], ◌∷◌, ◌++◌, slice_set, reverse, Option, Some, None, Result, Ok, Err}
use Rattle.std.specs.List.{list_all}
use Rattle.p9_lang.specs.declared.tree.SpecWord.{SpecWord}
use Rattle.p9_lang.specs.declared.tree.SpecWord.TheVariants as word
use Rattle.p9_lang.specs.Types.{TypeTree, Void, Char, UChar, Short, UShort, Int, UInt, Long, ULong, Pointer, Array, Function, TypeRow, Meant, Outer, TypeName, Tags}
use Rattle.p9_lang.specs.Layout.{is_complete, is_within_limit}
use Rattle.p9_lang.specs.Conversions.{is_function, is_array, is_structure, is_character, same_type}
use Rattle.p9_lang.specs.Constants.{Constant, NotConstant, Undefined, Value, Null}
use Rattle.p9_lang.specs.Rules.{Rule, Incomplete, Redeclared, BadOperands, BadConstant, Misplaced, Broken, at_node, breaks_if, unless_rules, and_then}
use Rattle.p9_lang.specs.Scopes.{Declared}

-- SPECS

-- the type that a spec names: by words, by a typedef's name, by a structure or union with the count
-- of its members where it has braces, or by an enumeration with that of its constants
pub data Head : Type 0 where
  Words : (type : TypeTree) → Head
  Named : (name : List ℕ) → Head
  Structure : (is_union : Bool) (name : List ℕ) (members : Option ℕ) → Head
  Enumeration : (name : List ℕ) (constants : Option ℕ) → Head

-- what the words say so far
pub record Said : Type 0 where
  pub is_void : Bool
  pub is_char : Bool
  pub is_short : Bool
  pub is_long : Bool
  pub is_unsigned : Bool

abbrev pub nothing_said : Said
nothing_said = record { is_void = false; is_char = false; is_short = false; is_long = false; is_unsigned = false }

abbrev pub signed_or_not : (is_unsigned : Bool) → (signed unsigned : TypeTree) → TypeTree
signed_or_not true signed unsigned = unsigned
signed_or_not false signed unsigned = signed

-- int where nothing else is said
abbrev pub said_type : Said → TypeTree
said_type said =
    if said.is_void then Void
    else (if said.is_char then signed_or_not said.is_unsigned Char UChar
    else (if said.is_short then signed_or_not said.is_unsigned Short UShort
    else (if said.is_long then signed_or_not said.is_unsigned Long ULong
    else signed_or_not said.is_unsigned Int UInt)))

abbrev pub head_from : Said → List SpecWord → Head
head_from said [] = Words (said_type said)
head_from said (word.TypeName x ∷ words) = Named x
head_from said (word.Tag is_union name members ∷ words) = Structure is_union name members
head_from said (word.Enum name constants comma ∷ words) = Enumeration name constants
head_from said (word.Void ∷ words) = head_from (record said { is_void = true }) words
head_from said (word.Char ∷ words) = head_from (record said { is_char = true }) words
head_from said (word.Short ∷ words) = head_from (record said { is_short = true }) words
head_from said (word.Long ∷ words) = head_from (record said { is_long = true }) words
head_from said (word.Unsigned ∷ words) = head_from (record said { is_unsigned = true }) words
head_from said (word.Int ∷ words) = head_from said words
head_from said (word.Signed ∷ words) = head_from said words
head_from said (word.Extern ∷ words) = head_from said words
head_from said (word.Static ∷ words) = head_from said words
head_from said (word.Typedef ∷ words) = head_from said words
head_from said (word.Auto ∷ words) = head_from said words
head_from said (word.Register ∷ words) = head_from said words
head_from said (word.Const ∷ words) = head_from said words
head_from said (word.Volatile ∷ words) = head_from said words

abbrev pub head_of : List SpecWord → Head
head_of words = head_from nothing_said words

-- the storage class of linkage; auto and register change nothing
pub data Storage : Type 0 where
  NoClass : Storage
  ExternClass : Storage
  StaticClass : Storage
  TypedefClass : Storage

abbrev pub storage_of : List SpecWord → Storage
storage_of [] = NoClass
storage_of (word.Extern ∷ words) = ExternClass
storage_of (word.Static ∷ words) = StaticClass
storage_of (word.Typedef ∷ words) = TypedefClass
storage_of (other ∷ words) = storage_of words

abbrev pub is_typedef : Storage → Bool
is_typedef NoClass = false
is_typedef ExternClass = false
is_typedef StaticClass = false
is_typedef TypedefClass = true

abbrev pub is_static : Storage → Bool
is_static NoClass = false
is_static ExternClass = false
is_static StaticClass = true
is_static TypedefClass = false

abbrev pub is_extern : Storage → Bool
is_extern NoClass = false
is_extern ExternClass = true
is_extern StaticClass = false
is_extern TypedefClass = false

-- STEPS

-- a step of a declarator: its name, parentheses, `*`, brackets with a length or without, a
-- parameter list with the types of its parameters and the names that it declares
pub data Shape : Type 0 where
  Names : (name : List ℕ) → Shape
  Keeps : Shape
  Points : Shape
  Sized : (length : Constant) → Shape
  Unsized : Shape
  Takes : (parameters : TypeRow) (level : List Declared) → Shape

-- with its node's number
pub record Step : Type 0 where
  pub number : ℕ
  pub shape : Shape

abbrev pub makes_no_type : Step → Bool
makes_no_type step = by step.shape
  where
    by : Shape → Bool
    by (Names name) = true
    by Keeps = true
    by Points = false
    by (Sized length) = false
    by Unsized = false
    by (Takes parameters level) = false

-- what gives a length to brackets without one: nothing; the braces of an initialiser; a text, for
-- an array of characters; or the caller, for a parameter
pub data LengthBy : Type 0 where
  ByNothing : LengthBy
  ByBraces : LengthBy
  ByText : LengthBy
  ByCaller : LengthBy

abbrev pub gives_length : LengthBy → (element : TypeTree) → Bool
gives_length ByNothing element = false
gives_length ByBraces element = true
gives_length ByText element = is_character element
gives_length ByCaller element = true

-- an array of this length, which is a constant from 1, whose size is within the limit
abbrev pub array_rules : Tags → (element : TypeTree) → Constant → List Rule
array_rules tags element NotConstant = BadConstant ∷ []
array_rules tags element Undefined = BadConstant ∷ []
array_rules tags element Null = BadConstant ∷ []
array_rules tags element (Value zero) = BadConstant ∷ []
array_rules tags element (Value (suc n)) = breaks_if (not (is_within_limit tags (Array element (suc n)))) BadConstant

abbrev pub word_of : Constant → ℕ
word_of NotConstant = 0
word_of Undefined = 0
word_of Null = 0
word_of (Value word) = word

-- a step's type from that of the steps outside it; `is_outermost` says that the type's outermost
-- part is made here
abbrev pub shaped : Tags → LengthBy → (is_outermost : Bool) → Shape → TypeTree → Result TypeTree Rule
shaped tags by is_outermost (Names name) type = Ok type
shaped tags by is_outermost Keeps type = Ok type
shaped tags by is_outermost Points type = Ok (Pointer type)
shaped tags by is_outermost (Sized length) type =
    unless_rules (breaks_if (not (is_complete tags type)) Incomplete ++ array_rules tags type length) (Array type (word_of length))
shaped tags by is_outermost Unsized type =
    unless_rules
    (breaks_if (not (is_complete tags type)) Incomplete ++ breaks_if (not (is_outermost && gives_length by type)) BadConstant)
    (Array type 0)
shaped tags by is_outermost (Takes parameters level) type =
    unless_rules
    (breaks_if (is_array type || (is_function type || is_structure type)) BadOperands)
    (Function type parameters)

abbrev pub broken_at : {A : Type 0} → ℕ → Result A Rule → Result A Broken
broken_at number (Ok x) = Ok x
broken_at number (Err rule) = Err (at_node number rule)

-- the steps with the outermost first: the type of the whole, and of each step's node
abbrev pub closed_from : Tags → LengthBy → TypeTree → List Step → List TypeTree → Result (TypeTree × List TypeTree) Broken
closed_from tags by type [] types = Ok (type, types)
closed_from tags by type (step ∷ steps) types =
    and_then (broken_at step.number (shaped tags by (list_all makes_no_type steps) step.shape type))
    (λ made. closed_from tags by made steps (slice_set types step.number made))

-- with the innermost first
abbrev pub closed : Tags → LengthBy → TypeTree → List Step → List TypeTree → Result (TypeTree × List TypeTree) Broken
closed tags by type steps types = closed_from tags by type (reverse steps) types

-- a declarator without a length, once the initialiser has given it
abbrev pub with_length : ℕ → Step → Step
with_length n step = by step.shape
  where
    by : Shape → Step
    by (Names name) = step
    by Keeps = step
    by Points = step
    by (Sized length) = step
    by Unsized = record step { shape = Sized (Value n) }
    by (Takes parameters level) = step

-- the name's node, which is the first step
pub record NameNode : Type 0 where
  pub name : List ℕ
  pub number : ℕ

abbrev pub name_of : List Step → Option NameNode
name_of [] = None
name_of (step ∷ steps) = by step.shape
  where
    by : Shape → Option NameNode
    by (Names name) = Some (record { name = name; number = step.number })
    by Keeps = None
    by Points = None
    by (Sized length) = None
    by Unsized = None
    by (Takes parameters level) = None

-- the parameter list next to the name, which is that of the function that is declared
abbrev pub own_list : List Step → Option (List Declared)
own_list [] = None
own_list (step ∷ steps) = by step.shape (own_list steps)
  where
    by : Shape → Option (List Declared) → Option (List Declared)
    by (Names name) further = further
    by Keeps further = further
    by Points further = None
    by (Sized length) further = None
    by Unsized further = None
    by (Takes parameters level) further = Some level

abbrev pub unsized_node : List Step → (otherwise : ℕ) → ℕ
unsized_node [] otherwise = otherwise
unsized_node (step ∷ steps) otherwise = by step.shape (unsized_node steps otherwise)
  where
    by : Shape → ℕ → ℕ
    by (Names name) further = further
    by Keeps further = further
    by Points further = further
    by (Sized length) further = further
    by Unsized further = step.number
    by (Takes parameters level) further = further

-- a parameter of array or function type becomes a pointer
abbrev pub adjusted : TypeTree → TypeTree
adjusted (Array element n) = Pointer element
adjusted (Function result parameters) = Pointer (Function result parameters)
adjusted type = type

-- WHAT MAY BE DECLARED

-- what a name is declared as
pub record Declaring : Type 0 where
  pub storage : Storage
  pub is_at_file : Bool
  pub has_initialiser : Bool
  pub has_body : Bool

abbrev pub is_filled : Declaring → Bool
is_filled d = d.has_initialiser || d.has_body

-- a member has a complete type within the limit
abbrev pub sized_rules : Tags → TypeTree → List Rule
sized_rules tags type =
    breaks_if (not (is_complete tags type)) Incomplete ++ breaks_if (not (is_within_limit tags type)) BadConstant

-- an object too; its length may still be given
abbrev pub object_rules : Tags → TypeTree → List Rule
object_rules tags (Array element zero) = []
object_rules tags type = sized_rules tags type

abbrev pub function_rules : Declaring → List Rule
function_rules d = breaks_if d.has_initialiser BadOperands ++ breaks_if (not d.is_at_file) Misplaced

abbrev pub is_type_name : Meant → Bool
is_type_name (TypeName type) = true
is_type_name means = false

abbrev pub is_outer : Meant → Bool
is_outer (Outer name) = true
is_outer means = false

abbrev pub same_flags : Bool → Bool → Bool
same_flags true b = b
same_flags false b = not b

-- equal types, where the length of an array may still be given
abbrev pub same_so_far : (old new : TypeTree) → Bool
same_so_far (Array t m) (Array u zero) = same_type t u
same_so_far old new = same_type old new

-- A name is declared again at file scope alone, with an equal type and storage class and at most
-- one body or initialiser; a type's name in any scope, with an equal type. Where the type isn't
-- known, since a step of the declarator breaks a rule, it isn't asked for.
abbrev pub has_equal_type : Declared → Option TypeTree → Bool
has_equal_type old None = true
has_equal_type old (Some type) = same_so_far old.type type

abbrev pub may_repeat : Declaring → Declared → Option TypeTree → Bool
may_repeat d old type =
    has_equal_type old type
    && (if is_typedef d.storage then is_type_name old.means
    else (d.is_at_file && is_outer old.means)
    && (same_flags old.is_static (is_static d.storage) && not (old.is_filled && is_filled d)))

abbrev pub repeat_rules : Declaring → List ℕ → Option Declared → Option TypeTree → List Rule
repeat_rules d x None type = []
repeat_rules d x (Some old) type = breaks_if (not (may_repeat d old type)) (Redeclared x)

abbrev pub type_rules : Tags → Declaring → Option TypeTree → List Rule
type_rules tags d None = []
type_rules tags d (Some type) =
    if is_typedef d.storage then []
    else (if is_function type then function_rules d else object_rules tags type)

-- the rules that a declared name breaks, at the last node of its declarator
abbrev pub naming_rules : Tags → Declaring → List ℕ → Option Declared → Option TypeTree → List Rule
naming_rules tags d x old type =
    repeat_rules d x old type
    ++ (breaks_if (is_typedef d.storage && d.has_initialiser) BadOperands ++ type_rules tags d type)
