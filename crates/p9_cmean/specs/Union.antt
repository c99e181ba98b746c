-- The union of modules: its static objects, one for all definitions that agree, and its functions.
use Rattle.std.specs.Prelude.{ℕ, suc, ◌+◌, ◌*◌, Bool, true, false, not, ◌&&◌, ◌||◌, ◌==◌, if◌then◌else◌, List, [], ◌∷◌, ◌++◌, map, flat_map, sum, Option, Some, None}
use Rattle.std.specs.List.{list_any}
use Rattle.p9_lang.specs.declared.tree.Kind.{Kind}
use Rattle.p9_lang.specs.declared.tree.Kind.TheVariants as kind
use Rattle.p9_lang.specs.Names.{same_name}
use Rattle.p9_lang.specs.Types.{TypeTree, Function, Tags, row_types}
use Rattle.p9_lang.specs.Trees.{node, none, more}
use Rattle.p9_lang.specs.Layout.{size_of, rounded}
use Rattle.p9_lang.specs.Modules.{Typed, TypedRow, Source}
use Rattle.p9_lang.specs.Symbols.{Symbol, SymbolKind, DeclaredOnly, Used, Code, Data, Common, symbols}
use Rattle.p9_cmean.specs.Cells.{FunctionName, Global, Local}
use Rattle.p9_cmean.specs.Access.{same_function}
use Rattle.p9_cmean.specs.Declarations.{Automatic, declared_by, Definition, definition_of}

-- a symbol of the module with this number, over the module's structures
pub record Entry : Type 0 where
  pub owner : ℕ
  pub tags : Tags
  pub symbol : Symbol

abbrev pub entries_of : (owner : ℕ) → Tags → List Symbol → List Entry
entries_of owner tags [] = []
entries_of owner tags (symbol ∷ others) = record { owner = owner; tags = tags; symbol = symbol } ∷ entries_of owner tags others

-- the symbols of all modules, from the module with this number on
abbrev pub entries_from : ℕ → List Source → List Entry
entries_from i [] = []
entries_from i (m ∷ ms) = entries_of i m.tags (symbols m) ++ entries_from (suc i) ms

-- OBJECTS

abbrev pub is_data : SymbolKind → Bool
is_data DeclaredOnly = false
is_data Used = false
is_data (Code item) = false
is_data (Data first) = true
is_data Common = false

abbrev pub is_common : SymbolKind → Bool
is_common DeclaredOnly = false
is_common Used = false
is_common (Code item) = false
is_common (Data first) = false
is_common Common = true

-- the name is a symbol of one module alone, or one that modules share
abbrev pub is_local_of : (owner : ℕ) → (name : List ℕ) → Entry → Bool
is_local_of owner name entry = entry.symbol.is_local && (entry.owner == owner && same_name name entry.symbol.name)

abbrev pub is_shared_of : (name : List ℕ) → Entry → Bool
is_shared_of name entry = not entry.symbol.is_local && same_name name entry.symbol.name

abbrev pub is_shared_data : List ℕ → Entry → Bool
is_shared_data name entry = is_shared_of name entry && is_data entry.symbol.kind

abbrev pub is_shared_common : List ℕ → Entry → Bool
is_shared_common name entry = is_shared_of name entry && is_common entry.symbol.kind

-- Data makes an object. Common makes one if it is local; else only if it is the first of its name,
-- and no module gives the name data.
abbrev pub makes_object : (all before : List Entry) → Entry → Bool
makes_object all before entry =
    is_data entry.symbol.kind
    || (is_common entry.symbol.kind
    && (entry.symbol.is_local
    || not (list_any (is_shared_data entry.symbol.name) all || list_any (is_shared_common entry.symbol.name) before)))

-- the symbols that make the static objects, in the order of modules and symbols
abbrev pub makers : (all before next : List Entry) → List Entry
makers all before [] = []
makers all before (entry ∷ next) =
    if makes_object all before entry then entry ∷ makers all (entry ∷ before) next
    else makers all (entry ∷ before) next

-- FUNCTIONS

-- Room: 64 for the start, for a system call and for each function, which needs besides 8 for each of
-- its nodes, a call counted twice, and the bytes of its parameters and automatics, each rounded up
-- to 4.

abbrev pub base_need : ℕ
base_need = 64

abbrev pub weight_of : Kind → ℕ
weight_of kind.Call = 2
weight_of k = 1

abbrev mutual
  pub weighed_nodes : Typed → ℕ
  weighed_nodes (node k label parts) = weighed_row parts + weight_of k

  pub weighed_row : TypedRow → ℕ
  weighed_row none = 0
  weighed_row (more first others) = weighed_nodes first + weighed_row others

abbrev pub automatic_types : List Automatic → List TypeTree
automatic_types automatics = map (λ a. a.name.type) automatics

abbrev mutual
  pub types_within : Typed → List TypeTree
  types_within (node k label parts) = automatic_types (declared_by (node k label parts)) ++ types_within_row parts

  pub types_within_row : TypedRow → List TypeTree
  types_within_row none = []
  types_within_row (more first others) = types_within first ++ types_within_row others

abbrev pub object_bytes : Tags → List TypeTree → ℕ
object_bytes tags types = sum (map (λ type. rounded (size_of tags type) 4) types)

abbrev pub parameter_types : TypeTree → List TypeTree
parameter_types (Function result parameters) = row_types parameters
parameter_types type = []

abbrev pub need_of : Tags → (item : Typed) → Definition → ℕ
need_of tags item definition =
    base_need + 8 * weighed_nodes item
    + object_bytes tags (parameter_types definition.name.type ++ types_within definition.block)

-- a function with its body, in the module with this number
pub record FunctionEntry : Type 0 where
  pub function : FunctionName
  pub owner : ℕ
  pub tags : Tags
  pub definition : Definition
  pub need : ℕ

abbrev pub name_of : Entry → FunctionName
name_of entry = if entry.symbol.is_local then Local entry.owner entry.symbol.name else Global entry.symbol.name

abbrev pub function_entry : Entry → (item : Typed) → Option Definition → List FunctionEntry
function_entry entry item None = []
function_entry entry item (Some definition) =
    record {
      function = name_of entry;
      owner = entry.owner;
      tags = entry.tags;
      definition = definition;
      need = need_of entry.tags item definition;
    }
    ∷ []

abbrev pub functions_in : Entry → List FunctionEntry
functions_in entry = by entry.symbol.kind
  where
    by : SymbolKind → List FunctionEntry
    by DeclaredOnly = []
    by Used = []
    by (Code item) = function_entry entry item (definition_of item)
    by (Data first) = []
    by Common = []

-- THE UNION: what makes its objects, which have the places in this list as their numbers, and its
-- functions

pub record Union : Type 0 where
  pub modules : List Source
  pub objects : List Entry
  pub functions : List FunctionEntry

abbrev pub union_from : List Source → List Entry → Union
union_from modules entries = record {
  modules = modules;
  objects = makers entries [] entries;
  functions = flat_map functions_in entries;
}

abbrev pub union_of : List Source → Union
union_of modules = union_from modules (entries_from 0 modules)

-- WHAT NAMES STAND FOR: in a module that has a local symbol of a name, the name is that symbol's

-- the place in a list of the first that passes, counted from this number
abbrev pub number_from : {A : Type 0} → ℕ → (A → Bool) → List A → Option ℕ
number_from i passes [] = None
number_from i passes (x ∷ xs) = if passes x then Some i else number_from (suc i) passes xs

abbrev pub first_some : {A : Type 0} → Option A → Option A → Option A
first_some (Some x) other = Some x
first_some None other = other

abbrev pub object_number : Union → (owner : ℕ) → (name : List ℕ) → Option ℕ
object_number union owner name =
    first_some (number_from 0 (is_local_of owner name) union.objects) (number_from 0 (is_shared_of name) union.objects)

-- a text or block static, by its number in the file
abbrev pub has_number : ℕ → Option ℕ → Bool
has_number number None = false
has_number number (Some n) = n == number

abbrev pub is_static_of : (owner number : ℕ) → Entry → Bool
is_static_of owner number entry = (entry.owner == owner) && has_number number entry.symbol.static

abbrev pub static_number : Union → (owner number : ℕ) → Option ℕ
static_number union owner number = number_from 0 (is_static_of owner number) union.objects

abbrev pub is_function : FunctionName → FunctionEntry → Bool
is_function function entry = same_function function entry.function

abbrev pub found_function : FunctionName → List FunctionEntry → Option FunctionEntry
found_function function [] = None
found_function function (entry ∷ others) = if is_function function entry then Some entry else found_function function others

abbrev pub is_local_function : Union → (owner : ℕ) → (name : List ℕ) → Bool
is_local_function union owner name = list_any (is_function (Local owner name)) union.functions

abbrev pub function_named : Union → (owner : ℕ) → (name : List ℕ) → FunctionName
function_named union owner name = if is_local_function union owner name then Local owner name else Global name
