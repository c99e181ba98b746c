-- The union of modules: its static objects, one for all definitions that agree, and its functions.
use Rattle.std.specs.Prelude.{ℕ, suc, ◌+◌, ◌*◌, Bool, true, false, not, ◌&&◌, ◌||◌, ◌==◌, if◌then◌else◌, List, [], ◌∷◌, ◌++◌, map, replicate, Option, Some, None}
use Rattle.std.specs.List.{list_any}
use Rattle.p9_first.specs.declared.tree.Kind.{Kind}
use Rattle.p9_first.specs.declared.tree.Kind.TheVariants as kind
use Rattle.p9_first.specs.Types.{TypeTree}
use Rattle.p9_first.specs.Trees.{node, none, more, nodes_of}
use Rattle.p9_first.specs.Layout.{size_of}
use Rattle.p9_first.specs.Form.{same_name}
use Rattle.p9_first.specs.Modules.{Typed, TypedRow, Source, Symbol, SymbolKind, Code, Data, TextData, Common, symbols}
use Rattle.p9_first.specs.Cells.{FunctionName, Global, Local, Pointer, Null, Into, Cell, Byte, Object}
use Rattle.p9_first.specs.Access.{number_cells}

-- a symbol of the module with this number
pub record Entry : Type 0 where
  pub owner : ℕ
  pub symbol : Symbol

-- the symbols of all modules, from the module with this number on
abbrev pub entries_from : ℕ → List Source → List Entry
entries_from i [] = []
entries_from i (m ∷ ms) = map (λ s. record { owner = i; symbol = s }) (symbols m) ++ entries_from (suc i) ms

abbrev pub entries : List Source → List Entry
entries modules = entries_from 0 modules

-- Objects

abbrev pub is_shared_data : List ℕ → Entry → Bool
is_shared_data name entry = not entry.symbol.is_local && (same_name name entry.symbol.name && is_data entry.symbol.kind)
  where
    is_data : SymbolKind → Bool
    is_data (Data value) = true
    is_data _ = false

abbrev pub is_shared_common : List ℕ → Entry → Bool
is_shared_common name entry = not entry.symbol.is_local && (same_name name entry.symbol.name && is_common entry.symbol.kind)
  where
    is_common : SymbolKind → Bool
    is_common Common = true
    is_common _ = false

-- Data makes an object. Data without a first value makes one if it is local; else only if it is
-- the first of its name, and no module gives the name a first value.
abbrev pub makes_object : (all before : List Entry) → Entry → Bool
makes_object all before entry = by entry.symbol.kind
  where
    by : SymbolKind → Bool
    by (Data value) = true
    by (TextData number bytes) = true
    by Common =
        entry.symbol.is_local
        || not (list_any (is_shared_data entry.symbol.name) all || list_any (is_shared_common entry.symbol.name) before)
    by _ = false

abbrev pub makers : (all before next : List Entry) → List Entry
makers all before [] = []
makers all before (entry ∷ next) =
    if makes_object all before entry then entry ∷ makers all (entry ∷ before) next
    else makers all (entry ∷ before) next

-- the symbols that make the static objects, in the order of modules and symbols; the objects have
-- the places in this list as their numbers
abbrev pub object_makers : List Source → List Entry
object_makers modules = makers (entries modules) [] (entries modules)

-- the cells of a first value, as an object of a type
abbrev pub value_cells : TypeTree → Typed → List Cell
value_cells type (node (kind.Number value unsigned long) label none) = number_cells (size_of type) value
value_cells type _ = replicate (size_of type) (Byte 0)

-- an object begins with its first value, a text with its characters and a zero byte, and any other
-- with zeros
abbrev pub first_cells : Symbol → List Cell
first_cells symbol = by symbol.kind
  where
    by : SymbolKind → List Cell
    by (Data value) = value_cells symbol.type value
    by (TextData number bytes) = map Byte bytes ++ Byte 0 ∷ []
    by _ = replicate (size_of symbol.type) (Byte 0)

abbrev pub first_objects : List Source → List Object
first_objects modules = map (λ entry. record { cells = first_cells entry.symbol; alive = true }) (object_makers modules)

-- What names stand for

-- the place in a list of the first that passes, counted from this number
abbrev pub number_from : {A : Type 0} → ℕ → (A → Bool) → List A → Option ℕ
number_from i passes [] = None
number_from i passes (x ∷ xs) = if passes x then Some i else number_from (suc i) passes xs

abbrev pub is_local_of : (owner : ℕ) → (name : List ℕ) → Entry → Bool
is_local_of owner name entry = entry.symbol.is_local && (entry.owner == owner && same_name name entry.symbol.name)

abbrev pub is_shared_of : (name : List ℕ) → Entry → Bool
is_shared_of name entry = not entry.symbol.is_local && same_name name entry.symbol.name

-- in a module that has a local symbol of a name, the name is that symbol's
abbrev pub has_local : List Source → (owner : ℕ) → (name : List ℕ) → Bool
has_local modules owner name = list_any (is_local_of owner name) (entries modules)

abbrev pub object_number : List Source → (owner : ℕ) → (name : List ℕ) → Option ℕ
object_number modules owner name =
    if has_local modules owner name then number_from 0 (is_local_of owner name) (object_makers modules)
    else number_from 0 (is_shared_of name) (object_makers modules)

abbrev pub start_of : Option ℕ → Pointer
start_of None = Null
start_of (Some object) = Into object 0

abbrev pub object_pointer : List Source → (owner : ℕ) → (name : List ℕ) → Pointer
object_pointer modules owner name = start_of (object_number modules owner name)

abbrev pub function_named : List Source → (owner : ℕ) → (name : List ℕ) → FunctionName
function_named modules owner name = if has_local modules owner name then Local owner name else Global name

-- the text with this number in a module
abbrev pub is_text_of : (owner number : ℕ) → Entry → Bool
is_text_of owner number entry = (entry.owner == owner) && by entry.symbol.kind
  where
    by : SymbolKind → Bool
    by (TextData k bytes) = k == number
    by _ = false

abbrev pub text_pointer : List Source → (owner number : ℕ) → Pointer
text_pointer modules owner number = start_of (number_from 0 (is_text_of owner number) (object_makers modules))

-- Functions

-- the item of a function, with its module's number
pub record Defined : Type 0 where
  pub owner : ℕ
  pub item : Typed

abbrev pub code_of : Entry → Option Defined
code_of entry = by entry.symbol.kind
  where
    by : SymbolKind → Option Defined
    by (Code item) = Some (record { owner = entry.owner; item = item })
    by _ = None

abbrev pub first_code : (Entry → Bool) → List Entry → Option Defined
first_code passes [] = None
first_code passes (entry ∷ others) = if passes entry then or_else (code_of entry) (first_code passes others) else first_code passes others
  where
    or_else : Option Defined → Option Defined → Option Defined
    or_else (Some code) next = Some code
    or_else None next = next

abbrev pub definition : List Source → FunctionName → Option Defined
definition modules (Global name) = first_code (is_shared_of name) (entries modules)
definition modules (Local owner name) = first_code (is_local_of owner name) (entries modules)

-- Room: 64 for the start, for a system call and for each function, which needs besides 8 for each
-- of its nodes, a call counted twice, and the bytes of its objects. A function of the form has no
-- objects.

abbrev pub call_at : Kind → ℕ
call_at kind.Call = 1
call_at _ = 0

abbrev mutual
  pub calls_in : Typed → ℕ
  calls_in (node k label parts) = calls_in_row parts + call_at k

  pub calls_in_row : TypedRow → ℕ
  calls_in_row none = 0
  calls_in_row (more first others) = calls_in first + calls_in_row others

abbrev pub weighed_nodes : Typed → ℕ
weighed_nodes item = nodes_of item + calls_in item

abbrev pub base_need : ℕ
base_need = 64

abbrev pub need_of : Option Defined → ℕ
need_of None = base_need
need_of (Some code) = base_need + 8 * weighed_nodes code.item
