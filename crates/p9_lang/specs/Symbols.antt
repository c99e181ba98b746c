-- The symbols of a module: the objects and functions of file scope, then the texts and the statics
-- of blocks.
use Rattle.std.specs.Prelude.{ℕ, Bool, true, false, not, ◌&&◌, ◌||◌, if◌then◌else◌, List, [], ◌∷◌, ◌++◌, filter, map, Option, Some, None, Result, Ok, Err, codes, decimal}
use Rattle.p9_lang.specs.declared.tree.Kind.{Kind}
use Rattle.p9_lang.specs.declared.tree.Kind.TheVariants as kind
use Rattle.p9_lang.specs.Names.{same_name, is_among}
use Rattle.p9_lang.specs.Trees.{node, none, more}
use Rattle.p9_lang.specs.Types.{TypeTree, Void, Tags, Meant, Nothing, Outer, Static, Auto, EnumValue, TypeName}
use Rattle.p9_lang.specs.Conversions.{is_function}
use Rattle.p9_lang.specs.Declarators.{storage_of, is_extern}
use Rattle.p9_lang.specs.Parts.{is_declarator}
use Rattle.p9_lang.specs.Scopes.{system_names, system_type}
use Rattle.p9_lang.specs.Initialisers.{Write, Bytes, text_bytes, BrokenItem, first_writes}
use Rattle.p9_lang.specs.Modules.{Label, Typed, TypedRow, Source}

-- WHAT DECLARATORS DECLARE

abbrev pub kind_of_node : Typed → Kind
kind_of_node (node k label parts) = k

-- the label of a declarator's name
abbrev mutual
  pub name_label : Typed → Option Label
  name_label (node (kind.DeclName x) label parts) = Some label
  name_label (node k label parts) = first_label parts

  pub first_label : TypedRow → Option Label
  first_label none = None
  first_label (more t ts) = name_label t

-- the initialiser of a declarator, which stands directly behind it
abbrev pub initialiser : TypedRow → Option Typed
initialiser none = None
initialiser (more t ts) = if is_declarator (kind_of_node t) then None else Some t

-- FILE SCOPE

-- a name alone, an object without an initialiser and without `extern`, an initialiser, or the item
-- of a function with a body
pub data Way : Type 0 where
  Only : Way
  Tentative : Way
  Initial : (value : Typed) → Way
  Body : (item : Typed) → Way

pub record Declaration : Type 0 where
  pub name : List ℕ
  pub type : TypeTree
  pub way : Way

abbrev pub declares : Way → Option Label → List Declaration
declares way None = []
declares way (Some label) = by label.means
  where
    by : Meant → List Declaration
    by (Outer name) = record { name = name; type = label.type; way = way } ∷ []
    by Nothing = []
    by (Static number) = []
    by (Auto number) = []
    by (EnumValue value) = []
    by (TypeName type) = []

abbrev pub label_type : Option Label → TypeTree
label_type None = Void
label_type (Some label) = label.type

-- a function without a body is only declared, whether `extern` is written or not
abbrev pub way_of : (extern : Bool) → TypeTree → Option Typed → Way
way_of extern type (Some value) = Initial value
way_of extern type None = if extern || is_function type then Only else Tentative

abbrev pub declared_by : (extern : Bool) → TypedRow → List Declaration
declared_by extern none = []
declared_by extern (more t ts) =
    (if is_declarator (kind_of_node t)
    then declares (way_of extern (label_type (name_label t)) (initialiser ts)) (name_label t)
    else [])
    ++ declared_by extern ts

abbrev pub declared_body : Typed → TypedRow → List Declaration
declared_body item none = []
declared_body item (more t ts) =
    if is_declarator (kind_of_node t) then declares (Body item) (name_label t) else declared_body item ts

abbrev pub declarations_in : Typed → List Declaration
declarations_in (node (kind.Declaration spec inits) label parts) = declared_by (is_extern (storage_of spec.words)) parts
declarations_in (node (kind.Function spec) label parts) = declared_body (node (kind.Function spec) label parts) parts
declarations_in (node k label parts) = []

abbrev pub declarations : TypedRow → List Declaration
declarations none = []
declarations (more item items) = declarations_in item ++ declarations items

abbrev pub declarations_of : List ℕ → List Declaration → List Declaration
declarations_of x ds = filter (λ d. same_name x d.name) ds

-- the names of file scope that occur in expressions, in the order of nodes
abbrev pub use_at : Kind → Meant → List (List ℕ)
use_at (kind.Name x) (Outer name) = name ∷ []
use_at k means = []

abbrev mutual
  pub uses_in : Typed → List (List ℕ)
  uses_in (node k label parts) = uses_in_row parts ++ use_at k label.means

  pub uses_in_row : TypedRow → List (List ℕ)
  uses_in_row none = []
  uses_in_row (more first others) = uses_in first ++ uses_in_row others

-- TEXTS AND BLOCK STATICS, in the order of the nodes of texts and of names

pub record LocalObject : Type 0 where
  pub number : ℕ
  pub type : TypeTree
  pub first : Option (Result (List Write) BrokenItem)

abbrev pub text_at : Kind → Label → List LocalObject
text_at (kind.Text texts) label = by label.means
  where
    by : Meant → List LocalObject
    by (Static number) =
        record {
          number = number;
          type = label.type;
          first = Some (Ok (record { offset = 0; type = label.type; content = Bytes (text_bytes texts ++ 0 ∷ []) } ∷ []));
        }
        ∷ []
    by Nothing = []
    by (Outer name) = []
    by (Auto number) = []
    by (EnumValue value) = []
    by (TypeName type) = []
text_at k label = []

abbrev pub writes_of : Tags → TypeTree → Option Typed → Option (Result (List Write) BrokenItem)
writes_of tags type None = None
writes_of tags type (Some value) = Some (first_writes tags type value)

abbrev pub static_at : Tags → Option Typed → Option Label → List LocalObject
static_at tags value None = []
static_at tags value (Some label) = by label.means
  where
    by : Meant → List LocalObject
    by (Static number) = record { number = number; type = label.type; first = writes_of tags label.type value } ∷ []
    by Nothing = []
    by (Outer name) = []
    by (Auto number) = []
    by (EnumValue value) = []
    by (TypeName type) = []

abbrev pub is_declaration : Kind → Bool
is_declaration (kind.Declaration spec inits) = true
is_declaration k = false

abbrev mutual
  pub local_objects : Tags → Typed → List LocalObject
  local_objects tags (node k label parts) = local_objects_in tags (is_declaration k) parts ++ text_at k label

  pub local_objects_in : Tags → (are_declared : Bool) → TypedRow → List LocalObject
  local_objects_in tags are_declared none = []
  local_objects_in tags are_declared (more t ts) =
      (if are_declared && is_declarator (kind_of_node t) then static_at tags (initialiser ts) (name_label t) else [])
      ++ (local_objects tags t ++ local_objects_in tags are_declared ts)

-- SYMBOLS

-- declared only, used, code, data with what is written first into it, or the first item of its
-- initialiser that breaks a rule, or data that begins as zeros
pub data SymbolKind : Type 0 where
  DeclaredOnly : SymbolKind
  Used : SymbolKind
  Code : (item : Typed) → SymbolKind
  Data : (first : Result (List Write) BrokenItem) → SymbolKind
  Common : SymbolKind

-- the number is that of a text or block static
pub record Symbol : Type 0 where
  pub name : List ℕ
  pub static : Option ℕ
  pub is_local : Bool
  pub type : TypeTree
  pub kind : SymbolKind

abbrev pub or_common : SymbolKind → SymbolKind
or_common DeclaredOnly = Common
or_common Used = Common
or_common (Code item) = Code item
or_common (Data first) = Data first
or_common Common = Common

-- a body or an initialiser decides; without one, a declaration without `extern`; without that, a use
abbrev pub kind_of : Tags → (is_used : Bool) → List Declaration → SymbolKind
kind_of tags is_used [] = if is_used then Used else DeclaredOnly
kind_of tags is_used (d ∷ ds) = by d.way (kind_of tags is_used ds)
  where
    by : Way → SymbolKind → SymbolKind
    by Only others = others
    by Tentative others = or_common others
    by (Initial value) others = Data (first_writes tags d.type value)
    by (Body item) others = Code item

-- the type that a name's first declaration gives it; the system calls are declared before
abbrev pub first_type : TypeTree → List Declaration → TypeTree
first_type otherwise [] = otherwise
first_type otherwise (d ∷ ds) = d.type

abbrev pub symbol_of : Source → List ℕ → Symbol
symbol_of source name = record {
  name = name;
  static = None;
  is_local = is_among source.statics name;
  type = first_type (system_type name) (declarations_of name (declarations source.items));
  kind = kind_of source.tags (is_among (uses_in_row source.items) name) (declarations_of name (declarations source.items));
}

-- the names in a list that don't stand in another, each once
abbrev pub new_names : (known names : List (List ℕ)) → List (List ℕ)
new_names known [] = []
new_names known (x ∷ xs) = if is_among known x then new_names known xs else x ∷ new_names (x ∷ known) xs

abbrev pub declared_names : Source → List (List ℕ)
declared_names source = map (λ d. d.name) (declarations source.items)

-- the system calls that are declared or used, then the names that are declared, by first declaration
abbrev pub symbol_names : Source → List (List ℕ)
symbol_names source =
    filter (λ x. is_among (declared_names source ++ uses_in_row source.items) x) system_names
    ++ new_names system_names (declared_names source)

-- a static function without a body is no symbol
abbrev pub has_no_body : SymbolKind → Bool
has_no_body DeclaredOnly = true
has_no_body Used = true
has_no_body (Code item) = false
has_no_body (Data first) = false
has_no_body Common = false

abbrev pub is_symbol : Symbol → Bool
is_symbol symbol = not (symbol.is_local && has_no_body symbol.kind)

abbrev pub local_kind : Option (Result (List Write) BrokenItem) → SymbolKind
local_kind None = Common
local_kind (Some first) = Data first

-- the text or block static with number k is `.k`
abbrev pub local_symbol : LocalObject → Symbol
local_symbol object = record {
  name = codes "." ++ decimal object.number;
  static = Some object.number;
  is_local = true;
  type = object.type;
  kind = local_kind object.first;
}

abbrev pub symbols : Source → List Symbol
symbols source =
    filter is_symbol (map (symbol_of source) (symbol_names source))
    ++ map local_symbol (local_objects_in source.tags false source.items)

-- the first item of the initialisers that breaks a rule, in the order of the symbols
abbrev pub item_broken : SymbolKind → Option BrokenItem → Option BrokenItem
item_broken (Data (Err broken)) later = Some broken
item_broken (Data (Ok writes)) later = later
item_broken DeclaredOnly later = later
item_broken Used later = later
item_broken (Code item) later = later
item_broken Common later = later

abbrev pub first_broken_item : List Symbol → Option BrokenItem
first_broken_item [] = None
first_broken_item (symbol ∷ others) = item_broken symbol.kind (first_broken_item others)
