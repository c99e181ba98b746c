-- Modules: trees whose nodes know their number, their type and what they stand for; and the
-- symbols of a module.
use Rattle.std.specs.Prelude.{length, ◌≡◌, ℕ, ◌+◌, Bool, true, false, if◌then◌else◌, List, [], ◌∷◌, ◌++◌, filter, map, flat_map, unwrap_or, slice_get, codes, decimal}
use Rattle.p9_first.specs.declared.tree.SpecWord.TheVariants as word
use Rattle.p9_first.specs.declared.tree.SpecWord.{SpecWord}
use Rattle.p9_first.specs.declared.tree.Kind.{Kind}
use Rattle.p9_first.specs.declared.tree.Kind.TheVariants as kind
use Rattle.p9_first.specs.declared.module.Module.{Module}
use Rattle.std.specs.List.{list_any}
use Rattle.p9_first.specs.Types.{TypeTree, Void, Char, Array, Meant, Nothing, Outer, Static, types_of, all_meant}
use Rattle.p9_first.specs.Trees.{Labelled, node, Row, none, more, Syntax, SyntaxRow, nodes_of, nodes_of_row, row_of}
use Rattle.p9_first.specs.Form.{same_name, is_among, IsFile}
use Rattle.p9_first.specs.Typing.{Judged, Has, judged_file, exits_type, transfer_type}

-- what is known of a node of a module. Nodes are numbered from 0, the parts of a node before it.
pub record Label : Type 0 where
  pub number : ℕ
  pub type : TypeTree
  pub means : Meant

abbrev pub Typed : Type 0
Typed = Labelled Label

abbrev pub TypedRow : Type 0
TypedRow = Row Label

-- a module as plain data: its items, and the names of file scope that are declared static
pub record Source : Type 0 where
  pub items : TypedRow
  pub statics : List (List ℕ)

-- A tree with a type and a meaning for each node, from the node with this number on

abbrev pub label_of : List TypeTree → List Meant → ℕ → Label
label_of types means number =
    record { number = number; type = unwrap_or (slice_get types number) Void; means = unwrap_or (slice_get means number) Nothing }

abbrev mutual
  pub typed : List TypeTree → List Meant → ℕ → Syntax → Typed
  typed types means first (node k at parts) =
      node k (label_of types means (first + nodes_of_row parts)) (typed_row types means first parts)

  pub typed_row : List TypeTree → List Meant → ℕ → SyntaxRow → TypedRow
  typed_row types means first none = none
  typed_row types means first (more tree others) =
      more (typed types means first tree) (typed_row types means (first + nodes_of tree) others)

-- a module of the program
abbrev pub source_of : Module → Source
source_of m = record {
  items = typed_row (types_of m.types) (all_meant m.binds) 0 (row_of m.tree.items);
  statics = m.statics;
}

abbrev pub sources_of : List Module → List Source
sources_of [] = []
sources_of (m ∷ ms) = source_of m ∷ sources_of ms

-- The module of a tree: each node has the type and the meaning that typing gives it.

abbrev pub HaveTypes : List Judged → List TypeTree → List Meant → Type 0
HaveTypes [] types means = (types ≡ []) × (means ≡ [])
HaveTypes (Has type m ∷ js) (t ∷ ts) (n ∷ ns) = (t ≡ type) × (n ≡ m) × HaveTypes js ts ns
HaveTypes _ types means = ⊥

-- a module of the form
pub record IsModule (m : Module) : Type 0 where
  pub file : IsFile (row_of m.tree.items)
  pub typed : HaveTypes (judged_file (row_of m.tree.items)) (types_of m.types) (all_meant m.binds)
  pub tags : m.tags.list ≡ []
  pub marks : m.tree.marks ≡ []
  pub statics : m.statics ≡ []

-- the same as plain data
abbrev pub judged_type : Judged → TypeTree
judged_type (Has type means) = type
judged_type _ = Void

abbrev pub judged_meaning : Judged → Meant
judged_meaning (Has type means) = means
judged_meaning _ = Nothing

abbrev pub source_from : SyntaxRow → Source
source_from items = record {
  items = typed_row (map judged_type (judged_file items)) (map judged_meaning (judged_file items)) 0 items;
  statics = [];
}

-- Declarations of file scope

-- a name alone, a variable without an initialiser and without `extern`, an initialiser, or the
-- item of a function with a body
pub data Way : Type 0 where
  Only : Way
  Tentative : Way
  Initial : (value : Typed) → Way
  Body : (item : Typed) → Way

pub record Declaration : Type 0 where
  pub name : List ℕ
  pub type : TypeTree
  pub way : Way

abbrev pub is_extern : SpecWord → Bool
is_extern word.Extern = true
is_extern _ = false

-- the name and the type of a declarator, which its name's node has
abbrev pub typed_name : Typed → List ℕ
typed_name (node (kind.DeclName x) label parts) = x
typed_name (node (kind.Params true true) label (more inner others)) = typed_name inner
typed_name _ = []

abbrev pub typed_type : Typed → TypeTree
typed_type (node (kind.DeclName x) label parts) = label.type
typed_type (node (kind.Params true true) label (more inner others)) = typed_type inner
typed_type _ = Void

abbrev pub declares : Typed → Way → Declaration
declares declarator way = record { name = typed_name declarator; type = typed_type declarator; way = way }

abbrev pub declarations_in : Typed → List Declaration
declarations_in (node (kind.Declaration spec (false ∷ [])) label (more name none)) =
    declares name (if list_any is_extern spec.words then Only else Tentative) ∷ []
declarations_in (node (kind.Declaration spec (true ∷ [])) label (more name (more value none))) = declares name (Initial value) ∷ []
declarations_in (node (kind.Function spec) label (more name (more body none))) =
    declares name (Body (node (kind.Function spec) label (more name (more body none)))) ∷ []
declarations_in _ = []

abbrev pub declarations : TypedRow → List Declaration
declarations none = []
declarations (more first others) = declarations_in first ++ declarations others

abbrev pub declarations_of : List ℕ → List Declaration → List Declaration
declarations_of x ds = filter (λ d. same_name x d.name) ds

-- the names of file scope that occur in expressions, in the order of nodes
abbrev pub use_at : Kind → Meant → List (List ℕ)
use_at (kind.Name x) (Outer name) = name ∷ []
use_at _ means = []

abbrev mutual
  pub uses_in : Typed → List (List ℕ)
  uses_in (node k label parts) = uses_in_row parts ++ use_at k label.means

  pub uses_in_row : TypedRow → List (List ℕ)
  uses_in_row none = []
  uses_in_row (more first others) = uses_in first ++ uses_in_row others

-- the texts that are objects, by their numbers, in the order of nodes
pub record TextObject : Type 0 where
  pub number : ℕ
  pub bytes : List ℕ

abbrev pub text_at : Kind → Meant → List TextObject
text_at (kind.Text texts) (Static number) = record { number = number; bytes = flat_map (λ bytes. bytes) texts } ∷ []
text_at _ means = []

abbrev mutual
  pub texts_of : Typed → List TextObject
  texts_of (node k label parts) = texts_of_row parts ++ text_at k label.means

  pub texts_of_row : TypedRow → List TextObject
  texts_of_row none = []
  texts_of_row (more first others) = texts_of first ++ texts_of_row others

-- Symbols

-- declared only, used, code, data with its first value, the text with a number, or data without a
-- first value
pub data SymbolKind : Type 0 where
  DeclaredOnly : SymbolKind
  Used : SymbolKind
  Code : (item : Typed) → SymbolKind
  Data : (value : Typed) → SymbolKind
  TextData : (number : ℕ) (bytes : List ℕ) → SymbolKind
  Common : SymbolKind

pub record Symbol : Type 0 where
  pub name : List ℕ
  pub is_local : Bool
  pub type : TypeTree
  pub kind : SymbolKind

-- a body or an initialiser decides; without one, a declaration without `extern`; without that, a use
abbrev pub kind_of : List Declaration → (used : Bool) → SymbolKind
kind_of [] used = if used then Used else DeclaredOnly
kind_of (d ∷ ds) used = by d.way (kind_of ds used)
  where
    stronger : SymbolKind → SymbolKind
    stronger (Code item) = Code item
    stronger (Data value) = Data value
    stronger _ = Common

    by : Way → SymbolKind → SymbolKind
    by Only others = others
    by Tentative others = stronger others
    by (Initial value) others = Data value
    by (Body item) others = Code item

abbrev pub system_names : List (List ℕ)
system_names = codes "exits" ∷ codes "read" ∷ codes "write" ∷ []

abbrev pub system_type : List ℕ → TypeTree
system_type name = if same_name name (codes "exits") then exits_type else transfer_type

-- the type that a name's first declaration gives it; the system calls are declared before
abbrev pub first_type : TypeTree → List Declaration → TypeTree
first_type otherwise [] = otherwise
first_type otherwise (d ∷ ds) = d.type

abbrev pub symbol_of : Source → List ℕ → Symbol
symbol_of source name = record {
  name = name;
  is_local = is_among source.statics name;
  type = first_type (system_type name) (declarations_of name (declarations source.items));
  kind = kind_of (declarations_of name (declarations source.items)) (is_among (uses_in_row source.items) name);
}

-- the names in a list that don't stand in another, each once
abbrev pub new_names : (known names : List (List ℕ)) → List (List ℕ)
new_names known [] = []
new_names known (x ∷ xs) = if is_among known x then new_names known xs else x ∷ new_names (x ∷ known) xs

abbrev pub declared_names : Source → List (List ℕ)
declared_names source = map (λ d. d.name) (declarations source.items)

-- the system calls that are declared or used, then the names that are declared, by first declaration
abbrev pub symbol_names : Source → List (List ℕ)
symbol_names source =
    filter (λ x. is_among (declared_names source ++ uses_in_row source.items) x) system_names
    ++ new_names system_names (declared_names source)

-- the text with number k is `.k`
abbrev pub text_symbol : TextObject → Symbol
text_symbol text = record {
  name = codes "." ++ decimal text.number;
  is_local = true;
  type = Array Char (length text.bytes + 1);
  kind = TextData text.number text.bytes;
}

-- the symbols of a module: the names of file scope, then the texts
abbrev pub symbols : Source → List Symbol
symbols source = map (symbol_of source) (symbol_names source) ++ map text_symbol (texts_of_row source.items)
