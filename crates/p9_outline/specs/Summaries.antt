-- What is known of names of file scope by their declarations.
use Rattle.std.specs.Prelude.{ℕ, Bool, not, ◌&&◌, ◌||◌, if◌then◌else◌, List, [], ◌∷◌, ◌++◌, Option, Some, None, unwrap_or, is_some}
use Rattle.std.specs.Map.{lookup}
use Rattle.indexmap.specs.IndexMap.{insert_entry}
use Rattle.p9_lang.specs.Names.{same_name}
use Rattle.p9_lang.specs.Types.{TypeTree, Tags}
use Rattle.p9_lang.specs.Scopes.{system_type}
use Rattle.p9_lang.specs.Initialisers.{first_writes}
use Rattle.p9_lang.specs.Symbols.{Declaration, Way, Only, Tentative, Initial, Body, Symbol, SymbolKind, DeclaredOnly, Used, Code, Data, Common, or_common, has_no_body}

-- the type of a name's first declaration, and what its declarations make of it
pub record Summary : Type 0 where
  pub first : Option TypeTree
  pub kind : SymbolKind

abbrev pub unknown : Summary
unknown = record { first = None; kind = DeclaredOnly }

-- what one declaration makes of a name
abbrev pub kind_by : Tags → TypeTree → Way → SymbolKind
kind_by tags type Only = DeclaredOnly
kind_by tags type Tentative = Common
kind_by tags type (Initial value) = Data (first_writes tags type value)
kind_by tags type (Body item) = Code item

-- what earlier declarations and later ones make of it
abbrev pub joined : SymbolKind → SymbolKind → SymbolKind
joined DeclaredOnly new = new
joined Used new = new
joined (Code item) new = Code item
joined (Data first) new = Data first
joined Common new = or_common new

abbrev pub with_one : Summary → TypeTree → SymbolKind → Summary
with_one old type kind = record { first = Some (unwrap_or old.first type); kind = joined old.kind kind }

abbrev pub summary_in : List ℕ → List (List ℕ × Summary) → Summary
summary_in name entries = unwrap_or (lookup (same_name name) entries) unknown

abbrev pub declare_one : List (List ℕ × Summary) → List ℕ → TypeTree → SymbolKind → List (List ℕ × Summary)
declare_one entries name type kind = insert_entry same_name entries name (with_one (summary_in name entries) type kind)

abbrev pub declare_all : Tags → List (List ℕ × Summary) → List Declaration → List (List ℕ × Summary)
declare_all tags entries [] = entries
declare_all tags entries (d ∷ ds) = declare_all tags (declare_one entries d.name d.type (kind_by tags d.type d.way)) ds

-- SYMBOLS

abbrev pub used_kind : (is_used : Bool) → SymbolKind → SymbolKind
used_kind is_used DeclaredOnly = if is_used then Used else DeclaredOnly
used_kind is_used Used = Used
used_kind is_used (Code item) = Code item
used_kind is_used (Data first) = Data first
used_kind is_used Common = Common

abbrev pub symbol_by : (is_local is_used : Bool) → List ℕ × Summary → Symbol
symbol_by is_local is_used e = record {
  name = e.0;
  static = None;
  is_local = is_local;
  type = unwrap_or e.1.first (system_type e.0);
  kind = used_kind is_used e.1.kind;
}

-- a system call that is neither declared nor used is no symbol, and no local function without a body
abbrev pub makes_symbol : (is_local is_used : Bool) → Summary → Bool
makes_symbol is_local is_used summary =
    (is_some summary.first || is_used) && not (is_local && has_no_body (used_kind is_used summary.kind))

abbrev pub symbols_by : (is_local is_used : Bool) → List ℕ × Summary → List Symbol
symbols_by is_local is_used e = if makes_symbol is_local is_used e.1 then symbol_by is_local is_used e ∷ [] else []

abbrev pub outer_symbols : (local used : List ℕ → Bool) → (known : List ℕ → Summary) → List (List ℕ) → List Symbol
outer_symbols local used known [] = []
outer_symbols local used known (x ∷ xs) = symbols_by (local x) (used x) (x, known x) ++ outer_symbols local used known xs
