-- Which modules join. The suite's own module, with `exits`, `read` and `write`, comes last.
use Rattle.std.specs.Prelude.{◌≡◌, ◌<◌, ℕ, Bool, true, false, not, IsTrue, List, [], ◌∷◌, ◌++◌, map, filter, Contains, slice_get, unwrap_or, Option, Some, None, ◌⊎◌, codes}
use Rattle.p9_first.specs.Types.{TypeTree, Void, Char, Int, Pointer, Function}
use Rattle.p9_first.specs.Types as types
use Rattle.p9_first.specs.Layout.{size_of}
use Rattle.p9_first.specs.Typing.{exits_type, transfer_type}
use Rattle.p9_first.specs.Modules.{Source, Symbol, SymbolKind, DeclaredOnly, Used, Code, Data, TextData, Common, symbols}

-- how a name occurs in a module: declared alone, used, or defined as code, as data, or as data
-- without a first value
pub data Role : Type 0 where
  Declares : Role
  Uses : Role
  DefinesCode : Role
  DefinesData : Role
  DefinesCommon : Role

-- an occurrence whose type isn't known is compared with nothing
pub record Occurrence : Type 0 where
  pub name : List ℕ
  pub type : Option TypeTree
  pub role : Role

abbrev pub role_of : SymbolKind → Role
role_of DeclaredOnly = Declares
role_of Used = Uses
role_of (Code item) = DefinesCode
role_of (Data value) = DefinesData
role_of (TextData number bytes) = DefinesData
role_of Common = DefinesCommon

abbrev pub occurrence : Symbol → Occurrence
occurrence symbol = record { name = symbol.name; type = Some symbol.type; role = role_of symbol.kind }

-- the names that modules share are those of the symbols that aren't local
abbrev pub shared : Source → List Occurrence
shared source = map occurrence (filter (λ symbol. not symbol.is_local) (symbols source))

abbrev pub main_type : TypeTree
main_type = Function Void types.none

abbrev pub argument_main_type : TypeTree
argument_main_type = Function Void (types.more Int (types.more (Pointer (Pointer Char)) types.none))

abbrev pub system_module : List Occurrence
system_module =
    record { name = codes "main"; type = None; role = Uses }
    ∷ record { name = codes "exits"; type = Some exits_type; role = DefinesCode }
    ∷ record { name = codes "read"; type = Some transfer_type; role = DefinesCode }
    ∷ record { name = codes "write"; type = Some transfer_type; role = DefinesCode }
    ∷ []

abbrev pub all_shared : List Source → List (List Occurrence)
all_shared modules = map shared modules ++ system_module ∷ []

-- module i has this occurrence
abbrev pub Occurs : List (List Occurrence) → (i : ℕ) → Occurrence → Type 0
Occurs modules i a = Contains (unwrap_or (slice_get modules i) []) a

abbrev pub defines : Role → Bool
defines Declares = false
defines Uses = false
defines _ = true

-- two definitions of one name: only data without a first value meets data
abbrev pub may_meet : Role → Role → Bool
may_meet DefinesCode DefinesCode = false
may_meet DefinesCode DefinesData = false
may_meet DefinesCode DefinesCommon = false
may_meet DefinesData DefinesCode = false
may_meet DefinesData DefinesData = false
may_meet DefinesCommon DefinesCode = false
may_meet _ _ = true

abbrev pub is_object : Role → Bool
is_object DefinesData = true
is_object DefinesCommon = true
is_object _ = false

-- types without structures agree where they are equal
abbrev pub Agree : TypeTree → TypeTree → Type 0
Agree a b = a ≡ b

abbrev pub AgreeIfKnown : Option TypeTree → Option TypeTree → Type 0
AgreeIfKnown (Some a) (Some b) = Agree a b
AgreeIfKnown _ _ = Unit {0}

abbrev pub SameSize : Option TypeTree → Option TypeTree → Type 0
SameSize (Some a) (Some b) = size_of a ≡ size_of b
SameSize _ _ = Unit {0}

-- of two modules with one name
pub record Meet (a b : Occurrence) : Type 0 where
  pub once : IsTrue (may_meet a.role b.role)
  pub agree : AgreeIfKnown a.type b.type
  pub sizes : IsTrue (is_object a.role) → IsTrue (is_object b.role) → SameSize a.type b.type

pub record IsMainCode (a : Occurrence) : Type 0 where
  pub code : a.role ≡ DefinesCode
  pub type : (a.type ≡ Some main_type) ⊎ (a.type ≡ Some argument_main_type)

-- names meet, `main` is defined, as code and with its type, and what is used is defined
pub record Join (modules : List Source) : Type 0 where
  pub meet : (i j : ℕ) (a b : Occurrence) → i < j → Occurs (all_shared modules) i a → Occurs (all_shared modules) j b
      → a.name ≡ b.name → Meet a b
  pub main_defined : (i : ℕ) × (a : Occurrence) × Occurs (all_shared modules) i a × (a.name ≡ codes "main") × IsTrue (defines a.role)
  pub main_code : (i : ℕ) (a : Occurrence) → Occurs (all_shared modules) i a → a.name ≡ codes "main" → IsTrue (defines a.role) → IsMainCode a
  pub resolved : (i : ℕ) (a : Occurrence) → Occurs (all_shared modules) i a → a.role ≡ Uses
      → (j : ℕ) × (b : Occurrence) × Occurs (all_shared modules) j b × (b.name ≡ a.name) × IsTrue (defines b.role)
