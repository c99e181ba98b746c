-- Which modules join. The built-in module, with `exits`, `read` and `write`, comes last.
use Rattle.std.specs.Prelude.{◌≡◌, ◌<◌, ◌⊎◌, ℕ, Bool, true, false, not, IsTrue, List, [], ◌∷◌, ◌++◌, map, filter, Contains, slice_get, unwrap_or, Option, Some, None, codes}
use Rattle.p9_lang.specs.Types.{TypeTree, Void, Char, Int, Pointer, Function, Tags}
use Rattle.p9_lang.specs.Types as types
use Rattle.p9_lang.specs.Layout.{size_of}
use Rattle.p9_lang.specs.Agreement.{agrees}
use Rattle.p9_lang.specs.Scopes.{exits_type, transfer_type}
use Rattle.p9_lang.specs.Modules.{Source}
use Rattle.p9_lang.specs.Symbols.{Symbol, SymbolKind, DeclaredOnly, Used, Code, Data, Common, symbols}

-- how a name occurs in a module: declared alone, used, or defined as code, as data, or as common,
-- which is data without a first content
pub data Role : Type 0 where
  Declares : Role
  Uses : Role
  DefinesCode : Role
  DefinesData : Role
  DefinesCommon : Role

abbrev pub role_of : SymbolKind → Role
role_of DeclaredOnly = Declares
role_of Used = Uses
role_of (Code item) = DefinesCode
role_of (Data first) = DefinesData
role_of Common = DefinesCommon

-- a type over the structures of its module
pub record KnownType : Type 0 where
  pub tags : Tags
  pub type : TypeTree

-- an occurrence whose type isn't known is compared with nothing
pub record Occurrence : Type 0 where
  pub name : List ℕ
  pub type : Option KnownType
  pub role : Role

abbrev pub occurrence : Tags → Symbol → Occurrence
occurrence tags symbol = record {
  name = symbol.name;
  type = Some (record { tags = tags; type = symbol.type });
  role = role_of symbol.kind;
}

-- the names that modules share are those of the symbols that aren't local
abbrev pub shared : Source → List Occurrence
shared source = map (occurrence source.tags) (filter (λ symbol. not symbol.is_local) (symbols source))

abbrev pub main_type : TypeTree
main_type = Function Void types.none

abbrev pub argument_main_type : TypeTree
argument_main_type = Function Void (types.more Int (types.more (Pointer (Pointer Char)) types.none))

abbrev pub without_tags : TypeTree → Option KnownType
without_tags type = Some (record { tags = []; type = type })

abbrev pub builtin : List Occurrence
builtin =
    record { name = codes "main"; type = None; role = Uses }
    ∷ record { name = codes "exits"; type = without_tags exits_type; role = DefinesCode }
    ∷ record { name = codes "read"; type = without_tags transfer_type; role = DefinesCode }
    ∷ record { name = codes "write"; type = without_tags transfer_type; role = DefinesCode }
    ∷ []

abbrev pub all_shared : List Source → List (List Occurrence)
all_shared modules = map shared modules ++ builtin ∷ []

-- module i has this occurrence
abbrev pub Occurs : List (List Occurrence) → (i : ℕ) → Occurrence → Type 0
Occurs modules i a = Contains (unwrap_or (slice_get modules i) []) a

abbrev pub defines : Role → Bool
defines Declares = false
defines Uses = false
defines DefinesCode = true
defines DefinesData = true
defines DefinesCommon = true

abbrev pub is_object : Role → Bool
is_object Declares = false
is_object Uses = false
is_object DefinesCode = false
is_object DefinesData = true
is_object DefinesCommon = true

-- of two definitions of one name one at least is common, and the other is common or data
abbrev pub may_meet : Role → Role → Bool
may_meet DefinesCode b = not (defines b)
may_meet DefinesData DefinesCode = false
may_meet DefinesData DefinesData = false
may_meet DefinesCommon DefinesCode = false
may_meet a b = true

abbrev pub TypesAgree : Option KnownType → Option KnownType → Type 0
TypesAgree (Some a) (Some b) = IsTrue (agrees a.tags b.tags a.type b.type)
TypesAgree (Some a) None = Unit {0}
TypesAgree None b = Unit {0}

abbrev pub SameSize : Option KnownType → Option KnownType → Type 0
SameSize (Some a) (Some b) = size_of a.tags a.type ≡ size_of b.tags b.type
SameSize (Some a) None = Unit {0}
SameSize None b = Unit {0}

-- of two modules with one name
pub record Meet (a b : Occurrence) : Type 0 where
  pub once : IsTrue (may_meet a.role b.role)
  pub agree : TypesAgree a.type b.type
  pub sizes : IsTrue (is_object a.role) → IsTrue (is_object b.role) → SameSize a.type b.type

abbrev pub IsMainType : Option KnownType → Type 0
IsMainType None = ⊥
IsMainType (Some a) = (a.type ≡ main_type) ⊎ (a.type ≡ argument_main_type)

pub record IsMainCode (a : Occurrence) : Type 0 where
  pub code : a.role ≡ DefinesCode
  pub main_type : IsMainType a.type

-- names meet, `main` is defined, as code and with its type, and what is used is defined
pub record Join (modules : List Source) : Type 0 where
  pub meet : (i j : ℕ) (a b : Occurrence) → i < j → Occurs (all_shared modules) i a → Occurs (all_shared modules) j b
      → a.name ≡ b.name → Meet a b
  pub main_defined : (i : ℕ) × (a : Occurrence) × Occurs (all_shared modules) i a × (a.name ≡ codes "main") × IsTrue (defines a.role)
  pub main_code : (i : ℕ) (a : Occurrence) → Occurs (all_shared modules) i a → a.name ≡ codes "main" → IsTrue (defines a.role) → IsMainCode a
  pub resolved : (i : ℕ) (a : Occurrence) → Occurs (all_shared modules) i a → a.role ≡ Uses
      → (j : ℕ) × (b : Occurrence) × Occurs (all_shared modules) j b × (b.name ≡ a.name) × IsTrue (defines b.role)
