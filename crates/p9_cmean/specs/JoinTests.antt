-- A test whether modules join, computed; it says what `Join` says, and is read with small programs.
use Rattle.std.specs.Prelude.{◌≡◌, ◌↔◌, ℕ, ◌==◌, ◌&&◌, ◌||◌, Bool, true, false, not, List, [], ◌∷◌, Option, Some, None, codes}
use Rattle.std.specs.List.{list_any, list_all}
use Rattle.p9_lang.specs.Names.{same_name}
use Rattle.p9_lang.specs.Types.{TypeTree, Void, Char, Int, Pointer, Function, none, more}
use Rattle.p9_lang.specs.Layout.{size_of}
use Rattle.p9_lang.specs.Agreement.{agrees}
use Rattle.p9_lang.specs.Modules.{Source}
use Rattle.p9_cmean.specs.Joins.{Role, Declares, Uses, DefinesCode, DefinesData, DefinesCommon, KnownType, Occurrence, all_shared, defines, is_object, may_meet, Join}

-- Two occurrences of one name

abbrev pub types_agree : Option KnownType → Option KnownType → Bool
types_agree (Some a) (Some b) = agrees a.tags b.tags a.type b.type
types_agree (Some a) None = true
types_agree None b = true

abbrev pub same_size : Option KnownType → Option KnownType → Bool
same_size (Some a) (Some b) = size_of a.tags a.type == size_of b.tags b.type
same_size (Some a) None = true
same_size None b = true

abbrev pub meets : Occurrence → Occurrence → Bool
meets a b =
    may_meet a.role b.role
    && (types_agree a.type b.type
    && (not (is_object a.role && is_object b.role) || same_size a.type b.type))

abbrev pub meets_if_named : Occurrence → Occurrence → Bool
meets_if_named a b = not (same_name a.name b.name) || meets a b

-- All occurrences in two modules, and in each two of several

abbrev pub row_meets : List Occurrence → List Occurrence → Bool
row_meets earlier later = list_all (λ a. list_all (meets_if_named a) later) earlier

abbrev pub all_meet : List (List Occurrence) → Bool
all_meet [] = true
all_meet (m ∷ ms) = list_all (row_meets m) ms && all_meet ms

-- `main`

abbrev pub is_main : Occurrence → Bool
is_main a = same_name a.name (codes "main") && defines a.role

abbrev pub is_code : Role → Bool
is_code Declares = false
is_code Uses = false
is_code DefinesCode = true
is_code DefinesData = false
is_code DefinesCommon = false

abbrev pub takes_arguments : TypeTree → Bool
takes_arguments (Function Void (more Int (more (Pointer (Pointer Char)) none))) = true
takes_arguments type = false

abbrev pub takes_nothing : TypeTree → Bool
takes_nothing (Function Void none) = true
takes_nothing type = false

abbrev pub has_main_type : Option KnownType → Bool
has_main_type None = false
has_main_type (Some a) = takes_nothing a.type || takes_arguments a.type

abbrev pub is_main_well : Occurrence → Bool
is_main_well a = not (is_main a) || (is_code a.role && has_main_type a.type)

-- Names that are used

abbrev pub is_use : Role → Bool
is_use Declares = false
is_use Uses = true
is_use DefinesCode = false
is_use DefinesData = false
is_use DefinesCommon = false

abbrev pub defines_name : List ℕ → Occurrence → Bool
defines_name name b = same_name b.name name && defines b.role

abbrev pub is_met : List (List Occurrence) → Occurrence → Bool
is_met modules a = not (is_use a.role) || list_any (list_any (defines_name a.name)) modules

-- All of it

abbrev pub joins_of : List (List Occurrence) → Bool
joins_of modules =
    all_meet modules
    && (list_any (list_any is_main) modules
    && (list_all (list_all is_main_well) modules
    && list_all (list_all (is_met modules)) modules))

abbrev pub joins : List Source → Bool
joins modules = joins_of (all_shared modules)

-- The test holds exactly of modules that join.
abbrev pub JoinIsTested : Type 0
JoinIsTested = (modules : List Source) → (joins modules ≡ true) ↔ Join modules
