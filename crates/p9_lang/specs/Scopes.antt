-- What is known while a file is typed: names and tags in scope, and what the nodes so far have.
use Rattle.std.specs.Prelude.{ℕ, Bool, true, false, not, ◌&&◌, if◌then◌else◌, List, [], ◌∷◌, ◌++◌, length, slice_get, slice_set, Option, Some, None, codes}
use Rattle.p9_lang.specs.Names.{same_name, is_nameless}
use Rattle.p9_lang.specs.Types.{TypeTree, Void, Char, Int, Long, Pointer, Function, Meant, Outer, TagTree, Tags, MemberTree}
use Rattle.p9_lang.specs.Types as types
use Rattle.p9_lang.specs.Rules.{Rule, Redeclared}

-- NAMES

-- a name that is declared: an object or function, with its linkage and whether it has a body or an
-- initialiser; a type; or an enumeration constant
pub record Declared : Type 0 where
  pub name : List ℕ
  pub type : TypeTree
  pub means : Meant
  pub is_static : Bool
  pub is_filled : Bool

abbrev pub outer : List ℕ → TypeTree → Declared
outer name type = record { name = name; type = type; means = Outer name; is_static = false; is_filled = false }

-- the system calls, which every file knows
abbrev pub exits_type : TypeTree
exits_type = Function Void (types.more (Pointer Char) types.none)

abbrev pub transfer_type : TypeTree
transfer_type = Function Long (types.more Int (types.more (Pointer Void) (types.more Long types.none)))

abbrev pub system_names : List (List ℕ)
system_names = codes "exits" ∷ codes "read" ∷ codes "write" ∷ []

abbrev pub system_type : List ℕ → TypeTree
system_type name = if same_name name (codes "exits") then exits_type else transfer_type

abbrev pub system_level : List Declared
system_level =
    outer (codes "exits") exits_type ∷ outer (codes "read") transfer_type ∷ outer (codes "write") transfer_type ∷ []

-- TAGS

pub data Keyword : Type 0 where
  Struct : Keyword
  Union : Keyword
  Enum : Keyword

abbrev pub same_keywords : Keyword → Keyword → Bool
same_keywords Struct Struct = true
same_keywords Union Union = true
same_keywords Enum Enum = true
same_keywords a b = false

abbrev pub structure_keyword : (is_union : Bool) → Keyword
structure_keyword true = Union
structure_keyword false = Struct

-- a tag in scope: of a structure or union the number, and whether its braces have been opened; an
-- enumeration has no number
pub record TagName : Type 0 where
  pub name : List ℕ
  pub keyword : Keyword
  pub number : ℕ
  pub has_body : Bool

-- WHAT IS KNOWN

-- the types and meanings of the nodes that are judged, the levels of names and of tags, the
-- innermost level and in it the newest first; the structures and unions; how many texts and block
-- statics there are in the file so far, and how many automatics in the function; the functions that
-- have bodies anywhere in the file
pub record Known : Type 0 where
  pub types : List TypeTree
  pub means : List Meant
  pub names : List (List Declared)
  pub tag_names : List (List TagName)
  pub tags : Tags
  pub statics : ℕ
  pub autos : ℕ
  pub bodies : List (List ℕ)

abbrev pub known_first : (bodies : List (List ℕ)) → Known
known_first bodies = record {
  types = [];
  means = [];
  names = system_level ∷ [];
  tag_names = [] ∷ [];
  tags = [];
  statics = 0;
  autos = 0;
  bodies = bodies;
}

-- the number of the next node, and of the last
abbrev pub next_node : Known → ℕ
next_node s = length s.types

-- LEVELS

abbrev pub innermost : {A : Type 0} → List (List A) → List A
innermost [] = []
innermost (level ∷ levels) = level

abbrev pub around : {A : Type 0} → List (List A) → List (List A)
around [] = []
around (level ∷ levels) = levels

abbrev pub newest : {A : Type 0} → A → List (List A) → List (List A)
newest x levels = (x ∷ innermost levels) ∷ around levels

-- one level alone is the file's
abbrev pub is_file_level : {A : Type 0} → List (List A) → Bool
is_file_level [] = true
is_file_level (level ∷ []) = true
is_file_level (level ∷ (other ∷ levels)) = false

abbrev pub or_else : {A : Type 0} → Option A → Option A → Option A
or_else (Some x) other = Some x
or_else None other = other

abbrev pub in_level : List ℕ → List Declared → Option Declared
in_level x [] = None
in_level x (d ∷ ds) = if same_name x d.name then Some d else in_level x ds

abbrev pub in_levels : List ℕ → List (List Declared) → Option Declared
in_levels x [] = None
in_levels x (level ∷ levels) = or_else (in_level x level) (in_levels x levels)

abbrev pub tag_in_level : List ℕ → List TagName → Option TagName
tag_in_level x [] = None
tag_in_level x (t ∷ ts) = if same_name x t.name then Some t else tag_in_level x ts

abbrev pub tag_in_levels : List ℕ → List (List TagName) → Option TagName
tag_in_levels x [] = None
tag_in_levels x (level ∷ levels) = or_else (tag_in_level x level) (tag_in_levels x levels)

abbrev pub declare : Declared → Known → Known
declare d s = record s { names = newest d s.names }

abbrev pub open_level : List Declared → Known → Known
open_level level s = record s { names = level ∷ s.names }

abbrev pub close_level : Known → Known
close_level s = record s { names = around s.names }

-- a block is a scope of names and of tags
abbrev pub open_block : Known → Known
open_block s = record s { names = [] ∷ s.names; tag_names = [] ∷ s.tag_names }

abbrev pub close_block : Known → Known
close_block s = record s { names = around s.names; tag_names = around s.tag_names }

-- NODES

-- the next node has this type and this meaning
abbrev pub with_node : TypeTree → Meant → Known → Known
with_node type means s = record s { types = s.types ++ type ∷ []; means = s.means ++ means ∷ [] }

abbrev pub with_meaning : ℕ → Meant → Known → Known
with_meaning number means s = record s { means = slice_set s.means number means }

abbrev pub with_type : ℕ → TypeTree → Known → Known
with_type number type s = record s { types = slice_set s.types number type }

-- DECLARING TAGS

-- what a spec's tag stands for: its number, the rules that it breaks, and what is known then
pub record Tagging : Type 0 where
  pub number : ℕ
  pub rules : List Rule
  pub known : Known

abbrev pub is_enumeration : Keyword → Bool
is_enumeration Struct = false
is_enumeration Union = false
is_enumeration Enum = true

abbrev pub is_union_keyword : Keyword → Bool
is_union_keyword Struct = false
is_union_keyword Union = true
is_union_keyword Enum = false

abbrev pub new_structure : Keyword → List ℕ → Tags
new_structure Struct name = record { is_union = false; name = name; members = None; is_marked = false } ∷ []
new_structure Union name = record { is_union = true; name = name; members = None; is_marked = false } ∷ []
new_structure Enum name = []

-- a tag of its own, in the innermost scope
abbrev pub new_tag : List Rule → Keyword → List ℕ → (has_body : Bool) → Known → Tagging
new_tag rules keyword name has_body s = record {
  number = length s.tags;
  rules = rules;
  known = record s {
    tags = s.tags ++ new_structure keyword name;
    tag_names = newest (record { name = name; keyword = keyword; number = length s.tags; has_body = has_body }) s.tag_names;
  };
}

-- a tag that is in scope; with braces it has a body from now on
abbrev pub known_tag : TagName → (has_body : Bool) → Known → Tagging
known_tag t has_body s = record {
  number = t.number;
  rules = [];
  known = if has_body then record s { tag_names = newest (record t { has_body = true }) s.tag_names } else s;
}

-- A tag has one body and one keyword; where it would have two, this is another tag.
abbrev pub tag_from : Option TagName → Keyword → List ℕ → (has_body : Bool) → Known → Tagging
tag_from None keyword name has_body s = new_tag [] keyword name has_body s
tag_from (Some t) keyword name has_body s =
    if same_keywords t.keyword keyword && not (has_body && t.has_body) then known_tag t has_body s
    else new_tag (Redeclared name ∷ []) keyword name has_body s

-- a tag with a body belongs to the scope where it stands, and so does one that no scope around has
abbrev pub tagged_as : Keyword → List ℕ → (has_body : Bool) → Known → Tagging
tagged_as keyword name has_body s =
    if is_nameless name then new_tag [] keyword name has_body s
    else tag_from
    (if has_body then tag_in_level name (innermost s.tag_names) else tag_in_levels name s.tag_names)
    keyword name has_body s

-- the body of a structure is complete; it has one body
abbrev pub with_body : ℕ → List MemberTree → Option TagTree → Tags → Tags
with_body number members None tags = tags
with_body number members (Some tag) tags =
    slice_set tags number (record tag { members = or_else tag.members (Some members) })

abbrev pub complete_tag : ℕ → List MemberTree → Known → Known
complete_tag number members s = record s { tags = with_body number members (slice_get s.tags number) s.tags }
