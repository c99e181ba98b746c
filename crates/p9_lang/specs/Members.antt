-- Members: where each stands, how one is found by its name through unnamed substructures, and
-- where the one substructure of a kind stands that a pointer may be converted to.
use Rattle.std.specs.Prelude.{ℕ, zero, suc, ◌+◌, Bool, ◌==◌, if◌then◌else◌, List, [], ◌∷◌, length, slice_get, map, filter, flat_map, Option, Some, None}
use Rattle.p9_lang.specs.Names.{same_name, is_nameless}
use Rattle.p9_lang.specs.Types.{TypeTree, Void, Char, UChar, Short, UShort, Int, UInt, Long, ULong, Pointer, Array, Function, Tagged, MemberTree, TagTree, Tags}
use Rattle.p9_lang.specs.Layout.{Extent, layout, nothing_yet, member_offset, with_member}

-- a member with its offset in its structure and its number in the body
pub record Placed : Type 0 where
  pub name : List ℕ
  pub type : TypeTree
  pub offset : ℕ
  pub number : ℕ

-- a member of incomplete type, which no valid body has, takes no room
abbrev pub or_empty : Option Extent → Extent
or_empty None = nothing_yet
or_empty (Some e) = e

abbrev pub placed_from : Tags → (is_union : Bool) → (so_far : Extent) → (number : ℕ) → List MemberTree → List Placed
placed_from tags is_union so_far number [] = []
placed_from tags is_union so_far number (m ∷ ms) =
    record { name = m.name; type = m.type; offset = member_offset is_union so_far (or_empty (layout tags m.type)); number = number }
    ∷ placed_from tags is_union (with_member is_union so_far (or_empty (layout tags m.type))) (suc number) ms

abbrev pub placed_in_body : Tags → (is_union : Bool) → Option (List MemberTree) → List Placed
placed_in_body tags is_union None = []
placed_in_body tags is_union (Some members) = placed_from tags is_union nothing_yet 0 members

abbrev pub placed_in_tag : Tags → Option TagTree → List Placed
placed_in_tag tags None = []
placed_in_tag tags (Some tag) = placed_in_body tags tag.is_union tag.members

-- the members of the structure or union with a number
abbrev pub placed : Tags → ℕ → List Placed
placed tags i = placed_in_tag tags (slice_get tags i)

-- A structure or union within another, or that itself: where it begins, and its number

pub record Part : Type 0 where
  pub offset : ℕ
  pub tag : ℕ

abbrev pub part_at : (offset : ℕ) → TypeTree → List Part
part_at offset (Tagged i) = record { offset = offset; tag = i } ∷ []
part_at offset Void = []
part_at offset Char = []
part_at offset UChar = []
part_at offset Short = []
part_at offset UShort = []
part_at offset Int = []
part_at offset UInt = []
part_at offset Long = []
part_at offset ULong = []
part_at offset (Pointer target) = []
part_at offset (Array element n) = []
part_at offset (Function result parameters) = []

abbrev pub unnamed_part : (offset : ℕ) → Placed → List Part
unnamed_part offset m = if is_nameless m.name then part_at (offset + m.offset) m.type else []

-- the unnamed substructures that stand directly in one
abbrev pub inner_parts : Tags → Part → List Part
inner_parts tags part = flat_map (unnamed_part part.offset) (placed tags part.tag)

-- What is looked for, level by level: the one at the least level that has any

pub data Sought (A : Type 0) : Type 0 where
  Nowhere : Sought A
  One : (found : A) → Sought A
  Several : Sought A

-- what a level has, or what the next ones have
abbrev pub or_deeper : {A : Type 0} → List A → Sought A → Sought A
or_deeper [] deeper = deeper
or_deeper (x ∷ []) deeper = One x
or_deeper (x ∷ (y ∷ others)) deeper = Several

abbrev pub sought : {A : Type 0} → (depth : ℕ) → Tags → (Part → List A) → List Part → Sought A
sought zero tags has level = Nowhere
sought (suc depth) tags has level =
    or_deeper (flat_map has level) (sought depth tags has (flat_map (inner_parts tags) level))

-- A member by its name: in the structure itself, then in its unnamed substructures, and so on

-- a member's offset in the structure asked, the structure or union whose body has it, its number
-- there, and its type
pub record FoundMember : Type 0 where
  pub offset : ℕ
  pub tag : ℕ
  pub number : ℕ
  pub type : TypeTree

abbrev pub found_member : Part → Placed → FoundMember
found_member part m = record { offset = part.offset + m.offset; tag = part.tag; number = m.number; type = m.type }

abbrev pub named_members : Tags → List ℕ → Part → List FoundMember
named_members tags x part = map (found_member part) (filter (λ m. same_name x m.name) (placed tags part.tag))

pub data Found : Type 0 where
  At : (offset tag number : ℕ) (type : TypeTree) → Found
  Missing : Found
  Ambiguous : Found
  Incomplete : Found

abbrev pub found_of : Sought FoundMember → Found
found_of Nowhere = Missing
found_of (One m) = At m.offset m.tag m.number m.type
found_of Several = Ambiguous

abbrev pub whole : ℕ → Part
whole i = record { offset = 0; tag = i }

abbrev pub find_in_body : Tags → ℕ → List ℕ → Option (List MemberTree) → Found
find_in_body tags i x None = Incomplete
find_in_body tags i x (Some members) = found_of (sought (length tags) tags (named_members tags x) (whole i ∷ []))

abbrev pub find_in_tag : Tags → ℕ → List ℕ → Option TagTree → Found
find_in_tag tags i x None = Incomplete
find_in_tag tags i x (Some tag) = find_in_body tags i x tag.members

abbrev pub find_member : Tags → ℕ → List ℕ → Found
find_member tags i x = find_in_tag tags i x (slice_get tags i)

-- A direct member by its name, as an initialiser's entry names it

abbrev pub direct_member : Tags → ℕ → List ℕ → List Placed
direct_member tags i x = filter (λ m. same_name x m.name) (placed tags i)

-- The offset of the substructure j in the structure i, below its own level

abbrev pub offset_if : ℕ → Part → List ℕ
offset_if j part = if part.tag == j then part.offset ∷ [] else []

abbrev pub find_substructure : Tags → (i j : ℕ) → Sought ℕ
find_substructure tags i j = sought (length tags) tags (offset_if j) (inner_parts tags (whole i))
