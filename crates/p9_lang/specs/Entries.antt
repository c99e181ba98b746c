-- The entries of an initialiser's list: what each fills, and the rules on `[i]` and `.m`.
use Rattle.std.specs.Prelude.{ℕ, zero, suc, Bool, true, false, not, nat_lt, if◌then◌else◌, List, [], ◌∷◌, slice_get, Option, Some, None}
use Rattle.p9_lang.specs.declared.tree.EntryBy.{EntryBy}
use Rattle.p9_lang.specs.declared.tree.EntryBy.TheVariants as by
use Rattle.p9_lang.specs.Types.{TypeTree, Void, Array, Tagged, TagTree, Tags}
use Rattle.p9_lang.specs.Layout.{is_within_limit}
use Rattle.p9_lang.specs.Members.{Placed, placed, direct_member}
use Rattle.p9_lang.specs.Constants.{Operand, Constant, NotConstant, Undefined, Null, constant_at}
use Rattle.p9_lang.specs.Constants as constants
use Rattle.p9_lang.specs.Rules.{Rule, BadOperands, NoMember, BadConstant, TooManyItems, breaks_if}
use Rattle.p9_lang.specs.Parts.{Role, Part, first_constant, EntryOf, Fills, Outside}

-- What an entry fills. A union has one entry.

abbrev pub element_role : Tags → TypeTree → (count : ℕ) → ℕ → Role
element_role tags element zero position = if is_within_limit tags (Array element (suc position)) then Fills element else Outside
element_role tags element (suc n) position = if nat_lt position (suc n) then Fills element else Outside

abbrev pub index_role : Tags → TypeTree → (count : ℕ) → Constant → Role
index_role tags element n (constants.Value position) = element_role tags element n position
index_role tags element n other = Fills element

abbrev pub array_role : Tags → TypeTree → (count : ℕ) → (next : ℕ) → EntryBy → List Part → Role
array_role tags element n next by.Nothing before = element_role tags element n next
array_role tags element n next by.Index before = index_role tags element n (first_constant before)
array_role tags element n next (by.Member x) before = Outside

abbrev pub is_union_tag : Option TagTree → Bool
is_union_tag None = false
is_union_tag (Some tag) = tag.is_union

abbrev pub placed_role : Option Placed → Role
placed_role None = Outside
placed_role (Some m) = Fills m.type

abbrev pub member_role : Tags → ℕ → (next : ℕ) → Option Placed → Role
member_role tags i zero m = placed_role m
member_role tags i (suc next) m = if is_union_tag (slice_get tags i) then Outside else placed_role m

abbrev pub structure_role : Tags → ℕ → (next : ℕ) → EntryBy → Role
structure_role tags i next by.Nothing = member_role tags i next (slice_get (placed tags i) next)
structure_role tags i next by.Index = Outside
structure_role tags i next (by.Member x) = member_role tags i next (slice_get (direct_member tags i x) 0)

abbrev pub entry_role : Tags → Role → EntryBy → List Part → Role
entry_role tags (EntryOf (Some (Array element n)) next) entry_by before = array_role tags element n next entry_by before
entry_role tags (EntryOf (Some (Tagged i)) next) entry_by before = structure_role tags i next entry_by
entry_role tags role entry_by before = Outside

abbrev pub is_index_next : EntryBy → List Part → Bool
is_index_next by.Index [] = true
is_index_next by.Index (part ∷ before) = false
is_index_next by.Nothing before = false
is_index_next (by.Member x) before = false

-- Where an entry goes, and the rules that it breaks

abbrev pub filled_type : Role → TypeTree
filled_type (Fills type) = type
filled_type role = Void

abbrev pub constant_or_zero : Constant → ℕ
constant_or_zero (constants.Value word) = word
constant_or_zero other = 0

abbrev pub placed_number : Option Placed → ℕ
placed_number None = 0
placed_number (Some m) = m.number

-- the position that an entry goes to
abbrev pub entry_position : Tags → Option TypeTree → (next : ℕ) → EntryBy → List Part → ℕ
entry_position tags list next by.Nothing parts = next
entry_position tags list next by.Index parts = constant_or_zero (first_constant parts)
entry_position tags (Some (Tagged i)) next (by.Member x) parts = placed_number (slice_get (direct_member tags i x) 0)
entry_position tags list next (by.Member x) parts = next

-- past the limit an array that has no length yet can't go
abbrev pub too_many_rules : Tags → TypeTree → (count position : ℕ) → List Rule
too_many_rules tags element zero position = breaks_if (not (is_within_limit tags (Array element (suc position)))) TooManyItems
too_many_rules tags element (suc n) position = []

abbrev pub index_rules : Tags → TypeTree → ℕ → Constant → List Rule
index_rules tags element n (constants.Value position) = too_many_rules tags element n position
index_rules tags element n other = BadConstant ∷ []

abbrev pub array_entry_rules : Tags → TypeTree → (count next : ℕ) → EntryBy → List Part → List Rule
array_entry_rules tags element n next by.Nothing parts = too_many_rules tags element n next
array_entry_rules tags element n next by.Index parts = index_rules tags element n (first_constant parts)
array_entry_rules tags element n next (by.Member x) parts = BadOperands ∷ []

abbrev pub member_found_rules : List ℕ → List Placed → List Rule
member_found_rules x [] = NoMember x ∷ []
member_found_rules x (m ∷ ms) = []

abbrev pub designator_rules : Tags → ℕ → EntryBy → List Rule
designator_rules tags i by.Nothing = []
designator_rules tags i by.Index = BadOperands ∷ []
designator_rules tags i (by.Member x) = member_found_rules x (direct_member tags i x)

-- of a union's entry behind its first nothing is asked
abbrev pub structure_entry_rules : Tags → ℕ → (next : ℕ) → EntryBy → List Rule
structure_entry_rules tags i zero entry_by = designator_rules tags i entry_by
structure_entry_rules tags i (suc next) entry_by =
    if is_union_tag (slice_get tags i) then [] else designator_rules tags i entry_by

abbrev pub scalar_entry_rules : EntryBy → List Rule
scalar_entry_rules by.Nothing = []
scalar_entry_rules by.Index = BadOperands ∷ []
scalar_entry_rules (by.Member x) = BadOperands ∷ []

-- `[i]` stands only in an array's list, `.m` only in that of a structure or union
abbrev pub entry_rules : Tags → Option TypeTree → (next : ℕ) → EntryBy → List Part → List Rule
entry_rules tags None next entry_by parts = []
entry_rules tags (Some (Array element n)) next entry_by parts = array_entry_rules tags element n next entry_by parts
entry_rules tags (Some (Tagged i)) next entry_by parts = structure_entry_rules tags i next entry_by
entry_rules tags (Some type) next entry_by parts = scalar_entry_rules entry_by
