-- What entries fill, by what is asked of their lists.
use Rattle.std.proofs.Common.{◌≡◌, ◌≢◌, ◌<◌, ◌*◌, ℕ, zero, suc, true, false, cond, nat_lt, nat_le, List, [], ◌∷◌, slice_get, Option, Some, None, refl, sym, arith}
use Rattle.std.proofs.lemmas.Bool.Decides.{nat_tests}
use Rattle.p9_lang.specs.declared.tree.EntryBy.{EntryBy}
use Rattle.p9_lang.specs.declared.tree.EntryBy.TheVariants as by
use Rattle.p9_lang.specs.Types.{TypeTree, Void, Char, UChar, Short, UShort, Int, UInt, Long, ULong, Pointer, Array, Function, Tagged, Tags}
use Rattle.p9_lang.specs.Conversions.{is_structure}
use Rattle.p9_lang.specs.Layout.{Extent, layout, on_some, repeated, size_in, size_limit, is_within_limit}
use Rattle.p9_lang.specs.Members.{Placed}
use Rattle.p9_lang.specs.Entries as entries
use Rattle.p9_lang.specs.Parts.{Part, Fills, Outside}
use Rattle.p9_opening.specs.Filling.{filled, placing, placed_type, placed_number, is_spent, missing_rules}

-- ARRAYS

-- in an array with a length
pub element_within : (tags : Tags) (element : TypeTree) (n position : ℕ) → 0 < n
    → entries.element_role tags element n position ≡ cond (nat_lt position n) (Fills element) Outside
element_within tags element zero position lt = absurd (omega arith)
element_within tags element (suc n) position lt = refl

pub no_rule_within : (tags : Tags) (element : TypeTree) (n position : ℕ) → 0 < n → entries.too_many_rules tags element n position ≡ []
no_rule_within tags element zero position lt = absurd (omega arith)
no_rule_within tags element (suc n) position lt = refl

-- past the limit one element more changes nothing

sizes_past : (size n : ℕ) → size_limit < suc n → nat_le (size * suc (suc n)) size_limit ≡ nat_le (size * suc n) size_limit
sizes_past zero n lt = grind (arith, nat_tests)
sizes_past (suc size) n lt = grind (arith, nat_tests)

extents_past : (e : Option Extent) (n : ℕ) → size_limit < n
    → nat_le (size_in (on_some e (repeated (suc n)))) size_limit ≡ nat_le (size_in (on_some e (repeated n))) size_limit
extents_past None n lt = refl
extents_past (Some e) zero lt = absurd (omega arith)
extents_past (Some e) (suc n) lt = sizes_past e.size n lt

pub longer_past : (n : ℕ) → size_limit < n → (tags : Tags) (element : TypeTree)
    → is_within_limit tags (Array element n) ≡ is_within_limit tags (Array element (suc n))
longer_past n lt tags element = sym (extents_past (layout tags element) n lt)

-- STRUCTURES AND UNIONS

pub not_spent : (tags : Tags) (i next : ℕ) → next ≡ 0 → is_spent tags i next ≡ false
not_spent tags i zero e = refl
not_spent tags i (suc next) e = absurd (omega arith)

pub spent_behind : (tags : Tags) (i next : ℕ) → next ≢ 0 → is_spent tags i next ≡ entries.is_union_tag (slice_get tags i)
spent_behind tags i zero e = absurd (e refl)
spent_behind tags i (suc next) e = refl

pub open_member : (tags : Tags) (i next : ℕ) (m : Option Placed) → is_spent tags i next ≡ false
    → entries.member_role tags i next m ≡ filled (placed_type (placing m))
open_member tags i zero None e = refl
open_member tags i zero (Some m) e = refl
open_member tags i (suc next) None e = rw e
open_member tags i (suc next) (Some m) e = rw e

pub spent_role : (tags : Tags) (i next : ℕ) (entry_by : EntryBy) → is_spent tags i next ≡ true
    → entries.structure_role tags i next entry_by ≡ Outside
spent_role tags i zero entry_by e = cc
spent_role tags i (suc next) by.Nothing e = rw e
spent_role tags i (suc next) by.Index e = refl
spent_role tags i (suc next) (by.Member x) e = rw e

pub spent_rules : (tags : Tags) (i next : ℕ) (entry_by : EntryBy) → is_spent tags i next ≡ true
    → entries.structure_entry_rules tags i next entry_by ≡ []
spent_rules tags i zero entry_by e = cc
spent_rules tags i (suc next) entry_by e = rw e

pub open_rules : (tags : Tags) (i next : ℕ) (entry_by : EntryBy) → is_spent tags i next ≡ false
    → entries.structure_entry_rules tags i next entry_by ≡ entries.designator_rules tags i entry_by
open_rules tags i zero entry_by e = refl
open_rules tags i (suc next) entry_by e = rw e

pub missing_by_place : (x : List ℕ) (found : List Placed)
    → entries.member_found_rules x found ≡ missing_rules x (placing (slice_get found 0))
missing_by_place x [] = refl
missing_by_place x (m ∷ found) = refl

pub number_by_place : (m : Option Placed) → entries.placed_number m ≡ placed_number (placing m)
number_by_place None = refl
number_by_place (Some m) = refl

-- only in a structure or union names are places
pub position_elsewhere : (tags : Tags) (type : TypeTree) (next : ℕ) (x : List ℕ) (parts : List Part) → is_structure type ≡ false
    → entries.entry_position tags (Some type) next (by.Member x) parts ≡ next
position_elsewhere tags Void next x parts e = refl
position_elsewhere tags Char next x parts e = refl
position_elsewhere tags UChar next x parts e = refl
position_elsewhere tags Short next x parts e = refl
position_elsewhere tags UShort next x parts e = refl
position_elsewhere tags Int next x parts e = refl
position_elsewhere tags UInt next x parts e = refl
position_elsewhere tags Long next x parts e = refl
position_elsewhere tags ULong next x parts e = refl
position_elsewhere tags (Pointer t) next x parts e = refl
position_elsewhere tags (Array t n) next x parts e = refl
position_elsewhere tags (Function t ts) next x parts e = refl
position_elsewhere tags (Tagged i) next x parts e = cc
