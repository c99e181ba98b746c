-- Layout: how many bytes an object of a type has, what its offset is a multiple of, and where the
-- members of a structure or union stand.
use Rattle.std.specs.Prelude.{ℕ, zero, suc, ◌+◌, ◌-◌, ◌*◌, ◌/◌, max, Bool, true, false, nat_le, List, [], ◌∷◌, length, slice_get, Option, Some, None}
use Rattle.p9_lang.specs.Types.{TypeTree, Void, Char, UChar, Short, UShort, Int, UInt, Long, ULong, Pointer, Array, Function, Tagged, MemberTree, TagTree, Tags}

pub record Extent : Type 0 where
  pub size : ℕ
  pub align : ℕ

abbrev pub on_some : {A B : Type 0} → Option A → (A → Option B) → Option B
on_some (Some x) next = next x
on_some None next = None

-- the next multiple of an alignment
abbrev pub rounded : (n align : ℕ) → ℕ
rounded n align = (n + (align - 1)) / align * align

-- the alignment of a number or a pointer is its size
abbrev pub scalar : ℕ → Option Extent
scalar n = Some (record { size = n; align = n })

-- an array whose length isn't known yet is written with length 0
abbrev pub repeated : ℕ → Extent → Option Extent
repeated zero element = None
repeated (suc n) element = Some (record { size = element.size * suc n; align = element.align })

-- The extent of a type, by those of tags. Void, functions, arrays without a length and structures
-- without a body have none: their types are incomplete.
abbrev pub extent : (ℕ → Option Extent) → TypeTree → Option Extent
extent of_tag Void = None
extent of_tag Char = scalar 1
extent of_tag UChar = scalar 1
extent of_tag Short = scalar 2
extent of_tag UShort = scalar 2
extent of_tag Int = scalar 4
extent of_tag UInt = scalar 4
extent of_tag Long = scalar 4
extent of_tag ULong = scalar 4
extent of_tag (Pointer target) = scalar 4
extent of_tag (Array element n) = on_some (extent of_tag element) (repeated n)
extent of_tag (Function result parameters) = None
extent of_tag (Tagged i) = of_tag i

-- where a member begins: in a structure at the next multiple of its alignment, in a union at 0
abbrev pub member_offset : (is_union : Bool) → (so_far member : Extent) → ℕ
member_offset false so_far member = rounded so_far.size member.align
member_offset true so_far member = 0

-- what is filled with one member more
abbrev pub with_member : (is_union : Bool) → (so_far member : Extent) → Extent
with_member is_union so_far member = record {
  size = max so_far.size (member_offset is_union so_far member + member.size);
  align = max so_far.align member.align;
}

abbrev pub nothing_yet : Extent
nothing_yet = record { size = 0; align = 1 }

abbrev pub filled : (ℕ → Option Extent) → (is_union : Bool) → Extent → List MemberTree → Option Extent
filled of_tag is_union so_far [] = Some so_far
filled of_tag is_union so_far (m ∷ ms) =
    on_some (extent of_tag m.type) (λ e. filled of_tag is_union (with_member is_union so_far e) ms)

-- the size of the whole is a multiple of its alignment
abbrev pub closed : Extent → Extent
closed e = record { size = rounded e.size e.align; align = e.align }

abbrev pub members_extent : (ℕ → Option Extent) → (is_union : Bool) → Option (List MemberTree) → Option Extent
members_extent of_tag is_union None = None
members_extent of_tag is_union (Some members) =
    on_some (filled of_tag is_union nothing_yet members) (λ e. Some (closed e))

abbrev pub body_extent : (ℕ → Option Extent) → Option TagTree → Option Extent
body_extent of_tag None = None
body_extent of_tag (Some tag) = members_extent of_tag tag.is_union tag.members

-- structures within structures, to a depth; no structure contains itself, so none is deeper than
-- there are tags
abbrev pub tag_extent : (depth : ℕ) → Tags → ℕ → Option Extent
tag_extent zero tags i = None
tag_extent (suc depth) tags i = body_extent (tag_extent depth tags) (slice_get tags i)

abbrev pub layout : Tags → TypeTree → Option Extent
layout tags type = extent (tag_extent (length tags) tags) type

-- an incomplete type has no layout; as a number its size counts as 0 and its alignment as 1
abbrev pub size_in : Option Extent → ℕ
size_in None = 0
size_in (Some e) = e.size

abbrev pub alignment_in : Option Extent → ℕ
alignment_in None = 1
alignment_in (Some e) = e.align

abbrev pub size_of : Tags → TypeTree → ℕ
size_of tags type = size_in (layout tags type)

abbrev pub alignment_of : Tags → TypeTree → ℕ
alignment_of tags type = alignment_in (layout tags type)

abbrev pub has_layout : Option Extent → Bool
has_layout None = false
has_layout (Some e) = true

abbrev pub is_complete : Tags → TypeTree → Bool
is_complete tags type = has_layout (layout tags type)

-- no type has more bytes
abbrev pub size_limit : ℕ
size_limit = 16777216

abbrev pub is_within_limit : Tags → TypeTree → Bool
is_within_limit tags type = nat_le (size_of tags type) size_limit
