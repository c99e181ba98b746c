-- Agreement: when a type of one module is the same as a type of another, to a depth and to every
-- depth. The first type is over the first list of tags, the second over the second.
use Rattle.std.specs.Prelude.{ℕ, zero, suc, ◌+◌, ◌*◌, max, Bool, true, false, not, ◌&&◌, ◌==◌, if◌then◌else◌, IsTrue, List, [], ◌∷◌, length, slice_get, Option, Some, None}
use Rattle.p9_lang.specs.Names.{same_name}
use Rattle.p9_lang.specs.Types.{TypeTree, Void, Char, UChar, Short, UShort, Int, UInt, Long, ULong, Pointer, Array, Function, Tagged, TypeRow, none, more, MemberTree, TagTree, Tags}

-- of a marked structure only its kind and its tag are compared; one without a body counts as marked
abbrev pub open_body : TagTree → Option (List MemberTree)
open_body tag = if tag.is_marked then None else tag.members

-- types of one kind have one number
abbrev pub kind_number : TypeTree → ℕ
kind_number Void = 0
kind_number Char = 1
kind_number UChar = 2
kind_number Short = 3
kind_number UShort = 4
kind_number Int = 5
kind_number UInt = 6
kind_number Long = 7
kind_number ULong = 8
kind_number (Pointer target) = 9
kind_number (Array element n) = 10
kind_number (Function result parameters) = 11
kind_number (Tagged i) = 12

abbrev pub same_keyword : (is_union is_union_too : Bool) → Bool
same_keyword true b = b
same_keyword false b = not b

-- Parts that agree, by what says so of two types

abbrev pub rows_agree : (TypeTree → TypeTree → Bool) → TypeRow → TypeRow → Bool
rows_agree agree none none = true
rows_agree agree none (more u us) = false
rows_agree agree (more t ts) none = false
rows_agree agree (more t ts) (more u us) = agree t u && rows_agree agree ts us

abbrev pub members_agree : (TypeTree → TypeTree → Bool) → List MemberTree → List MemberTree → Bool
members_agree agree [] [] = true
members_agree agree [] (n ∷ ns) = false
members_agree agree (m ∷ ms) [] = false
members_agree agree (m ∷ ms) (n ∷ ns) = same_name m.name n.name && (agree m.type n.type && members_agree agree ms ns)

abbrev pub bodies_agree : (TypeTree → TypeTree → Bool) → Option (List MemberTree) → Option (List MemberTree) → Bool
bodies_agree agree None None = true
bodies_agree agree None (Some ns) = false
bodies_agree agree (Some ms) None = false
bodies_agree agree (Some ms) (Some ns) = members_agree agree ms ns

abbrev pub tags_agree : (TypeTree → TypeTree → Bool) → Option TagTree → Option TagTree → Bool
tags_agree agree None b = false
tags_agree agree (Some s) None = false
tags_agree agree (Some s) (Some t) =
    same_keyword s.is_union t.is_union && (same_name s.name t.name && bodies_agree agree (open_body s) (open_body t))

-- to a depth
abbrev pub agree : (depth : ℕ) → Tags → Tags → TypeTree → TypeTree → Bool
agree zero A B t u = true
agree (suc depth) A B (Pointer t) (Pointer u) = agree depth A B t u
agree (suc depth) A B (Array t m) (Array u n) = (m == n) && agree depth A B t u
agree (suc depth) A B (Function t ts) (Function u us) = agree depth A B t u && rows_agree (agree depth A B) ts us
agree (suc depth) A B (Tagged i) (Tagged j) = tags_agree (agree depth A B) (slice_get A i) (slice_get B j)
agree (suc depth) A B t u = kind_number t == kind_number u

-- Types agree where they agree to every depth.
abbrev pub Agree : Tags → Tags → TypeTree → TypeTree → Type 0
Agree A B t u = (depth : ℕ) → IsTrue (agree depth A B t u)

-- A depth that is enough: behind it each structure of the one list has been compared with each of
-- the other.

abbrev mutual
  pub height : TypeTree → ℕ
  height (Pointer target) = suc (height target)
  height (Array element n) = suc (height element)
  height (Function result parameters) = suc (max (height result) (row_height parameters))
  height t = 1

  pub row_height : TypeRow → ℕ
  row_height none = 0
  row_height (more t ts) = max (height t) (row_height ts)

abbrev pub members_height : List MemberTree → ℕ
members_height [] = 0
members_height (m ∷ ms) = max (height m.type) (members_height ms)

abbrev pub body_height : Option (List MemberTree) → ℕ
body_height None = 0
body_height (Some members) = members_height members

abbrev pub tags_height : Tags → ℕ
tags_height [] = 0
tags_height (tag ∷ tags) = max (body_height tag.members) (tags_height tags)

abbrev pub enough : Tags → Tags → TypeTree → ℕ
enough A B t = height t + length A * length B * tags_height A

abbrev pub agrees : Tags → Tags → TypeTree → TypeTree → Bool
agrees A B t u = agree (enough A B t) A B t u
