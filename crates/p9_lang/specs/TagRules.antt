-- Which lists of structures and unions are valid, and when a type's structures can be told apart by
-- their tags.
use Rattle.std.specs.Prelude.{◌≡◌, ◌<◌, ℕ, zero, suc, Bool, true, false, not, ◌&&◌, ◌||◌, ◌==◌, nat_le, nat_lt, IsTrue, List, [], ◌∷◌, length, slice_get, Option, Some, None}
use Rattle.std.specs.List.{list_all}
use Rattle.p9_lang.specs.Names.{same_name, is_nameless}
use Rattle.p9_lang.specs.Types.{TypeTree, Pointer, Array, Function, Tagged, TypeRow, none, more, MemberTree, TagTree, Tags}

-- NAMES AND NUMBERS

abbrev pub is_letter : ℕ → Bool
is_letter b = (nat_le 97 b && nat_le b 122) || ((nat_le 65 b && nat_le b 90) || b == 95)

abbrev pub is_letter_or_digit : ℕ → Bool
is_letter_or_digit b = is_letter b || (nat_le 48 b && nat_le b 57)

-- a letter or `_`, then letters, digits and `_`, at most 255 in all
abbrev pub is_name : List ℕ → Bool
is_name [] = false
is_name (b ∷ bs) = is_letter b && (list_all is_letter_or_digit bs && nat_le (length bs) 254)

abbrev pub is_name_or_none : List ℕ → Bool
is_name_or_none [] = true
is_name_or_none (b ∷ bs) = is_name (b ∷ bs)

-- a type over a number of structures; arrays have lengths from 1
abbrev mutual
  pub is_type_over : ℕ → TypeTree → Bool
  is_type_over n (Pointer target) = is_type_over n target
  is_type_over n (Array element count) = nat_le 1 count && is_type_over n element
  is_type_over n (Function result parameters) = is_type_over n result && are_types_over n parameters
  is_type_over n (Tagged i) = nat_lt i n
  is_type_over n type = true

  pub are_types_over : ℕ → TypeRow → Bool
  are_types_over n none = true
  are_types_over n (more first others) = is_type_over n first && are_types_over n others

abbrev pub is_member_over : ℕ → MemberTree → Bool
is_member_over n m = is_name_or_none m.name && is_type_over n m.type

-- one without a tag has a body and no mark
abbrev pub is_body_over : ℕ → (is_nameless is_marked : Bool) → Option (List MemberTree) → Bool
is_body_over n is_nameless is_marked None = not is_nameless
is_body_over n is_nameless is_marked (Some members) = not (is_nameless && is_marked) && list_all (is_member_over n) members

abbrev pub is_tag_over : ℕ → TagTree → Bool
is_tag_over n tag = is_name_or_none tag.name && is_body_over n (is_nameless tag.name) tag.is_marked tag.members

-- CHAINS. A chain of structures, each a part of the one before, has at most as many as there are
-- structures, so none contains itself.

-- what holds of the structures that an object of a type contains
abbrev pub Within : (ℕ → Type 0) → TypeTree → Type 0
Within holds (Array element n) = Within holds element
Within holds (Tagged i) = holds i
Within holds type = Unit {0}

abbrev pub AreWithin : (ℕ → Type 0) → List MemberTree → Type 0
AreWithin holds [] = Unit {0}
AreWithin holds (m ∷ ms) = Within holds m.type × AreWithin holds ms

abbrev pub BodyWithin : (ℕ → Type 0) → Option (List MemberTree) → Type 0
BodyWithin holds None = Unit {0}
BodyWithin holds (Some members) = AreWithin holds members

abbrev pub TagWithin : (ℕ → Type 0) → Option TagTree → Type 0
TagWithin holds None = Unit {0}
TagWithin holds (Some tag) = BodyWithin holds tag.members

-- chains from structure i are at most this long
abbrev pub Ends : (length : ℕ) → Tags → ℕ → Type 0
Ends zero tags i = ⊥
Ends (suc n) tags i = TagWithin (Ends n tags) (slice_get tags i)

abbrev pub NoneContainsItself : Tags → Type 0
NoneContainsItself tags = (i : ℕ) → i < length tags → Ends (length tags) tags i

-- Likewise of structures without a tag, each named in the body of the one before, in any way: every
-- cycle passes one with a tag.

abbrev mutual
  pub Mentioned : (ℕ → Type 0) → TypeTree → Type 0
  Mentioned holds (Pointer target) = Mentioned holds target
  Mentioned holds (Array element n) = Mentioned holds element
  Mentioned holds (Function result parameters) = Mentioned holds result × AreMentioned holds parameters
  Mentioned holds (Tagged i) = holds i
  Mentioned holds type = Unit {0}

  pub AreMentioned : (ℕ → Type 0) → TypeRow → Type 0
  AreMentioned holds none = Unit {0}
  AreMentioned holds (more first others) = Mentioned holds first × AreMentioned holds others

abbrev pub MembersMention : (ℕ → Type 0) → List MemberTree → Type 0
MembersMention holds [] = Unit {0}
MembersMention holds (m ∷ ms) = Mentioned holds m.type × MembersMention holds ms

abbrev pub BodyMentions : (ℕ → Type 0) → Option (List MemberTree) → Type 0
BodyMentions holds None = Unit {0}
BodyMentions holds (Some members) = MembersMention holds members

abbrev pub UnlessNamed : List ℕ → Type 0 → Type 0
UnlessNamed [] holds = holds
UnlessNamed (b ∷ bs) holds = Unit {0}

abbrev pub TagMentions : (ℕ → Type 0) → Option TagTree → Type 0
TagMentions holds None = Unit {0}
TagMentions holds (Some tag) = UnlessNamed tag.name (BodyMentions holds tag.members)

abbrev pub NamelessEnds : (length : ℕ) → Tags → ℕ → Type 0
NamelessEnds zero tags i = ⊥
NamelessEnds (suc n) tags i = TagMentions (NamelessEnds n tags) (slice_get tags i)

pub record AreValid (tags : Tags) : Type 0 where
  pub in_range : IsTrue (list_all (is_tag_over (length tags)) tags)
  pub none_contains_itself : NoneContainsItself tags
  pub cycles_are_named : (i : ℕ) → i < length tags → NamelessEnds (length tags) tags i

-- PLAIN TAGS

-- a type reaches a structure that it mentions, and what the bodies of those mention, to a depth
abbrev mutual
  pub mentions : (ℕ → Bool) → TypeTree → Bool
  mentions test (Pointer target) = mentions test target
  mentions test (Array element n) = mentions test element
  mentions test (Function result parameters) = mentions test result || row_mentions test parameters
  mentions test (Tagged i) = test i
  mentions test type = false

  pub row_mentions : (ℕ → Bool) → TypeRow → Bool
  row_mentions test none = false
  row_mentions test (more first others) = mentions test first || row_mentions test others

abbrev pub members_mention : (ℕ → Bool) → List MemberTree → Bool
members_mention test [] = false
members_mention test (m ∷ ms) = mentions test m.type || members_mention test ms

abbrev pub body_mentions : (ℕ → Bool) → Option (List MemberTree) → Bool
body_mentions test None = false
body_mentions test (Some members) = members_mention test members

abbrev pub tag_mentions : (ℕ → Bool) → Option TagTree → Bool
tag_mentions test None = false
tag_mentions test (Some tag) = body_mentions test tag.members

abbrev pub leads_to : (depth : ℕ) → Tags → (i j : ℕ) → Bool
leads_to zero tags i j = j == i
leads_to (suc depth) tags i j = (j == i) || tag_mentions (leads_to depth tags i) (slice_get tags j)

abbrev pub reaches : (depth : ℕ) → Tags → TypeTree → (i : ℕ) → Bool
reaches depth tags type i = mentions (leads_to depth tags i) type

abbrev pub name_at : Option TagTree → List ℕ
name_at None = []
name_at (Some tag) = tag.name

-- no two structures that the type reaches share a tag
abbrev pub ArePlainFor : Tags → TypeTree → Type 0
ArePlainFor tags type =
    (depth i j : ℕ) → IsTrue (reaches depth tags type i) → IsTrue (reaches depth tags type j)
    → IsTrue (not (is_nameless (name_at (slice_get tags i))))
    → IsTrue (same_name (name_at (slice_get tags i)) (name_at (slice_get tags j)))
    → i ≡ j
