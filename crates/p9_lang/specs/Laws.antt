-- Laws of layout and of agreement.
use Rattle.std.specs.Prelude.{◌≡◌, ◌≤◌, ℕ, ◌+◌, ◌*◌, Bool, true, false, IsTrue, List, [], ◌∷◌, length, slice_get, Some}
use Rattle.p9_lang.specs.Types.{TypeTree, Tagged, MemberTree, TagTree, Tags}
use Rattle.p9_lang.specs.Layout.{Extent, layout, size_of, alignment_of, body_extent}
use Rattle.p9_lang.specs.Members.{Placed, placed}
use Rattle.p9_lang.specs.Agreement.{Agree, agrees}
use Rattle.p9_lang.specs.TagRules.{NoneContainsItself}

-- where no structure contains itself, the extent of each is that of its members in order, whose
-- extents are the same ones
abbrev pub LayoutIsThatOfMembers : Type 0
LayoutIsThatOfMembers =
    (tags : Tags) (i : ℕ) → NoneContainsItself tags
    → layout tags (Tagged i) ≡ body_extent (λ j. layout tags (Tagged j)) (slice_get tags i)

-- a member stands inside its structure, at a multiple of its alignment
pub record IsPlacedIn (tags : Tags) (size : ℕ) (m : Placed) : Type 0 where
  pub inside : m.offset + size_of tags m.type ≤ size
  pub aligned : (k : ℕ) × (m.offset ≡ k * alignment_of tags m.type)

abbrev pub ArePlacedIn : Tags → (size : ℕ) → List Placed → Type 0
ArePlacedIn tags size [] = Unit {0}
ArePlacedIn tags size (m ∷ ms) = IsPlacedIn tags size m × ArePlacedIn tags size ms

-- members stand one behind the other
abbrev pub StandFrom : Tags → (end : ℕ) → List Placed → Type 0
StandFrom tags end [] = Unit {0}
StandFrom tags end (m ∷ ms) = (end ≤ m.offset) × StandFrom tags (m.offset + size_of tags m.type) ms

-- of a union all stand at its start
abbrev pub StandAtStart : List Placed → Type 0
StandAtStart [] = Unit {0}
StandAtStart (m ∷ ms) = (m.offset ≡ 0) × StandAtStart ms

abbrev pub StandApart : Tags → (is_union : Bool) → List Placed → Type 0
StandApart tags false ms = StandFrom tags 0 ms
StandApart tags true ms = StandAtStart ms

abbrev pub MembersArePlaced : Type 0
MembersArePlaced =
    (tags : Tags) (i : ℕ) (tag : TagTree) (e : Extent) → NoneContainsItself tags → slice_get tags i ≡ Some tag
    → layout tags (Tagged i) ≡ Some e
    → ArePlacedIn tags e.size (placed tags i) × StandApart tags tag.is_union (placed tags i)

-- what has a body keeps it
abbrev pub KeepsBodies : (before after : Tags) → Type 0
KeepsBodies before after =
    (i : ℕ) (tag : TagTree) (members : List MemberTree) → slice_get before i ≡ Some tag → tag.members ≡ Some members
    → (later : TagTree) × (slice_get after i ≡ Some later) × (later.members ≡ Some members) × (later.is_union ≡ tag.is_union)

-- a type that is complete keeps its size and alignment when more structures and bodies come
abbrev pub LayoutsStay : Type 0
LayoutsStay =
    (before after : Tags) (type : TypeTree) (e : Extent) → KeepsBodies before after → length before ≤ length after
    → layout before type ≡ Some e → layout after type ≡ Some e

-- the depth to which `agrees` looks is enough for every depth
abbrev pub AgreementIsDecided : Type 0
AgreementIsDecided = (A B : Tags) (t u : TypeTree) → IsTrue (agrees A B t u) → Agree A B t u
