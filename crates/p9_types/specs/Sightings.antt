-- What searches answer, as plain data.
use Rattle.std.specs.Prelude.{ℕ, Bool, true, false, List, map, Option, Some, None}
use Rattle.std.specs.List.{filter}
use Rattle.p9_lang.specs.Names.{same_name}
use Rattle.p9_types.specs.declared.sought.Sought.{Sought}
use Rattle.p9_types.specs.declared.sought.Sought.TheVariants as sight
use Rattle.p9_types.specs.declared.finding.MemberPlace.{MemberPlace}
use Rattle.p9_types.specs.declared.finding.Found.{Found}
use Rattle.p9_types.specs.declared.finding.Found.TheVariants as found
use Rattle.p9_lang.specs.Types.{MemberTree, TagTree, Tags}
use Rattle.p9_lang.specs.Members as members
use Rattle.p9_types.specs.Offsets.{kept_offset}

abbrev pub told_sought : {T : Type 0} → Sought T → members.Sought T
told_sought sight.Nowhere = members.Nowhere
told_sought (sight.One x) = members.One x
told_sought sight.Several = members.Several

-- what is sought, told in another way
abbrev pub sought_map : {A B : Type 0} → (A → B) → members.Sought A → members.Sought B
sought_map tell members.Nowhere = members.Nowhere
sought_map tell (members.One x) = members.One (tell x)
sought_map tell members.Several = members.Several

-- a member's place, without its type, which is written there
abbrev pub place_of : members.FoundMember → MemberPlace
place_of m = record { offset = kept_offset m.offset; tag = m.tag; member = m.number }

-- the members of a part that have a name, among these
abbrev pub named_among : List ℕ → members.Part → List members.Placed → List MemberPlace
named_among x part ms = map place_of (map (members.found_member part) (filter (λ m. same_name x m.name) ms))

-- the members of a part that have a name
abbrev pub named_places : Tags → List ℕ → members.Part → List MemberPlace
named_places tags x part = named_among x part (members.placed tags part.tag)

-- whether a structure or union has a body
abbrev pub has_members : Option (List MemberTree) → Bool
has_members None = false
has_members (Some members) = true

abbrev pub has_body : Option TagTree → Bool
has_body None = false
has_body (Some tag) = has_members tag.members

-- an answer without the member's type
abbrev pub without_type : members.Found → Found
without_type (members.At offset tag number type) = found.At (kept_offset offset) tag number
without_type members.Missing = found.Missing
without_type members.Ambiguous = found.Ambiguous
without_type members.Incomplete = found.Incomplete
