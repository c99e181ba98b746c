-- What entries fill: members by their places and names, and elements.
use Rattle.std.specs.Prelude.{ℕ, zero, suc, Bool, false, if◌then◌else◌, List, [], ◌∷◌, slice_get, Option, Some, None}
use Rattle.p9_lang.specs.Names.{same_name}
use Rattle.p9_lang.specs.Types.{TypeTree, MemberTree, TagTree, Tags, type_of}
use Rattle.p9_lang.specs.Rules.{Rule, NoMember}
use Rattle.p9_lang.specs.Members as members
use Rattle.p9_lang.specs.Entries.{is_union_tag}
use Rattle.p9_lang.specs.Parts as parts
use Rattle.p9_opening.specs.declared.members.Place.{Place}

-- what is filled, if there is a place for it
abbrev pub filled : Option TypeTree → parts.Role
filled None = parts.Outside
filled (Some type) = parts.Fills type

-- a member by its type and its number in the body
pub record Placing : Type 0 where
  pub type : TypeTree
  pub number : ℕ

abbrev pub told_place : Place → Placing
told_place p = record { type = type_of p.ty.now; number = p.number }

abbrev pub placing : Option members.Placed → Option Placing
placing None = None
placing (Some m) = Some (record { type = m.type; number = m.number })

abbrev pub placed_type : Option Placing → Option TypeTree
placed_type None = None
placed_type (Some p) = Some p.type

abbrev pub placed_number : Option Placing → ℕ
placed_number None = 0
placed_number (Some p) = p.number

-- the members of a structure or union; none where it has no body
abbrev pub body_members : Option (List MemberTree) → List MemberTree
body_members None = []
body_members (Some ms) = ms

abbrev pub tag_members : Option TagTree → List MemberTree
tag_members None = []
tag_members (Some tag) = body_members tag.members

-- the member of a number, if there is one
abbrev pub numbered : (number : ℕ) → Option MemberTree → Option Placing
numbered number None = None
numbered number (Some m) = Some (record { type = m.type; number = number })

-- the first member of a name, where the numbers begin at `number`
abbrev pub first_named : List ℕ → (number : ℕ) → List MemberTree → Option Placing
first_named x number [] = None
first_named x number (m ∷ ms) =
    if same_name x m.name then Some (record { type = m.type; number = number }) else first_named x (suc number) ms

-- whether an entry stands behind the one entry of a union
abbrev pub is_spent : Tags → ℕ → (next : ℕ) → Bool
is_spent tags i zero = false
is_spent tags i (suc next) = is_union_tag (slice_get tags i)

abbrev pub missing_rules : List ℕ → Option Placing → List Rule
missing_rules x None = NoMember x ∷ []
missing_rules x (Some p) = []
