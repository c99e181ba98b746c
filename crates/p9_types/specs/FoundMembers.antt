-- The member that an answer tells, as it is written in its structure's body.
use Rattle.std.specs.Prelude.{◌≡◌, ℕ, IsTrue, List, slice_get, Option, Some, None}
use Rattle.p9_lang.specs.Names.{same_name}
use Rattle.p9_lang.specs.Types.{MemberTree, TagTree, Tags}
use Rattle.p9_lang.specs.Members as members
use Rattle.p9_types.specs.Offsets.{kept_offset}
use Rattle.p9_types.specs.declared.finding.Found.{Found}
use Rattle.p9_types.specs.declared.finding.Found.TheVariants.{At, Missing, Ambiguous, Incomplete}

abbrev pub member_in_body : Option (List MemberTree) → ℕ → Option MemberTree
member_in_body None number = None
member_in_body (Some written) number = slice_get written number

abbrev pub member_in : Option TagTree → ℕ → Option MemberTree
member_in None number = None
member_in (Some tag) number = member_in_body tag.members number

-- the body of the structure has a member of that name at that number, whose type is the one found
pub record IsWritten (tags : Tags) (i : ℕ) (x : List ℕ) (offset : Option ℕ) (tag number : ℕ) : Type 0 where
  pub begins : ℕ
  pub member : MemberTree
  pub stands : member_in (slice_get tags tag) number ≡ Some member
  pub named : IsTrue (same_name x member.name)
  pub found : members.find_member tags i x ≡ members.At begins tag number member.type
  pub told : offset ≡ kept_offset begins

abbrev pub TellsMember : Tags → ℕ → List ℕ → Found → Type 0
TellsMember tags i x (At offset tag number) = IsWritten tags i x offset tag number
TellsMember tags i x Missing = Unit {0}
TellsMember tags i x Ambiguous = Unit {0}
TellsMember tags i x Incomplete = Unit {0}
