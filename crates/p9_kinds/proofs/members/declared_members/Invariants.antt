use Rattle.std.proofs.Common.{◌≡◌, ◌++◌, length, reverse}
use Rattle.p9_lang.specs.Types.{TypeTree, members_of}
use Rattle.p9_lang.specs.Parts.{declared_members}
use Rattle.p9_parts.specs.Told.{parts_of}
use Rattle.p9_kinds.proofs.members.declared_members.Given as goal

abbrev pub invariant-parts : goal.invariant-parts
invariant-parts l =
    (base : TypeTree) → members_of l.members ++ declared_members base (parts_of (reverse l.left.items)) ≡ declared_members base (parts_of l.fn.parts)

abbrev pub decreases-parts : goal.decreases-parts
decreases-parts l = length l.left.items
