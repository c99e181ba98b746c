-- What entries of a list are to it.
use Rattle.std.proofs.Common.{◌≡◌, List, refl}
use Rattle.p9_lang.specs.Parts.{Role, Plain, Whole, Declares, ParameterOf, InBraces, EntryOf, Fills, Assigns, Outside, in_role, Part, Frame, next_position}
use Rattle.p9_lang.specs.Opening.{list_context}
use Rattle.p9_opening.specs.Lending.{listed_type}

pub list_by_type : (f : Frame) (before : List Part)
    → list_context f before ≡ in_role (EntryOf (listed_type f.context.role) (next_position 0 before)) f.context
list_by_type f before = by f.context.role
  where
    at : Role → Frame
    at role = record f { context = in_role role f.context }

    by : (role : Role) → list_context (at role) before ≡ in_role (EntryOf (listed_type role) (next_position 0 before)) f.context
    by Plain = refl
    by Whole = refl
    by (Declares s h) = refl
    by (ParameterOf o n) = refl
    by (InBraces names) = refl
    by (EntryOf list next) = refl
    by (Fills type) = refl
    by (Assigns type) = refl
    by Outside = refl
