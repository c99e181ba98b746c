-- Offsets. One is told exactly where it is within the limit, and of one beyond it only that it is
-- there; while they are added up, those beyond count as alike.
use Rattle.std.specs.Prelude.{ℕ, nat_le, if◌then◌else◌, List, map, Option, Some, None}
use Rattle.std.specs.List.{flat_map}
use Rattle.p9_lang.specs.Types.{Tags}
use Rattle.p9_lang.specs.Layout.{size_limit}
use Rattle.p9_lang.specs.Members.{Part, Placed, unnamed_part, placed, offset_if}
use Rattle.p9_types.specs.Capping.{capped}

abbrev pub kept_offset : ℕ → Option ℕ
kept_offset n = if nat_le n size_limit then Some n else None

abbrev pub cut_part : Part → Part
cut_part p = record { offset = capped p.offset; tag = p.tag }

abbrev pub cut_placed : Placed → Placed
cut_placed m = record { name = m.name; type = m.type; offset = capped m.offset; number = m.number }

-- the unnamed substructure that a member is
abbrev pub cut_unnamed : (offset : ℕ) → Placed → List Part
cut_unnamed offset m = map cut_part (unnamed_part offset m)

-- the unnamed substructures that stand directly in one
abbrev pub cut_inner : Tags → Part → List Part
cut_inner tags part = flat_map (cut_unnamed part.offset) (placed tags part.tag)

-- where a part begins, if it is the structure with a number
abbrev pub kept_if : ℕ → Part → List (Option ℕ)
kept_if tag part = map kept_offset (offset_if tag part)
