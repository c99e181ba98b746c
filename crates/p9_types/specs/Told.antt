-- What is known of types and of structures.
use Rattle.std.specs.Prelude.{ℕ, Bool, IsTrue, List, Option, Some, None, is_some, nat_eq}
use Rattle.std.specs.Map.{lookup}
use Rattle.p9_lang.specs.Types.{Tagged, Tags}
use Rattle.p9_lang.specs.Layout.{Extent, layout}
use Rattle.p9_types.specs.declared.capped.Capped.{Capped}
use Rattle.p9_types.specs.Capping.{Alike}

abbrev pub told : Capped → Extent
told c = record { size = c.size; align = c.align }

abbrev pub told_option : Option Capped → Option Extent
told_option None = None
told_option (Some c) = Some (told c)

-- structures by their numbers, with their extents where they have any
abbrev pub Table : Type 0
Table = List (ℕ × Option Capped)

abbrev pub told_entry : Option (Option Capped) → Option Extent
told_entry None = None
told_entry (Some o) = told_option o

abbrev pub is_known : Table → ℕ → Bool
is_known table i = is_some (lookup (nat_eq i) table)

abbrev pub known_extent : Table → ℕ → Option Extent
known_extent table i = told_entry (lookup (nat_eq i) table)

-- what is known of structures is so
abbrev pub IsSound : Tags → Table → Type 0
IsSound tags table = (i : ℕ) → IsTrue (is_known table i) → Alike (known_extent table i) (layout tags (Tagged i))
