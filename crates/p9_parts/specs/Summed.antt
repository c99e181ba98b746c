-- What is kept beside a list of parts, so that what is asked of them is known at once.
use Rattle.std.specs.Prelude.{◌≡◌, ℕ, ◌<◌, List, length, slice_get, Option, Some, None}
use Rattle.std.specs.List.{list_any}
use Rattle.p9_lang.specs.Parts.{Part, Object, last_object, member_names, object_names, parameter_types, next_value, next_position, positions}
use Rattle.p9_lang.specs.Declaring.{is_case, is_default}
use Rattle.p9_parts.specs.declared.summary.Summary.{Summary}
use Rattle.p9_parts.specs.Cases.{is_given}

-- the part that stands at an index
abbrev pub part_at : List Part → Option ℕ → Option Part
part_at list None = None
part_at list (Some at) = slice_get list at

abbrev pub IsWithin : List Part → Option ℕ → Type 0
IsWithin list None = Unit {0}
IsWithin list (Some at) = at < length list

-- the index of the last object, where the last part has this index
abbrev pub object_with : (before : Option ℕ) (at : ℕ) → Part → Option ℕ
object_with before at (Object type steps last role) = Some at
object_with before at other = before

pub record IsSummary (summary : Summary) (list : List Part) : Type 0 where
  pub within : IsWithin list summary.object
  pub last : part_at list summary.object ≡ last_object list
  pub members : summary.names.members ≡ member_names list
  pub objects : summary.names.objects ≡ object_names list
  pub parameters : summary.counts.parameters ≡ length (parameter_types list)
  pub value : summary.counts.value ≡ next_value 0 list
  pub position : summary.counts.position ≡ next_position 0 list
  pub positions_of_all : summary.counts.positions ≡ positions 0 list
  pub cases : (word : ℕ) → is_given summary.labels.cases.keys word ≡ list_any (is_case word) list
  pub default : summary.labels.has_default ≡ list_any is_default list
