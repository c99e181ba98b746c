-- The objects of data as they are collected: which symbols define them, by a table of names, and how they are laid.
use Rattle.std.specs.Prelude.{ℕ, ◌+◌, ◌&&◌, Bool, true, if◌then◌else◌, List, [], ◌∷◌, bytes_eq}
use Rattle.std.specs.Map.{lookup}
use Rattle.p9_abs.specs.declared.modules.Def.{Def}
use Rattle.p9_abs.specs.declared.modules.Symbol.{Symbol}
use Rattle.p9_abs.specs.Programs.{Numbered, is_common_body, is_its_own, space_of}
use Rattle.p9_place.specs.declared.objects.Object.{Object}
use Rattle.p9_place.specs.declared.placing.Spot.{Spot}

abbrev pub object_of : Numbered → Object
object_of r = record { def = r.def; space = space_of r }

-- the record of one symbol
abbrev pub one_record : Def → Symbol → List Numbered
one_record d s = record { def = d; symbol = s } ∷ []

-- a definition is the one that its name has in a table; a local one is its own
abbrev pub is_own : List (List ℕ × Def) → Def → Symbol → Bool
is_own entries d s = if s.local then true else is_its_own d (lookup (bytes_eq s.name) entries)

-- a common object, by a table
abbrev pub is_object : List (List ℕ × Def) → Numbered → Bool
is_object entries r = is_common_body r.symbol.body && is_own entries r.def r.symbol

-- objects one behind the other from an offset on
abbrev pub laid : ℕ → List Object → List Spot
laid from [] = []
laid from (o ∷ rest) = record { «module» = o.def.«module»; symbol = o.def.symbol; offset = from } ∷ laid (from + o.space) rest
