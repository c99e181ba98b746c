-- Where data lie, from the start of the data, and when they are too many.
use Rattle.std.specs.Prelude.{ℕ, ◌+◌, ◌≡◌, ◌<◌, Some, List, [], ◌∷◌, All}
use Rattle.p9_abs.specs.declared.modules.AModule.{AModule}
use Rattle.p9_abs.specs.declared.modules.Def.{Def}
use Rattle.p9_abs.specs.Programs.{Numbered, space_of, offset_in, data_objects, init_size, bss_size}
use Rattle.p9_place.specs.declared.placing.PlaceFault.{PlaceFault}
use Rattle.p9_place.specs.declared.placing.PlaceFault.TheVariants.{DataTooLarge, Memory}
use Rattle.p9_place.specs.declared.placing.Spot.{Spot}

-- objects one behind the other from an offset on, each in the bytes of its size rounded up to 4
abbrev pub spots : ℕ → List Numbered → List Spot
spots from [] = []
spots from (r ∷ rest) = record { «module» = r.def.«module»; symbol = r.def.symbol; offset = from } ∷ spots (from + space_of r) rest

-- the bytes of all objects
abbrev pub object_bytes : List AModule → ℕ
object_bytes ms = init_size ms + bss_size ms

abbrev pub def_of : Spot → Def
def_of s = record { «module» = s.«module»; symbol = s.symbol }

-- each has the offset that the run of the modules goes by
abbrev pub ArePlaced : List AModule → List Spot → Type 0
ArePlaced ms places = All (λ (s : Spot). offset_in 0 (data_objects ms) (def_of s) ≡ Some s.offset) places

-- of so many bytes there are too many, or memory ran out
abbrev pub IsTooLarge : ℕ → PlaceFault → Type 0
IsTooLarge size (DataTooLarge n) = (n ≡ size) × (16777216 < n)
IsTooLarge size Memory = Unit {0}

-- the refusal, with the number of bytes
abbrev pub IsRefusal : List AModule → PlaceFault → Type 0
IsRefusal ms fault = IsTooLarge (object_bytes ms) fault
