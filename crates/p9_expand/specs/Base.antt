-- What the start puts into R30: the address of a built-in datum and an offset.
use Rattle.std.specs.Prelude.{ℕ, ◌+◌, ◌-◌, ◌%◌, ◌^◌, Option, Some, None, if◌then◌else◌, unwrap_or, List, [], ◌∷◌, length}
use Rattle.p9_abs.specs.declared.modules.AModule.{AModule}
use Rattle.p9_abs.specs.declared.modules.Def.{Def}
use Rattle.p9_abs.specs.BuiltIn.{linked}
use Rattle.p9_abs.specs.Programs.{same_def, offset_in, data_objects}
use Rattle.p9_place.specs.declared.placing.Spot.{Spot}
use Rattle.p9_place.specs.Places.{def_of}

-- the symbol of the built-in module that is _argv
abbrev pub argument_list : ℕ
argument_list = 1

abbrev pub base_symbol : List AModule → Def
base_symbol modules = record { «module» = length modules; symbol = argument_list }

-- R30 is so many bytes behind the data start
abbrev pub base_bytes : ℕ
base_bytes = 32766

-- so many bytes behind the data start are as many behind what lies at an offset from there
abbrev pub behind : ℕ → ℕ
behind offset = (base_bytes + 2 ^ 32 - offset) % 2 ^ 32

abbrev pub base_offset : List AModule → ℕ
base_offset modules = behind (unwrap_or (offset_in 0 (data_objects (linked modules)) (base_symbol modules)) 0)

-- the offset of a definition among spots
abbrev pub spot_offset : List Spot → Def → Option ℕ
spot_offset [] d = None
spot_offset (s ∷ rest) d = if same_def (def_of s) d then Some s.offset else spot_offset rest d
