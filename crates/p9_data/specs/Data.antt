-- The bytes of objects of data.
use Rattle.std.specs.Prelude.{ℕ, List, []}
use Rattle.std.specs.Prelude.{flat_map, filter, ◌∷◌}
use Rattle.p9_abs.specs.declared.modules.Def.{Def}
use Rattle.p9_abs.specs.declared.modules.Symbol.{Symbol}
use Rattle.p9_abs.specs.Programs.{Numbered, is_data, object_bytes}
use Rattle.p9_image.specs.Text.{address_at}

-- the record of one symbol
abbrev pub one_record : Def → Symbol → List Numbered
one_record d s = record { def = d; symbol = s } ∷ []

-- of the records that are data, by tables of addresses
abbrev pub records_bytes : List (List ℕ) → List Numbered → List ℕ
records_bytes tables rs = flat_map (object_bytes (address_at tables)) (filter is_data rs)
