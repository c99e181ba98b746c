-- The numbers that functions take.
use Rattle.std.specs.Prelude.{ℕ, ◌+◌, length}
use Rattle.p9_abs.specs.Runs.{Routine}

-- one for its entry, and one for each of its instructions
abbrev pub places_of : Routine → ℕ
places_of r = length r.def.code + 1
