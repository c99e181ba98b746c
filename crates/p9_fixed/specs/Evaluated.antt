-- What nodes are before the program runs, as proofs speak of them.
use Rattle.std.specs.Prelude.{List}
use Rattle.p9_lang.specs.Types.{Tags}
use Rattle.p9_lang.specs.Initialisers.{FixedPart, fixed_part, fixed_parts}
use Rattle.p9_lang.specs.Modules.{Typed, TypedRow}

unfoldable pub part_in : Tags → Typed → FixedPart
part_in tags e = fixed_part tags e

unfoldable pub parts_in : Tags → TypedRow → List FixedPart
parts_in tags row = fixed_parts tags row
