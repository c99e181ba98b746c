-- Operands by how many there are.
use Rattle.std.specs.Prelude.{List, [], ◌∷◌, Option, Some, None}
use Rattle.p9_lang.specs.Constants.{Operand}

abbrev pub the_one : List Operand → Option Operand
the_one (a ∷ []) = Some a
the_one others = None

abbrev pub the_two : List Operand → Option (Operand × Operand)
the_two (a ∷ (b ∷ [])) = Some (a, b)
the_two others = None

abbrev pub the_three : List Operand → Option (Operand × Operand × Operand)
the_three (a ∷ (b ∷ (c ∷ []))) = Some (a, b, c)
the_three others = None
