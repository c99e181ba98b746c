-- Parts by how many there are.
use Rattle.std.specs.Prelude.{List, [], ◌∷◌, Option, Some, None}
use Rattle.p9_lang.specs.Initialisers.{FixedPart}

abbrev pub the_one : List FixedPart → Option FixedPart
the_one (a ∷ []) = Some a
the_one others = None

abbrev pub the_two : List FixedPart → Option (FixedPart × FixedPart)
the_two (a ∷ (b ∷ [])) = Some (a, b)
the_two others = None

abbrev pub the_three : List FixedPart → Option (FixedPart × FixedPart × FixedPart)
the_three (a ∷ (b ∷ (c ∷ []))) = Some (a, b, c)
the_three others = None
