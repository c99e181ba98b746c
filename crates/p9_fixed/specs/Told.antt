-- What is fixed before the program runs, as plain data.
use Rattle.std.specs.Prelude.{List, [], ◌∷◌}
use Rattle.p9_lang.specs.Types.{type_of}
use Rattle.p9_lang.specs.Initialisers as specs
use Rattle.p9_fixed.specs.declared.kinds.Base.{Base}
use Rattle.p9_fixed.specs.declared.kinds.Base.TheVariants as base
use Rattle.p9_fixed.specs.declared.kinds.Fixed.{Fixed}
use Rattle.p9_fixed.specs.declared.kinds.Fixed.TheVariants as fixed
use Rattle.p9_fixed.specs.declared.kinds.FixedPart.{FixedPart}

abbrev pub told_base : Base → specs.Base
told_base (base.Outer name) = specs.OuterBase name.now
told_base (base.Static number) = specs.StaticBase number

abbrev pub told_fixed : Fixed → specs.Fixed
told_fixed (fixed.Number word) = specs.Number word
told_fixed (fixed.Address base offset) = specs.Address (told_base base) offset
told_fixed fixed.NotFixed = specs.NotFixed

abbrev pub told_part : FixedPart → specs.FixedPart
told_part p = record { type = type_of p.ty.now; value = told_fixed p.value; address = told_fixed p.address }

abbrev pub told_parts : List FixedPart → List specs.FixedPart
told_parts [] = []
told_parts (p ∷ ps) = told_part p ∷ told_parts ps
