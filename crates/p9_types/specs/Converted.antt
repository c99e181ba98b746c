-- What conversions answer, as plain data.
use Rattle.std.specs.Prelude.{Bool, ◌&&◌, ◌||◌}
use Rattle.p9_lang.specs.Types.{TypeTree}
use Rattle.p9_lang.specs.Conversions as conversions
use Rattle.p9_types.specs.Offsets.{kept_offset}
use Rattle.p9_types.specs.declared.converting.Conv.{Conv}
use Rattle.p9_types.specs.declared.converting.Conv.TheVariants as conv

abbrev pub told_conversion : conversions.Conversion → Conv
told_conversion conversions.Same = conv.Same
told_conversion conversions.Integer = conv.Integer
told_conversion conversions.Null = conv.Null
told_conversion (conversions.Inner offset) = conv.Inner (kept_offset offset)
told_conversion conversions.Ambiguous = conv.Ambiguous
told_conversion conversions.No = conv.No

-- a pointer to void, and one to an object
abbrev pub are_generic : TypeTree → TypeTree → Bool
are_generic from to =
    (conversions.points_to conversions.is_void from && conversions.points_to conversions.is_object to)
    || (conversions.points_to conversions.is_object from && conversions.points_to conversions.is_void to)
