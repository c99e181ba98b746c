-- What stands for nothing.
use Rattle.std.specs.Prelude.{Bool, true, false}
use Rattle.p9_lang.specs.Types.{Meant, Nothing, Outer, Static, Auto, EnumValue, TypeName}

abbrev pub is_nothing : Meant → Bool
is_nothing Nothing = true
is_nothing (Outer name) = false
is_nothing (Static number) = false
is_nothing (Auto number) = false
is_nothing (EnumValue value) = false
is_nothing (TypeName type) = false
