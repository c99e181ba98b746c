-- A name that the law of trees knows has a symbol.
use Rattle.std.proofs.Common.{◌≡◌, ℕ, Bool, true, List, Option, Some, None, refl}
use Rattle.p9_lang.specs.Types.{Nothing, Outer, Static, Auto, EnumValue, TypeName}
use Rattle.p9_lang.specs.Conversions.{is_function}
use Rattle.p9_lang.specs.Symbols.{Symbol}
use Rattle.p9_lower.specs.Names.{outer_symbol, static_symbol}
use Rattle.p9_lower.specs.Keeping.{is_function_at}
use Rattle.p9_lower.specs.Premises.{is_found}
use Rattle.p9_firsts.specs.Laws.{KnownNamesAreFound}

found_by : (symbols : List Symbol) (o : Option ℕ) (b : Bool) → is_function_at symbols o ≡ Some b → is_found o ≡ true
found_by symbols None b e = cc
found_by symbols (Some k) b e = refl

pub known_names_are_found : KnownNamesAreFound
known_names_are_found setting type Nothing h = refl
known_names_are_found setting type (Outer name) h = found_by setting.symbols (outer_symbol setting.symbols name) (is_function type) h
known_names_are_found setting type (Static number) h = found_by setting.symbols (static_symbol setting.symbols number) _ h
known_names_are_found setting type (Auto number) h = refl
known_names_are_found setting type (EnumValue value) h = refl
known_names_are_found setting type (TypeName other) h = refl
