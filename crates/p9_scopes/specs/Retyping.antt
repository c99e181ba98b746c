-- A declaration in a list with another type.
use Rattle.std.specs.Prelude.{◌≡◌, ℕ, List, slice_get, slice_set, Option, Some, None}
use Rattle.p9_lang.specs.declared.types.CType.{CType}
use Rattle.p9_scopes.specs.declared.declared.Declared.{Declared}

-- the declaration at this place, if there is one, has this type
abbrev pub Retypes : ℕ → CType → List Declared → List Declared → Type 0
Retypes at type before after =
    (d : Declared) → slice_get before at ≡ Some d → after ≡ slice_set before at (record d { ty = type })

abbrev pub RetypesIf : Option ℕ → CType → List Declared → List Declared → Type 0
RetypesIf None type before after = after ≡ before
RetypesIf (Some at) type before after = Retypes at type before after
