-- Groups of lines between `#ifdef` or `#ifndef` and `#endif`, the innermost first.
use Rattle.std.specs.Prelude.{◌≡◌, Bool, true, false, not, List, [], ◌∷◌, Option, Some, None, Result, Ok, Err, if◌then◌else◌}
use Rattle.p9_cpp.specs.declared.groups.Group.{Group}
use Rattle.p9_cpp.specs.declared.groups.Group.TheVariants.{Open, Nested}

-- whether lines count there
abbrev pub is_live : List Group → Bool
is_live [] = true
is_live (Open live turned ∷ gs) = live
is_live (Nested ∷ gs) = false

-- Behind an `#else`: in a group that decides it stands alone, and once.
abbrev pub turned : (alone : Bool) → List Group → Option (List Group)
turned alone [] = None
turned alone (Open live true ∷ gs) = None
turned alone (Open live false ∷ gs) = if alone then Some (Open (not live) true ∷ gs) else None
turned alone (Nested ∷ gs) = Some (Nested ∷ gs)

-- Behind an `#endif`: of a group that decides it stands alone.
abbrev pub closed : (alone : Bool) → List Group → Option (List Group)
closed alone [] = None
closed alone (Open live turned ∷ gs) = if alone then Some gs else None
closed alone (Nested ∷ gs) = Some gs

-- the groups that are told, or `false` where there are none
abbrev pub IsChanged : {E : Type 0} → Result Bool E → Option (List Group) → List Group → Type 0
IsChanged (Ok true) o groups = o ≡ Some groups
IsChanged (Ok false) o groups = o ≡ None
IsChanged (Err e) o groups = Unit {0}
