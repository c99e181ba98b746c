-- Names for types while a file is typed: none stands for an array whose length isn't known.
use Rattle.std.specs.Prelude.{◌≡◌, zero, suc, List, [], ◌∷◌, Ok}
use Rattle.p9_lang.specs.Trees.{Syntax}
use Rattle.p9_lang.specs.Types.{TypeTree, Void, Char, UChar, Short, UShort, Int, UInt, Long, ULong, Pointer, Array, Function, Tagged, Meant, Nothing, Outer, Static, Auto, EnumValue, TypeName}
use Rattle.p9_lang.specs.Scopes.{Known, Declared}
use Rattle.p9_lang.specs.Parts.{Context, Part}
use Rattle.p9_lang.specs.Typing.{judge}

abbrev pub HasItsLength : TypeTree → Type 0
HasItsLength (Array element zero) = ⊥
HasItsLength (Array element (suc n)) = Unit {0}
HasItsLength Void = Unit {0}
HasItsLength Char = Unit {0}
HasItsLength UChar = Unit {0}
HasItsLength Short = Unit {0}
HasItsLength UShort = Unit {0}
HasItsLength Int = Unit {0}
HasItsLength UInt = Unit {0}
HasItsLength Long = Unit {0}
HasItsLength ULong = Unit {0}
HasItsLength (Pointer target) = Unit {0}
HasItsLength (Function result parameters) = Unit {0}
HasItsLength (Tagged i) = Unit {0}

abbrev pub NamesItsLength : Meant → Type 0
NamesItsLength (TypeName type) = HasItsLength type
NamesItsLength Nothing = Unit {0}
NamesItsLength (Outer name) = Unit {0}
NamesItsLength (Static number) = Unit {0}
NamesItsLength (Auto number) = Unit {0}
NamesItsLength (EnumValue value) = Unit {0}

abbrev pub AllName : List Meant → Type 0
AllName [] = Unit {0}
AllName (m ∷ ms) = NamesItsLength m × AllName ms

abbrev pub LevelIsClosed : List Declared → Type 0
LevelIsClosed [] = Unit {0}
LevelIsClosed (d ∷ ds) = NamesItsLength d.means × LevelIsClosed ds

abbrev pub LevelsAreClosed : List (List Declared) → Type 0
LevelsAreClosed [] = Unit {0}
LevelsAreClosed (level ∷ levels) = LevelIsClosed level × LevelsAreClosed levels

pub record IsClosed (s : Known) : Type 0 where
  pub names : LevelsAreClosed s.names
  pub means : AllName s.means

-- so it is behind a tree that is typed, where it was so before
abbrev pub TypedefsHaveLengths : Type 0
TypedefsHaveLengths =
    (t : Syntax) (c : Context) (s : Known) (r : Part × Known) → IsClosed s → judge t c s ≡ Ok r → IsClosed r.1
