-- Members and structures at a level, as plain data.
use Rattle.std.specs.Prelude.{ℕ, ◌||◌, Bool, true, false, List, [], ◌∷◌, ◌++◌, nat_eq, Option, Some, None}
use Rattle.std.specs.HashSet.{contains}
use Rattle.p9_lang.specs.Types.{type_of}
use Rattle.p9_lang.specs.Members.{Part, Placed}
use Rattle.p9_types.specs.declared.level.Standing.{Standing}
use Rattle.p9_types.specs.declared.level.Place.{Place}
use Rattle.p9_types.specs.declared.level.MetTags.{MetTags}
use Rattle.p9_types.specs.declared.placing.Placing.{Placing}
use Rattle.p9_types.specs.Levels.{copies}

abbrev pub placing_of : Placing → Placed
placing_of p = record { name = p.member.now.name; type = type_of p.member.now.ty; offset = p.offset; number = p.number }

abbrev pub all_placed : List Placing → List Placed
all_placed [] = []
all_placed (p ∷ ps) = placing_of p ∷ all_placed ps

abbrev pub part_of : Standing → Part
part_of s = record { offset = s.offset; tag = s.tag }

abbrev pub copies_of : Standing → List Part
copies_of s = copies s.several (part_of s)

abbrev pub spread : List Standing → List Part
spread [] = []
spread (s ∷ ss) = copies_of s ++ spread ss

abbrev pub entry_copies : ℕ × Place → List Part
entry_copies e = copies e.1.several (record { offset = e.1.offset; tag = e.0 })

abbrev pub spread_entries : List (ℕ × Place) → List Part
spread_entries [] = []
spread_entries (e ∷ es) = entry_copies e ++ spread_entries es

-- whether a structure stands at a level
abbrev pub stands_in : ℕ → List Standing → Bool
stands_in i [] = false
stands_in i (s ∷ ss) = nat_eq s.tag i || stands_in i ss

-- a structure's place with one standing more
abbrev pub place_with : Option Place → Standing → Place
place_with None s = record { offset = s.offset; several = s.several }
place_with (Some p) s = record { offset = p.offset; several = true }

-- whether a structure was met
abbrev pub met_by : MetTags → ℕ → Bool
met_by met i = contains nat_eq met.set i
