-- Automatics: the objects that a block makes when it is entered, and those of parameters, which a
-- function makes of its arguments. They die when the block is left, or the function.
use Rattle.std.specs.Prelude.{ℕ, suc, ◌==◌, ◌++◌, if◌then◌else◌, true, List, [], ◌∷◌, length, replicate, slice_set, Option, Some, None}
use Rattle.p9_lang.specs.Types.{TypeTree, Tags}
use Rattle.p9_lang.specs.Layout.{size_of}
use Rattle.p9_cmean.specs.Cells.{Pointer, Into, Cell, Unset, Object, State}
use Rattle.p9_cmean.specs.Access.{dead_object}

-- an automatic that is declared, by its number in the function, with its type
pub record Declared : Type 0 where
  pub number : ℕ
  pub type : TypeTree

-- an automatic that is alive, with its object's number
pub record Living : Type 0 where
  pub automatic : ℕ
  pub object : ℕ

-- the newest first
abbrev pub living_object : List Living → (automatic : ℕ) → Option Pointer
living_object [] automatic = None
living_object (l ∷ ls) automatic = if l.automatic == automatic then Some (Into l.object 0) else living_object ls automatic

abbrev pub live_object : List Cell → Object
live_object cells = record { cells = cells; is_alive = true }

abbrev pub unset_object : Tags → Declared → Object
unset_object tags declared = live_object (replicate (size_of tags declared.type) Unset)

-- new objects have the next numbers, in the order of their declarations
abbrev pub numbered : (next : ℕ) → (automatics : List ℕ) → List Living
numbered next [] = []
numbered next (a ∷ others) = record { automatic = a; object = next } ∷ numbered (suc next) others

abbrev pub next_object : State → ℕ
next_object s = length s.objects

abbrev pub with_objects : List Object → State → State
with_objects objects s = record s { objects = s.objects ++ objects }

-- these objects die: they keep their numbers and lose their cells
abbrev pub all_dead : List Living → List Object → List Object
all_dead [] objects = objects
all_dead (l ∷ ls) objects = all_dead ls (slice_set objects l.object dead_object)

abbrev pub left : List Living → State → State
left living s = record s { objects = all_dead living s.objects }
