-- What the calls of a run brought and put, whatever the objects tell.
use Rattle.std.specs.Prelude.{◌≡◌, ℕ, ◌+◌, List, [], ◌∷◌, ◌++◌, take, drop, map}
use Rattle.p9_base.specs.declared.outside.Took as took
use Rattle.p9_base.specs.declared.outside.Put as put
use Rattle.p9_base.specs.Outside.{TakeCall, Take, PutCall, PutPiece}
use Rattle.p9_base.specs.Calls.{StreamCall, OnInput, OnOut}

-- The bytes of calls

-- a take that got n brought the first n bytes of its room as it was left
abbrev pub brought_by : TakeCall → List ℕ
brought_by (Take room filled (took.TheVariants.Got n)) = take n filled
brought_by (Take room filled took.TheVariants.End) = []
brought_by (Take room filled took.TheVariants.Failed) = []

abbrev pub brought : List TakeCall → List ℕ
brought [] = []
brought (call ∷ calls) = brought_by call ++ brought calls

-- what a take left of its room, past what it brought
abbrev pub rest_by : TakeCall → List ℕ
rest_by (Take room filled (took.TheVariants.Got n)) = drop n filled
rest_by (Take room filled took.TheVariants.End) = filled
rest_by (Take room filled took.TheVariants.Failed) = filled

-- what the last take left; where there is none, it is this
abbrev pub rest_after : (rest : List ℕ) → List TakeCall → List ℕ
rest_after rest [] = rest
rest_after rest (call ∷ calls) = rest_after (rest_by call) calls

-- a room that takes filled one after the other, each from where the one before it came to
abbrev pub filled_by : List TakeCall → List ℕ
filled_by calls = brought calls ++ rest_after [] calls

-- a put that wrote n wrote the first n bytes of its piece
abbrev pub written_by : PutCall → List ℕ
written_by (PutPiece piece (put.TheVariants.Wrote n)) = take n piece
written_by (PutPiece piece put.TheVariants.Failed) = []

abbrev pub written : List PutCall → List ℕ
written [] = []
written (call ∷ calls) = written_by call ++ written calls

-- the rest of the room, past what was brought, is as it was. A source that tells its content does so at each
-- take; nothing else keeps one from writing there too.
abbrev pub KeepsRest : TakeCall → Type 0
KeepsRest (Take room filled (took.TheVariants.Got n)) = drop n filled ≡ drop n room
KeepsRest (Take room filled took.TheVariants.End) = filled ≡ room
KeepsRest (Take room filled took.TheVariants.Failed) = filled ≡ room

abbrev pub KeepRests : List TakeCall → Type 0
KeepRests [] = Unit {0}
KeepRests (call ∷ calls) = KeepsRest call × KeepRests calls

-- the last take found the input at its end
abbrev pub FoundEnd : List TakeCall → Type 0
FoundEnd calls =
    (before : List TakeCall) × (room : List ℕ) × (filled : List ℕ)
    × (calls ≡ before ++ Take room filled took.TheVariants.End ∷ [])

-- the same of calls on both, in their order

abbrev pub brought_in : List StreamCall → List ℕ
brought_in [] = []
brought_in (OnInput call ∷ calls) = brought_by call ++ brought_in calls
brought_in (OnOut call ∷ calls) = brought_in calls

abbrev pub written_in : List StreamCall → List ℕ
written_in [] = []
written_in (OnInput call ∷ calls) = written_in calls
written_in (OnOut call ∷ calls) = written_by call ++ written_in calls

-- a source whose end was found brings nothing after it
abbrev pub StaysEnded : TakeCall → (after : List ℕ) → Type 0
StaysEnded (Take room filled (took.TheVariants.Got n)) after = Unit {0}
StaysEnded (Take room filled took.TheVariants.End) after = after ≡ []
StaysEnded (Take room filled took.TheVariants.Failed) after = Unit {0}

-- each take leaves the rest of its room, and nothing comes after the end, also not these bytes
abbrev pub IsSteady : List StreamCall → (after : List ℕ) → Type 0
IsSteady [] after = Unit {0}
IsSteady (OnInput call ∷ calls) after = KeepsRest call × StaysEnded call (brought_in calls ++ after) × IsSteady calls after
IsSteady (OnOut call ∷ calls) after = IsSteady calls after

-- Stretches of a run

pub data Stretch : Type 0 where
  -- so many steps that take no input, and their puts
  Going : (steps : ℕ) (puts : List PutCall) → Stretch
  -- one step, which is a read, and its takes
  Reading : (takes : List TakeCall) → Stretch

abbrev pub calls_of : List Stretch → List StreamCall
calls_of [] = []
calls_of (Going steps puts ∷ more) = map OnOut puts ++ calls_of more
calls_of (Reading takes ∷ more) = map OnInput takes ++ calls_of more

abbrev pub steps_of : List Stretch → ℕ
steps_of [] = 0
steps_of (Going steps puts ∷ more) = steps + steps_of more
steps_of (Reading takes ∷ more) = 1 + steps_of more
