-- Plays that mean the same, where the first is defined: they take the same turns, make the same calls
-- and come to the same answers and states. Places of the source are all that may differ.
use Rattle.std.specs.Prelude.{◌≡◌, ℕ, Option, Some}
use Rattle.p9_cmean.specs.Cells.{FunctionName, Value, Missing, State}
use Rattle.p9_cmean.specs.Plays.{Call, Play, Done, Wrong, NoMeaning, Exit, Cut, Turn, Ask, Moved, bind, Flow, Returned, Loop, turn_of, tested_loop}
use Rattle.p9_cmean.specs.Turns.{Outcome, Ended, Out, Undefined, Deep, NoOutcome, End, Gave, Over, Functions, calls_to}

-- values that are equal, or both missing
abbrev pub Alike : Value → Value → Type 0
Alike (Missing a) (Missing b) = Unit {0}
Alike v w = v ≡ w

abbrev pub AlikeFlow : Flow → Flow → Type 0
AlikeFlow (Returned (Some v)) (Returned (Some w)) = Alike v w
AlikeFlow f g = f ≡ g

-- calls of one function with the same arguments
pub record SameCall (call other : Call) : Type 0 where
  pub function : other.function ≡ call.function
  pub arguments : other.arguments ≡ call.arguments

-- The second play is the first, with answers that are related so; of an operation that isn't defined
-- nothing is said.
abbrev pub Same : {A : Type 0} → (A → A → Type 0) → Play A → Play A → Type 0
Same {A} R (Done x s) q = (y : A) × (q ≡ Done y s) × R x y
Same {A} R (Wrong why place s) q = Unit {0}
Same {A} R (NoMeaning place s) q = Unit {0}
Same {A} R (Exit text s) q = q ≡ Exit text s
Same {A} R (Cut s) q = q ≡ Cut s
Same {A} R (Turn s p) q = (r : Play A) × (q ≡ Turn s r) × Same R p r
Same {A} R (Ask call s k) q =
    (other : Call) × (l : Value → State → Play A) × (q ≡ Ask other s l) × SameCall call other
    × ((v w : Value) (t : State) → Alike v w → Same R (k v t) (l w t))
Same {A} R (Moved bytes p) q = (r : Play A) × (q ≡ Moved bytes r) × Same R p r

abbrev pub Equal : {A : Type 0} → A → A → Type 0
Equal x y = x ≡ y

-- One play after the other.
abbrev pub BindKeepsSame : Type 0
BindKeepsSame =
    (p q : Play Value) (k l : Value → State → Play Value)
    → Same Alike p q → ((v w : Value) (s : State) → Alike v w → Same Alike (k v s) (l w s))
    → Same Alike (bind p k) (bind q l)

pub record SameLoop (first second : Loop) : Type 0 where
  pub tests : (s : State) → Same Equal (first.test s) (second.test s)
  pub bodies : (s : State) → Same AlikeFlow (first.body s) (second.body s)
  pub steps : (s : State) → Same Equal (first.step s) (second.step s)

-- Loops of such parts, in the same number of turns.
abbrev pub LoopsKeepSame : Type 0
LoopsKeepSame =
    (turns : ℕ) (first second : Loop) → SameLoop first second → (s : State)
    → Same AlikeFlow (turn_of turns first s) (turn_of turns second s)

abbrev pub TestedLoopsKeepSame : Type 0
TestedLoopsKeepSame =
    (turns : ℕ) (first second : Loop) → SameLoop first second → (s : State)
    → Same AlikeFlow (tested_loop turns first s) (tested_loop turns second s)

-- THE SAME OUTCOME

-- what a run comes to, but for the place of a call that waits; nothing is said of one that is
-- undefined or too deep
abbrev pub SameOutcome : Outcome → Outcome → Type 0
SameOutcome (Ended text s) other = other ≡ Ended text s
SameOutcome (Out waits s) other = (waits' : Option Call) × (other ≡ Out waits' s)
SameOutcome (Undefined why place s) other = Unit {0}
SameOutcome (Deep place s) other = Unit {0}
SameOutcome (NoOutcome place s) other = Unit {0}

abbrev pub SameOver : Outcome → (copied : ℕ) → End → Type 0
SameOver (Ended text s) copied e = e ≡ Over (Ended text s) copied
SameOver (Out waits s) copied e = (waits' : Option Call) × (e ≡ Over (Out waits' s) copied)
SameOver (Undefined why place s) copied e = Unit {0}
SameOver (Deep place s) copied e = Unit {0}
SameOver (NoOutcome place s) copied e = Unit {0}

-- how a call ends: with the same value, state, turns left and bytes copied
abbrev pub SameEnd : End → End → Type 0
SameEnd (Gave v s turns copied) e = (w : Value) × (e ≡ Gave w s turns copied) × Alike v w
SameEnd (Over outcome copied) e = SameOver outcome copied e

-- functions that need the same room, and whose bodies mean the same
pub record SameFunctions (first second : Functions) : Type 0 where
  pub needs : (f : FunctionName) → second.need f ≡ first.need f
  pub bodies : (turns : ℕ) (call other : Call) (s : State) → SameCall call other
      → Same Alike (first.body turns call s) (second.body turns other s)

-- Plays that mean the same come to the same outcome.
abbrev pub SameCallsEndSame : Type 0
SameCallsEndSame =
    (first second : Functions) → SameFunctions first second
    → (depth active turns copied : ℕ) (call other : Call) (s : State) → SameCall call other
    → SameEnd (calls_to depth first active turns copied call s) (calls_to depth second active turns copied other s)
