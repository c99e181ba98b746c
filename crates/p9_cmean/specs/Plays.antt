-- What a function's own body does, up to the answers of the calls that it makes: a finite tree of
-- events, its play. Then how statements end, and loops.
use Rattle.std.specs.Prelude.{ℕ, zero, suc, List, Bool, Option, if◌then◌else◌}
use Rattle.p9_cmean.specs.declared.Cause.{Cause}
use Rattle.p9_cmean.specs.declared.Place.{Place}
use Rattle.p9_cmean.specs.Cells.{FunctionName, Value, State}

-- a call: the function, the arguments, and the node that calls
pub record Call : Type 0 where
  pub function : FunctionName
  pub arguments : List Value
  pub place : Place

-- A play ends with an answer; comes to an undefined operation; comes to a node that has no meaning
-- where it stands, which is in no valid module; ends the program with a text; is cut off, since a
-- loop was given no more turns; takes a turn; calls a function, and goes on from the value that it
-- gives; or has moved bytes by a structure copy.
pub data Play (A : Type 0) : Type 0 where
  Done : (answer : A) (state : State) → Play A
  Wrong : (why : Cause) (place : Place) (state : State) → Play A
  NoMeaning : (place : Place) (state : State) → Play A
  Exit : (text : List ℕ) (state : State) → Play A
  Cut : (state : State) → Play A
  Turn : (state : State) (rest : Play A) → Play A
  Ask : (call : Call) (state : State) (rest : Value → State → Play A) → Play A
  Moved : (bytes : ℕ) (rest : Play A) → Play A

-- one play, and then the one that goes on from its answer
abbrev pub bind : {A B : Type 0} → Play A → (A → State → Play B) → Play B
bind (Done answer s) next = next answer s
bind (Wrong why place s) next = Wrong why place s
bind (NoMeaning place s) next = NoMeaning place s
bind (Exit text s) next = Exit text s
bind (Cut s) next = Cut s
bind (Turn s rest) next = Turn s (bind rest next)
bind (Ask call s rest) next = Ask call s (λ v t. bind (rest v t) next)
bind (Moved bytes rest) next = Moved bytes (bind rest next)

-- How a statement ends: by going on, by `break`, by `continue`, by `return`, with its value if it
-- has one, or by `goto` with the number of its label
pub data Flow : Type 0 where
  Normal : Flow
  Broke : Flow
  Continued : Flow
  Returned : (value : Option Value) → Flow
  Went : (label : ℕ) → Flow

-- the statements that follow are run only if the one before goes on
abbrev pub then_go : Flow → State → (State → Play Flow) → Play Flow
then_go Normal s next = next s
then_go Broke s next = Done Broke s
then_go Continued s next = Done Continued s
then_go (Returned value) s next = Done (Returned value) s
then_go (Went label) s next = Done (Went label) s

-- after a run of a loop's body: `continue` goes on with the loop, `break` leaves it
abbrev pub after_turn : Flow → State → (State → Play Flow) → Play Flow
after_turn Normal s again = again s
after_turn Continued s again = again s
after_turn Broke s again = Done Normal s
after_turn (Returned value) s again = Done (Returned value) s
after_turn (Went label) s again = Done (Went label) s

-- behind a `switch`, which `break` leaves
abbrev pub after_switch : Flow → State → Play Flow
after_switch Normal s = Done Normal s
after_switch Broke s = Done Normal s
after_switch Continued s = Done Continued s
after_switch (Returned value) s = Done (Returned value) s
after_switch (Went label) s = Done (Went label) s

-- a loop's parts: its test, its body, and what is done between a run of the body and the next test
pub record Loop : Type 0 where
  pub test : State → Play Bool
  pub body : State → Play Flow
  pub step : State → Play (Unit {0})

-- A run of a loop's body, which takes a turn, and what follows it: the step, and the body again
-- where the test holds. A loop is given a number of turns; when they are used up it is cut off
-- behind one turn more.
abbrev pub turn_of : (turns : ℕ) → Loop → State → Play Flow
turn_of zero loop s = Turn s (Cut s)
turn_of (suc turns) loop s =
    Turn s (bind (loop.body s) (λ flow t. after_turn flow t (λ u.
    bind (loop.step u) (λ done w.
    bind (loop.test w) (λ holds x. if holds then turn_of turns loop x else Done Normal x)))))

-- `while` and `for` test before the first turn, `do` doesn't
abbrev pub tested_loop : (turns : ℕ) → Loop → State → Play Flow
tested_loop turns loop s = bind (loop.test s) (λ holds t. if holds then turn_of turns loop t else Done Normal t)

abbrev pub no_step : State → Play (Unit {0})
no_step s = Done tt s
