-- What a function's own body does, up to the answers of the calls that it makes: a finite tree of
-- events.
use Rattle.std.specs.Prelude.{ℕ, zero, suc, List, Bool, if◌then◌else◌}
use Rattle.p9_first.specs.declared.Cause.{Cause}
use Rattle.p9_first.specs.declared.Place.{Place}
use Rattle.p9_first.specs.Cells.{FunctionName, Value, State}

-- a call: the function, the arguments, and the node that calls
pub record Call : Type 0 where
  pub function : FunctionName
  pub arguments : List Value
  pub place : Place

-- A play ends with an answer; comes to an undefined operation; ends the program with a text; is cut
-- off, since its loops were given no more turns; takes a turn; calls a function, and goes on from
-- the value that it gives; or has moved bytes by a structure copy.
pub data Play (A : Type 0) : Type 0 where
  Done : (answer : A) (state : State) → Play A
  Wrong : (why : Cause) (place : Place) (state : State) → Play A
  Exit : (text : List ℕ) (state : State) → Play A
  Cut : (state : State) → Play A
  Turn : (state : State) (rest : Play A) → Play A
  Ask : (call : Call) (state : State) (rest : Value → State → Play A) → Play A
  Moved : (bytes : ℕ) (rest : Play A) → Play A

-- one play, and then the one that goes on from its answer
abbrev pub bind : {A B : Type 0} → Play A → (A → State → Play B) → Play B
bind (Done answer s) next = next answer s
bind (Wrong why place s) next = Wrong why place s
bind (Exit text s) next = Exit text s
bind (Cut s) next = Cut s
bind (Turn s rest) next = Turn s (bind rest next)
bind (Ask call s rest) next = Ask call s (λ v t. bind (rest v t) next)
bind (Moved bytes rest) next = Moved bytes (bind rest next)

-- How a statement ends: by going on, by `break`, by `continue`, by `return` with its value, or by
-- `goto` with the number of its label
pub data Flow : Type 0 where
  Normal : Flow
  Broke : Flow
  Continued : Flow
  Returned : (value : Value) → Flow
  Went : (label : ℕ) → Flow

-- the statements that follow are run only if the one before goes on
abbrev pub then_go : Flow → State → (State → Play Flow) → Play Flow
then_go Normal s next = next s
then_go Broke s next = Done Broke s
then_go Continued s next = Done Continued s
then_go (Returned value) s next = Done (Returned value) s
then_go (Went label) s next = Done (Went label) s

-- after a run of a loop's body
abbrev pub after_turn : Flow → State → (State → Play Flow) → Play Flow
after_turn Normal s again = again s
after_turn Continued s again = again s
after_turn Broke s again = Done Normal s
after_turn (Returned value) s again = Done (Returned value) s
after_turn (Went label) s again = Done (Went label) s

-- A loop: it tests, and where the test holds takes a turn, runs its body and begins again. It is
-- given a number of turns; when they are used up it is cut off behind one turn more.
abbrev pub loop : (turns : ℕ) → (State → Play Bool) → (State → Play Flow) → State → Play Flow
loop zero test body s = bind (test s) (λ holds t. if holds then Turn t (Cut t) else Done Normal t)
loop (suc turns) test body s =
    bind (test s) (λ holds t.
    if holds then Turn t (bind (body t) (λ flow u. after_turn flow u (loop turns test body)))
    else Done Normal t)
