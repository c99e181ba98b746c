-- Laws of plays, of loops and of calls.
use Rattle.std.specs.Prelude.{◌≡◌, ◌<◌, ◌≤◌, ℕ, zero, suc, List, ◌++◌}
use Rattle.p9_cmean.specs.Cells.{Value, State}
use Rattle.p9_cmean.specs.Plays.{Call, Play, Done, Wrong, NoMeaning, Exit, Cut, Turn, Ask, Moved, bind, Loop, turn_of, tested_loop}
use Rattle.p9_cmean.specs.Turns.{Outcome, Ended, Out, Undefined, Deep, NoOutcome, End, Gave, Over, Functions, calls_to, state_of}

-- Plays one after the other may be grouped in either way.
abbrev pub BindIsAssociative : (A B C : Type 0) → Type 0
BindIsAssociative A B C =
    (p : Play A) (k : A → State → Play B) (l : B → State → Play C)
    → bind (bind p k) l ≡ bind p (λ x s. bind (k x s) l)

-- Every depth from the turns on gives a call the same end.
abbrev pub DepthIsEnough : Type 0
DepthIsEnough =
    (functions : Functions) (d e active turns copied : ℕ) (call : Call) (s : State) → turns ≤ d → turns ≤ e
    → calls_to d functions active turns copied call s ≡ calls_to e functions active turns copied call s

-- A call that gives a value has taken at least one turn.
abbrev pub LeavesFewer : ℕ → End → Type 0
LeavesFewer turns (Gave value s left copied) = left < turns
LeavesFewer turns (Over outcome copied) = Unit {0}

abbrev pub CallsTakeTurns : Type 0
CallsTakeTurns =
    (functions : Functions) (d active turns copied : ℕ) (call : Call) (s : State)
    → LeavesFewer turns (calls_to d functions active turns copied call s)

-- MORE TURNS

-- For so many turns the second play does what the first does.
abbrev pub Follows : {A : Type 0} → (turns : ℕ) → Play A → Play A → Type 0
Follows turns (Done answer s) q = q ≡ Done answer s
Follows turns (Wrong why place s) q = q ≡ Wrong why place s
Follows turns (NoMeaning place s) q = q ≡ NoMeaning place s
Follows turns (Exit text s) q = q ≡ Exit text s
Follows turns (Cut s) q = q ≡ Cut s
Follows {A} zero (Turn s p) q = (r : Play A) × (q ≡ Turn s r)
Follows {A} (suc turns) (Turn s p) q = (r : Play A) × (q ≡ Turn s r) × Follows turns p r
Follows {A} zero (Ask call s p) q = (r : Value → State → Play A) × (q ≡ Ask call s r)
Follows {A} (suc turns) (Ask call s p) q =
    (r : Value → State → Play A) × (q ≡ Ask call s r) × ((v : Value) (t : State) → Follows turns (p v t) (r v t))
Follows {A} turns (Moved bytes p) q = (r : Play A) × (q ≡ Moved bytes r) × Follows turns p r

pub record LoopFollows (turns : ℕ) (first second : Loop) : Type 0 where
  pub tests : (s : State) → Follows turns (first.test s) (second.test s)
  pub bodies : (s : State) → Follows turns (first.body s) (second.body s)
  pub steps : (s : State) → Follows turns (first.step s) (second.step s)

-- A loop that is given more turns does the same for as many turns as it was given.
abbrev pub LoopsFollow : Type 0
LoopsFollow =
    (m n : ℕ) → m ≤ n → (first second : Loop) → LoopFollows m first second → (s : State)
    → Follows m (turn_of m first s) (turn_of n second s)

abbrev pub TestedLoopsFollow : Type 0
TestedLoopsFollow =
    (m n : ℕ) → m ≤ n → (first second : Loop) → LoopFollows m first second → (s : State)
    → Follows m (tested_loop m first s) (tested_loop n second s)

-- BEFORE A CUT

-- At least so many turns come before the play is cut off.
abbrev pub Lasts : {A : Type 0} → (turns : ℕ) → Play A → Type 0
Lasts zero p = Unit {0}
Lasts (suc turns) (Done answer s) = Unit {0}
Lasts (suc turns) (Wrong why place s) = Unit {0}
Lasts (suc turns) (NoMeaning place s) = Unit {0}
Lasts (suc turns) (Exit text s) = Unit {0}
Lasts (suc turns) (Cut s) = ⊥
Lasts (suc turns) (Turn s p) = Lasts turns p
Lasts (suc turns) (Ask call s p) = (v : Value) (t : State) → Lasts turns (p v t)
Lasts (suc turns) (Moved bytes p) = Lasts (suc turns) p

pub record LoopLasts (turns : ℕ) (loop : Loop) : Type 0 where
  pub tests : (s : State) → Lasts turns (loop.test s)
  pub bodies : (s : State) → Lasts turns (loop.body s)
  pub steps : (s : State) → Lasts turns (loop.step s)

-- A loop that is given m turns takes more than m before it is cut off.
abbrev pub LoopsLast : Type 0
LoopsLast =
    (m : ℕ) (loop : Loop) → LoopLasts m loop → (s : State) → Lasts (suc m) (turn_of m loop s)

abbrev pub TestedLoopsLast : Type 0
TestedLoopsLast =
    (m : ℕ) (loop : Loop) → LoopLasts (suc m) loop → (s : State) → Lasts (suc m) (tested_loop m loop s)

-- OUTPUT GROWS, AND INPUT FALLS

-- the second list begins with the first
abbrev pub Begins : List ℕ → List ℕ → Type 0
Begins first second = (more : List ℕ) × (second ≡ first ++ more)

-- the first list ends with the second
abbrev pub Leaves : List ℕ → List ℕ → Type 0
Leaves first second = (taken : List ℕ) × (first ≡ taken ++ second)

-- a later state of a run keeps the output, and of the input it has the rest
abbrev pub Goes : State → State → Type 0
Goes s t = Begins s.output t.output × Leaves s.input t.input

-- What a run comes to with more turns: what it came to before, but for a run that was out of turns,
-- which goes on.
abbrev pub GoesOn : Outcome → Outcome → Type 0
GoesOn (Ended text s) later = later ≡ Ended text s
GoesOn (Out waits s) later = Goes s (state_of later)
GoesOn (Undefined why place s) later = later ≡ Undefined why place s
GoesOn (Deep place s) later = later ≡ Deep place s
GoesOn (NoOutcome place s) later = later ≡ NoOutcome place s
