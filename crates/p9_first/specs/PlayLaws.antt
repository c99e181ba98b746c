-- Laws of plays, of loops and of calls.
use Rattle.std.specs.Prelude.{◌≡◌, ◌<◌, ◌≤◌, ℕ, zero, suc, Bool, List, ◌++◌}
use Rattle.p9_first.specs.declared.module.Module.{Module}
use Rattle.p9_first.specs.Cells.{Value, State}
use Rattle.p9_first.specs.Plays.{Call, Play, Done, Wrong, Exit, Cut, Turn, Ask, Moved, bind, Flow, loop}
use Rattle.p9_first.specs.Turns.{Outcome, Ended, Out, Undefined, Deep, End, Gave, Over, Functions, calls_to}
use Rattle.p9_first.specs.CRun.{crun}

-- Plays one after the other may be grouped in either way.
abbrev pub BindIsAssociative : (A B C : Type 0) → Type 0
BindIsAssociative A B C =
    (p : Play A) (k : A → State → Play B) (l : B → State → Play C)
    → bind (bind p k) l ≡ bind p (λ x s. bind (k x s) l)

-- Every depth from the turns on gives a call the same end.
abbrev pub DepthIsEnough : Type 0
DepthIsEnough =
    (functions : Functions) (d e active turns copied : ℕ) (call : Call) (s : State) → turns ≤ d → turns ≤ e
    → calls_to d functions active turns copied call s ≡ calls_to e functions active turns copied call s

-- A call that gives a value has taken at least one turn.
abbrev pub LeavesFewer : ℕ → End → Type 0
LeavesFewer turns (Gave value s left copied) = left < turns
LeavesFewer turns (Over outcome copied) = Unit {0}

abbrev pub CallsTakeTurns : Type 0
CallsTakeTurns =
    (functions : Functions) (d active turns copied : ℕ) (call : Call) (s : State)
    → LeavesFewer turns (calls_to d functions active turns copied call s)

-- For so many turns the second play does what the first does.
abbrev pub Follows : {A : Type 0} → (turns : ℕ) → Play A → Play A → Type 0
Follows turns (Done answer s) q = q ≡ Done answer s
Follows turns (Wrong why place s) q = q ≡ Wrong why place s
Follows turns (Exit text s) q = q ≡ Exit text s
Follows turns (Cut s) q = q ≡ Cut s
Follows {A} zero (Turn s p) q = (r : Play A) × (q ≡ Turn s r)
Follows {A} (suc turns) (Turn s p) q = (r : Play A) × (q ≡ Turn s r) × Follows turns p r
Follows {A} zero (Ask call s p) q = (r : Value → State → Play A) × (q ≡ Ask call s r)
Follows {A} (suc turns) (Ask call s p) q =
    (r : Value → State → Play A) × (q ≡ Ask call s r) × ((v : Value) (t : State) → Follows turns (p v t) (r v t))
Follows {A} turns (Moved bytes p) q = (r : Play A) × (q ≡ Moved bytes r) × Follows turns p r

-- A loop that is given more turns does the same for as many turns as it was given.
abbrev pub LoopsFollow : Type 0
LoopsFollow =
    (m n : ℕ) → m ≤ n → (test test' : State → Play Bool) (body body' : State → Play Flow)
    → ((s : State) → Follows m (test s) (test' s)) → ((s : State) → Follows m (body s) (body' s))
    → (s : State) → Follows m (loop m test body s) (loop n test' body' s)

-- At least so many turns come before the play is cut off.
abbrev pub Lasts : {A : Type 0} → (turns : ℕ) → Play A → Type 0
Lasts zero p = Unit {0}
Lasts (suc turns) (Done answer s) = Unit {0}
Lasts (suc turns) (Wrong why place s) = Unit {0}
Lasts (suc turns) (Exit text s) = Unit {0}
Lasts (suc turns) (Cut s) = ⊥
Lasts (suc turns) (Turn s p) = Lasts turns p
Lasts (suc turns) (Ask call s p) = (v : Value) (t : State) → Lasts turns (p v t)
Lasts (suc turns) (Moved bytes p) = Lasts (suc turns) p

-- A loop that is given m turns takes more than m before it is cut off: so a run that is given n
-- turns, and no loop in it fewer, is out of turns before it is cut off.
abbrev pub LoopsLast : Type 0
LoopsLast =
    (m : ℕ) (test : State → Play Bool) (body : State → Play Flow)
    → ((s : State) → Lasts (suc m) (test s)) → ((s : State) → Lasts (suc m) (body s))
    → (s : State) → Lasts (suc m) (loop m test body s)

-- The second output begins with the first.
abbrev pub Begins : List ℕ → List ℕ → Type 0
Begins first second = (more : List ℕ) × (second ≡ first ++ more)

abbrev pub output_of : Outcome → List ℕ
output_of (Ended output text) = output
output_of (Out output) = output
output_of (Undefined output why place) = output
output_of (Deep output place) = output

-- What a run comes to with more turns: what it came to before, but for a run that was out of turns,
-- which goes on and keeps its output.
abbrev pub GoesOn : Outcome → Outcome → Type 0
GoesOn (Ended output text) later = later ≡ Ended output text
GoesOn (Out output) later = Begins output (output_of later)
GoesOn (Undefined output why place) later = later ≡ Undefined output why place
GoesOn (Deep output place) later = later ≡ Deep output place

abbrev pub RunsGoOn : Type 0
RunsGoOn =
    (modules : List Module) (input : List ℕ) (m n : ℕ) → m ≤ n
    → GoesOn (crun modules input m) (crun modules input n)

-- So output only grows.
abbrev pub OutputGrows : Type 0
OutputGrows =
    (modules : List Module) (input : List ℕ) (m n : ℕ) → m ≤ n
    → Begins (output_of (crun modules input m)) (output_of (crun modules input n))
