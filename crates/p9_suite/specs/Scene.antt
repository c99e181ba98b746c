-- A call of the suite, and what is asked of it.
use Rattle.std.specs.Prelude.{◌≡◌, ◌||◌, ◌==◌, ℕ, Bool, List, [], ◌∷◌, ◌++◌, Option, Some, None, IfSome, if◌then◌else◌}
use Rattle.p9_base.specs.Calls.{Call, OnFiles, OnStream, Failing, Input, Out, Store, Objects, Doing, Counts}
use Rattle.p9_base.specs.Outside.{Held, TakeCall, PutCall, FileCall, ReadCall, WriteCall}
use Rattle.p9_suite.specs.declared.answer.Answer.{Answer}
use Rattle.p9_suite.specs.Answers.{status, message}

-- what the source, the sink and the store tell of their content
pub record Telling (I O F : Type 0) : Type 0 where
  pub left : I → Option (List ℕ)
  pub sofar : O → Option (List ℕ)
  pub held : F → Option Held

-- its words; the objects before and after, what a call on them is, what they tell and how often they failed; its
-- status, and what is said of the line on the sink of errors
pub record Scene (I O F : Type 0) : Type 1 where
  pub doing : Doing I O F
  pub telling : Telling I O F
  pub counts : Counts I O F
  pub old : Objects I O F
  pub new : Objects I O F
  pub words : List (List ℕ)
  pub status : ℕ
  pub Line : List ℕ → Type 0

abbrev pub doing : {I O F : Type 0} → (I → TakeCall → I → Type 0) → (O → PutCall → O → Type 0) → (F → FileCall → F → Type 0) → Doing I O F
doing takes puts stores = record { takes = takes; puts = puts; stores = stores }

abbrev pub telling : {I O F : Type 0} → (I → Option (List ℕ)) → (O → Option (List ℕ)) → (F → Option Held) → Telling I O F
telling left sofar held = record { left = left; sofar = sofar; held = held }

abbrev pub counts : {I O F : Type 0} → (I → ℕ) → (O → ℕ) → (F → ℕ) → Counts I O F
counts of_input of_out of_files = record { input_faults = of_input; out_faults = of_out; store_faults = of_files }

abbrev pub objects : {I O F : Type 0} → I → O → F → Objects I O F
objects input out files = record { input = input; out = out; files = files }

abbrev pub scene : {I O F : Type 0} → Doing I O F → Telling I O F → Counts I O F → (old new : Objects I O F) → (words : List (List ℕ)) → (s : ℕ) → (Line : List ℕ → Type 0) → Scene I O F
scene doing telling counts old new words s Line =
    record { doing = doing; telling = telling; counts = counts; old = old; new = new; words = words; status = s; Line = Line }

-- What is asked of a scene

-- the status and the line are this answer's
abbrev pub IsAnswer : {I O F : Type 0} → Scene I O F → Answer → Type 0
IsAnswer call answer = (call.status ≡ status answer) × call.Line (message answer)

-- the store told this before, and tells this now
abbrev pub held : {I O F : Type 0} → Scene I O F → Option Held
held call = call.telling.held call.old.files

abbrev pub held_now : {I O F : Type 0} → Scene I O F → Option Held
held_now call = call.telling.held call.new.files

abbrev pub left : {I O F : Type 0} → Scene I O F → Option (List ℕ)
left call = call.telling.left call.old.input

abbrev pub left_now : {I O F : Type 0} → Scene I O F → Option (List ℕ)
left_now call = call.telling.left call.new.input

-- where the sink tells what it has, these bytes have been appended
abbrev pub HasPut : {I O F : Type 0} → Scene I O F → (bytes : List ℕ) → Type 0
HasPut call bytes = IfSome (call.telling.sofar call.old.out) (λ before. call.telling.sofar call.new.out ≡ Some (before ++ bytes))

-- Calls

-- the object whose call failed, at the statuses that say so
abbrev pub failing_at : ℕ → Option Failing
failing_at s = if s == 7 then Some Input else if s == 8 then Some Out else if s == 9 then Some Store else None

-- the statuses of a program that ran
abbrev pub has_run : ℕ → Bool
has_run s = s == 0 || s == 1 || s == 7 || s == 8 || s == 11 || s == 12

-- the statuses of refusals that come before each write
abbrev pub is_early : ℕ → Bool
is_early s = s == 2 || s == 3 || s == 4 || s == 5 || s == 6 || s == 13 || s == 16

-- the names that calls write, in order
abbrev pub names_written : List Call → List (List ℕ)
names_written [] = []
names_written (OnStream call ∷ calls) = names_written calls
names_written (OnFiles (ReadCall name answer) ∷ calls) = names_written calls
names_written (OnFiles (WriteCall name bytes answer) ∷ calls) = name ∷ names_written calls
