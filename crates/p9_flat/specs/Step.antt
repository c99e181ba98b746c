-- What one operation does where a call stands, and when code plays a play.
use Rattle.std.specs.Prelude.{◌≡◌, ◌⊎◌, ℕ, zero, suc, ◌==◌, Bool, true, false, not, if◌then◌else◌, List, [], ◌∷◌, ◌++◌, length, take, drop, reverse, replicate, Option, Some, None, Result, Ok, Err, slice_get, slice_set}
use Rattle.p9_base.specs.Words.{word_negation, word_complement}
use Rattle.p9_lang.specs.Constants.{truth}
use Rattle.p9_lang.specs.Layout.{on_some}
use Rattle.p9_cmean.specs.declared.Cause.{Cause}
use Rattle.p9_cmean.specs.declared.Cause.TheVariants as cause
use Rattle.p9_cmean.specs.declared.Place.{Place}
use Rattle.p9_cmean.specs.Cells.{FunctionName, Pointer, Into, ToFunction, Cell, Unset, Object, Value, Word, Address, Missing, State}
use Rattle.p9_cmean.specs.Plays.{Call, Play, Done, Wrong, NoMeaning, Exit, Cut, Turn, Ask, Moved, bind}
use Rattle.p9_cmean.specs.Places.{used, done_at}
use Rattle.p9_cmean.specs.Access.{value_cells, and_go, pointer_in, null, usable, moved_inside, read_whole, written_whole, dead_object}
use Rattle.p9_cmean.specs.Automatics.{live_object, with_objects}
use Rattle.p9_cmean.specs.Operators.{of_integer}
use Rattle.p9_cmean.specs.Expressions.{answered_as}
use Rattle.p9_flat.specs.declared.op.Op.{Op}
use Rattle.p9_flat.specs.declared.op.Op.TheVariants as op
use Rattle.p9_flat.specs.Resolved.{load, store, narrow_to, operate_on, test}

-- the function of a number, and whether a function has the type of a number
pub record Names : Type 0 where
  pub function : ℕ → FunctionName
  pub has_type : FunctionName → ℕ → Bool

-- What belongs to a call: the objects of its automatics that are alive, the first one first; the place that
-- called; and the module that its function stands in.
pub record Own : Type 0 where
  pub automatics : List ℕ
  pub call : Place
  pub owner : ℕ

-- where a call stands: the next operation, the values of this call and of those that wait, the last first
pub record Frame : Type 0 where
  pub pc : ℕ
  pub stack : List Value
  pub own : Own

abbrev pub frame : (pc : ℕ) → (stack : List Value) → Own → Frame
frame pc stack own = record { pc = pc; stack = stack; own = own }

abbrev pub with_automatics : List ℕ → Own → Own
with_automatics automatics own = record own { automatics = automatics }

-- The call goes on; gives a value; is at an undefined operation, or at a node without a meaning; takes a
-- turn; has moved bytes by a structure copy; or calls. Code that is made of a function is never stuck; where it
-- has something without a number, nothing is known.
pub data Step : Type 0 where
  Next : Frame → State → Step
  Gives : Value → Frame → State → Step
  Fails : Cause → Place → State → Step
  Lacks : Place → State → Step
  Turns : Frame → State → Step
  Moves : (bytes : ℕ) → Frame → State → Step
  Calls : Call → Frame → State → Step
  Stuck : Step
  Unknown : Step

abbrev pub gone_to : (pc : ℕ) → Frame → Frame
gone_to pc f = frame pc f.stack f.own

abbrev pub pushed : Value → Frame → Frame
pushed v f = frame (suc f.pc) (v ∷ f.stack) f.own

-- a simple operation by its play
abbrev pub stepped : Play Value → Frame → Step
stepped (Done v t) f = Next (pushed v f) t
stepped (Wrong why place t) f = Fails why place t
stepped (NoMeaning place t) f = Lacks place t
stepped (Exit text t) f = Stuck
stepped (Cut t) f = Stuck
stepped (Turn t p) f = Stuck
stepped (Ask call t p) f = Stuck
stepped (Moved bytes p) f = Stuck

abbrev pub branched : Play Bool → (otherwise : ℕ) → Frame → Step
branched (Done holds t) otherwise f = Next (gone_to (if holds then suc f.pc else otherwise) f) t
branched (Wrong why place t) otherwise f = Fails why place t
branched (NoMeaning place t) otherwise f = Lacks place t
branched (Exit text t) otherwise f = Stuck
branched (Cut t) otherwise f = Stuck
branched (Turn t p) otherwise f = Stuck
branched (Ask call t p) otherwise f = Stuck
branched (Moved bytes p) otherwise f = Stuck

-- the last values of the stack, with the frame below them
abbrev pub on_one : List Value → Frame → (Value → Frame → Step) → Step
on_one [] f go = Stuck
on_one (a ∷ rest) f go = go a (frame f.pc rest f.own)

abbrev pub on_two : List Value → Frame → (Value → Value → Frame → Step) → Step
on_two [] f go = Stuck
on_two (b ∷ []) f go = Stuck
on_two (b ∷ (a ∷ rest)) f go = go a b (frame f.pc rest f.own)

abbrev pub place_in : Frame → (node : ℕ) → Place
place_in f node = record { «module» = f.own.owner; node = node }

-- AUTOMATICS

abbrev pub unset : (size : ℕ) → Object
unset size = live_object (replicate size Unset)

abbrev pub made : (size : ℕ) → Frame → State → Step
made size f s =
    Next (frame (suc f.pc) f.stack (with_automatics (f.own.automatics ++ length s.objects ∷ []) f.own)) (with_objects (unset size ∷ []) s)

abbrev pub all_killed : List ℕ → List Object → List Object
all_killed [] objects = objects
all_killed (a ∷ others) objects = all_killed others (slice_set objects a dead_object)

abbrev pub killed : List ℕ → State → State
killed automatics s = record s { objects = all_killed automatics s.objects }

abbrev pub pushed_automatic : Option ℕ → Frame → State → Step
pushed_automatic None f s = Stuck
pushed_automatic (Some object) f s = Next (pushed (Address (Into object 0)) f) s

-- COPIES AND CALLS

abbrev pub copied_to : (size : ℕ) → Place → Result (List Object) Cause → (to : Value) → Frame → State → Step
copied_to size place (Ok objects) to f s = Moves size (pushed to f) (record s { objects = objects })
copied_to size place (Err why) to f s = Fails why place s

abbrev pub copied_from : (size alignment : ℕ) → (read place : Place) → Result (List Cell) Cause → (to from : Value) → Frame → State → Step
copied_from size alignment read place (Ok cells) to from f s =
    copied_to size place (written_whole size alignment s.objects to from cells) to f s
copied_from size alignment read place (Err why) to from f s = Fails why read s

abbrev pub copied : (size alignment : ℕ) → (read place : Place) → (to from : Value) → Frame → State → Step
copied size alignment read place to from f s =
    copied_from size alignment read place (read_whole size alignment s.objects from) to from f s

abbrev pub function_of : Names → (type : ℕ) → List Object → Option Pointer → Result FunctionName Cause
function_of names type objects None = Err cause.Null
function_of names type objects (Some (Into object offset)) = usable objects (Into object offset ∷ []) (Err cause.WrongCall)
function_of names type objects (Some (ToFunction function)) =
    if names.has_type function type then Ok function else Err cause.WrongCall

abbrev pub asking : Place → List Value → Result FunctionName Cause → Frame → State → Step
asking place arguments (Ok name) f s =
    Calls (record { function = name; arguments = arguments; place = place }) (frame (suc f.pc) f.stack f.own) s
asking place arguments (Err why) f s = Fails why place s

abbrev pub calling : Names → (type : ℕ) → Place → List Value → Value → Frame → State → Step
calling names type place arguments (Word n) f s =
    asking place arguments (and_go (pointer_in (Word n)) (function_of names type s.objects)) f s
calling names type place arguments (Address pointer) f s =
    asking place arguments (and_go (pointer_in (Address pointer)) (function_of names type s.objects)) f s
calling names type place arguments (Missing call) f s = Fails cause.NoValue call s

-- ARGUMENTS, as objects of their parameters' sizes, where there are as many

abbrev pub received_object : Result (List Cell) Cause → Option Object
received_object (Ok cells) = Some (live_object cells)
received_object (Err why) = None

abbrev pub received : (sizes : List ℕ) → (arguments : List Value) → Option (List Object)
received [] [] = Some []
received [] (value ∷ values) = None
received (size ∷ sizes) [] = None
received (size ∷ sizes) (value ∷ values) =
    on_some (received_object (value_cells size value)) (λ object.
    on_some (received sizes values) (λ objects. Some (object ∷ objects)))

-- the numbers of so many new objects
abbrev pub following : (next count : ℕ) → List ℕ
following next zero = []
following next (suc count) = next ∷ following (suc next) count

-- a call's own at its beginning
abbrev pub own_at : (owner : ℕ) → (call : Place) → (parameters : ℕ) → State → Own
own_at owner call parameters s =
    record { automatics = following (length s.objects) parameters; call = call; owner = owner }

-- OPERATIONS

abbrev pub is_word : (word : ℕ) → Value → Bool
is_word word (Word n) = word == n
is_word word (Address pointer) = false
is_word word (Missing call) = false

abbrev pub chosen_case : (is_this : Bool) → (to : ℕ) → (value : Value) → Frame → State → Step
chosen_case true to value f s = Next (gone_to to f) s
chosen_case false to value f s = Next (pushed value f) s

abbrev pub step : Names → Op → Frame → State → Step
step names (op.Number n) f s = Next (pushed (Word n) f) s
step names (op.Object object offset) f s = Next (pushed (Address (Into object offset)) f) s
step names (op.Function number) f s = Next (pushed (Address (ToFunction (names.function number))) f) s
step names (op.Automatic number) f s = pushed_automatic (slice_get f.own.automatics number) f s
step names (op.Load moves node) f s = on_one f.stack f (λ a g. stepped (load moves (place_in f node) a s) g)
step names (op.Store moves node) f s = on_two f.stack f (λ a v g. stepped (store moves (place_in f node) a v s) g)
step names (op.Copy size alignment read node) f s =
    on_two f.stack f (λ to from g. copied size alignment (place_in f read) (place_in f node) to from g s)
step names op.Use f s = on_one f.stack f (λ a g. stepped (used a s (λ v. Done v s)) g)
step names op.Null f s = on_one f.stack f (λ a g. stepped (used a s (λ v. Done null s)) g)
step names (op.Narrow moves node) f s =
    on_one f.stack f (λ a g. stepped (used a s (λ v. done_at (place_in f node) s (narrow_to moves v))) g)
step names (op.Inner offset node) f s =
    on_one f.stack f (λ a g. stepped (used a s (λ v. done_at (place_in f node) s (moved_inside s.objects offset v))) g)
step names (op.Operate done node) f s = on_two f.stack f (λ a b g. stepped (operate_on (place_in f node) done a b s) g)
step names (op.Negate node) f s =
    on_one f.stack f (λ a g. stepped (used a s (λ v. done_at (place_in f node) s (of_integer word_negation v))) g)
step names (op.Complement node) f s =
    on_one f.stack f (λ a g. stepped (used a s (λ v. done_at (place_in f node) s (of_integer word_complement v))) g)
step names (op.Truth of_pointer node) f s =
    on_one f.stack f (λ a g. stepped (bind (test of_pointer (place_in f node) a s) (λ holds t. Done (Word (truth holds)) t)) g)
step names (op.Not of_pointer node) f s =
    on_one f.stack f (λ a g. stepped (bind (test of_pointer (place_in f node) a s) (λ holds t. Done (Word (truth (not holds))) t)) g)
step names (op.Void node) f s = on_one f.stack f (λ a g. Next (pushed (Missing (place_in f node)) g) s)
step names op.Twice f s = on_one f.stack f (λ a g. Next (frame (suc g.pc) (a ∷ (a ∷ g.stack)) g.own) s)
step names op.Over f s = on_two f.stack f (λ a b g. Next (frame (suc g.pc) (a ∷ (b ∷ (a ∷ g.stack))) g.own) s)
step names op.Swap f s = on_two f.stack f (λ a b g. Next (frame (suc g.pc) (a ∷ (b ∷ g.stack)) g.own) s)
step names op.Tuck f s = on_two f.stack f (λ a b g. Next (frame (suc g.pc) (b ∷ (a ∷ (b ∷ g.stack))) g.own) s)
step names (op.Call count type node) f s =
    on_one (drop count f.stack) f (λ function g. calling names type (place_in f node) (reverse (take count f.stack)) function g s)
step names (op.Answer node) f s = on_one f.stack f (λ a g. stepped (answered_as true (place_in f node) a s) g)
step names op.Pop f s = on_one f.stack f (λ a g. Next (gone_to (suc g.pc) g) s)
step names (op.Make size) f s = made size f s
step names (op.Leave count) f s =
    Next (frame (suc f.pc) f.stack (with_automatics (take count f.own.automatics) f.own)) (killed (drop count f.own.automatics) s)
step names (op.Jump to) f s = Next (gone_to to f) s
step names (op.Branch of_pointer node otherwise) f s =
    on_one f.stack f (λ a g. branched (test of_pointer (place_in f node) a s) otherwise g)
step names (op.Case word to) f s = on_one f.stack f (λ a g. chosen_case (is_word word a) to a g s)
step names op.Turn f s = Turns (gone_to (suc f.pc) f) s
step names (op.NoMeaning node) f s = Lacks (place_in f node) s
step names op.Stray f s = Lacks f.own.call s
step names op.Unnumbered f s = Unknown
step names op.Nothing f s = Next (pushed (Missing f.own.call) f) s
step names op.Return f s = on_one f.stack f (λ a g. Gives a g s)

abbrev pub step_at : Names → Option Op → Frame → State → Step
step_at names None f s = Stuck
step_at names (Some o) f s = step names o f s

-- CODE PLAYS A PLAY

abbrev pub IsCut : {A : Type 0} → Play A → Type 0
IsCut (Done answer t) = ⊥
IsCut (Wrong why place t) = ⊥
IsCut (NoMeaning place t) = ⊥
IsCut (Exit text t) = ⊥
IsCut (Cut t) = Unit {0}
IsCut (Turn t p) = ⊥
IsCut (Ask call t p) = ⊥
IsCut (Moved bytes p) = ⊥

abbrev pub answered : Value → Frame → Frame
answered v f = frame f.pc (v ∷ f.stack) f.own

-- A step does what the play does first, and goes on as the rest of the play. Where the call gives its value,
-- the values below it are those of the calls that wait, and its automatics are dead.
abbrev pub Agrees : (below : List Value) → Step → (Play Value → Frame → State → Type 0) → Play Value → Type 0
Agrees below (Next f t) F p = F p f t
Agrees below (Gives v f t) F p = (p ≡ Done v t) × (f.stack ≡ below) × (f.own.automatics ≡ [])
Agrees below (Fails why place t) F p = p ≡ Wrong why place t
Agrees below (Lacks place t) F p = p ≡ NoMeaning place t
Agrees below (Turns f t) F p = (q : Play Value) × (p ≡ Turn t q) × F q f t
Agrees below (Moves bytes f t) F p = (q : Play Value) × (p ≡ Moved bytes q) × F q f t
Agrees below (Calls call f t) F p =
    (k : Value → State → Play Value) × (p ≡ Ask call t k) × ((v : Value) (u : State) → F (k v u) (answered v f) u)
Agrees below Stuck F p = ⊥
Agrees below Unknown F p = Unit {0}

-- so for a number of steps, or until the play is cut off
abbrev pub Meets : Names → List Op → (below : List Value) → ℕ → Play Value → Frame → State → Type 0
Meets names code below zero p f s = Unit {0}
Meets names code below (suc n) p f s =
    IsCut p ⊎ Agrees below (step_at names (slice_get code f.pc) f s) (Meets names code below n) p

-- so for every number of steps
unfoldable pub Plays : Names → List Op → (below : List Value) → Play Value → Frame → State → Type 0
Plays names code below p f s = (n : ℕ) → Meets names code below n p f s
