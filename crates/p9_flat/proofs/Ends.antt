-- The machine ends.
use Rattle.std.proofs.Common.{◌≡◌, ◌≤◌, ◌<◌, ℕ, zero, suc, ◌+◌, Bool, true, false, if◌then◌else◌, nat_lt, List, [], ◌∷◌, length, reverse, take, drop, Option, Some, None, Result, Ok, Err, slice_get, refl, arith}
use Rattle.p9_base.specs.Words.{word_negation, word_complement}
use Rattle.p9_lang.specs.Types.{TypeTree, Function, Meant, row_types}
use Rattle.p9_lang.specs.Modules.{Label, Typed}
use Rattle.p9_lang.specs.Constants.{truth}
use Rattle.p9_cmean.specs.declared.Cause.{Cause}
use Rattle.p9_cmean.specs.declared.Place.{Place}
use Rattle.p9_cmean.specs.Cells.{FunctionName, Cell, Object, Value, Word, Address, Missing, State}
use Rattle.p9_cmean.specs.Plays.{Call, Play, Done, Wrong, NoMeaning, Exit, Cut, Turn, Ask, Moved, bind}
use Rattle.p9_cmean.specs.Places.{used, done_at}
use Rattle.p9_cmean.specs.Access.{and_go, pointer_in, null, moved_inside, read_whole, written_whole}
use Rattle.p9_cmean.specs.Operators.{of_integer}
use Rattle.p9_cmean.specs.Expressions.{answered_as}
use Rattle.p9_cmean.specs.SystemCalls.{system_body}
use Rattle.p9_cmean.specs.Turns.{Outcome, Deep, room}
use Rattle.p9_cmean.specs.Union.{FunctionEntry, Union, base_need}
use Rattle.p9_cmean.specs.CRun.{Callee, Defined, NoCallee, callee, surroundings}
use Rattle.p9_cmean.specs.CRun as callees
use Rattle.p9_flat.specs.declared.op.Op.{Op}
use Rattle.p9_flat.specs.declared.op.Op.TheVariants as op
use Rattle.p9_flat.specs.Resolved.{load, store, narrow_to, operate_on, test}
use Rattle.p9_flat.specs.Code.{Numbers}
use Rattle.p9_flat.specs.Flat.{HasAt, entry_at, function_code, function_setting, parameter_sizes}
use Rattle.p9_flat.specs.Step as steps
use Rattle.p9_flat.specs.Step.{Names, Own, Frame, frame, Step, stepped, branched, on_one, on_two, place_in, made, pushed_automatic, copied_to, copied_from, asking, calling, function_of, chosen_case, is_word, answered, received, own_at, step, step_at}
use Rattle.p9_flat.specs.Machine.{Entry, Code, System, Bare, Table, need_of, Waiting, Config, Advance, On, Stops, returns, answers, waits_for, begins, enters, called, turned, after, first_answers, first_begins, first_enters, advance}
use Rattle.p9_flat.specs.Program.{defined_entry, callee_entry}
use Rattle.p9_flat.specs.Ending.{next_places, turn_places, AllOf, Behind, Short, IsBrief, EntryIsBrief, WaitsBriefly, total, for_turns, EndsSooner, EndsBy, TableIsBrief, MachineEnds, StartEnds, ProgramsAreBrief}
use Rattle.p9_flat.proofs.BriefLoops.{body_brief}

-- WHERE A STEP GOES

module _ (P T : ℕ → Type 0) where
  abbrev pub StepGoes : Step → Type 0
  StepGoes (steps.Next f t) = P f.pc
  StepGoes (steps.Gives v f t) = Unit {0}
  StepGoes (steps.Fails why place t) = Unit {0}
  StepGoes (steps.Lacks place t) = Unit {0}
  StepGoes (steps.Turns f t) = T f.pc
  StepGoes (steps.Moves bytes f t) = P f.pc
  StepGoes (steps.Calls call f t) = P f.pc
  StepGoes steps.Stuck = Unit {0}
  StepGoes steps.Unknown = Unit {0}

  stepped_goes : (q : Play Value) (f : Frame) → P (suc f.pc) → StepGoes (stepped q f)
  stepped_goes (Done v t) f h = h
  stepped_goes (Wrong why place t) f h = tt
  stepped_goes (NoMeaning place t) f h = tt
  stepped_goes (Exit text t) f h = tt
  stepped_goes (Cut t) f h = tt
  stepped_goes (Turn t p) f h = tt
  stepped_goes (Ask call t p) f h = tt
  stepped_goes (Moved bytes p) f h = tt

  branched_goes : (q : Play Bool) (otherwise : ℕ) (f : Frame) → P (suc f.pc) → P otherwise → StepGoes (branched q otherwise f)
  branched_goes (Done true t) otherwise f h g = h
  branched_goes (Done false t) otherwise f h g = g
  branched_goes (Wrong why place t) otherwise f h g = tt
  branched_goes (NoMeaning place t) otherwise f h g = tt
  branched_goes (Exit text t) otherwise f h g = tt
  branched_goes (Cut t) otherwise f h g = tt
  branched_goes (Turn t p) otherwise f h g = tt
  branched_goes (Ask call t p) otherwise f h g = tt
  branched_goes (Moved bytes p) otherwise f h g = tt

  one_goes : (stack : List Value) (f : Frame) (go : Value → Frame → Step) → ((a : Value) (rest : List Value) → StepGoes (go a (frame f.pc rest f.own))) → StepGoes (on_one stack f go)
  one_goes [] f go h = tt
  one_goes (a ∷ rest) f go h = h a rest

  two_goes : (stack : List Value) (f : Frame) (go : Value → Value → Frame → Step) → ((a b : Value) (rest : List Value) → StepGoes (go a b (frame f.pc rest f.own))) → StepGoes (on_two stack f go)
  two_goes [] f go h = tt
  two_goes (b ∷ []) f go h = tt
  two_goes (b ∷ (a ∷ rest)) f go h = h a b rest

  automatic_goes : (o : Option ℕ) (f : Frame) (s : State) → P (suc f.pc) → StepGoes (pushed_automatic o f s)
  automatic_goes None f s h = tt
  automatic_goes (Some object) f s h = h

  copied_to_goes : (size : ℕ) (place : Place) (r : Result (List Object) Cause) (to : Value) (f : Frame) (s : State) → P (suc f.pc) → StepGoes (copied_to size place r to f s)
  copied_to_goes size place (Ok objects) to f s h = h
  copied_to_goes size place (Err why) to f s h = tt

  copied_goes : (size alignment : ℕ) (read place : Place) (r : Result (List Cell) Cause) (to from : Value) (f : Frame) (s : State) → P (suc f.pc)
      → StepGoes (copied_from size alignment read place r to from f s)
  copied_goes size alignment read place (Ok cells) to from f s h = copied_to_goes size place (written_whole size alignment s.objects to from cells) to f s h
  copied_goes size alignment read place (Err why) to from f s h = tt

  asking_goes : (place : Place) (vs : List Value) (r : Result FunctionName Cause) (f : Frame) (s : State) → P (suc f.pc) → StepGoes (asking place vs r f s)
  asking_goes place vs (Ok name) f s h = h
  asking_goes place vs (Err why) f s h = tt

  calling_goes : (names : Names) (type : ℕ) (place : Place) (vs : List Value) (v : Value) (f : Frame) (s : State) → P (suc f.pc) → StepGoes (calling names type place vs v f s)
  calling_goes names type place vs (Word n) f s h = asking_goes place vs (and_go (pointer_in (Word n)) (function_of names type s.objects)) f s h
  calling_goes names type place vs (Address p) f s h = asking_goes place vs (and_go (pointer_in (Address p)) (function_of names type s.objects)) f s h
  calling_goes names type place vs (Missing call) f s h = tt

  case_goes : (b : Bool) (to : ℕ) (v : Value) (f : Frame) (s : State) → P (suc f.pc) → P to → StepGoes (chosen_case b to v f s)
  case_goes true to v f s h g = g
  case_goes false to v f s h g = h

  pub step_goes : (names : Names) (o : Op) (f : Frame) (s : State) → AllOf P (next_places o f.pc) → AllOf T (turn_places o f.pc) → StepGoes (step names o f s)
  step_goes names (op.Number n) f s h g = h.0
  step_goes names (op.Object object offset) f s h g = h.0
  step_goes names (op.Function number) f s h g = h.0
  step_goes names (op.Automatic number) f s h g = automatic_goes (slice_get f.own.automatics number) f s h.0
  step_goes names (op.Load moves here) f s h g = one_goes f.stack f _ (λ a rest. stepped_goes (load moves (place_in f here) a s) (frame f.pc rest f.own) h.0)
  step_goes names (op.Store moves here) f s h g = two_goes f.stack f _ (λ a v rest. stepped_goes (store moves (place_in f here) a v s) (frame f.pc rest f.own) h.0)
  step_goes names (op.Copy size alignment read here) f s h g =
      two_goes f.stack f _ (λ to from rest. copied_goes size alignment (place_in f read) (place_in f here) (read_whole size alignment s.objects from) to from (frame f.pc rest f.own) s h.0)
  step_goes names op.Use f s h g = one_goes f.stack f _ (λ a rest. stepped_goes (used a s (λ v. Done v s)) (frame f.pc rest f.own) h.0)
  step_goes names op.Null f s h g = one_goes f.stack f _ (λ a rest. stepped_goes (used a s (λ v. Done null s)) (frame f.pc rest f.own) h.0)
  step_goes names (op.Narrow moves here) f s h g =
      one_goes f.stack f _ (λ a rest. stepped_goes (used a s (λ v. done_at (place_in f here) s (narrow_to moves v))) (frame f.pc rest f.own) h.0)
  step_goes names (op.Inner offset here) f s h g =
      one_goes f.stack f _ (λ a rest. stepped_goes (used a s (λ v. done_at (place_in f here) s (moved_inside s.objects offset v))) (frame f.pc rest f.own) h.0)
  step_goes names (op.Operate done here) f s h g = two_goes f.stack f _ (λ a b rest. stepped_goes (operate_on (place_in f here) done a b s) (frame f.pc rest f.own) h.0)
  step_goes names (op.Negate here) f s h g =
      one_goes f.stack f _ (λ a rest. stepped_goes (used a s (λ v. done_at (place_in f here) s (of_integer word_negation v))) (frame f.pc rest f.own) h.0)
  step_goes names (op.Complement here) f s h g =
      one_goes f.stack f _ (λ a rest. stepped_goes (used a s (λ v. done_at (place_in f here) s (of_integer word_complement v))) (frame f.pc rest f.own) h.0)
  step_goes names (op.Truth of_pointer here) f s h g =
      one_goes f.stack f _ (λ a rest. stepped_goes (bind (test of_pointer (place_in f here) a s) (λ holds t. Done (Word (truth holds)) t)) (frame f.pc rest f.own) h.0)
  step_goes names (op.Not of_pointer here) f s h g =
      one_goes f.stack f _ (λ a rest. stepped_goes (bind (test of_pointer (place_in f here) a s) (λ holds t. Done (Word (truth (Rattle.std.specs.Prelude.not holds))) t)) (frame f.pc rest f.own) h.0)
  step_goes names (op.Void here) f s h g = one_goes f.stack f _ (λ a rest. h.0)
  step_goes names op.Twice f s h g = one_goes f.stack f _ (λ a rest. h.0)
  step_goes names op.Over f s h g = two_goes f.stack f _ (λ a b rest. h.0)
  step_goes names op.Swap f s h g = two_goes f.stack f _ (λ a b rest. h.0)
  step_goes names op.Tuck f s h g = two_goes f.stack f _ (λ a b rest. h.0)
  step_goes names (op.Call count type here) f s h g =
      one_goes (drop count f.stack) f _ (λ function rest. calling_goes names type (place_in f here) (reverse (take count f.stack)) function (frame f.pc rest f.own) s h.0)
  step_goes names (op.Answer here) f s h g = one_goes f.stack f _ (λ a rest. stepped_goes (answered_as true (place_in f here) a s) (frame f.pc rest f.own) h.0)
  step_goes names op.Pop f s h g = one_goes f.stack f _ (λ a rest. h.0)
  step_goes names (op.Make size) f s h g = h.0
  step_goes names (op.Leave count) f s h g = h.0
  step_goes names (op.Jump to) f s h g = h.0
  step_goes names (op.Branch of_pointer here otherwise) f s h g =
      one_goes f.stack f _ (λ a rest. branched_goes (test of_pointer (place_in f here) a s) otherwise (frame f.pc rest f.own) h.0 h.1.0)
  step_goes names (op.Case word to) f s h g = one_goes f.stack f _ (λ a rest. case_goes (is_word word a) to a (frame f.pc rest f.own) s h.0 h.1.0)
  step_goes names op.Turn f s h g = g.0
  step_goes names (op.NoMeaning here) f s h g = tt
  step_goes names op.Stray f s h g = tt
  step_goes names op.Unnumbered f s h g = tt
  step_goes names op.Nothing f s h g = h.0
  step_goes names op.Return f s h g = one_goes f.stack f _ (λ a rest. tt)

  pub step_at_goes : (names : Names) (o : Option Op) (f : Frame) (s : State) → Behind P T f.pc o → StepGoes (step_at names o f s)
  step_at_goes names None f s h = tt
  step_at_goes names (Some o) f s h = step_goes names o f s h.0 h.1

-- for all turns

all_turns : (Q : ℕ → ℕ → Type 0) (xs : List ℕ) → ((turns : ℕ) → AllOf (Q turns) xs) → AllOf (λ q. (turns : ℕ) → Q turns q) xs
all_turns Q [] h = tt
all_turns Q (x ∷ xs) h = ((λ turns. (h turns).0), all_turns Q xs (λ turns. (h turns).1))

-- what stands behind an operation, by the turns that are left
abbrev BehindAt : List Op → (bound n pc turns : ℕ) → Option Op → Type 0
BehindAt code bound n pc zero o = Behind (Short code bound zero n) (λ q. Unit {0}) pc o
BehindAt code bound n pc (suc turns) o = Behind (Short code bound (suc turns) n) (Short code bound turns bound) pc o

next_at : (code : List Op) (bound n pc turns : ℕ) (o : Op) → BehindAt code bound n pc turns (Some o) → AllOf (Short code bound turns n) (next_places o pc)
next_at code bound n pc zero o h = h.0
next_at code bound n pc (suc turns) o h = h.0

behind_is : (code : List Op) (bound n pc : ℕ) (o : Option Op) → ((turns : ℕ) → BehindAt code bound n pc turns o) → Behind (IsBrief code bound n) (IsBrief code bound bound) pc o
behind_is code bound n pc None h = tt
behind_is code bound n pc (Some o) h = (
  all_turns (λ turns q. Short code bound turns n q) (next_places o pc) (λ turns. next_at code bound n pc turns o (h turns)),
  all_turns (λ turns q. Short code bound turns bound q) (turn_places o pc) (λ turns. (h (suc turns)).1),
)

brief_behind : (code : List Op) (bound n pc : ℕ) → IsBrief code bound (suc n) pc → (turns : ℕ) → BehindAt code bound n pc turns (slice_get code pc)
brief_behind code bound n pc h zero = h zero
brief_behind code bound n pc h (suc turns) = h (suc turns)

-- THE MACHINE

one_less : (n t x y : ℕ) → (suc n + t) + x ≤ y → (n + t) + x < y
one_less n t x y h = omega (arith, h)

module _ (code : List Op) (bound : ℕ) where
  goes_sooner : (n : ℕ) (others : List ℕ) (ws : List Waiting) (turns active y z : ℕ) (f : Frame) (t : State) → IsBrief code bound n f.pc → WaitsBriefly code bound others ws
      → (n + total others) + for_turns bound turns ≤ z → z < y
      → EndsSooner code bound y (On (record { top = f; waiting = ws; state = t; turns = turns; active = active }))
  goes_sooner n others ws turns active y z f t h w le less =
      (z, less, record { here = n; others = others; top_is = h; waiting_are = w; sum_is = le })

  returns_sooner : (n : ℕ) (others : List ℕ) (ws : List Waiting) (turns y : ℕ) (v : Value) (f : Frame) (t : State) → WaitsBriefly code bound others ws
      → (suc n + total others) + for_turns bound turns ≤ y → EndsSooner code bound y (returns v f t turns ws)
  returns_sooner n [] [] turns y v f t w le = tt
  returns_sooner n (m ∷ ms) [] turns y v f t w le = absurd w
  returns_sooner n [] (x ∷ xs) turns y v f t w le = absurd w
  returns_sooner n (m ∷ ms) (x ∷ xs) turns y v f t w le =
      goes_sooner m ms xs turns x.active y ((m + total ms) + for_turns bound turns) (frame x.pc (v ∷ f.stack) x.own) t w.0 w.1 (omega arith) (omega (arith, le))

  answers_sooner : (n : ℕ) (others : List ℕ) (c : Config) (turns y : ℕ) (q : Play Value) (f : Frame) → IsBrief code bound n f.pc → WaitsBriefly code bound others c.waiting
      → (n + total others) + for_turns bound turns < y → EndsSooner code bound y (answers q f c turns)
  answers_sooner n others c turns y (Done v t) f h w less =
      goes_sooner n others c.waiting turns c.active y ((n + total others) + for_turns bound turns) (answered v f) t h w (omega arith) less
  answers_sooner n others c turns y (Wrong why place t) f h w less = tt
  answers_sooner n others c turns y (NoMeaning place t) f h w less = tt
  answers_sooner n others c turns y (Exit text t) f h w less = tt
  answers_sooner n others c turns y (Cut t) f h w less = tt
  answers_sooner n others c turns y (Turn t p) f h w less = tt
  answers_sooner n others c turns y (Ask call t p) f h w less = tt
  answers_sooner n others c turns y (Moved bytes p) f h w less = tt

  begins_sooner : (n : ℕ) (others : List ℕ) (c : Config) (turns y pc owner need : ℕ) (r : Option (List Object)) (call : Call) (f : Frame) (t : State)
      → IsBrief code bound bound (entry_at pc) → IsBrief code bound n f.pc → WaitsBriefly code bound others c.waiting
      → (suc n + total others) + (suc bound + for_turns bound turns) ≤ y → EndsSooner code bound y (begins pc owner need r call f t c turns)
  begins_sooner n others c turns y pc owner need None call f t e h w le = tt
  begins_sooner n others c turns y pc owner need (Some objects) call f t e h w le =
      goes_sooner bound (n ∷ others) (waits_for f c ∷ c.waiting) turns (c.active + need) y ((bound + (n + total others)) + for_turns bound turns)
      (frame (entry_at pc) f.stack (own_at owner call.place (length objects) t)) (Rattle.p9_cmean.specs.Automatics.with_objects objects t) e (h, w) (omega arith) (omega (arith, le))

  enters_sooner : (n : ℕ) (others : List ℕ) (c : Config) (turns y : ℕ) (e : Entry) (call : Call) (f : Frame) (t : State)
      → EntryIsBrief code bound e → IsBrief code bound n f.pc → WaitsBriefly code bound others c.waiting
      → (suc n + total others) + (suc bound + for_turns bound turns) ≤ y → EndsSooner code bound y (enters e call f t c turns)
  enters_sooner n others c turns y (Code pc owner sizes need) call f t e h w le = begins_sooner n others c turns y pc owner need (received sizes call.arguments) call f t e h w le
  enters_sooner n others c turns y (System system) call f t e h w le = answers_sooner n others c turns y (system_body system call t) f h w (omega (arith, le))
  enters_sooner n others c turns y (Bare need) call f t e h w le = tt

  if_sooner : (b : Bool) (y : ℕ) (out : Outcome) (a : Advance) → EndsSooner code bound y a → EndsSooner code bound y (if b then Stops out else a)
  if_sooner true y out a h = tt
  if_sooner false y out a h = h

  called_sooner : (n : ℕ) (others : List ℕ) (c : Config) (turns y : ℕ) (e : Entry) (call : Call) (f : Frame) (t : State)
      → EntryIsBrief code bound e → IsBrief code bound n f.pc → WaitsBriefly code bound others c.waiting
      → (suc n + total others) + for_turns bound turns ≤ y → EndsSooner code bound y (called e call f t c turns)
  called_sooner n others c zero y e call f t i h w le = tt
  called_sooner n others c (suc turns) y e call f t i h w le =
      if_sooner (nat_lt room (c.active + need_of e)) y (Deep call.place t) (enters e call f t c turns) (enters_sooner n others c turns y e call f t i h w le)

  turned_sooner : (n : ℕ) (others : List ℕ) (c : Config) (turns y : ℕ) (f : Frame) (t : State) → IsBrief code bound bound f.pc → WaitsBriefly code bound others c.waiting
      → (suc n + total others) + for_turns bound turns ≤ y → EndsSooner code bound y (turned f t c turns)
  turned_sooner n others c zero y f t h w le = tt
  turned_sooner n others c (suc turns) y f t h w le =
      goes_sooner bound others c.waiting turns c.active y ((bound + total others) + for_turns bound turns) f t h w (omega arith) (omega (arith, le))

  after_sooner : (table : Table) → TableIsBrief code bound table → (n : ℕ) (others : List ℕ) (c : Config) (y : ℕ) (st : Step)
      → StepGoes (IsBrief code bound n) (IsBrief code bound bound) st → WaitsBriefly code bound others c.waiting
      → (suc n + total others) + for_turns bound c.turns ≤ y → EndsSooner code bound y (after table st c)
  after_sooner table brief n others c y (steps.Next f t) h w le =
      goes_sooner n others c.waiting c.turns c.active y ((n + total others) + for_turns bound c.turns) f t h w (omega arith) (one_less n (total others) (for_turns bound c.turns) y le)
  after_sooner table brief n others c y (steps.Gives v f t) h w le = returns_sooner n others c.waiting c.turns y v f t w le
  after_sooner table brief n others c y (steps.Fails why place t) h w le = tt
  after_sooner table brief n others c y (steps.Lacks place t) h w le = tt
  after_sooner table brief n others c y (steps.Turns f t) h w le = turned_sooner n others c c.turns y f t h w le
  after_sooner table brief n others c y (steps.Moves bytes f t) h w le =
      goes_sooner n others c.waiting c.turns c.active y ((n + total others) + for_turns bound c.turns) f t h w (omega arith) (one_less n (total others) (for_turns bound c.turns) y le)
  after_sooner table brief n others c y (steps.Calls call f t) h w le = called_sooner n others c c.turns y (table call.function) call f t (brief call.function) h w le
  after_sooner table brief n others c y steps.Stuck h w le = tt
  after_sooner table brief n others c y steps.Unknown h w le = tt

  ends_by : (names : Names) (table : Table) → TableIsBrief code bound table → (y : ℕ) (c : Config) (n : ℕ) (others : List ℕ) → IsBrief code bound n c.top.pc
      → WaitsBriefly code bound others c.waiting → (n + total others) + for_turns bound c.turns ≤ y → EndsSooner code bound y (advance names code table c)
  ends_by names table brief y c zero others h w le = absurd (h 0)
  ends_by names table brief y c (suc n) others h w le =
      after_sooner table brief n others c y (step_at names (slice_get code c.top.pc) c.top c.state)
      (step_at_goes (IsBrief code bound n) (IsBrief code bound bound) names (slice_get code c.top.pc) c.top c.state
      (behind_is code bound n c.top.pc (slice_get code c.top.pc) (brief_behind code bound n c.top.pc h)))
      w le

  -- THE START

  first_answers_end : (y : ℕ) (q : Play Value) → EndsBy code bound y (first_answers q)
  first_answers_end y (Done v t) = tt
  first_answers_end y (Wrong why place t) = tt
  first_answers_end y (NoMeaning place t) = tt
  first_answers_end y (Exit text t) = tt
  first_answers_end y (Cut t) = tt
  first_answers_end y (Turn t p) = tt
  first_answers_end y (Ask call t p) = tt
  first_answers_end y (Moved bytes p) = tt

  first_begins_end : (pc owner need : ℕ) (r : Option (List Object)) (call : Call) (s : State) (turns : ℕ) → IsBrief code bound bound (entry_at pc)
      → EndsBy code bound (suc bound + for_turns bound turns) (first_begins pc owner need r call s turns)
  first_begins_end pc owner need None call s turns h = tt
  first_begins_end pc owner need (Some objects) call s turns h = record { here = bound; others = []; top_is = h; waiting_are = tt; sum_is = omega arith }

  first_enters_end : (e : Entry) (call : Call) (s : State) (turns : ℕ) → EntryIsBrief code bound e → EndsBy code bound (suc bound + for_turns bound turns) (first_enters e call s turns)
  first_enters_end (Code pc owner sizes need) call s turns h = first_begins_end pc owner need (received sizes call.arguments) call s turns h
  first_enters_end (System system) call s turns h = first_answers_end (suc bound + for_turns bound turns) (system_body system call s)
  first_enters_end (Bare need) call s turns h = tt

  if_ends : (b : Bool) (y : ℕ) (out : Outcome) (a : Advance) → EndsBy code bound y a → EndsBy code bound y (if b then Stops out else a)
  if_ends true y out a h = tt
  if_ends false y out a h = h

pub machine_ends : MachineEnds
machine_ends names code table bound brief y c h = ends_by code bound names table brief y c h.here h.others h.top_is h.waiting_are h.sum_is

pub start_ends : StartEnds
start_ends code table bound brief call s zero = tt
start_ends code table bound brief call s (suc turns) =
    if_ends code bound (nat_lt room (base_need + need_of (table call.function))) (suc bound + for_turns bound turns) (Deep call.place s) (first_enters (table call.function) call s turns)
    (first_enters_end code bound (table call.function) call s turns (brief call.function))

-- PROGRAMS

definition_brief : (code : List Op) (bound : ℕ) (numbers : Numbers) (pc : ℕ) (function : FunctionName) (owner : ℕ) (tags : Rattle.p9_lang.specs.Types.Tags) (need : ℕ) (label : Label)
    (number token : ℕ) (type : TypeTree) (means : Meant) (block : Typed) (around : Rattle.p9_cmean.specs.Expressions.Surroundings)
    → HasAt code pc (function_code numbers around pc (record { label = label; name = record { number = number; token = token; type = type; means = means }; block = block }))
    → length (function_code numbers around pc (record { label = label; name = record { number = number; token = token; type = type; means = means }; block = block })) ≤ bound
    → EntryIsBrief code bound (defined_entry pc (record { function = function; owner = owner; tags = tags; definition = record { label = label; name = record { number = number; token = token; type = type; means = means }; block = block }; need = need })
    (parameter_sizes tags type))
definition_brief code bound numbers pc function owner tags need label number token (Function result parameters) means block around h le =
    body_brief code bound (function_setting numbers around result (row_types parameters)) pc block h le
definition_brief code bound numbers pc function owner tags need label number token type means block around h le = tt

callee_brief : (code : List Op) (bound : ℕ) (numbers : ℕ → Numbers) (union : Union) (pc : ℕ) (c : Callee)
    → ((entry : FunctionEntry) → c ≡ Defined entry → HasAt code pc (function_code (numbers entry.owner) (surroundings union entry.owner entry.tags) pc entry.definition))
    → ((entry : FunctionEntry) → c ≡ Defined entry → length (function_code (numbers entry.owner) (surroundings union entry.owner entry.tags) pc entry.definition) ≤ bound)
    → EntryIsBrief code bound (callee_entry pc c)
callee_brief code bound numbers union pc (callees.System system) h le = tt
callee_brief code bound numbers union pc (Defined e) h le =
    definition_brief code bound (numbers e.owner) pc e.function e.owner e.tags e.need e.definition.label e.definition.name.number e.definition.name.token e.definition.name.type e.definition.name.means
    e.definition.block (surroundings union e.owner e.tags) (h e refl) (le e refl)
callee_brief code bound numbers union pc NoCallee h le = tt

pub programs_are_brief : ProgramsAreBrief
programs_are_brief union names numbers code place bound linked le =
    λ name. callee_brief code bound numbers union (place name) (callee union name) (linked.stands name) (le name)
