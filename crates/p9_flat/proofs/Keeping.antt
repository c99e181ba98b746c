-- A step of the machine keeps the outcome.
use Rattle.std.proofs.Common.{◌≡◌, ◌<◌, ◌≤◌, ◌⊎◌, inl, inr, ℕ, zero, suc, ◌+◌, Bool, true, false, not, ◌==◌, if◌then◌else◌, nat_lt, List, [], ◌∷◌, Option, Some, None, slice_get, Result, Ok, Err, refl, sym, ap, subst, ◌∙◌, arith}
use Rattle.p9_base.specs.Words.{is_negative}
use Rattle.p9_cmean.specs.declared.Cause.{Cause}
use Rattle.p9_cmean.specs.declared.Place.{Place}
use Rattle.p9_cmean.specs.Cells.{Object, Value, State}
use Rattle.p9_cmean.specs.Access.{integer_in, pointer_in}
use Rattle.p9_cmean.specs.Places.{or_wrong}
use Rattle.p9_cmean.specs.SystemCalls.{SystemCall, Exits, Read, Write, exit_text, exits, exits_call, transfer_call, characters_at, written, write, room_at, filled, read, system_body}
use Rattle.p9_cmean.specs.Plays.{Call, Play, Done, Wrong, NoMeaning, Exit, Cut, Turn, Ask, Moved}
use Rattle.p9_cmean.specs.PlayLaws.{Lasts, LeavesFewer}
use Rattle.p9_cmean.specs.Turns.{Outcome, Ended, Out, Undefined, Deep, NoOutcome, End, Gave, Over, and_then, Calls, resolve, Functions, room, calls_to, outcome_of}
use Rattle.p9_cmean.proofs.Plays.{lasts_less}
use Rattle.p9_cmean.proofs.Calls.{calls_take_turns, depth_is_enough}
use Rattle.p9_flat.specs.declared.op.Op.{Op}
use Rattle.p9_flat.specs.Laws.{PlaysFrom}
use Rattle.p9_flat.specs.Step as steps
use Rattle.p9_flat.specs.Step.{Names, Own, Frame, frame, Step, step_at, answered, received, own_at, IsCut, Agrees, Meets, Plays}
use Rattle.p9_flat.specs.Machine.{Entry, Code, System, Bare, Table, need_of, Waiting, Config, Advance, On, Stops, Lost, Unsaid, returns, answers, begins, enters, called, turned, after, EntryIs, IsTable, Observer, Last, Under, seen, Waits, ComesTo, Keeps, first_answers, first_begins, first_enters, StartIsRight, MachineIsRight}
use Rattle.p9_cmean.specs.Union.{base_need}
use Rattle.p9_cmean.specs.CRun.{return_text}

-- a run that is over stays so under the calls that wait
seen_over : (calls : Calls) (o : Observer) (outcome : Outcome) (copied : ℕ) → seen calls o (Over outcome copied) ≡ outcome
seen_over calls Last outcome copied = refl
seen_over calls (Under active rest outer) outcome copied = seen_over calls outer outcome copied

-- CALLS of one depth give a play the same end as those of the next, for as many turns

then_same : (n : ℕ) (e : End) (next other : Value → State → ℕ → ℕ → End) → LeavesFewer n e
    → ((v : Value) (s : State) (m c : ℕ) → m < n → next v s m c ≡ other v s m c) → and_then e next ≡ and_then e other
then_same n (Gave v s m c) next other h same = same v s m c h
then_same n (Over o c) next other h same = refl

play_same : (functions : Functions) (d active : ℕ) (p : Play Value) (n copied : ℕ) → n ≤ d
    → resolve (calls_to d functions) active n copied p ≡ resolve (calls_to (suc d) functions) active n copied p
play_same functions d active (Done v s) n copied le = refl
play_same functions d active (Wrong why place s) n copied le = refl
play_same functions d active (NoMeaning place s) n copied le = refl
play_same functions d active (Exit text s) n copied le = refl
play_same functions d active (Cut s) n copied le = refl
play_same functions d active (Turn s p) zero copied le = refl
play_same functions d active (Turn s p) (suc n) copied le = play_same functions d active p n copied (omega (arith, le))
play_same functions d active (Ask call s p) n copied le =
    ap (λ e. and_then e (λ v t m i. resolve (calls_to d functions) active m i (p v t))) (depth_is_enough functions d (suc d) active n copied call s le (omega (arith, le)))
    ∙ then_same n (calls_to (suc d) functions active n copied call s) (λ v t m i. resolve (calls_to d functions) active m i (p v t))
    (λ v t m i. resolve (calls_to (suc d) functions) active m i (p v t)) (calls_take_turns functions (suc d) active n copied call s)
    (λ v t m i less. play_same functions d active (p v t) m i (omega (arith, le, less)))
play_same functions d active (Moved bytes p) n copied le = play_same functions d active p n (copied + bytes) le

-- THE SYSTEM CALLS end at once

abbrev IsQuick : Play Value → Type 0
IsQuick (Done v t) = Unit {0}
IsQuick (Wrong why place t) = Unit {0}
IsQuick (NoMeaning place t) = Unit {0}
IsQuick (Exit text t) = Unit {0}
IsQuick (Cut t) = ⊥
IsQuick (Turn t p) = ⊥
IsQuick (Ask call t p) = ⊥
IsQuick (Moved bytes p) = ⊥

quick_or : {A : Type 0} (place : Place) (s : State) (r : Result A Cause) (next : A → Play Value) → ((x : A) → IsQuick (next x)) → IsQuick (or_wrong place s r next)
quick_or place s (Ok x) next h = h x
quick_or place s (Err why) next h = tt

quick_if : (b : Bool) (p q : Play Value) → IsQuick p → IsQuick q → IsQuick (if b then p else q)
quick_if true p q h g = h
quick_if false p q h g = g

quick_exits : (place : Place) (vs : List Value) (s : State) → IsQuick (exits_call place vs s)
quick_exits place [] s = tt
quick_exits place (v ∷ []) s =
    quick_or place s (pointer_in v) (λ pointer. exits place pointer s) (λ pointer. quick_or place s (exit_text s.objects pointer) (λ text. Exit text s) (λ text. tt))
quick_exits place (v ∷ (x ∷ others)) s = tt

quick_written : (place : Place) (address : Value) (count : ℕ) (s : State) → IsQuick (written place address count s)
quick_written place address zero s = tt
quick_written place address (suc count) s = quick_or place s (characters_at s.objects address (suc count)) _ (λ characters. tt)

quick_filled : (place : Place) (address : Value) (count : ℕ) (s : State) → IsQuick (filled place address count s)
quick_filled place address zero s = tt
quick_filled place address (suc count) s = quick_or place s (room_at s.objects address (suc count)) _ (λ pointer. tt)

quick_write : (place : Place) (d : ℕ) (address : Value) (n : ℕ) (s : State) → IsQuick (write place d address n s)
quick_write place d address n s = quick_if (not (d == 1)) _ _ tt (quick_if (is_negative n) _ _ tt (quick_written place address n s))

quick_read : (place : Place) (d : ℕ) (address : Value) (n : ℕ) (s : State) → IsQuick (read place d address n s)
quick_read place d address n s = quick_if (not (d == 0)) _ _ tt (quick_if (is_negative n) _ _ tt (quick_filled place address n s))

quick_transfer : (transfer : Place → ℕ → Value → ℕ → State → Play Value) → ((place : Place) (d : ℕ) (address : Value) (n : ℕ) (s : State) → IsQuick (transfer place d address n s))
    → (place : Place) (vs : List Value) (s : State) → IsQuick (transfer_call transfer place vs s)
quick_transfer transfer h place [] s = tt
quick_transfer transfer h place (u ∷ []) s = tt
quick_transfer transfer h place (u ∷ (v ∷ [])) s = tt
quick_transfer transfer h place (u ∷ (v ∷ (x ∷ []))) s =
    quick_or place s (integer_in u) (λ d. or_wrong place s (integer_in x) (λ n. transfer place d v n s)) (λ d.
    quick_or place s (integer_in x) (λ n. transfer place d v n s) (λ n. h place d v n s))
quick_transfer transfer h place (u ∷ (v ∷ (x ∷ (y ∷ vs)))) s = tt

quick_system : (system : SystemCall) (call : Call) (s : State) → IsQuick (system_body system call s)
quick_system Exits call s = quick_exits call.place call.arguments s
quick_system Read call s = quick_transfer read quick_read call.place call.arguments s
quick_system Write call s = quick_transfer write quick_write call.place call.arguments s

quick_resolves : (one two : Calls) (a b n copied : ℕ) (q : Play Value) → IsQuick q → resolve one a n copied q ≡ resolve two b n copied q
quick_resolves one two a b n copied (Done v t) i = refl
quick_resolves one two a b n copied (Wrong why place t) i = refl
quick_resolves one two a b n copied (NoMeaning place t) i = refl
quick_resolves one two a b n copied (Exit text t) i = refl
quick_resolves one two a b n copied (Cut t) i = absurd i
quick_resolves one two a b n copied (Turn t q) i = absurd i
quick_resolves one two a b n copied (Ask call t q) i = absurd i
quick_resolves one two a b n copied (Moved m q) i = absurd i

-- THE PARTS OF A PLAY

rest_of : Play Value → Play Value
rest_of (Turn t q) = q
rest_of (Moved bytes q) = q
rest_of p = p

asks_of : Play Value → Value → State → Play Value
asks_of (Ask call t k) = k
asks_of p = λ v u. p

module _ (names : Names) (code : List Op) where
  waits_less : (o : Observer) (ws : List Waiting) (stack : List Value) (m n : ℕ) → n ≤ m → Waits names code o ws stack m → Waits names code o ws stack n
  waits_less Last [] stack m n le h = tt
  waits_less Last (w ∷ ws) stack m n le h = absurd h
  waits_less (Under active rest outer) [] stack m n le h = absurd h
  waits_less (Under active rest outer) (w ∷ ws) stack m n le h =
      (h.0, h.1, h.2, (λ v t. lasts_less (rest v t) (suc m) (suc n) (omega arith) (h.3 v t)), waits_less outer ws h.0 m n le h.4)

  -- what the machine does next, where a play isn't cut off
  uncut : (p : Play Value) (n : ℕ) → Lasts (suc n) p → IsCut p → ⊥
  uncut (Cut t) n l c = l
  uncut (Done v t) n l c = c
  uncut (Wrong why place t) n l c = c
  uncut (NoMeaning place t) n l c = c
  uncut (Exit text t) n l c = c
  uncut (Turn t q) n l c = c
  uncut (Ask call t k) n l c = c
  uncut (Moved bytes q) n l c = c

  agrees_now : (below : List Value) (p : Play Value) (f : Frame) (s : State) (n : ℕ) → Lasts (suc n) p → Plays names code below p f s
      → (m : ℕ) → Agrees below (step_at names (slice_get code f.pc) f s) (Meets names code below m) p
  unfolding Plays
  agrees_now below p f s n l h m = by (h (suc m))
    where
      by : IsCut p ⊎ Agrees below (step_at names (slice_get code f.pc) f s) (Meets names code below m) p
          → Agrees below (step_at names (slice_get code f.pc) f s) (Meets names code below m) p
      by (inl cut) = absurd (uncut p n l cut)
      by (inr agrees) = agrees

  plays_all : (below : List Value) (p : Play Value) (f : Frame) (s : State) → ((m : ℕ) → Meets names code below m p f s) → Plays names code below p f s
  unfolding Plays
  plays_all below p f s h = h

  turn_is : (below : List Value) (p : Play Value) (f : Frame) (t : State)
      → ((m : ℕ) → Agrees below (steps.Turns f t) (Meets names code below m) p) → (p ≡ Turn t (rest_of p)) × Plays names code below (rest_of p) f t
  unfolding Plays rest_of
  turn_is below p f t a =
      ((a 0).1 ∙ ap (λ q. Turn t q) (sym (ap rest_of (a 0).1)), λ m. subst (λ q. Meets names code below m q f t) (sym (ap rest_of (a m).1)) (a m).2)

  moved_is : (below : List Value) (p : Play Value) (bytes : ℕ) (f : Frame) (t : State)
      → ((m : ℕ) → Agrees below (steps.Moves bytes f t) (Meets names code below m) p) → (p ≡ Moved bytes (rest_of p)) × Plays names code below (rest_of p) f t
  unfolding Plays rest_of
  moved_is below p bytes f t a =
      ((a 0).1 ∙ ap (λ q. Moved bytes q) (sym (ap rest_of (a 0).1)), λ m. subst (λ q. Meets names code below m q f t) (sym (ap rest_of (a m).1)) (a m).2)

  call_is : (below : List Value) (p : Play Value) (call : Call) (f : Frame) (t : State)
      → ((m : ℕ) → Agrees below (steps.Calls call f t) (Meets names code below m) p)
      → (p ≡ Ask call t (asks_of p)) × ((v : Value) (u : State) → Plays names code below (asks_of p v u) (answered v f) u)
  unfolding Plays asks_of
  call_is below p call f t a = (
    (a 0).1 ∙ ap (λ k. Ask call t k) (sym (ap asks_of (a 0).1)),
    λ v u m. subst (λ k. Meets names code below m (k v u) (answered v f) u) (sym (ap asks_of (a m).1)) ((a m).2 v u),
  )

  -- ANSWERS

  gives_case : (calls : Calls) (goal : Outcome) (o : Observer) (ws : List Waiting) (below : List Value) (turns copied : ℕ) (v : Value) (f : Frame) (t : State)
      → f.stack ≡ below → Waits names code o ws below turns → goal ≡ seen calls o (Gave v t turns copied)
      → Keeps names code calls goal turns (returns v f t turns ws)
  gives_case calls goal Last [] below turns copied v f t e h is = sym is
  gives_case calls goal Last (w ∷ ws) below turns copied v f t e h is = absurd h
  gives_case calls goal (Under active rest outer) [] below turns copied v f t e h is = absurd h
  gives_case calls goal (Under active rest outer) (w ∷ ws) below turns copied v f t e h is = (
    record {
      play = rest v t;
      copied = copied;
      observer = outer;
      below = h.0;
      plays = subst (λ l. Plays names code h.0 (rest v t) (frame w.pc (v ∷ l) w.own) t) (sym e) (h.2 v t);
      lasts = h.3 v t;
      waits = h.4;
      is = is ∙ ap (λ a. seen calls outer (resolve calls a turns copied (rest v t))) (sym h.1);
    },
    omega arith,
  )

  answers_case : (calls : Calls) (goal : Outcome) (o : Observer) (below : List Value) (turns copied : ℕ) (k : Value → State → Play Value) (f : Frame) (c : Config) (q : Play Value)
      → IsQuick q → ((v : Value) (u : State) → Plays names code below (k v u) (answered v f) u)
      → ((v : Value) (u : State) → Lasts (suc turns) (k v u)) → Waits names code o c.waiting below turns
      → goal ≡ seen calls o (and_then (resolve calls c.active turns copied q) (λ v u left moved. resolve calls c.active left moved (k v u)))
      → Keeps names code calls goal turns (answers q f c turns)
  answers_case calls goal o below turns copied k f c (Done v t) i plays lasts waits is =
      (record { play = k v t; copied = copied; observer = o; below = below; plays = plays v t; lasts = lasts v t; waits = waits; is = is }, omega arith)
  answers_case calls goal o below turns copied k f c (Wrong why place t) i plays lasts waits is = sym (is ∙ seen_over calls o (Undefined why place t) copied)
  answers_case calls goal o below turns copied k f c (NoMeaning place t) i plays lasts waits is = sym (is ∙ seen_over calls o (NoOutcome place t) copied)
  answers_case calls goal o below turns copied k f c (Exit text t) i plays lasts waits is = sym (is ∙ seen_over calls o (Ended text t) copied)
  answers_case calls goal o below turns copied k f c (Cut t) i plays lasts waits is = absurd i
  answers_case calls goal o below turns copied k f c (Turn t q) i plays lasts waits is = absurd i
  answers_case calls goal o below turns copied k f c (Ask call t q) i plays lasts waits is = absurd i
  answers_case calls goal o below turns copied k f c (Moved n q) i plays lasts waits is = absurd i

  -- CALLS

  -- a call that has its turn and its room, under the call that waits for it
  record Asked (functions : Functions) (d : ℕ) (goal : Outcome) (o : Observer) (below : List Value) (n copied : ℕ) (k : Value → State → Play Value)
      (call : Call) (f : Frame) (t : State) (c : Config) : Type 0 where
    is_within : n ≤ d
    plays : (v : Value) (u : State) → Plays names code below (k v u) (answered v f) u
    lasts : (v : Value) (u : State) → Lasts (suc n) (k v u)
    waits : Waits names code o c.waiting below (suc n)
    is : goal ≡ seen (calls_to (suc d) functions) o
        (and_then (resolve (calls_to d functions) (c.active + functions.need call.function) n copied (functions.body n call t))
        (λ v u left moved. resolve (calls_to (suc d) functions) c.active left moved (k v u)))

  begins_case : (functions : Functions) (d : ℕ) (goal : Outcome) (o : Observer) (below : List Value) (n copied : ℕ) (k : Value → State → Play Value)
      (call : Call) (f : Frame) (t : State) (c : Config) (pc owner need : ℕ) (r : Option (List Object))
      → functions.need call.function ≡ need → Lasts (suc n) (functions.body n call t)
      → PlaysFrom names code f.stack pc owner r call t (functions.body n call t)
      → Asked functions d goal o below n copied k call f t c
      → Keeps names code (calls_to (suc d) functions) goal n (begins pc owner need r call f t c n)
  begins_case functions d goal o below n copied k call f t c pc owner need None i l p asked =
      sym (asked.is
      ∙ ap (λ q. seen (calls_to (suc d) functions) o (and_then (resolve (calls_to d functions) (c.active + functions.need call.function) n copied q)
      (λ v u left moved. resolve (calls_to (suc d) functions) c.active left moved (k v u)))) p
      ∙ seen_over (calls_to (suc d) functions) o (NoOutcome call.place t) copied)
  begins_case functions d goal o below n copied k call f t c pc owner need (Some objects) i l p asked = (
    record {
      play = functions.body n call t;
      copied = copied;
      observer = Under c.active k o;
      below = f.stack;
      plays = p;
      lasts = l;
      waits = (below, refl, asked.plays, asked.lasts, waits_less o c.waiting below (suc n) n (omega arith) asked.waits);
      is = asked.is
          ∙ ap (λ r. seen (calls_to (suc d) functions) o (and_then r (λ v u left moved. resolve (calls_to (suc d) functions) c.active left moved (k v u))))
          (play_same functions d (c.active + functions.need call.function) (functions.body n call t) n copied asked.is_within)
          ∙ ap (λ a. seen (calls_to (suc d) functions) o (and_then (resolve (calls_to (suc d) functions) (c.active + a) n copied (functions.body n call t))
          (λ v u left moved. resolve (calls_to (suc d) functions) c.active left moved (k v u)))) i;
    },
    omega arith,
  )

  enters_case : (functions : Functions) (d : ℕ) (goal : Outcome) (o : Observer) (below : List Value) (n copied : ℕ) (k : Value → State → Play Value)
      (call : Call) (f : Frame) (t : State) (c : Config) (e : Entry)
      → functions.need call.function ≡ need_of e → EntryIs names code functions call.function e
      → Asked functions d goal o below n copied k call f t c
      → Keeps names code (calls_to (suc d) functions) goal n (enters e call f t c n)
  enters_case functions d goal o below n copied k call f t c (Code pc owner sizes need) i h asked =
      begins_case functions d goal o below n copied k call f t c pc owner need (received sizes call.arguments) i (h n call t refl).0 ((h n call t refl).1 f.stack) asked
  enters_case functions d goal o below n copied k call f t c (System system) i h asked =
      answers_case (calls_to (suc d) functions) goal o below n copied k f c (system_body system call t) (quick_system system call t) asked.plays asked.lasts
      (waits_less o c.waiting below (suc n) n (omega arith) asked.waits)
      (asked.is
      ∙ ap (λ r. seen (calls_to (suc d) functions) o (and_then r (λ v u left moved. resolve (calls_to (suc d) functions) c.active left moved (k v u))))
      (ap (resolve (calls_to d functions) (c.active + functions.need call.function) n copied) (h n call t refl)
      ∙ quick_resolves (calls_to d functions) (calls_to (suc d) functions) (c.active + functions.need call.function) c.active n copied (system_body system call t) (quick_system system call t)))
  enters_case functions d goal o below n copied k call f t c (Bare need) i h asked =
      sym (asked.is
      ∙ ap (λ q. seen (calls_to (suc d) functions) o (and_then (resolve (calls_to d functions) (c.active + functions.need call.function) n copied q)
      (λ v u left moved. resolve (calls_to (suc d) functions) c.active left moved (k v u)))) (h n call t refl)
      ∙ seen_over (calls_to (suc d) functions) o (NoOutcome call.place t) copied)

  -- where a test decides between an end and going on
  room_case : (b : Bool) (calls : Calls) (goal : Outcome) (o : Observer) (n copied : ℕ) (out : Outcome) (rest : End) (next : Value → State → ℕ → ℕ → End) (a : Advance)
      → goal ≡ seen calls o (and_then (if b then Over out copied else rest) next)
      → (goal ≡ seen calls o (and_then rest next) → Keeps names code calls goal n a)
      → Keeps names code calls goal n (if b then Stops out else a)
  room_case true calls goal o n copied out rest next a is h = sym (is ∙ seen_over calls o out copied)
  room_case false calls goal o n copied out rest next a is h = h is

  keeps_more : (calls : Calls) (goal : Outcome) (m n : ℕ) (a : Advance) → m ≤ n → Keeps names code calls goal m a → Keeps names code calls goal n a
  keeps_more calls goal m n (On c) le h = (h.0, omega (arith, h.1))
  keeps_more calls goal m n (Stops o) le h = h
  keeps_more calls goal m n Lost le h = h
  keeps_more calls goal m n Unsaid le h = h

  call_case : (functions : Functions) (e : Entry) (d : ℕ) (goal : Outcome) (o : Observer) (below : List Value) (turns copied : ℕ) (k : Value → State → Play Value)
      (call : Call) (f : Frame) (t : State) (c : Config)
      → functions.need call.function ≡ need_of e → EntryIs names code functions call.function e → turns ≤ d
      → ((v : Value) (u : State) → Plays names code below (k v u) (answered v f) u)
      → ((v : Value) (u : State) → Lasts turns (k v u)) → Waits names code o c.waiting below turns
      → goal ≡ seen (calls_to d functions) o
      (and_then (calls_to d functions c.active turns copied call t) (λ v u left moved. resolve (calls_to d functions) c.active left moved (k v u)))
      → Keeps names code (calls_to d functions) goal turns (called e call f t c turns)
  call_case functions e zero goal o below zero copied k call f t c i h le plays lasts waits is = sym (is ∙ seen_over (calls_to zero functions) o (Out (Some call) t) copied)
  call_case functions e (suc d) goal o below zero copied k call f t c i h le plays lasts waits is = sym (is ∙ seen_over (calls_to (suc d) functions) o (Out (Some call) t) copied)
  call_case functions e zero goal o below (suc n) copied k call f t c i h le plays lasts waits is = absurd (omega arith)
  call_case functions e (suc d) goal o below (suc n) copied k call f t c i h le plays lasts waits is =
      room_case (nat_lt room (c.active + need_of e)) (calls_to (suc d) functions) goal o (suc n) copied (Deep call.place t)
      (resolve (calls_to d functions) (c.active + functions.need call.function) n copied (functions.body n call t))
      (λ v u left moved. resolve (calls_to (suc d) functions) c.active left moved (k v u))
      (enters e call f t c n)
      (is
      ∙ ap (λ need. seen (calls_to (suc d) functions) o
      (and_then (if nat_lt room (c.active + need) then Over (Deep call.place t) copied else resolve (calls_to d functions) (c.active + functions.need call.function) n copied (functions.body n call t))
      (λ v u left moved. resolve (calls_to (suc d) functions) c.active left moved (k v u)))) i)
      (λ same. keeps_more (calls_to (suc d) functions) goal n (suc n) (enters e call f t c n) (omega arith)
      (enters_case functions d goal o below n copied k call f t c e i h
      (record { is_within = omega (arith, le); plays = plays; lasts = lasts; waits = waits; is = same })))

  turn_case : (calls : Calls) (goal : Outcome) (o : Observer) (below : List Value) (turns copied : ℕ) (q : Play Value) (f : Frame) (t : State) (c : Config)
      → Plays names code below q f t → Lasts (suc turns) (Turn t q) → Waits names code o c.waiting below turns
      → goal ≡ seen calls o (resolve calls c.active turns copied (Turn t q))
      → Keeps names code calls goal turns (turned f t c turns)
  turn_case calls goal o below zero copied q f t c plays lasts waits is = sym (is ∙ seen_over calls o (Out None t) copied)
  turn_case calls goal o below (suc n) copied q f t c plays lasts waits is = (
    record { play = q; copied = copied; observer = o; below = below; plays = plays; lasts = lasts; waits = waits_less o c.waiting below (suc n) n (omega arith) waits; is = is },
    omega arith,
  )

  keep : (functions : Functions) (table : Table) → IsTable names code functions table → (depth : ℕ) (goal : Outcome) (c : Config) → c.turns ≤ depth
      → (h : ComesTo names code (calls_to depth functions) goal c) (st : Step) → ((m : ℕ) → Agrees h.below st (Meets names code h.below m) h.play)
      → Keeps names code (calls_to depth functions) goal c.turns (after table st c)
  keep functions table is depth goal c le h (steps.Next f t) a = (
    record {
      play = h.play;
      copied = h.copied;
      observer = h.observer;
      below = h.below;
      plays = plays_all h.below h.play f t a;
      lasts = h.lasts;
      waits = h.waits;
      is = h.is;
    },
    omega arith,
  )
  keep functions table is depth goal c le h (steps.Gives v f t) a =
      gives_case (calls_to depth functions) goal h.observer c.waiting h.below c.turns h.copied v f t (a 0).1 h.waits
      (h.is ∙ ap (λ p. seen (calls_to depth functions) h.observer (resolve (calls_to depth functions) c.active c.turns h.copied p)) (a 0).0)
  keep functions table is depth goal c le h (steps.Fails why place t) a =
      sym (h.is ∙ ap (λ p. seen (calls_to depth functions) h.observer (resolve (calls_to depth functions) c.active c.turns h.copied p)) (a 0)
      ∙ seen_over (calls_to depth functions) h.observer (Undefined why place t) h.copied)
  keep functions table is depth goal c le h (steps.Lacks place t) a =
      sym (h.is ∙ ap (λ p. seen (calls_to depth functions) h.observer (resolve (calls_to depth functions) c.active c.turns h.copied p)) (a 0)
      ∙ seen_over (calls_to depth functions) h.observer (NoOutcome place t) h.copied)
  keep functions table is depth goal c le h (steps.Turns f t) a =
      let g = turn_is h.below h.play f t a in
      turn_case (calls_to depth functions) goal h.observer h.below c.turns h.copied (rest_of h.play) f t c g.1
      (subst (λ p. Lasts (suc c.turns) p) g.0 h.lasts) h.waits
      (h.is ∙ ap (λ p. seen (calls_to depth functions) h.observer (resolve (calls_to depth functions) c.active c.turns h.copied p)) g.0)
  keep functions table is depth goal c le h (steps.Moves bytes f t) a =
      let g = moved_is h.below h.play bytes f t a in (
        record {
          play = rest_of h.play;
          copied = h.copied + bytes;
          observer = h.observer;
          below = h.below;
          plays = g.1;
          lasts = subst (λ p. Lasts (suc c.turns) p) g.0 h.lasts;
          waits = h.waits;
          is = h.is ∙ ap (λ p. seen (calls_to depth functions) h.observer (resolve (calls_to depth functions) c.active c.turns h.copied p)) g.0;
        },
        omega arith,
      )
  keep functions table is depth goal c le h (steps.Calls call f t) a =
      let g = call_is h.below h.play call f t a in
      call_case functions (table call.function) depth goal h.observer h.below c.turns h.copied (asks_of h.play) call f t c
      (is.needs call.function) (is.entries call.function) le g.1
      (subst (λ p. Lasts (suc c.turns) p) g.0 h.lasts) h.waits
      (h.is ∙ ap (λ p. seen (calls_to depth functions) h.observer (resolve (calls_to depth functions) c.active c.turns h.copied p)) g.0)
  keep functions table is depth goal c le h steps.Stuck a = absurd (a 0)
  keep functions table is depth goal c le h steps.Unknown a = tt

  -- THE START

  first_answers_case : (goal : Outcome) (calls : Calls) (active turns : ℕ) (q : Play Value) → IsQuick q → goal ≡ outcome_of return_text (resolve calls active turns 0 q)
      → Keeps names code calls goal turns (first_answers q)
  first_answers_case goal calls active turns (Done v t) i is = sym is
  first_answers_case goal calls active turns (Wrong why place t) i is = sym is
  first_answers_case goal calls active turns (NoMeaning place t) i is = sym is
  first_answers_case goal calls active turns (Exit text t) i is = sym is
  first_answers_case goal calls active turns (Cut t) i is = absurd i
  first_answers_case goal calls active turns (Turn t p) i is = absurd i
  first_answers_case goal calls active turns (Ask call t p) i is = absurd i
  first_answers_case goal calls active turns (Moved bytes p) i is = absurd i

  first_begins_case : (calls : Calls) (goal : Outcome) (n : ℕ) (call : Call) (s : State) (pc owner need : ℕ) (r : Option (List Object)) (p : Play Value)
      → Lasts (suc n) p → PlaysFrom names code [] pc owner r call s p → goal ≡ outcome_of return_text (resolve calls (base_need + need) n 0 p)
      → Keeps names code calls goal n (first_begins pc owner need r call s n)
  first_begins_case calls goal n call s pc owner need None p l plays is =
      sym (is ∙ ap (λ q. outcome_of return_text (resolve calls (base_need + need) n 0 q)) plays)
  first_begins_case calls goal n call s pc owner need (Some objects) p l plays is = (
    record { play = p; copied = 0; observer = Last; below = []; plays = plays; lasts = l; waits = tt; is = is },
    omega arith,
  )

  first_enters_case : (functions : Functions) (d n : ℕ) (call : Call) (s : State) (e : Entry) (goal : Outcome) → n ≤ d
      → functions.need call.function ≡ need_of e → EntryIs names code functions call.function e
      → goal ≡ outcome_of return_text (resolve (calls_to d functions) (base_need + functions.need call.function) n 0 (functions.body n call s))
      → Keeps names code (calls_to (suc d) functions) goal n (first_enters e call s n)
  first_enters_case functions d n call s (Code pc owner sizes need) goal le i h is =
      first_begins_case (calls_to (suc d) functions) goal n call s pc owner need (received sizes call.arguments) (functions.body n call s)
      (h n call s refl).0 ((h n call s refl).1 [])
      (is ∙ ap (λ r. outcome_of return_text r) (play_same functions d (base_need + functions.need call.function) (functions.body n call s) n 0 le)
      ∙ ap (λ a. outcome_of return_text (resolve (calls_to (suc d) functions) (base_need + a) n 0 (functions.body n call s))) i)
  first_enters_case functions d n call s (System system) goal le i h is =
      first_answers_case goal (calls_to (suc d) functions) (base_need + functions.need call.function) n (system_body system call s) (quick_system system call s)
      (is ∙ ap (λ q. outcome_of return_text (resolve (calls_to d functions) (base_need + functions.need call.function) n 0 q)) (h n call s refl)
      ∙ ap (λ r. outcome_of return_text r) (play_same functions d (base_need + functions.need call.function) (system_body system call s) n 0 le))
  first_enters_case functions d n call s (Bare need) goal le i h is =
      sym (is ∙ ap (λ q. outcome_of return_text (resolve (calls_to d functions) (base_need + functions.need call.function) n 0 q)) (h n call s refl))

  first_room_case : (b : Bool) (calls : Calls) (goal out : Outcome) (n : ℕ) (rest : End) (a : Advance)
      → goal ≡ outcome_of return_text (if b then Over out 0 else rest)
      → (goal ≡ outcome_of return_text rest → Keeps names code calls goal n a)
      → Keeps names code calls goal n (if b then Stops out else a)
  first_room_case true calls goal out n rest a is h = sym is
  first_room_case false calls goal out n rest a is h = h is

  start_case : (functions : Functions) (d n : ℕ) (call : Call) (s : State) (e : Entry) (goal : Outcome) → n ≤ d
      → functions.need call.function ≡ need_of e → EntryIs names code functions call.function e
      → goal ≡ outcome_of return_text (calls_to (suc d) functions base_need (suc n) 0 call s)
      → Keeps names code (calls_to (suc d) functions) goal (suc n) (if nat_lt room (base_need + need_of e) then Stops (Deep call.place s) else first_enters e call s n)
  start_case functions d n call s e goal le i h is =
      first_room_case (nat_lt room (base_need + need_of e)) (calls_to (suc d) functions) goal (Deep call.place s) (suc n)
      (resolve (calls_to d functions) (base_need + functions.need call.function) n 0 (functions.body n call s)) (first_enters e call s n)
      (is ∙ ap (λ need. outcome_of return_text
      (if nat_lt room (base_need + need) then Over (Deep call.place s) 0 else resolve (calls_to d functions) (base_need + functions.need call.function) n 0 (functions.body n call s))) i)
      (λ same. keeps_more (calls_to (suc d) functions) goal n (suc n) (first_enters e call s n) (omega arith)
      (first_enters_case functions d n call s e goal le i h same))

pub start_is_right : StartIsRight
start_is_right names code functions table is zero zero call s le = refl
start_is_right names code functions table is (suc d) zero call s le = refl
start_is_right names code functions table is zero (suc n) call s le = absurd (omega arith)
start_is_right names code functions table is (suc d) (suc n) call s le =
    start_case names code functions d n call s (table call.function) (outcome_of return_text (calls_to (suc d) functions base_need (suc n) 0 call s)) (omega (arith, le))
    (is.needs call.function) (is.entries call.function) refl

pub machine_is_right : MachineIsRight
machine_is_right names code functions table is depth goal c le h =
    keep names code functions table is depth goal c le h (step_at names (slice_get code c.top.pc) c.top c.state)
    (agrees_now names code h.below h.play c.top c.state c.turns h.lasts h.plays)
