-- What the calls of a simulation say of its run, where the source tells what is left.
use Rattle.std.proofs.Common.{◌≡◌, ◌≢◌, ℕ, ◌≤◌, true, false, List, [], ◌∷◌, ◌++◌, length, take, drop, map, Option, Some, None, Result, Ok, refl, sym, ◌∙◌, ap, subst, append_assoc, append-nil, length-append, arith}
use Rattle.std.proofs.lemmas.Grind.{common_steps}
use Rattle.p9_base.specs.CallBytes.{brought, written, brought_in, written_in, calls_of, steps_of, IsSteady}
use Rattle.p9_base.specs.Calls.{StreamCall, OnInput, OnOut, Failing, Input, Out, CallsEnd, OnStream}
use Rattle.p9_base.specs.Core.{Core, bytes_from}
use Rattle.p9_base.specs.Outside.{TakeCall, PutCall}
use Rattle.p9_base.specs.SystemCalls.{State, state, exit_text}
use Rattle.p9_base.specs.declared.halt.Ending.{Ending}
use Rattle.p9_base.specs.declared.halt.Ending.TheVariants as endings
use Rattle.p9_base.specs.declared.halt.Asked.TheVariants as asks
use Rattle.p9_r3k.specs.Machine.{asked}
use Rattle.p9_vi.specs.Run.{vrun}
use Rattle.p9_vi.specs.Stops.{IsAtCall}
use Rattle.p9_suite.proofs.Calls.{ends_streams}
use Rattle.p9_suite.proofs.Telling.{Brought, brought_append, written_append, steady_front, brought_takes, written_takes, brought_puts, written_puts}
use Rattle.p9_suite.specs.Answers.{status}
use Rattle.p9_suite.specs.Scene.{Scene, IsAnswer, HasPut, left, left_now, failing_at, has_run, is_early}
use Rattle.p9_suite.specs.Simulation.{IsRunBy, IsRunTo, Simulates, stopped, read_failed, write_failed, exit_answer, answer_by, answer_at}
use Rattle.p9_suite.specs.Told.{HasRun, HasRunToRead, HasRunToWrite, OfRun}
use Rattle.p9_suite.specs.declared.answer.Answer.{Answer}
use Rattle.p9_suite.specs.declared.answer.Answer.TheVariants.{Ran}
use Rattle.p9_suite.specs.declared.answer.End.TheVariants.{ReadFault, WriteFault}
use Rattle.p9_suite.specs.declared.answer.Refusal.{Refusal}

seven_eight : ◌≡◌ {A = ℕ} 7 8 → ⊥
seven_eight e = cc

ok_same : {A E : Type 0} {x y : A} → ◌≡◌ {A = Result A E} (Ok x) (Ok y) → x ≡ y
ok_same e = cc

-- The statuses of simulations

-- a whole run has one of these statuses
abbrev IsWhole : ℕ → Type 0
IsWhole s = (has_run s ≡ true) × (failing_at s ≡ None) × (s ≢ 7) × (s ≢ 8) × (is_early s ≡ false)

whole_exit : (text : List ℕ) → IsWhole (status (exit_answer text))
whole_exit [] = (refl, refl, (λ e. cc), (λ e. cc), refl)
whole_exit (c ∷ cs) = (refl, refl, (λ e. cc), (λ e. cc), refl)

whole_by : (budget : ℕ) (core : Core) (e : Ending) → IsWhole (status (answer_by budget core e))
whole_by budget core endings.Running = (refl, refl, (λ e. cc), (λ e. cc), refl)
whole_by budget core (endings.Exited at size) = whole_exit (exit_text core)
whole_by budget core (endings.Halted cause pc) = (refl, refl, (λ e. cc), (λ e. cc), refl)

whole_status : (file : List ℕ) (budget : ℕ) (calls : List StreamCall) (answer : Answer) → IsRunBy file budget calls answer → IsWhole (status answer)
whole_status file budget calls answer b = subst (λ (a : Answer). IsWhole (status a)) (sym b.answers) (whole_by budget b.end b.end.ending)

-- a simulation gives an answer
pub record Simulated (file : List ℕ) (budget : ℕ) (r : Result Answer Refusal) (calls : List StreamCall) : Type 0 where
  pub answer : Answer
  pub is : r ≡ Ok answer
  pub ran : has_run (status answer) ≡ true
  pub late : is_early (status answer) ≡ false
  pub ends : CallsEnd (map OnStream calls) (failing_at (status answer))
  pub whole : status answer ≢ 7 → status answer ≢ 8 → IsRunBy file budget calls answer

pub simulated : (file : List ℕ) (budget : ℕ) (r : Result Answer Refusal) (calls : List StreamCall) → Simulates file budget r calls → Simulated file budget r calls
simulated file budget _ _ (stopped answer calls fine b) =
    let w = whole_status file budget calls answer b in
    record {
      answer = answer;
      is = refl;
      ran = w.0;
      late = w.4;
      ends = subst (λ (f : Option Failing). CallsEnd (map OnStream calls) f) (sym w.1) (ends_streams calls None fine);
      whole = λ _ _. b;
    }
simulated file budget _ _ (read_failed calls ends t) = record { answer = Ran ReadFault; is = refl; ran = refl; late = refl; ends = ends_streams calls (Some Input) ends; whole = λ n _. absurd (n refl) }
simulated file budget _ _ (write_failed calls ends t) = record { answer = Ran WriteFault; is = refl; ran = refl; late = refl; ends = ends_streams calls (Some Out) ends; whole = λ _ n. absurd (n refl) }

-- The run

state_core : (c : Core) (l o : List ℕ) → (state c l o).core ≡ c
unfolding state
state_core c l o = refl

state_left : (c : Core) (l o : List ℕ) → (state c l o).left ≡ l
unfolding state
state_left c l o = refl

state_out : (c : Core) (l o : List ℕ) → (state c l o).out ≡ o
unfolding state
state_out c l o = refl

-- what the objects tell of calls from the objects before to those after
pub record ToldBy {I O F : Type 0} (call : Scene I O F) (calls : List StreamCall) : Type 0 where
  pub input : (l : List ℕ) → left call ≡ Some l → Brought calls l (left_now call)
  pub out : HasPut call (written_in calls)

put_as : {I O F : Type 0} (call : Scene I O F) (a b : List ℕ) → a ≡ b → HasPut call a → HasPut call b
put_as call a b e h = subst (HasPut call) e h

run_whole : {I O F : Type 0} (call : Scene I O F) (file : List ℕ) (budget : ℕ) (calls : List StreamCall) (answer : Answer) (l : List ℕ) → IsRunBy file budget calls answer → IsAnswer call answer → Brought calls l (left_now call) → HasPut call (written_in calls) → HasRun call file budget l
run_whole call file budget calls answer l b is told out = record {
  end = state b.end told.after (written_in calls);
  runs = ap (λ (x : List ℕ). vrun file x budget) told.split ∙ b.runs told.after told.steady;
  answers = subst (IsAnswer call) (b.answers ∙ ap (answer_at budget) (sym (state_core b.end told.after (written_in calls)))) is;
  takes = told.left ∙ ap Some (sym (state_left b.end told.after (written_in calls)));
  puts = put_as call (written_in calls) (state b.end told.after (written_in calls)).out (sym (state_out b.end told.after (written_in calls))) out;
}

drop_front : (xs ys : List ℕ) → drop (length xs) (xs ++ ys) ≡ ys
drop_front xs ys = grind (arith, common_steps)

run_to_read : {I O F : Type 0} (call : Scene I O F) (file : List ℕ) (budget : ℕ) (calls : List StreamCall) (l : List ℕ) → IsRunTo file budget calls Input → Brought calls l (left_now call) → HasPut call (written_in calls) → HasRunToRead call file budget l
run_to_read call file budget calls l t told out =
    let front : List StreamCall = calls_of t.stretches in
    let takes : List TakeCall = t.fails.0 in
    let failed = t.fails.2 in
    let are : calls ≡ front ++ map OnInput takes = t.are ∙ ap (λ (x : List StreamCall). front ++ x) t.fails.1 in
    let rest : List ℕ = brought takes ++ told.after in
    let split : l ≡ brought_in front ++ rest =
    told.split
    ∙ (ap (λ (x : List StreamCall). brought_in x ++ told.after) are
    ∙ (ap (λ (x : List ℕ). x ++ told.after) (brought_append front (map OnInput takes) ∙ ap (λ (x : List ℕ). brought_in front ++ x) (brought_takes takes))
    ∙ append_assoc (brought_in front) (brought takes) told.after)) in
    let steady : IsSteady front rest =
    subst (λ (x : List ℕ). IsSteady front (x ++ told.after)) (brought_takes takes)
    (steady_front front (map OnInput takes) told.after (subst (λ (x : List StreamCall). IsSteady x told.after) are told.steady)) in
    let wrote : written_in calls ≡ written_in front =
    ap written_in are ∙ (written_append front (map OnInput takes) ∙ (ap (λ (x : List ℕ). written_in front ++ x) (written_takes takes) ∙ append-nil (written_in front))) in
    let before : State = state t.before rest (written_in front) in
    let core : t.before ≡ before.core = sym (state_core t.before rest (written_in front)) in
    record {
      steps = steps_of t.stretches;
      fewer = t.fewer;
      before = before;
      runs = ap (λ (x : List ℕ). vrun file x (steps_of t.stretches)) split ∙ t.runs rest steady;
      at_call = subst (λ (c : Core). IsAtCall c) core failed.at_call;
      room = failed.room;
      size = failed.size;
      reads = subst (λ (c : Core). asked c ≡ asks.Read failed.room failed.size) core failed.reads;
      taken = length (brought takes);
      part = failed.part;
      there = subst (λ (x : List ℕ). length (brought takes) ≤ length x) (sym (state_left t.before rest (written_in front))) (omega (arith, length-append (brought takes) told.after));
      takes = told.left ∙ ap Some (sym (drop_front (brought takes) told.after) ∙ ap (drop (length (brought takes))) (sym (state_left t.before rest (written_in front))));
      puts = put_as call (written_in calls) before.out (wrote ∙ sym (state_out t.before rest (written_in front))) out;
    }

run_to_write : {I O F : Type 0} (call : Scene I O F) (file : List ℕ) (budget : ℕ) (calls : List StreamCall) (l : List ℕ) → IsRunTo file budget calls Out → Brought calls l (left_now call) → HasPut call (written_in calls) → HasRunToWrite call file budget l
run_to_write call file budget calls l t told out =
    let front : List StreamCall = calls_of t.stretches in
    let puts : List PutCall = t.fails.0 in
    let failed = t.fails.2 in
    let are : calls ≡ front ++ map OnOut puts = t.are ∙ ap (λ (x : List StreamCall). front ++ x) t.fails.1 in
    let split : l ≡ brought_in front ++ told.after =
    told.split
    ∙ (ap (λ (x : List StreamCall). brought_in x ++ told.after) are
    ∙ ap (λ (x : List ℕ). x ++ told.after) (brought_append front (map OnOut puts) ∙ (ap (λ (x : List ℕ). brought_in front ++ x) (brought_puts puts) ∙ append-nil (brought_in front)))) in
    let steady : IsSteady front told.after =
    subst (λ (x : List ℕ). IsSteady front (x ++ told.after)) (brought_puts puts)
    (steady_front front (map OnOut puts) told.after (subst (λ (x : List StreamCall). IsSteady x told.after) are told.steady)) in
    let before : State = state t.before told.after (written_in front) in
    let core : t.before ≡ before.core = sym (state_core t.before told.after (written_in front)) in
    let n : ℕ = length (written puts) in
    let piece : written puts ≡ take n (bytes_from before.core failed.piece failed.size) =
    failed.is ∙ ap (λ (c : Core). take n (bytes_from c failed.piece failed.size)) core in
    let wrote : written_in calls ≡ before.out ++ take n (bytes_from before.core failed.piece failed.size) =
    ap written_in are
    ∙ (written_append front (map OnOut puts)
    ∙ (ap (λ (x : List ℕ). written_in front ++ x) (written_puts puts ∙ piece)
    ∙ ap (λ (x : List ℕ). x ++ take n (bytes_from before.core failed.piece failed.size)) (sym (state_out t.before told.after (written_in front))))) in
    record {
      steps = steps_of t.stretches;
      fewer = t.fewer;
      before = before;
      runs = ap (λ (x : List ℕ). vrun file x (steps_of t.stretches)) split ∙ t.runs told.after steady;
      at_call = subst (λ (c : Core). IsAtCall c) core failed.at_call;
      piece = failed.piece;
      size = failed.size;
      writes = subst (λ (c : Core). asked c ≡ asks.Write failed.piece failed.size) core failed.writes;
      put = n;
      part = failed.part;
      takes = told.left ∙ ap Some (sym (state_left t.before told.after (written_in front)));
      puts = put_as call (written_in calls) (before.out ++ take n (bytes_from before.core failed.piece failed.size)) wrote out;
    }

-- what the call says of a simulation

module _ {I O F : Type 0} (call : Scene I O F) (file : List ℕ) (budget : ℕ) (calls : List StreamCall) where
  of_whole : (answer : Answer) → IsRunBy file budget calls answer → IsAnswer call answer → ToldBy call calls → OfRun call file budget
  of_whole answer b is told =
      let w : IsWhole (status answer) = whole_status file budget calls answer b in
      record {
        ran = ap has_run is.0 ∙ w.0;
        whole = λ l at _ _. run_whole call file budget calls answer l b is (told.input l at) told.out;
        to_read = λ l at seven. absurd (w.2 (sym is.0 ∙ seven));
        to_write = λ l at eight. absurd (w.3 (sym is.0 ∙ eight));
      }

  of_read : IsRunTo file budget calls Input → IsAnswer call (Ran ReadFault) → ToldBy call calls → OfRun call file budget
  of_read t is told = record {
    ran = ap has_run is.0;
    whole = λ l at n _. absurd (n is.0);
    to_read = λ l at _. run_to_read call file budget calls l t (told.input l at) told.out;
    to_write = λ l at eight. absurd (seven_eight (sym is.0 ∙ eight));
  }

  of_write : IsRunTo file budget calls Out → IsAnswer call (Ran WriteFault) → ToldBy call calls → OfRun call file budget
  of_write t is told = record {
    ran = ap has_run is.0;
    whole = λ l at _ n. absurd (n is.0);
    to_read = λ l at seven. absurd (seven_eight (sym seven ∙ is.0));
    to_write = λ l at _. run_to_write call file budget calls l t (told.input l at) told.out;
  }

pub of_run : {I O F : Type 0} (call : Scene I O F) (file : List ℕ) (budget : ℕ) (r : Result Answer Refusal) (calls : List StreamCall) (answer : Answer) → Simulates file budget r calls → r ≡ Ok answer → IsAnswer call answer → ToldBy call calls → OfRun call file budget
of_run call file budget _ _ answer (stopped other calls fine b) e is told =
    of_whole call file budget calls other b (subst (IsAnswer call) (sym (ok_same e)) is) told
of_run call file budget _ _ answer (read_failed calls ends t) e is told =
    of_read call file budget calls t (subst (IsAnswer call) (sym (ok_same e)) is) told
of_run call file budget _ _ answer (write_failed calls ends t) e is told =
    of_write call file budget calls t (subst (IsAnswer call) (sym (ok_same e)) is) told
