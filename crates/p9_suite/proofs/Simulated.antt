-- How a simulation comes to its answer: its calls show the run of the file's bytes.
use Rattle.std.proofs.Common.{◌≡◌, ◌≢◌, ◌≤◌, ◌<◌, ◌⊎◌, option_map, Result, inl, inr, ℕ, ◌+◌, ◌-◌, List, [], ◌++◌, Some, None, Ok, Err, refl, sym, ◌∙◌, ap, subst, append-nil, arith}
use Rattle.p9_base.specs.Outside.{TakeCall, PutCall}
use Rattle.p9_base.specs.Calls.{StreamCall, StreamsDid, StreamsFine, StreamsEnd, Failing, Input, Out}
use Rattle.p9_aout.specs.Image.{ImageParts, image_of}
use Rattle.p9_aout.specs.declared.format.AoutFault.{AoutFault}
use Rattle.p9_aout.specs.declared.format.AoutFault.TheVariants as fault
use Rattle.p9_base.specs.Core.{Core}
use Rattle.p9_base.specs.declared.halt.Ending.{Ending}
use Rattle.p9_base.specs.declared.halt.Ending.TheVariants as endings
use Rattle.p9_base.specs.SystemCalls.{State, state, exit_text}
use Rattle.p9_r3k.specs.Machine.{run}
use Rattle.p9_r3k.specs.Laws.{HasEnded}
use Rattle.p9_r3k.proofs.Runs.{run-sum, run-ended}
use Rattle.p9_vi.specs.Run.{vrun, start_of, started, IsExited}
use Rattle.p9_vi.specs.Stops.{StandsAt, stop_failure}
use Rattle.p9_base.specs.CallBytes.{IsSteady, calls_of, steps_of, brought_in, written_in}
use Rattle.p9_vi.specs.Tied.{Ties, Goes, IsRunOn, StopCount}
use Rattle.p9_vi.specs.declared.stop.Stop.{Stop}
use Rattle.p9_vi.specs.declared.stop.Stop.TheVariants as stops
use Rattle.p9_vi.proofs.Whole.{goes_whole}
use Rattle.p9_suite.specs.declared.answer.Answer.{Answer}
use Rattle.p9_suite.specs.declared.answer.Refusal.{Refusal}
use Rattle.p9_suite.specs.declared.answer.Refusal.TheVariants.{Executable, Memory}
use Rattle.p9_suite.specs.Simulation.{IsRunBy, IsRunTo, Simulates, stopped, read_failed, write_failed, RunsFile, exit_answer, answer_by, answer_at, stop_answer}
use Rattle.p9_suite.specs.Stages.{MakesOnStreams, stops, goes_on, Loads, loaded, unloaded, load_no_memory}

-- The run of the bytes

pub vrun_is : (file : List ℕ) (parts : ImageParts) (l : List ℕ) (n : ℕ) → image_of file ≡ Ok parts → vrun file l n ≡ Some (run n (start_of parts l))
unfolding vrun
vrun_is file parts l n e = ap (λ p. option_map (run n) (started p l)) e

begun : (parts : ImageParts) (l : List ℕ) → state (start_of parts []).core l [] ≡ start_of parts l
unfolding state
begun parts l = refl

core_of_state : (c : Core) (l o : List ℕ) → (state c l o).core ≡ c
unfolding state
core_of_state c l o = refl

-- steps past the end change nothing
whole_budget : (n budget : ℕ) (x : State) → n ≤ budget → (n ≡ budget) ⊎ HasEnded (run n x).core.ending → run budget x ≡ run n x
whole_budget n budget x q (inl e) = ap (λ (k : ℕ). run k x) (sym e)
whole_budget n budget x q (inr h) =
    let e : n + (budget - n) ≡ budget = omega arith in
    ap (λ (k : ℕ). run k x) (sym e) ∙ (run-sum n (budget - n) x ∙ run-ended (budget - n) (run n x) h)

same_end : (n budget : ℕ) (c d : Core) → c ≡ d → (n ≡ budget) ⊎ HasEnded c.ending → (n ≡ budget) ⊎ HasEnded d.ending
same_end n budget c d e h = subst (λ (x : Core). (n ≡ budget) ⊎ HasEnded x.ending) e h

steps_shown : (file : List ℕ) (parts : ImageParts) (n : ℕ) (calls : List StreamCall) (end : Core) → image_of file ≡ Ok parts → IsRunOn calls n (start_of parts []).core end → (l : List ℕ) → IsSteady calls l → state end l (written_in calls) ≡ run n (start_of parts (brought_in calls ++ l))
steps_shown file parts n calls end e on l h = on l [] h ∙ ap (run n) (begun parts (brought_in calls ++ l))

whole_shown : (file : List ℕ) (parts : ImageParts) (n budget : ℕ) (calls : List StreamCall) (end : Core) → image_of file ≡ Ok parts → n ≤ budget → (n ≡ budget) ⊎ HasEnded end.ending → IsRunOn calls n (start_of parts []).core end → (l : List ℕ) → IsSteady calls l → vrun file (brought_in calls ++ l) budget ≡ Some (state end l (written_in calls))
whole_shown file parts n budget calls end e q ended on l h =
    let x : State = start_of parts (brought_in calls ++ l) in
    let r : state end l (written_in calls) ≡ run n x = steps_shown file parts n calls end e on l h in
    let c : end ≡ (run n x).core = sym (core_of_state end l (written_in calls)) ∙ ap (λ (s : State). s.core) r in
    vrun_is file parts (brought_in calls ++ l) budget e
    ∙ ap (λ (s : State). Some s) (whole_budget n budget x q (same_end n budget end (run n x).core c ended) ∙ sym r)

spends : (n budget : ℕ) (e : Ending) → (n ≡ budget) ⊎ HasEnded e → e ≡ endings.Running → n ≡ budget
spends n budget e (inl q) r = q
spends n budget e (inr h) r = absurd (subst (λ (x : Ending). HasEnded x) r h)

-- Of a simulation in which nothing failed

shown : {I O : Type 0} (takes : I → TakeCall → I → Type 0) (puts : O → PutCall → O → Type 0) (i j : I) (o p : O) (Count : ℕ → Type 0) (file : List ℕ) (budget : ℕ) (parts : ImageParts) (new : Core) (answer : Answer) →
    image_of file ≡ Ok parts → Ties takes puts i o j p None Count (start_of parts []).core new →
    ((n : ℕ) → Count n → (n ≤ budget) × ((n ≡ budget) ⊎ HasEnded new.ending)) → answer ≡ answer_at budget new →
    (calls : List StreamCall) × StreamsDid takes puts i o calls j p × StreamsFine calls × IsRunBy file budget calls answer
shown takes puts i j o p Count file budget parts new answer e t count a =
    let calls : List StreamCall = calls_of t.stretches in
    let n : ℕ = steps_of t.stretches in
    let same : calls ++ t.last ≡ calls = ap (λ (l : List StreamCall). calls ++ l) t.fails.0 ∙ append-nil calls in
    let goes : Goes t.stretches (start_of parts []).core new = subst (λ (c : Core). Goes t.stretches (start_of parts []).core c) (sym t.fails.1) t.goes in
    let k : (n ≤ budget) × ((n ≡ budget) ⊎ HasEnded new.ending) = count n t.count in (
      calls,
      subst (λ (c : List StreamCall). StreamsDid takes puts i o c j p) same t.did,
      subst (λ (c : List StreamCall). StreamsEnd c None) same t.ends,
      record {
        parts = parts;
        image = e;
        end = new;
        answers = a;
        stretches = t.stretches;
        are = refl;
        goes = goes;
        within = k.0;
        spent = spends n budget new.ending k.1;
        runs = whole_shown file parts n budget calls new e k.0 k.1 (goes_whole t.stretches (start_of parts []).core new goes);
      },
    )

-- Of a call that failed

shown_to : {I O : Type 0} (takes : I → TakeCall → I → Type 0) (puts : O → PutCall → O → Type 0) (i j : I) (o p : O) (object : Failing) (file : List ℕ) (budget : ℕ) (parts : ImageParts) (new : Core) →
    image_of file ≡ Ok parts → Ties takes puts i o j p (Some object) (λ n. n < budget) (start_of parts []).core new →
    (calls : List StreamCall) × StreamsDid takes puts i o calls j p × StreamsEnd calls (Some object) × IsRunTo file budget calls object
shown_to takes puts i j o p object file budget parts new e t =
    let calls : List StreamCall = calls_of t.stretches in
    let n : ℕ = steps_of t.stretches in
    let on : IsRunOn calls n (start_of parts []).core t.before = goes_whole t.stretches (start_of parts []).core t.before t.goes in (
      calls ++ t.last,
      t.did,
      t.ends,
      record {
        parts = parts;
        image = e;
        before = t.before;
        stretches = t.stretches;
        last = t.last;
        are = refl;
        goes = t.goes;
        fewer = t.count;
        end = new;
        fails = t.fails;
        runs = λ l h. vrun_is file parts (brought_in calls ++ l) n e ∙ ap (λ (s : State). Some s) (sym (steps_shown file parts n calls t.before e on l h));
      },
    )

-- By how it stopped

exit_ended : (e : Ending) → IsExited e → HasEnded e
exit_ended endings.Running h = absurd h
exit_ended (endings.Exited at size) h = tt
exit_ended (endings.Halted cause pc) h = absurd h

exit_at : (budget : ℕ) (core : Core) (e : Ending) → IsExited e → exit_answer (exit_text core) ≡ answer_by budget core e
exit_at budget core endings.Running h = absurd h
exit_at budget core (endings.Exited at size) h = refl
exit_at budget core (endings.Halted cause pc) h = absurd h

halt_ended : (e d : Ending) → e ≡ d → HasEnded d → HasEnded e
halt_ended e d q h = subst (λ (x : Ending). HasEnded x) (sym q) h

stop_does : {I O : Type 0} (takes : I → TakeCall → I → Type 0) (puts : O → PutCall → O → Type 0) (i : I) (o : O) (j : I) (p : O) (file : List ℕ) (budget : ℕ) (parts : ImageParts) (stop : Stop) (new : Core) →
    image_of file ≡ Ok parts → StandsAt stop new → Ties takes puts i o j p (stop_failure stop) (StopCount stop budget) (start_of parts []).core new →
    MakesOnStreams takes puts i o j p (Simulates file budget) (Ok (stop_answer budget new stop))
stop_does takes puts i o j p file budget parts stops.Exit new e at t =
    let s = shown takes puts i j o p (StopCount stops.Exit budget) file budget parts new (stop_answer budget new stops.Exit) e t (λ n q. (q, inr (exit_ended new.ending at))) (exit_at budget new new.ending at) in
    (s.0, s.1, stopped _ s.0 s.2 s.3)
stop_does takes puts i o j p file budget parts stops.Budget new e at t =
    let s = shown takes puts i j o p (StopCount stops.Budget budget) file budget parts new (stop_answer budget new stops.Budget) e t (λ n q. (omega arith, inl q)) (ap (answer_by budget new) (sym at)) in
    (s.0, s.1, stopped _ s.0 s.2 s.3)
stop_does takes puts i o j p file budget parts (stops.Halt cause pc) new e at t =
    let s = shown takes puts i j o p (StopCount (stops.Halt cause pc) budget) file budget parts new (stop_answer budget new (stops.Halt cause pc)) e t (λ n q. (q, inr (halt_ended new.ending (endings.Halted cause pc) at tt))) (ap (answer_by budget new) (sym at)) in
    (s.0, s.1, stopped _ s.0 s.2 s.3)
stop_does takes puts i o j p file budget parts stops.ReadFault new e at t =
    let s = shown_to takes puts i j o p Input file budget parts new e t in
    (s.0, s.1, read_failed s.0 s.2 s.3)
stop_does takes puts i o j p file budget parts stops.WriteFault new e at t =
    let s = shown_to takes puts i j o p Out file budget parts new e t in
    (s.0, s.1, write_failed s.0 s.2 s.3)

pub simulated : {I O : Type 0} (takes : I → TakeCall → I → Type 0) (puts : O → PutCall → O → Type 0) (i : I) (o : O) (j : I) (p : O) (name file : List ℕ) (budget : ℕ) (parts : ImageParts) (stop : Stop) (old new : Core) (answer : Answer) →
    image_of file ≡ Ok parts → old ≡ (start_of parts []).core → answer ≡ stop_answer budget new stop → StandsAt stop new →
    Ties takes puts i o j p (stop_failure stop) (StopCount stop budget) old new → MakesOnStreams takes puts i o j p (RunsFile name file budget) (Ok answer)
simulated takes puts i o j p name file budget parts stop old new answer e s a at t =
    let tied = subst (λ (c : Core). Ties takes puts i o j p (stop_failure stop) (StopCount stop budget) c new) s t in
    let does : MakesOnStreams takes puts i o j p (Simulates file budget) (Ok answer) =
    subst (λ (x : Answer). MakesOnStreams takes puts i o j p (Simulates file budget) (Ok x)) (sym a) (stop_does takes puts i o j p file budget parts stop new e at tied) in
    (does.0, does.1, goes_on parts (Ok answer) [] does.0 (loaded parts e) does.2)

-- Of a file that is no executable, and of want of memory

-- a reader's fault is that of the bytes, or want of memory
pub fault_is : {A : Type 0} (file : List ℕ) (why : AoutFault) →
    ((m : ℕ) → ◌≡◌ {A = Result A AoutFault} (Err why) (Err (fault.BadMagic m)) → image_of file ≡ Err (fault.BadMagic m)) →
    ((need : ℕ) → ◌≡◌ {A = Result A AoutFault} (Err why) (Err (fault.ShortFile need)) → image_of file ≡ Err (fault.ShortFile need)) →
    (◌≡◌ {A = Result A AoutFault} (Err why) (Err fault.BadSegment) → image_of file ≡ Err fault.BadSegment) →
    (why ≡ fault.Memory) ⊎ (image_of file ≡ Err why)
fault_is file (fault.BadMagic m) magic short segment = inr (magic m refl)
fault_is file (fault.ShortFile need) magic short segment = inr (short need refl)
fault_is file fault.BadSegment magic short segment = inr (segment refl)
fault_is file fault.Memory magic short segment = inl refl

not_loaded : (name file : List ℕ) (why : AoutFault) (refusal : Refusal) → (why ≡ fault.Memory) ⊎ (image_of file ≡ Err why) → (refusal ≡ Memory) ⊎ ((why ≢ fault.Memory) × (refusal ≡ Executable name why)) → Loads {C = StreamCall} name file (Err refusal) []
not_loaded name file why refusal h (inl e) = subst (λ (r : Refusal). Loads {C = StreamCall} name file (Err r) []) (sym e) load_no_memory
not_loaded name file why refusal (inl m) (inr r) = absurd (r.0 m)
not_loaded name file why refusal (inr e) (inr r) = subst (λ (r : Refusal). Loads {C = StreamCall} name file (Err r) []) (sym r.1) (unloaded why e)

pub not_simulated : {I O : Type 0} (takes : I → TakeCall → I → Type 0) (puts : O → PutCall → O → Type 0) (i : I) (o : O) (name file : List ℕ) (budget : ℕ) (why : AoutFault) (refusal : Refusal) → (why ≡ fault.Memory) ⊎ (image_of file ≡ Err why) → (refusal ≡ Memory) ⊎ ((why ≢ fault.Memory) × (refusal ≡ Executable name why)) → MakesOnStreams takes puts i o i o (RunsFile name file budget) (Err refusal)
not_simulated takes puts i o name file budget why refusal h r = ([], (refl, refl), stops refusal [] (not_loaded name file why refusal h r))
