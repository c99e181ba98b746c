-- Steps and runs.
use Rattle.std.proofs.Common.{ℕ, zero, suc, ◌+◌, ◌-◌, ◌≡◌, ◌≤◌, ◌<◌, List, Option, refl, sym, subst, ◌∙◌, ap, Bool, true, false, Result, Ok, Err, arith}
use Rattle.p9_r3k.specs.declared.inst.Inst.{Inst}
use Rattle.p9_base.specs.declared.halt.Asked.{Asked}
use Rattle.p9_base.specs.declared.halt.HaltCause.{HaltCause}
use Rattle.p9_base.specs.declared.halt.Ending.{Ending}
use Rattle.p9_base.specs.declared.halt.Ending.TheVariants.{Running, Exited, Halted}
use Rattle.p9_base.specs.declared.halt.Effect.{Effect}
use Rattle.p9_base.specs.declared.halt.Effect.TheVariants.{Write, Pair, Load, StoreByte, StoreHalf, StoreWord, Branch, JumpTo, Call, Stop}
use Rattle.p9_r3k.specs.Memory.{Core}
use Rattle.p9_r3k.specs.Effects.{effect_of, reads_pair}
use Rattle.p9_r3k.specs.Machine.{State, state, step, run, going, executed, acted, called, asked, fetched, applied, halted}
use Rattle.p9_r3k.proofs.Runs.{run-sum}
use Rattle.p9_vi.specs.declared.stop.Stop.{Stop as Stopped}
use Rattle.p9_vi.specs.declared.stop.Stepped.{Stepped}
use Rattle.p9_vi.specs.declared.stop.Stepped.TheVariants.{Done, ReadFault, WriteFault}
use Rattle.p9_base.specs.Streams.{Told}
use Rattle.p9_vi.specs.Stops.{IsAtCall, ReadFails, WriteFails, RunsToRead, RunsToWrite, Runs, stop_of}
use Rattle.p9_vi.specs.Steps.{Calls, CallKeeps, Steps, StepStands, Plain, PlainRun}

-- One step

stepped : (c : Core) (l s : List ℕ) (r : Result Inst HaltCause) → c.ending ≡ Running → fetched c ≡ r →
    step (state c l s) ≡ executed r (state c l s)
unfolding step state
stepped c l s r h f =
    let x : State = record { core = c; left = l; out = s } in
    ap (λ (e : Ending). going e x) h ∙ ap (λ (r : Result Inst HaltCause). executed r x) f

step_halts : (c new : Core) (l s : List ℕ) (cause : HaltCause) → c.ending ≡ Running → fetched c ≡ Err cause →
    new ≡ halted c cause → state new l s ≡ step (state c l s)
unfolding state
step_halts c new l s cause e f h = ap (λ (c : Core). state c l s) h ∙ sym (stepped c l s (Err cause) e f)

acted_other : (e : Effect) (s : State) (r : Bool) → (e ≡ Call → ⊥) → acted e s r ≡ record s { core = applied e s.core r }
acted_other (Write register v) s r h = refl
acted_other (Pair x y) s r h = refl
acted_other (Load register v) s r h = refl
acted_other (StoreByte a v) s r h = refl
acted_other (StoreHalf a v) s r h = refl
acted_other (StoreWord a v) s r h = refl
acted_other (Branch link taken to) s r h = refl
acted_other (JumpTo link to) s r h = refl
acted_other Call s r h = absurd (h refl)
acted_other (Stop cause) s r h = refl

stepped_ok : (c : Core) (l s : List ℕ) (i : Inst) (e : Effect) → c.ending ≡ Running → fetched c ≡ Ok i → e ≡ effect_of i c →
    step (state c l s) ≡ acted e (state c l s) (reads_pair i)
unfolding state
stepped_ok c l s i e h f k =
    let x : State = record { core = c; left = l; out = s } in
    stepped c l s (Ok i) h f ∙ ap (λ (e : Effect). acted e x (reads_pair i)) (sym k)

step_acts : (c new : Core) (l s : List ℕ) (i : Inst) (e : Effect) → c.ending ≡ Running → fetched c ≡ Ok i →
    e ≡ effect_of i c → (e ≡ Call → ⊥) → new ≡ applied e c (reads_pair i) → state new l s ≡ step (state c l s)
unfolding state
step_acts c new l s i e h f k n a =
    ap (λ (c : Core). state c l s) a
    ∙ (sym (acted_other e (record { core = c; left = l; out = s }) (reads_pair i) n) ∙ sym (stepped_ok c l s i e h f k))

pub step_calls : (r : Stepped) (c new : Core) (l s l' s' : List ℕ) (request : Asked) → IsAtCall c → request ≡ asked c →
    Calls r request c new l s l' s' → Steps r c new l s l' s'
unfolding state
step_calls Done c new l s l' s' request at q d =
    let x : State = record { core = c; left = l; out = s } in
    d ∙ (ap (λ (a : Asked). called a x) q ∙ sym (stepped_ok c l s at.instruction Call at.running at.fetches (sym at.calls)))
step_calls ReadFault c new l s l' s' request at q d =
    let P : Asked → Type 0 = λ a. ReadFails a c new l l' in
    (at, subst P q d.0, d.1)
step_calls WriteFault c new l s l' s' request at q d =
    let P : Asked → Type 0 = λ a. WriteFails a c s s' in
    (at, subst P q d.0, d.1, d.2)

-- Steps that touch neither the input nor the output

pub halts_plain : (c new : Core) (cause : HaltCause) → c.ending ≡ Running → fetched c ≡ Err cause → new ≡ halted c cause →
    Plain true c new
halts_plain c new cause e f h = λ l s. step_halts c new l s cause e f h

pub acts_plain : (c new : Core) (i : Inst) (e : Effect) → c.ending ≡ Running → fetched c ≡ Ok i → e ≡ effect_of i c →
    (e ≡ Call → ⊥) → new ≡ applied e c (reads_pair i) → Plain true c new
acts_plain c new i e h f k n a = λ l s. step_acts c new l s i e h f k n a

-- The objects tell what they have

pub halts_told : (left out : Option (List ℕ)) (c new : Core) (cause : HaltCause) → c.ending ≡ Running → fetched c ≡ Err cause →
    new ≡ halted c cause → Told (Steps Done c new) left left out out
halts_told left out c new cause e f h = λ l s e1 e2. (l, s, e1, e2, step_halts c new l s cause e f h)

pub acts_told : (left out : Option (List ℕ)) (c new : Core) (i : Inst) (e : Effect) → c.ending ≡ Running → fetched c ≡ Ok i →
    e ≡ effect_of i c → (e ≡ Call → ⊥) → new ≡ applied e c (reads_pair i) → Told (Steps Done c new) left left out out
acts_told left out c new i e h f k n a = λ l s e1 e2. (l, s, e1, e2, step_acts c new l s i e h f k n a)

pub calls_told : (left later out now : Option (List ℕ)) (r : Stepped) (c new : Core) (request : Asked) → IsAtCall c → request ≡ asked c →
    Told (Calls r request c new) left later out now → Told (Steps r c new) left later out now
calls_told left later out now r c new request at q d = λ l s e1 e2.
    let t = d l s e1 e2 in (t.0, t.1, t.2, t.3, step_calls r c new l s t.0 t.1 request at q t.4)

pub call_stands : (r : Stepped) (request : Asked) (old new : Core) → IsAtCall old → request ≡ asked old →
    CallKeeps r request old new → StepStands r new
call_stands Done request old new at q k = tt
call_stands ReadFault request old new at q k =
    record { before = old; at_call = at; room = k.0; size = k.1; reads = sym q ∙ k.2; bytes = k.3.0; fill = k.3.1; is = k.3.2 }
call_stands WriteFault request old new at q k =
    let P : Core → Type 0 = IsAtCall in
    record {
      at_call = subst P (sym k.3) at;
      piece = k.0;
      size = k.1;
      writes = ap asked k.3 ∙ (sym q ∙ k.2);
    }

-- A run that has ended stays

stays : (x : State) → (x.core.ending ≡ Running → ⊥) → step x ≡ x
unfolding step
stays x h = by_ending x x.core.ending refl h
  where
    by_ending : (x : State) (e : Ending) → x.core.ending ≡ e → (x.core.ending ≡ Running → ⊥) → step x ≡ x
    by_ending x Running q h = absurd (h q)
    by_ending x (Exited at size) q h = rw q refl
    by_ending x (Halted cause pc) q h = rw q refl

further : (k d : ℕ) (x : State) → ((run k x).core.ending ≡ Running → ⊥) → run (k + d) x ≡ run k x
unfolding run
further k zero x h = ap (λ n. run n x) (omega arith)
further k (suc d) x h =
    let e : k + suc d ≡ suc (k + d) = omega arith in
    let r : run (k + d) x ≡ run k x = further k d x h in
    rw (e, r) (stays (run k x) h)

run_ended : (n k : ℕ) (x : State) → k ≤ n → ((run k x).core.ending ≡ Running → ⊥) → run n x ≡ run k x
run_ended n k x q h =
    let e : k + (n - k) ≡ n = omega arith in
    rw (← e) (further k (n - k) x h)

pub run_step : (k : ℕ) (x : State) → run (k + 1) x ≡ step (run k x)
unfolding run
run_step k x = let e : k + 1 ≡ suc k = omega arith in rw e refl

-- Many steps

pub plain_none : (c : Core) → PlainRun 0 c c
unfolding run
plain_none c = λ l s. refl

pub plain_more : (k : ℕ) (old m new : Core) → PlainRun k old m → Plain true m new → PlainRun (k + 1) old new
plain_more k old m new r d = λ l s. d l s ∙ (ap step (r l s) ∙ sym (run_step k (state old l s)))

pub plain_same : (k : ℕ) (old m new : Core) → PlainRun k old m → Plain false m new → PlainRun k old new
plain_same k old m new r d = λ l s. ap (λ (c : Core). state c l s) d ∙ r l s

-- the run of k steps
abbrev pub RunsTo : (k : ℕ) (old new : Core) (l s l' s' : List ℕ) → Type 0
RunsTo k old new l s l' s' = state new l' s' ≡ run k (state old l s)

pub runs_none : (left out : Option (List ℕ)) (c : Core) → Told (RunsTo 0 c c) left left out out
unfolding run
runs_none left out c = λ l s e1 e2. (l, s, e1, e2, refl)

pub runs_more : (k : ℕ) (left mid later out now then : Option (List ℕ)) (old m new : Core) → Told (RunsTo k old m) left mid out now →
    Told (Steps Done m new) mid later now then → Told (RunsTo (k + 1) old new) left later out then
runs_more k left mid later out now then old m new r d = λ l s e1 e2.
    let t = r l s e1 e2 in
    let u = d t.0 t.1 t.2 t.3 in
    (u.0, u.1, u.2, u.3, u.4 ∙ (ap step t.4 ∙ sym (run_step k (state old l s))))

pub runs_plain : (d k : ℕ) (left mid out now : Option (List ℕ)) (old m new : Core) → Told (RunsTo d old m) left mid out now →
    PlainRun k m new → Told (RunsTo (d + k) old new) left mid out now
runs_plain d k left mid out now old m new r p = λ l s e1 e2.
    let t = r l s e1 e2 in
    (t.0, t.1, t.2, t.3, p t.0 t.1 ∙ (ap (run k) t.4 ∙ sym (run-sum d k (state old l s))))

whole_of : (e : Ending) (n : ℕ) (old new : Core) (l s l' s' : List ℕ) → new.ending ≡ e →
    state new l' s' ≡ run n (state old l s) → Runs (stop_of e) n old new l s l' s'
whole_of Running n old new l s l' s' q h = record { runs = h; stops = sym (ap stop_of q) }
whole_of (Exited at size) n old new l s l' s' q h = record { runs = h; stops = sym (ap stop_of q) }
whole_of (Halted cause pc) n old new l s l' s' q h = record { runs = h; stops = sym (ap stop_of q) }

whole : (stop : Stopped) (n : ℕ) (old new : Core) (l s l' s' : List ℕ) → stop ≡ stop_of new.ending →
    state new l' s' ≡ run n (state old l s) → Runs stop n old new l s l' s'
whole stop n old new l s l' s' q h =
    let P : Stopped → Type 0 = λ x. Runs x n old new l s l' s' in
    subst P (sym q) (whole_of new.ending n old new l s l' s' refl h)

ended_early : (n k : ℕ) (old new : Core) (l s l' s' : List ℕ) → k ≤ n → (new.ending ≡ Running → ⊥) →
    state new l' s' ≡ run k (state old l s) → state new l' s' ≡ run n (state old l s)
unfolding state
ended_early n k old new l s l' s' q z h =
    let P : State → Type 0 = λ x. x.core.ending ≡ Running → ⊥ in
    h ∙ sym (run_ended n k (record { core = old; left = l; out = s }) q (subst P h z))

-- the budget is used up
pub whole_told : (stop : Stopped) (n k : ℕ) (left later out now : Option (List ℕ)) (old new : Core) → stop ≡ stop_of new.ending → k ≡ n →
    Told (RunsTo k old new) left later out now → Told (Runs stop n old new) left later out now
whole_told stop n k left later out now old new q e r = λ l s e1 e2.
    let t = r l s e1 e2 in
    (t.0, t.1, t.2, t.3, whole stop n old new l s t.0 t.1 q (t.4 ∙ ap (λ (n : ℕ). run n (state old l s)) e))

-- the run has ended before
pub ended_told : (stop : Stopped) (n k : ℕ) (left later out now : Option (List ℕ)) (old new : Core) → stop ≡ stop_of new.ending → k ≤ n →
    (new.ending ≡ Running → ⊥) → Told (RunsTo k old new) left later out now → Told (Runs stop n old new) left later out now
ended_told stop n k left later out now old new q h z r = λ l s e1 e2.
    let t = r l s e1 e2 in
    (t.0, t.1, t.2, t.3, whole stop n old new l s t.0 t.1 q (ended_early n k old new l s t.0 t.1 h z t.4))

pub read_fault_told : (n k : ℕ) (left mid later out now then : Option (List ℕ)) (old m new : Core) → k < n → Told (RunsTo k old m) left mid out now →
    Told (Steps ReadFault m new) mid later now then → Told (RunsToRead n old new) left later out then
read_fault_told n k left mid later out now then old m new h r d = λ l s e1 e2.
    let t = r l s e1 e2 in
    let u = d t.0 t.1 t.2 t.3 in (
      u.0,
      u.1,
      u.2,
      u.3,
      record {
        steps = k;
        fewer = h;
        before = m;
        left_before = t.0;
        runs = ap (state m t.0) u.4.2 ∙ t.4;
        at_call = u.4.0;
        fails = u.4.1;
      },
    )

write_stops : (n k : ℕ) (old m new : Core) (l s l1 s1 l' s' : List ℕ) → k < n → state m l1 s1 ≡ run k (state old l s) →
    new ≡ m → l' ≡ l1 → IsAtCall m → WriteFails (asked m) m s1 s' → RunsToWrite n old new l s l' s'
write_stops n k old m new l s l1 s1 l' s' h r e q a f =
    let P : Core → Type 0 = λ c. RunsToWrite n old c l s l' s' in
    subst P (sym e) (record {
      steps = k;
      fewer = h;
      out_before = s1;
      runs = ap (λ (x : List ℕ). state m x s1) q ∙ r;
      at_call = a;
      fails = f;
    })

pub write_fault_told : (n k : ℕ) (left mid later out now then : Option (List ℕ)) (old m new : Core) → k < n → Told (RunsTo k old m) left mid out now →
    Told (Steps WriteFault m new) mid later now then → Told (RunsToWrite n old new) left later out then
write_fault_told n k left mid later out now then old m new h r d = λ l s e1 e2.
    let t = r l s e1 e2 in
    let u = d t.0 t.1 t.2 t.3 in
    (u.0, u.1, u.2, u.3, write_stops n k old m new l s t.0 t.1 u.0 u.1 h t.4 u.4.2 u.4.3 u.4.0 u.4.1)
