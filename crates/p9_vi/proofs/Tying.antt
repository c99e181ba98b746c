-- The calls of steps and of runs, tied to what the machine reads and writes.
use Rattle.std.proofs.Common.{◌≡◌, ◌≤◌, ◌<◌, ◌⊎◌, inl, inr, ℕ, ◌+◌, ◌-◌, min, List, [], ◌∷◌, ◌++◌, length, take, drop, map, Option, Some, None, Bool, true, false, if◌then◌else◌, nat_lt, refl, sym, ◌∙◌, ap, subst, arith, append_assoc, append-nil, length-append, length-take}
use Rattle.std.proofs.lemmas.List.{take_at, drop_at}
use Rattle.std.proofs.Math.Nat.{eq-or-lt_of_le}
use Rattle.p9_base.specs.Outside.{TakeCall, PutCall}
use Rattle.p9_base.specs.Calls.{StreamCall, OnInput, OnOut, Failing, Input, Out, StreamsDid, StreamsEnd}
use Rattle.p9_base.proofs.CallLemmas.{StreamsDid-append}
use Rattle.p9_base.specs.declared.halt.Asked.{Asked}
use Rattle.p9_base.specs.declared.halt.Asked.TheVariants as asks
use Rattle.p9_base.specs.declared.halt.HaltCause.{HaltCause}
use Rattle.p9_base.specs.declared.halt.Ending.{Ending}
use Rattle.p9_base.specs.declared.halt.Ending.TheVariants.{Running, Exited, Halted}
use Rattle.p9_r3k.specs.Memory.{Core, with_bytes, bytes_from, text_start, stack_start}
use Rattle.p9_r3k.specs.Machine.{State, state, step, run, called, answered, advanced, halted}
use Rattle.p9_vi.specs.declared.stop.Stop.{Stop}
use Rattle.p9_vi.specs.declared.stop.Stepped.TheVariants.{Done, ReadFault, WriteFault}
use Rattle.p9_vi.specs.Stops.{stop_of, stop_failure}
use Rattle.p9_vi.specs.Steps.{Plain, PlainRun}
use Rattle.p9_base.specs.CallBytes.{Stretch, Going, Reading, calls_of, steps_of, brought, filled_by, rest_after, written}
use Rattle.p9_vi.specs.Tied.{DoesRead, Goes, Ties, AtRequest, StepCount, StopCount}
use Rattle.p9_base.specs.Pieces.{Brings, AnswerIs, MemoryIs, WritesPiece}
use Rattle.p9_base.proofs.CallLists.{did_takes, did_puts, end_append}
use Rattle.p9_vi.proofs.Requests.{read_done, write_done}
use Rattle.p9_vi.proofs.Stepping.{step_calls, plain_none, plain_more}

-- Lists of stretches

calls_append : (a b : List Stretch) → calls_of (a ++ b) ≡ calls_of a ++ calls_of b
calls_append [] b = refl
calls_append (Going steps puts ∷ a) b =
    ap (λ (x : List StreamCall). map OnOut puts ++ x) (calls_append a b) ∙ sym (append_assoc (map OnOut puts) (calls_of a) (calls_of b))
calls_append (Reading takes ∷ a) b =
    ap (λ (x : List StreamCall). map OnInput takes ++ x) (calls_append a b) ∙ sym (append_assoc (map OnInput takes) (calls_of a) (calls_of b))

steps_append : (a b : List Stretch) → steps_of (a ++ b) ≡ steps_of a + steps_of b
steps_append [] b = omega arith
steps_append (Going steps puts ∷ a) b = omega (arith, steps_append a b)
steps_append (Reading takes ∷ a) b = omega (arith, steps_append a b)

goes_append : (a b : List Stretch) (x y z : Core) → Goes a x y → Goes b y z → Goes (a ++ b) x z
goes_append [] b x y z same more = subst (λ (c : Core). Goes b c z) same more
goes_append (stretch ∷ a) b x y z (m, passes, goes) more = (m, passes, goes_append a b m y z goes more)

-- Calls of stretches, none of which failed
ties_of : {I O : Type 0} (takes : I → TakeCall → I → Type 0) (puts : O → PutCall → O → Type 0) (i j : I) (o p : O) (Count : ℕ → Type 0) (old new : Core) →
    (stretches : List Stretch) → StreamsDid takes puts i o (calls_of stretches) j p → StreamsEnd (calls_of stretches) None →
    Goes stretches old new → Count (steps_of stretches) → Ties takes puts i o j p None Count old new
ties_of takes puts i j o p Count old new stretches did ends goes count =
    let e : calls_of stretches ≡ calls_of stretches ++ [] = sym (append-nil (calls_of stretches)) in
    let P : List StreamCall → Type 0 = λ calls. StreamsDid takes puts i o calls j p in
    let Q : List StreamCall → Type 0 = λ calls. StreamsEnd calls None in
    record {
      stretches = stretches;
      last = [];
      did = subst P e did;
      ends = subst Q e ends;
      before = new;
      goes = goes;
      fails = (refl, refl);
      count = count;
    }

-- One step

pub ties_plain : {I O : Type 0} (takes : I → TakeCall → I → Type 0) (puts : O → PutCall → O → Type 0) (i : I) (o : O) (n : ℕ) (old new : Core) →
    PlainRun n old new → Ties takes puts i o i o None (λ k. k ≡ n) old new
ties_plain takes puts i o n old new runs =
    ties_of takes puts i i o o (λ k. k ≡ n) old new (Going n [] ∷ []) (refl, refl) tt
    (new, (λ l s. ap (state new l) (append-nil s) ∙ runs l s), refl) (omega arith)

pub ties_step : {I O : Type 0} (takes : I → TakeCall → I → Type 0) (puts : O → PutCall → O → Type 0) (i : I) (o : O) (old new : Core) →
    Plain true old new → Ties takes puts i o i o None (StepCount Done) old new
ties_step takes puts i o old new plain = ties_plain takes puts i o 1 old new (plain_more 0 old old new (plain_none old) plain)

-- what a call does that touches neither the input nor the output
called_plain : (request : Asked) (old new : Core) → AtRequest request old →
    ((l s : List ℕ) → state new l s ≡ called request (state old l s)) → Plain true old new
called_plain request old new (at, is) does = λ l s. step_calls Done old new l s l s request at is (does l s)

pub ties_exits : {I O : Type 0} (takes : I → TakeCall → I → Type 0) (puts : O → PutCall → O → Type 0) (i : I) (o : O) (request : Asked) (old mid new : Core) (at size : ℕ) →
    request ≡ asks.Exits at size → mid ≡ advanced old false → new ≡ record mid { ending = Exited at size } → AtRequest request old →
    Ties takes puts i o i o None (StepCount Done) old new
unfolding state
ties_exits takes puts i o request old mid new at size e0 e1 e2 h =
    ties_step takes puts i o old new (called_plain request old new h (λ l s. rw (e0, e2, e1) refl))

pub ties_refused : {I O : Type 0} (takes : I → TakeCall → I → Type 0) (puts : O → PutCall → O → Type 0) (i : I) (o : O) (request : Asked) (old new : Core) →
    request ≡ asks.Refused → new ≡ answered old 4294967295 → AtRequest request old → Ties takes puts i o i o None (StepCount Done) old new
unfolding state
ties_refused takes puts i o request old new e0 e1 h =
    ties_step takes puts i o old new (called_plain request old new h (λ l s. rw (e0, e1) refl))

pub ties_stopped : {I O : Type 0} (takes : I → TakeCall → I → Type 0) (puts : O → PutCall → O → Type 0) (i : I) (o : O) (request : Asked) (old new : Core) (cause : HaltCause) →
    request ≡ asks.Stop cause → new ≡ halted old cause → AtRequest request old → Ties takes puts i o i o None (StepCount Done) old new
unfolding state
ties_stopped takes puts i o request old new cause e0 e1 h =
    ties_step takes puts i o old new (called_plain request old new h (λ l s. rw (e0, e1) refl))

-- A write

one_run : (x : State) → run 1 x ≡ step x
unfolding run
one_run x = refl

part_of : (c : Core) (at n : ℕ) → length (bytes_from c at n) ≤ n
part_of c at n = by_place (nat_lt at stack_start)
  where
    by_place : (b : Bool) → length (if b then take n (drop (at - text_start) c.low) else take n (drop (at - stack_start) c.stack)) ≤ n
    by_place true = omega (arith, length-take n (drop (at - text_start) c.low))
    by_place false = omega (arith, length-take n (drop (at - stack_start) c.stack))

pub ties_write : {I O : Type 0} (takes : I → TakeCall → I → Type 0) (puts : O → PutCall → O → Type 0) (i : I) (o p : O) (request : Asked) (old new : Core) (at size : ℕ) →
    request ≡ asks.Write at size → new ≡ answered old size → WritesPiece puts o p (bytes_from old at size) true → AtRequest request old →
    Ties takes puts i o i p None (StepCount Done) old new
ties_write takes puts i o p request old new at size e0 e1 w (at_call, is) =
    let e : map OnOut w.calls ≡ map OnOut w.calls ++ [] = sym (append-nil (map OnOut w.calls)) in
    let P : List StreamCall → Type 0 = λ calls. StreamsDid takes puts i o calls i p in
    let Q : List StreamCall → Type 0 = λ calls. StreamsEnd calls None in
    let one : (l s : List ℕ) → state new l (s ++ written w.calls) ≡ step (state old l s) = λ l s.
    ap (λ (x : List ℕ). state new l (s ++ x)) w.wrote
    ∙ step_calls Done old new l s l (s ++ bytes_from old at size) request at_call is (write_done at size l s request old new e0 e1) in
    ties_of takes puts i i o p (StepCount Done) old new (Going 1 w.calls ∷ []) (subst P e (did_puts takes puts i o p w.calls w.did)) (subst Q e w.ends)
    (new, (λ l s. one l s ∙ sym (one_run (state old l s))), refl) refl

pub ties_write_failed : {I O : Type 0} (takes : I → TakeCall → I → Type 0) (puts : O → PutCall → O → Type 0) (i : I) (o p : O) (request : Asked) (old new : Core) (at size : ℕ) →
    request ≡ asks.Write at size → new ≡ old → WritesPiece puts o p (bytes_from old at size) false → AtRequest request old →
    Ties takes puts i o i p (Some Out) (StepCount WriteFault) old new
ties_write_failed takes puts i o p request old new at size e0 e1 w (at_call, is) = record {
  stretches = [];
  last = map OnOut w.calls;
  did = did_puts takes puts i o p w.calls w.did;
  ends = w.ends;
  before = old;
  goes = refl;
  fails = (
    w.calls,
    refl,
    record {
      at_call = at_call;
      piece = at;
      size = size;
      writes = sym is ∙ e0;
      part = omega (arith, part_of old at size, w.wrote.1);
      is = w.wrote.0;
      stays = e1;
    },
  );
  count = refl;
}

-- A read

-- what comes after the bytes that were brought isn't read
brought_read : (n size : ℕ) (b rest l : List ℕ) → n ≡ length b → length (b ++ rest) ≡ size → (length b < size → l ≡ []) →
    n ≡ min size (length (b ++ l))
brought_read n size b rest [] e fill short = omega (arith, e, fill, length-append b rest, length-append b [])
brought_read n size b rest (x ∷ l) e fill short = by_order (eq-or-lt_of_le (omega (arith, fill, length-append b rest)))
  where
    by_order : (length b ≡ size) ⊎ (length b < size) → n ≡ min size (length (b ++ x ∷ l))
    by_order (inl same) = omega (arith, e, same, length-append b (x ∷ l))
    by_order (inr fewer) = absurd (omega (arith, ap length (short fewer)))

read_step : (at size n : ℕ) (b rest l s : List ℕ) (request : Asked) (old new : Core) → AtRequest request old → request ≡ asks.Read at size →
    n ≡ length b → length (b ++ rest) ≡ size → new ≡ answered (with_bytes old at b) n → (length b < size → l ≡ []) →
    state new l s ≡ step (state old (b ++ l) s)
read_step at size n b rest l s request old new (at_call, is) e0 e fill e1 short =
    let front : take n (b ++ l) ≡ b = take_at b l n (sym e) in
    let back : drop n (b ++ l) ≡ l = drop_at b l n (sym e) in
    let does : new ≡ answered (with_bytes old at (take n (b ++ l))) n = e1 ∙ ap (λ (x : List ℕ). answered (with_bytes old at x) n) (sym front) in
    let done = read_done at size n (b ++ l) s request old new e0 (brought_read n size b rest l e fill short) does in
    ap (λ (x : List ℕ). state new x s) (sym back)
    ∙ step_calls Done old new (b ++ l) s (drop n (b ++ l)) s request at_call is done

does_read : {I : Type 0} (takes : I → TakeCall → I → Type 0) (i j : I) (request : Asked) (old new : Core) (at size n : ℕ) → request ≡ asks.Read at size →
    (b : Brings takes i j size (Some n) (AnswerIs old new at n)) → AtRequest request old → DoesRead b.calls old new
does_read takes i j request old new at size n e0 b h =
    let e : n ≡ length (brought b.calls) = b.came.0 in
    record {
      at_call = h.0;
      room = at;
      size = size;
      reads = sym h.1 ∙ e0;
      short = λ l. b.came.1 (omega (arith, e, l));
      fill = b.fill;
      is = b.is ∙ ap (λ (k : ℕ). answered (with_bytes old at (filled_by b.calls)) k) e;
      steps = λ k l s short. read_step at size n (brought b.calls) (rest_after [] b.calls) l s request old new h e0 e b.fill (b.kept k) short;
    }

pub ties_read : {I O : Type 0} (takes : I → TakeCall → I → Type 0) (puts : O → PutCall → O → Type 0) (i j : I) (o : O) (request : Asked) (old new : Core) (at size : ℕ) →
    request ≡ asks.Read at size → (n : ℕ) × Brings takes i j size (Some n) (AnswerIs old new at n) → AtRequest request old →
    Ties takes puts i o j o None (StepCount Done) old new
ties_read takes puts i j o request old new at size e0 (n, b) h =
    let e : map OnInput b.calls ≡ map OnInput b.calls ++ [] = sym (append-nil (map OnInput b.calls)) in
    let P : List StreamCall → Type 0 = λ calls. StreamsDid takes puts i o calls j o in
    let Q : List StreamCall → Type 0 = λ calls. StreamsEnd calls None in
    ties_of takes puts i j o o (StepCount Done) old new (Reading b.calls ∷ []) (subst P e (did_takes takes puts i j o b.calls b.did)) (subst Q e b.ends)
    (new, does_read takes i j request old new at size n e0 b h, refl) refl

pub ties_read_failed : {I O : Type 0} (takes : I → TakeCall → I → Type 0) (puts : O → PutCall → O → Type 0) (i j : I) (o : O) (request : Asked) (old new : Core) (at size : ℕ) →
    request ≡ asks.Read at size → Brings takes i j size None (MemoryIs old new at) → AtRequest request old →
    Ties takes puts i o j o (Some Input) (StepCount ReadFault) old new
ties_read_failed takes puts i j o request old new at size e0 b (at_call, is) = record {
  stretches = [];
  last = map OnInput b.calls;
  did = did_takes takes puts i j o b.calls b.did;
  ends = b.ends;
  before = old;
  goes = refl;
  fails = (
    b.calls,
    refl,
    record {
      at_call = at_call;
      room = at;
      size = size;
      reads = sym is ∙ e0;
      part = b.came;
      fill = b.fill;
      is = b.is;
      kept = b.kept;
    },
  );
  count = refl;
}

-- Runs

pub ties_none : {I O : Type 0} (takes : I → TakeCall → I → Type 0) (puts : O → PutCall → O → Type 0) (i : I) (o : O) (core : Core) →
    Ties takes puts i o i o None (λ n. n ≡ 0) core core
ties_none takes puts i o core = ties_of takes puts i i o o (λ n. n ≡ 0) core core [] (refl, refl) tt refl refl

-- one run and then another
ties_then : {I O : Type 0} (takes : I → TakeCall → I → Type 0) (puts : O → PutCall → O → Type 0) (i j k : I) (o p q : O) (failed : Option Failing) (First Second Both : ℕ → Type 0) (a b c : Core) →
    Ties takes puts i o j p None First a b → Ties takes puts j p k q failed Second b c → ((n m : ℕ) → First n → Second m → Both (n + m)) →
    Ties takes puts i o k q failed Both a c
ties_then takes puts i j k o p q failed First Second Both a b c x y counts =
    let none : calls_of x.stretches ++ x.last ≡ calls_of x.stretches =
    ap (λ (l : List StreamCall). calls_of x.stretches ++ l) x.fails.0 ∙ append-nil (calls_of x.stretches) in
    let P : List StreamCall → Type 0 = λ calls. StreamsDid takes puts i o calls j p in
    let Q : List StreamCall → Type 0 = λ calls. StreamsEnd calls None in
    let P' : List StreamCall → Type 0 = λ calls. StreamsDid takes puts i o calls k q in
    let Q' : List StreamCall → Type 0 = λ calls. StreamsEnd calls failed in
    let e : calls_of x.stretches ++ (calls_of y.stretches ++ y.last) ≡ calls_of (x.stretches ++ y.stretches) ++ y.last =
    sym (append_assoc (calls_of x.stretches) (calls_of y.stretches) y.last)
    ∙ ap (λ (l : List StreamCall). l ++ y.last) (sym (calls_append x.stretches y.stretches)) in
    record {
      stretches = x.stretches ++ y.stretches;
      last = y.last;
      did = subst P' e (StreamsDid-append takes puts (calls_of x.stretches) (calls_of y.stretches ++ y.last) i o j p k q (subst P none x.did) y.did);
      ends = subst Q' e (end_append (calls_of x.stretches) (calls_of y.stretches ++ y.last) failed (subst Q none x.ends) y.ends);
      before = y.before;
      goes = goes_append x.stretches y.stretches a b y.before (subst (λ (m : Core). Goes x.stretches a m) (sym x.fails.1) x.goes) y.goes;
      fails = y.fails;
      count = subst Both (sym (steps_append x.stretches y.stretches)) (counts (steps_of x.stretches) (steps_of y.stretches) x.count y.count);
    }

pub ties_on : {I O : Type 0} (takes : I → TakeCall → I → Type 0) (puts : O → PutCall → O → Type 0) (i j : I) (o p : O) (d n : ℕ) (a b c : Core) →
    Ties takes puts i o j p None (λ k. k ≡ d) a b → PlainRun n b c → Ties takes puts i o j p None (λ k. k ≡ d + n) a c
ties_on takes puts i j o p d n a b c x runs =
    ties_then takes puts i j j o p p None (λ k. k ≡ d) (λ k. k ≡ n) (λ k. k ≡ d + n) a b c x (ties_plain takes puts j p n b c runs)
    (λ k m h l. omega (arith, h, l))

pub ties_more : {I O : Type 0} (takes : I → TakeCall → I → Type 0) (puts : O → PutCall → O → Type 0) (i j k : I) (o p q : O) (d : ℕ) (a b c : Core) →
    Ties takes puts i o j p None (λ n. n ≡ d) a b → Ties takes puts j p k q None (StepCount Done) b c → Ties takes puts i o k q None (λ n. n ≡ d + 1) a c
ties_more takes puts i j k o p q d a b c x y =
    ties_then takes puts i j k o p q None (λ n. n ≡ d) (StepCount Done) (λ n. n ≡ d + 1) a b c x y (λ n m h l. omega (arith, h, l))

pub ties_read_fault : {I O : Type 0} (takes : I → TakeCall → I → Type 0) (puts : O → PutCall → O → Type 0) (i j k : I) (o p q : O) (d budget : ℕ) (a b c : Core) → d < budget →
    Ties takes puts i o j p None (λ n. n ≡ d) a b → Ties takes puts j p k q (Some Input) (StepCount ReadFault) b c →
    Ties takes puts i o k q (Some Input) (λ n. n < budget) a c
ties_read_fault takes puts i j k o p q d budget a b c h x y =
    ties_then takes puts i j k o p q (Some Input) (λ n. n ≡ d) (StepCount ReadFault) (λ n. n < budget) a b c x y (λ n m e l. omega (arith, h, e, l))

pub ties_write_fault : {I O : Type 0} (takes : I → TakeCall → I → Type 0) (puts : O → PutCall → O → Type 0) (i j k : I) (o p q : O) (d budget : ℕ) (a b c : Core) → d < budget →
    Ties takes puts i o j p None (λ n. n ≡ d) a b → Ties takes puts j p k q (Some Out) (StepCount WriteFault) b c →
    Ties takes puts i o k q (Some Out) (λ n. n < budget) a c
ties_write_fault takes puts i j k o p q d budget a b c h x y =
    ties_then takes puts i j k o p q (Some Out) (λ n. n ≡ d) (StepCount WriteFault) (λ n. n < budget) a b c x y (λ n m e l. omega (arith, h, e, l))

ties_count : {I O : Type 0} (takes : I → TakeCall → I → Type 0) (puts : O → PutCall → O → Type 0) (i j : I) (o p : O) (failed : Option Failing) (First Second : ℕ → Type 0) (a b : Core) →
    Ties takes puts i o j p failed First a b → ((n : ℕ) → First n → Second n) → Ties takes puts i o j p failed Second a b
ties_count takes puts i j o p failed First Second a b x counts = record {
  stretches = x.stretches;
  last = x.last;
  did = x.did;
  ends = x.ends;
  before = x.before;
  goes = x.goes;
  fails = x.fails;
  count = counts (steps_of x.stretches) x.count;
}

-- how the ending says the stop, where all steps were made, or the run has ended before
ties_ending : {I O : Type 0} (takes : I → TakeCall → I → Type 0) (puts : O → PutCall → O → Type 0) (i j : I) (o p : O) (d budget : ℕ) (a b : Core) (ending : Ending) →
    d ≤ budget → (ending ≡ Running → d ≡ budget) → Ties takes puts i o j p None (λ n. n ≡ d) a b →
    Ties takes puts i o j p (stop_failure (stop_of ending)) (StopCount (stop_of ending) budget) a b
ties_ending takes puts i j o p d budget a b Running h l x =
    ties_count takes puts i j o p None (λ n. n ≡ d) (λ n. n ≡ budget) a b x (λ n e. e ∙ l refl)
ties_ending takes puts i j o p d budget a b (Exited at size) h l x =
    ties_count takes puts i j o p None (λ n. n ≡ d) (λ n. n ≤ budget) a b x (λ n e. omega (arith, h, e))
ties_ending takes puts i j o p d budget a b (Halted cause pc) h l x =
    ties_count takes puts i j o p None (λ n. n ≡ d) (λ n. n ≤ budget) a b x (λ n e. omega (arith, h, e))

pub ties_stop : {I O : Type 0} (takes : I → TakeCall → I → Type 0) (puts : O → PutCall → O → Type 0) (i j : I) (o p : O) (stop : Stop) (d budget : ℕ) (a b : Core) →
    stop ≡ stop_of b.ending → d ≤ budget → (b.ending ≡ Running → d ≡ budget) → Ties takes puts i o j p None (λ n. n ≡ d) a b →
    Ties takes puts i o j p (stop_failure stop) (StopCount stop budget) a b
ties_stop takes puts i j o p stop d budget a b e h l x =
    let P : Stop → Type 0 = λ s. Ties takes puts i o j p (stop_failure s) (StopCount s budget) a b in
    subst P (sym e) (ties_ending takes puts i j o p d budget a b b.ending h l x)
