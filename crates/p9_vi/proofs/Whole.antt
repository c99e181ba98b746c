-- Stretches as one run: what all takes brought is its input, and what all puts wrote its output.
use Rattle.std.proofs.Common.{◌≡◌, ℕ, ◌+◌, List, [], ◌∷◌, ◌++◌, map, Option, None, refl, sym, ◌∙◌, ap, subst, append_assoc, append-nil}
use Rattle.p9_base.specs.declared.outside.Took as took
use Rattle.p9_base.specs.Outside.{TakeCall, Take, PutCall}
use Rattle.p9_base.specs.Calls.{StreamCall, OnInput, OnOut, Failing, StreamsDid, StreamsEnd}
use Rattle.p9_r3k.specs.Memory.{Core}
use Rattle.p9_r3k.specs.Machine.{State, state, step, run}
use Rattle.p9_r3k.proofs.Runs.{run-sum}
use Rattle.p9_base.specs.CallBytes.{Stretch, Going, Reading, calls_of, steps_of, brought, brought_by, written, written_by, brought_in, written_in, KeepRests, FoundEnd, IsSteady}
use Rattle.p9_vi.specs.Tied.{Goes, Fails, Ties, IsRunOn}

-- Lists of calls

brought_takes : (takes : List TakeCall) (calls : List StreamCall) → brought_in (map OnInput takes ++ calls) ≡ brought takes ++ brought_in calls
brought_takes [] calls = refl
brought_takes (c ∷ cs) calls =
    ap (λ (x : List ℕ). brought_by c ++ x) (brought_takes cs calls) ∙ sym (append_assoc (brought_by c) (brought cs) (brought_in calls))

brought_puts : (puts : List PutCall) (calls : List StreamCall) → brought_in (map OnOut puts ++ calls) ≡ brought_in calls
brought_puts [] calls = refl
brought_puts (c ∷ cs) calls = brought_puts cs calls

written_takes : (takes : List TakeCall) (calls : List StreamCall) → written_in (map OnInput takes ++ calls) ≡ written_in calls
written_takes [] calls = refl
written_takes (c ∷ cs) calls = written_takes cs calls

written_puts : (puts : List PutCall) (calls : List StreamCall) → written_in (map OnOut puts ++ calls) ≡ written puts ++ written_in calls
written_puts [] calls = refl
written_puts (c ∷ cs) calls =
    ap (λ (x : List ℕ). written_by c ++ x) (written_puts cs calls) ∙ sym (append_assoc (written_by c) (written cs) (written_in calls))

steady_puts : (puts : List PutCall) (calls : List StreamCall) (l : List ℕ) → IsSteady (map OnOut puts ++ calls) l → IsSteady calls l
steady_puts [] calls l h = h
steady_puts (c ∷ cs) calls l h = steady_puts cs calls l h

steady_takes : (takes : List TakeCall) (calls : List StreamCall) (l : List ℕ) → IsSteady (map OnInput takes ++ calls) l → KeepRests takes × IsSteady calls l
steady_takes [] calls l h = (tt, h)
steady_takes (c ∷ cs) calls l h = let both = steady_takes cs calls l h.2 in ((h.0, both.0), both.1)

-- nothing comes after takes that found the end
after_end : (before : List TakeCall) (room filled : List ℕ) (calls : List StreamCall) (l : List ℕ) →
    IsSteady (map OnInput (before ++ Take room filled took.TheVariants.End ∷ []) ++ calls) l → brought_in calls ++ l ≡ []
after_end [] room filled calls l h = h.1
after_end (c ∷ cs) room filled calls l h = after_end cs room filled calls l h.2

found_end : (takes : List TakeCall) (calls : List StreamCall) (l : List ℕ) → IsSteady (map OnInput takes ++ calls) l → FoundEnd takes →
    brought_in calls ++ l ≡ []
found_end takes calls l h (before, room, filled, e) =
    let P : List TakeCall → Type 0 = λ x. IsSteady (map OnInput x ++ calls) l in
    after_end before room filled calls l (subst P e h)

-- One run

run_none : (x : State) → x ≡ run 0 x
unfolding run
run_none x = refl

run_one : (x : State) → step x ≡ run 1 x
unfolding run
run_one x = refl

pub goes_whole : (stretches : List Stretch) (old new : Core) → Goes stretches old new → IsRunOn (calls_of stretches) (steps_of stretches) old new
goes_whole [] old new goes = λ l s h.
    ap (λ (x : List ℕ). state new l x) (append-nil s) ∙ (ap (λ (c : Core). state c l s) goes ∙ run_none (state old l s))
goes_whole (Going steps puts ∷ more) old new (m, passes, goes) = λ l s h.
    let calls : List StreamCall = calls_of more in
    let w : s ++ written_in (map OnOut puts ++ calls) ≡ (s ++ written puts) ++ written_in calls =
    ap (λ (x : List ℕ). s ++ x) (written_puts puts calls) ∙ sym (append_assoc s (written puts) (written_in calls)) in
    let b : brought_in (map OnOut puts ++ calls) ++ l ≡ brought_in calls ++ l = ap (λ (x : List ℕ). x ++ l) (brought_puts puts calls) in
    let rest : state new l ((s ++ written puts) ++ written_in calls) ≡ run (steps_of more) (state m (brought_in calls ++ l) (s ++ written puts)) =
    goes_whole more m new goes l (s ++ written puts) (steady_puts puts calls l h) in
    ap (λ (x : List ℕ). state new l x) w
    ∙ (rest
    ∙ (ap (run (steps_of more)) (passes (brought_in calls ++ l) s)
    ∙ (sym (run-sum steps (steps_of more) (state old (brought_in calls ++ l) s))
    ∙ ap (λ (x : List ℕ). run (steps + steps_of more) (state old x s)) (sym b))))
goes_whole (Reading takes ∷ more) old new (m, does, goes) = λ l s h.
    let calls : List StreamCall = calls_of more in
    let both = steady_takes takes calls l h in
    let w : s ++ written_in (map OnInput takes ++ calls) ≡ s ++ written_in calls = ap (λ (x : List ℕ). s ++ x) (written_takes takes calls) in
    let b : brought_in (map OnInput takes ++ calls) ++ l ≡ brought takes ++ (brought_in calls ++ l) =
    ap (λ (x : List ℕ). x ++ l) (brought_takes takes calls) ∙ append_assoc (brought takes) (brought_in calls) l in
    let one : state m (brought_in calls ++ l) s ≡ step (state old (brought takes ++ (brought_in calls ++ l)) s) =
    does.steps both.0 (brought_in calls ++ l) s (λ k. found_end takes calls l h (does.short k)) in
    ap (λ (x : List ℕ). state new l x) w
    ∙ (goes_whole more m new goes l s both.1
    ∙ (ap (run (steps_of more)) (one ∙ run_one (state old (brought takes ++ (brought_in calls ++ l)) s))
    ∙ (sym (run-sum 1 (steps_of more) (state old (brought takes ++ (brought_in calls ++ l)) s))
    ∙ ap (λ (x : List ℕ). run (1 + steps_of more) (state old x s)) (sym b))))

-- a run in which nothing failed, by its calls alone
pub ties_whole : {I O : Type 0} (takes : I → TakeCall → I → Type 0) (puts : O → PutCall → O → Type 0) (i j : I) (o p : O) (Count : ℕ → Type 0) (old new : Core) →
    Ties takes puts i o j p None Count old new →
    (calls : List StreamCall) × StreamsDid takes puts i o calls j p × StreamsEnd calls None
    × (n : ℕ) × Count n × IsRunOn calls n old new
ties_whole takes puts i j o p Count old new t =
    let e : calls_of t.stretches ++ t.last ≡ calls_of t.stretches =
    ap (λ (l : List StreamCall). calls_of t.stretches ++ l) t.fails.0 ∙ append-nil (calls_of t.stretches) in
    let P : List StreamCall → Type 0 = λ calls. StreamsDid takes puts i o calls j p in
    let Q : List StreamCall → Type 0 = λ calls. StreamsEnd calls None in
    let R : Core → Type 0 = λ c. IsRunOn (calls_of t.stretches) (steps_of t.stretches) old c in
    (calls_of t.stretches, subst P e t.did, subst Q e t.ends, steps_of t.stretches, t.count, subst R (sym t.fails.1) (goes_whole t.stretches old t.before t.goes))

-- a run up to what failed, by its calls alone
pub ties_runs : {I O : Type 0} (takes : I → TakeCall → I → Type 0) (puts : O → PutCall → O → Type 0) (i j : I) (o p : O) (failed : Option Failing) (Count : ℕ → Type 0) (old new : Core) →
    Ties takes puts i o j p failed Count old new →
    (calls : List StreamCall) × (last : List StreamCall) × StreamsDid takes puts i o (calls ++ last) j p × StreamsEnd (calls ++ last) failed
    × (n : ℕ) × Count n × (before : Core) × IsRunOn calls n old before × Fails failed last before new
ties_runs takes puts i j o p failed Count old new t = (
  calls_of t.stretches,
  t.last,
  t.did,
  t.ends,
  steps_of t.stretches,
  t.count,
  t.before,
  goes_whole t.stretches old t.before t.goes,
  t.fails,
)
