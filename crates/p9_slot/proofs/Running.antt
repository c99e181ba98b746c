-- The delayed run of an arranged answer follows the straight run.
use Rattle.std.proofs.Common.{◌||◌, ◌&&◌, ◌⊎◌, inl, inr, ℕ, zero, suc, ◌+◌, ◌-◌, ◌*◌, ◌≡◌, ◌≤◌, nat_lt, Bool, true, false, Option, Some, None, refl, sym, ap, ◌∙◌, subst, arith, if◌then◌else◌, List, length, slice_get}
use Rattle.p9_base.specs.declared.halt.HaltCause.{HaltCause}
use Rattle.p9_base.specs.declared.halt.Ending.{Ending}
use Rattle.p9_base.specs.declared.halt.Ending.TheVariants.{Running, Exited, Halted}
use Rattle.p9_base.specs.declared.halt.Effect.{Effect}
use Rattle.p9_base.specs.declared.halt.Effect.TheVariants as effects
use Rattle.p9_base.specs.declared.halt.Asked.{Asked}
use Rattle.p9_base.specs.declared.halt.Asked.TheVariants as asks
use Rattle.p9_base.specs.Core.{Core, text_start, stack_start}
use Rattle.p9_base.specs.SystemCalls.{State, asked, called}
use Rattle.p9_r3k.specs.declared.lines.Line.{Line}
use Rattle.p9_r3k.specs.declared.inst.Inst.{Inst}
use Rattle.p9_r3k.specs.Effects.{effect_of, writes_pair, branches}
use Rattle.p9_r3k.specs.Uses.{loads}
use Rattle.p9_r3k.specs.Straight.{Addresses, Straight, filled, line_at, aim, standing, linked_line, on_to, at_once, straight_line, straight_going, straight_step, straight_run}
use Rattle.p9_r3k.specs.Delayed.{line_address, delayed_step, delayed_run, NotHalted}
use Rattle.p9_r3k.specs.Laws.{HasEnded}
use Rattle.p9_r3k.proofs.Runs.{straight_run-suc}
use Rattle.p9_r3k.proofs.DelayedRuns.{delayed_run-zero, delayed_run-one, delayed_run-sum, delayed_step-ended}
use Rattle.p9_r3k.specs.UseLaws.{NoStop, MayDo}
use Rattle.p9_r3k.proofs.Doing.{does_what_it_may, writers_are_quick}
use Rattle.p9_r3k.proofs.Filling.{filled-uses}
use Rattle.p9_slot.specs.Schedule.{is_at, line_is, retargeted}
use Rattle.p9_slot.specs.Runs.{at_first_line}
use Rattle.p9_slot.specs.Placing.{slot}
use Rattle.p9_slot.proofs.Moving.{Moves, moves_by}
use Rattle.p9_slot.proofs.Entering.{gap, SingleAt, PairAt}
use Rattle.p9_slot.proofs.Marks.{Marks, marked, plain_core, Setting, Comes, passes}
use Rattle.p9_slot.proofs.Standing.{placed, Done, Here, line-stands, once-no_stop, may-filled}
use Rattle.p9_slot.proofs.Changes.{changed, change-at_once, moves-change}
use Rattle.p9_slot.proofs.Exchanging.{Both, between, pair-stands}

-- A step

straight-line : (a : Addresses) (old : List Line) (i : ℕ) (line : Line) (s : State) → s.core.ending ≡ Running → slice_get old i ≡ Some line →
    (let s0 : State = record s { core = plain_core (a.line i) s.core } in
    straight_step a old (record { state = s; at = i })
    ≡ at_once a (length old) (aim a (length old) line s0.core) (effect_of (filled a line) s0.core) i s0)
unfolding straight_step
straight-line a old i line s running found =
    let x : Straight = record { state = s; at = i } in
    ap (λ e. straight_going a old e x) running
    ∙ ap (λ o. straight_line a (length old) o i (standing a x)) found

some-line : (a : Addresses) (old : List Line) (i : ℕ) (s : State) → s.core.ending ≡ Running →
    (o : Option Line) → slice_get old i ≡ o → NotHalted (straight_step a old (record { state = s; at = i })).state.core.ending →
    (line : Line) × (slice_get old i ≡ Some line)
unfolding straight_step
some-line a old i s running (Some line) found going = (line, found)
some-line a old i s running None found going =
    let x : Straight = record { state = s; at = i } in
    let e : straight_going a old s.core.ending x ≡ straight_line a (length old) None i (standing a x) =
    ap (λ e. straight_going a old e x) running ∙ ap (λ o. straight_line a (length old) o i (standing a x)) found in
    absurd (subst (λ (y : Straight). NotHalted y.state.core.ending) e going)

-- a line with the no-ops before it and the one behind it
three : (i : Inst) → 1 + slot i + (if writes_pair i then 2 else 1) ≤ 3
three i = go (branches i) (writes_pair i) (writers_plain i)
  where
    writers_plain : (x : Inst) → (writes_pair x && branches x) ≡ false
    writers_plain x = by_kind (writes_pair x) (branches x) (loads x) (writers_are_quick x)
      where
        by_kind : (w p q : Bool) → (w && (p || q)) ≡ false → (w && p) ≡ false
        by_kind false p q h = refl
        by_kind true false q h = refl
        by_kind true true q h = h

    go : (p w : Bool) → (w && p) ≡ false → 1 + (if p then 1 else 0) + (if w then 2 else 1) ≤ 3
    go true true e = absurd (let f : true ≡ false = e in cc)
    go true false e = omega arith
    go false true e = omega arith
    go false false e = omega arith

gap-of : (new : List Line) (q : ℕ) (line : Line) → slice_get new q ≡ Some line → gap new q ≡ (let n : ℕ = (if writes_pair line.inst then 2 else 1) in n)
gap-of new q line h = ap (λ o. let n : ℕ = (if line_is writes_pair o then 2 else 1) in n) h

gap-most : (new : List Line) (q : ℕ) → gap new q ≤ 2
gap-most new q = go (is_at writes_pair new q)
  where
    go : (b : Bool) → (if b then 2 else 1) ≤ 2
    go true = omega arith
    go false = omega arith

-- a block of one line
single-steps : (symbol : ℕ → ℕ → ℕ) (e : ℕ → ℕ) (begins moved : ℕ → Bool) (old new : List Line) (text_end i q : ℕ) (k : Marks) (s : State) →
    Setting e begins moved old new → Comes e begins new text_end i q k → s.core.ending ≡ Running → text_end ≤ s.core.data_start → moved i ≡ false →
    (let a = placed e symbol in
    let y : Straight = straight_step a old (record { state = s; at = i }) in
    NotHalted y.state.core.ending → Done a e begins new text_end 1 3 (marked k s) y)
single-steps symbol e begins moved old new text_end i q k s setting comes running below alone going =
    let a : Addresses = placed e symbol in
    let (line, found) = some-line a old i s running (slice_get old i) refl going in
    let single : SingleAt e e begins new i line = (setting.block i line comes.at_begin found).single alone in
    let (d, at, run) = passes a e begins new text_end i (e i - q) q k s comes running (omega (arith, comes.before)) in
    let s0 : State = record s { core = plain_core (line_address (e i)) s.core } in
    let same : straight_step a old (record { state = s; at = i })
    ≡ at_once a (length old) (aim a (length old) line s0.core) (effect_of (filled a line) s0.core) i s0 =
    straight-line a old i line s running found in
    let here : Here e begins moved old new text_end i line d = record { setting = setting; found = found; single = single; at = at } in
    let there : Done a e begins new text_end 1 (1 + slot line.inst) (marked d s) (straight_step a old (record { state = s; at = i })) =
    subst (λ (y : Straight). Done a e begins new text_end 1 (1 + slot line.inst) (marked d s) y) (sym same)
    (line-stands symbol e begins moved old new text_end i line d s here running (omega (arith, at.text, below))
    (subst (λ (y : Straight). NotHalted y.state.core.ending) same going)) in
    record {
      steps = e i - q + there.steps;
      marks = there.marks;
      many = omega (arith, there.many);
      few = omega (arith, there.few, three line.inst, gap-of new (e i) (retargeted e line) single.here, comes.near);
      run = delayed_run-sum a new (e i - q) there.steps (marked k s) ∙ (ap (delayed_run a new there.steps) run ∙ there.run);
      lands = there.lands;
    }

-- a block of two lines that have changed places
pair-steps : (symbol : ℕ → ℕ → ℕ) (e : ℕ → ℕ) (begins moved : ℕ → Bool) (old new : List Line) (text_end i q : ℕ) (k : Marks) (s : State) →
    Setting e begins moved old new → Comes e begins new text_end i q k → s.core.ending ≡ Running → text_end ≤ s.core.data_start → moved i ≡ true →
    (let a = placed e symbol in
    let x : Straight = straight_step a old (record { state = s; at = i }) in
    let y : Straight = straight_step a old x in
    NotHalted x.state.core.ending → NotHalted y.state.core.ending → Done a e begins new text_end 2 6 (marked k s) y)
pair-steps symbol e begins moved old new text_end i q k s setting comes running below two first going =
    let a : Addresses = placed e symbol in
    let (line, found) = some-line a old i s running (slice_get old i) refl first in
    let pair : PairAt e e begins old new i line = (setting.block i line comes.at_begin found).pair two in
    let m : Moves line.inst pair.lead.inst = moves_by line.inst pair.lead.inst pair.may in
    let (d, at, run) = passes a e begins new text_end i (e i - q) q k s comes running (omega (arith, comes.before)) in
    let both : Both e begins moved old new text_end i line d = record { setting = setting; found = found; pair = pair; at = at } in
    let pc : ℕ = line_address (e i) in
    let s0 : State = record s { core = plain_core pc s.core } in
    let f : Effect = effect_of (filled a line) s0.core in
    let same : straight_step a old (record { state = s; at = i }) ≡ at_once a (length old) (aim a (length old) line s0.core) f i s0 =
    straight-line a old i line s running found in
    let fine : NoStop f =
    once-no_stop a (length old) (aim a (length old) line s0.core) f i s0 (subst (λ (y : Straight). NotHalted y.state.core.ending) same first) in
    let may : MayDo line.inst f = may-filled line.inst (filled a line) (filled-uses a line) f (does_what_it_may (filled a line) s0.core) in
    let w : State = record s0 { core = changed f s0.core } in
    let x : Straight = record { state = w; at = i + 1 } in
    let after : straight_step a old (record { state = s; at = i }) ≡ x =
    same ∙ change-at_once a (length old) (aim a (length old) line s0.core) f i s0 (moves-change line.inst pair.lead.inst m f may fine) in
    let next : slice_get old (i + 1) ≡ Some pair.lead = ap (slice_get old) (omega arith) ∙ pair.next in
    let going2 : NotHalted (straight_step a old x).state.core.ending =
    subst (λ (y : Straight). NotHalted (straight_step a old y).state.core.ending) after going in
    let act : State → Straight = λ z. at_once a (length old) (aim a (length old) pair.lead z.core) (effect_of (filled a pair.lead) z.core) (i + 1) z in
    let place : e (i + 1) ≡ e i = ap e (omega arith) ∙ pair.same in
    let second : straight_step a old x ≡ act (between pc f s) =
    straight-line a old (i + 1) pair.lead w running next ∙ ap (λ n. act (between (line_address n) f s)) place in
    let going3 : NotHalted (act (between pc f s)).state.core.ending =
    subst (λ (y : Straight). NotHalted y.state.core.ending) second going2 in
    let z : State = between pc f s in
    let fine2 : NoStop (effect_of (filled a pair.lead) z.core) =
    once-no_stop a (length old) (aim a (length old) pair.lead z.core) (effect_of (filled a pair.lead) z.core) (i + 1) z going3 in
    let there : Done a e begins new text_end 2 2 (marked d s) (act z) =
    pair-stands symbol e begins moved old new text_end i line d s both running below fine fine2 going3 in
    let whole : straight_step a old (straight_step a old (record { state = s; at = i })) ≡ act z = ap (straight_step a old) after ∙ second in
    subst (λ (y : Straight). Done a e begins new text_end 2 6 (marked k s) y) (sym whole) (record {
      steps = e i - q + there.steps;
      marks = there.marks;
      many = omega (arith, there.many);
      few = omega (arith, there.few, gap-most new (e i), comes.near);
      run = delayed_run-sum a new (e i - q) there.steps (marked k s) ∙ (ap (delayed_run a new there.steps) run ∙ there.run);
      lands = there.lands;
    })

-- No step moves the data

choice-data : (b : Bool) (c : Core) (low stack : List ℕ) →
    (let d : Core = (if b then record c { low = low } else record c { stack = stack }) in d.data_start ≡ c.data_start)
choice-data true c low stack = refl
choice-data false c low stack = refl

called-data : (q : Asked) (s : State) → (called q s).core.data_start ≡ s.core.data_start
called-data (asks.Exits at len) s = refl
called-data (asks.Read at n) s = choice-data (nat_lt at stack_start) s.core _ _
called-data (asks.Write at n) s = refl
called-data asks.Refused s = refl
called-data (asks.Stop cause) s = refl

on_to-data : (t : Option ℕ) (i : ℕ) (s : State) → (on_to t i s).state.core.data_start ≡ s.core.data_start
on_to-data None i s = refl
on_to-data (Some j) i s = refl

at_once-data : (a : Addresses) (n : ℕ) (t : Option ℕ) (e : Effect) (i : ℕ) (s : State) → (at_once a n t e i s).state.core.data_start ≡ s.core.data_start
at_once-data a n t (effects.Write r v) i s = refl
at_once-data a n t (effects.Pair hi lo) i s = refl
at_once-data a n t (effects.Load r v) i s = refl
at_once-data a n t (effects.StoreByte p v) i s = choice-data (nat_lt p stack_start) s.core _ _
at_once-data a n t (effects.StoreHalf p v) i s = choice-data (nat_lt p stack_start) s.core _ _
at_once-data a n t (effects.StoreWord p v) i s = choice-data (nat_lt p stack_start) s.core _ _
at_once-data a n t (effects.Branch r taken to) i s = on_to-data (if taken then t else Some (i + 1)) i (linked_line a r i s)
at_once-data a n t (effects.JumpTo r to) i s = on_to-data (line_at a.line to 0 n) i (linked_line a r i s)
at_once-data a n t effects.Call i s = called-data (asked s.core) s
at_once-data a n t (effects.Stop cause) i s = refl

straight_line-data : (a : Addresses) (n : ℕ) (o : Option Line) (i : ℕ) (s : State) → (straight_line a n o i s).state.core.data_start ≡ s.core.data_start
straight_line-data a n None i s = refl
straight_line-data a n (Some line) i s = at_once-data a n (aim a n line s.core) (effect_of (filled a line) s.core) i s

straight_going-data : (a : Addresses) (lines : List Line) (e : Ending) (x : Straight) → (straight_going a lines e x).state.core.data_start ≡ x.state.core.data_start
straight_going-data a lines Running x = straight_line-data a (length lines) (slice_get lines x.at) x.at (standing a x)
straight_going-data a lines (Exited at len) x = refl
straight_going-data a lines (Halted cause pc) x = refl

straight_step-data : (a : Addresses) (lines : List Line) (x : Straight) → (straight_step a lines x).state.core.data_start ≡ x.state.core.data_start
unfolding straight_step
straight_step-data a lines x = straight_going-data a lines x.state.core.ending x

-- Runs

straight_step-exited : (a : Addresses) (lines : List Line) (x : Straight) (at len : ℕ) → x.state.core.ending ≡ Exited at len → straight_step a lines x ≡ x
unfolding straight_step
straight_step-exited a lines x at len e = ap (λ r. straight_going a lines r x) e

straight_step-halted : (a : Addresses) (lines : List Line) (x : Straight) (cause : HaltCause) (pc : ℕ) → x.state.core.ending ≡ Halted cause pc → straight_step a lines x ≡ x
unfolding straight_step
straight_step-halted a lines x cause pc e = ap (λ r. straight_going a lines r x) e

pub not_halted-before : (a : Addresses) (lines : List Line) (x : Straight) → NotHalted (straight_step a lines x).state.core.ending → NotHalted x.state.core.ending
not_halted-before a lines x h = go x.state.core.ending refl
  where
    go : (e : Ending) → x.state.core.ending ≡ e → NotHalted e
    go Running f = tt
    go (Exited at len) f = tt
    go (Halted cause pc) f =
        subst (λ r. NotHalted r) f (subst (λ (y : Straight). NotHalted y.state.core.ending) (straight_step-halted a lines x cause pc f) h)

exited-stays : (a : Addresses) (lines : List Line) (s : State) (at len : ℕ) → s.core.ending ≡ Exited at len → delayed_step a lines s ≡ s
exited-stays a lines s at len e = delayed_step-ended a lines s (subst HasEnded (sym e) tt)

-- the delayed run from a state stands as the straight run after n steps
pub record Reached (a : Addresses) (e : ℕ → ℕ) (begins : ℕ → Bool) (new : List Line) (text_end n : ℕ) (from : State) (base : ℕ) (x : Straight) : Type 0 where
  pub steps : ℕ
  pub marks : Marks
  pub many : n ≤ steps
  pub few : steps ≤ 3 * n
  pub run : delayed_run a new steps from ≡ marked marks x.state
  pub lands : x.state.core.ending ≡ Running → (q : ℕ) × Comes e begins new text_end x.at q marks
  pub data_start : x.state.core.data_start ≡ base

-- or as it did one step before, at a line that moves behind the next
pub record Short (a : Addresses) (e : ℕ → ℕ) (begins moved : ℕ → Bool) (old new : List Line) (text_end n : ℕ) (from : State) (base : ℕ) (x : Straight) : Type 0 where
  pub before : ℕ
  pub one_less : n ≡ suc before
  pub reached : Reached a e begins new text_end before from base (straight_run a old before x)
  pub running : (straight_run a old before x).state.core.ending ≡ Running
  pub moves : moved (straight_run a old before x).at ≡ true

abbrev pub Stands : (a : Addresses) (e : ℕ → ℕ) (begins moved : ℕ → Bool) (old new : List Line) (text_end n : ℕ) (from : State) (base : ℕ) (x : Straight) → Type 0
Stands a e begins moved old new text_end n from base x =
    Reached a e begins new text_end n from base (straight_run a old n x) ⊎ Short a e begins moved old new text_end n from base x

-- one step more
reached-more : (symbol : ℕ → ℕ → ℕ) (e : ℕ → ℕ) (begins moved : ℕ → Bool) (old new : List Line) (text_end n : ℕ) (from : State) (base : ℕ) (x : Straight) →
    Setting e begins moved old new → text_end ≤ base →
    (let a = placed e symbol in
    let y : Straight = straight_run a old n x in
    Reached a e begins new text_end n from base y → NotHalted (straight_step a old y).state.core.ending →
    (ending : Ending) → y.state.core.ending ≡ ending → Stands a e begins moved old new text_end (suc n) from base x)
unfolding straight_run
reached-more symbol e begins moved old new text_end n from base x setting below h going Running f =
    by_block (moved (straight_run (placed e symbol) old n x).at) refl
  where
    by_block : (b : Bool) → moved (straight_run (placed e symbol) old n x).at ≡ b →
        Stands (placed e symbol) e begins moved old new text_end (suc n) from base x
    by_block true t = inr (record { before = n; one_less = refl; reached = h; running = f; moves = t })
    by_block false t =
        let a : Addresses = placed e symbol in
        let y : Straight = straight_run a old n x in
        let (q, comes) = h.lands f in
        let d : Done a e begins new text_end 1 3 (marked h.marks y.state) (straight_step a old y) =
        single-steps symbol e begins moved old new text_end y.at q h.marks y.state setting comes f (omega (arith, h.data_start, below)) t going in
        inl (record {
          steps = h.steps + d.steps;
          marks = d.marks;
          many = omega (arith, h.many, d.many);
          few = omega (arith, h.few, d.few);
          run = delayed_run-sum a new h.steps d.steps from ∙ (ap (delayed_run a new d.steps) h.run ∙ d.run);
          lands = d.lands;
          data_start = straight_step-data a old y ∙ h.data_start;
        })
reached-more symbol e begins moved old new text_end n from base x setting below h going (Exited at len) f =
    let a : Addresses = placed e symbol in
    let y : Straight = straight_run a old n x in
    let same : straight_step a old y ≡ y = straight_step-exited a old y at len f in
    inl (subst (λ (z : Straight). Reached a e begins new text_end (suc n) from base z) (sym same) (record {
      steps = h.steps + 1;
      marks = h.marks;
      many = omega (arith, h.many);
      few = omega (arith, h.few);
      run = delayed_run-sum a new h.steps 1 from ∙ (ap (delayed_run a new 1) h.run
          ∙ (delayed_run-one a new (marked h.marks y.state) ∙ exited-stays a new (marked h.marks y.state) at len f));
      lands = h.lands;
      data_start = h.data_start;
    }))
reached-more symbol e begins moved old new text_end n from base x setting below h going (Halted cause pc) f =
    absurd (subst (λ r. NotHalted r) f (not_halted-before (placed e symbol) old (straight_run (placed e symbol) old n x) going))

-- the second step of two lines that have changed places
short-more : (symbol : ℕ → ℕ → ℕ) (e : ℕ → ℕ) (begins moved : ℕ → Bool) (old new : List Line) (text_end n : ℕ) (from : State) (base : ℕ) (x : Straight) →
    Setting e begins moved old new → text_end ≤ base →
    (let a = placed e symbol in
    (h : Short a e begins moved old new text_end n from base x) →
    NotHalted (straight_run a old n x).state.core.ending → NotHalted (straight_run a old (suc n) x).state.core.ending →
    Reached a e begins new text_end (suc n) from base (straight_run a old (suc n) x))
short-more symbol e begins moved old new text_end n from base x setting below h first going =
    let a : Addresses = placed e symbol in
    let y : Straight = straight_run a old h.before x in
    let (q, comes) = h.reached.lands h.running in
    let once : straight_run a old n x ≡ straight_step a old y = ap (λ m. straight_run a old m x) h.one_less ∙ straight_run-suc a old h.before x in
    let twice : straight_run a old (suc n) x ≡ straight_step a old (straight_step a old y) =
    straight_run-suc a old n x ∙ ap (straight_step a old) once in
    let d : Done a e begins new text_end 2 6 (marked h.reached.marks y.state) (straight_step a old (straight_step a old y)) =
    pair-steps symbol e begins moved old new text_end y.at q h.reached.marks y.state setting comes h.running
    (omega (arith, h.reached.data_start, below)) h.moves
    (subst (λ (z : Straight). NotHalted z.state.core.ending) once first)
    (subst (λ (z : Straight). NotHalted z.state.core.ending) twice going) in
    subst (λ (z : Straight). Reached a e begins new text_end (suc n) from base z) (sym twice) (record {
      steps = h.reached.steps + d.steps;
      marks = d.marks;
      many = omega (arith, h.reached.many, d.many, h.one_less);
      few = omega (arith, h.reached.few, d.few, h.one_less);
      run = delayed_run-sum a new h.reached.steps d.steps from ∙ (ap (delayed_run a new d.steps) h.reached.run ∙ d.run);
      lands = d.lands;
      data_start = straight_step-data a old (straight_step a old y) ∙ (straight_step-data a old y ∙ h.reached.data_start);
    })

first-reached : (symbol : ℕ → ℕ → ℕ) (e : ℕ → ℕ) (begins moved : ℕ → Bool) (old new : List Line) (text_end : ℕ) (s : State) →
    Setting e begins moved old new →
    Reached (placed e symbol) e begins new text_end 0 (at_first_line text_end s) s.core.data_start (record { state = s; at = 0 })
first-reached symbol e begins moved old new text_end s setting = record {
  steps = 0;
  marks = record {
    pc = text_start;
    next = text_start + 4;
    slot = false;
    loaded = 0;
    used = false;
    used_before = false;
    text_end = text_end;
  };
  many = omega arith;
  few = omega arith;
  run = delayed_run-zero (placed e symbol) new (at_first_line text_end s);
  lands = λ r. (
    0,
    record {
      at_begin = setting.first_begins;
      pc = refl;
      next = refl;
      slot = refl;
      text = refl;
      before = omega arith;
      near = omega (arith, setting.first);
      noops = λ p from to. absurd (omega (arith, setting.first, to));
      within = record {
        used = λ u. absurd (let f : false ≡ true = u in cc);
        used_before = λ u. absurd (let f : false ≡ true = u in cc);
        loaded = inl refl;
      };
      small = setting.small 0 (omega arith);
    },
  );
  data_start = refl;
}

straight-zero : (a : Addresses) (old : List Line) (x : Straight) → straight_run a old 0 x ≡ x
unfolding straight_run
straight-zero a old x = refl

pub stands : (symbol : ℕ → ℕ → ℕ) (e : ℕ → ℕ) (begins moved : ℕ → Bool) (old new : List Line) (text_end : ℕ) (s : State) (n : ℕ) →
    Setting e begins moved old new → text_end ≤ s.core.data_start →
    (let a = placed e symbol in
    let x : Straight = record { state = s; at = 0 } in
    NotHalted (straight_run a old n x).state.core.ending →
    Stands a e begins moved old new text_end n (at_first_line text_end s) s.core.data_start x)
stands symbol e begins moved old new text_end s zero setting below going =
    inl (subst (λ (z : Straight). Reached (placed e symbol) e begins new text_end 0 (at_first_line text_end s) s.core.data_start z)
    (sym (straight-zero (placed e symbol) old (record { state = s; at = 0 })))
    (first-reached symbol e begins moved old new text_end s setting))
stands symbol e begins moved old new text_end s (suc n) setting below going =
    let a : Addresses = placed e symbol in
    let x : Straight = record { state = s; at = 0 } in
    let step : NotHalted (straight_step a old (straight_run a old n x)).state.core.ending =
    subst (λ (z : Straight). NotHalted z.state.core.ending) (straight_run-suc a old n x) going in
    let earlier : NotHalted (straight_run a old n x).state.core.ending = not_halted-before a old (straight_run a old n x) step in
    by_case earlier step (stands symbol e begins moved old new text_end s n setting below earlier)
  where
    by_case : (let a = placed e symbol in
        let x : Straight = record { state = s; at = 0 } in
        NotHalted (straight_run a old n x).state.core.ending →
        NotHalted (straight_step a old (straight_run a old n x)).state.core.ending →
        Stands a e begins moved old new text_end n (at_first_line text_end s) s.core.data_start x →
        Stands a e begins moved old new text_end (suc n) (at_first_line text_end s) s.core.data_start x)
    by_case earlier step (inl h) =
        reached-more symbol e begins moved old new text_end n (at_first_line text_end s) s.core.data_start (record { state = s; at = 0 }) setting below
        h step (straight_run (placed e symbol) old n (record { state = s; at = 0 })).state.core.ending refl
    by_case earlier step (inr h) =
        inl (short-more symbol e begins moved old new text_end n (at_first_line text_end s) s.core.data_start (record { state = s; at = 0 }) setting below
        h earlier going)
