-- The run from the start: to the call of `main`, and from its return to the exit.
use Rattle.std.proofs.Common.{◌≡◌, ◌≢◌, ◌≤◌, ◌<◌, inl, inr, ℕ, ◌+◌, ◌-◌, Some, List, [], ◌∷◌, length, refl, sym, ap, ◌∙◌, arith}
use Rattle.std.proofs.lemmas.List.{get_or-set_same}
use Rattle.p9_base.specs.Words.{word_sum}
use Rattle.p9_base.specs.Core.{text_start, stack_start, stack_end, reg, with_reg, read_byte}
use Rattle.p9_base.specs.SystemCalls.{State, exit_text}
use Rattle.p9_base.proofs.Holding.{with_register-words}
use Rattle.p9_abs.specs.BuiltIn.{start_code}
use Rattle.p9_abs.specs.Steps.{Mach, Next, Calls, step}
use Rattle.p9_abs.specs.Runs.{Routine, Addresses, Active, Run, Status, Going, Gone, kept_by, enters, entered_in, linked_to, around_of, arun_from, arun_of}
use Rattle.p9_abs.specs.Keeping.{nowhere}
use Rattle.p9_abs.proofs.Growing.{runs_compose}
use Rattle.p9_abs.proofs.Fixed.{other-register}
use Rattle.p9_cmean.specs.Cells as c
use Rattle.p9_cmean.specs.Cells.{FunctionName, Value}
use Rattle.p9_cmean.specs.Turns.{Ended, Out, Undefined, Deep, NoOutcome, End, Gave, Over, outcome_of, copied_of}
use Rattle.p9_cmean.specs.Union.{Union, base_need}
use Rattle.p9_cmean.specs.CRun.{callee, NoCallee, functions_of, main_name, main_call, first_state, run_of, return_text}
use Rattle.p9_sim.specs.Memory.{Map, Ground}
use Rattle.p9_sim.specs.Matching.{entry_of, Answers}
use Rattle.p9_sim.proofs.Registers.{match-with}
use Rattle.p9_compose.specs.Calling.{HasCode, run_at, waiting, ComesTo}
use Rattle.p9_compose.proofs.Running.{runs-zero, runs-next, onward-step}
use Rattle.p9_compose.proofs.Entering.{entered-going, first_of}
use Rattle.p9_compose.proofs.Modules.{main_is_right}
use Rattle.p9_systems.proofs.Bytes.{byte-low}
use Rattle.p9_start.specs.Starting.{start_def, HasStart, exit_bytes, StandsFirst, RunComesTo, StartIsRight}
use Rattle.p9_start.proofs.Steps.{made, kept_at, kept-not, kept-above, entry-is, step-0, step-1, step-2, step-3, step-4, step-5}
use Rattle.p9_start.proofs.Exiting.{IsLast, exits-run}
use Rattle.p9_start.proofs.First.{main-is, regs_1, regs_2, regs_3, stack_1, stack_2, stack-at-2, free-2, aligned-2, writable-2, at-main}

module _ (p : Addresses) (rs : List Routine) (g : Ground) (union : Union) (most arguments text : ℕ) (m : Map) (input : List ℕ) (x : State) (hs : HasStart p rs arguments (g.function main_name) text)
    (codes : (name : FunctionName) → callee union name ≢ NoCallee → HasCode p rs g (functions_of union) most name) (st : StandsFirst g m union arguments text input x) where
  abbrev sp : ℕ
  sp = stack_end - 12

  is_sp : stack_end - 12 + 12 ≡ stack_end
  is_sp = omega arith

  abbrev rt : Routine
  rt = record { unit = hs.unit; symbol = hs.symbol; def = start_def }

  abbrev names : ℕ → ℕ
  names = p.symbol hs.unit

  abbrev at_step : State → ℕ → Run
  at_step y k = run_at (record { state = y; vars = []; at = k }) 0 (Some sp) []

  abbrev x_1 : State
  x_1 = record x { core = record x.core { regs = regs_1 g m union arguments text input x st sp is_sp; stack = stack_1 g m union arguments text input x st sp is_sp } }

  abbrev x_2 : State
  x_2 = made x (regs_2 g m union arguments text input x st sp is_sp) (stack_1 g m union arguments text input x st sp is_sp)

  abbrev x_3 : State
  x_3 = made x (regs_2 g m union arguments text input x st sp is_sp) (stack_2 g m union arguments text input x st sp is_sp)

  abbrev x_4 : State
  x_4 = made x (regs_3 g m union arguments text input x st sp is_sp) (stack_2 g m union arguments text input x st sp is_sp)

  entry : enters rs (Some 0) x [] ≡ Going (at_step x_1 0)
  entry =
      let s = st.stack in
      ap (λ o. entered_in o x 0 []) hs.first
      ∙ (entered-going start_def x 0 [] (omega (arith, s))
      ∙ (ap (λ k. Going (run_at (first_of start_def x) 0 (Some k) [])) (let e : reg x.core 29 - 12 ≡ sp = omega (arith, s) in e)
      ∙ ap (λ y. Going (at_step y 0)) (entry-is x sp (omega (arith, s)) (omega arith) st.order)))

  on : (k : ℕ) (y z : State) → step (around_of p rt (at_step y k)) start_code (record { state = y; vars = []; at = k }) ≡ Next (record { state = z; vars = []; at = k + 1 })
      → (j : ℕ) (from : Status) → arun_from p rs j from ≡ Going (at_step y k) → arun_from p rs (j + 1) from ≡ Going (at_step z (k + 1))
  on k y z e j from h = runs-next p rs j from (Going (at_step y k)) (Going (at_step z (k + 1))) h (onward-step p rs (at_step y k) rt (Next (record { state = z; vars = []; at = k + 1 })) hs.first e)

  -- three steps to the JAL
  three : arun_from p rs 3 (Going (at_step x_1 0)) ≡ Going (at_step x_4 3)
  three =
      on 2 x_3 x_4 (step-2 names sp x_3) 2 (Going (at_step x_1 0))
      (on 1 x_2 x_3
      (step-1 names sp x_2 (sp + 8) (let e = stack-at-2 g m union arguments text input x st sp is_sp in omega (arith, e)) (free-2 g m union arguments text input x st sp is_sp) (aligned-2 g m union arguments text input x st sp is_sp)
      (writable-2 g m union arguments text input x st sp is_sp) (omega arith) st.order)
      1 (Going (at_step x_1 0))
      (on 0 x_1 x_2 (step-0 names sp x_1 ∙ ap (λ a. Next (record { state = made x (with_reg (regs_1 g m union arguments text input x st sp is_sp) 2 (word_sum a 0)) (stack_1 g m union arguments text input x st sp is_sp); vars = []; at = 1 })) hs.names_arguments)
      0 (Going (at_step x_1 0)) (runs-zero p rs (Going (at_step x_1 0)))))

  abbrev before : Mach
  before = record { state = x_4; vars = []; at = 3 }

  abbrev behind : Mach
  behind = record { state = x_4; vars = []; at = 4 }

  abbrev waits : Active
  waits = waiting 0 (Some sp) behind

  abbrev linked : State
  linked = linked_to (p.instruction 0 4) x_4

  calls-main : step (around_of p rt (at_step x_4 3)) start_code before ≡ Calls (g.function (main_call union).function) behind
  calls-main = step-3 names sp x_4 ∙ (ap (λ a. Calls a behind) hs.names_main ∙ ap (λ f. Calls (g.function f) behind) (sym (main-is union)))

  main-runs : (turns : ℕ) → ComesTo p rs g most turns 0 (Going (at_step x_4 3)) waits [] base_need (entry_of m (first_state union input) (main_call union) linked) (run_of union input turns)
  main-runs turns =
      main_is_right p rs g union most codes input turns m 0 (Some sp) [] rt before behind hs.first (hs.placed 4 (omega arith)) calls-main
      (at-main g m union arguments text input x st sp is_sp (p.instruction 0 4) (hs.placed 4 (omega arith)))

  -- the run in all
  in-all : (j : ℕ) (s : Status) → arun_from p rs j (Going (at_step x_4 3)) ≡ s → arun_of p rs x (3 + j) ≡ s
  unfolding arun_of
  in-all j s h =
      ap (arun_from p rs (3 + j)) entry ∙ (runs_compose p rs 3 j (Going (at_step x_1 0)) ∙ (ap (arun_from p rs j) three ∙ h))

  -- BEHIND MAIN

  module _ (u : Map) (t : c.State) (w : State) (v : Value) (ans : Answers g nowhere (kept_by (waits ∷ [])) base_need (entry_of m (first_state union input) (main_call union) linked) u t w v) where
    abbrev w_1 : State
    w_1 = made w (with_reg w.core.regs 1 (word_sum text 0)) w.core.stack

    abbrev call_state : State
    call_state = linked_to (p.instruction 0 6) w_1

    linked-29 : (let z : State = linked_to (p.instruction 0 4) x_4 in reg z.core 29 ≡ stack_end - 12)
    linked-29 =
        other-register (regs_3 g m union arguments text input x st sp is_sp) 31 (p.instruction 0 4) 29 (λ e. omega (arith, e))
        ∙ (other-register (regs_2 g m union arguments text input x st sp is_sp) 1 1 29 (λ e. omega (arith, e)) ∙ stack-at-2 g m union arguments text input x st sp is_sp)

    w-29 : reg w.core 29 ≡ stack_end - 12
    w-29 = ans.leaves.stack ∙ linked-29

    call-29 : (let z : State = linked_to (p.instruction 0 6) w_1 in reg z.core 29 ≡ stack_end - 12)
    call-29 =
        other-register (with_reg w.core.regs 1 (word_sum text 0)) 31 (p.instruction 0 6) 29 (λ e. omega (arith, e)) ∙ (other-register w.core.regs 1 (word_sum text 0) 29 (λ e. omega (arith, e)) ∙ w-29)

    -- the exit text is as it was
    text-kept : (byte : ℕ) → text ≤ byte → byte < text + length exit_bytes → read_byte w.core byte ≡ read_byte x.core byte
    text-kept byte l h =
        let d = st.text_in_data in let d1 = d.1 in let up = st.gap in
        let low : byte < stack_start = omega (arith, h, d1, up) in
        ans.leaves.memory byte refl (inl low) (λ o. st.text_apart byte o l h) (λ i. (let i0 = i.0 in let e = linked-29 in omega (arith, i0, e, low)))
        ∙ (byte-low linked.core byte low ∙ sym (byte-low x.core byte low))

    is-last : IsLast g.data_start text (kept_by (waiting 0 (Some sp) (record { state = w_1; vars = []; at = 6 }) ∷ [])) call_state
    is-last =
        let words = ans.matched.words in let count = words.count in
        let e29 = call-29 in
        let size = ans.leaves.sizes.low in
        record {
          matched = (
            g,
            u,
            t,
            refl,
            match-with g (kept_at sp) (kept_at sp) base_need u t w (with_reg (with_reg w.core.regs 1 (word_sum text 0)) 31 (p.instruction 0 6)) text_start ans.matched
                (with_register-words (record w.core { regs = with_reg w.core.regs 1 (word_sum text 0) }) 31 (p.instruction 0 6) (hs.placed 6 (omega arith)) (with_register-words w.core 1 (word_sum text 0) (omega arith) words))
                (other-register (with_reg w.core.regs 1 (word_sum text 0)) 31 (p.instruction 0 6) 29 (λ e. omega (arith, e)) ∙ other-register w.core.regs 1 (word_sum text 0) 29 (λ e. omega (arith, e)))
                (other-register (with_reg w.core.regs 1 (word_sum text 0)) 31 (p.instruction 0 6) 30 (λ e. omega (arith, e)) ∙ other-register w.core.regs 1 (word_sum text 0) 30 (λ e. omega (arith, e)))
                ans.matched.free,
          );
          argument = sym (other-register (with_reg w.core.regs 1 (word_sum text 0)) 31 (p.instruction 0 6) 1 (λ e. omega (arith, e)) ∙ get_or-set_same w.core.regs 1 (word_sum text 0) 0 (omega (arith, count)));
          in_data = (let d = st.text_in_data in let d1 = d.1 in (d.0, omega (arith, d1, size)));
          fourfold = st.text_fourfold;
          bytes = λ i l. text-kept (text + i) (omega arith) (omega (arith, l)) ∙ st.text_bytes i l;
          room = omega (arith, e29);
          free = λ byte l. kept-not sp byte (inl (omega (arith, l)));
          allowed = λ byte l. kept-not sp byte (inr (omega (arith, l, e29)));
          above = λ byte e. (let k = kept-above sp byte e in omega (arith, k, e29));
        }

    -- two steps and the call of `exits`
    exits : (j : ℕ) × (z : State) × (arun_from p rs j (Going (at_step w 4)) ≡ Gone z) × (exit_text z.core ≡ return_text) × (z.out ≡ w.out) × (z.left ≡ w.left) × (j ≤ 6)
    exits =
        let y : Mach = record { state = w_1; vars = []; at = 5 } in
        let z : Mach = record { state = w_1; vars = []; at = 6 } in
        let r = exits-run p rs (names 4) g.data_start text hs.exits_number hs.exits_unit hs.exits_symbol hs.exits_found hs.exits_is hs.exits_placed 0 (Some sp) rt y z hs.first (hs.placed 6 (omega arith)) (step-5 names sp w_1) is-last in
        let one : arun_from p rs 1 (Going (at_step w 4)) ≡ Going (at_step w_1 5) =
        on 4 w w_1 (step-4 names sp w ∙ ap (λ a. Next (record { state = made w (with_reg w.core.regs 1 (word_sum a 0)) w.core.stack; vars = []; at = 5 })) hs.names_text) 0 (Going (at_step w 4)) (runs-zero p rs (Going (at_step w 4))) in
        let l = r.6 in
        (1 + r.0, r.1, runs_compose p rs 1 r.0 (Going (at_step w 4)) ∙ (ap (arun_from p rs r.0) one ∙ r.2), r.3, r.4, r.5, omega (arith, l))

  comes : (turns : ℕ) (e : End) → ComesTo p rs g most turns 0 (Going (at_step x_4 3)) waits [] base_need (entry_of m (first_state union input) (main_call union) linked) e
      → RunComesTo (arun_of p rs x) most turns (copied_of e) (outcome_of return_text e)
  comes turns (Gave v t left moved) r =
      let ans = r.4 in
      let last = exits r.1 t r.2 v ans in
      let l = last.6 in let cost = r.8 in let fewer = r.5 in
      let whole : arun_from p rs (r.0 + last.0) (Going (at_step x_4 3)) ≡ Gone last.1 = runs_compose p rs r.0 last.0 (Going (at_step x_4 3)) ∙ (ap (arun_from p rs last.0) r.3 ∙ last.2) in (
        3 + (r.0 + last.0),
        last.1,
        in-all (r.0 + last.0) (Gone last.1) whole,
        last.3,
        last.4 ∙ ans.matched.output,
        last.5 ∙ ans.matched.input,
        omega (arith, l, cost),
      )
  comes turns (Over (Ended text_is s) moved) r = let cost = r.6 in (3 + r.0, r.1, in-all r.0 (Gone r.1) r.2, r.3, r.4, r.5, omega (arith, cost))
  comes turns (Over (Out call s) moved) r = let l = r.5 in (3 + r.0, r.1, in-all r.0 (Going r.1) r.2, r.3, r.4, omega (arith, l))
  comes turns (Over (Undefined why place s) moved) r = tt
  comes turns (Over (Deep place s) moved) r = tt
  comes turns (Over (NoOutcome place s) moved) r = tt

  pub started : (turns : ℕ) → (let end : End = run_of union input turns in RunComesTo (arun_of p rs x) most turns (copied_of end) (outcome_of return_text end))
  started turns = comes turns (run_of union input turns) (main-runs turns)

pub start_is_right : StartIsRight
start_is_right p rs g union most arguments text m input x hs codes st turns = started p rs g union most arguments text m input x hs codes st turns
