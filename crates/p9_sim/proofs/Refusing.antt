-- Wrong codes are refused.
use Rattle.std.proofs.Common.{◌≡◌, ◌≤◌, ◌==◌, ℕ, ◌-◌, ◌^◌, true, not, List, [], length, slice_index, refl, sym, ap, ◌∙◌, subst, arith}
use Rattle.std.proofs.lemmas.List.{get_or-set_same, length-set}
use Rattle.p9_base.specs.Words.{word_sum}
use Rattle.p9_base.specs.Core.{text_start, reg, with_reg}
use Rattle.p9_base.specs.SystemCalls.{State}
use Rattle.p9_base.specs.Holding.{HoldsWords}
use Rattle.p9_base.proofs.Holding.{with_register-words}
use Rattle.p9_abs.specs.Steps.{Mach, Around, Next, Turns, Calls, Returns, step, turns}
use Rattle.p9_abs.proofs.Fixed.{other-register}
use Rattle.p9_cmean.specs.Cells as c
use Rattle.p9_cmean.specs.Cells.{Value, Word}
use Rattle.p9_cmean.specs.Plays.{Done}
use Rattle.p9_sim.specs.Memory.{Map}
use Rattle.p9_sim.specs.Playing.{Count, first_count, after_plain, after_branch, after_call, Setting, step_in, Goes, after_return, after_jal, Performs}
use Rattle.p9_sim.specs.Examples.{with_code, at_first, register_code, RegisterOverCall, right_first_code, RightFirst, countdown_code, Countdown}
use Rattle.p9_sim.proofs.Registers.{with_regs, answers-with}
use Rattle.p9_sim.proofs.Going.{IsEvent, one-event, goes-later, returns-same, calls-same, after-next, after-turns, one-step}

-- a state at an instruction, with one register written
written : State → (r v at : ℕ) → Mach
written x r v at = record { state = with_regs x (with_reg x.core.regs r v) text_start; vars = []; at = at }

at_two : State → Mach
at_two w = record { state = w; vars = []; at = 2 }

-- A value in R9 over a call

module _ (around : Around) where
  kept-first : (x : State) → step around register_code (at_first x) ≡ Next (written x 9 7 1)
  unfolding step written
  kept-first x = refl

  kept-call : (x : State) → step around register_code (written x 9 7 1) ≡ Calls (around.symbol 0) (record (written x 9 7 1) { at = 2 })
  unfolding step written
  kept-call x = refl

  kept-move : (w : State) → step around register_code (at_two w) ≡ Next (written w 1 (reg w.core 9) 3)
  unfolding step written at_two
  kept-move w = refl

  kept-return : (w : State) → step around register_code (written w 1 (reg w.core 9) 3) ≡ Returns (written w 1 (reg w.core 9) 3)
  unfolding step written
  kept-return w = refl

-- the result of that code is what the call left in R9
given-back : (set : Setting) (w : State) → HoldsWords w.core → (let u : State = after_return (with_code set register_code) 0 (written w 1 (reg w.core 9) 3) in reg u.core 1 ≡ reg w.core 9)
unfolding written
given-back set w words =
    let count = words.count in
    let regs : List ℕ = with_reg w.core.regs 1 (reg w.core 9) in
    other-register (with_reg regs 31 0) 29 _ 1 (λ h. omega (arith, h)) ∙ (other-register regs 31 0 1 (λ h. omega (arith, h)) ∙ get_or-set_same w.core.regs 1 (reg w.core 9) 0 (omega (arith, count)))

seven-given : (set : Setting) (s : c.State) (m : Map) (d : Count) (w : State) → HoldsWords w.core → reg w.core 9 ≡ 0 → Performs (with_code set register_code) (Done (Word 7) s) m d (at_two w) → ⊥
seven-given set s m d w words none p =
    let here : Setting = with_code set register_code in
    let r = p.0 in
    let to : Mach = written w 1 (reg w.core 9) 3 in
    let same : r.to ≡ to = one-event here r.steps 1 (at_two w) r.to to d r.count (after_plain set.counting d) r.goes (subst IsEvent (sym p.2) tt)
    (one-step here (at_two w) to d (kept-move set.around w)) (subst IsEvent (sym (kept-return set.around w)) tt) in
    let is : p.1 ≡ to = returns-same p.1 to (sym p.2 ∙ (ap (step_in here) same ∙ kept-return set.around w)) in
    let result : 7 ≡ (let u : State = after_return here 0 p.1 in reg u.core 1) = (p.5 0 (omega arith)).leaves.result in
    let gives : 7 ≡ (let u : State = after_return here 0 to in reg u.core 1) = subst (λ z. 7 ≡ (let u : State = after_return here 0 z in reg u.core 1)) is result in
    let zero_is : 7 ≡ 0 = gives ∙ (given-back set w words ∙ none) in
    omega (arith, zero_is)

pub register_over_call : RegisterOverCall
unfolding at_two written
register_over_call set call s m d x p =
    let here : Setting = with_code set register_code in
    let r = p.0 in
    let to : Mach = written x 9 7 1 in
    let same : r.to ≡ to = one-event here r.steps 1 (at_first x) r.to to d r.count (after_plain set.counting d) r.goes (subst IsEvent (sym p.2) tt)
    (one-step here (at_first x) to d (kept-first set.around x)) (subst IsEvent (sym (kept-call set.around x)) tt) in
    let is : p.1 ≡ record to { at = 2 } = (calls-same _ _ p.1 (record to { at = 2 }) (sym p.2 ∙ (ap (step_in here) same ∙ kept-call set.around x))).1 in
    let j : State = after_jal 0 p.1 in
    let at = p.6 0 (omega arith) in
    let words = at.matched.words in
    let count = words.count in
    let first : List ℕ = with_reg j.core.regs 9 0 in
    let regs : List ℕ = with_reg first 1 0 in
    let first_words : HoldsWords (record j.core { regs = first }) = with_register-words j.core 9 0 (omega arith) words in
    let holds : HoldsWords (record j.core { regs = regs }) = with_register-words (record j.core { regs = first }) 1 0 (omega arith) first_words in
    let first_count_is = first_words.count in
    let w : State = with_regs j regs j.core.text_end in
    let ans = answers-with set.placing set.loose set.shut set.shut set.active p.4 s j (length call.arguments) regs j.core.text_end (Word 0) at.matched holds
    (other-register first 1 0 29 (λ h. omega (arith, h)) ∙ other-register j.core.regs 9 0 29 (λ h. omega (arith, h)))
    (other-register first 1 0 30 (λ h. omega (arith, h)) ∙ other-register j.core.regs 9 0 30 (λ h. omega (arith, h)))
    at.matched.free
    (sym (get_or-set_same first 1 0 0 (omega (arith, first_count_is)))) in
    let q = p.7 0 (omega arith) (Word 0) s p.4 w ans in
    seven-given set s p.4 (after_call r.count) w holds
    (other-register first 1 0 9 (λ h. omega (arith, h)) ∙ get_or-set_same j.core.regs 9 0 0 (omega (arith, count)))
    (subst (λ u. Performs here (Done (Word 7) s) p.4 (after_call r.count) (record u { state = w })) is q)

-- The right operand's call first

first-call : (around : Around) (x : State) → step around right_first_code (at_first x) ≡ Calls (around.symbol 1) (record { state = with_regs x x.core.regs text_start; vars = []; at = 1 })
unfolding step
first-call around x = refl

pub right_first : RightFirst
right_first set left s rest m d x apart p =
    let here : Setting = with_code set right_first_code in
    let r = p.0 in
    let same : r.to ≡ at_first x = one-event here r.steps 0 (at_first x) r.to (at_first x) d r.count d r.goes (subst IsEvent (sym p.2) tt) (refl, refl) (subst IsEvent (sym (first-call set.around x)) tt) in
    apart (sym (calls-same _ _ p.1 _ (sym p.2 ∙ (ap (step_in here) same ∙ first-call set.around x))).0)

-- A count down

module _ (around : Around) (x : State) where
  top : ℕ
  top = 2 ^ 32 - 1

  counted : List ℕ
  counted = with_reg (with_reg x.core.regs 8 (2 ^ 32 - 1)) 8 (word_sum (slice_index (with_reg x.core.regs 8 (2 ^ 32 - 1)) 8) (2 ^ 32 - 1))

  set_top : Mach
  set_top = record { state = with_regs x (with_reg x.core.regs 8 (2 ^ 32 - 1)) text_start; vars = []; at = 1 }

  one_less : (at : ℕ) → Mach
  one_less at = record { state = with_regs x counted text_start; vars = []; at = at }

  count-first : step around countdown_code (at_first x) ≡ Next set_top
  unfolding step set_top
  count-first = refl

  count-less : step around countdown_code set_top ≡ Next (one_less 2)
  unfolding step set_top one_less counted
  count-less = refl

  count-branch : step around countdown_code (one_less 2) ≡ turns (not (slice_index counted 8 == slice_index counted 0)) 1 (one_less 2)
  unfolding step one_less counted
  count-branch = refl

  count-back : HoldsWords x.core → step around countdown_code (one_less 2) ≡ Turns true (one_less 1)
  unfolding one_less counted
  count-back words =
      let count = words.count in
      let regs : List ℕ = with_reg x.core.regs 8 (2 ^ 32 - 1) in
      let long : length regs ≡ length x.core.regs = length-set x.core.regs 8 (2 ^ 32 - 1) in
      let a : slice_index regs 8 ≡ 2 ^ 32 - 1 = get_or-set_same x.core.regs 8 (2 ^ 32 - 1) 0 (omega (arith, count)) in
      let b : slice_index counted 8 ≡ word_sum (slice_index regs 8) (2 ^ 32 - 1) = get_or-set_same regs 8 (word_sum (slice_index regs 8) (2 ^ 32 - 1)) 0 (omega (arith, count, long)) in
      let e : slice_index counted 8 ≡ 2 ^ 32 - 2 = b ∙ ap (λ n. word_sum n (2 ^ 32 - 1)) a in
      let z : slice_index counted 0 ≡ 0 = other-register regs 8 _ 0 (λ h. omega (arith, h)) ∙ (other-register x.core.regs 8 (2 ^ 32 - 1) 0 (λ h. omega (arith, h)) ∙ words.zero_register) in
      count-branch ∙ (λ i. turns (not (e i == z i)) 1 (one_less 2))

backs-one : (set : Setting) (x : State) (k : ℕ) (y : Mach) (f : Count)
    → Goes (with_code set countdown_code) k (one_less set.around x 1) (after_branch true 2 1 (after_plain set.counting (after_plain set.counting first_count))) y f
    → f.allowed ≡ 0 → f.backs ≤ f.allowed → ⊥
unfolding one_less
backs-one set x k y f g allowed few =
    let l = (goes-later (with_code set countdown_code) k (one_less set.around x 1) y (after_branch true 2 1 (after_plain set.counting (after_plain set.counting first_count))) f g).0 in
    omega (arith, l, allowed, few)

pub countdown : Countdown
unfolding one_less
countdown set v s m x words p =
    let here : Setting = with_code set countdown_code in
    let r = p.0 in
    let event : IsEvent (step_in here r.to) = subst IsEvent (sym p.2) tt in
    let a = after-next here r.steps (at_first x) r.to (set_top set.around x) first_count r.count (count-first set.around x) r.goes event in
    let b = after-next here a.0 (set_top set.around x) r.to (one_less set.around x 2) (after_plain set.counting first_count) r.count (count-less set.around x) a.1 event in
    let e = after-turns here b.0 (one_less set.around x 2) r.to (one_less set.around x 1) (after_plain set.counting (after_plain set.counting first_count)) r.count true (count-back set.around x words) b.1 event in
    let all = goes-later here r.steps (at_first x) r.to first_count r.count r.goes in
    backs-one set x e.0 r.to r.count e.1 all.1 p.3.backs
