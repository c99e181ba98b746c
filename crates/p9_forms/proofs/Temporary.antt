-- Lines of the straight machine over a state whose register 28 holds anything.
use Rattle.std.proofs.Common.{ℕ, ◌+◌, ◌-◌, ◌*◌, ◌/◌, ◌%◌, ◌^◌, ◌==◌, ◌≡◌, ◌≢◌, ◌≤◌, ◌<◌, nat_lt, Bool, true, false, Some, refl, ap, ◌∙◌, arith, if◌then◌else◌, List, length}
use Rattle.std.specs.Prelude.{bit_or, slice_index, slice_set, slice_get}
use Rattle.std.proofs.lemmas.List.{get_or-set_same, get_or-set_other, set-set, set_comm}
use Rattle.std.proofs.lemmas.Nat.{or_shifted}
use Rattle.std.proofs.lemmas.Bool.Decides.{nat_tests}
use Rattle.p9_base.specs.Words.{word_sum}
use Rattle.p9_base.specs.Numbers.{sign_extended}
use Rattle.p9_base.specs.declared.halt.Ending.TheVariants.{Running}
use Rattle.p9_base.specs.declared.halt.Effect.{Effect}
use Rattle.p9_base.specs.declared.halt.Effect.TheVariants as effects
use Rattle.p9_base.specs.Core.{Core, text_start, reg, with_reg}
use Rattle.p9_base.specs.SystemCalls.{State}
use Rattle.p9_r3k.specs.declared.lines.Line.{Line}
use Rattle.p9_r3k.specs.Effects.{effect_of}
use Rattle.p9_r3k.specs.Straight.{Addresses, Straight, filled, aim, standing, at_once, straight_line, straight_going, straight_step, straight_run}
use Rattle.p9_r3k.proofs.Runs.{straight_run-sum}
use Rattle.p9_lines.specs.FormLines.{is_near, high_of, low_of}
use Rattle.p9_forms.specs.Standing.{Rest, rested, dressed, stands, Arrives}

abbrev pub rest_at : Addresses → ℕ → Rest → Rest
rest_at a n k = record k { pc = a.line n; text_end = text_start }

-- the state that an instruction of line n sees
abbrev pub seen_state : Addresses → ℕ → ℕ → Rest → State → State
seen_state a n t k s = dressed t (rest_at a n k) s

abbrev pub seen : Addresses → ℕ → ℕ → Rest → State → Core
seen a n t k s = (seen_state a n t k s).core

abbrev pub with_r : ℕ → ℕ → State → State
with_r r v s = record s { core = record s.core { regs = with_reg s.core.regs r v } }

-- Registers

pub written-other : (regs : List ℕ) (r v t : ℕ) → (r == 28) ≡ false →
    with_reg (slice_set regs 28 t) r v ≡ slice_set (with_reg regs r v) 28 t
written-other regs r v t h = go (r == 0)
  where
    go : (b : Bool) → (if b then slice_set regs 28 t else slice_set (slice_set regs 28 t) r v) ≡ slice_set (if b then regs else slice_set regs r v) 28 t
    go true = refl
    go false = set_comm regs 28 r t v (let apart : 28 ≢ r = grind (arith, nat_tests) in apart)

pub written-same : (regs : List ℕ) (v t : ℕ) → with_reg (slice_set regs 28 t) 28 v ≡ slice_set regs 28 v
written-same regs v t = set-set regs 28 t v

pub read-other : (regs : List ℕ) (r t : ℕ) → (r == 28) ≡ false → slice_index (slice_set regs 28 t) r ≡ slice_index regs r
read-other regs r t h = get_or-set_other regs 28 r t 0 (let apart : r ≢ 28 = grind (arith, nat_tests) in apart)

pub read-same : (regs : List ℕ) (t : ℕ) → length regs ≡ 32 → slice_index (slice_set regs 28 t) 28 ≡ t
read-same regs t h = get_or-set_same regs 28 t 0 (omega (arith, h))

pub seen-other : (a : Addresses) (n t : ℕ) (k : Rest) (s : State) (r : ℕ) → (r == 28) ≡ false → reg (seen a n t k s) r ≡ reg s.core r
seen-other a n t k s r h = read-other s.core.regs r t h

pub seen-temporary : (a : Addresses) (n t : ℕ) (k : Rest) (s : State) → length s.core.regs ≡ 32 → reg (seen a n t k s) 28 ≡ t
seen-temporary a n t k s u = read-same s.core.regs t u

-- Lines

pub straight-line : (a : Addresses) (lines : List Line) (n t : ℕ) (k : Rest) (s : State) (line : Line) → s.core.ending ≡ Running → slice_get lines n ≡ Some line →
    straight_step a lines (stands t k s n) ≡ at_once a (length lines) (aim a (length lines) line (seen a n t k s)) (effect_of (filled a line) (seen a n t k s)) n (seen_state a n t k s)
unfolding straight_step
straight-line a lines n t k s line running found =
    let x : Straight = stands t k s n in
    ap (λ e. straight_going a lines e x) running ∙ ap (λ o. straight_line a (length lines) o n (standing a x)) found

-- an effect of a line with another that is equal
pub line-by : (a : Addresses) (lines : List Line) (n t : ℕ) (k : Rest) (s : State) (line : Line) (e : Effect) → s.core.ending ≡ Running → slice_get lines n ≡ Some line →
    effect_of (filled a line) (seen a n t k s) ≡ e →
    straight_step a lines (stands t k s n) ≡ at_once a (length lines) (aim a (length lines) line (seen a n t k s)) e n (seen_state a n t k s)
line-by a lines n t k s line e running found h =
    straight-line a lines n t k s line running found
    ∙ ap (λ x. at_once a (length lines) (aim a (length lines) line (seen a n t k s)) x n (seen_state a n t k s)) h

abbrev pub with_regs : Addresses → ℕ → Rest → State → ℕ → List ℕ → Straight
with_regs a n k s at l = (let y : Straight = record { state = record s { core = rested (rest_at a n k) (record s.core { regs = l }) }; at = at } in y)

-- a line that writes register 28
pub line-temporary : (a : Addresses) (lines : List Line) (n t : ℕ) (k : Rest) (s : State) (line : Line) (v : ℕ) →
    s.core.ending ≡ Running → slice_get lines n ≡ Some line → effect_of (filled a line) (seen a n t k s) ≡ effects.Write 28 v →
    straight_step a lines (stands t k s n) ≡ stands v (rest_at a n k) s (n + 1)
line-temporary a lines n t k s line v running found e =
    line-by a lines n t k s line (effects.Write 28 v) running found e
    ∙ ap (λ l. with_regs a n k s (n + 1) l) (written-same s.core.regs v t)

pub register-written : (a : Addresses) (n t : ℕ) (k : Rest) (s : State) (r v at : ℕ) → (r == 28) ≡ false →
    with_regs a n k s at (with_reg (slice_set s.core.regs 28 t) r v) ≡ stands t (rest_at a n k) (with_r r v s) at
register-written a n t k s r v at free = ap (λ l. with_regs a n k s at l) (written-other s.core.regs r v t free)

-- memory is written in one of two places
pub memory-written : (t : ℕ) (k : Rest) (s : State) (b : Bool) (low stack : List ℕ) (at : ℕ) →
    (let c : State = record (dressed t k s) { core = (if b then record (dressed t k s).core { low = low } else record (dressed t k s).core { stack = stack }) } in
    let d : State = record s { core = (if b then record s.core { low = low } else record s.core { stack = stack }) } in
    let x : Straight = record { state = c; at = at } in
    x ≡ stands t k d at)
memory-written t k s true low stack at = refl
memory-written t k s false low stack at = refl

-- Runs

pub run-none : (a : Addresses) (lines : List Line) (x : Straight) → straight_run a lines 0 x ≡ x
unfolding straight_run
run-none a lines x = refl

pub run-one : (a : Addresses) (lines : List Line) (x : Straight) → straight_run a lines 1 x ≡ straight_step a lines x
unfolding straight_run
run-one a lines x = refl

pub run-then : (a : Addresses) (lines : List Line) (m n : ℕ) (x y z : Straight) →
    straight_run a lines m x ≡ y → straight_run a lines n y ≡ z → straight_run a lines (m + n) x ≡ z
run-then a lines m n x y z e d = straight_run-sum a lines m n x ∙ (ap (straight_run a lines n) e ∙ d)

-- one more line, the last
pub arrives : (a : Addresses) (lines : List Line) (c : ℕ) (from : Straight) (x : Straight) (t : ℕ) (k : Rest) (s : State) (at : ℕ) →
    straight_run a lines c from ≡ x → c ≤ 6 → straight_step a lines x ≡ stands t k s at → Arrives a lines from s at
arrives a lines c from x t k s at run few step = record {
  count = c + 1;
  temporary = t;
  rest = k;
  some = omega arith;
  few = omega arith;
  run = run-then a lines c 1 from x (stands t k s at) run (run-one a lines x ∙ step);
}

-- Words by halves

pub halves : (v : ℕ) → bit_or (v / 65536 * 2 ^ 16) (v % 65536) ≡ v
halves v =
    let e : bit_or (v / 65536 * 2 ^ 16) (v % 65536) ≡ v / 65536 * 2 ^ 16 + v % 65536 = or_shifted (v / 65536) 16 (v % 65536) (omega arith) in
    omega (arith, e)

pub near-extended : (o : ℕ) → o < 2 ^ 32 → is_near o ≡ true → sign_extended 16 (low_of o) ≡ o
near-extended o small h =
    let near : (o + 2 ^ 15) % 2 ^ 32 < 2 ^ 16 = grind (arith, nat_tests) in
    by (nat_lt (low_of o % 2 ^ 16) (2 ^ 15)) refl near
  where
    by : (x : Bool) → nat_lt (low_of o % 2 ^ 16) (2 ^ 15) ≡ x → (o + 2 ^ 15) % 2 ^ 32 < 2 ^ 16 →
        (if x then low_of o % 2 ^ 16 else low_of o % 2 ^ 16 + (2 ^ 32 - 2 ^ 16)) ≡ o
    by true e near = (let l : low_of o % 2 ^ 16 < 2 ^ 15 = grind (arith, nat_tests) in omega (arith, l, near, small))
    by false e near = (let l : 2 ^ 15 ≤ low_of o % 2 ^ 16 = grind (arith, nat_tests) in omega (arith, l, near, small))

pub far-extended : (o b : ℕ) → o < 2 ^ 32 → word_sum (word_sum b (high_of o * 2 ^ 16)) (sign_extended 16 (low_of o)) ≡ word_sum b o
far-extended o b small = by_sign (nat_lt (low_of o % 2 ^ 16) (2 ^ 15)) refl
  where
    by_sign : (x : Bool) → nat_lt (low_of o % 2 ^ 16) (2 ^ 15) ≡ x →
        word_sum (word_sum b (high_of o * 2 ^ 16)) (if x then low_of o % 2 ^ 16 else low_of o % 2 ^ 16 + (2 ^ 32 - 2 ^ 16)) ≡ word_sum b o
    by_sign true e = (let l : low_of o % 2 ^ 16 < 2 ^ 15 = grind (arith, nat_tests) in omega (arith, l))
    by_sign false e = (let l : 2 ^ 15 ≤ low_of o % 2 ^ 16 = grind (arith, nat_tests) in omega (arith, l))
