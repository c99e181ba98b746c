-- A line that is no system call writes nothing, reads nothing and ends no run by an exit.
use Rattle.std.proofs.Common.{ℕ, suc, ◌+◌, ◌-◌, ◌≡◌, nat_lt, Bool, true, false, Option, Some, None, List, length, slice_get, slice_set, if◌then◌else◌, refl, sym, ◌∙◌, subst}
use Rattle.p9_base.specs.declared.halt.Effect.{Effect}
use Rattle.p9_base.specs.declared.halt.Effect.TheVariants as effects
use Rattle.p9_base.specs.declared.halt.Ending.{Ending}
use Rattle.p9_base.specs.declared.halt.Ending.TheVariants.{Running, Exited, Halted}
use Rattle.p9_base.specs.Core.{Core, text_start, stack_start, with_half_in, with_word_in, with_byte, with_half, with_word}
use Rattle.p9_base.specs.SystemCalls.{State}
use Rattle.p9_r3k.proofs.Doing.{does_what_it_may}
use Rattle.p9_r3k.proofs.Filling.{filled-uses}
use Rattle.p9_r3k.specs.declared.inst.Inst.{Inst}
use Rattle.p9_r3k.specs.declared.lines.Line.{Line}
use Rattle.p9_r3k.specs.Effects.{effect_of}
use Rattle.p9_r3k.specs.Laws.{HasEnded}
use Rattle.p9_r3k.specs.Straight.{Addresses, Straight, filled, aim, standing, linked_line, line_at, on_to, at_once, straight_line, straight_going, straight_step, straight_run}
use Rattle.p9_r3k.specs.UseLaws.{MayDo}
use Rattle.p9_r3k.specs.Uses.{is_system_call}
use Rattle.p9_slot.specs.Schedule.{line_is, is_at}
use Rattle.p9_refine.specs.Refining.{HasExited}

-- what a quiet line leaves
pub record IsQuiet (s t : State) : Type 0 where
  pub out : t.out ≡ s.out
  pub left : t.left ≡ s.left
  pub no_exit : HasExited t.core.ending → HasExited s.core.ending

quiet_on : (target : Option ℕ) (i : ℕ) (s : State) → IsQuiet s (on_to target i s).state
quiet_on None i s = record { out = refl; left = refl; no_exit = λ e. absurd e }
quiet_on (Some j) i s = record { out = refl; left = refl; no_exit = λ e. e }

-- a branch that is taken or not
quiet_branch : (a : Addresses) (taken : Bool) (target : Option ℕ) (r i : ℕ) (s : State) → IsQuiet s (on_to (if taken then target else Some (i + 1)) i (linked_line a r i s)).state
quiet_branch a true target r i s = let q = quiet_on target i (linked_line a r i s) in record { out = q.out; left = q.left; no_exit = q.no_exit }
quiet_branch a false target r i s = let q = quiet_on (Some (i + 1)) i (linked_line a r i s) in record { out = q.out; left = q.left; no_exit = q.no_exit }

-- a store ends no run

by_side : (b : Bool) (c d : Core) (e : Ending) → c.ending ≡ e → d.ending ≡ e → (if b then c else d).ending ≡ e
by_side true c d e p q = p
by_side false c d e p q = q

with_byte_ending : (c : Core) (p v : ℕ) → (with_byte c p v).ending ≡ c.ending
with_byte_ending c p v = by_side (nat_lt p stack_start) (record c { low = slice_set c.low (p - text_start) v }) (record c { stack = slice_set c.stack (p - stack_start) v }) c.ending refl refl

with_half_ending : (c : Core) (p v : ℕ) → (with_half c p v).ending ≡ c.ending
with_half_ending c p v = by_side (nat_lt p stack_start) (record c { low = with_half_in c.order c.low (p - text_start) v }) (record c { stack = with_half_in c.order c.stack (p - stack_start) v }) c.ending refl refl

with_word_ending : (c : Core) (p v : ℕ) → (with_word c p v).ending ≡ c.ending
with_word_ending c p v = by_side (nat_lt p stack_start) (record c { low = with_word_in c.order c.low (p - text_start) v }) (record c { stack = with_word_in c.order c.stack (p - stack_start) v }) c.ending refl refl

true_false : (b : Bool) → b ≡ true → b ≡ false → ⊥
true_false true e f = cc
true_false false e f = cc

quiet_effect : (a : Addresses) (n : ℕ) (target : Option ℕ) (e : Effect) (inst : Inst) (i : ℕ) (s : State) → MayDo inst e → is_system_call inst ≡ false → IsQuiet s (at_once a n target e i s).state
quiet_effect a n target (effects.Write r v) inst i s may calm = record { out = refl; left = refl; no_exit = λ e. e }
quiet_effect a n target (effects.Pair h l) inst i s may calm = record { out = refl; left = refl; no_exit = λ e. e }
quiet_effect a n target (effects.Load r v) inst i s may calm = record { out = refl; left = refl; no_exit = λ e. e }
quiet_effect a n target (effects.StoreByte p v) inst i s may calm = record { out = refl; left = refl; no_exit = λ h. subst (λ (x : Ending). HasExited x) (with_byte_ending s.core p v) h }
quiet_effect a n target (effects.StoreHalf p v) inst i s may calm = record { out = refl; left = refl; no_exit = λ h. subst (λ (x : Ending). HasExited x) (with_half_ending s.core p v) h }
quiet_effect a n target (effects.StoreWord p v) inst i s may calm = record { out = refl; left = refl; no_exit = λ h. subst (λ (x : Ending). HasExited x) (with_word_ending s.core p v) h }
quiet_effect a n target (effects.Branch r taken to) inst i s may calm = quiet_branch a taken target r i s
quiet_effect a n target (effects.JumpTo r to) inst i s may calm = let q = quiet_on (line_at a.line to 0 n) i (linked_line a r i s) in record { out = q.out; left = q.left; no_exit = q.no_exit }
quiet_effect a n target effects.Call inst i s may calm = absurd (true_false (is_system_call inst) may.0 calm)
quiet_effect a n target (effects.Stop cause) inst i s may calm = record { out = refl; left = refl; no_exit = λ e. absurd e }

quiet_line : (a : Addresses) (n : ℕ) (o : Option Line) (i : ℕ) (s : State) → line_is is_system_call o ≡ false → IsQuiet s (straight_line a n o i s).state
quiet_line a n None i s calm = record { out = refl; left = refl; no_exit = λ e. absurd e }
quiet_line a n (Some line) i s calm =
    quiet_effect a n (aim a n line s.core) (effect_of (filled a line) s.core) (filled a line) i s (does_what_it_may (filled a line) s.core) ((filled-uses a line).system_call ∙ calm)

pub straight_suc : (a : Addresses) (lines : List Line) (n : ℕ) (x : Straight) → straight_run a lines (suc n) x ≡ straight_step a lines (straight_run a lines n x)
unfolding straight_run
straight_suc a lines n x = refl

-- before a line that is no system call
pub quiet_step : (a : Addresses) (lines : List Line) (y : Straight) → y.state.core.ending ≡ Running → is_at is_system_call lines y.at ≡ false → IsQuiet y.state (straight_step a lines y).state
unfolding straight_step
quiet_step a lines y running calm =
    subst (λ (e : Ending). IsQuiet y.state (straight_going a lines e y).state) (sym running)
    (let q = quiet_line a (length lines) (slice_get lines y.at) y.at (standing a y) calm in record { out = q.out; left = q.left; no_exit = q.no_exit })

-- behind the end
pub ended_step : (a : Addresses) (lines : List Line) (y : Straight) → HasEnded y.state.core.ending → straight_step a lines y ≡ y
unfolding straight_step
ended_step a lines y h = by y.state.core.ending h
  where
    by : (e : Ending) → HasEnded e → straight_going a lines e y ≡ y
    by Running h = absurd h
    by (Exited at len) h = refl
    by (Halted cause pc) h = refl
