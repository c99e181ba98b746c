-- Runs of the delayed machine over lines: they stay where they ended, and compose.
use Rattle.std.proofs.Common.{ℕ, zero, suc, ◌+◌, ◌≡◌, List, refl, ap, ◌∙◌, add-zero}
use Rattle.std.proofs.Math.Nat.{add-suc}
use Rattle.p9_base.specs.declared.halt.Ending.{Ending}
use Rattle.p9_base.specs.declared.halt.Ending.TheVariants.{Running, Exited, Halted}
use Rattle.p9_base.specs.SystemCalls.{State}
use Rattle.p9_r3k.specs.declared.lines.Line.{Line}
use Rattle.p9_r3k.specs.Laws.{HasEnded}
use Rattle.p9_r3k.specs.Straight.{Addresses}
use Rattle.p9_r3k.specs.Delayed.{delayed_going, delayed_step, delayed_run}

pub delayed_run-zero : (a : Addresses) (lines : List Line) (s : State) → delayed_run a lines 0 s ≡ s
unfolding delayed_run
delayed_run-zero a lines s = refl

pub delayed_run-one : (a : Addresses) (lines : List Line) (s : State) → delayed_run a lines 1 s ≡ delayed_step a lines s
unfolding delayed_run
delayed_run-one a lines s = refl

pub delayed_run-sum :
    (a : Addresses) (lines : List Line) (m n : ℕ) (s : State) →
    delayed_run a lines (m + n) s ≡ delayed_run a lines n (delayed_run a lines m s)
unfolding delayed_run
delayed_run-sum a lines m zero s = rw add-zero refl
delayed_run-sum a lines m (suc n) s = rw add-suc (ap (delayed_step a lines) (delayed_run-sum a lines m n s))

pub delayed_going-ended :
    (a : Addresses) (lines : List Line) (e : Ending) (s : State) → HasEnded e → delayed_going a lines e s ≡ s
delayed_going-ended a lines Running s h = absurd h
delayed_going-ended a lines (Exited at len) s h = refl
delayed_going-ended a lines (Halted cause pc) s h = refl

pub delayed_step-ended : (a : Addresses) (lines : List Line) (s : State) → HasEnded s.core.ending → delayed_step a lines s ≡ s
unfolding delayed_step
delayed_step-ended a lines s h = delayed_going-ended a lines s.core.ending s h

pub delayed_run-ended :
    (a : Addresses) (lines : List Line) (n : ℕ) (s : State) → HasEnded s.core.ending → delayed_run a lines n s ≡ s
unfolding delayed_run
delayed_run-ended a lines zero s h = refl
delayed_run-ended a lines (suc n) s h =
    ap (delayed_step a lines) (delayed_run-ended a lines n s h) ∙ delayed_step-ended a lines s h
