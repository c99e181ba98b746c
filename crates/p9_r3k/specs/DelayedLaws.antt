-- Laws of the delayed machine's runs over lines.
use Rattle.std.specs.Prelude.{ℕ, ◌+◌, ◌≡◌, List}
use Rattle.p9_base.specs.SystemCalls.{State}
use Rattle.p9_r3k.specs.declared.lines.Line.{Line}
use Rattle.p9_r3k.specs.Laws.{HasEnded}
use Rattle.p9_r3k.specs.Straight.{Addresses}
use Rattle.p9_r3k.specs.Delayed.{delayed_run}

abbrev pub DelayedEndedStays : Type 0
DelayedEndedStays =
    (a : Addresses) (lines : List Line) (n : ℕ) (s : State) →
    HasEnded s.core.ending → delayed_run a lines n s ≡ s

abbrev pub DelayedRunsCompose : Type 0
DelayedRunsCompose =
    (a : Addresses) (lines : List Line) (m n : ℕ) (s : State) →
    delayed_run a lines (m + n) s ≡ delayed_run a lines n (delayed_run a lines m s)
