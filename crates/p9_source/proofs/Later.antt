-- A run that has ended is seen the same with more turns.
use Rattle.std.proofs.Common.{◌≡◌, ◌≤◌, ℕ, List, refl, sym, ap, ◌∙◌}
use Rattle.p9_lang.specs.declared.module.Module.{Module}
use Rattle.p9_cmean.specs.Turns.{Outcome}
use Rattle.p9_cmean.specs.Turns as outcome
use Rattle.p9_cmean.specs.PlayLaws.{GoesOn}
use Rattle.p9_cmean.specs.CRun.{crun}
use Rattle.p9_cmean.proofs.Runs.{runs_go_on}
use Rattle.p9_headline.specs.Headline.{Seen, Ended}
use Rattle.p9_source.specs.Seen.{seen_of, source_of, EndedIsSeen}

stays : (run later : Outcome) (output text left : List ℕ) → GoesOn run later → seen_of run ≡ Ended output text left → seen_of later ≡ Ended output text left
stays (outcome.Ended t s) later output text left g e = ap (λ (o : Outcome). seen_of o) g ∙ e
stays (outcome.Out waits s) later output text left g e = absurd cc
stays (outcome.Undefined why place s) later output text left g e = absurd cc
stays (outcome.Deep place s) later output text left g e = absurd cc
stays (outcome.NoOutcome place s) later output text left g e = absurd cc

pub ended_is_seen : EndedIsSeen
ended_is_seen modules input m n output text left h e =
    stays (crun modules input m) (crun modules input n) output text left (runs_go_on modules input m n h) e
