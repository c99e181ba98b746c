-- The runs are computed.
use Rattle.std.proofs.Common.{refl}
use Rattle.p9_first.specs.CRun.{source_run}
use Rattle.p9_first.specs.Examples.{RunsOfForm}

pub runs_of_form : RunsOfForm
unfolding source_run
runs_of_form = record {
  exits_with_no_text = refl;
  returns_with_main = refl;
  three = refl;
  wraps_to_three = refl;
  past_the_text = refl;
  no_turn = refl;
  one_turn = refl;
  two_turns = refl;
}
