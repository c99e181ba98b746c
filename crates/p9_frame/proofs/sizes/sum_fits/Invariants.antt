use Rattle.std.proofs.Common.{◌≡◌, ◌<◌, ◌^◌, drop}
use Rattle.p9_frame.specs.Sizes.{end_from}
use Rattle.p9_frame.proofs.sizes.sum_fits.Given as goal

abbrev pub invariant-loop-size : goal.invariant-loop-size
invariant-loop-size l = record {
  end : end_from l.total (drop l.size-index l.sizes) ≡ end_from l.first l.sizes;
  bound : l.total < 2 ^ 33;
}
