use Rattle.std.proofs.Common.{◌≡◌, ◌++◌, drop}
use Rattle.p9_frame.specs.Sizes.{offsets_from, end_from}
use Rattle.p9_frame.proofs.sizes.offsets_of.Given as goal

abbrev pub invariant-loop-size : goal.invariant-loop-size
invariant-loop-size l = record {
  list : l.list.items ++ offsets_from l.at (drop l.size-index l.sizes) ≡ offsets_from l.first l.sizes;
  end : end_from l.at (drop l.size-index l.sizes) ≡ end_from l.first l.sizes;
}
