use Rattle.std.proofs.Common.{◌≡◌, length}
use Rattle.p9_cpp.specs.Units.{items_run, including, source_run}
use Rattle.p9_cpp.specs.Calls.{state_of, IsReady, Makes}
use Rattle.p9_cpp.proofs.walk.+go_through.Given as goal

abbrev pub decreases-go_through : goal.decreases-go_through
decreases-go_through g l = l.depth

abbrev pub invariant-loop-next : goal.invariant-loop-next
invariant-loop-next g l = record {
  makes : Makes g.F.Files.did l.fn.files l.files (source_run l.depth l.source (state_of l.fn.unit)) (items_run (including l.depth) l.source l.last l.left l.groups (state_of l.unit));
  ready : IsReady l.unit;
  counts : g.F.Files.faults l.files ≡ g.F.Files.faults l.fn.files;
}

abbrev pub decreases-loop-next : goal.decreases-loop-next
decreases-loop-next g l = length l.left
