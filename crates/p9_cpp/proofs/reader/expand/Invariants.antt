use Rattle.std.proofs.Common.{◌≡◌, false, []}
use Rattle.p9_cpp.specs.Expansion.{expansion, limited}
use Rattle.p9_cpp.specs.Reading.{read, steps_of, IsSound}
use Rattle.p9_cpp.proofs.reader.expand.Given as goal

abbrev pub invariant-loop-reader : goal.invariant-loop-reader
invariant-loop-reader l = record {
  answer : limited l.reader.room (read l.table.entries l.reader.stack l.reader.left l.reader.out) ≡ limited l.fn.room (expansion l.table.entries [] false l.fn.text);
  sound : IsSound l.table.entries l.reader.stack l.reader.hidden;
}

abbrev pub decreases-loop-reader : goal.decreases-loop-reader
decreases-loop-reader l = steps_of (read l.table.entries l.reader.stack l.reader.left l.reader.out)
