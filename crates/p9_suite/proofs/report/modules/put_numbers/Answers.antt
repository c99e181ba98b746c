use Rattle.std.proofs.Common.{◌++◌, codes, decimal}
use Rattle.p9_suite.specs.Answers.{newline}
use Rattle.p9_suite.proofs.Puts.{then_put, first_cut}
use Rattle.p9_suite.proofs.report.modules.put_numbers.Goals as goal

pub returns-then-put_number : goal.returns-then-put_number
returns-then-put_number g c =
    then_put (codes " " ++ decimal c.args.i) (codes " " ++ (decimal c.args.j ++ newline))
    (g.S.Sink.sofar c.args.sink.now) (g.S.Sink.sofar c.put_number.new.sink) (g.S.Sink.sofar c.put_number_line.new.sink)
    (g.S.Sink.faults c.args.sink.now) (g.S.Sink.faults c.put_number.new.sink) (g.S.Sink.faults c.put_number_line.new.sink)
    c.put_number_line.result c.if-put_number.ensures c.put_number_line.ensures

pub returns-else-put_number : goal.returns-else-put_number
returns-else-put_number g c =
    first_cut (codes " " ++ decimal c.args.i) (codes " " ++ (decimal c.args.j ++ newline))
    (g.S.Sink.sofar c.args.sink.now) (g.S.Sink.sofar c.put_number.new.sink)
    (g.S.Sink.faults c.args.sink.now) (g.S.Sink.faults c.put_number.new.sink)
    c.if-put_number.ensures
