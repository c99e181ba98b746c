use Rattle.std.proofs.Common.{◌++◌, codes}
use Rattle.p9_suite.specs.Answers.{address, cause_text, newline}
use Rattle.p9_suite.proofs.Puts.{then_put, first_cut}
use Rattle.p9_suite.proofs.halt.put_halt.Goals as goal

pub returns-then-put_all : goal.returns-then-put_all
returns-then-put_all g c =
    then_put (codes "halt ") (cause_text c.args.cause ++ (codes " " ++ (address c.args.pc ++ newline)))
    (g.S.Sink.sofar c.args.sink.now) (g.S.Sink.sofar c.put_all.new.sink) (g.S.Sink.sofar c.put_place.new.sink)
    (g.S.Sink.faults c.args.sink.now) (g.S.Sink.faults c.put_all.new.sink) (g.S.Sink.faults c.put_place.new.sink)
    c.put_place.result c.if-put_all.ensures c.put_place.ensures

pub returns-else-put_all : goal.returns-else-put_all
returns-else-put_all g c =
    first_cut (codes "halt ") (cause_text c.args.cause ++ (codes " " ++ (address c.args.pc ++ newline)))
    (g.S.Sink.sofar c.args.sink.now) (g.S.Sink.sofar c.put_all.new.sink)
    (g.S.Sink.faults c.args.sink.now) (g.S.Sink.faults c.put_all.new.sink)
    c.if-put_all.ensures
