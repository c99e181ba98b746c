use Rattle.std.proofs.Common.{◌∙◌, None, Some, refl}
use Rattle.p9_base.specs.Calls.{Input, Out}
use Rattle.p9_base.proofs.CallLists.{ran_takes, ran_puts}
use Rattle.p9_vi.proofs.Requests.{read_told, read_failed, write_told, write_failed, exits_told, refused_told, stop_told}
use Rattle.p9_vi.proofs.Tying.{ties_exits, ties_read, ties_read_failed, ties_write, ties_write_failed, ties_refused, ties_stopped}
use Rattle.p9_vi.proofs.machine.Machine.call.Goals as goal

pub returns-in-Exits-clause-changes : goal.returns-in-Exits-clause-changes
returns-in-Exits-clause-changes g c =
    exits_told (g.I.Source.left c.args.input.now) (g.O.Sink.sofar c.args.out.now) c.args.request c.args.self.now _ _ c.in-Exits.at c.in-Exits.length c.in-Exits.is (c.self.view_is ∙ c.advance.ensures) refl

pub returns-then-read-clause-changes : goal.returns-then-read-clause-changes
returns-then-read-clause-changes g c =
    read_told (g.I.Source.left c.args.input.now) (g.I.Source.left c.read.new.input) (g.O.Sink.sofar c.args.out.now) c.args.request c.args.self.now c.read.new.self c.in-Read.at c.in-Read.count c.in-Read.is c.if-read.ensures.reads

pub returns-else-read-clause-changes : goal.returns-else-read-clause-changes
returns-else-read-clause-changes g c =
    read_failed (g.I.Source.left c.args.input.now) (g.I.Source.left c.read.new.input) (g.O.Sink.sofar c.args.out.now) c.args.request c.args.self.now c.read.new.self c.in-Read.at c.in-Read.count c.in-Read.is c.if-read.ensures.reads

pub returns-then-read-clause-calls : goal.returns-then-read-clause-calls
returns-then-read-clause-calls g c =
    ran_takes g.I.Source.did g.O.Sink.did c.args.input.now c.read.new.input c.args.out.now None c.if-read.ensures.calls

pub returns-else-read-clause-calls : goal.returns-else-read-clause-calls
returns-else-read-clause-calls g c =
    ran_takes g.I.Source.did g.O.Sink.did c.args.input.now c.read.new.input c.args.out.now (Some Input) c.if-read.ensures.calls

pub returns-then-write-clause-changes : goal.returns-then-write-clause-changes
returns-then-write-clause-changes g c =
    write_told (g.I.Source.left c.args.input.now) (g.O.Sink.sofar c.args.out.now) (g.O.Sink.sofar c.write.new.out) c.args.request c.args.self.now c.write.new.self c.in-Write.at c.in-Write.count c.in-Write.is c.if-write.ensures.puts c.if-write.ensures.after

pub returns-else-write-clause-changes : goal.returns-else-write-clause-changes
returns-else-write-clause-changes g c =
    write_failed (g.I.Source.left c.args.input.now) (g.O.Sink.sofar c.args.out.now) (g.O.Sink.sofar c.write.new.out) c.args.request c.args.self.now c.write.new.self c.in-Write.at c.in-Write.count c.in-Write.is c.if-write.ensures.puts c.if-write.ensures.after

pub returns-then-write-clause-calls : goal.returns-then-write-clause-calls
returns-then-write-clause-calls g c =
    ran_puts g.I.Source.did g.O.Sink.did c.args.input.now c.args.out.now c.write.new.out None c.if-write.ensures.calls

pub returns-else-write-clause-calls : goal.returns-else-write-clause-calls
returns-else-write-clause-calls g c =
    ran_puts g.I.Source.did g.O.Sink.did c.args.input.now c.args.out.now c.write.new.out (Some Out) c.if-write.ensures.calls

pub returns-in-Refused-clause-changes : goal.returns-in-Refused-clause-changes
returns-in-Refused-clause-changes g c =
    refused_told (g.I.Source.left c.args.input.now) (g.O.Sink.sofar c.args.out.now) c.args.request c.args.self.now c.answer.new.self c.in-Refused.is c.answer.ensures

pub returns-in-Stop-clause-changes : goal.returns-in-Stop-clause-changes
returns-in-Stop-clause-changes g c =
    stop_told (g.I.Source.left c.args.input.now) (g.O.Sink.sofar c.args.out.now) c.args.request c.args.self.now c.halt.new.self c.in-Stop.cause c.in-Stop.is c.halt.ensures

pub returns-in-Exits-clause-tied : goal.returns-in-Exits-clause-tied
returns-in-Exits-clause-tied g c =
    ties_exits g.I.Source.did g.O.Sink.did c.args.input.now c.args.out.now c.args.request c.args.self.now _ _ c.in-Exits.at c.in-Exits.length c.in-Exits.is (c.self.view_is ∙ c.advance.ensures) refl

pub returns-then-read-clause-tied : goal.returns-then-read-clause-tied
returns-then-read-clause-tied g c =
    ties_read g.I.Source.did g.O.Sink.did c.args.input.now c.read.new.input c.args.out.now c.args.request c.args.self.now c.read.new.self c.in-Read.at c.in-Read.count c.in-Read.is c.if-read.ensures.brings

pub returns-else-read-clause-tied : goal.returns-else-read-clause-tied
returns-else-read-clause-tied g c =
    ties_read_failed g.I.Source.did g.O.Sink.did c.args.input.now c.read.new.input c.args.out.now c.args.request c.args.self.now c.read.new.self c.in-Read.at c.in-Read.count c.in-Read.is c.if-read.ensures.brings

pub returns-then-write-clause-tied : goal.returns-then-write-clause-tied
returns-then-write-clause-tied g c =
    ties_write g.I.Source.did g.O.Sink.did c.args.input.now c.args.out.now c.write.new.out c.args.request c.args.self.now c.write.new.self c.in-Write.at c.in-Write.count c.in-Write.is c.if-write.ensures.after c.if-write.ensures.writes

pub returns-else-write-clause-tied : goal.returns-else-write-clause-tied
returns-else-write-clause-tied g c =
    ties_write_failed g.I.Source.did g.O.Sink.did c.args.input.now c.args.out.now c.write.new.out c.args.request c.args.self.now c.write.new.self c.in-Write.at c.in-Write.count c.in-Write.is c.if-write.ensures.after c.if-write.ensures.writes

pub returns-in-Refused-clause-tied : goal.returns-in-Refused-clause-tied
returns-in-Refused-clause-tied g c =
    ties_refused g.I.Source.did g.O.Sink.did c.args.input.now c.args.out.now c.args.request c.args.self.now c.answer.new.self c.in-Refused.is c.answer.ensures

pub returns-in-Stop-clause-tied : goal.returns-in-Stop-clause-tied
returns-in-Stop-clause-tied g c =
    ties_stopped g.I.Source.did g.O.Sink.did c.args.input.now c.args.out.now c.args.request c.args.self.now c.halt.new.self c.in-Stop.cause c.in-Stop.is c.halt.ensures
