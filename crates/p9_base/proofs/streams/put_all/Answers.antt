use Rattle.std.proofs.Common.{None, Some, refl, ◌∙◌, arith}
use Rattle.p9_base.specs.Calls.{Out}
use Rattle.p9_base.specs.Outside.{PutPiece}
use Rattle.p9_base.proofs.Bringing.{writing_more, writes_all, writes_part}
use Rattle.p9_base.proofs.CallLists.{puts_more}
use Rattle.p9_base.proofs.Pieces.{put_more, within_piece}
use Rattle.p9_base.proofs.streams.put_all.Goals as goal

pub loop-done-preserved : goal.loop-done-preserved
loop-done-preserved g c = record {
  within = within_piece c.loop-done.done c.in-Wrote.count (g.O.Sink.sofar c.loop-done.out) (g.O.Sink.sofar c.put.new.self) c.args.piece.now c.loop-done.invariant.within c.in-Wrote.ensures.put;
  put = put_more c.loop-done.done c.in-Wrote.count (g.O.Sink.sofar c.args.out.now) (g.O.Sink.sofar c.loop-done.out) (g.O.Sink.sofar c.put.new.self) c.args.piece.now c.loop-done.invariant.within c.loop-done.invariant.put c.in-Wrote.ensures.put;
  unfailed = c.in-Wrote.ensures.cause ∙ c.loop-done.invariant.unfailed;
  calls = puts_more g.O.Sink.did c.args.out.now c.loop-done.out c.put.new.self (PutPiece _ _) None c.loop-done.invariant.calls c.in-Wrote.ensures.did refl;
  writing = writing_more g.O.Sink.did c.args.out.now c.loop-done.out c.put.new.self c.loop-done.done c.in-Wrote.count c.args.piece.now c.loop-done.invariant.within c.in-Wrote.ensures.did c.loop-done.invariant.writing;
}

pub returns-in-Failed-clause-calls : goal.returns-in-Failed-clause-calls
returns-in-Failed-clause-calls g c =
    puts_more g.O.Sink.did c.args.out.now c.loop-done.out c.put.new.self (PutPiece _ _) (Some Out) c.loop-done.invariant.calls c.in-Failed.ensures.did refl

pub returns-in-Failed-clause-writes : goal.returns-in-Failed-clause-writes
returns-in-Failed-clause-writes g c =
    writes_part g.O.Sink.did c.args.out.now c.loop-done.out c.put.new.self c.loop-done.done c.args.piece.now c.loop-done-test.true c.in-Failed.ensures.did c.loop-done.invariant.writing

pub returns-clause-writes : goal.returns-clause-writes
returns-clause-writes g c =
    writes_all g.O.Sink.did c.args.out.now c.loop-done.out c.loop-done.done c.args.piece.now (omega (arith, c.loop-done-test.false)) c.loop-done.invariant.writing
