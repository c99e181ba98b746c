use Rattle.std.proofs.Common.{None, Some, refl, ◌∙◌, arith}
use Rattle.p9_base.specs.Calls.{Input}
use Rattle.p9_base.specs.Outside.{Take}
use Rattle.p9_base.proofs.Bringing.{filling_more, brings_full, brings_ended, brings_failed}
use Rattle.p9_base.proofs.CallLists.{takes_more}
use Rattle.p9_base.proofs.Pieces.{took_more, within_on}
use Rattle.p9_base.proofs.streams.fill.Goals as goal

pub loop-done-preserved : goal.loop-done-preserved
loop-done-preserved g c = record {
  within = within_on c.loop-done.done c.in-Got.count (g.I.Source.left c.loop-done.input) (g.I.Source.left c.take.new.self) c.loop-done.room c.take.new.room c.loop-done.invariant.within c.take.auto.room c.in-Got.ensures.taken;
  taken = took_more c.loop-done.done c.in-Got.count (g.I.Source.left c.args.input.now) (g.I.Source.left c.loop-done.input) (g.I.Source.left c.take.new.self) c.args.room.now c.loop-done.room c.take.new.room c.loop-done.invariant.within c.loop-done.invariant.taken c.in-Got.ensures.taken;
  unfailed = c.in-Got.ensures.cause ∙ c.loop-done.invariant.unfailed;
  calls = takes_more g.I.Source.did c.args.input.now c.loop-done.input c.take.new.self (Take _ _ _) None c.loop-done.invariant.calls c.in-Got.ensures.did refl;
  filling = filling_more g.I.Source.did c.args.input.now c.loop-done.input c.take.new.self c.loop-done.done c.in-Got.count c.args.room.now c.loop-done.room c.take.new.room c.loop-done.invariant.within c.take.auto.room c.in-Got.ensures.taken.1 c.in-Got.ensures.did c.loop-done.invariant.filling;
}

pub returns-in-End-clause-calls : goal.returns-in-End-clause-calls
returns-in-End-clause-calls g c =
    takes_more g.I.Source.did c.args.input.now c.loop-done.input c.take.new.self (Take _ _ _) None c.loop-done.invariant.calls c.in-End.ensures.did refl

pub returns-in-Failed-clause-calls : goal.returns-in-Failed-clause-calls
returns-in-Failed-clause-calls g c =
    takes_more g.I.Source.did c.args.input.now c.loop-done.input c.take.new.self (Take _ _ _) (Some Input) c.loop-done.invariant.calls c.in-Failed.ensures.did refl

pub returns-in-End-clause-brings : goal.returns-in-End-clause-brings
returns-in-End-clause-brings g c =
    brings_ended g.I.Source.did c.args.input.now c.loop-done.input c.take.new.self c.loop-done.done c.args.room.now c.loop-done.room c.take.new.room c.loop-done.invariant.within c.take.auto.room c.in-End.ensures.did c.loop-done.invariant.filling

pub returns-in-Failed-clause-brings : goal.returns-in-Failed-clause-brings
returns-in-Failed-clause-brings g c =
    brings_failed g.I.Source.did c.args.input.now c.loop-done.input c.take.new.self c.loop-done.done c.args.room.now c.loop-done.room c.take.new.room c.loop-done-test.true c.take.auto.room c.in-Failed.ensures.did c.loop-done.invariant.filling

pub returns-clause-brings : goal.returns-clause-brings
returns-clause-brings g c =
    brings_full g.I.Source.did c.args.input.now c.loop-done.input c.loop-done.done c.args.room.now c.loop-done.room
    (omega (arith, c.loop-done-test.false, c.loop-done.invariant.filling.size)) c.loop-done.invariant.filling
