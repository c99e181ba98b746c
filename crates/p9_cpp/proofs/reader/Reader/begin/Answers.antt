use Rattle.std.proofs.Common.{[], sym, ap, ◌∙◌}
use Rattle.p9_cpp.specs.Reading.{read, begun}
use Rattle.p9_cpp.proofs.Steps.{begun_more}
use Rattle.p9_cpp.proofs.Sound.{sound_set}
use Rattle.p9_cpp.proofs.reader.Reader.begin.Goals as goal

pub returns-in_ok-push-in-Some-clause-reads : goal.returns-in_ok-push-in-Some-clause-reads
returns-in_ok-push-in-Some-clause-reads c = λ table.
    let s = c.args.self.now in
    ap (λ o. read table c.push.new.self c.in-Some.next o) c.requires.empty
    ∙ ap (λ fs. read table fs c.in-Some.next []) c.in_ok-push-in-Some.ensures
    ∙ begun_more table s.stack c.args.invocation c.args.ready c.pop.new.self c.in-Some.next c.args.rest
    ∙ ap (λ args. begun table s.stack c.args.invocation c.args.ready args c.args.rest) (sym c.in-Some.ensures)

pub returns-in_ok-enter-in-None-clause-sound : goal.returns-in_ok-enter-in-None-clause-sound
returns-in_ok-enter-in-None-clause-sound c = λ table apart sound new.
    let s = c.args.self.now in
    sound_set table s.stack c.enter.new.self.stack s.hidden c.enter.new.self.hidden c.args.invocation.known c.args.rest apart sound new
    (ap (λ r. r.stack) c.in_ok-enter-in-None.ensures) (ap (λ r. r.hidden) c.in_ok-enter-in-None.ensures)
