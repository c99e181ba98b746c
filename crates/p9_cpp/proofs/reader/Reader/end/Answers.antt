use Rattle.std.proofs.Common.{◌≡◌, [], ◌∷◌, ◌++◌, List, sym, ap, subst, ◌∙◌}
use Rattle.p9_lex.specs.declared.token.Token.{Token}
use Rattle.p9_cpp.specs.declared.frame.Frame.TheVariants as frames
use Rattle.p9_cpp.specs.declared.reader.Reader.{Reader}
use Rattle.p9_cpp.specs.Expansion.{plus, charge}
use Rattle.p9_cpp.specs.Reading.{read, begun, is_inside, IsSound}
use Rattle.p9_cpp.proofs.Going.{goes_on, goes_free, goes_wrong, at_last, at_body, at_argument}
use Rattle.p9_cpp.proofs.Sound.{sound_cleared}
use Rattle.p9_cpp.proofs.reader.Reader.end.Goals as goal

pub returns-in-None-clause-goes : goal.returns-in-None-clause-goes
returns-in-None-clause-goes c = λ table.
    let s = c.args.self.now in
    at_last table s.stack s.left s.out s.room c.in-None.ensures.0 c.requires.ended

pub returns-in-Ok-clause-goes : goal.returns-in-Ok-clause-goes
returns-in-Ok-clause-goes c = λ table.
    let s = c.args.self.now in
    let n = c.leave.new.self in
    let b = c.in-Some-Body in
    let xs = charge (is_inside c.pop.new.self) s.out in
    let popped : s.stack ≡ frames.Body b.known b.rest ∷ c.pop.new.self = rw b.field-0-is at b.ensures in
    goes_on (read table s.stack s.left s.out) (read table n.stack n.left n.out) s.room n.room xs n.out
    (at_body table s.stack c.pop.new.self s.left s.out b.known b.rest popped c.requires.ended ∙ ap (λ (r : Reader). plus xs 1 (read table r.stack r.left r.out)) (sym c.in-Ok.ensures.value))
    c.in-Ok.ensures.counted.1

pub returns-in-Ok-clause-sound : goal.returns-in-Ok-clause-sound
returns-in-Ok-clause-sound c = λ table apart sound.
    let s = c.args.self.now in
    let b = c.in-Some-Body in
    let popped : s.stack ≡ frames.Body b.known b.rest ∷ c.pop.new.self = rw b.field-0-is at b.ensures in
    subst (λ fs. IsSound table fs c.leave.new.self.hidden) (sym (ap (λ (r : Reader). r.stack) c.in-Ok.ensures.value))
    (sound_cleared table c.pop.new.self s.stack s.hidden c.leave.new.self.hidden b.known b.rest apart sound popped (ap (λ (r : Reader). r.hidden) c.in-Ok.ensures.value))

pub returns-in-Err-clause-goes : goal.returns-in-Err-clause-goes
returns-in-Err-clause-goes c = λ table.
    let s = c.args.self.now in
    let n = c.leave.new.self in
    let b = c.in-Some-Body in
    let popped : s.stack ≡ frames.Body b.known b.rest ∷ c.pop.new.self = rw b.field-0-is at b.ensures in
    goes_wrong c.in-Err.fault (read table s.stack s.left s.out) (read table c.pop.new.self b.rest.after (b.rest.out ++ s.out)) (read table n.stack n.left n.out) s.room n.room n.room (charge (is_inside c.pop.new.self) s.out) n.out
    (at_body table s.stack c.pop.new.self s.left s.out b.known b.rest popped c.requires.ended)
    c.in-Err.ensures.counted

pub returns-in_ok-begin-in-Some-Argument-clause-goes : goal.returns-in_ok-begin-in-Some-Argument-clause-goes
returns-in_ok-begin-in-Some-Argument-clause-goes c = λ table.
    let s = c.args.self.now in
    let n = c.begin.new.self in
    let a = c.in-Some-Argument in
    let popped : s.stack ≡ frames.Argument a.invocation a.before a.left a.rest ∷ c.pop.new.self = rw a.field-0-is at a.ensures in
    let next = λ (ready : List (List Token)). begun table c.pop.new.self a.invocation ready a.left a.rest in
    let pushed : c.push.new.self ≡ a.before ++ s.out ∷ [] = c.in_ok-push-in-Some-Argument.ensures ∙ ap (λ o. a.before ++ o ∷ []) c.replace.ensures.value in
    goes_free (read table s.stack s.left s.out) (read table n.stack n.left n.out) s.room n.room n.out
    (at_argument table s.stack c.pop.new.self s.left s.out a.invocation a.before a.left a.rest popped c.requires.ended ∙ ap (λ d. plus [] 1 (next d)) (sym pushed) ∙ ap (plus [] 1) (sym (c.in_ok-begin-in-Some-Argument.ensures.reads table)))
    c.in_ok-begin-in-Some-Argument.ensures.room
