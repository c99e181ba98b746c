use Rattle.std.proofs.Common.{◌≡◌, true, [], ◌∷◌, ◌++◌, List, refl, sym, ap, subst, ◌∙◌}
use Rattle.p9_lex.specs.declared.token.Token.{Token}
use Rattle.p9_cpp.specs.Macros as s
use Rattle.p9_cpp.specs.declared.reader.Reader.{Reader}
use Rattle.p9_cpp.specs.declared.frame.Rest.{Rest}
use Rattle.p9_cpp.specs.declared.frame.Invocation.{Invocation}
use Rattle.p9_cpp.specs.declared.frame.Frame.TheVariants as frames
use Rattle.p9_cpp.specs.Expansion.{plus, wrong}
use Rattle.p9_cpp.specs.Reading.{read, begun, hidden_of, with_flag, IsSound}
use Rattle.p9_cpp.proofs.Steps.{stands_step, plain_step, call_step}
use Rattle.p9_cpp.proofs.Going.{goes_on, goes_free, goes_wrong, meets_wrong, meets_plain, meets_call}
use Rattle.p9_cpp.proofs.Sound.{sound_set}
use Rattle.p9_cpp.proofs.reader.Reader.meet.Goals as goal

pub returns-in-Ok-clause-goes : goal.returns-in-Ok-clause-goes
returns-in-Ok-clause-goes c =
    let old = c.args.self.now in
    let n = c.stand.new.self in
    let t = c.args.t in
    let table = c.args.table.now.entries in
    let what = rw c.in-Stands.is at (c.in_ok-use_of.ensures.used (hidden_of old.stack) c.requires.sound.0) in
    goes_on _ (read table n.stack n.left n.out) old.room n.room (t ∷ []) n.out
    (stands_step table old.stack t old.left old.out what.0
    ∙ ap (λ l. plus (t ∷ []) 1 (read table old.stack l (old.out ++ t ∷ []))) (sym what.1)
    ∙ ap (λ (r : Reader). plus (t ∷ []) 1 (read table r.stack r.left r.out)) (sym c.in-Ok.ensures.value))
    c.in-Ok.ensures.counted.1

pub returns-in-Err-clause-goes : goal.returns-in-Err-clause-goes
returns-in-Err-clause-goes c =
    let old = c.args.self.now in
    let n = c.stand.new.self in
    let t = c.args.t in
    let table = c.args.table.now.entries in
    let what = rw c.in-Stands.is at (c.in_ok-use_of.ensures.used (hidden_of old.stack) c.requires.sound.0) in
    goes_wrong c.in-Err.fault _ (read table old.stack old.left (old.out ++ t ∷ [])) (read table n.stack n.left n.out) old.room n.room n.room (t ∷ []) n.out
    (stands_step table old.stack t old.left old.out what.0) c.in-Err.ensures.counted

pub returns-in_ok-enter-in-Plain-clause-goes : goal.returns-in_ok-enter-in-Plain-clause-goes
returns-in_ok-enter-in-Plain-clause-goes c =
    let old = c.args.self.now in
    let n = c.enter.new.self in
    let t = c.args.t in
    let table = c.args.table.now.entries in
    let known = c.in-Plain.known in
    let rest = c.wait-rest.result in
    let what = rw c.in-Plain.is at (c.in_ok-use_of.ensures.used (hidden_of old.stack) c.requires.sound.0) in
    let is = c.in_ok-enter-in-Plain.ensures in
    let waits = c.wait-rest.ensures.empty in
    goes_free _ (read table n.stack n.left n.out) old.room n.room n.out
    (meets_plain table old.stack n.stack t old.left old.out n.left n.out known rest what.0
    (ap (λ (r : Rest). r.after) c.wait-rest.ensures.value ∙ what.1) (ap (λ (r : Rest). r.out) c.wait-rest.ensures.value)
    (ap (λ (r : Reader). r.stack) is ∙ ap (λ (r : Reader). frames.Body known rest ∷ r.stack) waits)
    (ap (λ (r : Reader). r.left) is ∙ c.in_ok-body-in-Plain.ensures ∙ ap (s.put_in [] [] t.line) c.as_slice.ensures)
    (ap (λ (r : Reader). r.out) is ∙ ap (λ (r : Reader). r.out) waits))
    (ap (λ (r : Reader). r.room) is ∙ ap (λ (r : Reader). r.room) waits)

pub returns-in_ok-enter-in-Plain-clause-sound : goal.returns-in_ok-enter-in-Plain-clause-sound
returns-in_ok-enter-in-Plain-clause-sound c =
    let old = c.args.self.now in
    let n = c.enter.new.self in
    let table = c.args.table.now.entries in
    let known = c.in-Plain.known in
    let rest = c.wait-rest.result in
    let found = rw c.in-Plain.is at (c.in_ok-use_of.ensures.found (hidden_of old.stack) c.requires.sound.0) in
    let is = c.in_ok-enter-in-Plain.ensures in
    let waits = c.wait-rest.ensures.empty in
    sound_set table old.stack n.stack old.hidden n.hidden known rest c.requires.apart c.requires.sound found
    (ap (λ (r : Reader). r.stack) is ∙ ap (λ (r : Reader). frames.Body known rest ∷ r.stack) waits)
    (ap (λ (r : Reader). r.hidden) is ∙ ap (λ (r : Reader). with_flag r.hidden known.index true) waits)

pub returns-in_ok-begin-in-Call-clause-goes : goal.returns-in_ok-begin-in-Call-clause-goes
returns-in_ok-begin-in-Call-clause-goes c =
    let old = c.args.self.now in
    let n = c.begin.new.self in
    let t = c.args.t in
    let table = c.args.table.now.entries in
    let u = c.in-Call in
    let rest = c.wait-rest-in-Call.result in
    let i : Invocation = record { known = u.known; line = t.line; params = u.params } in
    let what = rw u.is at (c.in_ok-use_of.ensures.used (hidden_of old.stack) c.requires.sound.0) in
    let waits = c.wait-rest-in-Call.ensures.empty in
    goes_free _ (read table n.stack n.left n.out) old.room n.room n.out
    (meets_call table old.stack t old.left old.out c.use_of.new.left i u.args c.new.result rest (read table n.stack n.left n.out) refl what
    (ap (λ (r : Rest). r.after) c.wait-rest-in-Call.ensures.value) (ap (λ (r : Rest). r.out) c.wait-rest-in-Call.ensures.value) c.new.ensures
    (c.in_ok-begin-in-Call.ensures.reads table
    ∙ ap (λ args. begun table c.wait-rest-in-Call.new.self.stack i c.new.result args rest) c.of_row.ensures
    ∙ ap (λ (r : Reader). begun table r.stack i c.new.result u.args rest) waits))
    (c.in_ok-begin-in-Call.ensures.room ∙ ap (λ (r : Reader). r.room) waits)

pub returns-in_ok-copied-in-Wrong-clause-goes : goal.returns-in_ok-copied-in-Wrong-clause-goes
returns-in_ok-copied-in-Wrong-clause-goes c =
    let old = c.args.self.now in
    let table = c.args.table.now.entries in
    let what = rw c.in-Wrong.is at (c.in_ok-use_of.ensures.used (hidden_of old.stack) c.requires.sound.0) in
    meets_wrong table old.stack c.args.t old.left old.out _ old.room what ∙ ap (λ x. wrong x c.args.t.line) (sym c.in_ok-copied-in-Wrong.ensures)
