use Rattle.std.proofs.Common.{◌≡◌, None, sym, ap, ◌∙◌, arith}
use Rattle.std.proofs.lemmas.Grind.{common_steps}
use Rattle.p9_form.specs.Reading.{read_statement}
use Rattle.p9_form.specs.Found.{HasNoBody}
use Rattle.p9_form.proofs.ParseBodies.{one_more, body_ends, body_refused}
use Rattle.p9_form.proofs.parse.statements.statements.Goals as goal

pub returns-in_err-next-clause-err : goal.returns-in_err-next-clause-err
returns-in_err-next-clause-err c =
    let t = c.takes.ensures in
    let no = c.each-test.true in
    let h : read_statement c.args.names.now c.takes.new.self ≡ None → HasNoBody c.args.names.now c.args.cursor.now =
    λ r. body_refused c.args.names.now c.args.cursor.now c.each.list.items c.each.cursor c.each.invariant (t.no no) (ap (read_statement c.args.names.now) (sym (t.stays no)) ∙ r) in
    grind (arith, common_steps, h)

pub each-preserved : goal.each-preserved
each-preserved c =
    one_more c.args.names.now c.args.cursor.now c.each.list.items c.each.cursor c.in_ok-next.next c.statement.new.cursor c.takes.new.self c.push.new.self.items
    c.each.invariant (c.takes.ensures.stays c.each-test.true) c.in_ok-next.ensures.ok c.in_ok-push.ensures.items

pub returns-clause-ok : goal.returns-clause-ok
returns-clause-ok c =
    body_ends c.args.names.now c.args.cursor.now c.each.list.items c.each.cursor c.takes.new.self c.each.invariant (c.takes.ensures.yes c.each-test.false)
