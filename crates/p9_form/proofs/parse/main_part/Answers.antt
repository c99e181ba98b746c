use Rattle.std.proofs.Common.{◌≡◌, None, sym, ◌∙◌, arith}
use Rattle.std.proofs.lemmas.Grind.{common_steps}
use Rattle.p9_form.specs.Reading.{read_head}
use Rattle.p9_form.specs.Found.{HasNoBody, HasNoMainPart}
use Rattle.p9_form.proofs.ParseFiles.{main_found, no_head, no_body}
use Rattle.p9_form.proofs.parse.main_part.Goals as goal

pub returns-in_err-head-clause-err : goal.returns-in_err-head-clause-err
returns-in_err-head-clause-err c =
    let h : read_head c.args.cursor.now ≡ None → HasNoMainPart c.args.names.now c.args.cursor.now =
    no_head c.args.names.now c.args.cursor.now (sym c.at_end.ensures ∙ c.if-at_end.false) in
    grind (arith, common_steps, h)

pub returns-in_err-list-clause-err : goal.returns-in_err-list-clause-err
returns-in_err-list-clause-err c =
    let h : HasNoBody c.args.names.now c.head.new.cursor → HasNoMainPart c.args.names.now c.args.cursor.now =
    no_body c.args.names.now c.args.cursor.now c.head.new.cursor (sym c.at_end.ensures ∙ c.if-at_end.false) c.in_ok-head.ensures.ok in
    grind (arith, common_steps, h)

pub returns-clause-ok : goal.returns-clause-ok
returns-clause-ok c = main_found c.args.names.now c.args.cursor.now c.head.new.cursor c.in_ok-list.list c.statements.new.cursor c.in_ok-head.ensures.ok c.in_ok-list.ensures.ok
