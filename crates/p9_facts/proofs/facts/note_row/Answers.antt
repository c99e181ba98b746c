use Rattle.std.specs.HashMap.{get}
use Rattle.p9_facts.specs.Facts.{same_fact, label_facts, statement_facts, says}
use Rattle.p9_facts.proofs.Noting.{on_both}
use Rattle.p9_facts.proofs.facts.note_row.Goals as goal

pub returns-in_ok-note_label-in-Some : goal.returns-in_ok-note_label-in-Some
unfolding says
returns-in_ok-note_label-in-Some c =
    rw c.in-Some.is
    (on_both c.note_statement.result c.args.index (get same_fact c.args.map.now) (get same_fact c.note_label.new.map) (get same_fact c.note_statement.new.map) (label_facts c.in-Some.line.label c.args.row.now.place.function) (statement_facts c.args.row.now.place c.in-Some.line.statement) c.in_ok-note_label-in-Some.ensures c.note_statement.ensures)
