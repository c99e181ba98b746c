use Rattle.std.proofs.Common.{◌≡◌, cond, Some, None, subst, rules}
use Rattle.std.specs.HashMap.{get}
use Rattle.p9_facts.specs.Facts.{same_fact}
use Rattle.p9_facts.proofs.Noting.{tests_are, note_new}
use Rattle.p9_facts.proofs.facts.note.Goals as goal

pub returns-in_ok-insert : goal.returns-in_ok-insert
returns-in_ok-insert c = λ q.
    let none : get same_fact c.args.map.now c.args.fact ≡ None = search rules in
    let updates = subst (λ same. get same c.insert.new.self q ≡ cond (same c.args.fact q) (Some c.args.row) (get same c.args.map.now q)) tests_are (c.in_ok-insert.ensures.updates.0 q) in
    note_new (get same_fact c.args.map.now) c.args.fact q c.args.row _ none updates
