use Rattle.std.specs.HashMap.{get}
use Rattle.p9_facts.specs.Facts.{same_fact, counted, arguments_facts}
use Rattle.p9_facts.proofs.Noting.{on_both}
use Rattle.p9_facts.proofs.facts.note_operation.Goals as goal

pub returns : goal.returns
returns c =
    on_both c.note_arguments.result c.args.row (get same_fact c.args.map.now) (get same_fact c.note_instruction.new.map) (get same_fact c.note_arguments.new.map) (counted c.args.place.function c.args.place.number) (arguments_facts c.args.given) c.in_ok-note_instruction.ensures c.note_arguments.ensures
