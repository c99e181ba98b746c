use Rattle.std.specs.HashMap.{get}
use Rattle.p9_facts.specs.Facts.{same_fact, argument_facts}
use Rattle.std.proofs.Common.{◌++◌}
use Rattle.p9_facts.proofs.Noting.{noted_both, on_both}
use Rattle.p9_facts.proofs.facts.note_arguments.Goals as goal

pub returns-in_ok-note_argument-in-Two : goal.returns-in_ok-note_argument-in-Two
returns-in_ok-note_argument-in-Two c =
    rw c.in-Two.is
    (on_both c.note_argument-in-Two-2.result c.args.row (get same_fact c.args.map.now) (get same_fact c.note_argument-in-Two.new.map) (get same_fact c.note_argument-in-Two-2.new.map) (argument_facts c.in-Two.a) (argument_facts c.in-Two.b) c.in_ok-note_argument-in-Two.ensures c.note_argument-in-Two-2.ensures)

pub returns-in_ok-note_argument-in-Three-2 : goal.returns-in_ok-note_argument-in-Three-2
returns-in_ok-note_argument-in-Three-2 c =
    rw c.in-Three.is
    (on_both c.note_argument-in-Three-3.result c.args.row (get same_fact c.args.map.now) (get same_fact c.note_argument-in-Three-2.new.map) (get same_fact c.note_argument-in-Three-3.new.map) (argument_facts c.in-Three.a ++ argument_facts c.in-Three.b) (argument_facts c.in-Three.c)
    (λ q. noted_both q (get same_fact c.args.map.now q) (get same_fact c.note_argument-in-Three.new.map q) (get same_fact c.note_argument-in-Three-2.new.map q) c.args.row (argument_facts c.in-Three.a) (argument_facts c.in-Three.b) (c.in_ok-note_argument-in-Three.ensures q) (c.in_ok-note_argument-in-Three-2.ensures q))
    c.note_argument-in-Three-3.ensures)
