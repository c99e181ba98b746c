use Rattle.p9_tree_reader.specs.Reading.{state_of}
use Rattle.p9_decl.proofs.Ending.{by_over}
use Rattle.p9_decl.proofs.finish.expression.Goals as goal

pub returns-in-Ok : goal.returns-in-Ok
returns-in-Ok c = by_over (state_of c.args.reader) (state_of c.step.new.self) c.over.result c.in-Ok.ensures c.over.ensures.some c.over.ensures.none
