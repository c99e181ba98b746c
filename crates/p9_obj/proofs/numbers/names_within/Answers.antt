use Rattle.p9_obj.proofs.Names.{text_within}
use Rattle.p9_obj.proofs.numbers.names_within.Goals as goal

pub returns-in-Text : goal.returns-in-Text
returns-in-Text c = text_within c.args.count c.args.body.now c.in-Text.def c.is_text_within.result c.in-Text.is c.is_text_within.ensures
