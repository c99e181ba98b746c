use Rattle.p9_obj.proofs.Whole.{invalid}
use Rattle.p9_obj.proofs.validity.valid.Goals as goal

pub returns-else-are_symbols : goal.returns-else-are_symbols
returns-else-are_symbols c = invalid c.args.m.now c.are_symbols.result c.are_symbols.ensures c.if-are_symbols.false
