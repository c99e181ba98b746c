use Rattle.std.proofs.Common.{rules}
use Rattle.p9_names.proofs.BuiltInModule.{valid_symbols}
use Rattle.p9_names.proofs.builtin_module.builtin.Goals as goal

pub returns-clause-valid : goal.returns-clause-valid
returns-clause-valid c = valid_symbols c.in_ok-list.list.items (search rules)
