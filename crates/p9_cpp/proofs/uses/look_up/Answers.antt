use Rattle.std.proofs.Common.{sym}
use Rattle.p9_cpp.proofs.Using.{key_found}
use Rattle.p9_cpp.proofs.uses.look_up.Goals as goal

pub returns-in-Some-default-default-Some-clause-name : goal.returns-in-Some-default-default-Some-clause-name
returns-in-Some-default-default-Some-clause-name c = key_found c.args.table.now.entries c.args.name.now c.in-Some-default-default-Some.key.now (sym c.in-Some-default-default-Some.ensures.key)
