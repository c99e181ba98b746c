use Rattle.std.proofs.Common.{sym, ◌∙◌}
use Rattle.p9_names.proofs.Answering.{all_resolved}
use Rattle.p9_names.proofs.joining.check_uses.Goals as goal

pub returns-in-None-clause-ok : goal.returns-in-None-clause-ok
returns-in-None-clause-ok c =
    all_resolved c.args.linked.now c.args.defs.now.entries c.deref.result.now c.requires.table (c.deref.ensures.value ∙ c.in_ok-uses.ensures) (sym c.in-None.ensures)
