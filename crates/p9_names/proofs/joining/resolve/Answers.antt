use Rattle.p9_abs.specs.BuiltIn.{linked}
use Rattle.p9_names.proofs.Exactness.{refused_exactly, joined_exactly}
use Rattle.p9_names.proofs.OneChoice.{answer_chooses}
use Rattle.p9_names.proofs.joining.resolve.Goals as goal

pub returns-clause-refused_exactly : goal.returns-clause-refused_exactly
returns-clause-refused_exactly c = refused_exactly (linked c.args.modules.now.items) c.join.result c.join.ensures.joined c.join.ensures.refused

pub returns-clause-joined_exactly : goal.returns-clause-joined_exactly
returns-clause-joined_exactly c = joined_exactly (linked c.args.modules.now.items) c.join.result c.join.ensures.refused

pub returns-clause-chosen : goal.returns-clause-chosen
returns-clause-chosen c =
    answer_chooses c.args.modules.now.items c.join.result c.requires.valid c.requires.count c.requires.small c.join.ensures.joined c.join.ensures.table
