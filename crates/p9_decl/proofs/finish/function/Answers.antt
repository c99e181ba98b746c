use Rattle.std.proofs.Common.{refl}
use Rattle.p9_tree_build.specs.Machines.{frame_of}
use Rattle.p9_decl.proofs.Finding.{made_function, no_function}
use Rattle.p9_decl.proofs.finish.function.Goals as goal

pub returns-in-HeadOver-clause-some : goal.returns-in-HeadOver-clause-some
returns-in-HeadOver-clause-some c = made_function (frame_of c.args.frame) c.in-HeadOver.words c.args.frame.body.from c.args.frame.body.row.list c.in-HeadOver.is refl refl

pub returns : goal.returns
returns c = record { some = tt; none = no_function (frame_of c.args.frame) c.in_default.not-HeadOver }
