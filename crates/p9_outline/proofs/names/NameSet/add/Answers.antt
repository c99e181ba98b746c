use Rattle.std.proofs.Common.{refl}
use Rattle.p9_outline.proofs.Sets.{name_added}
use Rattle.p9_outline.proofs.names.NameSet.add.Goals as goal

pub returns : goal.returns
returns c q = name_added _ (λ x y. refl) c.args.self.now.set.keys _ c.args.name c.in_ok-insert.ensures.keys q
