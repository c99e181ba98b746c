use Rattle.std.proofs.Common.{ap, ◌∙◌}
use Rattle.p9_scopes.specs.Newest.{held}
use Rattle.p9_scopes.proofs.Held.{held-insert}
use Rattle.p9_scopes.proofs.newest.note.Goals as goal

pub returns : goal.returns
returns c = λ q. ap (λ es. held es q) c.in_ok-insert.ensures.entries ∙ held-insert c.args.places.now.entries c.args.name c.args.latest q
