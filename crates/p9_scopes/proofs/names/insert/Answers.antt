use Rattle.std.proofs.Common.{[], ◌∷◌, ◌++◌, refl, ap, ◌∙◌}
use Rattle.std.specs.Prelude.{if◌then◌else◌}
use Rattle.p9_lang.specs.Names.{is_among}
use Rattle.p9_scopes.proofs.Sets.{has_more, among_bytes}
use Rattle.p9_scopes.proofs.names.insert.Goals as goal

pub returns : goal.returns
returns c = λ q.
    ap (λ ks. is_among ks q) c.in_ok-insert.ensures.keys
    ∙ ap (λ b. is_among (if b then c.args.set.now.keys else c.args.set.now.keys ++ c.args.name ∷ []) q) (among_bytes c.args.set.now.keys c.args.name)
    ∙ has_more c.args.set.now.keys c.args.name q (is_among c.args.set.now.keys c.args.name) refl
