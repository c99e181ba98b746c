use Rattle.std.proofs.Common.{not, ap, ◌∙◌}
use Rattle.p9_lang.specs.Names.{is_among}
use Rattle.p9_sig.proofs.Steps.{among_bytes}
use Rattle.p9_sig.proofs.met.MetTags.meet.Goals as goal

pub returns-clause-first : goal.returns-clause-first
returns-clause-first c =
    c.in_ok-first.ensures.added
    ∙ ap not (among_bytes c.self.inside.names.keys c.in_ok-from_slice.field-0.items
    ∙ ap (is_among c.self.inside.names.keys) (c.in_ok-from_slice.ensures.items ∙ c.as_slice.ensures.value ∙ c.name.view_is)
    ∙ ap (λ ks. is_among ks c.args.name.now) c.self.view_is)
