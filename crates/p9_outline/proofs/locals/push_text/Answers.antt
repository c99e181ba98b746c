use Rattle.std.proofs.Common.{◌≡◌, refl, ap, ◌∙◌}
use Rattle.p9_lang.specs.declared.tree.Kind.TheVariants as kind
use Rattle.p9_lang.specs.Symbols.{text_at}
use Rattle.p9_nodes.specs.Nodes.{label_of}
use Rattle.p9_outline.proofs.Walking.{first_text, text_meant, behind}
use Rattle.p9_outline.proofs.locals.push_text.Goals as goal

pub returns-in_ok-push_static-in-Text : goal.returns-in_ok-push_static-in-Text
returns-in_ok-push_static-in-Text c m =
    let texts = c.as_slice.result.now in
    let label = label_of c.args.node in
    let here : kind.Text texts ≡ c.args.node.kind.now = cc in
    behind _ _ _ _ (c.in_ok-push_static-in-Text.ensures m (first_text label.type texts) refl)
    (text_meant texts label ∙ ap (λ k. text_at k label) here)
