use Rattle.std.proofs.Common.{◌≡◌, Some, sym, ap, ◌∙◌}
use Rattle.p9_lang.specs.Types.{type_of, tags_of}
use Rattle.p9_lang.specs.Symbols.{name_label, static_at, writes_of}
use Rattle.p9_nodes.specs.Nodes.{label_of, node_in}
use Rattle.p9_nodes.specs.Labels.{told_label}
use Rattle.p9_nodes.specs.Arities.{told_one}
use Rattle.p9_outline.proofs.Walking.{static_meant, behind}
use Rattle.p9_outline.proofs.locals.push_declared.Goals as goal

pub returns : goal.returns
returns c =
    let m = c.args.source.now.typed.now in
    let tags = tags_of m.tags.list in
    let name = c.in-Some.name in
    let value = c.in_ok-initialiser.field-0 in
    let found : Some (label_of name) ≡ name_label (node_in m c.args.part) = ap told_label (sym c.in-Some.is) ∙ c.in_ok-name.ensures in
    behind _ _ _ _ (c.in_ok-push_static.ensures m (writes_of tags (type_of name.ty.now) (told_one m value)) (c.first_form-form.ensures m))
    (static_meant tags (told_one m value) (label_of name) (name_label (node_in m c.args.part)) found
    ∙ ap (λ v. static_at tags v (name_label (node_in m c.args.part))) c.in_ok-initialiser.ensures)
