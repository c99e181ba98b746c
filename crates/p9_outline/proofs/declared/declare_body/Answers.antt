use Rattle.std.proofs.Common.{ap, ◌∙◌}
use Rattle.p9_lang.specs.Types.{tags_of}
use Rattle.p9_lang.specs.Symbols.{declared_body}
use Rattle.p9_nodes.specs.Nodes.{node_in, row_in}
use Rattle.p9_nodes.proofs.Operands.{split_some}
use Rattle.p9_outline.specs.Summaries.{declare_all}
use Rattle.p9_outline.specs.Told.{told_entries}
use Rattle.p9_outline.proofs.Walking.{body_found, no_body, split_none}
use Rattle.p9_outline.proofs.declared.declare_body.Goals as goal

pub returns-then-is_declarator : goal.returns-then-is_declarator
returns-then-is_declarator c =
    let m = c.args.source.now.typed.now in
    let item = node_in m c.args.item in
    body_found (tags_of m.tags.list) item (node_in m c.in-Some.part) (row_in m c.parts.rest) (row_in m c.in-Some.others) _ _ _
    (split_some m c.parts.rest c.in_ok-part.field-0 (c.in-Some.part, c.in-Some.others) c.in_ok-part.ensures c.in-Some.is)
    c.if-is_declarator.ensures c.parts.invariant.body c.in_ok-declare_function.ensures
    ∙ ap (λ es. declare_all (tags_of m.tags.list) es (declared_body item (row_in m c.args.item.parts))) c.parts.invariant.same

pub returns : goal.returns
returns c =
    let m = c.args.source.now.typed.now in
    c.parts.invariant.same
    ∙ no_body (tags_of m.tags.list) (node_in m c.args.item) (row_in m c.parts.rest) (told_entries m c.args.names.now.map.entries) _
    (split_none m c.parts.rest c.in_ok-part.field-0 c.in_ok-part.ensures c.in_default.is) c.parts.invariant.body
