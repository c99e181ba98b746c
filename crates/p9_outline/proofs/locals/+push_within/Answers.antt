use Rattle.p9_lang.specs.Types.{tags_of}
use Rattle.p9_nodes.specs.Nodes.{label_of, row_in}
use Rattle.p9_nodes.proofs.Operands.{split_some}
use Rattle.p9_outline.proofs.Walking.{locals_passed}
use Rattle.p9_outline.proofs.locals.+push_within.Goals as goal

pub parts-preserved : goal.parts-preserved
parts-preserved t c =
    let m = c.args.source.now.typed.now in
    let part = c.in-Some.part in
    locals_passed (tags_of m.tags.list) c.args.are_declared (row_in m c.parts.rest) (row_in m c.in-Some.others) (row_in m part.parts) part.kind.now (label_of part)
    _ _ _ _ _
    (split_some m c.parts.rest c.in_ok-part.field-0 (part, c.in-Some.others) c.in_ok-part.ensures c.in-Some.is)
    c.in_ok-push_where.ensures (rw c.is_declaration-declares.ensures at c.in_ok-push_within.ensures) (c.in_ok-push_text.ensures m) c.parts.invariant
