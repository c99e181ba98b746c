use Rattle.std.proofs.Common.{nat_eq, ap, ◌∙◌}
use Rattle.std.specs.Cmp.Lexicographic.{pointwise}
use Rattle.p9_opening.proofs.Placings.{names_by_bytes}
use Rattle.p9_opening.proofs.members.same_name.Goals as goal

pub returns : goal.returns
returns c =
    names_by_bytes c.args.left.now c.args.right.now c.eq.result
    (c.eq.ensures ∙ ap (λ xs. pointwise nat_eq xs c.as_slice-2.result.now) (c.as_slice.ensures.value ∙ c.left.view_is)
    ∙ ap (λ ys. pointwise nat_eq c.args.left.now ys) (c.as_slice-2.ensures.value ∙ c.right.view_is))
