use Rattle.std.proofs.Common.{[], ◌∷◌, sym, ap, subst, ◌∙◌, arith}
use Rattle.std.proofs.lemmas.List.{length-map, map-append}
use Rattle.p9_parts.specs.Told.{part_of, parts_of}
use Rattle.p9_parts.specs.Summed.{IsSummary}
use Rattle.p9_parts.proofs.parts.Parts.with.Goals as goal

pub invariant_of-result : goal.invariant_of-result
invariant_of-result c =
    subst (IsSummary c.in_ok-summary.summary)
    (sym (ap parts_of c.in_ok-push.ensures.items ∙ map-append part_of c.self.inside.list.items (c.args.part ∷ [])))
    (c.in_ok-summary.ensures (parts_of c.self.inside.list.items) (omega (arith, length-map c.self.inside.list.items part_of)) c.self.invariant)
