use Rattle.std.proofs.Common.{ap, sym, ◌∙◌}
use Rattle.p9_lang.specs.Files.{function_name}
use Rattle.p9_lang.specs.Trees.{row_of}
use Rattle.p9_types.proofs.Lists.{first_and_others}
use Rattle.p9_judge.proofs.BodyNames.{declarator_behind}
use Rattle.p9_judge.proofs.bodies.function_name.Goals as goal

pub parts-preserved : goal.parts-preserved
parts-preserved c =
    sym (ap (λ ns. function_name (row_of ns)) (first_and_others c.parts.rest.now c.part-item.result c.in-len1-up.len_at_least c.part-item.is)
    ∙ declarator_behind c.part-item.result _ (sym c.if-is_declarator.ensures))
    ∙ c.parts.invariant
