use Rattle.std.proofs.Common.{ap, ◌∙◌}
use Rattle.p9_lang.specs.Types.{type_of}
use Rattle.p9_types.specs.Reaching.{inner_of}
use Rattle.p9_types.proofs.ArrayElements.{innermost_inner}
use Rattle.p9_types.proofs.elements.tag_in.Goals as goal

pub returns : goal.returns
returns c = c.direct_tag.ensures ∙ ap inner_of c.innermost_elements.ensures.ty ∙ innermost_inner (type_of c.args.ty.now)
