use Rattle.std.proofs.Common.{[], ap, ◌∙◌}
use Rattle.p9_lang.specs.Files.{static_names}
use Rattle.p9_judge.proofs.StaticNames.{oldest_first}
use Rattle.p9_judge.proofs.file.statics_of.Goals as goal

pub returns : goal.returns
returns c =
    c.into_items.ensures ∙ c.in_ok-names.ensures
    ∙ ap (static_names []) (oldest_first c.args.level.now c.as_slice.result.now c.as_slice.ensures)
