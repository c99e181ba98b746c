use Rattle.std.proofs.Common.{arith, ap, length}
use Rattle.p9_straight.proofs.BuildSizes.{main_small}
use Rattle.p9_straight.proofs.BuildImage.{image_is, image_within, parts_within}
use Rattle.p9_straight.proofs.building.image.Goals as goal

pub data_start-start-requires : goal.data_start-start-requires
data_start-start-requires c = omega (arith, ap length c.main_statements-statements.ensures, main_small c.args.files.now c.requires.small)

pub returns-clause-parts : goal.returns-clause-parts
returns-clause-parts c =
    image_is _ _ _ _ _ _ _ _ _ _ c.main_statements-statements.ensures c.data_start-start.ensures.exact c.texts_at-texts.ensures.exact c.in_ok-laid.ensures c.new-text.ensures.items c.in_ok-main_code.ensures

pub returns-clause-bounds : goal.returns-clause-bounds
returns-clause-bounds c =
    parts_within c.args.files.now _
    (image_is _ _ _ _ _ _ _ _ _ _ c.main_statements-statements.ensures c.data_start-start.ensures.exact c.texts_at-texts.ensures.exact c.in_ok-laid.ensures c.new-text.ensures.items c.in_ok-main_code.ensures)
    (image_within c.args.files.now _ _ _ _ _ c.requires.small c.in_ok-laid.ensures)
