use Rattle.p9_straight.proofs.BuildLists.{uncons_is}
use Rattle.p9_straight.proofs.BuildLayout.{files_turn}
use Rattle.p9_straight.proofs.layout.lay_files.Goals as goal

pub loop-rest-preserved : goal.loop-rest-preserved
loop-rest-preserved c =
    files_turn _ _ _ _ _ _ _ _ _ _ _ c.args.files.now (uncons_is c.loop-rest.rest.now _ c.in-len1-up.len_at_least c.file-item.is) c.loop-rest.invariant c.in_ok-lay_file.ensures.lays c.in_ok-lay_file.ensures.small
