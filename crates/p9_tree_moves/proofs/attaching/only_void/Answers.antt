use Rattle.std.proofs.Common.{sym}
use Rattle.p9_tree_moves.proofs.Voids.{void_alone, void_declared, void_other}
use Rattle.p9_tree_moves.proofs.attaching.only_void.Goals as goal

pub returns-in-empty : goal.returns-in-empty
returns-in-empty c =
    let e = void_alone c.args.node.now c.in-Param.spec c.as_slice.result.now c.in-Param.is c.as_slice.ensures c.in-empty.len_below in cc

pub returns-in-len1-up : goal.returns-in-len1-up
returns-in-len1-up c = sym (void_declared c.args.node.now c.in-Param.spec c.as_slice.result.now c.in-Param.is c.as_slice.ensures c.in-len1-up.len_at_least)

pub returns-in_default : goal.returns-in_default
returns-in_default c = sym (void_other c.args.node.now c.in_default.not-Param)
