use Rattle.std.proofs.Common.{◌∙◌, ◌++◌, ap}
use Rattle.p9_su.specs.Order.{moves_of}
use Rattle.p9_su.proofs.Plays.{moves_are_play}
use Rattle.p9_su.proofs.plans.order.Goals as goal

pub returns : goal.returns
returns c =
    moves_are_play c.args.shape.now c.add_moves.new.moves.items
    (c.in_ok-add_moves.ensures ∙ ap (λ xs. xs ++ moves_of c.args.shape.now 0 0) c.new-moves.ensures.items)
