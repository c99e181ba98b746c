use Rattle.std.proofs.Common.{ap, ◌∙◌, ◌+◌, Some, if◌then◌else◌}
use Rattle.p9_homes.specs.Tables.{is_it}
use Rattle.p9_homes.proofs.Tabling.{home-more, home-first}
use Rattle.p9_homes.proofs.holders.home_of.Goals as goal

pub loop-g-init : goal.loop-g-init
loop-g-init c = home-first c.args.table.now c.args.i c.args.v

pub loop-g-preserved : goal.loop-g-preserved
loop-g-preserved c =
    home-more c.args.table.now c.args.i c.args.v c.loop-g.g c.loop-g.home c.home_if-home.result c.loop-g.invariant
    (c.home_if-home.ensures ∙ (ap (λ b. if b then Some (9 + c.loop-g.g) else c.loop-g.home) (c.is_it.ensures ∙ ap (is_it c.args.v) c.holder.ensures)))
