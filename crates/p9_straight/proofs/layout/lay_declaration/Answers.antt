use Rattle.p9_straight.proofs.BuildLayout.{on_both, lays_variable}
use Rattle.p9_straight.proofs.layout.lay_declaration.Goals as goal

pub returns-in-Number-clause-lays : goal.returns-in-Number-clause-lays
returns-in-Number-clause-lays c =
    on_both c.lay_variable.result (λ p q. lays_variable _ _ _ c.args.declaration.now c.in-Number.value _ _ c.in-Number.is p q) c.lay_variable.ensures.bytes c.lay_variable.ensures.entries
