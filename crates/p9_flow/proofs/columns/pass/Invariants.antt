use Rattle.p9_flow.specs.Columns.{IsVisited}
use Rattle.p9_flow.proofs.columns.pass.Given as goal

abbrev pub invariant-loop-place : goal.invariant-loop-place
invariant-loop-place l = IsVisited l.acts l.order l.word l.initial.column l.column l.place-index l.changed
