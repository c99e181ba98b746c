use Rattle.p9_steps.proofs.Knowing.{known_first}
use Rattle.p9_steps.proofs.places.Found.new.Goals as goal

pub invariant_of-result : goal.invariant_of-result
invariant_of-result c = record { known = known_first _ _ _ c.new-names.ensures.locals c.new-names.ensures.globals c.new-list.ensures.items }
