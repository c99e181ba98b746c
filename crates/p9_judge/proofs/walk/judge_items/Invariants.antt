use Rattle.std.proofs.Common.{◌≡◌, length}
use Rattle.p9_lang.specs.Trees.{row_of}
use Rattle.p9_lang.specs.Typing.{judge_items}
use Rattle.p9_scopes.specs.State.{known_of}
use Rattle.p9_judge.proofs.walk.judge_items.Given as goal

abbrev pub invariant-items : goal.invariant-items
invariant-items l = judge_items (row_of l.rest) (known_of l.known) ≡ judge_items (row_of l.items) (known_of l.fn.known)

abbrev pub decreases-items : goal.decreases-items
decreases-items l = length l.rest
