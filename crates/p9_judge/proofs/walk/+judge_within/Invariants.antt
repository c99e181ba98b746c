use Rattle.std.proofs.Common.{◌≡◌, ◌+◌, ◌*◌, [], length}
use Rattle.p9_lang.specs.Trees.{row_of, nodes_of_row}
use Rattle.p9_lang.specs.Typing.{judge_parts}
use Rattle.p9_scopes.specs.State.{known_of}
use Rattle.p9_parts.specs.Told.{frame_of, parts_of}
use Rattle.p9_judge.proofs.walk.+judge_within.Given as goal

abbrev pub decreases-judge_within : goal.decreases-judge_within
decreases-judge_within l = 4 * l.levels

abbrev pub decreases-judge_part : goal.decreases-judge_part
decreases-judge_part l = 4 * l.levels + 1

abbrev pub decreases-judge_parts : goal.decreases-judge_parts
decreases-judge_parts l = 4 * l.levels + 2

abbrev pub decreases-judge_inside : goal.decreases-judge_inside
decreases-judge_inside l = 4 * l.levels + 3

abbrev pub invariant-judge_parts-parts : goal.invariant-judge_parts-parts
invariant-judge_parts-parts l = record {
  judges : judge_parts l.kind (frame_of l.names l.frame) (parts_of l.before) (row_of l.rest) (known_of l.known)
      ≡ judge_parts l.kind (frame_of l.names l.frame) [] (row_of l.parts) (known_of l.fn.known);
  counts : l.nodes + nodes_of_row (row_of l.rest) ≡ l.fn.nodes + nodes_of_row (row_of l.parts);
}

abbrev pub decreases-judge_parts-parts : goal.decreases-judge_parts-parts
decreases-judge_parts-parts l = length l.rest
