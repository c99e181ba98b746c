use Rattle.std.proofs.Common.{◌≡◌, ◌-◌, ◌∷◌, length, take, drop, refl, arith, ◌+◌}
use Rattle.std.proofs.lemmas.Grind.{common_steps}
use Rattle.p9_text.specs.Places.{places_of}
use Rattle.p9_pieces.specs.Callees.{callee_of}
use Rattle.p9_pieces.specs.Functions.{scope}
use Rattle.p9_pieces.proofs.Stepping.{front, functions_lines_turn, functions_starts_turn}
use Rattle.p9_pieces.proofs.walking.add_functions.Goals as goal

pub loop-rest-preserved : goal.loop-rest-preserved
loop-rest-preserved c =
    let rest = c.loop-rest.rest.now in
    let after = take (length rest - 1) (drop 1 rest) in
    let e : rest ≡ c.routine-item.result ∷ after = front rest after c.routine-item.result c.in-len1-up.len_at_least c.routine-item.is refl in
    let r = c.routine-item.result in
    let function = c.in_ok-function.function in
    let callee = callee_of c.args.callees.now in
    let up : c.in_ok-number.number ≡ c.loop-rest.number + places_of r = grind (arith, common_steps) in
    record {
      lines = functions_lines_turn callee c.loop-rest.number c.in_ok-number.number r (scope function) c.code.result.now rest after c.loop-rest.pieces.lines.items c.add_function.new.pieces.lines.items _ e c.in_ok-function.ensures c.code.ensures up c.in_ok-add_function.ensures.lines c.loop-rest.invariant.lines;
      starts = functions_starts_turn callee c.loop-rest.number c.in_ok-number.number r (scope function) c.code.result.now rest after c.loop-rest.pieces.lines.items c.add_function.new.pieces.lines.items c.loop-rest.pieces.starts.items c.add_function.new.pieces.starts.items _ e c.in_ok-function.ensures c.code.ensures up c.in_ok-add_function.ensures.lines c.in_ok-add_function.ensures.starts c.loop-rest.invariant.starts;
    }
