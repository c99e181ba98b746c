use Rattle.std.proofs.Common.{◌≡◌, ◌-◌, ◌∷◌, length, take, drop, refl, arith, ◌+◌}
use Rattle.std.proofs.lemmas.Grind.{common_steps}
use Rattle.p9_pieces.specs.Functions.{scope}
use Rattle.p9_pieces.proofs.Stepping.{front, code_lines_turn, code_starts_turn}
use Rattle.p9_pieces.proofs.walking.add_code.Goals as goal

pub loop-rest-preserved : goal.loop-rest-preserved
loop-rest-preserved c =
    let rest = c.loop-rest.rest.now in
    let after = take (length rest - 1) (drop 1 rest) in
    let e : rest ≡ c.a-item.result ∷ after = front rest after c.a-item.result c.in-len1-up.len_at_least c.a-item.is refl in
    let up : c.in_ok-number.number ≡ c.loop-rest.number + 1 = grind (arith, common_steps) in
    record {
      lines = code_lines_turn (scope c.args.function.now) c.loop-rest.number c.in_ok-number.number c.a-item.result rest after c.loop-rest.pieces.lines.items c.add_instruction.new.lines.items _ e up c.in_ok-add_instruction.ensures c.loop-rest.invariant.lines;
      starts = code_starts_turn (scope c.args.function.now) c.loop-rest.number c.in_ok-number.number c.a-item.result rest after c.loop-rest.pieces.lines.items c.deref.result.now c.add_instruction.new.lines.items c.loop-rest.pieces.starts.items c.begin.new.starts.items _ e up c.in_ok-add_instruction.ensures c.in_ok-begin.ensures c.deref.ensures.value c.loop-rest.invariant.starts;
    }
