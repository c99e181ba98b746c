use Rattle.std.proofs.Common.{sym, ap, length, take, drop, get_or, ◌-◌, ◌∙◌, arith}
use Rattle.std.proofs.lemmas.Grind.{common_steps}
use Rattle.p9_lex.proofs.Slices.{slice_front}
use Rattle.p9_lex.proofs.TextLemmas.{text_step}
use Rattle.p9_lex.proofs.QuotedLemmas.{quoted_some}
use Rattle.p9_lex.proofs.quoted.read_text.Goals as goal

pub loop-left-preserved : goal.loop-left-preserved
loop-left-preserved c =
    let read = sym c.quoted.ensures.value ∙ c.in_ok-item.was in
    let left = c.loop-left.left.now in
    let room = quoted_some c.loop-left.length (get_or left 0 0) (take (length left - 1) (drop 1 left)) c.in_ok-item.item read in
    let some_left = c.in-len1-up.len_at_least in
    let front = ap length (slice_front c.loop-left.left.now some_left) in
    record {
      answer = text_step c.loop-left.bytes.items c.push_byte.new.bytes.items c.loop-left.left.now c.loop-left.length c.in_ok-item.item some_left c.in_ok-push_byte.ensures read c.if-b-eq34.false room.0 (omega (arith, room, front)) ∙ c.loop-left.invariant.answer;
      count = grind (arith, common_steps, room);
      some = grind (arith, common_steps, room);
    }
