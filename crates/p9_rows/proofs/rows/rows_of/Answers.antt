use Rattle.std.proofs.Common.{◌+◌, vec_len, sym, arith}
use Rattle.p9_rows.proofs.RowLemmas.{rest_is, rest_count, rows_turn}
use Rattle.p9_rows.proofs.rows.rows_of.Goals as goal

pub loop-end-preserved : goal.loop-end-preserved
loop-end-preserved c = record {
  rows = rows_turn _ c.loop-end.rows.items c.push.new.self.items (vec_len c.loop-end.rows) c.len-index.result (vec_len c.push.new.self) c.loop-end.token c.in-Some.end c.loop-end.place c.after_content-place.result c.loop-end.rest.now _ _ c.line_of-content.result (sym c.in-Some.ensures.place) c.in-Some.ensures.within c.line_of-content.ensures (grind arith) (rest_is (c.in-Some.end + 1) c.loop-end.rest.now) c.in_ok-push.ensures.items c.len-index.ensures c.in_ok-push.ensures.len c.after_content-place.ensures.value c.loop-end.invariant.rows;
  count = rest_count c.loop-end.token c.in-Some.end _ c.loop-end.rest.now c.in-Some.ensures.within c.loop-end.invariant.count;
  few = omega (arith, c.in_ok-push.ensures.len, c.loop-end.invariant.few);
  number = omega (arith, c.after_content-place.ensures.more, c.loop-end.invariant.number);
}
