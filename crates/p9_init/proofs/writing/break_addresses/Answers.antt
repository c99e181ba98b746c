use Rattle.std.proofs.Common.{◌≡◌, ◌≤◌, ◌+◌, ◌-◌, ◌<◌, ◌⊎◌, inl, inr, length, arith, length-set, ◌∙◌}
use Rattle.std.proofs.lemmas.Option.{slice_get-get_or}
use Rattle.p9_init.proofs.Entries.{deal, all_dealt}
use Rattle.p9_init.proofs.writing.break_addresses.Goals as goal
use Rattle.p9_init.proofs.writing.break_addresses.Goals.{then-end-cells, else-end-cells}

pub loop-at-preserved : goal.loop-at-preserved
loop-at-preserved c =
    let i = c.loop-at.invariant in
    let test : c.loop-at.at < c.if-end-cells.last = c.loop-at-test.true in
    let last : c.if-end-cells.last ≤ length c.args.cells.now = i.last in
    let size : length c.loop-at.cells ≡ length c.args.cells.now = i.size in
    let from : c.args.start - 3 ≤ c.loop-at.at = i.from in
    let high : c.loop-at.at < length c.loop-at.cells = omega (arith, test, last, size) in
    record {
      size = length-set c.loop-at.cells c.loop-at.at c.broken.result ∙ size;
      from = omega (arith, from);
      last = last;
      each = deal c.args.start c.args.end (c.args.start - 3) c.loop-at.at c.loop-at.cells c.args.cells.now _ c.broken.result from high (slice_get-get_or c.loop-at.cells c.loop-at.at _ high) c.broken.ensures i.each;
    }

pub returns-clause-each : goal.returns-clause-each
returns-clause-each c =
    let i = c.loop-at.invariant in
    let behind : c.if-end-cells.last ≤ c.loop-at.at = omega (arith, c.loop-at-test.false) in
    let bound : (c.if-end-cells.last ≡ c.args.end + 3) ⊎ (length c.args.cells.now ≤ c.if-end-cells.last) =
    elim c.if-end-cells.branch [ then-end-cells w ↦ inl w.last-is | else-end-cells w ↦ inr (let e = w.last-is in omega (arith, e)) ] in
    all_dealt c.args.start c.args.end c.loop-at.at c.if-end-cells.last c.loop-at.cells c.args.cells.now c.requires.parts c.requires.order behind bound i.each
