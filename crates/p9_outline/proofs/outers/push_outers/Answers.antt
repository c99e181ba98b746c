use Rattle.std.proofs.Common.{arith, sym, ap, ◌∙◌, true≢false}
use Rattle.p9_numbering.specs.Told.{symbols_told}
use Rattle.p9_outline.specs.Held.{has_name}
use Rattle.p9_outline.proofs.Pushing.{outer_passed}
use Rattle.p9_outline.proofs.outers.push_outers.Goals as goal
use Rattle.p9_outline.proofs.outers.push_outers.Goals.{in-Some+in_ok-push_outer, in_default}

pub loop-at-preserved : goal.loop-at-preserved
loop-at-preserved c m =
    elim c.match-get_index.branch [
      | in-Some+in_ok-push_outer w ↦
          outer_passed m (has_name c.args.statics.now.set.keys) (has_name c.args.used.now.set.keys) c.args.names.now.map.entries c.loop-at.at
          (w.in-Some.name.now, w.in-Some.known.now) w.has.result w.has-in-Some.result _ _ _ (sym w.in-Some.ensures.entry) (sym w.in-Some.ensures.value)
          w.has.ensures w.has-in-Some.ensures (ap (λ s. symbols_told m s.items) w.symbols-is ∙ w.in_ok-push_outer.ensures m) (c.loop-at.invariant m)
      | in_default w ↦ absurd (true≢false (sym (w.in_default.ensures.found.1 (omega (arith, c.loop-at-test.true, c.len-at-end.ensures.len)))))
    ]
