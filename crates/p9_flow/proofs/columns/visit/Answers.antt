use Rattle.std.proofs.Common.{ℕ, ◌==◌, ◌≡◌, ◌≢◌, true, not, arith, slice_index}
use Rattle.std.proofs.lemmas.Nat.{or_lt}
use Rattle.std.proofs.lemmas.Bool.Decides.{nat_tests}
use Rattle.p9_flow.proofs.Rising.{raised}
use Rattle.p9_flow.proofs.columns.visit.Goals as goal

differs : (x y : ℕ) → not (x == y) ≡ true → x ≢ y
differs x y e = grind (arith, nat_tests)

pub returns-clause-more : goal.returns-clause-more
returns-clause-more c = λ t.
    raised c.args.act c.args.i c.args.column.now c.args.word c.needed.result c.needed.ensures (differs _ _ t)
    (or_lt 64 (slice_index c.args.column.now c.args.i) c.needed.result (omega arith) (omega arith))
