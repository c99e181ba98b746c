use Rattle.std.proofs.Common.{ℕ, ◌+◌, ◌-◌, ◌≡◌, arith}
use Rattle.p9_base.proofs.Bringing.{brings_part}
use Rattle.p9_base.proofs.Pieces.{fills_part}
use Rattle.p9_base.proofs.streams.fill_at.Goals as goal

pub returns-clause-fills : goal.returns-clause-fills
returns-clause-fills g c =
    let i : ℕ = c.args.start in
    let n : ℕ = c.args.count in
    let e : (i + n) - i ≡ n = omega arith in
    let f = rw e at c.fill.ensures.filled in
    rw e (fills_part i n (g.I.Source.left c.args.input.now) (g.I.Source.left c.fill.new.input) c.args.bytes.now c.fill.new.room c.fill.result c.requires f)

pub returns-clause-brings : goal.returns-clause-brings
returns-clause-brings g c =
    let i : ℕ = c.args.start in
    let n : ℕ = c.args.count in
    let e : (i + n) - i ≡ n = omega arith in
    let f = rw e at c.fill.ensures.brings in
    rw e (brings_part g.I.Source.did c.args.input.now c.fill.new.input i n c.args.bytes.now c.fill.new.room c.fill.result c.requires f)
