use Rattle.std.proofs.Common.{ap, ◌∙◌, arith}
use Rattle.p9_sig.specs.Parts.{writes, ◌⨟◌}
use Rattle.p9_sig.specs.Writing.{final}
use Rattle.p9_sig.proofs.Numbers.{decimal_is}
use Rattle.p9_sig.proofs.writer.Writer.put_number.Goals as goal

pub returns-clause-then : goal.returns-clause-then
returns-clause-then c = λ tag now.
    c.in_ok-put.ensures.then tag now
    ∙ ap (λ xs. final tag c.args.self.now (writes xs ⨟ now)) (c.as_bytes.ensures.value ∙ c.format-digits.ensures.text ∙ decimal_is c.args.n (omega arith))
