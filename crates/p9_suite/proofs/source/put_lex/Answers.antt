use Rattle.std.proofs.Common.{◌++◌, codes, decimal, ap, sym, ◌∙◌}
use Rattle.p9_suite.specs.Answers.{lex_line, newline, place}
use Rattle.p9_suite.proofs.Puts.{line_is}
use Rattle.p9_suite.proofs.source.put_lex.Goals as goal

pub returns-in-OpenText : goal.returns-in-OpenText
returns-in-OpenText g c =
    line_is _ (lex_line c.args.file.now c.args.fault.now) _ _ _ _ c.put_fault_number-in-OpenText.result
    (ap (λ l. place c.args.file.now l ++ (codes ": 3 OpenText " ++ (decimal c.from-at-in-OpenText.result ++ newline))) c.from-line-in-OpenText.ensures
    ∙ (ap (λ n. place c.args.file.now c.in-OpenText.line ++ (codes ": 3 OpenText " ++ (decimal n ++ newline))) c.from-at-in-OpenText.ensures
    ∙ sym (ap (lex_line c.args.file.now) c.in-OpenText.is)))
    c.put_fault_number-in-OpenText.ensures
