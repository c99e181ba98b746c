use Rattle.std.proofs.Common.{◌++◌, codes, decimal, ap, sym, ◌∙◌}
use Rattle.p9_suite.specs.Answers.{assembly_line, newline, place}
use Rattle.p9_suite.proofs.Puts.{line_is}
use Rattle.p9_suite.proofs.source.put_assembly.Goals as goal

pub returns-in-Reserved : goal.returns-in-Reserved
returns-in-Reserved g c =
    line_is _ (assembly_line c.args.file.now c.args.fault.now) _ _ _ _ c.put_fault_number.result
    (ap (λ l. place c.args.file.now l ++ (codes ": 33 Reserved " ++ (decimal c.from-register.result ++ newline))) c.from-line.ensures
    ∙ (ap (λ n. place c.args.file.now c.in-Reserved.line ++ (codes ": 33 Reserved " ++ (decimal n ++ newline))) c.from-register.ensures
    ∙ sym (ap (assembly_line c.args.file.now) c.in-Reserved.is)))
    c.put_fault_number.ensures

pub returns-in-LabelTwice : goal.returns-in-LabelTwice
returns-in-LabelTwice g c =
    line_is _ (assembly_line c.args.file.now c.args.fault.now) _ _ _ _ c.put_fault_name-in-LabelTwice.result
    (ap (λ l. place c.args.file.now l ++ (codes ": 35 LabelTwice " ++ (c.deref-in-LabelTwice.result.now ++ newline))) c.from-line-in-LabelTwice.ensures
    ∙ (ap (λ n. place c.args.file.now c.in-LabelTwice.line ++ (codes ": 35 LabelTwice " ++ (n ++ newline))) (c.deref-in-LabelTwice.ensures.value ∙ c.name-in-LabelTwice.view_is)
    ∙ sym (ap (assembly_line c.args.file.now) c.in-LabelTwice.is)))
    c.put_fault_name-in-LabelTwice.ensures
