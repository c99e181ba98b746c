use Rattle.std.proofs.Common.{◌++◌, codes, decimal, ap, sym, ◌∙◌}
use Rattle.p9_suite.specs.Answers.{executable_line, newline}
use Rattle.p9_suite.proofs.Puts.{line_is}
use Rattle.p9_suite.proofs.report.put_executable.Goals as goal

pub returns-in-BadMagic : goal.returns-in-BadMagic
returns-in-BadMagic g c =
    line_is _ (executable_line c.args.file.now c.args.fault) _ _ _ _ c.put_numbered.result
    (ap (λ n. c.args.file.now ++ (codes ": 50 BadMagic " ++ (decimal n ++ newline))) c.from.ensures ∙ sym (ap (executable_line c.args.file.now) c.in-BadMagic.is))
    c.put_numbered.ensures

pub returns-in-ShortFile : goal.returns-in-ShortFile
returns-in-ShortFile g c =
    line_is _ (executable_line c.args.file.now c.args.fault) _ _ _ _ c.put_numbered-in-ShortFile.result
    (sym (ap (executable_line c.args.file.now) c.in-ShortFile.is)) c.put_numbered-in-ShortFile.ensures

pub returns-in-BadSegment : goal.returns-in-BadSegment
returns-in-BadSegment g c =
    line_is _ (executable_line c.args.file.now c.args.fault) _ _ _ _ c.put_both.result
    (sym (ap (executable_line c.args.file.now) c.in-BadSegment.is)) c.put_both.ensures
