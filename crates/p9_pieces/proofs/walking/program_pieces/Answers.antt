use Rattle.std.proofs.Common.{◌≡◌, ◌++◌, ap, ◌∙◌, arith}
use Rattle.p9_lines.specs.FormLines.{start_lines}
use Rattle.p9_pieces.specs.Callees.{callee_of}
use Rattle.p9_pieces.specs.Pieces.{pieces_from, joined}
use Rattle.p9_pieces.proofs.Within.{program_within}
use Rattle.p9_pieces.proofs.walking.program_pieces.Goals as goal

pub returns-clause-words : goal.returns-clause-words
returns-clause-words c =
    let a = c.args in
    let started : c.add_start.new.lines.items ≡ start_lines a.unit a.symbol a.offset = grind arith in
    program_within (callee_of a.callees.now) a.unit a.symbol a.offset a.routines.now c.add_functions.new.pieces.lines.items
    (c.in_ok-add_functions.ensures.lines ∙ ap (λ l. l ++ joined (pieces_from (callee_of a.callees.now) 0 a.routines.now)) started)
