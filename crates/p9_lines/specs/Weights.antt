-- The machine words that lines need at most, with the no-ops of the schedule: one behind each branch, jump or load, and
-- two before each line that writes HI or LO.
use Rattle.std.specs.Prelude.{ℕ, ◌+◌, if◌then◌else◌, List, sum_by}
use Rattle.p9_r3k.specs.declared.inst.Inst.{Inst}
use Rattle.p9_r3k.specs.declared.lines.Line.{Line}
use Rattle.p9_r3k.specs.Effects.{writes_pair}
use Rattle.p9_r3k.specs.Uses.{delays}

abbrev pub inst_words : Inst → ℕ
inst_words inst = 1 + (if delays inst then 1 else 0) + (if writes_pair inst then 2 else 0)

abbrev pub words_needed : List Line → ℕ
words_needed lines = sum_by (λ (line : Line). inst_words line.inst) lines
