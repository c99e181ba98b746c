-- What holds of pieces.
use Rattle.std.specs.Prelude.{ℕ, ◌≤◌}
use Rattle.p9_abs.specs.declared.instructions.Abs.{Abs}
use Rattle.p9_abs.specs.Forms.{decoded, weight_of}
use Rattle.p9_lines.specs.Weights.{words_needed}
use Rattle.p9_pieces.specs.Ways.{Scope}
use Rattle.p9_pieces.specs.Pieces.{form_lines}

-- with the no-ops that they need, the lines of an instruction are within its weight
abbrev pub InstructionsWithin : Type 0
InstructionsWithin = (s : Scope) (k : ℕ) (a : Abs) → words_needed (form_lines s k (decoded a)) ≤ weight_of a
