-- When the words of lines can lead to the lines' targets.
use Rattle.std.specs.Prelude.{ℕ, ◌+◌, ◌^◌, ◌≡◌, ◌≤◌, Bool, true, false, List, length, slice_get, Some}
use Rattle.p9_r3k.specs.declared.inst.Inst.{Inst}
use Rattle.p9_r3k.specs.declared.inst.Inst.TheVariants.{J, Jal}
use Rattle.p9_r3k.specs.declared.lines.Line.{Line}

-- the way from line i to line t, counted in words from the line behind line i, fits 16 bits with a sign
abbrev pub IsNear : (i t : ℕ) → Type 0
IsNear i t = (t ≤ i + 2 ^ 15) × (i + 1 ≤ t + 2 ^ 15)

-- a jump, which reaches each line of a text below 2^28
abbrev pub is_jump : Inst → Bool
is_jump (J index) = true
is_jump (Jal index) = true
is_jump _ = false

-- each line's target is a line or the end, and near where the line is no jump
abbrev pub LinesReach : List Line → Type 0
LinesReach lines =
    (i t : ℕ) (line : Line) → slice_get lines i ≡ Some line → line.target ≡ Some t →
    (t ≤ length lines) × (is_jump line.inst ≡ false → IsNear i t)
