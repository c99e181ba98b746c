-- What the schedule asks of lines, one after the other.
use Rattle.std.specs.Prelude.{ℕ, ◌≡◌, ◌<◌, false, Option, Some, None, List, [], ◌∷◌}
use Rattle.p9_r3k.specs.declared.inst.Inst.{Inst}
use Rattle.p9_r3k.specs.declared.lines.Line.{Line}
use Rattle.p9_r3k.specs.Uses.{names_place}

-- an instruction that names its place has a target, and a target is below a number
abbrev pub IsAimed : ℕ → Inst → Option ℕ → Type 0
IsAimed n inst None = names_place inst ≡ false
IsAimed n inst (Some t) = t < n

abbrev pub AreAimed : ℕ → List Line → Type 0
AreAimed n [] = Unit {0}
AreAimed n (line ∷ rest) = IsAimed n line.inst line.target × AreAimed n rest
