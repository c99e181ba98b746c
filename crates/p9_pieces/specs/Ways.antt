-- Where instructions lead, by their numbers in the text.
use Rattle.std.specs.Prelude.{ℕ, ◌+◌, ◌&&◌, nat_le, Bool, false, Option, Some, None, List, [], ◌∷◌, slice_index, length, nat_lt, if◌then◌else◌}
use Rattle.p9_abs.specs.declared.instructions.Abs.{Abs}
use Rattle.p9_abs.specs.declared.forms.Form.{Form}
use Rattle.p9_abs.specs.declared.forms.Form.TheVariants as forms
use Rattle.p9_abs.specs.Forms.{weight_of}
use Rattle.p9_abs.specs.Runs.{Routine, keeps, taken_by}
use Rattle.p9_lines.specs.declared.parts.Setting.{Setting}
use Rattle.p9_lines.specs.declared.parts.Way.{Way}

-- what the lines of a function's instructions depend on: its setting, the number of its first instruction, the words
-- before each of its instructions, and the number of the function that a symbol names
pub record Scope : Type 0 where
  pub setting : Setting
  pub first : ℕ
  pub words : List ℕ
  pub callee : ℕ → Option ℕ

-- the words before each instruction of code, where there are n before the first
abbrev pub words_from : ℕ → List Abs → List ℕ
words_from n [] = []
words_from n (a ∷ rest) = n ∷ words_from (n + weight_of a) rest

abbrev pub setting_of : Routine → Setting
setting_of r = record { unit = r.unit; taken = taken_by r.def; keeps = keeps r.def }

-- of a function whose entry has number n, where symbols of modules name functions
abbrev pub scope_of : (ℕ → ℕ → Option ℕ) → ℕ → Routine → Scope
scope_of callee n r = record {
  setting = setting_of r;
  first = n + 1;
  words = words_from 0 r.def.code;
  callee = callee r.unit;
}

-- the most words between a branch and its goal that a half word of words reaches both ways: 131,068 bytes
abbrev pub reach : ℕ
reach = 32767

-- so many words and so many are no further apart
abbrev pub in_reach : ℕ → ℕ → Bool
in_reach m n = nat_le m (n + reach) && nat_le n (m + reach)

-- the number of the instruction that a label is, if it is one
abbrev pub label_goal : Scope → ℕ → Option ℕ
label_goal s l = if nat_lt l (length s.words) then Some (s.first + l) else None

abbrev pub goal_of : Scope → Form → Option ℕ
goal_of s (forms.BranchPair test a b l) = label_goal s l
goal_of s (forms.BranchSign test a l) = label_goal s l
goal_of s (forms.Jump l) = label_goal s l
goal_of s (forms.Call symbol) = s.callee symbol
goal_of s _ = None

-- whether a branch at instruction k reaches its label
abbrev pub is_short : Scope → ℕ → Form → Bool
is_short s k (forms.BranchPair test a b l) = in_reach (slice_index s.words k) (slice_index s.words l)
is_short s k (forms.BranchSign test a l) = in_reach (slice_index s.words k) (slice_index s.words l)
is_short s k _ = false

abbrev pub way_of : Scope → ℕ → Form → Way
way_of s k form = record { next = s.first + k + 1; goal = goal_of s form; short = is_short s k form }
