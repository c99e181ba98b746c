-- Sizes of frames: what code names in its frame (`greatest_named`), where the automatics stand
-- (`offsets_from`), and the sum that a frame doesn't pass (`stated_sum`).
use Rattle.std.specs.Prelude.{ℕ, ◌+◌, ◌*◌, ◌/◌, ◌==◌, max, Option, Some, None, List, [], ◌∷◌, sum_by, if◌then◌else◌}
use Rattle.p9_abs.specs.declared.instructions.Abs.{Abs}
use Rattle.p9_abs.specs.declared.instructions.AFunction.{AFunction}
use Rattle.p9_abs.specs.declared.forms.Location.{Location}
use Rattle.p9_abs.specs.declared.forms.Location.TheVariants.{Based}
use Rattle.p9_abs.specs.declared.forms.Form.{Form}
use Rattle.p9_abs.specs.declared.forms.Form.TheVariants as forms
use Rattle.p9_abs.specs.Forms.{decoded}

-- up to a multiple of 4
abbrev pub rounded : ℕ → ℕ
rounded n = (n + 3) / 4 * 4

-- the o of a memory operand o(R29)
abbrev pub stack_offset : Location → ℕ
stack_offset (Based r o) = if r == 29 then o else 0
stack_offset _ = 0

abbrev pub offset_in : Form → ℕ
offset_in (forms.Load w from to) = stack_offset from
offset_in (forms.Store w from to) = stack_offset to
offset_in _ = 0

abbrev pub offset_of : Option Form → ℕ
offset_of None = 0
offset_of (Some form) = offset_in form

-- the greatest o(R29) that code names, or 0
abbrev pub greatest_named : List Abs → ℕ
greatest_named [] = 0
greatest_named (a ∷ rest) = max (offset_of (decoded a)) (greatest_named rest)

-- the automatics stand behind 0(R29), 4(R29) and all words that are named
abbrev pub first_offset : ℕ → ℕ
first_offset named = rounded (max 4 named) + 4

-- offsets of automatics of these sizes, each a multiple of 4
abbrev pub offsets_from : ℕ → List ℕ → List ℕ
offsets_from first [] = []
offsets_from first (size ∷ sizes) = first ∷ offsets_from (first + rounded size) sizes

abbrev pub end_from : ℕ → List ℕ → ℕ
end_from first sizes = first + sum_by rounded sizes

-- 8 bytes, the greatest o(R29) and the automatics, each rounded up to 4
abbrev pub stated_sum : AFunction → ℕ
stated_sum f = 8 + rounded (greatest_named f.code) + sum_by rounded f.autos
