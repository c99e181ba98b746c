-- What holds of the lines of each form.
use Rattle.std.specs.Prelude.{ℕ, ◌≡◌, ◌≤◌, ◌<◌, ◌⊎◌, Bool, true, false, Option, Some, None, List, [], ◌∷◌, length}
use Rattle.p9_abs.specs.declared.forms.Form.{Form}
use Rattle.p9_abs.specs.declared.forms.Form.TheVariants as forms
use Rattle.p9_abs.specs.Forms.{words_of, entry_weight, start_weight}
use Rattle.p9_r3k.specs.declared.inst.Inst.{Inst}
use Rattle.p9_r3k.specs.declared.lines.Line.{Line}
use Rattle.p9_r3k.specs.Uses.{names_place}
use Rattle.p9_lines.specs.declared.parts.Setting.{Setting}
use Rattle.p9_lines.specs.declared.parts.Way.{Way}
use Rattle.p9_lines.specs.FormLines.{lines_of, entry_lines, start_lines}
use Rattle.p9_lines.specs.Weights.{words_needed}

-- Weights

-- with the no-ops that they need, the lines of a form are within its weight
abbrev pub WithinWeights : Type 0
WithinWeights = (g : Setting) (w : Way) (form : Form) → words_needed (lines_of g w form) ≤ words_of form

abbrev pub EntryWithin : Type 0
EntryWithin = (g : Setting) → words_needed (entry_lines g) ≤ entry_weight

abbrev pub StartWithin : Type 0
StartWithin = (unit symbol offset : ℕ) → words_needed (start_lines unit symbol offset) ≤ start_weight

-- each form has a line
abbrev pub HaveLines : Type 0
HaveLines = (g : Setting) (w : Way) (form : Form) → 0 < length (lines_of g w form)

-- Ways

abbrev pub is_branch : Form → Bool
is_branch (forms.BranchPair test a b l) = true
is_branch (forms.BranchSign test a l) = true
is_branch _ = false

-- an instruction that names its place has a target, and a target is the goal, or where it may be the next instruction
abbrev pub LeadsOn : Bool → Way → Inst → Option ℕ → Type 0
LeadsOn may w inst None = names_place inst ≡ false
LeadsOn may w inst (Some t) = ((may ≡ true) × (t ≡ w.next)) ⊎ (w.goal ≡ Some t)

abbrev pub Lead : Bool → Way → List Line → Type 0
Lead may w [] = Unit {0}
Lead may w (line ∷ rest) = LeadsOn may w line.inst line.target × Lead may w rest

-- only branches may go to the next instruction
abbrev pub LeadsAll : Type 0
LeadsAll = (g : Setting) (w : Way) (form : Form) → Lead (is_branch form) w (lines_of g w form)

-- the lines of an entry go nowhere: they do for each way
abbrev pub EntryLeads : Type 0
EntryLeads = (may : Bool) (w : Way) (g : Setting) → Lead may w (entry_lines g)
