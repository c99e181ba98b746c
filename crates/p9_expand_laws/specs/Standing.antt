-- The lines of a program stand where the laws of its instructions ask.
use Rattle.std.specs.Prelude.{ℕ, ◌+◌, ◌≡◌, Some, List, length, take, slice_get, sum_by, All}
use Rattle.p9_abs.specs.declared.instructions.Abs.{Abs}
use Rattle.p9_abs.specs.declared.modules.AModule.{AModule}
use Rattle.p9_abs.specs.declared.forms.Form.{Form}
use Rattle.p9_abs.specs.Forms.{decoded}
use Rattle.p9_abs.specs.Runs.{Routine}
use Rattle.p9_abs.specs.Programs.{routines_of}
use Rattle.p9_abs.specs.Validity.{IsValid}
use Rattle.p9_r3k.specs.declared.lines.Line.{Line}
use Rattle.p9_text.specs.Places.{places_of}
use Rattle.p9_lines.specs.FormLines.{lines_of, entry_lines, start_lines}
use Rattle.p9_pieces.specs.Callees.{callee_in}
use Rattle.p9_pieces.specs.Ways.{Scope, setting_of, scope_of, way_of}
use Rattle.p9_pieces.specs.Pieces.{Piece, pieces_from, joined}
use Rattle.p9_forms.specs.Standing.{Stand}
use Rattle.p9_expand.specs.Base.{argument_list, base_offset}
use Rattle.p9_expand.specs.Program.{program_lines}

-- the number of the entry of function f
abbrev pub entry_of : List AModule → ℕ → ℕ
entry_of modules f = sum_by places_of (take f (routines_of modules))

-- the first line of an entry or instruction, by its number; behind the last one the end of the lines
abbrev pub first_line : List Piece → ℕ → ℕ
first_line pieces i = 2 + length (joined (take i pieces))

abbrev pub line_of : List AModule → ℕ → ℕ
line_of modules i = first_line (pieces_from (callee_in modules) 0 (routines_of modules)) i

-- lines stand as those of one number, and those of the next number come behind them
pub record StandsAt (modules : List AModule) (i : ℕ) (lines : List Line) : Type 0 where
  pub there : Stand (program_lines modules) (line_of modules) (line_of modules i) lines
  pub next : line_of modules (i + 1) ≡ line_of modules i + length lines

-- what the lines of function f depend on
abbrev pub scope_in : List AModule → ℕ → Routine → Scope
scope_in modules f r = scope_of (callee_in modules) (entry_of modules f) r

abbrev pub EntriesStand : Type 0
EntriesStand =
    (modules : List AModule) (f : ℕ) (r : Routine) → All IsValid modules → slice_get (routines_of modules) f ≡ Some r →
    StandsAt modules (entry_of modules f) (entry_lines (setting_of r))

abbrev pub InstructionsStand : Type 0
InstructionsStand =
    (modules : List AModule) (f k : ℕ) (r : Routine) (a : Abs) (form : Form) → All IsValid modules → slice_get (routines_of modules) f ≡ Some r →
    slice_get r.def.code k ≡ Some a → decoded a ≡ Some form →
    (let s : Scope = scope_in modules f r in
    StandsAt modules (s.first + k) (lines_of s.setting (way_of s k form) form))

-- the start comes first
abbrev pub StartStands : Type 0
StartStands =
    (modules : List AModule) → All IsValid modules →
    Stand (program_lines modules) (line_of modules) 0 (start_lines (length modules) argument_list (base_offset modules))
