-- What it is to follow a step of abstract code.
use Rattle.std.specs.Prelude.{ℕ, ◌≡◌, Bool, true, false, Option, Some, option_map, if◌then◌else◌, List, length}
use Rattle.p9_base.specs.Words.{word_sum}
use Rattle.p9_base.specs.Core.{reg, with_reg}
use Rattle.p9_base.specs.Effects.{load_word}
use Rattle.p9_base.specs.declared.halt.Effect.TheVariants as effects
use Rattle.p9_base.specs.SystemCalls.{State}
use Rattle.p9_abs.specs.declared.forms.Form.{Form}
use Rattle.p9_abs.specs.declared.forms.Form.TheVariants as forms
use Rattle.p9_abs.specs.Steps.{Step, Next, Turns, Calls, Returns, Exits, Undefined}
use Rattle.p9_abs.specs.Runs.{linked_to}
use Rattle.p9_r3k.specs.declared.lines.Line.{Line}
use Rattle.p9_r3k.specs.Straight.{Addresses, Straight, line_at}
use Rattle.p9_lines.specs.declared.parts.Setting.{Setting}
use Rattle.p9_lines.specs.declared.parts.Way.{Way}
use Rattle.p9_forms.specs.Standing.{Arrives}

-- where the lines of an instruction stand: among which lines, which line each number of an instruction is, and the number
-- of the first of them
pub record Site : Type 0 where
  pub addresses : Addresses
  pub lines : List Line
  pub place : ℕ → ℕ
  pub setting : Setting
  pub way : Way
  pub first : ℕ

-- Calls: the line of the function that is called, by name or by address

abbrev pub called_line : Site → Form → ℕ → Option ℕ
called_line h (forms.Call symbol) to = option_map h.place h.way.goal
called_line h _ to = line_at h.addresses.line to 0 (length h.lines)

-- Returns: the return address is kept at 0(R29) or in R31

abbrev pub IsKeptReturn : Bool → State → ℕ → Type 0
IsKeptReturn true s back = load_word s.core 31 (reg s.core 29) ≡ effects.Load 31 back
IsKeptReturn false s back = reg s.core 31 ≡ back

abbrev pub IsReturn : Setting → State → ℕ → Type 0
IsReturn g s back = IsKeptReturn g.keeps s back

abbrev pub raised_by : ℕ → State → State
raised_by n s = record s { core = record s.core { regs = with_reg s.core.regs 29 (word_sum (reg s.core 29) n) } }

-- R31 is the address that it returns to, and R29 is what it was at the call
abbrev pub returned : Setting → ℕ → State → State
returned g back s = if g.keeps then raised_by g.taken (linked_to back s) else linked_to back s

-- the straight machine does a step from where it stands: it comes to the next instruction, to the goal of a branch that
-- is taken, to the function that is called, with the address of the next line in R31, or to the line that is returned to
abbrev pub Follows : Site → Form → Straight → Step → Type 0
Follows h form from (Next y) = Arrives h.addresses h.lines from y.state (h.place h.way.next)
Follows h form from (Turns true y) = (q : ℕ) → h.way.goal ≡ Some q → Arrives h.addresses h.lines from y.state (h.place q)
Follows h form from (Turns false y) = Arrives h.addresses h.lines from y.state (h.place h.way.next)
Follows h form from (Calls to y) =
    (j : ℕ) → called_line h form to ≡ Some j → Arrives h.addresses h.lines from (linked_to (h.addresses.line (h.place h.way.next)) y.state) j
Follows h form from (Returns y) =
    (back j : ℕ) → IsReturn h.setting y.state back → line_at h.addresses.line back 0 (length h.lines) ≡ Some j →
    Arrives h.addresses h.lines from (returned h.setting back y.state) j
Follows h form from (Exits y) = (at : ℕ) × Arrives h.addresses h.lines from y.state at
Follows h form from Undefined = Unit {0}
