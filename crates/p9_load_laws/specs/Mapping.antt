-- The addresses at which scheduled lines are entered are a map of the program's lines.
use Rattle.std.specs.Prelude.{ℕ, ◌+◌, ◌^◌, ◌≤◌, ◌<◌, List, length, All}
use Rattle.p9_abs.specs.declared.modules.AModule.{AModule}
use Rattle.p9_abs.specs.BuiltIn.{linked}
use Rattle.p9_abs.specs.Programs.{init_size, bss_size}
use Rattle.p9_abs.specs.Validity.{IsValid}
use Rattle.p9_base.specs.Core.{stack_start}
use Rattle.p9_r3k.specs.declared.lines.Line.{Line}
use Rattle.p9_r3k.specs.Delayed.{line_address}
use Rattle.p9_slot.specs.Schedule.{EachOnce, CallsReturn, TargetsDivide}
use Rattle.p9_expand.specs.Laws.{IsMarked}
use Rattle.p9_expand.specs.Program.{program_lines}
use Rattle.p9_refine.specs.Maps.{IsMap}
use Rattle.p9_load_laws.specs.Showing.{entry_address, data_start_of}

-- where the program's lines are scheduled, within 256 MiB of text
abbrev pub ScheduleMaps : Type 0
ScheduleMaps =
    (modules : List AModule) (moved : List ℕ) (new : List Line) → All IsValid modules → IsMarked modules (program_lines modules) →
    EachOnce (program_lines modules) new moved → CallsReturn (program_lines modules) new moved → TargetsDivide (program_lines modules) new moved →
    line_address (length new) < 2 ^ 28 → IsMap modules (entry_address moved new)

-- the data lie behind them, and, where they are at most 16 MiB, below the stack
pub record LeavesRoom (modules : List AModule) (line : ℕ → ℕ) (data_start : ℕ) : Type 0 where
  pub before_data : (i : ℕ) → i < length (program_lines modules) → line i < data_start
  pub room : data_start + init_size (linked modules) + bss_size (linked modules) < stack_start

abbrev pub ScheduleLeavesRoom : Type 0
ScheduleLeavesRoom =
    (modules : List AModule) (moved : List ℕ) (new : List Line) → EachOnce (program_lines modules) new moved →
    line_address (length new) < 2 ^ 28 → init_size (linked modules) + bss_size (linked modules) ≤ 2 ^ 24 →
    LeavesRoom modules (entry_address moved new) (data_start_of new)
