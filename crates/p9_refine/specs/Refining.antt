-- The straight run of a program's lines does as the run of its modules.
use Rattle.std.specs.Prelude.{ℕ, ◌+◌, ◌*◌, ◌%◌, ◌≡◌, ◌≤◌, List, length, All}
use Rattle.p9_base.specs.declared.halt.Ending.{Ending}
use Rattle.p9_base.specs.declared.halt.Ending.TheVariants.{Running, Exited, Halted}
use Rattle.p9_base.specs.Core.{text_start}
use Rattle.p9_base.specs.SystemCalls.{State}
use Rattle.p9_abs.specs.declared.modules.AModule.{AModule}
use Rattle.p9_abs.specs.BuiltIn.{linked}
use Rattle.p9_abs.specs.Runs.{Status, Going, Gone, Broken}
use Rattle.p9_abs.specs.Programs.{Placing, IsPlacing, start_state, arun}
use Rattle.p9_object.specs.Laws.{IsObject}
use Rattle.p9_names.specs.declared.rules.Rule.TheVariants.{Once}
use Rattle.p9_names.specs.Linking.{IsKept}
use Rattle.p9_r3k.specs.declared.lines.Line.{Line}
use Rattle.p9_r3k.specs.Straight.{Addresses, Straight, straight_run}
use Rattle.p9_forms.specs.Standing.{Rest, stands}
use Rattle.p9_forms.specs.Entering.{based_at}
use Rattle.p9_expand.specs.Program.{program_lines}
use Rattle.p9_refine.specs.Maps.{IsMap, GoesBy, addresses_by, instruction_line}

-- Runs

-- a straight run comes in a number of lines, from the least to the most, to where it stands as a state before a line: with
-- the same registers but R28, the same memory, input and output, and the same end
pub record Comes (a : Addresses) (lines : List Line) (from : Straight) (least most : ℕ) (s : State) (at : ℕ) : Type 0 where
  pub count : ℕ
  pub temporary : ℕ
  pub rest : Rest
  pub many : least ≤ count
  pub few : count ≤ most
  pub run : straight_run a lines count from ≡ stands temporary rest s at

abbrev pub HasExited : Ending → Type 0
HasExited (Exited at len) = Unit {0}
HasExited Running = ⊥
HasExited (Halted cause pc) = ⊥

-- The straight run stands as a run of modules after n steps: where that goes on, before the lines of the instruction that
-- comes next; where that has exited, at the same exit. Nothing is said where a step was undefined.
abbrev pub StandsAs : List AModule → Addresses → Straight → ℕ → Status → Type 0
StandsAs modules a from n (Going r) =
    (r.mach.state.core.ending ≡ Running)
    × Comes a (program_lines modules) from (n + 1) (7 * n + 6) r.mach.state (instruction_line modules r.routine r.mach.at)
StandsAs modules a from n (Gone s) =
    HasExited s.core.ending × ((at : ℕ) × Comes a (program_lines modules) from (n + 1) (7 * n + 6) s at)
StandsAs modules a from n Broken = Unit {0}

-- before the first line R30 is 0, which the lines of the start set
abbrev pub before_start : List AModule → Placing → (below input : List ℕ) → State
before_start modules p below input = based_at 0 (start_state modules p below input)

abbrev pub at_start : List AModule → Placing → (below input : List ℕ) → Straight
at_start modules p below input = record { state = before_start modules p below input; at = 0 }

-- for objects that define no name twice, each map of addresses and each placing that goes by it, any bytes below the data
-- and any input: after each number of steps
abbrev pub ProgramRefines : Type 0
ProgramRefines =
    (modules : List AModule) (line : ℕ → ℕ) (p : Placing) (below input : List ℕ) (n : ℕ) →
    All IsObject modules → IsKept Once (linked modules) → IsMap modules line → GoesBy modules line p → text_start + length below ≡ p.data_start →
    StandsAs modules (addresses_by modules line p) (at_start modules p below input) n (arun modules p below input n)

-- with the data at a page, what goes by a map is a placing
abbrev pub MapsPlace : Type 0
MapsPlace =
    (modules : List AModule) (line : ℕ → ℕ) (p : Placing) → All IsObject modules → IsMap modules line → GoesBy modules line p → p.data_start % 4096 ≡ 0 →
    IsPlacing modules p
