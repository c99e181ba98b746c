-- Maps of the addresses of a program's lines, and placings that go by them.
use Rattle.std.specs.Prelude.{ℕ, ◌+◌, ◌≡◌, ◌≤◌, ◌<◌, true, Some, List, length, slice_get}
use Rattle.p9_base.specs.Core.{stack_start}
use Rattle.p9_abs.specs.declared.modules.AModule.{AModule}
use Rattle.p9_abs.specs.BuiltIn.{linked}
use Rattle.p9_abs.specs.Runs.{Routine}
use Rattle.p9_abs.specs.Programs.{Placing, IsCodeAddress, routines_of, addresses_of, init_size, bss_size}
use Rattle.p9_r3k.specs.Straight.{Addresses}
use Rattle.p9_r3k.specs.Uses.{links}
use Rattle.p9_slot.specs.Schedule.{is_at}
use Rattle.p9_expand.specs.Program.{program_lines}
use Rattle.p9_expand_laws.specs.Standing.{entry_of, line_of}

-- the first line of function f, and that of its instruction k
abbrev pub function_line : List AModule → ℕ → ℕ
function_line modules f = line_of modules (entry_of modules f)

abbrev pub instruction_line : List AModule → (f k : ℕ) → ℕ
instruction_line modules f k = line_of modules (entry_of modules f + 1 + k)

-- what is asked of the addresses of lines
pub record IsMap (modules : List AModule) (line : ℕ → ℕ) : Type 0 where
  -- they are addresses of the text and never fall
  pub code : (i : ℕ) → i < length (program_lines modules) → IsCodeAddress (line i)
  pub rising : (i j : ℕ) → i ≤ j → j < length (program_lines modules) → line i ≤ line j
  -- all lines before a function have lesser addresses than its first: so functions differ, and the start from the first
  pub apart : (f i : ℕ) (r : Routine) → slice_get (routines_of modules) f ≡ Some r → i < function_line modules f → line i < line (function_line modules f)
  -- the line behind a call has a greater address than the call
  pub returns : (i : ℕ) → is_at links (program_lines modules) i ≡ true → line i < line (i + 1)

-- a placing goes by a map: each function and each instruction has the address of its first line, and the data lie between
-- the lines and the stack
pub record GoesBy (modules : List AModule) (line : ℕ → ℕ) (p : Placing) : Type 0 where
  pub functions : (f : ℕ) (r : Routine) → slice_get (routines_of modules) f ≡ Some r → p.function f ≡ line (function_line modules f)
  pub instructions : (f k : ℕ) (r : Routine) → slice_get (routines_of modules) f ≡ Some r → k < length r.def.code → p.instruction f k ≡ line (instruction_line modules f k)
  pub before_data : (i : ℕ) → i < length (program_lines modules) → line i < p.data_start
  pub room : p.data_start + init_size (linked modules) + bss_size (linked modules) < stack_start

-- the straight machine finds lines by the map, and symbols where the run of the modules finds them
abbrev pub addresses_by : List AModule → (ℕ → ℕ) → Placing → Addresses
addresses_by modules line p = record { line = line; symbol = (addresses_of modules p).symbol }
