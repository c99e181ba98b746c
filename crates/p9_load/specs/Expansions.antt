-- Modules that are joined, placed and expanded.
use Rattle.std.specs.Prelude.{ℕ, ◌+◌, ◌≡◌, ◌≤◌, List}
use Rattle.p9_abs.specs.declared.modules.AModule.{AModule}
use Rattle.p9_abs.specs.BuiltIn.{linked}
use Rattle.p9_abs.specs.Programs.{routines_of, inits_of, bss_of, init_size, bss_size}
use Rattle.p9_names.specs.Linking.{IsTable, ChoosesAll}
use Rattle.p9_place.specs.Places.{spots}
use Rattle.p9_slot.specs.Schedule.{HaveTargets, TargetsAreLines}
use Rattle.p9_pieces.specs.Callees.{callee_in}
use Rattle.p9_expand.specs.Program.{starts_of, program_lines}
use Rattle.p9_load.specs.declared.expansion.Expansion.{Expansion}

pub record IsExpansion (modules : List AModule) (e : Expansion) : Type 0 where
  -- the table of global names
  pub table : IsTable (linked modules) e.table.defs.entries
  pub chosen : ChoosesAll (linked modules) e.table.defs.entries
  -- where data lie
  pub inits : e.places.inits.items ≡ spots 0 (inits_of (linked modules))
  pub bss : e.places.bss.items ≡ spots e.places.data_size (bss_of (linked modules))
  pub data_size : e.places.data_size ≡ init_size (linked modules)
  pub bss_size : e.places.bss_size ≡ bss_size (linked modules)
  -- the lines, which may be scheduled, and the first of each entry and instruction
  pub lines : e.lines ≡ program_lines modules
  pub starts : e.starts.items ≡ starts_of (callee_in modules) (routines_of modules)
  pub targets : HaveTargets e.lines
  pub aims : TargetsAreLines e.lines
