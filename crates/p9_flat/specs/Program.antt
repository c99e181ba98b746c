-- The code of a whole program, and the machine's table of its functions.
use Rattle.std.specs.Prelude.{◌≡◌, ℕ, List, Option, Some, None}
use Rattle.p9_cmean.specs.Cells.{FunctionName}
use Rattle.p9_cmean.specs.Union.{FunctionEntry, Union, base_need}
use Rattle.p9_cmean.specs.CRun.{Callee, Defined, NoCallee, callee, surroundings, functions_of}
use Rattle.p9_cmean.specs.CRun as callees
use Rattle.p9_flat.specs.declared.op.Op.{Op}
use Rattle.p9_flat.specs.Code.{Numbers}
use Rattle.p9_flat.specs.Flat.{HasAt, function_code, parameter_sizes}
use Rattle.p9_flat.specs.Laws.{AreNamed}
use Rattle.p9_flat.specs.Machine.{Entry, Code, System, Bare, Table, IsTable}
use Rattle.p9_flat.specs.Step.{Names}

-- The code has that of each function at the function's place. Each module has its own numbers.
pub record IsLinked (union : Union) (names : Names) (numbers : ℕ → Numbers) (code : List Op) (place : FunctionName → ℕ) : Type 0 where
  pub named : (name : FunctionName) (entry : FunctionEntry) → callee union name ≡ Defined entry
      → AreNamed names (numbers entry.owner) (surroundings union entry.owner entry.tags)
  pub stands : (name : FunctionName) (entry : FunctionEntry) → callee union name ≡ Defined entry
      → HasAt code (place name) (function_code (numbers entry.owner) (surroundings union entry.owner entry.tags) (place name) entry.definition)

abbrev pub defined_entry : (pc : ℕ) → FunctionEntry → Option (List ℕ) → Entry
defined_entry pc entry None = Bare entry.need
defined_entry pc entry (Some sizes) = Code pc entry.owner sizes entry.need

abbrev pub callee_entry : (pc : ℕ) → Callee → Entry
callee_entry pc (callees.System system) = System system
callee_entry pc (Defined entry) = defined_entry pc entry (parameter_sizes entry.tags entry.definition.name.type)
callee_entry pc NoCallee = Bare base_need

abbrev pub table_of : Union → (place : FunctionName → ℕ) → Table
table_of union place name = callee_entry (place name) (callee union name)

-- The table of a program whose code is so names the program's functions.
abbrev pub ProgramsHaveTables : Type 0
ProgramsHaveTables =
    (union : Union) (names : Names) (numbers : ℕ → Numbers) (code : List Op) (place : FunctionName → ℕ)
    → IsLinked union names numbers code place → IsTable names code (functions_of union) (table_of union place)
