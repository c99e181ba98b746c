-- The number of the function that a module's symbol names.
use Rattle.std.specs.Prelude.{ℕ, Option, Some, if◌then◌else◌, option_and_then, List, bytes_eq}
use Rattle.std.specs.Map.{lookup}
use Rattle.p9_abs.specs.declared.modules.Def.{Def}
use Rattle.p9_abs.specs.declared.modules.Symbol.{Symbol}
use Rattle.p9_abs.specs.declared.modules.AModule.{AModule}
use Rattle.p9_abs.specs.Names.{symbol_at}
use Rattle.p9_abs.specs.Programs.{definition_of, routines_of}
use Rattle.p9_abs.specs.BuiltIn.{linked}
use Rattle.p9_text.specs.Entries.{entry_number, held}
use Rattle.p9_pieces.specs.declared.callees.Callees.{Callees}

-- the number of the entry of the function that a module's symbol stands for
abbrev pub callee_in : List AModule → (unit symbol : ℕ) → Option ℕ
callee_in modules unit symbol =
    option_and_then (entry_number (routines_of modules) 0) (definition_of (linked modules) (record { «module» = unit; symbol = symbol }))

-- by a table of names, where a local symbol stands for itself
abbrev pub named_by : List (List ℕ × Def) → Def → Symbol → Option Def
named_by table d s = if s.local then Some d else lookup (bytes_eq s.name) table

-- by a table of names and the numbers of functions
abbrev pub callee_by : List AModule → List (List ℕ × Def) → (Def → Option ℕ) → (unit symbol : ℕ) → Option ℕ
callee_by modules table numbers unit symbol =
    (let d : Def = record { «module» = unit; symbol = symbol } in
    option_and_then numbers (option_and_then (named_by table d) (symbol_at modules d)))

-- by what is held
abbrev pub callee_of : Callees → (unit symbol : ℕ) → Option ℕ
callee_of c unit symbol = callee_by c.program c.defs.now.entries (held c.entries) unit symbol
