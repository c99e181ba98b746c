-- A file as its lines, with which line says each fact first and the number of each symbol.
use Rattle.std.specs.Prelude.{ℕ, List, Option, unwrap_or, slice_get, None, Some, option_and_then}
use Rattle.p9_statement.specs.declared.operands.SymbolName.{SymbolName}
use Rattle.p9_statement.specs.declared.statements.Statement.{Statement}
use Rattle.p9_statement.specs.declared.statements.Line.{Line}
use Rattle.p9_rows.specs.declared.rows.Row.{Row}
use Rattle.p9_facts.specs.declared.facts.Fact.{Fact}
use Rattle.p9_facts.specs.Facts.{first_row, held}
use Rattle.p9_facts.specs.Names.{symbols_of, number_in, number_held}
use Rattle.p9_asm.specs.declared.tables.Tables.{Tables}

pub record File : Type 0 where
  pub rows : List Row
  pub first : Fact → Option ℕ
  pub number : SymbolName → Option ℕ

abbrev pub file_of : List Row → File
file_of rows = record { rows = rows; first = first_row rows; number = number_in (symbols_of rows) }

-- the file that tables hold
abbrev pub file_in : Tables → File
file_in tables = record { rows = tables.rows.items; first = held tables.facts; number = number_held tables.names }

-- each symbol of a file has a number
abbrev pub number_of : File → SymbolName → ℕ
number_of file s = unwrap_or (file.number s) 0

abbrev pub statement_in : Option Line → Option Statement
statement_in None = None
statement_in (Some line) = line.statement

abbrev pub statement_at : File → ℕ → Option Statement
statement_at file n = option_and_then (λ (row : Row). statement_in row.content) (slice_get file.rows n)
