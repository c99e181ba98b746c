-- The instructions of a function.
use Rattle.std.specs.Prelude.{ℕ, List, [], ◌∷◌, map, Option, Some, unwrap_or, slice_get, option_map, option_and_then}
use Rattle.p9_abs.specs.declared.instructions.Op.{Op}
use Rattle.p9_abs.specs.declared.instructions.Operand.{Operand}
use Rattle.p9_abs.specs.declared.instructions.Operand.TheVariants as to
use Rattle.p9_abs.specs.declared.instructions.Abs.{Abs}
use Rattle.p9_statement.specs.declared.operands.Argument.{Argument}
use Rattle.p9_statement.specs.declared.operands.Argument.TheVariants as from
use Rattle.p9_statement.specs.declared.statements.Arguments.{Arguments}
use Rattle.p9_statement.specs.declared.statements.Statement.{Statement}
use Rattle.p9_statement.specs.declared.statements.Statement.TheVariants as statements
use Rattle.p9_statement.specs.Statements.{listed}
use Rattle.p9_rows.specs.declared.rows.Row.{Row}
use Rattle.p9_facts.specs.declared.facts.Fact.TheVariants.{Label}
use Rattle.p9_asm.specs.Files.{File, number_of, statement_in}

-- the number of the next instruction of its function, at a line
abbrev pub instruction_at : File → ℕ → Option ℕ
instruction_at file n = option_map (λ (row : Row). row.place.number) (slice_get file.rows n)

-- the instruction that a label of a function names
abbrev pub target_of : File → (function word : ℕ) → ℕ
target_of file f w = unwrap_or (option_and_then (instruction_at file) (file.first (Label f w))) 0

unfoldable pub operand_of : File → (function : ℕ) → Argument → Operand
operand_of file f (from.Register r) = to.Reg r
operand_of file f (from.Constant c) = to.Const c
operand_of file f (from.Address s o) = to.AddrSB (number_of file s) o
operand_of file f (from.ArgumentAddress o) = to.AddrFP o
operand_of file f (from.FrameAddress o) = to.AddrSP o
operand_of file f (from.Memory s o) = to.MemSB (number_of file s) o
operand_of file f (from.ArgumentMemory o) = to.MemFP o
operand_of file f (from.FrameMemory o) = to.MemSP o
operand_of file f (from.RegisterMemory r o) = to.MemReg r o
operand_of file f (from.Label w) = to.Label (target_of file f w)
operand_of file f (from.Function s) = to.Func (number_of file s)
operand_of file f from.Hi = to.Hi
operand_of file f from.Lo = to.Lo

abbrev pub instruction_of : File → (function : ℕ) → Op → Arguments → Abs
instruction_of file f op given = record { op = op; operands = map (operand_of file f) (listed given) }

-- a line in front of the instructions of those behind it; the next TEXT line ends the function
abbrev pub in_code : File → (function : ℕ) → Option Statement → List Abs → List Abs
in_code file f (Some (statements.Text s frame)) behind = []
in_code file f (Some (statements.Instruction op given)) behind = instruction_of file f op given ∷ behind
in_code file f _ behind = behind

-- the instructions of the function whose TEXT line stands directly before these lines
abbrev pub code_of : File → (function : ℕ) → List Row → List Abs
code_of file f [] = []
code_of file f (row ∷ rest) = in_code file f (statement_in row.content) (code_of file f rest)
