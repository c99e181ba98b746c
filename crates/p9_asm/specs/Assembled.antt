-- The module of a text, or why the text is refused. The breaks that a line shows with the lines before
-- it come before those that later lines or the end of the file show; of each group the first line's
-- counts.
use Rattle.std.specs.Prelude.{◌≡◌, ℕ, ◌+◌, List, [], ◌∷◌, Option, Some, None, option_map, slice_get, Result, Ok, Err}
use Rattle.std.specs.Option.{option_or}
use Rattle.p9_abs.specs.declared.modules.AModule.{AModule}
use Rattle.p9_lex.specs.declared.token.Dialect.TheVariants.{Asm}
use Rattle.p9_lex.specs.declared.token.Token.{Token}
use Rattle.p9_lex.specs.declared.token.LexFault.{LexFault}
use Rattle.p9_lex.specs.declared.token.LexFault.TheVariants as lex_faults
use Rattle.p9_lex.specs.Tokens.{lexed}
use Rattle.p9_rows.specs.declared.rows.Row.{Row}
use Rattle.p9_rows.specs.Rows.{rows_of, lexemes_of}
use Rattle.p9_asm.specs.declared.assembler.Broken.{Broken}
use Rattle.p9_asm.specs.declared.breaks.Break.{Break}
use Rattle.p9_asm.specs.declared.breaks.Break.TheVariants as breaks
use Rattle.p9_asm.specs.declared.fault.AsmFault.{AsmFault}
use Rattle.p9_asm.specs.declared.fault.AsmFault.TheVariants.{Lex, AsmSyntax, Reserved, NoLabel, LabelTwice, Memory}
use Rattle.p9_asm.specs.Files.{File, file_of}
use Rattle.p9_asm.specs.Breaks.{shown, unfinished}
use Rattle.p9_asm.specs.Modules.{name_at, module_of}

abbrev pub broken_at : Row → Option Break → Option Broken
broken_at row by = option_map (λ b. record { token = row.token; by = b }) by

-- the first of lines that breaks a rule; the lines are counted from a number on
abbrev pub first_by : (ℕ → Row → Option Break) → (index : ℕ) → List Row → Option Broken
first_by check index [] = None
first_by check index (row ∷ rest) = option_or (broken_at row (check index row)) (first_by check (index + 1) rest)

abbrev pub first_break : File → Option Broken
first_break file = option_or (first_by (shown file) 0 file.rows) (first_by (unfinished file) 0 file.rows)

abbrev pub line_in : Option Token → ℕ
line_in None = 0
line_in (Some t) = t.line

-- a break is told at the line of the statement's first token
abbrev pub line_at : List Token → (place : ℕ) → ℕ
line_at tokens place = line_in (slice_get tokens place)

abbrev pub fault_by : List Token → (line : ℕ) → Break → AsmFault
fault_by tokens line breaks.Syntax = AsmSyntax line
fault_by tokens line (breaks.Reserved r) = Reserved line r
fault_by tokens line (breaks.NoLabel w) = NoLabel line (name_at tokens w)
fault_by tokens line (breaks.LabelTwice w) = LabelTwice line (name_at tokens w)

abbrev pub fault_of : List Token → Broken → AsmFault
fault_of tokens broken = fault_by tokens (line_at tokens broken.token) broken.by

abbrev pub judged : List Token → List Row → Option Broken → Result AModule AsmFault
judged tokens rows (Some broken) = Err (fault_of tokens broken)
judged tokens rows None = Ok (module_of tokens rows)

abbrev pub assembled_rows : List Token → List Row → Result AModule AsmFault
assembled_rows tokens rows = judged tokens rows (first_break (file_of rows))

unfoldable pub assembled_tokens : List Token → Result AModule AsmFault
assembled_tokens tokens = assembled_rows tokens (rows_of (lexemes_of tokens))

abbrev pub answer_of : Result (List Token) LexFault → Result AModule AsmFault
answer_of (Ok tokens) = assembled_tokens tokens
answer_of (Err fault) = Err (Lex fault)

-- the module of a text, or how the text breaks a rule
unfoldable pub assembled : List ℕ → Result AModule AsmFault
assembled bytes = answer_of (lexed Asm bytes)

-- want of memory has no rule
abbrev pub IsFault : Result AModule AsmFault → AsmFault → Type 0
IsFault answer (Lex fault) = answer ≡ Err (Lex fault)
IsFault answer (AsmSyntax line) = answer ≡ Err (AsmSyntax line)
IsFault answer (Reserved line r) = answer ≡ Err (Reserved line r)
IsFault answer (NoLabel line name) = answer ≡ Err (NoLabel line name)
IsFault answer (LabelTwice line name) = answer ≡ Err (LabelTwice line name)
IsFault answer Memory = Unit {0}

abbrev pub lex_fault : LexFault → AsmFault
lex_fault lex_faults.Memory = Memory
lex_fault fault = Lex fault

abbrev pub IsRefusal : List ℕ → AsmFault → Type 0
IsRefusal bytes fault = IsFault (assembled bytes) fault
