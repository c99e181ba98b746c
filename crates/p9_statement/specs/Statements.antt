-- Statements and lines, by their tokens.
use Rattle.std.specs.Prelude.{ℕ, ◌+◌, ◌%◌, ◌^◌, ◌==◌, nat_le, Bool, true, false, ◌&&◌, List, [], ◌∷◌, map, take, drop, position, Option, Some, None, is_some, option_map, option_and_then, if◌then◌else◌}
use Rattle.std.specs.Option.{option_or}
use Rattle.std.specs.List.{list_all}
use Rattle.p9_abs.specs.declared.instructions.Op.{Op}
use Rattle.p9_abs.specs.declared.instructions.Op.TheVariants.{Add, AddU, Sub, SubU, And, Or, Xor, Nor, Sgt, SgtU, Sll, Srl, Sra}
use Rattle.p9_abs.specs.declared.instructions.Operand.{Operand}
use Rattle.p9_abs.specs.declared.instructions.Operand.TheVariants as operands
use Rattle.p9_abs.specs.Forms.{form_of}
use Rattle.p9_abs.specs.Validity.{writes_last}
use Rattle.p9_statement.specs.declared.words.Directive.{Directive}
use Rattle.p9_statement.specs.declared.words.Directive.TheVariants as directives
use Rattle.p9_statement.specs.declared.words.Sense.{Sense}
use Rattle.p9_statement.specs.declared.words.Sense.TheVariants as senses
use Rattle.p9_statement.specs.declared.lexemes.Lexeme.{Lexeme}
use Rattle.p9_statement.specs.declared.lexemes.Lexeme.TheVariants as lexemes
use Rattle.p9_statement.specs.declared.operands.SymbolName.{SymbolName}
use Rattle.p9_statement.specs.declared.operands.Argument.{Argument}
use Rattle.p9_statement.specs.declared.operands.Argument.TheVariants as arguments
use Rattle.p9_statement.specs.declared.statements.Arguments.{Arguments}
use Rattle.p9_statement.specs.declared.statements.Arguments.TheVariants.{Zero, One, Two, Three}
use Rattle.p9_statement.specs.declared.statements.Datum.{Datum}
use Rattle.p9_statement.specs.declared.statements.Datum.TheVariants as data_values
use Rattle.p9_statement.specs.declared.statements.Statement.{Statement}
use Rattle.p9_statement.specs.declared.statements.Statement.TheVariants as statements
use Rattle.p9_statement.specs.declared.statements.Line.{Line}
use Rattle.p9_statement.specs.Operands.{only_number, constant_of, memory_of, place_of, plain_argument, last_argument}

-- Operands, parted by commas

abbrev pub is_comma : Lexeme → Bool
is_comma lexemes.Comma = true
is_comma _ = false

abbrev pub is_slash : Lexeme → Bool
is_slash lexemes.Slash = true
is_slash _ = false

-- the operands behind the first, where a comma parts them at a place, if it does
abbrev pub more_arguments : Op → Argument → Option ℕ → List Lexeme → Option Arguments
more_arguments op a None rest = option_map (λ b. Two a b) (last_argument op rest)
more_arguments op a (Some at) rest =
    option_and_then (λ b. option_map (λ c. Three a b c) (last_argument op (drop (at + 1) rest))) (plain_argument (take at rest))

abbrev pub parted_arguments : Op → Option ℕ → List Lexeme → Option Arguments
parted_arguments op None rest = option_map (λ a. One a) (last_argument op rest)
parted_arguments op (Some at) rest =
    option_and_then
    (λ a. more_arguments op a (position is_comma (drop (at + 1) rest)) (drop (at + 1) rest))
    (plain_argument (take at rest))

abbrev pub arguments_of : Op → List Lexeme → Option Arguments
arguments_of op [] = Some Zero
arguments_of op (l ∷ rest) = parted_arguments op (position is_comma (l ∷ rest)) (l ∷ rest)

abbrev pub listed : Arguments → List Argument
listed Zero = []
listed (One a) = a ∷ []
listed (Two a b) = a ∷ b ∷ []
listed (Three a b c) = a ∷ b ∷ c ∷ []

-- Instructions

abbrev pub is_calculation : Op → Bool
is_calculation Add = true
is_calculation AddU = true
is_calculation Sub = true
is_calculation SubU = true
is_calculation And = true
is_calculation Or = true
is_calculation Xor = true
is_calculation Nor = true
is_calculation Sgt = true
is_calculation SgtU = true
is_calculation Sll = true
is_calculation Srl = true
is_calculation Sra = true
is_calculation _ = false

-- two operands of a calculation stand for three, the last one repeated
abbrev pub completed_by : (calculates : Bool) → Arguments → Arguments
completed_by true (Two a b) = Three a b b
completed_by true given = given
completed_by false given = given

abbrev pub completed : Op → Arguments → Arguments
completed op given = completed_by (is_calculation op) given

-- an operand as the table of forms sees it: of names it knows nothing
abbrev pub shape_of : Argument → Operand
shape_of (arguments.Register r) = operands.Reg r
shape_of (arguments.Constant c) = operands.Const c
shape_of (arguments.Address s o) = operands.AddrSB 0 o
shape_of (arguments.ArgumentAddress o) = operands.AddrFP o
shape_of (arguments.FrameAddress o) = operands.AddrSP o
shape_of (arguments.Memory s o) = operands.MemSB 0 o
shape_of (arguments.ArgumentMemory o) = operands.MemFP o
shape_of (arguments.FrameMemory o) = operands.MemSP o
shape_of (arguments.RegisterMemory r o) = operands.MemReg r o
shape_of (arguments.Label w) = operands.Label 0
shape_of (arguments.Function s) = operands.Func 0
shape_of arguments.Hi = operands.Hi
shape_of arguments.Lo = operands.Lo

abbrev pub is_form : Op → Arguments → Bool
is_form op given = is_some (form_of op (map shape_of (listed given)))

abbrev pub formed : Op → Arguments → Option Statement
formed op given = if is_form op given then Some (statements.Instruction op given) else None

abbrev pub instruction_of : Op → List Lexeme → Option Statement
instruction_of op rest = option_and_then (λ given. formed op (completed op given)) (arguments_of op rest)

-- Directives

abbrev pub dollar_number : List Lexeme → Option ℕ
dollar_number (lexemes.Dollar ∷ rest) = only_number rest
dollar_number _ = None

-- a frame is a multiple of 4 within its limit
abbrev pub text_statement : SymbolName → ℕ → Option Statement
text_statement s frame =
    if frame % 4 == 0 && nat_le frame 16777212 then Some (statements.Text s frame) else None

-- a size is from 1 to 16 MiB
abbrev pub globl_statement : SymbolName → ℕ → Option Statement
globl_statement s size =
    if nat_le 1 size && nat_le size 16777216 then Some (statements.Globl s size) else None

-- a signature is one of a global name
abbrev pub type_statement : SymbolName → List Lexeme → Option Statement
type_statement s (lexemes.Text place ∷ []) = if s.local then None else Some (statements.Signature s place)
type_statement s _ = None

-- a value of 1, 2 or 4 bytes
abbrev pub sized : (width value : ℕ) → Option Datum
sized width value =
    if width == 1 then Some (data_values.Byte value) else
    if width == 2 then Some (data_values.Half value) else
    if width == 4 then Some (data_values.Word value) else None

-- an address has 4 bytes, and stands at a multiple of 4
abbrev pub address_value : (width place : ℕ) → Argument → Option Datum
address_value width place (arguments.Memory s o) =
    if width == 4 && place % 4 == 0 then Some (data_values.Address s o) else None
address_value width place _ = None

abbrev pub constant_or_address_value : (width place : ℕ) → Option ℕ → List Lexeme → Option Datum
constant_or_address_value width place (Some value) rest = sized width value
constant_or_address_value width place None rest = option_and_then (address_value width place) (memory_of rest)

abbrev pub datum_of : (width place : ℕ) → List Lexeme → Option Datum
datum_of width place (lexemes.Dollar ∷ rest) = constant_or_address_value width place (constant_of rest) rest
datum_of width place _ = None

-- the place is `name+o(SB)`; what is past the largest size lies inside none
abbrev pub data_statement : (width : ℕ) → Argument → List Lexeme → Option Statement
data_statement width (arguments.Memory s o) value =
    if nat_le (o + width) 16777216 then option_map (λ d. statements.Data s o d) (datum_of width o value) else None
data_statement width _ value = None

-- the place and the width, parted by a `/` at a place, and then the value
abbrev pub parted_data : Option ℕ → List Lexeme → List Lexeme → Option Statement
parted_data None place value = None
parted_data (Some at) place value =
    option_and_then
    (λ memory. option_and_then (λ width. data_statement width memory value) (only_number (drop (at + 1) place)))
    (memory_of (take at place))

abbrev pub directive_of : Directive → (first second : List Lexeme) → Option Statement
directive_of directives.Text first second =
    option_and_then (λ s. option_and_then (text_statement s) (dollar_number second)) (place_of first)
directive_of directives.Globl first second =
    option_and_then (λ s. option_and_then (globl_statement s) (dollar_number second)) (place_of first)
directive_of directives.Data first second = parted_data (position is_slash first) first second
directive_of directives.Signature first second = option_and_then (λ s. type_statement s second) (place_of first)

abbrev pub parted_directive : Directive → Option ℕ → List Lexeme → Option Statement
parted_directive d None rest = None
parted_directive d (Some at) rest = directive_of d (take at rest) (drop (at + 1) rest)

-- Lines

abbrev pub headed : Sense → List Lexeme → Option Statement
headed (senses.Operation op) rest = instruction_of op rest
headed (senses.Directing d) rest = parted_directive d (position is_comma rest) rest
headed _ rest = None

abbrev pub statement_of : List Lexeme → Option Statement
statement_of (lexemes.Word w sense ∷ rest) = headed sense rest
statement_of _ = None

abbrev pub labelled : Option ℕ → List Lexeme → Option Line
labelled label [] = Some (record { label = label; statement = None })
labelled label (l ∷ rest) = option_map (λ s. record { label = label; statement = Some s }) (statement_of (l ∷ rest))

-- a label, if there is one, and a statement, if there is one
unfoldable pub line_of : List Lexeme → Option Line
line_of (lexemes.Word w sense ∷ lexemes.Colon ∷ rest) = labelled (Some w) rest
line_of rest = labelled None rest

-- Reserved registers

-- the system's R26 and R27, and the loader's R28
abbrev pub kept_register : ℕ → Option ℕ
kept_register r = if nat_le 26 r && nat_le r 28 then Some r else None

abbrev pub named_register : Argument → Option ℕ
named_register (arguments.Register r) = kept_register r
named_register (arguments.RegisterMemory r o) = kept_register r
named_register _ = None

-- R29, R30 and R31 are never written by a form that names them
abbrev pub written_register : (writes : Bool) → Argument → Option ℕ
written_register true (arguments.Register r) = if nat_le 29 r then Some r else None
written_register true _ = None
written_register false a = None

abbrev pub last_register : Op → Argument → Option ℕ
last_register op a = option_or (named_register a) (written_register (writes_last op) a)

abbrev pub reserved_among : Op → Arguments → Option ℕ
reserved_among op Zero = None
reserved_among op (One a) = last_register op a
reserved_among op (Two a b) = option_or (named_register a) (last_register op b)
reserved_among op (Three a b c) = option_or (option_or (named_register a) (named_register b)) (last_register op c)

-- the first reserved register of a statement
abbrev pub reserved_register : Statement → Option ℕ
reserved_register (statements.Instruction op given) = reserved_among op given
reserved_register _ = None

-- Frames

-- an offset from R29 at entry is within a frame below it
abbrev pub is_within_frame : (frame : ℕ) → Argument → Bool
is_within_frame frame (arguments.FrameAddress o) = nat_le (2 ^ 32) (o + frame)
is_within_frame frame (arguments.FrameMemory o) = nat_le (2 ^ 32) (o + frame)
is_within_frame frame _ = true

abbrev pub fits_frame : (frame : ℕ) → Statement → Bool
fits_frame frame (statements.Instruction op given) = list_all (is_within_frame frame) (listed given)
fits_frame frame _ = true
