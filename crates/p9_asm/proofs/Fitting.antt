-- What is assembled fits an object: numbers are words, and raw bytes are bytes.
use Rattle.std.proofs.Common.{◌≡◌, ℕ, zero, suc, ◌+◌, ◌-◌, ◌*◌, ◌/◌, ◌%◌, ◌^◌, ◌==◌, ◌<◌, ◌≤◌, Bool, true, false, cond, List, [], ◌∷◌, map, drop, length, flat_map, Option, Some, None, IfSome, Result, Ok, Err, IfOk, unwrap_or, slice_get, refl, subst, All, arith}
use Rattle.std.specs.Prelude.{is_some, option_and_then}
use Rattle.std.proofs.lemmas.List.Elements.{All-nil, All-cons, All-map}
use Rattle.p9_abs.specs.declared.instructions.Operand.{Operand}
use Rattle.p9_abs.specs.declared.instructions.Abs.{Abs}
use Rattle.p9_abs.specs.declared.modules.DataPiece.{DataPiece}
use Rattle.p9_abs.specs.declared.modules.DataPiece.TheVariants as piece
use Rattle.p9_abs.specs.declared.modules.Body.{Body}
use Rattle.p9_abs.specs.declared.modules.Body.TheVariants as bodies
use Rattle.p9_abs.specs.declared.modules.Symbol.{Symbol}
use Rattle.p9_abs.specs.declared.modules.AModule.{AModule}
use Rattle.p9_abs.specs.Modules.{operands_of, pieces_of}
use Rattle.p9_object.specs.Laws.{IsWord, IsByte, OperandFits, PieceFits, CodeFits, Fits}
use Rattle.p9_lex.specs.declared.token.Token.{Token}
use Rattle.p9_statement.specs.declared.operands.SymbolName.{SymbolName}
use Rattle.p9_statement.specs.declared.operands.Argument.{Argument}
use Rattle.p9_statement.specs.declared.operands.Argument.TheVariants as from
use Rattle.p9_statement.specs.declared.statements.Arguments.{Arguments}
use Rattle.p9_statement.specs.declared.statements.Arguments.TheVariants.{Zero, One, Two, Three}
use Rattle.p9_statement.specs.declared.statements.Datum.{Datum}
use Rattle.p9_statement.specs.declared.statements.Datum.TheVariants as data_values
use Rattle.p9_statement.specs.declared.statements.Statement.{Statement}
use Rattle.p9_statement.specs.declared.statements.Statement.TheVariants as statements
use Rattle.p9_statement.specs.Statements.{listed}
use Rattle.p9_rows.specs.declared.rows.Row.{Row}
use Rattle.p9_rows.specs.Rows.{rows_of, lexemes_of}
use Rattle.p9_facts.specs.Facts.{definition, value_of, use_of, byte_of}
use Rattle.p9_facts.specs.Names.{symbols_of}
use Rattle.p9_asm.specs.declared.assembler.Broken.{Broken}
use Rattle.p9_asm.specs.declared.fault.AsmFault.{AsmFault}
use Rattle.p9_asm.specs.declared.pieces.Cell.{Cell}
use Rattle.p9_asm.specs.declared.pieces.Cell.TheVariants.{Byte, Start, Inside}
use Rattle.p9_asm.specs.Files.{File, file_of, statement_in, statement_at}
use Rattle.p9_asm.specs.Code.{operand_of, in_code, code_of}
use Rattle.p9_asm.specs.Data.{cell_of, cell_in, standing, raw_in_front, in_front, pieces_from}
use Rattle.p9_asm.specs.Modules.{defined_body, body_by, symbol_of, module_of}
use Rattle.p9_asm.specs.Assembled.{first_break, judged, assembled_tokens}
use Rattle.p9_asm.proofs.Options.{Each, each_drop, each_append, each_get, all_each, if_then}
use Rattle.p9_asm.proofs.Sized.{IsSized, AreSized, IsSizedDatum, IsSizedStatement}
use Rattle.p9_asm.proofs.Small.{IsSmallToken, IsSizedRow, rows_sized}
use Rattle.p9_asm.proofs.Numerous.{rows_few, symbols_few, code_few}

-- Instructions

operand_fits : (file : File) (f : ℕ) (a : Argument) → IsSized a → OperandFits (operand_of file f a)
unfolding operand_of
operand_fits file f (from.Register r) h = h
operand_fits file f (from.Constant c) h = h
operand_fits file f (from.Address s o) h = h
operand_fits file f (from.ArgumentAddress o) h = h
operand_fits file f (from.FrameAddress o) h = h
operand_fits file f (from.Memory s o) h = h
operand_fits file f (from.ArgumentMemory o) h = h
operand_fits file f (from.FrameMemory o) h = h
operand_fits file f (from.RegisterMemory r o) h = h
operand_fits file f (from.Label w) h = h
operand_fits file f (from.Function s) h = h
operand_fits file f from.Hi h = h
operand_fits file f from.Lo h = h

operands_fit : (file : File) (f : ℕ) (given : Arguments) → AreSized given → Each OperandFits (map (operand_of file f) (listed given))
operands_fit file f Zero h = tt
operands_fit file f (One a) h = (operand_fits file f a h, tt)
operands_fit file f (Two a b) h = (operand_fits file f a h.0, (operand_fits file f b h.1, tt))
operands_fit file f (Three a b c) h = (operand_fits file f a h.0, (operand_fits file f b h.1, (operand_fits file f c h.2, tt)))

abbrev operands_in : Abs → List Operand
operands_in a = a.operands

abbrev InstructionFits : Abs → Type 0
InstructionFits a = Each OperandFits (operands_in a)

in_code_fits : (file : File) (f : ℕ) (st : Option Statement) (behind : List Abs) → IfSome st IsSizedStatement → Each InstructionFits behind → Each InstructionFits (in_code file f st behind)
in_code_fits file f None behind h k = k
in_code_fits file f (Some (statements.Text s frame)) behind h k = tt
in_code_fits file f (Some (statements.Globl s size)) behind h k = k
in_code_fits file f (Some (statements.Data s o d)) behind h k = k
in_code_fits file f (Some (statements.Signature s place)) behind h k = k
in_code_fits file f (Some (statements.Instruction op given)) behind h k = (operands_fit file f given h, k)

code_fits : (file : File) (f : ℕ) (rows : List Row) → Each IsSizedRow rows → Each InstructionFits (code_of file f rows)
code_fits file f [] h = tt
code_fits file f (row ∷ rest) h = in_code_fits file f (statement_in row.content) (code_of file f rest) h.0 (code_fits file f rest h.1)

all_operands : (code : List Abs) → Each InstructionFits code → Each OperandFits (flat_map operands_in code)
all_operands [] h = tt
all_operands (a ∷ code) h = each_append OperandFits a.operands (flat_map operands_in code) h.0 (all_operands code h.1)

-- Data

abbrev CellFits : Cell → Type 0
CellFits (Byte b) = IsByte b
CellFits (Start s o) = IsWord o
CellFits Inside = Unit {0}

remainder_fits : (n : ℕ) → n % 256 < 2 ^ 8
remainder_fits n = omega arith

either_fits : (b : Bool) (x y : ℕ) → IsByte x → IsByte y → IsByte (cond b x y)
either_fits true x y h k = h
either_fits false x y h k = k

start_fits : (b : Bool) (s : SymbolName) (o : ℕ) → IsWord o → CellFits (cond b (Start s o) Inside)
start_fits true s o h = h
start_fits false s o h = tt

cell_fits : (d : Datum) (at : ℕ) → IsSizedDatum d → CellFits (cell_of d at)
cell_fits (data_values.Byte v) at h = remainder_fits v
cell_fits (data_values.Half v) at h = either_fits (at == 0) (v / 256 % 256) (v % 256) (remainder_fits (v / 256)) (remainder_fits v)
cell_fits (data_values.Word v) at h =
    either_fits (at == 0) (v / 16777216 % 256) (cond (at == 1) (v / 65536 % 256) (cond (at == 2) (v / 256 % 256) (v % 256))) (remainder_fits (v / 16777216))
    (either_fits (at == 1) (v / 65536 % 256) (cond (at == 2) (v / 256 % 256) (v % 256)) (remainder_fits (v / 65536))
    (either_fits (at == 2) (v / 256 % 256) (v % 256) (remainder_fits (v / 256)) (remainder_fits v)))
cell_fits (data_values.Address s o) at h = start_fits (at == 0) s o h

cell_in_fits : (p : ℕ) (st : Option Statement) → IfSome st IsSizedStatement → CellFits (unwrap_or (cell_in p st) (Byte 0))
cell_in_fits p None h = omega arith
cell_in_fits p (Some (statements.Data s o d)) h = cell_fits d (p - o) h
cell_in_fits p (Some (statements.Text s frame)) h = omega arith
cell_in_fits p (Some (statements.Globl s size)) h = omega arith
cell_in_fits p (Some (statements.Signature s place)) h = omega arith
cell_in_fits p (Some (statements.Instruction op given)) h = omega arith

row_there : (rows : List Row) (n : ℕ) (o : Option Row) → Each IsSizedRow rows → slice_get rows n ≡ o → IfSome o IsSizedRow
row_there rows n None h e = tt
row_there rows n (Some row) h e = each_get IsSizedRow rows n row h e

statement_there : (file : File) (n : ℕ) → Each IsSizedRow file.rows → IfSome (statement_at file n) IsSizedStatement
statement_there file n h =
    if_then (λ (row : Row). statement_in row.content) (slice_get file.rows n) IsSizedRow IsSizedStatement (row_there file.rows n (slice_get file.rows n) h refl) (λ row k. k)

given_there : (file : File) (o : Option ℕ) → Each IsSizedRow file.rows → IfSome (option_and_then (statement_at file) o) IsSizedStatement
given_there file None h = tt
given_there file (Some n) h = statement_there file n h

standing_fits : (file : File) (s : SymbolName) (p : ℕ) → Each IsSizedRow file.rows → CellFits (standing file s p)
unfolding standing
standing_fits file s p h =
    cell_in_fits p (option_and_then (statement_at file) (file.first (byte_of s p))) (given_there file (file.first (byte_of s p)) h)

raw_fits : (b : ℕ) (pieces : List DataPiece) → IsByte b → Each PieceFits pieces → Each PieceFits (raw_in_front b pieces)
raw_fits b [] h k = (All-cons IsByte b [] h (All-nil IsByte), tt)
raw_fits b (piece.Raw bytes ∷ rest) h k = (All-cons IsByte b bytes h k.0, k.1)
raw_fits b (piece.Address n o ∷ rest) h k = (All-cons IsByte b [] h (All-nil IsByte), k)

in_front_fits : (file : File) (c : Cell) (pieces : List DataPiece) → CellFits c → Each PieceFits pieces → Each PieceFits (in_front file c pieces)
in_front_fits file (Byte b) pieces h k = raw_fits b pieces h k
in_front_fits file (Start s o) pieces h k = (h, k)
in_front_fits file Inside pieces h k = k

pieces_fit : (file : File) (s : SymbolName) (place left : ℕ) → Each IsSizedRow file.rows → Each PieceFits (pieces_from file s place left)
pieces_fit file s place zero h = tt
pieces_fit file s place (suc left) h =
    in_front_fits file (standing file s place) (pieces_from file s (place + 1) left) (standing_fits file s place h) (pieces_fit file s (place + 1) left h)

-- Bodies

record BodyFits (body : Body) : Type 0 where
  operands : All OperandFits (operands_of body)
  pieces : All PieceFits (pieces_of body)
  code : CodeFits body

bare_fits : (b : Bool) → BodyFits (cond b bodies.Used bodies.Declared)
bare_fits true = record { operands = All-nil OperandFits; pieces = All-nil PieceFits; code = tt }
bare_fits false = record { operands = All-nil OperandFits; pieces = All-nil PieceFits; code = tt }

data_fits : (file : File) (s : SymbolName) (size : ℕ) (b : Bool) → Each IsSizedRow file.rows → BodyFits (cond b (bodies.Data (pieces_from file s 0 size)) (bodies.Common size))
data_fits file s size true h =
    record { operands = All-nil OperandFits; pieces = all_each PieceFits (pieces_from file s 0 size) (pieces_fit file s 0 size h); code = tt }
data_fits file s size false h = record { operands = All-nil OperandFits; pieces = All-nil PieceFits; code = tt }

text_fits : (file : File) (n frame : ℕ) → Each IsSizedRow file.rows → length file.rows < 2 ^ 32 → BodyFits (bodies.Text (record { frame = frame; code = code_of file n (drop (n + 1) file.rows) }))
text_fits file n frame h few =
    let code = code_of file n (drop (n + 1) file.rows) in
    let fit = all_operands code (code_fits file n (drop (n + 1) file.rows) (each_drop IsSizedRow (n + 1) file.rows h)) in
    record { operands = all_each OperandFits (flat_map operands_in code) fit; pieces = All-nil PieceFits; code = omega (arith, few, code_few file n (n + 1) file.rows) }

defined_fits : (file : File) (s : SymbolName) (n : ℕ) (st : Option Statement) → Each IsSizedRow file.rows → length file.rows < 2 ^ 32 → BodyFits (defined_body file s n st)
defined_fits file s n (Some (statements.Text t frame)) h few = text_fits file n frame h few
defined_fits file s n (Some (statements.Globl t size)) h few = data_fits file s size (is_some (file.first (value_of s))) h
defined_fits file s n _ h few = bare_fits (is_some (file.first (use_of s)))

body_by_fits : (file : File) (s : SymbolName) (o : Option ℕ) → Each IsSizedRow file.rows → length file.rows < 2 ^ 32 → BodyFits (body_by file s o)
body_by_fits file s None h few = bare_fits (is_some (file.first (use_of s)))
body_by_fits file s (Some n) h few = defined_fits file s n (statement_at file n) h few

-- Modules

all_always : {X : Type 0} (P : X → Type 0) → ((x : X) → P x) → (xs : List X) → All P xs
all_always P h [] = All-nil P
all_always P h (x ∷ xs) = All-cons P x xs (h x) (all_always P h xs)

symbol_fits : (tokens : List Token) (file : File) (s : SymbolName) → Each IsSizedRow file.rows → length file.rows < 2 ^ 32 → BodyFits ((symbol_of tokens file s).body)
unfolding symbol_of
symbol_fits tokens file s h few = body_by_fits file s (file.first (definition s)) h few

length_map : {X Y : Type 0} (f : X → Y) (xs : List X) → length (map f xs) ≡ length xs
length_map f [] = refl
length_map f (x ∷ xs) = omega (arith, length_map f xs)

module_fits : (tokens : List Token) (rows : List Row) → Each IsSizedRow rows → 3 * length rows < 2 ^ 32 → Fits (module_of tokens rows)
module_fits tokens rows h few =
    let make : SymbolName → Symbol = symbol_of tokens (file_of rows) in
    let names = symbols_of rows in
    let body = λ (s : SymbolName). symbol_fits tokens (file_of rows) s h (omega (arith, few)) in
    record {
      few = omega (arith, few, symbols_few rows, length_map make names);
      operands = All-map (λ (x : Symbol). All OperandFits (operands_of x.body)) make names (all_always (λ s. All OperandFits (operands_of ((make s).body))) (λ s. (body s).operands) names);
      pieces = All-map (λ (x : Symbol). All PieceFits (pieces_of x.body)) make names (all_always (λ s. All PieceFits (pieces_of ((make s).body))) (λ s. (body s).pieces) names);
      code = All-map (λ (x : Symbol). CodeFits x.body) make names (all_always (λ s. CodeFits ((make s).body)) (λ s. (body s).code) names);
    }

judged_fits : (tokens : List Token) (rows : List Row) (o : Option Broken) (m : AModule) → Fits (module_of tokens rows) → judged tokens rows o ≡ Ok m → Fits m
judged_fits tokens rows (Some broken) m fits h = absurd (cc)
judged_fits tokens rows None m fits h =
    let same : module_of tokens rows ≡ m = cc in
    subst Fits same fits

tokens_fit : (tokens : List Token) → Each IsSmallToken tokens → length tokens ≤ 2 ^ 25 → (m : AModule) → assembled_tokens tokens ≡ Ok m → Fits m
unfolding assembled_tokens
tokens_fit tokens small few m h =
    let rows = rows_of (lexemes_of tokens) in
    judged_fits tokens rows (first_break (file_of rows)) m (module_fits tokens rows (rows_sized tokens small) (omega (arith, few, rows_few tokens))) h

pub fits_told : (tokens : List Token) (answer : Result AModule AsmFault) → Each IsSmallToken tokens → length tokens ≤ 2 ^ 25 → IfOk answer (λ m. assembled_tokens tokens ≡ Ok m) → IfOk answer Fits
fits_told tokens (Ok m) small few h = tokens_fit tokens small few m h
fits_told tokens (Err fault) small few h = tt
