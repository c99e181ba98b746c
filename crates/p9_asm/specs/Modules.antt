-- The module of a file.
use Rattle.std.specs.Prelude.{ℕ, ◌+◌, List, [], map, drop, Option, Some, None, is_some, slice_get, option_and_then, if◌then◌else◌}
use Rattle.p9_abs.specs.declared.modules.AModule.{AModule}
use Rattle.p9_abs.specs.declared.modules.Body.{Body}
use Rattle.p9_abs.specs.declared.modules.Body.TheVariants as bodies
use Rattle.p9_abs.specs.declared.modules.Symbol.{Symbol}
use Rattle.p9_lex.specs.declared.token.Token.{Token}
use Rattle.p9_lex.specs.declared.token.TokenKind.{TokenKind}
use Rattle.p9_lex.specs.declared.token.TokenKind.TheVariants as kinds
use Rattle.p9_statement.specs.declared.operands.SymbolName.{SymbolName}
use Rattle.p9_statement.specs.declared.statements.Statement.{Statement}
use Rattle.p9_statement.specs.declared.statements.Statement.TheVariants as statements
use Rattle.p9_rows.specs.declared.rows.Row.{Row}
use Rattle.p9_facts.specs.Facts.{definition, signature, value_of, use_of}
use Rattle.p9_facts.specs.Names.{symbols_of}
use Rattle.p9_asm.specs.Files.{File, file_of, statement_at}
use Rattle.p9_asm.specs.Code.{code_of}
use Rattle.p9_asm.specs.Data.{pieces_from}

-- Names and signatures, by the tokens that spell them

abbrev pub name_by : TokenKind → List ℕ
name_by (kinds.Word name) = name
name_by _ = []

abbrev pub name_in : Option Token → List ℕ
name_in None = []
name_in (Some t) = name_by t.kind

abbrev pub name_at : List Token → (place : ℕ) → List ℕ
name_at tokens place = name_in (slice_get tokens place)

abbrev pub text_by : TokenKind → List ℕ
text_by (kinds.Text bytes) = bytes
text_by _ = []

abbrev pub text_in : Option Token → List ℕ
text_in None = []
text_in (Some t) = text_by t.kind

abbrev pub text_at : List Token → (place : ℕ) → List ℕ
text_at tokens place = text_in (slice_get tokens place)

abbrev pub signature_in : List Token → Option Statement → List ℕ
signature_in tokens (Some (statements.Signature s place)) = text_at tokens place
signature_in tokens _ = []

-- the signature of the symbol's TYPE line, or none
abbrev pub signature_of : List Token → File → SymbolName → List ℕ
signature_of tokens file s = signature_in tokens (option_and_then (statement_at file) (file.first (signature s)))

-- Bodies

abbrev pub text_body : File → (row frame : ℕ) → Body
text_body file n frame = bodies.Text (record { frame = frame; code = code_of file n (drop (n + 1) file.rows) })

-- a symbol with a value is data, and one without is common
abbrev pub data_body : File → SymbolName → (size : ℕ) → Body
data_body file s size = if is_some (file.first (value_of s)) then bodies.Data (pieces_from file s 0 size) else bodies.Common size

-- a symbol that isn't defined is used, or stands in a TYPE line alone
abbrev pub undefined_body : File → SymbolName → Body
undefined_body file s = if is_some (file.first (use_of s)) then bodies.Used else bodies.Declared

abbrev pub defined_body : File → SymbolName → (row : ℕ) → Option Statement → Body
defined_body file s n (Some (statements.Text t frame)) = text_body file n frame
defined_body file s n (Some (statements.Globl t size)) = data_body file s size
defined_body file s n _ = undefined_body file s

abbrev pub body_by : File → SymbolName → (defined : Option ℕ) → Body
body_by file s None = undefined_body file s
body_by file s (Some n) = defined_body file s n (statement_at file n)

abbrev pub body_of : File → SymbolName → Body
body_of file s = body_by file s (file.first (definition s))

-- Symbols, in the order of their first lines

unfoldable pub symbol_of : List Token → File → SymbolName → Symbol
symbol_of tokens file s = record { name = name_at tokens s.word; local = s.local; sig = signature_of tokens file s; body = body_of file s }

abbrev pub symbols_by : List Token → File → List SymbolName → List Symbol
symbols_by tokens file names = map (symbol_of tokens file) names

abbrev pub module_of : List Token → List Row → AModule
module_of tokens rows = record { symbols = symbols_by tokens (file_of rows) (symbols_of rows) }
