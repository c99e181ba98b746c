-- Facts that the lines of a file say of symbols, functions and bytes, and which line says a fact first.
use Rattle.std.specs.Prelude.{ℕ, ◌+◌, ◌==◌, Bool, false, ◌&&◌, ◌||◌, List, [], ◌∷◌, ◌++◌, Option, Some, None, if◌then◌else◌}
use mathlib.Core.Bool.{beq}
use Rattle.std.specs.HashMap.{get}
use Rattle.std.specs.Option.{option_or}
use Rattle.std.specs.List.{position_from}
use Rattle.p9_statement.specs.declared.operands.SymbolName.{SymbolName}
use Rattle.p9_statement.specs.declared.operands.Argument.{Argument}
use Rattle.p9_statement.specs.declared.operands.Argument.TheVariants as operands
use Rattle.p9_statement.specs.declared.statements.Arguments.{Arguments}
use Rattle.p9_statement.specs.declared.statements.Arguments.TheVariants.{Zero, One, Two, Three}
use Rattle.p9_statement.specs.declared.statements.Datum.{Datum}
use Rattle.p9_statement.specs.declared.statements.Datum.TheVariants as data_values
use Rattle.p9_statement.specs.declared.statements.Statement.{Statement}
use Rattle.p9_statement.specs.declared.statements.Statement.TheVariants as statements
use Rattle.p9_statement.specs.declared.statements.Line.{Line}
use Rattle.p9_rows.specs.declared.rows.Place.{Place}
use Rattle.p9_rows.specs.declared.rows.Row.{Row}
use Rattle.p9_facts.specs.declared.facts.Fact.{Fact}
use Rattle.p9_facts.specs.declared.facts.Fact.TheVariants.{Label, Instruction, Definition, Signature, Use, Value, Byte}
use Rattle.p9_facts.specs.declared.facts.Facts.{Facts}

-- Facts, and whether two are the same

abbrev pub same_fact : Fact → Fact → Bool
same_fact (Label f w) (Label g v) = (f == g) && (w == v)
same_fact (Instruction f n) (Instruction g m) = (f == g) && (n == m)
same_fact (Definition w l) (Definition v k) = (w == v) && beq l k
same_fact (Signature w l) (Signature v k) = (w == v) && beq l k
same_fact (Use w l) (Use v k) = (w == v) && beq l k
same_fact (Value w l) (Value v k) = (w == v) && beq l k
same_fact (Byte w l p) (Byte v k q) = (w == v) && (beq l k && (p == q))
same_fact _ _ = false

abbrev pub among : Fact → List Fact → Bool
among q [] = false
among q (fact ∷ rest) = same_fact fact q || among q rest

abbrev pub definition : SymbolName → Fact
definition s = Definition s.word s.local

abbrev pub signature : SymbolName → Fact
signature s = Signature s.word s.local

abbrev pub use_of : SymbolName → Fact
use_of s = Use s.word s.local

abbrev pub value_of : SymbolName → Fact
value_of s = Value s.word s.local

abbrev pub byte_of : SymbolName → (place : ℕ) → Fact
byte_of s place = Byte s.word s.local place

-- What a line says

-- a label belongs to the function above
abbrev pub label_facts : (label function : Option ℕ) → List Fact
label_facts (Some w) (Some f) = Label f w ∷ []
label_facts _ _ = []

-- an instruction is counted in its function
abbrev pub counted : (function : Option ℕ) → (number : ℕ) → List Fact
counted (Some f) number = Instruction f number ∷ []
counted None number = []

-- the symbol that an operand names
abbrev pub symbol_in : Argument → Option SymbolName
symbol_in (operands.Address s o) = Some s
symbol_in (operands.Memory s o) = Some s
symbol_in (operands.Function s) = Some s
symbol_in _ = None

abbrev pub used : Option SymbolName → List Fact
used (Some s) = use_of s ∷ []
used None = []

abbrev pub argument_facts : Argument → List Fact
argument_facts a = used (symbol_in a)

abbrev pub arguments_facts : Arguments → List Fact
arguments_facts Zero = []
arguments_facts (One a) = argument_facts a
arguments_facts (Two a b) = argument_facts a ++ argument_facts b
arguments_facts (Three a b c) = argument_facts a ++ argument_facts b ++ argument_facts c

-- the four bytes from a place on
abbrev pub word_facts : SymbolName → (place : ℕ) → List Fact
word_facts s place = byte_of s place ∷ byte_of s (place + 1) ∷ byte_of s (place + 2) ∷ byte_of s (place + 3) ∷ []

-- the bytes that a value stands in
abbrev pub datum_bytes : SymbolName → (place : ℕ) → Datum → List Fact
datum_bytes s place (data_values.Byte v) = byte_of s place ∷ []
datum_bytes s place (data_values.Half v) = byte_of s place ∷ byte_of s (place + 1) ∷ []
datum_bytes s place (data_values.Word v) = word_facts s place
datum_bytes s place (data_values.Address t o) = word_facts s place

-- the symbol that a value is the address of
abbrev pub symbol_at : Datum → Option SymbolName
symbol_at (data_values.Byte v) = None
symbol_at (data_values.Half v) = None
symbol_at (data_values.Word v) = None
symbol_at (data_values.Address t o) = Some t

abbrev pub datum_facts : SymbolName → (place : ℕ) → Datum → List Fact
datum_facts s place d = datum_bytes s place d ++ used (symbol_at d)

abbrev pub statement_facts : Place → Option Statement → List Fact
statement_facts place None = []
statement_facts place (Some (statements.Text s frame)) = definition s ∷ []
statement_facts place (Some (statements.Globl s size)) = definition s ∷ []
statement_facts place (Some (statements.Data s o d)) = value_of s ∷ datum_facts s o d
statement_facts place (Some (statements.Signature s token)) = signature s ∷ []
statement_facts place (Some (statements.Instruction op given)) = counted place.function place.number ++ arguments_facts given

abbrev pub content_facts : Place → Option Line → List Fact
content_facts place None = []
content_facts place (Some line) = label_facts line.label place.function ++ statement_facts place line.statement

unfoldable pub says : Fact → Row → Bool
says q row = among q (content_facts row.place row.content)

-- the first row that says a fact
abbrev pub first_row : List Row → Fact → Option ℕ
first_row rows q = position_from (says q) 0 rows

-- Facts as they are held

-- what is known of a fact once a row has said it, or hasn't
abbrev pub noted : Option ℕ → (row : ℕ) → (said : Bool) → Option ℕ
noted known row said = option_or known (if said then Some row else None)

abbrev pub held : Facts → Fact → Option ℕ
held facts q = get same_fact facts.map q
