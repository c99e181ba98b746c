-- The parts of a file of the form: how they are written in tokens, and which fit their place.
use Rattle.std.specs.Prelude.{◌≡◌, ◌≤◌, ℕ, Bool, true, false, not, ◌&&◌, IsTrue, List, [], ◌∷◌, ◌++◌, Option, Some, None, codes}
use Rattle.std.specs.List.{list_all}
use Rattle.p9_first.specs.Tokens.{Token, Word, Number, Text, Mark, End}
use Rattle.p9_first.specs.Form.{is_among, is_text_byte, is_variable_name}
use Rattle.p9_form.specs.declared.file.Operand.{Operand}
use Rattle.p9_form.specs.declared.file.Operand.TheVariants as operand
use Rattle.p9_form.specs.declared.file.Statement.{Statement}
use Rattle.p9_form.specs.declared.file.Statement.TheVariants.{Assign, Write, Exits}
use Rattle.p9_form.specs.declared.file.First.{First}
use Rattle.p9_form.specs.declared.file.First.TheVariants as first
use Rattle.p9_form.specs.declared.file.Declaration.{Declaration}
use Rattle.p9_form.specs.declared.file.File.{File}

-- a mark of one character
abbrev pub mark : ℕ → Token
mark c = Mark (c ∷ [])

-- Statements. `names` are those of the variables declared before.

abbrev pub operand_token : Operand → Token
operand_token (operand.Variable x) = Word x
operand_token (operand.Number value) = Number value false false

abbrev pub right_tokens : Option Operand → List Token
right_tokens None = []
right_tokens (Some right) = mark 43 ∷ operand_token right ∷ []

abbrev pub exit_token : Option (List ℕ) → Token
exit_token None = Number 0 false false
exit_token (Some text) = Text text

abbrev pub statement_tokens : Statement → List Token
statement_tokens (Assign x left right) = Word x ∷ mark 61 ∷ operand_token left ∷ (right_tokens right ++ mark 59 ∷ [])
statement_tokens (Write text count) =
    Word (codes "write") ∷ mark 40 ∷ Number 1 false false ∷ mark 44 ∷ Text text ∷ mark 44 ∷ operand_token count ∷ mark 41 ∷ mark 59 ∷ []
statement_tokens (Exits text) = Word (codes "exits") ∷ mark 40 ∷ exit_token text ∷ mark 41 ∷ mark 59 ∷ []

abbrev pub statements_tokens : List Statement → List Token
statements_tokens [] = []
statements_tokens (s ∷ ss) = statement_tokens s ++ statements_tokens ss

abbrev pub OperandFits : List (List ℕ) → Operand → Type 0
OperandFits names (operand.Variable x) = IsTrue (is_among names x)
OperandFits names (operand.Number value) = value ≤ 2147483647

abbrev pub RightFits : List (List ℕ) → Option Operand → Type 0
RightFits names None = Unit {0}
RightFits names (Some right) = OperandFits names right

abbrev pub TextFits : List ℕ → Type 0
TextFits text = IsTrue (list_all is_text_byte text)

abbrev pub ExitFits : Option (List ℕ) → Type 0
ExitFits None = Unit {0}
ExitFits (Some text) = TextFits text

abbrev pub StatementFits : List (List ℕ) → Statement → Type 0
StatementFits names (Assign x left right) = IsTrue (is_among names x) × OperandFits names left × RightFits names right
StatementFits names (Write text count) = TextFits text × OperandFits names count
StatementFits names (Exits text) = ExitFits text

abbrev pub StatementsFit : List (List ℕ) → List Statement → Type 0
StatementsFit names [] = Unit {0}
StatementsFit names (s ∷ ss) = StatementFits names s × StatementsFit names ss

-- Declarations

abbrev pub type_token : (is_long : Bool) → Token
type_token true = Word (codes "long")
type_token false = Word (codes "int")

abbrev pub declaration_tokens : Declaration → List Token
declaration_tokens d = by d.first
  where
    by : First → List Token
    by first.Extern = Word (codes "extern") ∷ type_token d.is_long ∷ Word d.name ∷ mark 59 ∷ []
    by first.Zero = type_token d.is_long ∷ Word d.name ∷ mark 59 ∷ []
    by (first.Number value) = type_token d.is_long ∷ Word d.name ∷ mark 61 ∷ Number value false false ∷ mark 59 ∷ []

abbrev pub declarations_tokens : List Declaration → List Token
declarations_tokens [] = []
declarations_tokens (d ∷ ds) = declaration_tokens d ++ declarations_tokens ds

abbrev pub FirstFits : First → Type 0
FirstFits first.Extern = Unit {0}
FirstFits first.Zero = Unit {0}
FirstFits (first.Number value) = value ≤ 2147483647

-- its name is new
abbrev pub DeclarationFits : List (List ℕ) → Declaration → Type 0
DeclarationFits names d = IsTrue (is_variable_name d.name && not (is_among names d.name)) × FirstFits d.first

abbrev pub DeclarationsFit : List (List ℕ) → List Declaration → Type 0
DeclarationsFit names [] = Unit {0}
DeclarationsFit names (d ∷ ds) = DeclarationFits names d × DeclarationsFit (d.name ∷ names) ds

-- the names behind declarations
abbrev pub declared : List (List ℕ) → List Declaration → List (List ℕ)
declared names [] = names
declared names (d ∷ ds) = declared (d.name ∷ names) ds

-- Files

-- `void main(void) {`
abbrev pub head_tokens : List Token
head_tokens =
    Word (codes "void") ∷ Word (codes "main") ∷ mark 40 ∷ Word (codes "void") ∷ mark 41 ∷ mark 123 ∷ []

abbrev pub main_tokens : Option (List Statement) → List Token
main_tokens None = []
main_tokens (Some ss) = head_tokens ++ (statements_tokens ss ++ mark 125 ∷ [])

abbrev pub written : File → List Token
written file = declarations_tokens file.before ++ (main_tokens file.main ++ (declarations_tokens file.after ++ End ∷ []))

abbrev pub MainFits : List (List ℕ) → Option (List Statement) → List Declaration → Type 0
MainFits names None after = after ≡ []
MainFits names (Some ss) after = StatementsFit names ss × DeclarationsFit names after

abbrev pub FileFits : File → Type 0
FileFits file = DeclarationsFit [] file.before × MainFits (declared [] file.before) file.main file.after
