-- The lexer's tokens as the grammar's terminals.
use Rattle.std.specs.Prelude.{◌≡◌, ℕ, List, [], ◌∷◌, map, Option, Some, None, slice_get, if◌then◌else◌, codes}
use Rattle.std.specs.Str.{bytes_eq}
use Rattle.p9_lex.specs.declared.token.TokenKind.{TokenKind}
use Rattle.p9_lex.specs.declared.token.TokenKind.TheVariants as kind
use Rattle.p9_lex.specs.declared.token.Token.{Token}
use Rattle.p9_lex.specs.Mark.{c_marks}
use Rattle.p9_lex.specs.Keyword.{keywords}
use Rattle.p9_grammar.specs.declared.terminal.Keyword.{Keyword}
use Rattle.p9_grammar.specs.declared.terminal.Keyword.TheVariants as key
use Rattle.p9_grammar.specs.declared.terminal.Punctuator.{Punctuator}
use Rattle.p9_grammar.specs.declared.terminal.Punctuator.TheVariants as mark
use Rattle.p9_grammar.specs.declared.terminal.Terminal.{Terminal}
use Rattle.p9_grammar.specs.declared.terminal.Terminal.TheVariants as t

-- how a punctuator is written
abbrev pub written : Punctuator → List ℕ
written mark.OpenBrace = codes "{"
written mark.CloseBrace = codes "}"
written mark.OpenParen = codes "("
written mark.CloseParen = codes ")"
written mark.OpenBracket = codes "["
written mark.CloseBracket = codes "]"
written mark.Semicolon = codes ";"
written mark.Comma = codes ","
written mark.Dot = codes "."
written mark.Arrow = codes "->"
written mark.PlusPlus = codes "++"
written mark.MinusMinus = codes "--"
written mark.Ampersand = codes "&"
written mark.Star = codes "*"
written mark.Plus = codes "+"
written mark.Minus = codes "-"
written mark.Tilde = codes "~"
written mark.Bang = codes "!"
written mark.Slash = codes "/"
written mark.Percent = codes "%"
written mark.ShiftLeft = codes "<<"
written mark.ShiftRight = codes ">>"
written mark.Less = codes "<"
written mark.Greater = codes ">"
written mark.LessEqual = codes "<="
written mark.GreaterEqual = codes ">="
written mark.EqualEqual = codes "=="
written mark.BangEqual = codes "!="
written mark.Caret = codes "^"
written mark.Bar = codes "|"
written mark.AmpersandAmpersand = codes "&&"
written mark.BarBar = codes "||"
written mark.Question = codes "?"
written mark.Colon = codes ":"
written mark.Equal = codes "="
written mark.StarEqual = codes "*="
written mark.SlashEqual = codes "/="
written mark.PercentEqual = codes "%="
written mark.PlusEqual = codes "+="
written mark.MinusEqual = codes "-="
written mark.ShiftLeftEqual = codes "<<="
written mark.ShiftRightEqual = codes ">>="
written mark.AmpersandEqual = codes "&="
written mark.CaretEqual = codes "^="
written mark.BarEqual = codes "|="
written mark.Hash = codes "#"

-- the punctuators in the order of the lexer's marks
abbrev pub punctuators : List Punctuator
punctuators =
    mark.OpenBrace ∷ mark.CloseBrace ∷ mark.OpenParen ∷ mark.CloseParen ∷ mark.OpenBracket ∷ mark.CloseBracket ∷ mark.Semicolon ∷ mark.Comma
    ∷ mark.Dot ∷ mark.Arrow ∷ mark.PlusPlus ∷ mark.MinusMinus ∷ mark.Ampersand ∷ mark.Star ∷ mark.Plus ∷ mark.Minus
    ∷ mark.Tilde ∷ mark.Bang ∷ mark.Slash ∷ mark.Percent ∷ mark.ShiftLeft ∷ mark.ShiftRight ∷ mark.Less ∷ mark.Greater
    ∷ mark.LessEqual ∷ mark.GreaterEqual ∷ mark.EqualEqual ∷ mark.BangEqual ∷ mark.Caret ∷ mark.Bar ∷ mark.AmpersandAmpersand ∷ mark.BarBar
    ∷ mark.Question ∷ mark.Colon ∷ mark.Equal ∷ mark.StarEqual ∷ mark.SlashEqual ∷ mark.PercentEqual ∷ mark.PlusEqual ∷ mark.MinusEqual
    ∷ mark.ShiftLeftEqual ∷ mark.ShiftRightEqual ∷ mark.AmpersandEqual ∷ mark.CaretEqual ∷ mark.BarEqual ∷ mark.Hash ∷ []

-- how a keyword is spelled
abbrev pub spelled : Keyword → List ℕ
spelled key.Auto = codes "auto"
spelled key.Break = codes "break"
spelled key.Case = codes "case"
spelled key.Char = codes "char"
spelled key.Const = codes "const"
spelled key.Continue = codes "continue"
spelled key.Default = codes "default"
spelled key.Do = codes "do"
spelled key.Double = codes "double"
spelled key.Else = codes "else"
spelled key.Enum = codes "enum"
spelled key.Extern = codes "extern"
spelled key.Float = codes "float"
spelled key.For = codes "for"
spelled key.Goto = codes "goto"
spelled key.If = codes "if"
spelled key.Int = codes "int"
spelled key.Long = codes "long"
spelled key.Register = codes "register"
spelled key.Return = codes "return"
spelled key.Short = codes "short"
spelled key.Signed = codes "signed"
spelled key.Sizeof = codes "sizeof"
spelled key.Static = codes "static"
spelled key.Struct = codes "struct"
spelled key.Switch = codes "switch"
spelled key.Typedef = codes "typedef"
spelled key.Union = codes "union"
spelled key.Unsigned = codes "unsigned"
spelled key.Void = codes "void"
spelled key.Volatile = codes "volatile"
spelled key.While = codes "while"

abbrev pub all_keywords : List Keyword
all_keywords =
    key.Auto ∷ key.Break ∷ key.Case ∷ key.Char ∷ key.Const ∷ key.Continue ∷ key.Default ∷ key.Do
    ∷ key.Double ∷ key.Else ∷ key.Enum ∷ key.Extern ∷ key.Float ∷ key.For ∷ key.Goto ∷ key.If
    ∷ key.Int ∷ key.Long ∷ key.Register ∷ key.Return ∷ key.Short ∷ key.Signed ∷ key.Sizeof ∷ key.Static
    ∷ key.Struct ∷ key.Switch ∷ key.Typedef ∷ key.Union ∷ key.Unsigned ∷ key.Void ∷ key.Volatile ∷ key.While ∷ []

-- the keyword among these that is spelled so
abbrev pub keyword_in : List Keyword → (name : List ℕ) → Option Keyword
keyword_in [] name = None
keyword_in (k ∷ ks) name = if bytes_eq (spelled k) name then Some k else keyword_in ks name

abbrev pub word : Option Keyword → (name : List ℕ) → Terminal
word (Some k) name = t.Key k
word None name = t.Name name

abbrev pub mark_or_other : Option Punctuator → Terminal
mark_or_other (Some p) = t.Mark p
mark_or_other None = t.Other

-- a word is a keyword or a name; the end of a line stands in no unit
abbrev pub terminal_of : TokenKind → Terminal
terminal_of (kind.Word name) = word (keyword_in all_keywords name) name
terminal_of (kind.Number value unsigned long) = t.Number value unsigned long
terminal_of (kind.Char value) = t.Character value
terminal_of (kind.Text bytes) = t.Text bytes
terminal_of (kind.Mark number) = mark_or_other (slice_get punctuators number)
terminal_of kind.NewLine = t.Other
terminal_of kind.End = t.End

abbrev pub terminals : List Token → List Terminal
terminals tokens = map (λ token. terminal_of token.kind) tokens

-- One list of marks and one of keywords: those of the lexer and of the grammar.
abbrev pub OneSpelling : Type 0
OneSpelling = (map written punctuators ≡ c_marks) × (map spelled all_keywords ≡ keywords)
