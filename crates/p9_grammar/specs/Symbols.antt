-- The right-hand side of each kind: the tokens that it writes and the places of its parts, in order.
use Rattle.std.specs.Prelude.{ℕ, zero, suc, ◌+◌, ◌-◌, Bool, true, false, List, [], ◌∷◌, ◌++◌, map, Option, Some, None}
use Rattle.std.specs.List.{list_any}
use Rattle.p9_lang.specs.declared.tree.CBinary.{CBinary}
use Rattle.p9_lang.specs.declared.tree.CBinary.TheVariants as operator
use Rattle.p9_lang.specs.declared.tree.CUnary.{CUnary}
use Rattle.p9_lang.specs.declared.tree.CUnary.TheVariants as unary
use Rattle.p9_lang.specs.declared.tree.EntryBy.{EntryBy}
use Rattle.p9_lang.specs.declared.tree.EntryBy.TheVariants as by
use Rattle.p9_lang.specs.declared.tree.SpecWord.{SpecWord}
use Rattle.p9_lang.specs.declared.tree.SpecWord.TheVariants as word
use Rattle.p9_lang.specs.declared.tree.Kind.{Kind}
use Rattle.p9_lang.specs.declared.tree.Kind.TheVariants as kind
use Rattle.p9_grammar.specs.declared.terminal.Keyword.{Keyword}
use Rattle.p9_grammar.specs.declared.terminal.Keyword.TheVariants as key
use Rattle.p9_grammar.specs.declared.terminal.Punctuator.{Punctuator}
use Rattle.p9_grammar.specs.declared.terminal.Punctuator.TheVariants as mark
use Rattle.p9_grammar.specs.declared.terminal.Terminal.{Terminal}
use Rattle.p9_grammar.specs.declared.terminal.Terminal.TheVariants.{Key, Name, Number, Character, Text, Mark, End}
use Rattle.p9_grammar.specs.declared.head.Naming.{Naming}
use Rattle.p9_grammar.specs.declared.head.Naming.TheVariants as naming
use Rattle.p9_grammar.specs.declared.head.Class.{Class}
use Rattle.p9_grammar.specs.declared.head.Class.TheVariants as class

-- What a part may be: of a class, or what goes by the whole: a statement that ends the whole one, and in
-- a declarator what stands behind a star, before brackets, and in parentheses.
pub data Slot : Type 0 where
  Of : Class → Slot
  Last : Slot
  Pointed : Slot
  Direct : Slot
  Grouped : Slot

-- What a part adds to the names in scope: nothing of its own, or what its declarator declares, and for
-- the head of a function also a level with the names of its parameters.
pub data Role : Type 0 where
  Plain : Role
  Declares : (is_type : Bool) → Role
  Begins : (is_type : Bool) → Role

-- A token, the place of a part, or the beginning of a level of names.
pub data Symbol : Type 0 where
  Write : Terminal → Symbol
  Part : Slot → Role → Symbol
  Enter : Symbol

abbrev pub part : Class → Symbol
part c = Part (Of c) Plain

abbrev pub sign : Punctuator → Symbol
sign p = Write (Mark p)

abbrev pub keyword : Keyword → Symbol
keyword k = Write (Key k)

-- How tightly operators bind. Comma 1, assignment 2, the conditional 3, binary operators 4 to 13,
-- casts 14, unary operators 15, what follows an operand and what is none 16.

abbrev pub binds : CBinary → ℕ
binds operator.OrOr = 4
binds operator.AndAnd = 5
binds operator.Or = 6
binds operator.Xor = 7
binds operator.And = 8
binds operator.Eq = 9
binds operator.Ne = 9
binds operator.Lt = 10
binds operator.Gt = 10
binds operator.Le = 10
binds operator.Ge = 10
binds operator.Shl = 11
binds operator.Shr = 11
binds operator.Add = 12
binds operator.Sub = 12
binds operator.Mul = 13
binds operator.Div = 13
binds operator.Rem = 13

abbrev pub expression : Class
expression = class.Expression 1

abbrev pub assignment : Class
assignment = class.Expression 2

abbrev pub conditional : Class
conditional = class.Expression 3

abbrev pub operand : Class
operand = class.Expression 14

abbrev pub binary_sign : CBinary → Punctuator
binary_sign operator.Mul = mark.Star
binary_sign operator.Div = mark.Slash
binary_sign operator.Rem = mark.Percent
binary_sign operator.Add = mark.Plus
binary_sign operator.Sub = mark.Minus
binary_sign operator.Shl = mark.ShiftLeft
binary_sign operator.Shr = mark.ShiftRight
binary_sign operator.Lt = mark.Less
binary_sign operator.Gt = mark.Greater
binary_sign operator.Le = mark.LessEqual
binary_sign operator.Ge = mark.GreaterEqual
binary_sign operator.Eq = mark.EqualEqual
binary_sign operator.Ne = mark.BangEqual
binary_sign operator.And = mark.Ampersand
binary_sign operator.Xor = mark.Caret
binary_sign operator.Or = mark.Bar
binary_sign operator.AndAnd = mark.AmpersandAmpersand
binary_sign operator.OrOr = mark.BarBar

abbrev pub unary_sign : CUnary → Punctuator
unary_sign unary.Address = mark.Ampersand
unary_sign unary.Deref = mark.Star
unary_sign unary.Plus = mark.Plus
unary_sign unary.Minus = mark.Minus
unary_sign unary.Complement = mark.Tilde
unary_sign unary.Not = mark.Bang

-- an operator that isn't joined with `=` writes `#`, which stands in no unit
abbrev pub assignment_sign : Option CBinary → Punctuator
assignment_sign None = mark.Equal
assignment_sign (Some operator.Mul) = mark.StarEqual
assignment_sign (Some operator.Div) = mark.SlashEqual
assignment_sign (Some operator.Rem) = mark.PercentEqual
assignment_sign (Some operator.Add) = mark.PlusEqual
assignment_sign (Some operator.Sub) = mark.MinusEqual
assignment_sign (Some operator.Shl) = mark.ShiftLeftEqual
assignment_sign (Some operator.Shr) = mark.ShiftRightEqual
assignment_sign (Some operator.And) = mark.AmpersandEqual
assignment_sign (Some operator.Xor) = mark.CaretEqual
assignment_sign (Some operator.Or) = mark.BarEqual
assignment_sign (Some operator.Lt) = mark.Hash
assignment_sign (Some operator.Gt) = mark.Hash
assignment_sign (Some operator.Le) = mark.Hash
assignment_sign (Some operator.Ge) = mark.Hash
assignment_sign (Some operator.Eq) = mark.Hash
assignment_sign (Some operator.Ne) = mark.Hash
assignment_sign (Some operator.AndAnd) = mark.Hash
assignment_sign (Some operator.OrOr) = mark.Hash

abbrev pub step_sign : (minus : Bool) → Punctuator
step_sign true = mark.MinusMinus
step_sign false = mark.PlusPlus

abbrev pub dot_sign : (arrow : Bool) → Punctuator
dot_sign true = mark.Arrow
dot_sign false = mark.Dot

-- Lists of parts

abbrev pub many : ℕ → Class → List Symbol
many zero c = []
many (suc n) c = part c ∷ many n c

-- one after the other, a comma before each
abbrev pub later : ℕ → Symbol → List Symbol
later zero s = []
later (suc n) s = sign mark.Comma ∷ s ∷ later n s

-- separated by commas
abbrev pub listed : ℕ → Symbol → List Symbol
listed zero s = []
listed (suc n) s = s ∷ later n s

abbrev pub optional : Bool → Symbol → List Symbol
optional true s = s ∷ []
optional false s = []

-- there where parts are left
abbrev pub at_most_one : ℕ → Symbol → List Symbol
at_most_one zero s = []
at_most_one (suc n) s = s ∷ []

-- The heads of declarations

abbrev pub tag_key : (is_union : Bool) → Symbol
tag_key true = keyword key.Union
tag_key false = keyword key.Struct

-- an empty name is no name
abbrev pub named : List ℕ → List Symbol
named [] = []
named (b ∷ bs) = Write (Name (b ∷ bs)) ∷ []

abbrev pub in_braces : Option ℕ → (ℕ → List Symbol) → List Symbol
in_braces None inside = []
in_braces (Some n) inside = sign mark.OpenBrace ∷ (inside n ++ (sign mark.CloseBrace ∷ []))

abbrev pub word_symbols : SpecWord → List Symbol
word_symbols word.Extern = keyword key.Extern ∷ []
word_symbols word.Static = keyword key.Static ∷ []
word_symbols word.Typedef = keyword key.Typedef ∷ []
word_symbols word.Auto = keyword key.Auto ∷ []
word_symbols word.Register = keyword key.Register ∷ []
word_symbols word.Const = keyword key.Const ∷ []
word_symbols word.Volatile = keyword key.Volatile ∷ []
word_symbols word.Void = keyword key.Void ∷ []
word_symbols word.Char = keyword key.Char ∷ []
word_symbols word.Short = keyword key.Short ∷ []
word_symbols word.Int = keyword key.Int ∷ []
word_symbols word.Long = keyword key.Long ∷ []
word_symbols word.Signed = keyword key.Signed ∷ []
word_symbols word.Unsigned = keyword key.Unsigned ∷ []
word_symbols (word.TypeName name) = Write (Name name) ∷ []
word_symbols (word.Tag is_union name members) = tag_key is_union ∷ (named name ++ in_braces members (λ n. many n class.Member))
word_symbols (word.Enum name constants comma) =
    keyword key.Enum ∷ (named name ++ in_braces constants (λ n. listed n (part class.Constant) ++ optional comma (sign mark.Comma)))

abbrev pub spec_symbols : List SpecWord → List Symbol
spec_symbols [] = []
spec_symbols (w ∷ ws) = word_symbols w ++ spec_symbols ws

-- how many members or constants stand in the braces of the head
abbrev pub or_zero : Option ℕ → ℕ
or_zero None = 0
or_zero (Some n) = n

abbrev pub word_parts : SpecWord → ℕ
word_parts (word.Tag is_union name members) = or_zero members
word_parts (word.Enum name constants comma) = or_zero constants
word_parts _ = 0

abbrev pub spec_parts : List SpecWord → ℕ
spec_parts [] = 0
spec_parts (w ∷ ws) = word_parts w + spec_parts ws

abbrev pub is_typedef_word : SpecWord → Bool
is_typedef_word word.Typedef = true
is_typedef_word _ = false

abbrev pub is_typedef : List SpecWord → Bool
is_typedef words = list_any is_typedef_word words

-- Declarators

abbrev pub declarator : Symbol
declarator = Part (Of (class.Declarator naming.Named 15)) Plain

abbrev pub declarator_of : Naming → Role → Symbol
declarator_of n role = Part (Of (class.Declarator n 15)) role

-- each with its initialiser where its flag is set
abbrev pub initialiser : Bool → List Symbol
initialiser true = sign mark.Equal ∷ part class.Initialiser ∷ []
initialiser false = []

abbrev pub later_declarators : (is_type : Bool) → (inits : List Bool) → List Symbol
later_declarators is_type [] = []
later_declarators is_type (init ∷ inits) =
    sign mark.Comma ∷ declarator_of naming.Named (Declares is_type) ∷ (initialiser init ++ later_declarators is_type inits)

abbrev pub declarators : (is_type : Bool) → (inits : List Bool) → List Symbol
declarators is_type [] = []
declarators is_type (init ∷ inits) =
    declarator_of naming.Named (Declares is_type) ∷ (initialiser init ++ later_declarators is_type inits)

abbrev pub qualifier : (volatile : Bool) → Symbol
qualifier true = keyword key.Volatile
qualifier false = keyword key.Const

-- `inner` says that a declarator stands before
abbrev pub inner_declarator : Bool → List Symbol
inner_declarator true = Part Direct Plain ∷ []
inner_declarator false = []

-- the parameters, where one alone isn't the word `void`
abbrev pub parameters : ℕ → List Symbol
parameters zero = []
parameters (suc zero) = part class.OnlyParam ∷ []
parameters (suc (suc n)) = part class.Param ∷ later (suc n) (part class.Param)

abbrev pub parameter_list : (void_word : Bool) → ℕ → List Symbol
parameter_list true n = keyword key.Void ∷ []
parameter_list false n = parameters n

-- how many parts are left behind that declarator
abbrev pub behind : (inner : Bool) → ℕ → ℕ
behind false n = n
behind true zero = zero
behind true (suc n) = n

-- Initialisers

abbrev pub entry_place : EntryBy → List Symbol
entry_place by.Nothing = []
entry_place by.Index = sign mark.OpenBracket ∷ part conditional ∷ sign mark.CloseBracket ∷ []
entry_place (by.Member name) = sign mark.Dot ∷ Write (Name name) ∷ []

-- The statement of an `if` without `else` ends the whole; that before an `else` has no open `if` at its end.
abbrev pub branches : ℕ → List Symbol
branches (suc (suc (suc n))) = part (class.Statement false) ∷ keyword key.Else ∷ Part Last Plain ∷ []
branches _ = Part Last Plain ∷ []

abbrev pub text : List ℕ → Symbol
text bytes = Write (Text bytes)

abbrev pub texts : List (List ℕ) → List Symbol
texts [] = []
texts (t ∷ ts) = text t ∷ texts ts

-- each kind, with so many parts
abbrev pub right_side : Kind → ℕ → List Symbol
right_side (kind.Declaration spec inits) n =
    spec_symbols spec.words ++ (declarators (is_typedef spec.words) inits ++ (sign mark.Semicolon ∷ []))
right_side (kind.Function spec) n =
    spec_symbols spec.words ++ (declarator_of naming.Named (Begins (is_typedef spec.words)) ∷ part class.Body ∷ [])
right_side (kind.Member spec) n =
    spec_symbols spec.words ++ (listed (n - spec_parts spec.words) declarator ++ (sign mark.Semicolon ∷ []))
right_side (kind.EnumConst name true) n = Write (Name name) ∷ sign mark.Equal ∷ part conditional ∷ []
right_side (kind.EnumConst name false) n = Write (Name name) ∷ []
right_side (kind.DeclName name) n = Write (Name name) ∷ []
right_side (kind.Star volatiles) n = sign mark.Star ∷ (map qualifier volatiles ++ at_most_one n (Part Pointed Plain))
right_side (kind.Brackets inner sized) n =
    inner_declarator inner ++ (sign mark.OpenBracket ∷ (optional sized (part conditional) ++ (sign mark.CloseBracket ∷ [])))
right_side (kind.Params inner void_word) n =
    inner_declarator inner ++ (sign mark.OpenParen ∷ Enter ∷ (parameter_list void_word (behind inner n) ++ (sign mark.CloseParen ∷ [])))
right_side kind.DeclParens n = sign mark.OpenParen ∷ Part Grouped Plain ∷ sign mark.CloseParen ∷ []
right_side (kind.Param spec) n =
    spec_symbols spec.words ++ at_most_one (n - spec_parts spec.words) (declarator_of naming.Either (Declares false))
right_side (kind.NamedType spec) n =
    spec_symbols spec.words ++ at_most_one (n - spec_parts spec.words) (declarator_of naming.Bare Plain)
right_side (kind.InitList comma) n =
    sign mark.OpenBrace ∷ (listed n (part class.Entry) ++ (optional comma (sign mark.Comma) ++ (sign mark.CloseBrace ∷ [])))
right_side (kind.Entry place equals) n =
    entry_place place ++ (optional equals (sign mark.Equal) ++ (part class.Initialiser ∷ []))
right_side kind.Block n = sign mark.OpenBrace ∷ Enter ∷ (many n class.BlockItem ++ (sign mark.CloseBrace ∷ []))
right_side kind.Expression n = at_most_one n (part expression) ++ (sign mark.Semicolon ∷ [])
right_side kind.If n =
    keyword key.If ∷ sign mark.OpenParen ∷ part expression ∷ sign mark.CloseParen ∷ branches n
right_side kind.While n =
    keyword key.While ∷ sign mark.OpenParen ∷ part expression ∷ sign mark.CloseParen ∷ Part Last Plain ∷ []
right_side kind.Do n =
    keyword key.Do ∷ part (class.Statement true) ∷ keyword key.While ∷ sign mark.OpenParen ∷ part expression
    ∷ sign mark.CloseParen ∷ sign mark.Semicolon ∷ []
right_side (kind.For first test step) n =
    keyword key.For ∷ sign mark.OpenParen ∷ (optional first (part expression)
    ++ (sign mark.Semicolon ∷ (optional test (part expression)
    ++ (sign mark.Semicolon ∷ (optional step (part expression) ++ (sign mark.CloseParen ∷ Part Last Plain ∷ []))))))
right_side kind.Switch n =
    keyword key.Switch ∷ sign mark.OpenParen ∷ part expression ∷ sign mark.CloseParen
    ∷ sign mark.OpenBrace ∷ (many (behind true n) class.SwitchItem ++ (sign mark.CloseBrace ∷ []))
right_side kind.Case n = keyword key.Case ∷ part conditional ∷ sign mark.Colon ∷ []
right_side kind.Default n = keyword key.Default ∷ sign mark.Colon ∷ []
right_side kind.Break n = keyword key.Break ∷ sign mark.Semicolon ∷ []
right_side kind.Continue n = keyword key.Continue ∷ sign mark.Semicolon ∷ []
right_side kind.Return n = keyword key.Return ∷ (at_most_one n (part expression) ++ (sign mark.Semicolon ∷ []))
right_side kind.Index n =
    part (class.Expression 16) ∷ sign mark.OpenBracket ∷ part expression ∷ sign mark.CloseBracket ∷ []
right_side kind.Call n =
    part (class.Expression 16) ∷ sign mark.OpenParen ∷ (listed (behind true n) (part assignment) ++ (sign mark.CloseParen ∷ []))
right_side (kind.Dot arrow name) n = part (class.Expression 16) ∷ sign (dot_sign arrow) ∷ Write (Name name) ∷ []
right_side (kind.Post minus) n = part (class.Expression 16) ∷ sign (step_sign minus) ∷ []
right_side (kind.Pre minus) n = sign (step_sign minus) ∷ part (class.Expression 15) ∷ []
right_side (kind.Unary op) n = sign (unary_sign op) ∷ part operand ∷ []
right_side kind.SizeofValue n = keyword key.Sizeof ∷ part (class.Expression 15) ∷ []
right_side kind.SizeofType n =
    keyword key.Sizeof ∷ sign mark.OpenParen ∷ part class.Type ∷ sign mark.CloseParen ∷ []
right_side kind.Cast n = sign mark.OpenParen ∷ part class.Type ∷ sign mark.CloseParen ∷ part operand ∷ []
right_side (kind.Binary op) n =
    part (class.Expression (binds op)) ∷ sign (binary_sign op) ∷ part (class.Expression (suc (binds op))) ∷ []
right_side kind.Choose n =
    part (class.Expression 4) ∷ sign mark.Question ∷ part expression ∷ sign mark.Colon ∷ part conditional ∷ []
right_side (kind.Assign op) n = part (class.Expression 15) ∷ sign (assignment_sign op) ∷ part assignment ∷ []
right_side kind.Comma n = part expression ∷ sign mark.Comma ∷ part assignment ∷ []
right_side kind.Parens n = sign mark.OpenParen ∷ part expression ∷ sign mark.CloseParen ∷ []
right_side (kind.Name name) n = Write (Name name) ∷ []
right_side (kind.Number value unsigned long) n = Write (Number value unsigned long) ∷ []
right_side (kind.Character value) n = Write (Character value) ∷ []
right_side (kind.Text pieces) n = texts pieces

-- a whole file with so many items
abbrev pub file_symbols : ℕ → List Symbol
file_symbols n = many n class.FileItem ++ (Write End ∷ [])
