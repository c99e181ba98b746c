-- Macros, and what the token at the head of a list is: one that stands, or the use of a macro.
use Rattle.std.specs.Prelude.{ℕ, zero, suc, ◌==◌, Bool, true, false, List, [], ◌∷◌, ◌++◌, length, Option, Some, None, if◌then◌else◌, bytes_eq}
use Rattle.std.specs.Map.{lookup}
use Rattle.p9_lex.specs.declared.token.Token.{Token}
use Rattle.p9_lex.specs.declared.token.TokenKind.{TokenKind}
use Rattle.p9_lex.specs.declared.token.TokenKind.TheVariants as kinds
use Rattle.p9_cpp.specs.declared.macros.Macro.{Macro}
use Rattle.p9_cpp.specs.declared.brackets.Bracket.{Bracket}
use Rattle.p9_cpp.specs.declared.brackets.Bracket.TheVariants.{Open, Close, Comma, Other}
use Rattle.p9_cpp.specs.declared.arguments.Turn.{Turn}
use Rattle.p9_cpp.specs.declared.arguments.Turn.TheVariants.{Inside, Splits, Closes}

-- Definitions

-- each name that was ever defined, with its macro where it is one now
abbrev pub Table : Type 0
Table = List (List ℕ × Option Macro)

abbrev pub flattened : {A : Type 0} → Option (Option A) → Option A
flattened None = None
flattened (Some o) = o

-- the macro of a name
abbrev pub macro_of : Table → (name : List ℕ) → Option Macro
macro_of table name = flattened (lookup (bytes_eq name) table)

abbrev pub is_among : (names : List (List ℕ)) (name : List ℕ) → Bool
is_among [] name = false
is_among (n ∷ names) name = if bytes_eq name n then true else is_among names name

-- Tokens

-- a keyword is a word too
abbrev pub word_in : TokenKind → Option (List ℕ)
word_in (kinds.Word name) = Some name
word_in (kinds.Number value unsigned long) = None
word_in (kinds.Char value) = None
word_in (kinds.Text bytes) = None
word_in (kinds.Mark m) = None
word_in kinds.NewLine = None
word_in kinds.End = None

-- `(`, `)` and `,` by their places in the list of marks
abbrev pub bracket_of_mark : ℕ → Bracket
bracket_of_mark m =
    if m == 2 then Open
    else (if m == 3 then Close
    else (if m == 7 then Comma
    else Other))

abbrev pub bracket_of : TokenKind → Bracket
bracket_of (kinds.Word name) = Other
bracket_of (kinds.Number value unsigned long) = Other
bracket_of (kinds.Char value) = Other
bracket_of (kinds.Text bytes) = Other
bracket_of (kinds.Mark m) = bracket_of_mark m
bracket_of kinds.NewLine = Other
bracket_of kinds.End = Other

-- Arguments

-- what a token does to an argument inside which so many parentheses are open
abbrev pub turn_of : Bracket → (depth : ℕ) → Turn
turn_of Open n = Inside (suc n)
turn_of Close zero = Closes
turn_of Close (suc n) = Inside n
turn_of Comma zero = Splits
turn_of Comma (suc n) = Inside (suc n)
turn_of Other n = Inside n

pub record Taken : Type 0 where
  pub args : List (List Token)
  pub after : List Token

abbrev pub by_turn : {R : Type 0} → Turn → (ℕ → R) → R → R → R
by_turn (Inside n) inside splits closes = inside n
by_turn Splits inside splits closes = splits
by_turn Closes inside splits closes = closes

-- the arguments up to the matching parenthesis, behind some and a part of one
abbrev pub taken : (depth : ℕ) (part : List Token) (args : List (List Token)) → List Token → Option Taken
taken depth part args [] = None
taken depth part args (t ∷ ts) =
    by_turn (turn_of (bracket_of t.kind) depth) (λ n. taken n (part ++ t ∷ []) args ts)
    (taken zero [] (args ++ part ∷ []) ts)
    (Some (record { args = args ++ part ∷ []; after = ts }))

-- as many arguments as parameters; empty parentheses are no argument for a macro without parameters
abbrev pub fitting : (params : ℕ) → List (List Token) → Option (List (List Token))
fitting zero ([] ∷ []) = Some []
fitting zero [] = None
fitting zero ((t ∷ ts) ∷ args) = None
fitting zero ([] ∷ (arg ∷ args)) = None
fitting (suc n) args = if suc n == length args then Some args else None

-- Uses

-- A token stands; or its name is a macro's that has no parameters, or one's whose arguments follow,
-- or one's whose arguments are wrong.
pub data Use : Type 0 where
  Stands : Use
  Plain : (name : List ℕ) → Macro → Use
  Call : (name : List ℕ) → Macro → (params : List (List ℕ)) (args : List (List Token)) (after : List Token) → Use
  Wrong : (name : List ℕ) → Use

abbrev pub use_of_fitting : (name : List ℕ) → Macro → (params : List (List ℕ)) → Option (List (List Token)) → List Token → Use
use_of_fitting name m params None after = Wrong name
use_of_fitting name m params (Some args) after = Call name m params args after

abbrev pub use_of_taken : (name : List ℕ) → Macro → (params : List (List ℕ)) → Option Taken → Use
use_of_taken name m params None = Wrong name
use_of_taken name m params (Some t) = use_of_fitting name m params (fitting (length params) t.args) t.after

abbrev pub use_of_next : (name : List ℕ) → Macro → (params : List (List ℕ)) → Bracket → List Token → Use
use_of_next name m params Open ts = use_of_taken name m params (taken zero [] [] ts)
use_of_next name m params Close ts = Stands
use_of_next name m params Comma ts = Stands
use_of_next name m params Other ts = Stands

abbrev pub use_of_call : (name : List ℕ) → Macro → (params : List (List ℕ)) → List Token → Use
use_of_call name m params [] = Stands
use_of_call name m params (t ∷ ts) = use_of_next name m params (bracket_of t.kind) ts

abbrev pub use_of_params : (name : List ℕ) → Macro → Option (List (List ℕ)) → List Token → Use
use_of_params name m None ts = Plain name m
use_of_params name m (Some params) ts = use_of_call name m params ts

abbrev pub use_of_macro : (name : List ℕ) → Option Macro → List Token → Use
use_of_macro name None ts = Stands
use_of_macro name (Some m) ts = use_of_params name m m.params ts

abbrev pub use_of_name : Table → (hidden : List (List ℕ)) → (name : List ℕ) → List Token → Use
use_of_name table hidden name ts = if is_among hidden name then Stands else use_of_macro name (macro_of table name) ts

abbrev pub use_of_word : Table → (hidden : List (List ℕ)) → Option (List ℕ) → List Token → Use
use_of_word table hidden None ts = Stands
use_of_word table hidden (Some name) ts = use_of_name table hidden name ts

-- what the token is before these
abbrev pub use_of : Table → (hidden : List (List ℕ)) → TokenKind → List Token → Use
use_of table hidden kind ts = use_of_word table hidden (word_in kind) ts

-- Bodies

abbrev pub at_line : (line : ℕ) → Token → Token
at_line line t = record t { line = line }

abbrev pub all_at_line : (line : ℕ) → List Token → List Token
all_at_line line [] = []
all_at_line line (t ∷ ts) = at_line line t ∷ all_at_line line ts

abbrev pub argument_of : (params : List (List ℕ)) (args : List (List Token)) (name : List ℕ) → Option (List Token)
argument_of [] args name = None
argument_of (p ∷ params) [] name = None
argument_of (p ∷ params) (arg ∷ args) name = if bytes_eq p name then Some arg else argument_of params args name

abbrev pub piece_by : Option (List Token) → Token → List Token
piece_by None t = t ∷ []
piece_by (Some arg) t = arg

abbrev pub piece_of_word : (params : List (List ℕ)) (args : List (List Token)) → Option (List ℕ) → Token → List Token
piece_of_word params args None t = t ∷ []
piece_of_word params args (Some name) t = piece_by (argument_of params args name) t

-- the argument that a token of a body stands for, and else the token itself
abbrev pub piece_of : (params : List (List ℕ)) (args : List (List Token)) → Token → List Token
piece_of params args t = piece_of_word params args (word_in t.kind) t

-- a body with the arguments put in; each of its tokens takes the line of the macro's name
abbrev pub put_in : (params : List (List ℕ)) (args : List (List Token)) (line : ℕ) → List Token → List Token
put_in params args line [] = []
put_in params args line (t ∷ ts) = all_at_line line (piece_of params args t) ++ put_in params args line ts
