-- The keywords of C. They are words to the lexer.
use Rattle.std.specs.Prelude.{ℕ, Bool, List, [], ◌∷◌, codes}
use Rattle.std.specs.List.{list_any}
use Rattle.p9_lex.specs.Mark.{is_same}

abbrev pub keywords : List (List ℕ)
keywords =
    codes "auto" ∷ codes "break" ∷ codes "case" ∷ codes "char" ∷ codes "const" ∷ codes "continue" ∷ codes "default" ∷ codes "do"
    ∷ codes "double" ∷ codes "else" ∷ codes "enum" ∷ codes "extern" ∷ codes "float" ∷ codes "for" ∷ codes "goto" ∷ codes "if"
    ∷ codes "int" ∷ codes "long" ∷ codes "register" ∷ codes "return" ∷ codes "short" ∷ codes "signed" ∷ codes "sizeof" ∷ codes "static"
    ∷ codes "struct" ∷ codes "switch" ∷ codes "typedef" ∷ codes "union" ∷ codes "unsigned" ∷ codes "void" ∷ codes "volatile" ∷ codes "while" ∷ []

abbrev pub is_keyword : (name : List ℕ) → Bool
is_keyword name = list_any (λ k. is_same name k) keywords
