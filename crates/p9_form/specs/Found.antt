-- What a parser finds: statements up to a closing brace, declarations, `main`, and a whole file.
use Rattle.std.specs.Prelude.{◌≡◌, ℕ, Bool, true, false, ◌||◌, List, [], ◌∷◌, ◌++◌, Option, Some, None, codes}
use Rattle.p9_first.specs.Tokens.{Token, End}
use Rattle.p9_form.specs.declared.file.Statement.{Statement}
use Rattle.p9_form.specs.declared.file.Declaration.{Declaration}
use Rattle.p9_form.specs.declared.file.File.{File}
use Rattle.p9_form.specs.Reading.{is_that_word}
use Rattle.p9_form.specs.Phrases.{mark, statements_tokens, StatementsFit, declarations_tokens, DeclarationsFit, main_tokens, written, FileFits}

-- statements, a closing brace, and then the rest
pub record IsBody (names : List (List ℕ)) (ts : List Token) (ss : List Statement) (rest : List Token) : Type 0 where
  pub fits : StatementsFit names ss
  pub is : ts ≡ statements_tokens ss ++ (mark 125 ∷ rest)

pub record HasNoBody (names : List (List ℕ)) (ts : List Token) : Type 0 where
  pub no : (ss : List Statement) (rest : List Token) → IsBody names ts ss rest → ⊥

-- whether a declaration begins here
unfoldable pub begins_declaration : List Token → Bool
begins_declaration [] = false
begins_declaration (t ∷ ts) =
    is_that_word (codes "extern") t || (is_that_word (codes "int") t || is_that_word (codes "long") t)

-- as many declarations as there are, and then the rest
pub record AreDeclared (names : List (List ℕ)) (ts : List Token) (ds : List Declaration) (rest : List Token) : Type 0 where
  pub fit : DeclarationsFit names ds
  pub is : ts ≡ declarations_tokens ds ++ rest
  pub no_more : begins_declaration rest ≡ false

pub record HasNoDeclarations (names : List (List ℕ)) (ts : List Token) : Type 0 where
  pub no : (ds : List Declaration) (rest : List Token) → AreDeclared names ts ds rest → ⊥

abbrev pub is_end : List Token → Bool
is_end (End ∷ []) = true
is_end _ = false

-- `main`, or the end
abbrev pub IsMainPart : List (List ℕ) → List Token → Option (List Statement) → List Token → Type 0
IsMainPart names ts None rest = (is_end ts ≡ true) × (rest ≡ ts)
IsMainPart names ts (Some ss) rest = StatementsFit names ss × (ts ≡ main_tokens (Some ss) ++ rest)

pub record HasNoMainPart (names : List (List ℕ)) (ts : List Token) : Type 0 where
  pub no : (main : Option (List Statement)) (rest : List Token) → IsMainPart names ts main rest → ⊥

pub record IsWritten (ts : List Token) (file : File) : Type 0 where
  pub fits : FileFits file
  pub is : ts ≡ written file

pub record IsNotWritten (ts : List Token) : Type 0 where
  pub no : (file : File) → IsWritten ts file → ⊥
