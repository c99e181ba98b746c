-- Marks. A mark's number is its place in the list, from 0.
use Rattle.std.specs.Prelude.{ℕ, ◌+◌, Bool, true, false, ◌==◌, List, [], ◌∷◌, ◌++◌, Option, Some, None, Result, Ok, Err, if◌then◌else◌, codes}
use Rattle.p9_lex.specs.declared.broken.Break.{Break}
use Rattle.p9_lex.specs.declared.mark.Marked.{Marked}
use Rattle.p9_lex.specs.declared.token.Dialect.{Dialect}
use Rattle.p9_lex.specs.declared.token.Dialect.TheVariants.{C, Asm}
use Rattle.p9_lex.specs.Broken.{bad_byte}

abbrev pub c_marks : List (List ℕ)
c_marks =
    codes "{" ∷ codes "}" ∷ codes "(" ∷ codes ")" ∷ codes "[" ∷ codes "]" ∷ codes ";" ∷ codes "," ∷ codes "."
    ∷ codes "->" ∷ codes "++" ∷ codes "--" ∷ codes "&" ∷ codes "*" ∷ codes "+" ∷ codes "-" ∷ codes "~" ∷ codes "!"
    ∷ codes "/" ∷ codes "%" ∷ codes "<<" ∷ codes ">>" ∷ codes "<" ∷ codes ">" ∷ codes "<=" ∷ codes ">="
    ∷ codes "==" ∷ codes "!=" ∷ codes "^" ∷ codes "|" ∷ codes "&&" ∷ codes "||" ∷ codes "?" ∷ codes ":"
    ∷ codes "=" ∷ codes "*=" ∷ codes "/=" ∷ codes "%=" ∷ codes "+=" ∷ codes "-=" ∷ codes "<<=" ∷ codes ">>="
    ∷ codes "&=" ∷ codes "^=" ∷ codes "|=" ∷ codes "#" ∷ []

-- the assembler has one more
abbrev pub more_marks : Dialect → List (List ℕ)
more_marks C = []
more_marks Asm = codes "$" ∷ []

abbrev pub marks : Dialect → List (List ℕ)
marks dialect = c_marks ++ more_marks dialect

abbrev pub is_same : List ℕ → List ℕ → Bool
is_same [] [] = true
is_same [] (y ∷ ys) = false
is_same (x ∷ xs) [] = false
is_same (x ∷ xs) (y ∷ ys) = if is_same xs ys then x == y else false

-- the place of a spelling in a list whose places count from `first`
abbrev pub place_from : (first : ℕ) (spelling : List ℕ) → List (List ℕ) → Option ℕ
place_from first spelling [] = None
place_from first spelling (m ∷ ms) =
    if is_same spelling m then Some first
    else place_from (first + 1) spelling ms

unfoldable pub mark_number : Dialect → (spelling : List ℕ) → Option ℕ
mark_number dialect spelling = place_from 0 spelling (marks dialect)

-- the mark of so many bytes if there is one, and else another answer
abbrev pub mark_or : (length : ℕ) → Option ℕ → Result Marked Break → Result Marked Break
mark_or length (Some m) other = Ok (record { number = m; length = length })
mark_or length None other = other

abbrev pub one_byte_mark : Dialect → (first : ℕ) → Result Marked Break
one_byte_mark dialect first = mark_or 1 (mark_number dialect (first ∷ [])) (Err (bad_byte 0))

abbrev pub two_byte_mark : Dialect → (first second : ℕ) → Result Marked Break
two_byte_mark dialect first second =
    mark_or 2 (mark_number dialect (first ∷ second ∷ [])) (one_byte_mark dialect first)

-- the longest mark that fits, by its first byte and the rest of the file after it
unfoldable pub longest_mark : Dialect → (first : ℕ) → List ℕ → Result Marked Break
longest_mark dialect first [] = one_byte_mark dialect first
longest_mark dialect first (second ∷ []) = two_byte_mark dialect first second
longest_mark dialect first (second ∷ third ∷ s) =
    mark_or 3 (mark_number dialect (first ∷ second ∷ third ∷ [])) (two_byte_mark dialect first second)
