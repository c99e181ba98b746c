-- Comments. Each function is given the rest of the file from byte k of the comment on, and gives the
-- comment's length.
use Rattle.std.specs.Prelude.{ℕ, ◌+◌, Bool, false, ◌==◌, ◌&&◌, List, [], ◌∷◌, Result, Ok, Err, if◌then◌else◌}
use Rattle.p9_lex.specs.declared.broken.Break.{Break}
use Rattle.p9_lex.specs.Classes.{is_newline}
use Rattle.p9_lex.specs.Broken.{bad_byte, open_comment}

-- to the line's end; a zero byte stands nowhere
abbrev pub line_comment : ℕ → List ℕ → Result ℕ Break
line_comment k [] = Ok k
line_comment k (b ∷ s) =
    if is_newline b then Ok k
    else (if b == 0 then Err (bad_byte k)
    else line_comment (k + 1) s)

-- whether a list begins with this byte
abbrev pub begins : ℕ → List ℕ → Bool
begins c [] = false
begins c (b ∷ s) = b == c

-- to the first `*/`
abbrev pub block_comment : ℕ → List ℕ → Result ℕ Break
block_comment k [] = Err (open_comment k)
block_comment k (b ∷ s) =
    if b == 0 then Err (bad_byte k)
    else (if b == 42 && begins 47 s then Ok (k + 2)
    else block_comment (k + 1) s)
