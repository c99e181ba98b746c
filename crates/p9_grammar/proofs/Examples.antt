-- Runs of the machine over files that are C, and over files that are not.
use Rattle.std.proofs.Common.{◌≡◌, ℕ, Bool, true, false, List, [], ◌∷◌, Option, Some, None, refl}
use Rattle.std.specs.Prelude.{codes}
use Rattle.p9_grammar.specs.declared.terminal.Keyword.TheVariants as key
use Rattle.p9_grammar.specs.declared.terminal.Punctuator.TheVariants as mark
use Rattle.p9_grammar.specs.declared.terminal.Terminal.{Terminal}
use Rattle.p9_grammar.specs.declared.terminal.Terminal.TheVariants as t
use Rattle.p9_grammar.specs.declared.head.Head.{Head}
use Rattle.p9_grammar.specs.declared.head.Head.TheVariants as head
use Rattle.p9_grammar.specs.Machine.{State, Stack, step, run, file_start}
use Rattle.p9_grammar.specs.Grammar.{tokens}

abbrev is_file : Head → Bool
is_file head.FileOver = true
is_file _ = false

abbrev top : Stack → Bool
top [] = false
top (f ∷ s) = is_file f.head

abbrev is_over : Option State → Bool
is_over None = false
is_over (Some st) = top st.stack

is_file_0 : is_over (run (Some file_start) (t.Key key.Int ∷ t.Name (codes "x") ∷ t.Mark mark.Semicolon ∷ t.Key key.Void ∷ t.Name (codes "main") ∷ t.Mark mark.OpenParen ∷ t.Key key.Void ∷ t.Mark mark.CloseParen ∷ t.Mark mark.OpenBrace ∷ t.Name (codes "exits") ∷ t.Mark mark.OpenParen ∷ t.Number 0 false false ∷ t.Mark mark.CloseParen ∷ t.Mark mark.Semicolon ∷ t.Mark mark.CloseBrace ∷ t.End ∷ [])) ≡ true
unfolding step
is_file_0 = refl

is_file_1 : is_over (run (Some file_start) (t.Key key.Typedef ∷ t.Key key.Struct ∷ t.Name (codes "A") ∷ t.Name (codes "A") ∷ t.Mark mark.Semicolon ∷ t.Key key.Struct ∷ t.Name (codes "A") ∷ t.Mark mark.OpenBrace ∷ t.Key key.Int ∷ t.Name (codes "a") ∷ t.Mark mark.Comma ∷ t.Mark mark.Star ∷ t.Name (codes "b") ∷ t.Mark mark.OpenBracket ∷ t.Number 3 false false ∷ t.Mark mark.CloseBracket ∷ t.Mark mark.Semicolon ∷ t.Key key.Struct ∷ t.Mark mark.OpenBrace ∷ t.Key key.Int ∷ t.Name (codes "c") ∷ t.Mark mark.Semicolon ∷ t.Mark mark.CloseBrace ∷ t.Mark mark.Semicolon ∷ t.Mark mark.CloseBrace ∷ t.Name (codes "g") ∷ t.Mark mark.Comma ∷ t.Mark mark.Star ∷ t.Name (codes "h") ∷ t.Mark mark.Semicolon ∷ t.Key key.Enum ∷ t.Name (codes "E") ∷ t.Mark mark.OpenBrace ∷ t.Name (codes "P") ∷ t.Mark mark.Comma ∷ t.Name (codes "Q") ∷ t.Mark mark.Equal ∷ t.Number 3 false false ∷ t.Mark mark.Comma ∷ t.Mark mark.CloseBrace ∷ t.Mark mark.Semicolon ∷ t.Key key.Static ∷ t.Key key.Unsigned ∷ t.Key key.Long ∷ t.Key key.Int ∷ t.Mark mark.OpenParen ∷ t.Mark mark.Star ∷ t.Name (codes "f") ∷ t.Mark mark.OpenParen ∷ t.Key key.Int ∷ t.Name (codes "a") ∷ t.Mark mark.Comma ∷ t.Key key.Int ∷ t.Mark mark.OpenParen ∷ t.Mark mark.Star ∷ t.Mark mark.CloseParen ∷ t.Mark mark.OpenParen ∷ t.Name (codes "A") ∷ t.Mark mark.CloseParen ∷ t.Mark mark.Comma ∷ t.Name (codes "A") ∷ t.Name (codes "b") ∷ t.Mark mark.CloseParen ∷ t.Mark mark.CloseParen ∷ t.Mark mark.OpenParen ∷ t.Key key.Void ∷ t.Mark mark.CloseParen ∷ t.Mark mark.Semicolon ∷ t.End ∷ [])) ≡ true
unfolding step
is_file_1 = refl

is_file_2 : is_over (run (Some file_start) (t.Key key.Typedef ∷ t.Key key.Int ∷ t.Name (codes "T") ∷ t.Mark mark.Semicolon ∷ t.Key key.Typedef ∷ t.Key key.Int ∷ t.Name (codes "U") ∷ t.Mark mark.Semicolon ∷ t.Key key.Int ∷ t.Name (codes "f") ∷ t.Mark mark.OpenParen ∷ t.Key key.Int ∷ t.Name (codes "T") ∷ t.Mark mark.CloseParen ∷ t.Mark mark.OpenBrace ∷ t.Name (codes "T") ∷ t.Mark mark.Equal ∷ t.Number 1 false false ∷ t.Mark mark.Semicolon ∷ t.Mark mark.Star ∷ t.Mark mark.OpenParen ∷ t.Name (codes "U") ∷ t.Mark mark.CloseParen ∷ t.Name (codes "x") ∷ t.Mark mark.Equal ∷ t.Number 3 false false ∷ t.Mark mark.Semicolon ∷ t.Key key.Return ∷ t.Mark mark.OpenParen ∷ t.Name (codes "T") ∷ t.Mark mark.CloseParen ∷ t.Mark mark.Plus ∷ t.Number 1 false false ∷ t.Mark mark.Semicolon ∷ t.Mark mark.CloseBrace ∷ t.Name (codes "T") ∷ t.Name (codes "q") ∷ t.Mark mark.Semicolon ∷ t.Key key.Int ∷ t.Mark mark.OpenParen ∷ t.Name (codes "T") ∷ t.Mark mark.CloseParen ∷ t.Mark mark.Semicolon ∷ t.End ∷ [])) ≡ true
unfolding step
is_file_2 = refl

is_file_3 : is_over (run (Some file_start) (t.Key key.Int ∷ t.Name (codes "a") ∷ t.Mark mark.Equal ∷ t.Number 1 false false ∷ t.Mark mark.Comma ∷ t.Name (codes "b") ∷ t.Mark mark.OpenBracket ∷ t.Mark mark.CloseBracket ∷ t.Mark mark.Equal ∷ t.Mark mark.OpenBrace ∷ t.Mark mark.OpenBracket ∷ t.Number 2 false false ∷ t.Mark mark.CloseBracket ∷ t.Mark mark.Equal ∷ t.Number 5 false false ∷ t.Mark mark.Comma ∷ t.Mark mark.Dot ∷ t.Name (codes "x") ∷ t.Number 6 false false ∷ t.Mark mark.Comma ∷ t.Number 7 false false ∷ t.Mark mark.Comma ∷ t.Mark mark.OpenBrace ∷ t.Number 8 false false ∷ t.Mark mark.CloseBrace ∷ t.Mark mark.Comma ∷ t.Mark mark.CloseBrace ∷ t.Mark mark.Semicolon ∷ t.End ∷ [])) ≡ true
unfolding step
is_file_3 = refl

is_file_4 : is_over (run (Some file_start) (t.Key key.Void ∷ t.Name (codes "f") ∷ t.Mark mark.OpenParen ∷ t.Key key.Void ∷ t.Mark mark.CloseParen ∷ t.Mark mark.OpenBrace ∷ t.Key key.If ∷ t.Mark mark.OpenParen ∷ t.Name (codes "a") ∷ t.Mark mark.CloseParen ∷ t.Key key.If ∷ t.Mark mark.OpenParen ∷ t.Name (codes "b") ∷ t.Mark mark.CloseParen ∷ t.Name (codes "x") ∷ t.Mark mark.Semicolon ∷ t.Key key.Else ∷ t.Name (codes "y") ∷ t.Mark mark.Semicolon ∷ t.Key key.Else ∷ t.Mark mark.OpenBrace ∷ t.Name (codes "z") ∷ t.Mark mark.Semicolon ∷ t.Mark mark.CloseBrace ∷ t.Key key.While ∷ t.Mark mark.OpenParen ∷ t.Number 1 false false ∷ t.Mark mark.CloseParen ∷ t.Key key.Do ∷ t.Name (codes "x") ∷ t.Mark mark.PlusPlus ∷ t.Mark mark.Semicolon ∷ t.Key key.While ∷ t.Mark mark.OpenParen ∷ t.Mark mark.MinusMinus ∷ t.Name (codes "y") ∷ t.Mark mark.CloseParen ∷ t.Mark mark.Semicolon ∷ t.Key key.For ∷ t.Mark mark.OpenParen ∷ t.Mark mark.Semicolon ∷ t.Mark mark.Semicolon ∷ t.Mark mark.CloseParen ∷ t.Mark mark.Semicolon ∷ t.Key key.For ∷ t.Mark mark.OpenParen ∷ t.Name (codes "a") ∷ t.Mark mark.Equal ∷ t.Number 1 false false ∷ t.Mark mark.Semicolon ∷ t.Name (codes "b") ∷ t.Mark mark.Semicolon ∷ t.Name (codes "c") ∷ t.Mark mark.CloseParen ∷ t.Key key.Switch ∷ t.Mark mark.OpenParen ∷ t.Name (codes "x") ∷ t.Mark mark.CloseParen ∷ t.Mark mark.OpenBrace ∷ t.Key key.Case ∷ t.Number 1 false false ∷ t.Mark mark.Colon ∷ t.Key key.Case ∷ t.Number 2 false false ∷ t.Mark mark.Colon ∷ t.Name (codes "x") ∷ t.Mark mark.Semicolon ∷ t.Key key.Break ∷ t.Mark mark.Semicolon ∷ t.Key key.Default ∷ t.Mark mark.Colon ∷ t.Name (codes "y") ∷ t.Mark mark.Equal ∷ t.Name (codes "a") ∷ t.Mark mark.Question ∷ t.Name (codes "b") ∷ t.Mark mark.Colon ∷ t.Name (codes "c") ∷ t.Mark mark.Question ∷ t.Name (codes "d") ∷ t.Mark mark.Colon ∷ t.Name (codes "e") ∷ t.Mark mark.Semicolon ∷ t.Mark mark.CloseBrace ∷ t.Key key.Return ∷ t.Mark mark.Semicolon ∷ t.Mark mark.CloseBrace ∷ t.End ∷ [])) ≡ true
unfolding step
is_file_4 = refl

is_file_5 : is_over (run (Some file_start) (t.Key key.Typedef ∷ t.Key key.Int ∷ t.Name (codes "T") ∷ t.Mark mark.Semicolon ∷ t.Key key.Void ∷ t.Name (codes "f") ∷ t.Mark mark.OpenParen ∷ t.Key key.Void ∷ t.Mark mark.CloseParen ∷ t.Mark mark.OpenBrace ∷ t.Name (codes "x") ∷ t.Mark mark.Equal ∷ t.Mark mark.OpenParen ∷ t.Name (codes "T") ∷ t.Mark mark.CloseParen ∷ t.Name (codes "y") ∷ t.Mark mark.Plus ∷ t.Key key.Sizeof ∷ t.Mark mark.OpenParen ∷ t.Name (codes "T") ∷ t.Mark mark.CloseParen ∷ t.Mark mark.Star ∷ t.Key key.Sizeof ∷ t.Mark mark.OpenParen ∷ t.Name (codes "y") ∷ t.Mark mark.CloseParen ∷ t.Mark mark.OpenBracket ∷ t.Number 3 false false ∷ t.Mark mark.CloseBracket ∷ t.Mark mark.Minus ∷ t.Key key.Sizeof ∷ t.Mark mark.Star ∷ t.Name (codes "p") ∷ t.Mark mark.Semicolon ∷ t.Name (codes "a") ∷ t.Mark mark.PlusEqual ∷ t.Name (codes "b") ∷ t.Mark mark.Equal ∷ t.Name (codes "c") ∷ t.Mark mark.Comma ∷ t.Name (codes "d") ∷ t.Mark mark.BarBar ∷ t.Name (codes "e") ∷ t.Mark mark.AmpersandAmpersand ∷ t.Name (codes "f") ∷ t.Mark mark.Bar ∷ t.Name (codes "g") ∷ t.Mark mark.Caret ∷ t.Name (codes "h") ∷ t.Mark mark.Ampersand ∷ t.Name (codes "i") ∷ t.Mark mark.EqualEqual ∷ t.Name (codes "j") ∷ t.Mark mark.BangEqual ∷ t.Name (codes "k") ∷ t.Mark mark.Less ∷ t.Name (codes "l") ∷ t.Mark mark.ShiftLeft ∷ t.Name (codes "m") ∷ t.Mark mark.Plus ∷ t.Name (codes "n") ∷ t.Mark mark.Star ∷ t.Mark mark.Minus ∷ t.Name (codes "o") ∷ t.Mark mark.Semicolon ∷ t.Name (codes "p") ∷ t.Mark mark.Arrow ∷ t.Name (codes "q") ∷ t.Mark mark.Dot ∷ t.Name (codes "r") ∷ t.Mark mark.OpenBracket ∷ t.Name (codes "s") ∷ t.Mark mark.CloseBracket ∷ t.Mark mark.OpenParen ∷ t.Name (codes "t") ∷ t.Mark mark.Comma ∷ t.Name (codes "u") ∷ t.Mark mark.CloseParen ∷ t.Mark mark.PlusPlus ∷ t.Mark mark.Semicolon ∷ t.Text (codes "a") ∷ t.Text (codes "b") ∷ t.Mark mark.Semicolon ∷ t.Key key.Sizeof ∷ t.Mark mark.OpenParen ∷ t.Key key.Struct ∷ t.Mark mark.OpenBrace ∷ t.Key key.Int ∷ t.Name (codes "a") ∷ t.Mark mark.Semicolon ∷ t.Mark mark.CloseBrace ∷ t.Mark mark.CloseParen ∷ t.Mark mark.Semicolon ∷ t.Mark mark.OpenBrace ∷ t.Key key.Int ∷ t.Name (codes "T") ∷ t.Mark mark.Semicolon ∷ t.Name (codes "T") ∷ t.Mark mark.Equal ∷ t.Number 3 false false ∷ t.Mark mark.Semicolon ∷ t.Mark mark.CloseBrace ∷ t.Name (codes "T") ∷ t.Name (codes "z") ∷ t.Mark mark.Semicolon ∷ t.Mark mark.CloseBrace ∷ t.End ∷ [])) ≡ true
unfolding step
is_file_5 = refl

is_file_6 : is_over (run (Some file_start) (t.Key key.Int ∷ t.Name (codes "f") ∷ t.Mark mark.OpenParen ∷ t.Key key.Int ∷ t.Mark mark.Comma ∷ t.Key key.Int ∷ t.Mark mark.Star ∷ t.Mark mark.Comma ∷ t.Key key.Int ∷ t.Mark mark.OpenBracket ∷ t.Number 3 false false ∷ t.Mark mark.CloseBracket ∷ t.Mark mark.Comma ∷ t.Key key.Int ∷ t.Mark mark.OpenParen ∷ t.Mark mark.Star ∷ t.Mark mark.CloseParen ∷ t.Mark mark.OpenParen ∷ t.Key key.Void ∷ t.Mark mark.CloseParen ∷ t.Mark mark.Comma ∷ t.Key key.Int ∷ t.Mark mark.OpenParen ∷ t.Key key.Void ∷ t.Mark mark.CloseParen ∷ t.Mark mark.Comma ∷ t.Key key.Int ∷ t.Mark mark.OpenParen ∷ t.Mark mark.CloseParen ∷ t.Mark mark.Comma ∷ t.Key key.Int ∷ t.Mark mark.Star ∷ t.Key key.Const ∷ t.Key key.Volatile ∷ t.Mark mark.Star ∷ t.Mark mark.Comma ∷ t.Key key.Int ∷ t.Mark mark.OpenParen ∷ t.Key key.Int ∷ t.Mark mark.CloseParen ∷ t.Mark mark.CloseParen ∷ t.Mark mark.Semicolon ∷ t.Key key.Int ∷ t.Name (codes "g") ∷ t.Mark mark.OpenParen ∷ t.Key key.Void ∷ t.Mark mark.Comma ∷ t.Key key.Int ∷ t.Mark mark.CloseParen ∷ t.Mark mark.Semicolon ∷ t.Key key.Int ∷ t.Mark mark.OpenParen ∷ t.Name (codes "h") ∷ t.Mark mark.CloseParen ∷ t.Mark mark.OpenParen ∷ t.Key key.Int ∷ t.Name (codes "x") ∷ t.Mark mark.CloseParen ∷ t.Mark mark.OpenBrace ∷ t.Name (codes "x") ∷ t.Mark mark.Semicolon ∷ t.Mark mark.CloseBrace ∷ t.End ∷ [])) ≡ true
unfolding step
is_file_6 = refl

is_file_7 : is_over (run (Some file_start) (t.Key key.Enum ∷ t.Mark mark.OpenBrace ∷ t.Name (codes "A") ∷ t.Mark mark.Comma ∷ t.Name (codes "B") ∷ t.Mark mark.CloseBrace ∷ t.Name (codes "f") ∷ t.Mark mark.OpenParen ∷ t.Key key.Enum ∷ t.Name (codes "C") ∷ t.Mark mark.OpenBrace ∷ t.Name (codes "D") ∷ t.Mark mark.CloseBrace ∷ t.Name (codes "x") ∷ t.Mark mark.CloseParen ∷ t.Mark mark.OpenBrace ∷ t.Key key.Return ∷ t.Name (codes "D") ∷ t.Mark mark.Semicolon ∷ t.Mark mark.CloseBrace ∷ t.Key key.Typedef ∷ t.Key key.Int ∷ t.Name (codes "D") ∷ t.Mark mark.Semicolon ∷ t.Name (codes "D") ∷ t.Name (codes "y") ∷ t.Mark mark.Semicolon ∷ t.Key key.Int ∷ t.Mark mark.OpenParen ∷ t.Mark mark.Star ∷ t.Name (codes "k") ∷ t.Mark mark.OpenParen ∷ t.Key key.Int ∷ t.Name (codes "D") ∷ t.Mark mark.CloseParen ∷ t.Mark mark.CloseParen ∷ t.Mark mark.OpenBracket ∷ t.Key key.Sizeof ∷ t.Mark mark.OpenParen ∷ t.Key key.Struct ∷ t.Mark mark.OpenBrace ∷ t.Key key.Int ∷ t.Mark mark.OpenParen ∷ t.Mark mark.Star ∷ t.Name (codes "g") ∷ t.Mark mark.CloseParen ∷ t.Mark mark.OpenParen ∷ t.Key key.Int ∷ t.Name (codes "q") ∷ t.Mark mark.CloseParen ∷ t.Mark mark.Semicolon ∷ t.Mark mark.CloseBrace ∷ t.Mark mark.CloseParen ∷ t.Mark mark.CloseBracket ∷ t.Mark mark.OpenBrace ∷ t.Name (codes "D") ∷ t.Mark mark.Equal ∷ t.Number 3 false false ∷ t.Mark mark.Semicolon ∷ t.Mark mark.CloseBrace ∷ t.End ∷ [])) ≡ true
unfolding step
is_file_7 = refl

is_file_8 : is_over (run (Some file_start) (t.Key key.Typedef ∷ t.Key key.Int ∷ t.Name (codes "T") ∷ t.Mark mark.Semicolon ∷ t.Key key.Int ∷ t.Name (codes "f") ∷ t.Mark mark.OpenParen ∷ t.Key key.Int ∷ t.Mark mark.OpenParen ∷ t.Name (codes "T") ∷ t.Mark mark.CloseParen ∷ t.Mark mark.Comma ∷ t.Key key.Int ∷ t.Mark mark.OpenParen ∷ t.Mark mark.OpenParen ∷ t.Name (codes "T") ∷ t.Mark mark.CloseParen ∷ t.Mark mark.CloseParen ∷ t.Mark mark.Comma ∷ t.Key key.Int ∷ t.Mark mark.Star ∷ t.Mark mark.OpenParen ∷ t.Name (codes "T") ∷ t.Mark mark.CloseParen ∷ t.Mark mark.Comma ∷ t.Key key.Int ∷ t.Mark mark.OpenParen ∷ t.Name (codes "T") ∷ t.Name (codes "x") ∷ t.Mark mark.CloseParen ∷ t.Mark mark.Comma ∷ t.Key key.Int ∷ t.Mark mark.OpenParen ∷ t.Mark mark.OpenParen ∷ t.Name (codes "x") ∷ t.Mark mark.CloseParen ∷ t.Mark mark.CloseParen ∷ t.Mark mark.Comma ∷ t.Key key.Int ∷ t.Mark mark.OpenParen ∷ t.Mark mark.Star ∷ t.Name (codes "x") ∷ t.Mark mark.CloseParen ∷ t.Mark mark.OpenParen ∷ t.Name (codes "T") ∷ t.Mark mark.CloseParen ∷ t.Mark mark.CloseParen ∷ t.Mark mark.Semicolon ∷ t.End ∷ [])) ≡ true
unfolding step
is_file_8 = refl

is_no_file_0 : is_over (run (Some file_start) (t.Key key.Int ∷ t.Name (codes "x") ∷ t.End ∷ [])) ≡ false
unfolding step
is_no_file_0 = refl

is_no_file_1 : is_over (run (Some file_start) (t.Key key.Void ∷ t.Name (codes "f") ∷ t.Mark mark.OpenParen ∷ t.Key key.Void ∷ t.Mark mark.CloseParen ∷ t.Mark mark.OpenBrace ∷ t.Mark mark.OpenParen ∷ t.Key key.Int ∷ t.Mark mark.CloseParen ∷ t.Name (codes "x") ∷ t.Mark mark.Equal ∷ t.Number 3 false false ∷ t.Mark mark.Semicolon ∷ t.Mark mark.CloseBrace ∷ t.End ∷ [])) ≡ false
unfolding step
is_no_file_1 = refl

is_no_file_2 : is_over (run (Some file_start) (t.Key key.Void ∷ t.Name (codes "f") ∷ t.Mark mark.OpenParen ∷ t.Key key.Void ∷ t.Mark mark.CloseParen ∷ t.Mark mark.OpenBrace ∷ t.Name (codes "a") ∷ t.Mark mark.Plus ∷ t.Name (codes "b") ∷ t.Mark mark.Equal ∷ t.Name (codes "c") ∷ t.Mark mark.Semicolon ∷ t.Mark mark.CloseBrace ∷ t.End ∷ [])) ≡ false
unfolding step
is_no_file_2 = refl

is_no_file_3 : is_over (run (Some file_start) (t.Key key.Int ∷ t.Name (codes "f") ∷ t.Mark mark.OpenParen ∷ t.Key key.Void ∷ t.Name (codes "x") ∷ t.Mark mark.Comma ∷ t.Key key.Void ∷ t.Mark mark.CloseParen ∷ t.Mark mark.OpenBrace ∷ t.Mark mark.CloseBrace ∷ t.Mark mark.CloseBrace ∷ t.End ∷ [])) ≡ false
unfolding step
is_no_file_3 = refl

is_no_file_4 : is_over (run (Some file_start) (t.Key key.Int ∷ t.Name (codes "f") ∷ t.Mark mark.OpenParen ∷ t.Key key.Int ∷ t.Mark mark.OpenParen ∷ t.Key key.Void ∷ t.Mark mark.Comma ∷ t.Key key.Int ∷ t.Mark mark.CloseParen ∷ t.Mark mark.Comma ∷ t.Name (codes "x") ∷ t.Mark mark.CloseParen ∷ t.Mark mark.Semicolon ∷ t.End ∷ [])) ≡ false
unfolding step
is_no_file_4 = refl

is_no_file_5 : is_over (run (Some file_start) (t.Key key.Void ∷ t.Name (codes "f") ∷ t.Mark mark.OpenParen ∷ t.Key key.Void ∷ t.Mark mark.CloseParen ∷ t.Mark mark.OpenBrace ∷ t.Mark mark.PlusPlus ∷ t.Mark mark.OpenParen ∷ t.Key key.Int ∷ t.Mark mark.CloseParen ∷ t.Name (codes "x") ∷ t.Mark mark.Semicolon ∷ t.Mark mark.CloseBrace ∷ t.End ∷ [])) ≡ false
unfolding step
is_no_file_5 = refl

is_no_file_6 : is_over (run (Some file_start) (t.Key key.Typedef ∷ t.Key key.Int ∷ t.Name (codes "T") ∷ t.Mark mark.Semicolon ∷ t.Key key.Void ∷ t.Name (codes "f") ∷ t.Mark mark.OpenParen ∷ t.Key key.Void ∷ t.Mark mark.CloseParen ∷ t.Mark mark.OpenBrace ∷ t.Name (codes "T") ∷ t.Mark mark.Equal ∷ t.Number 3 false false ∷ t.Mark mark.Semicolon ∷ t.Mark mark.CloseBrace ∷ t.End ∷ [])) ≡ false
unfolding step
is_no_file_6 = refl

is_no_file_7 : is_over (run (Some file_start) (t.Key key.Typedef ∷ t.Key key.Int ∷ t.Name (codes "T") ∷ t.Mark mark.Semicolon ∷ t.Key key.Void ∷ t.Name (codes "f") ∷ t.Mark mark.OpenParen ∷ t.Key key.Void ∷ t.Mark mark.CloseParen ∷ t.Mark mark.OpenBrace ∷ t.Mark mark.OpenBrace ∷ t.Key key.Int ∷ t.Name (codes "T") ∷ t.Mark mark.Semicolon ∷ t.Mark mark.CloseBrace ∷ t.Name (codes "T") ∷ t.Mark mark.Equal ∷ t.Number 3 false false ∷ t.Mark mark.Semicolon ∷ t.Mark mark.CloseBrace ∷ t.End ∷ [])) ≡ false
unfolding step
is_no_file_7 = refl

is_no_file_8 : is_over (run (Some file_start) (t.Key key.Void ∷ t.Name (codes "f") ∷ t.Mark mark.OpenParen ∷ t.Key key.Void ∷ t.Mark mark.CloseParen ∷ t.Mark mark.OpenBrace ∷ t.Key key.Sizeof ∷ t.Mark mark.OpenParen ∷ t.Key key.Int ∷ t.Mark mark.CloseParen ∷ t.Mark mark.OpenBracket ∷ t.Number 3 false false ∷ t.Mark mark.CloseBracket ∷ t.Mark mark.Semicolon ∷ t.Mark mark.CloseBrace ∷ t.End ∷ [])) ≡ false
unfolding step
is_no_file_8 = refl

is_no_file_9 : is_over (run (Some file_start) (t.Key key.Void ∷ t.Name (codes "f") ∷ t.Mark mark.OpenParen ∷ t.Key key.Void ∷ t.Mark mark.CloseParen ∷ t.Mark mark.OpenBrace ∷ t.Key key.Case ∷ t.Number 1 false false ∷ t.Mark mark.Colon ∷ t.Mark mark.Semicolon ∷ t.Mark mark.CloseBrace ∷ t.End ∷ [])) ≡ false
unfolding step
is_no_file_9 = refl

is_no_file_10 : is_over (run (Some file_start) (t.Key key.Int ∷ t.Mark mark.OpenBrace ∷ t.Key key.Int ∷ t.Name (codes "x") ∷ t.Mark mark.Semicolon ∷ t.Mark mark.CloseBrace ∷ t.End ∷ [])) ≡ false
unfolding step
is_no_file_10 = refl

is_no_file_11 : is_over (run (Some file_start) (t.Key key.Long ∷ t.Key key.Short ∷ t.Name (codes "x") ∷ t.Mark mark.Semicolon ∷ t.End ∷ [])) ≡ false
unfolding step
is_no_file_11 = refl

is_no_file_12 : is_over (run (Some file_start) (t.Key key.Struct ∷ t.Name (codes "S") ∷ t.Mark mark.OpenBrace ∷ t.Key key.Static ∷ t.Key key.Int ∷ t.Name (codes "x") ∷ t.Mark mark.Semicolon ∷ t.Mark mark.CloseBrace ∷ t.Mark mark.Semicolon ∷ t.End ∷ [])) ≡ false
unfolding step
is_no_file_12 = refl

is_no_file_13 : is_over (run (Some file_start) (t.Key key.Int ∷ t.Name (codes "a") ∷ t.Mark mark.Equal ∷ t.Mark mark.OpenBrace ∷ t.Mark mark.CloseBrace ∷ t.Mark mark.Semicolon ∷ t.End ∷ [])) ≡ false
unfolding step
is_no_file_13 = refl

is_no_file_14 : is_over (run (Some file_start) (t.Key key.Void ∷ t.Name (codes "f") ∷ t.Mark mark.OpenParen ∷ t.Key key.Void ∷ t.Mark mark.CloseParen ∷ t.Key key.Int ∷ t.Name (codes "x") ∷ t.Mark mark.Semicolon ∷ t.End ∷ [])) ≡ false
unfolding step
is_no_file_14 = refl

is_no_file_15 : is_over (run (Some file_start) (t.Key key.Int ∷ t.Mark mark.Star ∷ t.Mark mark.Semicolon ∷ t.Name (codes "x") ∷ t.End ∷ [])) ≡ false
unfolding step
is_no_file_15 = refl

is_no_file_16 : is_over (run (Some file_start) (t.Key key.Struct ∷ t.Mark mark.OpenBrace ∷ t.Mark mark.CloseBrace ∷ t.Mark mark.Semicolon ∷ t.End ∷ [])) ≡ false
unfolding step
is_no_file_16 = refl

is_no_file_17 : is_over (run (Some file_start) (t.Key key.Int ∷ t.Name (codes "f") ∷ t.Mark mark.OpenParen ∷ t.Key key.Int ∷ t.Mark mark.Star ∷ t.Name (codes "x") ∷ t.Mark mark.CloseBracket ∷ t.Mark mark.CloseParen ∷ t.Mark mark.Semicolon ∷ t.End ∷ [])) ≡ false
unfolding step
is_no_file_17 = refl
