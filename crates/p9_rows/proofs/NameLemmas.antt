-- Names by tables that know the same of each.
use Rattle.std.proofs.Common.{◌≡◌, ℕ, List, Option, ap}
use mathlib.Core.Path.{fun_ext}
use Rattle.p9_lex.specs.declared.token.Token.{Token}
use Rattle.std.specs.List.{position_from}
use Rattle.p9_rows.specs.Rows.{is_word, lexemes_by, lexemes_of}

pub lexemes_same : (tokens : List Token) (known : List ℕ → Option ℕ) → ((q : List ℕ) → known q ≡ position_from (is_word q) 0 tokens) → lexemes_by known tokens ≡ lexemes_of tokens
lexemes_same tokens known h = ap (λ k. lexemes_by k tokens) (fun_ext h)
