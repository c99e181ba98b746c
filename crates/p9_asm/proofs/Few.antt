-- A file has at most one token a byte, and the end.
use Rattle.std.proofs.Common.{◌≡◌, ℕ, zero, suc, ◌+◌, ◌-◌, ◌≤◌, ◌^◌, Bool, true, false, cond, leb, List, [], ◌∷◌, ◌++◌, length, Option, Some, None, Result, Ok, Err, refl, ap, arith, length-append}
use Rattle.std.specs.Prelude.{is_some}
use Rattle.std.proofs.lemmas.Bool.Decides.{nat_tests}
use Rattle.p9_lex.specs.declared.broken.Break.{Break}
use Rattle.p9_lex.specs.declared.broken.Stop.{Stop}
use Rattle.p9_lex.specs.declared.piece.Found.{Found}
use Rattle.p9_lex.specs.declared.token.Dialect.{Dialect}
use Rattle.p9_lex.specs.declared.token.Dialect.TheVariants.{Asm}
use Rattle.p9_lex.specs.declared.token.Token.{Token}
use Rattle.p9_lex.specs.declared.token.TokenKind.{TokenKind}
use Rattle.p9_lex.specs.declared.token.TokenKind.TheVariants as kinds
use Rattle.p9_lex.specs.Piece.{piece}
use Rattle.p9_lex.specs.Tokens.{kind_of, first_after, line_after, tokens_at, in_front, after_piece, scan, max_bytes, too_long, limited, answer_of, lexed}

one_at_most : (o : Option TokenKind) (start end line : ℕ) (first joined : Bool) → length (tokens_at o start end line first joined) ≤ 1
one_at_most None start end line first joined = omega arith
one_at_most (Some kind) start end line first joined = omega arith

front_few : (front : List Token) (rest : Result (List Token) Stop) (n : ℕ) (ts : List Token) → length front ≤ 1 → ((rs : List Token) → rest ≡ Ok rs → length rs ≤ n) → in_front front rest ≡ Ok ts → length ts ≤ n + 1
front_few front (Ok rs) n ts one few h =
    let e : front ++ rs ≡ ts = cc in
    omega (arith, one, few rs refl, ap length e, length-append front rs)
front_few front (Err stop) n ts one few h = absurd (cc)

after_few : (place : ℕ) (r : Result Found Break) (next : Found → Result (List Token) Stop) (n : ℕ) (ts : List Token) → ((f : Found) → next f ≡ Ok ts → length ts ≤ n) → after_piece place r next ≡ Ok ts → length ts ≤ n
after_few place (Ok f) next n ts few h = few f h
after_few place (Err e) next n ts few h = absurd (cc)

scan_few : (d : Dialect) (inside place line : ℕ) (first joined : Bool) (s : List ℕ) (ts : List Token) → scan d inside place line first joined s ≡ Ok ts → length ts ≤ length s + 1
unfolding scan
scan_few d inside place line first joined [] ts h =
    let e : tokens_at (Some kinds.End) place place line first joined ≡ ts = cc in
    omega (arith, ap length e)
scan_few d (suc n) place line first joined (b ∷ s) ts h =
    omega (arith, scan_few d n (place + 1) (line_after b line) first joined s ts h)
scan_few d zero place line first joined (b ∷ s) ts h =
    let count : length (b ∷ s) + 1 ≡ length s + 1 + 1 = omega arith in
    rw count
    (after_few place (piece d b s)
    (λ f. in_front (tokens_at (kind_of d f.piece) place (place + f.length) line first joined)
    (scan d (f.length - 1) (place + 1) (line_after b line) (first_after first f.piece) (is_some (kind_of d f.piece)) s))
    (length s + 1 + 1) ts
    (λ f k. front_few (tokens_at (kind_of d f.piece) place (place + f.length) line first joined)
    (scan d (f.length - 1) (place + 1) (line_after b line) (first_after first f.piece) (is_some (kind_of d f.piece)) s)
    (length s + 1) ts (one_at_most (kind_of d f.piece) place (place + f.length) line first joined)
    (λ rs e. scan_few d (f.length - 1) (place + 1) (line_after b line) (first_after first f.piece) (is_some (kind_of d f.piece)) s rs e) k)
    h)

within : (small : Bool) (bytes : List ℕ) (ts given : List Token) (stop : Stop) → leb (length bytes) max_bytes ≡ small → answer_of bytes (cond small (Ok ts) (Err stop)) ≡ Ok given → (length bytes ≤ max_bytes) × (ts ≡ given)
within true bytes ts given stop e h =
    let few : length bytes ≤ max_bytes = grind (arith, nat_tests) in
    let same : ts ≡ given = cc in
    (few, same)
within false bytes ts given stop e h = absurd (cc)

limited_few : (bytes : List ℕ) (r : Result (List Token) Stop) (ts : List Token) → ((rs : List Token) → r ≡ Ok rs → length rs ≤ length bytes + 1) → answer_of bytes (limited bytes r) ≡ Ok ts → length ts ≤ 2 ^ 25
limited_few bytes (Ok rs) ts few h =
    let w = within (leb (length bytes) max_bytes) bytes rs ts too_long refl h in
    omega (arith, w.0, few rs refl, ap length w.1)
limited_few bytes (Err stop) ts few h = absurd (cc)

pub lexed_few : (bytes : List ℕ) (ts : List Token) → lexed Asm bytes ≡ Ok ts → length ts ≤ 2 ^ 25
unfolding lexed
lexed_few bytes ts h = limited_few bytes (scan Asm 0 0 1 true false bytes) ts (λ rs e. scan_few Asm 0 0 1 true false bytes rs e) h
