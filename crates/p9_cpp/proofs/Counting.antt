-- The token with which a count passes.
use Rattle.std.proofs.Common.{◌≡◌, ℕ, zero, suc, ◌+◌, ◌-◌, ◌<◌, ◌≤◌, List, [], ◌∷◌, ◌++◌, length, Option, Some, None, slice_index_or, refl, sym, ap, ◌∙◌, arith}
use Rattle.p9_lex.specs.declared.token.Token.{Token}
use Rattle.p9_cpp.specs.Expansion.{line_past}

pub past_here : (room : ℕ) (ts : List Token) (t d : Token) → room < length ts → t ≡ slice_index_or ts room d → line_past room ts ≡ Some t.line
past_here room [] t d inside is = absurd (omega (arith, inside))
past_here zero (u ∷ ts) t d inside is = ap (λ x. Some x.line) (sym is)
past_here (suc room) (u ∷ ts) t d inside is = past_here room ts t d (omega (arith, inside)) is

pub not_past : (room : ℕ) (ts : List Token) → length ts ≤ room → line_past room ts ≡ None
not_past room [] fits = refl
not_past zero (t ∷ ts) fits = absurd (omega (arith, fits))
not_past (suc room) (t ∷ ts) fits = not_past room ts (omega (arith, fits))

-- tokens that the room holds, before others
pub past_behind : (left room : ℕ) (ts more : List Token) → left + length ts ≡ room → line_past room (ts ++ more) ≡ line_past left more
past_behind left room [] more is = let same : room ≡ left = omega (arith, is) in ap (λ n. line_past n more) same
past_behind left zero (t ∷ ts) more is = absurd (omega (arith, is))
past_behind left (suc room) (t ∷ ts) more is = past_behind left room ts more (omega (arith, is))

-- tokens that pass, whatever follows
pub past_before : (room line : ℕ) (ts more : List Token) → line_past room ts ≡ Some line → line_past room (ts ++ more) ≡ Some line
past_before room line [] more is = absurd (cc)
past_before zero line (t ∷ ts) more is = is
past_before (suc room) line (t ∷ ts) more is = past_before room line ts more is
