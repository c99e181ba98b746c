-- Lines, cut from the front.
use Rattle.std.proofs.Common.{suc, ◌≡◌, ℕ, ◌+◌, cond, Bool, true, false, List, [], ◌∷◌, take, drop, position, Some, None, refl, sym, ap, subst, ◌∙◌, arith}
use Rattle.std.specs.List.{position_from}
use Rattle.std.proofs.lemmas.Iterator.Adapters.{position_from-zero}
use Rattle.p9_statement.specs.declared.lexemes.Lexeme.{Lexeme}
use Rattle.p9_rows.specs.Rows.{is_line_end, in_first, lines_of}

-- the end of the first line is found at a place, where the first token has this one
abbrev Cut : ℕ → List Lexeme → ℕ → Type 0
Cut i xs k = (m : ℕ) × (k ≡ i + m) × (lines_of xs ≡ take m xs ∷ lines_of (drop (m + 1) xs))

cut_step : (i : ℕ) (x : Lexeme) (xs : List Lexeme) (k : ℕ) (b : Bool) → is_line_end x ≡ b → cond b (Some i) (position_from is_line_end (i + 1) xs) ≡ Some k → (position_from is_line_end (i + 1) xs ≡ Some k → Cut (i + 1) xs k) → Cut i (x ∷ xs) k
cut_step i x xs k true e h more =
    let at : k ≡ i + 0 = grind (arith, h) in
    (0, at, rw e refl)
cut_step i x xs k false e h more =
    let cut = more h in
    let at : k ≡ i + suc cut.0 = omega (arith, cut.1) in
    let next : suc cut.0 + 1 ≡ suc (cut.0 + 1) = omega arith in
    (suc cut.0, at, rw (e, next) (ap (in_first x) cut.2))

cut_from : (i : ℕ) (xs : List Lexeme) (k : ℕ) → position_from is_line_end i xs ≡ Some k → Cut i xs k
cut_from i [] k h = absurd (cc)
cut_from i (x ∷ xs) k h = cut_step i x xs k (is_line_end x) refl h (cut_from (i + 1) xs k)

pub lines_cut : (xs : List Lexeme) (k : ℕ) → position is_line_end xs ≡ Some k → lines_of xs ≡ take k xs ∷ lines_of (drop (k + 1) xs)
lines_cut xs k h =
    let cut = cut_from 0 xs k (sym (position_from-zero is_line_end xs) ∙ h) in
    let at : cut.0 ≡ k = omega (arith, cut.1) in
    subst (λ m. lines_of xs ≡ take m xs ∷ lines_of (drop (m + 1) xs)) at cut.2

last_step : (i : ℕ) (x : Lexeme) (xs : List Lexeme) (b : Bool) → is_line_end x ≡ b → cond b (Some i) (position_from is_line_end (i + 1) xs) ≡ None → (position_from is_line_end (i + 1) xs ≡ None → lines_of xs ≡ xs ∷ []) → lines_of (x ∷ xs) ≡ (x ∷ xs) ∷ []
last_step i x xs true e h more = absurd (cc)
last_step i x xs false e h more = rw e (ap (in_first x) (more h))

last_from : (i : ℕ) (xs : List Lexeme) → position_from is_line_end i xs ≡ None → lines_of xs ≡ xs ∷ []
last_from i [] h = refl
last_from i (x ∷ xs) h = last_step i x xs (is_line_end x) refl h (last_from (i + 1) xs)

pub lines_last : (xs : List Lexeme) → position is_line_end xs ≡ None → lines_of xs ≡ xs ∷ []
lines_last xs h = last_from 0 xs (sym (position_from-zero is_line_end xs) ∙ h)
