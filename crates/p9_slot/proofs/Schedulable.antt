-- Lines that are aimed, one after the other, are what the schedule asks for.
use Rattle.std.proofs.Common.{ℕ, zero, suc, ◌≡◌, true, false, Option, Some, None, IsSome, refl, sym, ◌∙◌, subst, List, [], ◌∷◌, length, slice_get}
use Rattle.p9_r3k.specs.declared.lines.Line.{Line}
use Rattle.p9_slot.specs.Schedule.{HaveTargets, TargetsAreLines}
use Rattle.p9_slot.specs.Aimed.{IsAimed, AreAimed}

aimed-at : (n : ℕ) (lines : List Line) (i : ℕ) (line : Line) → AreAimed n lines → slice_get lines i ≡ Some line → IsAimed n line.inst line.target
aimed-at n [] i line h e = cc
aimed-at n (first ∷ rest) zero line h e =
    let same : first ≡ line = cc in
    subst (λ (l : Line). IsAimed n l.inst l.target) same h.0
aimed-at n (first ∷ rest) (suc i) line h e = aimed-at n rest i line h.1 e

have_targets : (lines : List Line) → AreAimed (length lines) lines → HaveTargets lines
have_targets lines h i line there names = go line.target (aimed-at (length lines) lines i line h there)
  where
    go : (o : Option ℕ) → IsAimed (length lines) line.inst o → IsSome o
    go None e = absurd (let z : false ≡ true = sym e ∙ names in cc)
    go (Some t) e = refl

targets_are_lines : (lines : List Line) → AreAimed (length lines) lines → TargetsAreLines lines
targets_are_lines lines h i line t there goes =
    subst (λ o. IsAimed (length lines) line.inst o) goes (aimed-at (length lines) lines i line h there)

-- of the lines that a test sees
pub aimed_targets : (lines view : List Line) → view ≡ lines → AreAimed (length view) view → HaveTargets lines
aimed_targets lines view e h = have_targets lines (subst (λ l. AreAimed (length l) l) e h)

pub aimed_lines : (lines view : List Line) → view ≡ lines → AreAimed (length view) view → TargetsAreLines lines
aimed_lines lines view e h = targets_are_lines lines (subst (λ l. AreAimed (length l) l) e h)
