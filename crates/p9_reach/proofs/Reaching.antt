-- The branches of a program's scheduled lines reach their targets.
use Rattle.std.proofs.Common.{ℕ, zero, suc, ◌≡◌, ◌≤◌, ◌<◌, ◌⊎◌, inl, inr, nat_le, Bool, true, false, Option, Some, None, List, length, drop, [], ◌∷◌, refl, sym, ap, ◌∙◌, subst, arith, if◌then◌else◌}
use Rattle.std.specs.Prelude.{slice_get, slice_index}
use Rattle.std.proofs.lemmas.Option.{none-some, same_Some, slice_get_within}
use Rattle.std.proofs.lemmas.Bool.Decides.{nat_tests}
use Rattle.p9_r3k.specs.declared.inst.Inst.{Inst}
use Rattle.p9_r3k.specs.declared.lines.Line.{Line}
use Rattle.p9_r3k.specs.Effects.{writes_pair}
use Rattle.p9_r3k.specs.Uses.{delays}
use Rattle.p9_r3k.specs.Delayed.{noop, least, enter}
use Rattle.p9_slot.specs.Schedule.{line_is, is_at, new_target, IsSpaced}
use Rattle.p9_expand.specs.Program.{program_lines}
use Rattle.p9_expand.proofs.Answering.{targets_are_lines}
use Rattle.p9_refine.proofs.Numbers.{rises}
use Rattle.p9_refine.proofs.Fine.{all-valid}
use Rattle.p9_image_laws.specs.Reaching.{IsNear, is_jump}
use Rattle.p9_reach.specs.Laws.{ScheduleReaches}
use Rattle.p9_reach.proofs.Spacing.{pair_at, spaced}
use Rattle.p9_reach.proofs.Added.{IsOld, old-or-noop}
use Rattle.p9_reach.proofs.Close.{IsClose, program-close}

least-within : (count : ℕ) (ns : List ℕ) → least count ns ≤ count
least-within count [] = omega arith
least-within count (n ∷ ns) = omega (arith, least-within count ns)

target-of : (f : ℕ → ℕ) (o : Option ℕ) (t : ℕ) → new_target f o ≡ Some t → (g : ℕ) × (o ≡ Some g) × (t ≡ f g)
target-of f None t e = absurd (none-some t e)
target-of f (Some g) t e = (g, refl, sym (same_Some (f g) t e))

is-test : (p : Inst → Bool) (old : List Line) (u : ℕ) (own : Line) → slice_get old u ≡ Some own → is_at p old u ≡ p own.inst
is-test p old u own there = ap (line_is p) there

quiet-pair : (old : List Line) (u : ℕ) → is_at writes_pair old u ≡ false → pair_at old u ≡ 0
quiet-pair old u h = ap (λ (b : Bool). if b then 2 else 0) h

pair-most : (old : List Line) (u : ℕ) → pair_at old u ≤ 2
pair-most old u = go (is_at writes_pair old u)
  where
    go : (b : Bool) → (if b then 2 else 0) ≤ 2
    go true = omega arith
    go false = omega arith

enter-rises : (old new : List Line) (moved : List ℕ) (i j : ℕ) → i ≤ j → enter moved (length new) i ≤ enter moved (length new) j
enter-rises old new moved i j le = rises (enter moved (length new)) (λ k. least-drop (length new) moved k) i j le
  where
    least-drop : (count : ℕ) (ns : List ℕ) (k : ℕ) → least count (drop k ns) ≤ least count (drop (suc k) ns)
    least-drop count [] zero = omega arith
    least-drop count [] (suc k) = omega arith
    least-drop count (n ∷ ns) zero = omega arith
    least-drop count (n ∷ ns) (suc k) = least-drop count ns k

-- what is close in words is near when it is scheduled
close-near : (old new : List Line) (moved : List ℕ) (u g : ℕ) (own : Line) → IsSpaced old new moved → slice_get old u ≡ Some own → g < length old →
    IsClose old u g own.inst → IsNear (slice_index moved u) (enter moved (length new) g)
close-near old new moved u g own h there within close = by (nat_le u g) refl
  where
    early : slice_index moved u ≡ enter moved (length new) u
    early = h.early u (is-test delays old u own there ∙ close.turn.0)

    quiet : pair_at old u ≡ 0
    quiet = quiet-pair old u (is-test writes_pair old u own there ∙ close.turn.1)

    inside : u < length old
    inside = slice_get_within old u own there

    by : (b : Bool) → nat_le u g ≡ b → IsNear (slice_index moved u) (enter moved (length new) g)
    by true e =
        let le : u ≤ g = grind (arith, nat_tests) in
        let far = spaced old new moved h u g le (omega (arith, within)) in
        let rise = enter-rises old new moved u g le in
        (omega (arith, early, quiet, far, close.forth, pair-most old g), omega (arith, early, rise))
    by false e =
        let le : g ≤ u = grind (arith, nat_tests) in
        let far = spaced old new moved h g u le (omega (arith, inside)) in
        let rise = enter-rises old new moved g u le in
        (omega (arith, early, rise), omega (arith, early, quiet, far, close.back))

pub schedule_reaches : ScheduleReaches
schedule_reaches modules new moved objects once added h i t line there goes =
    by (old-or-noop (program_lines modules) new moved i line once added there)
  where
    by : IsOld (program_lines modules) new moved i line ⊎ (line ≡ noop) → (t ≤ length new) × (is_jump line.inst ≡ false → IsNear i t)
    by (inr e) = absurd (none-some t (sym (ap (λ (l : Line). l.target) e) ∙ goes))
    by (inl o) =
        let moves = enter moved (length new) in
        let found = target-of moves o.own.target t (sym (ap (λ (l : Line). l.target) o.same) ∙ goes) in
        let within : found.0 < length (program_lines modules) =
        targets_are_lines modules (program_lines modules) (all-valid modules objects) refl o.number o.own found.0 o.there found.1 in
        let inside : t ≤ length new = omega (arith, found.2, least-within (length new) (drop found.0 moved)) in (
          inside,
          λ jumps.
              let close : IsClose (program_lines modules) o.number found.0 o.own.inst =
              program-close modules objects o.number found.0 o.own o.there found.1 (sym (ap (λ (l : Line). is_jump l.inst) o.same) ∙ jumps) in
              let near : IsNear (slice_index moved o.number) (moves found.0) =
              close-near (program_lines modules) new moved o.number found.0 o.own h o.there within close in
              subst (λ n. IsNear n t) o.place (subst (λ n. IsNear (slice_index moved o.number) n) (sym found.2) near),
        )
