-- What stands among scheduled lines: an old line, or a no-op.
use Rattle.std.proofs.Common.{ℕ, zero, suc, ◌==◌, ◌≡◌, ◌<◌, ◌⊎◌, inl, inr, Bool, true, false, Some, List, [], ◌∷◌, length, refl, sym, ap, ◌∙◌}
use Rattle.std.proofs.Common.{arith}
use Rattle.std.specs.Prelude.{slice_get, slice_index}
use Rattle.std.proofs.lemmas.Option.{none-some, same_Some, slice_get_within, get_or_from_slice_get}
use Rattle.std.proofs.lemmas.Bool.Decides.{nat_tests}
use Rattle.p9_r3k.specs.declared.lines.Line.{Line}
use Rattle.p9_r3k.specs.Delayed.{noop, enter}
use Rattle.p9_slot.specs.Schedule.{retargeted, EachOnce, AddsOnlyNoops, IsAdded}

found-or-added : (moved : List ℕ) (q : ℕ) → ((i : ℕ) × (slice_get moved i ≡ Some q)) ⊎ IsAdded moved q
found-or-added [] q = inr (λ i e. none-some q e)
found-or-added (m ∷ ms) q = by (m == q) refl (found-or-added ms q)
  where
    later : ((i : ℕ) × (slice_get ms i ≡ Some q)) ⊎ IsAdded ms q → (m ≡ q → ⊥) → ((i : ℕ) × (slice_get (m ∷ ms) i ≡ Some q)) ⊎ IsAdded (m ∷ ms) q
    later (inl (i, e)) n = inl (suc i, e)
    later (inr f) n = inr (λ i e. none i e)
      where
        none : (i : ℕ) → slice_get (m ∷ ms) i ≡ Some q → ⊥
        none zero e = n (same_Some m q e)
        none (suc i) e = f i e

    by : (b : Bool) → (m == q) ≡ b → ((i : ℕ) × (slice_get ms i ≡ Some q)) ⊎ IsAdded ms q → ((i : ℕ) × (slice_get (m ∷ ms) i ≡ Some q)) ⊎ IsAdded (m ∷ ms) q
    by true e behind = inl (0, ap Some (let s : m ≡ q = grind (arith, nat_tests) in s))
    by false e behind = later behind (λ s. let z : m ≡ q = s in grind (arith, nat_tests))

-- an old line that goes to where its target is entered
pub record IsOld (old new : List Line) (moved : List ℕ) (q : ℕ) (line : Line) : Type 0 where
  pub number : ℕ
  pub own : Line
  pub there : slice_get old number ≡ Some own
  pub same : line ≡ retargeted (enter moved (length new)) own
  pub place : slice_index moved number ≡ q

line-within : (old : List Line) (i : ℕ) → i < length old → (line : Line) × (slice_get old i ≡ Some line)
line-within [] i h = absurd (omega (arith, h))
line-within (x ∷ xs) zero h = (x, refl)
line-within (x ∷ xs) (suc i) h = line-within xs i (omega (arith, h))

pub old-or-noop : (old new : List Line) (moved : List ℕ) (q : ℕ) (line : Line) → EachOnce old new moved → AddsOnlyNoops old new moved →
    slice_get new q ≡ Some line → IsOld old new moved q line ⊎ (line ≡ noop)
old-or-noop old new moved q line once added there = by (found-or-added moved q)
  where
    by : ((i : ℕ) × (slice_get moved i ≡ Some q)) ⊎ IsAdded moved q → IsOld old new moved q line ⊎ (line ≡ noop)
    by (inl (i, e)) =
        let inside : i < length old = (let z : i < length moved = slice_get_within moved i q e in omega (arith, z, once.count)) in
        let found = line-within old i inside in
        let place : slice_index moved i ≡ q = get_or_from_slice_get moved i q 0 e in
        let here : slice_get new (slice_index moved i) ≡ Some (retargeted (enter moved (length new)) found.0) = once.kept i found.0 found.1 in
        inl (record {
          number = i;
          own = found.0;
          there = found.1;
          same = same_Some line (retargeted (enter moved (length new)) found.0) (sym there ∙ (ap (slice_get new) (sym place) ∙ here));
          place = place;
        })
    by (inr f) = inr (same_Some line noop (sym there ∙ (added q (slice_get_within new q line there) f).0))
