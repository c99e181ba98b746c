-- The points of an automatic are among those of its column.
use Rattle.std.proofs.Common.{ℕ, zero, suc, ◌+◌, ◌*◌, ◌/◌, ◌%◌, ◌==◌, ◌≡◌, ◌≢◌, ◌⊎◌, inl, inr, Bool, true, false, not, Option, Some, None, refl, sym, ap, ◌∙◌, arith, if◌then◌else◌, List, [], ◌∷◌, ◌++◌, length, slice_get, slice_index, append-nil}
use Rattle.std.specs.List.{filter}
use Rattle.std.specs.Int.{bit_at}
use Rattle.std.proofs.lemmas.Bool.{false≢true, or_cases, or_left, or_right, eqb-true, eq-eqb, ne_eqb}
use Rattle.std.proofs.lemmas.List.Elements.{filter-append}
use Rattle.std.proofs.lemmas.Nat.Bits.{bit_at-zero}
use Rattle.p9_region.specs.declared.steps.Step.{Step}
use Rattle.p9_region.specs.Picking.{picked, is_it, live_bit, written_in, point_bit, is_in_column, column_written, column_bit}

-- what passes both tests is what passes the narrower one
pub filter-picked : (p q : ℕ → Bool) → ((i : ℕ) → p i ≡ true → q i ≡ true) → (n : ℕ) → filter p (picked q n) ≡ picked p n
filter-picked p q h zero = refl
filter-picked p q h (suc n) = by (q n) refl (p n) refl (filter-picked p q h n)
  where
    by : (b : Bool) → q n ≡ b → (c : Bool) → p n ≡ c → filter p (picked q n) ≡ picked p n → filter p (if b then picked q n ++ n ∷ [] else picked q n) ≡ (if c then picked p n ++ n ∷ [] else picked p n)
    by true e true d rest = filter-append p (picked q n) (n ∷ []) ∙ (ap (λ z. z ++ (if p n then n ∷ [] else [])) rest ∙ ap (λ b. picked p n ++ (if b then n ∷ [] else [])) d)
    by true e false d rest = filter-append p (picked q n) (n ∷ []) ∙ (ap (λ z. z ++ (if p n then n ∷ [] else [])) rest ∙ (ap (λ b. picked p n ++ (if b then n ∷ [] else [])) d ∙ append-nil (picked p n)))
    by false e true d rest = absurd (false≢true (sym e ∙ h n d))
    by false e false d rest = rest

live-column : (bits : List ℕ) (width v i : ℕ) → live_bit bits width v i ≡ true → not (slice_index bits (i * width + v / 64) == 0) ≡ true
live-column bits width v i h = ap not (ne_eqb (slice_index bits (i * width + v / 64)) 0 some)
  where
    some : slice_index bits (i * width + v / 64) ≡ 0 → ⊥
    some e =
        let one : bit_at (slice_index bits (i * width + v / 64)) (v % 64) ≡ 1 = eqb-true (bit_at (slice_index bits (i * width + v / 64)) (v % 64)) 1 h in
        let none : bit_at (slice_index bits (i * width + v / 64)) (v % 64) ≡ 0 = ap (λ z. bit_at z (v % 64)) e ∙ bit_at-zero (v % 64) in
        omega (arith, one, none)

written-column : (v : ℕ) (o : Option Step) → written_in v o ≡ true → column_written (v / 64) o ≡ true
written-column v None h = h
written-column v (Some s) h = by s.written h
  where
    by : (o : Option ℕ) → is_it v o ≡ true → is_in_column (v / 64) o ≡ true
    by None g = g
    by (Some w) g = eq-eqb (w / 64) (v / 64) (ap (λ z. z / 64) (eqb-true w v g))

point-column : (steps : List Step) (bits : List ℕ) (width v i : ℕ) → point_bit steps bits width v i ≡ true → column_bit steps bits width (v / 64) i ≡ true
point-column steps bits width v i h = by (or_cases (live_bit bits width v i) (written_in v (slice_get steps i)) h)
  where
    by : (live_bit bits width v i ≡ true) ⊎ (written_in v (slice_get steps i) ≡ true) → column_bit steps bits width (v / 64) i ≡ true
    by (inl e) = or_left (not (slice_index bits (i * width + v / 64) == 0)) (column_written (v / 64) (slice_get steps i)) (live-column bits width v i e)
    by (inr e) = or_right (not (slice_index bits (i * width + v / 64) == 0)) (column_written (v / 64) (slice_get steps i)) (written-column v (slice_get steps i) e)

pub points-filtered : (steps : List Step) (bits : List ℕ) (width v n : ℕ) → filter (point_bit steps bits width v) (picked (column_bit steps bits width (v / 64)) n) ≡ picked (point_bit steps bits width v) n
points-filtered steps bits width v n = filter-picked (point_bit steps bits width v) (column_bit steps bits width (v / 64)) (point-column steps bits width v) n

-- the next automatic's column, unless that begins another
pub column-next : (steps also : List Step) (bits same : List ℕ) (width v : ℕ) (list : List ℕ) → also ≡ steps → same ≡ bits → list ≡ picked (column_bit also same width (v / 64)) (length also) → (v + 1) % 64 ≢ 0 →
    list ≡ picked (column_bit steps bits width ((v + 1) / 64)) (length steps)
column-next steps also bits same width v list es eb h ne =
    let n : v / 64 ≡ (v + 1) / 64 = omega (arith, ne) in
    h ∙ (λ t. picked (column_bit (es t) (eb t) width (n t)) (length (es t)))
