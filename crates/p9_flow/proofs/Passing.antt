-- Passes over a column, until it is closed: the bits are then those that are live.
use Rattle.std.proofs.Common.{ℕ, zero, suc, ◌+◌, ◌*◌, ◌==◌, ◌≡◌, ◌≢◌, ◌⊎◌, inl, inr, ◌<◌, Bool, true, false, Some, refl, sym, ap, ◌∙◌, subst, arith, List, [], ◌∷◌, length, slice_get, slice_index, get_or, bit_or, take, drop, ◌++◌, replicate}
use Rattle.std.specs.Int.{bit_at}
use Rattle.std.proofs.lemmas.Bool.{false≢true}
use Rattle.std.proofs.lemmas.Bool.Decides.{eqb_tells}
use Rattle.std.proofs.lemmas.Nat.Bits.{bit_at-zero}
use Rattle.std.proofs.lemmas.List.{length-set, get_or_default}
use Rattle.std.proofs.Math.Seq.{take-append_seam}
use Rattle.std.proofs.lemmas.Option.{slice_get_within}
use Rattle.p9_flow.specs.declared.acts.Act.{Act}
use Rattle.p9_flow.specs.Columns.{IsReadAlong, needed, IsSound, HasNeeded, IsClosed, slack, IsRaised, IsVisited, IsOrder, IsColumn}
use Rattle.p9_flow.proofs.Rising.{or-right, needed-read, needed-on, raised-sound, raised-slack}

abbrev Tells : ℕ → ℕ → Type 0
Tells x y = (((x == y) ≡ true) × (x ≡ y)) ⊎ (((x == y) ≡ false) × (x ≢ y))

-- A pass

pub visited-first : (acts : List Act) (order : List ℕ) (w : ℕ) (column : List ℕ) → length column ≡ length acts → IsSound acts w column → IsVisited acts order w column column 0 false
visited-first acts order w column e s = record { same = e; sound = s; least = omega arith; less = λ q. absurd (false≢true q); kept = λ q m l. absurd (omega arith) }

has-needed : (acts : List Act) (w : ℕ) (column : List ℕ) (i : ℕ) (a : Act) → slice_get acts i ≡ Some a → bit_or (slice_index column i) (needed a i column w) ≡ slice_index column i →
    HasNeeded acts w column i
unfolding HasNeeded
has-needed acts w column i a e h b d =
    let s : b ≡ a = cc in
    subst (λ c. bit_or (slice_index column i) (needed c i column w) ≡ slice_index column i) (sym s) h

pub visited-same : (acts : List Act) (order : List ℕ) (w : ℕ) (first column : List ℕ) (k i : ℕ) (changed : Bool) (a : Act) → IsVisited acts order w first column k changed → slice_index order k ≡ i →
    slice_get acts i ≡ Some a → bit_or (slice_index column i) (needed a i column w) ≡ slice_index column i → IsVisited acts order w first column (k + 1) changed
visited-same acts order w first column k i changed a v q e h = record { same = v.same; sound = v.sound; least = v.least; less = v.less; kept = λ z m l. go z m l (eqb_tells m k) }
  where
    go : changed ≡ false → (m : ℕ) → m < k + 1 → Tells m k → HasNeeded acts w column (slice_index order m)
    go z m l (inl t) = subst (λ n. HasNeeded acts w column n) (sym (ap (slice_index order) t.1 ∙ q)) (has-needed acts w column i a e h)
    go z m l (inr t) = v.kept z m (omega (arith, l, t.1))

pub visited-more : (acts : List Act) (order : List ℕ) (w : ℕ) (first column after : List ℕ) (k i : ℕ) (changed : Bool) (a : Act) → IsVisited acts order w first column k changed → i < length acts →
    slice_get acts i ≡ Some a → IsRaised a i column w after → IsVisited acts order w first after (k + 1) true
visited-more acts order w first column after k i changed a v within e r =
    let l : i < length column = omega (arith, within, v.same) in
    let less : slack after < slack column = raised-slack a i column after w l r in
    record {
      same = ap length r.set ∙ (length-set column i _ ∙ v.same);
      sound = raised-sound acts a i column after w e l r v.sound;
      least = omega (arith, less, v.least);
      less = λ z. omega (arith, less, v.least);
      kept = λ z. absurd (false≢true (sym z));
    }

pub visited-closed : (acts : List Act) (order : List ℕ) (w : ℕ) (first column : List ℕ) (changed : Bool) → IsVisited acts order w first column (length order) changed → IsOrder (length acts) order →
    changed ≡ false → IsClosed acts w column
unfolding IsClosed
visited-closed acts order w first column changed v o e i l = found (o.every i l)
  where
    found : (m : ℕ) × (m < length order) × (get_or order m i ≡ i) → HasNeeded acts w column i
    found (m, lm, em) = subst (λ n. HasNeeded acts w column n) (get_or_default order m 0 i lm ∙ em) (v.kept e m lm)

-- A column

sound-none : (acts : List Act) (w : ℕ) (column : List ℕ) → ((i : ℕ) → slice_index column i ≡ 0) → IsSound acts w column
unfolding IsSound
sound-none acts w column z i b l e = absurd (omega (arith, e, ap (λ r. bit_at r b) (z i), bit_at-zero b))

zeros : (n i : ℕ) → slice_index (replicate n 0) i ≡ 0
zeros zero i = refl
zeros (suc n) zero = refl
zeros (suc n) (suc i) = zeros n i

pub sound-zeros : (acts : List Act) (w n : ℕ) (column : List ℕ) → column ≡ replicate n 0 → IsSound acts w column
sound-zeros acts w n column e = sound-none acts w column (λ i. ap (λ c. slice_index c i) e ∙ zeros n i)

closed-holds : (acts : List Act) (w : ℕ) (column : List ℕ) (b : ℕ) → b < 64 → ((i : ℕ) (a : Act) → slice_get acts i ≡ Some a → bit_or (slice_index column i) (needed a i column w) ≡ slice_index column i) →
    (way : List ℕ) (i : ℕ) → IsReadAlong acts (64 * w + b) i way → bit_at (slice_index column i) b ≡ 1
closed-holds acts w column b l c [] i (a, e, r) = sym (ap (λ z. bit_at z b) (c i a e)) ∙ or-right _ _ b (needed-read a i column w b l r)
closed-holds acts w column b l c (j ∷ js) i ((a, e, ne, g), rest) =
    sym (ap (λ z. bit_at z b) (c i a e)) ∙ or-right _ _ b (needed-on a i j column w b l ne g (closed-holds acts w column b l c js j rest))

closed-each : (acts : List Act) (w : ℕ) (column : List ℕ) → IsClosed acts w column → (i : ℕ) (a : Act) → slice_get acts i ≡ Some a → bit_or (slice_index column i) (needed a i column w) ≡ slice_index column i
unfolding IsClosed HasNeeded
closed-each acts w column c i a e = c i (slice_get_within acts i a e) a e

pub is-column : (acts : List Act) (w : ℕ) (column back : List ℕ) → back ≡ column → length column ≡ length acts → IsSound acts w column → IsClosed acts w column → IsColumn acts w back
unfolding IsColumn IsSound
is-column acts w column back q n s c = subst (λ z. IsColumn acts w z) (sym q) (
  n,
  λ i b li l. (
    λ h. s i b l h,
    λ (way, r). closed-holds acts w column b l (closed-each acts w column c) way i r,
  ),
)

pub taken-back : (new items : List ℕ) (n : ℕ) → n ≡ length new → take n (new ++ drop (length new) items) ≡ new
taken-back new items n e = ap (λ k. take k (new ++ drop (length new) items)) e ∙ take-append_seam new (drop (length new) items)
