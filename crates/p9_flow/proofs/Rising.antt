-- The bits that a row needs, and a row that rises to them.
use Rattle.std.proofs.Common.{ℕ, zero, suc, ◌+◌, ◌-◌, ◌*◌, ◌/◌, ◌%◌, ◌^◌, ◌==◌, ◌≡◌, ◌≢◌, ◌⊎◌, inl, inr, ◌≤◌, ◌<◌, Bool, true, false, Option, Some, None, refl, sym, ap, ◌∙◌, subst, arith, if◌then◌else◌, List, [], ◌∷◌, length, slice_get, slice_index, slice_set, max, bit_or, bit_and, sum_by}
use Rattle.std.specs.Int.{bit_at, bit_not, w64}
use Rattle.std.proofs.lemmas.Bool.Decides.{eqb_tells}
use Rattle.std.proofs.lemmas.Nat.{le_or_l}
use Rattle.std.proofs.lemmas.Nat.Bits.{bit_at_or, bit_at-zero, bit_at-lt, bit_at_set_same, bit_at_set_other, bit_at_clear_same, bit_at_clear_other}
use Rattle.std.proofs.lemmas.List.{get_or-set_same, get_or-set_other}
use Rattle.std.proofs.lemmas.List.Sums.{sum_by-set}
use Rattle.p9_flow.specs.declared.acts.Act.{Act}
use Rattle.p9_flow.specs.Columns.{GoesTo, IsLive, before_write, after_read, jump_row, needed, IsSound, slack, IsRaised}

abbrev Tells : ℕ → ℕ → Type 0
Tells x y = (((x == y) ≡ true) × (x ≡ y)) ⊎ (((x == y) ≡ false) × (x ≢ y))

max-one : (x y : ℕ) → x < 2 → y < 2 → max x y ≡ 1 → (x ≡ 1) ⊎ (y ≡ 1)
max-one zero y h k e = inr (omega (arith, e))
max-one (suc x) y h k e = inl (omega (arith, h))

or-from : (r s b : ℕ) → bit_at (bit_or r s) b ≡ 1 → (bit_at r b ≡ 1) ⊎ (bit_at s b ≡ 1)
or-from r s b e = max-one (bit_at r b) (bit_at s b) (bit_at-lt r b) (bit_at-lt s b) (sym (bit_at_or r s b) ∙ e)

or-left : (r s b : ℕ) → bit_at r b ≡ 1 → bit_at (bit_or r s) b ≡ 1
or-left r s b e = bit_at_or r s b ∙ (let h = bit_at-lt s b in omega (arith, e, h))

pub or-right : (r s b : ℕ) → bit_at s b ≡ 1 → bit_at (bit_or r s) b ≡ 1
or-right r s b e = bit_at_or r s b ∙ (let h = bit_at-lt r b in omega (arith, e, h))

-- Reads and writes of an instruction

read-set : (o : Option ℕ) (w row b : ℕ) → b < 64 → o ≡ Some (64 * w + b) → bit_at (after_read o w row) b ≡ 1
read-set None w row b l e = cc
read-set (Some v) w row b l e = go (eqb_tells (v / 64) w)
  where
    v-is : v ≡ 64 * w + b
    v-is = cc

    go : Tells (v / 64) w → bit_at (if v / 64 == w then bit_or row (1 * 2 ^ (v % 64) % 2 ^ 64) else row) b ≡ 1
    go (inl t) = ap (λ c. bit_at (if c then bit_or row (1 * 2 ^ (v % 64) % 2 ^ 64) else row) b) t.0
        ∙ subst (λ k. bit_at (bit_or row (1 * 2 ^ k % 2 ^ 64)) b ≡ 1) (let q : b ≡ v % 64 = omega (arith, v-is, l) in q) (bit_at_set_same w64 row b l)
    go (inr t) = absurd (t.1 (omega (arith, v-is, l)))

read-keep : (o : Option ℕ) (w row b : ℕ) → bit_at row b ≡ 1 → bit_at (after_read o w row) b ≡ 1
read-keep None w row b e = e
read-keep (Some v) w row b e = go (v / 64 == w)
  where
    go : (c : Bool) → bit_at (if c then bit_or row (1 * 2 ^ (v % 64) % 2 ^ 64) else row) b ≡ 1
    go true = or-left row _ b e
    go false = e

read-from : (o : Option ℕ) (w row b : ℕ) → b < 64 → bit_at (after_read o w row) b ≡ 1 → (o ≡ Some (64 * w + b)) ⊎ (bit_at row b ≡ 1)
read-from None w row b l e = inr e
read-from (Some v) w row b l e = go (eqb_tells (v / 64) w) (eqb_tells b (v % 64))
  where
    go : Tells (v / 64) w → Tells b (v % 64) → (Some v ≡ Some (64 * w + b)) ⊎ (bit_at row b ≡ 1)
    go (inl t) (inl u) = inl (ap (λ z. Some z) (omega (arith, t.1, u.1)))
    go (inl t) (inr u) = inr (sym (bit_at_set_other w64 row (v % 64) (omega arith) b u.1) ∙ (sym (ap (λ c. bit_at (if c then bit_or row (1 * 2 ^ (v % 64) % 2 ^ 64) else row) b) t.0) ∙ e))
    go (inr t) u = inr (sym (ap (λ c. bit_at (if c then bit_or row (1 * 2 ^ (v % 64) % 2 ^ 64) else row) b) t.0) ∙ e)

write-keep : (o : Option ℕ) (w row b : ℕ) → b < 64 → o ≢ Some (64 * w + b) → bit_at row b ≡ 1 → bit_at (before_write o w row) b ≡ 1
write-keep None w row b l ne e = e
write-keep (Some v) w row b l ne e = go (eqb_tells (v / 64) w) (eqb_tells b (v % 64))
  where
    go : Tells (v / 64) w → Tells b (v % 64) → bit_at (if v / 64 == w then bit_and row (bit_not w64 (1 * 2 ^ (v % 64) % 2 ^ 64)) else row) b ≡ 1
    go (inl t) (inl u) = absurd (ne (ap (λ z. Some z) (omega (arith, t.1, u.1))))
    go (inl t) (inr u) = ap (λ c. bit_at (if c then bit_and row (bit_not w64 (1 * 2 ^ (v % 64) % 2 ^ 64)) else row) b) t.0 ∙ (bit_at_clear_other w64 row (v % 64) (omega arith) b l u.1 ∙ e)
    go (inr t) u = ap (λ c. bit_at (if c then bit_and row (bit_not w64 (1 * 2 ^ (v % 64) % 2 ^ 64)) else row) b) t.0 ∙ e

write-from : (o : Option ℕ) (w row b : ℕ) → b < 64 → bit_at (before_write o w row) b ≡ 1 → (o ≢ Some (64 * w + b)) × (bit_at row b ≡ 1)
write-from None w row b l e = (λ q. let c : ⊥ = cc in c, e)
write-from (Some v) w row b l e = go (eqb_tells (v / 64) w) (eqb_tells b (v % 64))
  where
    go : Tells (v / 64) w → Tells b (v % 64) → (Some v ≢ Some (64 * w + b)) × (bit_at row b ≡ 1)
    go (inl t) (inl u) =
        let zero-bit : bit_at (bit_and row (bit_not w64 (1 * 2 ^ (v % 64) % 2 ^ 64))) b ≡ 0 = ap (bit_at (bit_and row (bit_not w64 (1 * 2 ^ (v % 64) % 2 ^ 64)))) u.1 ∙ bit_at_clear_same w64 row (v % 64) (omega arith) in
        let one : bit_at (bit_and row (bit_not w64 (1 * 2 ^ (v % 64) % 2 ^ 64))) b ≡ 1 = sym (ap (λ c. bit_at (if c then bit_and row (bit_not w64 (1 * 2 ^ (v % 64) % 2 ^ 64)) else row) b) t.0) ∙ e in
        absurd (omega (arith, zero-bit, one))
    go (inl t) (inr u) = (λ q. let s : v ≡ 64 * w + b = cc in u.1 (omega (arith, s, l)), sym (bit_at_clear_other w64 row (v % 64) (omega arith) b l u.1) ∙ (sym (ap (λ c. bit_at (if c then bit_and row (bit_not w64 (1 * 2 ^ (v % 64) % 2 ^ 64)) else row) b) t.0) ∙ e))
    go (inr t) u = (λ q. let s : v ≡ 64 * w + b = cc in t.1 (omega (arith, s, l)), sym (ap (λ c. bit_at (if c then bit_and row (bit_not w64 (1 * 2 ^ (v % 64) % 2 ^ 64)) else row) b) t.0) ∙ e)

-- What a row needs

bit-if : (t : Bool) (r s b : ℕ) → bit_at (bit_or (if t then r else 0) s) b ≡ 1 → ((t ≡ true) × (bit_at r b ≡ 1)) ⊎ (bit_at s b ≡ 1)
bit-if true r s b e = go (or-from r s b e)
  where
    go : (bit_at r b ≡ 1) ⊎ (bit_at s b ≡ 1) → ((true ≡ true) × (bit_at r b ≡ 1)) ⊎ (bit_at s b ≡ 1)
    go (inl x) = inl (refl, x)
    go (inr x) = inr x
bit-if false r s b e = go (or-from 0 s b e)
  where
    go : (bit_at 0 b ≡ 1) ⊎ (bit_at s b ≡ 1) → ((false ≡ true) × (bit_at r b ≡ 1)) ⊎ (bit_at s b ≡ 1)
    go (inl x) = absurd (omega (arith, x, bit_at-zero b))
    go (inr x) = inr x

jump-from : (o : Option ℕ) (column : List ℕ) (b : ℕ) → bit_at (jump_row o column) b ≡ 1 → (j : ℕ) × (o ≡ Some j) × (bit_at (slice_index column j) b ≡ 1)
jump-from None column b e = absurd (omega (arith, e, bit_at-zero b))
jump-from (Some l) column b e = (l, refl, e)

abbrev Onward : Act → ℕ → List ℕ → ℕ → Type 0
Onward a i column b = (j : ℕ) × GoesTo a i j × (bit_at (slice_index column j) b ≡ 1)

pub needed-from : (a : Act) (i : ℕ) (column : List ℕ) (w b : ℕ) → b < 64 → bit_at (needed a i column w) b ≡ 1 → (a.read ≡ Some (64 * w + b)) ⊎ ((a.write ≢ Some (64 * w + b)) × Onward a i column b)
unfolding needed
needed-from a i column w b l e = go (read-from a.read w _ b l e)
  where
    on : (((a.next ≡ true) × (bit_at (slice_index column (i + 1)) b ≡ 1)) ⊎ (bit_at (jump_row a.jump column) b ≡ 1)) → Onward a i column b
    on (inl x) = (i + 1, inl (x.0, refl), x.1)
    on (inr x) = let j = jump-from a.jump column b x in (j.0, inr j.1, j.2)

    go : (a.read ≡ Some (64 * w + b)) ⊎ (bit_at (before_write a.write w (bit_or (if a.next then slice_index column (i + 1) else 0) (jump_row a.jump column))) b ≡ 1) → (a.read ≡ Some (64 * w + b)) ⊎ ((a.write ≢ Some (64 * w + b)) × Onward a i column b)
    go (inl x) = inl x
    go (inr x) = let f = write-from a.write w _ b l x in inr (f.0, on (bit-if a.next _ _ b f.1))

pub needed-read : (a : Act) (i : ℕ) (column : List ℕ) (w b : ℕ) → b < 64 → a.read ≡ Some (64 * w + b) → bit_at (needed a i column w) b ≡ 1
unfolding needed
needed-read a i column w b l e = read-set a.read w _ b l e

pub needed-on : (a : Act) (i j : ℕ) (column : List ℕ) (w b : ℕ) → b < 64 → a.write ≢ Some (64 * w + b) → GoesTo a i j → bit_at (slice_index column j) b ≡ 1 → bit_at (needed a i column w) b ≡ 1
unfolding needed
needed-on a i j column w b l ne g e = read-keep a.read w _ b (write-keep a.write w _ b l ne (go g))
  where
    go : GoesTo a i j → bit_at (bit_or (if a.next then slice_index column (i + 1) else 0) (jump_row a.jump column)) b ≡ 1
    go (inl x) = or-left (if a.next then slice_index column (i + 1) else 0) (jump_row a.jump column) b
        (ap (λ t. bit_at (if t then slice_index column (i + 1) else 0) b) x.0 ∙ subst (λ k. bit_at (slice_index column k) b ≡ 1) x.1 e)
    go (inr x) = or-right (if a.next then slice_index column (i + 1) else 0) (jump_row a.jump column) b (ap (λ o. bit_at (jump_row o column) b) x ∙ e)

-- One row rises

pub raised : (a : Act) (i : ℕ) (column : List ℕ) (w need : ℕ) → need ≡ needed a i column w → bit_or (slice_index column i) need ≢ slice_index column i → bit_or (slice_index column i) need < 2 ^ 64 →
    IsRaised a i column w (slice_set column i (bit_or (slice_index column i) need))
raised a i column w need e ne room = record {
  set = ap (λ z. slice_set column i (bit_or (slice_index column i) z)) e;
  other = subst (λ z. bit_or (slice_index column i) z ≢ slice_index column i) e ne;
  room = subst (λ z. bit_or (slice_index column i) z < 2 ^ 64) e room;
}

pub raised-sound : (acts : List Act) (a : Act) (i : ℕ) (column after : List ℕ) (w : ℕ) → slice_get acts i ≡ Some a → i < length column → IsRaised a i column w after → IsSound acts w column → IsSound acts w after
unfolding IsSound
raised-sound acts a i column after w e l r s k b lb h = go (eqb_tells k i)
  where
    here : (a.read ≡ Some (64 * w + b)) ⊎ ((a.write ≢ Some (64 * w + b)) × Onward a i column b) → IsLive acts (64 * w + b) i
    here (inl x) = ([], (a, e, x))
    here (inr (ne, (j, g, x))) = let rest = s j b lb x in (j ∷ rest.0, ((a, e, ne, g), rest.1))

    now : (bit_at (slice_index column i) b ≡ 1) ⊎ (bit_at (needed a i column w) b ≡ 1) → IsLive acts (64 * w + b) i
    now (inl x) = s i b lb x
    now (inr x) = here (needed-from a i column w b lb x)

    at : bit_at (slice_index (slice_set column i (bit_or (slice_index column i) (needed a i column w))) k) b ≡ 1
    at = subst (λ c. bit_at (slice_index c k) b ≡ 1) r.set h

    go : Tells k i → IsLive acts (64 * w + b) k
    go (inl q) = subst (λ z. IsLive acts (64 * w + b) z) (sym q.1)
        (now (or-from (slice_index column i) (needed a i column w) b
        (ap (λ z. bit_at z b) (sym (get_or-set_same column i (bit_or (slice_index column i) (needed a i column w)) 0 l))
        ∙ subst (λ z. bit_at (slice_index (slice_set column i (bit_or (slice_index column i) (needed a i column w))) z) b ≡ 1) q.1 at)))
    go (inr q) = s k b lb (ap (λ z. bit_at z b) (sym (get_or-set_other column i k (bit_or (slice_index column i) (needed a i column w)) 0 q.1)) ∙ at)

pub raised-slack : (a : Act) (i : ℕ) (column after : List ℕ) (w : ℕ) → i < length column → IsRaised a i column w after → slack after < slack column
unfolding slack
raised-slack a i column after w l r =
    let v : ℕ = bit_or (slice_index column i) (needed a i column w) in
    let up : slice_index column i ≤ v = le_or_l (slice_index column i) (needed a i column w) in
    let sums : sum_by (λ x. 2 ^ 64 - 1 - x) (slice_set column i v) + (2 ^ 64 - 1 - slice_index column i) ≡ sum_by (λ x. 2 ^ 64 - 1 - x) column + (2 ^ 64 - 1 - v) = sum_by-set (λ x. 2 ^ 64 - 1 - x) column i v 0 l in
    let same : sum_by (λ x. 2 ^ 64 - 1 - x) after ≡ sum_by (λ x. 2 ^ 64 - 1 - x) (slice_set column i v) = ap (sum_by (λ x. 2 ^ 64 - 1 - x)) r.set in
    omega (arith, up, sums, same, r.other, r.room)
