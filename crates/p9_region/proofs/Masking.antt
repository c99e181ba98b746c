-- Masks over points: one more point.
use Rattle.std.proofs.Common.{ℕ, zero, suc, ◌+◌, ◌-◌, ◌*◌, ◌/◌, ◌%◌, ◌^◌, ◌==◌, ◌≡◌, ◌≢◌, ◌⊎◌, inl, inr, ◌<◌, Bool, true, false, Some, None, refl, sym, ap, ◌∙◌, subst, arith, List, [], ◌∷◌, length, slice_index, slice_set, take, max, bit_or, bit_and, Contains}
use Rattle.std.specs.Int.{bit_at, w32}
use Rattle.std.proofs.lemmas.Bool.Decides.{eqb_tells}
use Rattle.std.proofs.lemmas.Nat.Bits.{bit_at_or, bit_at-zero, bit_at-lt, bit_at_set_same, bit_at_set_other, shr_and_one}
use Rattle.std.proofs.lemmas.List.{get_or-set_same, get_or-set_other, length-set, take_more}
use Rattle.std.proofs.lemmas.List.Elements.{Contains-append_left, Contains-push, Contains-push_cases}
use Rattle.p9_region.specs.Masks.{IsUnion, AreMarked, IsChosen}

abbrev Tells : ℕ → ℕ → Type 0
Tells x y = (((x == y) ≡ true) × (x ≡ y)) ⊎ (((x == y) ≡ false) × (x ≢ y))

max-one : (x y : ℕ) → x < 2 → y < 2 → max x y ≡ 1 → (x ≡ 1) ⊎ (y ≡ 1)
max-one zero y h k e = inr (omega (arith, e))
max-one (suc x) y h k e = inl (omega (arith, h))

or-from : (r s b : ℕ) → bit_at (bit_or r s) b ≡ 1 → (bit_at r b ≡ 1) ⊎ (bit_at s b ≡ 1)
or-from r s b e = max-one (bit_at r b) (bit_at s b) (bit_at-lt r b) (bit_at-lt s b) (sym (bit_at_or r s b) ∙ e)

or-left : (r s b : ℕ) → bit_at r b ≡ 1 → bit_at (bit_or r s) b ≡ 1
or-left r s b e = bit_at_or r s b ∙ (let h = bit_at-lt s b in omega (arith, e, h))

or-right : (r s b : ℕ) → bit_at s b ≡ 1 → bit_at (bit_or r s) b ≡ 1
or-right r s b e = bit_at_or r s b ∙ (let h = bit_at-lt r b in omega (arith, e, h))

-- Points that are taken in one after the other

contains-none : (i : ℕ) → Contains [] i → ⊥
contains-none i c = absurd (omega (arith, c.1))

contains-before : (points : List ℕ) (n i : ℕ) → n < length points → Contains (take n points) i → Contains (take (n + 1) points) i
contains-before points n i l c = subst (λ z. Contains z i) (sym (take_more points n 0 l)) (Contains-append_left (take n points) (slice_index points n ∷ []) i c)

contains-here : (points : List ℕ) (n : ℕ) → n < length points → Contains (take (n + 1) points) (slice_index points n)
contains-here points n l = subst (λ z. Contains z (slice_index points n)) (sym (take_more points n 0 l)) (Contains-push (take n points) (slice_index points n))

contains-cases : (points : List ℕ) (n i : ℕ) → n < length points → Contains (take (n + 1) points) i → Contains (take n points) i ⊎ (slice_index points n ≡ i)
contains-cases points n i l c = Contains-push_cases (take n points) (slice_index points n) i (subst (λ z. Contains z i) (take_more points n 0 l) c)

pub union-none : (points used : List ℕ) → points ≡ [] → IsUnion points used 0
union-none points used e = record {
  from = λ g h. absurd (omega (arith, h, bit_at-zero g));
  to = λ i g c. absurd (contains-none i (subst (λ z. Contains z i) e c));
}

pub union-more : (points used : List ℕ) (n mask : ℕ) → n < length points → IsUnion (take n points) used mask → IsUnion (take (n + 1) points) used (bit_or mask (slice_index used (slice_index points n)))
union-more points used n mask l u = record {
  from = λ g h. from g (or-from mask (slice_index used (slice_index points n)) g h);
  to = λ i g c h. to i g h (contains-cases points n i l c);
}
  where
    from : (g : ℕ) → (bit_at mask g ≡ 1) ⊎ (bit_at (slice_index used (slice_index points n)) g ≡ 1) → (i : ℕ) × Contains (take (n + 1) points) i × (bit_at (slice_index used i) g ≡ 1)
    from g (inl h) = let w = u.from g h in (w.0, contains-before points n w.0 l w.1, w.2)
    from g (inr h) = (slice_index points n, contains-here points n l, h)

    to : (i g : ℕ) → bit_at (slice_index used i) g ≡ 1 → Contains (take n points) i ⊎ (slice_index points n ≡ i) → bit_at (bit_or mask (slice_index used (slice_index points n))) g ≡ 1
    to i g h (inl c) = or-left mask (slice_index used (slice_index points n)) g (u.to i g c h)
    to i g h (inr e) = or-right mask (slice_index used (slice_index points n)) g (subst (λ z. bit_at (slice_index used z) g ≡ 1) (sym e) h)

-- Marks

pub marked-none : (points used : List ℕ) (g : ℕ) → points ≡ [] → AreMarked points used g used
marked-none points used g e = record {
  count = refl;
  from = λ i b l h. inl h;
  kept = λ i b l h. h;
  marked = λ i c. absurd (contains-none i (subst (λ z. Contains z i) e c));
}

module _ (points used after : List ℕ) (n g : ℕ) (low : g < 32) (l : n < length points) (room : slice_index points n < length used) (m : AreMarked (take n points) used g after) where
  abbrev here : ℕ
  here = slice_index points n

  abbrev next : List ℕ
  next = slice_set after here (bit_or (slice_index after here) (1 * 2 ^ g % 2 ^ 32))

  at-here : slice_index next here ≡ bit_or (slice_index after here) (1 * 2 ^ g % 2 ^ 32)
  at-here = get_or-set_same after here _ 0 (let c = m.count in omega (arith, c, room))

  other : (i : ℕ) → i ≢ here → slice_index next i ≡ slice_index after i
  other i ne = get_or-set_other after here i _ 0 ne

  kept-one : (i b : ℕ) → bit_at (slice_index after i) b ≡ 1 → Tells i here → bit_at (slice_index next i) b ≡ 1
  kept-one i b h (inl t) =
      subst (λ z. bit_at (slice_index next z) b ≡ 1) (sym t.1)
      (ap (λ z. bit_at z b) at-here ∙ or-left (slice_index after here) (1 * 2 ^ g % 2 ^ 32) b (subst (λ z. bit_at (slice_index after z) b ≡ 1) t.1 h))
  kept-one i b h (inr t) = ap (λ z. bit_at z b) (other i t.1) ∙ h

  old : (i b : ℕ) → b < 32 → (bit_at (slice_index used i) b ≡ 1) ⊎ ((b ≡ g) × Contains (take n points) i) → (bit_at (slice_index used i) b ≡ 1) ⊎ ((b ≡ g) × Contains (take (n + 1) points) i)
  old i b lb (inl h) = inl h
  old i b lb (inr h) = inr (h.0, contains-before points n i l h.1)

  from-here : (b : ℕ) → b < 32 → bit_at (slice_index next here) b ≡ 1 → Tells b g → (bit_at (slice_index used here) b ≡ 1) ⊎ ((b ≡ g) × Contains (take (n + 1) points) here)
  from-here b lb h (inl t) = inr (t.1, contains-here points n l)
  from-here b lb h (inr t) = old here b lb (m.from here b lb (sym (bit_at_set_other w32 (slice_index after here) g low b t.1) ∙ (sym (ap (λ z. bit_at z b) at-here) ∙ h)))

  from-one : (i b : ℕ) → b < 32 → bit_at (slice_index next i) b ≡ 1 → Tells i here → (bit_at (slice_index used i) b ≡ 1) ⊎ ((b ≡ g) × Contains (take (n + 1) points) i)
  from-one i b lb h (inl t) =
      subst (λ z. (bit_at (slice_index used z) b ≡ 1) ⊎ ((b ≡ g) × Contains (take (n + 1) points) z)) (sym t.1)
      (from-here b lb (subst (λ z. bit_at (slice_index next z) b ≡ 1) t.1 h) (eqb_tells b g))
  from-one i b lb h (inr t) = old i b lb (m.from i b lb (sym (ap (λ z. bit_at z b) (other i t.1)) ∙ h))

  marked-one : (i : ℕ) → Contains (take n points) i ⊎ (here ≡ i) → bit_at (slice_index next i) g ≡ 1
  marked-one i (inl c) = kept-one i g (m.marked i c) (eqb_tells i here)
  marked-one i (inr e) = subst (λ z. bit_at (slice_index next z) g ≡ 1) e (ap (λ z. bit_at z g) at-here ∙ bit_at_set_same w32 (slice_index after here) g low)

  pub marked-more : AreMarked (take (n + 1) points) used g next
  marked-more = record {
    count = length-set after here _ ∙ m.count;
    from = λ i b lb h. from-one i b lb h (eqb_tells i here);
    kept = λ i b lb h. kept-one i b (m.kept i b lb h) (eqb_tells i here);
    marked = λ i c. marked-one i (contains-cases points n i l c);
  }

-- The lowest bit that is clear

pub clear-bit : (mask g : ℕ) → bit_and (mask / 2 ^ g) 1 ≡ 0 → bit_at mask g ≢ 1
clear-bit mask g e h = omega (arith, h, sym (shr_and_one mask g) ∙ e)

pub set-more : (mask g : ℕ) → bit_and (mask / 2 ^ g) 1 ≢ 0 → ((k : ℕ) → k < g → bit_at mask k ≡ 1) → (k : ℕ) → k < g + 1 → bit_at mask k ≡ 1
set-more mask g ne below k l = by (eqb_tells k g)
  where
    by : Tells k g → bit_at mask k ≡ 1
    by (inl t) =
        let low = bit_at-lt mask g in
        let e = shr_and_one mask g in
        let one : bit_at mask g ≡ 1 = omega (arith, low, ne, e) in
        ap (bit_at mask) t.1 ∙ one
    by (inr t) = below k (omega (arith, l, t.1))

-- Choices

pub not-asked : (points used : List ℕ) → IsChosen false points used None used
not-asked points used = record { count = refl; none = λ e. (refl, λ a. absurd (let x : ⊥ = cc in x)); some = λ h e. absurd (let x : ⊥ = cc in x) }

pub all-taken : (asked : Bool) (points used : List ℕ) (mask : ℕ) → IsUnion points used mask → ((g : ℕ) → g < 12 → bit_at mask g ≡ 1) → IsChosen asked points used None used
all-taken asked points used mask u h = record { count = refl; none = λ e. (refl, λ a g l. u.from g (h g l)); some = λ d e. absurd (let x : ⊥ = cc in x) }

pub one-chosen : (asked : Bool) (points used after : List ℕ) (mask g home : ℕ) → IsUnion points used mask → g < 12 → bit_at mask g ≢ 1 → home ≡ 9 + g → AreMarked points used g after → IsChosen asked points used (Some home) after
one-chosen asked points used after mask g home u l free e m = record {
  count = m.count;
  none = λ q. absurd (let x : ⊥ = cc in x);
  some = λ h q.
      let s : home ≡ h = cc in
      let d : h - 9 ≡ g = omega (arith, s, e) in (
        omega (arith, s, e),
        omega (arith, s, e, l),
        λ i c b. free (u.to i g c (subst (λ z. bit_at (slice_index used i) z ≡ 1) d b)),
        subst (λ z. AreMarked points used z after) (sym d) m,
      );
}
