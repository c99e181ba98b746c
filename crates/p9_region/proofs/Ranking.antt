-- Ranks that are sorted.
use Rattle.std.proofs.Common.{ℕ, zero, suc, ◌+◌, ◌-◌, ◌^◌, ◌==◌, ◌≡◌, ◌≢◌, ◌⊎◌, inl, inr, ◌≤◌, ◌<◌, nat_lt, Bool, true, false, cond, Some, refl, sym, ap, ◌∙◌, subst, arith, List, [], ◌∷◌, ◌++◌, length, length-append, slice_get, slice_index, slice_index_or, get_or, All}
use Rattle.std.specs.Ordering.{nat_cmp, ordering_then, is_lt}
use Rattle.std.specs.List.Sorted.{IsPermutation, IsSorted}
use Rattle.std.specs.List.{IsDistinct}
use Rattle.std.specs.Cmp.{IsStrictWeakOrder, IsTotalOrder}
use Rattle.std.proofs.lemmas.Bool.{false≢true, true≢false}
use Rattle.std.proofs.lemmas.Bool.Decides.{eqb_tells, nat_tests}
use Rattle.std.proofs.lemmas.Cmp.{then_total, on_total, nat_cmp_total}
use Rattle.std.proofs.lemmas.List.{get_or_at, get_or_append_left, get_or_default}
use Rattle.std.proofs.lemmas.List.Elements.{Contains-get_or}
use Rattle.std.proofs.lemmas.List.Sorted.{All-permutation, Contains-permutation, ranks_by, sorted_far}
use Rattle.std.proofs.lemmas.Map.Keys.{apart_from_distinct, IsDistinct-from_apart, IsDistinct-IsPermutation}
use Rattle.std.specs.declared.cmp.Ordering.{Ordering}
use Rattle.std.specs.declared.cmp.Ordering.TheVariants.{Less, Equal, Greater}
use Rattle.p9_abs.specs.declared.instructions.AFunction.{AFunction}
use Rattle.p9_abs.specs.declared.regions.Region.{Region}
use Rattle.p9_abs.specs.Regions.{cost_of, IsAhead}
use Rattle.p9_region.specs.Costs.{RanksBy, AreRanks, IsRanking, gaps_of, order_of}

abbrev Rank : Type 0
Rank = ℕ × ℕ

abbrev Tells : ℕ → ℕ → Type 0
Tells x y = (((x == y) ≡ true) × (x ≡ y)) ⊎ (((x == y) ≡ false) × (x ≢ y))

-- One more rank

pub ranks-none : (f : AFunction) (rs : List Region) (ranks : List Rank) → ranks ≡ [] → AreRanks f rs 0 ranks
unfolding AreRanks
ranks-none f rs ranks e = (ap length e, λ m d l. absurd (omega (arith, l)))

pub ranks-more : (f : AFunction) (rs : List Region) (n gap : ℕ) (ranks after : List Rank) → after ≡ ranks ++ (gap, n) ∷ [] → RanksBy f rs (gap, n) → AreRanks f rs n ranks → AreRanks f rs (n + 1) after
unfolding AreRanks
ranks-more f rs n gap ranks after e here all = (
  ap length e ∙ (length-append ranks ((gap, n) ∷ []) ∙ ap (λ k. k + 1) all.0),
  λ m d l. subst (λ (z : List Rank). ((slice_index_or z m d).1 ≡ m) × RanksBy f rs (slice_index_or z m d)) (sym e) (at m d l (eqb_tells m n)),
)
  where
    at : (m : ℕ) (d : Rank) → m < n + 1 → Tells m n → ((slice_index_or (ranks ++ (gap, n) ∷ []) m d).1 ≡ m) × RanksBy f rs (slice_index_or (ranks ++ (gap, n) ∷ []) m d)
    at m d l (inl t) =
        let q : slice_index_or (ranks ++ (gap, n) ∷ []) m d ≡ (gap, n) = get_or_at ranks (gap, n) [] d m (all.0 ∙ sym t.1) in
        subst (λ (z : Rank). (z.1 ≡ m) × RanksBy f rs z) (sym q) (sym t.1, here)
    at m d l (inr t) =
        let within : m < n = omega (arith, l, t.1) in
        let q : slice_index_or (ranks ++ (gap, n) ∷ []) m d ≡ slice_index_or ranks m d = get_or_append_left ranks ((gap, n) ∷ []) d m (omega (arith, within, all.0)) in
        subst (λ (z : Rank). (z.1 ≡ m) × RanksBy f rs z) (sym q) (all.1 m d within)

pub rank-here : (f : AFunction) (rs : List Region) (n gap saved : ℕ) (r : Region) → slice_get rs n ≡ Some r → saved ≡ cost_of f r → saved < 2 ^ 64 → gap ≡ 2 ^ 64 - 1 - saved → RanksBy f rs (gap, n)
rank-here f rs n gap saved r e s l g a q =
    let same : a ≡ r = cc in
    let c : cost_of f a ≡ saved = ap (cost_of f) same ∙ sym s in
    omega (arith, c, g, l)

-- Sorted ranks

abbrev compare : Rank → Rank → Ordering
compare x y = ordering_then (nat_cmp x.0 y.0) (nat_cmp x.1 y.1)

is-order : IsStrictWeakOrder (λ (x y : Rank). is_lt (compare x y))
is-order =
    let total : IsTotalOrder compare = then_total (on_total (λ (p : Rank). p.0) nat_cmp_total) (on_total (λ (p : Rank). p.1) nat_cmp_total) in
    ranks_by total (λ (x : Rank). x)

not-less : (a b x y : ℕ) → is_lt (ordering_then (nat_cmp a b) (nat_cmp x y)) ≡ false → (b < a) ⊎ ((a ≡ b) × (y ≤ x))
not-less a b x y h = by (order a b)
  where
    order : (m n : ℕ) → (m < n) ⊎ ((n < m) ⊎ (m ≡ n))
    order m n = grind (arith, nat_tests)

    lt-is : (m n : ℕ) → m < n → nat_lt m n ≡ true
    lt-is m n l = grind (arith, nat_tests)

    not-lt : (m n : ℕ) → n ≤ m → nat_lt m n ≡ false
    not-lt m n l = grind (arith, nat_tests)

    eq-is : (m n : ℕ) → m ≡ n → (m == n) ≡ true
    eq-is m n e = grind (arith, nat_tests)

    less : (m n : ℕ) → m < n → nat_cmp m n ≡ Less
    less m n l = ap (λ t. cond t Less (cond (m == n) Equal Greater)) (lt-is m n l)

    equal : (m n : ℕ) → m ≡ n → nat_cmp m n ≡ Equal
    equal m n e = ap (λ t. cond t Less (cond (m == n) Equal Greater)) (not-lt m n (omega (arith, e))) ∙ ap (λ t. cond t Equal Greater) (eq-is m n e)

    second : a ≡ b → (x < y) ⊎ ((y < x) ⊎ (x ≡ y)) → (b < a) ⊎ ((a ≡ b) × (y ≤ x))
    second e (inl l) = absurd (true≢false (sym (ap is_lt (ap (λ o. ordering_then o (nat_cmp x y)) (equal a b e) ∙ less x y l)) ∙ h))
    second e (inr (inl l)) = inr (e, omega (arith, l))
    second e (inr (inr q)) = inr (e, omega (arith, q))

    by : (a < b) ⊎ ((b < a) ⊎ (a ≡ b)) → (b < a) ⊎ ((a ≡ b) × (y ≤ x))
    by (inl l) = absurd (true≢false (sym (ap (λ o. is_lt (ordering_then o (nat_cmp x y))) (less a b l)) ∙ h))
    by (inr (inl l)) = inl l
    by (inr (inr e)) = second e (order x y)

module _ (f : AFunction) (rs : List Region) (before after : List Rank) (all : AreRanks f rs (length rs) before) (moved : IsPermutation before after) (sorted : IsSorted compare after) where
  abbrev Good : Rank → Type 0
  Good rank = (rank.1 < length rs) × RanksBy f rs rank

  good-before : All Good before
  unfolding AreRanks
  good-before m d l =
      let h = all.1 m d (omega (arith, l, all.0)) in
      (omega (arith, h.0, l, all.0), h.1)

  good : All Good after
  good = All-permutation Good before after moved good-before

  abbrev same_number : Rank → Rank → Bool
  same_number x y = x.1 == y.1

  flips : (x y : Rank) → same_number x y ≡ same_number y x
  flips x y = swap x.1 y.1
    where
      swap : (m n : ℕ) → (m == n) ≡ (n == m)
      swap m n = grind (arith, nat_tests)

  apart-before : IsDistinct same_number before
  unfolding AreRanks
  apart-before = IsDistinct-from_apart same_number before (λ i j d l h. differ i j d l h)
    where
      not-eq : (m n : ℕ) → m ≢ n → (m == n) ≡ false
      not-eq m n ne = grind (arith, nat_tests)

      differ : (i j : ℕ) (d : Rank) → i < j → j < length before → same_number (get_or before i d) (get_or before j d) ≡ false
      differ i j d l h =
          let p = (all.1 i d (omega (arith, l, h, all.0))).0 in
          let q = (all.1 j d (omega (arith, h, all.0))).0 in
          not-eq (get_or before i d).1 (get_or before j d).1 (λ e. omega (arith, e, p, q, l))

  numbers : IsDistinct same_number after
  numbers = IsDistinct-IsPermutation same_number flips before after moved apart-before

  distinct : (m p : ℕ) (d : Rank) → m < p → p < length after → (get_or after m d).1 ≢ (get_or after p d).1
  distinct m p d l h = apart-at after numbers m p d l h
    where
      eq-is : (a b : ℕ) → a ≡ b → (a == b) ≡ true
      eq-is a b e = grind (arith, nat_tests)

      apart-at : (xs : List Rank) → IsDistinct same_number xs → (i j : ℕ) (e : Rank) → i < j → j < length xs → (get_or xs i e).1 ≢ (get_or xs j e).1
      apart-at xs ds i j e l h = λ q. absurd (false≢true (sym (apart_from_distinct same_number xs i j e ds l h) ∙ eq-is _ _ q))

  every : (r : ℕ) → r < length rs → (m : ℕ) × (m < length after) × ((d : Rank) → (slice_index_or after m d).1 ≡ r)
  unfolding AreRanks
  every r l =
      let d : Rank = (0, 0) in
      let x : Rank = get_or before r d in
      let c = Contains-permutation before after x moved (Contains-get_or before r d (omega (arith, l, all.0))) in (
        c.0,
        c.1,
        λ e. ap (λ (z : Rank). z.1) (get_or_default after c.0 e x c.1 ∙ c.2) ∙ (all.1 r d l).0,
      )

  ahead : (m p : ℕ) (d : Rank) (a b : Region) → p < m → m < length after → slice_get rs (slice_index_or after m d).1 ≡ Some a → slice_get rs (slice_index_or after p d).1 ≡ Some b →
      IsAhead f (slice_index_or after p d).1 b (slice_index_or after m d).1 a
  ahead m p d a b l h ea eb =
      let x : Rank = get_or after m d in
      let y : Rank = get_or after p d in
      let ga : (get_or after m d).0 + cost_of f a ≡ 2 ^ 64 - 1 = (good m d h).1 a ea in
      let gb : (get_or after p d).0 + cost_of f b ≡ 2 ^ 64 - 1 = (good p d (omega (arith, l, h))).1 b eb in
      by ga gb (not-less (get_or after m d).0 (get_or after p d).0 (get_or after m d).1 (get_or after p d).1 (sorted_far (λ (u v : Rank). is_lt (compare u v)) is-order after sorted p m d (omega (arith, l)) h))
    where
      by : (get_or after m d).0 + cost_of f a ≡ 2 ^ 64 - 1 → (get_or after p d).0 + cost_of f b ≡ 2 ^ 64 - 1 →
          ((get_or after p d).0 < (get_or after m d).0) ⊎ (((get_or after m d).0 ≡ (get_or after p d).0) × ((get_or after p d).1 ≤ (get_or after m d).1)) →
          IsAhead f (slice_index_or after p d).1 b (slice_index_or after m d).1 a
      by ga gb (inl t) = inl (omega (arith, ga, gb, t))
      by ga gb (inr t) = let ne = distinct p m d l h in inr (omega (arith, ga, gb, t.0), omega (arith, t.1, ne))

  pub is-ranking : IsRanking f rs after
  is-ranking = record {
    ranked = λ m d l. (good m d l).1;
    within = λ m d l. (good m d l).0;
    every = every;
    distinct = distinct;
    ahead = ahead;
  }

-- Lists of the parts of ranks

pub gap-at : (ranks : List Rank) (k : ℕ) (d : Rank) → k < length ranks → slice_index (gaps_of ranks) k ≡ (slice_index_or ranks k d).0
gap-at [] k d l = absurd (omega (arith, l))
gap-at (x ∷ xs) zero d l = refl
gap-at (x ∷ xs) (suc k) d l = gap-at xs k d (omega (arith, l))

pub order-at : (ranks : List Rank) (k : ℕ) (d : Rank) → k < length ranks → slice_index (order_of ranks) k ≡ (slice_index_or ranks k d).1
order-at [] k d l = absurd (omega (arith, l))
order-at (x ∷ xs) zero d l = refl
order-at (x ∷ xs) (suc k) d l = order-at xs k d (omega (arith, l))
