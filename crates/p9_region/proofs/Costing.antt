-- Costs of rising points.
use Rattle.std.proofs.Common.{ℕ, zero, suc, ◌+◌, ◌*◌, ◌^◌, ◌≡◌, ◌≤◌, ◌<◌, min, refl, ap, ◌∙◌, arith, List, [], ◌∷◌, ◌++◌, length, slice_index, take, sum_by, AllPairs}
use Rattle.std.proofs.Math.Nat.{pow-le-pow_right}
use Rattle.std.proofs.lemmas.List.Sums.{sum_by-append}
use Rattle.std.proofs.lemmas.List.{take_more}
use Rattle.p9_abs.specs.declared.instructions.Abs.{Abs}
use Rattle.p9_abs.specs.declared.instructions.AFunction.{AFunction}
use Rattle.p9_abs.specs.declared.regions.Region.{Region}
use Rattle.p9_abs.specs.Regions.{cost_of, cost_at}
use Rattle.p9_region.specs.Costs.{cost_in}

pub small_power : (d : ℕ) → 4 ^ min d 8 ≤ 65536
small_power d =
    let h : 4 ^ min d 8 ≤ 4 ^ 8 = pow-le-pow_right {n = 4} (omega arith) {i = min d 8} {j = 8} (omega arith) in
    let e : 4 ^ 8 ≡ 65536 = refl in
    omega (arith, h, e)

pub power_fits : (d : ℕ) → 4 ^ min d 8 < 2 ^ 64
power_fits d = let h = small_power d in omega (arith, h)

-- the k-th of rising numbers is at least k
rising-at : (xs : List ℕ) → AllPairs (λ i j. i < j) xs → (k : ℕ) → k < length xs → k ≤ slice_index xs k
rising-at xs up zero l = omega arith
rising-at xs up (suc k) l =
    let rec = rising-at xs up k (omega (arith, l)) in
    let h : slice_index xs k < slice_index xs (suc k) = up k (suc k) 0 (omega arith) l in
    omega (arith, rec, h)

pub total-fits : (xs : List ℕ) (k total cost : ℕ) → AllPairs (λ i j. i < j) xs → k < length xs → slice_index xs k < 2 ^ 32 → total ≤ 65536 * k → cost ≤ 65536 → total + cost < 2 ^ 64
total-fits xs k total cost up l small h c = let r = rising-at xs up k l in omega (arith, r, small, h, c)

pub sum-more : (f : ℕ → ℕ) (xs : List ℕ) (k total cost : ℕ) → k < length xs → total ≡ sum_by f (take k xs) → cost ≡ f (slice_index xs k) → total + cost ≡ sum_by f (take (k + 1) xs)
sum-more f xs k total cost l e c =
    let split : sum_by f (take (k + 1) xs) ≡ sum_by f (take k xs ++ slice_index xs k ∷ []) = ap (sum_by f) (take_more xs k 0 l) in
    let both : sum_by f (take k xs ++ slice_index xs k ∷ []) ≡ sum_by f (take k xs) + sum_by f (slice_index xs k ∷ []) = sum_by-append f (take k xs) (slice_index xs k ∷ []) in
    let one : sum_by f (slice_index xs k ∷ []) ≡ 0 + f (slice_index xs k) = refl in
    omega (arith, split, both, one, e, c)

pub cost-of-lists : (f : AFunction) (r : Region) (code : List Abs) (depths points : List ℕ) (v cost : ℕ) → code ≡ f.code → depths ≡ f.depth → v ≡ r.auto → points ≡ r.points →
    cost ≡ sum_by (cost_in code depths v) points → cost ≡ cost_of f r
cost-of-lists f r code depths points v cost ec ed ev ep e =
    e ∙ (ap (λ c. sum_by (cost_in c depths v) points) ec ∙ (ap (λ d. sum_by (cost_in f.code d v) points) ed
    ∙ (ap (λ u. sum_by (cost_in f.code f.depth u) points) ev ∙ ap (sum_by (cost_at f r.auto)) ep)))
