-- The least line at an address, where all lines before it have lesser addresses.
use Rattle.std.proofs.Common.{ℕ, zero, suc, ◌+◌, ◌==◌, ◌≡◌, ◌≤◌, ◌<◌, Bool, true, false, Some, refl, ap, arith, if◌then◌else◌}
use Rattle.std.proofs.lemmas.Bool.Decides.{nat_tests}
use Rattle.p9_r3k.specs.Straight.{line_at}

pub line_at-least : (line : ℕ → ℕ) (i n k : ℕ) → k ≤ i → i < k + n → ((j : ℕ) → j < i → line j < line i) → line_at line (line i) k n ≡ Some i
unfolding line_at
line_at-least line i zero k from to rises = absurd (omega (arith, from, to))
line_at-least line i (suc n) k from to rises = by (line k == line i) refl (k == i) refl (λ h. line_at-least line i n (k + 1) h (omega (arith, to)) rises)
  where
    by : (b : Bool) → (line k == line i) ≡ b → (e : Bool) → (k == i) ≡ e → (k + 1 ≤ i → line_at line (line i) (k + 1) n ≡ Some i) →
        (if b then Some k else line_at line (line i) (k + 1) n) ≡ Some i
    by true h true g rest = ap Some (let same : k ≡ i = grind (arith, nat_tests) in same)
    by true h false g rest =
        absurd (let before : k < i = grind (arith, nat_tests) in
        let same : line k ≡ line i = grind (arith, nat_tests) in
        omega (arith, rises k before, same))
    by false h true g rest =
        absurd (let same : k ≡ i = grind (arith, nat_tests) in
        let equal : line k ≡ line i = ap line same in
        grind (arith, nat_tests, equal))
    by false h false g rest = rest (let before : k + 1 ≤ i = grind (arith, nat_tests) in before)
