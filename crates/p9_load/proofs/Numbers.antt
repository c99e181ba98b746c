-- Where lines are entered, from the last on.
use Rattle.std.proofs.Common.{ℕ, zero, suc, ◌+◌, ◌-◌, ◌≡◌, ◌≤◌, ◌<◌, List, [], ◌∷◌, ◌++◌, length, take, drop, set, get_or, min, map, refl, sym, ap, ◌∙◌, arith, append_assoc, length-append, add-one}
use Rattle.std.proofs.Math.Seq.{take-suc, drop-cons, set-append_seam}
use Rattle.std.proofs.lemmas.List.{length-take-le}
use Rattle.std.proofs.lemmas.Grind.{common_steps}
use Rattle.p9_r3k.specs.Delayed.{line_address, least, enter}
use Rattle.p9_load.specs.Addresses.{entered_numbers, entered_addresses}

-- the number before those that are done
pub least-step : (count : ℕ) (moved : List ℕ) (before left : ℕ) → before ≡ suc left → before ≤ length moved →
    min (get_or moved left 0) (least count (drop before moved)) ≡ least count (drop left moved)
least-step count moved before left e within =
    let inside : left < length moved = omega (arith, e, within) in
    ap (λ n. min (get_or moved left 0) (least count (drop n moved))) e ∙ ap (least count) (sym (drop-cons moved left 0 inside))

pub done-step : (count : ℕ) (moved done : List ℕ) (before left n : ℕ) → before ≡ suc left → before ≤ length moved →
    done ≡ take before moved ++ entered_numbers count (drop before moved) → n ≡ least count (drop left moved) →
    set done left n ≡ take left moved ++ entered_numbers count (drop left moved)
done-step count moved done before left n e within h m =
    let inside : left < length moved = omega (arith, e, within) in
    let x : ℕ = get_or moved left 0 in
    let rest : List ℕ = entered_numbers count (drop (suc left) moved) in
    let front : length (take left moved) ≡ left = length-take-le left moved (omega (arith, inside)) in
    let parted : done ≡ take left moved ++ x ∷ rest =
    h ∙ ap (λ k. take k moved ++ entered_numbers count (drop k moved)) e ∙ ap (λ l. l ++ rest) (take-suc moved left 0 inside)
    ∙ append_assoc (take left moved) (x ∷ []) rest in
    let written : set done left n ≡ take left moved ++ n ∷ rest =
    ap (λ l. set l left n) parted ∙ ap (λ k. set (take left moved ++ x ∷ rest) k n) (sym front) ∙ set-append_seam (take left moved) x rest n in
    written ∙ ap (λ k. take left moved ++ k ∷ rest) (m ∙ ap (least count) (drop-cons moved left 0 inside))
    ∙ ap (λ l. take left moved ++ entered_numbers count l) (sym (drop-cons moved left 0 inside))

-- behind the last line control comes to the end
entered-at : (count : ℕ) (moved : List ℕ) (i : ℕ) → get_or (entered_numbers count moved) i count ≡ enter moved count i
entered-at count [] zero = refl
entered-at count [] (suc i) = refl
entered-at count (n ∷ ns) zero = refl
entered-at count (n ∷ ns) (suc i) = entered-at count ns i

pub first-of : (rest : List ℕ) → 1 ≤ length rest → rest ≡ get_or rest 0 0 ∷ take (length rest - 1) (drop 1 rest)
first-of [] n = absurd (omega arith)
first-of (x ∷ after) n = ap (λ l. x ∷ l) (sym (all-of x after))
  where
    all-of : (x : ℕ) (after : List ℕ) → take (length (x ∷ after) - 1) (drop 1 (x ∷ after)) ≡ after
    all-of x after = grind (arith, common_steps)

-- after one address
pub addresses_turn : (moved numbers : List ℕ) (count lines : ℕ) (old number at : ℕ) (rest after done more all : List ℕ) → count ≡ lines →
    numbers ≡ entered_numbers count moved → number ≡ get_or numbers old count → at ≡ line_address number → rest ≡ old ∷ after → more ≡ done ++ at ∷ [] →
    done ++ entered_addresses moved lines rest ≡ all → more ++ entered_addresses moved lines after ≡ all
addresses_turn moved numbers count lines old number at rest after done more all e made here there first m h =
    let same : at ≡ line_address (enter moved lines old) =
    there ∙ ap line_address (here ∙ ap (λ l. get_or l old count) made ∙ entered-at count moved old ∙ ap (λ n. enter moved n old) e) in
    ap (λ l. l ++ entered_addresses moved lines after) (m ∙ ap (λ n. done ++ n ∷ []) same)
    ∙ append_assoc done (line_address (enter moved lines old) ∷ []) (entered_addresses moved lines after)
    ∙ ap (λ l. done ++ entered_addresses moved lines l) (sym first) ∙ h
