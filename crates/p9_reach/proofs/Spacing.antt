-- How far apart the entries of lines lie, by the words of the lines between them.
use Rattle.std.proofs.Common.{ℕ, zero, suc, ◌+◌, ◌-◌, ◌≡◌, ◌≤◌, ◌<◌, List, [], ◌∷◌, length, take, drop, refl, sym, ap, ◌∙◌, subst, arith, if◌then◌else◌}
use Rattle.std.proofs.lemmas.List.Sums.{sum_by-cons}
use Rattle.p9_r3k.specs.declared.lines.Line.{Line}
use Rattle.p9_r3k.specs.Effects.{writes_pair}
use Rattle.p9_r3k.specs.Uses.{delays}
use Rattle.p9_r3k.specs.Delayed.{least, enter}
use Rattle.p9_slot.specs.Schedule.{is_at, EachOnce, IsSpaced}
use Rattle.p9_lines.specs.Weights.{inst_words, words_needed}

-- the words of the lines before line i
abbrev pub before : List Line → ℕ → ℕ
before old i = words_needed (take i old)

abbrev pub pair_at : List Line → ℕ → ℕ
pair_at old i = if is_at writes_pair old i then 2 else 0

abbrev delay_at : List Line → ℕ → ℕ
delay_at old i = if is_at delays old i then 1 else 0

pub words-cons : (line : Line) (rest : List Line) → words_needed (line ∷ rest) ≡ inst_words line.inst + words_needed rest
words-cons line rest = sum_by-cons (λ (l : Line). inst_words l.inst) line rest

before-step : (old : List Line) (i : ℕ) → i < length old → before old (suc i) ≡ before old i + (1 + delay_at old i + pair_at old i)
before-step [] i h = absurd (omega (arith, h))
before-step (line ∷ rest) zero h = words-cons line [] ∙ omega arith
before-step (line ∷ rest) (suc i) h =
    words-cons line (take (suc i) rest) ∙ (ap (λ n. inst_words line.inst + n) (before-step rest i (omega (arith, h))) ∙ (omega (arith, words-cons line (take i rest))))

spaced-by : (old new : List Line) (moved : List ℕ) → IsSpaced old new moved → (i d : ℕ) → i + d ≤ length old →
    enter moved (length new) (i + d) + (before old i + pair_at old i) ≤ enter moved (length new) i + (before old (i + d) + pair_at old (i + d))
spaced-by old new moved h i zero within =
    let same : i + 0 ≡ i = omega arith in
    let P : ℕ → Type 0 = λ n. enter moved (length new) n + (before old i + pair_at old i) ≤ enter moved (length new) i + (before old n + pair_at old n) in
    subst P (sym same) (omega arith)
spaced-by old new moved h i (suc d) within =
    let j : ℕ = i + d in
    let up : i + suc d ≡ suc j = omega arith in
    let P : ℕ → Type 0 = λ n. enter moved (length new) n + (before old i + pair_at old i) ≤ enter moved (length new) i + (before old n + pair_at old n) in
    let inside : j < length old = omega (arith, within) in
    subst P (sym up) (omega (arith, spaced-by old new moved h i d (omega (arith, within)), h.next j inside, before-step old j inside))

-- from one line to a later one
pub spaced : (old new : List Line) (moved : List ℕ) → IsSpaced old new moved → (i j : ℕ) → i ≤ j → j ≤ length old →
    enter moved (length new) j + (before old i + pair_at old i) ≤ enter moved (length new) i + (before old j + pair_at old j)
spaced old new moved h i j le within =
    let there : i + (j - i) ≡ j = omega (arith, le) in
    let P : ℕ → Type 0 = λ n. enter moved (length new) n + (before old i + pair_at old i) ≤ enter moved (length new) i + (before old n + pair_at old n) in
    subst P there (spaced-by old new moved h i (j - i) (omega (arith, le, within)))

-- the end is entered behind all lines
drop-all : (moved : List ℕ) (n : ℕ) → length moved ≤ n → drop n moved ≡ []
drop-all [] zero h = refl
drop-all [] (suc n) h = refl
drop-all (m ∷ ms) zero h = absurd (omega (arith, h))
drop-all (m ∷ ms) (suc n) h = drop-all ms n (omega (arith, h))

pub enter-end : (moved : List ℕ) (count n : ℕ) → length moved ≤ n → enter moved count n ≡ count
enter-end moved count n h = ap (least count) (drop-all moved n h)

pub no-pair : (old : List Line) (n : ℕ) → length old ≤ n → pair_at old n ≡ 0
no-pair [] zero h = refl
no-pair [] (suc n) h = refl
no-pair (l ∷ ls) zero h = absurd (omega (arith, h))
no-pair (l ∷ ls) (suc n) h = no-pair ls n (omega (arith, h))

take-all : (old : List Line) → take (length old) old ≡ old
take-all [] = refl
take-all (l ∷ ls) = ap (λ x. l ∷ x) (take-all ls)

pub all-within : (old new : List Line) (moved : List ℕ) → EachOnce old new moved → IsSpaced old new moved → length new ≤ words_needed old
all-within old new moved once h =
    let last : enter moved (length new) (length old) ≡ length new = enter-end moved (length new) (length old) (omega (arith, once.count)) in
    omega (
      arith,
      spaced old new moved h 0 (length old) (omega arith) (omega arith),
      last,
      h.first,
      no-pair old (length old) (omega arith),
      ap words_needed (take-all old),
    )
