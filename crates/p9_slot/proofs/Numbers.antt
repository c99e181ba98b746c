-- The new numbers of the lines of blocks.
use Rattle.std.proofs.Common.{ℕ, zero, suc, ◌+◌, ◌==◌, ◌≡◌, ◌≢◌, ◌⊎◌, inl, inr, ◌≤◌, ◌<◌, nat_lt, Bool, true, false, Some, refl, sym, ap, ◌∙◌, arith, if◌then◌else◌, List, [], ◌∷◌, ◌++◌, length, drop, min, replicate, slice_get, slice_index, length-append, ◌||◌}
use Rattle.std.proofs.Math.Nat.{min-eq_left, min-eq_right}
use Rattle.std.proofs.lemmas.List.{length-replicate}
use Rattle.std.proofs.lemmas.Option.{get_or_from_slice_get}
use Rattle.std.proofs.lemmas.Bool.Decides.{nat_tests}
use Rattle.p9_r3k.specs.declared.inst.Inst.{Inst}
use Rattle.p9_r3k.specs.declared.lines.Line.{Line}
use Rattle.p9_r3k.specs.Effects.{writes_pair, branches}
use Rattle.p9_r3k.specs.Uses.{links, loads}
use Rattle.p9_r3k.specs.Delayed.{noop, least}
use Rattle.p9_r3k.proofs.Doing.{calls_branch}
use Rattle.p9_slot.specs.declared.placing.Recent.{Recent}
use Rattle.p9_slot.specs.declared.blocks.Block.{Block}
use Rattle.p9_slot.specs.declared.blocks.Block.TheVariants.{Single, Exchanged}
use Rattle.p9_slot.specs.Schedule.{is_at, retargeted}
use Rattle.p9_slot.specs.Placing.{nothing, awaits, needed, slot, after, numbers, laid, entry, lines_of}
use Rattle.p9_slot.proofs.Lists.{get_behind}
use Rattle.p9_slot.proofs.Moving.{Moves, moves_by, AllMove}
use Rattle.p9_slot.proofs.Entering.{enters, starts, enters-from, enters-idle, call-next, behind_noops, single_lines, pair_lines, single_before, pair_before, single_next, pair_next}

-- the new number of line i
abbrev pub number : Recent → ℕ → List Block → ℕ → ℕ
number r at [] i = at
number r at (Single line target ∷ rest) zero = at + needed r line.inst
number r at (Single line target ∷ rest) (suc i) = number (after r line.inst) (at + needed r line.inst + 1 + slot line.inst) rest i
number r at (Exchanged line lead ∷ rest) zero = at + needed r lead.inst + 1
number r at (Exchanged line lead ∷ rest) (suc zero) = at + needed r lead.inst
number r at (Exchanged line lead ∷ rest) (suc (suc i)) = number nothing (at + needed r lead.inst + 2) rest i

pub number-from : (r : Recent) (at : ℕ) (bs : List Block) (i : ℕ) → at ≤ number r at bs i
number-from r at [] i = omega arith
number-from r at (Single line target ∷ rest) zero = omega arith
number-from r at (Single line target ∷ rest) (suc i) =
    omega (arith, number-from (after r line.inst) (at + needed r line.inst + 1 + slot line.inst) rest i)
number-from r at (Exchanged line lead ∷ rest) zero = omega arith
number-from r at (Exchanged line lead ∷ rest) (suc zero) = omega arith
number-from r at (Exchanged line lead ∷ rest) (suc (suc i)) = omega (arith, number-from nothing (at + needed r lead.inst + 2) rest i)

-- The list of numbers

pub numbers-length : (r : Recent) (at : ℕ) (bs : List Block) → length (numbers r at bs) ≡ length (lines_of bs)
numbers-length r at [] = refl
numbers-length r at (Single line target ∷ rest) =
    ap suc (numbers-length (after r line.inst) (at + needed r line.inst + 1 + slot line.inst) rest)
numbers-length r at (Exchanged line lead ∷ rest) = ap (λ n. suc (suc n)) (numbers-length nothing (at + needed r lead.inst + 2) rest)

pub numbers-at : (r : Recent) (at : ℕ) (bs : List Block) (i : ℕ) → i < length (lines_of bs) →
    slice_get (numbers r at bs) i ≡ Some (number r at bs i)
numbers-at r at [] i h = absurd (omega (arith, h))
numbers-at r at (Single line target ∷ rest) zero h = refl
numbers-at r at (Single line target ∷ rest) (suc i) h =
    numbers-at (after r line.inst) (at + needed r line.inst + 1 + slot line.inst) rest i (omega (arith, h))
numbers-at r at (Exchanged line lead ∷ rest) zero h = refl
numbers-at r at (Exchanged line lead ∷ rest) (suc zero) h = refl
numbers-at r at (Exchanged line lead ∷ rest) (suc (suc i)) h = numbers-at nothing (at + needed r lead.inst + 2) rest i (omega (arith, h))

-- the least number of the lines from line i on is where line i is entered
pub numbers-least : (r : Recent) (at : ℕ) (bs : List Block) (end i : ℕ) → end ≡ enters r at bs (length (lines_of bs)) →
    least end (drop i (numbers r at bs)) ≡ enters r at bs i
numbers-least r at [] end zero h = h
numbers-least r at [] end (suc i) h = h
numbers-least r at (Single line target ∷ rest) end zero h =
    let q : Recent = after r line.inst in
    let next : ℕ = at + needed r line.inst + 1 + slot line.inst in
    ap (min (at + needed r line.inst)) (numbers-least q next rest end 0 h)
    ∙ min-eq_left (let z : at + needed r line.inst ≤ enters q next rest 0 = omega (arith, enters-from q next rest 0) in z)
numbers-least r at (Single line target ∷ rest) end (suc i) h =
    numbers-least (after r line.inst) (at + needed r line.inst + 1 + slot line.inst) rest end i h
numbers-least r at (Exchanged line lead ∷ rest) end zero h =
    let next : ℕ = at + needed r lead.inst + 2 in
    ap (λ n. min (at + needed r lead.inst + 1) (min (at + needed r lead.inst) n)) (numbers-least nothing next rest end 0 h)
    ∙ (ap (min (at + needed r lead.inst + 1))
    (min-eq_left (let z : at + needed r lead.inst ≤ enters nothing next rest 0 = omega (arith, enters-from nothing next rest 0) in z))
    ∙ min-eq_right (let z : at + needed r lead.inst ≤ at + needed r lead.inst + 1 = omega arith in z))
numbers-least r at (Exchanged line lead ∷ rest) end (suc zero) h =
    let next : ℕ = at + needed r lead.inst + 2 in
    ap (min (at + needed r lead.inst)) (numbers-least nothing next rest end 0 h)
    ∙ min-eq_left (let z : at + needed r lead.inst ≤ enters nothing next rest 0 = omega (arith, enters-from nothing next rest 0) in z)
numbers-least r at (Exchanged line lead ∷ rest) end (suc (suc i)) h =
    numbers-least nothing (at + needed r lead.inst + 2) rest end i h

-- Where a line is entered, from its number and the next one's

-- a line is entered at its number, which is below the next, or at the next, which is below its own
record ByNext (r : Recent) (at : ℕ) (bs : List Block) (i : ℕ) : Type 0 where
  this : number r at bs i ≡ enters r at bs i → suc i < length (lines_of bs) → enters r at bs i ≤ number r at bs (suc i)
  that : (number r at bs i ≡ enters r at bs i) ⊎ ((suc i < length (lines_of bs)) × (number r at bs (suc i) ≡ enters r at bs i) × (enters r at bs i ≤ number r at bs i))

by_next : (r : Recent) (at : ℕ) (bs : List Block) (i : ℕ) → i < length (lines_of bs) → ByNext r at bs i
by_next r at [] i h = absurd (omega (arith, h))
by_next r at (Single line target ∷ rest) zero h = record {
  this = λ e w. omega (arith, number-from (after r line.inst) (at + needed r line.inst + 1 + slot line.inst) rest 0);
  that = inl refl;
}
by_next r at (Single line target ∷ rest) (suc i) h =
    let later : ByNext (after r line.inst) (at + needed r line.inst + 1 + slot line.inst) rest i =
    by_next (after r line.inst) (at + needed r line.inst + 1 + slot line.inst) rest i (omega (arith, h)) in
    record { this = λ e w. later.this e (omega (arith, w)); that = wider later.that }
  where
    wider : (let q : Recent = after r line.inst in
        let next : ℕ = at + needed r line.inst + 1 + slot line.inst in
        (number q next rest i ≡ enters q next rest i) ⊎ ((suc i < length (lines_of rest)) × (number q next rest (suc i) ≡ enters q next rest i) × (enters q next rest i ≤ number q next rest i)) →
        (number q next rest i ≡ enters q next rest i) ⊎ ((suc (suc i) < suc (length (lines_of rest))) × (number q next rest (suc i) ≡ enters q next rest i) × (enters q next rest i ≤ number q next rest i)))
    wider (inl e) = inl e
    wider (inr x) = inr (omega (arith, x.0), x.1, x.2)
by_next r at (Exchanged line lead ∷ rest) zero h = record {
  this = λ e w. omega arith;
  that = inr (omega arith, refl, omega arith);
}
by_next r at (Exchanged line lead ∷ rest) (suc zero) h = record {
  this = λ e w. omega (arith, number-from nothing (at + needed r lead.inst + 2) rest 0);
  that = inl refl;
}
by_next r at (Exchanged line lead ∷ rest) (suc (suc i)) h =
    let later : ByNext nothing (at + needed r lead.inst + 2) rest i = by_next nothing (at + needed r lead.inst + 2) rest i (omega (arith, h)) in
    record { this = λ e w. later.this e (omega (arith, w)); that = wider later.that }
  where
    wider : (let next : ℕ = at + needed r lead.inst + 2 in
        (number nothing next rest i ≡ enters nothing next rest i) ⊎ ((suc i < length (lines_of rest)) × (number nothing next rest (suc i) ≡ enters nothing next rest i) × (enters nothing next rest i ≤ number nothing next rest i)) →
        (number nothing next rest i ≡ enters nothing next rest i) ⊎ ((suc (suc (suc i)) < suc (suc (length (lines_of rest)))) × (number nothing next rest (suc i) ≡ enters nothing next rest i) × (enters nothing next rest i ≤ number nothing next rest i)))
    wider (inl e) = inl e
    wider (inr x) = inr (omega (arith, x.0), x.1, x.2)

pub entry-enters : (bs : List Block) (moved : List ℕ) (t : ℕ) → moved ≡ numbers nothing 0 bs → t < length (lines_of bs) →
    entry moved t ≡ enters nothing 0 bs t
entry-enters bs moved t e within = by_last (nat_lt (t + 1) (length moved)) refl
  where
    count : length moved ≡ length (lines_of bs)
    count = ap length e ∙ numbers-length nothing 0 bs

    index : (i : ℕ) → i < length (lines_of bs) → slice_index moved i ≡ number nothing 0 bs i
    index i h = get_or_from_slice_get moved i (number nothing 0 bs i) 0 (ap (λ l. slice_get l i) e ∙ numbers-at nothing 0 bs i h)

    this : ByNext nothing 0 bs t
    this = by_next nothing 0 bs t within

    by_last : (b : Bool) → nat_lt (t + 1) (length moved) ≡ b →
        (let n : ℕ = (if b then min (slice_index moved t) (slice_index moved (t + 1)) else slice_index moved t) in n ≡ enters nothing 0 bs t)
    by_last true h = by_case this.that
      where
        more : suc t < length (lines_of bs)
        more = (let z : t + 1 < length moved = grind (arith, nat_tests) in omega (arith, z, count))

        here : slice_index moved t ≡ number nothing 0 bs t
        here = index t within

        next : slice_index moved (t + 1) ≡ number nothing 0 bs (suc t)
        next = ap (slice_index moved) (omega arith) ∙ index (suc t) more

        by_case : (number nothing 0 bs t ≡ enters nothing 0 bs t) ⊎ ((suc t < length (lines_of bs)) × (number nothing 0 bs (suc t) ≡ enters nothing 0 bs t) × (enters nothing 0 bs t ≤ number nothing 0 bs t)) →
            min (slice_index moved t) (slice_index moved (t + 1)) ≡ enters nothing 0 bs t
        by_case (inl o) =
            min-eq_left (let z : slice_index moved t ≤ slice_index moved (t + 1) = omega (arith, here, next, o, this.this o more) in z) ∙ (here ∙ o)
        by_case (inr x) =
            min-eq_right (let z : slice_index moved (t + 1) ≤ slice_index moved t = omega (arith, here, next, x.1, x.2) in z) ∙ (next ∙ x.1)
    by_last false h = by_case this.that
      where
        last : length (lines_of bs) ≤ suc t
        last = (let z : length moved ≤ t + 1 = grind (arith, nat_tests) in omega (arith, z, count))

        by_case : (number nothing 0 bs t ≡ enters nothing 0 bs t) ⊎ ((suc t < length (lines_of bs)) × (number nothing 0 bs (suc t) ≡ enters nothing 0 bs t) × (enters nothing 0 bs t ≤ number nothing 0 bs t)) →
            slice_index moved t ≡ enters nothing 0 bs t
        by_case (inl o) = index t within ∙ o
        by_case (inr x) = absurd (omega (arith, x.0, last))

-- Where lines stand

pub laid-length : (f : ℕ → ℕ) (pre : List Line) (r : Recent) (at : ℕ) (bs : List Block) → length pre ≡ at →
    length (pre ++ laid f r bs) ≡ enters r at bs (length (lines_of bs))
laid-length f pre r at [] e = omega (arith, length-append pre [], e)
laid-length f pre r at (Single line target ∷ rest) e =
    ap length (single_before f pre r line target rest)
    ∙ laid-length f (pre ++ single_lines f r line) (after r line.inst) (at + needed r line.inst + 1 + slot line.inst) rest (single_next f pre r at line e)
laid-length f pre r at (Exchanged line lead ∷ rest) e =
    ap length (pair_before f pre r line lead rest)
    ∙ laid-length f (pre ++ pair_lines f r line lead) nothing (at + needed r lead.inst + 2) rest (pair_next f pre r at line lead e)

pub kept-at : (f : ℕ → ℕ) (pre : List Line) (r : Recent) (at : ℕ) (bs : List Block) → length pre ≡ at → (i : ℕ) (line : Line) →
    slice_get (lines_of bs) i ≡ Some line → slice_get (pre ++ laid f r bs) (number r at bs i) ≡ Some (retargeted f line)
kept-at f pre r at [] e i line h = cc
kept-at f pre r at (Single first target ∷ rest) e zero line h =
    let same : first ≡ line = cc in
    behind_noops pre (needed r first.inst) at (at + needed r first.inst) (retargeted f first)
    (replicate (slot first.inst) noop ++ laid f (after r first.inst) rest) e refl
    ∙ ap (λ (l : Line). Some (retargeted f l)) same
kept-at f pre r at (Single first target ∷ rest) e (suc i) line h =
    ap (λ l. slice_get l (number (after r first.inst) (at + needed r first.inst + 1 + slot first.inst) rest i)) (single_before f pre r first target rest)
    ∙ kept-at f (pre ++ single_lines f r first) (after r first.inst) (at + needed r first.inst + 1 + slot first.inst) rest (single_next f pre r at first e) i line h
kept-at f pre r at (Exchanged first lead ∷ rest) e zero line h =
    let same : first ≡ line = cc in
    let n : ℕ = needed r lead.inst in
    get_behind pre (laid f r (Exchanged first lead ∷ rest)) at (n + 1) (at + n + 1) e (omega arith)
    ∙ (get_behind (replicate n noop) (retargeted f lead ∷ (retargeted f first ∷ laid f nothing rest)) n 1 (n + 1) (length-replicate n noop) (omega arith)
    ∙ ap (λ (l : Line). Some (retargeted f l)) same)
kept-at f pre r at (Exchanged first lead ∷ rest) e (suc zero) line h =
    let same : lead ≡ line = cc in
    behind_noops pre (needed r lead.inst) at (at + needed r lead.inst) (retargeted f lead) (retargeted f first ∷ laid f nothing rest) e refl
    ∙ ap (λ (l : Line). Some (retargeted f l)) same
kept-at f pre r at (Exchanged first lead ∷ rest) e (suc (suc i)) line h =
    ap (λ l. slice_get l (number nothing (at + needed r lead.inst + 2) rest i)) (pair_before f pre r first lead rest)
    ∙ kept-at f (pre ++ pair_lines f r first lead) nothing (at + needed r lead.inst + 2) rest (pair_next f pre r at first lead e) i line h

-- Order

-- the numbers of two lines differ
pub numbers-differ : (r : Recent) (at : ℕ) (bs : List Block) (i j : ℕ) → i < j → j < length (lines_of bs) → number r at bs i ≢ number r at bs j
numbers-differ r at [] i j less h same = omega (arith, h)
numbers-differ r at (Single line target ∷ rest) i zero less h same = omega (arith, less)
numbers-differ r at (Single line target ∷ rest) zero (suc j) less h same =
    omega (arith, same, number-from (after r line.inst) (at + needed r line.inst + 1 + slot line.inst) rest j)
numbers-differ r at (Single line target ∷ rest) (suc i) (suc j) less h same =
    numbers-differ (after r line.inst) (at + needed r line.inst + 1 + slot line.inst) rest i j (omega (arith, less)) (omega (arith, h)) same
numbers-differ r at (Exchanged line lead ∷ rest) i zero less h same = omega (arith, less)
numbers-differ r at (Exchanged line lead ∷ rest) zero (suc zero) less h same = omega (arith, same)
numbers-differ r at (Exchanged line lead ∷ rest) (suc i) (suc zero) less h same = omega (arith, less)
numbers-differ r at (Exchanged line lead ∷ rest) zero (suc (suc j)) less h same =
    omega (arith, same, number-from nothing (at + needed r lead.inst + 2) rest j)
numbers-differ r at (Exchanged line lead ∷ rest) (suc zero) (suc (suc j)) less h same =
    omega (arith, same, number-from nothing (at + needed r lead.inst + 2) rest j)
numbers-differ r at (Exchanged line lead ∷ rest) (suc (suc i)) (suc (suc j)) less h same =
    numbers-differ nothing (at + needed r lead.inst + 2) rest i j (omega (arith, less)) (omega (arith, h)) same

-- the lines before a block have numbers below it
pub number-below : (r : Recent) (at : ℕ) (bs : List Block) (i t : ℕ) → i < t → t < length (lines_of bs) → starts bs t ≡ true →
    number r at bs i < enters r at bs t
number-below r at [] i t less h s = absurd (omega (arith, h))
number-below r at (Single line target ∷ rest) i zero less h s = absurd (omega (arith, less))
number-below r at (Single line target ∷ rest) zero (suc t) less h s =
    omega (arith, enters-from (after r line.inst) (at + needed r line.inst + 1 + slot line.inst) rest t)
number-below r at (Single line target ∷ rest) (suc i) (suc t) less h s =
    number-below (after r line.inst) (at + needed r line.inst + 1 + slot line.inst) rest i t (omega (arith, less)) (omega (arith, h)) s
number-below r at (Exchanged line lead ∷ rest) i zero less h s = absurd (omega (arith, less))
number-below r at (Exchanged line lead ∷ rest) i (suc zero) less h s = absurd (let z : false ≡ true = s in cc)
number-below r at (Exchanged line lead ∷ rest) zero (suc (suc t)) less h s =
    omega (arith, enters-from nothing (at + needed r lead.inst + 2) rest t)
number-below r at (Exchanged line lead ∷ rest) (suc zero) (suc (suc t)) less h s =
    omega (arith, enters-from nothing (at + needed r lead.inst + 2) rest t)
number-below r at (Exchanged line lead ∷ rest) (suc (suc i)) (suc (suc t)) less h s =
    number-below nothing (at + needed r lead.inst + 2) rest i t (omega (arith, less)) (omega (arith, h)) s

-- the line after a call is entered behind the call and its slot
pub call-enters : (r : Recent) (at : ℕ) (bs : List Block) (i : ℕ) → AllMove bs → is_at links (lines_of bs) i ≡ true →
    enters r at bs (suc i) ≡ number r at bs i + 2
call-enters r at [] i all h = absurd (let z : false ≡ true = h in cc)
call-enters r at (Single line target ∷ rest) zero all h = call-next r line (at + needed r line.inst) rest h
call-enters r at (Single line target ∷ rest) (suc i) all h =
    call-enters (after r line.inst) (at + needed r line.inst + 1 + slot line.inst) rest i all h
call-enters r at (Exchanged line lead ∷ rest) zero all h =
    absurd (let m : Moves line.inst lead.inst = moves_by line.inst lead.inst all.0 in
    let z : true ≡ false = sym (ap (λ x. x || loads line.inst) (calls_branch line.inst h)) ∙ m.quick in cc)
call-enters r at (Exchanged line lead ∷ rest) (suc zero) all h = enters-idle (at + needed r lead.inst + 2) rest
call-enters r at (Exchanged line lead ∷ rest) (suc (suc i)) all h = call-enters nothing (at + needed r lead.inst + 2) rest i all.1 h

-- Steps between lines

needed-two : (w l b a : Bool) →
    (let n : ℕ = (if w then (if l then 2 else if b then 1 else 0) else 0) in (if n == 0 then (if a then 1 else 0) else n) ≤ 2)
needed-two false l b true = omega arith
needed-two false l b false = omega arith
needed-two true true b a = omega arith
needed-two true false true a = omega arith
needed-two true false false true = omega arith
needed-two true false false false = omega arith

enters-first : (r : Recent) (at : ℕ) (bs : List Block) → enters r at bs 0 ≤ at + 2
enters-first r at [] = omega arith
enters-first r at (Single line target ∷ rest) = omega (arith, needed-two (writes_pair line.inst) r.last r.before (awaits r line.inst))
enters-first r at (Exchanged line lead ∷ rest) = omega (arith, needed-two (writes_pair lead.inst) r.last r.before (awaits r lead.inst))

slot-one : (i : Inst) → slot i ≤ 1
slot-one i = go (branches i)
  where
    go : (b : Bool) → (if b then 1 else 0) ≤ 1
    go true = omega arith
    go false = omega arith

pub enters-near : (r : Recent) (at : ℕ) (bs : List Block) (i : ℕ) → enters r at bs (suc i) ≤ enters r at bs i + 4
enters-near r at [] i = omega arith
enters-near r at (Single line target ∷ rest) zero =
    omega (arith, enters-first (after r line.inst) (at + needed r line.inst + 1 + slot line.inst) rest, slot-one line.inst)
enters-near r at (Single line target ∷ rest) (suc i) =
    enters-near (after r line.inst) (at + needed r line.inst + 1 + slot line.inst) rest i
enters-near r at (Exchanged line lead ∷ rest) zero = omega arith
enters-near r at (Exchanged line lead ∷ rest) (suc zero) = omega (arith, enters-first nothing (at + needed r lead.inst + 2) rest)
enters-near r at (Exchanged line lead ∷ rest) (suc (suc i)) = enters-near nothing (at + needed r lead.inst + 2) rest i

pub starts-first : (bs : List Block) → starts bs 0 ≡ true
starts-first [] = refl
starts-first (Single line target ∷ rest) = refl
starts-first (Exchanged line lead ∷ rest) = refl

-- a line that begins no block is entered where the one before it is
pub starts-least : (r : Recent) (at : ℕ) (bs : List Block) (i : ℕ) → starts bs i ≡ false → (j : ℕ) × (i ≡ suc j) × (enters r at bs j ≡ enters r at bs i)
starts-least r at [] i h = absurd (let z : true ≡ false = h in cc)
starts-least r at (Single line target ∷ rest) zero h = absurd (let z : true ≡ false = h in cc)
starts-least r at (Single line target ∷ rest) (suc i) h =
    let (j, next, same) = starts-least (after r line.inst) (at + needed r line.inst + 1 + slot line.inst) rest i h in
    (suc j, ap suc next, same)
starts-least r at (Exchanged line lead ∷ rest) zero h = absurd (let z : true ≡ false = h in cc)
starts-least r at (Exchanged line lead ∷ rest) (suc zero) h = (0, refl, refl)
starts-least r at (Exchanged line lead ∷ rest) (suc (suc i)) h =
    let (j, next, same) = starts-least nothing (at + needed r lead.inst + 2) rest i h in
    (suc (suc j), ap (λ n. suc (suc n)) next, same)
