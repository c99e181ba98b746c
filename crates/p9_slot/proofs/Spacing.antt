-- How far apart lines are entered.
use Rattle.std.proofs.Common.{ℕ, zero, suc, ◌+◌, ◌==◌, ◌≡◌, ◌≤◌, ◌<◌, ◌||◌, ◌&&◌, Bool, true, false, not, refl, sym, ap, ◌∙◌, arith, if◌then◌else◌, List, [], ◌∷◌, length}
use Rattle.p9_r3k.specs.declared.inst.Inst.{Inst}
use Rattle.p9_r3k.specs.declared.lines.Line.{Line}
use Rattle.p9_r3k.specs.Effects.{reads, reads_pair, writes_pair, branches}
use Rattle.p9_r3k.specs.Uses.{written, loads, delays}
use Rattle.p9_r3k.specs.Delayed.{enter}
use Rattle.p9_r3k.proofs.Doing.{writers_are_quick}
use Rattle.p9_slot.specs.declared.placing.Recent.{Recent}
use Rattle.p9_slot.specs.declared.blocks.Block.{Block}
use Rattle.p9_slot.specs.declared.blocks.Block.TheVariants.{Single, Exchanged}
use Rattle.p9_slot.specs.Schedule.{is_at, most_between, IsSpaced}
use Rattle.p9_slot.specs.Blocks.{is_named}
use Rattle.p9_slot.specs.Placing.{nothing, awaits, needed, slot, after, lines_of}
use Rattle.p9_slot.proofs.Moving.{Moves, moves_by, AllMove}
use Rattle.p9_slot.proofs.Entering.{enters, enters-idle}
use Rattle.p9_slot.proofs.Numbers.{number}
use Rattle.p9_slot.proofs.Choosing.{blocks-move}
use Rattle.p9_slot.proofs.Clauses.{Answer, blocks_of, entered_at, lines-same, lines-count, is-within, moved-index, answer-enter}

-- No-ops before an instruction are for HI and LO, or for a load before it

needed-by : (w l b a : Bool) →
    (let n : ℕ = (if w then (if l then 2 else if b then 1 else 0) else 0) in
    let m : ℕ = (if a then 1 else 0) in
    (if n == 0 then m else n) ≤ m + (if w then 2 else 0))
needed-by false l b true = omega arith
needed-by false l b false = omega arith
needed-by true true b true = omega arith
needed-by true true b false = omega arith
needed-by true false true true = omega arith
needed-by true false true false = omega arith
needed-by true false false true = omega arith
needed-by true false false false = omega arith

abbrev one_if : Bool → ℕ
one_if b = if b then 1 else 0

-- what stands in the delay of an instruction, and what the next one awaits of it, is one no-op at most
awaited-by : (b l : Bool) (w : ℕ) (uses : ℕ → Bool) (last before : Bool) →
    (let q : Recent = if b then nothing else record { last = last; before = before; loaded = if l then w else 0 } in
    one_if b + one_if (not (q.loaded == 0) && uses q.loaded) ≤ one_if (b || l))
awaited-by true l w uses last before = omega arith
awaited-by false false w uses last before = omega arith
awaited-by false true w uses last before = go (not (w == 0) && uses w)
  where
    go : (x : Bool) → 0 + one_if x ≤ 1
    go true = omega arith
    go false = omega arith

awaited : (r : Recent) (c x : Inst) → slot c + one_if (awaits (after r c) x) ≤ one_if (delays c)
awaited r c x = awaited-by (branches c) (loads c) (written c) (reads x) (reads_pair c) (r.last && (needed r c == 0))

-- the no-ops before the first line behind an instruction
first-near : (r : Recent) (c : Inst) (at : ℕ) (rest : List Block) → AllMove rest →
    enters (after r c) (at + 1 + slot c) rest 0 ≤ at + 1 + one_if (delays c) + (if is_at writes_pair (lines_of rest) 0 then 2 else 0)
first-near r c at [] all = omega (arith, awaited r c c)
first-near r c at (Single line target ∷ rest) all =
    let q : Recent = after r c in
    omega (arith, awaited r c line.inst, needed-by (writes_pair line.inst) q.last q.before (awaits q line.inst))
first-near r c at (Exchanged line lead ∷ rest) all =
    let q : Recent = after r c in
    let m : Moves line.inst lead.inst = moves_by line.inst lead.inst all.0 in
    let quiet : writes_pair lead.inst ≡ false = no_writer lead.inst m.delayed in
    let few : needed q lead.inst ≤ one_if (awaits q lead.inst) = few-by (writes_pair lead.inst) quiet q.last q.before (awaits q lead.inst) in
    omega (arith, awaited r c lead.inst, few)
  where
    no_writer : (x : Inst) → delays x ≡ true → writes_pair x ≡ false
    no_writer x h = by_case (writes_pair x) (delays x) (writers_are_quick x) h
      where
        by_case : (w d : Bool) → (w && d) ≡ false → d ≡ true → w ≡ false
        by_case false d q e = refl
        by_case true false q e = absurd (let z : false ≡ true = e in cc)
        by_case true true q e = absurd (let z : true ≡ false = q in cc)

    few-by : (w : Bool) → w ≡ false → (l b a : Bool) →
        (let n : ℕ = (if w then (if l then 2 else if b then 1 else 0) else 0) in (if n == 0 then one_if a else n) ≤ one_if a)
    few-by true e l b a = absurd (let z : true ≡ false = e in cc)
    few-by false e l b a = omega arith

enters-next : (r : Recent) (at : ℕ) (bs : List Block) (i : ℕ) → AllMove bs → i < length (lines_of bs) →
    enters r at bs (suc i) ≤ enters r at bs i + most_between (lines_of bs) i
enters-next r at [] i all h = absurd (omega (arith, h))
enters-next r at (Single line target ∷ rest) zero all h = omega (arith, first-near r line.inst (at + needed r line.inst) rest all)
enters-next r at (Single line target ∷ rest) (suc i) all h =
    enters-next (after r line.inst) (at + needed r line.inst + 1 + slot line.inst) rest i all (omega (arith, h))
enters-next r at (Exchanged line lead ∷ rest) zero all h = omega arith
enters-next r at (Exchanged line lead ∷ rest) (suc zero) all h = go (delays lead.inst) (moves_by line.inst lead.inst all.0).delayed
  where
    go : (d : Bool) → d ≡ true →
        enters nothing (at + needed r lead.inst + 2) rest 0
        ≤ at + needed r lead.inst + (1 + (if d then 1 else 0) + (if is_at writes_pair (lines_of rest) 0 then 2 else 0))
    go true e = omega (arith, enters-idle (at + needed r lead.inst + 2) rest)
    go false e = absurd (let z : false ≡ true = e in cc)
enters-next r at (Exchanged line lead ∷ rest) (suc (suc i)) all h =
    enters-next nothing (at + needed r lead.inst + 2) rest i all.1 (omega (arith, h))

-- what comes behind another has not changed places with the next
number-early : (r : Recent) (at : ℕ) (bs : List Block) (i : ℕ) → AllMove bs → is_at delays (lines_of bs) i ≡ true → number r at bs i ≡ enters r at bs i
number-early r at [] i all h = refl
number-early r at (Single line target ∷ rest) zero all h = refl
number-early r at (Single line target ∷ rest) (suc i) all h = number-early (after r line.inst) (at + needed r line.inst + 1 + slot line.inst) rest i all h
number-early r at (Exchanged line lead ∷ rest) zero all h =
    absurd (let m : Moves line.inst lead.inst = moves_by line.inst lead.inst all.0 in
    let z : true ≡ false = sym h ∙ m.quick in cc)
number-early r at (Exchanged line lead ∷ rest) (suc zero) all h = refl
number-early r at (Exchanged line lead ∷ rest) (suc (suc i)) all h = number-early nothing (at + needed r lead.inst + 2) rest i all.1 h

pub is_spaced : (old new : List Line) (moved : List ℕ) → Answer old new moved → IsSpaced old new moved
is_spaced old new moved h = record {
  first = answer-enter old new moved h 0 ∙ enters-idle 0 (blocks_of old);
  next = λ i within. next_at i within;
  early = λ i slow.
      moved-index old moved i h.numbered (is-within delays old i slow)
      ∙ (number-early nothing 0 (blocks_of old) i (blocks-move (is_named old) 0 old) (ap (λ l. is_at delays l i) (lines-same old) ∙ slow)
      ∙ sym (answer-enter old new moved h i));
}
  where
    next_at : (i : ℕ) → i < length old → enter moved (length new) (suc i) ≤ enter moved (length new) i + most_between old i
    next_at i within =
        let steps : entered_at old (suc i) ≤ entered_at old i + most_between (lines_of (blocks_of old)) i =
        enters-next nothing 0 (blocks_of old) i (blocks-move (is_named old) 0 old) (omega (arith, within, lines-count old)) in
        let same : most_between (lines_of (blocks_of old)) i ≡ most_between old i = ap (λ l. most_between l i) (lines-same old) in
        omega (arith, steps, same, answer-enter old new moved h i, answer-enter old new moved h (suc i))
