-- All added lines of an answer.
use Rattle.std.proofs.Common.{ℕ, suc, ◌+◌, ◌==◌, ◌≡◌, ◌≢◌, inl, inr, ◌≤◌, ◌<◌, ◌||◌, ◌&&◌, nat_lt, Bool, true, false, Some, refl, sym, ap, ◌∙◌, subst, arith, if◌then◌else◌, List, [], ◌∷◌, ◌++◌, length, replicate, slice_get, slice_index, length-append}
use Rattle.std.proofs.lemmas.List.{length-replicate}
use Rattle.std.proofs.lemmas.Bool.Decides.{nat_tests}
use Rattle.p9_r3k.specs.declared.inst.Inst.{Inst}
use Rattle.p9_r3k.specs.declared.lines.Line.{Line}
use Rattle.p9_r3k.specs.Effects.{reads_pair, writes_pair, branches}
use Rattle.p9_r3k.specs.Uses.{written, loads, delays}
use Rattle.p9_r3k.specs.Delayed.{noop}
use Rattle.p9_r3k.proofs.Doing.{loads_are_no_branches}
use Rattle.p9_slot.specs.declared.placing.Recent.{Recent}
use Rattle.p9_slot.specs.declared.blocks.Block.{Block}
use Rattle.p9_slot.specs.declared.blocks.Block.TheVariants.{Single, Exchanged}
use Rattle.p9_slot.specs.Schedule.{is_at, line_is, retargeted}
use Rattle.p9_slot.specs.Blocks.{is_awaited, first_of}
use Rattle.p9_slot.specs.Justified.{IsTarget, NoneMoves}
use Rattle.p9_slot.specs.Placing.{nothing, needed, slot, after, laid, lines_of}
use Rattle.p9_slot.proofs.Lists.{get_behind}
use Rattle.p9_slot.proofs.Moving.{moves_by, AllMove}
use Rattle.p9_slot.proofs.Entering.{enters, after-branch, behind_noops, noops_before, in_slot, single_lines, pair_lines, single_before, pair_before, single_next, pair_next}
use Rattle.p9_slot.proofs.Numbers.{number}
use Rattle.p9_slot.proofs.Settled.{IsSettled, IsMarked}
use Rattle.p9_slot.proofs.Adding.{AddedAt, Stuck, Context, Suffix, gap-added, gap-shown, stuck-single, context-branch, context-pair, context-plain}

-- The last blocks without their first

suffix-single : (old new : List Line) (moved : List ℕ) (entered : ℕ → ℕ) (r : Recent) (at i : ℕ) (line : Line) (target : Bool) (rest : List Block) →
    Suffix old new moved entered r at i (Single line target ∷ rest) →
    Suffix old new moved entered (after r line.inst) (at + needed r line.inst + 1 + slot line.inst) (i + 1) rest
suffix-single old new moved entered r at i line target rest s = record {
  numbers = λ j h. ap (slice_index moved) (let z : i + 1 + j ≡ i + suc j = omega arith in z) ∙ s.numbers (suc j) (omega (arith, h));
  lines = λ j. ap (slice_get old) (let z : i + 1 + j ≡ i + suc j = omega arith in z) ∙ s.lines (suc j);
  earlier = λ j h. by_side j h (j == i) refl;
  entries = λ j. ap entered (let z : i + 1 + j ≡ i + suc j = omega arith in z) ∙ s.entries (suc j);
  count = omega (arith, s.count);
  moved_count = s.moved_count;
}
  where
    by_side : (j : ℕ) → j < i + 1 → (b : Bool) → (j == i) ≡ b → slice_index moved j < at + needed r line.inst + 1 + slot line.inst
    by_side j h true e =
        let same : j ≡ i + 0 = (let z : j ≡ i = grind (arith, nat_tests) in omega (arith, z)) in
        omega (arith, ap (slice_index moved) same, s.numbers 0 (omega arith))
    by_side j h false e = (let z : j ≢ i = grind (arith, nat_tests) in omega (arith, s.earlier j (omega (arith, h, z))))

suffix-pair : (old new : List Line) (moved : List ℕ) (entered : ℕ → ℕ) (r : Recent) (at i : ℕ) (line lead : Line) (rest : List Block) →
    Suffix old new moved entered r at i (Exchanged line lead ∷ rest) →
    Suffix old new moved entered nothing (at + needed r lead.inst + 2) (i + 1 + 1) rest
suffix-pair old new moved entered r at i line lead rest s = record {
  numbers = λ j h. ap (slice_index moved) (let z : i + 1 + 1 + j ≡ i + suc (suc j) = omega arith in z) ∙ s.numbers (suc (suc j)) (omega (arith, h));
  lines = λ j. ap (slice_get old) (let z : i + 1 + 1 + j ≡ i + suc (suc j) = omega arith in z) ∙ s.lines (suc (suc j));
  earlier = λ j h. by_first j h (j == i) refl;
  entries = λ j. ap entered (let z : i + 1 + 1 + j ≡ i + suc (suc j) = omega arith in z) ∙ s.entries (suc (suc j));
  count = omega (arith, s.count);
  moved_count = s.moved_count;
}
  where
    by_second : (j : ℕ) → j < i + 1 + 1 → j ≢ i → (b : Bool) → (j == i + 1) ≡ b → slice_index moved j < at + needed r lead.inst + 2
    by_second j h apart true e =
        let same : j ≡ i + 1 = grind (arith, nat_tests) in
        omega (arith, ap (slice_index moved) same, s.numbers 1 (omega arith))
    by_second j h apart false e =
        (let z : j ≢ i + 1 = grind (arith, nat_tests) in omega (arith, s.earlier j (omega (arith, h, z, apart))))

    by_first : (j : ℕ) → j < i + 1 + 1 → (b : Bool) → (j == i) ≡ b → slice_index moved j < at + needed r lead.inst + 2
    by_first j h true e =
        let same : j ≡ i + 0 = (let z : j ≡ i = grind (arith, nat_tests) in omega (arith, z)) in
        omega (arith, ap (slice_index moved) same, s.numbers 0 (omega arith))
    by_first j h false e = by_second j h (let z : j ≢ i = grind (arith, nat_tests) in z) (j == i + 1) refl

-- The context behind a line that stands alone

context-single : (f : ℕ → ℕ) (pre old new : List Line) (moved : List ℕ) (named : ℕ → Bool) (entered : ℕ → ℕ) (r : Recent) (at i : ℕ) (line : Line) (target : Bool) (rest : List Block) →
    new ≡ pre ++ laid f r (Single line target ∷ rest) → length pre ≡ at →
    Suffix old new moved entered r at i (Single line target ∷ rest) → Context old new moved r at (Single line target ∷ rest) →
    IsSettled (Single line target ∷ rest) → IsMarked named i (Single line target ∷ rest) → ((t : ℕ) → named t ≡ true → IsTarget new (entered t)) →
    Context old new moved (after r line.inst) (at + needed r line.inst + 1 + slot line.inst) rest
context-single f pre old new moved named entered r at i line target rest laid_out e s c settled marked all =
    go (branches line.inst) refl
  where
    n : ℕ
    n = needed r line.inst

    more : List Line
    more = replicate (slot line.inst) noop ++ laid f (after r line.inst) rest

    here : slice_get new (at + n) ≡ Some (retargeted f line)
    here = ap (λ l. slice_get l (at + n)) laid_out ∙ behind_noops pre n at (at + n) (retargeted f line) more e refl

    noops : (p : ℕ) → at ≤ p → p < at + n → slice_get new p ≡ Some noop
    noops p from to = ap (λ l. slice_get l p) laid_out ∙ noops_before pre n at p (retargeted f line ∷ more) e from to

    old_is : is_at delays old i ≡ delays line.inst
    old_is = ap (λ o. line_is delays o) (ap (slice_get old) (let z : i ≡ i + 0 = omega arith in z) ∙ s.lines 0)

    number_is : slice_index moved i ≡ at + n
    number_is = ap (slice_index moved) (let z : i ≡ i + 0 = omega arith in z) ∙ s.numbers 0 (omega arith)

    go : (b : Bool) → branches line.inst ≡ b → Context old new moved (after r line.inst) (at + n + 1 + slot line.inst) rest
    go true t =
        let one : slot line.inst ≡ 1 = ap (λ b. if b then 1 else 0) t in
        let there : slice_get new (at + n + 1) ≡ Some noop =
        ap (λ l. slice_get l (at + n + 1)) laid_out ∙ in_slot f pre r at line target rest (at + n + 1) e (omega arith) (omega (arith, one)) in
        subst (λ k. Context old new moved (after r line.inst) k rest) (let z : suc (at + n + 1) ≡ at + n + 1 + slot line.inst = omega (arith, one) in z)
        (subst (λ (q : Recent). Context old new moved q (suc (at + n + 1)) rest) (sym (after-branch r line.inst t))
        (context-branch old new moved (at + n + 1) rest there))
    go false t =
        let none : slot line.inst ≡ 0 = ap (λ b. if b then 1 else 0) t in
        let q : Recent = record { last = reads_pair line.inst; before = r.last && (needed r line.inst == 0); loaded = if loads line.inst then written line.inst else 0 } in
        let same : after r line.inst ≡ q = ap (λ (b : Bool). if b then nothing else q) t in
        let place : suc (at + n) ≡ at + n + 1 + slot line.inst = omega (arith, none) in
        subst (λ k. Context old new moved (after r line.inst) k rest) place
        (subst (λ (p : Recent). Context old new moved p (suc (at + n)) rest) (sym same)
        (context-plain f old new moved named entered r at i line target rest c noops here old_is number_is settled.0 marked.1 all
        (λ b aim last h idle. next b aim last h (ap (λ (p : Recent). needed p b.inst) same ∙ idle) none)))
      where
        next : (b : Line) (aim : Bool) (last : List Block) → rest ≡ Single b aim ∷ last → needed (after r line.inst) b.inst ≡ 0 → slot line.inst ≡ 0 →
            (slice_get new (suc (at + n)) ≡ Some (retargeted f b)) × (entered (i + 1) ≡ suc (at + n))
        next b aim last h idle none =
            let q : Recent = after r line.inst in
            let place : ℕ = at + n + 1 + slot line.inst in
            let shape : new ≡ (pre ++ single_lines f r line) ++ laid f q (Single b aim ∷ last) =
            laid_out ∙ (single_before f pre r line target rest ∙ ap (λ l. (pre ++ single_lines f r line) ++ laid f q l) h) in
            let tail : List Line = replicate (slot b.inst) noop ++ laid f (after q b.inst) last in
            let found : slice_get new (suc (at + n)) ≡ Some (retargeted f b) =
            ap (λ l. slice_get l (suc (at + n))) shape
            ∙ behind_noops (pre ++ single_lines f r line) (needed q b.inst) place (suc (at + n)) (retargeted f b) tail
            (single_next f pre r at line e) (omega (arith, idle, none)) in
            let entry : enters q place rest 0 ≡ place + needed q b.inst = ap (λ l. enters q place l 0) h in
            (found, ap entered (let z : i + 1 ≡ i + suc 0 = omega arith in z) ∙ (s.entries 1 ∙ omega (arith, entry, idle, none)))

-- All blocks

pub added : (f : ℕ → ℕ) (pre old new : List Line) (moved : List ℕ) (named : ℕ → Bool) (entered : ℕ → ℕ) (r : Recent) (at i : ℕ) (bs : List Block) →
    new ≡ pre ++ laid f r bs → length pre ≡ at →
    Suffix old new moved entered r at i bs → Context old new moved r at bs →
    IsSettled bs → IsMarked named i bs → AllMove bs → ((t : ℕ) → named t ≡ true → IsTarget new (entered t)) →
    (q : ℕ) → at ≤ q → q < length new → ((j : ℕ) → j < length (lines_of bs) → number r at bs j ≢ q) → AddedAt old new moved q
added f pre old new moved named entered r at i [] laid_out e s c settled marked moves all q from to apart =
    absurd (omega (arith, ap length laid_out, length-append pre [], e, from, to))
added f pre old new moved named entered r at i (Single line target ∷ rest) laid_out e s c settled marked moves all q from to apart =
    by_gap (nat_lt q (at + needed r line.inst)) refl
    (λ past. added f (pre ++ single_lines f r line) old new moved named entered (after r line.inst) (at + needed r line.inst + 1 + slot line.inst) (i + 1) rest
    (laid_out ∙ single_before f pre r line target rest) (single_next f pre r at line e)
    (suffix-single old new moved entered r at i line target rest s)
    (context-single f pre old new moved named entered r at i line target rest laid_out e s c settled marked all)
    settled.1 marked.1 moves all q past to (λ j h. apart (suc j) (omega (arith, h))))
  where
    n : ℕ
    n = needed r line.inst

    more : List Line
    more = replicate (slot line.inst) noop ++ laid f (after r line.inst) rest

    here : slice_get new (at + n) ≡ Some (retargeted f line)
    here = ap (λ l. slice_get l (at + n)) laid_out ∙ behind_noops pre n at (at + n) (retargeted f line) more e refl

    noops : (p : ℕ) → at ≤ p → p < at + n → slice_get new p ≡ Some noop
    noops p from to = ap (λ l. slice_get l p) laid_out ∙ noops_before pre n at p (retargeted f line ∷ more) e from to

    old_line : slice_get old i ≡ Some line
    old_line = ap (slice_get old) (let z : i ≡ i + 0 = omega arith in z) ∙ s.lines 0

    number_is : slice_index moved i ≡ at + n
    number_is = ap (slice_index moved) (let z : i ≡ i + 0 = omega arith in z) ∙ s.numbers 0 (omega arith)

    in_branch : (b : Bool) → branches line.inst ≡ b → at + n < q → q < at + n + 1 + slot line.inst → AddedAt old new moved q
    in_branch false t past before =
        absurd (let none : slot line.inst ≡ 0 = ap (λ b. if b then 1 else 0) t in omega (arith, none, past, before))
    in_branch true t past before =
        let one : slot line.inst ≡ 1 = ap (λ b. if b then 1 else 0) t in
        let behind : q ≡ suc (at + n) = omega (arith, one, past, before) in
        let slow : delays line.inst ≡ true = ap (λ b. b || loads line.inst) t in
        let stuck : Stuck new (at + n) line.inst =
        stuck-single old new moved r at line target rest c noops slow (ap (λ b. b || is_awaited line.inst (first_of rest)) t) in (
          ap (λ l. slice_get l q) laid_out ∙ in_slot f pre r at line target rest q e past before,
          inl (i, ap (λ o. line_is delays o) old_line ∙ slow, omega (arith, behind, number_is)),
          inl (record {
            branch = at + n;
            line = retargeted f line;
            behind = behind;
            here = here;
            branches = t;
            none_moves = only t stuck;
          }),
        )
      where
        only : branches line.inst ≡ true → Stuck new (at + n) line.inst → NoneMoves new (at + n) line.inst
        only t (inl h) = h
        only t (inr h) = absurd (no_load line.inst h.0 t)
          where
            no_load : (x : Inst) → loads x ≡ true → branches x ≡ true → ⊥
            no_load x l b =
                let z : true ≡ false = sym (ap (λ y. y && branches x) l ∙ b) ∙ loads_are_no_branches x in cc

    by_slot : (b : Bool) → nat_lt q (at + n + 1 + slot line.inst) ≡ b → at + n ≤ q → (at + n + 1 + slot line.inst ≤ q → AddedAt old new moved q) → AddedAt old new moved q
    by_slot true t past later =
        let other : at + n ≢ q = apart 0 (omega arith) in
        in_branch (branches line.inst) refl (omega (arith, past, other)) (grind (arith, nat_tests))
    by_slot false t past later = later (grind (arith, nat_tests))

    by_gap : (b : Bool) → nat_lt q (at + n) ≡ b → (at + n + 1 + slot line.inst ≤ q → AddedAt old new moved q) → AddedAt old new moved q
    by_gap true t later =
        let below : q < at + n = grind (arith, nat_tests) in
        gap-shown old new moved r at i (Single line target ∷ rest) (retargeted f line) c refl (ap (λ o. line_is writes_pair o) old_line) number_is here q from below
        (λ p lo hi. gap-added old new moved entered r at i (Single line target ∷ rest) s p lo hi) (noops q from below)
    by_gap false t later = by_slot (nat_lt q (at + n + 1 + slot line.inst)) refl (grind (arith, nat_tests)) later
added f pre old new moved named entered r at i (Exchanged line lead ∷ rest) laid_out e s c settled marked moves all q from to apart =
    by_gap (nat_lt q (at + needed r lead.inst)) refl
    (λ past. added f (pre ++ pair_lines f r line lead) old new moved named entered nothing (at + needed r lead.inst + 2) (i + 1 + 1) rest
    (laid_out ∙ pair_before f pre r line lead rest) (pair_next f pre r at line lead e)
    (suffix-pair old new moved entered r at i line lead rest s)
    (subst (λ k. Context old new moved nothing k rest) (let z : suc (suc (at + needed r lead.inst)) ≡ at + needed r lead.inst + 2 = omega arith in z)
    (context-pair f old new moved (at + needed r lead.inst) line lead rest first second (moves_by line.inst lead.inst moves.0).delayed settled.0))
    settled.1 marked moves.1 all q past to (λ j h. apart (suc (suc j)) (omega (arith, h))))
  where
    n : ℕ
    n = needed r lead.inst

    first : slice_get new (at + n) ≡ Some (retargeted f lead)
    first = ap (λ l. slice_get l (at + n)) laid_out ∙ behind_noops pre n at (at + n) (retargeted f lead) (retargeted f line ∷ laid f nothing rest) e refl

    second : slice_get new (suc (at + n)) ≡ Some (retargeted f line)
    second =
        ap (λ l. slice_get l (suc (at + n))) laid_out
        ∙ (get_behind pre (laid f r (Exchanged line lead ∷ rest)) at (n + 1) (suc (at + n)) e (omega arith)
        ∙ get_behind (replicate n noop) (retargeted f lead ∷ (retargeted f line ∷ laid f nothing rest)) n 1 (n + 1) (length-replicate n noop) (omega arith))

    noops : (p : ℕ) → at ≤ p → p < at + n → slice_get new p ≡ Some noop
    noops p from to = ap (λ l. slice_get l p) laid_out ∙ noops_before pre n at p (retargeted f lead ∷ (retargeted f line ∷ laid f nothing rest)) e from to

    old_lead : slice_get old (i + 1) ≡ Some lead
    old_lead = s.lines 1

    number_is : slice_index moved (i + 1) ≡ at + n
    number_is = s.numbers 1 (omega arith)

    by_gap : (b : Bool) → nat_lt q (at + n) ≡ b → (at + n + 2 ≤ q → AddedAt old new moved q) → AddedAt old new moved q
    by_gap true t later =
        let below : q < at + n = grind (arith, nat_tests) in
        gap-shown old new moved r at (i + 1) (Exchanged line lead ∷ rest) (retargeted f lead) c refl (ap (λ o. line_is writes_pair o) old_lead) number_is first q from below
        (λ p lo hi. gap-added old new moved entered r at i (Exchanged line lead ∷ rest) s p lo hi) (noops q from below)
    by_gap false t later =
        let past : at + n ≤ q = grind (arith, nat_tests) in
        let one : at + n ≢ q = apart 1 (omega arith) in
        let two : at + n + 1 ≢ q = apart 0 (omega arith) in
        later (omega (arith, past, one, two))
