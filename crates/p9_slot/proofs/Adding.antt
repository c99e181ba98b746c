-- Each added line is a no-op, where one may be, and justified.
use Rattle.std.proofs.Common.{ℕ, zero, suc, ◌+◌, ◌-◌, ◌==◌, ◌≡◌, ◌≢◌, ◌⊎◌, inl, inr, ◌≤◌, ◌<◌, ◌||◌, ◌&&◌, nat_lt, Bool, true, false, not, Some, refl, sym, ap, ◌∙◌, subst, arith, if◌then◌else◌, List, [], ◌∷◌, length, slice_get, slice_index}
use Rattle.std.proofs.lemmas.Option.{slice_get_within, get_or_from_slice_get}
use Rattle.std.proofs.lemmas.Bool.Decides.{nat_tests}
use Rattle.p9_r3k.specs.declared.inst.Inst.{Inst}
use Rattle.p9_r3k.specs.declared.lines.Line.{Line}
use Rattle.p9_r3k.specs.Effects.{reads, reads_pair, writes_pair, branches}
use Rattle.p9_r3k.specs.Uses.{written, loads, stores, delays}
use Rattle.p9_r3k.specs.Delayed.{noop}
use Rattle.p9_slot.specs.declared.placing.Recent.{Recent}
use Rattle.p9_slot.specs.declared.blocks.Block.{Block}
use Rattle.p9_slot.specs.declared.blocks.Block.TheVariants.{Single, Exchanged}
use Rattle.p9_slot.specs.Schedule.{is_at, line_is, retargeted, IsAdded, IsInDelay, IsBeforeWriter, IsSecondBeforeWriter}
use Rattle.p9_slot.specs.Blocks.{is_awaited, first_of}
use Rattle.p9_slot.specs.Justified.{IsTarget, IsInSlot, IsBehindLoad, NoneMoves, PartsPair, IsJustified}
use Rattle.p9_slot.specs.Placing.{nothing, awaits, needed, slot, after, lines_of}
use Rattle.p9_slot.proofs.Moving.{both}
use Rattle.p9_slot.proofs.Entering.{enters}
use Rattle.p9_slot.proofs.Numbers.{number, number-from}
use Rattle.p9_slot.proofs.Settled.{KeepsBefore, IsMarked, Reason, aimed_at, fixed, depends, stored, reason}

-- What is shown of an added line

abbrev pub AddedAt : (old new : List Line) (moved : List ℕ) (q : ℕ) → Type 0
AddedAt old new moved q =
    (slice_get new q ≡ Some noop)
    × (IsInDelay old moved q ⊎ (IsBeforeWriter old moved q ⊎ IsSecondBeforeWriter old moved q))
    × IsJustified new q

-- no line can move behind b, which is new line p; a store may not move behind a load
abbrev pub Stuck : List Line → ℕ → Inst → Type 0
Stuck new p b = NoneMoves new p b ⊎ ((loads b ≡ true) × (q : ℕ) × (p ≡ suc q) × (is_at stores new q ≡ true))

-- new line `at` comes directly behind a load that the next line awaits
pub record LoadBefore (old new : List Line) (moved : List ℕ) (at : ℕ) (x : Inst) : Type 0 where
  pub load : ℕ
  pub line : Line
  pub behind : at ≡ suc load
  pub here : slice_get new load ≡ Some line
  pub is_load : loads line.inst ≡ true
  pub awaited : is_awaited line.inst (Some x) ≡ true
  pub stuck : Stuck new load line.inst
  pub delay : IsInDelay old moved at

-- what stands before new line `at`, where blocks begin
pub record Context (old new : List Line) (moved : List ℕ) (r : Recent) (at : ℕ) (bs : List Block) : Type 0 where
  pub last : r.last ≡ true → (p : ℕ) × (at ≡ suc p) × (is_at reads_pair new p ≡ true)
  pub before : r.before ≡ true → (p : ℕ) × (at ≡ suc (suc p)) × (is_at reads_pair new p ≡ true)
  pub loaded : (x : Inst) → first_of bs ≡ Some x → awaits r x ≡ true → LoadBefore old new moved at x
  pub stuck : (b : Line) (target : Bool) (rest : List Block) → bs ≡ Single b target ∷ rest → needed r b.inst ≡ 0 → delays b.inst ≡ true →
      (branches b.inst || is_awaited b.inst (first_of rest)) ≡ true → Stuck new at b.inst

-- blocks are the last ones, from old line i and new line `at` on
pub record Suffix (old new : List Line) (moved : List ℕ) (entered : ℕ → ℕ) (r : Recent) (at i : ℕ) (bs : List Block) : Type 0 where
  pub numbers : (j : ℕ) → j < length (lines_of bs) → slice_index moved (i + j) ≡ number r at bs j
  pub lines : (j : ℕ) → slice_get old (i + j) ≡ slice_get (lines_of bs) j
  pub earlier : (j : ℕ) → j < i → slice_index moved j < at
  pub entries : (j : ℕ) → entered (i + j) ≡ enters r at bs j
  pub count : length old ≡ i + length (lines_of bs)
  pub moved_count : length moved ≡ length old

-- Gaps

-- no line has a number in the gap before a block
pub gap-added : (old new : List Line) (moved : List ℕ) (entered : ℕ → ℕ) (r : Recent) (at i : ℕ) (bs : List Block) → Suffix old new moved entered r at i bs →
    (q : ℕ) → at ≤ q → q < enters r at bs 0 → IsAdded moved q
gap-added old new moved entered r at i bs s q from to j there = by_side (nat_lt j i) refl
  where
    number-behind : (r : Recent) (at : ℕ) (bs : List Block) (j : ℕ) → j < length (lines_of bs) → enters r at bs 0 ≤ number r at bs j
    number-behind r at [] j h = absurd (omega (arith, h))
    number-behind r at (Single line target ∷ rest) zero h = omega arith
    number-behind r at (Single line target ∷ rest) (suc j) h =
        omega (arith, number-from (after r line.inst) (at + needed r line.inst + 1 + slot line.inst) rest j)
    number-behind r at (Exchanged line lead ∷ rest) zero h = omega arith
    number-behind r at (Exchanged line lead ∷ rest) (suc zero) h = omega arith
    number-behind r at (Exchanged line lead ∷ rest) (suc (suc j)) h =
        omega (arith, number-from nothing (at + needed r lead.inst + 2) rest j)

    inside : j < length moved
    inside = slice_get_within moved j q there

    here : slice_index moved j ≡ q
    here = get_or_from_slice_get moved j q 0 there

    by_side : (b : Bool) → nat_lt j i ≡ b → ⊥
    by_side true e = omega (arith, s.earlier j (grind (arith, nat_tests)), here, from)
    by_side false e =
        let past : i ≤ j = grind (arith, nat_tests) in
        let within : j - i < length (lines_of bs) = omega (arith, inside, s.moved_count, s.count, past) in
        let same : slice_index moved (i + (j - i)) ≡ slice_index moved j = ap (slice_index moved) (omega (arith, past)) in
        omega (arith, s.numbers (j - i) within, same, here, to, number-behind r at bs (j - i) within)

-- the no-ops in the gap before x, which is new line at + n and old line ix
pub gap-shown : (old new : List Line) (moved : List ℕ) (r : Recent) (at ix : ℕ) (bs : List Block) (x : Line) → Context old new moved r at bs →
    first_of bs ≡ Some x.inst → is_at writes_pair old ix ≡ writes_pair x.inst →
    slice_index moved ix ≡ at + needed r x.inst → slice_get new (at + needed r x.inst) ≡ Some x →
    (q : ℕ) → at ≤ q → q < at + needed r x.inst → ((p : ℕ) → at ≤ p → p < at + needed r x.inst → IsAdded moved p) → slice_get new q ≡ Some noop →
    AddedAt old new moved q
gap-shown old new moved r at ix bs x c first writes number here q from to added noop_here =
    go (writes_pair x.inst) refl r.last refl r.before refl (awaits r x.inst) refl number here to added
  where
    awaited : awaits r x.inst ≡ true → slice_index moved ix ≡ at + 1 → slice_get new (at + 1) ≡ Some x → q < at + 1 → AddedAt old new moved q
    awaited ea number here to =
        let l : LoadBefore old new moved at x.inst = c.loaded x.inst first ea in
        let same : q ≡ at = omega (arith, from, to) in
        let stuck : NoneMoves new l.load l.line.inst ⊎ ((p : ℕ) × (l.load ≡ suc p) × (is_at stores new p ≡ true)) = loosen l.load l.line.inst l.stuck in (
          noop_here,
          inl (subst (λ n. IsInDelay old moved n) (sym same) l.delay),
          inr (inl (record {
            load = l.load;
            line = l.line;
            next = x;
            behind = same ∙ l.behind;
            here = l.here;
            loads = l.is_load;
            there = ap (slice_get new) (let z : suc q ≡ at + 1 = omega (arith, same) in z) ∙ here;
            awaited = l.awaited;
            none_moves = stuck;
          })),
        )
      where
        loosen : (p : ℕ) (b : Inst) → Stuck new p b → NoneMoves new p b ⊎ ((q : ℕ) × (p ≡ suc q) × (is_at stores new q ≡ true))
        loosen p b (inl h) = inl h
        loosen p b (inr h) = inr (h.1, h.2, h.3)

    go : (w : Bool) → writes_pair x.inst ≡ w → (l : Bool) → r.last ≡ l → (b : Bool) → r.before ≡ b → (a : Bool) → awaits r x.inst ≡ a →
        (let k : ℕ = (if w then (if l then 2 else if b then 1 else 0) else 0) in
        let n : ℕ = (if k == 0 then (if a then 1 else 0) else k) in
        slice_index moved ix ≡ at + n → slice_get new (at + n) ≡ Some x → q < at + n → ((p : ℕ) → at ≤ p → p < at + n → IsAdded moved p) →
        AddedAt old new moved q)
    go false ew l el b eb true ea number here to added = awaited ea number here to
    go false ew l el b eb false ea number here to added = absurd (omega (arith, from, to))
    go true ew true el b eb a ea number here to added =
        let (p, e, reader) = c.last el in
        let writer : is_at writes_pair new (at + 2) ≡ true = ap (λ o. line_is writes_pair o) here ∙ ew in
        let pair : PartsPair new q = record {
          reader = p;
          writer = at + 2;
          after = omega (arith, e, from);
          before = to;
          near = omega (arith, e);
          reads = reader;
          writes = writer;
        } in
        (noop_here, inr (by_place (q == at) refl number added), inr (inr pair))
      where
        by_place : (z : Bool) → (q == at) ≡ z → slice_index moved ix ≡ at + 2 → ((p : ℕ) → at ≤ p → p < at + 2 → IsAdded moved p) →
            IsBeforeWriter old moved q ⊎ IsSecondBeforeWriter old moved q
        by_place true z number added =
            let same : q ≡ at = grind (arith, nat_tests) in
            inr (ix, writes ∙ ew, omega (arith, number, same), added (q + 1) (omega (arith, same)) (omega (arith, same)))
        by_place false z number added =
            let apart : q ≢ at = grind (arith, nat_tests) in
            inl (ix, writes ∙ ew, omega (arith, number, apart, from, to))
    go true ew false el true eb a ea number here to added =
        let (p, e, reader) = c.before eb in
        let writer : is_at writes_pair new (at + 1) ≡ true = ap (λ o. line_is writes_pair o) here ∙ ew in (
          noop_here,
          inr (inl (ix, writes ∙ ew, omega (arith, number, from, to))),
          inr (inr (record {
            reader = p;
            writer = at + 1;
            after = omega (arith, e, from);
            before = to;
            near = omega (arith, e);
            reads = reader;
            writes = writer;
          })),
        )
    go true ew false el false eb true ea number here to added = awaited ea number here to
    go true ew false el false eb false ea number here to added = absurd (omega (arith, from, to))

-- A branch, jump or load behind a no-op

stuck-noop : (new : List Line) (p : ℕ) (b : Inst) → slice_get new p ≡ Some noop → Stuck new (suc p) b
stuck-noop new p b h = inl (inr (inr (p, refl, record { line = noop; here = h; why = inl refl })))

-- where a line that stands alone is stuck, with the no-ops before it
pub stuck-single : (old new : List Line) (moved : List ℕ) (r : Recent) (at : ℕ) (b : Line) (target : Bool) (rest : List Block) →
    Context old new moved r at (Single b target ∷ rest) → ((q : ℕ) → at ≤ q → q < at + needed r b.inst → slice_get new q ≡ Some noop) →
    delays b.inst ≡ true → (branches b.inst || is_awaited b.inst (first_of rest)) ≡ true → Stuck new (at + needed r b.inst) b.inst
stuck-single old new moved r at b target rest c noops slow wanted = go (needed r b.inst) refl noops
  where
    go : (n : ℕ) → needed r b.inst ≡ n → ((q : ℕ) → at ≤ q → q < at + n → slice_get new q ≡ Some noop) → Stuck new (at + n) b.inst
    go zero e f = subst (λ k. Stuck new k b.inst) (omega arith) (c.stuck b target rest refl e slow wanted)
    go (suc n) e f =
        subst (λ k. Stuck new k b.inst) (let z : suc (at + n) ≡ at + suc n = omega arith in z)
        (stuck-noop new (at + n) b.inst (f (at + n) (omega arith) (omega arith)))

-- Contexts of what comes behind a block

-- a target that a block begins with
is_target-at : (f : ℕ → ℕ) (new : List Line) (named : ℕ → Bool) (entered : ℕ → ℕ) (i at : ℕ) (b : Line) →
    ((t : ℕ) → named t ≡ true → IsTarget new (entered t)) → slice_get new at ≡ Some (retargeted f b) → entered i ≡ at →
    (b.is_target || named i) ≡ true → IsTarget new at
is_target-at f new named entered i at b all here place h = go b.is_target refl h
  where
    go : (t : Bool) → b.is_target ≡ t → (t || named i) ≡ true → IsTarget new at
    go true e g = inl (retargeted f b, here, e)
    go false e g = subst (λ n. IsTarget new n) place (all i g)

pub context-branch : (old new : List Line) (moved : List ℕ) (at : ℕ) (bs : List Block) → slice_get new at ≡ Some noop → Context old new moved nothing (suc at) bs
context-branch old new moved at bs h = record {
  last = λ e. absurd (let z : false ≡ true = e in cc);
  before = λ e. absurd (let z : false ≡ true = e in cc);
  loaded = λ x first e. absurd (let z : false ≡ true = e in cc);
  stuck = λ b target rest e none slow wanted. stuck-noop new at b.inst h;
}

pub context-pair : (f : ℕ → ℕ) (old new : List Line) (moved : List ℕ) (at : ℕ) (line lead : Line) (bs : List Block) →
    slice_get new at ≡ Some (retargeted f lead) → slice_get new (suc at) ≡ Some (retargeted f line) → delays lead.inst ≡ true →
    (branches lead.inst || is_awaited lead.inst (first_of bs)) ≡ true → Context old new moved nothing (suc (suc at)) bs
context-pair f old new moved at line lead bs first second slow wanted = record {
  last = λ e. absurd (let z : false ≡ true = e in cc);
  before = λ e. absurd (let z : false ≡ true = e in cc);
  loaded = λ x first e. absurd (let z : false ≡ true = e in cc);
  stuck = λ b target rest e none late asked. inl (inr (inr (
    suc at,
    refl,
    record {
      line = retargeted f line;
      here = second;
      why = inr (inr (why b target rest e (branches lead.inst) refl slow wanted));
    },
  )));
}
  where
    why : (b : Line) (target : Bool) (rest : List Block) → bs ≡ Single b target ∷ rest → (p : Bool) → branches lead.inst ≡ p →
        delays lead.inst ≡ true → (branches lead.inst || is_awaited lead.inst (first_of bs)) ≡ true →
        IsInSlot new (suc at) ⊎ IsBehindLoad new (suc at) b.inst
    why b target rest e true t slow wanted = inl (at, refl, ap (λ o. line_is branches o) first ∙ t)
    why b target rest e false t slow wanted =
        inr (
          at,
          retargeted f lead,
          refl,
          first,
          sym (ap (λ x. x || loads lead.inst) t) ∙ slow,
          ap (λ l. is_awaited lead.inst (first_of l)) (sym e) ∙ (sym (ap (λ x. x || is_awaited lead.inst (first_of bs)) t) ∙ wanted),
        )

pub context-plain : (f : ℕ → ℕ) (old new : List Line) (moved : List ℕ) (named : ℕ → Bool) (entered : ℕ → ℕ) (r : Recent) (at i : ℕ) (line : Line) (target : Bool) (rest : List Block) →
    (let m : ℕ = at + needed r line.inst in
    let q : Recent = record { last = reads_pair line.inst; before = r.last && (needed r line.inst == 0); loaded = if loads line.inst then written line.inst else 0 } in
    Context old new moved r at (Single line target ∷ rest) →
    ((p : ℕ) → at ≤ p → p < m → slice_get new p ≡ Some noop) → slice_get new m ≡ Some (retargeted f line) →
    is_at delays old i ≡ delays line.inst → slice_index moved i ≡ m →
    KeepsBefore line.inst rest → IsMarked named (i + 1) rest →
    ((t : ℕ) → named t ≡ true → IsTarget new (entered t)) →
    ((b : Line) (aim : Bool) (more : List Block) → rest ≡ Single b aim ∷ more → needed q b.inst ≡ 0 →
    (slice_get new (suc m) ≡ Some (retargeted f b)) × (entered (i + 1) ≡ suc m)) →
    Context old new moved q (suc m) rest)
context-plain f old new moved named entered r at i line target rest c noops here old_is number keeps marked all next = record {
  last = λ e. (at + needed r line.inst, refl, ap (λ o. line_is reads_pair o) here ∙ e);
  before = λ e. before-of (both r.last (needed r line.inst == 0) e);
  loaded = λ x first e. loaded-of x first (loads line.inst) refl e;
  stuck = λ b aim more e none slow wanted. stuck-of b aim more e none slow wanted;
}
  where
    before-of : (r.last ≡ true) × ((needed r line.inst == 0) ≡ true) → (p : ℕ) × (suc (at + needed r line.inst) ≡ suc (suc p)) × (is_at reads_pair new p ≡ true)
    before-of h =
        let (p, e, reader) = c.last h.0 in
        let zero-needed : needed r line.inst ≡ 0 = grind (arith, nat_tests, h.1) in
        (p, omega (arith, e, zero-needed), reader)

    loaded-of : (x : Inst) → first_of rest ≡ Some x → (l : Bool) → loads line.inst ≡ l →
        (let n : ℕ = (if l then written line.inst else 0) in (not (n == 0) && reads x n) ≡ true) →
        LoadBefore old new moved (suc (at + needed r line.inst)) x
    loaded-of x first false t e = absurd (let z : false ≡ true = e in cc)
    loaded-of x first true t e =
        let wanted : is_awaited line.inst (first_of rest) ≡ true = ap (λ o. is_awaited line.inst o) first ∙ e in
        let slow : delays line.inst ≡ true = ap (λ b. branches line.inst || b) t ∙ either (branches line.inst) in
        record {
          load = at + needed r line.inst;
          line = retargeted f line;
          behind = refl;
          here = here;
          is_load = t;
          awaited = e;
          stuck = stuck-single old new moved r at line target rest c noops slow
              (ap (λ b. branches line.inst || b) wanted ∙ either (branches line.inst));
          delay = (i, old_is ∙ slow, omega (arith, number));
        }
      where
        either : (b : Bool) → (b || true) ≡ true
        either true = refl
        either false = refl

    stuck-of : (b : Line) (aim : Bool) (more : List Block) → rest ≡ Single b aim ∷ more →
        (let q : Recent = record { last = reads_pair line.inst; before = r.last && (needed r line.inst == 0); loaded = if loads line.inst then written line.inst else 0 } in
        needed q b.inst ≡ 0 → delays b.inst ≡ true →
        (branches b.inst || is_awaited b.inst (first_of more)) ≡ true → Stuck new (suc (at + needed r line.inst)) b.inst)
    stuck-of b aim more e none slow wanted =
        by_reason (reason line.inst b.inst aim (first_of more) slow wanted (subst (λ l. KeepsBefore line.inst l) e keeps))
      where
        mark : aim ≡ (b.is_target || named (i + 1))
        mark = (subst (λ l. IsMarked named (i + 1) l) e marked).0

        by_reason : Reason line.inst b.inst aim → Stuck new (suc (at + needed r line.inst)) b.inst
        by_reason (aimed_at t) =
            let there : (slice_get new (suc (at + needed r line.inst)) ≡ Some (retargeted f b)) × (entered (i + 1) ≡ suc (at + needed r line.inst)) =
            next b aim more e none in
            inl (inr (inl (is_target-at f new named entered (i + 1) (suc (at + needed r line.inst)) b all there.0 there.1 (sym mark ∙ t))))
        by_reason (fixed t) =
            inl (inr (inr (at + needed r line.inst, refl, record { line = retargeted f line; here = here; why = inl t })))
        by_reason (depends t) =
            inl (inr (inr (at + needed r line.inst, refl, record { line = retargeted f line; here = here; why = inr (inl t) })))
        by_reason (stored l t) = inr (l, at + needed r line.inst, refl, ap (λ o. line_is stores o) here ∙ t)
