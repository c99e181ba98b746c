-- A line of the delayed run that stands alone, with the no-op in its slot, does as the straight machine's step.
use Rattle.std.proofs.Common.{ℕ, zero, suc, ◌+◌, ◌^◌, ◌==◌, ◌≡◌, ◌≢◌, ◌⊎◌, inl, inr, ◌≤◌, ◌<◌, ◌||◌, ◌&&◌, nat_lt, Bool, true, false, Option, Some, None, IsSome, refl, sym, ap, ◌∙◌, subst, arith, if◌then◌else◌, List, length, slice_get}
use Rattle.std.proofs.lemmas.Option.{slice_get_within}
use Rattle.std.proofs.lemmas.Bool.Decides.{nat_tests}
use Rattle.p9_base.specs.Words.{word_sum}
use Rattle.p9_base.specs.declared.halt.Ending.TheVariants.{Running}
use Rattle.p9_base.specs.declared.halt.Effect.{Effect}
use Rattle.p9_base.specs.declared.halt.Effect.TheVariants as effects
use Rattle.p9_base.specs.declared.halt.Asked.{Asked}
use Rattle.p9_base.specs.declared.halt.Asked.TheVariants as asks
use Rattle.p9_base.specs.Core.{Core, stack_start, with_reg}
use Rattle.p9_base.specs.Effects.{advanced}
use Rattle.p9_base.specs.SystemCalls.{State, asked, called}
use Rattle.p9_r3k.specs.declared.inst.Inst.{Inst}
use Rattle.p9_r3k.specs.declared.lines.Line.{Line}
use Rattle.p9_r3k.specs.Effects.{effect_of, reads, reads_pair, branches}
use Rattle.p9_r3k.specs.Machine.{acted}
use Rattle.p9_r3k.specs.Uses.{written, loads, links, delays}
use Rattle.p9_r3k.specs.UseLaws.{MayDo, NoStop, NoStopAsked, SameUses}
use Rattle.p9_r3k.specs.Straight.{Addresses, Straight, filled, line_at, aim, target_or, named_by_value, linked_line, on_to, at_once}
use Rattle.p9_r3k.specs.Delayed.{line_address, noop, aimed, delayed_step, delayed_run, NotHalted}
use Rattle.p9_r3k.proofs.Doing.{does_what_it_may, loads_are_no_branches}
use Rattle.p9_r3k.proofs.Filling.{filled-uses}
use Rattle.p9_r3k.proofs.DelayedRuns.{delayed_run-one, delayed_run-sum}
use Rattle.p9_slot.specs.declared.placing.Recent.{Recent}
use Rattle.p9_slot.specs.Schedule.{new_target, retargeted}
use Rattle.p9_slot.specs.Placing.{nothing, slot}
use Rattle.p9_slot.proofs.Scanning.{clear-at, next, scan, scan-next}
use Rattle.p9_slot.proofs.Entering.{gap, SingleAt}
use Rattle.p9_slot.proofs.Marks.{Marks, marked_core, marked, plain_core, effect-marked, asked-marked, Clear, line-acts, noop_after, noop-acts, Within, clear-within, clear-filled, Setting, Comes}

-- Marks after an instruction

abbrev pub plain_after : Marks → Bool → Marks
plain_after k reader =
    record k { pc = k.next; next = word_sum k.next 4; slot = false; loaded = 0; used = reader; used_before = k.used }

abbrev pub loaded_after : Marks → Bool → ℕ → Marks
loaded_after k reader r = record (plain_after k reader) { loaded = r }

abbrev pub sent_after : Marks → ℕ → Marks
sent_after k to = record (plain_after k false) { next = to; slot = true }

-- the map of addresses under which old lines are entered
abbrev pub placed : (ℕ → ℕ) → (ℕ → ℕ → ℕ) → Addresses
placed e symbol = record { line = λ i. line_address (e i); symbol = symbol }

-- the delayed run comes from one state to another that stands as the straight machine does, which has exited or is
-- before a block that the delayed run comes to
pub record Done (a : Addresses) (e : ℕ → ℕ) (begins : ℕ → Bool) (new : List Line) (text_end least most : ℕ) (from : State) (x : Straight) : Type 0 where
  pub steps : ℕ
  pub marks : Marks
  pub many : least ≤ steps
  pub few : steps ≤ most
  pub run : delayed_run a new steps from ≡ marked marks x.state
  pub lands : x.state.core.ending ≡ Running → (q : ℕ) × Comes e begins new text_end x.at q marks

-- the delayed machine is at old line i, which stands alone
pub record Here (e : ℕ → ℕ) (begins moved : ℕ → Bool) (old new : List Line) (text_end i : ℕ) (line : Line) (k : Marks) : Type 0 where
  pub setting : Setting e begins moved old new
  pub found : slice_get old i ≡ Some line
  pub single : SingleAt e e begins new i line
  pub at : Comes e begins new text_end i (e i) k

-- Where it comes next

-- nothing is on its way, at new line q
pub record Idle (text_end q : ℕ) (k : Marks) : Type 0 where
  pub pc : k.pc ≡ line_address q
  pub next : k.next ≡ line_address (suc q)
  pub slot : k.slot ≡ false
  pub loaded : k.loaded ≡ 0
  pub text : k.text_end ≡ text_end
  pub used : k.used ≡ false
  pub used_before : k.used_before ≡ false

idle-within : (text_end q : ℕ) (k : Marks) (r : Recent) → Idle text_end q k → Within k r
idle-within text_end q k r idle = record {
  used = λ u. absurd (let f : false ≡ true = sym idle.used ∙ u in cc);
  used_before = λ u. absurd (let f : false ≡ true = sym idle.used_before ∙ u in cc);
  loaded = inl idle.loaded;
}

-- on to a block that has no-ops before it at most
pub comes-idle : (e : ℕ → ℕ) (begins moved : ℕ → Bool) (old new : List Line) (text_end i q : ℕ) (k : Marks) → Setting e begins moved old new →
    begins i ≡ true → i ≤ length old → q ≤ e i → e i ≤ q + gap new (e i) → ((p : ℕ) → q ≤ p → p < e i → slice_get new p ≡ Some noop) →
    Idle text_end q k → Comes e begins new text_end i q k
comes-idle e begins moved old new text_end i q k setting begin within before near noops idle = record {
  at_begin = begin;
  pc = idle.pc;
  next = idle.next;
  slot = idle.slot;
  text = idle.text;
  before = before;
  near = near;
  noops = noops;
  within = idle-within text_end q k (scan nothing new q) idle;
  small = setting.small i within;
}

-- on to a target
pub comes-target : (e : ℕ → ℕ) (begins moved : ℕ → Bool) (old new : List Line) (text_end t : ℕ) (k : Marks) → Setting e begins moved old new →
    begins t ≡ true → t < length old → Idle text_end (e t) k → Comes e begins new text_end t (e t) k
comes-target e begins moved old new text_end t k setting begin within idle =
    comes-idle e begins moved old new text_end t (e t) k setting begin (omega (arith, within)) (omega arith) (omega arith)
    (λ p from to. absurd (omega (arith, from, to))) idle

here-within : (e : ℕ → ℕ) (begins moved : ℕ → Bool) (old new : List Line) (text_end i : ℕ) (line : Line) (k : Marks) →
    Here e begins moved old new text_end i line k → i < length old
here-within e begins moved old new text_end i line k h = slice_get_within old i line h.found

next-small : (e : ℕ → ℕ) (begins moved : ℕ → Bool) (old new : List Line) (text_end i : ℕ) (line : Line) (k : Marks) →
    Here e begins moved old new text_end i line k → line_address (e (suc i)) < 2 ^ 29
next-small e begins moved old new text_end i line k h =
    h.setting.small (suc i) (omega (arith, here-within e begins moved old new text_end i line k h))

-- on to the next line, after an instruction without a slot
comes-next : (e : ℕ → ℕ) (begins moved : ℕ → Bool) (old new : List Line) (text_end i : ℕ) (line : Line) (k d : Marks) →
    Here e begins moved old new text_end i line k → branches line.inst ≡ false →
    d.pc ≡ k.next → d.next ≡ word_sum k.next 4 → d.slot ≡ false → d.text_end ≡ k.text_end →
    (d.used ≡ true → reads_pair line.inst ≡ true) → d.used_before ≡ k.used →
    (d.loaded ≡ 0) ⊎ (d.loaded ≡ (if loads line.inst then written line.inst else 0)) →
    Comes e begins new text_end (suc i) (suc (e i)) d
comes-next e begins moved old new text_end i line k d h plain at onward no_slot text used used_before loaded =
    let none : slot line.inst ≡ 0 = ap (λ b. if b then 1 else 0) plain in
    let small : line_address (e (suc i)) < 2 ^ 29 = next-small e begins moved old new text_end i line k h in
    record {
      at_begin = h.single.next_begins;
      pc = at ∙ h.at.next;
      next = omega (arith, onward, h.at.next, small, h.single.room);
      slot = no_slot;
      text = text ∙ h.at.text;
      before = omega (arith, h.single.room);
      near = omega (arith, h.single.near, none);
      noops = λ p from to. h.single.noops p (omega (arith, from)) to;
      within = subst (λ (r : Recent). Within d r) (sym (scan-next nothing new (e i) (retargeted e line) h.single.here)) (record {
        used = used;
        used_before = λ u. h.at.within.used (sym used_before ∙ u);
        loaded = loaded;
      });
      small = small;
    }

-- A line without a slot, and one with

quick-done : (a : Addresses) (e : ℕ → ℕ) (begins : ℕ → Bool) (new : List Line) (text_end i : ℕ) (line : Line) (k d : Marks) (s : State) (y : Straight) →
    Comes e begins new text_end (suc i) (suc (e i)) d → (y.state.core.ending ≡ Running → y.at ≡ i + 1) →
    delayed_step a new (marked k s) ≡ marked d y.state →
    Done a e begins new text_end 1 (1 + slot line.inst) (marked k s) y
quick-done a e begins new text_end i line k d s y comes at step = record {
  steps = 1;
  marks = d;
  many = omega arith;
  few = omega arith;
  run = delayed_run-one a new (marked k s) ∙ step;
  lands = λ r. (suc (e i), subst (λ n. Comes e begins new text_end n (suc (e i)) d) (let z : suc i ≡ y.at = omega (arith, at r) in z) comes);
}

slow-done : (a : Addresses) (e : ℕ → ℕ) (begins moved : ℕ → Bool) (old new : List Line) (text_end i : ℕ) (line : Line) (k d : Marks) (s : State) (y : Straight) →
    Here e begins moved old new text_end i line k → branches line.inst ≡ true → d.pc ≡ line_address (suc (e i)) → y.state.core.ending ≡ Running →
    delayed_step a new (marked k s) ≡ marked d y.state →
    (q : ℕ) → Comes e begins new text_end y.at q (noop_after d) →
    Done a e begins new text_end 1 (1 + slot line.inst) (marked k s) y
slow-done a e begins moved old new text_end i line k d s y h slow at running step q comes =
    let one : slot line.inst ≡ 1 = ap (λ b. if b then 1 else 0) slow in
    record {
      steps = 2;
      marks = noop_after d;
      many = omega arith;
      few = omega (arith, one);
      run = delayed_run-sum a new 1 1 (marked k s)
          ∙ (ap (delayed_run a new 1) (delayed_run-one a new (marked k s) ∙ step)
          ∙ (delayed_run-one a new (marked d y.state)
          ∙ noop-acts a new (suc (e i)) d y.state running at
          (h.single.noops (suc (e i)) (omega arith) (omega (arith, h.single.room, one)))));
      lands = λ r. (q, comes);
    }

-- Memory and system calls

pub store-same : (k : Marks) (s : State) (reader b : Bool) (pc : ℕ) (low stack : List ℕ) →
    (let c : State = record (marked k s) { core = advanced (if b then record (marked_core k s.core) { low = low } else record (marked_core k s.core) { stack = stack }) reader } in
    let d : State = record s { core = (if b then record (plain_core pc s.core) { low = low } else record (plain_core pc s.core) { stack = stack }) } in
    c ≡ marked (plain_after k reader) d)
store-same k s reader true pc low stack = refl
store-same k s reader false pc low stack = refl

answer-same : (k : Marks) (s : State) (reader b : Bool) (pc v : ℕ) (low stack left : List ℕ) →
    (let c : State = record (marked k s) { core = advanced (let e : Core = (if b then record (marked_core k s.core) { low = low } else record (marked_core k s.core) { stack = stack }) in record e { regs = with_reg e.regs 1 v }) reader; left = left } in
    let d : State = record s { core = advanced (let e : Core = (if b then record (plain_core pc s.core) { low = low } else record (plain_core pc s.core) { stack = stack }) in record e { regs = with_reg e.regs 1 v }) reader; left = left } in
    c ≡ marked (plain_after k reader) d)
answer-same k s reader true pc v low stack left = refl
answer-same k s reader false pc v low stack left = refl

called-same : (k : Marks) (s : State) (pc : ℕ) (q : Asked) → NoStopAsked q →
    called q (marked k s) ≡ marked (plain_after k false) (called q (record s { core = plain_core pc s.core }))
called-same k s pc (asks.Exits at len) h = refl
called-same k s pc (asks.Read at n) h = answer-same k s false (nat_lt at stack_start) pc _ _ _ _
called-same k s pc (asks.Write at n) h = refl
called-same k s pc asks.Refused h = refl
called-same k s pc (asks.Stop cause) h = absurd h

called-no_stop : (s : State) (q : Asked) → NotHalted (called q s).core.ending → NoStopAsked q
called-no_stop s (asks.Exits at len) h = tt
called-no_stop s (asks.Read at n) h = tt
called-no_stop s (asks.Write at n) h = tt
called-no_stop s asks.Refused h = tt
called-no_stop s (asks.Stop cause) h = h

pub once-no_stop : (a : Addresses) (n : ℕ) (t : Option ℕ) (e : Effect) (i : ℕ) (s : State) →
    NotHalted (at_once a n t e i s).state.core.ending → NoStop e
once-no_stop a n t (effects.Write r v) i s h = tt
once-no_stop a n t (effects.Pair hi lo) i s h = tt
once-no_stop a n t (effects.Load r v) i s h = tt
once-no_stop a n t (effects.StoreByte p v) i s h = tt
once-no_stop a n t (effects.StoreHalf p v) i s h = tt
once-no_stop a n t (effects.StoreWord p v) i s h = tt
once-no_stop a n t (effects.Branch r taken to) i s h = tt
once-no_stop a n t (effects.JumpTo r to) i s h = tt
once-no_stop a n t effects.Call i s h = tt
once-no_stop a n t (effects.Stop cause) i s h = h

-- Branches and jumps

-- the least line at an address
pub line_at-found : (f : ℕ → ℕ) (to i n j : ℕ) → line_at f to i n ≡ Some j → (f j ≡ to) × (j < i + n)
unfolding line_at
line_at-found f to i zero j e = cc
line_at-found f to i (suc n) j e = by_test (λ d. line_at-found f to (i + 1) n j d) (f i == to) refl e
  where
    by_test : (line_at f to (i + 1) n ≡ Some j → (f j ≡ to) × (j < i + 1 + n)) → (b : Bool) → (f i == to) ≡ b →
        (if b then Some i else line_at f to (i + 1) n) ≡ Some j → (f j ≡ to) × (j < i + suc n)
    by_test rec true t d =
        let same : i ≡ j = cc in
        (ap f (sym same) ∙ grind (arith, nat_tests), omega (arith, same))
    by_test rec false t d =
        let r : (f j ≡ to) × (j < i + 1 + n) = rec d in
        (r.0, omega (arith, r.1))

pub line_at-least : (f : ℕ → ℕ) (to i n j p : ℕ) → line_at f to i n ≡ Some j → i ≤ p → p < j → f p ≢ to
unfolding line_at
line_at-least f to i zero j p e from below = cc
line_at-least f to i (suc n) j p e from below = by_test (λ d w. line_at-least f to (i + 1) n j p d w below) (f i == to) refl (p == i) refl e
  where
    by_test : (line_at f to (i + 1) n ≡ Some j → i + 1 ≤ p → f p ≢ to) → (b : Bool) → (f i == to) ≡ b → (c : Bool) → (p == i) ≡ c →
        (if b then Some i else line_at f to (i + 1) n) ≡ Some j → f p ≢ to
    by_test rec true t c u d = absurd (let same : i ≡ j = cc in omega (arith, same, from, below))
    by_test rec false t true u d =
        let same : p ≡ i = grind (arith, nat_tests) in
        let apart : f i ≢ to = grind (arith, nat_tests) in
        (λ h. apart (ap f (sym same) ∙ h))
    by_test rec false t false u d = rec d (let apart : p ≢ i = grind (arith, nat_tests) in omega (arith, apart, from))

-- the least line at an address begins a block
pub least-begins : (e : ℕ → ℕ) (begins moved : ℕ → Bool) (old new : List Line) (to n j : ℕ) → Setting e begins moved old new →
    line_at (λ i. line_address (e i)) to 0 n ≡ Some j → begins j ≡ true
least-begins e begins moved old new to n j setting h = go (begins j) refl
  where
    go : (b : Bool) → begins j ≡ b → b ≡ true
    go true f = refl
    go false f =
        let (p, next, same) = setting.open_least j f in
        absurd (line_at-least (λ i. line_address (e i)) to 0 n j p h (omega arith) (omega (arith, next))
        (ap (λ q. line_address q) same ∙ (line_at-found (λ i. line_address (e i)) to 0 n j h).0))

pub linked-same : (e : ℕ → ℕ) (regs : List ℕ) (r p i q : ℕ) → p ≡ line_address q → line_address q < 2 ^ 29 →
    (e i ≡ q + 2) ⊎ (r ≡ 0) →
    with_reg regs r (word_sum p 8) ≡ with_reg regs r (line_address (e i))
linked-same e regs r p i q at small (inr z) =
    ap (λ x. with_reg regs x (word_sum p 8)) z ∙ ap (λ x. with_reg regs x (line_address (e i))) (sym z)
linked-same e regs r p i q at small (inl two) = ap (λ v. with_reg regs r v) (omega (arith, at, two, small))

pub idle-after : (text_end q : ℕ) (k : Marks) (to : ℕ) → k.text_end ≡ text_end → to ≡ line_address q → line_address q < 2 ^ 29 + 8 →
    Idle text_end q (noop_after (sent_after k to))
idle-after text_end q k to text e small = record {
  pc = e;
  next = omega (arith, e, small);
  slot = refl;
  loaded = refl;
  text = text;
  used = refl;
  used_before = refl;
}

-- a branch or jump that goes to an address
sent-done : (symbol : ℕ → ℕ → ℕ) (e : ℕ → ℕ) (begins moved : ℕ → Bool) (old new : List Line) (text_end i : ℕ) (line : Line) (k : Marks) (s : State) (r to j q : ℕ) →
    Here e begins moved old new text_end i line k → s.core.ending ≡ Running → branches line.inst ≡ true → (links line.inst ≡ true) ⊎ (r ≡ 0) →
    (let a = placed e symbol in
    let s0 : State = record s { core = plain_core (line_address (e i)) s.core } in
    let y : Straight = record { state = linked_line a r i s0; at = j } in
    delayed_step a new (marked k s) ≡ marked (sent_after k to) (record s { core = record s.core { regs = with_reg s.core.regs r (word_sum k.pc 8) } }) →
    Comes e begins new text_end j q (noop_after (sent_after k to)) →
    Done a e begins new text_end 1 (1 + slot line.inst) (marked k s) y)
sent-done symbol e begins moved old new text_end i line k s r to j q h running slow link step comes =
    let a : Addresses = placed e symbol in
    let s0 : State = record s { core = plain_core (line_address (e i)) s.core } in
    let y : Straight = record { state = linked_line a r i s0; at = j } in
    let regs : with_reg s.core.regs r (word_sum k.pc 8) ≡ with_reg s.core.regs r (line_address (e (i + 1))) =
    linked-same e s.core.regs r k.pc (i + 1) (e i) h.at.pc h.at.small (two link) in
    let f : List ℕ → State = λ l. marked (sent_after k to) (record s { core = record s.core { regs = l } }) in
    let same : f (with_reg s.core.regs r (word_sum k.pc 8)) ≡ f (with_reg s.core.regs r (line_address (e (i + 1)))) = ap f regs in
    slow-done a e begins moved old new text_end i line k (sent_after k to) s y h slow h.at.next running (step ∙ same) q comes
  where
    two : (links line.inst ≡ true) ⊎ (r ≡ 0) → (e (i + 1) ≡ e i + 2) ⊎ (r ≡ 0)
    two (inl l) = inl (ap e (omega arith) ∙ h.single.call l)
    two (inr z) = inr z

-- Effects

neither-delay : (a b : Bool) → (a || b) ≡ false → a ≡ false
neither-delay false b h = refl
neither-delay true b h = h

-- what has no delay is no branch
quick-plain : (i : Inst) → delays i ≡ false → branches i ≡ false
quick-plain i h = neither-delay (branches i) (loads i) h

-- a load is no branch
load-plain : (i : Inst) → loads i ≡ true → branches i ≡ false
load-plain i h = go (branches i) (loads_are_no_branches i)
  where
    go : (b : Bool) → (loads i && b) ≡ false → b ≡ false
    go false e = refl
    go true e = absurd (let z : true ≡ false = sym (ap (λ l. l && true) h) ∙ e in cc)

delays-same : (i j : Inst) → SameUses i j → delays j ≡ delays i
delays-same i j h = ap (λ b. b || loads j) h.branch ∙ ap (λ b. branches i || b) h.load

links-same : (i j : Inst) (r : ℕ) → SameUses i j → (links j ≡ true) ⊎ (r ≡ 0) → (links i ≡ true) ⊎ (r ≡ 0)
links-same i j r h (inl l) = inl (sym h.link ∙ l)
links-same i j r h (inr z) = inr z

-- a filled line's effects are what its instruction may do
pub may-filled : (i j : Inst) → SameUses i j → (e : Effect) → MayDo j e → MayDo i e
may-filled i j h (effects.Write r v) x = (sym h.result ∙ x.0, sym (delays-same i j h) ∙ x.1, sym h.pair_writer ∙ x.2)
may-filled i j h (effects.Pair hi lo) x = (sym h.pair_writer ∙ x.0, sym (delays-same i j h) ∙ x.1, sym h.pair_reader ∙ x.2)
may-filled i j h (effects.Load r v) x = (sym h.result ∙ x.0, sym h.load ∙ x.1, sym h.pair_reader ∙ x.2)
may-filled i j h (effects.StoreByte a v) x = (sym h.store ∙ x.0, sym (delays-same i j h) ∙ x.1)
may-filled i j h (effects.StoreHalf a v) x = (sym h.store ∙ x.0, sym (delays-same i j h) ∙ x.1)
may-filled i j h (effects.StoreWord a v) x = (sym h.store ∙ x.0, sym (delays-same i j h) ∙ x.1)
may-filled i j h (effects.Branch r taken to) x =
    (sym h.result ∙ x.0, sym h.branch ∙ x.1, sym h.pair_reader ∙ x.2, links-same i j r h x.3, sym h.place ∙ x.4)
may-filled i j h (effects.JumpTo r to) x =
    (sym h.result ∙ x.0, sym h.branch ∙ x.1, sym h.pair_reader ∙ x.2, links-same i j r h x.3, sym h.place ∙ x.4)
may-filled i j h effects.Call x = (sym h.system_call ∙ x.0, sym (delays-same i j h) ∙ x.1)
may-filled i j h (effects.Stop cause) x = tt

abbrev StandsBy : (symbol : ℕ → ℕ → ℕ) (e : ℕ → ℕ) (begins : ℕ → Bool) (old new : List Line) (text_end i : ℕ) (line : Line) (k : Marks) (s : State) (reader : Bool) → Effect → Type 0
StandsBy symbol e begins old new text_end i line k s reader f =
    (let a = placed e symbol in
    let s0 : State = record s { core = plain_core (line_address (e i)) s.core } in
    let y : Straight = at_once a (length old) (aim a (length old) line s0.core) f i s0 in
    MayDo line.inst f → NotHalted y.state.core.ending →
    (NoStopAsked (asked s0.core) → asked (marked_core k s.core) ≡ asked s0.core) →
    delayed_step a new (marked k s) ≡ acted (aimed (new_target e line.target) f) (marked k s) reader →
    Done a e begins new text_end 1 (1 + slot line.inst) (marked k s) y)

effect-stands : (symbol : ℕ → ℕ → ℕ) (e : ℕ → ℕ) (begins moved : ℕ → Bool) (old new : List Line) (text_end i : ℕ) (line : Line) (k : Marks) (s : State) (reader : Bool) →
    Here e begins moved old new text_end i line k → s.core.ending ≡ Running → (reader ≡ true → reads_pair line.inst ≡ true) →
    (f : Effect) → StandsBy symbol e begins old new text_end i line k s reader f
effect-stands symbol e begins moved old new text_end i line k s reader h running reads (effects.Write r v) may going call step =
    quick-done (placed e symbol) e begins new text_end i line k (plain_after k reader) s _
    (comes-next e begins moved old new text_end i line k (plain_after k reader) h (quick-plain line.inst may.1) refl refl refl refl reads refl (inl refl)) (λ x. refl) step
effect-stands symbol e begins moved old new text_end i line k s reader h running reads (effects.Pair hi lo) may going call step =
    quick-done (placed e symbol) e begins new text_end i line k (plain_after k reader) s _
    (comes-next e begins moved old new text_end i line k (plain_after k reader) h (quick-plain line.inst may.1) refl refl refl refl reads refl (inl refl)) (λ x. refl) step
effect-stands symbol e begins moved old new text_end i line k s reader h running reads (effects.StoreByte p v) may going call step =
    quick-done (placed e symbol) e begins new text_end i line k (plain_after k reader) s _
    (comes-next e begins moved old new text_end i line k (plain_after k reader) h (quick-plain line.inst may.1) refl refl refl refl reads refl (inl refl)) (λ x. refl)
    (step ∙ store-same k s reader (nat_lt p stack_start) (line_address (e i)) _ _)
effect-stands symbol e begins moved old new text_end i line k s reader h running reads (effects.StoreHalf p v) may going call step =
    quick-done (placed e symbol) e begins new text_end i line k (plain_after k reader) s _
    (comes-next e begins moved old new text_end i line k (plain_after k reader) h (quick-plain line.inst may.1) refl refl refl refl reads refl (inl refl)) (λ x. refl)
    (step ∙ store-same k s reader (nat_lt p stack_start) (line_address (e i)) _ _)
effect-stands symbol e begins moved old new text_end i line k s reader h running reads (effects.StoreWord p v) may going call step =
    quick-done (placed e symbol) e begins new text_end i line k (plain_after k reader) s _
    (comes-next e begins moved old new text_end i line k (plain_after k reader) h (quick-plain line.inst may.1) refl refl refl refl reads refl (inl refl)) (λ x. refl)
    (step ∙ store-same k s reader (nat_lt p stack_start) (line_address (e i)) _ _)
effect-stands symbol e begins moved old new text_end i line k s reader h running reads effects.Call may going call step =
    let s0 : State = record s { core = plain_core (line_address (e i)) s.core } in
    let fine : NoStopAsked (asked s0.core) = called-no_stop s0 (asked s0.core) going in
    quick-done (placed e symbol) e begins new text_end i line k (plain_after k false) s (record { state = called (asked s0.core) s0; at = i + 1 })
    (comes-next e begins moved old new text_end i line k (plain_after k false) h (quick-plain line.inst may.1) refl refl refl refl
    (λ u. absurd (let f : false ≡ true = u in cc)) refl (inl refl)) (λ x. refl)
    (step ∙ (ap (λ q. called q (marked k s)) (call fine) ∙ called-same k s (line_address (e i)) (asked s0.core) fine))
effect-stands symbol e begins moved old new text_end i line k s reader h running reads (effects.Load r v) may going call step =
    quick-done (placed e symbol) e begins new text_end i line k (loaded_after k reader r) s _
    (comes-next e begins moved old new text_end i line k (loaded_after k reader r) h (load-plain line.inst may.1) refl refl refl refl reads refl
    (inr (sym may.0 ∙ sym (ap (λ b. if b then written line.inst else 0) may.1)))) (λ x. refl) step
effect-stands symbol e begins moved old new text_end i line k s reader h running reads (effects.Branch r false to) may going call step =
    let one : slot line.inst ≡ 1 = ap (λ b. if b then 1 else 0) may.1 in
    let within : i < length old = here-within e begins moved old new text_end i line k h in
    let small : line_address (e (suc i)) < 2 ^ 29 = next-small e begins moved old new text_end i line k h in
    sent-done symbol e begins moved old new text_end i line k s r (word_sum k.pc 8) (i + 1) (e i + 2) h running may.1 may.3 step
    (subst (λ n. Comes e begins new text_end n (e i + 2) (noop_after (sent_after k (word_sum k.pc 8)))) (let z : suc i ≡ i + 1 = omega arith in z)
    (comes-idle e begins moved old new text_end (suc i) (e i + 2) (noop_after (sent_after k (word_sum k.pc 8))) h.setting h.single.next_begins
    (omega (arith, within)) (omega (arith, h.single.room, one)) (omega (arith, h.single.near, one)) (λ p from to. h.single.noops p (omega (arith, from)) to)
    (idle-after text_end (e i + 2) k (word_sum k.pc 8) h.at.text (omega (arith, h.at.pc, h.at.small)) (omega (arith, h.at.small)))))
effect-stands symbol e begins moved old new text_end i line k s reader h running reads (effects.Branch r true to) may going call step =
    by_target line.target refl (h.setting.targets i line h.found may.4) step
  where
    by_target : (t : Option ℕ) → line.target ≡ t → IsSome line.target →
        (let a = placed e symbol in
        let s0 : State = record s { core = plain_core (line_address (e i)) s.core } in
        let y : Straight = on_to (aim a (length old) line s0.core) i (linked_line a r i s0) in
        delayed_step a new (marked k s) ≡ acted (aimed (new_target e line.target) (effects.Branch r true to)) (marked k s) reader →
        Done a e begins new text_end 1 (1 + slot line.inst) (marked k s) y)
    by_target None t some d = absurd (let f : false ≡ true = subst IsSome t some in cc)
    by_target (Some j) t some d =
        let a : Addresses = placed e symbol in
        let s0 : State = record s { core = plain_core (line_address (e i)) s.core } in
        let within : j < length old = h.setting.inside i line j h.found t in
        let small : line_address (e j) < 2 ^ 29 = h.setting.small j (omega (arith, within)) in
        let goal : Done a e begins new text_end 1 (1 + slot line.inst) (marked k s) (on_to (Some j) i (linked_line a r i s0)) =
        sent-done symbol e begins moved old new text_end i line k s r (line_address (e j)) j (e j) h running may.1 may.3
        (d ∙ ap (λ o. acted (aimed (new_target e o) (effects.Branch r true to)) (marked k s) reader) t)
        (comes-target e begins moved old new text_end j (noop_after (sent_after k (line_address (e j)))) h.setting
        (h.setting.open_targets i line j h.found t) within
        (idle-after text_end (e j) k (line_address (e j)) h.at.text refl (omega (arith, small)))) in
        let aims : aim a (length old) line s0.core ≡ Some j =
        ap (λ o. target_or o (named_by_value a (length old) line.value (filled a line) s0.core)) t in
        subst (λ o. Done a e begins new text_end 1 (1 + slot line.inst) (marked k s) (on_to o i (linked_line a r i s0))) (sym aims) goal
effect-stands symbol e begins moved old new text_end i line k s reader h running reads (effects.JumpTo r to) may going call step =
    by_line (line_at (λ n. line_address (e n)) to 0 (length old)) refl going
  where
    by_line : (t : Option ℕ) → line_at (λ n. line_address (e n)) to 0 (length old) ≡ t →
        (let a = placed e symbol in
        let s0 : State = record s { core = plain_core (line_address (e i)) s.core } in
        let y : Straight = on_to t i (linked_line a r i s0) in
        NotHalted y.state.core.ending →
        Done a e begins new text_end 1 (1 + slot line.inst) (marked k s) y)
    by_line None t g = absurd g
    by_line (Some j) t g =
        let there : (line_address (e j) ≡ to) × (j < 0 + length old) = line_at-found (λ n. line_address (e n)) to 0 (length old) j t in
        let small : line_address (e j) < 2 ^ 29 = h.setting.small j (omega (arith, there.1)) in
        sent-done symbol e begins moved old new text_end i line k s r to j (e j) h running may.1 may.3 step
        (comes-target e begins moved old new text_end j (noop_after (sent_after k to)) h.setting
        (least-begins e begins moved old new to (length old) j h.setting t) (omega (arith, there.1))
        (idle-after text_end (e j) k to h.at.text (sym there.0) (omega (arith, small))))
effect-stands symbol e begins moved old new text_end i line k s reader h running reads (effects.Stop cause) may going call step =
    absurd going

-- A line

pub line-stands : (symbol : ℕ → ℕ → ℕ) (e : ℕ → ℕ) (begins moved : ℕ → Bool) (old new : List Line) (text_end i : ℕ) (line : Line) (k : Marks) (s : State) →
    Here e begins moved old new text_end i line k → s.core.ending ≡ Running → k.text_end ≤ s.core.data_start →
    (let a = placed e symbol in
    let s0 : State = record s { core = plain_core (line_address (e i)) s.core } in
    let y : Straight = at_once a (length old) (aim a (length old) line s0.core) (effect_of (filled a line) s0.core) i s0 in
    NotHalted y.state.core.ending →
    Done a e begins new text_end 1 (1 + slot line.inst) (marked k s) y)
line-stands symbol e begins moved old new text_end i line k s h running below going =
    let a : Addresses = placed e symbol in
    let inst : Inst = filled a line in
    let pc : ℕ = line_address (e i) in
    let uses : SameUses line.inst inst = filled-uses a line in
    let s0 : State = record s { core = plain_core pc s.core } in
    let fine : NoStop (effect_of inst s0.core) = once-no_stop a (length old) (aim a (length old) line s0.core) (effect_of inst s0.core) i s0 going in
    let clear : Clear inst k =
    clear-within inst k (scan nothing new (e i)) h.at.within
    (clear-filled (scan nothing new (e i)) line.inst inst uses (clear-at nothing new (e i) (retargeted e line) h.setting.clear h.single.here))
    (ap (λ b. b && branches inst) h.at.slot) in
    effect-stands symbol e begins moved old new text_end i line k s (reads_pair inst) h running
    (λ u. sym uses.pair_reader ∙ u)
    (effect_of inst s0.core)
    (may-filled line.inst inst uses (effect_of inst s0.core) (does_what_it_may inst s0.core))
    going
    (λ f. asked-marked k s.core pc below f)
    (line-acts a new (e i) k s (retargeted e line) running h.at.pc h.single.here clear
    ∙ ap (λ f. acted (aimed (new_target e line.target) f) (marked k s) (reads_pair inst)) (effect-marked inst k s.core pc h.at.pc below fine))
