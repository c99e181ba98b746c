-- The delayed machine at lines and at added no-ops.
use Rattle.std.proofs.Common.{ℕ, zero, suc, ◌+◌, ◌-◌, ◌/◌, ◌%◌, ◌^◌, ◌==◌, ◌≡◌, ◌⊎◌, inl, inr, ◌≤◌, ◌<◌, ◌||◌, ◌&&◌, nat_lt, nat_le, Bool, true, false, not, Some, None, Ok, Err, refl, sym, ap, ◌∙◌, subst, arith, if◌then◌else◌, List, length, slice_get}
use Rattle.std.proofs.lemmas.Option.{slice_get_within}
use Rattle.std.proofs.lemmas.Bool.Decides.{nat_tests}
use Rattle.p9_base.specs.Words.{word_sum}
use Rattle.p9_base.specs.declared.halt.HaltCause.TheVariants as halts
use Rattle.p9_base.specs.declared.halt.Ending.TheVariants.{Running}
use Rattle.p9_base.specs.Core.{Core, text_start}
use Rattle.p9_base.specs.SystemCalls.{State, asked}
use Rattle.p9_r3k.specs.declared.inst.Inst.{Inst}
use Rattle.p9_r3k.specs.declared.lines.Line.{Line}
use Rattle.p9_r3k.specs.Effects.{effect_of, reads, reads_pair, writes_pair, branches}
use Rattle.p9_r3k.specs.Machine.{without_hazard, acted}
use Rattle.p9_r3k.specs.Straight.{Addresses, filled}
use Rattle.p9_r3k.specs.UseLaws.{NoStop, NoStopAsked, Agree, without_text}
use Rattle.p9_r3k.specs.Delayed.{line_address, noop, aimed, fetched_line, line_executed, delayed_line, delayed_going, delayed_step, delayed_run}
use Rattle.p9_r3k.proofs.Agreeing.{rests_on_what_it_reads, asks_by_what_it_reads}
use Rattle.p9_r3k.proofs.TextApart.{same_with_text, asks_same_with_text}
use Rattle.p9_r3k.proofs.DelayedRuns.{delayed_run-zero, delayed_run-one, delayed_run-sum}
use Rattle.p9_r3k.specs.UseLaws.{SameUses}
use Rattle.p9_slot.specs.declared.placing.Recent.{Recent}
use Rattle.p9_slot.specs.Schedule.{HaveTargets, TargetsAreLines}
use Rattle.p9_slot.specs.Placing.{nothing}
use Rattle.p9_slot.proofs.Scanning.{IsClear, AreClear, scan, scan-next}
use Rattle.p9_slot.proofs.Entering.{gap, BlockAt}

-- What of a state belongs to the delays and the text

pub record Marks : Type 0 where
  pub pc : ℕ
  pub next : ℕ
  pub slot : Bool
  pub loaded : ℕ
  pub used : Bool
  pub used_before : Bool
  pub text_end : ℕ

abbrev pub marked_core : Marks → Core → Core
marked_core k c = record c {
  text_end = k.text_end;
  pc = k.pc;
  next = k.next;
  slot = k.slot;
  loaded = k.loaded;
  used = k.used;
  used_before = k.used_before;
}

abbrev pub marked : Marks → State → State
marked k s = record s { core = marked_core k s.core }

-- the core of the straight machine at an address
abbrev pub plain_core : ℕ → Core → Core
plain_core pc c = record c { pc = pc; text_end = text_start }

-- Effects

plain-agrees : (i : Inst) (k : Marks) (c : Core) (pc : ℕ) → k.pc ≡ pc → Agree i (plain_core pc c) (without_text (marked_core k c))
plain-agrees i k c pc at = record {
  registers = λ r h. refl;
  hi = λ h. refl;
  lo = λ h. refl;
  place = λ h. at;
  memory = λ h. record { order = refl; low = refl; stack = refl; text_end = refl; data_start = refl };
  data_start = λ h. refl;
  size = λ h. refl;
}

-- where a marked core agrees with another one in what an instruction reads
pub effect-agreed : (i : Inst) (k : Marks) (c d : Core) → Agree i d (without_text (marked_core k c)) → k.text_end ≤ c.data_start →
    NoStop (effect_of i d) → effect_of i (marked_core k c) ≡ effect_of i d
effect-agreed i k c d agree below h =
    let e : effect_of i (without_text (marked_core k c)) ≡ effect_of i d = rests_on_what_it_reads i d (without_text (marked_core k c)) agree in
    same_with_text i (marked_core k c) k.text_end below (subst NoStop (sym e) h) ∙ e

pub effect-marked : (i : Inst) (k : Marks) (c : Core) (pc : ℕ) → k.pc ≡ pc → k.text_end ≤ c.data_start →
    NoStop (effect_of i (plain_core pc c)) → effect_of i (marked_core k c) ≡ effect_of i (plain_core pc c)
effect-marked i k c pc at below h = effect-agreed i k c (plain_core pc c) (plain-agrees i k c pc at) below h

pub asked-marked : (k : Marks) (c : Core) (pc : ℕ) → k.text_end ≤ c.data_start →
    NoStopAsked (asked (plain_core pc c)) → asked (marked_core k c) ≡ asked (plain_core pc c)
asked-marked k c pc below h =
    let e : asked (without_text (marked_core k c)) ≡ asked (plain_core pc c) =
    asks_by_what_it_reads (plain_core pc c) (without_text (marked_core k c)) refl refl
    (record { order = refl; low = refl; stack = refl; text_end = refl; data_start = refl }) in
    asks_same_with_text (marked_core k c) k.text_end below (subst NoStopAsked (sym e) h) ∙ e

-- The line at an address

within_text : (pc q n : ℕ) → pc ≡ line_address q → q < n →
    ((pc % 4 == 0) && (nat_le text_start pc && nat_lt pc (line_address n))) ≡ true
within_text pc q n e h =
    all (pc % 4 == 0) (nat_le text_start pc) (nat_lt pc (line_address n)) (grind (arith, nat_tests)) (grind (arith, nat_tests)) (grind (arith, nat_tests))
  where
    all : (x y z : Bool) → x ≡ true → y ≡ true → z ≡ true → (x && (y && z)) ≡ true
    all true true true a b c = refl
    all false y z a b c = a
    all true false z a b c = b
    all true true false a b c = c

fetched_line-at : (lines : List Line) (pc q : ℕ) (line : Line) → pc ≡ line_address q → slice_get lines q ≡ Some line →
    fetched_line lines pc ≡ Some line
fetched_line-at lines pc q line e h =
    let P : Bool → Type 0 = λ b. (if b then slice_get lines ((pc - text_start) / 4) else None) ≡ Some line in
    subst P (sym (within_text pc q (length lines) e (slice_get_within lines q line h)))
    (ap (λ n. slice_get lines n) (omega (arith, e)) ∙ h)

-- An instruction without a hazard

pub record Clear (i : Inst) (k : Marks) : Type 0 where
  pub loaded : (not (k.loaded == 0) && reads i k.loaded) ≡ false
  pub pair : (writes_pair i && (k.used || k.used_before)) ≡ false
  pub slot : (k.slot && branches i) ≡ false

no_hazard : (i : Inst) (k : Marks) (c : Core) → Clear i k → without_hazard (Some i) (marked_core k c) ≡ Ok i
no_hazard i k c h =
    let P : Bool → Type 0 = λ b. (if b then Err halts.LoadHazard else
    if writes_pair i && (k.used || k.used_before) then Err halts.HiLoHazard else
    if k.slot && branches i then Err halts.SlotBranch else Ok i) ≡ Ok i in
    let Q : Bool → Type 0 = λ b. (if b then Err halts.HiLoHazard else
    if k.slot && branches i then Err halts.SlotBranch else Ok i) ≡ Ok i in
    let R : Bool → Type 0 = λ b. (if b then Err halts.SlotBranch else Ok i) ≡ Ok i in
    subst P (sym h.loaded) (subst Q (sym h.pair) (subst R (sym h.slot) refl))

pub line-acts :
    (a : Addresses) (lines : List Line) (q : ℕ) (k : Marks) (s : State) (line : Line) →
    s.core.ending ≡ Running → k.pc ≡ line_address q → slice_get lines q ≡ Some line → Clear (filled a line) k →
    delayed_step a lines (marked k s)
    ≡ acted (aimed line.target (effect_of (filled a line) (marked_core k s.core))) (marked k s) (reads_pair (filled a line))
unfolding delayed_step
line-acts a lines q k s line running at found clear =
    ap (λ e. delayed_going a lines e (marked k s)) running
    ∙ (ap (λ o. delayed_line a o (marked k s)) (fetched_line-at lines k.pc q line at found)
    ∙ ap (λ r. line_executed line.target r (marked k s)) (no_hazard (filled a line) k s.core clear))

-- No-ops

abbrev pub noop_after : Marks → Marks
noop_after k = record k { pc = k.next; next = word_sum k.next 4; slot = false; loaded = 0; used = false; used_before = k.used }

noop-reads : (r : ℕ) → (not (r == 0) && (0 == r)) ≡ false
noop-reads r = go (r == 0) (0 == r) refl refl
  where
    go : (b d : Bool) → (r == 0) ≡ b → (0 == r) ≡ d → (not b && d) ≡ false
    go true d e f = refl
    go false false e f = refl
    go false true e f = absurd (grind (arith, nat_tests))

no_branch : (b : Bool) → (b && false) ≡ false
no_branch true = refl
no_branch false = refl

pub noop-acts :
    (a : Addresses) (lines : List Line) (q : ℕ) (k : Marks) (s : State) →
    s.core.ending ≡ Running → k.pc ≡ line_address q → slice_get lines q ≡ Some noop →
    delayed_step a lines (marked k s) ≡ marked (noop_after k) s
noop-acts a lines q k s running at found =
    line-acts a lines q k s noop running at found
    (record { loaded = noop-reads k.loaded; pair = refl; slot = no_branch k.slot })

-- Where the delayed machine stands

-- marks are at most what the lines before have left
pub record Within (k : Marks) (r : Recent) : Type 0 where
  pub used : k.used ≡ true → r.last ≡ true
  pub used_before : k.used_before ≡ true → r.before ≡ true
  pub loaded : (k.loaded ≡ 0) ⊎ (k.loaded ≡ r.loaded)

fewer : (w a b x y : Bool) → (a ≡ true → x ≡ true) → (b ≡ true → y ≡ true) → (w && (x || y)) ≡ false → (w && (a || b)) ≡ false
fewer false a b x y f g h = refl
fewer true false false x y f g h = refl
fewer true true b x y f g h =
    absurd (let all : (x || y) ≡ true = ap (λ z. z || y) (f refl) in let z : true ≡ false = sym all ∙ h in cc)
fewer true false true true y f g h = h
fewer true false true false y f g h = absurd (let z : true ≡ false = sym (g refl) ∙ h in cc)

pub clear-within : (i : Inst) (k : Marks) (r : Recent) → Within k r → IsClear r i → (k.slot && branches i) ≡ false → Clear i k
clear-within i k r within clear slot = record {
  loaded = by_load within.loaded;
  pair = fewer (writes_pair i) k.used k.used_before r.last r.before within.used within.used_before clear.pair;
  slot = slot;
}
  where
    by_load : (k.loaded ≡ 0) ⊎ (k.loaded ≡ r.loaded) → (not (k.loaded == 0) && reads i k.loaded) ≡ false
    by_load (inl z) = subst (λ n. (not (n == 0) && reads i n) ≡ false) (sym z) refl
    by_load (inr z) = subst (λ n. (not (n == 0) && reads i n) ≡ false) (sym z) clear.load

pub clear-filled : (r : Recent) (i j : Inst) → SameUses i j → IsClear r i → IsClear r j
clear-filled r i j uses h = record {
  pair = ap (λ b. b && (r.last || r.before)) uses.pair_writer ∙ h.pair;
  load = ap (λ b. not (r.loaded == 0) && b) (uses.registers r.loaded) ∙ h.load;
}

-- old lines and an answer, with addresses that are words
pub record Setting (e : ℕ → ℕ) (begins moved : ℕ → Bool) (old new : List Line) : Type 0 where
  pub clear : AreClear nothing new
  pub first : e 0 ≡ 0
  pub first_begins : begins 0 ≡ true
  pub block : (i : ℕ) (line : Line) → begins i ≡ true → slice_get old i ≡ Some line → BlockAt e e begins moved old new i line
  pub targets : HaveTargets old
  pub inside : TargetsAreLines old
  pub open_targets : (i : ℕ) (line : Line) (t : ℕ) → slice_get old i ≡ Some line → line.target ≡ Some t → begins t ≡ true
  pub open_least : (i : ℕ) → begins i ≡ false → (j : ℕ) × (i ≡ suc j) × (e j ≡ e i)
  pub small : (i : ℕ) → i ≤ length old → line_address (e i) < 2 ^ 29

-- it is at new line q and comes to the block that old line i begins, with at most no-ops before it
pub record Comes (e : ℕ → ℕ) (begins : ℕ → Bool) (new : List Line) (text_end i q : ℕ) (k : Marks) : Type 0 where
  pub at_begin : begins i ≡ true
  pub pc : k.pc ≡ line_address q
  pub next : k.next ≡ line_address (suc q)
  pub slot : k.slot ≡ false
  pub text : k.text_end ≡ text_end
  pub before : q ≤ e i
  pub near : e i ≤ q + gap new (e i)
  pub noops : (p : ℕ) → q ≤ p → p < e i → slice_get new p ≡ Some noop
  pub within : Within k (scan nothing new q)
  pub small : line_address (e i) < 2 ^ 29

-- it passes the no-ops before a block
pub passes :
    (a : Addresses) (e : ℕ → ℕ) (begins : ℕ → Bool) (new : List Line) (text_end i d q : ℕ) (k : Marks) (s : State) →
    Comes e begins new text_end i q k → s.core.ending ≡ Running → e i ≡ q + d →
    (marks : Marks) × Comes e begins new text_end i (e i) marks × (delayed_run a new d (marked k s) ≡ marked marks s)
passes a e begins new text_end i zero q k s c running h =
    let same : q ≡ e i = omega (arith, h) in
    (k, subst (λ n. Comes e begins new text_end i n k) same c, delayed_run-zero a new (marked k s))
passes a e begins new text_end i (suc d) q k s c running h =
    let bound : q < e i = omega (arith, h) in
    let here : slice_get new q ≡ Some noop = c.noops q (omega arith) bound in
    let onward : Comes e begins new text_end i (suc q) (noop_after k) = record {
      at_begin = c.at_begin;
      pc = c.next;
      next = omega (arith, c.next, c.small, bound);
      slot = refl;
      text = c.text;
      before = omega (arith, bound);
      near = omega (arith, c.near);
      noops = λ p from to. c.noops p (omega (arith, from)) to;
      within = subst (λ (r : Recent). Within (noop_after k) r) (sym (scan-next nothing new q noop here)) (record {
        used = λ u. absurd (let f : false ≡ true = u in cc);
        used_before = c.within.used;
        loaded = inl refl;
      });
      small = c.small;
    } in
    let (marks, at, run) = passes a e begins new text_end i d (suc q) (noop_after k) s onward running (omega (arith, h)) in (
      marks,
      at,
      ap (λ n. delayed_run a new n (marked k s)) (omega arith)
          ∙ (delayed_run-sum a new 1 d (marked k s)
          ∙ (ap (delayed_run a new d) (delayed_run-one a new (marked k s) ∙ noop-acts a new q k s running c.pc here)
          ∙ run)),
    )
