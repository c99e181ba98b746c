-- The match behind an entry.
use Rattle.std.proofs.Common.{◌≡◌, ◌≤◌, ◌<◌, ◌⊎◌, inl, inr, ℕ, suc, ◌+◌, ◌-◌, ◌%◌, ◌&&◌, ◌||◌, nat_le, nat_lt, Bool, true, false, if◌then◌else◌, Some, List, [], ◌∷◌, length, slice_index, refl, sym, ap, ◌∙◌, subst, arith}
use Rattle.std.proofs.lemmas.Bool.Decides.{nat_tests}
use Rattle.std.proofs.lemmas.List.{get_or-set_same, get_or-set_other}
use Rattle.p9_base.specs.declared.order.ByteOrder.{ByteOrder}
use Rattle.p9_base.specs.declared.order.ByteOrder.TheVariants.{Big, Little}
use Rattle.p9_base.specs.Words.{IsWord}
use Rattle.p9_base.specs.Core.{Core, text_start, stack_start, reg, with_four, with_word_in, with_word, read_byte}
use Rattle.p9_base.specs.SystemCalls.{State}
use Rattle.p9_base.specs.Holding.{HoldsWords, AreBytes}
use Rattle.p9_base.proofs.Holding.{with_register-words, memory-words-by, word-bytes, register-word}
use Rattle.p9_base.proofs.Kept.{length-word}
use Rattle.p9_abs.specs.Runs.{keeps, taken_by, in_word, lowered}
use Rattle.p9_abs.specs.Keeping.{SameSizes}
use Rattle.p9_abs.proofs.Fixed.{other-register}
use Rattle.p9_cmean.specs.Cells.{Cell}
use Rattle.p9_sim.specs.Memory.{Map, Ground, StandsCell, StandCells}
use Rattle.p9_sim.specs.Matching.{IsLaidOut, Lies}
use Rattle.p9_sim.specs.Functions.{after_entry}
use Rattle.p9_entry.specs.Entering.{EntriesAreMatched}

-- A STORED WORD

four-apart : (xs : List ℕ) (i j a b d e : ℕ) → (j < i) ⊎ (i + 4 ≤ j) → slice_index (with_four xs i a b d e) j ≡ slice_index xs j
four-apart xs i j a b d e h =
    get_or-set_other _ (i + 3) j e 0 (λ z. by h z 3 (omega arith))
    ∙ (get_or-set_other _ (i + 2) j d 0 (λ z. by h z 2 (omega arith))
    ∙ (get_or-set_other _ (i + 1) j b 0 (λ z. by h z 1 (omega arith))
    ∙ get_or-set_other xs i j a 0 (λ z. (let n : i ≡ i + 0 = omega arith in by h (z ∙ n) 0 (omega arith)))))
  where
    by : (j < i) ⊎ (i + 4 ≤ j) → {n : ℕ} → j ≡ i + n → (k : ℕ) → n < 4 → ⊥
    by (inl l) z k m = omega (arith, l, z)
    by (inr l) z k m = omega (arith, l, z, m)

word-apart : (o : ByteOrder) (xs : List ℕ) (i j v : ℕ) → (j < i) ⊎ (i + 4 ≤ j) → slice_index (with_word_in o xs i v) j ≡ slice_index xs j
word-apart Big xs i j v h = four-apart xs i j _ _ _ _ h
word-apart Little xs i j v h = four-apart xs i j _ _ _ _ h

-- a byte outside a word of the stack that is stored
byte-apart : (x : Core) (a v byte : ℕ) → stack_start ≤ a → (byte < a) ⊎ (a + 4 ≤ byte) → (let y : Core = with_word x a v in read_byte y byte ≡ read_byte x byte)
byte-apart x a v byte high h = by (nat_lt a stack_start) refl (nat_lt byte stack_start) refl
  where
    by : (p : Bool) → nat_lt a stack_start ≡ p → (q : Bool) → nat_lt byte stack_start ≡ q
        → (let y : Core = (if p then record x { low = with_word_in x.order x.low (a - text_start) v } else record x { stack = with_word_in x.order x.stack (a - stack_start) v }) in
        (if q then slice_index y.low (byte - text_start) else slice_index y.stack (byte - stack_start)) ≡ (if q then slice_index x.low (byte - text_start) else slice_index x.stack (byte - stack_start)))
    by true e q f = absurd (let l : a < stack_start = grind (arith, nat_tests) in omega (arith, l, high))
    by false e true f = refl
    by false e false f = word-apart x.order x.stack (a - stack_start) (byte - stack_start) v (shifted h)
      where
        up : stack_start ≤ byte
        up = grind (arith, nat_tests)

        shifted : (byte < a) ⊎ (a + 4 ≤ byte) → (byte - stack_start < a - stack_start) ⊎ (a - stack_start + 4 ≤ byte - stack_start)
        shifted (inl l) = inl (let u = up in omega (arith, l, u, high))
        shifted (inr l) = inr (omega (arith, l, high))

record Stored (x : Core) (y : Core) : Type 0 where
  pub regs : y.regs ≡ x.regs
  pub order : y.order ≡ x.order
  pub ending : y.ending ≡ x.ending
  pub start : y.data_start ≡ x.data_start
  pub low : length y.low ≡ length x.low
  pub stack : length y.stack ≡ length x.stack

stored-by : (b : Bool) (x : Core) (low stack : List ℕ) → length low ≡ length x.low → length stack ≡ length x.stack → Stored x (if b then record x { low = low } else record x { stack = stack })
stored-by true x low stack h k = record { regs = refl; order = refl; ending = refl; start = refl; low = h; stack = refl }
stored-by false x low stack h k = record { regs = refl; order = refl; ending = refl; start = refl; low = refl; stack = k }

stored : (x : Core) (a v : ℕ) → Stored x (with_word x a v)
stored x a v =
    stored-by (nat_lt a stack_start) x (with_word_in x.order x.low (a - text_start) v) (with_word_in x.order x.stack (a - stack_start) v)
    (length-word x.order x.low (a - text_start) v) (length-word x.order x.stack (a - stack_start) v)

-- ENTRIES

abbrev entry_by : Bool → ℕ → State → State
entry_by b frame x = if b then record x { core = with_word (lowered x.core (frame + 4)) (reg x.core 29 - (frame + 4)) (reg x.core 31) } else x

abbrev taken_if : Bool → ℕ → ℕ
taken_if b frame = if b then frame + 4 else 0

record Entered (b : Bool) (frame : ℕ) (x y : State) : Type 0 where
  pub stack : reg y.core 29 ≡ reg x.core 29 - taken_if b frame
  pub base : reg y.core 30 ≡ reg x.core 30
  pub result : reg y.core 1 ≡ reg x.core 1
  pub words : HoldsWords y.core
  pub left : y.left ≡ x.left
  pub out : y.out ≡ x.out
  pub ending : y.core.ending ≡ x.core.ending
  pub laid : IsLaidOut y
  pub sizes : SameSizes x y
  pub memory : (byte : ℕ) → (byte < stack_start) ⊎ (reg x.core 29 ≤ byte) → read_byte y.core byte ≡ read_byte x.core byte

entered-by : (b : Bool) (frame : ℕ) (x : State) → HoldsWords x.core → IsLaidOut x → stack_start + taken_if b frame ≤ reg x.core 29 → Entered b frame x (entry_by b frame x)
entered-by false frame x words laid high = record {
  stack = omega arith;
  base = refl;
  result = refl;
  words = words;
  left = refl;
  out = refl;
  ending = refl;
  laid = laid;
  sizes = record { order = refl; data_start = refl; low = refl; stack = refl };
  memory = λ byte h. refl;
}
entered-by true frame x words laid high =
    let count = words.count in
    let sp : ℕ = reg x.core 29 - (frame + 4) in
    let small : IsWord (reg x.core 29) = register-word x.core 29 words in
    let low : Core = lowered x.core (frame + 4) in
    let low_words : HoldsWords low = with_register-words x.core 29 sp (omega (arith, small)) words in
    let w : Stored low (with_word low sp (reg x.core 31)) = stored low sp (reg x.core 31) in
    let start = w.start in let lows = w.low in let stacks = w.stack in
    let gap = laid.gap in let within = laid.data_and_bss in let above = laid.above in let size = laid.stack_size in
    record {
      stack = ap (λ r. slice_index r 29) w.regs ∙ get_or-set_same x.core.regs 29 sp 0 (omega (arith, count));
      base = ap (λ r. slice_index r 30) w.regs ∙ other-register x.core.regs 29 sp 30 (λ h. omega (arith, h));
      result = ap (λ r. slice_index r 1) w.regs ∙ other-register x.core.regs 29 sp 1 (λ h. omega (arith, h));
      words = memory-words-by (nat_lt sp stack_start) low (with_word_in low.order low.low (sp - text_start) (reg x.core 31)) (with_word_in low.order low.stack (sp - stack_start) (reg x.core 31)) low_words
          (word-bytes low.order low.low (sp - text_start) (reg x.core 31) words.low_bytes) (word-bytes low.order low.stack (sp - stack_start) (reg x.core 31) words.stack_bytes);
      left = refl;
      out = refl;
      ending = w.ending;
      laid = record { text = laid.text; gap = omega (arith, start, gap); data_and_bss = omega (arith, start, lows, within); above = omega (arith, lows, above); stack_size = stacks ∙ size };
      sizes = record { order = w.order; data_start = w.start; low = w.low; stack = w.stack };
      memory = λ byte h. byte-apart low sp (reg x.core 31) byte (omega (arith, high)) (away byte h);
    }
  where
    away : (byte : ℕ) → (byte < stack_start) ⊎ (reg x.core 29 ≤ byte) → (byte < reg x.core 29 - (frame + 4)) ⊎ (reg x.core 29 - (frame + 4) + 4 ≤ byte)
    away byte (inl l) = inl (omega (arith, l, high))
    away byte (inr l) = inr (omega (arith, l, high))

pub stands-same : (g : Ground) (m : Map) (p q : ℕ → ℕ) (cells : List Cell) (start : ℕ) → ((i : ℕ) → i < length cells → p (start + i) ≡ q (start + i))
    → StandCells g m cells p start → StandCells g m cells q start
stands-same g m p q [] start same h = tt
stands-same g m p q (cell ∷ cells) start same h =
    let z : start + 0 ≡ start = omega arith in
    let first : p start ≡ q start = subst (λ n. p n ≡ q n) z (same 0 (omega arith)) in (
      subst (λ b. StandsCell g m cell b) first h.0,
      stands-same g m p q cells (start + 1) (λ i l. let n : start + suc i ≡ start + 1 + i = omega arith in subst (λ k. p k ≡ q k) n (same (suc i) (omega (arith, l)))) h.1,
    )

taken-small : (b : Bool) (frame : ℕ) → frame % 4 ≡ 0 → (taken_if b frame ≤ frame + 4) × (taken_if b frame % 4 ≡ 0)
taken-small true frame four = (omega arith, omega (arith, four))
taken-small false frame four = (omega arith, refl)

-- what isn't kept before, and lies in data or from the caller's R29 on, isn't kept behind the entry
not-kept : (b : Bool) (others : ℕ → Bool) (frame top byte : ℕ) → taken_if b frame ≤ top → others byte ≡ false → (byte < stack_start) ⊎ (top ≤ byte) → stack_start ≤ top - taken_if b frame
    → (others byte || (b && in_word byte (Some (top - taken_if b frame)))) ≡ false
not-kept false others frame top byte fits o h low = λ t. o t || false
not-kept true others frame top byte fits o h low = λ t. o t || outside h t
  where
    outside : (byte < stack_start) ⊎ (top ≤ byte) → in_word byte (Some (top - (frame + 4))) ≡ false
    outside (inl l) = let e : nat_le (top - (frame + 4)) byte ≡ false = (let a : byte < top - (frame + 4) = omega (arith, l, low) in grind (arith, nat_tests)) in ap (λ p. p && nat_lt byte (top - (frame + 4) + 4)) e
    outside (inr l) = by (nat_le (top - (frame + 4)) byte)
      where
        past : nat_lt byte (top - (frame + 4) + 4) ≡ false
        past = let a : top - (frame + 4) + 4 ≤ byte = omega (arith, l, fits) in grind (arith, nat_tests)

        by : (p : Bool) → (p && nat_lt byte (top - (frame + 4) + 4)) ≡ false
        by true = past
        by false = refl

pub entries_are_matched : EntriesAreMatched
entries_are_matched g others active need m call s x def at frame room_is fits =
    let h = at.matched in
    let floor = h.floor in let al = h.aligned in let deep = h.not_deep in let top = h.top in
    let small = taken-small (keeps def) def.frame frame.0 in let t0 = small.0 in let t1 = small.1 in
    let found : stack_start + taken_by def ≤ reg x.core 29 = omega (arith, floor, fits, room_is, t0) in
    let e = entered-by (keeps def) def.frame x h.words h.laid found in
    let st = e.stack in
    record {
      found = found;
      matched = record {
        count = h.count;
        statics = h.statics;
        fourfold = h.fourfold;
        cells = λ number start object is alive placed. stands-same g m (read_byte x.core) _ object.cells start
            (λ i l. sym (e.memory (start + i) (where-is (start + i) (h.lie (start + i) (record { number = number; object = object; start = start; k = i; is_object = is; alive = alive; placed = placed; inside = l; is = refl })))))
            (h.cells number start object is alive placed);
        lie = λ byte w. lies byte (h.lie byte w);
        disjoint = h.disjoint;
        free = λ byte w. not-kept (keeps def) others def.frame (reg x.core 29) byte (omega (arith, found)) (h.free byte w) (where-is byte (h.lie byte w)) (omega (arith, found));
        output = e.out ∙ h.output;
        input = e.left ∙ h.input;
        base = e.base ∙ h.base;
        aligned = omega (arith, st, al, t1, found);
        top = omega (arith, st, top);
        floor = omega (arith, st, floor, t0, room_is, found);
        not_deep = fits;
        words = e.words;
        bytes = subst AreBytes (sym e.left) h.bytes;
        laid = e.laid;
        data_start = e.sizes.data_start ∙ h.data_start;
        behind = h.behind;
        gap = (let low = e.sizes.low in let up = h.gap in omega (arith, low, up));
        order = e.sizes.order ∙ h.order;
        running = e.ending ∙ h.running;
      };
      stack = e.stack;
      result = e.result;
      sizes = e.sizes;
      memory = e.memory;
    }
  where
    where-is : (byte : ℕ) → Lies x.core byte → (byte < stack_start) ⊎ (reg x.core 29 ≤ byte)
    where-is byte (inl i) = let i1 = i.1 in let above = at.matched.laid.above in inl (omega (arith, i1, above))
    where-is byte (inr i) = inr i.0

    lies : (byte : ℕ) → Lies x.core byte → (let y : State = after_entry def x in Lies y.core byte)
    lies byte i = by (taken-small (keeps def) def.frame frame.0) i
      where
        by : (taken_if (keeps def) def.frame ≤ def.frame + 4) × (taken_if (keeps def) def.frame % 4 ≡ 0) → Lies x.core byte → (let y : State = after_entry def x in Lies y.core byte)
        by t i =
            let floor = at.matched.floor in let t0 = t.0 in
            let e = entered-by (keeps def) def.frame x at.matched.words at.matched.laid (omega (arith, floor, fits, room_is, t0)) in go e i
          where
            go : Entered (keeps def) def.frame x (after_entry def x) → Lies x.core byte → (let y : State = after_entry def x in Lies y.core byte)
            go e (inl i) = let start = e.sizes.data_start in let low = e.sizes.low in let i0 = i.0 in let i1 = i.1 in inl (omega (arith, start, i0), omega (arith, low, i1))
            go e (inr i) = let st = e.stack in let i0 = i.0 in inr (omega (arith, st, i0), i.1)
