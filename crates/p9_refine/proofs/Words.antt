-- Words of the stack: read by their bytes, written and read back.
use Rattle.std.proofs.Common.{ℕ, ◌+◌, ◌-◌, ◌*◌, ◌/◌, ◌%◌, ◌^◌, ◌==◌, ◌≡◌, ◌≤◌, ◌<◌, nat_lt, nat_le, Bool, true, false, if◌then◌else◌, List, length, refl, sym, ap, ◌∙◌, arith}
use Rattle.std.specs.Prelude.{slice_index, slice_set}
use Rattle.std.proofs.lemmas.List.{get_or-set_same, get_or-set_other, length-set}
use Rattle.std.proofs.lemmas.Bool.Decides.{nat_tests}
use Rattle.p9_base.specs.declared.halt.Effect.TheVariants as effects
use Rattle.p9_base.specs.declared.halt.HaltCause.TheVariants as halts
use Rattle.p9_base.specs.declared.order.ByteOrder.{ByteOrder}
use Rattle.p9_base.specs.declared.order.ByteOrder.TheVariants.{Big, Little}
use Rattle.p9_base.specs.Core.{Core, text_start, stack_start, stack_end, low_end, readable, writable, word_in, with_four, with_word_in, read_byte, read_word, with_word}
use Rattle.p9_base.specs.Effects.{load_word}
use Rattle.p9_base.specs.Holding.{LaidOut}

-- Bytes of a list

-- four bytes are the same
pub record SameFour (xs ys : List ℕ) (i : ℕ) : Type 0 where
  pub first : slice_index xs i ≡ slice_index ys i
  pub second : slice_index xs (i + 1) ≡ slice_index ys (i + 1)
  pub third : slice_index xs (i + 2) ≡ slice_index ys (i + 2)
  pub fourth : slice_index xs (i + 3) ≡ slice_index ys (i + 3)

pub word_in-same : (o : ByteOrder) (xs ys : List ℕ) (i : ℕ) → SameFour xs ys i → word_in o xs i ≡ word_in o ys i
word_in-same Big xs ys i h = omega (arith, h.first, h.second, h.third, h.fourth)
word_in-same Little xs ys i h = omega (arith, h.first, h.second, h.third, h.fourth)

-- four bytes written
module _ (xs : List ℕ) (i a b c d : ℕ) where
  one : List ℕ
  one = slice_set xs i a

  two : List ℕ
  two = slice_set one (i + 1) b

  three : List ℕ
  three = slice_set two (i + 2) c

  -- a byte behind them
  elsewhere : (j : ℕ) → i + 4 ≤ j → slice_index (with_four xs i a b c d) j ≡ slice_index xs j
  unfolding one two three
  elsewhere j far =
      get_or-set_other three (i + 3) j d 0 (omega (arith, far))
      ∙ get_or-set_other two (i + 2) j c 0 (omega (arith, far))
      ∙ get_or-set_other one (i + 1) j b 0 (omega (arith, far))
      ∙ get_or-set_other xs i j a 0 (omega (arith, far))

  here0 : i + 4 ≤ length xs → slice_index (with_four xs i a b c d) i ≡ a
  unfolding one two three
  here0 room =
      get_or-set_other three (i + 3) i d 0 (omega arith)
      ∙ get_or-set_other two (i + 2) i c 0 (omega arith)
      ∙ get_or-set_other one (i + 1) i b 0 (omega arith)
      ∙ get_or-set_same xs i a 0 (omega (arith, room))

  here1 : i + 4 ≤ length xs → slice_index (with_four xs i a b c d) (i + 1) ≡ b
  unfolding one two three
  here1 room =
      get_or-set_other three (i + 3) (i + 1) d 0 (omega arith)
      ∙ get_or-set_other two (i + 2) (i + 1) c 0 (omega arith)
      ∙ get_or-set_same one (i + 1) b 0 (omega (arith, room, length-set xs i a))

  here2 : i + 4 ≤ length xs → slice_index (with_four xs i a b c d) (i + 2) ≡ c
  unfolding one two three
  here2 room =
      get_or-set_other three (i + 3) (i + 2) d 0 (omega arith)
      ∙ get_or-set_same two (i + 2) c 0 (omega (arith, room, length-set xs i a, length-set one (i + 1) b))

  here3 : i + 4 ≤ length xs → slice_index (with_four xs i a b c d) (i + 3) ≡ d
  unfolding one two three
  here3 room = get_or-set_same three (i + 3) d 0 (omega (arith, room, length-set xs i a, length-set one (i + 1) b, length-set two (i + 2) c))

four-behind : (xs : List ℕ) (i a b c d j : ℕ) → i + 4 ≤ j → SameFour (with_four xs i a b c d) xs j
four-behind xs i a b c d j far = record {
  first = elsewhere xs i a b c d j far;
  second = elsewhere xs i a b c d (j + 1) (omega (arith, far));
  third = elsewhere xs i a b c d (j + 2) (omega (arith, far));
  fourth = elsewhere xs i a b c d (j + 3) (omega (arith, far));
}

word-behind : (o : ByteOrder) (xs : List ℕ) (i w j : ℕ) → i + 4 ≤ j → word_in o (with_word_in o xs i w) j ≡ word_in o xs j
word-behind Big xs i w j far =
    word_in-same Big (with_word_in Big xs i w) xs j (four-behind xs i (w / 2 ^ 24 % 2 ^ 8) (w / 2 ^ 16 % 2 ^ 8) (w / 2 ^ 8 % 2 ^ 8) (w % 2 ^ 8) j far)
word-behind Little xs i w j far =
    word_in-same Little (with_word_in Little xs i w) xs j (four-behind xs i (w % 2 ^ 8) (w / 2 ^ 8 % 2 ^ 8) (w / 2 ^ 16 % 2 ^ 8) (w / 2 ^ 24 % 2 ^ 8) j far)

four-parts : (w : ℕ) → w < 2 ^ 32 → w / 2 ^ 24 % 2 ^ 8 * 2 ^ 24 + w / 2 ^ 16 % 2 ^ 8 * 2 ^ 16 + w / 2 ^ 8 % 2 ^ 8 * 2 ^ 8 + w % 2 ^ 8 ≡ w
four-parts w small = omega (arith, small)

word-here : (o : ByteOrder) (xs : List ℕ) (i w : ℕ) → i + 4 ≤ length xs → w < 2 ^ 32 → word_in o (with_word_in o xs i w) i ≡ w
word-here Big xs i w room small =
    let a : ℕ = w / 2 ^ 24 % 2 ^ 8 in
    let b : ℕ = w / 2 ^ 16 % 2 ^ 8 in
    let c : ℕ = w / 2 ^ 8 % 2 ^ 8 in
    let d : ℕ = w % 2 ^ 8 in
    omega (arith, here0 xs i a b c d room, here1 xs i a b c d room, here2 xs i a b c d room, here3 xs i a b c d room, four-parts w small)
word-here Little xs i w room small =
    let a : ℕ = w % 2 ^ 8 in
    let b : ℕ = w / 2 ^ 8 % 2 ^ 8 in
    let c : ℕ = w / 2 ^ 16 % 2 ^ 8 in
    let d : ℕ = w / 2 ^ 24 % 2 ^ 8 in
    omega (arith, here0 xs i a b c d room, here1 xs i a b c d room, here2 xs i a b c d room, here3 xs i a b c d room, four-parts w small)

-- The stack

not-low : (a : ℕ) → stack_start ≤ a → nat_lt a stack_start ≡ false
not-low a high = grind (arith, nat_tests)

byte-of-stack : (c : Core) (a : ℕ) → stack_start ≤ a → read_byte c a ≡ slice_index c.stack (a - stack_start)
byte-of-stack c a high = ap (λ b. if b then slice_index c.low (a - text_start) else slice_index c.stack (a - stack_start)) (not-low a high)

word-of-stack : (c : Core) (a : ℕ) → stack_start ≤ a → read_word c a ≡ word_in c.order c.stack (a - stack_start)
word-of-stack c a high = ap (λ b. if b then word_in c.order c.low (a - text_start) else word_in c.order c.stack (a - stack_start)) (not-low a high)

pub written-to-stack : (c : Core) (a w : ℕ) → stack_start ≤ a → with_word c a w ≡ record c { stack = with_word_in c.order c.stack (a - stack_start) w }
written-to-stack c a w high =
    ap (λ b. (let d : Core = (if b then record c { low = with_word_in c.order c.low (a - text_start) w } else record c { stack = with_word_in c.order c.stack (a - stack_start) w }) in d)) (not-low a high)

-- a word whose bytes are the same is the same
pub word-same : (c d : Core) (a : ℕ) → d.order ≡ c.order → stack_start ≤ a → ((b : ℕ) → a ≤ b → b < a + 4 → read_byte d b ≡ read_byte c b) → read_word d a ≡ read_word c a
word-same c d a order high same =
    word-of-stack d a high
    ∙ word_in-same d.order d.stack c.stack (a - stack_start) (record {
      first = (let i : a ≡ a = refl in at 0 (a - stack_start) (omega (arith, high)) (omega arith));
      second = at 1 (a - stack_start + 1) (omega (arith, high)) (omega arith);
      third = at 2 (a - stack_start + 2) (omega (arith, high)) (omega arith);
      fourth = at 3 (a - stack_start + 3) (omega (arith, high)) (omega arith);
    })
    ∙ ap (λ o. word_in o c.stack (a - stack_start)) order
    ∙ sym (word-of-stack c a high)
  where
    at : (k i : ℕ) → a + k - stack_start ≡ i → k < 4 → slice_index d.stack i ≡ slice_index c.stack i
    at k i e near =
        ap (slice_index d.stack) (sym e)
        ∙ sym (byte-of-stack d (a + k) (omega (arith, high)))
        ∙ same (a + k) (omega arith) (omega (arith, near))
        ∙ byte-of-stack c (a + k) (omega (arith, high))
        ∙ ap (slice_index c.stack) e

-- a word behind the one that is written is as before
pub word-kept : (c : Core) (a w k : ℕ) → stack_start ≤ a → a + 4 ≤ k → read_word (with_word c a w) k ≡ read_word c k
word-kept c a w k high far =
    ap (λ d. read_word d k) (written-to-stack c a w high)
    ∙ word-of-stack (record c { stack = with_word_in c.order c.stack (a - stack_start) w }) k (omega (arith, high, far))
    ∙ word-behind c.order c.stack (a - stack_start) w (k - stack_start) (omega (arith, high, far))
    ∙ sym (word-of-stack c k (omega (arith, high, far)))

-- a word that is written is read back
pub word-read : (c : Core) (a w : ℕ) → stack_start ≤ a → a + 4 ≤ stack_end → length c.stack ≡ stack_end - stack_start → w < 2 ^ 32 → read_word (with_word c a w) a ≡ w
word-read c a w high below size small =
    ap (λ d. read_word d a) (written-to-stack c a w high)
    ∙ word-of-stack (record c { stack = with_word_in c.order c.stack (a - stack_start) w }) a high
    ∙ word-here c.order c.stack (a - stack_start) w (omega (arith, high, below, size)) small

-- Access

writable-by : (base end a : ℕ) → base ≤ end → end ≤ stack_start → stack_start ≤ a → a + 4 ≤ stack_end →
    4 ≤ (if nat_lt a base then 0 else if nat_lt a end then end - a else if nat_lt a stack_start then 0 else if nat_lt a stack_end then stack_end - a else 0)
writable-by base end a h above high below = grind (arith, nat_tests)

pub stack-writable : (c : Core) (a : ℕ) → LaidOut c → stack_start ≤ a → a + 4 ≤ stack_end → 4 ≤ writable c a
stack-writable c a l high below = writable-by c.data_start (low_end c) a l.data_and_bss l.above high below

readable-by : (text base end a : ℕ) → text ≤ base → base ≤ end → end ≤ stack_start → stack_start ≤ a → a + 4 ≤ stack_end →
    nat_le 4 (if nat_lt a text_start then 0 else if nat_lt a text then (if text == base then end - a else text - a) else
    if nat_lt a base then 0 else if nat_lt a end then end - a else if nat_lt a stack_start then 0 else if nat_lt a stack_end then stack_end - a else 0) ≡ true
readable-by text base end a g h above high below = grind (arith, nat_tests)

pub stack-loaded : (c : Core) (r a : ℕ) → LaidOut c → stack_start ≤ a → a + 4 ≤ stack_end → a % 4 ≡ 0 → load_word c r a ≡ effects.Load r (read_word c a)
stack-loaded c r a l high below aligned =
    by (a % 4 == 0) (nat_le 4 (readable c a)) (let e : (a % 4 == 0) ≡ true = grind (arith, nat_tests, aligned) in e)
    (readable-by c.text_end c.data_start (low_end c) a l.gap l.data_and_bss l.above high below)
  where
    by : (b d : Bool) → b ≡ true → d ≡ true →
        (if b then (if d then effects.Load r (read_word c a) else effects.Stop (halts.BadAddress a)) else effects.Stop (halts.Misaligned a)) ≡ effects.Load r (read_word c a)
    by true true e f = refl
    by true false e f = absurd (cc f)
    by false d e f = absurd (cc e)
