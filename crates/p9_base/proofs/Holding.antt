-- Registers stay words, register 0 stays 0, and memory stays bytes: what effects and system calls leave.
use Rattle.std.proofs.Common.{ℕ, zero, ◌+◌, ◌-◌, ◌*◌, ◌/◌, ◌%◌, ◌^◌, ◌==◌, ◌≡◌, ◌≢◌, ◌≤◌, ◌<◌, ◌++◌, Bool, true, false, not, nat_lt, nat_le, if◌then◌else◌, Option, Some, None, Result, Ok, Err, refl, sym, ◌∙◌, subst, arith, List, length, take, drop, min, slice_index, slice_set, bit_and, All, position, ◌||◌}
use Rattle.std.proofs.Math.Nat.{div-le_self, mod-le, pow-le-pow_right}
use Rattle.std.proofs.lemmas.Nat.{and_le_l}
use Rattle.std.proofs.lemmas.List.{get_or-set_other, get_or_past, length-set}
use Rattle.std.proofs.lemmas.List.Elements.{All-append, All-take, All-drop, All-set, All-get_or}
use Rattle.std.proofs.lemmas.Bool.{ltb-true, ltb-false}
use Rattle.std.proofs.lemmas.Bool.Decides.{nat_tests}
use Rattle.p9_base.specs.Words.{IsWord, word_sum, is_negative, magnitude, with_sign, shift_right, shift_right_signed, low8, low16, word_nor}
use Rattle.p9_base.specs.Numbers.{sign_extended}
use Rattle.p9_base.specs.declared.halt.HaltCause.{HaltCause}
use Rattle.p9_base.specs.declared.halt.HaltCause.TheVariants as halts
use Rattle.p9_base.specs.declared.halt.Effect.{Effect}
use Rattle.p9_base.specs.declared.halt.Effect.TheVariants as effects
use Rattle.p9_base.specs.declared.halt.Asked.{Asked}
use Rattle.p9_base.specs.declared.halt.Asked.TheVariants as asks
use Rattle.p9_base.specs.declared.order.ByteOrder.{ByteOrder}
use Rattle.p9_base.specs.declared.order.ByteOrder.TheVariants.{Big, Little}
use Rattle.p9_base.specs.Core.{Core, text_start, stack_start, reg, with_reg, readable, writable, read_byte, read_half, read_word, half_in, word_in, with_two, with_four, with_half_in, with_word_in, bytes_from, with_bytes, over}
use Rattle.p9_base.specs.Effects.{truth, low5, unless_overflow, unless_zero, wide_pair, load_byte, load_half, load_word, store_byte, store_half, store_word, advanced, halted, sent}
use Rattle.p9_base.specs.SystemCalls.{State, argument, then_one, then_three, exits_of, asked_exits, asked_read, asked_write, asked, called}
use Rattle.p9_base.specs.Holding.{AreWords, AreBytes, HoldsWords}
use Rattle.p9_base.proofs.Shifts.{shifted_below}

-- Items of lists

pub index-below-by : (b : Bool) (n : ℕ) (xs : List ℕ) (i : ℕ) → nat_lt i (length xs) ≡ b → 0 < n → All (λ x. x < n) xs → slice_index xs i < n
index-below-by true n xs i e some h = All-get_or (λ x. x < n) xs i 0 (ltb-true i (length xs) e) h
index-below-by false n xs i e some h =
    let P : ℕ → Type 0 = λ x. x < n in
    subst P (sym (get_or_past xs i 0 (ltb-false i (length xs) e))) some

pub index-below : (n : ℕ) (xs : List ℕ) (i : ℕ) → 0 < n → All (λ x. x < n) xs → slice_index xs i < n
index-below n xs i some h = index-below-by (nat_lt i (length xs)) n xs i refl some h

pub register-word : (c : Core) (r : ℕ) → HoldsWords c → reg c r < 2 ^ 32
register-word c r h = index-below (2 ^ 32) c.regs r (omega arith) h.registers

pub byte-choice : (b : Bool) (xs ys : List ℕ) (i j : ℕ) → AreBytes xs → AreBytes ys → (if b then slice_index xs i else slice_index ys j) < 2 ^ 8
byte-choice true xs ys i j hx hy = index-below (2 ^ 8) xs i (omega arith) hx
byte-choice false xs ys i j hx hy = index-below (2 ^ 8) ys j (omega arith) hy

pub half_in-below : (o : ByteOrder) (xs : List ℕ) (i : ℕ) → AreBytes xs → half_in o xs i < 2 ^ 16
half_in-below o xs i h =
    let a : slice_index xs i < 2 ^ 8 = index-below (2 ^ 8) xs i (omega arith) h in
    let b : slice_index xs (i + 1) < 2 ^ 8 = index-below (2 ^ 8) xs (i + 1) (omega arith) h in
    by_order o a b
  where
    by_order : (o : ByteOrder) → slice_index xs i < 2 ^ 8 → slice_index xs (i + 1) < 2 ^ 8 → half_in o xs i < 2 ^ 16
    by_order Big a b = omega (arith, a, b)
    by_order Little a b = omega (arith, a, b)

pub word_in-below : (o : ByteOrder) (xs : List ℕ) (i : ℕ) → AreBytes xs → word_in o xs i < 2 ^ 32
word_in-below o xs i h =
    let a : slice_index xs i < 2 ^ 8 = index-below (2 ^ 8) xs i (omega arith) h in
    let b : slice_index xs (i + 1) < 2 ^ 8 = index-below (2 ^ 8) xs (i + 1) (omega arith) h in
    let c : slice_index xs (i + 2) < 2 ^ 8 = index-below (2 ^ 8) xs (i + 2) (omega arith) h in
    let d : slice_index xs (i + 3) < 2 ^ 8 = index-below (2 ^ 8) xs (i + 3) (omega arith) h in
    by_order o a b c d
  where
    by_order :
        (o : ByteOrder) → slice_index xs i < 2 ^ 8 → slice_index xs (i + 1) < 2 ^ 8 → slice_index xs (i + 2) < 2 ^ 8
        → slice_index xs (i + 3) < 2 ^ 8 → word_in o xs i < 2 ^ 32
    by_order Big a b c d = omega (arith, a, b, c, d)
    by_order Little a b c d = omega (arith, a, b, c, d)

pub read_byte-below : (c : Core) (a : ℕ) → HoldsWords c → read_byte c a < 2 ^ 8
read_byte-below c a h =
    byte-choice (nat_lt a stack_start) c.low c.stack (a - text_start) (a - stack_start) h.low_bytes h.stack_bytes

pub choice-below : (b : Bool) (n x y : ℕ) → x < n → y < n → (if b then x else y) < n
choice-below true n x y hx hy = hx
choice-below false n x y hx hy = hy

pub read_half-below : (c : Core) (a : ℕ) → HoldsWords c → read_half c a < 2 ^ 16
read_half-below c a h =
    choice-below (nat_lt a stack_start) (2 ^ 16) (half_in c.order c.low (a - text_start)) (half_in c.order c.stack (a - stack_start))
    (half_in-below c.order c.low (a - text_start) h.low_bytes) (half_in-below c.order c.stack (a - stack_start) h.stack_bytes)

pub read_word-below : (c : Core) (a : ℕ) → HoldsWords c → read_word c a < 2 ^ 32
read_word-below c a h =
    choice-below (nat_lt a stack_start) (2 ^ 32) (word_in c.order c.low (a - text_start)) (word_in c.order c.stack (a - stack_start))
    (word_in-below c.order c.low (a - text_start) h.low_bytes) (word_in-below c.order c.stack (a - stack_start) h.stack_bytes)

-- Values

pub modulo-word : (x : ℕ) → x % 2 ^ 32 < 2 ^ 32
modulo-word x = omega arith

pub truth-word : (b : Bool) → truth b < 2 ^ 32
truth-word true = omega arith
truth-word false = omega arith

pub and-word : (x y : ℕ) → x < 2 ^ 32 → bit_and x y < 2 ^ 32
and-word x y h = omega (arith, and_le_l x y)

pub nor-word : (x y : ℕ) → word_nor x y < 2 ^ 32
nor-word x y = omega arith

pub upper-word : (m : ℕ) → m < 2 ^ 16 → m * 2 ^ 16 < 2 ^ 32
upper-word m h = omega arith

pub half-word : (m : ℕ) → m < 2 ^ 16 → m < 2 ^ 32
half-word m h = omega arith

pub byte-word : (m : ℕ) → m < 2 ^ 8 → m < 2 ^ 32
byte-word m h = omega arith

pub extended8-word : (w : ℕ) → sign_extended 8 w < 2 ^ 32
extended8-word w = grind (arith, nat_tests)

pub extended16-word : (w : ℕ) → sign_extended 16 w < 2 ^ 32
extended16-word w = grind (arith, nat_tests)

pub right-word : (x k : ℕ) → x < 2 ^ 32 → shift_right x k < 2 ^ 32
right-word x k h = omega (arith, div-le_self x (2 ^ k))

pub signed_right-word-by : (b : Bool) (x k : ℕ) → x < 2 ^ 32 → x / 2 ^ k < 2 ^ (32 - k) → 2 ^ (32 - k) ≤ 2 ^ 32 →
    (if b then x / 2 ^ k + (2 ^ 32 - 2 ^ (32 - k)) else x / 2 ^ k) < 2 ^ 32
signed_right-word-by true x k h low size = omega arith
signed_right-word-by false x k h low size = omega arith

pub signed_right-word : (x k : ℕ) → x < 2 ^ 32 → k < 32 → shift_right_signed x k < 2 ^ 32
signed_right-word x k h small =
    let below : 32 - k ≤ 32 = omega arith in
    let some : zero < 2 = omega arith in
    let size : 2 ^ (32 - k) ≤ 2 ^ 32 = pow-le-pow_right {n = 2} some {i = 32 - k} {j = 32} below in
    signed_right-word-by (is_negative x) x k h (shifted_below x k h small) size

pub low5-small : (x : ℕ) → low5 x < 32
low5-small x = omega arith

pub magnitude-word-by : (b : Bool) (x : ℕ) → nat_le (2 ^ 31) x ≡ b → x < 2 ^ 32 → (if b then 2 ^ 32 - x else x) < 2 ^ 32
magnitude-word-by true x e h = grind (arith, nat_tests)
magnitude-word-by false x e h = h

pub magnitude-word : (x : ℕ) → x < 2 ^ 32 → magnitude x < 2 ^ 32
magnitude-word x h = magnitude-word-by (is_negative x) x refl h

pub with_sign-word : (b : Bool) (x : ℕ) → x < 2 ^ 32 → with_sign b x < 2 ^ 32
with_sign-word true x h = modulo-word (2 ^ 32 - x)
with_sign-word false x h = h

pub quotient-word : (x y : ℕ) → x < 2 ^ 32 → x / y < 2 ^ 32
quotient-word x y h = omega (arith, div-le_self x y)

pub rest-word : (x y : ℕ) → x < 2 ^ 32 → x % y < 2 ^ 32
rest-word x y h = omega (arith, mod-le x y)

pub high-word : (p : ℕ) → p < 2 ^ 64 → p / 2 ^ 32 < 2 ^ 32
high-word p h = omega arith

-- an effect writes words and stores bytes
abbrev pub ValuesFit : Effect → Type 0
ValuesFit (effects.Write r v) = v < 2 ^ 32
ValuesFit (effects.Pair hi lo) = (hi < 2 ^ 32) × (lo < 2 ^ 32)
ValuesFit (effects.Load r v) = v < 2 ^ 32
ValuesFit (effects.StoreByte a v) = v < 2 ^ 8
ValuesFit (effects.StoreHalf a v) = Unit {0}
ValuesFit (effects.StoreWord a v) = Unit {0}
ValuesFit (effects.Branch r taken to) = Unit {0}
ValuesFit (effects.JumpTo r to) = Unit {0}
ValuesFit effects.Call = Unit {0}
ValuesFit (effects.Stop cause) = Unit {0}

pub choice-values : (b : Bool) (x y : Effect) → ValuesFit x → ValuesFit y → ValuesFit (if b then x else y)
choice-values true x y hx hy = hx
choice-values false x y hx hy = hy

pub unless_overflow-values : (b : Bool) (r v : ℕ) → v < 2 ^ 32 → ValuesFit (unless_overflow b r v)
unless_overflow-values true r v h = tt
unless_overflow-values false r v h = h

pub unless_zero-values : (d rest quotient : ℕ) → rest < 2 ^ 32 → quotient < 2 ^ 32 → ValuesFit (unless_zero d rest quotient)
unless_zero-values d rest quotient hr hq = choice-values (d == 0) (effects.Stop halts.Divide) (effects.Pair rest quotient) tt (hr, hq)

pub wide_pair-values : (p : ℕ) → p < 2 ^ 64 → ValuesFit (wide_pair p)
wide_pair-values p h = (high-word p h, modulo-word p)

pub load_byte-values :
    (c : Core) (r a : ℕ) (extended : ℕ → ℕ) → HoldsWords c → ((b : ℕ) → b < 2 ^ 8 → extended b < 2 ^ 32) →
    ValuesFit (load_byte c r a extended)
load_byte-values c r a extended h e =
    choice-values (nat_le 1 (readable c a)) (effects.Load r (extended (read_byte c a))) (effects.Stop (halts.BadAddress a))
    (e (read_byte c a) (read_byte-below c a h)) tt

pub load_half-values :
    (c : Core) (r a : ℕ) (extended : ℕ → ℕ) → HoldsWords c → ((b : ℕ) → b < 2 ^ 16 → extended b < 2 ^ 32) →
    ValuesFit (load_half c r a extended)
load_half-values c r a extended h e =
    choice-values (a % 2 == 0)
    (if nat_le 2 (readable c a) then effects.Load r (extended (read_half c a)) else effects.Stop (halts.BadAddress a))
    (effects.Stop (halts.Misaligned a))
    (choice-values (nat_le 2 (readable c a)) (effects.Load r (extended (read_half c a))) (effects.Stop (halts.BadAddress a))
    (e (read_half c a) (read_half-below c a h)) tt) tt

pub load_word-values : (c : Core) (r a : ℕ) → HoldsWords c → ValuesFit (load_word c r a)
load_word-values c r a h =
    choice-values (a % 4 == 0)
    (if nat_le 4 (readable c a) then effects.Load r (read_word c a) else effects.Stop (halts.BadAddress a))
    (effects.Stop (halts.Misaligned a))
    (choice-values (nat_le 4 (readable c a)) (effects.Load r (read_word c a)) (effects.Stop (halts.BadAddress a))
    (read_word-below c a h) tt) tt

pub store_byte-values : (c : Core) (a v : ℕ) → ValuesFit (store_byte c a v)
store_byte-values c a v =
    choice-values (nat_le 1 (writable c a)) (effects.StoreByte a (low8 v)) (effects.Stop (halts.BadAddress a)) (omega arith) tt

pub store_half-values : (c : Core) (a v : ℕ) → ValuesFit (store_half c a v)
store_half-values c a v =
    choice-values (a % 2 == 0) (if nat_le 2 (writable c a) then effects.StoreHalf a (low16 v) else effects.Stop (halts.BadAddress a))
    (effects.Stop (halts.Misaligned a))
    (choice-values (nat_le 2 (writable c a)) (effects.StoreHalf a (low16 v)) (effects.Stop (halts.BadAddress a)) tt tt) tt

pub store_word-values : (c : Core) (a v : ℕ) → ValuesFit (store_word c a v)
store_word-values c a v =
    choice-values (a % 4 == 0) (if nat_le 4 (writable c a) then effects.StoreWord a v else effects.Stop (halts.BadAddress a))
    (effects.Stop (halts.Misaligned a))
    (choice-values (nat_le 4 (writable c a)) (effects.StoreWord a v) (effects.Stop (halts.BadAddress a)) tt tt) tt

-- A core after an effect

pub with_reg-words-by :
    (b : Bool) (regs : List ℕ) (r v : ℕ) → (r == 0) ≡ b → v < 2 ^ 32 → AreWords regs →
    AreWords (if b then regs else slice_set regs r v)
with_reg-words-by true regs r v e small h = h
with_reg-words-by false regs r v e small h = All-set IsWord regs r v small h

pub with_reg-count-by : (b : Bool) (regs : List ℕ) (r v : ℕ) → length (if b then regs else slice_set regs r v) ≡ length regs
with_reg-count-by true regs r v = refl
with_reg-count-by false regs r v = length-set regs r v

pub nonzero : (r : ℕ) → (r == 0) ≡ false → 0 ≢ r
nonzero r e = grind (arith, nat_tests)

pub with_reg-zero-by :
    (b : Bool) (regs : List ℕ) (r v : ℕ) → (r == 0) ≡ b → slice_index (if b then regs else slice_set regs r v) 0 ≡ slice_index regs 0
with_reg-zero-by true regs r v e = refl
with_reg-zero-by false regs r v e = get_or-set_other regs r 0 v 0 (nonzero r e)

pub with_register-words : (c : Core) (r v : ℕ) → v < 2 ^ 32 → HoldsWords c → HoldsWords (record c { regs = with_reg c.regs r v })
with_register-words c r v small h = record {
  count = with_reg-count-by (r == 0) c.regs r v ∙ h.count;
  zero_register = with_reg-zero-by (r == 0) c.regs r v refl ∙ h.zero_register;
  registers = with_reg-words-by (r == 0) c.regs r v refl small h.registers;
  high = h.high;
  less = h.less;
  low_bytes = h.low_bytes;
  stack_bytes = h.stack_bytes;
}

pub memory-words-by :
    (b : Bool) (c : Core) (bytes stack : List ℕ) → HoldsWords c → AreBytes bytes → AreBytes stack →
    HoldsWords (if b then record c { low = bytes } else record c { stack = stack })
memory-words-by true c bytes stack h hb hs = record {
  count = h.count;
  zero_register = h.zero_register;
  registers = h.registers;
  high = h.high;
  less = h.less;
  low_bytes = hb;
  stack_bytes = h.stack_bytes;
}
memory-words-by false c bytes stack h hb hs = record {
  count = h.count;
  zero_register = h.zero_register;
  registers = h.registers;
  high = h.high;
  less = h.less;
  low_bytes = h.low_bytes;
  stack_bytes = hs;
}

pub set-bytes : (xs : List ℕ) (i v : ℕ) → v < 2 ^ 8 → AreBytes xs → AreBytes (slice_set xs i v)
set-bytes xs i v small h = All-set (λ b. b < 2 ^ 8) xs i v small h

pub low8-byte : (x : ℕ) → x % 2 ^ 8 < 2 ^ 8
low8-byte x = omega arith

pub two-bytes : (xs : List ℕ) (i x y : ℕ) → x < 2 ^ 8 → y < 2 ^ 8 → AreBytes xs → AreBytes (with_two xs i x y)
two-bytes xs i x y hx hy h = set-bytes (slice_set xs i x) (i + 1) y hy (set-bytes xs i x hx h)

pub four-bytes :
    (xs : List ℕ) (i x y z w : ℕ) → x < 2 ^ 8 → y < 2 ^ 8 → z < 2 ^ 8 → w < 2 ^ 8 → AreBytes xs →
    AreBytes (with_four xs i x y z w)
four-bytes xs i x y z w hx hy hz hw h =
    set-bytes (slice_set (with_two xs i x y) (i + 2) z) (i + 3) w hw
    (set-bytes (with_two xs i x y) (i + 2) z hz (two-bytes xs i x y hx hy h))

pub half-bytes : (o : ByteOrder) (xs : List ℕ) (i v : ℕ) → AreBytes xs → AreBytes (with_half_in o xs i v)
half-bytes Big xs i v h = two-bytes xs i (v / 2 ^ 8 % 2 ^ 8) (v % 2 ^ 8) (low8-byte (v / 2 ^ 8)) (low8-byte v) h
half-bytes Little xs i v h = two-bytes xs i (v % 2 ^ 8) (v / 2 ^ 8 % 2 ^ 8) (low8-byte v) (low8-byte (v / 2 ^ 8)) h

pub word-bytes : (o : ByteOrder) (xs : List ℕ) (i v : ℕ) → AreBytes xs → AreBytes (with_word_in o xs i v)
word-bytes Big xs i v h =
    four-bytes xs i (v / 2 ^ 24 % 2 ^ 8) (v / 2 ^ 16 % 2 ^ 8) (v / 2 ^ 8 % 2 ^ 8) (v % 2 ^ 8)
    (low8-byte (v / 2 ^ 24)) (low8-byte (v / 2 ^ 16)) (low8-byte (v / 2 ^ 8)) (low8-byte v) h
word-bytes Little xs i v h =
    four-bytes xs i (v % 2 ^ 8) (v / 2 ^ 8 % 2 ^ 8) (v / 2 ^ 16 % 2 ^ 8) (v / 2 ^ 24 % 2 ^ 8)
    (low8-byte v) (low8-byte (v / 2 ^ 8)) (low8-byte (v / 2 ^ 16)) (low8-byte (v / 2 ^ 24)) h

pub over-bytes : (xs : List ℕ) (i : ℕ) (ys : List ℕ) → AreBytes xs → AreBytes ys → AreBytes (over xs i ys)
over-bytes xs i ys hx hy =
    All-append (λ b. b < 2 ^ 8) (take i xs ++ ys) (drop (i + length ys) xs)
    (All-append (λ b. b < 2 ^ 8) (take i xs) ys (All-take (λ b. b < 2 ^ 8) i xs hx) hy)
    (All-drop (λ b. b < 2 ^ 8) (i + length ys) xs hx)

pub advanced-words : (c : Core) (reader : Bool) → HoldsWords c → HoldsWords (advanced c reader)
advanced-words c reader h = record {
  count = h.count;
  zero_register = h.zero_register;
  registers = h.registers;
  high = h.high;
  less = h.less;
  low_bytes = h.low_bytes;
  stack_bytes = h.stack_bytes;
}

pub sent-words : (c : Core) (to : ℕ) → HoldsWords c → HoldsWords (sent c to)
sent-words c to h = record {
  count = h.count;
  zero_register = h.zero_register;
  registers = h.registers;
  high = h.high;
  less = h.less;
  low_bytes = h.low_bytes;
  stack_bytes = h.stack_bytes;
}

pub halted-words : (c : Core) (cause : HaltCause) → HoldsWords c → HoldsWords (halted c cause)
halted-words c cause h = record {
  count = h.count;
  zero_register = h.zero_register;
  registers = h.registers;
  high = h.high;
  less = h.less;
  low_bytes = h.low_bytes;
  stack_bytes = h.stack_bytes;
}

pub with_bytes-words : (c : Core) (a : ℕ) (xs : List ℕ) → HoldsWords c → AreBytes xs → HoldsWords (with_bytes c a xs)
with_bytes-words c a xs h hx =
    memory-words-by (nat_lt a stack_start) c (over c.low (a - text_start) xs) (over c.stack (a - stack_start) xs) h
    (over-bytes c.low (a - text_start) xs h.low_bytes hx) (over-bytes c.stack (a - stack_start) xs h.stack_bytes hx)

-- Steps

pub record HoldsAll (s : State) : Type 0 where
  pub words : HoldsWords s.core
  pub left : AreBytes s.left

pub answered-words : (c : Core) (v : ℕ) → v < 2 ^ 32 → HoldsWords c → HoldsWords (advanced (record c { regs = with_reg c.regs 1 v }) false)
answered-words c v small h = advanced-words (record c { regs = with_reg c.regs 1 v }) false (with_register-words c 1 v small h)

-- counts that a system call answers are words
abbrev pub CountFits : Asked → Type 0
CountFits (asks.Read at n) = n < 2 ^ 32
CountFits (asks.Write at n) = n < 2 ^ 32
CountFits (asks.Exits at len) = Unit {0}
CountFits asks.Refused = Unit {0}
CountFits (asks.Stop cause) = Unit {0}

pub called-words : (k : Asked) (s : State) → CountFits k → HoldsAll s → HoldsAll (called k s)
called-words (asks.Exits at len) s f h = record {
  words = record {
    count = h.words.count;
    zero_register = h.words.zero_register;
    registers = h.words.registers;
    high = h.words.high;
    less = h.words.less;
    low_bytes = h.words.low_bytes;
    stack_bytes = h.words.stack_bytes;
  };
  left = h.left;
}
called-words (asks.Read at n) s f h =
    let k : ℕ = min n (length s.left) in
    let small : k < 2 ^ 32 = omega (arith, f) in
    record {
      words =
          answered-words (with_bytes s.core at (take k s.left)) k small
          (with_bytes-words s.core at (take k s.left) h.words (All-take (λ b. b < 2 ^ 8) k s.left h.left));
      left = All-drop (λ b. b < 2 ^ 8) k s.left h.left;
    }
called-words (asks.Write at n) s f h = record { words = answered-words s.core n f h.words; left = h.left }
called-words asks.Refused s f h = record { words = answered-words s.core (2 ^ 32 - 1) (omega arith) h.words; left = h.left }
called-words (asks.Stop cause) s f h = record { words = halted-words s.core cause h.words; left = h.left }

pub choice-count : (b : Bool) (x y : Asked) → CountFits x → CountFits y → CountFits (if b then x else y)
choice-count true x y hx hy = hx
choice-count false x y hx hy = hy

pub then_one-count :
    (r : Result ℕ HaltCause) (go : ℕ → Asked) → ((v : ℕ) → r ≡ Ok v → CountFits (go v)) → CountFits (then_one r go)
then_one-count (Ok v) go h = h v refl
then_one-count (Err cause) go h = tt

pub exits_of-count : (a reach : ℕ) (k : Option ℕ) → CountFits (exits_of a reach k)
exits_of-count a reach None = tt
exits_of-count a reach (Some k) = tt

pub asked_exits-count : (c : Core) (a : ℕ) → CountFits (asked_exits c a)
asked_exits-count c a =
    choice-count (a == 0) (asks.Exits 0 0)
    (exits_of a (readable c a) (position (λ b. b == 0) (bytes_from c a (readable c a)))) tt
    (exits_of-count a (readable c a) (position (λ b. b == 0) (bytes_from c a (readable c a))))

pub asked_read-count : (c : Core) (d a n : ℕ) → n < 2 ^ 32 → CountFits (asked_read c d a n)
asked_read-count c d a n h =
    choice-count (not (d == 0) || is_negative n) asks.Refused
    (if nat_le n (writable c a) then asks.Read a n else asks.Stop (halts.BadAddress (a + writable c a))) tt
    (choice-count (nat_le n (writable c a)) (asks.Read a n) (asks.Stop (halts.BadAddress (a + writable c a))) h tt)

pub asked_write-count : (c : Core) (d a n : ℕ) → n < 2 ^ 32 → CountFits (asked_write c d a n)
asked_write-count c d a n h =
    choice-count (not (d == 1) || is_negative n) asks.Refused
    (if nat_le n (readable c a) then asks.Write a n else asks.Stop (halts.BadAddress (a + readable c a))) tt
    (choice-count (nat_le n (readable c a)) (asks.Write a n) (asks.Stop (halts.BadAddress (a + readable c a))) h tt)

pub word_choice : (b d : Bool) (v w : ℕ) (x y : HaltCause) → w < 2 ^ 32 →
    (let r : Result ℕ HaltCause = (if b then (if d then Ok w else Err x) else Err y) in r ≡ Ok v) → v < 2 ^ 32
word_choice true true v w x y h e =
    let P : ℕ → Type 0 = λ u. u < 2 ^ 32 in
    let same : w ≡ v = cc in
    subst P same h
word_choice true false v w x y h e = cc
word_choice false d v w x y h e = cc

pub argument-word : (c : Core) (a v : ℕ) → HoldsWords c → argument c a ≡ Ok v → v < 2 ^ 32
argument-word c a v h e =
    word_choice (a % 4 == 0) (nat_le 4 (readable c a)) v (read_word c a) (halts.BadAddress (a + readable c a)) (halts.Misaligned a)
    (read_word-below c a h) e

pub then_three-count :
    (c : Core) (go : ℕ → ℕ → ℕ → Asked) → HoldsWords c → ((d a n : ℕ) → n < 2 ^ 32 → CountFits (go d a n)) →
    CountFits (then_three c go)
then_three-count c go words h =
    then_one-count (argument c (word_sum (reg c 29) 4))
    (λ d. then_one (argument c (word_sum (reg c 29) 8)) (λ a. then_one (argument c (word_sum (reg c 29) 12)) (λ n. go d a n)))
    (λ d e. then_one-count (argument c (word_sum (reg c 29) 8))
    (λ a. then_one (argument c (word_sum (reg c 29) 12)) (λ n. go d a n))
    (λ a e. then_one-count (argument c (word_sum (reg c 29) 12)) (λ n. go d a n)
    (λ n e. h d a n (argument-word c (word_sum (reg c 29) 12) n words e))))

pub asked-count : (c : Core) → HoldsWords c → CountFits (asked c)
asked-count c words =
    choice-count (reg c 1 == 8) (then_one (argument c (word_sum (reg c 29) 4)) (asked_exits c))
    (if reg c 1 == 15 then then_three c (asked_read c) else
    if reg c 1 == 20 then then_three c (asked_write c) else asks.Stop (halts.BadCall (reg c 1)))
    (then_one-count (argument c (word_sum (reg c 29) 4)) (asked_exits c) (λ a e. asked_exits-count c a))
    (choice-count (reg c 1 == 15) (then_three c (asked_read c))
    (if reg c 1 == 20 then then_three c (asked_write c) else asks.Stop (halts.BadCall (reg c 1)))
    (then_three-count c (asked_read c) words (asked_read-count c))
    (choice-count (reg c 1 == 20) (then_three c (asked_write c)) (asks.Stop (halts.BadCall (reg c 1)))
    (then_three-count c (asked_write c) words (asked_write-count c)) tt))
