-- The code of a system call: it stores its first argument, makes the call, and returns.
use Rattle.std.proofs.Common.{◌≡◌, ◌≤◌, ◌<◌, ◌⊎◌, inl, inr, ℕ, zero, suc, ◌+◌, ◌-◌, ◌*◌, ◌%◌, ◌==◌, ◌||◌, nat_le, nat_lt, Bool, true, false, if◌then◌else◌, Ok, List, [], length, refl, sym, ap, ◌∙◌, arith}
use Rattle.std.proofs.lemmas.Bool.Decides.{nat_tests}
use Rattle.std.proofs.lemmas.List.{get_or-set_same}
use Rattle.p9_base.specs.declared.halt.HaltCause.TheVariants as halts
use Rattle.p9_base.specs.declared.halt.Asked.{Asked}
use Rattle.p9_base.specs.declared.halt.Asked.TheVariants as asks
use Rattle.p9_base.specs.declared.order.ByteOrder.TheVariants.{Big}
use Rattle.p9_base.specs.Words.{IsWord, word_sum}
use Rattle.p9_base.specs.Core.{Core, text_start, stack_start, stack_end, low_end, reg, with_reg, readable, writable, read_byte, read_word, with_word, with_word_in}
use Rattle.p9_base.specs.Effects.{store_word}
use Rattle.p9_base.specs.SystemCalls.{State, asked, asked_exits, asked_read, asked_write, argument, then_one, then_three}
use Rattle.p9_base.specs.Holding.{LaidOut}
use Rattle.p9_base.proofs.Holding.{with_register-words, register-word, word-bytes}
use Rattle.p9_base.proofs.Kept.{length-word}
use Rattle.p9_abs.specs.BuiltIn.{system_code}
use Rattle.p9_abs.specs.Steps.{Mach, Around, Next, Returns, step, with_core, is_free, touches, words_free, asks_system, without_text}
use Rattle.p9_abs.specs.Keeping.{around_framed}
use Rattle.p9_abs.proofs.Fixed.{other-register}
use Rattle.p9_cmean.specs.Cells as c
use Rattle.p9_cmean.specs.Cells.{Value}
use Rattle.p9_cmean.specs.Plays.{Call}
use Rattle.p9_cmean.specs.SystemCalls.{SystemCall, Exits as SystemExits, Read as SystemRead, Write as SystemWrite}
use Rattle.p9_sim.specs.Memory.{Map, Ground}
use Rattle.p9_sim.specs.Matching.{Match, AtCall}
use Rattle.p9_systems.specs.Systems.{number_of, system_def}
use Rattle.p9_systems.proofs.Bytes.{readable-span, writable-span, with_stack_word, word_stored, word_apart, word-high, byte-apart}
use Rattle.p9_systems.proofs.Matched.{Near}

pub free-range : (banned : ℕ → Bool) (n a : ℕ) → ((i : ℕ) → i < n → banned (a + i) ≡ false) → is_free banned a n ≡ true
free-range banned zero a h = refl
free-range banned (suc n) a h =
    let z : a + 0 ≡ a = omega arith in
    let e : banned a ≡ false = ap banned (sym z) ∙ h 0 (omega arith) in
    rw e (free-range banned n (a + 1) (λ i l. let q : a + suc i ≡ a + 1 + i = omega arith in ap banned (sym q) ∙ h (suc i) (omega (arith, l))))

-- the first argument is stored, with the call's number in R1
abbrev pub with_argument : State → List ℕ → State
with_argument x regs = record x { core = record x.core { regs = regs; stack = with_stack_word x.core (reg x.core 29 + 4) (reg x.core 1); text_end = text_start } }

abbrev pub prepared : SystemCall → State → State
prepared system x = with_argument x (with_reg x.core.regs 1 (number_of system))

-- what the call stands in
abbrev pub around : SystemCall → (symbol : ℕ → ℕ) → (sp : ℕ) → (others : ℕ → Bool) → Around
around system symbol sp others = around_framed symbol (system_def system) sp others

-- STEPS

pub store : (a : Around) (at v : ℕ) (x : Mach) → is_free a.banned at 4 ≡ true → (at % 4 == 0) ≡ true → nat_le 4 (writable x.state.core at) ≡ true
    → touches a at 4 (store_word x.state.core at v) x ≡ Next (with_core x (with_word x.state.core at v))
store a at v x f e w = rw (f, e, w) refl

pub stored-high : (c : Core) (at v : ℕ) → stack_start ≤ at → c.order ≡ Big → with_word c at v ≡ record c { stack = with_stack_word c at v }
stored-high c at v h big =
    let e : nat_lt at stack_start ≡ false = grind (arith, nat_tests) in
    ap (λ b. if b then record c { low = with_word_in c.order c.low (at - text_start) v } else record c { stack = with_word_in c.order c.stack (at - stack_start) v }) e
    ∙ ap (λ o. record c { stack = with_word_in o c.stack (at - stack_start) v }) big

first-step : (system : SystemCall) (symbol : ℕ → ℕ) (sp : ℕ) (others : ℕ → Bool) (x : State) (a : ℕ) → word_sum (reg x.core 29) 4 ≡ a → reg x.core 29 + 4 ≡ a
    → is_free (around system symbol sp others).banned a 4 ≡ true → (a % 4 == 0) ≡ true → nat_le 4 (writable (record x.core { text_end = text_start }) a) ≡ true → stack_start ≤ a → x.core.order ≡ Big
    → step (around system symbol sp others) (system_code (number_of system)) (record { state = x; vars = []; at = 0 }) ≡ Next (record { state = with_argument x x.core.regs; vars = []; at = 1 })
unfolding step
first-step system symbol sp others x a is same f e w high big =
    let y : Mach = without_text (record { state = x; vars = []; at = 0 }) in
    let v : ℕ = reg x.core 1 in
    ap (λ n. touches (around system symbol sp others) n 4 (store_word y.state.core n v) y) is
    ∙ (store (around system symbol sp others) a v y f e w ∙ (ap (λ d. Next (with_core y d)) (stored-high y.state.core a v high big)
    ∙ ap (λ n. Next (with_core y (record y.state.core { stack = with_stack_word x.core n v }))) (sym same)))

second-step : (system : SystemCall) (a : Around) (x : State)
    → step a (system_code (number_of system)) (record { state = with_argument x x.core.regs; vars = []; at = 1 }) ≡ Next (record { state = prepared system x; vars = []; at = 2 })
unfolding step
second-step SystemExits a x = refl
second-step SystemRead a x = refl
second-step SystemWrite a x = refl

third-step : (system : SystemCall) (a : Around) (y : State) → y.core.text_end ≡ text_start
    → step a (system_code (number_of system)) (record { state = y; vars = []; at = 2 }) ≡ asks_system a (asked y.core) (record { state = y; vars = []; at = 2 })
unfolding step
third-step system a y e = ap (λ t. asks_system a (asked (record y.core { text_end = t })) (record { state = record y { core = record y.core { text_end = t } }; vars = []; at = 2 })) (sym e)

pub last-step : (system : SystemCall) (a : Around) (w : State) → step a (system_code (number_of system)) (record { state = w; vars = []; at = 3 }) ≡ Returns (without_text (record { state = w; vars = []; at = 3 }))
unfolding step
last-step system a w = refl

-- WHAT IS ASKED

-- an argument word that may be read
argument-is : (c : Core) (a v : ℕ) → (a % 4 == 0) ≡ true → nat_le 4 (readable c a) ≡ true → read_word c a ≡ v → argument c a ≡ Ok v
argument-is c a v e f g = rw (e, f, g) refl

pub asks-exits : (c : Core) (v : ℕ) → reg c 1 ≡ 8 → argument c (word_sum (reg c 29) 4) ≡ Ok v → asked c ≡ asked_exits c v
asks-exits c v one first =
    ap (λ r. if r == 8 then then_one (argument c (word_sum (reg c 29) 4)) (asked_exits c) else
    if r == 15 then then_three c (asked_read c) else
    if r == 20 then then_three c (asked_write c) else asks.Stop (halts.BadCall r)) one
    ∙ ap (λ o. then_one o (asked_exits c)) first

three-arguments : (c : Core) (go : ℕ → ℕ → ℕ → Asked) (d a n : ℕ) → argument c (word_sum (reg c 29) 4) ≡ Ok d → argument c (word_sum (reg c 29) 8) ≡ Ok a → argument c (word_sum (reg c 29) 12) ≡ Ok n
    → then_three c go ≡ go d a n
three-arguments c go d a n first second third =
    ap (λ o. then_one o (λ d. then_one (argument c (word_sum (reg c 29) 8)) (λ a. then_one (argument c (word_sum (reg c 29) 12)) (λ n. go d a n)))) first
    ∙ (ap (λ o. then_one o (λ a. then_one (argument c (word_sum (reg c 29) 12)) (λ n. go d a n))) second ∙ ap (λ o. then_one o (λ n. go d a n)) third)

pub asks-read : (c : Core) (d a n : ℕ) → reg c 1 ≡ 15 → argument c (word_sum (reg c 29) 4) ≡ Ok d → argument c (word_sum (reg c 29) 8) ≡ Ok a → argument c (word_sum (reg c 29) 12) ≡ Ok n
    → asked c ≡ asked_read c d a n
asks-read c d a n one first second third =
    ap (λ r. if r == 8 then then_one (argument c (word_sum (reg c 29) 4)) (asked_exits c) else
    if r == 15 then then_three c (asked_read c) else
    if r == 20 then then_three c (asked_write c) else asks.Stop (halts.BadCall r)) one
    ∙ three-arguments c (asked_read c) d a n first second third

pub asks-write : (c : Core) (d a n : ℕ) → reg c 1 ≡ 20 → argument c (word_sum (reg c 29) 4) ≡ Ok d → argument c (word_sum (reg c 29) 8) ≡ Ok a → argument c (word_sum (reg c 29) 12) ≡ Ok n
    → asked c ≡ asked_write c d a n
asks-write c d a n one first second third =
    ap (λ r. if r == 8 then then_one (argument c (word_sum (reg c 29) 4)) (asked_exits c) else
    if r == 15 then then_three c (asked_read c) else
    if r == 20 then then_three c (asked_write c) else asks.Stop (halts.BadCall r)) one
    ∙ three-arguments c (asked_write c) d a n first second third

-- BEFORE THE CALL

pub record IsPrepared (system : SystemCall) (symbol : ℕ → ℕ) (sp : ℕ) (others : ℕ → Bool) (count : ℕ) (x : State) (y : State) : Type 0 where
  pub first : step (around system symbol sp others) (system_code (number_of system)) (record { state = x; vars = []; at = 0 }) ≡ Next (record { state = with_argument x x.core.regs; vars = []; at = 1 })
  pub second : step (around system symbol sp others) (system_code (number_of system)) (record { state = with_argument x x.core.regs; vars = []; at = 1 }) ≡ Next (record { state = y; vars = []; at = 2 })
  pub third : step (around system symbol sp others) (system_code (number_of system)) (record { state = y; vars = []; at = 2 })
      ≡ asks_system (around system symbol sp others) (asked y.core) (record { state = y; vars = []; at = 2 })
  pub near : Near x y
  pub text : y.core.text_end ≡ text_start
  pub number : reg y.core 1 ≡ number_of system
  pub out : y.out ≡ x.out
  pub left : y.left ≡ x.left
  pub laid : LaidOut y.core
  pub memory : (byte : ℕ) → (byte < reg x.core 29 + 4) ⊎ (reg x.core 29 + 8 ≤ byte) → read_byte y.core byte ≡ read_byte x.core byte
  pub argument_1 : argument y.core (word_sum (reg y.core 29) 4) ≡ Ok (reg x.core 1)
  pub arguments_more : 3 ≤ count → (argument y.core (word_sum (reg y.core 29) 8) ≡ Ok (read_word x.core (reg x.core 29 + 8))) × (argument y.core (word_sum (reg y.core 29) 12) ≡ Ok (read_word x.core (reg x.core 29 + 12)))
  pub word_1 : words_free (around system symbol sp others) (reg y.core 29) 1 ≡ true
  pub words_3 : 3 ≤ count → words_free (around system symbol sp others) (reg y.core 29) 3 ≡ true

module _ (g : Ground) (system : SystemCall) (symbol : ℕ → ℕ) (others : ℕ → Bool) (active low : ℕ) (m : Map) (call : Call) (s : c.State) (x : State) (at : AtCall g others others active m call s x) (one : 1 ≤ length call.arguments) where
  sp : ℕ
  sp = reg x.core 29

  h : Match g others active m s x
  h = at.matched

  high : stack_start ≤ reg x.core 29
  high = let f = at.matched.floor in let d = at.matched.not_deep in omega (arith, f, d)

  -- the end of the arguments
  end-of : (k : ℕ) → k < length call.arguments → reg x.core 29 + 4 + 4 * k + 4 ≤ stack_end
  end-of k l = let b = at.in_stack (reg x.core 29 + 4 + 4 * k + 3) (omega arith, omega (arith, l)) in omega (arith, b)

  word-free : (k : ℕ) → k < length call.arguments → (a : ℕ) → a ≡ reg x.core 29 + 4 + 4 * k → is_free (around system symbol low others).banned a 4 ≡ true
  word-free k l a e = free-range (around system symbol low others).banned 4 a (λ i j. ap (λ t. t || false) (at.allowed (a + i) (omega (arith, e), omega (arith, e, j, l))))

  count : length x.core.regs ≡ 32
  count = at.matched.words.count

  y : State
  y = prepared system x

  y29 : reg y.core 29 ≡ reg x.core 29
  unfolding y
  y29 = other-register x.core.regs 1 (number_of system) 29 (λ e. omega (arith, e))

  number-word : IsWord (number_of system)
  number-word = by system
    where
      by : (system : SystemCall) → IsWord (number_of system)
      by SystemExits = omega arith
      by SystemRead = omega arith
      by SystemWrite = omega arith

  size : length y.core.stack ≡ length x.core.stack
  unfolding y
  size = length-word Big x.core.stack (reg x.core 29 + 4 - stack_start) (reg x.core 1)

  near : Near x y
  unfolding y
  near = record {
    stack = y29;
    base = other-register x.core.regs 1 (number_of system) 30 (λ e. omega (arith, e));
    sizes = record { order = refl; data_start = refl; low = refl; stack = size };
    ending = refl;
    words = (let w = with_register-words x.core 1 (number_of system) number-word at.matched.words in
        record {
          count = w.count;
          zero_register = w.zero_register;
          registers = w.registers;
          high = w.high;
          less = w.less;
          low_bytes = w.low_bytes;
          stack_bytes = word-bytes Big x.core.stack (reg x.core 29 + 4 - stack_start) (reg x.core 1) at.matched.words.stack_bytes;
        });
  }

  laid-y : LaidOut y.core
  unfolding y
  laid-y = let l = at.matched.laid in let q = size in let t = l.stack_size in record { text = l.text; gap = l.gap; data_and_bss = l.data_and_bss; above = l.above; stack_size = omega (arith, q, t) }

  -- the word of argument k
  place : (k n : ℕ) → n ≡ 4 + 4 * k → k < length call.arguments → word_sum (reg y.core 29) n ≡ reg x.core 29 + n
  place k n e l = let en = end-of k l in let q = y29 in omega (arith, en, q, e)

  aligned : (k a : ℕ) → a ≡ reg x.core 29 + 4 + 4 * k → (a % 4 == 0) ≡ true
  aligned k a e = let al = at.matched.aligned in let z : a % 4 ≡ 0 = omega (arith, al, e) in grind (arith, nat_tests)

  may-read : (k a : ℕ) → a ≡ reg x.core 29 + 4 + 4 * k → k < length call.arguments → nat_le 4 (readable y.core a) ≡ true
  unfolding y
  may-read k a e l =
      let en = end-of k l in let hi = high in
      let r = readable-span y.core a 4 refl laid-y (omega arith) (inr (omega (arith, hi, e), omega (arith, en, e))) in grind (arith, nat_tests)

  may-write : nat_le 4 (writable (record x.core { text_end = text_start }) (reg x.core 29 + 4)) ≡ true
  may-write =
      let en = end-of 0 one in let hi = high in
      let r = writable-span (record x.core { text_end = text_start }) (reg x.core 29 + 4) 4 refl at.matched.laid (omega arith) (inr (omega (arith, hi), omega (arith, en))) in grind (arith, nat_tests)

  first-word : read_word y.core (reg x.core 29 + 4) ≡ reg x.core 1
  unfolding y
  first-word =
      let en = end-of 0 one in let hi = high in let big = at.matched.order in let z = at.matched.laid.stack_size in
      word-high y.core (reg x.core 29 + 4) (omega (arith, hi)) ∙ (ap (λ o. Rattle.p9_base.specs.Core.word_in o y.core.stack (reg x.core 29 + 4 - stack_start)) big
      ∙ word_stored x.core.stack (reg x.core 29 + 4 - stack_start) (reg x.core 1) (omega (arith, en, hi, z)) (register-word x.core 1 at.matched.words))

  later-word : (a : ℕ) → reg x.core 29 + 8 ≤ a → read_word y.core a ≡ read_word x.core a
  unfolding y
  later-word a l =
      let hi = high in let big = at.matched.order in
      word-high y.core a (omega (arith, hi, l)) ∙ (ap (λ o. Rattle.p9_base.specs.Core.word_in o y.core.stack (a - stack_start)) big
      ∙ (word_apart x.core.stack (reg x.core 29 + 4 - stack_start) (a - stack_start) (reg x.core 1) (inr (omega (arith, hi, l)))
      ∙ (sym (ap (λ o. Rattle.p9_base.specs.Core.word_in o x.core.stack (a - stack_start)) big) ∙ sym (word-high x.core a (omega (arith, hi, l))))))

  argument-at : (k n v : ℕ) → n ≡ 4 + 4 * k → k < length call.arguments → read_word y.core (reg x.core 29 + n) ≡ v → argument y.core (word_sum (reg y.core 29) n) ≡ Ok v
  argument-at k n v e l w =
      let p = place k n e l in
      ap (argument y.core) p ∙ argument-is y.core (reg x.core 29 + n) v (aligned k (reg x.core 29 + n) (omega (arith, e))) (may-read k (reg x.core 29 + n) (omega (arith, e)) l) w

  free-at : (k n : ℕ) → n ≡ 4 + 4 * k → k < length call.arguments → is_free (around system symbol low others).banned (word_sum (reg y.core 29) n) 4 ≡ true
  free-at k n e l = let p = place k n e l in word-free k l (word_sum (reg y.core 29) n) (omega (arith, p, e))

  pub prepared-is : IsPrepared system symbol low others (length call.arguments) x (prepared system x)
  unfolding y
  prepared-is = record {
    first = (let en = end-of 0 one in let hi = high in
        first-step system symbol low others x (reg x.core 29 + 4) (omega (arith, en)) refl (word-free 0 one (reg x.core 29 + 4) (omega arith)) (aligned 0 (reg x.core 29 + 4) (omega arith)) may-write (omega (arith, hi)) at.matched.order);
    second = second-step system (around system symbol low others) x;
    third = third-step system (around system symbol low others) y refl;
    near = near;
    text = refl;
    number = (let n = count in get_or-set_same x.core.regs 1 (number_of system) 0 (omega (arith, n)));
    out = refl;
    left = refl;
    laid = laid-y;
    memory = λ byte o. (let hi = high in byte-apart x.core (reg x.core 29 + 4) (reg x.core 1) byte (omega (arith, hi)) (by byte o));
    argument_1 = argument-at 0 4 (reg x.core 1) (omega arith) one first-word;
    arguments_more = λ l. (
      argument-at 1 8 (read_word x.core (reg x.core 29 + 8)) (omega arith) (omega (arith, l)) (later-word (reg x.core 29 + 8) (omega arith)),
      argument-at 2 12 (read_word x.core (reg x.core 29 + 12)) (omega arith) (omega (arith, l)) (later-word (reg x.core 29 + 12) (omega arith)),
    );
    word_1 = (let f = free-at 0 4 (omega arith) one in rw f refl);
    words_3 = λ l. (let f = free-at 0 4 (omega arith) one in let d = free-at 1 8 (omega arith) (omega (arith, l)) in let e = free-at 2 12 (omega arith) (omega (arith, l)) in rw (f, d, e) refl);
  }
    where
      by : (byte : ℕ) → (byte < reg x.core 29 + 4) ⊎ (reg x.core 29 + 8 ≤ byte) → (byte < reg x.core 29 + 4) ⊎ (reg x.core 29 + 4 + 4 ≤ byte)
      by byte (inl l) = inl l
      by byte (inr l) = inr (omega (arith, l))
