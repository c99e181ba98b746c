-- What effects and system calls leave of a core: the byte order, the sizes, and the bytes below the data.
use Rattle.std.proofs.Common.{ℕ, zero, suc, ◌+◌, ◌-◌, ◌/◌, ◌%◌, ◌^◌, ◌==◌, ◌≡◌, ◌≤◌, ◌<◌, ◌++◌, Bool, true, false, not, ◌||◌, nat_lt, nat_le, if◌then◌else◌, Option, Some, None, Result, Ok, Err, refl, sym, ap, ◌∙◌, subst, arith, List, [], ◌∷◌, length, take, drop, min, slice_set, position, length-append, length-drop}
use Rattle.std.proofs.lemmas.List.{take-append-drop, take-append-le, take-take, take-set-le, length-set, length-take, length-take-le, append-nil}
use Rattle.std.proofs.lemmas.Bool.{leb-true, ltb-true, ltb-false}
use Rattle.std.proofs.lemmas.Bool.Decides.{nat_tests}
use Rattle.p9_base.specs.Words.{is_negative, word_sum, low8, low16}
use Rattle.p9_base.specs.declared.halt.HaltCause.{HaltCause}
use Rattle.p9_base.specs.declared.halt.HaltCause.TheVariants as halts
use Rattle.p9_base.specs.declared.halt.Effect.{Effect}
use Rattle.p9_base.specs.declared.halt.Effect.TheVariants as effects
use Rattle.p9_base.specs.declared.halt.Asked.{Asked}
use Rattle.p9_base.specs.declared.halt.Asked.TheVariants as asks
use Rattle.p9_base.specs.declared.order.ByteOrder.{ByteOrder}
use Rattle.p9_base.specs.declared.order.ByteOrder.TheVariants.{Big, Little}
use Rattle.p9_base.specs.Core.{Core, text_start, stack_start, stack_end, low_end, reg, readable, writable, bytes_from, with_two, with_four, with_half_in, with_word_in, with_byte, with_half, with_word, with_bytes, over}
use Rattle.p9_base.specs.Effects.{advanced, store_byte, store_half, store_word}
use Rattle.p9_base.specs.SystemCalls.{State, argument, then_one, then_three, exits_of, asked_exits, asked_read, asked_write, asked, called}
use Rattle.p9_base.specs.Holding.{LaidOut, KeepsText}

-- What may be written

pub writable-low_start : (a base end n : ℕ) → 0 < n →
    n ≤ (if nat_lt a base then 0 else if nat_lt a end then end - a else if nat_lt a stack_start then 0 else
    if nat_lt a stack_end then stack_end - a else 0) →
    base ≤ a
writable-low_start a base end n some h = grind (arith, nat_tests)

pub writable-low_end : (a base end n : ℕ) → 0 < n →
    n ≤ (if nat_lt a base then 0 else if nat_lt a end then end - a else if nat_lt a stack_start then 0 else
    if nat_lt a stack_end then stack_end - a else 0) →
    a < stack_start → a + n ≤ end
writable-low_end a base end n some h low = grind (arith, nat_tests)

pub writable-stack_end : (a base end n : ℕ) → 0 < n →
    n ≤ (if nat_lt a base then 0 else if nat_lt a end then end - a else if nat_lt a stack_start then 0 else
    if nat_lt a stack_end then stack_end - a else 0) →
    end ≤ stack_start → stack_start ≤ a → a + n ≤ stack_end
writable-stack_end a base end n some h below high = grind (arith, nat_tests)

-- Keeping the text

-- the low bytes with the same size, and the same below the data
pub record KeepsLow (c : Core) (bytes : List ℕ) : Type 0 where
  pub size : length bytes ≡ length c.low
  pub below : take (c.data_start - text_start) bytes ≡ take (c.data_start - text_start) c.low

pub keeps_low-same : (c : Core) → KeepsLow c c.low
keeps_low-same c = record { size = refl; below = refl }

pub keeps_low-set :
    (c : Core) (bytes : List ℕ) (i v : ℕ) → KeepsLow c bytes → c.data_start - text_start ≤ i → KeepsLow c (slice_set bytes i v)
keeps_low-set c bytes i v h from = record {
  size = length-set bytes i v ∙ h.size;
  below = take-set-le (c.data_start - text_start) bytes i v from ∙ h.below;
}

pub keeps-same : (c : Core) → KeepsText c c
keeps-same c = record { order = refl; text_end = refl; data_start = refl; low_size = refl; stack_size = refl; below_data = refl }

pub keeps-trans : (c d e : Core) → KeepsText c d → KeepsText d e → KeepsText c e
keeps-trans c d e h k = record {
  order = k.order ∙ h.order;
  text_end = k.text_end ∙ h.text_end;
  data_start = k.data_start ∙ h.data_start;
  low_size = k.low_size ∙ h.low_size;
  stack_size = k.stack_size ∙ h.stack_size;
  below_data =
      (let P : ℕ → Type 0 = λ n. take (n - text_start) e.low ≡ take (n - text_start) d.low in
      subst P h.data_start k.below_data) ∙ h.below_data;
}

pub keeps-choice :
    (b : Bool) (c : Core) (bytes stack : List ℕ) → (b ≡ true → KeepsLow c bytes) → (b ≡ false → length stack ≡ length c.stack) →
    KeepsText c (if b then record c { low = bytes } else record c { stack = stack })
keeps-choice true c bytes stack h k =
    record { order = refl; text_end = refl; data_start = refl; low_size = (h refl).size; stack_size = refl; below_data = (h refl).below }
keeps-choice false c bytes stack h k =
    record { order = refl; text_end = refl; data_start = refl; low_size = refl; stack_size = k refl; below_data = refl }

pub keeps-advanced : (c d : Core) (reader : Bool) → KeepsText c d → KeepsText c (advanced d reader)
keeps-advanced c d reader h =
    record { order = h.order; text_end = h.text_end; data_start = h.data_start; low_size = h.low_size; stack_size = h.stack_size; below_data = h.below_data }

pub keeps-answered : (c d : Core) (regs : List ℕ) → KeepsText c d → KeepsText c (advanced (record d { regs = regs }) false)
keeps-answered c d regs h =
    record { order = h.order; text_end = h.text_end; data_start = h.data_start; low_size = h.low_size; stack_size = h.stack_size; below_data = h.below_data }

-- Stores

pub with_byte-keeps : (c : Core) (a v : ℕ) → 1 ≤ writable c a → KeepsText c (with_byte c a v)
with_byte-keeps c a v h =
    let from : c.data_start ≤ a = writable-low_start a c.data_start (low_end c) 1 (omega arith) h in
    keeps-choice (nat_lt a stack_start) c (slice_set c.low (a - text_start) v) (slice_set c.stack (a - stack_start) v)
    (λ e. keeps_low-set c c.low (a - text_start) v (keeps_low-same c) (omega (arith, from)))
    (λ e. length-set c.stack (a - stack_start) v)

pub keeps_low-two :
    (c : Core) (i x y : ℕ) → c.data_start - text_start ≤ i → KeepsLow c (with_two c.low i x y)
keeps_low-two c i x y h =
    keeps_low-set c (slice_set c.low i x) (i + 1) y (keeps_low-set c c.low i x (keeps_low-same c) h) (omega (arith, h))

pub keeps_low-four :
    (c : Core) (i x y z w : ℕ) → c.data_start - text_start ≤ i → KeepsLow c (with_four c.low i x y z w)
keeps_low-four c i x y z w h =
    keeps_low-set c (slice_set (with_two c.low i x y) (i + 2) z) (i + 3) w
    (keeps_low-set c (with_two c.low i x y) (i + 2) z (keeps_low-two c i x y h) (omega (arith, h))) (omega (arith, h))

pub length-two : (bytes : List ℕ) (i x y : ℕ) → length (with_two bytes i x y) ≡ length bytes
length-two bytes i x y = length-set (slice_set bytes i x) (i + 1) y ∙ length-set bytes i x

pub length-four : (bytes : List ℕ) (i x y z w : ℕ) → length (with_four bytes i x y z w) ≡ length bytes
length-four bytes i x y z w =
    length-set (slice_set (with_two bytes i x y) (i + 2) z) (i + 3) w
    ∙ (length-set (with_two bytes i x y) (i + 2) z ∙ length-two bytes i x y)

pub keeps_low-half :
    (o : ByteOrder) (c : Core) (i v : ℕ) → c.data_start - text_start ≤ i → KeepsLow c (with_half_in o c.low i v)
keeps_low-half Big c i v h = keeps_low-two c i (v / 2 ^ 8 % 2 ^ 8) (v % 2 ^ 8) h
keeps_low-half Little c i v h = keeps_low-two c i (v % 2 ^ 8) (v / 2 ^ 8 % 2 ^ 8) h

pub keeps_low-word :
    (o : ByteOrder) (c : Core) (i v : ℕ) → c.data_start - text_start ≤ i → KeepsLow c (with_word_in o c.low i v)
keeps_low-word Big c i v h = keeps_low-four c i (v / 2 ^ 24 % 2 ^ 8) (v / 2 ^ 16 % 2 ^ 8) (v / 2 ^ 8 % 2 ^ 8) (v % 2 ^ 8) h
keeps_low-word Little c i v h = keeps_low-four c i (v % 2 ^ 8) (v / 2 ^ 8 % 2 ^ 8) (v / 2 ^ 16 % 2 ^ 8) (v / 2 ^ 24 % 2 ^ 8) h

pub length-half : (o : ByteOrder) (bytes : List ℕ) (i v : ℕ) → length (with_half_in o bytes i v) ≡ length bytes
length-half Big bytes i v = length-two bytes i (v / 2 ^ 8 % 2 ^ 8) (v % 2 ^ 8)
length-half Little bytes i v = length-two bytes i (v % 2 ^ 8) (v / 2 ^ 8 % 2 ^ 8)

pub length-word : (o : ByteOrder) (bytes : List ℕ) (i v : ℕ) → length (with_word_in o bytes i v) ≡ length bytes
length-word Big bytes i v = length-four bytes i (v / 2 ^ 24 % 2 ^ 8) (v / 2 ^ 16 % 2 ^ 8) (v / 2 ^ 8 % 2 ^ 8) (v % 2 ^ 8)
length-word Little bytes i v = length-four bytes i (v % 2 ^ 8) (v / 2 ^ 8 % 2 ^ 8) (v / 2 ^ 16 % 2 ^ 8) (v / 2 ^ 24 % 2 ^ 8)

pub with_half-keeps : (c : Core) (a v : ℕ) → 2 ≤ writable c a → KeepsText c (with_half c a v)
with_half-keeps c a v h =
    let from : c.data_start ≤ a = writable-low_start a c.data_start (low_end c) 2 (omega arith) h in
    keeps-choice (nat_lt a stack_start) c (with_half_in c.order c.low (a - text_start) v) (with_half_in c.order c.stack (a - stack_start) v)
    (λ e. keeps_low-half c.order c (a - text_start) v (omega (arith, from)))
    (λ e. length-half c.order c.stack (a - stack_start) v)

pub with_word-keeps : (c : Core) (a v : ℕ) → 4 ≤ writable c a → KeepsText c (with_word c a v)
with_word-keeps c a v h =
    let from : c.data_start ≤ a = writable-low_start a c.data_start (low_end c) 4 (omega arith) h in
    keeps-choice (nat_lt a stack_start) c (with_word_in c.order c.low (a - text_start) v) (with_word_in c.order c.stack (a - stack_start) v)
    (λ e. keeps_low-word c.order c (a - text_start) v (omega (arith, from)))
    (λ e. length-word c.order c.stack (a - stack_start) v)

-- Rooms

pub over-none : (bytes : List ℕ) (i : ℕ) → over bytes i [] ≡ bytes
over-none bytes i =
    ap (λ l. l ++ drop (i + 0) bytes) (append-nil (take i bytes))
    ∙ (let e : i + 0 ≡ i = omega arith in ap (λ j. take i bytes ++ drop j bytes) e)
    ∙ take-append-drop i bytes

pub over-size : (bytes : List ℕ) (i : ℕ) (xs : List ℕ) → i + length xs ≤ length bytes → length (over bytes i xs) ≡ length bytes
over-size bytes i xs h =
    simp (length-append, length-take, length-drop) (omega (arith, h))

pub over-below :
    (bytes : List ℕ) (i : ℕ) (xs : List ℕ) (n : ℕ) → i ≤ length bytes → n ≤ i → take n (over bytes i xs) ≡ take n bytes
over-below bytes i xs n h k =
    let reach : length (take i bytes) ≡ i = length-take-le i bytes h in
    let first : n ≤ length (take i bytes) = omega (arith, reach, k) in
    let more : n ≤ length (take i bytes ++ xs) = omega (arith, length-append (take i bytes) xs, first) in
    take-append-le n (take i bytes ++ xs) (drop (i + length xs) bytes) more
    ∙ (take-append-le n (take i bytes) xs first ∙ take-take n i bytes k)

pub keeps_low-over-by :
    (c : Core) (a : ℕ) (xs : List ℕ) → LaidOut c → length xs ≤ writable c a → a < stack_start → KeepsLow c (over c.low (a - text_start) xs)
keeps_low-over-by c a [] laid h low =
    let P : List ℕ → Type 0 = λ l. KeepsLow c l in
    subst P (sym (over-none c.low (a - text_start))) (keeps_low-same c)
keeps_low-over-by c a (x ∷ xs) laid h low =
    let some : 0 < length (x ∷ xs) = omega arith in
    let from : c.data_start ≤ a = writable-low_start a c.data_start (low_end c) (length (x ∷ xs)) some h in
    let reach : a + length (x ∷ xs) ≤ low_end c = writable-low_end a c.data_start (low_end c) (length (x ∷ xs)) some h low in
    let begins : text_start ≤ c.text_end = laid.text in
    let gap : c.text_end ≤ c.data_start = laid.gap in
    let within : a - text_start + length (x ∷ xs) ≤ length c.low = omega (arith, from, reach, begins, gap) in
    let inside : a - text_start ≤ length c.low = omega (arith, within) in
    record {
      size = over-size c.low (a - text_start) (x ∷ xs) within;
      below = over-below c.low (a - text_start) (x ∷ xs) (c.data_start - text_start) inside (omega (arith, from));
    }

pub stack-over :
    (c : Core) (a : ℕ) (xs : List ℕ) → LaidOut c → length xs ≤ writable c a → stack_start ≤ a →
    length (over c.stack (a - stack_start) xs) ≡ length c.stack
stack-over c a [] laid h high = ap length (over-none c.stack (a - stack_start))
stack-over c a (x ∷ xs) laid h high =
    let some : 0 < length (x ∷ xs) = omega arith in
    let reach : a + length (x ∷ xs) ≤ stack_end =
    writable-stack_end a c.data_start (low_end c) (length (x ∷ xs)) some h laid.above high in
    let size : length c.stack ≡ stack_end - stack_start = laid.stack_size in
    over-size c.stack (a - stack_start) (x ∷ xs) (omega (arith, reach, size, high))

pub with_bytes-keeps :
    (c : Core) (a : ℕ) (xs : List ℕ) → LaidOut c → length xs ≤ writable c a → KeepsText c (with_bytes c a xs)
with_bytes-keeps c a xs laid h =
    keeps-choice (nat_lt a stack_start) c (over c.low (a - text_start) xs) (over c.stack (a - stack_start) xs)
    (λ e. keeps_low-over-by c a xs laid h (ltb-true a stack_start e))
    (λ e. stack-over c a xs laid h (ltb-false a stack_start e))

-- What a system call asks

-- a room that is asked for may be written
abbrev pub RoomFits : Asked → Core → Type 0
RoomFits (asks.Read at n) c = n ≤ writable c at
RoomFits (asks.Exits at len) c = Unit {0}
RoomFits (asks.Write at n) c = Unit {0}
RoomFits asks.Refused c = Unit {0}
RoomFits (asks.Stop cause) c = Unit {0}

pub choice-room : (b : Bool) (x y : Asked) (c : Core) → RoomFits x c → RoomFits y c → RoomFits (if b then x else y) c
choice-room true x y c hx hy = hx
choice-room false x y c hx hy = hy

pub then_one-room :
    (r : Result ℕ HaltCause) (go : ℕ → Asked) (c : Core) → ((v : ℕ) → RoomFits (go v) c) → RoomFits (then_one r go) c
then_one-room (Ok v) go c h = h v
then_one-room (Err cause) go c h = tt

pub exits_of-room : (a reach : ℕ) (k : Option ℕ) (c : Core) → RoomFits (exits_of a reach k) c
exits_of-room a reach None c = tt
exits_of-room a reach (Some k) c = tt

pub asked_exits-room : (c : Core) (a : ℕ) → RoomFits (asked_exits c a) c
asked_exits-room c a =
    choice-room (a == 0) (asks.Exits 0 0)
    (exits_of a (readable c a) (position (λ b. b == 0) (bytes_from c a (readable c a)))) c tt
    (exits_of-room a (readable c a) (position (λ b. b == 0) (bytes_from c a (readable c a))) c)

pub read-room : (b : Bool) (c : Core) (a n : ℕ) (stop : HaltCause) → (b ≡ true → n ≤ writable c a) → RoomFits (if b then asks.Read a n else asks.Stop stop) c
read-room true c a n stop h = h refl
read-room false c a n stop h = tt

pub asked_read-room : (c : Core) (d a n : ℕ) → RoomFits (asked_read c d a n) c
asked_read-room c d a n =
    choice-room (not (d == 0) || is_negative n) asks.Refused
    (if nat_le n (writable c a) then asks.Read a n else asks.Stop (halts.BadAddress (a + writable c a))) c tt
    (read-room (nat_le n (writable c a)) c a n (halts.BadAddress (a + writable c a)) (leb-true n (writable c a)))

pub asked_write-room : (c : Core) (d a n : ℕ) → RoomFits (asked_write c d a n) c
asked_write-room c d a n =
    choice-room (not (d == 1) || is_negative n) asks.Refused
    (if nat_le n (readable c a) then asks.Write a n else asks.Stop (halts.BadAddress (a + readable c a))) c tt
    (choice-room (nat_le n (readable c a)) (asks.Write a n) (asks.Stop (halts.BadAddress (a + readable c a))) c tt tt)

pub then_three-room :
    (c : Core) (go : ℕ → ℕ → ℕ → Asked) → ((d a n : ℕ) → RoomFits (go d a n) c) → RoomFits (then_three c go) c
then_three-room c go h =
    then_one-room (argument c (word_sum (reg c 29) 4))
    (λ d. then_one (argument c (word_sum (reg c 29) 8)) (λ a. then_one (argument c (word_sum (reg c 29) 12)) (λ n. go d a n))) c
    (λ d. then_one-room (argument c (word_sum (reg c 29) 8))
    (λ a. then_one (argument c (word_sum (reg c 29) 12)) (λ n. go d a n)) c
    (λ a. then_one-room (argument c (word_sum (reg c 29) 12)) (λ n. go d a n) c (λ n. h d a n)))

pub asked-room : (c : Core) → RoomFits (asked c) c
asked-room c =
    choice-room (reg c 1 == 8) (then_one (argument c (word_sum (reg c 29) 4)) (asked_exits c))
    (if reg c 1 == 15 then then_three c (asked_read c) else
    if reg c 1 == 20 then then_three c (asked_write c) else asks.Stop (halts.BadCall (reg c 1))) c
    (then_one-room (argument c (word_sum (reg c 29) 4)) (asked_exits c) c (asked_exits-room c))
    (choice-room (reg c 1 == 15) (then_three c (asked_read c))
    (if reg c 1 == 20 then then_three c (asked_write c) else asks.Stop (halts.BadCall (reg c 1))) c
    (then_three-room c (asked_read c) (asked_read-room c))
    (choice-room (reg c 1 == 20) (then_three c (asked_write c)) (asks.Stop (halts.BadCall (reg c 1))) c
    (then_three-room c (asked_write c) (asked_write-room c)) tt))

pub called-keeps : (k : Asked) (s : State) → LaidOut s.core → RoomFits k s.core → KeepsText s.core (called k s).core
called-keeps (asks.Exits at len) s laid h =
    record { order = refl; text_end = refl; data_start = refl; low_size = refl; stack_size = refl; below_data = refl }
called-keeps (asks.Read at n) s laid h =
    let k : ℕ = min n (length s.left) in
    let fits : length (take k s.left) ≤ n = omega (arith, length-take k s.left) in
    keeps-answered s.core (with_bytes s.core at (take k s.left)) _
    (with_bytes-keeps s.core at (take k s.left) laid (omega (arith, fits, h)))
called-keeps (asks.Write at n) s laid h =
    record { order = refl; text_end = refl; data_start = refl; low_size = refl; stack_size = refl; below_data = refl }
called-keeps asks.Refused s laid h =
    record { order = refl; text_end = refl; data_start = refl; low_size = refl; stack_size = refl; below_data = refl }
called-keeps (asks.Stop cause) s laid h =
    record { order = refl; text_end = refl; data_start = refl; low_size = refl; stack_size = refl; below_data = refl }

-- Effects

-- what is stored may be written
abbrev pub StoreFits : Effect → Core → Type 0
StoreFits (effects.StoreByte a v) c = 1 ≤ writable c a
StoreFits (effects.StoreHalf a v) c = 2 ≤ writable c a
StoreFits (effects.StoreWord a v) c = 4 ≤ writable c a
StoreFits (effects.Write r v) c = Unit {0}
StoreFits (effects.Pair hi lo) c = Unit {0}
StoreFits (effects.Load r v) c = Unit {0}
StoreFits (effects.Branch r taken to) c = Unit {0}
StoreFits (effects.JumpTo r to) c = Unit {0}
StoreFits effects.Call c = Unit {0}
StoreFits (effects.Stop cause) c = Unit {0}

pub choice-store : (b : Bool) (x y : Effect) (c : Core) → StoreFits x c → StoreFits y c → StoreFits (if b then x else y) c
choice-store true x y c hx hy = hx
choice-store false x y c hx hy = hy

pub byte-store : (b : Bool) (c : Core) (a v : ℕ) (stop : HaltCause) → (b ≡ true → 1 ≤ writable c a) →
    StoreFits (if b then effects.StoreByte a v else effects.Stop stop) c
byte-store true c a v stop h = h refl
byte-store false c a v stop h = tt

pub half-store : (b : Bool) (c : Core) (a v : ℕ) (stop : HaltCause) → (b ≡ true → 2 ≤ writable c a) →
    StoreFits (if b then effects.StoreHalf a v else effects.Stop stop) c
half-store true c a v stop h = h refl
half-store false c a v stop h = tt

pub word-store : (b : Bool) (c : Core) (a v : ℕ) (stop : HaltCause) → (b ≡ true → 4 ≤ writable c a) →
    StoreFits (if b then effects.StoreWord a v else effects.Stop stop) c
word-store true c a v stop h = h refl
word-store false c a v stop h = tt

pub store_byte-fits : (c : Core) (a v : ℕ) → StoreFits (store_byte c a v) c
store_byte-fits c a v = byte-store (nat_le 1 (writable c a)) c a (low8 v) (halts.BadAddress a) (leb-true 1 (writable c a))

pub store_half-fits : (c : Core) (a v : ℕ) → StoreFits (store_half c a v) c
store_half-fits c a v =
    choice-store (a % 2 == 0) (if nat_le 2 (writable c a) then effects.StoreHalf a (low16 v) else effects.Stop (halts.BadAddress a))
    (effects.Stop (halts.Misaligned a)) c
    (half-store (nat_le 2 (writable c a)) c a (low16 v) (halts.BadAddress a) (leb-true 2 (writable c a))) tt

pub store_word-fits : (c : Core) (a v : ℕ) → StoreFits (store_word c a v) c
store_word-fits c a v =
    choice-store (a % 4 == 0) (if nat_le 4 (writable c a) then effects.StoreWord a v else effects.Stop (halts.BadAddress a))
    (effects.Stop (halts.Misaligned a)) c
    (word-store (nat_le 4 (writable c a)) c a v (halts.BadAddress a) (leb-true 4 (writable c a))) tt
