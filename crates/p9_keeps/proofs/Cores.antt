-- Memory of two machines that differ in some bytes of the stack, and loads and stores in it.
use Rattle.std.proofs.Common.{ℕ, ◌+◌, ◌-◌, ◌%◌, ◌^◌, ◌==◌, ◌≡◌, ◌⊎◌, inl, inr, ◌≤◌, ◌<◌, nat_le, nat_lt, Bool, true, false, refl, sym, ap, ◌∙◌, subst, arith, if◌then◌else◌, List, length, slice_index}
use Rattle.std.proofs.lemmas.Bool.{lt-ltb, le-ltb, le-leb, cases_lt}
use Rattle.std.proofs.lemmas.List.{ext_get_or}
use Rattle.p9_base.specs.declared.order.ByteOrder.{ByteOrder}
use Rattle.p9_base.specs.declared.halt.HaltCause.{HaltCause}
use Rattle.p9_base.specs.declared.halt.HaltCause.TheVariants as halts
use Rattle.p9_base.specs.declared.halt.Effect.{Effect}
use Rattle.p9_base.specs.declared.halt.Effect.TheVariants as effects
use Rattle.p9_base.specs.Words.{low8, low16}
use Rattle.p9_base.specs.Core.{Core, text_start, stack_start, stack_end, low_end, readable, writable, read_byte}
use Rattle.p9_base.specs.Holding.{AreBytes, HoldsWords, LaidOut}
use Rattle.p9_base.proofs.Holding.{memory-words-by, set-bytes, half-bytes, word-bytes, low8-byte}
use Rattle.p9_abs.specs.declared.forms.Width.{Width}
use Rattle.p9_abs.specs.declared.forms.Width.TheVariants.{Word, SignedHalf, UnsignedHalf, SignedByte, UnsignedByte}
use Rattle.p9_abs.specs.Steps.{Mach, Around, Step, Next, Undefined, with_core, write, does, is_free, touches, moved, stored, bytes_of, load_effect, store_effect}
use Rattle.p9_keeps.proofs.Widths.{get_in, put_in, loaded, loaded-moved, stored-get, AreOneSize, one-size, get-alike, IsBeside, put-beside, put-length, put-both, put-get}

abbrev pub get : Width → Core → ℕ → ℕ
get w c a = if nat_lt a stack_start then get_in w c.order c.low (a - text_start) else get_in w c.order c.stack (a - stack_start)

abbrev pub put : Width → Core → ℕ → ℕ → Core
put w c a v =
    if nat_lt a stack_start then record c { low = put_in w c.order c.low (a - text_start) v }
    else record c { stack = put_in w c.order c.stack (a - stack_start) v }

-- Steps of loads and stores

abbrev pub guarded : Bool → Step → Step
guarded b s = if b then s else Undefined

abbrev pub aligned : Width → ℕ → Bool
aligned Word a = a % 4 == 0
aligned SignedHalf a = a % 2 == 0
aligned UnsignedHalf a = a % 2 == 0
aligned SignedByte a = true
aligned UnsignedByte a = true

does-one : (q : Bool) (e : Effect) (g : HaltCause) (x : Mach) → does (if q then e else effects.Stop g) x ≡ guarded q (does e x)
does-one true e g x = refl
does-one false e g x = refl

does-two : (p q : Bool) (e : Effect) (g h : HaltCause) (x : Mach) → does (if p then (if q then e else effects.Stop g) else effects.Stop h) x ≡ guarded p (guarded q (does e x))
does-two true q e g h x = does-one q e g x
does-two false q e g h x = refl

load-does : (w : Width) (r a : ℕ) (c : Core) (x : Mach) → does (load_effect w c r a) x ≡ guarded (aligned w a) (guarded (nat_le (bytes_of w) (readable c a)) (write r (loaded w (get w c a)) x))
load-does Word r a c x = does-two (a % 4 == 0) (nat_le 4 (readable c a)) _ (halts.BadAddress a) (halts.Misaligned a) x
load-does SignedHalf r a c x = does-two (a % 2 == 0) (nat_le 2 (readable c a)) _ (halts.BadAddress a) (halts.Misaligned a) x
load-does UnsignedHalf r a c x = does-two (a % 2 == 0) (nat_le 2 (readable c a)) _ (halts.BadAddress a) (halts.Misaligned a) x
load-does SignedByte r a c x = does-one (nat_le 1 (readable c a)) _ (halts.BadAddress a) x
load-does UnsignedByte r a c x = does-one (nat_le 1 (readable c a)) _ (halts.BadAddress a) x

pub load-step : (around : Around) (w : Width) (r a : ℕ) (c : Core) (x : Mach) → touches around a (bytes_of w) (load_effect w c r a) x
    ≡ guarded (is_free around.banned a (bytes_of w)) (guarded (aligned w a) (guarded (nat_le (bytes_of w) (readable c a)) (write r (loaded w (get w c a)) x)))
load-step around w r a c x = ap (λ s. guarded (is_free around.banned a (bytes_of w)) s) (load-does w r a c x)

put-does : (w : Width) (a v : ℕ) (c : Core) (x : Mach) → x.state.core ≡ c → does (store_effect w c a v) x ≡ guarded (aligned w a) (guarded (nat_le (bytes_of w) (writable c a)) (Next (with_core x (put w c a v))))
put-does Word a v c x e = does-two (a % 4 == 0) (nat_le 4 (writable c a)) _ (halts.BadAddress a) (halts.Misaligned a) x
    ∙ ap (λ d. guarded (a % 4 == 0) (guarded (nat_le 4 (writable c a)) (Next (with_core x (put Word d a v))))) e
put-does SignedHalf a v c x e = does-two (a % 2 == 0) (nat_le 2 (writable c a)) _ (halts.BadAddress a) (halts.Misaligned a) x
    ∙ ap (λ d. guarded (a % 2 == 0) (guarded (nat_le 2 (writable c a)) (Next (with_core x (put SignedHalf d a v))))) e
put-does UnsignedHalf a v c x e = does-two (a % 2 == 0) (nat_le 2 (writable c a)) _ (halts.BadAddress a) (halts.Misaligned a) x
    ∙ ap (λ d. guarded (a % 2 == 0) (guarded (nat_le 2 (writable c a)) (Next (with_core x (put UnsignedHalf d a v))))) e
put-does SignedByte a v c x e = does-one (nat_le 1 (writable c a)) _ (halts.BadAddress a) x ∙ ap (λ d. guarded (nat_le 1 (writable c a)) (Next (with_core x (put SignedByte d a v)))) e
put-does UnsignedByte a v c x e = does-one (nat_le 1 (writable c a)) _ (halts.BadAddress a) x ∙ ap (λ d. guarded (nat_le 1 (writable c a)) (Next (with_core x (put UnsignedByte d a v)))) e

pub store-step : (around : Around) (w : Width) (a v : ℕ) (x : Mach) → touches around a (bytes_of w) (store_effect w x.state.core a v) x
    ≡ guarded (is_free around.banned a (bytes_of w)) (guarded (aligned w a) (guarded (nat_le (bytes_of w) (writable x.state.core a)) (Next (with_core x (put w x.state.core a v)))))
store-step around w a v x = ap (λ s. guarded (is_free around.banned a (bytes_of w)) s) (put-does w a v x.state.core x refl)

-- Bytes stay bytes, and memory keeps its sizes

put-bytes : (w : Width) (o : ByteOrder) (xs : List ℕ) (i v : ℕ) → AreBytes xs → AreBytes (put_in w o xs i v)
put-bytes Word o xs i v h = word-bytes o xs i v h
put-bytes SignedHalf o xs i v h = half-bytes o xs i (low16 v) h
put-bytes UnsignedHalf o xs i v h = half-bytes o xs i (low16 v) h
put-bytes SignedByte o xs i v h = set-bytes xs i (low8 v) (low8-byte v) h
put-bytes UnsignedByte o xs i v h = set-bytes xs i (low8 v) (low8-byte v) h

pub put-words : (w : Width) (c : Core) (a v : ℕ) → HoldsWords c → HoldsWords (put w c a v)
put-words w c a v h =
    memory-words-by (nat_lt a stack_start) c (put_in w c.order c.low (a - text_start) v) (put_in w c.order c.stack (a - stack_start) v) h
    (put-bytes w c.order c.low (a - text_start) v h.low_bytes) (put-bytes w c.order c.stack (a - stack_start) v h.stack_bytes)

-- what a store leaves of a core
pub record KeepsSizes (c d : Core) : Type 0 where
  pub order : d.order ≡ c.order
  pub regs : d.regs ≡ c.regs
  pub high : d.hi ≡ c.hi
  pub lower : d.lo ≡ c.lo
  pub text : d.text_end ≡ c.text_end
  pub begin : d.data_start ≡ c.data_start
  pub low_size : length d.low ≡ length c.low
  pub stack_size : length d.stack ≡ length c.stack

pub put-sizes : (w : Width) (c : Core) (a v : ℕ) → KeepsSizes c (put w c a v)
put-sizes w c a v = by (nat_lt a stack_start)
  where
    by : (b : Bool) → KeepsSizes c (if b then record c { low = put_in w c.order c.low (a - text_start) v } else record c { stack = put_in w c.order c.stack (a - stack_start) v })
    by true = record { order = refl; regs = refl; high = refl; lower = refl; text = refl; begin = refl; low_size = put-length w c.order c.low (a - text_start) v; stack_size = refl }
    by false = record { order = refl; regs = refl; high = refl; lower = refl; text = refl; begin = refl; low_size = refl; stack_size = put-length w c.order c.stack (a - stack_start) v }

pub put-laid : (w : Width) (c : Core) (a v : ℕ) → LaidOut c → LaidOut (put w c a v)
put-laid w c a v h =
    let k = put-sizes w c a v in
    let e = k.text in let b = k.begin in let l = k.low_size in let n = k.stack_size in
    let g0 = h.text in let g1 = h.gap in let g2 = h.data_and_bss in let g3 = h.above in let g4 = h.stack_size in
    record { text = omega (arith, e, g0); gap = omega (arith, e, b, g1); data_and_bss = omega (arith, b, l, g2); above = omega (arith, l, g3); stack_size = n ∙ g4 }

-- moves of one size get one value
pub get-one : (w u : Width) (c : Core) (a : ℕ) → AreOneSize w u → get w c a ≡ get u c a
get-one w u c a one = by (nat_lt a stack_start)
  where
    by : (b : Bool) → (if b then get_in w c.order c.low (a - text_start) else get_in w c.order c.stack (a - stack_start)) ≡ (if b then get_in u c.order c.low (a - text_start) else get_in u c.order c.stack (a - stack_start))
    by true = one.gets c.order c.low (a - text_start)
    by false = one.gets c.order c.stack (a - stack_start)

-- In the stack

stack-get : (w : Width) (c : Core) (a : ℕ) → stack_start ≤ a → get w c a ≡ get_in w c.order c.stack (a - stack_start)
stack-get w c a h = ap (λ b. if b then get_in w c.order c.low (a - text_start) else get_in w c.order c.stack (a - stack_start)) (le-ltb a stack_start h)

pub stack-put : (w : Width) (c : Core) (a v : ℕ) → stack_start ≤ a → put w c a v ≡ record c { stack = put_in w c.order c.stack (a - stack_start) v }
stack-put w c a v h = ap (λ b. if b then record c { low = put_in w c.order c.low (a - text_start) v } else record c { stack = put_in w c.order c.stack (a - stack_start) v }) (le-ltb a stack_start h)

low-put : (w : Width) (c : Core) (a v : ℕ) → a < stack_start → put w c a v ≡ record c { low = put_in w c.order c.low (a - text_start) v }
low-put w c a v h = ap (λ b. if b then record c { low = put_in w c.order c.low (a - text_start) v } else record c { stack = put_in w c.order c.stack (a - stack_start) v }) (lt-ltb a stack_start h)

high-byte : (c : Core) (a : ℕ) → stack_start ≤ a → read_byte c a ≡ slice_index c.stack (a - stack_start)
high-byte c a h = ap (λ b. if b then slice_index c.low (a - text_start) else slice_index c.stack (a - stack_start)) (le-ltb a stack_start h)

low-byte : (c : Core) (a : ℕ) → a < stack_start → read_byte c a ≡ slice_index c.low (a - text_start)
low-byte c a h = ap (λ b. if b then slice_index c.low (a - text_start) else slice_index c.stack (a - stack_start)) (lt-ltb a stack_start h)

-- by its bytes
pub get-bytes : (w : Width) (c d : Core) (a : ℕ) → stack_start ≤ a → c.order ≡ d.order → ((k : ℕ) → k < bytes_of w → read_byte c (a + k) ≡ read_byte d (a + k)) → get w c a ≡ get w d a
get-bytes w c d a h order same =
    stack-get w c a h
    ∙ (get-alike c.stack d.stack (a - stack_start) w c.order byte
    ∙ (ap (λ o. get_in w o d.stack (a - stack_start)) order ∙ sym (stack-get w d a h)))
  where
    byte : (k : ℕ) → k < bytes_of w → slice_index c.stack (a - stack_start + k) ≡ slice_index d.stack (a - stack_start + k)
    byte k l =
        let z : a + k - stack_start ≡ a - stack_start + k = omega (arith, h) in
        ap (slice_index c.stack) (sym z) ∙ (sym (high-byte c (a + k) (omega (arith, h))) ∙ (same k l ∙ (high-byte d (a + k) (omega (arith, h)) ∙ ap (slice_index d.stack) z)))

-- so many bytes of the stack
pub record IsInStack (c : Core) (a n : ℕ) : Type 0 where
  pub low : stack_start ≤ a
  pub high : a + n ≤ stack_end
  pub laid : LaidOut c
  pub bare : c.text_end ≡ text_start

writable-by : (p q r t : Bool) (a b n : ℕ) → p ≡ false → q ≡ false → r ≡ false → t ≡ true → (if p then 0 else (if q then b else (if r then 0 else (if t then n else 0)))) ≡ n
writable-by p q r t a b n ep eq er et =
    ap (λ z. if z then 0 else (if q then b else (if r then 0 else (if t then n else 0)))) ep
    ∙ (ap (λ z. if z then b else (if r then 0 else (if t then n else 0))) eq
    ∙ (ap (λ z. if z then 0 else (if t then n else 0)) er ∙ ap (λ z. if z then n else 0) et))

pub stack-writable : (c : Core) (a n : ℕ) → IsInStack c a n → 0 < n → nat_le n (writable c a) ≡ true
stack-writable c a n s some =
    let l0 = s.low in let h0 = s.high in let g2 = s.laid.data_and_bss in let g3 = s.laid.above in
    let w : writable c a ≡ stack_end - a =
    writable-by (nat_lt a c.data_start) (nat_lt a (low_end c)) (nat_lt a stack_start) (nat_lt a stack_end) a (low_end c - a) (stack_end - a)
    (le-ltb a c.data_start (omega (arith, l0, g2, g3))) (le-ltb a (low_end c) (omega (arith, l0, g3))) (le-ltb a stack_start l0) (lt-ltb a stack_end (omega (arith, h0, some))) in
    le-leb n (writable c a) (omega (arith, w, h0))

readable-by : (o p q r t u v : Bool) (b d e n : ℕ) → o ≡ false → p ≡ false → q ≡ false → r ≡ false → t ≡ false → u ≡ true →
    (if o then 0 else (if p then (if v then b else d) else (if q then 0 else (if r then e else (if t then 0 else (if u then n else 0)))))) ≡ n
readable-by o p q r t u v b d e n eo ep eq er et eu =
    ap (λ z. if z then 0 else (if p then (if v then b else d) else (if q then 0 else (if r then e else (if t then 0 else (if u then n else 0)))))) eo
    ∙ (ap (λ z. if z then (if v then b else d) else (if q then 0 else (if r then e else (if t then 0 else (if u then n else 0))))) ep
    ∙ writable-by q r t u n e n eq er et eu)

pub stack-readable : (c : Core) (a n : ℕ) → IsInStack c a n → 0 < n → nat_le n (readable c a) ≡ true
stack-readable c a n s some =
    let l0 = s.low in let h0 = s.high in let g2 = s.laid.data_and_bss in let g3 = s.laid.above in let g5 = s.bare in
    let w : readable c a ≡ stack_end - a =
    readable-by (nat_lt a text_start) (nat_lt a c.text_end) (nat_lt a c.data_start) (nat_lt a (low_end c)) (nat_lt a stack_start) (nat_lt a stack_end) (c.text_end == c.data_start)
    (low_end c - a) (c.text_end - a) (low_end c - a) (stack_end - a)
    (le-ltb a text_start (omega (arith, l0))) (le-ltb a c.text_end (omega (arith, l0, g5))) (le-ltb a c.data_start (omega (arith, l0, g2, g3))) (le-ltb a (low_end c) (omega (arith, l0, g3)))
    (le-ltb a stack_start l0) (lt-ltb a stack_end (omega (arith, h0, some))) in
    le-leb n (readable c a) (omega (arith, w, h0))

pub stack-aligned : (w : Width) (a : ℕ) → a % 4 ≡ 0 → aligned w a ≡ true
stack-aligned Word a h = ap (λ z. z == 0) h
stack-aligned SignedHalf a h = let e : a % 2 ≡ 0 = omega (arith, h) in ap (λ z. z == 0) e
stack-aligned UnsignedHalf a h = let e : a % 2 ≡ 0 = omega (arith, h) in ap (λ z. z == 0) e
stack-aligned SignedByte a h = refl
stack-aligned UnsignedByte a h = refl

-- what is put into the stack is gotten, by any move of this size
pub get-put : (w u : Width) (c : Core) (a v : ℕ) → bytes_of u ≡ bytes_of w → IsInStack c a (bytes_of w) → v < 2 ^ 32 → get u (put w c a v) a ≡ stored w v
get-put w u c a v e s small =
    let l0 = s.low in let h0 = s.high in let g4 = s.laid.stack_size in
    let same : AreOneSize u w = one-size u w e in
    ap (λ d. get u d a) (stack-put w c a v l0)
    ∙ (stack-get u (record c { stack = put_in w c.order c.stack (a - stack_start) v }) a l0
    ∙ (same.gets c.order (put_in w c.order c.stack (a - stack_start) v) (a - stack_start)
    ∙ put-get w c.order c.stack (a - stack_start) v (omega (arith, l0, h0, g4)) small))

-- and elsewhere all is as before
pub get-beside : (w u : Width) (c : Core) (a b v : ℕ) → stack_start ≤ b → (b + bytes_of u ≤ a) ⊎ (a + bytes_of w ≤ b) → get u (put w c a v) b ≡ get u c b
get-beside w u c a b v h beside = by (cases_lt a stack_start)
  where
    in-low : a < stack_start → get u (put w c a v) b ≡ get u c b
    in-low l = ap (λ d. get u d b) (low-put w c a v l) ∙ (stack-get u (record c { low = put_in w c.order c.low (a - text_start) v }) b h ∙ sym (stack-get u c b h))

    apart : stack_start ≤ a → (b + bytes_of u ≤ a) ⊎ (a + bytes_of w ≤ b) → (k : ℕ) → k < bytes_of u → IsBeside (a - stack_start) (bytes_of w) (b - stack_start + k)
    apart l (inl q) k m = inl (omega (arith, l, h, q, m))
    apart l (inr q) k m = inr (omega (arith, l, h, q))

    by : (a < stack_start) ⊎ (stack_start ≤ a) → get u (put w c a v) b ≡ get u c b
    by (inl l) = in-low l
    by (inr l) =
        ap (λ d. get u d b) (stack-put w c a v l)
        ∙ (stack-get u (record c { stack = put_in w c.order c.stack (a - stack_start) v }) b h
        ∙ (get-alike (put_in w c.order c.stack (a - stack_start) v) c.stack (b - stack_start) u c.order
        (λ k m. put-beside w c.order c.stack (a - stack_start) (b - stack_start + k) v (apart l beside k m))
        ∙ sym (stack-get u c b h)))

pub get-loaded : (w : Width) (c : Core) (a : ℕ) → HoldsWords c → loaded w (get w c a) ≡ moved w (get w c a)
get-loaded w c a h = by (nat_lt a stack_start)
  where
    by : (b : Bool) → loaded w (if b then get_in w c.order c.low (a - text_start) else get_in w c.order c.stack (a - stack_start)) ≡ moved w (if b then get_in w c.order c.low (a - text_start) else get_in w c.order c.stack (a - stack_start))
    by true = loaded-moved w c.order c.low (a - text_start) h.low_bytes
    by false = loaded-moved w c.order c.stack (a - stack_start) h.stack_bytes

pub get-stored : (w : Width) (c : Core) (a : ℕ) → HoldsWords c → stored w (get w c a) ≡ get w c a
get-stored w c a h = by (nat_lt a stack_start)
  where
    by : (b : Bool) → stored w (if b then get_in w c.order c.low (a - text_start) else get_in w c.order c.stack (a - stack_start)) ≡ (if b then get_in w c.order c.low (a - text_start) else get_in w c.order c.stack (a - stack_start))
    by true = stored-get w c.order c.low (a - text_start) h.low_bytes
    by false = stored-get w c.order c.stack (a - stack_start) h.stack_bytes

-- Two cores

-- equal memory but for these bytes of the stack
pub record SameCore (apart : ℕ → Bool) (c d : Core) : Type 0 where
  pub order : c.order ≡ d.order
  pub low : c.low ≡ d.low
  pub begin : c.data_start ≡ d.data_start
  pub size : length c.stack ≡ length d.stack
  pub stack : (k : ℕ) → apart (stack_start + k) ≡ false → slice_index c.stack k ≡ slice_index d.stack k

module _ (apart : ℕ → Bool) (c d : Core) (s : SameCore apart c d) where
  pub same-readable : c.text_end ≡ d.text_end → (a : ℕ) → readable c a ≡ readable d a
  same-readable e a =
      let n = ap length s.low in
      λ t. if nat_lt a text_start then 0 else
      if nat_lt a (e t) then (if e t == s.begin t then text_start + n t - a else e t - a) else
      if nat_lt a (s.begin t) then 0 else
      if nat_lt a (text_start + n t) then text_start + n t - a else
      if nat_lt a stack_start then 0 else
      if nat_lt a stack_end then stack_end - a else 0

  pub same-writable : (a : ℕ) → writable c a ≡ writable d a
  same-writable a =
      let n = ap length s.low in
      λ t. if nat_lt a (s.begin t) then 0 else
      if nat_lt a (text_start + n t) then text_start + n t - a else
      if nat_lt a stack_start then 0 else
      if nat_lt a stack_end then stack_end - a else 0

  -- bytes that are not apart
  pub same-get : (w : Width) (a : ℕ) → ((k : ℕ) → k < bytes_of w → apart (a + k) ≡ false) → get w c a ≡ get w d a
  same-get w a free = by (cases_lt a stack_start)
    where
      by : (a < stack_start) ⊎ (stack_start ≤ a) → get w c a ≡ get w d a
      by (inl l) =
          ap (λ b. if b then get_in w c.order c.low (a - text_start) else get_in w c.order c.stack (a - stack_start)) (lt-ltb a stack_start l)
          ∙ ((λ t. get_in w (s.order t) (s.low t) (a - text_start))
          ∙ sym (ap (λ b. if b then get_in w d.order d.low (a - text_start) else get_in w d.order d.stack (a - stack_start)) (lt-ltb a stack_start l)))
      by (inr l) =
          stack-get w c a l
          ∙ (get-alike c.stack d.stack (a - stack_start) w c.order
          (λ k m. s.stack (a - stack_start + k) (ap apart (let z : stack_start + (a - stack_start + k) ≡ a + k = omega (arith, l) in z) ∙ free k m))
          ∙ (ap (λ o. get_in w o d.stack (a - stack_start)) s.order ∙ sym (stack-get w d a l)))

  -- the same is stored in both
  pub same-put : (w : Width) (a v : ℕ) → SameCore apart (put w c a v) (put w d a v)
  same-put w a v = by (cases_lt a stack_start)
    where
      by : (a < stack_start) ⊎ (stack_start ≤ a) → SameCore apart (put w c a v) (put w d a v)
      by (inl l) = subst (λ z. SameCore apart z (put w d a v)) (sym (low-put w c a v l)) (subst (SameCore apart (record c { low = put_in w c.order c.low (a - text_start) v })) (sym (low-put w d a v l))
          (record { order = s.order; low = λ t. put_in w (s.order t) (s.low t) (a - text_start) v; begin = s.begin; size = s.size; stack = s.stack }))
      by (inr l) = subst (λ z. SameCore apart z (put w d a v)) (sym (stack-put w c a v l)) (subst (SameCore apart (record c { stack = put_in w c.order c.stack (a - stack_start) v })) (sym (stack-put w d a v l))
          (record {
            order = s.order;
            low = s.low;
            begin = s.begin;
            size = put-length w c.order c.stack (a - stack_start) v ∙ (s.size ∙ sym (put-length w d.order d.stack (a - stack_start) v));
            stack = λ k h. put-both w c.order c.stack d.stack (a - stack_start) k v s.size (s.stack k h) ∙ ap (λ o. slice_index (put_in w o d.stack (a - stack_start) v) k) s.order;
          }))

  -- bytes that are apart are stored in the second
  pub apart-put : (w : Width) (a v : ℕ) → stack_start ≤ a → ((k : ℕ) → k < bytes_of w → apart (a + k) ≡ true) → SameCore apart c (put w d a v)
  apart-put w a v l own = subst (SameCore apart c) (sym (stack-put w d a v l))
      (record {
        order = s.order;
        low = s.low;
        begin = s.begin;
        size = s.size ∙ sym (put-length w d.order d.stack (a - stack_start) v);
        stack = λ k h. s.stack k h ∙ sym (put-beside w d.order d.stack (a - stack_start) k v (beside k h (cases_lt k (a - stack_start)) (cases_lt k (a - stack_start + bytes_of w))));
      })
    where
      beside : (k : ℕ) → apart (stack_start + k) ≡ false → (k < a - stack_start) ⊎ (a - stack_start ≤ k) → (k < a - stack_start + bytes_of w) ⊎ (a - stack_start + bytes_of w ≤ k) → IsBeside (a - stack_start) (bytes_of w) k
      beside k h (inl q) m = inl q
      beside k h (inr q) (inr m) = inr m
      beside k h (inr q) (inl m) =
          let z : a + (stack_start + k - a) ≡ stack_start + k = omega (arith, l, q) in
          absurd (let f : false ≡ true = sym h ∙ (ap apart (sym z) ∙ own (stack_start + k - a) (omega (arith, l, q, m))) in cc)

-- From equal bytes

pub same-by-bytes : (apart : ℕ → Bool) (c d : Core) → c.order ≡ d.order → c.data_start ≡ d.data_start → length c.low ≡ length d.low → length c.stack ≡ length d.stack →
    text_start + length c.low ≤ stack_start → ((a : ℕ) → a < stack_start → apart a ≡ false) → ((a : ℕ) → apart a ≡ false → read_byte c a ≡ read_byte d a) → SameCore apart c d
same-by-bytes apart c d order begin low size above below bytes = record {
  order = order;
  low = ext_get_or 0 c.low d.low low (λ k l. low-at k l);
  begin = begin;
  size = size;
  stack = λ k h. high-at k h;
}
  where
    low-at : (k : ℕ) → k < length c.low → slice_index c.low k ≡ slice_index d.low k
    low-at k l =
        let under : text_start + k < stack_start = omega (arith, l, above) in
        let z : text_start + k - text_start ≡ k = omega arith in
        ap (slice_index c.low) (sym z) ∙ (sym (low-byte c (text_start + k) under) ∙ (bytes (text_start + k) (below (text_start + k) under) ∙ (low-byte d (text_start + k) under ∙ ap (slice_index d.low) z)))

    high-at : (k : ℕ) → apart (stack_start + k) ≡ false → slice_index c.stack k ≡ slice_index d.stack k
    high-at k h =
        let up : stack_start ≤ stack_start + k = omega arith in
        let z : stack_start + k - stack_start ≡ k = omega arith in
        ap (slice_index c.stack) (sym z) ∙ (sym (high-byte c (stack_start + k) up) ∙ (bytes (stack_start + k) h ∙ (high-byte d (stack_start + k) up ∙ ap (slice_index d.stack) z)))

pub bytes-by-same : (apart : ℕ → Bool) (c d : Core) → SameCore apart c d → (a : ℕ) → apart a ≡ false → read_byte c a ≡ read_byte d a
bytes-by-same apart c d s a h = same-get apart c d s SignedByte a free
  where
    free : (k : ℕ) → k < 1 → apart (a + k) ≡ false
    free k l = let z : a + k ≡ a = omega (arith, l) in ap apart z ∙ h
