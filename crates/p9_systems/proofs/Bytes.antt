-- Bytes of memory that lie together: which may be read and written, and what stands there.
use Rattle.std.proofs.Common.{◌≡◌, ◌≤◌, ◌<◌, ◌⊎◌, inl, inr, ℕ, ◌+◌, ◌-◌, ◌%◌, ◌/◌, ◌*◌, ◌^◌, nat_lt, Bool, true, false, if◌then◌else◌, List, [], ◌∷◌, ◌++◌, length, take, drop, slice_index, slice_set, refl, sym, ap, ◌∙◌, subst, arith, length-append, length-drop}
use Rattle.std.proofs.lemmas.Bool.Decides.{nat_tests}
use Rattle.std.proofs.lemmas.List.{get_or-set_same, get_or-set_other, length-set, get_or-take, get_or-drop, length-take-le, get_or_append_left, get_or-append-add, ext_get_or}
use Rattle.std.proofs.Math.Seq.{get_or-append_right}
use Rattle.p9_base.specs.declared.order.ByteOrder.TheVariants.{Big}
use Rattle.p9_base.specs.Core.{Core, text_start, stack_start, stack_end, low_end, reg, readable, writable, word_in, with_four, with_word_in, read_byte, read_word, bytes_from, over, with_bytes}
use Rattle.p9_base.specs.Holding.{LaidOut}
use Rattle.p9_base.proofs.Kept.{over-none}
use Rattle.p9_sim.specs.Matching.{Lies}

-- WHERE BYTES LIE

-- n bytes from a on are all in data, or all in the stack
abbrev pub Spans : Core → (a n : ℕ) → Type 0
Spans x a n = ((x.data_start ≤ a) × (a + n ≤ low_end x)) ⊎ ((stack_start ≤ a) × (a + n ≤ stack_end))

split : (i j : ℕ) → (i < j) ⊎ (j ≤ i)
split i j = cut (nat_lt i j) refl
  where
    cut : (z : Bool) → nat_lt i j ≡ z → (i < j) ⊎ (j ≤ i)
    cut true e = inl (grind (arith, nat_tests))
    cut false e = inr (grind (arith, nat_tests))

pub spans-from : (x : Core) (a n : ℕ) → low_end x < stack_start → stack_start ≤ reg x 29 → 0 < n → ((i : ℕ) → i < n → Lies x (a + i)) → Spans x a n
spans-from x a n gap high some all = by (all 0 (omega (arith, some))) (all (n - 1) (omega (arith, some)))
  where
    seam : a < low_end x → low_end x ≤ a + n - 1 → Lies x (a + (low_end x - a)) → ⊥
    seam l u (inl q) = let q1 = q.1 in omega (arith, q1, l, u)
    seam l u (inr q) = let q0 = q.0 in omega (arith, q0, l, u, gap, high)

    by : Lies x (a + 0) → Lies x (a + (n - 1)) → Spans x a n
    by (inl p) (inl q) = let p0 = p.0 in let q1 = q.1 in inl (omega (arith, p0), omega (arith, q1, some))
    by (inr p) (inr q) = let p0 = p.0 in let q1 = q.1 in inr (omega (arith, p0, high), omega (arith, q1, some))
    by (inl p) (inr q) = let p1 = p.1 in let q0 = q.0 in absurd (seam (omega (arith, p1)) (omega (arith, q0, high, gap, some)) (all (low_end x - a) (omega (arith, p1, q0, high, gap, some))))
    by (inr p) (inl q) = let p0 = p.0 in let q1 = q.1 in absurd (omega (arith, p0, q1, high, gap, some))

pub spans-less : (x : Core) (a n k : ℕ) → k ≤ n → Spans x a n → Spans x a k
spans-less x a n k h (inl q) = let q1 = q.1 in inl (q.0, omega (arith, q1, h))
spans-less x a n k h (inr q) = let q1 = q.1 in inr (q.0, omega (arith, q1, h))

record Reach (x : Core) (a n : ℕ) : Type 0 where
  pub read : n ≤ readable x a
  pub write : n ≤ writable x a

reach : (x : Core) (a n : ℕ) → x.text_end ≡ text_start → LaidOut x → 0 < n → Spans x a n → Reach x a n
reach x a n text laid some (inl h) =
    let h0 = h.0 in let h1 = h.1 in
    let t = laid.text in let g = laid.gap in
    let e1 : nat_lt a text_start ≡ false = grind (arith, nat_tests) in
    let e2 : nat_lt a x.text_end ≡ false = grind (arith, nat_tests) in
    let e3 : nat_lt a x.data_start ≡ false = grind (arith, nat_tests) in
    let e4 : nat_lt a (low_end x) ≡ true = (let l : a < low_end x = omega (arith, h1, some) in grind (arith, nat_tests)) in
    record { read = rw (e1, e2, e3, e4) (omega (arith, h1)); write = rw (e3, e4) (omega (arith, h1)) }
reach x a n text laid some (inr h) =
    let h0 = h.0 in let h1 = h.1 in
    let t = laid.text in let g = laid.gap in let d = laid.data_and_bss in let u = laid.above in
    let e1 : nat_lt a text_start ≡ false = grind (arith, nat_tests) in
    let e2 : nat_lt a x.text_end ≡ false = (let l : x.text_end ≤ a = omega (arith, g, d, u, h0) in grind (arith, nat_tests)) in
    let e3 : nat_lt a x.data_start ≡ false = (let l : x.data_start ≤ a = omega (arith, d, u, h0) in grind (arith, nat_tests)) in
    let e4 : nat_lt a (low_end x) ≡ false = (let l : low_end x ≤ a = omega (arith, u, h0) in grind (arith, nat_tests)) in
    let e5 : nat_lt a stack_start ≡ false = grind (arith, nat_tests) in
    let e6 : nat_lt a stack_end ≡ true = (let l : a < stack_end = omega (arith, h1, some) in grind (arith, nat_tests)) in
    record { read = rw (e1, e2, e3, e4, e5, e6) (omega (arith, h1)); write = rw (e3, e4, e5, e6) (omega (arith, h1)) }

pub readable-span : (x : Core) (a n : ℕ) → x.text_end ≡ text_start → LaidOut x → 0 < n → Spans x a n → n ≤ readable x a
readable-span x a n text laid some h = (reach x a n text laid some h).read

pub writable-span : (x : Core) (a n : ℕ) → x.text_end ≡ text_start → LaidOut x → 0 < n → Spans x a n → n ≤ writable x a
writable-span x a n text laid some h = (reach x a n text laid some h).write

-- so are all bytes from a on that may be read
pub spans-all : (x : Core) (a n : ℕ) → x.text_end ≡ text_start → LaidOut x → 0 < n → Spans x a n → Spans x a (readable x a)
spans-all x a n text laid some (inl h) =
    let h0 = h.0 in let h1 = h.1 in
    let t = laid.text in let g = laid.gap in
    let e1 : nat_lt a text_start ≡ false = grind (arith, nat_tests) in
    let e2 : nat_lt a x.text_end ≡ false = grind (arith, nat_tests) in
    let e3 : nat_lt a x.data_start ≡ false = grind (arith, nat_tests) in
    let e4 : nat_lt a (low_end x) ≡ true = (let l : a < low_end x = omega (arith, h1, some) in grind (arith, nat_tests)) in
    let e : readable x a ≡ low_end x - a = rw (e1, e2, e3, e4) refl in
    inl (h0, omega (arith, e, h1))
spans-all x a n text laid some (inr h) =
    let h0 = h.0 in let h1 = h.1 in
    let t = laid.text in let g = laid.gap in let d = laid.data_and_bss in let u = laid.above in
    let e1 : nat_lt a text_start ≡ false = grind (arith, nat_tests) in
    let e2 : nat_lt a x.text_end ≡ false = (let l : x.text_end ≤ a = omega (arith, g, d, u, h0) in grind (arith, nat_tests)) in
    let e3 : nat_lt a x.data_start ≡ false = (let l : x.data_start ≤ a = omega (arith, d, u, h0) in grind (arith, nat_tests)) in
    let e4 : nat_lt a (low_end x) ≡ false = (let l : low_end x ≤ a = omega (arith, u, h0) in grind (arith, nat_tests)) in
    let e5 : nat_lt a stack_start ≡ false = grind (arith, nat_tests) in
    let e6 : nat_lt a stack_end ≡ true = (let l : a < stack_end = omega (arith, h1, some) in grind (arith, nat_tests)) in
    let e : readable x a ≡ stack_end - a = rw (e1, e2, e3, e4, e5, e6) refl in
    inr (h0, omega (arith, e, h1))

-- READ BYTES

pub byte-low : (x : Core) (a : ℕ) → a < stack_start → read_byte x a ≡ slice_index x.low (a - text_start)
byte-low x a h = let e : nat_lt a stack_start ≡ true = grind (arith, nat_tests) in rw e refl

pub byte-high : (x : Core) (a : ℕ) → stack_start ≤ a → read_byte x a ≡ slice_index x.stack (a - stack_start)
byte-high x a h = let e : nat_lt a stack_start ≡ false = grind (arith, nat_tests) in rw e refl

part-length : (xs : List ℕ) (i n : ℕ) → i + n ≤ length xs → length (take n (drop i xs)) ≡ n
part-length xs i n h = let d = length-drop i xs in length-take-le n (drop i xs) (omega (arith, d, h))

part-index : (xs : List ℕ) (i n j : ℕ) → j < n → slice_index (take n (drop i xs)) j ≡ slice_index xs (i + j)
part-index xs i n j h = get_or-take n (drop i xs) j 0 h ∙ get_or-drop i xs j 0

-- the bytes from an address on, where they lie together
pub record IsRun (x : Core) (a n : ℕ) : Type 0 where
  pub count : length (bytes_from x a n) ≡ n
  pub bytes : (j : ℕ) → j < n → slice_index (bytes_from x a n) j ≡ read_byte x (a + j)

pub run-of : (x : Core) (a n : ℕ) → LaidOut x → 0 < n → Spans x a n → IsRun x a n
run-of x a n laid some (inl h) =
    let h0 = h.0 in let h1 = h.1 in let t = laid.text in let g = laid.gap in let u = laid.above in
    let low : a < stack_start = omega (arith, h1, u, some) in
    let e : nat_lt a stack_start ≡ true = grind (arith, nat_tests) in
    let fits : (a - text_start) + n ≤ length x.low = omega (arith, h1, h0, t, g) in
    record {
      count = rw e (part-length x.low (a - text_start) n fits);
      bytes = λ j l. (let q : a - text_start + j ≡ a + j - text_start = omega (arith, h0, t, g) in rw e (part-index x.low (a - text_start) n j l ∙ (ap (slice_index x.low) q ∙ sym (byte-low x (a + j) (omega (arith, l, h1, u))))));
    }
run-of x a n laid some (inr h) =
    let h0 = h.0 in let h1 = h.1 in let s = laid.stack_size in
    let e : nat_lt a stack_start ≡ false = grind (arith, nat_tests) in
    let fits : (a - stack_start) + n ≤ length x.stack = omega (arith, h1, h0, s) in
    record {
      count = rw e (part-length x.stack (a - stack_start) n fits);
      bytes = λ j l. (let q : a - stack_start + j ≡ a + j - stack_start = omega (arith, h0) in rw e (part-index x.stack (a - stack_start) n j l ∙ (ap (slice_index x.stack) q ∙ sym (byte-high x (a + j) (omega (arith, h0))))));
    }

pub bytes-none : (x : Core) (a : ℕ) → bytes_from x a 0 ≡ []
bytes-none x a = by (nat_lt a stack_start)
  where
    by : (b : Bool) → (if b then take 0 (drop (a - text_start) x.low) else take 0 (drop (a - stack_start) x.stack)) ≡ []
    by true = refl
    by false = refl

-- they are those of a list
pub bytes-are : (x : Core) (a : ℕ) (xs : List ℕ) → LaidOut x → Spans x a (length xs) → ((j : ℕ) → j < length xs → read_byte x (a + j) ≡ slice_index xs j) → bytes_from x a (length xs) ≡ xs
bytes-are x a [] laid h same = bytes-none x a
bytes-are x a (b ∷ xs) laid h same =
    let r = run-of x a (length (b ∷ xs)) laid (omega arith) h in
    ext_get_or 0 (bytes_from x a (length (b ∷ xs))) (b ∷ xs) r.count (λ i l. (let n = r.count in let k : i < length (b ∷ xs) = omega (arith, l, n) in r.bytes i k ∙ same i k))

-- WRITTEN BYTES

over-before : (bytes : List ℕ) (i : ℕ) (xs : List ℕ) (j : ℕ) → i ≤ length bytes → j < i → slice_index (over bytes i xs) j ≡ slice_index bytes j
over-before bytes i xs j fits h =
    let t : length (take i bytes) ≡ i = length-take-le i bytes fits in
    let l = length-append (take i bytes) xs in
    get_or_append_left (take i bytes ++ xs) (drop (i + length xs) bytes) 0 j (omega (arith, t, l, h))
    ∙ (get_or_append_left (take i bytes) xs 0 j (omega (arith, t, h)) ∙ get_or-take i bytes j 0 h)

over-within : (bytes : List ℕ) (i : ℕ) (xs : List ℕ) (j : ℕ) → i ≤ length bytes → j < length xs → slice_index (over bytes i xs) (i + j) ≡ slice_index xs j
over-within bytes i xs j fits h =
    let t : length (take i bytes) ≡ i = length-take-le i bytes fits in
    let l = length-append (take i bytes) xs in
    let e : i + j ≡ length (take i bytes) + j = omega (arith, t) in
    get_or_append_left (take i bytes ++ xs) (drop (i + length xs) bytes) 0 (i + j) (omega (arith, t, l, h))
    ∙ (ap (slice_index (take i bytes ++ xs)) e ∙ get_or-append-add (take i bytes) xs j 0)

over-behind : (bytes : List ℕ) (i : ℕ) (xs : List ℕ) (j : ℕ) → i ≤ length bytes → i + length xs ≤ j → slice_index (over bytes i xs) j ≡ slice_index bytes j
over-behind bytes i xs j fits h =
    let t : length (take i bytes) ≡ i = length-take-le i bytes fits in
    let l = length-append (take i bytes) xs in
    let e : i + length xs + (j - length (take i bytes ++ xs)) ≡ j = omega (arith, t, l, h) in
    get_or-append_right (take i bytes ++ xs) (drop (i + length xs) bytes) j 0 (omega (arith, t, l, h))
    ∙ (get_or-drop (i + length xs) bytes (j - length (take i bytes ++ xs)) 0 ∙ ap (slice_index bytes) e)

pub over-length : (bytes : List ℕ) (i : ℕ) (xs : List ℕ) → i + length xs ≤ length bytes → length (over bytes i xs) ≡ length bytes
over-length bytes i xs h =
    let t : length (take i bytes) ≡ i = length-take-le i bytes (omega (arith, h)) in
    let l = length-append (take i bytes) xs in
    let r = length-append (take i bytes ++ xs) (drop (i + length xs) bytes) in
    let d = length-drop (i + length xs) bytes in
    omega (arith, t, l, r, d, h)

-- what a machine with other bytes from an address on reads
pub record IsFilled (x : Core) (a : ℕ) (xs : List ℕ) (y : Core) : Type 0 where
  pub within : (j : ℕ) → j < length xs → read_byte y (a + j) ≡ slice_index xs j
  pub outside : (byte : ℕ) → (byte < a) ⊎ (a + length xs ≤ byte) → read_byte y byte ≡ read_byte x byte
  pub low : length y.low ≡ length x.low
  pub stack : length y.stack ≡ length x.stack

pub filled-of : (x : Core) (a : ℕ) (xs : List ℕ) → LaidOut x → text_start < x.data_start → 0 < length xs → Spans x a (length xs) → IsFilled x a xs (with_bytes x a xs)
filled-of x a xs laid behind some (inl h) =
    let h0 = h.0 in let h1 = h.1 in let t = laid.text in let g = laid.gap in let u = laid.above in
    let i : ℕ = a - text_start in
    let e : nat_lt a stack_start ≡ true = (let l : a < stack_start = omega (arith, h1, u, some) in grind (arith, nat_tests)) in
    let fits : i + length xs ≤ length x.low = omega (arith, h1, h0, t, g) in
    let y : Core = record x { low = over x.low i xs } in
    let r : IsFilled x a xs y = record {
      within = λ j l. (let q : a + j - text_start ≡ i + j = omega (arith, h0, t, g) in byte-low y (a + j) (omega (arith, l, h1, u)) ∙ (ap (slice_index y.low) q ∙ over-within x.low i xs j (omega (arith, fits)) l));
      outside = λ byte w. away byte w (split byte stack_start) i fits refl;
      low = over-length x.low i xs fits;
      stack = refl;
    } in
    subst (IsFilled x a xs) (sym (ap (λ b. if b then y else record x { stack = over x.stack (a - stack_start) xs }) e)) r
  where
    away : (byte : ℕ) → (byte < a) ⊎ (a + length xs ≤ byte) → (byte < stack_start) ⊎ (stack_start ≤ byte) → (i : ℕ) → i + length xs ≤ length x.low → a - text_start ≡ i
        → read_byte (record x { low = over x.low i xs }) byte ≡ read_byte x byte
    away byte (inl l) (inl d) i fits e = let h0 = h.0 in byte-low (record x { low = over x.low i xs }) byte d ∙ (over-before x.low i xs (byte - text_start) (omega (arith, fits)) (omega (arith, e, l, h0, behind)) ∙ sym (byte-low x byte d))
    away byte (inr l) (inl d) i fits e =
        let h0 = h.0 in let t = laid.text in let g = laid.gap in
        byte-low (record x { low = over x.low i xs }) byte d ∙ (over-behind x.low i xs (byte - text_start) (omega (arith, fits)) (omega (arith, e, l, h0, t, g)) ∙ sym (byte-low x byte d))
    away byte w (inr d) i fits e = byte-high (record x { low = over x.low i xs }) byte d ∙ sym (byte-high x byte d)
filled-of x a xs laid behind some (inr h) =
    let h0 = h.0 in let h1 = h.1 in let s = laid.stack_size in
    let i : ℕ = a - stack_start in
    let e : nat_lt a stack_start ≡ false = grind (arith, nat_tests) in
    let fits : i + length xs ≤ length x.stack = omega (arith, h1, h0, s) in
    let y : Core = record x { stack = over x.stack i xs } in
    let r : IsFilled x a xs y = record {
      within = λ j l. (let q : a + j - stack_start ≡ i + j = omega (arith, h0) in byte-high y (a + j) (omega (arith, h0)) ∙ (ap (slice_index y.stack) q ∙ over-within x.stack i xs j (omega (arith, fits)) l));
      outside = λ byte w. away byte w (split byte stack_start) i fits refl;
      low = refl;
      stack = over-length x.stack i xs fits;
    } in
    subst (IsFilled x a xs) (sym (ap (λ b. if b then record x { low = over x.low (a - text_start) xs } else y) e)) r
  where
    away : (byte : ℕ) → (byte < a) ⊎ (a + length xs ≤ byte) → (byte < stack_start) ⊎ (stack_start ≤ byte) → (i : ℕ) → i + length xs ≤ length x.stack → a - stack_start ≡ i
        → read_byte (record x { stack = over x.stack i xs }) byte ≡ read_byte x byte
    away byte w (inl d) i fits e = byte-low (record x { stack = over x.stack i xs }) byte d ∙ sym (byte-low x byte d)
    away byte (inl l) (inr d) i fits e = byte-high (record x { stack = over x.stack i xs }) byte d ∙ (over-before x.stack i xs (byte - stack_start) (omega (arith, fits)) (omega (arith, e, l, d)) ∙ sym (byte-high x byte d))
    away byte (inr l) (inr d) i fits e =
        let h0 = h.0 in
        byte-high (record x { stack = over x.stack i xs }) byte d ∙ (over-behind x.stack i xs (byte - stack_start) (omega (arith, fits)) (omega (arith, e, l, d, h0)) ∙ sym (byte-high x byte d))

-- where nothing is written, all is as it was
pub filled-none : (x : Core) (a : ℕ) → IsFilled x a [] (with_bytes x a [])
filled-none x a = by (nat_lt a stack_start)
  where
    same : IsFilled x a [] x
    same = record { within = λ j l. absurd (omega (arith, l)); outside = λ byte w. refl; low = refl; stack = refl }

    by : (b : Bool) → IsFilled x a [] (if b then record x { low = over x.low (a - text_start) [] } else record x { stack = over x.stack (a - stack_start) [] })
    by true = subst (λ l. IsFilled x a [] (record x { low = l })) (sym (over-none x.low (a - text_start))) same
    by false = subst (λ l. IsFilled x a [] (record x { stack = l })) (sym (over-none x.stack (a - stack_start))) same

-- A WORD OF THE STACK

-- the state with a word stored at this place of the stack
abbrev pub with_stack_word : Core → (a v : ℕ) → List ℕ
with_stack_word x a v = with_word_in Big x.stack (a - stack_start) v

other-index : (xs : List ℕ) (i j a b d e : ℕ) → (j < i) ⊎ (i + 4 ≤ j) → slice_index (with_four xs i a b d e) j ≡ slice_index xs j
other-index xs i j a b d e h =
    get_or-set_other _ (i + 3) j e 0 (λ z. by h z 3 (omega arith))
    ∙ (get_or-set_other _ (i + 2) j d 0 (λ z. by h z 2 (omega arith))
    ∙ (get_or-set_other _ (i + 1) j b 0 (λ z. by h z 1 (omega arith))
    ∙ get_or-set_other xs i j a 0 (λ z. (let n : i ≡ i + 0 = omega arith in by h (z ∙ n) 0 (omega arith)))))
  where
    by : (j < i) ⊎ (i + 4 ≤ j) → {n : ℕ} → j ≡ i + n → (k : ℕ) → n < 4 → ⊥
    by (inl l) z k m = omega (arith, l, z)
    by (inr l) z k m = omega (arith, l, z, m)

record HasFour (bytes : List ℕ) (i a b c d : ℕ) : Type 0 where
  one : slice_index bytes i ≡ a
  two : slice_index bytes (i + 1) ≡ b
  three : slice_index bytes (i + 2) ≡ c
  four : slice_index bytes (i + 3) ≡ d

has_four : (bytes : List ℕ) (i a b c d : ℕ) → i + 4 ≤ length bytes → HasFour (with_four bytes i a b c d) i a b c d
has_four bytes i a b c d h =
    let x : List ℕ = slice_set bytes i a in
    let y : List ℕ = slice_set x (i + 1) b in
    let z : List ℕ = slice_set y (i + 2) c in
    let lx : length x ≡ length bytes = length-set bytes i a in
    let ly : length y ≡ length x = length-set x (i + 1) b in
    let lz : length z ≡ length y = length-set y (i + 2) c in
    record {
      one = get_or-set_other z (i + 3) i d 0 (omega arith) ∙ (get_or-set_other y (i + 2) i c 0 (omega arith) ∙ (get_or-set_other x (i + 1) i b 0 (omega arith) ∙ get_or-set_same bytes i a 0 (omega arith)));
      two = get_or-set_other z (i + 3) (i + 1) d 0 (omega arith) ∙ (get_or-set_other y (i + 2) (i + 1) c 0 (omega arith) ∙ get_or-set_same x (i + 1) b 0 (omega (arith, lx)));
      three = get_or-set_other z (i + 3) (i + 2) d 0 (omega arith) ∙ get_or-set_same y (i + 2) c 0 (omega (arith, lx, ly));
      four = get_or-set_same z (i + 3) d 0 (omega (arith, lx, ly, lz));
    }

pub word_stored : (bytes : List ℕ) (i v : ℕ) → i + 4 ≤ length bytes → v < 2 ^ 32 → word_in Big (with_word_in Big bytes i v) i ≡ v
word_stored bytes i v h small =
    let f : HasFour (with_word_in Big bytes i v) i (v / 2 ^ 24 % 2 ^ 8) (v / 2 ^ 16 % 2 ^ 8) (v / 2 ^ 8 % 2 ^ 8) (v % 2 ^ 8) =
    has_four bytes i (v / 2 ^ 24 % 2 ^ 8) (v / 2 ^ 16 % 2 ^ 8) (v / 2 ^ 8 % 2 ^ 8) (v % 2 ^ 8) h in
    rw (f.one, f.two, f.three, f.four) (parts v small)
  where
    parts : (v : ℕ) → v < 2 ^ 32 → (v / 2 ^ 24 % 2 ^ 8) * 2 ^ 24 + (v / 2 ^ 16 % 2 ^ 8) * 2 ^ 16 + (v / 2 ^ 8 % 2 ^ 8) * 2 ^ 8 + v % 2 ^ 8 ≡ v
    parts v small = omega arith

pub word-high : (x : Core) (a : ℕ) → stack_start ≤ a → read_word x a ≡ word_in x.order x.stack (a - stack_start)
word-high x a h = let e : nat_lt a stack_start ≡ false = grind (arith, nat_tests) in rw e refl

pub word_apart : (bytes : List ℕ) (i j v : ℕ) → (j + 4 ≤ i) ⊎ (i + 4 ≤ j) → word_in Big (with_word_in Big bytes i v) j ≡ word_in Big bytes j
word_apart bytes i j v h = λ t. b0 t * 2 ^ 24 + b1 t * 2 ^ 16 + b2 t * 2 ^ 8 + b3 t
  where
    near : (k : ℕ) → k < 4 → (j + 4 ≤ i) ⊎ (i + 4 ≤ j) → (j + k < i) ⊎ (i + 4 ≤ j + k)
    near k l (inl q) = inl (omega (arith, q, l))
    near k l (inr q) = inr (omega (arith, q))

    b0 : slice_index (with_word_in Big bytes i v) j ≡ slice_index bytes j
    b0 = (let z : j + 0 ≡ j = omega arith in subst (λ n. slice_index (with_word_in Big bytes i v) n ≡ slice_index bytes n) z (other-index bytes i (j + 0) _ _ _ _ (near 0 (omega arith) h)))

    b1 : slice_index (with_word_in Big bytes i v) (j + 1) ≡ slice_index bytes (j + 1)
    b1 = other-index bytes i (j + 1) _ _ _ _ (near 1 (omega arith) h)

    b2 : slice_index (with_word_in Big bytes i v) (j + 2) ≡ slice_index bytes (j + 2)
    b2 = other-index bytes i (j + 2) _ _ _ _ (near 2 (omega arith) h)

    b3 : slice_index (with_word_in Big bytes i v) (j + 3) ≡ slice_index bytes (j + 3)
    b3 = other-index bytes i (j + 3) _ _ _ _ (near 3 (omega arith) h)

-- a byte outside a word of the stack that is stored
pub byte-apart : (x : Core) (a v byte : ℕ) → stack_start ≤ a → (byte < a) ⊎ (a + 4 ≤ byte) → (let y : Core = record x { stack = with_stack_word x a v } in read_byte y byte ≡ read_byte x byte)
byte-apart x a v byte high h = by (split byte stack_start)
  where
    y : Core
    y = record x { stack = with_stack_word x a v }

    shifted : stack_start ≤ byte → (byte < a) ⊎ (a + 4 ≤ byte) → (byte - stack_start < a - stack_start) ⊎ (a - stack_start + 4 ≤ byte - stack_start)
    shifted u (inl l) = inl (omega (arith, l, u, high))
    shifted u (inr l) = inr (omega (arith, l, high))

    by : (byte < stack_start) ⊎ (stack_start ≤ byte) → read_byte (record x { stack = with_stack_word x a v }) byte ≡ read_byte x byte
    by (inl l) = byte-low (record x { stack = with_stack_word x a v }) byte l ∙ sym (byte-low x byte l)
    by (inr u) = byte-high (record x { stack = with_stack_word x a v }) byte u ∙ (other-index x.stack (a - stack_start) (byte - stack_start) _ _ _ _ (shifted u h) ∙ sym (byte-high x byte u))
