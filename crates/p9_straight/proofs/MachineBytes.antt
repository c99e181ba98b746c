-- A word stored among bytes: it is read back, and what lies apart stays.
use Rattle.std.proofs.Common.{◌≡◌, ◌≢◌, ℕ, ◌+◌, ◌-◌, ◌*◌, ◌/◌, ◌%◌, ◌^◌, ◌<◌, ◌≤◌, ◌⊎◌, List, length, take, drop, slice_index, slice_set, sym, ap, ◌∙◌, arith, inl, inr}
use Rattle.std.proofs.lemmas.List.{get_or-set_same, get_or-set_other, length-set, take-set-le, drop-set-lt, drop-set-add}
use Rattle.p9_base.specs.declared.order.ByteOrder.TheVariants.{Big}
use Rattle.p9_base.specs.Numbers.{word_at}
use Rattle.p9_r3k.specs.Memory.{with_word_in}
use Rattle.p9_r3k.proofs.Begins.{word_at-alike}

-- the four bytes of a word are set, the first of them first
abbrev pub set_four : (bytes : List ℕ) (i a b c d : ℕ) → List ℕ
set_four bytes i a b c d = slice_set (slice_set (slice_set (slice_set bytes i a) (i + 1) b) (i + 2) c) (i + 3) d

pub length-four : (bytes : List ℕ) (i a b c d : ℕ) → length (set_four bytes i a b c d) ≡ length bytes
length-four bytes i a b c d =
    length-set (slice_set (slice_set (slice_set bytes i a) (i + 1) b) (i + 2) c) (i + 3) d
    ∙ (length-set (slice_set (slice_set bytes i a) (i + 1) b) (i + 2) c
    ∙ (length-set (slice_set bytes i a) (i + 1) b ∙ length-set bytes i a))

other_byte : (bytes : List ℕ) (i j a : ℕ) → j ≢ i → slice_index (slice_set bytes i a) j ≡ slice_index bytes j
other_byte bytes i j a apart = get_or-set_other bytes i j a 0 apart

same_byte : (bytes : List ℕ) (i a : ℕ) → i < length bytes → slice_index (slice_set bytes i a) i ≡ a
same_byte bytes i a within = get_or-set_same bytes i a 0 within

other_four : (bytes : List ℕ) (i j a b c d : ℕ) → j ≢ i → j ≢ i + 1 → j ≢ i + 2 → j ≢ i + 3 → slice_index (set_four bytes i a b c d) j ≡ slice_index bytes j
other_four bytes i j a b c d w x y z =
    other_byte (slice_set (slice_set (slice_set bytes i a) (i + 1) b) (i + 2) c) (i + 3) j d z
    ∙ (other_byte (slice_set (slice_set bytes i a) (i + 1) b) (i + 2) j c y
    ∙ (other_byte (slice_set bytes i a) (i + 1) j b x ∙ other_byte bytes i j a w))

record HasFour (bytes : List ℕ) (i a b c d : ℕ) : Type 0 where
  one : slice_index bytes i ≡ a
  two : slice_index bytes (i + 1) ≡ b
  three : slice_index bytes (i + 2) ≡ c
  four : slice_index bytes (i + 3) ≡ d

has_four : (bytes : List ℕ) (i a b c d : ℕ) → i + 4 ≤ length bytes → HasFour (set_four bytes i a b c d) i a b c d
has_four bytes i a b c d h =
    let x : List ℕ = slice_set bytes i a in
    let y : List ℕ = slice_set x (i + 1) b in
    let z : List ℕ = slice_set y (i + 2) c in
    let lx : length x ≡ length bytes = length-set bytes i a in
    let ly : length y ≡ length x = length-set x (i + 1) b in
    let lz : length z ≡ length y = length-set y (i + 2) c in
    record {
      one = other_byte z (i + 3) i d (omega arith) ∙ (other_byte y (i + 2) i c (omega arith) ∙ (other_byte x (i + 1) i b (omega arith) ∙ same_byte bytes i a (omega arith)));
      two = other_byte z (i + 3) (i + 1) d (omega arith) ∙ (other_byte y (i + 2) (i + 1) c (omega arith) ∙ same_byte x (i + 1) b (omega (arith, lx)));
      three = other_byte z (i + 3) (i + 2) d (omega arith) ∙ same_byte y (i + 2) c (omega (arith, lx, ly));
      four = same_byte z (i + 3) d (omega (arith, lx, ly, lz));
    }

pub word_stored : (bytes : List ℕ) (i v : ℕ) → i + 4 ≤ length bytes → v < 2 ^ 32 → word_at (with_word_in Big bytes i v) i ≡ v
word_stored bytes i v h small =
    let f : HasFour (with_word_in Big bytes i v) i (v / 2 ^ 24 % 2 ^ 8) (v / 2 ^ 16 % 2 ^ 8) (v / 2 ^ 8 % 2 ^ 8) (v % 2 ^ 8) =
    has_four bytes i (v / 2 ^ 24 % 2 ^ 8) (v / 2 ^ 16 % 2 ^ 8) (v / 2 ^ 8 % 2 ^ 8) (v % 2 ^ 8) h in
    rw (f.one, f.two, f.three, f.four) (parts v small)
  where
    parts : (v : ℕ) → v < 2 ^ 32 → (v / 2 ^ 24 % 2 ^ 8) * 2 ^ 24 + (v / 2 ^ 16 % 2 ^ 8) * 2 ^ 16 + (v / 2 ^ 8 % 2 ^ 8) * 2 ^ 8 + v % 2 ^ 8 ≡ v
    parts v small = omega arith

-- two words lie apart
abbrev pub AreApart : (i j : ℕ) → Type 0
AreApart i j = (i + 4 ≤ j) ⊎ (j + 4 ≤ i)

byte_apart : (bytes : List ℕ) (i j k v : ℕ) → AreApart i j → k ≤ 3 → slice_index (with_word_in Big bytes j v) (i + k) ≡ slice_index bytes (i + k)
byte_apart bytes i j k v (inl h) l =
    other_four bytes j (i + k) (v / 2 ^ 24 % 2 ^ 8) (v / 2 ^ 16 % 2 ^ 8) (v / 2 ^ 8 % 2 ^ 8) (v % 2 ^ 8) (omega arith) (omega arith) (omega arith) (omega arith)
byte_apart bytes i j k v (inr h) l =
    other_four bytes j (i + k) (v / 2 ^ 24 % 2 ^ 8) (v / 2 ^ 16 % 2 ^ 8) (v / 2 ^ 8 % 2 ^ 8) (v % 2 ^ 8) (omega arith) (omega arith) (omega arith) (omega arith)

pub word_apart : (bytes : List ℕ) (i j v : ℕ) → AreApart i j → word_at (with_word_in Big bytes j v) i ≡ word_at bytes i
word_apart bytes i j v h =
    let e : slice_index (with_word_in Big bytes j v) (i + 0) ≡ slice_index bytes (i + 0) = byte_apart bytes i j 0 v h (omega arith) in
    let z : i + 0 ≡ i = omega arith in
    word_at-alike bytes (with_word_in Big bytes j v) i
    (ap (λ k. slice_index (with_word_in Big bytes j v) k) (sym z) ∙ (e ∙ ap (λ k. slice_index bytes k) z))
    (byte_apart bytes i j 1 v h (omega arith)) (byte_apart bytes i j 2 v h (omega arith)) (byte_apart bytes i j 3 v h (omega arith))

-- bytes before the word stay
pub take_before : (bytes : List ℕ) (n i v : ℕ) → n ≤ i → take n (with_word_in Big bytes i v) ≡ take n bytes
take_before bytes n i v h =
    let x : List ℕ = slice_set bytes i (v / 2 ^ 24 % 2 ^ 8) in
    let y : List ℕ = slice_set x (i + 1) (v / 2 ^ 16 % 2 ^ 8) in
    let z : List ℕ = slice_set y (i + 2) (v / 2 ^ 8 % 2 ^ 8) in
    take-set-le n z (i + 3) (v % 2 ^ 8) (omega arith)
    ∙ (take-set-le n y (i + 2) (v / 2 ^ 8 % 2 ^ 8) (omega arith)
    ∙ (take-set-le n x (i + 1) (v / 2 ^ 16 % 2 ^ 8) (omega arith) ∙ take-set-le n bytes i (v / 2 ^ 24 % 2 ^ 8) h))

set_behind : (bytes : List ℕ) (n k i a : ℕ) → k + n ≤ i → take n (drop k (slice_set bytes i a)) ≡ take n (drop k bytes)
set_behind bytes n k i a h =
    let e : k + (i - k) ≡ i = omega arith in
    ap (λ j. take n (drop k (slice_set bytes j a))) (sym e)
    ∙ (ap (λ l. take n l) (drop-set-add k bytes (i - k) a) ∙ take-set-le n (drop k bytes) (i - k) a (omega arith))

set_ahead : (bytes : List ℕ) (n k i a : ℕ) → i < k → take n (drop k (slice_set bytes i a)) ≡ take n (drop k bytes)
set_ahead bytes n k i a h = ap (λ l. take n l) (drop-set-lt k bytes i a h)

-- n bytes from place k on stay, where the word lies apart from them
pub part_stays : (bytes : List ℕ) (n k i v : ℕ) → (i + 4 ≤ k) ⊎ (k + n ≤ i) → take n (drop k (with_word_in Big bytes i v)) ≡ take n (drop k bytes)
part_stays bytes n k i v (inl h) =
    let x : List ℕ = slice_set bytes i (v / 2 ^ 24 % 2 ^ 8) in
    let y : List ℕ = slice_set x (i + 1) (v / 2 ^ 16 % 2 ^ 8) in
    let z : List ℕ = slice_set y (i + 2) (v / 2 ^ 8 % 2 ^ 8) in
    set_ahead z n k (i + 3) (v % 2 ^ 8) (omega arith)
    ∙ (set_ahead y n k (i + 2) (v / 2 ^ 8 % 2 ^ 8) (omega arith)
    ∙ (set_ahead x n k (i + 1) (v / 2 ^ 16 % 2 ^ 8) (omega arith) ∙ set_ahead bytes n k i (v / 2 ^ 24 % 2 ^ 8) (omega arith)))
part_stays bytes n k i v (inr h) =
    let x : List ℕ = slice_set bytes i (v / 2 ^ 24 % 2 ^ 8) in
    let y : List ℕ = slice_set x (i + 1) (v / 2 ^ 16 % 2 ^ 8) in
    let z : List ℕ = slice_set y (i + 2) (v / 2 ^ 8 % 2 ^ 8) in
    set_behind z n k (i + 3) (v % 2 ^ 8) (omega arith)
    ∙ (set_behind y n k (i + 2) (v / 2 ^ 8 % 2 ^ 8) (omega arith)
    ∙ (set_behind x n k (i + 1) (v / 2 ^ 16 % 2 ^ 8) (omega arith) ∙ set_behind bytes n k i (v / 2 ^ 24 % 2 ^ 8) (omega arith)))
