-- Parts of words: what a move leaves in a register, and what it puts into bytes and gets from them.
use Rattle.std.proofs.Common.{ℕ, ◌+◌, ◌-◌, ◌*◌, ◌/◌, ◌%◌, ◌^◌, ◌≡◌, ◌≢◌, ◌⊎◌, inl, inr, ◌≤◌, ◌<◌, nat_lt, refl, sym, ap, ◌∙◌, subst, arith, if◌then◌else◌, List, length, slice_index, slice_set}
use Rattle.std.proofs.lemmas.List.{get_or-set_same, get_or-set_other, get_or_past, length-set}
use Rattle.std.proofs.lemmas.Bool.Decides.{nat_tests}
use Rattle.p9_base.specs.declared.order.ByteOrder.{ByteOrder}
use Rattle.p9_base.specs.declared.order.ByteOrder.TheVariants.{Big, Little}
use Rattle.p9_base.specs.Words.{low8, low16}
use Rattle.p9_base.specs.Numbers.{sign_extended}
use Rattle.p9_base.specs.Core.{half_in, word_in, with_two, with_four, with_half_in, with_word_in}
use Rattle.p9_base.specs.Holding.{AreBytes}
use Rattle.p9_base.proofs.Holding.{index-below, half_in-below}
use Rattle.p9_abs.specs.declared.forms.Width.{Width}
use Rattle.p9_abs.specs.declared.forms.Width.TheVariants.{Word, SignedHalf, UnsignedHalf, SignedByte, UnsignedByte}
use Rattle.p9_abs.specs.Steps.{moved, stored, bytes_of}

-- so many bytes of a list as a number, and such bytes written
abbrev pub get_in : Width → ByteOrder → List ℕ → ℕ → ℕ
get_in Word o bytes i = word_in o bytes i
get_in SignedHalf o bytes i = half_in o bytes i
get_in UnsignedHalf o bytes i = half_in o bytes i
get_in SignedByte o bytes i = slice_index bytes i
get_in UnsignedByte o bytes i = slice_index bytes i

abbrev pub put_in : Width → ByteOrder → List ℕ → ℕ → ℕ → List ℕ
put_in Word o bytes i v = with_word_in o bytes i v
put_in SignedHalf o bytes i v = with_half_in o bytes i (low16 v)
put_in UnsignedHalf o bytes i v = with_half_in o bytes i (low16 v)
put_in SignedByte o bytes i v = slice_set bytes i (low8 v)
put_in UnsignedByte o bytes i v = slice_set bytes i (low8 v)

-- what a load leaves in a register of what it gets
abbrev pub loaded : Width → ℕ → ℕ
loaded Word v = v
loaded SignedHalf v = sign_extended 16 v
loaded UnsignedHalf v = v
loaded SignedByte v = sign_extended 8 v
loaded UnsignedByte v = v

-- Values

pub stored-moved : (w : Width) (v : ℕ) → stored w (moved w v) ≡ stored w v
stored-moved Word v = refl
stored-moved SignedHalf v = grind (arith, nat_tests)
stored-moved UnsignedHalf v = omega arith
stored-moved SignedByte v = grind (arith, nat_tests)
stored-moved UnsignedByte v = omega arith

half-part : (v : ℕ) → v % 2 ^ 16 % 2 ^ 16 ≡ v % 2 ^ 16
half-part v = omega arith

byte-part : (v : ℕ) → v % 2 ^ 8 % 2 ^ 8 ≡ v % 2 ^ 8
byte-part v = omega arith

pub moved-stored : (w : Width) (v : ℕ) → moved w (stored w v) ≡ moved w v
moved-stored Word v = refl
moved-stored SignedHalf v = ap (λ z. if nat_lt z (2 ^ (16 - 1)) then z else z + (2 ^ 32 - 2 ^ 16)) (half-part v)
moved-stored UnsignedHalf v = omega arith
moved-stored SignedByte v = ap (λ z. if nat_lt z (2 ^ (8 - 1)) then z else z + (2 ^ 32 - 2 ^ 8)) (byte-part v)
moved-stored UnsignedByte v = omega arith

-- moves of one size
pub record AreOneSize (w u : Width) : Type 0 where
  pub parts : (v : ℕ) → stored w v ≡ stored u v
  pub gets : (o : ByteOrder) (bytes : List ℕ) (i : ℕ) → get_in w o bytes i ≡ get_in u o bytes i

pub one-size : (w u : Width) → bytes_of w ≡ bytes_of u → AreOneSize w u
one-size Word Word e = record { parts = λ v. refl; gets = λ o bytes i. refl }
one-size SignedHalf SignedHalf e = record { parts = λ v. refl; gets = λ o bytes i. refl }
one-size SignedHalf UnsignedHalf e = record { parts = λ v. refl; gets = λ o bytes i. refl }
one-size UnsignedHalf SignedHalf e = record { parts = λ v. refl; gets = λ o bytes i. refl }
one-size UnsignedHalf UnsignedHalf e = record { parts = λ v. refl; gets = λ o bytes i. refl }
one-size SignedByte SignedByte e = record { parts = λ v. refl; gets = λ o bytes i. refl }
one-size SignedByte UnsignedByte e = record { parts = λ v. refl; gets = λ o bytes i. refl }
one-size UnsignedByte SignedByte e = record { parts = λ v. refl; gets = λ o bytes i. refl }
one-size UnsignedByte UnsignedByte e = record { parts = λ v. refl; gets = λ o bytes i. refl }
one-size _ _ e = absurd (omega (arith, e))

-- Bytes that are gotten

pub loaded-moved : (w : Width) (o : ByteOrder) (bytes : List ℕ) (i : ℕ) → AreBytes bytes → loaded w (get_in w o bytes i) ≡ moved w (get_in w o bytes i)
loaded-moved Word o bytes i h = refl
loaded-moved SignedHalf o bytes i h = refl
loaded-moved UnsignedHalf o bytes i h = let l = half_in-below o bytes i h in omega (arith, l)
loaded-moved SignedByte o bytes i h = refl
loaded-moved UnsignedByte o bytes i h = let l = index-below (2 ^ 8) bytes i (omega arith) h in omega (arith, l)

pub stored-get : (w : Width) (o : ByteOrder) (bytes : List ℕ) (i : ℕ) → AreBytes bytes → stored w (get_in w o bytes i) ≡ get_in w o bytes i
stored-get Word o bytes i h = refl
stored-get SignedHalf o bytes i h = let l = half_in-below o bytes i h in omega (arith, l)
stored-get UnsignedHalf o bytes i h = let l = half_in-below o bytes i h in omega (arith, l)
stored-get SignedByte o bytes i h = let l = index-below (2 ^ 8) bytes i (omega arith) h in omega (arith, l)
stored-get UnsignedByte o bytes i h = let l = index-below (2 ^ 8) bytes i (omega arith) h in omega (arith, l)

module _ (xs ys : List ℕ) (i : ℕ) where
  abbrev Alike : ℕ → Type 0
  Alike n = (k : ℕ) → k < n → slice_index xs (i + k) ≡ slice_index ys (i + k)

  first : (n : ℕ) → 0 < n → Alike n → slice_index xs i ≡ slice_index ys i
  first n l h = let z : i + 0 ≡ i = omega arith in subst (λ k. slice_index xs k ≡ slice_index ys k) z (h 0 l)

  half-alike : (o : ByteOrder) → Alike 2 → half_in o xs i ≡ half_in o ys i
  half-alike Big h = let a = first 2 (omega arith) h in let b = h 1 (omega arith) in λ t. a t * 2 ^ 8 + b t
  half-alike Little h = let a = first 2 (omega arith) h in let b = h 1 (omega arith) in λ t. b t * 2 ^ 8 + a t

  word-alike : (o : ByteOrder) → Alike 4 → word_in o xs i ≡ word_in o ys i
  word-alike Big h = let a = first 4 (omega arith) h in let b = h 1 (omega arith) in let c = h 2 (omega arith) in let d = h 3 (omega arith) in λ t. a t * 2 ^ 24 + b t * 2 ^ 16 + c t * 2 ^ 8 + d t
  word-alike Little h = let a = first 4 (omega arith) h in let b = h 1 (omega arith) in let c = h 2 (omega arith) in let d = h 3 (omega arith) in λ t. d t * 2 ^ 24 + c t * 2 ^ 16 + b t * 2 ^ 8 + a t

  pub get-alike : (w : Width) (o : ByteOrder) → ((k : ℕ) → k < bytes_of w → slice_index xs (i + k) ≡ slice_index ys (i + k)) → get_in w o xs i ≡ get_in w o ys i
  get-alike Word o h = word-alike o h
  get-alike SignedHalf o h = half-alike o h
  get-alike UnsignedHalf o h = half-alike o h
  get-alike SignedByte o h = first 1 (omega arith) h
  get-alike UnsignedByte o h = first 1 (omega arith) h

-- Bytes that are put

-- places beside those from i on
abbrev pub IsBeside : (i n j : ℕ) → Type 0
IsBeside i n j = (j < i) ⊎ (i + n ≤ j)

beside-not : (i n j k : ℕ) → IsBeside i n j → k < n → j ≢ i + k
beside-not i n j k (inl h) l e = omega (arith, h, l, e)
beside-not i n j k (inr h) l e = omega (arith, h, l, e)

set-beside : (xs : List ℕ) (i n j k v : ℕ) → IsBeside i n j → k < n → slice_index (slice_set xs (i + k) v) j ≡ slice_index xs j
set-beside xs i n j k v h l = get_or-set_other xs (i + k) j v 0 (beside-not i n j k h l)

set-first : (xs : List ℕ) (i n j v : ℕ) → IsBeside i n j → 0 < n → slice_index (slice_set xs i v) j ≡ slice_index xs j
set-first xs i n j v h l = get_or-set_other xs i j v 0 (λ e. beside-not i n j 0 h l (let z : i ≡ i + 0 = omega arith in e ∙ z))

two-beside : (xs : List ℕ) (i n j a b : ℕ) → IsBeside i n j → 1 < n → slice_index (with_two xs i a b) j ≡ slice_index xs j
two-beside xs i n j a b h l = set-beside (slice_set xs i a) i n j 1 b h l ∙ set-first xs i n j a h (omega (arith, l))

four-beside : (xs : List ℕ) (i j a b c d : ℕ) → IsBeside i 4 j → slice_index (with_four xs i a b c d) j ≡ slice_index xs j
four-beside xs i j a b c d h =
    set-beside (slice_set (with_two xs i a b) (i + 2) c) i 4 j 3 d h (omega arith)
    ∙ (set-beside (with_two xs i a b) i 4 j 2 c h (omega arith) ∙ two-beside xs i 4 j a b h (omega arith))

pub put-beside : (w : Width) (o : ByteOrder) (xs : List ℕ) (i j v : ℕ) → IsBeside i (bytes_of w) j → slice_index (put_in w o xs i v) j ≡ slice_index xs j
put-beside Word Big xs i j v h = four-beside xs i j _ _ _ _ h
put-beside Word Little xs i j v h = four-beside xs i j _ _ _ _ h
put-beside SignedHalf Big xs i j v h = two-beside xs i 2 j _ _ h (omega arith)
put-beside SignedHalf Little xs i j v h = two-beside xs i 2 j _ _ h (omega arith)
put-beside UnsignedHalf Big xs i j v h = two-beside xs i 2 j _ _ h (omega arith)
put-beside UnsignedHalf Little xs i j v h = two-beside xs i 2 j _ _ h (omega arith)
put-beside SignedByte o xs i j v h = set-first xs i 1 j _ h (omega arith)
put-beside UnsignedByte o xs i j v h = set-first xs i 1 j _ h (omega arith)

two-length : (xs : List ℕ) (i a b : ℕ) → length (with_two xs i a b) ≡ length xs
two-length xs i a b = length-set (slice_set xs i a) (i + 1) b ∙ length-set xs i a

four-length : (xs : List ℕ) (i a b c d : ℕ) → length (with_four xs i a b c d) ≡ length xs
four-length xs i a b c d = length-set (slice_set (with_two xs i a b) (i + 2) c) (i + 3) d ∙ (length-set (with_two xs i a b) (i + 2) c ∙ two-length xs i a b)

pub put-length : (w : Width) (o : ByteOrder) (xs : List ℕ) (i v : ℕ) → length (put_in w o xs i v) ≡ length xs
put-length Word Big xs i v = four-length xs i _ _ _ _
put-length Word Little xs i v = four-length xs i _ _ _ _
put-length SignedHalf Big xs i v = two-length xs i _ _
put-length SignedHalf Little xs i v = two-length xs i _ _
put-length UnsignedHalf Big xs i v = two-length xs i _ _
put-length UnsignedHalf Little xs i v = two-length xs i _ _
put-length SignedByte o xs i v = length-set xs i _
put-length UnsignedByte o xs i v = length-set xs i _

-- the same is put into both
module _ (j : ℕ) where
  record Both (xs ys : List ℕ) : Type 0 where
    count : length xs ≡ length ys
    same : slice_index xs j ≡ slice_index ys j

  order : (a b : ℕ) → (a < b) ⊎ (b ≤ a)
  order a b = grind (arith)

  set-both : (xs ys : List ℕ) (i v : ℕ) → Both xs ys → Both (slice_set xs i v) (slice_set ys i v)
  set-both xs ys i v h = record { count = length-set xs i v ∙ (h.count ∙ sym (length-set ys i v)); same = by (meets j i) }
    where
      meets : (a b : ℕ) → (a ≡ b) ⊎ (a ≢ b)
      meets a b = grind (arith)

      at : (i < length xs) ⊎ (length xs ≤ i) → slice_index (slice_set xs i v) i ≡ slice_index (slice_set ys i v) i
      at (inl l) = get_or-set_same xs i v 0 l ∙ sym (get_or-set_same ys i v 0 (let c = h.count in omega (arith, c, l)))
      at (inr l) = past xs l ∙ sym (past ys (let c = h.count in omega (arith, c, l)))
        where
          past : (zs : List ℕ) → length zs ≤ i → slice_index (slice_set zs i v) i ≡ 0
          past zs m = get_or_past (slice_set zs i v) i 0 (let c = length-set zs i v in omega (arith, c, m))

      by : (j ≡ i) ⊎ (j ≢ i) → slice_index (slice_set xs i v) j ≡ slice_index (slice_set ys i v) j
      by (inl e) = subst (λ k. slice_index (slice_set xs i v) k ≡ slice_index (slice_set ys i v) k) (sym e) (at (order i (length xs)))
      by (inr ne) = get_or-set_other xs i j v 0 ne ∙ (h.same ∙ sym (get_or-set_other ys i j v 0 ne))

  two-both : (xs ys : List ℕ) (i a b : ℕ) → Both xs ys → Both (with_two xs i a b) (with_two ys i a b)
  two-both xs ys i a b h = set-both (slice_set xs i a) (slice_set ys i a) (i + 1) b (set-both xs ys i a h)

  four-both : (xs ys : List ℕ) (i a b c d : ℕ) → Both xs ys → Both (with_four xs i a b c d) (with_four ys i a b c d)
  four-both xs ys i a b c d h =
      set-both (slice_set (with_two xs i a b) (i + 2) c) (slice_set (with_two ys i a b) (i + 2) c) (i + 3) d
      (set-both (with_two xs i a b) (with_two ys i a b) (i + 2) c (two-both xs ys i a b h))

  both-put : (w : Width) (o : ByteOrder) (xs ys : List ℕ) (i v : ℕ) → Both xs ys → Both (put_in w o xs i v) (put_in w o ys i v)
  both-put Word Big xs ys i v h = four-both xs ys i _ _ _ _ h
  both-put Word Little xs ys i v h = four-both xs ys i _ _ _ _ h
  both-put SignedHalf Big xs ys i v h = two-both xs ys i _ _ h
  both-put SignedHalf Little xs ys i v h = two-both xs ys i _ _ h
  both-put UnsignedHalf Big xs ys i v h = two-both xs ys i _ _ h
  both-put UnsignedHalf Little xs ys i v h = two-both xs ys i _ _ h
  both-put SignedByte o xs ys i v h = set-both xs ys i _ h
  both-put UnsignedByte o xs ys i v h = set-both xs ys i _ h

pub put-both : (w : Width) (o : ByteOrder) (xs ys : List ℕ) (i j v : ℕ) → length xs ≡ length ys → slice_index xs j ≡ slice_index ys j → slice_index (put_in w o xs i v) j ≡ slice_index (put_in w o ys i v) j
put-both w o xs ys i j v c h = (both-put j w o xs ys i v (record { count = c; same = h })).same

-- what was put is gotten

pub put-get : (w : Width) (o : ByteOrder) (xs : List ℕ) (i v : ℕ) → i + bytes_of w ≤ length xs → v < 2 ^ 32 → get_in w o (put_in w o xs i v) i ≡ stored w v
put-get w o xs i v room small = by w o room
  where
    two : (a b : ℕ) → i + 2 ≤ length xs → (slice_index (with_two xs i a b) i ≡ a) × (slice_index (with_two xs i a b) (i + 1) ≡ b)
    two a b l = (
      get_or-set_other (slice_set xs i a) (i + 1) i b 0 (λ e. omega (arith, e)) ∙ get_or-set_same xs i a 0 (omega (arith, l)),
      get_or-set_same (slice_set xs i a) (i + 1) b 0 (let c = length-set xs i a in omega (arith, c, l)),
    )

    four : (a b c d : ℕ) → i + 4 ≤ length xs → (slice_index (with_four xs i a b c d) i ≡ a) × (slice_index (with_four xs i a b c d) (i + 1) ≡ b) × (slice_index (with_four xs i a b c d) (i + 2) ≡ c) × (slice_index (with_four xs i a b c d) (i + 3) ≡ d)
    four a b c d l =
        let ys : List ℕ = with_two xs i a b in
        let zs : List ℕ = slice_set ys (i + 2) c in
        let n = two-length xs i a b in
        let m = length-set ys (i + 2) c in
        let t = two a b (omega (arith, l)) in (
          get_or-set_other zs (i + 3) i d 0 (λ e. omega (arith, e)) ∙ (get_or-set_other ys (i + 2) i c 0 (λ e. omega (arith, e)) ∙ t.0),
          get_or-set_other zs (i + 3) (i + 1) d 0 (λ e. omega (arith, e)) ∙ (get_or-set_other ys (i + 2) (i + 1) c 0 (λ e. omega (arith, e)) ∙ t.1),
          get_or-set_other zs (i + 3) (i + 2) d 0 (λ e. omega (arith, e)) ∙ get_or-set_same ys (i + 2) c 0 (omega (arith, n, l)),
          get_or-set_same zs (i + 3) d 0 (omega (arith, n, m, l)),
        )

    word-is : v / 2 ^ 24 % 2 ^ 8 * 2 ^ 24 + v / 2 ^ 16 % 2 ^ 8 * 2 ^ 16 + v / 2 ^ 8 % 2 ^ 8 * 2 ^ 8 + v % 2 ^ 8 ≡ v
    word-is = omega (arith, small)

    half-is : (low16 v) / 2 ^ 8 % 2 ^ 8 * 2 ^ 8 + (low16 v) % 2 ^ 8 ≡ low16 v
    half-is = omega arith

    byte : i + 1 ≤ length xs → slice_index (slice_set xs i (low8 v)) i ≡ low8 v
    byte l = get_or-set_same xs i (low8 v) 0 (omega (arith, l))

    half : (o : ByteOrder) → i + 2 ≤ length xs → half_in o (with_half_in o xs i (low16 v)) i ≡ low16 v
    half Big l = let t = two _ _ l in (λ z. t.0 z * 2 ^ 8 + t.1 z) ∙ half-is
    half Little l = let t = two _ _ l in (λ z. t.1 z * 2 ^ 8 + t.0 z) ∙ half-is

    word : (o : ByteOrder) → i + 4 ≤ length xs → word_in o (with_word_in o xs i v) i ≡ v
    word Big l = let t = four _ _ _ _ l in (λ z. t.0 z * 2 ^ 24 + t.1 z * 2 ^ 16 + t.2 z * 2 ^ 8 + t.3 z) ∙ word-is
    word Little l = let t = four _ _ _ _ l in (λ z. t.3 z * 2 ^ 24 + t.2 z * 2 ^ 16 + t.1 z * 2 ^ 8 + t.0 z) ∙ word-is

    by : (w : Width) (o : ByteOrder) → i + bytes_of w ≤ length xs → get_in w o (put_in w o xs i v) i ≡ stored w v
    by Word o l = word o l
    by SignedHalf o l = half o l
    by UnsignedHalf o l = half o l
    by SignedByte o l = byte l
    by UnsignedByte o l = byte l
