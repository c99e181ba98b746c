-- How numbers are spelled.
use Rattle.std.proofs.Common.{◌≡◌, ℕ, ◌+◌, ◌-◌, ◌*◌, ◌^◌, ◌<◌, Bool, true, false, ◌||◌, ◌&&◌, cond, eqb, ltb, leb, lt-ltb, ltb-true, eqb-true, List, [], ◌∷◌, ◌++◌, length, refl, sym, ap, subst, ◌∙◌, Err, IfOk, append_assoc, length-append, arith}
use Rattle.std.proofs.lemmas.Bool.Decides.{nat_tests}
use Rattle.p9_lex.specs.declared.number.Numeral.{Numeral}
use Rattle.p9_lex.specs.Classes.{is_digit, digit_value, is_digit_of}
use Rattle.p9_lex.specs.Number.{is_unsigned_mark, is_long_mark, number_end, after_unsigned, after_long, after_digits, digits, hexadecimal, after_zero, number}
use Rattle.p9_lex.specs.Spelling.{AllOf, NotNext, value_after, value_in, IsBase, base_10, base_8, base_16, IsSuffix, no_suffix, unsigned_suffix, long_suffix, unsigned_long, long_unsigned, may_not_follow_number, IsNumber}
use Rattle.p9_lex.specs.Broken.{wide_number}
use Rattle.p9_lex.proofs.Cases.{if_cases, IfOk_map, Splits}

-- what stands behind the digits
record IsTail (value k : ℕ) (s : List ℕ) (n : Numeral) : Type 0 where
  suffix : List ℕ
  after : List ℕ
  cut : s ≡ suffix ++ after
  valued : n.value ≡ value
  marked : IsSuffix n.unsigned n.long suffix
  size : n.length ≡ k + length suffix
  ends : NotNext may_not_follow_number after

number_end_tail : (value k k' : ℕ) (un lo : Bool) (suffix after s : List ℕ) → IsSuffix un lo suffix → s ≡ suffix ++ after → k' ≡ k + length suffix → IfOk (number_end value k' un lo after) (λ n. IsTail value k s n)
number_end_tail value k k' un lo suffix [] s m c e =
    record { suffix = suffix; after = []; cut = c; valued = refl; marked = m; size = e; ends = tt }
number_end_tail value k k' un lo suffix (b ∷ t) s m c e =
    if_cases (λ r. IfOk r (λ n. IsTail value k s n)) (may_not_follow_number b) (λ _. tt)
    (λ h. record { suffix = suffix; after = b ∷ t; cut = c; valued = refl; marked = m; size = e; ends = h })

after_unsigned_tail : (value k b : ℕ) (s : List ℕ) → is_unsigned_mark b ≡ true → IfOk (after_unsigned value (k + 1) s) (λ n. IsTail value k (b ∷ s) n)
after_unsigned_tail value k b [] h = number_end_tail value k (k + 1) true false (b ∷ []) [] (b ∷ []) (unsigned_suffix h) refl (omega arith)
after_unsigned_tail value k b (c ∷ t) h =
    if_cases (λ r. IfOk r (λ n. IsTail value k (b ∷ c ∷ t) n)) (is_long_mark c)
    (λ g. number_end_tail value k (k + 1 + 1) true true (b ∷ c ∷ []) t (b ∷ c ∷ t) (unsigned_long h g) refl (omega arith))
    (λ _. number_end_tail value k (k + 1) true false (b ∷ []) (c ∷ t) (b ∷ c ∷ t) (unsigned_suffix h) refl (omega arith))

after_long_tail : (value k b : ℕ) (s : List ℕ) → is_long_mark b ≡ true → IfOk (after_long value (k + 1) s) (λ n. IsTail value k (b ∷ s) n)
after_long_tail value k b [] h = number_end_tail value k (k + 1) false true (b ∷ []) [] (b ∷ []) (long_suffix h) refl (omega arith)
after_long_tail value k b (c ∷ t) h =
    if_cases (λ r. IfOk r (λ n. IsTail value k (b ∷ c ∷ t) n)) (is_unsigned_mark c)
    (λ g. number_end_tail value k (k + 1 + 1) true true (b ∷ c ∷ []) t (b ∷ c ∷ t) (long_unsigned h g) refl (omega arith))
    (λ _. number_end_tail value k (k + 1) false true (b ∷ []) (c ∷ t) (b ∷ c ∷ t) (long_suffix h) refl (omega arith))

after_digits_tail : (value k : ℕ) (s : List ℕ) → IfOk (after_digits value k s) (λ n. IsTail value k s n)
after_digits_tail value k [] = number_end_tail value k k false false [] [] [] no_suffix refl (omega arith)
after_digits_tail value k (b ∷ s) =
    if_cases (λ r. IfOk r (λ n. IsTail value k (b ∷ s) n)) (is_unsigned_mark b) (after_unsigned_tail value k b s)
    (λ _. if_cases (λ r. IfOk r (λ n. IsTail value k (b ∷ s) n)) (is_long_mark b) (after_long_tail value k b s)
    (λ _. number_end_tail value k k false false [] (b ∷ s) (b ∷ s) no_suffix refl (omega arith)))

-- digits and what stands behind them
record AreDigits (base value k : ℕ) (s : List ℕ) (n : Numeral) : Type 0 where
  some : List ℕ
  suffix : List ℕ
  after : List ℕ
  cut : s ≡ some ++ (suffix ++ after)
  all_digits : AllOf (is_digit_of base) some
  valued : n.value ≡ value_after base value some
  small : n.value < 2 ^ 32
  marked : IsSuffix n.unsigned n.long suffix
  size : n.length ≡ k + length some + length suffix
  ends : NotNext may_not_follow_number after

no_digit : (base value k : ℕ) (s : List ℕ) → value < 2 ^ 32 → IfOk (after_digits value k s) (λ n. AreDigits base value k s n)
no_digit base value k s h =
    IfOk_map (λ n. IsTail value k s n) (λ n. AreDigits base value k s n) (after_digits value k s)
    (λ n t. record { some = []; suffix = t.suffix; after = t.after; cut = t.cut; all_digits = tt; valued = t.valued; small = omega (arith, t.valued, h); marked = t.marked; size = omega (arith, t.size); ends = t.ends })
    (after_digits_tail value k s)

one_digit : (base value k b : ℕ) (s : List ℕ) (n : Numeral) → is_digit_of base b ≡ true → AreDigits base (base * value + digit_value b) (k + 1) s n → AreDigits base value k (b ∷ s) n
one_digit base value k b s n h d = record {
  some = b ∷ d.some;
  suffix = d.suffix;
  after = d.after;
  cut = ap (λ r. b ∷ r) d.cut;
  all_digits = (h, d.all_digits);
  valued = d.valued;
  small = d.small;
  marked = d.marked;
  size = omega (arith, d.size);
  ends = d.ends;
}

less : (a b : ℕ) → ltb a b ≡ true → a < b
less a b h = ltb-true a b h

digits_spelled : (base value k : ℕ) (s : List ℕ) → value < 2 ^ 32 → IfOk (digits base value k s) (λ n. AreDigits base value k s n)
digits_spelled base value k [] h = no_digit base value k [] h
digits_spelled base value k (b ∷ s) h =
    if_cases (λ r. IfOk r (λ n. AreDigits base value k (b ∷ s) n)) (is_digit_of base b)
    (λ g. if_cases (λ r. IfOk r (λ n. AreDigits base value k (b ∷ s) n)) (ltb (base * value + digit_value b) (2 ^ 32))
    (λ lt. IfOk_map (λ n. AreDigits base (base * value + digit_value b) (k + 1) s n) (λ n. AreDigits base value k (b ∷ s) n) (digits base (base * value + digit_value b) (k + 1) s)
    (λ n d. one_digit base value k b s n g d)
    (digits_spelled base (base * value + digit_value b) (k + 1) s (less (base * value + digit_value b) (2 ^ 32) lt)))
    (λ _. tt))
    (λ _. no_digit base value k (b ∷ s) h)

abbrev pub IsNumberCut : List ℕ → Numeral → Type 0
IsNumberCut whole n = Splits whole 0 n.length (λ bytes after. IsNumber n.value n.unsigned n.long bytes after)

-- a number of its digits, behind what shows its base
whole_number : (base : ℕ) (front first : List ℕ) (k value : ℕ) (s : List ℕ) (n : Numeral) → (d : AreDigits base value k s n) → IsBase base front (first ++ d.some) → AllOf (is_digit_of base) (first ++ d.some) → value_after base value d.some ≡ value_in base (first ++ d.some) → k ≡ length front + length first → IsNumberCut (front ++ (first ++ s)) n
whole_number base front first k value s n d based all valued placed = record {
  bytes = (front ++ (first ++ d.some)) ++ d.suffix;
  after = d.after;
  cut = ap (λ r. front ++ (first ++ r)) d.cut ∙ simp append_assoc;
  size = simp length-append (omega (arith, d.size, placed));
  holds = record {
    base = base;
    front = front;
    digits = first ++ d.some;
    suffix = d.suffix;
    spelled = refl;
    based = based;
    all_digits = all;
    valued = d.valued ∙ valued;
    small = d.small;
    marked = d.marked;
    ends = d.ends;
  };
}

-- the digits behind a first one
first_digit : (base value k b : ℕ) (s : List ℕ) (P : Numeral → Type 0) → value < 2 ^ 32 → is_digit_of base b ≡ true → ((n : Numeral) → AreDigits base (base * value + digit_value b) (k + 1) s n → P n) → IfOk (digits base value k (b ∷ s)) P
first_digit base value k b s P h g use_of =
    let next = base * value + digit_value b in
    let inner : IfOk (cond (ltb next (2 ^ 32)) (digits base next (k + 1) s) (Err (wide_number k))) P =
    if_cases (λ r. IfOk r P) (ltb next (2 ^ 32))
    (λ lt. IfOk_map (λ n. AreDigits base next (k + 1) s n) P (digits base next (k + 1) s) use_of (digits_spelled base next (k + 1) s (less next (2 ^ 32) lt)))
    (λ _. tt) in
    subst (λ c. IfOk (cond c (cond (ltb next (2 ^ 32)) (digits base next (k + 1) s) (Err (wide_number k))) (after_digits value k (b ∷ s))) P) (sym g) inner

hexadecimal_spelled : (x : ℕ) (s : List ℕ) → (eqb x 120 || eqb x 88) ≡ true → IfOk (hexadecimal s) (λ n. IsNumberCut (48 ∷ x ∷ s) n)
hexadecimal_spelled x [] h = tt
hexadecimal_spelled x (b ∷ s) h =
    if_cases (λ r. IfOk r (λ n. IsNumberCut (48 ∷ x ∷ b ∷ s) n)) (is_digit_of 16 b)
    (λ g. first_digit 16 0 2 b s (λ n. IsNumberCut (48 ∷ x ∷ b ∷ s) n) (omega arith) g
    (λ n d. whole_number 16 (48 ∷ x ∷ []) (b ∷ []) 3 (16 * 0 + digit_value b) s n d (base_16 h) (g, d.all_digits) refl refl))
    (λ _. tt)

octal_spelled : (s : List ℕ) → IfOk (digits 8 0 1 s) (λ n. IsNumberCut (48 ∷ s) n)
octal_spelled s =
    IfOk_map (λ n. AreDigits 8 0 1 s n) (λ n. IsNumberCut (48 ∷ s) n) (digits 8 0 1 s)
    (λ n d. whole_number 8 [] (48 ∷ []) 1 0 s n d base_8 (refl, d.all_digits) refl refl)
    (digits_spelled 8 0 1 s (omega arith))

after_zero_spelled : (s : List ℕ) → IfOk (after_zero s) (λ n. IsNumberCut (48 ∷ s) n)
after_zero_spelled [] = octal_spelled []
after_zero_spelled (b ∷ s) =
    if_cases (λ r. IfOk r (λ n. IsNumberCut (48 ∷ b ∷ s) n)) (eqb b 120 || eqb b 88)
    (λ h. hexadecimal_spelled b s h) (λ _. octal_spelled (b ∷ s))

digit_is : (b : ℕ) → is_digit b ≡ true → digit_value b ≡ b - 48
digit_is b h = ap (λ c. cond c (b - 48) (cond (leb 97 b && leb b 102) (b - 87) (cond (leb 65 b && leb b 70) (b - 55) 16))) h

digit_below : (b : ℕ) → is_digit b ≡ true → b - 48 < 10
digit_below b h = grind (arith, nat_tests)

decimal_spelled : (b : ℕ) (s : List ℕ) → is_digit b ≡ true → eqb b 48 ≡ false → IfOk (digits 10 (b - 48) 1 s) (λ n. IsNumberCut (b ∷ s) n)
decimal_spelled b s h z =
    let is = digit_is b h in
    let below = digit_below b h in
    let value : b - 48 ≡ 10 * 0 + digit_value b = omega (arith, is) in
    IfOk_map (λ n. AreDigits 10 (b - 48) 1 s n) (λ n. IsNumberCut (b ∷ s) n) (digits 10 (b - 48) 1 s)
    (λ n d. whole_number 10 [] (b ∷ []) 1 (b - 48) s n d (base_10 z) (lt-ltb (digit_value b) 10 (omega (arith, is, below)), d.all_digits) (ap (λ v. value_after 10 v d.some) value) refl)
    (digits_spelled 10 (b - 48) 1 s (omega (arith, below)))

pub number_spelled : (b : ℕ) (s : List ℕ) → is_digit b ≡ true → IfOk (number b s) (λ n. IsNumberCut (b ∷ s) n)
number_spelled b s h =
    if_cases (λ r. IfOk r (λ n. IsNumberCut (b ∷ s) n)) (eqb b 48)
    (λ e. subst (λ x. IfOk (after_zero s) (λ n. IsNumberCut (x ∷ s) n)) (sym (eqb-true b 48 e)) (after_zero_spelled s))
    (λ z. decimal_spelled b s h z)
