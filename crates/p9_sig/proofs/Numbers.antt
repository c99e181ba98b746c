-- Numbers as decimal digits, and names: texts of letters and digits.
use Rattle.std.proofs.Common.{◌≡◌, ◌<◌, ◌≤◌, ℕ, zero, suc, ◌+◌, ◌/◌, ◌%◌, ◌^◌, ◌&&◌, true, false, if◌then◌else◌, nat_le, List, [], ◌∷◌, ◌++◌, map, get_or, decimal, codes, refl, sym, ap, ◌∙◌, subst, arith}
use Rattle.std.specs.List.{list_all, AllByRecursion}
use Rattle.std.specs.Int.Digits.{digits_of}
use Rattle.std.proofs.lemmas.Bool.{ne_eqb, and_parts, and_from, or_left, or_right, le-leb, true≢false}
use Rattle.std.proofs.lemmas.Fmt.{decimal_by_steps}
use Rattle.std.proofs.lemmas.Int.Digits.{digits_of_step, all_below_base_digits_of, same_from_digits_of, first_digits_of}
use Rattle.p9_lang.specs.TagRules.{is_letter, is_letter_or_digit, is_name_or_none}
use Rattle.p9_sig.specs.Texts.{number_text}

abbrev pub glyph : ℕ → ℕ
glyph d = 48 + d

map_push : (xs : List ℕ) (d : ℕ) → map glyph (xs ++ d ∷ []) ≡ map glyph xs ++ (48 + d) ∷ []
map_push [] d = refl
map_push (x ∷ xs) d = ap (λ l. (48 + x) ∷ l) (map_push xs d)

positive_text : (n : ℕ) → 0 < n → number_text n ≡ map glyph (digits_of 10 n)
positive_text n lt = ap (λ b. if b then codes "0" else map glyph (digits_of 10 n)) (ne_eqb n 0 (λ e. omega arith))

one_digit : (n : ℕ) → 0 < n → n < 10 → digits_of 10 n ≡ n ∷ []
one_digit n lt le =
    let small : n / 10 ≡ 0 = omega arith in
    let same : n % 10 ≡ n = omega arith in
    digits_of_step 10 n (omega arith) lt ∙ ap (λ k. digits_of 10 k ++ (n % 10) ∷ []) small ∙ ap (λ k. k ∷ []) same

number_one : (n : ℕ) → n < 10 → (48 + n) ∷ [] ≡ number_text n
number_one zero le = refl
number_one (suc n) le = sym (positive_text (suc n) (omega arith) ∙ ap (map glyph) (one_digit (suc n) (omega arith) le))

number_more : (n : ℕ) (ds : List ℕ) → 10 ≤ n → ds ≡ number_text (n / 10) → ds ++ ((48 + n % 10) ∷ []) ≡ number_text n
number_more n ds le e =
    ap (λ l. l ++ (48 + n % 10) ∷ []) (e ∙ positive_text (n / 10) (omega arith))
    ∙ sym (map_push (digits_of 10 (n / 10)) (n % 10))
    ∙ ap (map glyph) (sym (digits_of_step 10 n (omega arith) (omega arith)))
    ∙ sym (positive_text n (omega arith))

pub decimal_is : (n : ℕ) → n < 2 ^ 64 → decimal n ≡ number_text n
decimal_is n lt = decimal_by_steps (λ n ds. ds ≡ number_text n) number_one number_more n lt

-- EACH NUMBER HAS ITS TEXT

same_glyphs : (xs ys : List ℕ) → map glyph xs ≡ map glyph ys → xs ≡ ys
same_glyphs [] [] e = refl
same_glyphs [] (y ∷ ys) e = cc
same_glyphs (x ∷ xs) [] e = cc
same_glyphs (x ∷ xs) (y ∷ ys) e =
    let head : 48 + x ≡ 48 + y = cc in
    let tail : map glyph xs ≡ map glyph ys = cc in
    let same : x ≡ y = omega arith in
    ap (λ a. a ∷ xs) same ∙ ap (λ l. y ∷ l) (same_glyphs xs ys tail)

not_zero : (n : ℕ) → 0 < n → codes "0" ≡ number_text n → ⊥
not_zero n lt e =
    let z : 0 ∷ [] ≡ digits_of 10 n = same_glyphs (0 ∷ []) (digits_of 10 n) (e ∙ positive_text n lt) in
    let p = first_digits_of 10 n (omega arith) lt in
    let q : 0 < get_or (0 ∷ []) 0 0 = subst (λ l. 0 < get_or l 0 0) (sym z) p in
    omega arith

pub same_number : (m n : ℕ) → number_text m ≡ number_text n → m ≡ n
same_number zero zero e = refl
same_number zero (suc n) e = absurd (not_zero (suc n) (omega arith) e)
same_number (suc m) zero e = absurd (not_zero (suc m) (omega arith) (sym e))
same_number (suc m) (suc n) e =
    same_from_digits_of 10 (suc m) (suc n) (omega arith)
    (same_glyphs (digits_of 10 (suc m)) (digits_of 10 (suc n))
    (sym (positive_text (suc m) (omega arith)) ∙ e ∙ positive_text (suc n) (omega arith)))

-- WORDS: letters, digits and `_`

abbrev pub IsWord : List ℕ → Type 0
IsWord xs = list_all is_letter_or_digit xs ≡ true

digit_fits : (d : ℕ) → d < 10 → is_letter_or_digit (48 + d) ≡ true
digit_fits d lt =
    or_right (is_letter (48 + d)) (nat_le 48 (48 + d) && nat_le (48 + d) 57)
    (and_from (nat_le 48 (48 + d)) (nat_le (48 + d) 57) (le-leb 48 (48 + d) (omega arith)) (le-leb (48 + d) 57 (omega arith)))

digits_fit : (ds : List ℕ) → AllByRecursion (λ d. d < 10) ds → IsWord (map glyph ds)
digits_fit [] h = refl
digits_fit (d ∷ ds) h = and_from (is_letter_or_digit (48 + d)) (list_all is_letter_or_digit (map glyph ds)) (digit_fits d h.0) (digits_fit ds h.1)

pub number_is_word : (n : ℕ) → IsWord (number_text n)
number_is_word zero = refl
number_is_word (suc n) =
    ap (list_all is_letter_or_digit) (positive_text (suc n) (omega arith))
    ∙ digits_fit (digits_of 10 (suc n)) (all_below_base_digits_of 10 (suc n) (omega arith))

pub name_is_word : (x : List ℕ) → is_name_or_none x ≡ true → IsWord x
name_is_word [] e = refl
name_is_word (b ∷ bs) e =
    let p = and_parts (is_letter b) _ e in
    and_from (is_letter_or_digit b) (list_all is_letter_or_digit bs) (or_left (is_letter b) _ p.0) (and_parts (list_all is_letter_or_digit bs) _ p.1).0

-- words that end at other bytes

pub record SplitAlike (x y : List ℕ) (c e : ℕ) (r s : List ℕ) : Type 0 where
  pub word : x ≡ y
  pub stop : c ≡ e
  pub rest : r ≡ s

pub split : (x y : List ℕ) (c e : ℕ) (r s : List ℕ) → IsWord x → IsWord y → is_letter_or_digit c ≡ false → is_letter_or_digit e ≡ false
    → x ++ c ∷ r ≡ y ++ e ∷ s → SplitAlike x y c e r s
split [] [] c e r s p q i j h = record { word = refl; stop = cc; rest = cc }
split [] (b ∷ y) c e r s p q i j h =
    let same : c ≡ b = cc in
    absurd (true≢false (sym (and_parts (is_letter_or_digit b) (list_all is_letter_or_digit y) q).0 ∙ ap is_letter_or_digit (sym same) ∙ i))
split (a ∷ x) [] c e r s p q i j h =
    let same : a ≡ e = cc in
    absurd (true≢false (sym (and_parts (is_letter_or_digit a) (list_all is_letter_or_digit x) p).0 ∙ ap is_letter_or_digit same ∙ j))
split (a ∷ x) (b ∷ y) c e r s p q i j h =
    let head : a ≡ b = cc in
    let tail : x ++ c ∷ r ≡ y ++ e ∷ s = cc in
    let z = split x y c e r s (and_parts (is_letter_or_digit a) (list_all is_letter_or_digit x) p).1 (and_parts (is_letter_or_digit b) (list_all is_letter_or_digit y) q).1 i j tail in
    record { word = ap (λ l. a ∷ l) z.word ∙ ap (λ k. k ∷ y) head; stop = z.stop; rest = z.rest }
