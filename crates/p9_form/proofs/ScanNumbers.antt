-- Decimal numbers that are read digit by digit.
use Rattle.std.proofs.Common.{◌≡◌, ℕ, zero, suc, ◌+◌, ◌-◌, ◌*◌, ◌^◌, ◌<◌, ◌≤◌, true, false, ◌&&◌, eqb, leb, le-leb, leb-true, ne_eqb, List, [], ◌∷◌, length, get_or, Some, None, IfSome, decimal, refl, sym, ap, ◌∙◌, arith, rules}
use Rattle.std.specs.List.{list_all}
use Rattle.std.proofs.lemmas.Bool.{and_parts, and_from, cond-true, cond-false, eqb-false}
use Rattle.std.proofs.lemmas.Fmt.{digits_decimal, digits_value-decimal, decimal-digits_value, decimal_nonempty, first_decimal, decimal_digit}
use Rattle.std.proofs.lemmas.Str.Parse.{IsNumeralModel, numerals_by_fold}
use Rattle.p9_form.specs.Scanning.{is_digit, number_after, number_of}
use Rattle.p9_form.proofs.ScanCases.{if_cases, IfSome_map}

-- the value of digits behind a number
abbrev value_after : ℕ → List ℕ → ℕ
value_after n [] = n
value_after n (d ∷ ds) = value_after (10 * n + (d - 48)) ds

own : IsNumeralModel (λ ds. list_all is_digit ds ≡ true) (value_after 0)
own = numerals_by_fold _ (search rules) value_after (search rules)

record AreDigits (n value : ℕ) (ds : List ℕ) : Type 0 where
  digits : list_all is_digit ds ≡ true
  valued : value_after n ds ≡ value
  small : value ≤ 2147483647

number_after_sound : (n : ℕ) (ds : List ℕ) → n ≤ 2147483647 → IfSome (number_after n ds) (λ v. AreDigits n v ds)
number_after_sound n [] small = record { digits = refl; valued = refl; small = small }
number_after_sound n (d ∷ ds) small =
    let next = 10 * n + (d - 48) in
    if_cases (λ o. IfSome o (λ v. AreDigits n v (d ∷ ds))) (is_digit d && leb next 2147483647)
    (λ h.
    let parts = and_parts (is_digit d) (leb next 2147483647) h in
    IfSome_map (λ v. AreDigits next v ds) (λ v. AreDigits n v (d ∷ ds)) (number_after next ds)
    (λ v is. record { digits = and_from (is_digit d) (list_all is_digit ds) parts.0 is.digits; valued = is.valued; small = is.small })
    (number_after_sound next ds (leb-true next 2147483647 parts.1)))
    (λ _. tt)

value_grows : (n : ℕ) (ds : List ℕ) → n ≤ value_after n ds
value_grows n [] = omega arith
value_grows n (d ∷ ds) = omega (arith, value_grows (10 * n + (d - 48)) ds)

number_after_complete : (n : ℕ) (ds : List ℕ) → list_all is_digit ds ≡ true → value_after n ds ≤ 2147483647 → number_after n ds ≡ Some (value_after n ds)
number_after_complete n [] h small = refl
number_after_complete n (d ∷ ds) h small =
    let next = 10 * n + (d - 48) in
    let parts = and_parts (is_digit d) (list_all is_digit ds) h in
    let fits = le-leb next 2147483647 (omega (arith, value_grows next ds, small)) in
    cond-true (is_digit d && leb next 2147483647) (number_after next ds) None (and_from (is_digit d) (leb next 2147483647) parts.0 fits)
    ∙ number_after_complete next ds parts.1 small

digit_least : (d : ℕ) → is_digit d ≡ true → 48 ≤ d
digit_least d h = leb-true 48 d (and_parts (leb 48 d) (leb d 57) h).0

digit_most : (d : ℕ) → is_digit d ≡ true → d ≤ 57
digit_most d h = leb-true d 57 (and_parts (leb 48 d) (leb d 57) h).1

-- the number of a digit and more is spelled by these
pub record IsNumeral (digit : ℕ) (more : List ℕ) (value : ℕ) : Type 0 where
  pub spelled : digit ∷ more ≡ decimal value
  pub small : value ≤ 2147483647

pub number_sound : (digit : ℕ) (more : List ℕ) → is_digit digit ≡ true → IfSome (number_of digit more) (IsNumeral digit more)
number_sound d [] h =
    let least = digit_least d h in
    let most = digit_most d h in
    let back : 48 + (d - 48) ≡ d = omega arith in
    record { spelled = sym (decimal_digit (d - 48) (omega arith) ∙ ap (λ x. x ∷ []) back); small = omega arith }
number_sound d (e ∷ ds) h =
    let least = digit_least d h in
    let most = digit_most d h in
    if_cases (λ o. IfSome o (IsNumeral d (e ∷ ds))) (eqb d 48) (λ _. tt)
    (λ z. IfSome_map (λ v. AreDigits (d - 48) v (e ∷ ds)) (IsNumeral d (e ∷ ds)) (number_after (d - 48) (e ∷ ds))
    (λ v is.
    let whole = d ∷ e ∷ ds in
    let digits : list_all is_digit whole ≡ true = and_from (is_digit d) (list_all is_digit (e ∷ ds)) h is.digits in
    let first : 10 * 0 + (d - 48) ≡ d - 48 = omega arith in
    let valued : value_after 0 whole ≡ v = ap (λ n. value_after n (e ∷ ds)) first ∙ is.valued in
    record {
      spelled = sym (ap decimal (sym valued) ∙ decimal-digits_value own whole digits (omega arith) (λ zero. absurd (eqb-false d 48 z zero)) (omega (arith, valued, is.small)));
      small = is.small;
    })
    (number_after_sound (d - 48) (e ∷ ds) (omega arith)))

-- the digits of a number are read as that number
pub record IsRead (value : ℕ) (bytes : List ℕ) : Type 0 where
  pub digit : ℕ
  pub more : List ℕ
  pub cut : bytes ≡ digit ∷ more
  pub is_first : is_digit digit ≡ true
  pub are_digits : list_all is_digit more ≡ true
  pub read : number_of digit more ≡ Some value

positive_value : (v n : ℕ) → (v ≡ 0 → 2 + n ≡ 1) → 0 < v
positive_value zero n alone = absurd (omega (arith, alone refl))
positive_value (suc v) n alone = omega arith

digits_read : (v : ℕ) (ds : List ℕ) → list_all is_digit ds ≡ true → value_after 0 ds ≡ v → 0 < length ds → (0 < v → 48 < get_or ds 0 0) → (v ≡ 0 → length ds ≡ 1) → v ≤ 2147483647 → IsRead v ds
digits_read v [] all valued some first alone small = absurd (omega (arith, some))
digits_read v (d ∷ []) all valued some first alone small =
    let parts = and_parts (is_digit d) true all in
    let same : d - 48 ≡ v = omega (arith, valued) in
    record { digit = d; more = []; cut = refl; is_first = parts.0; are_digits = refl; read = ap (λ x. Some x) same }
digits_read v (d ∷ e ∷ ds) all valued some first alone small =
    let parts = and_parts (is_digit d) (list_all is_digit (e ∷ ds)) all in
    let from : 10 * 0 + (d - 48) ≡ d - 48 = omega arith in
    let valued : value_after (d - 48) (e ∷ ds) ≡ v = ap (λ n. value_after n (e ∷ ds)) (sym from) ∙ valued in
    let some_value = positive_value v (length ds) (λ zero. omega (arith, alone zero)) in
    let not_zero : eqb d 48 ≡ false = ne_eqb d 48 (λ zero. absurd (omega (arith, first some_value, zero))) in
    record {
      digit = d;
      more = e ∷ ds;
      cut = refl;
      is_first = parts.0;
      are_digits = parts.1;
      read = cond-false (eqb d 48) None (number_after (d - 48) (e ∷ ds)) not_zero ∙ number_after_complete (d - 48) (e ∷ ds) parts.1 (omega (arith, valued, small)) ∙ ap (λ x. Some x) valued;
    }

pub number_complete : (value : ℕ) → value ≤ 2147483647 → IsRead value (decimal value)
number_complete v small =
    let wide : v < 2 ^ 64 = omega arith in
    digits_read v (decimal v) (digits_decimal own v wide) (digits_value-decimal own v wide) (decimal_nonempty v wide) (λ some. first_decimal v some wide)
    (λ zero. ap (λ n. length (decimal n)) zero ∙ ap length (decimal_digit 0 (omega arith))) small
