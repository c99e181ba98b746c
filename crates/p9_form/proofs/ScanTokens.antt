-- The token that bytes begin with: it is spelled by them, and each spelling is found.
use Rattle.std.proofs.Common.{◌≡◌, ℕ, ◌+◌, ◌≤◌, Bool, true, false, ◌||◌, eqb, eqb-true, List, [], ◌∷◌, ◌++◌, length, take, Option, Some, None, IfSome, decimal, refl, sym, ap, subst, ◌∙◌, ⊎_elim, append_assoc, length-append, arith}
use Rattle.std.specs.List.{list_all}
use Rattle.std.proofs.Math.Seq.{take-append_seam}
use Rattle.std.proofs.lemmas.Bool.{and_parts, and_from, or_cases, or_right, cond-true, cond-false, false_from_ne_true, true≢false}
use Rattle.std.proofs.lemmas.Bool.Decides.{nat_tests}
use Rattle.p9_first.specs.Tokens.{Token, Word, Number, Character, Text, Mark, End}
use Rattle.p9_first.specs.Form.{is_letter, is_letter_or_digit, is_text_byte}
use Rattle.p9_form.specs.declared.token.Token.TheVariants as variant
use Rattle.p9_form.specs.declared.scan.Found.{Found}
use Rattle.p9_form.specs.declared.scan.Quoted.{Quoted}
use Rattle.p9_form.specs.Spelling.{is_blank, is_word, text_spelling, IsSpelling, begins_with_letter_or_digit, EndsBefore}
use Rattle.p9_form.specs.Scanning.{token_seen, is_mark, IsFormToken, weight, run_length, is_digit, number_of, quoted_from, found_value, found_word, found_number, found_quoted, found_text, token_at}
use Rattle.p9_form.proofs.ScanCases.{if_cases}
use Rattle.p9_form.proofs.ScanNumbers.{IsNumeral, number_sound, number_complete}
use Rattle.p9_form.proofs.ScanTexts.{spelled, IsQuoted, quoted_sound, quoted_complete}

-- Runs of letters and digits

record IsRun (s : List ℕ) (n : ℕ) : Type 0 where
  front : List ℕ
  after : List ℕ
  cut : s ≡ front ++ after
  size : n ≡ length front
  letters : list_all is_letter_or_digit front ≡ true
  ends : begins_with_letter_or_digit after ≡ false

run_split : (s : List ℕ) → IsRun s (run_length s)
run_split [] = record { front = []; after = []; cut = refl; size = refl; letters = refl; ends = refl }
run_split (b ∷ s) =
    if_cases (IsRun (b ∷ s)) (is_letter_or_digit b)
    (λ h.
    let run = run_split s in
    record {
      front = b ∷ run.front;
      after = run.after;
      cut = ap (λ x. b ∷ x) run.cut;
      size = omega (arith, run.size);
      letters = and_from (is_letter_or_digit b) (list_all is_letter_or_digit run.front) h run.letters;
      ends = run.ends;
    })
    (λ h. record { front = []; after = b ∷ s; cut = refl; size = refl; letters = refl; ends = h })

run_taken : (s : List ℕ) (run : IsRun s (run_length s)) → take (run_length s) s ≡ run.front
run_taken s run = ap (λ n. take n s) run.size ∙ ap (take (length run.front)) run.cut ∙ take-append_seam run.front run.after

run_whole : (xs rest : List ℕ) → list_all is_letter_or_digit xs ≡ true → begins_with_letter_or_digit rest ≡ false → run_length (xs ++ rest) ≡ length xs
run_whole [] [] h e = refl
run_whole [] (b ∷ rest) h e = cond-false (is_letter_or_digit b) (run_length rest + 1) 0 e
run_whole (x ∷ xs) rest h e =
    let parts = and_parts (is_letter_or_digit x) (list_all is_letter_or_digit xs) h in
    cond-true (is_letter_or_digit x) (run_length (xs ++ rest) + 1) 0 parts.0 ∙ omega (arith, run_whole xs rest parts.1 e)

whole_taken : (xs rest : List ℕ) → list_all is_letter_or_digit xs ≡ true → begins_with_letter_or_digit rest ≡ false → take (run_length (xs ++ rest)) (xs ++ rest) ≡ xs
whole_taken xs rest h e = ap (λ n. take n (xs ++ rest)) (run_whole xs rest h e) ∙ take-append_seam xs rest

-- What is found is spelled

pub record IsCut (s : List ℕ) (f : Found) : Type 0 where
  pub own : List ℕ
  pub rest : List ℕ
  pub cut : s ≡ own ++ rest
  pub size : length own ≡ f.length
  pub spelled : IsSpelling (token_seen f.token) own
  pub ends : EndsBefore (token_seen f.token) rest
  pub form : IsFormToken (token_seen f.token)
  pub weighs : weight (token_seen f.token) ≤ length own
  pub some : 1 ≤ length own

word_cut : (b : ℕ) (s : List ℕ) → is_letter b ≡ true → IfSome (found_word b s) (IsCut (b ∷ s))
word_cut b s h =
    let run = run_split s in
    let taken = run_taken s run in
    record {
      own = b ∷ run.front;
      rest = run.after;
      cut = ap (λ x. b ∷ x) run.cut;
      size = omega (arith, run.size);
      spelled = (and_from (is_letter b) (list_all is_letter_or_digit (take (run_length s) s)) h (ap (list_all is_letter_or_digit) taken ∙ run.letters), ap (λ x. b ∷ x) (sym taken));
      ends = run.ends;
      form = tt;
      weighs = omega (arith, ap length taken);
      some = omega arith;
    }

value_cut : (b : ℕ) (s : List ℕ) (o : Option ℕ) → IfSome o (IsNumeral b (take (run_length s) s)) → IfSome (found_value o (run_length s + 1)) (IsCut (b ∷ s))
value_cut b s None is = tt
value_cut b s (Some v) is =
    let run = run_split s in
    let taken = run_taken s run in
    record {
      own = b ∷ run.front;
      rest = run.after;
      cut = ap (λ x. b ∷ x) run.cut;
      size = omega (arith, run.size);
      spelled = ap (λ x. b ∷ x) (sym taken) ∙ is.spelled;
      ends = run.ends;
      form = is.small;
      weighs = omega arith;
      some = omega arith;
    }

spelled_longer : (text : List ℕ) → length text ≤ length (spelled text)
spelled_longer [] = omega arith
spelled_longer (b ∷ bs) =
    let one : 1 ≤ length (text_spelling b) = if_cases (λ front. 1 ≤ length front) (eqb b 10) (λ _. omega arith) (λ _. omega arith) in
    omega (arith, one, spelled_longer bs, length-append (text_spelling b) (spelled bs))

text_cut : (s : List ℕ) (o : Option Quoted) → IfSome o (IsQuoted 1 s) → IfSome (found_quoted o) (IsCut (34 ∷ s))
text_cut s None is = tt
text_cut s (Some t) is = record {
  own = 34 ∷ (spelled t.bytes ++ 34 ∷ []);
  rest = is.after;
  cut = ap (λ x. 34 ∷ x) (is.cut ∙ sym (append_assoc (spelled t.bytes) (34 ∷ []) is.after));
  size = omega (arith, is.size, length-append (spelled t.bytes) (34 ∷ []));
  spelled = (is.text, refl);
  ends = tt;
  form = tt;
  weighs = omega (arith, spelled_longer t.bytes, length-append (spelled t.bytes) (34 ∷ []));
  some = omega arith;
}

mark_cut : (c : ℕ) (s : List ℕ) → is_mark c ≡ true → IsCut (c ∷ s) (record { token = variant.Mark c; length = 1 })
mark_cut c s h = record {
  own = c ∷ [];
  rest = s;
  cut = refl;
  size = refl;
  spelled = refl;
  ends = tt;
  form = h;
  weighs = omega arith;
  some = omega arith;
}

pub token_sound : (b : ℕ) (s : List ℕ) → IfSome (token_at b s) (IsCut (b ∷ s))
unfolding token_at
token_sound b s =
    if_cases (λ o. IfSome o (IsCut (b ∷ s))) (is_letter b) (word_cut b s)
    (λ _. if_cases (λ o. IfSome o (IsCut (b ∷ s))) (is_digit b)
    (λ h. value_cut b s (number_of b (take (run_length s) s)) (number_sound b (take (run_length s) s) h))
    (λ _. if_cases (λ o. IfSome o (IsCut (b ∷ s))) (eqb b 34)
    (λ h. subst (λ x. IfSome (found_text s) (IsCut (x ∷ s))) (sym (eqb-true b 34 h)) (text_cut s (quoted_from false 1 s) (quoted_sound 1 s)))
    (λ _. if_cases (λ o. IfSome o (IsCut (b ∷ s))) (is_mark b) (mark_cut b s) (λ _. tt))))

-- What is spelled is found

pub record IsFound (own rest : List ℕ) (t : Token) : Type 0 where
  pub first : ℕ
  pub more : List ℕ
  pub cut : own ≡ first ∷ more
  pub not_blank : is_blank first ≡ false
  pub found : Found
  pub at_first : token_at first (more ++ rest) ≡ Some found
  pub token : token_seen found.token ≡ t
  pub size : found.length ≡ length own

-- a test that no blank passes
not_blank : (test : ℕ → Bool) → test 32 ≡ false → test 9 ≡ false → test 10 ≡ false → (b : ℕ) → test b ≡ true → is_blank b ≡ false
not_blank test space tab newline b h =
    false_from_ne_true (is_blank b)
    (λ blank. ⊎_elim (λ e. true≢false (sym h ∙ ap test (eqb-true b 32 e) ∙ space))
    (λ others. ⊎_elim (λ e. true≢false (sym h ∙ ap test (eqb-true b 9 e) ∙ tab))
    (λ e. true≢false (sym h ∙ ap test (eqb-true b 10 e) ∙ newline))
    (or_cases (eqb b 9) (eqb b 10) others))
    (or_cases (eqb b 32) (eqb b 9 || eqb b 10) blank))

digit_no_letter : (b : ℕ) → is_digit b ≡ true → is_letter b ≡ false
digit_no_letter b h = grind (arith, nat_tests)

digits_are_letters : (ds : List ℕ) → list_all is_digit ds ≡ true → list_all is_letter_or_digit ds ≡ true
digits_are_letters [] h = refl
digits_are_letters (d ∷ ds) h =
    let parts = and_parts (is_digit d) (list_all is_digit ds) h in
    and_from (is_letter_or_digit d) (list_all is_letter_or_digit ds) (or_right (is_letter d) (is_digit d) parts.0) (digits_are_letters ds parts.1)

word_found : (name rest : List ℕ) → is_word name ≡ true → begins_with_letter_or_digit rest ≡ false → IsFound name rest (Word name)
unfolding token_at
word_found [] rest h e = absurd (true≢false (sym h))
word_found (b ∷ bs) rest h e =
    let parts = and_parts (is_letter b) (list_all is_letter_or_digit bs) h in
    record {
      first = b;
      more = bs;
      cut = refl;
      not_blank = not_blank is_letter refl refl refl b parts.0;
      found = record { token = variant.Word (b ∷ take (run_length (bs ++ rest)) (bs ++ rest)); length = run_length (bs ++ rest) + 1 };
      at_first = cond-true (is_letter b) (found_word b (bs ++ rest)) _ parts.0;
      token = ap (λ x. Word (b ∷ x)) (whole_taken bs rest parts.1 e);
      size = omega (arith, run_whole bs rest parts.1 e);
    }

number_at : (b v : ℕ) (more rest : List ℕ) → is_digit b ≡ true → list_all is_digit more ≡ true → begins_with_letter_or_digit rest ≡ false → number_of b more ≡ Some v → token_at b (more ++ rest) ≡ Some (record { token = variant.Number v; length = length more + 1 })
unfolding token_at
number_at b v more rest h all e read =
    let letters = digits_are_letters more all in
    cond-false (is_letter b) (found_word b (more ++ rest)) _ (digit_no_letter b h)
    ∙ cond-true (is_digit b) (found_number b (more ++ rest)) _ h
    ∙ ap (λ x. found_value (number_of b x) (run_length (more ++ rest) + 1)) (whole_taken more rest letters e)
    ∙ ap (λ o. found_value o (run_length (more ++ rest) + 1)) read
    ∙ ap (λ n. Some (record { token = variant.Number v; length = n + 1 })) (run_whole more rest letters e)

number_found : (v : ℕ) (rest : List ℕ) → v ≤ 2147483647 → begins_with_letter_or_digit rest ≡ false → IsFound (decimal v) rest (Number v false false)
number_found v rest small e =
    let is = number_complete v small in
    record {
      first = is.digit;
      more = is.more;
      cut = is.cut;
      not_blank = not_blank is_digit refl refl refl is.digit is.is_first;
      found = record { token = variant.Number v; length = length is.more + 1 };
      at_first = number_at is.digit v is.more rest is.is_first is.are_digits e is.read;
      token = refl;
      size = omega (arith, ap length is.cut);
    }

text_found : (text rest : List ℕ) → list_all is_text_byte text ≡ true → IsFound (34 ∷ (spelled text ++ 34 ∷ [])) rest (Text text)
unfolding token_at
text_found text rest h = record {
  first = 34;
  more = spelled text ++ 34 ∷ [];
  cut = refl;
  not_blank = refl;
  found = record { token = variant.Text text; length = 1 + (length (spelled text) + 1) };
  at_first = ap (λ s. found_quoted (quoted_from false 1 s)) (append_assoc (spelled text) (34 ∷ []) rest) ∙ ap found_quoted (quoted_complete text 1 rest h);
  token = refl;
  size = omega (arith, length-append (spelled text) (34 ∷ []));
}

mark_cases : (P : ℕ → Type 0) → P 40 → P 41 → P 123 → P 125 → P 59 → P 44 → P 61 → P 43 → (c : ℕ) → is_mark c ≡ true → P c
mark_cases P p40 p41 p123 p125 p59 p44 p61 p43 c h =
    let at : (n : ℕ) → P n → eqb c n ≡ true → P c = λ n p e. subst P (sym (eqb-true c n e)) p in
    ⊎_elim (at 40 p40)
    (λ h2. ⊎_elim (at 41 p41)
    (λ h3. ⊎_elim (at 123 p123)
    (λ h4. ⊎_elim (at 125 p125)
    (λ h5. ⊎_elim (at 59 p59)
    (λ h6. ⊎_elim (at 44 p44)
    (λ h7. ⊎_elim (at 61 p61) (at 43 p43) (or_cases (eqb c 61) (eqb c 43) h7))
    (or_cases (eqb c 44) (eqb c 61 || eqb c 43) h6))
    (or_cases (eqb c 59) (eqb c 44 || (eqb c 61 || eqb c 43)) h5))
    (or_cases (eqb c 125) (eqb c 59 || (eqb c 44 || (eqb c 61 || eqb c 43))) h4))
    (or_cases (eqb c 123) (eqb c 125 || (eqb c 59 || (eqb c 44 || (eqb c 61 || eqb c 43)))) h3))
    (or_cases (eqb c 41) (eqb c 123 || (eqb c 125 || (eqb c 59 || (eqb c 44 || (eqb c 61 || eqb c 43))))) h2))
    (or_cases (eqb c 40) (eqb c 41 || (eqb c 123 || (eqb c 125 || (eqb c 59 || (eqb c 44 || (eqb c 61 || eqb c 43)))))) h)

mark_at : (s : List ℕ) (c : ℕ) → is_mark c ≡ true → token_at c s ≡ Some (record { token = variant.Mark c; length = 1 })
unfolding token_at
mark_at s = mark_cases (λ c. token_at c s ≡ Some (record { token = variant.Mark c; length = 1 })) refl refl refl refl refl refl refl refl

mark_found : (c : ℕ) (rest : List ℕ) → is_mark c ≡ true → IsFound (c ∷ []) rest (Mark (c ∷ []))
mark_found c rest h = record {
  first = c;
  more = [];
  cut = refl;
  not_blank = not_blank is_mark refl refl refl c h;
  found = record { token = variant.Mark c; length = 1 };
  at_first = mark_at rest c h;
  token = refl;
  size = refl;
}

pub token_complete : (t : Token) (own rest : List ℕ) → IsFormToken t → IsSpelling t own → EndsBefore t rest → IsFound own rest t
token_complete (Word name) own rest form is ends = subst (λ bytes. IsFound bytes rest (Word name)) (sym is.1) (word_found name rest is.0 ends)
token_complete (Number v false false) own rest form is ends = subst (λ bytes. IsFound bytes rest (Number v false false)) (sym is) (number_found v rest form ends)
token_complete (Number v false true) own rest form is ends = absurd form
token_complete (Number v true long) own rest form is ends = absurd form
token_complete (Character v) own rest form is ends = absurd form
token_complete (Text text) own rest form is ends = subst (λ bytes. IsFound bytes rest (Text text)) (sym is.1) (text_found text rest is.0)
token_complete (Mark []) own rest form is ends = absurd form
token_complete (Mark (c ∷ [])) own rest form is ends = subst (λ bytes. IsFound bytes rest (Mark (c ∷ []))) (sym is) (mark_found c rest form)
token_complete (Mark (c ∷ d ∷ cs)) own rest form is ends = absurd form
token_complete End own rest form is ends = absurd form
