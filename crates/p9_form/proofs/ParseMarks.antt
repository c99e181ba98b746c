-- What is read of single tokens stands there, and what stands there is read.
use Rattle.std.proofs.Common.{◌≡◌, ℕ, ◌≤◌, Bool, true, false, ◌&&◌, ◌==◌, IsTrue, List, [], ◌∷◌, Option, Some, None, refl, ap, ◌∙◌, sym, subst, arith}
use Rattle.std.specs.Prelude.{if◌then◌else◌, nat_le}
use Rattle.std.specs.List.{list_all}
use Rattle.std.proofs.lemmas.Bool.Decides.{nat_tests}
use Rattle.p9_first.specs.Tokens.{Token, Word, Number, Text, Mark}
use Rattle.p9_first.specs.Form.{same_name, is_text_byte}
use Rattle.p9_form.specs.Reading.{Got, got, after, is_that_mark, read_mark, read_word, read_number, read_text, is_that_word, read_this}
use Rattle.p9_form.specs.Phrases.{mark}

-- the step before one that was taken
pub record Stepped {A B : Type 0} (o : Option A) (next : A → Option B) (y : B) : Type 0 where
  pub value : A
  pub first : o ≡ Some value
  pub second : next value ≡ Some y

some_by : {A B : Type 0} (o : Option A) (next : A → Option B) (y : B) → after o next ≡ Some y → Stepped o next y
unfolding after
some_by None next y e = cc
some_by (Some x) next y e = record { value = x; first = refl; second = e }

pub some_after : {A B : Type 0} {o : Option A} {next : A → Option B} {y : B} → after o next ≡ Some y → Stepped o next y
some_after {o} {next} {y} e = some_by o next y e

-- what a test lets through
pub passed : {A : Type 0} (b : Bool) (x y : A) → (if b then Some x else None) ≡ Some y → IsTrue b × (x ≡ y)
passed true x y e = (refl, cc)
passed false x y e = cc

pub small_number : (n : ℕ) → IsTrue (nat_le n 2147483647) → n ≤ 2147483647
small_number n h = grind (arith, nat_tests)

pub is_small : (n : ℕ) → n ≤ 2147483647 → nat_le n 2147483647 ≡ true
is_small n h = grind (arith, nat_tests)

pub equal_numbers : (a b : ℕ) → (a == b) ≡ true → a ≡ b
equal_numbers a b e = grind (arith, nat_tests)

pub itself : (a : ℕ) → (a == a) ≡ true
itself a = grind (arith, nat_tests)

pub same_itself : (x : List ℕ) → same_name x x ≡ true
same_itself [] = refl
same_itself (a ∷ x) = ap (λ v. v && same_name x x) (itself a) ∙ same_itself x

and_first : (a b : Bool) → (a && b) ≡ true → a ≡ true
and_first true b e = refl
and_first false b e = e

and_second : (a b : Bool) → (a && b) ≡ true → b ≡ true
and_second true b e = e
and_second false b e = cc

pub equal_names : (x y : List ℕ) → same_name x y ≡ true → x ≡ y
equal_names [] [] e = refl
equal_names [] (b ∷ y) e = cc
equal_names (a ∷ x) [] e = cc
equal_names (a ∷ x) (b ∷ y) e =
    let heads : a ≡ b = equal_numbers a b (and_first (a == b) (same_name x y) e) in
    let tails : x ≡ y = equal_names x y (and_second (a == b) (same_name x y) e) in
    cc

-- Marks

mark_by : (c : ℕ) (t : Token) → IsTrue (is_that_mark c t) → t ≡ mark c
mark_by c (Mark (b ∷ [])) h = ap mark (equal_numbers b c h)
mark_by c _ h = cc

pub mark_sound : (c : ℕ) (ts rest : List Token) → read_mark c ts ≡ Some rest → ts ≡ mark c ∷ rest
unfolding read_mark
mark_sound c [] rest e = cc
mark_sound c (t ∷ ts) rest e =
    let h = passed (is_that_mark c t) ts rest e in
    let this : t ≡ mark c = mark_by c t h.0 in
    let others : ts ≡ rest = h.1 in
    cc

pub mark_exact : (c : ℕ) (rest : List Token) → read_mark c (mark c ∷ rest) ≡ Some rest
unfolding read_mark
mark_exact c rest = ap (λ b. if b then Some rest else None) (itself c)

-- Words

word_by : (w : List ℕ) (t : Token) → IsTrue (is_that_word w t) → t ≡ Word w
word_by w (Word x) h = ap Word (sym (equal_names w x h))
word_by w _ h = cc

pub this_sound : (w : List ℕ) (ts rest : List Token) → read_this w ts ≡ Some rest → ts ≡ Word w ∷ rest
unfolding read_this
this_sound w [] rest e = cc
this_sound w (t ∷ ts) rest e =
    let h = passed (is_that_word w t) ts rest e in
    let this : t ≡ Word w = word_by w t h.0 in
    let others : ts ≡ rest = h.1 in
    cc

pub this_exact : (w : List ℕ) (rest : List Token) → read_this w (Word w ∷ rest) ≡ Some rest
unfolding read_this
this_exact w rest = ap (λ b. if b then Some rest else None) (same_itself w)

pub word_sound : (ts : List Token) (g : Got (List ℕ)) → read_word ts ≡ Some g → ts ≡ Word g.value ∷ g.rest
unfolding read_word
word_sound [] g e = cc
word_sound (Word x ∷ ts) g e = let same : got x ts ≡ g = cc in ap (λ h. Word h.value ∷ h.rest) same
word_sound (_ ∷ ts) g e = cc

-- Numbers and texts

pub number_sound : (ts : List Token) (g : Got ℕ) → read_number ts ≡ Some g → (g.value ≤ 2147483647) × (ts ≡ Number g.value false false ∷ g.rest)
unfolding read_number
number_sound [] g e = cc
number_sound (Number value false false ∷ ts) g e =
    let h = passed (nat_le value 2147483647) (got value ts) g e in
    let same : got value ts ≡ g = h.1 in
    (subst (λ h. h.value ≤ 2147483647) same (small_number value h.0), ap (λ h. Number h.value false false ∷ h.rest) same)
number_sound (_ ∷ ts) g e = cc

pub number_exact : (value : ℕ) (rest : List Token) → value ≤ 2147483647 → read_number (Number value false false ∷ rest) ≡ Some (got value rest)
unfolding read_number
number_exact value rest h = ap (λ b. if b then Some (got value rest) else None) (is_small value h)

pub text_sound : (ts : List Token) (g : Got (List ℕ)) → read_text ts ≡ Some g → IsTrue (list_all is_text_byte g.value) × (ts ≡ Text g.value ∷ g.rest)
unfolding read_text
text_sound [] g e = cc
text_sound (Text bytes ∷ ts) g e =
    let h = passed (list_all is_text_byte bytes) (got bytes ts) g e in
    let same : got bytes ts ≡ g = h.1 in
    (subst (λ h. IsTrue (list_all is_text_byte h.value)) same h.0, ap (λ h. Text h.value ∷ h.rest) same)
text_sound (_ ∷ ts) g e = cc

pub text_exact : (text : List ℕ) (rest : List Token) → IsTrue (list_all is_text_byte text) → read_text (Text text ∷ rest) ≡ Some (got text rest)
unfolding read_text
text_exact text rest h = ap (λ b. if b then Some (got text rest) else None) h
