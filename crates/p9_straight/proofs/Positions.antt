-- Where variables and texts lie among data.
use Rattle.std.proofs.Common.{◌≡◌, ◌<◌, ◌≤◌, ◌⊎◌, inl, inr, ℕ, suc, ◌+◌, ◌-◌, ◌*◌, ◌%◌, ◌^◌, Bool, true, false, ◌&&◌, if◌then◌else◌, List, [], ◌∷◌, ◌++◌, length, replicate, flat_map, All, Some, None, refl, sym, ap, ◌∙◌, subst, arith, length-append, append_assoc}
use Rattle.std.proofs.lemmas.Bool.Decides.{nat_tests}
use Rattle.std.proofs.lemmas.Grind.{common_steps}
use Rattle.std.proofs.lemmas.List.{length-replicate}
use Rattle.std.specs.Prelude.{◌==◌}
use Rattle.p9_base.specs.Numbers.{word_at, word_bytes}
use Rattle.p9_first.specs.Form.{same_name}
use Rattle.p9_form.specs.Sharing.{Initial}
use Rattle.p9_straight.specs.Layout.{Datum, Variable, Text, text_bytes, datum_bytes, variable_in, common_in}
use Rattle.p9_straight.specs.FormRun.{initial_of}

-- Names

eq_of : (a b : ℕ) → (a == b) ≡ true → a ≡ b
eq_of a b h = grind (arith, nat_tests)

both_left : (a b : Bool) → (a && b) ≡ true → a ≡ true
both_left true b h = refl
both_left false b h = cc

both_right : (a b : Bool) → (a && b) ≡ true → b ≡ true
both_right true b h = h
both_right false b h = cc

pub same_is : (x y : List ℕ) → same_name x y ≡ true → x ≡ y
same_is [] [] h = refl
same_is [] (b ∷ ys) h = cc
same_is (a ∷ xs) [] h = cc
same_is (a ∷ xs) (b ∷ ys) h =
    ap (λ c. c ∷ xs) (eq_of a b (both_left (a == b) (same_name xs ys) h))
    ∙ ap (λ l. b ∷ l) (same_is xs ys (both_right (a == b) (same_name xs ys) h))

eq_self : (a : ℕ) → (a == a) ≡ true
eq_self a = grind (arith, nat_tests)

pub same_self : (x : List ℕ) → same_name x x ≡ true
same_self [] = refl
same_self (a ∷ xs) = ap (λ b. b && same_name xs xs) (eq_self a) ∙ same_self xs

pub some_is : {X : Type 0} {x y : X} → Some x ≡ Some y → x ≡ y
some_is h = cc

pub none_not : {X : Type 0} {x : X} → None ≡ Some x → ⊥
none_not h = cc

-- Sizes

pub padded_size : (text : List ℕ) → length (text_bytes text) ≡ length text + (4 - length text % 4)
padded_size text =
    let l = length-append text (replicate {A = ℕ} (4 - length text % 4) 0) in
    let r = length-replicate {A = ℕ} (4 - length text % 4) 0 in
    omega (arith, l, r)

pub padded_words : (text : List ℕ) → length (text_bytes text) % 4 ≡ 0
padded_words text = let p = padded_size text in omega (arith, p)

abbrev pub bytes_of : List Datum → List ℕ
bytes_of ds = flat_map datum_bytes ds

pub bytes_size : (d : Datum) (ds : List Datum) → length (bytes_of (d ∷ ds)) ≡ length (datum_bytes d) + length (bytes_of ds)
bytes_size d ds = length-append (datum_bytes d) (bytes_of ds)

pub datum_words : (d : Datum) → length (datum_bytes d) % 4 ≡ 0
datum_words (Variable v) = refl
datum_words (Text text) = padded_words text

pub bytes_words : (ds : List Datum) → length (bytes_of ds) % 4 ≡ 0
bytes_words [] = refl
bytes_words (d ∷ ds) =
    let s = bytes_size d ds in
    let w = datum_words d in
    let r = bytes_words ds in
    omega (arith, s, w, r)

-- A variable among data

-- what holds of each variable's own place, and passes from later data, holds of the place that is found
pub variable_found : (P : ℕ → List Datum → List ℕ → ℕ → Type 0) (at : ℕ) (ds : List Datum) (x : List ℕ) (a : ℕ)
    → ((at : ℕ) (v : Initial) (ds : List Datum) (x : List ℕ) → x ≡ v.name → P at (Variable v ∷ ds) x at)
    → ((at : ℕ) (v : Initial) (ds : List Datum) (x : List ℕ) (a : ℕ) → same_name x v.name ≡ false → P (at + 4) ds x a → P at (Variable v ∷ ds) x a)
    → ((at : ℕ) (text : List ℕ) (ds : List Datum) (x : List ℕ) (a : ℕ) → P (at + length (text_bytes text)) ds x a → P at (Text text ∷ ds) x a)
    → variable_in at ds x ≡ Some a → P at ds x a
variable_found P at [] x a own other behind h = absurd (none_not h)
variable_found P at (Text text ∷ ds) x a own other behind h =
    behind at text ds x a (variable_found P (at + length (text_bytes text)) ds x a own other behind h)
variable_found P at (Variable v ∷ ds) x a own other behind h =
    by (same_name x v.name) refl (λ g. variable_found P (at + 4) ds x a own other behind g) h
  where
    by : (b : Bool) → same_name x v.name ≡ b → (variable_in (at + 4) ds x ≡ Some a → P (at + 4) ds x a)
        → (if b then Some at else variable_in (at + 4) ds x) ≡ Some a → P at (Variable v ∷ ds) x a
    by true e again g = subst (λ (n : ℕ). P at (Variable v ∷ ds) x n) (some_is g) (own at v ds x (same_is x v.name e))
    by false e again g = other at v ds x a e (again g)

abbrev IsFrom : ℕ → List Datum → List ℕ → ℕ → Type 0
IsFrom at ds x a = at ≤ a

pub variable_from : (at : ℕ) (ds : List Datum) (x : List ℕ) (a : ℕ) → variable_in at ds x ≡ Some a → at ≤ a
variable_from at ds x a h =
    variable_found IsFrom at ds x a
    (λ at v ds x e. omega arith)
    (λ at v ds x a e r. omega (arith, r))
    (λ at text ds x a r. omega (arith, r))
    h

abbrev IsWithin : ℕ → List Datum → List ℕ → ℕ → Type 0
IsWithin at ds x a = a + 4 ≤ at + length (bytes_of ds)

pub variable_within : (at : ℕ) (ds : List Datum) (x : List ℕ) (a : ℕ) → variable_in at ds x ≡ Some a → a + 4 ≤ at + length (bytes_of ds)
variable_within at ds x a h =
    variable_found IsWithin at ds x a
    (λ at v ds x e. let s = bytes_size (Variable v) ds in omega (arith, s))
    (λ at v ds x a e r. let s = bytes_size (Variable v) ds in omega (arith, s, r))
    (λ at text ds x a r. let s = bytes_size (Text text) ds in omega (arith, s, r))
    h

abbrev IsAligned : ℕ → List Datum → List ℕ → ℕ → Type 0
IsAligned at ds x a = at % 4 ≡ 0 → a % 4 ≡ 0

pub variable_aligned : (at : ℕ) (ds : List Datum) (x : List ℕ) (a : ℕ) → variable_in at ds x ≡ Some a → at % 4 ≡ 0 → a % 4 ≡ 0
variable_aligned at ds x a h =
    variable_found IsAligned at ds x a
    (λ at v ds x e z. z)
    (λ at v ds x a e r z. r (omega (arith, z)))
    (λ at text ds x a r z. let w = padded_words text in r (omega (arith, z, w)))
    h

-- the word at a place behind a front
pub word_behind : (front bytes : List ℕ) (i : ℕ) → word_at (front ++ bytes) (length front + i) ≡ word_at bytes i
word_behind front bytes i = grind (arith, common_steps)

-- First values

-- the variables among data
abbrev pub variables : List Datum → List Initial
variables [] = []
variables (Variable v ∷ ds) = v ∷ variables ds
variables (Text text ∷ ds) = variables ds

abbrev pub AreWords : List Initial → Type 0
AreWords vs = All (λ v. v.value < 2 ^ 32) vs

word_of_bytes : (w : ℕ) (rest : List ℕ) → w < 2 ^ 32 → word_at (word_bytes w ++ rest) 0 ≡ w
word_of_bytes w rest h = omega (arith, h)

pub tail_words : (v : Initial) (vs : List Initial) → AreWords (v ∷ vs) → AreWords vs
tail_words v vs h i d l = h (suc i) d (omega (arith, l))

pub head_word : (v : Initial) (vs : List Initial) → AreWords (v ∷ vs) → v.value < 2 ^ 32
head_word v vs h = h 0 v (omega arith)

-- the word at a variable's place is its value
abbrev IsFirst : List ℕ → ℕ → List Datum → List ℕ → ℕ → Type 0
IsFirst rest at ds x a = AreWords (variables ds) → word_at (bytes_of ds ++ rest) (a - at) ≡ initial_of (variables ds) x

first_own : (rest : List ℕ) (at : ℕ) (v : Initial) (ds : List Datum) (x : List ℕ) → x ≡ v.name → IsFirst rest at (Variable v ∷ ds) x at
first_own rest at v ds x e w =
    let z : at - at ≡ 0 = omega arith in
    ap (λ n. word_at (bytes_of (Variable v ∷ ds) ++ rest) n) z
    ∙ word_of_bytes v.value (bytes_of ds ++ rest) (head_word v (variables ds) w)
    ∙ sym (ap (λ b. if b then v.value else initial_of (variables ds) x) (ap (λ y. same_name y v.name) e ∙ same_self v.name))

behind_bytes : (front bytes rest : List ℕ) (n i : ℕ) → length front ≡ n → word_at ((front ++ bytes) ++ rest) (n + i) ≡ word_at (bytes ++ rest) i
behind_bytes front bytes rest n i e =
    ap (λ l. word_at l (n + i)) (append_assoc front bytes rest)
    ∙ ap (λ m. word_at (front ++ (bytes ++ rest)) (m + i)) (sym e)
    ∙ word_behind front (bytes ++ rest) i

place_behind : (at n a : ℕ) → at + n ≤ a → a - at ≡ n + (a - (at + n))
place_behind at n a h = omega (arith, h)

abbrev IsFirstFrom : List ℕ → ℕ → List Datum → List ℕ → ℕ → Type 0
IsFirstFrom rest at ds x a = (at ≤ a) × IsFirst rest at ds x a

first_found : (rest : List ℕ) (at : ℕ) (ds : List Datum) (x : List ℕ) (a : ℕ) → variable_in at ds x ≡ Some a → IsFirstFrom rest at ds x a
first_found rest at ds x a h =
    variable_found (IsFirstFrom rest) at ds x a
    (λ at v ds x e. (omega arith, first_own rest at v ds x e))
    (λ at v ds x a e r. (
      let l = r.0 in omega (arith, l),
      λ w.
          ap (λ n. word_at (bytes_of (Variable v ∷ ds) ++ rest) n) (place_behind at 4 a r.0)
          ∙ behind_bytes (word_bytes v.value) (bytes_of ds) rest 4 (a - (at + 4)) refl
          ∙ r.1 (tail_words v (variables ds) w)
          ∙ sym (ap (λ b. if b then v.value else initial_of (variables ds) x) e),
    ))
    (λ at text ds x a r. (
      let l = r.0 in omega (arith, l),
      λ w.
          ap (λ n. word_at (bytes_of (Text text ∷ ds) ++ rest) n) (place_behind at (length (text_bytes text)) a r.0)
          ∙ behind_bytes (text_bytes text) (bytes_of ds) rest (length (text_bytes text)) (a - (at + length (text_bytes text))) refl
          ∙ r.1 w,
    ))
    h

pub variable_first : (rest : List ℕ) (at : ℕ) (ds : List Datum) (x : List ℕ) (a : ℕ) → variable_in at ds x ≡ Some a → AreWords (variables ds)
    → word_at (bytes_of ds ++ rest) (a - at) ≡ initial_of (variables ds) x
variable_first rest at ds x a h w = (first_found rest at ds x a h).1 w

-- Two variables at one place have one name

pub variable_apart : (at : ℕ) (ds : List Datum) (x y : List ℕ) (a : ℕ) → variable_in at ds x ≡ Some a → variable_in at ds y ≡ Some a → x ≡ y
variable_apart at [] x y a h g = absurd (none_not h)
variable_apart at (Text text ∷ ds) x y a h g = variable_apart (at + length (text_bytes text)) ds x y a h g
variable_apart at (Variable v ∷ ds) x y a h g =
    by (same_name x v.name) refl (same_name y v.name) refl (λ h g. variable_apart (at + 4) ds x y a h g) h g
  where
    by : (b : Bool) → same_name x v.name ≡ b → (c : Bool) → same_name y v.name ≡ c
        → (variable_in (at + 4) ds x ≡ Some a → variable_in (at + 4) ds y ≡ Some a → x ≡ y)
        → (if b then Some at else variable_in (at + 4) ds x) ≡ Some a → (if c then Some at else variable_in (at + 4) ds y) ≡ Some a → x ≡ y
    by true e true f again h g = same_is x v.name e ∙ sym (same_is y v.name f)
    by true e false f again h g = let i : at ≡ a = some_is h in let r = variable_from (at + 4) ds y a g in absurd (omega (arith, i, r))
    by false e true f again h g = let i : at ≡ a = some_is g in let r = variable_from (at + 4) ds x a h in absurd (omega (arith, i, r))
    by false e false f again h g = again h g

-- a text that lies behind a front has no variable in it
pub variable_clear : (at : ℕ) (front : List Datum) (text : List ℕ) (back : List Datum) (x : List ℕ) (a : ℕ)
    → variable_in at (front ++ Text text ∷ back) x ≡ Some a
    → (a + 4 ≤ at + length (bytes_of front)) ⊎ (at + length (bytes_of front) + length (text_bytes text) ≤ a)
variable_clear at [] text back x a h =
    let r = variable_from (at + length (text_bytes text)) back x a h in inr (omega (arith, r))
variable_clear at (Text other ∷ front) text back x a h =
    moved (variable_clear (at + length (text_bytes other)) front text back x a h)
  where
    moved : (a + 4 ≤ at + length (text_bytes other) + length (bytes_of front)) ⊎ (at + length (text_bytes other) + length (bytes_of front) + length (text_bytes text) ≤ a)
        → (a + 4 ≤ at + length (bytes_of (Text other ∷ front))) ⊎ (at + length (bytes_of (Text other ∷ front)) + length (text_bytes text) ≤ a)
    moved (inl l) = let s = bytes_size (Text other) front in inl (omega (arith, s, l))
    moved (inr l) = let s = bytes_size (Text other) front in inr (omega (arith, s, l))
variable_clear at (Variable v ∷ front) text back x a h =
    by (same_name x v.name) (λ g. variable_clear (at + 4) front text back x a g) h
  where
    moved : (a + 4 ≤ at + 4 + length (bytes_of front)) ⊎ (at + 4 + length (bytes_of front) + length (text_bytes text) ≤ a)
        → (a + 4 ≤ at + length (bytes_of (Variable v ∷ front))) ⊎ (at + length (bytes_of (Variable v ∷ front)) + length (text_bytes text) ≤ a)
    moved (inl l) = let s = bytes_size (Variable v) front in inl (omega (arith, s, l))
    moved (inr l) = let s = bytes_size (Variable v) front in inr (omega (arith, s, l))

    by : (b : Bool) → (variable_in (at + 4) (front ++ Text text ∷ back) x ≡ Some a → (a + 4 ≤ at + 4 + length (bytes_of front)) ⊎ (at + 4 + length (bytes_of front) + length (text_bytes text) ≤ a))
        → (if b then Some at else variable_in (at + 4) (front ++ Text text ∷ back) x) ≡ Some a
        → (a + 4 ≤ at + length (bytes_of (Variable v ∷ front))) ⊎ (at + length (bytes_of (Variable v ∷ front)) + length (text_bytes text) ≤ a)
    by true again g = let i : at ≡ a = some_is g in let s = bytes_size (Variable v) front in inl (omega (arith, i, s))
    by false again g = moved (again g)

-- Words without first values

pub common_from : (at : ℕ) (names : List (List ℕ)) (x : List ℕ) (a : ℕ) → common_in at names x ≡ Some a → at ≤ a
common_from at [] x a h = absurd (none_not h)
common_from at (y ∷ names) x a h = by (same_name x y) (λ g. common_from (at + 4) names x a g) h
  where
    by : (b : Bool) → (common_in (at + 4) names x ≡ Some a → at + 4 ≤ a) → (if b then Some at else common_in (at + 4) names x) ≡ Some a → at ≤ a
    by true again g = let i : at ≡ a = some_is g in omega (arith, i)
    by false again g = let r = again g in omega (arith, r)

pub common_within : (at : ℕ) (names : List (List ℕ)) (x : List ℕ) (a : ℕ) → common_in at names x ≡ Some a → a + 4 ≤ at + 4 * length names
common_within at [] x a h = absurd (none_not h)
common_within at (y ∷ names) x a h = by (same_name x y) (λ g. common_within (at + 4) names x a g) h
  where
    by : (b : Bool) → (common_in (at + 4) names x ≡ Some a → a + 4 ≤ at + 4 + 4 * length names) → (if b then Some at else common_in (at + 4) names x) ≡ Some a → a + 4 ≤ at + 4 * length (y ∷ names)
    by true again g = let i : at ≡ a = some_is g in omega (arith, i)
    by false again g = let r = again g in omega (arith, r)

pub common_aligned : (at : ℕ) (names : List (List ℕ)) (x : List ℕ) (a : ℕ) → common_in at names x ≡ Some a → at % 4 ≡ 0 → a % 4 ≡ 0
common_aligned at [] x a h z = absurd (none_not h)
common_aligned at (y ∷ names) x a h z = by (same_name x y) (λ g. common_aligned (at + 4) names x a g (omega (arith, z))) h
  where
    by : (b : Bool) → (common_in (at + 4) names x ≡ Some a → a % 4 ≡ 0) → (if b then Some at else common_in (at + 4) names x) ≡ Some a → a % 4 ≡ 0
    by true again g = let i : at ≡ a = some_is g in omega (arith, i, z)
    by false again g = again g

pub common_apart : (at : ℕ) (names : List (List ℕ)) (x y : List ℕ) (a : ℕ) → common_in at names x ≡ Some a → common_in at names y ≡ Some a → x ≡ y
common_apart at [] x y a h g = absurd (none_not h)
common_apart at (n ∷ names) x y a h g =
    by (same_name x n) refl (same_name y n) refl (λ h g. common_apart (at + 4) names x y a h g) h g
  where
    by : (b : Bool) → same_name x n ≡ b → (c : Bool) → same_name y n ≡ c
        → (common_in (at + 4) names x ≡ Some a → common_in (at + 4) names y ≡ Some a → x ≡ y)
        → (if b then Some at else common_in (at + 4) names x) ≡ Some a → (if c then Some at else common_in (at + 4) names y) ≡ Some a → x ≡ y
    by true e true f again h g = same_is x n e ∙ sym (same_is y n f)
    by true e false f again h g = let i : at ≡ a = some_is h in let r = common_from (at + 4) names y a g in absurd (omega (arith, i, r))
    by false e true f again h g = let i : at ≡ a = some_is g in let r = common_from (at + 4) names x a h in absurd (omega (arith, i, r))
    by false e false f again h g = again h g
