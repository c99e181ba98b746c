-- A fact more among those that are held.
use Rattle.std.proofs.Common.{◌≡◌, ℕ, ◌==◌, cond, Bool, true, false, ◌&&◌, ◌||◌, List, [], ◌∷◌, ◌++◌, Option, Some, None, Result, Ok, Err, OnOk, refl, sym, ap, ◌∙◌, arith}
use mathlib.Core.Bool.{beq}
use mathlib.Core.Path.{fun_ext}
use Rattle.p9_facts.specs.contracts.facts.FactPartialEq.TheImpl.{eq-value}
use Rattle.std.specs.Option.{option_or}
use Rattle.std.proofs.lemmas.Bool.Decides.{nat_tests}
use Rattle.p9_facts.specs.declared.facts.Fact.{Fact}
use Rattle.p9_facts.specs.declared.facts.Fact.TheVariants.{Label, Instruction, Definition, Signature, Use, Value, Byte}
use Rattle.p9_facts.specs.Facts.{same_fact, among, noted}

pub beq_is : (a b : Bool) → beq a b ≡ true → a ≡ b
beq_is true true h = refl
beq_is true false h = absurd (cc)
beq_is false true h = absurd (cc)
beq_is false false h = refl

pub both : (a b : Bool) → (a && b) ≡ true → (a ≡ true) × (b ≡ true)
both true b h = (refl, h)
both false b h = absurd (cc)

two_same : (w v : ℕ) (l k : Bool) → ((w == v) && beq l k) ≡ true → (w ≡ v) × (l ≡ k)
two_same w v l k h =
    let parts = both (w == v) (beq l k) h in
    (grind (arith, nat_tests, parts.0), beq_is l k parts.1)

numbers_same : (w v m n : ℕ) → ((w == v) && (m == n)) ≡ true → (w ≡ v) × (m ≡ n)
numbers_same w v m n h =
    let parts = both (w == v) (m == n) h in
    (grind (arith, nat_tests, parts.0), grind (arith, nat_tests, parts.1))

pub same_fact_is : (a b : Fact) → same_fact a b ≡ true → a ≡ b
same_fact_is (Label f w) (Label g v) h = let e = numbers_same f g w v h in cc
same_fact_is (Instruction f n) (Instruction g m) h = let e = numbers_same f g n m h in cc
same_fact_is (Definition w l) (Definition v k) h = let e = two_same w v l k h in cc
same_fact_is (Signature w l) (Signature v k) h = let e = two_same w v l k h in cc
same_fact_is (Use w l) (Use v k) h = let e = two_same w v l k h in cc
same_fact_is (Value w l) (Value v k) h = let e = two_same w v l k h in cc
same_fact_is (Byte w l p) (Byte v k q) h =
    let parts = both (w == v) (beq l k && (p == q)) h in
    let more = both (beq l k) (p == q) parts.1 in
    let e : w ≡ v = grind (arith, nat_tests, parts.0) in
    let d : p ≡ q = grind (arith, nat_tests, more.1) in
    let f = beq_is l k more.0 in
    cc
same_fact_is _ _ h = absurd (cc)

-- the test that is derived for keys
tests_same : (a b : Fact) → eq-value.it a b ≡ same_fact a b
tests_same (Label f w) (Label g v) = refl
tests_same (Instruction f n) (Instruction g m) = refl
tests_same (Definition w l) (Definition v k) = refl
tests_same (Signature w l) (Signature v k) = refl
tests_same (Use w l) (Use v k) = refl
tests_same (Value w l) (Value v k) = refl
tests_same (Byte w l p) (Byte v k q) = refl
tests_same _ _ = refl

pub tests_are : eq-value.it ≡ same_fact
tests_are = fun_ext (λ a. fun_ext (tests_same a))

pub or_none : (o : Option ℕ) → option_or o None ≡ o
or_none None = refl
or_none (Some n) = refl

new_by : (b : Bool) (known : Fact → Option ℕ) (fact q : Fact) (row : ℕ) (now : Option ℕ) → (b ≡ true → fact ≡ q) → known fact ≡ None → now ≡ cond b (Some row) (known q) → now ≡ noted (known q) row b
new_by true known fact q row now same none h =
    let e : known q ≡ None = sym (ap known (same refl)) ∙ none in
    rw e h
new_by false known fact q row now same none h = h ∙ sym (or_none (known q))

-- a fact that wasn't known
pub note_new : (known : Fact → Option ℕ) (fact q : Fact) (row : ℕ) (now : Option ℕ) → known fact ≡ None → now ≡ cond (same_fact fact q) (Some row) (known q) → now ≡ noted (known q) row (same_fact fact q)
note_new known fact q row now none h = new_by (same_fact fact q) known fact q row now (same_fact_is fact q) none h

old_by : (b : Bool) (known : Fact → Option ℕ) (fact q : Fact) (row first : ℕ) → (b ≡ true → fact ≡ q) → known fact ≡ Some first → known q ≡ noted (known q) row b
old_by true known fact q row first same some =
    let e : known q ≡ Some first = sym (ap known (same refl)) ∙ some in
    rw e refl
old_by false known fact q row first same some = sym (or_none (known q))

-- a fact that was
pub note_old : (known : Fact → Option ℕ) (fact q : Fact) (row first : ℕ) → known fact ≡ Some first → known q ≡ noted (known q) row (same_fact fact q)
note_old known fact q row first some = old_by (same_fact fact q) known fact q row first (same_fact_is fact q) some

-- one after the other
pub noted_twice : (o : Option ℕ) (row : ℕ) (a b : Bool) → noted (noted o row a) row b ≡ noted o row (a || b)
noted_twice None row true b = refl
noted_twice None row false b = refl
noted_twice (Some n) row true b = refl
noted_twice (Some n) row false b = refl

or_assoc : (a b c : Bool) → ((a || b) || c) ≡ (a || (b || c))
or_assoc true b c = refl
or_assoc false b c = refl

pub among_append : (q : Fact) (xs ys : List Fact) → among q (xs ++ ys) ≡ (among q xs || among q ys)
among_append q [] ys = refl
among_append q (x ∷ xs) ys = ap (λ b. same_fact x q || b) (among_append q xs ys) ∙ sym (or_assoc (same_fact x q) (among q xs) (among q ys))

pub noted_both : (q : Fact) (old mid new : Option ℕ) (row : ℕ) (xs ys : List Fact) → mid ≡ noted old row (among q xs) → new ≡ noted mid row (among q ys) → new ≡ noted old row (among q (xs ++ ys))
noted_both q old mid new row xs ys h k =
    k ∙ (ap (λ o. noted o row (among q ys)) h ∙ (noted_twice old row (among q xs) (among q ys) ∙ ap (noted old row) (sym (among_append q xs ys))))

-- the second of two steps, where it is done
pub on_both : {T E : Type 0} (r : Result T E) (row : ℕ) (old mid new : Fact → Option ℕ) (xs ys : List Fact) → ((q : Fact) → mid q ≡ noted (old q) row (among q xs)) → OnOk r ((q : Fact) → new q ≡ noted (mid q) row (among q ys)) → OnOk r ((q : Fact) → new q ≡ noted (old q) row (among q (xs ++ ys)))
on_both (Ok x) row old mid new xs ys h k = λ q. noted_both q (old q) (mid q) (new q) row xs ys (h q) (k q)
on_both (Err e) row old mid new xs ys h k = tt
