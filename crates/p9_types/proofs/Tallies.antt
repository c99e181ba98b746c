-- What levels have of each structure, and that no search tells apart levels that have the same.
use Rattle.std.proofs.Common.{◌≡◌, ◌≤◌, ℕ, zero, suc, Bool, true, false, not, nat_eq, if◌then◌else◌, List, [], ◌∷◌, ◌++◌, length, eq-eqb, refl, sym, ap, ◌∙◌, arith}
use Rattle.std.specs.List.{flat_map, filter}
use Rattle.std.proofs.lemmas.Bool.{eqb-true}
use Rattle.std.proofs.lemmas.Bool.Decides.{nat_tests}
use Rattle.std.proofs.lemmas.Grind.{flat_map-append}
use Rattle.p9_lang.specs.Members.{Part, Sought, Nowhere, One, Several, or_deeper, offset_if}
use Rattle.p9_types.specs.Levels.{tally, together, stands_at, SameLevel}

-- SOUGHT THINGS ADD UP

pub together_none : {A : Type 0} (s : Sought A) → together s Nowhere ≡ s
together_none Nowhere = refl
together_none (One x) = refl
together_none Several = refl

pub together_several : {A : Type 0} (s : Sought A) → together s Several ≡ Several
together_several Nowhere = refl
together_several (One x) = refl
together_several Several = refl

pub together_comm : {A : Type 0} (s t : Sought A) → together s t ≡ together t s
together_comm Nowhere t = sym (together_none t)
together_comm (One x) Nowhere = refl
together_comm (One x) (One y) = refl
together_comm (One x) Several = refl
together_comm Several t = sym (together_several t)

pub together_assoc : {A : Type 0} (s t u : Sought A) → together (together s t) u ≡ together s (together t u)
together_assoc Nowhere t u = refl
together_assoc (One x) Nowhere u = refl
together_assoc (One x) (One y) Nowhere = refl
together_assoc (One x) (One y) (One z) = refl
together_assoc (One x) (One y) Several = refl
together_assoc (One x) Several u = refl
together_assoc Several t u = refl

-- the middle ones change places
pub together_swap : {A : Type 0} (s t u v : Sought A) → together (together s t) (together u v) ≡ together (together s u) (together t v)
together_swap s t u v =
    together_assoc s t (together u v)
    ∙ ap (together s) (sym (together_assoc t u v) ∙ ap (λ w. together w v) (together_comm t u) ∙ together_assoc u t v)
    ∙ sym (together_assoc s u (together t v))

pub tally_cons : {A : Type 0} (x : A) (xs : List A) → tally (x ∷ xs) ≡ together (One x) (tally xs)
tally_cons x [] = refl
tally_cons x (y ∷ []) = refl
tally_cons x (y ∷ (z ∷ zs)) = refl

pub tally_append : {A : Type 0} (xs ys : List A) → tally (xs ++ ys) ≡ together (tally xs) (tally ys)
tally_append [] ys = refl
tally_append (x ∷ xs) ys =
    tally_cons x (xs ++ ys) ∙ ap (together (One x)) (tally_append xs ys)
    ∙ sym (together_assoc (One x) (tally xs) (tally ys)) ∙ ap (λ s. together s (tally ys)) (sym (tally_cons x xs))

-- what a level has, or else what the next ones have
abbrev pub over : {A : Type 0} → Sought A → Sought A → Sought A
over Nowhere deeper = deeper
over (One x) deeper = One x
over Several deeper = Several

pub or_deeper_over : {A : Type 0} (xs : List A) (deeper : Sought A) → or_deeper xs deeper ≡ over (tally xs) deeper
or_deeper_over [] deeper = refl
or_deeper_over (x ∷ []) deeper = refl
or_deeper_over (x ∷ (y ∷ ys)) deeper = refl

pub tally_flat : {X A : Type 0} (f : X → List A) (xs ys : List X) → tally (flat_map f (xs ++ ys)) ≡ together (tally (flat_map f xs)) (tally (flat_map f ys))
tally_flat f xs ys = ap tally (flat_map-append f xs ys) ∙ tally_append (flat_map f xs) (flat_map f ys)

-- SAME LEVELS

pub stands_append : (tag : ℕ) (L M : List Part) → stands_at tag (L ++ M) ≡ together (stands_at tag L) (stands_at tag M)
stands_append tag L M = tally_flat (offset_if tag) L M

pub same_then : (L M N : List Part) → SameLevel L M → SameLevel M N → SameLevel L N
same_then L M N h k tag = h tag ∙ k tag

pub same_back : (L M : List Part) → SameLevel L M → SameLevel M L
same_back L M h tag = sym (h tag)

pub same_append : (L M N O : List Part) → SameLevel L M → SameLevel N O → SameLevel (L ++ N) (M ++ O)
same_append L M N O h k tag =
    stands_append tag L N ∙ ap (λ s. together s (stands_at tag N)) (h tag) ∙ ap (together (stands_at tag M)) (k tag) ∙ sym (stands_append tag M O)

pub same_swap : (L M : List Part) → SameLevel (L ++ M) (M ++ L)
same_swap L M tag = stands_append tag L M ∙ together_comm (stands_at tag L) (stands_at tag M) ∙ sym (stands_append tag M L)

-- ONE STRUCTURE'S PARTS, AND THE OTHERS

abbrev kept : ℕ → List Part → List Part
kept t L = filter (λ p. nat_eq p.tag t) L

abbrev others : ℕ → List Part → List Part
others t L = filter (λ p. not (nat_eq p.tag t)) L

-- those that pass a test, and those that don't
pub parted : {A : Type 0} (f : Part → List A) (test : Part → Bool) (L : List Part)
    → tally (flat_map f L) ≡ together (tally (flat_map f (filter test L))) (tally (flat_map f (filter (λ p. not (test p)) L)))
parted f test [] = refl
parted f test (p ∷ L) = tally_append (f p) (flat_map f L) ∙ ap (together (tally (f p))) (parted f test L) ∙ by (test p)
  where
    by : (b : Bool) → together (tally (f p)) (together (tally (flat_map f (filter test L))) (tally (flat_map f (filter (λ q. not (test q)) L))))
        ≡ together (tally (flat_map f (if b then p ∷ filter test L else filter test L))) (tally (flat_map f (if not b then p ∷ filter (λ q. not (test q)) L else filter (λ q. not (test q)) L)))
    by true =
        sym (together_assoc (tally (f p)) (tally (flat_map f (filter test L))) (tally (flat_map f (filter (λ q. not (test q)) L))))
        ∙ ap (λ s. together s (tally (flat_map f (filter (λ q. not (test q)) L)))) (sym (tally_append (f p) (flat_map f (filter test L))))
    by false =
        sym (together_assoc (tally (f p)) (tally (flat_map f (filter test L))) (tally (flat_map f (filter (λ q. not (test q)) L))))
        ∙ ap (λ s. together s (tally (flat_map f (filter (λ q. not (test q)) L)))) (together_comm (tally (f p)) (tally (flat_map f (filter test L))))
        ∙ together_assoc (tally (flat_map f (filter test L))) (tally (f p)) (tally (flat_map f (filter (λ q. not (test q)) L)))
        ∙ ap (together (tally (flat_map f (filter test L)))) (sym (tally_append (f p) (flat_map f (filter (λ q. not (test q)) L))))

-- PARTS THAT ARE ALL ONE STRUCTURE

abbrev AreOf : ℕ → List Part → Type 0
AreOf t [] = Unit {0}
AreOf t (p ∷ L) = (p.tag ≡ t) × AreOf t L

kept_of : (t : ℕ) (L : List Part) → AreOf t (kept t L)
kept_of t [] = tt
kept_of t (p ∷ L) = by (nat_eq p.tag t) refl (kept_of t L)
  where
    by : (b : Bool) → nat_eq p.tag t ≡ b → AreOf t (kept t L) → AreOf t (if b then p ∷ kept t L else kept t L)
    by true e r = (eqb-true p.tag t e, r)
    by false e r = r

here : (t : ℕ) (p : Part) → p.tag ≡ t → tally (offset_if t p) ≡ One p.offset
here t p e = ap (λ b. tally (if b then p.offset ∷ [] else [])) (eq-eqb p.tag t e)

stands_first : (t : ℕ) (p : Part) (L : List Part) → p.tag ≡ t → stands_at t (p ∷ L) ≡ together (One p.offset) (stands_at t L)
stands_first t p L e = tally_append (offset_if t p) (flat_map (offset_if t) L) ∙ ap (λ s. together s (stands_at t L)) (here t p e)

not_nowhere : {A : Type 0} (x : A) (s : Sought A) → together (One x) s ≡ Nowhere → ⊥
not_nowhere x Nowhere e = cc
not_nowhere x (One y) e = cc
not_nowhere x Several e = cc

two_several : {A : Type 0} (x y : A) (s : Sought A) → together (One x) (together (One y) s) ≡ Several
two_several x y Nowhere = refl
two_several x y (One z) = refl
two_several x y Several = refl

-- what is looked for in a part is there or not by the part's structure
abbrev pub IsUniform : {A : Type 0} → (Part → List A) → Type 0
IsUniform f = (p q : Part) → p.tag ≡ q.tag → f p ≡ [] → f q ≡ []

not_bare : {A : Type 0} (x : A) (xs : List A) → x ∷ xs ≡ [] → ⊥
not_bare x xs e = cc

abbrev verdict : {A : Type 0} → List A → Sought A
verdict [] = Nowhere
verdict (x ∷ xs) = Several

none_at_all : {A : Type 0} (f : Part → List A) → IsUniform f → (t : ℕ) (p : Part) → p.tag ≡ t → f p ≡ [] → (L : List Part) → AreOf t L → flat_map f L ≡ []
none_at_all f u t p e n [] a = refl
none_at_all f u t p e n (q ∷ L) a = ap (λ xs. xs ++ flat_map f L) (u p q (e ∙ sym a.0) n) ∙ none_at_all f u t p e n L a.1

tally_some : {A : Type 0} (x : A) (xs : List A) (s : Sought A) → (y : A) (ys : List A) → s ≡ tally (y ∷ ys) → together (tally (x ∷ xs)) s ≡ Several
tally_some x xs s y ys e =
    ap (together (tally (x ∷ xs))) (e ∙ tally_cons y ys) ∙ ap (λ r. together r (together (One y) (tally ys))) (tally_cons x xs)
    ∙ ap (λ r. together r (together (One y) (tally ys))) (together_comm (One x) (tally xs))
    ∙ together_assoc (tally xs) (One x) (together (One y) (tally ys))
    ∙ ap (together (tally xs)) (two_several x y (tally ys)) ∙ together_several (tally xs)

many : {A : Type 0} (f : Part → List A) → IsUniform f → (t : ℕ) (p q : Part) (L : List Part) → p.tag ≡ t → q.tag ≡ t → AreOf t L
    → tally (flat_map f (p ∷ q ∷ L)) ≡ verdict (f p)
many {A = A} f u t p q L d e a = by (f p) refl (f q) refl
  where
    by : (xs : List A) → f p ≡ xs → (ys : List A) → f q ≡ ys → tally (flat_map f (p ∷ q ∷ L)) ≡ verdict xs
    by [] m ys n = ap tally (none_at_all f u t p d m (p ∷ q ∷ L) (d, (e, a)))
    by (x ∷ xs) m [] n = absurd (not_bare _ _ (sym m ∙ u q p (e ∙ sym d) n))
    by (x ∷ xs) m (y ∷ ys) n =
        ap tally (ap (λ zs. zs ++ flat_map f (q ∷ L)) m) ∙ tally_append (x ∷ xs) (flat_map f (q ∷ L))
        ∙ tally_some x xs (tally (flat_map f (q ∷ L))) y (ys ++ flat_map f L) (ap (λ zs. tally (zs ++ flat_map f L)) n)

verdict_same : {A : Type 0} (f : Part → List A) → IsUniform f → (p q : Part) → p.tag ≡ q.tag → verdict (f p) ≡ verdict (f q)
verdict_same {A = A} f u p q e = by (f p) refl (f q) refl
  where
    by : (xs : List A) → f p ≡ xs → (ys : List A) → f q ≡ ys → verdict xs ≡ verdict ys
    by [] m [] n = refl
    by [] m (y ∷ ys) n = absurd (not_bare _ _ (sym n ∙ u p q e m))
    by (x ∷ xs) m [] n = absurd (not_bare _ _ (sym m ∙ u q p (sym e) n))
    by (x ∷ xs) m (y ∷ ys) n = refl

alike_parts : (p q : Part) → p.tag ≡ q.tag → p.offset ≡ q.offset → p ≡ q
alike_parts p q e h = ap (λ t. record { offset = p.offset; tag = t }) e ∙ ap (λ o. record { offset = o; tag = q.tag }) h

found_alike : {A : Type 0} (f : Part → List A) → IsUniform f → (t : ℕ) (K M : List Part) → AreOf t K → AreOf t M → stands_at t K ≡ stands_at t M
    → tally (flat_map f K) ≡ tally (flat_map f M)
found_alike f u t [] [] a b h = refl
found_alike f u t [] (q ∷ M) a b h = absurd (not_nowhere q.offset (stands_at t M) (sym (stands_first t q M b.0) ∙ sym h))
found_alike f u t (p ∷ K) [] a b h = absurd (not_nowhere p.offset (stands_at t K) (sym (stands_first t p K a.0) ∙ h))
found_alike f u t (p ∷ []) (q ∷ []) a b h = ap (λ r. tally (flat_map f (r ∷ []))) (alike_parts p q (a.0 ∙ sym b.0) (offsets (sym (stands_first t p [] a.0) ∙ h ∙ stands_first t q [] b.0)))
  where
    offsets : One p.offset ≡ One q.offset → p.offset ≡ q.offset
    offsets e = cc
found_alike f u t (p ∷ []) (q ∷ (r ∷ M)) a b h = absurd (unlike (sym (stands_first t p [] a.0) ∙ h ∙ stands_first t q (r ∷ M) b.0 ∙ ap (together (One q.offset)) (stands_first t r M b.1.0) ∙ two_several q.offset r.offset (stands_at t M)))
  where
    unlike : One p.offset ≡ Several → ⊥
    unlike e = cc
found_alike f u t (p ∷ (r ∷ K)) (q ∷ []) a b h = absurd (unlike (sym (stands_first t q [] b.0) ∙ sym h ∙ stands_first t p (r ∷ K) a.0 ∙ ap (together (One p.offset)) (stands_first t r K a.1.0) ∙ two_several p.offset r.offset (stands_at t K)))
  where
    unlike : One q.offset ≡ Several → ⊥
    unlike e = cc
found_alike f u t (p ∷ (r ∷ K)) (q ∷ (s ∷ M)) a b h =
    many f u t p r K a.0 a.1.0 a.1.1 ∙ verdict_same f u p q (a.0 ∙ sym b.0) ∙ sym (many f u t q s M b.0 b.1.0 b.1.1)

-- LEVELS OF WHICH EACH STRUCTURE IS TAKEN OUT IN TURN

elsewhere : (s : ℕ) (p : Part) (L : List Part) → nat_eq p.tag s ≡ false → stands_at s (p ∷ L) ≡ stands_at s L
elsewhere s p L e = ap (λ b. tally ((if b then p.offset ∷ [] else []) ++ flat_map (offset_if s) L)) e

-- what equals one number differs from the others

apart : (n t s : ℕ) → nat_eq n t ≡ true → nat_eq s t ≡ false → nat_eq n s ≡ false
apart n t s e f = grind (arith, nat_tests)

apart_too : (n t s : ℕ) → nat_eq n t ≡ false → nat_eq s t ≡ true → nat_eq n s ≡ false
apart_too n t s e f = grind (arith, nat_tests)

stands_out : (t s : ℕ) (L : List Part) → stands_at s (others t L) ≡ (if nat_eq s t then Nowhere else stands_at s L)
stands_out t s [] = by (nat_eq s t)
  where
    by : (b : Bool) → let none : Sought ℕ = Nowhere in none ≡ (if b then none else none)
    by true = refl
    by false = refl
stands_out t s (p ∷ L) = by (nat_eq p.tag t) refl (nat_eq s t) refl (stands_out t s L)
  where
    by : (b : Bool) → nat_eq p.tag t ≡ b → (d : Bool) → nat_eq s t ≡ d → stands_at s (others t L) ≡ (if d then Nowhere else stands_at s L)
        → stands_at s (if not b then p ∷ others t L else others t L) ≡ (if d then Nowhere else stands_at s (p ∷ L))
    by true e true f r = r
    by true e false f r = r ∙ sym (elsewhere s p L (apart p.tag t s e f))
    by false e true f r = elsewhere s p (others t L) (apart_too p.tag t s e f) ∙ r
    by false e false f r = tally_append (offset_if s p) (flat_map (offset_if s) (others t L)) ∙ ap (together (tally (offset_if s p))) r ∙ sym (tally_append (offset_if s p) (flat_map (offset_if s) L))

others_shorter : (t : ℕ) (L : List Part) → length (others t L) ≤ length L
others_shorter t [] = omega arith
others_shorter t (p ∷ L) = by (nat_eq p.tag t) (others_shorter t L)
  where
    by : (b : Bool) → length (others t L) ≤ length L → length (if not b then p ∷ others t L else others t L) ≤ length (p ∷ L)
    by true le = omega arith
    by false le = omega arith

others_less : (p : Part) (L : List Part) → length (others p.tag (p ∷ L)) ≤ length L
others_less p L =
    let le = others_shorter p.tag L in
    let e = ap (λ b. length (if not b then p ∷ others p.tag L else others p.tag L)) (eq-eqb p.tag p.tag refl) in
    omega arith

stands_kept : (t : ℕ) (L : List Part) → stands_at t L ≡ stands_at t (kept t L)
stands_kept t L =
    parted (offset_if t) (λ p. nat_eq p.tag t) L
    ∙ ap (together (stands_at t (kept t L))) (stands_out t t L ∙ ap (λ b. if b then Nowhere else stands_at t L) (eq-eqb t t refl))
    ∙ together_none (stands_at t (kept t L))

others_same : (t : ℕ) (L M : List Part) → SameLevel L M → SameLevel (others t L) (others t M)
others_same t L M h s = stands_out t s L ∙ ap (λ r. if nat_eq s t then Nowhere else r) (h s) ∙ sym (stands_out t s M)

level_found_to : {A : Type 0} (f : Part → List A) → IsUniform f → (n : ℕ) (L M : List Part) → length L ≤ n → SameLevel L M
    → tally (flat_map f L) ≡ tally (flat_map f M)
level_found_to f u n [] [] le h = refl
level_found_to f u n [] (q ∷ M) le h = absurd (not_nowhere q.offset (stands_at q.tag M) (sym (stands_first q.tag q M refl) ∙ sym (h q.tag)))
level_found_to f u zero (p ∷ L) M le h = absurd (omega arith)
level_found_to f u (suc n) (p ∷ L) M le h =
    let less = others_less p L in
    parted f (λ q. nat_eq q.tag p.tag) (p ∷ L)
    ∙ ap (λ s. together s (tally (flat_map f (others p.tag (p ∷ L)))))
    (found_alike f u p.tag (kept p.tag (p ∷ L)) (kept p.tag M) (kept_of p.tag (p ∷ L)) (kept_of p.tag M)
    (sym (stands_kept p.tag (p ∷ L)) ∙ h p.tag ∙ stands_kept p.tag M))
    ∙ ap (together (tally (flat_map f (kept p.tag M))))
    (level_found_to f u n (others p.tag (p ∷ L)) (others p.tag M) (omega arith) (others_same p.tag (p ∷ L) M h))
    ∙ sym (parted f (λ q. nat_eq q.tag p.tag) M)

-- what a search finds is the same at levels that have the same
pub level_found : {A : Type 0} (f : Part → List A) → IsUniform f → (L M : List Part) → SameLevel L M → tally (flat_map f L) ≡ tally (flat_map f M)
level_found f u L M h = level_found_to f u (length L) L M (omega arith) h
