-- The depth to which `agrees` looks is enough. Structures are compared with structures opened within
-- structures to a depth; the pairs that stand this test grow fewer with the depth, and once they
-- don't they stay, so as many steps as there are pairs settle it.
use Rattle.std.proofs.Common.{◌<◌, ◌≡◌, ◌≤◌, ◌⊎◌, inl, inr, ℕ, zero, suc, ◌+◌, ◌*◌, Bool, true, false, ◌&&◌, ◌==◌, if◌then◌else◌, List, [], ◌∷◌, ◌++◌, length, length-append, slice_get, nat_lt, Option, Some, None, refl, sym, subst, ap, ◌∙◌, arith}
use Rattle.std.proofs.lemmas.Bool.{and_parts}
use Rattle.p9_lang.specs.Names.{same_name}
use Rattle.p9_lang.specs.Types.{TypeTree, Pointer, Array, Function, Tagged, TypeRow, none, more, MemberTree, TagTree, Tags}
use Rattle.p9_lang.specs.Agreement.{open_body, kind_number, same_keyword, rows_agree, members_agree, bodies_agree, tags_agree, agree, height, row_height, members_height, body_height, tags_height, enough}
use Rattle.p9_lang.specs.Laws.{AgreementIsDecided}
use Rattle.p9_lang.proofs.Settling.{Among, StaysAt, settled}

-- PARTS THAT AGREE BY ONE TEST agree by another, if what they are made of does

both : (a b : Bool) → a ≡ true → b ≡ true → (a && b) ≡ true
both a b e k = cc

abbrev Implies : (H : ℕ) (f g : TypeTree → TypeTree → Bool) → Type 0
Implies H f g = (t u : TypeTree) → height t ≤ H → f t u ≡ true → g t u ≡ true

rows_imply : (H : ℕ) (f g : TypeTree → TypeTree → Bool) → Implies H f g → (ts us : TypeRow) → row_height ts ≤ H
    → rows_agree f ts us ≡ true → rows_agree g ts us ≡ true
rows_imply H f g h none us le e = e
rows_imply H f g h (more t ts) none le e = e
rows_imply H f g h (more t ts) (more u us) le e =
    let parts = and_parts (f t u) (rows_agree f ts us) e in
    both (g t u) (rows_agree g ts us) (h t u (omega arith) parts.0) (rows_imply H f g h ts us (omega arith) parts.1)

members_imply : (H : ℕ) (f g : TypeTree → TypeTree → Bool) → Implies H f g → (ms ns : List MemberTree) → members_height ms ≤ H
    → members_agree f ms ns ≡ true → members_agree g ms ns ≡ true
members_imply H f g h [] ns le e = e
members_imply H f g h (m ∷ ms) [] le e = e
members_imply H f g h (m ∷ ms) (n ∷ ns) le e =
    let first = and_parts (same_name m.name n.name) (f m.type n.type && members_agree f ms ns) e in
    let second = and_parts (f m.type n.type) (members_agree f ms ns) first.1 in
    both (same_name m.name n.name) (g m.type n.type && members_agree g ms ns) first.0
    (both (g m.type n.type) (members_agree g ms ns) (h m.type n.type (omega arith) second.0)
    (members_imply H f g h ms ns (omega arith) second.1))

bodies_imply : (H : ℕ) (f g : TypeTree → TypeTree → Bool) → Implies H f g → (a b : Option (List MemberTree)) → body_height a ≤ H
    → bodies_agree f a b ≡ true → bodies_agree g a b ≡ true
bodies_imply H f g h None b le e = e
bodies_imply H f g h (Some ms) None le e = e
bodies_imply H f g h (Some ms) (Some ns) le e = members_imply H f g h ms ns le e

open_is_lower : (tag : TagTree) → body_height (open_body tag) ≤ body_height tag.members
open_is_lower tag = by tag.is_marked
  where
    by : (b : Bool) → body_height (if b then None else tag.members) ≤ body_height tag.members
    by true = omega arith
    by false = omega arith

tag_is_lower : (A : Tags) (i : ℕ) (tag : TagTree) → slice_get A i ≡ Some tag → body_height tag.members ≤ tags_height A
tag_is_lower [] zero tag e = cc
tag_is_lower [] (suc i) tag e = cc
tag_is_lower (t ∷ ts) zero tag e = let z : t ≡ tag = cc in subst (λ s. body_height s.members ≤ tags_height (t ∷ ts)) z (omega arith)
tag_is_lower (t ∷ ts) (suc i) tag e = let r = tag_is_lower ts i tag e in omega arith

tags_imply : (H : ℕ) (f g : TypeTree → TypeTree → Bool) → Implies H f g → (A : Tags) → tags_height A ≤ H → (i : ℕ) (b : Option TagTree)
    → tags_agree f (slice_get A i) b ≡ true → tags_agree g (slice_get A i) b ≡ true
tags_imply H f g h A le i b = by (slice_get A i) refl b
  where
    by : (a : Option TagTree) → slice_get A i ≡ a → (b : Option TagTree) → tags_agree f a b ≡ true → tags_agree g a b ≡ true
    by None z b e = e
    by (Some s) z None e = e
    by (Some s) z (Some t) e =
        let first = and_parts (same_keyword s.is_union t.is_union) (same_name s.name t.name && bodies_agree f (open_body s) (open_body t)) e in
        let second = and_parts (same_name s.name t.name) (bodies_agree f (open_body s) (open_body t)) first.1 in
        let low = tag_is_lower A i s z in
        let open_low = open_is_lower s in
        both (same_keyword s.is_union t.is_union) (same_name s.name t.name && bodies_agree g (open_body s) (open_body t)) first.0
        (both (same_name s.name t.name) (bodies_agree g (open_body s) (open_body t)) second.0
        (bodies_imply H f g h (open_body s) (open_body t) (omega arith) second.1))

-- TYPES THAT ARE ALIKE, by a test of their structures

abbrev mutual
  alike : (ℕ → ℕ → Bool) → TypeTree → TypeTree → Bool
  alike test (Pointer t) (Pointer u) = alike test t u
  alike test (Array t m) (Array u n) = (m == n) && alike test t u
  alike test (Function t ts) (Function u us) = alike test t u && rows_alike test ts us
  alike test (Tagged i) (Tagged j) = test i j
  alike test t u = kind_number t == kind_number u

  rows_alike : (ℕ → ℕ → Bool) → TypeRow → TypeRow → Bool
  rows_alike test none none = true
  rows_alike test none (more u us) = false
  rows_alike test (more t ts) none = false
  rows_alike test (more t ts) (more u us) = alike test t u && rows_alike test ts us

rows_as_alike : (test : ℕ → ℕ → Bool) (ts us : TypeRow) → rows_alike test ts us ≡ rows_agree (alike test) ts us
rows_as_alike test none none = refl
rows_as_alike test none (more u us) = refl
rows_as_alike test (more t ts) none = refl
rows_as_alike test (more t ts) (more u us) = ap (λ b. alike test t u && b) (rows_as_alike test ts us)

abbrev Stronger : (f g : ℕ → ℕ → Bool) → Type 0
Stronger f g = (i j : ℕ) → f i j ≡ true → g i j ≡ true

mutual
  alike_by : (f g : ℕ → ℕ → Bool) → Stronger f g → (t u : TypeTree) → alike f t u ≡ true → alike g t u ≡ true
  alike_by f g h (Pointer t) (Pointer u) e = alike_by f g h t u e
  alike_by f g h (Array t m) (Array u n) e =
      let parts = and_parts (m == n) (alike f t u) e in both (m == n) (alike g t u) parts.0 (alike_by f g h t u parts.1)
  alike_by f g h (Function t ts) (Function u us) e =
      let parts = and_parts (alike f t u) (rows_alike f ts us) e in
      both (alike g t u) (rows_alike g ts us) (alike_by f g h t u parts.0) (rows_alike_by f g h ts us parts.1)
  alike_by f g h (Tagged i) (Tagged j) e = h i j e
  alike_by f g h _ _ e = e

  rows_alike_by : (f g : ℕ → ℕ → Bool) → Stronger f g → (ts us : TypeRow) → rows_alike f ts us ≡ true → rows_alike g ts us ≡ true
  rows_alike_by f g h none us e = e
  rows_alike_by f g h (more t ts) none e = e
  rows_alike_by f g h (more t ts) (more u us) e =
      let parts = and_parts (alike f t u) (rows_alike f ts us) e in
      both (alike g t u) (rows_alike g ts us) (alike_by f g h t u parts.0) (rows_alike_by f g h ts us parts.1)

-- STRUCTURES OPENED WITHIN STRUCTURES

abbrev opened : ℕ → Tags → Tags → ℕ → ℕ → Bool
opened zero A B i j = tags_agree (λ t u. true) (slice_get A i) (slice_get B j)
opened (suc k) A B i j = tags_agree (alike (opened k A B)) (slice_get A i) (slice_get B j)

opened_falls : (k : ℕ) (A B : Tags) → Stronger (opened (suc k) A B) (opened k A B)
opened_falls zero A B i j e =
    tags_imply (tags_height A) (alike (opened zero A B)) (λ t u. true) (λ t u le k. refl) A (omega arith) i (slice_get B j) e
opened_falls (suc k) A B i j e =
    tags_imply (tags_height A) (alike (opened (suc k) A B)) (alike (opened k A B))
    (λ t u le r. alike_by (opened (suc k) A B) (opened k A B) (opened_falls k A B) t u r) A (omega arith) i (slice_get B j) e

-- what is alike at a depth agrees to it

deep_agrees : (d : ℕ) (A B : Tags) (t u : TypeTree) → alike (opened d A B) t u ≡ true → agree d A B t u ≡ true
deep_agrees zero A B t u e = refl
deep_agrees (suc d) A B (Pointer t) (Pointer u) e =
    deep_agrees d A B t u (alike_by (opened (suc d) A B) (opened d A B) (opened_falls d A B) t u e)
deep_agrees (suc d) A B (Array t m) (Array u n) e =
    let parts = and_parts (m == n) (alike (opened (suc d) A B) t u) e in
    both (m == n) (agree d A B t u) parts.0
    (deep_agrees d A B t u (alike_by (opened (suc d) A B) (opened d A B) (opened_falls d A B) t u parts.1))
deep_agrees (suc d) A B (Function t ts) (Function u us) e =
    let parts = and_parts (alike (opened (suc d) A B) t u) (rows_alike (opened (suc d) A B) ts us) e in
    both (agree d A B t u) (rows_agree (agree d A B) ts us)
    (deep_agrees d A B t u (alike_by (opened (suc d) A B) (opened d A B) (opened_falls d A B) t u parts.0))
    (rows_imply (row_height ts) (alike (opened d A B)) (agree d A B) (λ t u le r. deep_agrees d A B t u r) ts us (omega arith)
    (sym (rows_as_alike (opened d A B) ts us)
    ∙ rows_alike_by (opened (suc d) A B) (opened d A B) (opened_falls d A B) ts us parts.1))
deep_agrees (suc d) A B (Tagged i) (Tagged j) e =
    tags_imply (tags_height A) (alike (opened d A B)) (agree d A B) (λ t u le r. deep_agrees d A B t u r) A (omega arith) i (slice_get B j) e
deep_agrees (suc d) A B _ _ e = e

-- what agrees to a depth is alike as deep as that shows

height_from_one : (t : TypeTree) → 1 ≤ height t
height_from_one (Pointer t) = omega arith
height_from_one (Array t n) = omega arith
height_from_one (Function t ts) = omega arith
height_from_one _ = omega arith

abbrev Shows : (A B : Tags) (base : ℕ) (f : ℕ → ℕ → Bool) → Type 0
Shows A B base f = (D i j : ℕ) → base ≤ D → tags_agree (agree D A B) (slice_get A i) (slice_get B j) ≡ true → f i j ≡ true

mutual
  shown : (A B : Tags) (base : ℕ) (f : ℕ → ℕ → Bool) → Shows A B base f → (t u : TypeTree) (D : ℕ) → height t + base ≤ D
      → agree D A B t u ≡ true → alike f t u ≡ true
  shown A B base f h t u zero le e = let r = height_from_one t in absurd (omega arith)
  shown A B base f h (Pointer t) (Pointer u) (suc D) le e = shown A B base f h t u D (omega arith) e
  shown A B base f h (Array t m) (Array u n) (suc D) le e =
      let parts = and_parts (m == n) (agree D A B t u) e in
      both (m == n) (alike f t u) parts.0 (shown A B base f h t u D (omega arith) parts.1)
  shown A B base f h (Function t ts) (Function u us) (suc D) le e =
      let parts = and_parts (agree D A B t u) (rows_agree (agree D A B) ts us) e in
      both (alike f t u) (rows_alike f ts us) (shown A B base f h t u D (omega arith) parts.0)
      (rows_shown A B base f h ts us D (omega arith) parts.1)
  shown A B base f h (Tagged i) (Tagged j) (suc D) le e = h D i j (omega arith) e
  shown A B base f h _ _ (suc D) le e = e

  rows_shown : (A B : Tags) (base : ℕ) (f : ℕ → ℕ → Bool) → Shows A B base f → (ts us : TypeRow) (D : ℕ) → row_height ts + base ≤ D
      → rows_agree (agree D A B) ts us ≡ true → rows_alike f ts us ≡ true
  rows_shown A B base f h none us D le e = by us e
    where
      by : (us : TypeRow) → rows_agree (agree D A B) none us ≡ true → rows_alike f none us ≡ true
      by none e = e
      by (more u us) e = e
  rows_shown A B base f h (more t ts) none D le e = e
  rows_shown A B base f h (more t ts) (more u us) D le e =
      let parts = and_parts (agree D A B t u) (rows_agree (agree D A B) ts us) e in
      both (alike f t u) (rows_alike f ts us) (shown A B base f h t u D (omega arith) parts.0)
      (rows_shown A B base f h ts us D (omega arith) parts.1)

opens : (k : ℕ) (A B : Tags) → Shows A B (k * tags_height A) (opened k A B)
opens zero A B D i j le e =
    tags_imply (tags_height A) (agree D A B) (λ t u. true) (λ t u r s. refl) A (omega arith) i (slice_get B j) e
opens (suc k) A B D i j le e =
    tags_imply (tags_height A) (agree D A B) (alike (opened k A B))
    (λ t u r s. shown A B (k * tags_height A) (opened k A B) (opens k A B) t u D (omega arith) s) A (omega arith) i (slice_get B j) e

-- PAIRS OF STRUCTURES

abbrev pairs_with : (i : ℕ) → (n : ℕ) → List (ℕ × ℕ)
pairs_with i zero = []
pairs_with i (suc n) = (i, n) ∷ pairs_with i n

abbrev pairs : (m n : ℕ) → List (ℕ × ℕ)
pairs zero n = []
pairs (suc m) n = pairs_with m n ++ pairs m n

pairs_with_length : (i n : ℕ) → length (pairs_with i n) ≡ n
pairs_with_length i zero = refl
pairs_with_length i (suc n) = ap suc (pairs_with_length i n)

pairs_length : (m n : ℕ) → length (pairs m n) ≡ m * n
pairs_length zero n = omega arith
pairs_length (suc m) n =
    let first = pairs_with_length m n in
    let others = pairs_length m n in
    length-append (pairs_with m n) (pairs m n) ∙ omega arith

among_left : {X : Type 0} (xs ys : List X) (x : X) → Among xs x → Among (xs ++ ys) x
among_left [] ys x a = absurd a
among_left (z ∷ xs) ys x (inl e) = inl e
among_left (z ∷ xs) ys x (inr a) = inr (among_left xs ys x a)

among_right : {X : Type 0} (xs ys : List X) (x : X) → Among ys x → Among (xs ++ ys) x
among_right [] ys x a = a
among_right (z ∷ xs) ys x a = inr (among_right xs ys x a)

last_or_before : (j n : ℕ) → j < suc n → (j ≡ n) ⊎ (j < n)
last_or_before j n le = by (nat_lt j n) refl
  where
    by : (b : Bool) → nat_lt j n ≡ b → (j ≡ n) ⊎ (j < n)
    by true e = inr (grind (arith, e))
    by false e = let r : n ≤ j = grind (arith, e) in inl (omega arith)

in_pairs_with : (i n j : ℕ) → j < n → Among (pairs_with i n) (i, j)
in_pairs_with i zero j le = absurd (omega arith)
in_pairs_with i (suc n) j le = by (last_or_before j n le) (λ r. in_pairs_with i n j r)
  where
    by : (j ≡ n) ⊎ (j < n) → (j < n → Among (pairs_with i n) (i, j)) → Among (pairs_with i (suc n)) (i, j)
    by (inl r) before = inl (ap (λ k. (i, k)) r)
    by (inr r) before = inr (before r)

in_pairs : (m n i j : ℕ) → i < m → j < n → Among (pairs m n) (i, j)
in_pairs zero n i j r s = absurd (omega arith)
in_pairs (suc m) n i j r s = by (last_or_before i m r) (λ z. in_pairs m n i j z s)
  where
    by : (i ≡ m) ⊎ (i < m) → (i < m → Among (pairs m n) (i, j)) → Among (pairs (suc m) n) (i, j)
    by (inl z) before =
        among_left (pairs_with m n) (pairs m n) (i, j) (subst (λ k. Among (pairs_with m n) (k, j)) (sym z) (in_pairs_with m n j s))
    by (inr z) before = among_right (pairs_with m n) (pairs m n) (i, j) (before z)

within_list : (A : Tags) (i : ℕ) (tag : TagTree) → slice_get A i ≡ Some tag → i < length A
within_list [] zero tag e = cc
within_list [] (suc i) tag e = cc
within_list (t ∷ ts) zero tag e = omega arith
within_list (t ∷ ts) (suc i) tag e = let r = within_list ts i tag e in omega arith

-- only structures that there are stand a test
in_range : (f : TypeTree → TypeTree → Bool) (A B : Tags) (i j : ℕ) → tags_agree f (slice_get A i) (slice_get B j) ≡ true
    → Among (pairs (length A) (length B)) (i, j)
in_range f A B i j e = by (slice_get A i) (slice_get B j) refl refl e
  where
    by : (a b : Option TagTree) → slice_get A i ≡ a → slice_get B j ≡ b → tags_agree f a b ≡ true
        → Among (pairs (length A) (length B)) (i, j)
    by None b r s e = cc
    by (Some x) None r s e = cc
    by (Some x) (Some y) r s e = in_pairs (length A) (length B) i j (within_list A i x r) (within_list B j y s)

abbrev Test : Tags → Tags → ℕ → (ℕ × ℕ) → Bool
Test A B k x = opened k A B x.0 x.1

opened_in_range : (A B : Tags) (k i j : ℕ) → opened k A B i j ≡ true → Among (pairs (length A) (length B)) (i, j)
opened_in_range A B zero i j e = in_range (λ t u. true) A B i j e
opened_in_range A B (suc k) i j e = in_range (alike (opened k A B)) A B i j e

goes_on : (A B : Tags) (k : ℕ) → StaysAt (Test A B) (pairs (length A) (length B)) k
    → StaysAt (Test A B) (pairs (length A) (length B)) (suc k)
goes_on A B k s x a e =
    tags_imply (tags_height A) (alike (opened k A B)) (alike (opened (suc k) A B))
    (λ t u le r. alike_by (opened k A B) (opened (suc k) A B) (λ i j z. s (i, j) (opened_in_range A B k i j z) z) t u r) A (omega arith)
    x.0 (slice_get B x.1) e

opened_settles : (A B : Tags) (n : ℕ) → length A * length B ≤ n → Stronger (opened (length A * length B) A B) (opened n A B)
opened_settles A B n le i j e =
    let count = pairs_length (length A) (length B) in
    settled (Test A B) (pairs (length A) (length B)) (λ k x r. opened_falls k A B x.0 x.1 r) (goes_on A B) n (omega arith) (i, j)
    (opened_in_range A B (length A * length B) i j e)
    (ap (λ k. opened k A B i j) count ∙ e)

opened_falls_to : (A B : Tags) (n k : ℕ) → Stronger (opened (k + n) A B) (opened k A B)
opened_falls_to A B zero k i j e = let z : k ≡ k + 0 = omega arith in ap (λ m. opened m A B i j) z ∙ e
opened_falls_to A B (suc n) k i j e =
    let z : suc (k + n) ≡ k + suc n = omega arith in
    opened_falls_to A B n k i j (opened_falls (k + n) A B i j (ap (λ m. opened m A B i j) z ∙ e))

-- at each depth what is opened as often as there are pairs is opened
at_every_depth : (A B : Tags) (d : ℕ) → Stronger (opened (length A * length B) A B) (opened d A B)
at_every_depth A B d i j e =
    opened_falls_to A B (length A * length B) d i j
    (opened_settles A B (d + length A * length B) (omega arith) i j e)

pub agreement_is_decided : AgreementIsDecided
agreement_is_decided A B t u e depth =
    deep_agrees depth A B t u
    (alike_by (opened (length A * length B) A B) (opened depth A B) (at_every_depth A B depth) t u
    (shown A B (length A * length B * tags_height A) (opened (length A * length B) A B) (opens (length A * length B) A B) t u
    (enough A B t) (omega arith) e))
