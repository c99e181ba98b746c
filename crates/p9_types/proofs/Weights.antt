-- How many tasks a structure leads to: more than those in it together, since none contains itself.
use Rattle.std.proofs.Common.{◌≡◌, ◌≤◌, ◌<◌, ◌⊎◌, inl, inr, ℕ, zero, suc, ◌+◌, List, [], ◌∷◌, ◌++◌, length, slice_get, Option, Some, None, refl, sym, ap, ◌∙◌, arith}
use Rattle.std.proofs.lemmas.Bool.{cases_lt}
use Rattle.p9_lang.specs.Types.{TypeTree, Array, Tagged, MemberTree, TagTree, Tags}
use Rattle.p9_lang.specs.TagRules.{Within, AreWithin, BodyWithin, TagWithin, Ends, NoneContainsItself}
use Rattle.p9_types.specs.Reaching.{inner_of, inner_of_members, inner_of_body, inner_tags}
use Rattle.p9_types.specs.Tasks.{AreAll, total_of, weight_within, weight}

-- what holds of the structures within, as a list

pub all_append : (P : ℕ → Type 0) (is js : List ℕ) → AreAll P is → AreAll P js → AreAll P (is ++ js)
all_append P [] js h k = k
all_append P (i ∷ is) js h k = (h.0, all_append P is js h.1 k)

pub all_front : (P : ℕ → Type 0) (is js : List ℕ) → AreAll P (is ++ js) → AreAll P is
all_front P [] js h = tt
all_front P (i ∷ is) js h = (h.0, all_front P is js h.1)

pub all_back : (P : ℕ → Type 0) (is js : List ℕ) → AreAll P (is ++ js) → AreAll P js
all_back P [] js h = h
all_back P (i ∷ is) js h = all_back P is js h.1

pub all_along : (P Q : ℕ → Type 0) → ((i : ℕ) → P i → Q i) → (is : List ℕ) → AreAll P is → AreAll Q is
all_along P Q f [] h = tt
all_along P Q f (i ∷ is) h = (f i h.0, all_along P Q f is h.1)

within_all : (P : ℕ → Type 0) (t : TypeTree) → Within P t → AreAll P (inner_of t)
within_all P (Array t n) w = within_all P t w
within_all P (Tagged i) w = (w, tt)
within_all P _ w = tt

pub all_within : (P : ℕ → Type 0) (t : TypeTree) → AreAll P (inner_of t) → Within P t
all_within P (Array t n) w = all_within P t w
all_within P (Tagged i) w = w.0
all_within P _ w = tt

members_within_all : (P : ℕ → Type 0) (ms : List MemberTree) → AreWithin P ms → AreAll P (inner_of_members ms)
members_within_all P [] w = tt
members_within_all P (m ∷ ms) w = all_append P (inner_of m.type) (inner_of_members ms) (within_all P m.type w.0) (members_within_all P ms w.1)

members_all_within : (P : ℕ → Type 0) (ms : List MemberTree) → AreAll P (inner_of_members ms) → AreWithin P ms
members_all_within P [] w = tt
members_all_within P (m ∷ ms) w = (
  all_within P m.type (all_front P (inner_of m.type) (inner_of_members ms) w),
  members_all_within P ms (all_back P (inner_of m.type) (inner_of_members ms) w),
)

tag_within_all : (P : ℕ → Type 0) (o : Option TagTree) → TagWithin P o → AreAll P (inner_tags o)
tag_within_all P None w = tt
tag_within_all P (Some tag) w = by tag.members w
  where
    by : (o : Option (List MemberTree)) → BodyWithin P o → AreAll P (inner_of_body o)
    by None w = tt
    by (Some ms) w = members_within_all P ms w

pub tag_all_within : (P : ℕ → Type 0) (o : Option TagTree) → AreAll P (inner_tags o) → TagWithin P o
tag_all_within P None w = tt
tag_all_within P (Some tag) w = by tag.members w
  where
    by : (o : Option (List MemberTree)) → AreAll P (inner_of_body o) → BodyWithin P o
    by None w = tt
    by (Some ms) w = members_all_within P ms w

-- weights, to any depth at which chains end

total_same : (f g : ℕ → ℕ) (is : List ℕ) → AreAll (λ i. f i ≡ g i) is → total_of f is ≡ total_of g is
total_same f g [] h = refl
total_same f g (i ∷ is) h = let e = h.0 in let r = total_same f g is h.1 in omega arith

weights_same : (n m : ℕ) (tags : Tags) → n ≤ m → (i : ℕ) → Ends n tags i → weight_within n tags i ≡ weight_within m tags i
weights_same zero m tags le i w = absurd w
weights_same (suc n) zero tags le i w = absurd (omega arith)
weights_same (suc n) (suc m) tags le i w =
    ap (λ k. 2 + k) (total_same (weight_within n tags) (weight_within m tags) (inner_tags (slice_get tags i))
    (all_along (Ends n tags) (λ j. weight_within n tags j ≡ weight_within m tags j) (weights_same n m tags (omega arith)) (inner_tags (slice_get tags i))
    (tag_within_all (Ends n tags) (slice_get tags i) w)))

pub past_the_end : {X : Type 0} (xs : List X) (i : ℕ) → length xs ≤ i → slice_get xs i ≡ None
past_the_end [] zero h = refl
past_the_end [] (suc i) h = refl
past_the_end (t ∷ tags) zero h = absurd (omega arith)
past_the_end (t ∷ tags) (suc i) h = past_the_end tags i (omega arith)

pub weight_is : (tags : Tags) → NoneContainsItself tags → (i : ℕ) → weight tags i ≡ 2 + total_of (weight tags) (inner_tags (slice_get tags i))
unfolding weight
weight_is tags ends i = ap (λ k. 2 + k) (by (cases_lt i (length tags)))
  where
    deep : (n : ℕ) → n ≡ length tags → Ends n tags i
        → AreAll (λ j. weight_within (length tags) tags j ≡ weight_within (suc (length tags)) tags j) (inner_tags (slice_get tags i))
    deep zero e w = absurd w
    deep (suc n) e w =
        all_along (Ends n tags) (λ j. weight_within (length tags) tags j ≡ weight_within (suc (length tags)) tags j)
        (λ j v. sym (weights_same n (length tags) tags (omega arith) j v) ∙ weights_same n (suc (length tags)) tags (omega arith) j v)
        (inner_tags (slice_get tags i)) (tag_within_all (Ends n tags) (slice_get tags i) w)

    by : (i < length tags) ⊎ (length tags ≤ i)
        → total_of (weight_within (length tags) tags) (inner_tags (slice_get tags i)) ≡ total_of (λ j. weight_within (suc (length tags)) tags j) (inner_tags (slice_get tags i))
    by (inl lt) =
        total_same (weight_within (length tags) tags) (λ j. weight_within (suc (length tags)) tags j) (inner_tags (slice_get tags i))
        (deep (length tags) refl (ends i lt))
    by (inr le) =
        ap (λ o. total_of (weight_within (length tags) tags) (inner_tags o)) (past_the_end tags i le)
        ∙ sym (ap (λ o. total_of (λ j. weight_within (suc (length tags)) tags j) (inner_tags o)) (past_the_end tags i le))
