-- Tasks are taken from the end; what is taken leaves the others covered.
use Rattle.std.proofs.Common.{◌≡◌, ◌≤◌, ◌⊎◌, inl, inr, ℕ, ◌+◌, Bool, true, false, IsTrue, nat_eq, is_some, if◌then◌else◌, List, [], ◌∷◌, ◌++◌, slice_get, Option, Some, append_assoc, eq-eqb, true≢false, refl, sym, ap, subst, ◌∙◌, arith}
use Rattle.std.specs.Map.{lookup}
use Rattle.std.proofs.lemmas.Bool.{eqb-true}
use Rattle.p9_lang.specs.Types.{Tagged, Tags}
use Rattle.p9_lang.specs.Layout.{layout, body_extent}
use Rattle.p9_lang.specs.TagRules.{NoneContainsItself}
use Rattle.p9_lang.proofs.Layouts.{layout_is_that_of_members}
use Rattle.p9_types.specs.declared.capped.Capped.{Capped}
use Rattle.p9_types.specs.declared.reaching.Task.{Task}
use Rattle.p9_types.specs.declared.reaching.Task.TheVariants.{Visit, Finish}
use Rattle.p9_types.specs.Capping.{Alike}
use Rattle.p9_types.specs.Told.{Table, told_option, told_entry, is_known, known_extent, IsSound}
use Rattle.p9_types.specs.Reaching.{inner_tags}
use Rattle.p9_types.specs.Tasks.{AreAll, total_of, number_of, visits, Stands, Covered, AreCovered, Awaits, weight, work, task_weight, Advances}
use Rattle.p9_types.proofs.AlikeExtents.{alike_then, alike_same, bodies_alike}
use Rattle.p9_types.proofs.Weights.{all_along, tag_all_within, weight_is}

stands_last : (ts : List Task) (t : Task) (i : ℕ) → Stands (ts ++ t ∷ []) i → (number_of t ≡ i) ⊎ Stands ts i
stands_last [] t i (inl e) = inl e
stands_last [] t i (inr s) = inr s
stands_last (u ∷ ts) t i (inl e) = inr (inl e)
stands_last (u ∷ ts) t i (inr s) = by (stands_last ts t i s)
  where
    by : (number_of t ≡ i) ⊎ Stands ts i → (number_of t ≡ i) ⊎ Stands (u ∷ ts) i
    by (inl e) = inl e
    by (inr r) = inr (inr r)

stands_front : (ts more : List Task) (i : ℕ) → Stands ts i → Stands (ts ++ more) i
stands_front [] more i s = absurd s
stands_front (u ∷ ts) more i (inl e) = inl e
stands_front (u ∷ ts) more i (inr s) = inr (stands_front ts more i s)

stands_back : (ts more : List Task) (i : ℕ) → Stands more i → Stands (ts ++ more) i
stands_back [] more i s = s
stands_back (u ∷ ts) more i s = inr (stands_back ts more i s)

-- WITHOUT THE LAST, whose structure is known

pub still_covered : (known later : Table) (ts : List Task) (t : Task) → ((i : ℕ) → IsTrue (is_known known i) → IsTrue (is_known later i))
    → IsTrue (is_known later (number_of t)) → (i : ℕ) → Covered known (ts ++ t ∷ []) i → Covered later ts i
still_covered known later ts t h k i (inl e) = inl (h i e)
still_covered known later ts t h k i (inr s) = by (stands_last ts t i s)
  where
    by : (number_of t ≡ i) ⊎ Stands ts i → Covered later ts i
    by (inl e) = inl (subst (λ j. IsTrue (is_known later j)) e k)
    by (inr r) = inr r

awaits_without : (tags : Tags) (known later : Table) (ts : List Task) (t : Task) → ((i : ℕ) → IsTrue (is_known known i) → IsTrue (is_known later i))
    → IsTrue (is_known later (number_of t)) → Awaits tags known (ts ++ t ∷ []) → Awaits tags later ts
awaits_without tags known later [] t h k w = tt
awaits_without tags known later (Visit j ∷ ts) t h k w = (tt, awaits_without tags known later ts t h k w.1)
awaits_without tags known later (Finish j ∷ ts) t h k w = (
  all_along (Covered known (ts ++ t ∷ [])) (Covered later ts) (still_covered known later ts t h k) (inner_tags (slice_get tags j)) w.0,
  awaits_without tags known later ts t h k w.1,
)

-- the structures in one that is taken are known
pub inner_known : (tags : Tags) (known : Table) (ts : List Task) (j : ℕ) → Awaits tags known (ts ++ Finish j ∷ [])
    → AreAll (λ i. IsTrue (is_known known i)) (inner_tags (slice_get tags j))
inner_known tags known [] j w =
    all_along (Covered known []) (λ i. IsTrue (is_known known i)) bare (inner_tags (slice_get tags j)) w.0
  where
    bare : (i : ℕ) → Covered known [] i → IsTrue (is_known known i)
    bare i (inl e) = e
    bare i (inr s) = absurd s
inner_known tags known (u ∷ ts) j w = inner_known tags known ts j w.1

-- WITH OTHERS IN PLACE OF THE LAST

covered_by_more : (known : Table) (ts more : List Task) (t : Task) → Stands more (number_of t) → (i : ℕ) → Covered known (ts ++ t ∷ []) i
    → Covered known (ts ++ more) i
covered_by_more known ts more t s i (inl e) = inl e
covered_by_more known ts more t s i (inr r) = by (stands_last ts t i r)
  where
    by : (number_of t ≡ i) ⊎ Stands ts i → Covered known (ts ++ more) i
    by (inl e) = inr (stands_back ts more i (subst (Stands more) e s))
    by (inr r) = inr (stands_front ts more i r)

awaits_more : (tags : Tags) (known : Table) (ts more : List Task) (t : Task) → Stands more (number_of t) → Awaits tags known more
    → Awaits tags known (ts ++ t ∷ []) → Awaits tags known (ts ++ more)
awaits_more tags known [] more t s a w = a
awaits_more tags known (Visit j ∷ ts) more t s a w = (tt, awaits_more tags known ts more t s a w.1)
awaits_more tags known (Finish j ∷ ts) more t s a w = (
  all_along (Covered known (ts ++ t ∷ [])) (Covered known (ts ++ more)) (covered_by_more known ts more t s) (inner_tags (slice_get tags j)) w.0,
  awaits_more tags known ts more t s a w.1,
)

visits_await : (tags : Tags) (known : Table) (is : List ℕ) → Awaits tags known (visits is)
visits_await tags known [] = tt
visits_await tags known (i ∷ is) = (tt, visits_await tags known is)

visits_cover : (known : Table) (is : List ℕ) → AreCovered known (visits is) is
visits_cover known [] = tt
visits_cover known (i ∷ is) =
    (inr (inl refl), all_along (Covered known (visits is)) (Covered known (Visit i ∷ visits is)) next is (visits_cover known is))
  where
    next : (j : ℕ) → Covered known (visits is) j → Covered known (Visit i ∷ visits is) j
    next j (inl e) = inl e
    next j (inr s) = inr (inr s)

-- WORK

work_append : (tags : Tags) (ts more : List Task) → work tags (ts ++ more) ≡ work tags ts + work tags more
work_append tags [] more = omega arith
work_append tags (t ∷ ts) more = let r = work_append tags ts more in omega arith

work_visits : (tags : Tags) (is : List ℕ) → work tags (visits is) ≡ total_of (weight tags) is
work_visits tags [] = refl
work_visits tags (i ∷ is) = let r = work_visits tags is in omega arith

some_work : (tags : Tags) → NoneContainsItself tags → (t : Task) → 1 ≤ task_weight tags t
some_work tags ends (Visit i) = let e = weight_is tags ends i in omega arith
some_work tags ends (Finish i) = omega arith

-- STEPS

pub without_last : (tags : Tags) (known later : Table) (ts : List Task) (t : Task) → NoneContainsItself tags → IsSound tags later
    → ((i : ℕ) → IsTrue (is_known known i) → IsTrue (is_known later i)) → IsTrue (is_known later (number_of t))
    → Awaits tags known (ts ++ t ∷ []) → Advances tags known (ts ++ t ∷ []) later ts
without_last tags known later ts t ends sound h k w = record {
  sound = sound;
  awaits = awaits_without tags known later ts t h k w;
  keeps = still_covered known later ts t h k;
  less = let e = work_append tags ts (t ∷ []) in let s = some_work tags ends t in omega arith;
}

pub entered : (tags : Tags) (known : Table) (ts later : List Task) (j : ℕ) → NoneContainsItself tags → IsSound tags known
    → Awaits tags known (ts ++ Visit j ∷ []) → later ≡ ts ++ (Finish j ∷ visits (inner_tags (slice_get tags j)))
    → Advances tags known (ts ++ Visit j ∷ []) known later
entered tags known ts later j ends sound w e =
    subst (Advances tags known (ts ++ Visit j ∷ []) known) (sym e) (record {
      sound = sound;
      awaits = awaits_more tags known ts (Finish j ∷ visits (inner_tags (slice_get tags j))) (Visit j) (inl refl)
          (visits_cover known (inner_tags (slice_get tags j)), visits_await tags known (inner_tags (slice_get tags j))) w;
      keeps = covered_by_more known ts (Finish j ∷ visits (inner_tags (slice_get tags j))) (Visit j) (inl refl);
      less =
          let a = work_append tags ts (Visit j ∷ []) in
          let b = work_append tags ts (Finish j ∷ visits (inner_tags (slice_get tags j))) in
          let v = work_visits tags (inner_tags (slice_get tags j)) in
          let s = weight_is tags ends j in
          omega arith;
    })

-- WHAT IS LEARNT

pub learnt : (known later : Table) (j : ℕ) (o : Option Capped)
    → ((q : ℕ) → lookup (nat_eq q) later ≡ (if nat_eq j q then Some o else lookup (nat_eq q) known)) → IsTrue (is_known later j)
learnt known later j o h =
    ap is_some (h j ∙ ap (λ b. if b then Some o else lookup (nat_eq j) known) (eq-eqb j j refl))

pub learnt_keeps : (known later : Table) (j : ℕ) (o : Option Capped)
    → ((q : ℕ) → lookup (nat_eq q) later ≡ (if nat_eq j q then Some o else lookup (nat_eq q) known))
    → (i : ℕ) → IsTrue (is_known known i) → IsTrue (is_known later i)
learnt_keeps known later j o h i k = by (nat_eq j i) (h i)
  where
    by : (b : Bool) → lookup (nat_eq i) later ≡ (if b then Some o else lookup (nat_eq i) known) → IsTrue (is_known later i)
    by true e = ap is_some e
    by false e = ap is_some e ∙ k

pub learnt_sound : (tags : Tags) (known later : Table) (j : ℕ) (o : Option Capped) → NoneContainsItself tags → IsSound tags known
    → AreAll (λ i. IsTrue (is_known known i)) (inner_tags (slice_get tags j))
    → Alike (told_option o) (body_extent (known_extent known) (slice_get tags j))
    → ((q : ℕ) → lookup (nat_eq q) later ≡ (if nat_eq j q then Some o else lookup (nat_eq q) known)) → IsSound tags later
learnt_sound tags known later j o ends sound inner a h i k = by (nat_eq j i) refl (h i)
  where
    whole : Alike (told_option o) (layout tags (Tagged j))
    whole =
        alike_then (told_option o) (body_extent (known_extent known) (slice_get tags j)) (layout tags (Tagged j)) a
        (alike_then (body_extent (known_extent known) (slice_get tags j)) (body_extent (λ n. layout tags (Tagged n)) (slice_get tags j)) (layout tags (Tagged j))
        (bodies_alike (known_extent known) (λ n. layout tags (Tagged n)) (λ n. IsTrue (is_known known n)) sound (slice_get tags j)
        (tag_all_within (λ n. IsTrue (is_known known n)) (slice_get tags j) inner))
        (alike_same _ _ (sym (layout_is_that_of_members tags j ends))))

    by : (b : Bool) → nat_eq j i ≡ b → lookup (nat_eq i) later ≡ (if b then Some o else lookup (nat_eq i) known)
        → Alike (known_extent later i) (layout tags (Tagged i))
    by true f e =
        subst (λ p. Alike (told_entry p) (layout tags (Tagged i))) (sym e)
        (subst (λ n. Alike (told_option o) (layout tags (Tagged n))) (eqb-true j i f) whole)
    by false f e =
        subst (λ p. Alike (told_entry p) (layout tags (Tagged i))) (sym e) (sound i (sym (ap is_some e) ∙ k))

-- visits that are pushed in parts

visits_append : (is js : List ℕ) → visits (is ++ js) ≡ visits is ++ visits js
visits_append [] js = refl
visits_append (i ∷ is) js = ap (λ ts. Visit i ∷ ts) (visits_append is js)

pub visits_step : (tasks later : List Task) (is js : List ℕ) → later ≡ tasks ++ visits is → later ++ visits js ≡ tasks ++ visits (is ++ js)
visits_step tasks later is js e =
    ap (λ ts. ts ++ visits js) e ∙ append_assoc tasks (visits is) (visits js) ∙ ap (λ ts. tasks ++ ts) (sym (visits_append is js))

-- the first tasks, and none

pub first_sound : (tags : Tags) (known : Table) → known ≡ [] → IsSound tags known
first_sound tags known e i k = absurd (true≢false (sym k ∙ ap (λ t. is_known t i) e))

pub first_awaits : (tags : Tags) (known : Table) (none tasks : List Task) (is : List ℕ) → none ≡ [] → tasks ≡ none ++ visits is → Awaits tags known tasks
first_awaits tags known none tasks is e f = subst (Awaits tags known) (sym (f ∙ ap (λ ts. ts ++ visits is) e)) (visits_await tags known is)

pub first_covered : (known : Table) (none tasks : List Task) (is : List ℕ) → none ≡ [] → tasks ≡ none ++ visits is → AreCovered known tasks is
first_covered known none tasks is e f = subst (λ ts. AreCovered known ts is) (sym (f ∙ ap (λ ts. ts ++ visits is) e)) (visits_cover known is)

pub covered_last : (known : Table) (tasks : List Task) (is : List ℕ) → tasks ≡ [] → AreCovered known tasks is → AreAll (λ i. IsTrue (is_known known i)) is
covered_last known tasks is e h = all_along (Covered known tasks) (λ i. IsTrue (is_known known i)) bare is h
  where
    bare : (i : ℕ) → Covered known tasks i → IsTrue (is_known known i)
    bare i (inl k) = k
    bare i (inr s) = absurd (subst (λ ts. Stands ts i) e s)
