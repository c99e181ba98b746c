-- The live range of the small program that stores 1 in its automatic and reads it.
use Rattle.std.proofs.Common.{◌≡◌, ◌≤◌, ◌<◌, ◌⊎◌, ◌↔◌, inl, inr, ℕ, zero, suc, ◌+◌, ◌&&◌, ◌||◌, ◌==◌, nat_lt, Bool, true, false, List, [], ◌∷◌, length, Contains, All, AllPairs, refl, sym, ap, ◌∙◌, subst, arith}
use Rattle.std.proofs.lemmas.Bool.{and_parts, or_cases, true≢false, ltb-true, eqb-true}
use Rattle.std.proofs.lemmas.List.Elements.{All-from_recursion}
use Rattle.std.proofs.lemmas.List.Kept.{AllPairs-cons}
use Rattle.p9_abs.specs.Automatics.{flows, reads_at, writes_at, fills_at, IsReadAlong, IsLive}
use Rattle.p9_abs.specs.Regions.{IsPoint, Leads, JoinedAlong, AreJoined, IsRegion}
use Rattle.p9_abs.specs.Examples.{at_depth, stored_and_read, region, LiveWhereRead, RegionOfStoreAndRead}

-- it is read at 2 alone, and written at 1 alone
read-at : (i : ℕ) → reads_at stored_and_read 0 i ≡ true → i ≡ 2
read-at zero h = absurd (true≢false (sym h))
read-at (suc zero) h = absurd (true≢false (sym h))
read-at (suc (suc zero)) h = refl
read-at (suc (suc (suc zero))) h = absurd (true≢false (sym h))
read-at (suc (suc (suc (suc i)))) h = absurd (true≢false (sym h))

written-at : (i : ℕ) → writes_at stored_and_read 0 i ≡ true → i ≡ 1
written-at zero h = absurd (true≢false (sym h))
written-at (suc zero) h = refl
written-at (suc (suc zero)) h = absurd (true≢false (sym h))
written-at (suc (suc (suc zero))) h = absurd (true≢false (sym h))
written-at (suc (suc (suc (suc i)))) h = absurd (true≢false (sym h))

-- control goes on from 0, 1 and 2 to the next
next-is : (n j : ℕ) → (j == n || false) ≡ true → j ≡ n
next-is n j h = first (or_cases (j == n) false h)
  where
    first : ((j == n) ≡ true) ⊎ (false ≡ true) → j ≡ n
    first (inl e) = eqb-true j n e
    first (inr e) = absurd (true≢false (sym e))

flows-on : (i j : ℕ) → flows stored_and_read i j ≡ true → j ≡ i + 1
flows-on zero j h = next-is 1 j ((and_parts (nat_lt j 4) _ h).1)
flows-on (suc zero) j h = next-is 2 j ((and_parts (nat_lt j 4) _ h).1)
flows-on (suc (suc zero)) j h = next-is 3 j ((and_parts (nat_lt j 4) _ h).1)
flows-on (suc (suc (suc zero))) j h = absurd (true≢false (sym ((and_parts (nat_lt j 4) _ h).1)))
flows-on (suc (suc (suc (suc i)))) j h = absurd (true≢false (sym ((and_parts (nat_lt j 4) _ h).1)))

-- past 2 nothing is read
not-live-after : (i : ℕ) (way : List ℕ) → 3 ≤ i → IsReadAlong (at_depth 0) 0 i way → ⊥
not-live-after i [] l h = let e = read-at i h in omega arith
not-live-after i (j ∷ way) l h = let e = flows-on i j h.1 in not-live-after j way (omega arith) h.2

live-at-2 : (i : ℕ) (way : List ℕ) → IsReadAlong (at_depth 0) 0 i way → i ≡ 2
live-at-2 i [] h = read-at i h
live-at-2 zero (j ∷ []) h =
    let e = flows-on zero j h.1 in
    let r = read-at j h.2 in
    absurd (omega arith)
live-at-2 zero (j ∷ k ∷ way) h =
    let e : j ≡ 1 = flows-on zero j h.1 in
    absurd (true≢false (subst (λ a. fills_at (at_depth 0) 0 a ≡ false) e h.2.0))
live-at-2 (suc zero) (j ∷ way) h = absurd (true≢false h.0)
live-at-2 (suc (suc zero)) (j ∷ way) h = refl
live-at-2 (suc (suc (suc i))) (j ∷ way) h = absurd (not-live-after (suc (suc (suc i))) (j ∷ way) (omega arith) h)

pub live_where_read : LiveWhereRead
live_where_read i = (λ h. live-at-2 i h.0 h.1, λ e. subst (λ a. IsLive (at_depth 0) 0 a) (sym e) ([], refl))

-- Its region

abbrev OneOrTwo : ℕ → Type 0
OneOrTwo i = (i ≡ 1) ⊎ (i ≡ 2)

point-is : (i : ℕ) → IsPoint (at_depth 0) 0 i → OneOrTwo i
point-is i (inl h) = inr (live-at-2 i h.0 h.1)
point-is i (inr h) = inl (written-at i h)

joined-is : (i k : ℕ) (way : List ℕ) → OneOrTwo i → JoinedAlong (at_depth 0) 0 i way k → OneOrTwo k
joined-is i k [] o h = subst OneOrTwo h o
joined-is i k (j ∷ way) o (inl leads, h) = joined-is j k way (inr (live-at-2 j leads.3.0 leads.3.1)) h
joined-is i k (j ∷ way) o (inr leads, h) = joined-is j k way (point-is j leads.0) h

has-it : (i : ℕ) → OneOrTwo i → Contains region.points i
has-it i (inl e) = (0, omega arith, sym e)
has-it i (inr e) = (1, omega arith, sym e)

is-one : (i : ℕ) → Contains region.points i → OneOrTwo i
is-one i (zero, l, e) = inl (sym e)
is-one i (suc zero, l, e) = inr (sym e)
is-one i (suc (suc k), l, e) = absurd (omega arith)

live-2 : IsLive (at_depth 0) 0 2
live-2 = ([], refl)

one-leads : Leads (at_depth 0) 0 1 2
one-leads = (inr refl, refl, refl, live-2)

joined : (i j : ℕ) → OneOrTwo i → OneOrTwo j → AreJoined (at_depth 0) 0 i j
joined i j (inl e) (inl f) = ([], e ∙ sym f)
joined i j (inr e) (inr f) = ([], e ∙ sym f)
joined i j (inl e) (inr f) =
    subst (λ a. AreJoined (at_depth 0) 0 a j) (sym e) (subst (λ b. AreJoined (at_depth 0) 0 1 b) (sym f) (2 ∷ [], (inl one-leads, refl)))
joined i j (inr e) (inl f) =
    subst (λ a. AreJoined (at_depth 0) 0 a j) (sym e) (subst (λ b. AreJoined (at_depth 0) 0 2 b) (sym f) (1 ∷ [], (inr one-leads, refl)))

pub region_of : RegionOfStoreAndRead
region_of = (
  refl,
  record {
    candidate = refl;
    some = omega arith;
    rising = AllPairs-cons (λ i j. i < j) 1 (2 ∷ []) (All-from_recursion (λ j. 1 < j) (2 ∷ []) (omega arith, tt)) (AllPairs-cons (λ i j. i < j) 2 [] (λ k d l. absurd (omega arith)) (λ i j d l m. absurd (omega arith)));
    points = All-from_recursion (IsPoint (at_depth 0) 0) (1 ∷ 2 ∷ []) (inr refl, (inl live-2, tt));
    joined = λ i j a b. joined i j (is-one i a) (is-one j b);
    whole = λ i j a w. has-it j (joined-is i j w.0 (is-one i a) w.1);
  },
)
