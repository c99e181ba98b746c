-- One more greedy choice.
use Rattle.std.proofs.Common.{ℕ, zero, suc, ◌+◌, ◌-◌, ◌^◌, ◌==◌, ◌≡◌, ◌≢◌, ◌⊎◌, inl, inr, ◌≤◌, ◌<◌, Bool, true, false, Option, Some, None, refl, sym, ap, ◌∙◌, subst, arith, List, [], ◌∷◌, length, slice_get, slice_index, slice_set}
use Rattle.std.specs.List.{Contains, All}
use Rattle.std.specs.Option.{IfSome}
use Rattle.std.proofs.lemmas.Option.{slice_get_within}
use Rattle.std.proofs.lemmas.List.Elements.{All-set}
use Rattle.p9_abs.specs.declared.instructions.AFunction.{AFunction}
use Rattle.p9_abs.specs.Regions.{AreInConflict, IsAhead, IsHome, AreSettled, cost_of}
use Rattle.std.specs.Int.{bit_at}
use Rattle.std.proofs.lemmas.Bool.Decides.{eqb_tells, nat_tests}
use Rattle.p9_abs.specs.declared.regions.Region.{Region}
use Rattle.p9_region.specs.Masks.{AreMarked, IsChosen}
use Rattle.p9_region.specs.Greedy.{points_in, points_of, home_in, home_of, Meet, IsGreedy}

abbrev Tells : ℕ → ℕ → Type 0
Tells x y = (((x == y) ≡ true) × (x ≡ y)) ⊎ (((x == y) ≡ false) × (x ≢ y))

home-set-same : (homes : List (Option ℕ)) (r : ℕ) (o : Option ℕ) → r < length homes → home_of (slice_set homes r o) r ≡ o
home-set-same [] r o l = absurd (omega (arith, l))
home-set-same (x ∷ xs) zero o l = refl
home-set-same (x ∷ xs) (suc r) o l = home-set-same xs r o (omega (arith, l))

home-set-other : (homes : List (Option ℕ)) (r s : ℕ) (o : Option ℕ) → s ≢ r → home_of (slice_set homes r o) s ≡ home_of homes s
home-set-other [] r s o ne = refl
home-set-other (x ∷ xs) zero zero o ne = absurd (ne refl)
home-set-other (x ∷ xs) zero (suc s) o ne = refl
home-set-other (x ∷ xs) (suc r) zero o ne = refl
home-set-other (x ∷ xs) (suc r) (suc s) o ne = home-set-other xs r s o (λ e. ne (ap (λ z. suc z) e))

module _ (rs : List Region) (gaps order : List ℕ) (asked : Bool) (homes : List (Option ℕ)) (used after : List ℕ) (k : ℕ) (o : Option ℕ)
    (distinct : (m p : ℕ) → m < p → p < length order → slice_index order m ≢ slice_index order p)
    (within : k < length order) (room : slice_index order k < length homes) (g : IsGreedy rs gaps order homes used k) (worth : slice_index gaps k < 2 ^ 64 - 1 → asked ≡ true) (c : IsChosen asked (points_of rs (slice_index order k)) used o after) where
  next : List (Option ℕ)
  next = slice_set homes (slice_index order k) o

  before : (m : ℕ) → m < k → home_of (slice_set homes (slice_index order k) o) (slice_index order m) ≡ home_of homes (slice_index order m)
  before m l = home-set-other homes (slice_index order k) (slice_index order m) o (distinct m k l within)

  now : home_of (slice_set homes (slice_index order k) o) (slice_index order k) ≡ o
  now = home-set-same homes (slice_index order k) o room

  abbrev Next : Type 0
  Next = IsGreedy rs gaps order (slice_set homes (slice_index order k) o) after (k + 1)

  none-next : o ≡ None → Next
  none-next e = record {
    seen = λ i b l h. let w = g.seen i b l (ap (λ z. bit_at (slice_index z i) b) (sym (c.none e).0) ∙ h) in (w.0, omega (arith, w.1), before w.0 w.1 ∙ w.2, w.3);
    shown = λ m i b l h q. shown m i b l h q (eqb_tells m k);
    range = λ m h l q. range m h l q (eqb_tells m k);
    apart = λ m p h l lp meets q. apart m p h l lp meets q (eqb_tells p k);
    tight = λ m b l w q lb. tight m b l w q lb (eqb_tells m k);
  }
    where
      shown : (m i b : ℕ) → m < k + 1 → home_of (slice_set homes (slice_index order k) o) (slice_index order m) ≡ Some (9 + b) → Contains (points_of rs (slice_index order m)) i → Tells m k → bit_at (slice_index after i) b ≡ 1
      shown m i b l h q (inl t) = let d : Some (9 + b) ≡ None = sym (subst (λ z. home_of (slice_set homes (slice_index order k) o) (slice_index order z) ≡ Some (9 + b)) t.1 h) ∙ (now ∙ e) in cc
      shown m i b l h q (inr t) = ap (λ z. bit_at (slice_index z i) b) (c.none e).0 ∙ g.shown m i b (omega (arith, l, t.1)) (sym (before m (omega (arith, l, t.1))) ∙ h) q

      range : (m h : ℕ) → m < k + 1 → home_of (slice_set homes (slice_index order k) o) (slice_index order m) ≡ Some h → Tells m k → (9 ≤ h) × (h ≤ 20)
      range m h l q (inl t) = let d : Some h ≡ None = sym (subst (λ z. home_of (slice_set homes (slice_index order k) o) (slice_index order z) ≡ Some h) t.1 q) ∙ (now ∙ e) in absurd (let x : ⊥ = cc in x)
      range m h l q (inr t) = g.range m h (omega (arith, l, t.1)) (sym (before m (omega (arith, l, t.1))) ∙ q)

      apart : (m p h : ℕ) → m < p → p < k + 1 → Meet rs (slice_index order m) (slice_index order p) → home_of (slice_set homes (slice_index order k) o) (slice_index order m) ≡ Some h → Tells p k → home_of (slice_set homes (slice_index order k) o) (slice_index order p) ≢ Some h
      apart m p h l lp meets q (inl t) = λ z. let d : Some h ≡ None = sym (subst (λ y. home_of (slice_set homes (slice_index order k) o) (slice_index order y) ≡ Some h) t.1 z) ∙ (now ∙ e) in let x : ⊥ = cc in x
      apart m p h l lp meets q (inr t) = λ z. g.apart m p h l (omega (arith, lp, t.1)) meets (sym (before m (omega (arith, l, lp, t.1))) ∙ q) (sym (before p (omega (arith, lp, t.1))) ∙ z)

      tight : (m b : ℕ) → m < k + 1 → slice_index gaps m < 2 ^ 64 - 1 → home_of (slice_set homes (slice_index order k) o) (slice_index order m) ≡ None → b < 12 → Tells m k →
          (p : ℕ) × (p < m) × Meet rs (slice_index order p) (slice_index order m) × (home_of (slice_set homes (slice_index order k) o) (slice_index order p) ≡ Some (9 + b))
      tight m b l asks q lb (inl t) =
          let w = (c.none e).1 (worth (subst (λ z. slice_index gaps z < 2 ^ 64 - 1) t.1 asks)) b lb in
          let s = g.seen w.0 b lb w.2 in
          (s.0, omega (arith, s.1, t.1), (w.0, s.3, subst (λ z. Contains (points_of rs (slice_index order z)) w.0) (sym t.1) w.1), before s.0 s.1 ∙ s.2)
      tight m b l asks q lb (inr t) =
          let s = g.tight m b (omega (arith, l, t.1)) asks (sym (before m (omega (arith, l, t.1))) ∙ q) lb in
          (s.0, s.1, s.2, before s.0 (omega (arith, s.1, l, t.1)) ∙ s.3)

  some-next : (d : ℕ) → o ≡ Some d → Next
  some-next d e = record {
    seen = λ i b l h. seen i b l (s.3.from i b (omega (arith, l)) h);
    shown = λ m i b l h q. shown m i b l h q (eqb_tells m k);
    range = λ m h l q. range m h l q (eqb_tells m k);
    apart = λ m p h l lp meets q. apart m p h l lp meets q (eqb_tells p k);
    tight = λ m b l w q lb. tight m b l w q lb (eqb_tells m k);
  }
    where
      s : (9 ≤ d) × (d ≤ 20) × ((i : ℕ) → Contains (points_of rs (slice_index order k)) i → bit_at (slice_index used i) (d - 9) ≢ 1) × AreMarked (points_of rs (slice_index order k)) used (d - 9) after
      s = c.some d e

      mine : home_of (slice_set homes (slice_index order k) o) (slice_index order k) ≡ Some d
      mine = now ∙ e

      at-k : (m h : ℕ) → m ≡ k → home_of (slice_set homes (slice_index order k) o) (slice_index order m) ≡ Some h → d ≡ h
      at-k m h t q = let both : Some d ≡ Some h = sym mine ∙ subst (λ z. home_of (slice_set homes (slice_index order k) o) (slice_index order z) ≡ Some h) t q in cc

      seen : (i b : ℕ) → b < 12 → (bit_at (slice_index used i) b ≡ 1) ⊎ ((b ≡ d - 9) × Contains (points_of rs (slice_index order k)) i) →
          (m : ℕ) × (m < k + 1) × (home_of (slice_set homes (slice_index order k) o) (slice_index order m) ≡ Some (9 + b)) × Contains (points_of rs (slice_index order m)) i
      seen i b l (inl h) = let w = g.seen i b l h in (w.0, omega (arith, w.1), before w.0 w.1 ∙ w.2, w.3)
      seen i b l (inr h) = (k, omega arith, mine ∙ ap (λ z. Some z) (omega (arith, h.0, s.0)), h.1)

      shown : (m i b : ℕ) → m < k + 1 → home_of (slice_set homes (slice_index order k) o) (slice_index order m) ≡ Some (9 + b) → Contains (points_of rs (slice_index order m)) i → Tells m k → bit_at (slice_index after i) b ≡ 1
      shown m i b l h q (inl t) =
          let v : d ≡ 9 + b = at-k m (9 + b) t.1 h in
          subst (λ z. bit_at (slice_index after i) z ≡ 1) (omega (arith, v)) (s.3.marked i (subst (λ z. Contains (points_of rs (slice_index order z)) i) t.1 q))
      shown m i b l h q (inr t) = let r = g.range m (9 + b) (omega (arith, l, t.1)) (sym (before m (omega (arith, l, t.1))) ∙ h) in s.3.kept i b (omega (arith, r.1)) (g.shown m i b (omega (arith, l, t.1)) (sym (before m (omega (arith, l, t.1))) ∙ h) q)

      range : (m h : ℕ) → m < k + 1 → home_of (slice_set homes (slice_index order k) o) (slice_index order m) ≡ Some h → Tells m k → (9 ≤ h) × (h ≤ 20)
      range m h l q (inl t) = let v : d ≡ h = at-k m h t.1 q in (omega (arith, v, s.0), omega (arith, v, s.1))
      range m h l q (inr t) = g.range m h (omega (arith, l, t.1)) (sym (before m (omega (arith, l, t.1))) ∙ q)

      apart : (m p h : ℕ) → m < p → p < k + 1 → Meet rs (slice_index order m) (slice_index order p) → home_of (slice_set homes (slice_index order k) o) (slice_index order m) ≡ Some h → Tells p k → home_of (slice_set homes (slice_index order k) o) (slice_index order p) ≢ Some h
      apart m p h l lp meets q (inl t) = λ z.
          let v : d ≡ h = at-k p h t.1 z in
          let old : home_of homes (slice_index order m) ≡ Some h = sym (before m (omega (arith, l, t.1))) ∙ q in
          s.2 meets.0 (subst (λ y. Contains (points_of rs (slice_index order y)) meets.0) t.1 meets.2)
          (g.shown m meets.0 (d - 9) (omega (arith, l, t.1)) (old ∙ ap (λ y. Some y) (omega (arith, v, s.0))) meets.1)
      apart m p h l lp meets q (inr t) = λ z. g.apart m p h l (omega (arith, lp, t.1)) meets (sym (before m (omega (arith, l, lp, t.1))) ∙ q) (sym (before p (omega (arith, lp, t.1))) ∙ z)

      tight : (m b : ℕ) → m < k + 1 → slice_index gaps m < 2 ^ 64 - 1 → home_of (slice_set homes (slice_index order k) o) (slice_index order m) ≡ None → b < 12 → Tells m k →
          (p : ℕ) × (p < m) × Meet rs (slice_index order p) (slice_index order m) × (home_of (slice_set homes (slice_index order k) o) (slice_index order p) ≡ Some (9 + b))
      tight m b l asks q lb (inl t) = let x : Some d ≡ None = sym mine ∙ subst (λ z. home_of (slice_set homes (slice_index order k) o) (slice_index order z) ≡ None) t.1 q in absurd (let y : ⊥ = cc in y)
      tight m b l asks q lb (inr t) =
          let w = g.tight m b (omega (arith, l, t.1)) asks (sym (before m (omega (arith, l, t.1))) ∙ q) lb in
          (w.0, w.1, w.2, before w.0 (omega (arith, w.1, l, t.1)) ∙ w.3)

pub greedy-next : (rs : List Region) (gaps order : List ℕ) (asked : Bool) (homes : List (Option ℕ)) (used after : List ℕ) (k : ℕ) (o : Option ℕ) →
    ((m p : ℕ) → m < p → p < length order → slice_index order m ≢ slice_index order p) →
    k < length order → slice_index order k < length homes → IsGreedy rs gaps order homes used k → (slice_index gaps k < 2 ^ 64 - 1 → asked ≡ true) →
    IsChosen asked (points_of rs (slice_index order k)) used o after → IsGreedy rs gaps order (slice_set homes (slice_index order k) o) after (k + 1)
greedy-next rs gaps order asked homes used after k None distinct within room g worth c = none-next rs gaps order asked homes used after k None distinct within room g worth c refl
greedy-next rs gaps order asked homes used after k (Some d) distinct within room g worth c = some-next rs gaps order asked homes used after k (Some d) distinct within room g worth c d refl

-- an order by cost and number gives settled homes
home-at : (homes : List (Option ℕ)) (r : ℕ) (o : Option ℕ) → slice_get homes r ≡ Some o → home_of homes r ≡ o
home-at homes r o e = ap home_in e

at-home : (homes : List (Option ℕ)) (r h : ℕ) → home_of homes r ≡ Some h → slice_get homes r ≡ Some (Some h)
at-home [] r h e = cc
at-home (x ∷ xs) zero h e = ap (λ z. Some z) e
at-home (x ∷ xs) (suc r) h e = at-home xs r h e

pub find-region : (rs : List Region) (r i : ℕ) → Contains (points_of rs r) i → (b : Region) × (slice_get rs r ≡ Some b) × Contains b.points i
find-region [] r i c = absurd (omega (arith, c.1))
find-region (x ∷ xs) zero i c = (x, refl, c)
find-region (x ∷ xs) (suc r) i c = find-region xs r i c

points-at : (rs : List Region) (r i : ℕ) (a : Region) → slice_get rs r ≡ Some a → Contains a.points i → Contains (points_of rs r) i
points-at rs r i a e c = subst (λ z. Contains (points_in z) i) (sym e) c

pub settled-by-order : (f : AFunction) (rs : List Region) (gaps order : List ℕ) (homes : List (Option ℕ)) (used : List ℕ) → length homes ≡ length rs → All (λ o. IfSome o IsHome) homes →
    ((r : ℕ) → r < length rs → (m : ℕ) × (m < length order) × (slice_index order m ≡ r)) →
    ((m p : ℕ) (a b : Region) → p < m → m < length order → slice_get rs (slice_index order m) ≡ Some a → slice_get rs (slice_index order p) ≡ Some b → IsAhead f (slice_index order p) b (slice_index order m) a) →
    ((m : ℕ) (a : Region) → m < length order → slice_get rs (slice_index order m) ≡ Some a → 1 ≤ cost_of f a → slice_index gaps m < 2 ^ 64 - 1) →
    IsGreedy rs gaps order homes used (length order) → AreSettled f rs homes
settled-by-order f rs gaps order homes used same range every sorted worth g = record {
  distinct = record {
    count = same;
    range = range;
    apart = λ i j h a b ne ea eb meets hi hj. apart i j h a b ne ea eb meets hi hj (every i (slice_get_within rs i a ea)) (every j (slice_get_within rs j b eb));
  };
  tight = λ i h a e cost none home. tight i h a e cost none home (every i (slice_get_within rs i a e));
}
  where
    Place : ℕ → Type 0
    Place r = (m : ℕ) × (m < length order) × (slice_index order m ≡ r)

    less-or : (m p : ℕ) → m ≢ p → (m < p) ⊎ (p < m)
    less-or m p ne = grind (arith, nat_tests)

    apart : (i j h : ℕ) (a b : Region) → i ≢ j → slice_get rs i ≡ Some a → slice_get rs j ≡ Some b → AreInConflict a b → slice_get homes i ≡ Some (Some h) → slice_get homes j ≡ Some (Some h) →
        (m : ℕ) × (m < length order) × (slice_index order m ≡ i) → (m : ℕ) × (m < length order) × (slice_index order m ≡ j) → ⊥
    apart i j h a b ne ea eb meets hi hj (m, lm, em) (p, lp, ep) = go (less-or m p (λ z. ne (sym em ∙ (ap (slice_index order) z ∙ ep))))
      where
        mi : Contains (points_of rs (slice_index order m)) meets.0
        mi = subst (λ z. Contains (points_of rs z) meets.0) (sym em) (points-at rs i meets.0 a ea meets.1)

        mj : Contains (points_of rs (slice_index order p)) meets.0
        mj = subst (λ z. Contains (points_of rs z) meets.0) (sym ep) (points-at rs j meets.0 b eb meets.2)

        oi : home_of homes (slice_index order m) ≡ Some h
        oi = ap (home_of homes) em ∙ home-at homes i (Some h) hi

        oj : home_of homes (slice_index order p) ≡ Some h
        oj = ap (home_of homes) ep ∙ home-at homes j (Some h) hj

        go : (m < p) ⊎ (p < m) → ⊥
        go (inl l) = g.apart m p h l lp (meets.0, mi, mj) oi oj
        go (inr l) = g.apart p m h l lm (meets.0, mj, mi) oj oi

    tight : (i h : ℕ) (a : Region) → slice_get rs i ≡ Some a → 1 ≤ cost_of f a → slice_get homes i ≡ Some None → IsHome h → (m : ℕ) × (m < length order) × (slice_index order m ≡ i) →
        (j : ℕ) × (b : Region) × (slice_get rs j ≡ Some b) × AreInConflict a b × (slice_get homes j ≡ Some (Some h)) × IsAhead f j b i a
    tight i h a e cost none home (m, lm, em) =
        let w = g.tight m (h - 9) lm (worth m a lm (ap (slice_get rs) em ∙ e) cost) (ap (home_of homes) em ∙ home-at homes i None none) (omega (arith, home.0, home.1)) in
        let b = find-region rs (slice_index order w.0) w.2.0 w.2.1 in
        let ca : Contains a.points w.2.0 = subst (λ z. Contains (points_in z) w.2.0) e (subst (λ z. Contains (points_of rs z) w.2.0) em w.2.2) in (
          slice_index order w.0,
          b.0,
          b.1,
          (w.2.0, ca, b.2),
          at-home homes (slice_index order w.0) h (w.3 ∙ ap (λ z. Some z) (omega (arith, home.0))),
          subst (λ z. IsAhead f (slice_index order w.0) b.0 z a) em (sorted m w.0 a b.0 w.1 lm (ap (slice_get rs) em ∙ e) b.1),
        )

-- Before the first choice

pub greedy-first : (rs : List Region) (gaps order used : List ℕ) (homes : List (Option ℕ)) → ((i g : ℕ) → bit_at (slice_index used i) g ≡ 0) → IsGreedy rs gaps order homes used 0
greedy-first rs gaps order used homes z = record {
  seen = λ i g l h. absurd (omega (arith, h, z i g));
  shown = λ m i g l. absurd (omega (arith, l));
  range = λ m h l. absurd (omega (arith, l));
  apart = λ m p h l lp. absurd (omega (arith, lp));
  tight = λ m g l. absurd (omega (arith, l));
}

-- what a choice leaves in range
pub range-next : (homes : List (Option ℕ)) (r : ℕ) (o : Option ℕ) (asked : Bool) (points used after : List ℕ) → All (λ h. IfSome h IsHome) homes → IsChosen asked points used o after → All (λ h. IfSome h IsHome) (slice_set homes r o)
range-next homes r None asked points used after all c = All-set (λ h. IfSome h IsHome) homes r None tt all
range-next homes r (Some d) asked points used after all c = let s = c.some d refl in All-set (λ h. IfSome h IsHome) homes r (Some d) (s.0, s.1) all
