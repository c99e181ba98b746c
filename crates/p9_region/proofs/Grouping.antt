-- Groups of points with one label are regions.
use Rattle.std.proofs.Common.{ℕ, zero, suc, ◌+◌, ◌-◌, ◌==◌, ◌≡◌, ◌≢◌, ◌⊎◌, inl, inr, ◌≤◌, ◌<◌, true, false, Some, refl, sym, ap, ◌∙◌, subst, arith, List, [], ◌∷◌, ◌++◌, length, length-append, slice_get, slice_index, get_or, map, All, AllPairs, Contains}
use Rattle.std.proofs.lemmas.Bool.{false≢true}
use Rattle.std.proofs.lemmas.Bool.Decides.{eqb_tells, nat_tests}
use Rattle.std.proofs.lemmas.Bool.{eqb-true}
use Rattle.std.proofs.lemmas.Option.{slice_get-get_or, slice_get_within, get_or_from_slice_get}
use Rattle.std.proofs.lemmas.List.{get_or_default, get_or_append_left, get_or-append_right, length-map}
use Rattle.std.proofs.lemmas.List.Elements.{All-append, All-weaker, All-from_get_or, Contains-get_or}
use Rattle.p9_abs.specs.declared.instructions.AFunction.{AFunction}
use Rattle.p9_abs.specs.declared.regions.Region.{Region}
use Rattle.p9_abs.specs.Automatics.{is_candidate}
use Rattle.p9_abs.specs.Regions.{IsPoint, AreJoined, IsRegion, ComesBefore}
use Rattle.p9_region.specs.declared.classes.Edge.{Edge}
use Rattle.p9_region.specs.Labels.{IsWay, AreClasses}
use Rattle.p9_region.specs.Picking.{picked, is_root, has_label, members, region_at, groups, ArePoints}
use Rattle.p9_region.specs.Finding.{AreRegionsBelow}
use Rattle.p9_region.proofs.Picks.{picked-below, picked-rising, picked-has, picked-from, picked-within, picked-first}
use Rattle.p9_region.proofs.Joining.{joined-on, joined-back}

abbrev Tells : ℕ → ℕ → Type 0
Tells x y = (((x == y) ≡ true) × (x ≡ y)) ⊎ (((x == y) ≡ false) × (x ≢ y))

eqb-is : (m n : ℕ) → m ≡ n → (m == n) ≡ true
eqb-is m n e = grind (arith, nat_tests)

eqb-not : (m n : ℕ) → m ≢ n → (m == n) ≡ false
eqb-not m n ne = grind (arith, nat_tests)

-- Lists that a function gives

map-at : (g : ℕ → ℕ) (xs : List ℕ) (k : ℕ) → k < length xs → slice_index (map g xs) k ≡ g (slice_index xs k)
map-at g [] k l = absurd (omega (arith, l))
map-at g (x ∷ xs) zero l = refl
map-at g (x ∷ xs) (suc k) l = map-at g xs k (omega (arith, l))

contains-map : (g : ℕ → ℕ) (xs : List ℕ) (k : ℕ) → Contains xs k → Contains (map g xs) (g k)
contains-map g xs k (m, l, e) =
    let n = length-map xs g in
    let h : m < length (map g xs) = omega (arith, n, l) in
    (m, h, get_or_default (map g xs) m (g k) 0 h ∙ (map-at g xs m l ∙ ap g (get_or_default xs m 0 k l ∙ e)))

map-contains : (g : ℕ → ℕ) (xs : List ℕ) (i : ℕ) → Contains (map g xs) i → (k : ℕ) × Contains xs k × (g k ≡ i)
map-contains g xs i (m, l, e) =
    let h : m < length xs = (let n = length-map xs g in omega (arith, n, l)) in
    (slice_index xs m, Contains-get_or xs m 0 h, sym (map-at g xs m h) ∙ (get_or_default (map g xs) m 0 i l ∙ e))

-- The regions of one automatic

module _ (f : AFunction) (v : ℕ) (points labels : List ℕ) (edges : List Edge) (candidate : is_candidate f v ≡ true) (all : ArePoints f v points) (classes : AreClasses edges (length points) labels)
    (joined : (a b : ℕ) → IsWay edges a b → AreJoined f v (slice_index points a) (slice_index points b))
    (arrives : (a i k : ℕ) → a < length points → slice_index points a ≡ i → AreJoined f v i k → (b : ℕ) × (b < length points) × (slice_index points b ≡ k) × IsWay edges a b) where
  abbrev n : ℕ
  n = length points

  abbrev label : ℕ → ℕ
  label k = slice_index labels k

  abbrev point : ℕ → ℕ
  point k = slice_index points k

  abbrev list : ℕ → List ℕ
  list r = members points labels r (length points)

  -- a label's own label is itself
  label-label : (k : ℕ) → k < length points → slice_index labels (slice_index labels k) ≡ slice_index labels k
  label-label k l = sym (classes.one k (slice_index labels k) (classes.member k l))

  -- of what region a point is
  member-of : (r i : ℕ) → Contains (list r) i → (k : ℕ) × (k < length points) × (slice_index labels k ≡ r) × (slice_index points k ≡ i)
  member-of r i c =
      let w = map-contains (slice_index points) (picked (has_label labels r) (length points)) i c in
      (w.0, picked-within (has_label labels r) (length points) w.0 w.1, eqb-true (slice_index labels w.0) r (picked-from (has_label labels r) (length points) w.0 w.1), w.2)

  has-member : (r k : ℕ) → k < length points → slice_index labels k ≡ r → Contains (list r) (slice_index points k)
  has-member r k l e = contains-map (slice_index points) (picked (has_label labels r) (length points)) k (picked-has (has_label labels r) (length points) k l (eqb-is (slice_index labels k) r e))

  first-point : (r : ℕ) → r < length points → slice_index labels r ≡ r → slice_index (list r) 0 ≡ slice_index points r
  first-point r l e =
      let c = picked-has (has_label labels r) (length points) r l (eqb-is (slice_index labels r) r e) in
      map-at (slice_index points) (picked (has_label labels r) (length points)) 0 (let h = c.1 in omega (arith, h))
      ∙ ap (slice_index points) (picked-first (has_label labels r) (length points) r l (eqb-is (slice_index labels r) r e) (λ k g. eqb-not (slice_index labels k) r (lower k g)))
    where
      lower : (k : ℕ) → k < r → slice_index labels k ≢ r
      lower k g q = let low = classes.low k (omega (arith, l, g)) in omega (arith, low, q, g)

  points-rise : (a b : ℕ) → a < b → b < length points → slice_index points a < slice_index points b
  points-rise a b l h = all.rising a b 0 l h

  rising : (r : ℕ) → AllPairs (λ i j. i < j) (list r)
  rising r i j d l h =
      let q : j < length (picked (has_label labels r) (length points)) = (let m = length-map (picked (has_label labels r) (length points)) (slice_index points) in omega (arith, h, m)) in
      let xs = picked (has_label labels r) (length points) in
      let up = picked-rising (has_label labels r) (length points) i j 0 l q in
      let below = picked-below (has_label labels r) (length points) j 0 q in
      let both = points-rise (slice_index (picked (has_label labels r) (length points)) i) (slice_index (picked (has_label labels r) (length points)) j) up below in
      let ei = get_or_default (list r) i d 0 (omega (arith, l, h)) ∙ map-at (slice_index points) (picked (has_label labels r) (length points)) i (omega (arith, l, q)) in
      let ej = get_or_default (list r) j d 0 h ∙ map-at (slice_index points) (picked (has_label labels r) (length points)) j q in
      omega (arith, both, ei, ej)

  to-root : (r i : ℕ) → Contains (list r) i → AreJoined f v i (slice_index points r)
  to-root r i c =
      let w = member-of r i c in
      let way = joined w.0 (slice_index labels w.0) (classes.member w.0 w.1) in
      subst (λ z. AreJoined f v z (slice_index points r)) w.3 (subst (λ z. AreJoined f v (slice_index points w.0) (slice_index points z)) w.2 way)

  pub is-region : (r : ℕ) → r < length points → slice_index labels r ≡ r → IsRegion f (region_at v points labels r)
  is-region r l e = record {
    candidate = candidate;
    some = (let c = has-member r r l e in let h = c.1 in omega (arith, h));
    rising = rising r;
    points = All-from_get_or (IsPoint f v) (list r) 0 (λ k h.
        let w = member-of r (slice_index (list r) k) (Contains-get_or (list r) k 0 h) in
        subst (IsPoint f v) w.3 (all.each (slice_index points w.0) (Contains-get_or points w.0 0 w.1)));
    joined = λ i j ci cj. let a = to-root r i ci in let b = to-root r j cj in let back = joined-back f v j (slice_index points r) b.0 b.1 in joined-on f v i (slice_index points r) j a.0 back.0 a.1 back.1;
    whole = λ i j ci way.
        let w = member-of r i ci in
        let b = arrives w.0 i j w.1 w.3 way in
        subst (Contains (list r)) b.2 (has-member r b.0 b.1 (sym (classes.one w.0 b.0 b.3) ∙ w.2));
  }

  -- and each point stands in one
  pub has-region : (i : ℕ) → IsPoint f v i → (r : ℕ) × (r < length points) × (slice_index labels r ≡ r) × Contains (list r) i
  has-region i p =
      let c = all.every i p in
      let e : slice_index points c.0 ≡ i = get_or_default points c.0 0 i c.1 ∙ c.2 in
      let low = classes.low c.0 c.1 in
      let h : slice_index labels c.0 < length points = (let l = c.1 in omega (arith, low, l)) in
      (slice_index labels c.0, h, label-label c.0 c.1, subst (Contains (list (slice_index labels c.0))) e (has-member (slice_index labels c.0) c.0 c.1 refl))

  -- The list of regions

  abbrev roots : List ℕ
  roots = picked (is_root labels) (length points)

  abbrev mine : List Region
  mine = groups v points labels (length points)

  root-at : (k : ℕ) (d : ℕ) → k < length (picked (is_root labels) (length points)) → (get_or (picked (is_root labels) (length points)) k d < length points) × (slice_index labels (get_or (picked (is_root labels) (length points)) k d) ≡ get_or (picked (is_root labels) (length points)) k d)
  root-at k d l = (
    picked-below (is_root labels) (length points) k d l,
    (let r = get_or (picked (is_root labels) (length points)) k d in
        eqb-true (slice_index labels r) r (picked-from (is_root labels) (length points) r (Contains-get_or (picked (is_root labels) (length points)) k d l))),
  )

  region-map : (g : ℕ → Region) (xs : List ℕ) (k : ℕ) (d : Region) → k < length xs → get_or (map g xs) k d ≡ g (slice_index xs k)
  region-map g [] k d l = absurd (omega (arith, l))
  region-map g (x ∷ xs) zero d l = refl
  region-map g (x ∷ xs) (suc k) d l = region-map g xs k d (omega (arith, l))

  within-roots : (k : ℕ) → k < length (groups v points labels (length points)) → k < length (picked (is_root labels) (length points))
  within-roots k l = let m = length-map (picked (is_root labels) (length points)) (region_at v points labels) in omega (arith, l, m)

  mine-each : All (IsRegion f) (groups v points labels (length points))
  mine-each k d l =
      let q = within-roots k l in
      let r = root-at k 0 q in
      subst (IsRegion f) (sym (region-map (region_at v points labels) (picked (is_root labels) (length points)) k d q)) (is-region (slice_index (picked (is_root labels) (length points)) k) r.0 r.1)

  mine-auto : All (λ r. r.auto ≡ v) (groups v points labels (length points))
  mine-auto k d l = ap (λ (z : Region). z.auto) (region-map (region_at v points labels) (picked (is_root labels) (length points)) k d (within-roots k l))

  mine-ordered : AllPairs ComesBefore (groups v points labels (length points))
  mine-ordered i j d l h =
      let qj = within-roots j h in
      let qi : i < length (picked (is_root labels) (length points)) = omega (arith, l, qj) in
      let ri = root-at i 0 qi in
      let rj = root-at j 0 qj in
      let up = picked-rising (is_root labels) (length points) i j 0 l qj in
      let less = points-rise (slice_index (picked (is_root labels) (length points)) i) (slice_index (picked (is_root labels) (length points)) j) up rj.0 in
      let fi = first-point (slice_index (picked (is_root labels) (length points)) i) ri.0 ri.1 in
      let fj = first-point (slice_index (picked (is_root labels) (length points)) j) rj.0 rj.1 in
      subst (λ z. ComesBefore z (get_or (groups v points labels (length points)) j d)) (sym (region-map (region_at v points labels) (picked (is_root labels) (length points)) i d qi))
      (subst (λ z. ComesBefore (region_at v points labels (slice_index (picked (is_root labels) (length points)) i)) z) (sym (region-map (region_at v points labels) (picked (is_root labels) (length points)) j d qj))
      (inr (refl, omega (arith, less, fi, fj))))

  mine-has : (i : ℕ) → IsPoint f v i → (k : ℕ) × (k < length (groups v points labels (length points))) × (slice_get (groups v points labels (length points)) k ≡ Some (get_or (groups v points labels (length points)) k (region_at v points labels 0)))
      × ((get_or (groups v points labels (length points)) k (region_at v points labels 0)).auto ≡ v) × Contains (get_or (groups v points labels (length points)) k (region_at v points labels 0)).points i
  mine-has i p =
      let w = has-region i p in
      let c = picked-has (is_root labels) (length points) w.0 w.1 (eqb-is (slice_index labels w.0) w.0 w.2) in
      let l : c.0 < length (groups v points labels (length points)) = (let m = length-map (picked (is_root labels) (length points)) (region_at v points labels) in let h = c.1 in omega (arith, m, h)) in
      let q = region-map (region_at v points labels) (picked (is_root labels) (length points)) c.0 (region_at v points labels 0) c.1 in
      let e : slice_index (picked (is_root labels) (length points)) c.0 ≡ w.0 = get_or_default (picked (is_root labels) (length points)) c.0 0 w.0 c.1 ∙ c.2 in (
        c.0,
        l,
        slice_get-get_or (groups v points labels (length points)) c.0 (region_at v points labels 0) l,
        ap (λ (z : Region). z.auto) q,
        subst (λ (z : Region). Contains z.points i) (sym q) (subst (λ r. Contains (members points labels r (length points)) i) (sym e) w.3),
      )

  -- the regions of v behind those of earlier automatics
  pub regions-more : (old new : List Region) → new ≡ old ++ groups v points labels (length points) → AreRegionsBelow f v old → AreRegionsBelow f (suc v) new
  regions-more old new e before = subst (λ z. AreRegionsBelow f (suc v) z) (sym e) record {
    each = All-append (IsRegion f) old (groups v points labels (length points)) before.each mine-each;
    below = All-append (λ r. r.auto < suc v) old (groups v points labels (length points)) (All-weaker (λ r. r.auto < v) (λ r. r.auto < suc v) (λ x l. omega (arith, l)) old before.below)
        (All-weaker (λ r. r.auto ≡ v) (λ r. r.auto < suc v) (λ x q. omega (arith, q)) (groups v points labels (length points)) mine-auto);
    ordered = ordered;
    every = λ u i l c p. every u i l c p (eqb_tells u v);
  }
    where
      left : (i : ℕ) (d : Region) → i < length old → get_or (old ++ groups v points labels (length points)) i d ≡ get_or old i d
      left i d l = get_or_append_left old (groups v points labels (length points)) d i l

      right : (i : ℕ) (d : Region) → length old ≤ i → get_or (old ++ groups v points labels (length points)) i d ≡ get_or (groups v points labels (length points)) (i - length old) d
      right i d l = get_or-append_right old (groups v points labels (length points)) (length old) i d refl l

      order : (a b : ℕ) → (a < b) ⊎ (b ≤ a)
      order a b = grind (arith, nat_tests)

      pair : (i j : ℕ) (d : Region) → i < j → j < length old + length (groups v points labels (length points)) → (i < length old) ⊎ (length old ≤ i) → (j < length old) ⊎ (length old ≤ j) →
          ComesBefore (get_or (old ++ groups v points labels (length points)) i d) (get_or (old ++ groups v points labels (length points)) j d)
      pair i j d l h (inl li) (inl lj) =
          subst (λ z. ComesBefore z (get_or (old ++ groups v points labels (length points)) j d)) (sym (left i d li)) (subst (ComesBefore (get_or old i d)) (sym (left j d lj)) (before.ordered i j d l lj))
      pair i j d l h (inl li) (inr lj) =
          let a = before.below i d li in
          let b = mine-auto (j - length old) d (omega (arith, h, lj)) in
          subst (λ z. ComesBefore z (get_or (old ++ groups v points labels (length points)) j d)) (sym (left i d li)) (subst (ComesBefore (get_or old i d)) (sym (right j d lj)) (inl (omega (arith, a, b))))
      pair i j d l h (inr li) (inl lj) = absurd (omega (arith, l, li, lj))
      pair i j d l h (inr li) (inr lj) =
          subst (λ z. ComesBefore z (get_or (old ++ groups v points labels (length points)) j d)) (sym (right i d li)) (subst (ComesBefore (get_or (groups v points labels (length points)) (i - length old) d)) (sym (right j d lj))
          (mine-ordered (i - length old) (j - length old) d (omega (arith, l, li, lj)) (omega (arith, h, lj))))

      ordered : AllPairs ComesBefore (old ++ groups v points labels (length points))
      ordered i j d l h =
          let n = length-append old (groups v points labels (length points)) in
          pair i j d l (omega (arith, h, n)) (order i (length old)) (order j (length old))

      get-left : (xs ys : List Region) (k : ℕ) (r : Region) → slice_get xs k ≡ Some r → slice_get (xs ++ ys) k ≡ Some r
      get-left [] ys k r q = cc
      get-left (x ∷ xs) ys zero r q = q
      get-left (x ∷ xs) ys (suc k) r q = get-left xs ys k r q

      get-right : (xs ys : List Region) (k : ℕ) (r : Region) → slice_get ys k ≡ Some r → slice_get (xs ++ ys) (length xs + k) ≡ Some r
      get-right xs ys k r q =
          let l = slice_get_within ys k r q in
          let n = length-append xs ys in
          let at = get_or-append_right xs ys (length xs) (length xs + k) r refl (omega arith) in
          slice_get-get_or (xs ++ ys) (length xs + k) r (omega (arith, n, l))
          ∙ ap (λ z. Some z) (at ∙ (ap (λ m. get_or ys m r) (let s : length xs + k - length xs ≡ k = omega arith in s) ∙ get_or_from_slice_get ys k r r q))

      every : (u i : ℕ) → u < suc v → is_candidate f u ≡ true → IsPoint f u i → Tells u v →
          (k : ℕ) × (r : Region) × (slice_get (old ++ groups v points labels (length points)) k ≡ Some r) × (r.auto ≡ u) × Contains r.points i
      every u i l c p (inl t) =
          let w = mine-has i (subst (λ z. IsPoint f z i) t.1 p) in
          (length old + w.0, get_or (groups v points labels (length points)) w.0 (region_at v points labels 0), get-right old (groups v points labels (length points)) w.0 _ w.2, w.3 ∙ sym t.1, w.4)
      every u i l c p (inr t) =
          let w = before.every u i (omega (arith, l, t.1)) c p in
          (w.0, w.1, get-left old (groups v points labels (length points)) w.0 w.1 w.2, w.3, w.4)

-- an automatic that is no candidate adds none
pub regions-same : (f : AFunction) (v : ℕ) (old new : List Region) → is_candidate f v ≡ false → new ≡ old → AreRegionsBelow f v old → AreRegionsBelow f (suc v) new
regions-same f v old new missing e before = subst (λ z. AreRegionsBelow f (suc v) z) (sym e) record {
  each = before.each;
  below = All-weaker (λ r. r.auto < v) (λ r. r.auto < suc v) (λ x l. omega (arith, l)) old before.below;
  ordered = before.ordered;
  every = λ u i l c p. by u i l c p (eqb_tells u v);
}
  where
    by : (u i : ℕ) → u < suc v → is_candidate f u ≡ true → IsPoint f u i → Tells u v → (k : ℕ) × (r : Region) × (slice_get old k ≡ Some r) × (r.auto ≡ u) × Contains r.points i
    by u i l c p (inl t) = absurd (false≢true (sym missing ∙ subst (λ z. is_candidate f z ≡ true) t.1 c))
    by u i l c p (inr t) = before.every u i (omega (arith, l, t.1)) c p
