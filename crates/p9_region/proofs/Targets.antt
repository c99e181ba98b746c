-- Where control goes on to among rising points, and edges of one more point.
use Rattle.std.proofs.Common.{ℕ, zero, suc, ◌+◌, ◌==◌, ◌≡◌, ◌≢◌, ◌⊎◌, inl, inr, ◌≤◌, ◌<◌, Bool, true, false, Option, Some, None, Ok, Err, refl, sym, ap, ◌∙◌, subst, arith, if◌then◌else◌, List, [], ◌∷◌, ◌++◌, length, slice_get, slice_index, get_or, AllPairs}
use Rattle.std.specs.List.Sorted.{IsBinarySearchResult}
use Rattle.std.specs.Ordering.{nat_cmp}
use Rattle.std.proofs.lemmas.Bool.{false≢true}
use Rattle.std.proofs.lemmas.Bool.Decides.{eqb_tells, nat_tests}
use Rattle.std.proofs.lemmas.Option.{slice_get_within}
use Rattle.std.proofs.lemmas.List.Sorted.{searched}
use Rattle.p9_region.specs.declared.steps.Step.{Step}
use Rattle.p9_region.specs.declared.classes.Edge.{Edge}
use Rattle.p9_region.specs.Labels.{AreWithinNumber}
use Rattle.p9_region.specs.Picking.{GoesOn, live_bit, AreAdjacent, AreEdges}
use Rattle.p9_region.specs.Finding.{IsPlace, IsTarget, successor, edge_list}

abbrev Tells : ℕ → ℕ → Type 0
Tells x y = (((x == y) ≡ true) × (x ≡ y)) ⊎ (((x == y) ≡ false) × (x ≢ y))

order : (a b : ℕ) → (a < b) ⊎ ((b < a) ⊎ (a ≡ b))
order a b = grind (arith, nat_tests)

one-place : (points : List ℕ) (a b : ℕ) → AllPairs (λ i j. i < j) points → a < length points → b < length points → slice_index points a ≡ slice_index points b → a ≡ b
one-place points a b up la lb e = by (order a b)
  where
    by : (a < b) ⊎ ((b < a) ⊎ (a ≡ b)) → a ≡ b
    by (inl l) = let h : slice_index points a < slice_index points b = up a b 0 l lb in absurd (omega (arith, h, e))
    by (inr (inl l)) = let h : slice_index points b < slice_index points a = up b a 0 l la in absurd (omega (arith, h, e))
    by (inr (inr q)) = q

not-falling : (points : List ℕ) → AllPairs (λ i j. i < j) points → (i j : ℕ) → i ≤ j → j < length points → get_or points i 0 ≤ get_or points j 0
not-falling points up i j l h = by (order i j)
  where
    by : (i < j) ⊎ ((j < i) ⊎ (i ≡ j)) → get_or points i 0 ≤ get_or points j 0
    by (inl g) = let u : slice_index points i < slice_index points j = up i j 0 g h in omega (arith, u)
    by (inr (inl g)) = absurd (omega (arith, l, g))
    by (inr (inr q)) = let e = ap (slice_index points) q in omega (arith, e)

pub place-found : (points : List ℕ) (i k : ℕ) → AllPairs (λ i j. i < j) points → IsBinarySearchResult (λ y. nat_cmp y i) points (Ok k) → IsPlace points i (Some k)
place-found points i k up h =
    let w = searched points i (Ok k) h (not-falling points up) in
    record {
      some = λ m e. let q : k ≡ m = cc in (omega (arith, w.0, q), ap (slice_index points) (sym q) ∙ w.1);
      every = λ m l e. ap (λ z. Some z) (one-place points k m up w.0 l (w.1 ∙ sym e));
    }

pub place-missing : (points : List ℕ) (i k : ℕ) → AllPairs (λ i j. i < j) points → IsBinarySearchResult (λ y. nat_cmp y i) points (Err k) → IsPlace points i None
place-missing points i k up h =
    let w = searched points i (Err k) h (not-falling points up) in
    record {
      some = λ m e. let x : ⊥ = cc in absurd x;
      every = λ m l e. absurd (by m l e w.1 w.2 (order m k));
    }
  where
    by : (m : ℕ) → m < length points → slice_index points m ≡ i → ((j : ℕ) → j < k → get_or points j 0 < i) → ((j : ℕ) → k ≤ j → j < length points → i < get_or points j 0) → (m < k) ⊎ ((k < m) ⊎ (m ≡ k)) → ⊥
    by m l e below above (inl g) = let u = below m g in omega (arith, u, e)
    by m l e below above (inr (inl g)) = let u = above m (omega (arith, g)) l in omega (arith, u, e)
    by m l e below above (inr (inr q)) = let u = above m (omega (arith, q)) l in omega (arith, u, e)

pub target-live : (points bits : List ℕ) (width v j : ℕ) (found : Option ℕ) → live_bit bits width v j ≡ true → IsPlace points j found → IsTarget points bits width v (Some j) found
target-live points bits width v j found live p = record {
  some = λ k e. let w = p.some k e in (w.0, subst (λ z. live_bit bits width v z ≡ true) (sym w.1) live, ap (λ z. Some z) (sym w.1));
  every = λ k l e h. let q : j ≡ slice_index points k = cc in p.every k l (sym q);
}

pub target-dead : (points bits : List ℕ) (width v j : ℕ) → live_bit bits width v j ≡ false → IsTarget points bits width v (Some j) None
target-dead points bits width v j dead = record {
  some = λ k e. let x : ⊥ = cc in absurd x;
  every = λ k l e h. let q : j ≡ slice_index points k = cc in absurd (false≢true (sym dead ∙ subst (λ z. live_bit bits width v z ≡ true) (sym q) h));
}

pub target-none : (points bits : List ℕ) (width v : ℕ) → IsTarget points bits width v None None
target-none points bits width v = record { some = λ k e. let x : ⊥ = cc in absurd x; every = λ k l e h. let x : ⊥ = cc in absurd x }

-- Edges

pub edges-none : (steps : List Step) (bits : List ℕ) (width v : ℕ) (points : List ℕ) (edges : List Edge) → edges ≡ [] → AreEdges steps bits width v points 0 edges
edges-none steps bits width v points edges e = record {
  each = λ x d g. let l = slice_get_within edges x d g in absurd (omega (arith, l, ap length e));
  every = λ k m l. absurd (omega (arith, l));
}

module _ (steps : List Step) (bits : List ℕ) (width v : ℕ) (points : List ℕ) (n : ℕ) (s : Step) (edges mid after : List Edge) (next jump : Option ℕ) (l : n < length points)
    (here : slice_get steps (slice_index points n) ≡ Some s) (to-next : IsTarget points bits width v (successor s (slice_index points n)) next) (to-jump : IsTarget points bits width v s.jump jump)
    (em : mid ≡ edges ++ edge_list n next) (ea : after ≡ mid ++ edge_list n jump) (before : AreEdges steps bits width v points n edges) where
  abbrev IsGood : Edge → Type 0
  IsGood e = (e.from < length points) × (e.to < length points) × AreAdjacent steps bits width v points e.from e.to

  abbrev Each : List Edge → Type 0
  Each es = (x : ℕ) (e : Edge) → slice_get es x ≡ Some e → IsGood e

  each-append : (xs ys : List Edge) → Each xs → Each ys → Each (xs ++ ys)
  each-append [] ys hx hy x e q = hy x e q
  each-append (z ∷ xs) ys hx hy zero e q = hx 0 e q
  each-append (z ∷ xs) ys hx hy (suc x) e q = each-append xs ys (λ k d p. hx (suc k) d p) hy x e q

  each-list : (to : Option ℕ) → ((k : ℕ) → to ≡ Some k → (k < length points) × AreAdjacent steps bits width v points n k) → Each (edge_list n to)
  each-list None h x e q = cc
  each-list (Some k) h zero e q =
      let w = h k refl in
      let made : Edge = record { from = n; to = k } in
      let same : made ≡ e = cc in
      subst IsGood same (l, w.0, w.1)
  each-list (Some k) h (suc x) e q = cc

  next-good : (k : ℕ) → next ≡ Some k → (k < length points) × AreAdjacent steps bits width v points n k
  next-good k e = let w = to-next.some k e in (w.0, (s, here, inl (on s.next refl w.2), w.1))
    where
      on : (b : Bool) → s.next ≡ b → (if s.next then Some (slice_index points n + 1) else None) ≡ Some (slice_index points k) → (s.next ≡ true) × (slice_index points k ≡ slice_index points n + 1)
      on true q e = let f : Some (slice_index points n + 1) ≡ Some (slice_index points k) = sym (ap (λ (b : Bool). if b then Some (slice_index points n + 1) else None) q) ∙ e in (q, (let g : slice_index points n + 1 ≡ slice_index points k = cc in sym g))
      on false q e = let f : None ≡ Some (slice_index points k) = sym (ap (λ (b : Bool). if b then Some (slice_index points n + 1) else None) q) ∙ e in cc

  jump-good : (k : ℕ) → jump ≡ Some k → (k < length points) × AreAdjacent steps bits width v points n k
  jump-good k e = let w = to-jump.some k e in (w.0, (s, here, inr w.2, w.1))

  abbrev Has : List Edge → ℕ → ℕ → Type 0
  Has es k m = (x : ℕ) × (e : Edge) × (slice_get es x ≡ Some e) × (e.from ≡ k) × (e.to ≡ m)

  has-left : (xs ys : List Edge) (k m : ℕ) → Has xs k m → Has (xs ++ ys) k m
  has-left xs ys k m (x, e, q, r, s) = (x, e, get-left xs x q, r, s)
    where
      get-left : (zs : List Edge) (x : ℕ) → slice_get zs x ≡ Some e → slice_get (zs ++ ys) x ≡ Some e
      get-left [] x q = cc
      get-left (z ∷ zs) zero q = q
      get-left (z ∷ zs) (suc x) q = get-left zs x q

  has-right : (xs ys : List Edge) (k m : ℕ) → Has ys k m → Has (xs ++ ys) k m
  has-right [] ys k m h = h
  has-right (z ∷ xs) ys k m h = let w = has-right xs ys k m h in (suc w.0, w.1, w.2, w.3, w.4)

  has-one : (to : Option ℕ) (m : ℕ) → to ≡ Some m → Has (edge_list n to) n m
  has-one None m e = cc
  has-one (Some k) m e = (0, record { from = n; to = k }, refl, refl, (let q : k ≡ m = cc in q))

  last : (m : ℕ) → m < length points → AreAdjacent steps bits width v points n m → Has ((edges ++ edge_list n next) ++ edge_list n jump) n m
  last m lm (t, at, goes, live) = by (subst (λ (z : Step). GoesOn z (slice_index points n) (slice_index points m)) (let q : t ≡ s = cc in q) goes)
    where
      by : GoesOn s (slice_index points n) (slice_index points m) → Has ((edges ++ edge_list n next) ++ edge_list n jump) n m
      by (inl g) =
          has-left (edges ++ edge_list n next) (edge_list n jump) n m (has-right edges (edge_list n next) n m (has-one next m
          (to-next.every m lm (ap (λ (b : Bool). if b then Some (slice_index points n + 1) else None) g.0 ∙ ap (λ z. Some z) (sym g.1)) live)))
      by (inr g) = has-right (edges ++ edge_list n next) (edge_list n jump) n m (has-one jump m (to-jump.every m lm g live))

  pub edges-more : AreEdges steps bits width v points (n + 1) after
  edges-more = subst (AreEdges steps bits width v points (n + 1)) (sym (ea ∙ ap (λ z. z ++ edge_list n jump) em)) record {
    each = each-append (edges ++ edge_list n next) (edge_list n jump) (each-append edges (edge_list n next) before.each (each-list next next-good)) (each-list jump jump-good);
    every = λ k m lk lm a. by k m lk lm a (eqb_tells k n);
  }
    where
      by : (k m : ℕ) → k < n + 1 → m < length points → AreAdjacent steps bits width v points k m → Tells k n → Has ((edges ++ edge_list n next) ++ edge_list n jump) k m
      by k m lk lm a (inl t) =
          subst (λ z. Has ((edges ++ edge_list n next) ++ edge_list n jump) z m) (sym t.1) (last m lm (subst (λ z. AreAdjacent steps bits width v points z m) t.1 a))
      by k m lk lm a (inr t) = has-left (edges ++ edge_list n next) (edge_list n jump) k m (has-left edges (edge_list n next) k m (before.every k m (omega (arith, lk, t.1)) lm a))

pub edges-within : (steps : List Step) (bits : List ℕ) (width v : ℕ) (points : List ℕ) (n : ℕ) (edges same : List Edge) → same ≡ edges → AreEdges steps bits width v points n edges → AreWithinNumber same (length points)
unfolding AreWithinNumber
edges-within steps bits width v points n edges same q es x e g = let w = es.each x e (ap (λ z. slice_get z x) (sym q) ∙ g) in (w.0, w.1)
