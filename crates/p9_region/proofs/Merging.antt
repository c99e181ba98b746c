-- Labels sink to the least members of their classes.
use Rattle.std.proofs.Common.{ℕ, ◌+◌, ◌==◌, ◌≡◌, ◌≢◌, ◌⊎◌, inl, inr, ◌≤◌, ◌<◌, Bool, true, false, Some, refl, sym, ap, ◌∙◌, subst, arith, List, [], ◌∷◌, length, slice_get, slice_index, slice_set, sum, get_or}
use Rattle.std.proofs.lemmas.Bool.{false≢true}
use Rattle.std.proofs.lemmas.Bool.Decides.{eqb_tells}
use Rattle.std.proofs.lemmas.Option.{slice_get_within, slice_get-get_or}
use Rattle.std.proofs.lemmas.List.{get_or-set_same, get_or-set_other, length-set}
use Rattle.std.proofs.lemmas.List.Sums.{sum_by-set}
use Rattle.p9_region.specs.declared.classes.Edge.{Edge}
use Rattle.p9_region.specs.Labels.{AreWithinNumber, AreLinked, IsWayAlong, IsWay, AreLabels, AreEqual, AreClasses, IsJoint, IsSunk, IsMerging}

abbrev Tells : ℕ → ℕ → Type 0
Tells x y = (((x == y) ≡ true) × (x ≡ y)) ⊎ (((x == y) ≡ false) × (x ≢ y))

-- a lesser label of a neighbour is one too
sunk : (edges : List Edge) (labels : List ℕ) (i j : ℕ) → AreLinked edges i j → i < length labels → j < length labels → slice_index labels j < slice_index labels i → AreLabels edges labels →
    AreLabels edges (slice_set labels i (slice_index labels j))
unfolding AreLabels
sunk edges labels i j link li lj less h k lk = go (eqb_tells k i)
  where
    to : IsWay edges j (slice_index labels j)
    to = (h j lj).0

    low : slice_index labels i ≤ i
    low = (h i li).1

    here : slice_index (slice_set labels i (slice_index labels j)) i ≡ slice_index labels j
    here = get_or-set_same labels i (slice_index labels j) 0 li

    go : Tells k i → IsWay edges k (slice_index (slice_set labels i (slice_index labels j)) k) × (slice_index (slice_set labels i (slice_index labels j)) k ≤ k)
    go (inl q) = subst (λ z. IsWay edges z (slice_index (slice_set labels i (slice_index labels j)) z) × (slice_index (slice_set labels i (slice_index labels j)) z ≤ z)) (sym q.1)
        (subst (λ z. IsWay edges i z × (z ≤ i)) (sym here) ((j ∷ to.0, (link, to.1)), omega (arith, less, low)))
    go (inr q) =
        let other : slice_index (slice_set labels i (slice_index labels j)) k ≡ slice_index labels k = get_or-set_other labels i k (slice_index labels j) 0 q.1 in
        subst (λ z. IsWay edges k z × (z ≤ k)) (sym other) (h k (omega (arith, lk, length-set labels i (slice_index labels j))))

sunk-sum : (labels : List ℕ) (i v : ℕ) → i < length labels → v < slice_index labels i → sum (slice_set labels i v) < sum labels
sunk-sum labels i v l h = let s : sum (slice_set labels i v) + slice_index labels i ≡ sum labels + v = sum_by-set (λ x. x) labels i v 0 l in omega (arith, s, h)

pub merging-first : (edges : List Edge) (labels : List ℕ) → AreLabels edges labels → IsMerging edges labels labels 0 false
unfolding AreEqual
merging-first edges labels h = record { same = refl; labelled = h; least = omega arith; less = λ q. absurd (false≢true q); equal = λ q k e l. absurd (omega arith) }

pub merging-same : (edges : List Edge) (first labels after : List ℕ) (n : ℕ) (changed : Bool) (e : Edge) → IsMerging edges first labels n changed → slice_get edges n ≡ Some e → IsJoint e labels after → IsMerging edges first after (n + 1) changed
unfolding AreEqual
merging-same edges first labels after n changed e m at j = subst (λ z. IsMerging edges first z (n + 1) changed) (sym j.same)
    record { same = m.same; labelled = m.labelled; least = m.least; less = m.less; equal = λ q k d l g. go q k d l g (eqb_tells k n) }
  where
    go : changed ≡ false → (k : ℕ) (d : Edge) → k < n + 1 → slice_get edges k ≡ Some d → Tells k n → slice_index labels d.from ≡ slice_index labels d.to
    go q k d l g (inl t) = let s : e ≡ d = cc (ap (slice_get edges) t.1) in subst (λ (z : Edge). slice_index labels z.from ≡ slice_index labels z.to) s j.equal
    go q k d l g (inr t) = m.equal q k d (omega (arith, l, t.1)) g

pub merging-less : (edges : List Edge) (first labels after : List ℕ) (n : ℕ) (changed : Bool) (e : Edge) → AreWithinNumber edges (length first) → IsMerging edges first labels n changed → slice_get edges n ≡ Some e → IsSunk e labels after → IsMerging edges first after (n + 1) true
unfolding AreWithinNumber
merging-less edges first labels after n changed e w m at (inl s) =
    let b = w n e at in
    let down : sum (slice_set labels e.to (slice_index labels e.from)) < sum labels = sunk-sum labels e.to _ (omega (arith, b.1, m.same)) s.0 in
    subst (λ z. IsMerging edges first z (n + 1) true) (sym s.1) record {
      same = length-set labels e.to _ ∙ m.same;
      labelled = sunk edges labels e.to e.from (n, e, at, inr (refl, refl)) (omega (arith, b.1, m.same)) (omega (arith, b.0, m.same)) s.0 m.labelled;
      least = omega (arith, down, m.least);
      less = λ q. omega (arith, down, m.least);
      equal = λ q. absurd (false≢true (sym q));
    }
merging-less edges first labels after n changed e w m at (inr s) =
    let b = w n e at in
    let down : sum (slice_set labels e.from (slice_index labels e.to)) < sum labels = sunk-sum labels e.from _ (omega (arith, b.0, m.same)) s.0 in
    subst (λ z. IsMerging edges first z (n + 1) true) (sym s.1) record {
      same = length-set labels e.from _ ∙ m.same;
      labelled = sunk edges labels e.from e.to (n, e, at, inl (refl, refl)) (omega (arith, b.0, m.same)) (omega (arith, b.1, m.same)) s.0 m.labelled;
      least = omega (arith, down, m.least);
      less = λ q. omega (arith, down, m.least);
      equal = λ q. absurd (false≢true (sym q));
    }

pub back-step : (edges : List Edge) (labels after : List ℕ) (n : ℕ) (e : Edge) → AreWithinNumber edges (length labels) → slice_get edges n ≡ Some e → IsJoint e labels after ⊎ IsSunk e labels after → AreLabels edges labels →
    (length after ≡ length labels) × AreLabels edges after × (sum after ≤ sum labels)
unfolding AreWithinNumber
back-step edges labels after n e w at (inl j) h = subst (λ z. (length z ≡ length labels) × AreLabels edges z × (sum z ≤ sum labels)) (sym j.same) (refl, h, omega arith)
back-step edges labels after n e w at (inr (inl s)) h =
    let b = w n e at in
    let down : sum (slice_set labels e.to (slice_index labels e.from)) < sum labels = sunk-sum labels e.to _ b.1 s.0 in
    subst (λ z. (length z ≡ length labels) × AreLabels edges z × (sum z ≤ sum labels)) (sym s.1)
    (length-set labels e.to _, sunk edges labels e.to e.from (n, e, at, inr (refl, refl)) b.1 b.0 s.0 h, omega (arith, down))
back-step edges labels after n e w at (inr (inr s)) h =
    let b = w n e at in
    let down : sum (slice_set labels e.from (slice_index labels e.to)) < sum labels = sunk-sum labels e.from _ b.0 s.0 in
    subst (λ z. (length z ≡ length labels) × AreLabels edges z × (sum z ≤ sum labels)) (sym s.1)
    (length-set labels e.from _, sunk edges labels e.from e.to (n, e, at, inl (refl, refl)) b.0 b.1 s.0 h, omega (arith, down))

equal-along : (edges : List Edge) (labels : List ℕ) → ((k : ℕ) (e : Edge) → slice_get edges k ≡ Some e → slice_index labels e.from ≡ slice_index labels e.to) →
    (path : List ℕ) (i k : ℕ) → IsWayAlong edges i k path → slice_index labels i ≡ slice_index labels k
equal-along edges labels h [] i k e = ap (slice_index labels) e
equal-along edges labels h (j ∷ js) i k (link, rest) = one link.3 ∙ equal-along edges labels h js j k rest
  where
    one : ((link.1.from ≡ i) × (link.1.to ≡ j)) ⊎ ((link.1.from ≡ j) × (link.1.to ≡ i)) → slice_index labels i ≡ slice_index labels j
    one (inl s) = sym (ap (slice_index labels) s.0) ∙ (h link.0 link.1 link.2 ∙ ap (slice_index labels) s.1)
    one (inr s) = sym (ap (slice_index labels) s.1) ∙ (sym (h link.0 link.1 link.2) ∙ ap (slice_index labels) s.0)

pub are-classes : (edges : List Edge) (n : ℕ) (labels back : List ℕ) → back ≡ labels → length labels ≡ n → AreLabels edges labels → AreEqual edges labels (length edges) → AreClasses edges n back
unfolding AreLabels AreEqual
are-classes edges n labels back q all h equal = subst (λ z. AreClasses edges n z) (sym q) record {
  all = all;
  member = λ i l. (h i (omega (arith, all, l))).0;
  low = λ i l. (h i (omega (arith, all, l))).1;
  one = λ i j way. one way.0 i j way.1;
}
  where
    one : (path : List ℕ) (i k : ℕ) → IsWayAlong edges i k path → slice_index labels i ≡ slice_index labels k
    one path i k w = equal-along edges labels (λ k e at. equal k e (slice_get_within edges k e at) at) path i k w

pub own-labels : (edges : List Edge) (n : ℕ) (labels : List ℕ) → length labels ≡ n → ((i : ℕ) → i < n → slice_index labels i ≡ i) → AreLabels edges labels
unfolding AreLabels
own-labels edges n labels all own i l = let e = own i (omega (arith, all, l)) in (([], sym e), omega (arith, e))

pub within-at : (edges : List Edge) (n k : ℕ) (e : Edge) → AreWithinNumber edges n → slice_get edges k ≡ Some e → (e.from < n) × (e.to < n)
unfolding AreWithinNumber
within-at edges n k e w at = w k e at

pub from-within : (edges : List Edge) (n m k : ℕ) (d : Edge) → AreWithinNumber edges n → k < length edges → n ≡ m → (get_or edges k d).from < m
from-within edges n m k d w l e = let s = within-at edges n k (get_or edges k d) w (slice_get-get_or edges k d l) in omega (arith, s.0, e)

pub to-within : (edges : List Edge) (n m k : ℕ) (d : Edge) → AreWithinNumber edges n → k < length edges → n ≡ m → (get_or edges k d).to < m
to-within edges n m k d w l e = let s = within-at edges n k (get_or edges k d) w (slice_get-get_or edges k d l) in omega (arith, s.1, e)

pub either : (b : Bool) {A B : Type 0} → (b ≡ false → A) → (b ≡ true → B) → A ⊎ B
either true f g = inr (g refl)
either false f g = inl (f refl)
