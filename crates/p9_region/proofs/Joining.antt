-- Ways of edges between points are ways of joined points, and back.
use Rattle.std.proofs.Common.{ℕ, ◌≡◌, ◌⊎◌, inl, inr, ◌<◌, Some, refl, sym, ap, ◌∙◌, subst, List, [], ◌∷◌, length, slice_get, slice_index}
use Rattle.std.proofs.lemmas.List.{get_or_default}
use Rattle.std.proofs.lemmas.List.Elements.{Contains-get_or}
use Rattle.p9_abs.specs.declared.instructions.AFunction.{AFunction}
use Rattle.p9_abs.specs.Regions.{IsPoint, Leads, JoinedAlong, AreJoined}
use Rattle.p9_region.specs.declared.steps.Step.{Step}
use Rattle.p9_region.specs.declared.classes.Edge.{Edge}
use Rattle.p9_region.specs.Labels.{AreLinked, IsWayAlong, IsWay}
use Rattle.p9_region.specs.Picking.{ArePoints, AreAdjacent, AreEdges}

-- Ways of joined points

pub joined-on : (f : AFunction) (v i j k : ℕ) (way rest : List ℕ) → JoinedAlong f v i way j → JoinedAlong f v j rest k → AreJoined f v i k
joined-on f v i j k [] rest a b = (rest, subst (λ z. JoinedAlong f v z rest k) (sym a) b)
joined-on f v i j k (m ∷ way) rest a b = let w = joined-on f v m j k way rest a.1 b in (m ∷ w.0, (a.0, w.1))

turned : (f : AFunction) (v i j : ℕ) → Leads f v i j ⊎ Leads f v j i → Leads f v j i ⊎ Leads f v i j
turned f v i j (inl x) = inr x
turned f v i j (inr x) = inl x

pub joined-back : (f : AFunction) (v i k : ℕ) (way : List ℕ) → JoinedAlong f v i way k → AreJoined f v k i
joined-back f v i k [] e = ([], sym e)
joined-back f v i k (j ∷ way) (a, b) = let w = joined-back f v j k way b in joined-on f v k j i w.0 (i ∷ []) w.1 (turned f v i j a, refl)

-- where a way ends is a point
end-point : (f : AFunction) (v i k : ℕ) (way : List ℕ) → IsPoint f v i → JoinedAlong f v i way k → IsPoint f v k
end-point f v i k [] p e = subst (IsPoint f v) e p
end-point f v i k (j ∷ way) p (inl leads, rest) = end-point f v j k way (inl leads.3) rest
end-point f v i k (j ∷ way) p (inr leads, rest) = end-point f v j k way leads.0 rest

module _ (f : AFunction) (steps : List Step) (bits : List ℕ) (width v : ℕ) (points : List ℕ) (edges : List Edge) (all : ArePoints f v points)
    (leads : (k m : ℕ) → IsPoint f v (slice_index points k) → IsPoint f v (slice_index points m) → AreAdjacent steps bits width v points k m → Leads f v (slice_index points k) (slice_index points m))
    (adjacent : (k m : ℕ) → Leads f v (slice_index points k) (slice_index points m) → AreAdjacent steps bits width v points k m)
    (es : AreEdges steps bits width v points (length points) edges) where
  point-at : (k : ℕ) → k < length points → IsPoint f v (slice_index points k)
  point-at k l = all.each (slice_index points k) (Contains-get_or points k 0 l)

  edge-leads : (x : ℕ) (e : Edge) → slice_get edges x ≡ Some e → Leads f v (slice_index points e.from) (slice_index points e.to)
  edge-leads x e g = let h = es.each x e g in leads e.from e.to (point-at e.from h.0) (point-at e.to h.1) h.2

  link-joins : (a b : ℕ) → AreLinked edges a b → Leads f v (slice_index points a) (slice_index points b) ⊎ Leads f v (slice_index points b) (slice_index points a)
  link-joins a b (x, e, g, inl s) = inl (subst (λ z. Leads f v (slice_index points z) (slice_index points b)) s.0 (subst (λ z. Leads f v (slice_index points e.from) (slice_index points z)) s.1 (edge-leads x e g)))
  link-joins a b (x, e, g, inr s) = inr (subst (λ z. Leads f v (slice_index points z) (slice_index points a)) s.0 (subst (λ z. Leads f v (slice_index points e.from) (slice_index points z)) s.1 (edge-leads x e g)))

  pub way-joined : (a b : ℕ) (path : List ℕ) → IsWayAlong edges a b path → AreJoined f v (slice_index points a) (slice_index points b)
  way-joined a b [] e = ([], ap (slice_index points) e)
  way-joined a b (m ∷ path) (l, rest) = let w = way-joined m b path rest in (slice_index points m ∷ w.0, (link-joins a m l, w.1))

  -- the number of a point
  abbrev Place : ℕ → Type 0
  Place i = (k : ℕ) × (k < length points) × (slice_index points k ≡ i)

  place : (i : ℕ) → IsPoint f v i → Place i
  place i p = let c = all.every i p in (c.0, c.1, get_or_default points c.0 0 i c.1 ∙ c.2)

  linked-on : (a b : ℕ) → a < length points → b < length points → Leads f v (slice_index points a) (slice_index points b) → AreLinked edges a b
  linked-on a b la lb h = let w = es.every a b la lb (adjacent a b h) in (w.0, w.1, w.2, inl (w.3, w.4))

  linked-back : (a b : ℕ) → AreLinked edges a b → AreLinked edges b a
  linked-back a b (x, e, g, inl s) = (x, e, g, inr s)
  linked-back a b (x, e, g, inr s) = (x, e, g, inl s)

  abbrev Arrives : ℕ → ℕ → Type 0
  Arrives a j = (b : ℕ) × (b < length points) × (slice_index points b ≡ j) × IsWay edges a b

  pub joined-way : (a i k : ℕ) (way : List ℕ) → a < length points → slice_index points a ≡ i → JoinedAlong f v i way k → Arrives a k
  joined-way a i k [] la ea e = (a, la, ea ∙ e, ([], refl))
  joined-way a i k (j ∷ way) la ea (inl h, rest) =
      let p = place j (inl h.3) in
      let link = linked-on a p.0 la p.1 (subst (λ z. Leads f v z (slice_index points p.0)) (sym ea) (subst (λ z. Leads f v i z) (sym p.2) h)) in
      let w = joined-way p.0 j k way p.1 p.2 rest in
      (w.0, w.1, w.2, (p.0 ∷ w.3.0, (link, w.3.1)))
  joined-way a i k (j ∷ way) la ea (inr h, rest) =
      let p = place j h.0 in
      let link = linked-on p.0 a p.1 la (subst (λ z. Leads f v (slice_index points p.0) z) (sym ea) (subst (λ z. Leads f v z i) (sym p.2) h)) in
      let w = joined-way p.0 j k way p.1 p.2 rest in
      (w.0, w.1, w.2, (p.0 ∷ w.3.0, (linked-back p.0 a link, w.3.1)))
