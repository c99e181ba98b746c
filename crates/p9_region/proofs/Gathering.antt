-- The regions of all automatics.
use Rattle.std.proofs.Common.{ℕ, suc, ◌+◌, ◌*◌, ◌/◌, ◌%◌, ◌≡◌, ◌↔◌, ◌⊎◌, inl, inr, ◌≤◌, ◌<◌, Bool, true, false, Some, None, Option, refl, sym, ap, ◌∙◌, subst, arith, List, [], ◌++◌, length, slice_get, slice_index, slice_index_or, map}
use Rattle.std.specs.Int.{bit_at}
use Rattle.std.proofs.lemmas.Bool.{false≢true}
use Rattle.std.proofs.lemmas.Option.{slice_get_within}
use Rattle.std.proofs.Math.ListN.{get_or-eq_default}
use Rattle.p9_abs.specs.declared.instructions.AFunction.{AFunction}
use Rattle.p9_abs.specs.declared.regions.Region.{Region}
use Rattle.p9_abs.specs.Forms.{decoded}
use Rattle.p9_abs.specs.Automatics.{is_candidate, is_small_whole, IsLive}
use Rattle.p9_abs.specs.Regions.{AreRegions}
use Rattle.p9_flow.specs.declared.rows.Rows.{Rows}
use Rattle.p9_flow.specs.Rows.{AreLiveRows}
use Rattle.p9_region.specs.declared.steps.Step.{Step}
use Rattle.p9_region.specs.declared.classes.Edge.{Edge}
use Rattle.p9_region.specs.Labels.{AreClasses}
use Rattle.p9_region.specs.Picking.{step_of, AreEdges, groups}
use Rattle.p9_region.specs.Finding.{points_in, AddsRegions, AddsIf, AreRegionsBelow}
use Rattle.p9_region.proofs.Telling.{are-points, adjacent-leads, leads-adjacent}
use Rattle.p9_region.proofs.Joining.{way-joined, joined-way}
use Rattle.p9_region.proofs.Grouping.{regions-more, regions-same}

candidate-within : (f : AFunction) (v : ℕ) → is_candidate f v ≡ true → v < length f.autos
candidate-within f v h = by (slice_get f.autos v) refl
  where
    by : (o : Option ℕ) → slice_get f.autos v ≡ o → v < length f.autos
    by None e = absurd (false≢true (sym (ap (λ o. is_small_whole f.code v o (λ i. true)) e) ∙ h))
    by (Some size) e = slice_get_within f.autos v size e

abbrev Exact : AFunction → List ℕ → ℕ → ℕ → Type 0
Exact f bits width v = (i : ℕ) → i < length f.code → (bit_at (slice_index bits (i * width + v / 64)) (v % 64) ≡ 1) ↔ ((is_candidate f v ≡ true) × IsLive f v i)

exact-rows : (f : AFunction) (rows : Rows) (bits : List ℕ) (v : ℕ) → AreLiveRows f rows → bits ≡ rows.bits.items → is_candidate f v ≡ true → Exact f bits rows.width v
exact-rows f rows bits v r e c i l =
    let within = candidate-within f v c in
    let room : v < 64 * rows.width = (let w = r.width in omega (arith, w, within)) in
    subst (λ z. (bit_at (slice_index z (i * rows.width + v / 64)) (v % 64) ≡ 1) ↔ ((is_candidate f v ≡ true) × IsLive f v i)) (sym e) (r.bits i v l room)

added-regions : (f : AFunction) (steps : List Step) (bits : List ℕ) (width v : ℕ) (old new : List Region) → steps ≡ map (λ a. step_of (decoded a)) f.code → is_candidate f v ≡ true → Exact f bits width v →
    AddsRegions steps bits width v old new → AreRegionsBelow f v old → AreRegionsBelow f (suc v) new
added-regions f steps bits width v old new same c exact adds before =
    let points = points_in steps bits width v in
    let all = are-points f steps bits width v same c exact in
    regions-more f v (points_in steps bits width v) adds.labels adds.edges c all adds.classes
    (λ a b way. way-joined f steps bits width v (points_in steps bits width v) adds.edges all (adjacent-leads f steps bits width v same c exact (points_in steps bits width v)) (leads-adjacent f steps bits width v same c exact (points_in steps bits width v)) adds.joined a b way.0 way.1)
    (λ a i k l e way. joined-way f steps bits width v (points_in steps bits width v) adds.edges all (adjacent-leads f steps bits width v same c exact (points_in steps bits width v)) (leads-adjacent f steps bits width v same c exact (points_in steps bits width v)) adds.joined a i k way.0 l e way.1)
    old new adds.added before

pub next-regions : (f : AFunction) (rows : Rows) (steps : List Step) (bits : List ℕ) (v : ℕ) (b : Bool) (old new : List Region) → AreLiveRows f rows → bits ≡ rows.bits.items →
    steps ≡ map (λ a. step_of (decoded a)) f.code → b ≡ is_candidate f v → AddsIf b steps bits rows.width v old new → AreRegionsBelow f v old → AreRegionsBelow f (v + 1) new
next-regions f rows steps bits v true old new r eb same c adds before =
    subst (λ n. AreRegionsBelow f n new) (let q : suc v ≡ v + 1 = omega arith in q)
    (added-regions f steps bits rows.width v old new same (sym c) (exact-rows f rows bits v r eb (sym c)) adds before)
next-regions f rows steps bits v false old new r eb same c adds before =
    subst (λ n. AreRegionsBelow f n new) (let q : suc v ≡ v + 1 = omega arith in q) (regions-same f v old new (sym c) adds before)

pub first-regions : (f : AFunction) (rs : List Region) → rs ≡ [] → AreRegionsBelow f 0 rs
first-regions f rs e = record {
  each = λ k d l. absurd (omega (arith, l, ap length e));
  below = λ k d l. absurd (omega (arith, l, ap length e));
  ordered = λ i j d l h. absurd (omega (arith, h, ap length e));
  every = λ v i l. absurd (omega (arith, l));
}

pub all-regions : (f : AFunction) (n : ℕ) (candidates : List Bool) (rs : List Region) → n ≡ length candidates → ((v : ℕ) → slice_index_or candidates v false ≡ is_candidate f v) → AreRegionsBelow f n rs → AreRegions f rs
all-regions f n candidates rs e exact r = record {
  each = r.each;
  ordered = r.ordered;
  every = λ v i c p. r.every v i (below v c (order v (length candidates))) c p;
}
  where
    order : (a b : ℕ) → (a < b) ⊎ (b ≤ a)
    order a b = grind (arith)

    below : (v : ℕ) → is_candidate f v ≡ true → (v < length candidates) ⊎ (length candidates ≤ v) → v < n
    below v c (inl l) = omega (arith, l, e)
    below v c (inr l) = absurd (false≢true (sym (get_or-eq_default candidates false l) ∙ (exact v ∙ c)))

pub adds-regions : (steps : List Step) (bits : List ℕ) (width v : ℕ) (points : List ℕ) (edges same : List Edge) (labels also : List ℕ) (old new : List Region) → points ≡ points_in steps bits width v → same ≡ edges →
    AreEdges steps bits width v points (length points) edges → AreClasses same (length points) labels → also ≡ labels → new ≡ old ++ groups v points also (length points) → AddsRegions steps bits width v old new
adds-regions steps bits width v points edges same labels also old new ep es h c el a = record {
  edges = same;
  labels = labels;
  joined = subst (λ z. AreEdges steps bits width v z (length z) same) ep (subst (AreEdges steps bits width v points (length points)) (sym es) h);
  classes = subst (λ z. AreClasses same (length z) labels) ep c;
  added = a ∙ (ap (λ z. old ++ groups v points z (length points)) el ∙ ap (λ z. old ++ groups v z labels (length z)) ep);
}
