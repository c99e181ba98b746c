-- From one level to the next.
use Rattle.std.proofs.Common.{◌≡◌, ℕ, zero, suc, Bool, true, false, not, ◌||◌, if◌then◌else◌, List, [], ◌∷◌, ◌++◌, true≢false, refl, sym, ap, ◌∙◌}
use Rattle.std.specs.List.{flat_map, filter}
use Rattle.p9_lang.specs.Types.{Tags}
use Rattle.p9_lang.specs.Members.{Part, or_deeper, offset_if, inner_parts, sought}
use Rattle.p9_types.specs.Levels.{stands_at, SameLevel, unmet}
use Rattle.p9_types.proofs.Tallies.{IsUniform, tally_flat, together_comm, parted, same_back}
use Rattle.p9_types.proofs.Descent.{same_sought}
use Rattle.p9_types.proofs.Pruning.{AllParts, all_parts, among, all_among, all_same, Hollow, hollow_less, all_zero, hollow_here, absorbed}

-- those met

all_unmet : (P : ℕ → Type 0) (met : ℕ → Bool) → ((s : ℕ) → met s ≡ true → P s) → (N : List Part) → AllParts P (unmet met N) → AllParts P N
all_unmet P met f [] h = tt
all_unmet P met f (p ∷ N) h = by (met p.tag) refl h (all_unmet P met f N)
  where
    by : (b : Bool) → met p.tag ≡ b → AllParts P (if not b then p ∷ unmet met N else unmet met N) → (AllParts P (unmet met N) → AllParts P N) → AllParts P (p ∷ N)
    by true e k g = (f p.tag e, g k)
    by false e k g = (k.0, g k.1)

all_met : (P : ℕ → Type 0) (met : ℕ → Bool) → ((s : ℕ) → met s ≡ true → P s) → (N : List Part) → AllParts P (filter (λ p. met p.tag) N)
all_met P met f [] = tt
all_met P met f (p ∷ N) = by (met p.tag) refl (all_met P met f N)
  where
    by : (b : Bool) → met p.tag ≡ b → AllParts P (filter (λ q. met q.tag) N) → AllParts P (if b then p ∷ filter (λ q. met q.tag) N else filter (λ q. met q.tag) N)
    by true e k = (f p.tag e, k)
    by false e k = k

split_level : (met : ℕ → Bool) (N : List Part) → SameLevel N (unmet met N ++ filter (λ p. met p.tag) N)
split_level met N s =
    parted (offset_if s) (λ p. met p.tag) N
    ∙ together_comm (stands_at s (filter (λ p. met p.tag) N)) (stands_at s (unmet met N))
    ∙ sym (tally_flat (offset_if s) (unmet met N) (filter (λ p. met p.tag) N))

module _ {A : Type 0} (tags : Tags) (has : Part → List A) where
  -- where a level has nothing to a depth, what was met has nothing to the next depth
  pub record Covers (met : ℕ → Bool) (level : List Part) : Type 0 where
    pub covers : (r : ℕ) → AllParts (Hollow tags has r) level → (s : ℕ) → met s ≡ true → Hollow tags has (suc r) s

  pub nothing_met : (met : ℕ → Bool) (level : List Part) → ((s : ℕ) → met s ≡ false) → Covers met level
  nothing_met met level f = record { covers = λ r h s e. absurd (true≢false (sym e ∙ f s)) }

  module _ (u : IsUniform has) (met later : ℕ → Bool) (L : List Part) (c : Covers met L) (none : flat_map has L ≡ []) (meets : (s : ℕ) → later s ≡ (among s L || met s)) where
    concluded : (r : ℕ) → AllParts (Hollow tags has r) (flat_map (inner_parts tags) L) → (s : ℕ) → later s ≡ true → Hollow tags has (suc r) s
    concluded r h s e = by (among s L) refl (sym (meets s) ∙ e)
      where
        all : AllParts (Hollow tags has (suc r)) L
        all = hollow_here tags has u r L none h

        by : (b : Bool) → among s L ≡ b → (b || met s) ≡ true → Hollow tags has (suc r) s
        by true f g = all_among (Hollow tags has (suc r)) s L all f
        by false f g = hollow_less tags has (suc r) s (c.covers (suc r) all s g)

    covered : (r : ℕ) → AllParts (Hollow tags has r) (unmet later (flat_map (inner_parts tags) L)) → (s : ℕ) → later s ≡ true → Hollow tags has (suc r) s
    covered zero h = concluded zero (all_zero tags has (flat_map (inner_parts tags) L))
    covered (suc r) h =
        concluded (suc r)
        (all_unmet (Hollow tags has (suc r)) later
        (covered r (all_parts (Hollow tags has (suc r)) (Hollow tags has r) (hollow_less tags has r) (unmet later (flat_map (inner_parts tags) L)) h))
        (flat_map (inner_parts tags) L) h)

    pub next_covers : (M : List Part) → SameLevel M (unmet later (flat_map (inner_parts tags) L)) → Covers later M
    next_covers M h = record {
      covers = λ r a. covered r (all_same (Hollow tags has r) M (unmet later (flat_map (inner_parts tags) L)) h a);
    }

    pub next_sought : (d : ℕ) (M : List Part) → SameLevel M (unmet later (flat_map (inner_parts tags) L)) → sought (suc d) tags has L ≡ sought d tags has M
    next_sought d M h =
        ap (λ l. or_deeper l (sought d tags has (flat_map (inner_parts tags) L))) none
        ∙ same_sought tags has u d (flat_map (inner_parts tags) L) (unmet later (flat_map (inner_parts tags) L) ++ filter (λ p. later p.tag) (flat_map (inner_parts tags) L)) (split_level later (flat_map (inner_parts tags) L))
        ∙ absorbed tags has u d (unmet later (flat_map (inner_parts tags) L)) (filter (λ p. later p.tag) (flat_map (inner_parts tags) L))
        (λ r a. all_met (Hollow tags has (suc r)) later (covered r a) (flat_map (inner_parts tags) L))
        ∙ same_sought tags has u d (unmet later (flat_map (inner_parts tags) L)) M (same_back M (unmet later (flat_map (inner_parts tags) L)) h)
