-- Searches that can't tell offsets apart which count as alike.
use Rattle.std.proofs.Common.{◌≡◌, ℕ, zero, suc, ◌||◌, Bool, List, [], ◌∷◌, map, refl, sym, ap, subst, ◌∙◌}
use Rattle.std.specs.List.{flat_map}
use Rattle.p9_lang.specs.Types.{Tags}
use Rattle.p9_lang.specs.Members.{Part, or_deeper, inner_parts, sought}
use Rattle.p9_types.specs.Levels.{SameLevel, unmet}
use Rattle.p9_types.specs.Offsets.{cut_part, cut_inner}
use Rattle.p9_types.proofs.Tallies.{IsUniform, same_back}
use Rattle.p9_types.proofs.Pruning.{AllParts, all_same, among, Hollow}
use Rattle.p9_types.proofs.Descent.{same_sought}
use Rattle.p9_types.proofs.Searching.{Covers, next_covers, next_sought}
use Rattle.p9_types.proofs.Cutting.{IsBlind, flat_blind, inner_cut, level_cut, unmet_cut, cut_again}

alike_flat : {A : Type 0} (f : Part → List A) → IsBlind f → (L M : List Part) → map cut_part L ≡ map cut_part M → flat_map f L ≡ flat_map f M
alike_flat f h L M e = sym (flat_blind f h L) ∙ ap (flat_map f) e ∙ flat_blind f h M

alike_sought : {A : Type 0} (tags : Tags) (has : Part → List A) → IsBlind has → (d : ℕ) (L M : List Part) → map cut_part L ≡ map cut_part M
    → sought d tags has L ≡ sought d tags has M
alike_sought tags has h zero L M e = refl
alike_sought tags has h (suc d) L M e =
    ap (λ l. or_deeper l (sought d tags has (flat_map (inner_parts tags) L))) (alike_flat has h L M e)
    ∙ ap (or_deeper (flat_map has M)) (alike_sought tags has h d (flat_map (inner_parts tags) L) (flat_map (inner_parts tags) M) below)
  where
    below : map cut_part (flat_map (inner_parts tags) L) ≡ map cut_part (flat_map (inner_parts tags) M)
    below = sym (level_cut tags L) ∙ alike_flat (cut_inner tags) (inner_cut tags) L M e ∙ level_cut tags M

uncut : (P : ℕ → Type 0) (L : List Part) → AllParts P (map cut_part L) → AllParts P L
uncut P [] h = tt
uncut P (p ∷ L) h = (h.0, uncut P L h.1)

-- the next level is told with its offsets cut off
module _ {A : Type 0} (tags : Tags) (has : Part → List A) (u : IsUniform has) (blind : IsBlind has) (met later : ℕ → Bool) (L : List Part)
    (c : Covers tags has met L) (none : flat_map has L ≡ []) (meets : (s : ℕ) → later s ≡ (among s L || met s))
    (M : List Part) (h : SameLevel M (unmet later (flat_map (cut_inner tags) L))) where
  abbrev N : List Part
  N = unmet later (flat_map (inner_parts tags) L)

  told : unmet later (flat_map (cut_inner tags) L) ≡ map cut_part N
  told = ap (unmet later) (level_cut tags L) ∙ unmet_cut later (flat_map (inner_parts tags) L)

  same : SameLevel M (map cut_part N)
  same = subst (SameLevel M) told h

  pub cut_covers : Covers tags has later M
  cut_covers = record {
    covers = λ r a. (next_covers tags has u met later L c none meets N (λ s. refl)).covers r (uncut (Hollow tags has r) N (all_same (Hollow tags has r) M (map cut_part N) same a));
  }

  pub cut_sought : (d : ℕ) → sought (suc d) tags has L ≡ sought d tags has M
  cut_sought d =
      next_sought tags has u met later L c none meets d N (λ s. refl)
      ∙ alike_sought tags has blind d N (map cut_part N) (sym (cut_again N))
      ∙ same_sought tags has u d (map cut_part N) M (same_back M (map cut_part N) same)
