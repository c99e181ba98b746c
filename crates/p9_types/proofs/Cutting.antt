-- Offsets that are cut off beyond the limit: what is added to them may be cut off before or after.
use Rattle.std.proofs.Common.{◌≡◌, ◌<◌, ◌≤◌, ◌⊎◌, inl, inr, ℕ, ◌+◌, nat_le, Bool, true, false, not, if◌then◌else◌, Some, None, List, [], ◌∷◌, ◌++◌, map, refl, sym, ap, ◌∙◌, arith}
use Rattle.std.specs.List.{flat_map}
use Rattle.std.proofs.lemmas.Bool.{cases_lt}
use Rattle.std.proofs.lemmas.Bool.Decides.{nat_tests}
use Rattle.p9_lang.specs.Names.{is_nameless}
use Rattle.p9_lang.specs.Types.{TypeTree, Tagged, Tags}
use Rattle.p9_lang.specs.Members.{Part, Placed, part_at, unnamed_part, inner_parts, placed}
use Rattle.p9_types.specs.Capping.{capped}
use Rattle.p9_types.specs.Offsets.{kept_offset, cut_part, cut_placed, cut_unnamed, cut_inner}
use Rattle.p9_types.specs.Levels.{unmet}
use Rattle.p9_types.proofs.Arithmetic.{capped_again}
use Rattle.p9_types.proofs.Mapping.{map_flat}

-- offsets that count as alike are told alike
pub kept_alike : (a b : ℕ) → capped a ≡ capped b → kept_offset a ≡ kept_offset b
kept_alike a b e = by (cases_lt 16777216 a)
  where
    beyond : (n : ℕ) → 16777216 < n → kept_offset n ≡ None
    beyond n lt = ap (λ c. if c then Some n else None) (test n lt)
      where
        test : (n : ℕ) → 16777216 < n → nat_le n 16777216 ≡ false
        test n lt = grind (arith, nat_tests)

    by : (16777216 < a) ⊎ (a ≤ 16777216) → kept_offset a ≡ kept_offset b
    by (inl lt) = beyond a lt ∙ sym (beyond b (omega arith))
    by (inr le) = let same : a ≡ b = omega arith in ap kept_offset same

pub kept_cut : (n : ℕ) → kept_offset (capped n) ≡ kept_offset n
kept_cut n = kept_alike (capped n) n (capped_again n)

-- SUBSTRUCTURES

part_alike : (a b : ℕ) (t : TypeTree) → capped a ≡ capped b → map cut_part (part_at a t) ≡ map cut_part (part_at b t)
part_alike a b (Tagged i) e = ap (λ n. record { offset = n; tag = i } ∷ []) e
part_alike a b _ e = refl

-- one within two parts that count as alike, or told at two offsets that do
unnamed_alike : (o n : ℕ) (m k : Placed) → k.name ≡ m.name → k.type ≡ m.type → capped (o + m.offset) ≡ capped (n + k.offset) → cut_unnamed o m ≡ cut_unnamed n k
unnamed_alike o n m k e f g =
    by (is_nameless m.name)
    ∙ ap (λ t. map cut_part (if is_nameless m.name then part_at (n + k.offset) t else [])) (sym f)
    ∙ ap (λ x. map cut_part (if is_nameless x then part_at (n + k.offset) k.type else [])) (sym e)
  where
    by : (b : Bool) → map cut_part (if b then part_at (o + m.offset) m.type else []) ≡ map cut_part (if b then part_at (n + k.offset) m.type else [])
    by true = part_alike (o + m.offset) (n + k.offset) m.type g
    by false = refl

pub unnamed_cut : (o : ℕ) (ms : List Placed) → flat_map (cut_unnamed o) (map cut_placed ms) ≡ flat_map (cut_unnamed o) ms
unnamed_cut o [] = refl
unnamed_cut o (m ∷ ms) =
    ap (λ l. l ++ flat_map (cut_unnamed o) (map cut_placed ms)) (unnamed_alike o o (cut_placed m) m refl refl (sums o m.offset))
    ∙ ap (λ l. cut_unnamed o m ++ l) (unnamed_cut o ms)
  where
    sums : (o n : ℕ) → capped (o + capped n) ≡ capped (o + n)
    sums o n = omega arith

unnamed_within : (o : ℕ) (ms : List Placed) → flat_map (cut_unnamed (capped o)) ms ≡ flat_map (cut_unnamed o) ms
unnamed_within o [] = refl
unnamed_within o (m ∷ ms) =
    ap (λ l. l ++ flat_map (cut_unnamed (capped o)) ms) (unnamed_alike (capped o) o m m refl refl (sums o m.offset))
    ∙ ap (λ l. cut_unnamed o m ++ l) (unnamed_within o ms)
  where
    sums : (o n : ℕ) → capped (capped o + n) ≡ capped (o + n)
    sums o n = omega arith

pub inner_cut : (tags : Tags) (p : Part) → cut_inner tags (cut_part p) ≡ cut_inner tags p
inner_cut tags p = unnamed_within p.offset (placed tags p.tag)

-- LEVELS

-- what is looked for is told alike wherever offsets count as alike
abbrev pub IsBlind : {A : Type 0} → (Part → List A) → Type 0
IsBlind f = (p : Part) → f (cut_part p) ≡ f p

pub flat_blind : {A : Type 0} (f : Part → List A) → IsBlind f → (L : List Part) → flat_map f (map cut_part L) ≡ flat_map f L
flat_blind f h [] = refl
flat_blind f h (p ∷ L) = ap (λ l. l ++ flat_map f (map cut_part L)) (h p) ∙ ap (λ l. f p ++ l) (flat_blind f h L)

inner_is_cut : (tags : Tags) (L : List Part) → flat_map (cut_inner tags) L ≡ flat_map (λ p. map cut_part (inner_parts tags p)) L
inner_is_cut tags [] = refl
inner_is_cut tags (p ∷ L) =
    ap (λ l. l ++ flat_map (cut_inner tags) L) (map_flat cut_part (unnamed_part p.offset) (placed tags p.tag))
    ∙ ap (λ l. map cut_part (inner_parts tags p) ++ l) (inner_is_cut tags L)

pub level_cut : (tags : Tags) (L : List Part) → flat_map (cut_inner tags) L ≡ map cut_part (flat_map (inner_parts tags) L)
level_cut tags L = inner_is_cut tags L ∙ map_flat cut_part (inner_parts tags) L

pub unmet_cut : (met : ℕ → Bool) (L : List Part) → unmet met (map cut_part L) ≡ map cut_part (unmet met L)
unmet_cut met [] = refl
unmet_cut met (p ∷ L) = by (met p.tag) (unmet_cut met L)
  where
    by : (b : Bool) → unmet met (map cut_part L) ≡ map cut_part (unmet met L)
        → (if not b then cut_part p ∷ unmet met (map cut_part L) else unmet met (map cut_part L)) ≡ map cut_part (if not b then p ∷ unmet met L else unmet met L)
    by true e = e
    by false e = ap (λ l. cut_part p ∷ l) e

pub cut_again : (L : List Part) → map cut_part (map cut_part L) ≡ map cut_part L
cut_again [] = refl
cut_again (p ∷ L) =
    ap (λ n. record { offset = n; tag = p.tag } ∷ map cut_part (map cut_part L)) (capped_again p.offset) ∙ ap (λ l. cut_part p ∷ l) (cut_again L)
