-- Searches level by level, as loops over levels.
use Rattle.std.proofs.Common.{◌≡◌, ◌<◌, ℕ, zero, suc, ◌-◌, nat_eq, Bool, true, false, ◌||◌, if◌then◌else◌, List, [], ◌∷◌, ◌++◌, length, map, Option, append-nil, refl, sym, ap, subst, ◌∙◌, arith}
use Rattle.std.specs.List.{flat_map}
use Rattle.std.proofs.lemmas.Bool.Decides.{nat_tests}
use Rattle.p9_lang.specs.declared.types.Tag.{Tag}
use Rattle.p9_lang.specs.Types.{Tags, tags_of}
use Rattle.p9_lang.specs.Members.{Part, Sought, Nowhere, One, Several, or_deeper, offset_if, sought, inner_parts, find_substructure, whole}
use Rattle.p9_types.specs.declared.level.Standing.{Standing}
use Rattle.p9_types.specs.Capping.{capped}
use Rattle.p9_types.specs.Offsets.{kept_offset, kept_if, cut_inner}
use Rattle.p9_types.specs.Sightings.{sought_map}
use Rattle.p9_types.specs.Levels.{tally, copies, together, unmet, Adds}
use Rattle.p9_types.specs.Standings.{part_of, copies_of, spread, stands_in}
use Rattle.p9_types.proofs.Mapping.{sought_mapped}
use Rattle.p9_types.proofs.Cutting.{IsBlind, kept_cut}
use Rattle.p9_types.proofs.Tallies.{IsUniform}
use Rattle.p9_types.proofs.Pruning.{among}
use Rattle.p9_types.proofs.Searching.{Covers, nothing_met}
use Rattle.p9_types.proofs.Blindness.{cut_covers, cut_sought}

tally_bare : {A : Type 0} (xs : List A) → tally xs ≡ Nowhere → xs ≡ []
tally_bare [] e = refl
tally_bare (x ∷ []) e = cc
tally_bare (x ∷ (y ∷ ys)) e = cc

among_copies : (i : ℕ) (b : Bool) (p : Part) (L : List Part) → among i (copies b p ++ L) ≡ (nat_eq p.tag i || among i L)
among_copies i true p L = by (nat_eq p.tag i)
  where
    by : (c : Bool) → (c || (c || among i L)) ≡ (c || among i L)
    by true = refl
    by false = refl
among_copies i false p L = refl

among_spread : (i : ℕ) (ss : List Standing) → among i (spread ss) ≡ stands_in i ss
among_spread i [] = refl
among_spread i (s ∷ ss) = among_copies i s.several (part_of s) (spread ss) ∙ ap (λ b. nat_eq s.tag i || b) (among_spread i ss)

-- what is still to be found is what a level has, or one below it
pub record Searches {A : Type 0} (tags : Tags) (has : Part → List A) (goal : Sought A) (depth : ℕ) (met : ℕ → Bool) (level : List Part) : Type 0 where
  pub covers : Covers tags has met level
  pub finds : sought depth tags has level ≡ goal

pub searches_next : {A : Type 0} (tags : Tags) (has : Part → List A) (goal : Sought A) (depth next : ℕ) (met later : ℕ → Bool) (level : List Standing) (M : List Part)
    → IsUniform has → IsBlind has → Searches tags has goal depth met (spread level) → 0 < depth → next ≡ depth - 1 → tally (flat_map has (spread level)) ≡ Nowhere
    → ((i : ℕ) → later i ≡ (stands_in i level || met i)) → Adds [] (unmet later (flat_map (cut_inner tags) (spread level))) M → Searches tags has goal next later M
searches_next tags has goal depth next met later level M u blind s lt e none meets a = record {
  covers = cut_covers tags has u blind met later (spread level) s.covers bare meets_all M a.same;
  finds =
      sym (cut_sought tags has u blind met later (spread level) s.covers bare meets_all M a.same next)
      ∙ ap (λ d. sought d tags has (spread level)) deeper ∙ s.finds;
}
  where
    bare : flat_map has (spread level) ≡ []
    bare = tally_bare (flat_map has (spread level)) none

    meets_all : (i : ℕ) → later i ≡ (among i (spread level) || met i)
    meets_all i = meets i ∙ ap (λ b. b || met i) (sym (among_spread i level))

    deeper : suc next ≡ depth
    deeper = omega arith

-- what a level has is what is sought
has_it : {A : Type 0} (xs : List A) (s t : Sought A) → tally xs ≡ s → (s ≡ Nowhere → ⊥) → or_deeper xs t ≡ s
has_it [] s t e f = absurd (f (sym e))
has_it (x ∷ []) s t e f = e
has_it (x ∷ (y ∷ ys)) s t e f = e

pub searched : {A : Type 0} (tags : Tags) (has : Part → List A) (goal s : Sought A) (depth : ℕ) (met : ℕ → Bool) (level : List Part)
    → Searches tags has goal depth met level → 0 < depth → s ≡ tally (flat_map has level) → (s ≡ Nowhere → ⊥) → goal ≡ s
searched tags has goal s zero met level r lt e f = absurd (omega arith)
searched tags has goal s (suc d) met level r lt e f =
    sym r.finds ∙ has_it (flat_map has level) s (sought d tags has (flat_map (inner_parts tags) level)) (sym e) f

pub searched_one : {A : Type 0} (tags : Tags) (has : Part → List A) (goal : Sought A) (x : A) (depth : ℕ) (met : ℕ → Bool) (level : List Part)
    → Searches tags has goal depth met level → 0 < depth → One x ≡ tally (flat_map has level) → goal ≡ One x
searched_one tags has goal x depth met level r lt e = searched tags has goal (One x) depth met level r lt e unlike
  where
    unlike : {A : Type 0} {x : A} → One x ≡ Nowhere → ⊥
    unlike e = cc

pub searched_several : {A : Type 0} (tags : Tags) (has : Part → List A) (goal : Sought A) (depth : ℕ) (met : ℕ → Bool) (level : List Part)
    → Searches tags has goal depth met level → 0 < depth → Several ≡ tally (flat_map has level) → goal ≡ Several
searched_several {A = A} tags has goal depth met level r lt e = searched tags has goal Several depth met level r lt e unlike
  where
    unlike : let several : Sought A = Several in several ≡ Nowhere → ⊥
    unlike e = cc

pub searched_through : {A : Type 0} (tags : Tags) (has : Part → List A) (goal : Sought A) (depth : ℕ) (met : ℕ → Bool) (level : List Part)
    → Searches tags has goal depth met level → depth ≡ 0 → goal ≡ Nowhere
searched_through tags has goal depth met level r e = sym r.finds ∙ ap (λ d. sought d tags has level) e

-- the first level

pub starts : {A : Type 0} (tags : Tags) (has : Part → List A) (depth n i : ℕ) (met : ℕ → Bool) (none level : List Standing) → none ≡ []
    → level ≡ none ++ record { tag = i; offset = 0; several = false } ∷ [] → depth ≡ n → ((j : ℕ) → met j ≡ false)
    → Searches tags has (sought n tags has (whole i ∷ [])) depth met (spread level)
starts tags has depth n i met none level e f g h = record {
  covers = nothing_met tags has met (spread level) h;
  finds = ap (λ d. sought d tags has (spread level)) g ∙ ap (λ l. sought n tags has (spread l)) (f ∙ ap (λ l. l ++ record { tag = i; offset = 0; several = false } ∷ []) e);
}

pub length_tags : (ts : List Tag) → length (tags_of ts) ≡ length ts
length_tags [] = refl
length_tags (t ∷ ts) = ap suc (length_tags ts)

-- A SEARCH THAT BEGINS BELOW THE FIRST LEVEL

kept_uniform : (j : ℕ) → IsUniform (kept_if j)
kept_uniform j p q e h = by (nat_eq p.tag j) refl h
  where
    by : (b : Bool) → nat_eq p.tag j ≡ b → map kept_offset (if b then p.offset ∷ [] else []) ≡ [] → kept_if j q ≡ []
    by true f g = cc
    by false f g = ap (λ b. map kept_offset (if b then q.offset ∷ [] else [])) (ap (λ t. nat_eq t j) (sym e) ∙ f)

kept_blind : (j : ℕ) → IsBlind (kept_if j)
kept_blind j p = by (nat_eq p.tag j)
  where
    by : (b : Bool) → map kept_offset (if b then capped p.offset ∷ [] else []) ≡ map kept_offset (if b then p.offset ∷ [] else [])
    by true = ap (λ k. k ∷ []) (kept_cut p.offset)
    by false = refl

not_first : (i j : ℕ) → nat_eq i j ≡ false → flat_map (kept_if j) (whole i ∷ []) ≡ []
not_first i j e = ap (λ b. map kept_offset (if b then 0 ∷ [] else []) ++ []) e

pub starts_below : (tags : Tags) (depth i j : ℕ) (met : ℕ → Bool) (none level : List Standing) → nat_eq i j ≡ false → none ≡ []
    → level ≡ none ++ record { tag = i; offset = 0; several = false } ∷ [] → depth ≡ length tags → ((k : ℕ) → met k ≡ false)
    → Searches tags (kept_if j) (sought_map kept_offset (find_substructure tags i j)) (suc depth) met (spread level) × (tally (flat_map (kept_if j) (spread level)) ≡ Nowhere)
starts_below tags depth i j met none level a e f g h = (
  record {
    covers = nothing_met tags (kept_if j) met (spread level) h;
    finds = ap (λ l. sought (suc depth) tags (kept_if j) l) first
        ∙ ap (λ l. or_deeper l (sought depth tags (kept_if j) (inner_parts tags (whole i) ++ []))) (not_first i j a)
        ∙ ap (λ l. sought depth tags (kept_if j) l) (append-nil (inner_parts tags (whole i)))
        ∙ ap (λ d. sought d tags (kept_if j) (inner_parts tags (whole i))) g
        ∙ sought_mapped kept_offset (length tags) tags (offset_if j) (inner_parts tags (whole i));
  },
  ap (λ l. tally (flat_map (kept_if j) l)) first ∙ ap tally (not_first i j a),
)
  where
    first : spread level ≡ whole i ∷ []
    first = ap spread (f ∙ ap (λ l. l ++ record { tag = i; offset = 0; several = false } ∷ []) e)

pub ends_below : (tags : Tags) (j : ℕ) (goal : Sought (Option ℕ)) (depth : ℕ) (met : ℕ → Bool) (level : List Part) → Searches tags (kept_if j) goal (suc depth) met level
    → depth ≡ 0 → tally (flat_map (kept_if j) level) ≡ Nowhere → goal ≡ Nowhere
ends_below tags j goal depth met level s e none =
    sym s.finds ∙ ap (λ l. or_deeper l (sought depth tags (kept_if j) (flat_map (inner_parts tags) level))) (tally_bare (flat_map (kept_if j) level) none)
    ∙ ap (λ d. sought d tags (kept_if j) (flat_map (inner_parts tags) level)) e

pub goes_on : {A : Type 0} (tags : Tags) (has : Part → List A) (goal : Sought A) (depth next : ℕ) (met : ℕ → Bool) (level : List Part) → Searches tags has goal depth met level
    → 0 < depth → next ≡ depth - 1 → Searches tags has goal (suc next) met level
goes_on tags has goal depth next met level s lt e = subst (λ d. Searches tags has goal d met level) deeper s
  where
    deeper : depth ≡ suc next
    deeper = omega arith

pub stands_here : (j : ℕ) (s : Standing) (found : Sought (Option ℕ)) (o : Option ℕ) → nat_eq s.tag j ≡ true → o ≡ kept_offset s.offset
    → found ≡ (if s.several then together (One o) (One o) else One o) → found ≡ tally (flat_map (kept_if j) (copies_of s))
stands_here j s found o e k f = f ∙ ap (λ q. if s.several then together (One q) (One q) else One q) k ∙ by s.several
  where
    by : (b : Bool) → (if b then together (One (kept_offset s.offset)) (One (kept_offset s.offset)) else One (kept_offset s.offset)) ≡ tally (flat_map (kept_if j) (copies b (part_of s)))
    by true = sym (ap (λ c. tally (map kept_offset (if c then s.offset ∷ [] else []) ++ (map kept_offset (if c then s.offset ∷ [] else []) ++ []))) e)
    by false = sym (ap (λ c. tally (map kept_offset (if c then s.offset ∷ [] else []) ++ [])) e)

pub stands_elsewhere : (j : ℕ) (s : Standing) → nat_eq s.tag j ≡ false → Nowhere ≡ tally (flat_map (kept_if j) (copies_of s))
stands_elsewhere j s e = by s.several
  where
    by : (b : Bool) → Nowhere ≡ tally (flat_map (kept_if j) (copies b (part_of s)))
    by true = sym (ap (λ c. tally (map kept_offset (if c then s.offset ∷ [] else []) ++ (map kept_offset (if c then s.offset ∷ [] else []) ++ []))) e)
    by false = sym (ap (λ c. tally (map kept_offset (if c then s.offset ∷ [] else []) ++ [])) e)

-- the level below one that has nothing
pub below : (tags : Tags) (j : ℕ) (goal : Sought (Option ℕ)) (depth : ℕ) (met later : ℕ → Bool) (list level : List Standing) (M : List Part)
    → Searches tags (kept_if j) goal (suc depth) met (spread level) → tally (flat_map (kept_if j) (spread level)) ≡ Nowhere → list ≡ level
    → ((i : ℕ) → later i ≡ (stands_in i list || met i)) → Adds [] (unmet later (flat_map (cut_inner tags) (spread list))) M → Searches tags (kept_if j) goal depth later M
below tags j goal depth met later list level M s none e meets a =
    searches_next tags (kept_if j) goal (suc depth) depth met later level M (kept_uniform j) (kept_blind j) s (omega arith) (omega arith) none
    (λ i. meets i ∙ ap (λ ss. stands_in i ss || met i) e)
    (subst (λ ss. Adds [] (unmet later (flat_map (cut_inner tags) (spread ss))) M) e a)

pub unequal : (i j : ℕ) → (i ≡ j → ⊥) → nat_eq i j ≡ false
unequal i j f = grind (arith, nat_tests)

-- below a level without structures there are none

bare_level : {A : Type 0} (tags : Tags) (has : Part → List A) (d : ℕ) → sought d tags has [] ≡ Nowhere
bare_level tags has zero = refl
bare_level tags has (suc d) = bare_level tags has d

pub searched_out : {A : Type 0} (tags : Tags) (has : Part → List A) (goal : Sought A) (depth : ℕ) (met : ℕ → Bool) (level : List Standing)
    → Searches tags has goal depth met (spread level) → level ≡ [] → goal ≡ Nowhere
searched_out tags has goal depth met level s e = sym s.finds ∙ ap (λ l. sought depth tags has (spread l)) e ∙ bare_level tags has depth
