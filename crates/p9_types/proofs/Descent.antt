-- Searches level by level, where a level leaves out what an earlier one has.
use Rattle.std.proofs.Common.{◌≡◌, ℕ, zero, suc, ◌+◌, Bool, true, false, nat_eq, if◌then◌else◌, List, [], ◌∷◌, ◌++◌, refl, sym, ap, subst, ◌∙◌}
use Rattle.std.specs.List.{flat_map}
use Rattle.std.proofs.lemmas.Grind.{flat_map-append}
use Rattle.p9_lang.specs.Names.{is_nameless}
use Rattle.p9_lang.specs.Types.{TypeTree, Tagged, Tags}
use Rattle.p9_lang.specs.Members.{Part, Placed, offset_if, part_at, unnamed_part, inner_parts, placed, sought}
use Rattle.p9_types.specs.Levels.{tally, SameLevel}
use Rattle.p9_types.proofs.Tallies.{IsUniform, over, or_deeper_over, level_found}

-- WITHIN PARTS OF ONE STRUCTURE

pub nil_front : {A : Type 0} (xs ys : List A) → xs ++ ys ≡ [] → xs ≡ []
nil_front [] ys e = refl
nil_front (x ∷ xs) ys e = cc

pub nil_back : {A : Type 0} (xs ys : List A) → xs ++ ys ≡ [] → ys ≡ []
nil_back [] ys e = e
nil_back (x ∷ xs) ys e = cc

pub flat_flat : {X Y A : Type 0} (f : Y → List A) (g : X → List Y) (xs : List X) → flat_map f (flat_map g xs) ≡ flat_map (λ x. flat_map f (g x)) xs
flat_flat f g [] = refl
flat_flat f g (x ∷ xs) = flat_map-append f (g x) (flat_map g xs) ∙ ap (λ ys. flat_map f (g x) ++ ys) (flat_flat f g xs)

no_part : (s o n : ℕ) (t : TypeTree) → flat_map (offset_if s) (part_at o t) ≡ [] → flat_map (offset_if s) (part_at n t) ≡ []
no_part s o n (Tagged i) e = by (nat_eq i s) e
  where
    by : (b : Bool) → (if b then o ∷ [] else []) ++ [] ≡ [] → (if b then n ∷ [] else []) ++ [] ≡ []
    by true f = cc
    by false f = refl
no_part s o n _ e = refl

no_unnamed : (s o n : ℕ) (m : Placed) → flat_map (offset_if s) (unnamed_part o m) ≡ [] → flat_map (offset_if s) (unnamed_part n m) ≡ []
no_unnamed s o n m e = by (is_nameless m.name) e
  where
    by : (b : Bool) → flat_map (offset_if s) (if b then part_at (o + m.offset) m.type else []) ≡ []
        → flat_map (offset_if s) (if b then part_at (n + m.offset) m.type else []) ≡ []
    by true f = no_part s (o + m.offset) (n + m.offset) m.type f
    by false f = refl

none_within : (s o n : ℕ) (ms : List Placed) → flat_map (offset_if s) (flat_map (unnamed_part o) ms) ≡ [] → flat_map (offset_if s) (flat_map (unnamed_part n) ms) ≡ []
none_within s o n [] e = refl
none_within s o n (m ∷ ms) e =
    let both : flat_map (offset_if s) (unnamed_part o m) ++ flat_map (offset_if s) (flat_map (unnamed_part o) ms) ≡ [] =
    sym (flat_map-append (offset_if s) (unnamed_part o m) (flat_map (unnamed_part o) ms)) ∙ e in
    flat_map-append (offset_if s) (unnamed_part n m) (flat_map (unnamed_part n) ms)
    ∙ ap (λ xs. xs ++ flat_map (offset_if s) (flat_map (unnamed_part n) ms)) (no_unnamed s o n m (nil_front _ _ both))
    ∙ none_within s o n ms (nil_back _ _ both)

inner_uniform : (tags : Tags) (s : ℕ) → IsUniform (λ p. flat_map (offset_if s) (inner_parts tags p))
inner_uniform tags s p q e h =
    none_within s p.offset q.offset (placed tags q.tag) (subst (λ t. flat_map (offset_if s) (flat_map (unnamed_part p.offset) (placed tags t)) ≡ []) e h)

pub same_inner : (tags : Tags) (L M : List Part) → SameLevel L M → SameLevel (flat_map (inner_parts tags) L) (flat_map (inner_parts tags) M)
same_inner tags L M h s =
    ap tally (flat_flat (offset_if s) (inner_parts tags) L) ∙ level_found (λ p. flat_map (offset_if s) (inner_parts tags p)) (inner_uniform tags s) L M h
    ∙ sym (ap tally (flat_flat (offset_if s) (inner_parts tags) M))

pub same_sought : {A : Type 0} (tags : Tags) (has : Part → List A) → IsUniform has → (d : ℕ) (L M : List Part) → SameLevel L M → sought d tags has L ≡ sought d tags has M
same_sought tags has u zero L M h = refl
same_sought tags has u (suc d) L M h =
    or_deeper_over (flat_map has L) (sought d tags has (flat_map (inner_parts tags) L))
    ∙ ap (λ s. over s (sought d tags has (flat_map (inner_parts tags) L))) (level_found has u L M h)
    ∙ ap (over (tally (flat_map has M))) (same_sought tags has u d (flat_map (inner_parts tags) L) (flat_map (inner_parts tags) M) (same_inner tags L M h))
    ∙ sym (or_deeper_over (flat_map has M) (sought d tags has (flat_map (inner_parts tags) M)))
