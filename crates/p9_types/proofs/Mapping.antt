-- What is sought, where it is told in another way.
use Rattle.std.proofs.Common.{◌≡◌, ℕ, zero, suc, List, [], ◌∷◌, ◌++◌, map, refl, sym, ap, ◌∙◌}
use Rattle.std.specs.List.{flat_map}
use Rattle.p9_lang.specs.Types.{Tags}
use Rattle.p9_lang.specs.Members.{Part, Sought, or_deeper, sought, inner_parts}
use Rattle.p9_types.specs.Sightings.{sought_map}

or_deeper_map : {A B : Type 0} (g : A → B) (xs : List A) (s : Sought A) → or_deeper (map g xs) (sought_map g s) ≡ sought_map g (or_deeper xs s)
or_deeper_map g [] s = refl
or_deeper_map g (x ∷ []) s = refl
or_deeper_map g (x ∷ (y ∷ ys)) s = refl

map_append : {A B : Type 0} (g : A → B) (xs ys : List A) → map g (xs ++ ys) ≡ map g xs ++ map g ys
map_append g [] ys = refl
map_append g (x ∷ xs) ys = ap (λ l. g x ∷ l) (map_append g xs ys)

pub map_flat : {X A B : Type 0} (g : A → B) (f : X → List A) (xs : List X) → flat_map (λ x. map g (f x)) xs ≡ map g (flat_map f xs)
map_flat g f [] = refl
map_flat g f (x ∷ xs) = ap (λ l. map g (f x) ++ l) (map_flat g f xs) ∙ sym (map_append g (f x) (flat_map f xs))

pub sought_mapped : {A B : Type 0} (g : A → B) (d : ℕ) (tags : Tags) (has : Part → List A) (L : List Part)
    → sought d tags (λ p. map g (has p)) L ≡ sought_map g (sought d tags has L)
sought_mapped g zero tags has L = refl
sought_mapped g (suc d) tags has L =
    ap (λ l. or_deeper l (sought d tags (λ p. map g (has p)) (flat_map (inner_parts tags) L))) (map_flat g has L)
    ∙ ap (or_deeper (map g (flat_map has L))) (sought_mapped g d tags has (flat_map (inner_parts tags) L))
    ∙ or_deeper_map g (flat_map has L) (sought d tags has (flat_map (inner_parts tags) L))
