-- A list whose first elements are mapped in their places.
use Rattle.std.proofs.Common.{◌≡◌, ℕ, zero, suc, ◌+◌, ◌<◌, ◌≤◌, List, [], ◌∷◌, length, map, slice_set, slice_index_or, refl, ap, sym, subst, ◌∙◌, arith}

abbrev pub mapped : {A : Type 0} (f : A → A) → ℕ → List A → List A
mapped f zero xs = xs
mapped f (suc i) [] = []
mapped f (suc i) (x ∷ xs) = f x ∷ mapped f i xs

next : {A : Type 0} (f : A → A) (i : ℕ) (xs : List A) (d : A) → i < length xs → slice_set (mapped f i xs) i (f (slice_index_or (mapped f i xs) i d)) ≡ mapped f (suc i) xs
next f i [] d inside = absurd (omega (arith, inside))
next f zero (x ∷ xs) d inside = refl
next f (suc i) (x ∷ xs) d inside = ap (λ ys. f x ∷ ys) (next f i xs d (omega (arith, inside)))

pub mapped_next : {A : Type 0} (f : A → A) (i : ℕ) (xs ys : List A) (d : A) → ys ≡ mapped f i xs → i < length xs → slice_set ys i (f (slice_index_or ys i d)) ≡ mapped f (i + 1) xs
mapped_next f i xs ys d is inside =
    let plus : i + 1 ≡ suc i = omega arith in
    ap (λ zs. slice_set zs i (f (slice_index_or zs i d))) is ∙ next f i xs d inside ∙ ap (λ n. mapped f n xs) (sym plus)

all_of : {A : Type 0} (f : A → A) (i : ℕ) (xs : List A) → length xs ≤ i → mapped f i xs ≡ map f xs
all_of f zero [] past = refl
all_of f (suc i) [] past = refl
all_of f zero (x ∷ xs) past = absurd (omega (arith, past))
all_of f (suc i) (x ∷ xs) past = ap (λ ys. f x ∷ ys) (all_of f i xs (omega (arith, past)))

pub mapped_all : {A : Type 0} (f : A → A) (i : ℕ) (xs ys : List A) → ys ≡ mapped f i xs → length xs ≤ i → ys ≡ map f xs
mapped_all f i xs ys is past = is ∙ all_of f i xs past
