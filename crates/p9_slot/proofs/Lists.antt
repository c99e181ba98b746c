-- Elements of lists that are joined or repeated.
use Rattle.std.proofs.Common.{ℕ, zero, suc, ◌+◌, ◌≡◌, ◌<◌, Some, List, [], ◌∷◌, ◌++◌, length, replicate, slice_get, refl, ap, ◌∙◌, arith}

pub get_left : {A : Type 0} → (xs ys : List A) (n : ℕ) → n < length xs → slice_get (xs ++ ys) n ≡ slice_get xs n
get_left [] ys n h = absurd (omega (arith, h))
get_left (x ∷ xs) ys zero h = refl
get_left (x ∷ xs) ys (suc n) h = get_left xs ys n (omega (arith, h))

get_right : {A : Type 0} → (xs ys : List A) (n : ℕ) → slice_get (xs ++ ys) (length xs + n) ≡ slice_get ys n
get_right [] ys n = ap (slice_get ys) (omega arith)
get_right (x ∷ xs) ys n =
    ap (slice_get (x ∷ (xs ++ ys))) (let e : suc (length xs) + n ≡ suc (length xs + n) = omega arith in e) ∙ get_right xs ys n

-- behind the first n elements
pub get_behind : {A : Type 0} → (xs ys : List A) (n k q : ℕ) → length xs ≡ n → q ≡ n + k → slice_get (xs ++ ys) q ≡ slice_get ys k
get_behind xs ys n k q e h = ap (slice_get (xs ++ ys)) (let s : q ≡ length xs + k = omega (arith, e, h) in s) ∙ get_right xs ys k

pub get_replicate : {A : Type 0} → (n : ℕ) (a : A) (k : ℕ) → k < n → slice_get (replicate n a) k ≡ Some a
get_replicate zero a k h = absurd (omega (arith, h))
get_replicate (suc n) a zero h = refl
get_replicate (suc n) a (suc k) h = get_replicate n a k (omega (arith, h))
