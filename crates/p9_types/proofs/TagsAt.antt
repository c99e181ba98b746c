-- Structures by their numbers.
use Rattle.std.proofs.Common.{◌≡◌, ◌≤◌, ◌<◌, ℕ, zero, suc, List, [], ◌∷◌, length, slice_get, get_or, Option, Some, None, MatchOption, IfSome, Bor, refl, sym, ap, arith}
use Rattle.std.specs.List.{HoldsAt}
use Rattle.p9_lang.specs.declared.types.Tag.{Tag}
use Rattle.p9_lang.specs.Types.{tag_of, tags_of}

pub beyond : (ts : List Tag) (i : ℕ) → length ts ≤ i → slice_get (tags_of ts) i ≡ None
beyond [] zero le = refl
beyond [] (suc i) le = refl
beyond (t ∷ ts) zero le = absurd (omega arith)
beyond (t ∷ ts) (suc i) le = beyond ts i (omega arith)

pub tag_get : (ts : List Tag) (i : ℕ) (t : Tag) → i < length ts → t ≡ get_or ts i t → slice_get (tags_of ts) i ≡ Some (tag_of t)
tag_get [] zero t lt e = absurd (omega arith)
tag_get [] (suc i) t lt e = absurd (omega arith)
tag_get (s ∷ ts) zero t lt e = ap (λ q. Some (tag_of q)) (sym e)
tag_get (s ∷ ts) (suc i) t lt e = tag_get ts i t (omega arith) e

pub tag_looked_up : (ts : List Tag) (i : ℕ) (o : Option (Bor Tag))
    → MatchOption o (length ts ≤ i) (λ x. (i < length ts) × HoldsAt (λ y. x.now ≡ y) ts i) → IfSome o (λ x. x.now ≡ get_or ts i x.now)
    → MatchOption o (slice_get (tags_of ts) i ≡ None) (λ x. slice_get (tags_of ts) i ≡ Some (tag_of x.now))
tag_looked_up ts i None h k = beyond ts i h
tag_looked_up ts i (Some x) h k = tag_get ts i x.now h.0 k
