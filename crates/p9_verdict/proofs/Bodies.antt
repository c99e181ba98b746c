-- Members by their numbers in bodies.
use Rattle.std.proofs.Common.{◌≡◌, ◌≤◌, ◌<◌, ℕ, zero, suc, List, [], ◌∷◌, length, slice_get, get_or, Option, Some, None, MatchOption, IfSome, Bor, refl, sym, ap, arith}
use Rattle.std.specs.List.{HoldsAt}
use Rattle.p9_lang.specs.declared.types.Member.{Member}
use Rattle.p9_lang.specs.Types.{member_of, members_of}

beyond : (ms : List Member) (i : ℕ) → length ms ≤ i → slice_get (members_of ms) i ≡ None
beyond [] zero le = refl
beyond [] (suc i) le = refl
beyond (m ∷ ms) zero le = absurd (omega arith)
beyond (m ∷ ms) (suc i) le = beyond ms i (omega arith)

member_get : (ms : List Member) (i : ℕ) (m : Member) → i < length ms → m ≡ get_or ms i m → slice_get (members_of ms) i ≡ Some (member_of m)
member_get [] zero m lt e = absurd (omega arith)
member_get [] (suc i) m lt e = absurd (omega arith)
member_get (n ∷ ms) zero m lt e = ap (λ q. Some (member_of q)) (sym e)
member_get (n ∷ ms) (suc i) m lt e = member_get ms i m (omega arith) e

pub member_looked_up : (ms : List Member) (i : ℕ) (o : Option (Bor Member))
    → MatchOption o (length ms ≤ i) (λ x. (i < length ms) × HoldsAt (λ y. x.now ≡ y) ms i) → IfSome o (λ x. x.now ≡ get_or ms i x.now)
    → MatchOption o (slice_get (members_of ms) i ≡ None) (λ x. slice_get (members_of ms) i ≡ Some (member_of x.now))
member_looked_up ms i None h k = beyond ms i h
member_looked_up ms i (Some x) h k = member_get ms i x.now h.0 k
