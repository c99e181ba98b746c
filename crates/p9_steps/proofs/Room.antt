-- The last piece, and the room that pieces leave.
use Rattle.std.proofs.Common.{suc, ◌≡◌, ℕ, ◌+◌, ◌-◌, ◌*◌, ◌%◌, ◌<◌, ◌≤◌, Bool, true, false, ◌&&◌, ◌||◌, List, [], ◌∷◌, ◌++◌, Some, slice_get, length, refl, sym, ap, ◌∙◌, subst, arith}
use Rattle.std.specs.Prelude.{nat_lt, nat_le, ◌==◌}
use Rattle.std.proofs.lemmas.Bool.{eq-eqb, leb-true, leb-false, le-leb, lt-leb, ltb-true}
use Rattle.std.proofs.lemmas.List.Sums.{sum_by_push}
use Rattle.p9_abs.specs.declared.modules.DataPiece.{DataPiece}
use Rattle.p9_abs.specs.declared.modules.DataPiece.TheVariants.{Raw, Address}
use Rattle.p9_abs.specs.Modules.{piece_size, pieces_size}
use Rattle.p9_object.specs.Machine.{ends_raw, raw_fits}
use Rattle.p9_steps.specs.Room.{is_raw, is_room}

-- the last of two and more is the last of those after the first
last-more : (x y : DataPiece) (rest : List DataPiece) (p : DataPiece) → slice_get (x ∷ y ∷ rest) (length (x ∷ y ∷ rest) - 1) ≡ Some p → slice_get (y ∷ rest) (length (y ∷ rest) - 1) ≡ Some p
last-more x y rest p h =
    let e : length (x ∷ y ∷ rest) - 1 ≡ suc (length (y ∷ rest) - 1) = omega arith in
    let P : ℕ → Type 0 = λ n. slice_get (x ∷ y ∷ rest) n ≡ Some p in
    subst P e h

ends_one : (p : DataPiece) → ends_raw (p ∷ []) ≡ is_raw p
ends_one (Raw b) = refl
ends_one (Address s o) = refl

ends_more : (p q : DataPiece) (rest : List DataPiece) → ends_raw (p ∷ q ∷ rest) ≡ ends_raw (q ∷ rest)
ends_more (Raw b) q rest = refl
ends_more (Address s o) q rest = refl

pub ends_last : (before : List DataPiece) (p : DataPiece) → slice_get before (length before - 1) ≡ Some p → ends_raw before ≡ is_raw p
ends_last [] p h = absurd cc
ends_last (x ∷ []) p h = let e : x ≡ p = cc in ends_one x ∙ ap (λ (q : DataPiece). is_raw q) e
ends_last (x ∷ y ∷ rest) p h = ends_more x y rest ∙ ends_last (y ∷ rest) p (last-more x y rest p h)

-- Room

same_test : (a b c d : ℕ) → (a ≤ b → c ≤ d) → (c ≤ d → a ≤ b) → nat_le a b ≡ nat_le c d
same_test a b c d f g = by (nat_le a b) (nat_le c d) refl refl
  where
    by : (s t : Bool) → nat_le a b ≡ s → nat_le c d ≡ t → s ≡ t
    by true true h k = refl
    by false false h k = refl
    by true false h k = absurd (omega (arith, f (leb-true a b h), leb-false c d k))
    by false true h k = absurd (omega (arith, g (leb-true c d k), leb-false a b h))

-- so many bytes find room behind pieces of this size
pub room_is : (left size n behind : ℕ) → left ≡ 16777216 - size → is_room left n behind ≡ raw_fits size n behind
room_is left size n behind e = by (nat_lt 0 n) refl
  where
    by : (t : Bool) → nat_lt 0 n ≡ t → is_room left n behind ≡ raw_fits size n behind
    by true h =
        let some : 0 < n = ltb-true 0 n h in
        let same : nat_le (n + 4 * behind) left ≡ nat_le (size + n + 4 * behind) 16777216 =
        same_test (n + 4 * behind) left (size + n + 4 * behind) 16777216 (λ k. omega arith) (λ k. omega arith) in
        ap (λ (b : Bool). nat_lt 0 n && (b && ((behind == 0) || (n % 4 == 0)))) same
    by false h =
        ap (λ (b : Bool). b && (nat_le (n + 4 * behind) left && ((behind == 0) || (n % 4 == 0)))) h
        ∙ sym (ap (λ (b : Bool). b && (nat_le (size + n + 4 * behind) 16777216 && ((behind == 0) || (n % 4 == 0)))) h)

pub same_number : (m n : ℕ) → m ≡ n → (m == n) ≡ true
same_number m n e = eq-eqb m n e

-- what is left behind one piece more
pub left_next : (left : ℕ) (before : List DataPiece) (p : DataPiece) → left ≡ 16777216 - pieces_size before → left - piece_size p ≡ 16777216 - pieces_size (before ++ p ∷ [])
left_next left before p e = omega (arith, sum_by_push piece_size before p)
