-- Cells that are written over.
use Rattle.std.proofs.Common.{ℕ, zero, suc, ◌+◌, ◌-◌, ◌≡◌, ◌≢◌, ◌≤◌, ◌<◌, ◌⊎◌, inl, inr, ◌&&◌, nat_le, nat_lt, Bool, true, false, if◌then◌else◌, Option, Some, None, List, [], ◌∷◌, length, slice_set, refl, sym, ap, ◌∙◌, subst, arith}
use Rattle.std.proofs.lemmas.Bool.Decides.{nat_tests}
use Rattle.std.proofs.lemmas.Grind.{common_steps}
use Rattle.std.proofs.lemmas.Option.{none-some, same_Some, slice_get_past}
use Rattle.std.specs.Prelude.{slice_get, option_map, ◌==◌}
use Rattle.p9_init.specs.declared.cell.InitCell.{InitCell}
use Rattle.p9_init.specs.declared.cell.InitCell.TheVariants.{Byte, Part}
use Rattle.p9_cmean.specs.FirstContents.{is_broken}
use Rattle.p9_init.specs.Cells.{broken_cell, broken_from, with_entry, ArePlaced}
use borrow.Rule.Slice.PartMut.{put_mid}

-- Elements by their numbers

pub set_same : {X : Type 0} (xs : List X) (i : ℕ) (v : X) → i < length xs → slice_get (slice_set xs i v) i ≡ Some v
set_same [] i v h = absurd (omega (arith, h))
set_same (x ∷ xs) zero v h = refl
set_same (x ∷ xs) (suc i) v h = set_same xs i v (omega (arith, h))

pub set_other : {X : Type 0} (xs : List X) (i j : ℕ) (v : X) → i ≢ j → slice_get (slice_set xs i v) j ≡ slice_get xs j
set_other [] i j v h = refl
set_other (x ∷ xs) zero zero v h = absurd (h refl)
set_other (x ∷ xs) zero (suc j) v h = refl
set_other (x ∷ xs) (suc i) zero v h = refl
set_other (x ∷ xs) (suc i) (suc j) v h = set_other xs i j v (λ e. h (ap suc e))

-- lists with the same elements
pub same_elements : {X : Type 0} (xs ys : List X) → ((i : ℕ) → slice_get xs i ≡ slice_get ys i) → xs ≡ ys
same_elements [] [] h = refl
same_elements [] (y ∷ ys) h = absurd (none-some y (h 0))
same_elements (x ∷ xs) [] h = absurd (none-some x (sym (h 0)))
same_elements (x ∷ xs) (y ∷ ys) h =
    ap (λ z. z ∷ xs) (same_Some x y (h 0)) ∙ ap (λ zs. y ∷ zs) (same_elements xs ys (λ i. h (suc i)))

pub broken_at : (start end at : ℕ) (list : List InitCell) (i : ℕ) → slice_get (broken_from start end at list) i ≡ option_map (broken_cell start end (at + i)) (slice_get list i)
broken_at start end at [] i = refl
broken_at start end at (cell ∷ rest) zero = ap (λ n. Some (broken_cell start end n cell)) (omega arith)
broken_at start end at (cell ∷ rest) (suc i) =
    broken_at start end (suc at) rest i ∙ ap (λ n. option_map (broken_cell start end n) (slice_get rest i)) (omega arith)

-- One cell after the other

-- what a cell is when those from `from` to `at` are dealt with
abbrev pub dealt : (start end from at : ℕ) → List InitCell → (i : ℕ) → Option InitCell
dealt start end from at old i = if nat_le from i && nat_lt i at then option_map (broken_cell start end i) (slice_get old i) else slice_get old i

by_test : {X : Type 0} (b c : Bool) (x y : X) → b ≡ c → (if b then x else y) ≡ (if c then x else y)
by_test b c x y e = ap (λ t. if t then x else y) e

inside : (from at i : ℕ) → from ≤ i → i < at → (nat_le from i && nat_lt i at) ≡ true
inside from at i h k = grind (arith, nat_tests)

outside_before : (from at i : ℕ) → i < from → (nat_le from i && nat_lt i at) ≡ false
outside_before from at i h = grind (arith, nat_tests)

outside_behind : (from at i : ℕ) → at ≤ i → (nat_le from i && nat_lt i at) ≡ false
outside_behind from at i h = with_false (nat_le from i) (nat_lt i at) (grind (arith, nat_tests))
  where
    with_false : (a b : Bool) → b ≡ false → (a && b) ≡ false
    with_false true b e = e
    with_false false b e = refl

strictly : (a b : ℕ) → a ≤ b → a ≢ b → a < b
strictly a b l h = by (nat_lt a b) refl
  where
    by : (t : Bool) → nat_lt a b ≡ t → a < b
    by true e = grind (arith, nat_tests)
    by false e = (let m : b ≤ a = grind (arith, nat_tests) in absurd (h (omega (arith, l, m))))

pub deal : (start end from at : ℕ) (cells old : List InitCell) (cell value : InitCell) → from ≤ at → at < length cells → slice_get cells at ≡ Some cell → value ≡ broken_cell start end at cell →
    ((i : ℕ) → slice_get cells i ≡ dealt start end from at old i) → (i : ℕ) → slice_get (slice_set cells at value) i ≡ dealt start end from (at + 1) old i
deal start end from at cells old cell value low high here is each i = by (decide_eq at i)
  where
    decide_eq : (a b : ℕ) → (a ≡ b) ⊎ (a ≢ b)
    decide_eq a b = cases_test (a == b) refl
      where
        cases_test : (t : Bool) → (a == b) ≡ t → (a ≡ b) ⊎ (a ≢ b)
        cases_test true e = inl (grind (arith, nat_tests))
        cases_test false e = inr (λ h. grind (arith, nat_tests))

    here_old : slice_get old at ≡ Some cell
    here_old = sym (each at ∙ by_test (nat_le from at && nat_lt at at) false (option_map (broken_cell start end at) (slice_get old at)) (slice_get old at) (outside_behind from at at (omega arith))) ∙ here

    by : (at ≡ i) ⊎ (at ≢ i) → slice_get (slice_set cells at value) i ≡ dealt start end from (at + 1) old i
    by (inl e) =
        subst (λ n. slice_get (slice_set cells at value) n ≡ dealt start end from (at + 1) old n) e
        (set_same cells at value high ∙ (ap Some is ∙ (sym (ap (option_map (broken_cell start end at)) here_old)
        ∙ sym (by_test (nat_le from at && nat_lt at (at + 1)) true (option_map (broken_cell start end at) (slice_get old at)) (slice_get old at) (inside from (at + 1) at low (omega arith))))))
    by (inr n) =
        set_other cells at i value n ∙ (each i
        ∙ by_test (nat_le from i && nat_lt i at) (nat_le from i && nat_lt i (at + 1)) (option_map (broken_cell start end i) (slice_get old i)) (slice_get old i) (ap (λ t. nat_le from i && t) (same_side at i n)))
      where
        same_side : (a b : ℕ) → a ≢ b → nat_lt b a ≡ nat_lt b (a + 1)
        same_side a b h = split_side (nat_lt b a) refl
          where
            split_side : (t : Bool) → nat_lt b a ≡ t → t ≡ nat_lt b (a + 1)
            split_side true e = (let l : b < a = grind (arith, nat_tests) in sym (grind (arith, nat_tests)))
            split_side false e = (let l : a ≤ b = grind (arith, nat_tests) in let m : a < b = strictly a b l h in sym (grind (arith, nat_tests)))

-- Cells that lie further than an address reaches are as they were

far_part : (start end i part : ℕ) → part < 4 → (i + 3 < start) ⊎ (end + 3 ≤ i) → is_broken start end i part ≡ false
far_part start end i part few (inl h) = with_false (nat_lt i (end + part)) (nat_lt (start + part) (i + 4)) (grind (arith, nat_tests))
  where
    with_false : (a b : Bool) → b ≡ false → (a && b) ≡ false
    with_false true b e = e
    with_false false b e = refl
far_part start end i part few (inr h) = with_first (nat_lt i (end + part)) (nat_lt (start + part) (i + 4)) (grind (arith, nat_tests))
  where
    with_first : (a b : Bool) → a ≡ false → (a && b) ≡ false
    with_first true b e = cc
    with_first false b e = refl

far_cell : (start end : ℕ) (old : List InitCell) (i : ℕ) → ArePlaced old → (i + 3 < start) ⊎ (end + 3 ≤ i) → option_map (broken_cell start end i) (slice_get old i) ≡ slice_get old i
far_cell start end old i placed far = by (slice_get old i) refl
  where
    by : (o : Option InitCell) → slice_get old i ≡ o → option_map (broken_cell start end i) o ≡ o
    by None e = refl
    by (Some (Byte n)) e = refl
    by (Some (Part part symbol offset)) e =
        ap (λ t. Some (if t then Byte 0 else Part part symbol offset)) (far_part start end i part (placed i part symbol offset e).few far)

pub all_dealt : (start end at last : ℕ) (cells old : List InitCell) → ArePlaced old → start ≤ end → last ≤ at → (last ≡ end + 3) ⊎ (length old ≤ last) →
    ((i : ℕ) → slice_get cells i ≡ dealt start end (start - 3) at old i) → (i : ℕ) → slice_get cells i ≡ option_map (broken_cell start end i) (slice_get old i)
all_dealt start end at last cells old placed order behind bound each i = by (nat_le (start - 3) i) (nat_lt i at) refl refl
  where
    late : at ≤ i → (last ≡ end + 3) ⊎ (length old ≤ last) → option_map (broken_cell start end i) (slice_get old i) ≡ slice_get old i
    late h (inl e) = far_cell start end old i placed (inr (omega (arith, h, e, behind)))
    late h (inr e) = (let past : slice_get old i ≡ None = slice_get_past old i (omega (arith, h, e, behind)) in ap (option_map (broken_cell start end i)) past ∙ sym past)

    by : (low high : Bool) → nat_le (start - 3) i ≡ low → nat_lt i at ≡ high → slice_get cells i ≡ option_map (broken_cell start end i) (slice_get old i)
    by true true l h = each i ∙ by_test (nat_le (start - 3) i && nat_lt i at) true (option_map (broken_cell start end i) (slice_get old i)) (slice_get old i) (ap (λ t. t && nat_lt i at) l ∙ h)
    by true false l h =
        (let m : at ≤ i = grind (arith, nat_tests) in
        each i ∙ (by_test (nat_le (start - 3) i && nat_lt i at) false (option_map (broken_cell start end i) (slice_get old i)) (slice_get old i) (outside_behind (start - 3) at i m) ∙ sym (late m bound)))
    by false high l h =
        (let m : i < start - 3 = grind (arith, nat_tests) in
        each i ∙ (by_test (nat_le (start - 3) i && nat_lt i at) false (option_map (broken_cell start end i) (slice_get old i)) (slice_get old i) (outside_before (start - 3) at i m) ∙ sym (far_cell start end old i placed (inl (omega (arith, m))))))

-- The entry

pub written : (start count : ℕ) (broken new old : List InitCell) → count ≡ length new → ((i : ℕ) → slice_get broken i ≡ option_map (broken_cell start (start + length new) i) (slice_get old i)) →
    put_mid start count broken new ≡ with_entry start new old
written start count broken new old size each =
    let all : broken ≡ broken_from start (start + length new) 0 old =
    same_elements broken (broken_from start (start + length new) 0 old)
    (λ i. each i ∙ sym (broken_at start (start + length new) 0 old i ∙ ap (λ n. option_map (broken_cell start (start + length new) n) (slice_get old i)) (omega arith))) in
    ap (λ l. put_mid start count l new) all ∙ (let s = size in grind (arith, common_steps))
