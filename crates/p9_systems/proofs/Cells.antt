-- Cells and the bytes that stand for them.
use Rattle.std.proofs.Common.{◌≡◌, ◌≢◌, ◌≤◌, ◌<◌, ◌⊎◌, inl, inr, ℕ, zero, suc, ◌+◌, Some, List, [], ◌∷◌, ◌++◌, length, take, drop, slice_get, slice_set, refl, sym, ap, ◌∙◌, subst, arith, length-append, length-drop}
use Rattle.std.proofs.lemmas.List.{length-take-le}
use Rattle.p9_cmean.specs.Cells.{Cell, Object}
use Rattle.p9_cmean.specs.Access.{overwritten}
use Rattle.p9_sim.specs.Memory.{Map, Ground, StandsCell, StandCells}

-- LISTS

pub get-set_same : {A : Type 0} (xs : List A) (i : ℕ) (v : A) → i < length xs → slice_get (slice_set xs i v) i ≡ Some v
get-set_same [] i v h = absurd (omega arith)
get-set_same (x ∷ xs) zero v h = refl
get-set_same (x ∷ xs) (suc i) v h = get-set_same xs i v (omega arith)

pub get-set_other : {A : Type 0} (xs : List A) (i j : ℕ) (v : A) → j ≢ i → slice_get (slice_set xs i v) j ≡ slice_get xs j
get-set_other [] i j v h = refl
get-set_other (x ∷ xs) zero zero v h = absurd (h refl)
get-set_other (x ∷ xs) zero (suc j) v h = refl
get-set_other (x ∷ xs) (suc i) zero v h = refl
get-set_other (x ∷ xs) (suc i) (suc j) v h = get-set_other xs i j v (λ e. h (ap suc e))

pub same-or-not : (i j : ℕ) → (i ≡ j) ⊎ (i ≢ j)
same-or-not zero zero = inl refl
same-or-not zero (suc j) = inr (λ e. absurd (omega (arith, e)))
same-or-not (suc i) zero = inr (λ e. absurd (omega (arith, e)))
same-or-not (suc i) (suc j) = go (same-or-not i j)
  where
    go : (i ≡ j) ⊎ (i ≢ j) → (suc i ≡ suc j) ⊎ (suc i ≢ suc j)
    go (inl e) = inl (ap suc e)
    go (inr n) = inr (λ e. n (omega (arith, e)))

pub some-same : {A : Type 0} (x y : A) → Some x ≡ Some y → x ≡ y
some-same x y e = cc

-- CELLS

module _ (g : Ground) (m : Map) (byte : ℕ → ℕ) where
  pub stands-at : (cells : List Cell) (a b : ℕ) → a ≡ b → StandCells g m cells byte a → StandCells g m cells byte b
  stands-at cells a b e h = subst (StandCells g m cells byte) e h

  pub stands-drop : (k : ℕ) (cells : List Cell) (a : ℕ) → StandCells g m cells byte a → StandCells g m (drop k cells) byte (a + k)
  stands-drop zero cells a h = stands-at cells a (a + 0) (omega arith) h
  stands-drop (suc k) [] a h = tt
  stands-drop (suc k) (cell ∷ cells) a h = stands-at (drop k cells) (a + 1 + k) (a + suc k) (omega arith) (stands-drop k cells (a + 1) h.1)

  pub stands-take : (k : ℕ) (cells : List Cell) (a : ℕ) → StandCells g m cells byte a → StandCells g m (take k cells) byte a
  stands-take zero cells a h = tt
  stands-take (suc k) [] a h = tt
  stands-take (suc k) (cell ∷ cells) a h = (h.0, stands-take k cells (a + 1) h.1)

  pub stands-append : (xs ys : List Cell) (a : ℕ) → StandCells g m xs byte a → StandCells g m ys byte (a + length xs) → StandCells g m (xs ++ ys) byte a
  stands-append [] ys a h k = stands-at ys (a + 0) a (omega arith) k
  stands-append (x ∷ xs) ys a h k = (h.0, stands-append xs ys (a + 1) h.1 (stands-at ys (a + suc (length xs)) (a + 1 + length xs) (omega arith) k))

-- cells that stand for bytes stand for the same bytes of another memory
pub stands-same : (g : Ground) (m : Map) (byte other : ℕ → ℕ) (cells : List Cell) (a : ℕ) → ((k : ℕ) → k < length cells → other (a + k) ≡ byte (a + k))
    → StandCells g m cells byte a → StandCells g m cells other a
stands-same g m byte other [] a e h = tt
stands-same g m byte other (cell ∷ cells) a e h =
    let z : a + 0 ≡ a = omega arith in
    let here : byte a ≡ other a = ap byte (sym z) ∙ (sym (e 0 (omega arith)) ∙ ap other z) in (
      subst (StandsCell g m cell) here h.0,
      stands-same g m byte other cells (a + 1) (λ k i. let q : a + suc k ≡ a + 1 + k = omega arith in ap other (sym q) ∙ (e (suc k) (omega (arith, i)) ∙ ap byte q)) h.1,
    )

-- OBJECTS

pub overwritten-length : (object : Object) (offset : ℕ) (cells : List Cell) → offset + length cells ≤ length object.cells → length (overwritten object offset cells).cells ≡ length object.cells
overwritten-length object offset cells fits =
    let a = length-append (take offset object.cells) (cells ++ drop (offset + length cells) object.cells) in
    let b = length-append cells (drop (offset + length cells) object.cells) in
    let d = length-drop (offset + length cells) object.cells in
    let t = length-take-le offset object.cells (omega (arith, fits)) in
    omega (arith, a, b, d, t, fits)

-- an object some cells of which are written stands where it stood
pub stands-overwritten : (g : Ground) (m : Map) (byte other : ℕ → ℕ) (object : Object) (start offset : ℕ) (cells : List Cell) → offset + length cells ≤ length object.cells
    → ((k : ℕ) → k < length object.cells → (k < offset) ⊎ (offset + length cells ≤ k) → other (start + k) ≡ byte (start + k))
    → StandCells g m cells other (start + offset) → StandCells g m object.cells byte start → StandCells g m (overwritten object offset cells).cells other start
stands-overwritten g m byte other object start offset cells fits kept new old =
    let t = length-take-le offset object.cells (omega (arith, fits)) in
    let d = length-drop (offset + length cells) object.cells in
    let part : start + (offset + length cells) ≡ start + offset + length cells = omega arith in
    stands-append g m other (take offset object.cells) (cells ++ drop (offset + length cells) object.cells) start
    (stands-same g m byte other (take offset object.cells) start (λ k l. kept k (omega (arith, l, t, fits)) (inl (omega (arith, l, t)))) (stands-take g m byte offset object.cells start old))
    (stands-at g m other (cells ++ drop (offset + length cells) object.cells) (start + offset) (start + length (take offset object.cells)) (omega (arith, t))
    (stands-append g m other cells (drop (offset + length cells) object.cells) (start + offset) new
    (stands-at g m other (drop (offset + length cells) object.cells) (start + (offset + length cells)) (start + offset + length cells) part
    (stands-same g m byte other (drop (offset + length cells) object.cells) (start + (offset + length cells))
    (λ k l. let q : start + (offset + length cells) + k ≡ start + (offset + length cells + k) = omega arith in
    ap other q ∙ (kept (offset + length cells + k) (omega (arith, l, d)) (inr (omega arith)) ∙ ap byte (sym q)))
    (stands-drop g m byte (offset + length cells) object.cells start old)))))
