-- What cells stand for after an entry, and that addresses stay whole.
use Rattle.std.proofs.Common.{ℕ, zero, suc, ◌+◌, ◌-◌, ◌≡◌, ◌≤◌, ◌<◌, ◌⊎◌, inl, inr, ◌&&◌, nat_lt, Bool, true, false, if◌then◌else◌, Option, Some, None, List, [], ◌∷◌, ◌++◌, length, take, drop, refl, sym, ap, ◌∙◌, subst, arith}
use Rattle.std.proofs.lemmas.Bool.Decides.{nat_tests}
use Rattle.std.proofs.lemmas.Option.{none-some, same_Some}
use Rattle.std.specs.Prelude.{slice_get, option_map}
use Rattle.p9_lang.specs.Symbols.{Symbol}
use Rattle.p9_cmean.specs.Cells as cells
use Rattle.p9_cmean.specs.Cells.{Cell, Pointer}
use Rattle.p9_cmean.specs.FirstContents as first
use Rattle.p9_cmean.specs.FirstContents.{is_broken}
use Rattle.p9_cmean.specs.Union.{Union}
use Rattle.p9_tree.specs.Contents.{first_pointer}
use Rattle.p9_init.specs.declared.cell.InitCell.{InitCell}
use Rattle.p9_init.specs.declared.cell.InitCell.TheVariants.{Byte, Part}
use Rattle.p9_init.specs.Cells.{part_cell, cell_of, cells_of, broken_cell, broken_from, with_entry, IsPlaced, ArePlaced}
use Rattle.p9_init.proofs.Entries.{broken_at}

-- WHAT CELLS STAND FOR

module _ (union : Union) (owner : ℕ) (symbols : List Symbol) where
  broken_part : (start end at part : ℕ) (pointer : Option Pointer) (b : Bool) → is_broken start end at part ≡ b →
      (if b then cells.Byte 0 else part_cell part pointer) ≡ first.broken_cell start end at (part_cell part pointer)
  broken_part start end at part None true e = refl
  broken_part start end at part None false e = refl
  broken_part start end at part (Some pointer) true e = sym (ap (λ t. if t then cells.Byte 0 else cells.Part part pointer) e)
  broken_part start end at part (Some pointer) false e = sym (ap (λ t. if t then cells.Byte 0 else cells.Part part pointer) e)

  through : (b : Bool) (part symbol offset : ℕ) →
      cell_of union owner symbols (if b then Byte 0 else Part part symbol offset) ≡ (if b then cells.Byte 0 else part_cell part (first_pointer union owner (slice_get symbols symbol) offset))
  through true part symbol offset = refl
  through false part symbol offset = refl

  broken_means : (start end at : ℕ) (cell : InitCell) → cell_of union owner symbols (broken_cell start end at cell) ≡ first.broken_cell start end at (cell_of union owner symbols cell)
  broken_means start end at (Byte n) = refl
  broken_means start end at (Part part symbol offset) =
      through (is_broken start end at part) part symbol offset
      ∙ broken_part start end at part (first_pointer union owner (slice_get symbols symbol) offset) (is_broken start end at part) refl

  all_broken : (start end at : ℕ) (list : List InitCell) → cells_of union owner symbols (broken_from start end at list) ≡ first.broken_from start end at (cells_of union owner symbols list)
  all_broken start end at [] = refl
  all_broken start end at (cell ∷ rest) = ap (λ c. c ∷ cells_of union owner symbols (broken_from start end (suc at) rest)) (broken_means start end at cell) ∙ ap (λ l. first.broken_cell start end at (cell_of union owner symbols cell) ∷ l) (all_broken start end (suc at) rest)

  map_take : (n : ℕ) (list : List InitCell) → cells_of union owner symbols (take n list) ≡ take n (cells_of union owner symbols list)
  map_take zero [] = refl
  map_take zero (cell ∷ rest) = refl
  map_take (suc n) [] = refl
  map_take (suc n) (cell ∷ rest) = ap (λ l. cell_of union owner symbols cell ∷ l) (map_take n rest)

  map_drop : (n : ℕ) (list : List InitCell) → cells_of union owner symbols (drop n list) ≡ drop n (cells_of union owner symbols list)
  map_drop zero [] = refl
  map_drop zero (cell ∷ rest) = refl
  map_drop (suc n) [] = refl
  map_drop (suc n) (cell ∷ rest) = map_drop n rest

  pub map_both : (xs ys : List InitCell) → cells_of union owner symbols (xs ++ ys) ≡ cells_of union owner symbols xs ++ cells_of union owner symbols ys
  map_both [] ys = refl
  map_both (x ∷ xs) ys = ap (λ l. cell_of union owner symbols x ∷ l) (map_both xs ys)

  map_size : (list : List InitCell) → length (cells_of union owner symbols list) ≡ length list
  map_size [] = refl
  map_size (cell ∷ rest) = ap suc (map_size rest)

  pub entry_means : (start : ℕ) (new list : List InitCell) →
      cells_of union owner symbols (with_entry start new list) ≡ first.with_entry start (cells_of union owner symbols new) (cells_of union owner symbols list)
  entry_means start new list =
      let end : ℕ = start + length new in
      let old : List InitCell = broken_from start end 0 list in
      let meant : List Cell = first.broken_from start end 0 (cells_of union owner symbols list) in
      let same : cells_of union owner symbols old ≡ meant = all_broken start end 0 list in
      map_both (take start old) (new ++ drop end old)
      ∙ (ap (λ l. l ++ cells_of union owner symbols (new ++ drop end old)) (map_take start old ∙ ap (take start) same)
      ∙ (ap (λ l. take start meant ++ l) (map_both new (drop end old) ∙ ap (λ l. cells_of union owner symbols new ++ l) (map_drop end old ∙ ap (drop end) same))
      ∙ ap (λ n. take start (first.broken_from start (start + n) 0 (cells_of union owner symbols list)) ++ (cells_of union owner symbols new ++ drop (start + n) (first.broken_from start (start + n) 0 (cells_of union owner symbols list)))) (sym (map_size new))))

-- ADDRESSES STAY WHOLE

get_front : {X : Type 0} (n : ℕ) (xs : List X) (i : ℕ) → i < n → slice_get (take n xs) i ≡ slice_get xs i
get_front zero xs i h = absurd (omega (arith, h))
get_front (suc n) [] i h = refl
get_front (suc n) (x ∷ xs) zero h = refl
get_front (suc n) (x ∷ xs) (suc i) h = get_front n xs i (omega (arith, h))

get_rest : {X : Type 0} (n : ℕ) (xs : List X) (i : ℕ) → slice_get (drop n xs) i ≡ slice_get xs (n + i)
get_rest zero [] i = refl
get_rest zero (x ∷ xs) i = (let e : i ≡ 0 + i = omega arith in ap (slice_get (x ∷ xs)) e)
get_rest (suc n) [] i = refl
get_rest (suc n) (x ∷ xs) i = (let e : suc (n + i) ≡ suc n + i = omega arith in get_rest n xs i ∙ ap (slice_get (x ∷ xs)) e)

get_first : {X : Type 0} (xs ys : List X) (i : ℕ) → i < length xs → slice_get (xs ++ ys) i ≡ slice_get xs i
get_first [] ys i h = absurd (omega (arith, h))
get_first (x ∷ xs) ys zero h = refl
get_first (x ∷ xs) ys (suc i) h = get_first xs ys i (omega (arith, h))

get_second : {X : Type 0} (xs ys : List X) (i : ℕ) → slice_get (xs ++ ys) (length xs + i) ≡ slice_get ys i
get_second [] ys i = (let e : 0 + i ≡ i = omega arith in ap (slice_get ys) e)
get_second (x ∷ xs) ys i = (let e : suc (length xs) + i ≡ suc (length xs + i) = omega arith in ap (slice_get (x ∷ (xs ++ ys))) e ∙ get_second xs ys i)

take_size : {X : Type 0} (n : ℕ) (xs : List X) → n ≤ length xs → length (take n xs) ≡ n
take_size zero xs h = refl
take_size (suc n) [] h = absurd (omega (arith, h))
take_size (suc n) (x ∷ xs) h = ap suc (take_size n xs (omega (arith, h)))

pub broken_size : (start end at : ℕ) (list : List InitCell) → length (broken_from start end at list) ≡ length list
broken_size start end at [] = refl
broken_size start end at (cell ∷ rest) = ap suc (broken_size start end (suc at) rest)

module _ (start : ℕ) (new list : List InitCell) (within : start + length new ≤ length list) where
  end : ℕ
  end = start + length new

  old : List InitCell
  old = broken_from start (start + length new) 0 list

  front_size : length (take start old) ≡ start
  unfolding old
  front_size = (let s = broken_size start (start + length new) 0 list in take_size start (broken_from start (start + length new) 0 list) (omega (arith, s, within)))

  -- before the entry, in it, and behind it
  pub before_entry : (i : ℕ) → i < start → slice_get (with_entry start new list) i ≡ option_map (broken_cell start (start + length new) i) (slice_get list i)
  unfolding old
  before_entry i h =
      let s = front_size in
      get_first (take start old) (new ++ drop (start + length new) old) i (omega (arith, s, h))
      ∙ (get_front start old i h ∙ broken_at start (start + length new) 0 list i ∙ ap (λ n. option_map (broken_cell start (start + length new) n) (slice_get list i)) (omega arith))

  pub in_entry : (j : ℕ) → j < length new → slice_get (with_entry start new list) (start + j) ≡ slice_get new j
  unfolding old
  in_entry j h =
      let s = front_size in
      let e : start + j ≡ length (take start old) + j = omega (arith, s) in
      ap (slice_get (with_entry start new list)) e
      ∙ (get_second (take start old) (new ++ drop (start + length new) old) j ∙ get_first new (drop (start + length new) old) j h)

  pub behind_entry : (i : ℕ) → start + length new ≤ i → slice_get (with_entry start new list) i ≡ option_map (broken_cell start (start + length new) i) (slice_get list i)
  unfolding old
  behind_entry i h =
      let s = front_size in
      let j : ℕ = i - (start + length new) in
      let e : i ≡ length (take start old) + (length new + j) = omega (arith, s, h) in
      ap (slice_get (with_entry start new list)) e
      ∙ (get_second (take start old) (new ++ drop (start + length new) old) (length new + j)
      ∙ (get_second new (drop (start + length new) old) j
      ∙ (get_rest (start + length new) old j
      ∙ (broken_at start (start + length new) 0 list (start + length new + j)
      ∙ (let a : 0 + (start + length new + j) ≡ i = omega (arith, h) in let b : start + length new + j ≡ i = omega (arith, h) in
      ap (λ n. option_map (broken_cell start (start + length new) n) (slice_get list (start + length new + j))) a ∙ ap (λ n. option_map (broken_cell start (start + length new) i) (slice_get list n)) b)))))

  -- a part that is there behind the entry and isn't of it was there before, and its address doesn't meet the entry
  pub record WasThere (i part symbol offset : ℕ) : Type 0 where
    pub there : slice_get list i ≡ Some (Part part symbol offset)
    pub apart : (i + 4 ≤ start + part) ⊎ (start + length new + part ≤ i)

  unbroken : (at part : ℕ) → is_broken start (start + length new) at part ≡ false → (at + 4 ≤ start + part) ⊎ (start + length new + part ≤ at)
  unbroken at part h = by (nat_lt at (start + length new + part)) (nat_lt (start + part) (at + 4)) refl refl
    where
      both : (a b : Bool) → (a && b) ≡ false → a ≡ true → b ≡ true → ⊥
      both true true h p q = cc
      both true false h p q = cc
      both false b h p q = cc

      by : (a b : Bool) → nat_lt at (start + length new + part) ≡ a → nat_lt (start + part) (at + 4) ≡ b → (at + 4 ≤ start + part) ⊎ (start + length new + part ≤ at)
      by false b p q = inr (grind (arith, nat_tests))
      by true false p q = inl (grind (arith, nat_tests))
      by true true p q = absurd (both (nat_lt at (start + length new + part)) (nat_lt (start + part) (at + 4)) h p q)

  was_there : (i part symbol offset : ℕ) (o : Option InitCell) → slice_get list i ≡ o → option_map (broken_cell start (start + length new) i) o ≡ Some (Part part symbol offset) → WasThere i part symbol offset
  was_there i part symbol offset None e h = absurd (none-some (Part part symbol offset) h)
  was_there i part symbol offset (Some (Byte n)) e h = absurd (byte_part (same_Some (Byte n) (Part part symbol offset) h))
    where
      byte_part : Byte n ≡ Part part symbol offset → ⊥
      byte_part p = cc
  was_there i part symbol offset (Some (Part k s f)) e h = by (is_broken start (start + length new) i k) refl
    where
      by : (b : Bool) → is_broken start (start + length new) i k ≡ b → WasThere i part symbol offset
      by true q = absurd (byte_part (same_Some (Byte 0) (Part part symbol offset) (sym (ap (λ t. Some (if t then Byte 0 else Part k s f)) q) ∙ h)))
        where
          byte_part : Byte 0 ≡ Part part symbol offset → ⊥
          byte_part p = cc
      by false q =
          let same : Part k s f ≡ Part part symbol offset = same_Some (Part k s f) (Part part symbol offset) (sym (ap (λ t. Some (if t then Byte 0 else Part k s f)) q) ∙ h) in
          let part_same : k ≡ part = cc in
          record {
            there = e ∙ ap Some same;
            apart = subst (λ p. (i + 4 ≤ start + p) ⊎ (start + length new + p ≤ i)) part_same (unbroken i k q);
          }

  -- outside the entry a part stays where its address doesn't meet the entry
  stays : (i part symbol offset : ℕ) → slice_get list i ≡ Some (Part part symbol offset) → (i + 4 ≤ start + part) ⊎ (start + length new + part ≤ i) →
      option_map (broken_cell start (start + length new) i) (slice_get list i) ≡ Some (Part part symbol offset)
  stays i part symbol offset e apart =
      ap (option_map (broken_cell start (start + length new) i)) e ∙ ap (λ t. Some (if t then Byte 0 else Part part symbol offset)) (whole apart)
    where
      no_first : (a b : Bool) → a ≡ false → (a && b) ≡ false
      no_first true b p = cc
      no_first false b p = refl

      no_second : (a b : Bool) → b ≡ false → (a && b) ≡ false
      no_second true b p = p
      no_second false b p = refl

      whole : (i + 4 ≤ start + part) ⊎ (start + length new + part ≤ i) → is_broken start (start + length new) i part ≡ false
      whole (inl h) = no_second (nat_lt i (start + length new + part)) (nat_lt (start + part) (i + 4)) (grind (arith, nat_tests))
      whole (inr h) = no_first (nat_lt i (start + length new + part)) (nat_lt (start + part) (i + 4)) (grind (arith, nat_tests))

  outside_entry : (i : ℕ) → (i < start) ⊎ (start + length new ≤ i) → slice_get (with_entry start new list) i ≡ option_map (broken_cell start (start + length new) i) (slice_get list i)
  outside_entry i (inl h) = before_entry i h
  outside_entry i (inr h) = behind_entry i h

  -- of an address that was whole and doesn't meet the entry each part stays
  old_part : ArePlaced list → (i part symbol offset : ℕ) → (i < start) ⊎ (start + length new ≤ i) → slice_get (with_entry start new list) i ≡ Some (Part part symbol offset) → IsPlaced (with_entry start new list) i part symbol offset
  old_part placed i part symbol offset out e =
      let w : WasThere i part symbol offset = was_there i part symbol offset (slice_get list i) refl (sym (outside_entry i out) ∙ e) in
      let p : IsPlaced list i part symbol offset = placed i part symbol offset w.there in
      let at : i ≡ p.base + part = p.at in
      record {
        base = p.base;
        at = at;
        few = p.few;
        whole = λ other h. outside_entry (p.base + other) (side p.base other at h w.apart) ∙ stays (p.base + other) other symbol offset (p.whole other h) (clear p.base other at h w.apart);
      }
    where
      side : (base other : ℕ) → i ≡ base + part → other < 4 → (i + 4 ≤ start + part) ⊎ (start + length new + part ≤ i) → (base + other < start) ⊎ (start + length new ≤ base + other)
      side base other at h (inl l) = inl (omega (arith, at, h, l))
      side base other at h (inr l) = inr (omega (arith, at, l))

      clear : (base other : ℕ) → i ≡ base + part → other < 4 → (i + 4 ≤ start + part) ⊎ (start + length new + part ≤ i) → (base + other + 4 ≤ start + other) ⊎ (start + length new + other ≤ base + other)
      clear base other at h (inl l) = inl (omega (arith, at, l))
      clear base other at h (inr l) = inr (omega (arith, at, l))

  -- where those of the entry are whole, all are
  pub stay_placed : ArePlaced list → ((j part symbol offset : ℕ) → slice_get new j ≡ Some (Part part symbol offset) → IsPlaced new j part symbol offset) → ArePlaced (with_entry start new list)
  stay_placed placed own i part symbol offset e = by (nat_lt i start) (nat_lt i (start + length new)) refl refl
    where
      own_part : (j : ℕ) → i ≡ start + j → j < length new → IsPlaced (with_entry start new list) i part symbol offset
      own_part j at h =
          let there : slice_get new j ≡ Some (Part part symbol offset) = sym (in_entry j h) ∙ (ap (slice_get (with_entry start new list)) (sym at) ∙ e) in
          let p : IsPlaced new j part symbol offset = own j part symbol offset there in
          let base = p.at in
          record {
            base = start + p.base;
            at = omega (arith, at, base);
            few = p.few;
            whole = λ other k. (let inside = got new (p.base + other) (Part other symbol offset) (p.whole other k) in
                let e : start + p.base + other ≡ start + (p.base + other) = omega arith in
                ap (slice_get (with_entry start new list)) e ∙ (in_entry (p.base + other) inside ∙ p.whole other k));
          }
        where
          got : {X : Type 0} (xs : List X) (n : ℕ) (x : X) → slice_get xs n ≡ Some x → n < length xs
          got [] n x q = absurd (none-some x q)
          got (y ∷ ys) zero x q = omega arith
          got (y ∷ ys) (suc n) x q = (let r = got ys n x q in omega (arith, r))

      by : (low high : Bool) → nat_lt i start ≡ low → nat_lt i (start + length new) ≡ high → IsPlaced (with_entry start new list) i part symbol offset
      by true high l h = (let b : i < start = grind (arith, nat_tests) in old_part placed i part symbol offset (inl b) e)
      by false false l h = (let b : start + length new ≤ i = grind (arith, nat_tests) in old_part placed i part symbol offset (inr b) e)
      by false true l h =
          (let b : start ≤ i = grind (arith, nat_tests) in let c : i < start + length new = grind (arith, nat_tests) in
          own_part (i - start) (omega (arith, b)) (omega (arith, b, c)))
