-- The bytes of a string literal, written one by one, are those bytes written at once.
use Rattle.std.proofs.Common.{◌≡◌, ◌<◌, ◌≤◌, ℕ, zero, suc, ◌+◌, Bool, true, false, if◌then◌else◌, List, [], ◌∷◌, ◌++◌, length, take, drop, refl, sym, ap, ◌∙◌, subst, arith, append_assoc}
use Rattle.std.proofs.lemmas.List.{length-append}
use Rattle.std.proofs.Math.Seq.{take-append_seam, drop-append_seam}
use Rattle.std.proofs.lemmas.Bool.Decides.{nat_tests}
use Rattle.p9_cmean.specs.Cells.{Pointer, Cell, Unset, Byte, Part}
use Rattle.p9_cmean.specs.FirstContents.{is_broken, broken_cell, broken_from, written_over, with_entry}

-- CELLS that are broken twice

-- by two ranges, one behind the other, as by both together
both_break : (start n at k : ℕ) → 0 < n
    → (if is_broken start (start + 1) at k then true else is_broken (start + 1) (start + 1 + n) at k) ≡ is_broken start (start + (1 + n)) at k
both_break start n at k h = grind (arith, nat_tests)

break_by : (one two : Bool) (k : ℕ) (p : Pointer) (start end at : ℕ) → is_broken start end at k ≡ two
    → broken_cell start end at (if one then Byte 0 else Part k p) ≡ (if (if one then true else two) then Byte 0 else Part k p)
break_by true two k p start end at e = refl
break_by false two k p start end at e = ap (λ b. if b then Byte 0 else Part k p) e

cell_twice : (start n at : ℕ) (c : Cell) → 0 < n
    → broken_cell (start + 1) (start + 1 + n) at (broken_cell start (start + 1) at c) ≡ broken_cell start (start + (1 + n)) at c
cell_twice start n at Unset h = refl
cell_twice start n at (Byte b) h = refl
cell_twice start n at (Part k p) h =
    break_by (is_broken start (start + 1) at k) (is_broken (start + 1) (start + 1 + n) at k) k p (start + 1) (start + 1 + n) at refl
    ∙ ap (λ b. if b then Byte 0 else Part k p) (both_break start n at k h)

broken_twice : (start n at : ℕ) (cells : List Cell) → 0 < n
    → broken_from (start + 1) (start + 1 + n) at (broken_from start (start + 1) at cells) ≡ broken_from start (start + (1 + n)) at cells
broken_twice start n at [] h = refl
broken_twice start n at (c ∷ cells) h =
    ap (λ x. x ∷ broken_from (start + 1) (start + 1 + n) (suc at) (broken_from start (start + 1) (suc at) cells)) (cell_twice start n at c h)
    ∙ ap (λ l. broken_cell start (start + (1 + n)) at c ∷ l) (broken_twice start n (suc at) cells h)

broken_length : (start end at : ℕ) (cells : List Cell) → length (broken_from start end at cells) ≡ length cells
broken_length start end at [] = refl
broken_length start end at (c ∷ cells) = ap (λ n. suc n) (broken_length start end (suc at) cells)

broken_append : (start end at : ℕ) (xs ys : List Cell) → broken_from start end at (xs ++ ys) ≡ broken_from start end at xs ++ broken_from start end (at + length xs) ys
broken_append start end at [] ys = ap (λ n. broken_from start end n ys) (omega arith)
broken_append start end at (x ∷ xs) ys =
    ap (λ l. broken_cell start end at x ∷ l) (broken_append start end (suc at) xs ys
    ∙ ap (λ n. broken_from start end (suc at) xs ++ broken_from start end n ys) (omega arith))

-- PARTS of a list

take_front : (xs ys : List Cell) (n : ℕ) → length xs ≡ n → take n (xs ++ ys) ≡ xs
take_front xs ys n e = ap (λ k. take k (xs ++ ys)) (sym e) ∙ take-append_seam xs ys

drop_front : (xs ys : List Cell) (n : ℕ) → length xs ≡ n → drop n (xs ++ ys) ≡ ys
drop_front xs ys n e = ap (λ k. drop k (xs ++ ys)) (sym e) ∙ drop-append_seam xs ys

-- the cells before so many, these, and those behind
pub record Split (cells : List Cell) (offset count : ℕ) : Type 0 where
  pub pre : List Cell
  pub mid : List Cell
  pub post : List Cell
  pub is : cells ≡ pre ++ (mid ++ post)
  pub pre_length : length pre ≡ offset
  pub mid_length : length mid ≡ count

split_at : (n : ℕ) (xs : List Cell) → n ≤ length xs → (front : List Cell) × (back : List Cell) × (xs ≡ front ++ back) × (length front ≡ n)
split_at zero xs h = ([], xs, refl, refl)
split_at (suc n) [] h = absurd (omega arith)
split_at (suc n) (x ∷ xs) h =
    let g : n ≤ length xs = omega arith in
    let r = split_at n xs g in (x ∷ r.0, r.1, ap (λ l. x ∷ l) r.2, ap (λ k. suc k) r.3)

pub split : (cells : List Cell) (offset count : ℕ) → offset + count ≤ length cells → Split cells offset count
split cells offset count h =
    let a = split_at offset cells (omega arith) in
    let n : length (a.0 ++ a.1) ≡ length a.0 + length a.1 = length-append a.0 a.1 in
    let m : length cells ≡ length (a.0 ++ a.1) = ap length a.2 in
    let l : length a.0 ≡ offset = a.3 in
    let b = split_at count a.1 (omega arith) in
    record { pre = a.0; mid = b.0; post = b.1; is = a.2 ∙ ap (λ x. a.0 ++ x) b.2; pre_length = a.3; mid_length = b.3 }

-- an entry over cells that are split where it stands
entry_split : (offset : ℕ) (new pre mid post : List Cell) → length pre ≡ offset → length mid ≡ length new
    → with_entry offset new (pre ++ (mid ++ post))
    ≡ broken_from offset (offset + length new) 0 pre ++ (new ++ broken_from offset (offset + length new) (offset + length new) post)
entry_split offset new pre mid post h g =
    let end = offset + length new in
    let p = broken_from offset end 0 pre in
    let m = broken_from offset end offset mid in
    let q = broken_from offset end end post in
    let pl : length p ≡ offset = broken_length offset end 0 pre ∙ h in
    let ml : length m ≡ length new = broken_length offset end offset mid ∙ g in
    let b : broken_from offset end 0 (pre ++ (mid ++ post)) ≡ p ++ (m ++ q) =
    broken_append offset end 0 pre (mid ++ post)
    ∙ ap (λ l. p ++ l) (ap (λ k. broken_from offset end k (mid ++ post)) (ap (λ k. 0 + k) h ∙ omega arith)
    ∙ broken_append offset end offset mid post
    ∙ ap (λ k. m ++ broken_from offset end k post) (ap (λ k. offset + k) g)) in
    let pm : length (p ++ m) ≡ end = length-append p m ∙ ap (λ k. k + length m) pl ∙ ap (λ k. offset + k) ml in
    ap (λ l. written_over offset new l) b
    ∙ ap (λ l. l ++ (new ++ drop end (p ++ (m ++ q)))) (take_front p (m ++ q) offset pl)
    ∙ ap (λ l. p ++ (new ++ l)) (ap (λ l. drop end l) (sym (append_assoc p m q)) ∙ drop_front (p ++ m) q end pm)

pub entry_length : (offset : ℕ) (new cells : List Cell) → offset + length new ≤ length cells → length (with_entry offset new cells) ≡ length cells
entry_length offset new cells h =
    let s : Split cells offset (length new) = split cells offset (length new) h in
    let end = offset + length new in
    let p = broken_from offset end 0 s.pre in
    let q = broken_from offset end end s.post in
    let e : with_entry offset new cells ≡ p ++ (new ++ q) = ap (λ c. with_entry offset new c) s.is ∙ entry_split offset new s.pre s.mid s.post s.pre_length s.mid_length in
    let a : length (p ++ (new ++ q)) ≡ length p + length (new ++ q) = length-append p (new ++ q) in
    let b : length (new ++ q) ≡ length new + length q = length-append new q in
    let c : length p ≡ length s.pre = broken_length offset end 0 s.pre in
    let d : length q ≡ length s.post = broken_length offset end end s.post in
    let f : length cells ≡ length (s.pre ++ (s.mid ++ s.post)) = ap length s.is in
    let g : length (s.pre ++ (s.mid ++ s.post)) ≡ length s.pre + length (s.mid ++ s.post) = length-append s.pre (s.mid ++ s.post) in
    let i : length (s.mid ++ s.post) ≡ length s.mid + length s.post = length-append s.mid s.post in
    let j : length s.mid ≡ length new = s.mid_length in
    let k : length (with_entry offset new cells) ≡ length (p ++ (new ++ q)) = ap length e in
    omega arith

-- one cell, and then those behind it
entry_next : (o : ℕ) (b : ℕ) (rest pre mids post : List Cell) (m : Cell) → length pre ≡ o → length mids ≡ length rest → 0 < length rest
    → with_entry (o + 1) rest (with_entry o (Byte b ∷ []) (pre ++ (m ∷ mids ++ post))) ≡ with_entry o (Byte b ∷ rest) (pre ++ (m ∷ mids ++ post))
entry_next o b rest pre mids post m h g pos =
    let n = length rest in
    let first : with_entry o (Byte b ∷ []) (pre ++ ((m ∷ []) ++ (mids ++ post))) ≡ broken_from o (o + 1) 0 pre ++ ((Byte b ∷ []) ++ broken_from o (o + 1) (o + 1) (mids ++ post)) =
    entry_split o (Byte b ∷ []) pre (m ∷ []) (mids ++ post) h refl in
    let p = broken_from o (o + 1) 0 pre in
    let ms = broken_from o (o + 1) (o + 1) mids in
    let q = broken_from o (o + 1) (o + 1 + n) post in
    let cut : broken_from o (o + 1) (o + 1) (mids ++ post) ≡ ms ++ q = broken_append o (o + 1) (o + 1) mids post ∙ ap (λ k. ms ++ broken_from o (o + 1) k post) (ap (λ k. o + 1 + k) g) in
    let group : p ++ ((Byte b ∷ []) ++ (ms ++ q)) ≡ (p ++ (Byte b ∷ [])) ++ (ms ++ q) = sym (append_assoc p (Byte b ∷ []) (ms ++ q)) in
    let pl : length (p ++ (Byte b ∷ [])) ≡ o + 1 = length-append p (Byte b ∷ []) ∙ ap (λ k. k + 1) (broken_length o (o + 1) 0 pre ∙ h) in
    let ml : length ms ≡ length rest = broken_length o (o + 1) (o + 1) mids ∙ g in
    let second : with_entry (o + 1) rest ((p ++ (Byte b ∷ [])) ++ (ms ++ q))
    ≡ broken_from (o + 1) (o + 1 + n) 0 (p ++ (Byte b ∷ [])) ++ (rest ++ broken_from (o + 1) (o + 1 + n) (o + 1 + n) q) =
    entry_split (o + 1) rest (p ++ (Byte b ∷ [])) ms q pl ml in
    let front : broken_from (o + 1) (o + 1 + n) 0 (p ++ (Byte b ∷ [])) ≡ broken_from o (o + (1 + n)) 0 pre ++ (Byte b ∷ []) =
    broken_append (o + 1) (o + 1 + n) 0 p (Byte b ∷ []) ∙ ap (λ l. l ++ (Byte b ∷ [])) (broken_twice o n 0 pre pos) in
    let back : broken_from (o + 1) (o + 1 + n) (o + 1 + n) q ≡ broken_from o (o + (1 + n)) (o + (1 + n)) post =
    broken_twice o n (o + 1 + n) post pos ∙ ap (λ k. broken_from o (o + (1 + n)) k post) (omega arith) in
    let whole : with_entry o (Byte b ∷ rest) (pre ++ ((m ∷ mids) ++ post))
    ≡ broken_from o (o + length (Byte b ∷ rest)) 0 pre ++ ((Byte b ∷ rest) ++ broken_from o (o + length (Byte b ∷ rest)) (o + length (Byte b ∷ rest)) post) =
    entry_split o (Byte b ∷ rest) pre (m ∷ mids) post h (ap (λ k. suc k) g) in
    let one : o + (1 + n) ≡ o + length (Byte b ∷ rest) = omega arith in
    ap (λ c. with_entry (o + 1) rest c) (first ∙ ap (λ l. p ++ ((Byte b ∷ []) ++ l)) cut ∙ group)
    ∙ second
    ∙ ap (λ l. l ++ (rest ++ broken_from (o + 1) (o + 1 + n) (o + 1 + n) q)) front
    ∙ ap (λ l. (broken_from o (o + (1 + n)) 0 pre ++ (Byte b ∷ [])) ++ (rest ++ l)) back
    ∙ append_assoc (broken_from o (o + (1 + n)) 0 pre) (Byte b ∷ []) (rest ++ broken_from o (o + (1 + n)) (o + (1 + n)) post)
    ∙ ap (λ e. broken_from o e 0 pre ++ ((Byte b ∷ rest) ++ broken_from o e e post)) one
    ∙ sym whole

pub next_byte : (o b : ℕ) (rest cells : List Cell) → 0 < length rest → o + suc (length rest) ≤ length cells
    → with_entry (o + 1) rest (with_entry o (Byte b ∷ []) cells) ≡ with_entry o (Byte b ∷ rest) cells
next_byte o b rest cells pos h =
    let s : Split cells o (suc (length rest)) = split cells o (suc (length rest)) h in
    by s.mid s refl
  where
    by : (mid : List Cell) → (s : Split cells o (suc (length rest))) → s.mid ≡ mid → with_entry (o + 1) rest (with_entry o (Byte b ∷ []) cells) ≡ with_entry o (Byte b ∷ rest) cells
    by [] s e = let f : length s.mid ≡ 0 = ap length e in let g : length s.mid ≡ suc (length rest) = s.mid_length in absurd (omega arith)
    by (m ∷ mids) s e =
        let is : cells ≡ s.pre ++ ((m ∷ mids) ++ s.post) = s.is ∙ ap (λ l. s.pre ++ (l ++ s.post)) e in
        let f : length s.mid ≡ suc (length mids) = ap length e in
        let g : length s.mid ≡ suc (length rest) = s.mid_length in
        let i : length mids ≡ length rest = omega arith in
        subst (λ c. with_entry (o + 1) rest (with_entry o (Byte b ∷ []) c) ≡ with_entry o (Byte b ∷ rest) c) (sym is)
        (entry_next o b rest s.pre mids s.post m s.pre_length i pos)
