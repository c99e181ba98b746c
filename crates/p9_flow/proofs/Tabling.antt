-- Columns that become rows, and what the rows say of a function.
use Rattle.std.proofs.Common.{ℕ, zero, suc, ◌+◌, ◌-◌, ◌*◌, ◌/◌, ◌%◌, ◌++◌, ◌==◌, ◌≡◌, ◌≢◌, ◌⊎◌, ◌↔◌, inl, inr, ◌<◌, Bool, true, false, refl, sym, ap, ◌∙◌, subst, arith, List, [], ◌∷◌, length, slice_index, slice_index_or, map, length-append}
use Rattle.std.specs.Int.{bit_at}
use Rattle.std.proofs.lemmas.Bool.Decides.{eqb_tells}
use Rattle.std.proofs.lemmas.List.{get_or_at, get_or_append_left, get_or-append_right, length-map}
use Rattle.std.proofs.lemmas.Nat.{mul-add-lt}
use Rattle.p9_abs.specs.declared.instructions.Abs.{Abs}
use Rattle.p9_abs.specs.declared.instructions.AFunction.{AFunction}
use Rattle.p9_abs.specs.Forms.{decoded}
use Rattle.p9_abs.specs.Automatics.{is_candidate}
use Rattle.p9_flow.specs.declared.acts.Act.{Act}
use Rattle.p9_flow.specs.declared.rows.Rows.{Rows}
use Rattle.p9_flow.specs.Acts.{act_of}
use Rattle.p9_flow.specs.Columns.{IsColumn}
use Rattle.p9_flow.specs.Columns as columns
use Rattle.p9_flow.specs.Tables.{AreColumns, AreRows, rows_below}
use Rattle.p9_flow.specs.Rows.{words_for, AreLiveRows}
use Rattle.p9_flow.proofs.Meaning.{live-of-acts, live-to-acts}

abbrev Tells : ℕ → ℕ → Type 0
Tells x y = (((x == y) ≡ true) × (x ≡ y)) ⊎ (((x == y) ≡ false) × (x ≢ y))

-- Columns

pub columns-none : (acts : List Act) (list : List (List ℕ)) → list ≡ [] → AreColumns acts list
unfolding AreColumns
columns-none acts list e w l = absurd (omega (arith, l, ap length e))

pub columns-push : (acts : List Act) (list after : List (List ℕ)) (column : List ℕ) (word : ℕ) → after ≡ list ++ column ∷ [] → length list ≡ word → AreColumns acts list → IsColumn acts word column → AreColumns acts after
unfolding AreColumns
columns-push acts list after column word e n all here w l = subst (λ z. IsColumn acts w (slice_index_or z w [])) (sym e) (by (eqb_tells w word))
  where
    by : Tells w word → IsColumn acts w (slice_index_or (list ++ column ∷ []) w [])
    by (inl t) = subst (λ k. IsColumn acts k (slice_index_or (list ++ column ∷ []) k [])) (sym t.1) (subst (λ z. IsColumn acts word z) (sym (get_or_at list column [] [] word n)) here)
    by (inr t) =
        let within : w < length list = omega (arith, l, t.1, n, ap length e, length-append list (column ∷ [])) in
        subst (λ z. IsColumn acts w z) (sym (get_or_append_left list (column ∷ []) [] w within)) (all w within)

-- Rows

pub rows-first : (list : List (List ℕ)) (bits : List ℕ) → bits ≡ [] → bits ≡ rows_below list 0
unfolding rows_below
rows-first list bits e = e

pub rows-more : (list : List (List ℕ)) (bits after : List ℕ) (i : ℕ) → bits ≡ rows_below list i → after ≡ bits ++ map (λ column. slice_index column i) list → after ≡ rows_below list (i + 1)
unfolding rows_below
rows-more list bits after i e f = f ∙ (ap (λ z. z ++ map (λ column. slice_index column i) list) e ∙ ap (rows_below list) (let q : suc i ≡ i + 1 = omega arith in q))

rows-length : (list : List (List ℕ)) (n : ℕ) → length (rows_below list n) ≡ n * length list
unfolding rows_below
rows-length list zero = omega arith
rows-length list (suc n) =
    length-append (rows_below list n) (map (λ column. slice_index column n) list)
    ∙ (let a = rows-length list n in let b = length-map list (λ column. slice_index column n) in omega (arith, a, b))

column-at : (list : List (List ℕ)) (i w : ℕ) → slice_index (map (λ column. slice_index column i) list) w ≡ slice_index (slice_index_or list w []) i
column-at [] i w = refl
column-at (c ∷ list) i zero = refl
column-at (c ∷ list) i (suc w) = column-at list i w

row-at : (list : List (List ℕ)) (n i w : ℕ) → i < n → w < length list → slice_index (rows_below list n) (i * length list + w) ≡ slice_index (slice_index_or list w []) i
unfolding rows_below
row-at list zero i w l h = absurd (omega (arith, l))
row-at list (suc n) i w l h = by (eqb_tells i n) (λ g. row-at list n i w g h)
  where
    by : Tells i n → (i < n → slice_index (rows_below list n) (i * length list + w) ≡ slice_index (slice_index_or list w []) i)
        → slice_index (rows_below list n ++ map (λ column. slice_index column n) list) (i * length list + w) ≡ slice_index (slice_index_or list w []) i
    by (inl t) rec =
        let here : i * length list + w ≡ n * length list + w = ap (λ k. k * length list + w) t.1 in
        get_or-append_right (rows_below list n) (map (λ column. slice_index column n) list) (n * length list) (i * length list + w) 0 (rows-length list n) (omega (arith, here))
        ∙ (ap (slice_index (map (λ column. slice_index column n) list)) (let e : (i * length list + w) - n * length list ≡ w = omega (arith, here) in e)
        ∙ (column-at list n w ∙ ap (slice_index (slice_index_or list w [])) (sym t.1)))
    by (inr t) rec =
        let g : i < n = omega (arith, l, t.1) in
        let p : i * length list + w < length list * n = mul-add-lt i (length list) w n g h in
        let m : length list * n ≡ n * length list = omega arith in
        get_or_append_left (rows_below list n) (map (λ column. slice_index column n) list) 0 (i * length list + w) (omega (arith, p, m, rows-length list n)) ∙ rec g

pub are-rows : (acts : List Act) (list : List (List ℕ)) (width count : ℕ) (bits : List ℕ) → length list ≡ width → length acts ≡ count → AreColumns acts list → bits ≡ rows_below list count → AreRows acts width bits
unfolding AreColumns IsColumn
are-rows acts list width count bits ew ec all e = record {
  count = ap length e ∙ (rows-length list count ∙ (ap (λ k. k * length list) (sym ec) ∙ ap (λ k. length acts * k) ew));
  live = λ i w b li lw lb.
      let at : slice_index bits (i * width + w) ≡ slice_index (slice_index_or list w []) i =
      ap (λ z. slice_index z (i * width + w)) e
      ∙ (ap (λ k. slice_index (rows_below list count) (i * k + w)) (sym ew) ∙ row-at list count i w (omega (arith, li, ec)) (omega (arith, lw, ew))) in
      subst (λ x. (bit_at x b ≡ 1) ↔ columns.IsLive acts (64 * w + b) i) (sym at) ((all w (omega (arith, lw, ew))).1 i b li lb);
}

-- The rows of a function

pub live-rows : (f : AFunction) (code : List Abs) (autos : List ℕ) (candidates also : List Bool) (acts same : List Act) (width : ℕ) (rows : Rows) →
    code ≡ f.code → autos ≡ f.autos → width ≡ words_for (length autos) → ((v : ℕ) → slice_index_or candidates v false ≡ is_candidate f v) → also ≡ candidates →
    acts ≡ map (λ a. act_of also (decoded a)) code → same ≡ acts → AreRows same width rows.bits.items → rows.width ≡ width → AreLiveRows f rows
live-rows f code autos candidates also acts same width rows ec ea ew exact el eacts esame r er = record {
  width = er ∙ (ew ∙ ap (λ z. words_for (length z)) ea);
  count = r.count ∙ (ap (λ k. k * width) count ∙ ap (λ k. length f.code * k) (sym er));
  bits = λ i v li lv.
      let split : 64 * (v / 64) + v % 64 ≡ v = omega arith in
      let w : v / 64 < width = omega (arith, lv, er) in
      let at = r.live i (v / 64) (v % 64) (omega (arith, li, count)) w (omega arith) in
      let place : i * width + v / 64 ≡ i * rows.width + v / 64 = ap (λ k. i * k + v / 64) (sym er) in (
        λ h. live-of-acts f also same map-same exact-also v i (subst (λ z. columns.IsLive same z i) split (at.0 (ap (λ k. bit_at (slice_index rows.bits.items k) (v % 64)) place ∙ h))),
        λ h. ap (λ k. bit_at (slice_index rows.bits.items k) (v % 64)) (sym place) ∙ at.1 (subst (λ z. columns.IsLive same z i) (sym split) (live-to-acts f also same map-same exact-also v i h)),
      );
}
  where
    map-same : same ≡ map (λ a. act_of also (decoded a)) f.code
    map-same = esame ∙ (eacts ∙ ap (map (λ a. act_of also (decoded a))) ec)

    exact-also : (v : ℕ) → slice_index_or also v false ≡ is_candidate f v
    exact-also v = ap (λ z. slice_index_or z v false) el ∙ exact v

    count : length same ≡ length f.code
    count = ap length map-same ∙ length-map f.code (λ a. act_of also (decoded a))
