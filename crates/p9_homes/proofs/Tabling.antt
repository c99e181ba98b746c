-- A table of homes is filled point by point and region by region.
use Rattle.std.proofs.Common.{ℕ, zero, suc, ◌+◌, ◌-◌, ◌*◌, ◌≡◌, ◌≢◌, ◌⊎◌, inl, inr, ◌≤◌, ◌<◌, Option, Some, None, refl, sym, ap, ◌∙◌, subst, arith, List, [], ◌∷◌, ◌++◌, drop, replicate, length, slice_get, slice_index, slice_index_or, slice_set, take, All, Contains, IfSome, if◌then◌else◌}
use Rattle.std.proofs.lemmas.List.{get_or-set_same, get_or-set_other, length-set, length-replicate, take_more}
use Rattle.std.proofs.Math.Seq.{take-append_seam}
use Rattle.std.proofs.lemmas.List.Elements.{Contains-append_left, Contains-push, Contains-push_cases}
use Rattle.std.proofs.lemmas.Option.{slice_get_within, get_or_from_slice_get}
use Rattle.p9_abs.specs.declared.regions.Region.{Region}
use Rattle.p9_abs.specs.Regions.{IsHome, AreHomes}
use Rattle.p9_homes.specs.Tables.{cell, AreMarked, IsAt, IsTable, is_it, home_below}

pub all-get : {X : Type 0} (P : X → Type 0) (xs : List X) (k : ℕ) (x : X) → All P xs → slice_get xs k ≡ Some x → P x
all-get P xs k x all e = subst P (get_or_from_slice_get xs k x x e) (all k x (slice_get_within xs k x e))

-- Points that are taken in one after the other

contains-none : (i : ℕ) → Contains [] i → ⊥
contains-none i c = absurd (omega (arith, c.1))

contains-before : (points : List ℕ) (n i : ℕ) → n < length points → Contains (take n points) i → Contains (take (n + 1) points) i
contains-before points n i l c = subst (λ z. Contains z i) (sym (take_more points n 0 l)) (Contains-append_left (take n points) (slice_index points n ∷ []) i c)

contains-here : (points : List ℕ) (n : ℕ) → n < length points → Contains (take (n + 1) points) (slice_index points n)
contains-here points n l = subst (λ z. Contains z (slice_index points n)) (sym (take_more points n 0 l)) (Contains-push (take n points) (slice_index points n))

contains-cases : (points : List ℕ) (n i : ℕ) → n < length points → Contains (take (n + 1) points) i → Contains (take n points) i ⊎ (slice_index points n ≡ i)
contains-cases points n i l c = Contains-push_cases (take n points) (slice_index points n) i (subst (λ z. Contains z i) (take_more points n 0 l) c)

pub marked-none : (points : List ℕ) (v g : ℕ) (cells : List (Option ℕ)) → points ≡ [] → AreMarked points v g cells cells
marked-none points v g cells e = record {
  count = refl;
  marked = λ i c. absurd (contains-none i (subst (λ z. Contains z i) e c));
  others = λ i b l. inr refl;
}

same-or : (x y : ℕ) → (x ≡ y) ⊎ (x ≢ y)
same-or x y = by (order x y)
  where
    order : (x y : ℕ) → (x < y) ⊎ (y ≤ x)
    order x y = grind (arith)

    least : (x y : ℕ) → y ≤ x → (x ≡ y) ⊎ (y < x)
    least x y l = grind (arith)

    by : (x < y) ⊎ (y ≤ x) → (x ≡ y) ⊎ (x ≢ y)
    by (inl l) = inr (λ e. omega (arith, l, e))
    by (inr l) = more (least x y l)
      where
        more : (x ≡ y) ⊎ (y < x) → (x ≡ y) ⊎ (x ≢ y)
        more (inl e) = inl e
        more (inr l) = inr (λ e. omega (arith, l, e))

module _ (points : List ℕ) (v g n : ℕ) (before after : List (Option ℕ)) (lg : g < 12) (l : n < length points) (room : slice_index points n * 12 + 12 ≤ length before) (m : AreMarked (take n points) v g before after) where
  abbrev here : ℕ
  here = slice_index points n

  abbrev next : List (Option ℕ)
  next = slice_set after (here * 12 + g) (Some v)

  at-here : cell next here g ≡ Some v
  at-here = get_or-set_same after (here * 12 + g) (Some v) None (let c = m.count in omega (arith, c, room, lg))

  same-cell : (i b : ℕ) → b < 12 → i * 12 + b ≡ here * 12 + g → (b ≡ g) × (here ≡ i)
  same-cell i b lb e = (omega (arith, e, lb, lg), omega (arith, e, lb, lg))

  other : (i b : ℕ) → i * 12 + b ≢ here * 12 + g → cell next i b ≡ cell after i b
  other i b ne = get_or-set_other after (here * 12 + g) (i * 12 + b) (Some v) None ne

  marked : (i : ℕ) → (here ≡ i) ⊎ (here ≢ i) → Contains (take n points) i ⊎ (here ≡ i) → cell next i g ≡ Some v
  marked i (inl e) c = subst (λ z. cell next z g ≡ Some v) e at-here
  marked i (inr ne) (inl c) = other i g (λ e. ne (same-cell i g lg e).1) ∙ m.marked i c
  marked i (inr ne) (inr e) = absurd (ne e)

  others : (i b : ℕ) → b < 12 → (i * 12 + b ≡ here * 12 + g) ⊎ (i * 12 + b ≢ here * 12 + g) → ((b ≡ g) × Contains (take (n + 1) points) i) ⊎ (cell next i b ≡ cell before i b)
  others i b lb (inl e) = let p = same-cell i b lb e in inl (p.0, subst (λ z. Contains (take (n + 1) points) z) p.1 (contains-here points n l))
  others i b lb (inr ne) = by (m.others i b lb)
    where
      by : ((b ≡ g) × Contains (take n points) i) ⊎ (cell after i b ≡ cell before i b) → ((b ≡ g) × Contains (take (n + 1) points) i) ⊎ (cell next i b ≡ cell before i b)
      by (inl c) = inl (c.0, contains-before points n i l c.1)
      by (inr e) = inr (other i b ne ∙ e)

  pub marked-more : AreMarked (take (n + 1) points) v g before next
  marked-more = record {
    count = length-set after (here * 12 + g) (Some v) ∙ m.count;
    marked = λ i c. marked i (same-or here i) (contains-cases points n i l c);
    others = λ i b lb. others i b lb (same-or (i * 12 + b) (here * 12 + g));
  }

-- Regions that are taken in one after the other

module _ (rs : List Region) (homes : List (Option ℕ)) (k count : ℕ) (r : Region) (before after : List (Option ℕ)) (h : AreHomes rs homes) (is : slice_get rs k ≡ Some r) (t : IsTable rs homes k count before) where
  none-more : slice_get homes k ≡ Some None → after ≡ before → IsTable rs homes (k + 1) count after
  none-more home e = subst (IsTable rs homes (k + 1) count) (sym e) (record {
    size = t.size;
    each = λ i g v l c. let w = t.each i g v l c in (w.0, w.1, omega (arith, w.2), w.3, w.4, w.5);
    every = λ j i g s l at c. every j i g s (earlier j l (same-or j k)) at c;
  })
    where
      earlier : (j : ℕ) → j < k + 1 → (j ≡ k) ⊎ (j ≢ k) → (j ≡ k) ⊎ (j < k)
      earlier j l (inl e) = inl e
      earlier j l (inr ne) = inr (omega (arith, l, ne))

      every : (j i g : ℕ) (s : Region) → (j ≡ k) ⊎ (j < k) → IsAt rs homes j s g → Contains s.points i → cell before i g ≡ Some s.auto
      every j i g s (inl q) at c = absurd (let x : Some (Some (9 + g)) ≡ Some None = sym at.1 ∙ (ap (slice_get homes) q ∙ home) in cc)
      every j i g s (inr l) at c = t.every j i g s l at c

  module _ (g : ℕ) (home : slice_get homes k ≡ Some (Some (9 + g))) (m : AreMarked r.points r.auto g before after) where
    each : (i b v : ℕ) → cell after i b ≡ Some v → ((b ≡ g) × Contains r.points i) ⊎ (cell after i b ≡ cell before i b) → b < 12 →
        (j : ℕ) × (s : Region) × (j < k + 1) × IsAt rs homes j s b × (s.auto ≡ v) × Contains s.points i
    each i b v e (inl c) lb = (
      k,
      r,
      omega arith,
      (is, home ∙ ap (λ z. Some (Some (9 + z))) (sym c.0)),
      (let q : Some r.auto ≡ Some v = sym (m.marked i c.1) ∙ (ap (cell after i) (sym c.0) ∙ e) in cc),
      c.1,
    )
    each i b v e (inr q) lb = let w = t.each i b v lb (sym q ∙ e) in (w.0, w.1, omega (arith, w.2), w.3, w.4, w.5)

    in-range : (j b : ℕ) → slice_get homes j ≡ Some (Some (9 + b)) → b < 12
    in-range j b e = let x : IsHome (9 + b) = all-get (λ o. IfSome o IsHome) homes j (Some (9 + b)) h.range e in omega (arith, x.1)

    every : (j i b : ℕ) (s : Region) → j < k + 1 → (j ≡ k) ⊎ (j ≢ k) → IsAt rs homes j s b → Contains s.points i → cell after i b ≡ Some s.auto
    every j i b s l (inl q) at c =
        let same : s ≡ r = (let x : Some s ≡ Some r = sym at.0 ∙ (ap (slice_get rs) q ∙ is) in cc) in
        let gs : b ≡ g = (let x : Some (Some (9 + b)) ≡ Some (Some (9 + g)) = sym at.1 ∙ (ap (slice_get homes) q ∙ home) in let y : 9 + b ≡ 9 + g = cc in omega (arith, y)) in
        ap (cell after i) gs ∙ (m.marked i (subst (λ z. Contains z.points i) same c) ∙ ap (λ (z : Region). Some z.auto) (sym same))
    every j i b s l (inr ne) at c = by (m.others i b (in-range j b at.1))
      where
        by : ((b ≡ g) × Contains r.points i) ⊎ (cell after i b ≡ cell before i b) → cell after i b ≡ Some s.auto
        by (inr e) = e ∙ t.every j i b s (omega (arith, l, ne)) at c
        by (inl p) = absurd (h.apart j k (9 + g) s r ne at.0 is (i, c, p.1) (at.1 ∙ ap (λ z. Some (Some (9 + z))) p.0) home)

    some-more : IsTable rs homes (k + 1) count after
    some-more = record {
      size = m.count ∙ t.size;
      each = λ i b v l e. each i b v e (m.others i b l) l;
      every = λ j i b s l at c. every j i b s l (same-or j k) at c;
    }

  pub table-more : (home : Option ℕ) → slice_get homes k ≡ Some home → (home ≡ None → after ≡ before) → ((g : ℕ) → g < 12 → home ≡ Some (9 + g) → AreMarked r.points r.auto g before after) → IsTable rs homes (k + 1) count after
  table-more None e none some = none-more e (none refl)
  table-more (Some d) e none some =
      let x : IsHome d = all-get (λ o. IfSome o IsHome) homes k (Some d) h.range e in
      let q : d ≡ 9 + (d - 9) = omega (arith, x.0) in
      some-more (d - 9) (e ∙ ap (λ z. Some (Some z)) q) (some (d - 9) (omega (arith, x.1)) (ap (λ z. Some z) q))

pub table-none : (rs : List Region) (homes : List (Option ℕ)) (count : ℕ) (table : List (Option ℕ)) → length table ≡ count * 12 → ((i g : ℕ) → cell table i g ≡ None) → IsTable rs homes 0 count table
table-none rs homes count table size none = record {
  size = size;
  each = λ i g v l e. absurd (let x : None ≡ Some v = sym (none i g) ∙ e in cc);
  every = λ j i g r l at c. absurd (omega (arith, l));
}

pub table-whole : (rs : List Region) (homes : List (Option ℕ)) (k n count : ℕ) (table : List (Option ℕ)) → k ≡ n → IsTable rs homes k count table → IsTable rs homes n count table
table-whole rs homes k n count table e t = subst (λ z. IsTable rs homes z count table) e t

-- One more home

pub home-more : (table : List (Option ℕ)) (i v g : ℕ) (home next : Option ℕ) → home ≡ home_below table i v g → next ≡ (if is_it v (cell table i g) then Some (9 + g) else home) → next ≡ home_below table i v (g + 1)
unfolding home_below
home-more table i v g home next e d =
    d ∙ (ap (λ z. if is_it v (cell table i g) then Some (9 + g) else z) e ∙ ap (home_below table i v) (let q : suc g ≡ g + 1 = omega arith in q))

pub home-first : (table : List (Option ℕ)) (i v : ℕ) → None ≡ home_below table i v 0
unfolding home_below
home-first table i v = refl

abbrev empty : Option ℕ
empty = None

none-at : (n k : ℕ) → slice_index_or (replicate n empty) k empty ≡ empty
none-at zero k = refl
none-at (suc n) zero = refl
none-at (suc n) (suc k) = none-at n k

end : (n : ℕ) → replicate n empty ++ empty ∷ [] ≡ replicate (suc n) empty
end zero = refl
end (suc n) = ap (λ z. empty ∷ z) (end n)

pub replicate-more : (n : ℕ) (cells after : List (Option ℕ)) → cells ≡ replicate n empty → after ≡ cells ++ empty ∷ [] → after ≡ replicate (n + 1) empty
replicate-more n cells after e d = d ∙ (ap (λ z. z ++ empty ∷ []) e ∙ (end n ∙ ap (λ k. replicate k empty) (let q : suc n ≡ n + 1 = omega arith in q)))

cell-none : (n i g : ℕ) → cell (replicate n empty) i g ≡ empty
cell-none n i g = none-at n (i * 12 + g)

pub table-start : (rs : List Region) (homes : List (Option ℕ)) (count : ℕ) (table : List (Option ℕ)) → table ≡ replicate (count * 12) empty → IsTable rs homes 0 count table
table-start rs homes count table e = table-none rs homes count table (ap length e ∙ length-replicate (count * 12) empty) (λ i g. ap (λ z. cell z i g) e ∙ cell-none (count * 12) i g)

-- a slice that was lent whole comes back whole
pub taken-back : {X : Type 0} (new items : List X) (n : ℕ) → n ≡ length new → take n (new ++ drop (length new) items) ≡ new
taken-back new items n e = ap (λ k. take k (new ++ drop (length new) items)) e ∙ take-append_seam new (drop (length new) items)

pub homes-along : (rs qs : List Region) (homes others : List (Option ℕ)) → rs ≡ qs → homes ≡ others → AreHomes rs homes → AreHomes qs others
homes-along rs qs homes others e d h = subst (λ z. AreHomes z others) e (subst (AreHomes rs) d h)

pub table-along : (rs qs : List Region) (homes others : List (Option ℕ)) (count : ℕ) (table after : List (Option ℕ)) → rs ≡ qs → homes ≡ others → table ≡ after →
    IsTable rs homes (length rs) count table → IsTable qs others (length qs) count after
table-along rs qs homes others count table after e d a t =
    subst (λ z. IsTable z others (length z) count after) e (subst (λ z. IsTable rs z (length rs) count after) d (subst (IsTable rs homes (length rs) count) a t))
