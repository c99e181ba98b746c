-- The home that a table gives is that of the automatic's region.
use Rattle.std.proofs.Common.{ℕ, zero, suc, ◌+◌, ◌-◌, ◌==◌, ◌&&◌, ◌||◌, ◌≡◌, ◌≢◌, ◌⊎◌, inl, inr, ◌≤◌, ◌<◌, Bool, true, false, Option, Some, None, refl, sym, ap, ◌∙◌, subst, arith, List, [], ◌∷◌, length, slice_get, slice_index, slice_index_or, AllPairs, Contains, IfSome, if◌then◌else◌}
use Rattle.std.proofs.lemmas.Bool.{false≢true, and_parts, or_cases, eqb-true}
use Rattle.std.proofs.lemmas.Bool.Decides.{eqb_tells}
use Rattle.std.proofs.lemmas.Option.{slice_get_within, get_or_from_slice_get}
use Rattle.p9_abs.specs.declared.instructions.AFunction.{AFunction}
use Rattle.p9_abs.specs.declared.regions.Region.{Region}
use Rattle.p9_abs.specs.Regions.{IsHome, IsRegion, AreRegions, AreHomes, AreJoined, ComesBefore, has, home_at}
use Rattle.p9_homes.specs.Tables.{cell, IsTable, is_it, home_below, home_in}
use Rattle.p9_homes.proofs.Tabling.{all-get}

-- Membership

eqb-same : (x : ℕ) → (x == x) ≡ true
eqb-same x = by (eqb_tells x x)
  where
    by : (((x == x) ≡ true) × (x ≡ x)) ⊎ (((x == x) ≡ false) × (x ≢ x)) → (x == x) ≡ true
    by (inl t) = t.0
    by (inr t) = absurd (t.1 refl)

pub has-contains : (i : ℕ) (xs : List ℕ) → has i xs ≡ true → Contains xs i
has-contains i [] e = absurd (false≢true e)
has-contains i (x ∷ xs) e = by (λ t. has-contains i xs t) (or_cases (i == x) (has i xs) e)
  where
    by : (has i xs ≡ true → Contains xs i) → ((i == x) ≡ true) ⊎ (has i xs ≡ true) → Contains (x ∷ xs) i
    by more (inl t) = (0, omega arith, sym (eqb-true i x t))
    by more (inr t) = let c = more t in (suc c.0, omega (arith, c.1), c.2)

or-right : (b c : Bool) → c ≡ true → (b || c) ≡ true
or-right true c e = refl
or-right false c e = e

has-at : (i : ℕ) (xs : List ℕ) (k : ℕ) → k < length xs → slice_index_or xs k i ≡ i → has i xs ≡ true
has-at i [] k l e = absurd (omega (arith, l))
has-at i (x ∷ xs) zero l e = ap (λ z. (i == z) || has i xs) e ∙ ap (λ b. b || has i xs) (eqb-same i)
has-at i (x ∷ xs) (suc k) l e = or-right (i == x) (has i xs) (has-at i xs k (omega (arith, l)) e)

pub contains-has : (i : ℕ) (xs : List ℕ) → Contains xs i → has i xs ≡ true
contains-has i xs c = has-at i xs c.0 c.1 c.2

-- An automatic has one region at a point

first-least : (xs : List ℕ) (x : ℕ) → AllPairs (λ i j. i < j) xs → Contains xs x → slice_index xs 0 ≤ x
first-least xs x rising c = by c.0 c.1 c.2
  where
    by : (k : ℕ) → k < length xs → slice_index_or xs k x ≡ x → slice_index xs 0 ≤ x
    by zero l e = let q : slice_index xs 0 ≡ slice_index_or xs 0 x = default xs x l in omega (arith, q, e)
      where
        default : (xs : List ℕ) (x : ℕ) → 0 < length xs → slice_index xs 0 ≡ slice_index_or xs 0 x
        default [] x l = absurd (omega (arith, l))
        default (y ∷ ys) x l = refl
    by (suc k) l e = let p : slice_index_or xs 0 x < slice_index_or xs (suc k) x = rising 0 (suc k) x (omega arith) l in let q : slice_index xs 0 ≡ slice_index_or xs 0 x = default xs x l in omega (arith, p, q, e)
      where
        default : (xs : List ℕ) (x : ℕ) → suc k < length xs → slice_index xs 0 ≡ slice_index_or xs 0 x
        default [] x l = absurd (omega (arith, l))
        default (y ∷ ys) x l = refl

module _ (f : AFunction) (rs : List Region) (rg : AreRegions f rs) where
  ordered : (a b : ℕ) (r s : Region) (i : ℕ) → slice_get rs a ≡ Some r → slice_get rs b ≡ Some s → r.auto ≡ s.auto → Contains r.points i → Contains s.points i → a < b → ⊥
  ordered a b r s i ea eb auto ci cj l = by before
    where
      before : ComesBefore r s
      before = subst (λ z. ComesBefore z s) (get_or_from_slice_get rs a r r ea)
          (subst (ComesBefore (slice_index_or rs a r)) (get_or_from_slice_get rs b s r eb) (rg.ordered a b r l (slice_get_within rs b s eb)))

      is : IsRegion f r
      is = all-get (IsRegion f) rs a r rg.each ea

      its : IsRegion f s
      its = all-get (IsRegion f) rs b s rg.each eb

      least : ℕ
      least = slice_index r.points 0

      by : (r.auto < s.auto) ⊎ ((r.auto ≡ s.auto) × (slice_index r.points 0 < slice_index s.points 0)) → ⊥
      by (inl q) = omega (arith, q, auto)
      by (inr q) =
          let first : Contains r.points (slice_index r.points 0) = (0, is.some, head r.points is.some) in
          let joined : AreJoined f s.auto i (slice_index r.points 0) = subst (λ v. AreJoined f v i (slice_index r.points 0)) auto (is.joined i (slice_index r.points 0) ci first) in
          let c : Contains s.points (slice_index r.points 0) = its.whole i (slice_index r.points 0) cj joined in
          let m = first-least s.points (slice_index r.points 0) its.rising c in
          omega (arith, m, q.1)
        where
          head : (xs : List ℕ) → 1 ≤ length xs → slice_index_or xs 0 (slice_index xs 0) ≡ slice_index xs 0
          head [] l = absurd (omega (arith, l))
          head (x ∷ xs) l = refl

  pub one-region : (a b : ℕ) (r s : Region) (i : ℕ) → slice_get rs a ≡ Some r → slice_get rs b ≡ Some s → r.auto ≡ s.auto → Contains r.points i → Contains s.points i → a ≡ b
  one-region a b r s i ea eb auto ci cj = by (cases a b)
    where
      cases : (a b : ℕ) → (a < b) ⊎ ((a ≡ b) ⊎ (b < a))
      cases a b = grind (arith)

      by : (a < b) ⊎ ((a ≡ b) ⊎ (b < a)) → a ≡ b
      by (inl l) = absurd (ordered a b r s i ea eb auto ci cj l)
      by (inr (inl e)) = e
      by (inr (inr l)) = absurd (ordered b a s r i eb ea (sym auto) cj ci l)

-- Homes

abbrev Here : ℕ → ℕ → Region → Type 0
Here v i r = ((r.auto == v) && has i r.points) ≡ true

here : (v i : ℕ) (r : Region) → r.auto ≡ v → Contains r.points i → ((r.auto == v) && has i r.points) ≡ true
here v i r e c = ap (λ z. (z == v) && has i r.points) e ∙ (ap (λ b. b && has i r.points) (eqb-same v) ∙ contains-has i r.points c)

abbrev pub IsHomeOf : List Region → List (Option ℕ) → (v i h : ℕ) → Type 0
IsHomeOf rs homes v i h = (j : ℕ) × (r : Region) × (slice_get rs j ≡ Some r) × (slice_get homes j ≡ Some (Some h)) × (r.auto ≡ v) × Contains r.points i

-- a home is that of a region
pub home-some : (rs : List Region) (homes : List (Option ℕ)) (v i h : ℕ) → home_at rs homes v i ≡ Some h → IsHomeOf rs homes v i h
home-some [] homes v i h e = absurd (let x : None ≡ Some h = e in cc)
home-some (r ∷ rs) [] v i h e = absurd (let x : None ≡ Some h = e in cc)
home-some (r ∷ rs) (home ∷ homes) v i h e = by (λ d. home-some rs homes v i h d) ((r.auto == v) && has i r.points) refl
  where
    by : (home_at rs homes v i ≡ Some h → IsHomeOf rs homes v i h) → (b : Bool) → ((r.auto == v) && has i r.points) ≡ b → IsHomeOf (r ∷ rs) (home ∷ homes) v i h
    by more true t =
        let q = and_parts (r.auto == v) (has i r.points) t in
        (0, r, refl, ap (λ z. Some z) (sym (ap (λ b. if b then home else home_at rs homes v i) t) ∙ e), eqb-true r.auto v q.0, has-contains i r.points q.1)
    by more false t =
        let w = more (sym (ap (λ b. if b then home else home_at rs homes v i) t) ∙ e) in
        (suc w.0, w.1, w.2, w.3, w.4, w.5)

-- that of the only region
home-only : (rs : List Region) (homes : List (Option ℕ)) (v i j : ℕ) (r : Region) (home : Option ℕ) → slice_get rs j ≡ Some r → slice_get homes j ≡ Some home → r.auto ≡ v → Contains r.points i →
    ((a : ℕ) (s : Region) → slice_get rs a ≡ Some s → s.auto ≡ v → Contains s.points i → a ≡ j) → home_at rs homes v i ≡ home
home-only [] homes v i j r home e d auto c only = absurd (let x : None ≡ Some r = e in cc)
home-only (s ∷ rs) [] v i j r home e d auto c only = absurd (let x : None ≡ Some home = d in cc)
home-only (s ∷ rs) (first ∷ homes) v i zero r home e d auto c only =
    let same : s ≡ r = cc in
    ap (λ (z : Region). if (z.auto == v) && has i z.points then first else home_at rs homes v i) same
    ∙ (ap (λ b. if b then first else home_at rs homes v i) (here v i r auto c) ∙ (let q : first ≡ home = cc in q))
home-only (s ∷ rs) (first ∷ homes) v i (suc j) r home e d auto c only =
    by (home-only rs homes v i j r home e d auto c (λ a z ea za zc. let x : suc a ≡ suc j = only (suc a) z ea za zc in omega (arith, x))) ((s.auto == v) && has i s.points) refl
  where
    by : home_at rs homes v i ≡ home → (b : Bool) → ((s.auto == v) && has i s.points) ≡ b → (if (s.auto == v) && has i s.points then first else home_at rs homes v i) ≡ home
    by rest true t = let q = and_parts (s.auto == v) (has i s.points) t in absurd (let x : 0 ≡ suc j = only 0 s refl (eqb-true s.auto v q.0) (has-contains i s.points q.1) in omega (arith, x))
    by rest false t = ap (λ b. if b then first else home_at rs homes v i) t ∙ rest

-- By a table

abbrev IsFound : List (Option ℕ) → (i v h m : ℕ) → Type 0
IsFound table i v h m = (g : ℕ) × (g < m) × (h ≡ 9 + g) × (cell table i g ≡ Some v)

below-some : (table : List (Option ℕ)) (i v m h : ℕ) → home_below table i v m ≡ Some h → IsFound table i v h m
unfolding home_below
below-some table i v zero h e = absurd (let x : None ≡ Some h = e in cc)
below-some table i v (suc m) h e = by (λ d. below-some table i v m h d) (is_it v (cell table i m)) refl
  where
    is : (o : Option ℕ) → is_it v o ≡ true → o ≡ Some v
    is None t = absurd (false≢true t)
    is (Some w) t = ap (λ z. Some z) (eqb-true w v t)

    by : (home_below table i v m ≡ Some h → IsFound table i v h m) → (b : Bool) → is_it v (cell table i m) ≡ b → IsFound table i v h (suc m)
    by more true t = let q : Some (9 + m) ≡ Some h = sym (ap (λ b. if b then Some (9 + m) else home_below table i v m) t) ∙ e in (m, omega arith, (let x : h ≡ 9 + m = cc in x), is (cell table i m) t)
    by more false t = let w = more (sym (ap (λ b. if b then Some (9 + m) else home_below table i v m) t) ∙ e) in (w.0, omega (arith, w.1), w.2, w.3)

below-none : (table : List (Option ℕ)) (i v m g : ℕ) → home_below table i v m ≡ None → g < m → cell table i g ≡ Some v → ⊥
unfolding home_below
below-none table i v zero g e l c = omega (arith, l)
below-none table i v (suc m) g e l c = by (λ d k. below-none table i v m g d k c) (is_it v (cell table i m)) refl (cases g m l)
  where
    cases : (g m : ℕ) → g < suc m → (g ≡ m) ⊎ (g < m)
    cases g m l = grind (arith)

    by : (home_below table i v m ≡ None → g < m → ⊥) → (b : Bool) → is_it v (cell table i m) ≡ b → (g ≡ m) ⊎ (g < m) → ⊥
    by more true t q = let x : Some (9 + m) ≡ None = sym (ap (λ b. if b then Some (9 + m) else home_below table i v m) t) ∙ e in cc
    by more false t (inl q) = false≢true (sym t ∙ (ap (λ z. is_it v (cell table i z)) (sym q) ∙ (ap (is_it v) c ∙ eqb-same v)))
    by more false t (inr q) = more (sym (ap (λ b. if b then Some (9 + m) else home_below table i v m) t) ∙ e) q

module _ (f : AFunction) (rs : List Region) (homes : List (Option ℕ)) (count : ℕ) (table : List (Option ℕ)) (rg : AreRegions f rs) (hm : AreHomes rs homes) (t : IsTable rs homes (length rs) count table) where
  only : (v i j : ℕ) (r : Region) → slice_get rs j ≡ Some r → r.auto ≡ v → Contains r.points i → (a : ℕ) (s : Region) → slice_get rs a ≡ Some s → s.auto ≡ v → Contains s.points i → a ≡ j
  only v i j r e auto c a s es autos cs = one-region f rs rg a j s r i es e (autos ∙ sym auto) cs c

  -- where a cell has v, that is its home
  pub cell-home : (i g v : ℕ) → g < 12 → cell table i g ≡ Some v → home_at rs homes v i ≡ Some (9 + g)
  cell-home i g v l e = let w = t.each i g v l e in home-only rs homes v i w.0 w.1 (Some (9 + g)) w.3.0 w.3.1 w.4 w.5 (only v i w.0 w.1 w.3.0 w.4 w.5)

  -- and the cell of its home has v
  pub home-cell : (i v h : ℕ) → home_at rs homes v i ≡ Some h → (9 ≤ h) × (h ≤ 20) × (cell table i (h - 9) ≡ Some v)
  home-cell i v h e =
      let w = home-some rs homes v i h e in
      let range : IsHome h = all-get (λ o. IfSome o IsHome) homes w.0 (Some h) hm.range w.3 in
      let q : h ≡ 9 + (h - 9) = omega (arith, range.0) in
      (range.0, range.1, t.every w.0 i (h - 9) w.1 (slice_get_within rs w.0 w.1 w.2) (w.2, w.3 ∙ ap (λ z. Some (Some z)) q) w.5 ∙ ap (λ z. Some z) w.4)

  pub home-is : (i v : ℕ) → home_in table i v ≡ home_at rs homes v i
  home-is i v = by (home_in table i v) refl
    where
      none : (o : Option ℕ) → home_at rs homes v i ≡ o → home_in table i v ≡ None → None ≡ home_at rs homes v i
      none None e d = sym e
      none (Some h) e d = let w = home-cell i v h e in absurd (below-none table i v 12 (h - 9) d (omega (arith, w.0, w.1)) w.2)

      by : (o : Option ℕ) → home_in table i v ≡ o → home_in table i v ≡ home_at rs homes v i
      by None e = e ∙ none (home_at rs homes v i) refl e
      by (Some h) e = let w = below-some table i v 12 h e in e ∙ (ap (λ z. Some z) w.2 ∙ sym (cell-home i w.0 v w.1 w.3))
