-- Where data objects lie: one behind the other.
use Rattle.std.proofs.Common.{◌≡◌, ◌≤◌, ◌<◌, ◌⊎◌, inl, inr, ℕ, zero, suc, ◌+◌, ◌-◌, ◌*◌, ◌/◌, ◌%◌, ◌==◌, Bool, true, false, if◌then◌else◌, Some, List, [], ◌∷◌, ◌++◌, length, slice_get, slice_index, refl, sym, ap, ◌∙◌, subst, arith}
use Rattle.std.specs.Prelude.{sum_by, flat_map, unwrap_or}
use Rattle.std.proofs.lemmas.Bool.{and_parts}
use Rattle.std.proofs.lemmas.Bool.Decides.{nat_tests}
use Rattle.std.proofs.lemmas.List.{get_or_append_left, get_or-append-add, length-append}
use Rattle.std.proofs.lemmas.List.Sums.{sum_by-cons}
use Rattle.p9_abs.specs.declared.modules.Def.{Def}
use Rattle.p9_abs.specs.Modules.{size_of}
use Rattle.p9_abs.specs.Programs.{Numbered, same_def, space_of, offset_in}
use Rattle.p9_program.proofs.Lists.{some-same, none-some}

equal : (a b : ℕ) → (a == b) ≡ true → a ≡ b
equal a b h = grind (arith, nat_tests)

equal-self : (a : ℕ) → (a == a) ≡ true
equal-self a = grind (arith, nat_tests)

pub same-def-is : (d e : Def) → same_def d e ≡ true → d ≡ e
same-def-is d e h =
    let q = and_parts (d.«module» == e.«module») (d.symbol == e.symbol) h in
    ap (λ i. record { «module» = i; symbol = d.symbol }) (equal d.«module» e.«module» q.0) ∙ ap (λ k. record { «module» = e.«module»; symbol = k }) (equal d.symbol e.symbol q.1)

pub same-def-self : (d e : Def) → d ≡ e → same_def d e ≡ true
same-def-self d e h = subst (λ z. same_def d z ≡ true) h (let a = equal-self d.«module» in let b = equal-self d.symbol in rw (a, b) refl)

pub sum-cons : {A : Type 0} (f : A → ℕ) (x : A) (xs : List A) → sum_by f (x ∷ xs) ≡ f x + sum_by f xs
sum-cons f x xs = sum_by-cons f x xs

pub four-space : (r : Numbered) → space_of r % 4 ≡ 0
four-space r = four (unwrap_or (size_of r.symbol.body) 0)
  where
    four : (n : ℕ) → (n + 3) / 4 * 4 % 4 ≡ 0
    four n = omega arith

-- an object of the list with this definition, at its offset
pub record IsLaid (at : ℕ) (rs : List Numbered) (d : Def) : Type 0 where
  pub offset : ℕ
  pub it : Numbered
  pub place : ℕ
  pub is : offset_in at rs d ≡ Some offset
  pub found : slice_get rs place ≡ Some it
  pub same : it.def ≡ d
  pub low : at ≤ offset
  pub high : offset + space_of it ≤ at + sum_by space_of rs
  pub four : at % 4 ≡ 0 → offset % 4 ≡ 0

pub laid : (at : ℕ) (rs : List Numbered) (d : Def) (t : ℕ) (r : Numbered) → slice_get rs t ≡ Some r → r.def ≡ d → IsLaid at rs d
laid at [] d t r e s = absurd (none-some r e)
laid at (q ∷ rs) d zero r e s =
    let z : q.def ≡ d = ap (λ i. i.def) (some-same q r e) ∙ s in
    let b : same_def q.def d ≡ true = same-def-self q.def d z in
    let c = sum-cons space_of q rs in
    record { offset = at; it = q; place = 0; is = ap (λ i. if i then Some at else offset_in (at + space_of q) rs d) b; found = refl; same = z; low = omega arith; high = omega (arith, c); four = λ h. h }
laid at (q ∷ rs) d (suc t) r e s = by (same_def q.def d) refl (laid (at + space_of q) rs d t r e s)
  where
    by : (b : Bool) → same_def q.def d ≡ b → IsLaid (at + space_of q) rs d → IsLaid at (q ∷ rs) d
    by true h k =
        let c = sum-cons space_of q rs in
        record { offset = at; it = q; place = 0; is = ap (λ i. if i then Some at else offset_in (at + space_of q) rs d) h; found = refl; same = same-def-is q.def d h; low = omega arith; high = omega (arith, c); four = λ h. h }
    by false h k =
        let c = sum-cons space_of q rs in let l = k.low in let u = k.high in let f = four-space q in
        record {
          offset = k.offset;
          it = k.it;
          place = suc k.place;
          is = ap (λ i. if i then Some at else offset_in (at + space_of q) rs d) h ∙ k.is;
          found = k.found;
          same = k.same;
          low = omega (arith, l);
          high = omega (arith, u, c);
          four = λ z. k.four (omega (arith, z, f));
        }

-- DIFFERENT DEFINITIONS LIE APART

pub offset-low : (at : ℕ) (rs : List Numbered) (d : Def) (x : ℕ) → offset_in at rs d ≡ Some x → at ≤ x
offset-low at [] d x h = absurd (none-some x h)
offset-low at (q ∷ rs) d x h = by (same_def q.def d) h (λ g. offset-low (at + space_of q) rs d x g)
  where
    by : (b : Bool) → (if b then Some at else offset_in (at + space_of q) rs d) ≡ Some x → (offset_in (at + space_of q) rs d ≡ Some x → at + space_of q ≤ x) → at ≤ x
    by true g rec = let z = some-same at x g in omega (arith, z)
    by false g rec = let z = rec g in omega (arith, z)

-- each record of a definition has this space
abbrev pub HasSpace : List Numbered → Def → ℕ → Type 0
HasSpace rs d n = (t : ℕ) (q : Numbered) → slice_get rs t ≡ Some q → q.def ≡ d → space_of q ≡ n

pub offset-apart : (at : ℕ) (rs : List Numbered) (d e : Def) (x y n m : ℕ) → (d ≡ e → ⊥) → HasSpace rs d n → HasSpace rs e m → offset_in at rs d ≡ Some x → offset_in at rs e ≡ Some y → (x + n ≤ y) ⊎ (y + m ≤ x)
offset-apart at [] d e x y n m differ hn hm f g = absurd (none-some x f)
offset-apart at (q ∷ rs) d e x y n m differ hn hm f g =
    by (same_def q.def d) (same_def q.def e) refl refl f g (λ a b. offset-apart (at + space_of q) rs d e x y n m differ (λ t r. hn (suc t) r) (λ t r. hm (suc t) r) a b)
  where
    by : (a b : Bool) → same_def q.def d ≡ a → same_def q.def e ≡ b → (if a then Some at else offset_in (at + space_of q) rs d) ≡ Some x → (if b then Some at else offset_in (at + space_of q) rs e) ≡ Some y
        → (offset_in (at + space_of q) rs d ≡ Some x → offset_in (at + space_of q) rs e ≡ Some y → (x + n ≤ y) ⊎ (y + m ≤ x)) → (x + n ≤ y) ⊎ (y + m ≤ x)
    by true true h k f g rec = absurd (differ (sym (same-def-is q.def d h) ∙ same-def-is q.def e k))
    by true false h k f g rec =
        let z = some-same at x f in let s = hn 0 q refl (same-def-is q.def d h) in let l = offset-low (at + space_of q) rs e y g in inl (omega (arith, z, s, l))
    by false true h k f g rec =
        let z = some-same at y g in let s = hm 0 q refl (same-def-is q.def e k) in let l = offset-low (at + space_of q) rs d x f in inr (omega (arith, z, s, l))
    by false false h k f g rec = rec f g

-- TWO LISTS

pub offset-first : (at : ℕ) (xs ys : List Numbered) (d : Def) (x : ℕ) → offset_in at xs d ≡ Some x → offset_in at (xs ++ ys) d ≡ Some x
offset-first at [] ys d x h = absurd (none-some x h)
offset-first at (q ∷ xs) ys d x h = by (same_def q.def d) h (λ g. offset-first (at + space_of q) xs ys d x g)
  where
    by : (b : Bool) → (if b then Some at else offset_in (at + space_of q) xs d) ≡ Some x → (offset_in (at + space_of q) xs d ≡ Some x → offset_in (at + space_of q) (xs ++ ys) d ≡ Some x)
        → (if b then Some at else offset_in (at + space_of q) (xs ++ ys) d) ≡ Some x
    by true g rec = g
    by false g rec = rec g

pub offset-second : (at : ℕ) (xs ys : List Numbered) (d : Def) → ((t : ℕ) (q : Numbered) → slice_get xs t ≡ Some q → q.def ≡ d → ⊥) → offset_in at (xs ++ ys) d ≡ offset_in (at + sum_by space_of xs) ys d
offset-second at [] ys d none = let z : at ≡ at + 0 = omega arith in ap (λ k. offset_in k ys d) z
offset-second at (q ∷ xs) ys d none = by (same_def q.def d) refl (offset-second (at + space_of q) xs ys d (λ t r. none (suc t) r))
  where
    by : (b : Bool) → same_def q.def d ≡ b → offset_in (at + space_of q) (xs ++ ys) d ≡ offset_in (at + space_of q + sum_by space_of xs) ys d
        → (if b then Some at else offset_in (at + space_of q) (xs ++ ys) d) ≡ offset_in (at + sum_by space_of (q ∷ xs)) ys d
    by true h k = absurd (none 0 q refl (same-def-is q.def d h))
    by false h k = let c = sum-cons space_of q xs in let z : at + space_of q + sum_by space_of xs ≡ at + sum_by space_of (q ∷ xs) = omega (arith, c) in k ∙ ap (λ i. offset_in i ys d) z

-- BYTES

pub flat-length : (f : Numbered → List ℕ) (rs : List Numbered) → ((t : ℕ) (q : Numbered) → slice_get rs t ≡ Some q → length (f q) ≡ space_of q) → length (flat_map f rs) ≡ sum_by space_of rs
flat-length f [] h = refl
flat-length f (q ∷ rs) h =
    let a = length-append (f q) (flat_map f rs) in let r = flat-length f rs (λ t k. h (suc t) k) in let z = h 0 q refl in let c = sum-cons space_of q rs in
    omega (arith, a, r, z, c)

-- the bytes of an object stand at its offset
pub bytes-at : (f : Numbered → List ℕ) (at : ℕ) (rs : List Numbered) (d : Def) (x : ℕ) (bs : List ℕ) → ((t : ℕ) (q : Numbered) → slice_get rs t ≡ Some q → length (f q) ≡ space_of q)
    → ((t : ℕ) (q : Numbered) → slice_get rs t ≡ Some q → q.def ≡ d → f q ≡ bs) → offset_in at rs d ≡ Some x → (i : ℕ) → i < length bs → slice_index (flat_map f rs) (x - at + i) ≡ slice_index bs i
bytes-at f at [] d x bs sizes same h i l = absurd (none-some x h)
bytes-at f at (q ∷ rs) d x bs sizes same h i l = by (same_def q.def d) refl h (λ g. bytes-at f (at + space_of q) rs d x bs (λ t k. sizes (suc t) k) (λ t k. same (suc t) k) g i l)
  where
    by : (b : Bool) → same_def q.def d ≡ b → (if b then Some at else offset_in (at + space_of q) rs d) ≡ Some x
        → (offset_in (at + space_of q) rs d ≡ Some x → slice_index (flat_map f rs) (x - (at + space_of q) + i) ≡ slice_index bs i) → slice_index (f q ++ flat_map f rs) (x - at + i) ≡ slice_index bs i
    by true t g rec =
        let z = some-same at x g in
        let w : f q ≡ bs = same 0 q refl (same-def-is q.def d t) in
        let n : length (f q) ≡ length bs = ap length w in
        let y : x - at + i ≡ i = omega (arith, z) in
        ap (slice_index (f q ++ flat_map f rs)) y ∙ (get_or_append_left (f q) (flat_map f rs) 0 i (omega (arith, l, n)) ∙ ap (λ k. slice_index k i) w)
    by false t g rec =
        let low = offset-low (at + space_of q) rs d x g in
        let s = sizes 0 q refl in
        let y : x - at + i ≡ length (f q) + (x - (at + space_of q) + i) = omega (arith, low, s) in
        ap (slice_index (f q ++ flat_map f rs)) y ∙ (get_or-append-add (f q) (flat_map f rs) (x - (at + space_of q) + i) 0 ∙ rec g)
