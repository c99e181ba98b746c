-- Extents that count as alike stay so in arrays, structures and unions.
use Rattle.std.proofs.Common.{◌≡◌, ℕ, zero, suc, ◌+◌, ◌*◌, Bool, true, false, List, [], ◌∷◌, Option, Some, None, refl, sym, ap, subst, ◌∙◌, arith}
use Rattle.p9_lang.specs.Types.{TypeTree, Array, Tagged, MemberTree, TagTree}
use Rattle.p9_lang.specs.Layout.{Extent, on_some, extent, repeated, rounded, with_member, member_offset, filled, closed, nothing_yet, members_extent, body_extent}
use Rattle.p9_lang.specs.TagRules.{Within, AreWithin, BodyWithin, TagWithin}
use Rattle.p9_types.specs.Capping.{capped, AreAlike, Alike, innermost, count_in}
use Rattle.p9_types.proofs.Arithmetic.{alike_sum, alike_max, alike_product, alike_rounded}

pub are_alike : (a : Extent) → AreAlike a a
are_alike a = record { sizes = refl; aligns = refl }

pub alike_itself : (o : Option Extent) → Alike o o
alike_itself None = tt
alike_itself (Some a) = are_alike a

pub alike_same : (o p : Option Extent) → o ≡ p → Alike o p
alike_same o p e = subst (Alike o) e (alike_itself o)

pub alike_turned : (a b : Option Extent) → Alike a b → Alike b a
alike_turned None None h = tt
alike_turned None (Some b) h = absurd h
alike_turned (Some a) None h = absurd h
alike_turned (Some a) (Some b) h = record { sizes = sym h.sizes; aligns = sym h.aligns }

pub alike_then : (a b c : Option Extent) → Alike a b → Alike b c → Alike a c
alike_then None None c h k = k
alike_then None (Some b) c h k = absurd h
alike_then (Some a) None c h k = absurd h
alike_then (Some a) (Some b) None h k = absurd k
alike_then (Some a) (Some b) (Some c) h k = record { sizes = h.sizes ∙ k.sizes; aligns = h.aligns ∙ k.aligns }

pub alike_repeated : (m n : ℕ) (a b : Extent) → capped m ≡ capped n → AreAlike a b → Alike (repeated m a) (repeated n b)
alike_repeated zero zero a b e h = tt
alike_repeated zero (suc n) a b e h = absurd (omega arith)
alike_repeated (suc m) zero a b e h = absurd (omega arith)
alike_repeated (suc m) (suc n) a b e h = record { sizes = alike_product a.size b.size (suc m) (suc n) h.sizes e; aligns = h.aligns }

pub alike_offset : (u : Bool) (a b x y : Extent) → AreAlike a b → AreAlike x y → capped (member_offset u a x) ≡ capped (member_offset u b y)
alike_offset false a b x y h k = alike_rounded a.size b.size x.align h.sizes ∙ ap (λ n. capped (rounded b.size n)) k.aligns
alike_offset true a b x y h k = refl

pub alike_member : (u : Bool) (a b x y : Extent) → AreAlike a b → AreAlike x y → AreAlike (with_member u a x) (with_member u b y)
alike_member u a b x y h k = record {
  sizes = alike_max a.size b.size (member_offset u a x + x.size) (member_offset u b y + y.size) h.sizes
      (alike_sum (member_offset u a x) (member_offset u b y) x.size y.size (alike_offset u a b x y h k) k.sizes);
  aligns = let e = h.aligns in let f = k.aligns in cc;
}

pub alike_closed : (a b : Extent) → AreAlike a b → AreAlike (closed a) (closed b)
alike_closed a b h = record {
  sizes = alike_rounded a.size b.size a.align h.sizes ∙ ap (λ n. capped (rounded b.size n)) h.aligns;
  aligns = h.aligns;
}

alike_on_some : (a b : Option Extent) (next later : Extent → Option Extent) → Alike a b
    → ((x y : Extent) → AreAlike x y → Alike (next x) (later y)) → Alike (on_some a next) (on_some b later)
alike_on_some None None next later h k = tt
alike_on_some None (Some b) next later h k = absurd h
alike_on_some (Some a) None next later h k = absurd h
alike_on_some (Some a) (Some b) next later h k = k a b h

-- where the extents of the structures within count as alike
abbrev pub AlikeWhere : (holds : ℕ → Type 0) (f g : ℕ → Option Extent) → Type 0
AlikeWhere holds f g = (i : ℕ) → holds i → Alike (f i) (g i)

pub extents_alike : (f g : ℕ → Option Extent) (holds : ℕ → Type 0) → AlikeWhere holds f g → (t : TypeTree) → Within holds t
    → Alike (extent f t) (extent g t)
extents_alike f g holds h (Array t n) w =
    alike_on_some (extent f t) (extent g t) (repeated n) (repeated n) (extents_alike f g holds h t w) (λ x y k. alike_repeated n n x y refl k)
extents_alike f g holds h (Tagged i) w = h i w
extents_alike f g holds h t w = alike_itself (extent f t)

pub filled_alike : (f g : ℕ → Option Extent) (holds : ℕ → Type 0) → AlikeWhere holds f g → (u : Bool) (a b : Extent) → AreAlike a b
    → (ms : List MemberTree) → AreWithin holds ms → Alike (filled f u a ms) (filled g u b ms)
filled_alike f g holds h u a b k [] w = k
filled_alike f g holds h u a b k (m ∷ ms) w =
    alike_on_some (extent f m.type) (extent g m.type) (λ e. filled f u (with_member u a e) ms) (λ e. filled g u (with_member u b e) ms)
    (extents_alike f g holds h m.type w.0)
    (λ x y l. filled_alike f g holds h u (with_member u a x) (with_member u b y) (alike_member u a b x y k l) ms w.1)

pub bodies_alike : (f g : ℕ → Option Extent) (holds : ℕ → Type 0) → AlikeWhere holds f g → (o : Option TagTree) → TagWithin holds o
    → Alike (body_extent f o) (body_extent g o)
bodies_alike f g holds h None w = tt
bodies_alike f g holds h (Some tag) w = by tag.members w
  where
    by : (o : Option (List MemberTree)) → BodyWithin holds o → Alike (members_extent f tag.is_union o) (members_extent g tag.is_union o)
    by None w = tt
    by (Some ms) w =
        alike_on_some (filled f tag.is_union nothing_yet ms) (filled g tag.is_union nothing_yet ms) (λ e. Some (closed e)) (λ e. Some (closed e))
        (filled_alike f g holds h tag.is_union nothing_yet nothing_yet (are_alike nothing_yet) ms w) (λ x y k. alike_closed x y k)

within_all : (t : TypeTree) → Within (λ i. Unit {0}) t
within_all (Array t n) = within_all t
within_all _ = tt

all_within_all : (ms : List MemberTree) → AreWithin (λ i. Unit {0}) ms
all_within_all [] = tt
all_within_all (m ∷ ms) = (within_all m.type, all_within_all ms)

-- a member more
pub member_step : (f : ℕ → Option Extent) (u : Bool) (so_far next : Extent) (t : TypeTree) (ms : List MemberTree) (x : Extent) (whole : Option Extent)
    → Alike (Some x) (extent f t) → AreAlike next (with_member u so_far x)
    → Alike (on_some (extent f t) (λ e. filled f u (with_member u so_far e) ms)) whole → Alike (filled f u next ms) whole
member_step f u so_far next t ms x whole h k l = by (extent f t) h l
  where
    by : (o : Option Extent) → Alike (Some x) o → Alike (on_some o (λ e. filled f u (with_member u so_far e) ms)) whole → Alike (filled f u next ms) whole
    by None h l = absurd h
    by (Some y) h l =
        let m = alike_member u so_far so_far x y (are_alike so_far) h in
        alike_then (filled f u next ms) (filled f u (with_member u so_far y) ms) whole
        (filled_alike f f (λ i. Unit {0}) (λ i w. alike_itself (f i)) u next (with_member u so_far y)
        (record { sizes = k.sizes ∙ m.sizes; aligns = k.aligns ∙ m.aligns }) ms (all_within_all ms)) l

-- ARRAYS OF ARRAYS

repeated_once : (o : Option Extent) → o ≡ on_some o (repeated 1)
repeated_once None = refl
repeated_once (Some x) = let e : x.size ≡ x.size * 1 = omega arith in ap (λ n. Some (record { size = n; align = x.align })) e

repeated_twice : (o : Option Extent) (m n : ℕ) → on_some (on_some o (repeated m)) (repeated n) ≡ on_some o (repeated (m * n))
repeated_twice None m n = refl
repeated_twice (Some x) zero n = let e : 0 ≡ 0 * n = omega arith in ap (λ k. repeated k x) e
repeated_twice (Some x) (suc m) zero = let e : 0 ≡ suc m * 0 = omega arith in ap (λ k. repeated k x) e
repeated_twice (Some x) (suc m) (suc n) =
    let e : suc (suc m * n + m) ≡ suc m * suc n = omega arith in
    let f : x.size * suc m * suc n ≡ x.size * suc (suc m * n + m) = omega arith in
    ap (λ k. Some (record { size = k; align = x.align })) f ∙ ap (λ k. repeated k x) e

pub extent_innermost : (f : ℕ → Option Extent) (t : TypeTree) → extent f t ≡ on_some (extent f (innermost t)) (repeated (count_in t))
extent_innermost f (Array t n) = ap (λ o. on_some o (repeated n)) (extent_innermost f t) ∙ repeated_twice (extent f (innermost t)) (count_in t) n
extent_innermost f t = repeated_once _

-- elements of a known extent, repeated as often as is told
pub repeated_whole : (f : ℕ → Option Extent) (t u : TypeTree) (count : ℕ) (o answer : Option Extent) → u ≡ innermost t → count ≡ capped (count_in t)
    → o ≡ extent f u → Alike answer (on_some o (repeated count)) → Alike answer (extent f t)
repeated_whole f t u count o answer e n k h =
    alike_then answer (on_some o (repeated count)) (extent f t) h
    (alike_then (on_some o (repeated count)) (on_some o (repeated (count_in t))) (extent f t) (counts o)
    (alike_same _ _ (ap (λ p. on_some p (repeated (count_in t))) (k ∙ ap (extent f) e) ∙ sym (extent_innermost f t))))
  where
    counts : (o : Option Extent) → Alike (on_some o (repeated count)) (on_some o (repeated (count_in t)))
    counts None = tt
    counts (Some x) = alike_repeated count (count_in t) x x (let m = n in omega arith) (are_alike x)
