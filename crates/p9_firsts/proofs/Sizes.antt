-- A complete type has at least one byte, where bodies have members.
use Rattle.std.proofs.Common.{◌≡◌, ◌≤◌, ◌<◌, ℕ, zero, suc, ◌*◌, Bool, true, List, [], ◌∷◌, length, slice_get, Option, Some, None, refl, sym, ap, subst, arith}
use Rattle.std.proofs.Math.Nat.{le-mul_of_pos_right}
use Rattle.p9_lang.specs.Types.{TypeTree, Void, Char, UChar, Short, UShort, Int, UInt, Long, ULong, Pointer, Array, Function, Tagged, MemberTree, TagTree, Tags}
use Rattle.p9_lang.specs.Layout.{Extent, on_some, extent, repeated, with_member, filled, closed, nothing_yet, members_extent, body_extent, tag_extent, layout, has_layout}
use Rattle.p9_lang.proofs.Placing.{rounds_up}
use Rattle.p9_firsts.specs.Whole.{BodiesAreFull}

pub some_of : {A B : Type 0} (o : Option A) (next : A → Option B) (y : B) → on_some o next ≡ Some y → (x : A) × (o ≡ Some x) × (next x ≡ Some y)
some_of None next y e = cc
some_of (Some x) next y e = (x, refl, e)

pub size_there : (o : Option Extent) → has_layout o ≡ true → (e : Extent) × (o ≡ Some e)
size_there None e = cc
size_there (Some x) e = (x, refl)

-- ARRAYS

pub array_size : (n : ℕ) (x e : Extent) → repeated n x ≡ Some e → (1 ≤ n) × (e.size ≡ x.size * n)
array_size zero x e k = cc
array_size (suc n) x e k =
    let z : record { size = x.size * suc n; align = x.align } ≡ e = cc in (omega arith, ap (λ y. y.size) (sym z))

pub array_laid : (tags : Tags) (t : TypeTree) (n : ℕ) (e : Extent) → layout tags (Array t n) ≡ Some e
    → (x : Extent) × (layout tags t ≡ Some x) × (1 ≤ n) × (e.size ≡ x.size * n)
array_laid tags t n e k =
    let r = some_of (layout tags t) (repeated n) e k in
    let s = array_size n r.0 e r.2 in
    (r.0, r.1, s.0, s.1)

product_grows : (a b : ℕ) → 1 ≤ b → a ≤ a * b
product_grows a b h = let p : 0 < b = omega arith in le-mul_of_pos_right a p

-- SIZES from 1

abbrev AreSized : (ℕ → Option Extent) → Type 0
AreSized f = (i : ℕ) (e : Extent) → f i ≡ Some e → 1 ≤ e.size

sized_as : (n : ℕ) (e : Extent) → 1 ≤ n → Some (record { size = n; align = n }) ≡ Some e → 1 ≤ e.size
sized_as n e le k = let z : record { size = n; align = n } ≡ e = cc in subst (λ y. 1 ≤ y.size) z le

extent_sized : (f : ℕ → Option Extent) → AreSized f → (t : TypeTree) (e : Extent) → extent f t ≡ Some e → 1 ≤ e.size
extent_sized f h Void e k = cc
extent_sized f h Char e k = sized_as 1 e (omega arith) k
extent_sized f h UChar e k = sized_as 1 e (omega arith) k
extent_sized f h Short e k = sized_as 2 e (omega arith) k
extent_sized f h UShort e k = sized_as 2 e (omega arith) k
extent_sized f h Int e k = sized_as 4 e (omega arith) k
extent_sized f h UInt e k = sized_as 4 e (omega arith) k
extent_sized f h Long e k = sized_as 4 e (omega arith) k
extent_sized f h ULong e k = sized_as 4 e (omega arith) k
extent_sized f h (Pointer t) e k = sized_as 4 e (omega arith) k
extent_sized f h (Array t n) e k =
    let r = some_of (extent f t) (repeated n) e k in
    let a = extent_sized f h t r.0 r.1 in
    let s = array_size n r.0 e r.2 in
    let g = product_grows r.0.size n s.0 in
    let c : 1 ≤ r.0.size * n = omega arith in
    subst (λ m. 1 ≤ m) (sym s.1) c
extent_sized f h (Function t ts) e k = cc
extent_sized f h (Tagged i) e k = h i e k

filled_grows : (f : ℕ → Option Extent) (u : Bool) (so_far : Extent) (ms : List MemberTree) (e : Extent) → filled f u so_far ms ≡ Some e
    → (so_far.size ≤ e.size) × (so_far.align ≤ e.align)
filled_grows f u so_far [] e k =
    let z : so_far ≡ e = cc in subst (λ y. (so_far.size ≤ y.size) × (so_far.align ≤ y.align)) z (omega arith, omega arith)
filled_grows f u so_far (m ∷ ms) e k =
    let r = some_of (extent f m.type) (λ x. filled f u (with_member u so_far x) ms) e k in
    let g = filled_grows f u (with_member u so_far r.0) ms e r.2 in
    let a = g.0 in
    let b = g.1 in
    (omega arith, omega arith)

members_sized : (f : ℕ → Option Extent) → AreSized f → (u : Bool) (o : Option (List MemberTree)) (e : Extent) → (o ≡ Some [] → ⊥)
    → members_extent f u o ≡ Some e → 1 ≤ e.size
members_sized f h u None e n k = cc
members_sized f h u (Some []) e n k = absurd (n refl)
members_sized f h u (Some (m ∷ ms)) e n k =
    let r = some_of (filled f u nothing_yet (m ∷ ms)) (λ x. Some (closed x)) e k in
    let q = some_of (extent f m.type) (λ x. filled f u (with_member u nothing_yet x) ms) r.0 r.1 in
    let s = extent_sized f h m.type q.0 q.1 in
    let g = filled_grows f u (with_member u nothing_yet q.0) ms r.0 q.2 in
    let a = g.0 in
    let b = g.1 in
    let up = rounds_up r.0.size r.0.align (omega arith) in
    let v = r.2 in
    let z : closed r.0 ≡ e = cc in
    subst (λ y. 1 ≤ y.size) z (omega arith)

body_sized : (f : ℕ → Option Extent) → AreSized f → (o : Option TagTree) (e : Extent)
    → ((tag : TagTree) → o ≡ Some tag → tag.members ≡ Some [] → ⊥) → body_extent f o ≡ Some e → 1 ≤ e.size
body_sized f h None e n k = cc
body_sized f h (Some tag) e n k = members_sized f h tag.is_union tag.members e (n tag refl) k

tag_sized : (n : ℕ) (tags : Tags) → BodiesAreFull tags → AreSized (tag_extent n tags)
tag_sized zero tags full i e k = cc
tag_sized (suc n) tags full i e k = body_sized (tag_extent n tags) (tag_sized n tags full) (slice_get tags i) e (full i) k

pub size_from_one : (tags : Tags) → BodiesAreFull tags → (t : TypeTree) (e : Extent) → layout tags t ≡ Some e → 1 ≤ e.size
size_from_one tags full t e k = extent_sized (tag_extent (length tags) tags) (tag_sized (length tags) tags full) t e k

-- so an array has as many bytes as elements, or more
pub array_room : (tags : Tags) → BodiesAreFull tags → (t : TypeTree) (n : ℕ) (e : Extent) → layout tags (Array t n) ≡ Some e → n ≤ e.size
array_room tags full t n e k =
    let r = array_laid tags t n e k in
    let s = size_from_one tags full t r.0 r.1 in
    let g = product_grows n r.0.size s in
    let c : n * r.0.size ≡ r.0.size * n = omega arith in
    let d : n ≤ r.0.size * n = omega arith in
    subst (λ m. n ≤ m) (sym r.3) d
