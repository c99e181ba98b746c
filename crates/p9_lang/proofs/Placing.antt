-- Members stand inside their structure, aligned, and those of a structure apart.
use Rattle.std.proofs.Common.{◌≡◌, ◌≤◌, ℕ, zero, suc, ◌+◌, ◌-◌, ◌*◌, ◌/◌, Bool, true, false, List, [], ◌∷◌, length, slice_get, Option, Some, None, refl, sym, ap, subst, ◌∙◌, arith}
use Rattle.std.proofs.Math.Nat.{mod-add-div, mod-lt}
use Rattle.p9_lang.specs.Types.{TypeTree, Void, Char, UChar, Short, UShort, Int, UInt, Long, ULong, Pointer, Array, Function, Tagged, MemberTree, TagTree, Tags}
use Rattle.p9_lang.specs.Layout.{Extent, on_some, extent, repeated, rounded, member_offset, with_member, filled, closed, nothing_yet, members_extent, body_extent, tag_extent, layout, size_of, alignment_of, size_in, alignment_in}
use Rattle.p9_lang.specs.Members.{Placed, or_empty, placed_from, placed_in_body, placed_in_tag}
use Rattle.p9_lang.specs.Laws.{IsPlacedIn, ArePlacedIn, StandFrom, StandAtStart, StandApart, MembersArePlaced}
use Rattle.p9_lang.proofs.Layouts.{layout_is_that_of_members}

-- rounding up

pub rounds_up : (n a : ℕ) → 1 ≤ a → n ≤ rounded n a
rounds_up n a le =
    let m = mod-add-div (n + (a - 1)) a in
    let l = mod-lt (n + (a - 1)) {m = a} le in
    let c : (n + (a - 1)) / a * a ≡ a * ((n + (a - 1)) / a) = omega arith in
    omega arith

-- extents have alignments from 1

abbrev Aligned : (ℕ → Option Extent) → Type 0
Aligned f = (i : ℕ) (e : Extent) → f i ≡ Some e → 1 ≤ e.align

some_of : {A B : Type 0} (o : Option A) (next : A → Option B) (y : B) → on_some o next ≡ Some y → (x : A) × (o ≡ Some x) × (next x ≡ Some y)
some_of None next y e = cc
some_of (Some x) next y e = (x, refl, e)

repeated_align : (n : ℕ) (x e : Extent) → repeated n x ≡ Some e → e.align ≡ x.align
repeated_align zero x e k = cc
repeated_align (suc n) x e k =
    let z : record { size = x.size * suc n; align = x.align } ≡ e = cc in ap (λ y. y.align) (sym z)

aligned_as : (n : ℕ) (e : Extent) → 1 ≤ n → Some (record { size = n; align = n }) ≡ Some e → 1 ≤ e.align
aligned_as n e le k = let z : record { size = n; align = n } ≡ e = cc in subst (λ y. 1 ≤ y.align) z le

extent_aligned : (f : ℕ → Option Extent) → Aligned f → (t : TypeTree) (e : Extent) → extent f t ≡ Some e → 1 ≤ e.align
extent_aligned f h Void e k = cc
extent_aligned f h Char e k = aligned_as 1 e (omega arith) k
extent_aligned f h UChar e k = aligned_as 1 e (omega arith) k
extent_aligned f h Short e k = aligned_as 2 e (omega arith) k
extent_aligned f h UShort e k = aligned_as 2 e (omega arith) k
extent_aligned f h Int e k = aligned_as 4 e (omega arith) k
extent_aligned f h UInt e k = aligned_as 4 e (omega arith) k
extent_aligned f h Long e k = aligned_as 4 e (omega arith) k
extent_aligned f h ULong e k = aligned_as 4 e (omega arith) k
extent_aligned f h (Pointer t) e k = aligned_as 4 e (omega arith) k
extent_aligned f h (Array t n) e k =
    let r = some_of (extent f t) (repeated n) e k in
    let a = extent_aligned f h t r.0 r.1 in
    let b = repeated_align n r.0 e r.2 in
    omega arith
extent_aligned f h (Function t ts) e k = cc
extent_aligned f h (Tagged i) e k = h i e k

-- what is filled grows, in size and in alignment

filled_grows : (f : ℕ → Option Extent) (u : Bool) (so_far : Extent) (ms : List MemberTree) (e : Extent) → filled f u so_far ms ≡ Some e
    → (so_far.size ≤ e.size) × (so_far.align ≤ e.align)
filled_grows f u so_far [] e k =
    let z : so_far ≡ e = cc in subst (λ y. (so_far.size ≤ y.size) × (so_far.align ≤ y.align)) z (omega arith, omega arith)
filled_grows f u so_far (m ∷ ms) e k =
    let r = some_of (extent f m.type) (λ x. filled f u (with_member u so_far x) ms) e k in
    let g = filled_grows f u (with_member u so_far r.0) ms e r.2 in
    let a = g.0 in
    let b = g.1 in
    (omega arith, omega arith)

members_aligned : (f : ℕ → Option Extent) (u : Bool) (o : Option (List MemberTree)) (e : Extent) → members_extent f u o ≡ Some e → 1 ≤ e.align
members_aligned f u None e k = cc
members_aligned f u (Some ms) e k =
    let r = some_of (filled f u nothing_yet ms) (λ x. Some (closed x)) e k in
    let g = filled_grows f u nothing_yet ms r.0 r.1 in
    let b = g.1 in
    let m = r.2 in
    let z : closed r.0 ≡ e = cc in
    subst (λ y. 1 ≤ y.align) z (omega arith)

body_aligned : (f : ℕ → Option Extent) (o : Option TagTree) (e : Extent) → body_extent f o ≡ Some e → 1 ≤ e.align
body_aligned f None e k = cc
body_aligned f (Some tag) e k = members_aligned f tag.is_union tag.members e k

tag_aligned : (n : ℕ) (tags : Tags) → Aligned (tag_extent n tags)
tag_aligned zero tags i e k = cc
tag_aligned (suc n) tags i e k = body_aligned (tag_extent n tags) (slice_get tags i) e k

-- where members stand

offset_aligned : (u : Bool) (so_far x : Extent) → (k : ℕ) × (member_offset u so_far x ≡ k * x.align)
offset_aligned false so_far x = ((so_far.size + (x.align - 1)) / x.align, refl)
offset_aligned true so_far x = (0, omega arith)

member_placed : (tags : Tags) (size : ℕ) (u : Bool) (so_far x : Extent) (m : Placed) → layout tags m.type ≡ Some x
    → m.offset ≡ member_offset u so_far x → (with_member u so_far x).size ≤ size → IsPlacedIn tags size m
member_placed tags size u so_far x m k e le =
    let a = offset_aligned u so_far x in
    let s : size_of tags m.type ≡ x.size = ap size_in k in
    let t : alignment_of tags m.type ≡ x.align = ap alignment_in k in
    record {
      inside = inside_of s;
      aligned = (a.0, e ∙ a.1 ∙ ap (λ n. a.0 * n) (sym t));
    }
  where
    inside_of : size_of tags m.type ≡ x.size → m.offset + size_of tags m.type ≤ size
    inside_of s = omega arith

are_placed : (tags : Tags) (size : ℕ) (u : Bool) (so_far : Extent) (n : ℕ) (ms : List MemberTree) (e : Extent)
    → filled (tag_extent (length tags) tags) u so_far ms ≡ Some e → e.size ≤ size → ArePlacedIn tags size (placed_from tags u so_far n ms)
are_placed tags size u so_far n [] e k le = tt
are_placed tags size u so_far n (m ∷ ms) e k le =
    let r = some_of (layout tags m.type) (λ x. filled (tag_extent (length tags) tags) u (with_member u so_far x) ms) e k in
    let g = filled_grows (tag_extent (length tags) tags) u (with_member u so_far r.0) ms e r.2 in
    let a = g.0 in (
      member_placed tags size u so_far r.0 _ r.1 (ap (λ o. member_offset u so_far (or_empty o)) r.1) (omega arith),
      subst (λ o. ArePlacedIn tags size (placed_from tags u (with_member u so_far (or_empty o)) (suc n) ms)) (sym r.1)
          (are_placed tags size u (with_member u so_far r.0) (suc n) ms e r.2 le),
    )

stand_from : (tags : Tags) (so_far : Extent) (end n : ℕ) (ms : List MemberTree) (e : Extent) → end ≤ so_far.size
    → filled (tag_extent (length tags) tags) false so_far ms ≡ Some e → StandFrom tags end (placed_from tags false so_far n ms)
stand_from tags so_far end n [] e le k = tt
stand_from tags so_far end n (m ∷ ms) e le k =
    let r = some_of (layout tags m.type) (λ x. filled (tag_extent (length tags) tags) false (with_member false so_far x) ms) e k in
    let x = r.0 in
    let up = rounds_up so_far.size x.align (extent_aligned (tag_extent (length tags) tags) (tag_aligned (length tags) tags) m.type x r.1) in
    subst
    (λ o. (end ≤ member_offset false so_far (or_empty o))
    × StandFrom tags (member_offset false so_far (or_empty o) + size_in o) (placed_from tags false (with_member false so_far (or_empty o)) (suc n) ms))
    (sym r.1) (
      omega arith,
      stand_from tags (with_member false so_far x) (member_offset false so_far x + x.size) (suc n) ms e (omega arith) r.2,
    )

stand_at_start : (tags : Tags) (so_far : Extent) (n : ℕ) (ms : List MemberTree) → StandAtStart (placed_from tags true so_far n ms)
stand_at_start tags so_far n [] = tt
stand_at_start tags so_far n (m ∷ ms) = (refl, stand_at_start tags (with_member true so_far (or_empty (layout tags m.type))) (suc n) ms)

stand_apart : (tags : Tags) (u : Bool) (ms : List MemberTree) (e : Extent) → filled (tag_extent (length tags) tags) u nothing_yet ms ≡ Some e
    → StandApart tags u (placed_from tags u nothing_yet 0 ms)
stand_apart tags false ms e k = stand_from tags nothing_yet 0 0 ms e (omega arith) k
stand_apart tags true ms e k = stand_at_start tags nothing_yet 0 ms

body_placed : (tags : Tags) (u : Bool) (o : Option (List MemberTree)) (e : Extent) → members_extent (tag_extent (length tags) tags) u o ≡ Some e
    → ArePlacedIn tags e.size (placed_in_body tags u o) × StandApart tags u (placed_in_body tags u o)
body_placed tags u None e k = cc
body_placed tags u (Some ms) e k =
    let r = some_of (filled (tag_extent (length tags) tags) u nothing_yet ms) (λ x. Some (closed x)) e k in
    let g = filled_grows (tag_extent (length tags) tags) u nothing_yet ms r.0 r.1 in
    let b = g.1 in
    let m = r.2 in
    let z : closed r.0 ≡ e = cc in
    let up = rounds_up r.0.size r.0.align (omega arith) in (
      subst (λ y. ArePlacedIn tags y.size (placed_from tags u nothing_yet 0 ms)) z
          (are_placed tags (rounded r.0.size r.0.align) u nothing_yet 0 ms r.0 r.1 up),
      stand_apart tags u ms r.0 r.1,
    )

pub members_are_placed : MembersArePlaced
members_are_placed tags i tag e none h k =
    let m : body_extent (λ j. layout tags (Tagged j)) (Some tag) ≡ Some e =
    ap (body_extent (λ j. layout tags (Tagged j))) (sym h) ∙ sym (layout_is_that_of_members tags i none) ∙ k in
    subst (λ o. ArePlacedIn tags e.size (placed_in_tag tags o) × StandApart tags tag.is_union (placed_in_tag tags o)) (sym h)
    (body_placed tags tag.is_union tag.members e m)
