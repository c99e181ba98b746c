-- What an entry of a list fills is complete and lies inside what the list fills.
use Rattle.std.proofs.Common.{◌≡◌, ◌≤◌, ◌<◌, ℕ, zero, suc, ◌+◌, ◌*◌, nat_lt, Bool, true, false, if◌then◌else◌, List, [], ◌∷◌, length, slice_get, Option, Some, None, refl, sym, ap, subst, ◌∙◌, arith}
use Rattle.std.specs.List.{filter}
use Rattle.std.proofs.Math.Nat.{mul-le-mul_left}
use Rattle.p9_lang.specs.declared.tree.EntryBy.{EntryBy}
use Rattle.p9_lang.specs.declared.tree.EntryBy.TheVariants as way
use Rattle.p9_lang.specs.Names.{same_name}
use Rattle.p9_lang.specs.Types.{TypeTree, Array, Tagged, MemberTree, TagTree, Tags}
use Rattle.p9_lang.specs.Layout.{Extent, filled, with_member, closed, nothing_yet, members_extent, body_extent, tag_extent, layout, size_in, size_of}
use Rattle.p9_lang.specs.Members.{Placed, or_empty, placed_from, placed_in_body, placed_in_tag, placed, direct_member}
use Rattle.p9_lang.specs.Laws.{ArePlacedIn}
use Rattle.p9_lang.specs.TagRules.{NoneContainsItself}
use Rattle.p9_lang.specs.Constants.{Constant, NotConstant, Undefined, Null}
use Rattle.p9_lang.specs.Constants as constants
use Rattle.p9_lang.specs.Parts.{Part, first_constant, Fills, EntryOf, Outside}
use Rattle.p9_lang.specs.Entries.{element_role, index_role, array_role, is_union_tag, placed_role, member_role, structure_role, entry_role, filled_type, constant_or_zero, placed_number, entry_position}
use Rattle.p9_lang.specs.Initialisers.{placed_offset, position_offset, fills}
use Rattle.p9_lang.proofs.Bodies.{HasSize}
use Rattle.p9_lang.proofs.Layouts.{layout_is_that_of_members}
use Rattle.p9_lang.proofs.Placing.{members_are_placed}
use Rattle.p9_firsts.proofs.Sizes.{some_of, array_laid}

pub record Inside (tags : Tags) (whole : TypeTree) (offset : ℕ) (part : TypeTree) : Type 0 where
  pub laid : HasSize tags part
  pub inside : offset + size_of tags part ≤ size_of tags whole

same_inside : (tags : Tags) (whole : TypeTree) (a b : ℕ) (t u : TypeTree) → a ≡ b → t ≡ u → Inside tags whole b u → Inside tags whole a t
same_inside tags whole a b t u p q g = subst (λ n. Inside tags whole n t) (sym p) (subst (λ x. Inside tags whole b x) (sym q) g)

-- ELEMENTS

within_product : (x p n : ℕ) → p < n → x * p + x ≤ x * n
within_product x p n h =
    let s : suc p ≤ n = omega arith in
    let a = mul-le-mul_left x s in
    let b : x * suc p ≡ x * p + x = omega arith in
    omega arith

element_inside : (tags : Tags) (t : TypeTree) (n p : ℕ) → HasSize tags (Array t n) → p < n → Inside tags (Array t n) (size_of tags t * p) t
element_inside tags t n p h lt =
    let a = array_laid tags t n h.0 h.1 in
    let s : size_of tags t ≡ a.0.size = ap size_in a.1 in
    let w : size_of tags (Array t n) ≡ h.0.size = ap size_in h.1 in
    let q : size_of tags t * n ≡ size_of tags (Array t n) = ap (λ x. x * n) s ∙ sym a.3 ∙ sym w in
    record {
      laid = (a.0, a.1);
      inside = subst (λ m. size_of tags t * p + size_of tags t ≤ m) q (within_product (size_of tags t) p n lt);
    }

chosen : (b : Bool) (t : TypeTree) → fills (if b then Fills t else Outside) ≡ true → b ≡ true
chosen true t e = refl
chosen false t e = cc

chosen_type : (b : Bool) (t : TypeTree) → b ≡ true → filled_type (if b then Fills t else Outside) ≡ t
chosen_type true t e = refl
chosen_type false t e = cc

element_entry : (tags : Tags) (t : TypeTree) (n p : ℕ) → HasSize tags (Array t n) → fills (element_role tags t n p) ≡ true
    → Inside tags (Array t n) (size_of tags t * p) (filled_type (element_role tags t n p))
element_entry tags t zero p h e =
    let a = array_laid tags t 0 h.0 h.1 in
    let b = a.2 in
    absurd (omega arith)
element_entry tags t (suc n) p h e =
    let b = chosen (nat_lt p (suc n)) t e in
    let lt : p < suc n = grind (arith, b) in
    same_inside tags (Array t (suc n)) _ _ _ _ refl (chosen_type (nat_lt p (suc n)) t b) (element_inside tags t (suc n) p h lt)

first_element : (tags : Tags) (t : TypeTree) (n : ℕ) → HasSize tags (Array t n) → Inside tags (Array t n) (size_of tags t * 0) t
first_element tags t n h =
    let a = array_laid tags t n h.0 h.1 in
    let b = a.2 in
    element_inside tags t n 0 h (omega arith)

index_entry : (tags : Tags) (t : TypeTree) (n : ℕ) (c : Constant) → HasSize tags (Array t n) → fills (index_role tags t n c) ≡ true
    → Inside tags (Array t n) (size_of tags t * constant_or_zero c) (filled_type (index_role tags t n c))
index_entry tags t n (constants.Value p) h e = element_entry tags t n p h e
index_entry tags t n NotConstant h e = first_element tags t n h
index_entry tags t n Undefined h e = first_element tags t n h
index_entry tags t n Null h e = first_element tags t n h

array_entry : (tags : Tags) (t : TypeTree) (n next : ℕ) (entry_by : EntryBy) (parts : List Part) → HasSize tags (Array t n)
    → fills (array_role tags t n next entry_by parts) ≡ true
    → Inside tags (Array t n) (size_of tags t * entry_position tags (Some (Array t n)) next entry_by parts) (filled_type (array_role tags t n next entry_by parts))
array_entry tags t n next way.Nothing parts h e = element_entry tags t n next h e
array_entry tags t n next way.Index parts h e = index_entry tags t n (first_constant parts) h e
array_entry tags t n next (way.Member x) parts h e = cc

-- MEMBERS have sizes and stand inside

abbrev HaveLayouts : Tags → List Placed → Type 0
HaveLayouts tags [] = Unit {0}
HaveLayouts tags (m ∷ ms) = HasSize tags m.type × HaveLayouts tags ms

laid_from : (tags : Tags) (u : Bool) (so_far : Extent) (n : ℕ) (ms : List MemberTree) (e : Extent)
    → filled (tag_extent (length tags) tags) u so_far ms ≡ Some e → HaveLayouts tags (placed_from tags u so_far n ms)
laid_from tags u so_far n [] e k = tt
laid_from tags u so_far n (m ∷ ms) e k =
    let r = some_of (layout tags m.type) (λ x. filled (tag_extent (length tags) tags) u (with_member u so_far x) ms) e k in (
      (r.0, r.1),
      subst (λ o. HaveLayouts tags (placed_from tags u (with_member u so_far (or_empty o)) (suc n) ms)) (sym r.1)
          (laid_from tags u (with_member u so_far r.0) (suc n) ms e r.2),
    )

body_laid : (tags : Tags) (u : Bool) (o : Option (List MemberTree)) (e : Extent) → members_extent (tag_extent (length tags) tags) u o ≡ Some e
    → HaveLayouts tags (placed_in_body tags u o)
body_laid tags u None e k = cc
body_laid tags u (Some ms) e k =
    let r = some_of (filled (tag_extent (length tags) tags) u nothing_yet ms) (λ x. Some (closed x)) e k in
    laid_from tags u nothing_yet 0 ms r.0 r.1

placed_at : (tags : Tags) (size : ℕ) (ms : List Placed) → ArePlacedIn tags size ms → HaveLayouts tags ms → (p : ℕ) (m : Placed)
    → slice_get ms p ≡ Some m → HasSize tags m.type × (m.offset + size_of tags m.type ≤ size)
placed_at tags size [] a l zero m e = cc
placed_at tags size [] a l (suc p) m e = cc
placed_at tags size (x ∷ ms) a l zero m e =
    let z : x ≡ m = cc in
    let g = a.0.inside in
    subst (λ y. HasSize tags y.type × (y.offset + size_of tags y.type ≤ size)) z (l.0, g)
placed_at tags size (x ∷ ms) a l (suc p) m e = placed_at tags size ms a.1 l.1 p m e

member_inside : (tags : Tags) → NoneContainsItself tags → (i : ℕ) → HasSize tags (Tagged i) → (p : ℕ) (m : Placed)
    → slice_get (placed tags i) p ≡ Some m → Inside tags (Tagged i) m.offset m.type
member_inside tags none i h p m at = by (slice_get tags i) refl
  where
    of_body : (o : Option TagTree) → slice_get tags i ≡ o → body_extent (λ j. layout tags (Tagged j)) o ≡ Some h.0
    of_body o q = ap (body_extent (λ j. layout tags (Tagged j))) (sym q) ∙ sym (layout_is_that_of_members tags i none) ∙ h.1

    by : (o : Option TagTree) → slice_get tags i ≡ o → Inside tags (Tagged i) m.offset m.type
    by None q = let z = of_body None q in cc
    by (Some tag) q =
        let a = members_are_placed tags i tag h.0 none q h.1 in
        let b = of_body (Some tag) q in
        let l : HaveLayouts tags (placed tags i) = subst (λ o. HaveLayouts tags (placed_in_tag tags o)) (sym q) (body_laid tags tag.is_union tag.members h.0 b) in
        let r = placed_at tags h.0.size (placed tags i) a.0 l p m at in
        record { laid = r.0; inside = subst (λ n. m.offset + size_of tags m.type ≤ n) (sym (ap size_in h.1)) r.1 }

-- members are numbered by their places

abbrev NumberedFrom : ℕ → List Placed → Type 0
NumberedFrom n [] = Unit {0}
NumberedFrom n (m ∷ ms) = (m.number ≡ n) × NumberedFrom (suc n) ms

numbered_from : (tags : Tags) (u : Bool) (so_far : Extent) (n : ℕ) (ms : List MemberTree) → NumberedFrom n (placed_from tags u so_far n ms)
numbered_from tags u so_far n [] = tt
numbered_from tags u so_far n (m ∷ ms) = (refl, numbered_from tags u (with_member u so_far (or_empty (layout tags m.type))) (suc n) ms)

numbered_body : (tags : Tags) (u : Bool) (o : Option (List MemberTree)) → NumberedFrom 0 (placed_in_body tags u o)
numbered_body tags u None = tt
numbered_body tags u (Some ms) = numbered_from tags u nothing_yet 0 ms

numbered : (tags : Tags) (o : Option TagTree) → NumberedFrom 0 (placed_in_tag tags o)
numbered tags None = tt
numbered tags (Some tag) = numbered_body tags tag.is_union tag.members

record AtNumber (ms : List Placed) (n : ℕ) (m : Placed) : Type 0 where
  place : ℕ
  number : m.number ≡ n + place
  stands : slice_get ms place ≡ Some m

first_named : (p : Placed → Bool) (ms : List Placed) (n : ℕ) → NumberedFrom n ms → (m : Placed) → slice_get (filter p ms) 0 ≡ Some m → AtNumber ms n m
first_named p [] n h m e = cc
first_named p (x ∷ ms) n h m e = by (p x) e (λ k. first_named p ms (suc n) h.1 m k)
  where
    by : (b : Bool) → slice_get (if b then x ∷ filter p ms else filter p ms) 0 ≡ Some m
        → (slice_get (filter p ms) 0 ≡ Some m → AtNumber ms (suc n) m) → AtNumber (x ∷ ms) n m
    by true k next =
        let z : x ≡ m = cc in
        let a : m.number ≡ n = ap (λ y. y.number) (sym z) ∙ h.0 in
        record { place = 0; number = omega arith; stands = ap (λ y. Some y) z }
    by false k next =
        let r = next k in
        let a = r.number in
        record { place = suc r.place; number = omega arith; stands = r.stands }

member_entry : (tags : Tags) (i next : ℕ) (o : Option Placed) → fills (member_role tags i next o) ≡ true
    → (m : Placed) × (o ≡ Some m) × (filled_type (member_role tags i next o) ≡ m.type)
member_entry tags i zero None e = cc
member_entry tags i zero (Some m) e = (m, refl, refl)
member_entry tags i (suc next) o e = by (is_union_tag (slice_get tags i)) o e
  where
    by : (b : Bool) (o : Option Placed) → fills (if b then Outside else placed_role o) ≡ true
        → (m : Placed) × (o ≡ Some m) × (filled_type (if b then Outside else placed_role o) ≡ m.type)
    by true o e = cc
    by false None e = cc
    by false (Some m) e = (m, refl, refl)

structure_entry : (tags : Tags) → NoneContainsItself tags → (i next : ℕ) (entry_by : EntryBy) (parts : List Part) → HasSize tags (Tagged i)
    → fills (structure_role tags i next entry_by) ≡ true
    → Inside tags (Tagged i) (placed_offset (slice_get (placed tags i) (entry_position tags (Some (Tagged i)) next entry_by parts)))
    (filled_type (structure_role tags i next entry_by))
structure_entry tags none i next way.Nothing parts h e =
    let r = member_entry tags i next (slice_get (placed tags i) next) e in
    same_inside tags (Tagged i) _ r.0.offset _ r.0.type (ap placed_offset r.1) r.2 (member_inside tags none i h next r.0 r.1)
structure_entry tags none i next way.Index parts h e = cc
structure_entry tags none i next (way.Member x) parts h e =
    let r = member_entry tags i next (slice_get (direct_member tags i x) 0) e in
    let k = first_named (λ m. same_name x m.name) (placed tags i) 0 (numbered tags (slice_get tags i)) r.0 r.1 in
    let a = k.number in
    let z : r.0.number ≡ k.place = omega arith in
    same_inside tags (Tagged i) _ r.0.offset _ r.0.type
    (ap (λ o. placed_offset (slice_get (placed tags i) (placed_number o))) r.1
    ∙ ap (λ n. placed_offset (slice_get (placed tags i) n)) z
    ∙ ap placed_offset k.stands)
    r.2 (member_inside tags none i h k.place r.0 k.stands)

pub entry_inside : (tags : Tags) → NoneContainsItself tags → (type : TypeTree) (next : ℕ) (entry_by : EntryBy) (parts : List Part) → HasSize tags type
    → fills (entry_role tags (EntryOf (Some type) next) entry_by parts) ≡ true
    → Inside tags type (position_offset tags type (entry_position tags (Some type) next entry_by parts))
    (filled_type (entry_role tags (EntryOf (Some type) next) entry_by parts))
entry_inside tags none (Array t n) next entry_by parts h e = array_entry tags t n next entry_by parts h e
entry_inside tags none (Tagged i) next entry_by parts h e = structure_entry tags none i next entry_by parts h e
entry_inside tags none _ next entry_by parts h e = cc
