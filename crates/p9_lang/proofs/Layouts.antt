-- Layouts of deeper nests, and of more structures and bodies.
use Rattle.std.proofs.Common.{nat_lt, ◌≡◌, ◌≤◌, ℕ, zero, suc, Bool, true, false, List, [], ◌∷◌, length, slice_get, Option, Some, None, refl, sym, ap, ◌∙◌, arith}
use Rattle.p9_lang.specs.Types.{TypeTree, Array, Tagged, MemberTree, TagTree, Tags}
use Rattle.p9_lang.specs.Layout.{Extent, on_some, extent, repeated, with_member, filled, closed, nothing_yet, members_extent, body_extent, tag_extent, layout}
use Rattle.p9_lang.specs.TagRules.{Within, AreWithin, BodyWithin, TagWithin, Ends}
use Rattle.p9_lang.specs.Laws.{KeepsBodies, LayoutsStay, LayoutIsThatOfMembers}

-- AN EXTENT STAYS, where more structures have one

abbrev Includes : (f g : ℕ → Option Extent) → Type 0
Includes f g = (i : ℕ) (e : Extent) → f i ≡ Some e → g i ≡ Some e

on_some_keeps : {A B : Type 0} (o p : Option A) (next later : A → Option B) (y : B)
    → ((x : A) → o ≡ Some x → p ≡ Some x) → ((x : A) → next x ≡ Some y → later x ≡ Some y)
    → on_some o next ≡ Some y → on_some p later ≡ Some y
on_some_keeps None p next later y h k e = cc
on_some_keeps (Some x) p next later y h k e = ap (λ q. on_some q later) (h x refl) ∙ k x e

pub extent_keeps : (f g : ℕ → Option Extent) → Includes f g → (t : TypeTree) (e : Extent) → extent f t ≡ Some e → extent g t ≡ Some e
extent_keeps f g h (Array t n) e k =
    on_some_keeps (extent f t) (extent g t) (repeated n) (repeated n) e (extent_keeps f g h t) (λ x r. r) k
extent_keeps f g h (Tagged i) e k = h i e k
extent_keeps f g h _ e k = k

filled_keeps : (f g : ℕ → Option Extent) → Includes f g → (u : Bool) (so_far : Extent) (ms : List MemberTree) (e : Extent)
    → filled f u so_far ms ≡ Some e → filled g u so_far ms ≡ Some e
filled_keeps f g h u so_far [] e k = k
filled_keeps f g h u so_far (m ∷ ms) e k =
    on_some_keeps (extent f m.type) (extent g m.type) (λ e. filled f u (with_member u so_far e) ms)
    (λ e. filled g u (with_member u so_far e) ms) e (extent_keeps f g h m.type)
    (λ x r. filled_keeps f g h u (with_member u so_far x) ms e r) k

members_keep : (f g : ℕ → Option Extent) → Includes f g → (u v : Bool) (a b : Option (List MemberTree)) (e : Extent) → v ≡ u
    → ((ms : List MemberTree) → a ≡ Some ms → b ≡ Some ms) → members_extent f u a ≡ Some e → members_extent g v b ≡ Some e
members_keep f g h u v None b e q r k = cc
members_keep f g h u v (Some ms) b e q r k =
    ap (λ o. members_extent g v o) (r ms refl)
    ∙ ap (λ w. members_extent g w (Some ms)) q
    ∙ on_some_keeps (filled f u nothing_yet ms) (filled g u nothing_yet ms) (λ e. Some (closed e)) (λ e. Some (closed e)) e
    (λ x y. filled_keeps f g h u nothing_yet ms x y) (λ x y. y) k

body_keeps : (f g : ℕ → Option Extent) → Includes f g → (before after : Tags) → KeepsBodies before after → (i : ℕ) (e : Extent)
    → body_extent f (slice_get before i) ≡ Some e → body_extent g (slice_get after i) ≡ Some e
body_keeps f g h before after keeps i e = by (slice_get before i) refl
  where
    by : (o : Option TagTree) → slice_get before i ≡ o → body_extent f o ≡ Some e → body_extent g (slice_get after i) ≡ Some e
    by None q k = cc
    by (Some tag) q k = go tag.members refl k
      where
        go : (o : Option (List MemberTree)) → tag.members ≡ o → members_extent f tag.is_union o ≡ Some e
            → body_extent g (slice_get after i) ≡ Some e
        go None r k = cc
        go (Some ms) r k =
            let later = keeps i tag ms q r in
            ap (body_extent g) later.1
            ∙ members_keep f g h tag.is_union later.0.is_union (Some ms) later.0.members e later.3 (λ ns x. later.2 ∙ x) k

pub deeper_keeps : (before after : Tags) → KeepsBodies before after → (m n : ℕ) → m ≤ n → Includes (tag_extent m before) (tag_extent n after)
deeper_keeps before after keeps zero n le i e k = cc
deeper_keeps before after keeps (suc m) zero le i e k = absurd (omega arith)
deeper_keeps before after keeps (suc m) (suc n) le i e k =
    body_keeps (tag_extent m before) (tag_extent n after) (deeper_keeps before after keeps m n (omega arith)) before after keeps i e k

pub layouts_stay : LayoutsStay
layouts_stay before after type e keeps le k =
    extent_keeps (tag_extent (length before) before) (tag_extent (length after) after)
    (deeper_keeps before after keeps (length before) (length after) le) type e k

-- A STRUCTURE'S EXTENT IS THAT OF ITS MEMBERS, where chains end

abbrev SameWhere : (holds : ℕ → Type 0) (f g : ℕ → Option Extent) → Type 0
SameWhere holds f g = (i : ℕ) → holds i → f i ≡ g i

extent_same : (f g : ℕ → Option Extent) (holds : ℕ → Type 0) → SameWhere holds f g → (t : TypeTree) → Within holds t → extent f t ≡ extent g t
extent_same f g holds h (Array t n) w = ap (λ o. on_some o (repeated n)) (extent_same f g holds h t w)
extent_same f g holds h (Tagged i) w = h i w
extent_same f g holds h _ w = refl

filled_same : (f g : ℕ → Option Extent) (holds : ℕ → Type 0) → SameWhere holds f g → (u : Bool) (so_far : Extent) (ms : List MemberTree)
    → AreWithin holds ms → filled f u so_far ms ≡ filled g u so_far ms
filled_same f g holds h u so_far [] w = refl
filled_same f g holds h u so_far (m ∷ ms) w =
    ap (λ o. on_some o (λ e. filled f u (with_member u so_far e) ms)) (extent_same f g holds h m.type w.0)
    ∙ by (extent g m.type) (λ e. filled_same f g holds h u (with_member u so_far e) ms w.1)
  where
    by : (o : Option Extent) → ((e : Extent) → filled f u (with_member u so_far e) ms ≡ filled g u (with_member u so_far e) ms)
        → on_some o (λ e. filled f u (with_member u so_far e) ms) ≡ on_some o (λ e. filled g u (with_member u so_far e) ms)
    by None k = refl
    by (Some e) k = k e

body_same : (f g : ℕ → Option Extent) (holds : ℕ → Type 0) → SameWhere holds f g → (o : Option TagTree) → TagWithin holds o
    → body_extent f o ≡ body_extent g o
body_same f g holds h None w = refl
body_same f g holds h (Some tag) w = by tag.members w
  where
    by : (o : Option (List MemberTree)) → BodyWithin holds o → members_extent f tag.is_union o ≡ members_extent g tag.is_union o
    by None w = refl
    by (Some ms) w = ap (λ o. on_some o (λ e. Some (closed e))) (filled_same f g holds h tag.is_union nothing_yet ms w)

deeper_same : (n m : ℕ) (tags : Tags) → n ≤ m → SameWhere (Ends n tags) (tag_extent n tags) (tag_extent m tags)
deeper_same zero m tags le i w = absurd w
deeper_same (suc n) zero tags le i w = absurd (omega arith)
deeper_same (suc n) (suc m) tags le i w =
    body_same (tag_extent n tags) (tag_extent m tags) (Ends n tags) (deeper_same n m tags (omega arith)) (slice_get tags i) w

past_the_end : (tags : Tags) (i : ℕ) → length tags ≤ i → slice_get tags i ≡ None
past_the_end [] zero h = refl
past_the_end [] (suc i) h = refl
past_the_end (t ∷ tags) zero h = absurd (omega arith)
past_the_end (t ∷ tags) (suc i) h = past_the_end tags i (omega arith)

no_extent : (n : ℕ) (tags : Tags) (i : ℕ) → length tags ≤ i → tag_extent n tags i ≡ None
no_extent zero tags i h = refl
no_extent (suc n) tags i h = ap (body_extent (tag_extent n tags)) (past_the_end tags i h)

pub layout_is_that_of_members : LayoutIsThatOfMembers
layout_is_that_of_members tags i none = by (nat_lt i (length tags)) refl
  where
    by : (b : Bool) → nat_lt i (length tags) ≡ b → layout tags (Tagged i) ≡ body_extent (λ j. layout tags (Tagged j)) (slice_get tags i)
    by true e = deeper_same (length tags) (suc (length tags)) tags (omega arith) i (none i (grind (arith, e)))
    by false e =
        let h : length tags ≤ i = grind (arith, e) in
        no_extent (length tags) tags i h ∙ sym (ap (body_extent (λ j. layout tags (Tagged j))) (past_the_end tags i h))
