-- Structures that have bodies have sizes, found as deep as there are bodies, where each body comes
-- when its members have sizes.
use Rattle.std.proofs.Common.{◌≡◌, ◌≤◌, ◌⊎◌, inl, inr, ℕ, zero, suc, ◌+◌, ◌*◌, Bool, List, [], ◌∷◌, ◌++◌, length, slice_get, slice_set, Option, Some, None, refl, sym, ap, subst, ◌∙◌, arith}
use Rattle.p9_lang.specs.Types.{TypeTree, Void, Array, Function, Tagged, MemberTree, TagTree, Tags}
use Rattle.p9_lang.specs.Layout.{Extent, on_some, extent, repeated, with_member, filled, closed, nothing_yet, members_extent, body_extent, tag_extent, layout}
use Rattle.p9_lang.specs.Scopes.{with_body, or_else}
use Rattle.p9_lang.specs.TagRules.{Within, AreWithin, BodyWithin, TagWithin, Ends, NoneContainsItself}
use Rattle.p9_lang.proofs.Layouts.{extent_keeps, deeper_keeps}
use Rattle.p9_lang.proofs.Growing.{Grows, stays, appended_grows, body_grows}

-- how many have bodies

abbrev one_if : Option (List MemberTree) → ℕ
one_if None = 0
one_if (Some members) = 1

abbrev pub bodied : Tags → ℕ
bodied [] = 0
bodied (t ∷ ts) = one_if t.members + bodied ts

pub bodied_at_most : (tags : Tags) → bodied tags ≤ length tags
bodied_at_most [] = omega arith
bodied_at_most (t ∷ ts) = by t.members (bodied_at_most ts)
  where
    by : (o : Option (List MemberTree)) → bodied ts ≤ length ts → one_if o + bodied ts ≤ suc (length ts)
    by None r = omega arith
    by (Some ms) r = omega arith

-- a type that has a size, and structures whose bodies have

abbrev pub HasSize : Tags → TypeTree → Type 0
HasSize tags type = (e : Extent) × (layout tags type ≡ Some e)

abbrev pub HaveSizes : Tags → List MemberTree → Type 0
HaveSizes tags [] = Unit {0}
HaveSizes tags (m ∷ ms) = HasSize tags m.type × HaveSizes tags ms

abbrev pub LaidOut : Tags → Type 0
LaidOut tags =
    (i : ℕ) (tag : TagTree) (members : List MemberTree) → slice_get tags i ≡ Some tag → tag.members ≡ Some members
    → (e : Extent) × (tag_extent (bodied tags) tags i ≡ Some e)

pub size_stays : (before after : Tags) → Grows before after → (t : TypeTree) → HasSize before t → HasSize after t
size_stays before after g t h =
    let b = g.bodies in
    let c = g.count in
    (h.0, extent_keeps (tag_extent (length before) before) (tag_extent (length after) after) (deeper_keeps before after b (length before) (length after) c) t h.0 h.1)

pub sizes_stay_all : (before after : Tags) → Grows before after → (ms : List MemberTree) → HaveSizes before ms → HaveSizes after ms
sizes_stay_all before after g [] h = tt
sizes_stay_all before after g (m ∷ ms) h = (size_stays before after g m.type h.0, sizes_stay_all before after g ms h.1)

pub sizes_append : (tags : Tags) (ms ns : List MemberTree) → HaveSizes tags ms → HaveSizes tags ns → HaveSizes tags (ms ++ ns)
sizes_append tags [] ns h k = k
sizes_append tags (m ∷ ms) ns h k = (h.0, sizes_append tags ms ns h.1 k)

-- an extent that is there is found as deep as there are bodies

some_of : {A B : Type 0} (o : Option A) (next : A → Option B) (y : B) → on_some o next ≡ Some y → (x : A) × (o ≡ Some x) × (next x ≡ Some y)
some_of None next y e = cc
some_of (Some x) next y e = (x, refl, e)

repeated_some : (n : ℕ) (x e y : Extent) → repeated n x ≡ Some e → (z : Extent) × (repeated n y ≡ Some z)
repeated_some zero x e y k = cc
repeated_some (suc n) x e y k = (record { size = y.size * suc n; align = y.align }, refl)

has_body : (n : ℕ) (tags : Tags) (i : ℕ) (e : Extent) → tag_extent n tags i ≡ Some e
    → (tag : TagTree) × (ms : List MemberTree) × (slice_get tags i ≡ Some tag) × (tag.members ≡ Some ms)
has_body zero tags i e k = cc
has_body (suc n) tags i e k = by (slice_get tags i) refl k
  where
    go : (tag : TagTree) → slice_get tags i ≡ Some tag → (o : Option (List MemberTree)) → tag.members ≡ o → members_extent (tag_extent n tags) tag.is_union o ≡ Some e
        → (tag : TagTree) × (ms : List MemberTree) × (slice_get tags i ≡ Some tag) × (tag.members ≡ Some ms)
    go tag h None m k = cc
    go tag h (Some ms) m k = (tag, ms, h, m)

    by : (o : Option TagTree) → slice_get tags i ≡ o → body_extent (tag_extent n tags) o ≡ Some e
        → (tag : TagTree) × (ms : List MemberTree) × (slice_get tags i ≡ Some tag) × (tag.members ≡ Some ms)
    by None h k = cc
    by (Some tag) h k = go tag h tag.members refl k

found : (tags : Tags) → LaidOut tags → (n : ℕ) (t : TypeTree) (e : Extent) → extent (tag_extent n tags) t ≡ Some e
    → (x : Extent) × (extent (tag_extent (bodied tags) tags) t ≡ Some x)
found tags h n (Array t c) e k =
    let r = some_of (extent (tag_extent n tags) t) (repeated c) e k in
    let s = found tags h n t r.0 r.1 in
    let z = repeated_some c r.0 e s.0 r.2 in
    (z.0, ap (λ o. on_some o (repeated c)) s.1 ∙ z.1)
found tags h n (Tagged i) e k = let b = has_body n tags i e k in h i b.0 b.1 b.2 b.3
found tags h n Void e k = cc
found tags h n (Function t ts) e k = cc
found tags h n _ e k = (e, k)

-- members that have sizes fill a body

abbrev Fillable : (ℕ → Option Extent) → List MemberTree → Type 0
Fillable f [] = Unit {0}
Fillable f (m ∷ ms) = ((x : Extent) × (extent f m.type ≡ Some x)) × Fillable f ms

fill : (f : ℕ → Option Extent) (u : Bool) (so_far : Extent) (ms : List MemberTree) → Fillable f ms
    → (e : Extent) × (filled f u so_far ms ≡ Some e)
fill f u so_far [] h = (so_far, refl)
fill f u so_far (m ∷ ms) h =
    let x = h.0 in
    let s = fill f u (with_member u so_far x.0) ms h.1 in
    (s.0, ap (λ o. on_some o (λ e. filled f u (with_member u so_far e) ms)) x.1 ∙ s.1)

fillable : (tags : Tags) → LaidOut tags → (ms : List MemberTree) → HaveSizes tags ms → Fillable (tag_extent (bodied tags) tags) ms
fillable tags h [] k = tt
fillable tags h (m ∷ ms) k = let a = k.0 in (found tags h (length tags) m.type a.0 a.1, fillable tags h ms k.1)

fillable_keeps : (f g : ℕ → Option Extent) → ((i : ℕ) (e : Extent) → f i ≡ Some e → g i ≡ Some e) → (ms : List MemberTree)
    → Fillable f ms → Fillable g ms
fillable_keeps f g h [] k = tt
fillable_keeps f g h (m ∷ ms) k = let a = k.0 in ((a.0, extent_keeps f g h m.type a.0 a.1), fillable_keeps f g h ms k.1)

body_found : (n : ℕ) (tags : Tags) (i : ℕ) (tag : TagTree) (ms : List MemberTree) → slice_get tags i ≡ Some tag → tag.members ≡ Some ms
    → Fillable (tag_extent n tags) ms → (e : Extent) × (tag_extent (suc n) tags i ≡ Some e)
body_found n tags i tag ms h m k =
    let r = fill (tag_extent n tags) tag.is_union nothing_yet ms k in (
      closed r.0,
      ap (body_extent (tag_extent n tags)) h
          ∙ ap (λ o. members_extent (tag_extent n tags) tag.is_union o) m
          ∙ ap (λ o. on_some o (λ e. Some (closed e))) r.1,
    )

-- MORE STRUCTURES WITHOUT BODIES

pub laid_first : LaidOut []
laid_first zero tag members h m = cc
laid_first (suc i) tag members h m = cc

abbrev pub AreBodiless : Tags → Type 0
AreBodiless [] = Unit {0}
AreBodiless (t ∷ ts) = (t.members ≡ None) × AreBodiless ts

bodied_none : (more : Tags) → AreBodiless more → bodied more ≡ 0
bodied_none [] h = refl
bodied_none (t ∷ ts) h = let a : one_if t.members ≡ 0 = ap one_if h.0 in let b = bodied_none ts h.1 in omega arith

bodied_append : (tags more : Tags) → bodied (tags ++ more) ≡ bodied tags + bodied more
bodied_append [] more = omega arith
bodied_append (t ∷ ts) more = let a = bodied_append ts more in omega arith

not_bodied : (more : Tags) → AreBodiless more → (i : ℕ) (tag : TagTree) (ms : List MemberTree) → slice_get more i ≡ Some tag → tag.members ≡ Some ms → ⊥
not_bodied [] h zero tag ms k m = cc
not_bodied [] h (suc i) tag ms k m = cc
not_bodied (t ∷ ts) h zero tag ms k m = let a = h.0 in let z : t ≡ tag = cc in let y = ap (λ x. x.members) z in cc
not_bodied (t ∷ ts) h (suc i) tag ms k m = not_bodied ts h.1 i tag ms k m

get_bodied : (tags more : Tags) → AreBodiless more → (i : ℕ) (tag : TagTree) (ms : List MemberTree) → slice_get (tags ++ more) i ≡ Some tag
    → tag.members ≡ Some ms → slice_get tags i ≡ Some tag
get_bodied [] more h i tag ms k m = absurd (not_bodied more h i tag ms k m)
get_bodied (t ∷ ts) more h zero tag ms k m = k
get_bodied (t ∷ ts) more h (suc i) tag ms k m = get_bodied ts more h i tag ms k m

pub laid_appended : (tags more : Tags) → AreBodiless more → LaidOut tags → LaidOut (tags ++ more)
laid_appended tags more h laid i tag members k m =
    let r = laid i tag members (get_bodied tags more h i tag members k m) m in
    let g = appended_grows tags more in
    let b = g.bodies in
    let n = bodied_append tags more in
    let z = bodied_none more h in
    (r.0, deeper_keeps tags (tags ++ more) b (bodied tags) (bodied (tags ++ more)) (omega arith) i r.0 r.1)

-- A BODY MORE

abbrev with_members : TagTree → List MemberTree → TagTree
with_members old members = record old { members = or_else old.members (Some members) }

bodied_set : (tags : Tags) (n : ℕ) (old : TagTree) (members : List MemberTree) → slice_get tags n ≡ Some old → old.members ≡ None
    → bodied (slice_set tags n (with_members old members)) ≡ suc (bodied tags)
bodied_set [] zero old members h k = cc
bodied_set [] (suc n) old members h k = cc
bodied_set (t ∷ ts) zero old members h k =
    let z : t ≡ old = cc in
    let a : one_if t.members ≡ 0 = ap (λ x. one_if x.members) z ∙ ap one_if k in
    let b : one_if (or_else old.members (Some members)) ≡ 1 = ap (λ o. one_if (or_else o (Some members))) k in
    omega arith
bodied_set (t ∷ ts) (suc n) old members h k = let a = bodied_set ts n old members h k in omega arith

bodied_same : (tags : Tags) (n : ℕ) (old : TagTree) (members ms : List MemberTree) → slice_get tags n ≡ Some old → old.members ≡ Some ms
    → bodied (slice_set tags n (with_members old members)) ≡ bodied tags
bodied_same [] zero old members ms h k = cc
bodied_same [] (suc n) old members ms h k = cc
bodied_same (t ∷ ts) zero old members ms h k =
    let z : t ≡ old = cc in
    let a : one_if t.members ≡ 1 = ap (λ x. one_if x.members) z ∙ ap one_if k in
    let b : one_if (or_else old.members (Some members)) ≡ 1 = ap (λ o. one_if (or_else o (Some members))) k in
    omega arith
bodied_same (t ∷ ts) (suc n) old members ms h k = let a = bodied_same ts n old members ms h k in omega arith

-- what stands in the list then: the one that is set, or what stood there
set_cases : (tags : Tags) (n : ℕ) (new : TagTree) (i : ℕ) (tag : TagTree) → slice_get (slice_set tags n new) i ≡ Some tag
    → ((i ≡ n) × (tag ≡ new)) ⊎ (slice_get tags i ≡ Some tag)
set_cases [] zero new zero tag e = inr e
set_cases [] zero new (suc i) tag e = inr e
set_cases [] (suc n) new zero tag e = inr e
set_cases [] (suc n) new (suc i) tag e = inr e
set_cases (t ∷ ts) zero new zero tag e = inl (refl, cc)
set_cases (t ∷ ts) zero new (suc i) tag e = inr e
set_cases (t ∷ ts) (suc n) new zero tag e = inr e
set_cases (t ∷ ts) (suc n) new (suc i) tag e = by (set_cases ts n new i tag e)
  where
    by : ((i ≡ n) × (tag ≡ new)) ⊎ (slice_get ts i ≡ Some tag) → ((suc i ≡ suc n) × (tag ≡ new)) ⊎ (slice_get ts i ≡ Some tag)
    by (inl r) = inl (ap suc r.0, r.1)
    by (inr r) = inr r

some_inj : {A : Type 0} (x y : A) → Some x ≡ Some y → x ≡ y
some_inj x y e = cc

laid_new : (tags after : Tags) (n : ℕ) (old : TagTree) (members : List MemberTree) → slice_get tags n ≡ Some old → old.members ≡ None
    → after ≡ slice_set tags n (with_members old members) → HaveSizes tags members → LaidOut tags → Grows tags after → LaidOut after
laid_new tags after n old members h k a sizes laid g i tag ms e m =
    by (set_cases tags n (with_members old members) i tag (ap (λ x. slice_get x i) (sym a) ∙ e))
  where
    bodies_then : bodied after ≡ suc (bodied tags)
    bodies_then = ap bodied a ∙ bodied_set tags n old members h k

    by : ((i ≡ n) × (tag ≡ with_members old members)) ⊎ (slice_get tags i ≡ Some tag) → (x : Extent) × (tag_extent (bodied after) after i ≡ Some x)
    by (inl r) =
        let b = g.bodies in
        let c = ap (λ o. or_else o (Some members)) k in
        let z : members ≡ ms = some_inj members ms (sym c ∙ sym (ap (λ x. x.members) r.1) ∙ m) in
        let f = fillable_keeps (tag_extent (bodied tags) tags) (tag_extent (bodied tags) after)
        (deeper_keeps tags after b (bodied tags) (bodied tags) (omega arith)) members (fillable tags laid members sizes) in
        let x = body_found (bodied tags) after i tag ms e m (subst (λ y. Fillable (tag_extent (bodied tags) after) y) z f) in
        (x.0, ap (λ d. tag_extent d after i) bodies_then ∙ x.1)
    by (inr r) =
        let b = g.bodies in
        let n = bodies_then in
        let x = laid i tag ms r m in
        (x.0, deeper_keeps tags after b (bodied tags) (bodied after) (omega arith) i x.0 x.1)

laid_kept : (tags after : Tags) (n : ℕ) (old : TagTree) (members kept : List MemberTree) → slice_get tags n ≡ Some old → old.members ≡ Some kept
    → after ≡ slice_set tags n (with_members old members) → LaidOut tags → Grows tags after → LaidOut after
laid_kept tags after n old members kept h k a laid g i tag ms e m =
    by (set_cases tags n (with_members old members) i tag (ap (λ x. slice_get x i) (sym a) ∙ e))
  where
    bodies_then : bodied after ≡ bodied tags
    bodies_then = ap bodied a ∙ bodied_same tags n old members kept h k

    found_in : (old : TagTree) (ms : List MemberTree) → slice_get tags i ≡ Some old → old.members ≡ Some ms → (x : Extent) × (tag_extent (bodied after) after i ≡ Some x)
    found_in old ms h k =
        let b = g.bodies in
        let n = bodies_then in
        let x = laid i old ms h k in
        (x.0, deeper_keeps tags after b (bodied tags) (bodied after) (omega arith) i x.0 x.1)

    by : ((i ≡ n) × (tag ≡ with_members old members)) ⊎ (slice_get tags i ≡ Some tag) → (x : Extent) × (tag_extent (bodied after) after i ≡ Some x)
    by (inl r) = found_in old kept (ap (λ j. slice_get tags j) r.0 ∙ h) k
    by (inr r) = found_in tag ms r m

pub laid_body : (tags : Tags) (n : ℕ) (members : List MemberTree) → HaveSizes tags members → LaidOut tags
    → LaidOut (with_body n members (slice_get tags n) tags)
laid_body tags n members sizes laid = by (slice_get tags n) refl (body_grows tags n members)
  where
    go : (old : TagTree) → slice_get tags n ≡ Some old → (o : Option (List MemberTree)) → old.members ≡ o
        → Grows tags (slice_set tags n (with_members old members)) → LaidOut (slice_set tags n (with_members old members))
    go old h None k g = laid_new tags (slice_set tags n (with_members old members)) n old members h k refl sizes laid g
    go old h (Some kept) k g = laid_kept tags (slice_set tags n (with_members old members)) n old members kept h k refl laid g

    by : (o : Option TagTree) → slice_get tags n ≡ o → Grows tags (with_body n members (slice_get tags n) tags)
        → LaidOut (with_body n members o tags)
    by None h g = laid
    by (Some old) h g = go old h old.members refl (subst (λ o. Grows tags (with_body n members o tags)) h g)

-- NONE CONTAINS ITSELF

within : (f : ℕ → Option Extent) (ends : ℕ → Type 0) → ((i : ℕ) (e : Extent) → f i ≡ Some e → ends i) → (t : TypeTree) (e : Extent)
    → extent f t ≡ Some e → Within ends t
within f ends h (Array t n) e k = let r = some_of (extent f t) (repeated n) e k in within f ends h t r.0 r.1
within f ends h (Tagged i) e k = h i e k
within f ends h _ e k = tt

are_within : (f : ℕ → Option Extent) (ends : ℕ → Type 0) → ((i : ℕ) (e : Extent) → f i ≡ Some e → ends i) → (u : Bool) (so_far : Extent)
    (ms : List MemberTree) (e : Extent) → filled f u so_far ms ≡ Some e → AreWithin ends ms
are_within f ends h u so_far [] e k = tt
are_within f ends h u so_far (m ∷ ms) e k =
    let r = some_of (extent f m.type) (λ x. filled f u (with_member u so_far x) ms) e k in
    (within f ends h m.type r.0 r.1, are_within f ends h u (with_member u so_far r.0) ms e r.2)

tag_within : (f : ℕ → Option Extent) (ends : ℕ → Type 0) → ((i : ℕ) (e : Extent) → f i ≡ Some e → ends i) → (o : Option TagTree) (e : Extent)
    → body_extent f o ≡ Some e → TagWithin ends o
tag_within f ends h None e k = tt
tag_within f ends h (Some tag) e k = by tag.members k
  where
    by : (o : Option (List MemberTree)) → members_extent f tag.is_union o ≡ Some e → BodyWithin ends o
    by None k = tt
    by (Some ms) k =
        let r = some_of (filled f tag.is_union nothing_yet ms) (λ x. Some (closed x)) e k in
        are_within f ends h tag.is_union nothing_yet ms r.0 r.1

sized_ends : (n : ℕ) (tags : Tags) (i : ℕ) (e : Extent) → tag_extent n tags i ≡ Some e → Ends n tags i
sized_ends zero tags i e k = cc
sized_ends (suc n) tags i e k = tag_within (tag_extent n tags) (Ends n tags) (sized_ends n tags) (slice_get tags i) e k

pub laid_out_ends : (tags : Tags) → LaidOut tags → NoneContainsItself tags
laid_out_ends tags laid i le = by (length tags) refl
  where
    bare : (n : ℕ) (o : Option TagTree) → slice_get tags i ≡ o → (length tags ≡ suc n) → TagWithin (Ends n tags) o
    bare n None h z = tt
    bare n (Some tag) h z = go tag.members refl
      where
        go : (o : Option (List MemberTree)) → tag.members ≡ o → BodyWithin (Ends n tags) o
        go None m = tt
        go (Some ms) m =
            let x = laid i tag ms h m in
            let b = bodied_at_most tags in
            let s = stays tags in
            let d = s.bodies in
            let deep = deeper_keeps tags tags d (bodied tags) (suc n) (omega arith) i x.0 x.1 in
            let w = sized_ends (suc n) tags i x.0 deep in
            subst (λ p. BodyWithin (Ends n tags) p) m (subst (λ p. TagWithin (Ends n tags) p) h w)

    by : (n : ℕ) → length tags ≡ n → Ends n tags i
    by zero z = absurd (omega arith)
    by (suc n) z = bare n (slice_get tags i) refl z
