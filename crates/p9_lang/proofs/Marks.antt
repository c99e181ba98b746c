-- Marks leave structures as they are, but for the mark.
use Rattle.std.proofs.Common.{◌≡◌, ℕ, zero, suc, Bool, true, false, if◌then◌else◌, List, [], ◌∷◌, length, slice_get, Option, Some, None, refl, sym, ap, subst, arith}
use Rattle.p9_lang.specs.Types.{TypeTree, Array, Tagged, MemberTree, TagTree, Tags}
use Rattle.p9_lang.specs.Scopes.{TagName}
use Rattle.p9_lang.specs.TagRules.{Within, AreWithin, BodyWithin, TagWithin, Ends, NoneContainsItself}
use Rattle.p9_lang.specs.Files.{mark_tag, mark_tags}

marked_within : (ends : ℕ → Type 0) (n : ℕ) (tags : Tags) (i : ℕ) → TagWithin ends (slice_get tags i) → TagWithin ends (slice_get (mark_tag n tags) i)
marked_within ends zero [] i w = w
marked_within ends zero (t ∷ ts) zero w = w
marked_within ends zero (t ∷ ts) (suc i) w = w
marked_within ends (suc n) [] i w = w
marked_within ends (suc n) (t ∷ ts) zero w = w
marked_within ends (suc n) (t ∷ ts) (suc i) w = marked_within ends n ts i w

more_within : (f g : ℕ → Type 0) → ((i : ℕ) → f i → g i) → (t : TypeTree) → Within f t → Within g t
more_within f g h (Array t n) w = more_within f g h t w
more_within f g h (Tagged i) w = h i w
more_within f g h _ w = tt

are_more_within : (f g : ℕ → Type 0) → ((i : ℕ) → f i → g i) → (ms : List MemberTree) → AreWithin f ms → AreWithin g ms
are_more_within f g h [] w = tt
are_more_within f g h (m ∷ ms) w = (more_within f g h m.type w.0, are_more_within f g h ms w.1)

tag_more_within : (f g : ℕ → Type 0) → ((i : ℕ) → f i → g i) → (o : Option TagTree) → TagWithin f o → TagWithin g o
tag_more_within f g h None w = tt
tag_more_within f g h (Some tag) w = by tag.members w
  where
    by : (o : Option (List MemberTree)) → BodyWithin f o → BodyWithin g o
    by None w = tt
    by (Some ms) w = are_more_within f g h ms w

marked_ends : (n : ℕ) (tags : Tags) (d i : ℕ) → Ends d tags i → Ends d (mark_tag n tags) i
marked_ends n tags zero i w = w
marked_ends n tags (suc d) i w =
    marked_within (Ends d (mark_tag n tags)) n tags i
    (tag_more_within (Ends d tags) (Ends d (mark_tag n tags)) (marked_ends n tags d) (slice_get tags i) w)

marked_length : (n : ℕ) (tags : Tags) → length (mark_tag n tags) ≡ length tags
marked_length zero [] = refl
marked_length zero (t ∷ ts) = refl
marked_length (suc n) [] = refl
marked_length (suc n) (t ∷ ts) = ap suc (marked_length n ts)

mark_keeps_ends : (n : ℕ) (tags : Tags) → NoneContainsItself tags → NoneContainsItself (mark_tag n tags)
mark_keeps_ends n tags h i le =
    let c = marked_length n tags in
    subst (λ d. Ends d (mark_tag n tags) i) (sym c) (marked_ends n tags (length tags) i (h i (omega arith)))

pub marks_keep_ends : (marks : List (List ℕ)) (names : List TagName) (tags : Tags) → NoneContainsItself tags → NoneContainsItself (mark_tags marks names tags)
marks_keep_ends marks [] tags h = h
marks_keep_ends marks (t ∷ ts) tags h = by _ (marks_keep_ends marks ts tags h)
  where
    by : (b : Bool) → NoneContainsItself (mark_tags marks ts tags)
        → NoneContainsItself (if b then mark_tag t.number (mark_tags marks ts tags) else mark_tags marks ts tags)
    by true k = mark_keeps_ends t.number (mark_tags marks ts tags) k
    by false k = k
