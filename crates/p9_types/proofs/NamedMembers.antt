-- Members by their names, as they are found at a level.
use Rattle.std.proofs.Common.{◌≡◌, ◌⊎◌, inl, inr, ℕ, ◌+◌, nat_eq, Bool, true, false, ◌&&◌, if◌then◌else◌, List, [], ◌∷◌, ◌++◌, map, length, slice_get, Option, Some, None, append-nil, refl, sym, ap, subst, ◌∙◌, arith}
use Rattle.std.specs.List.{flat_map, filter}
use Rattle.std.specs.Cmp.Lexicographic.{pointwise}
use Rattle.std.proofs.lemmas.Grind.{flat_map-append}
use Rattle.p9_lang.specs.Names.{same_name}
use Rattle.p9_lang.specs.declared.types.Tag.{Tag}
use Rattle.p9_lang.specs.Types.{MemberTree, TagTree, Tags, tags_of}
use Rattle.p9_lang.specs.Members.{Part, Placed, FoundMember, Sought, Nowhere, One, Several, sought, found_member, named_members, placed, found_of, find_in_tag, find_in_body, find_member, whole}
use Rattle.p9_types.specs.declared.finding.MemberPlace.{MemberPlace}
use Rattle.p9_types.specs.declared.finding.Found.{Found}
use Rattle.p9_types.specs.declared.finding.Found.TheVariants as found
use Rattle.p9_types.specs.declared.sought.Sought as sight
use Rattle.p9_types.specs.declared.sought.Sought.TheVariants as variants
use Rattle.p9_types.specs.declared.level.Standing.{Standing}
use Rattle.p9_types.specs.Levels.{tally, together, copies}
use Rattle.p9_types.specs.Standings.{copies_of, spread}
use Rattle.p9_types.specs.Capping.{capped}
use Rattle.p9_types.specs.Offsets.{kept_offset, cut_part, cut_placed}
use Rattle.p9_types.specs.Sightings.{told_sought, sought_map, place_of, named_among, named_places, has_body, has_members, without_type}
use Rattle.p9_types.proofs.Tallies.{IsUniform, tally_append, together_assoc, together_none}
use Rattle.p9_types.proofs.Mapping.{sought_mapped}
use Rattle.p9_types.proofs.Cutting.{IsBlind, kept_alike, kept_cut}

pub names_by_bytes : (xs ys : List ℕ) (b : Bool) → b ≡ pointwise nat_eq xs ys → b ≡ same_name xs ys
names_by_bytes xs ys b e = e ∙ same xs ys
  where
    same : (xs ys : List ℕ) → pointwise nat_eq xs ys ≡ same_name xs ys
    same [] [] = refl
    same [] (y ∷ ys) = refl
    same (x ∷ xs) [] = refl
    same (x ∷ xs) (y ∷ ys) = ap (λ c. nat_eq x y && c) (same xs ys)

-- AMONG MEMBERS

pub one_named : (x : List ℕ) (p : Part) (m : Placed) (k n : ℕ) (o : Option ℕ) → same_name x m.name ≡ true → o ≡ kept_offset k → k ≡ capped (p.offset + m.offset) → n ≡ m.number
    → One (record { offset = o; tag = p.tag; member = n }) ≡ tally (named_among x p (m ∷ []))
one_named x p m k n o e f h g =
    ap (λ q. One (record { offset = q; tag = p.tag; member = n })) (f ∙ ap kept_offset h ∙ kept_cut (p.offset + m.offset))
    ∙ ap (λ q. One (record { offset = kept_offset (p.offset + m.offset); tag = p.tag; member = q })) g
    ∙ sym (ap (λ b. tally (map place_of (map (found_member p) (if b then m ∷ [] else [])))) e)

pub none_named : (x : List ℕ) (p : Part) (m : Placed) → same_name x m.name ≡ false → Nowhere ≡ tally (named_among x p (m ∷ []))
none_named x p m e = sym (ap (λ b. tally (map place_of (map (found_member p) (if b then m ∷ [] else [])))) e)

named_cons : (x : List ℕ) (p : Part) (m : Placed) (ms : List Placed) → named_among x p (m ∷ ms) ≡ named_among x p (m ∷ []) ++ named_among x p ms
named_cons x p m ms = by (same_name x m.name)
  where
    by : (b : Bool) → map place_of (map (found_member p) (if b then m ∷ filter (λ k. same_name x k.name) ms else filter (λ k. same_name x k.name) ms))
        ≡ map place_of (map (found_member p) (if b then m ∷ [] else [])) ++ named_among x p ms
    by true = refl
    by false = refl

-- members told with their offsets cut off
pub named_cut : (x : List ℕ) (p : Part) (ms : List Placed) → named_among x p (map cut_placed ms) ≡ named_among x p ms
named_cut x p [] = refl
named_cut x p (m ∷ ms) =
    named_cons x p (cut_placed m) (map cut_placed ms)
    ∙ ap (λ l. l ++ named_among x p (map cut_placed ms)) (by (same_name x m.name))
    ∙ ap (λ l. named_among x p (m ∷ []) ++ l) (named_cut x p ms)
    ∙ sym (named_cons x p m ms)
  where
    sums : (o n : ℕ) → capped (o + capped n) ≡ capped (o + n)
    sums o n = omega arith

    by : (b : Bool) → map place_of (map (found_member p) (if b then cut_placed m ∷ [] else [])) ≡ map place_of (map (found_member p) (if b then m ∷ [] else []))
    by true =
        ap (λ k. record { offset = k; tag = p.tag; member = m.number } ∷ [])
        (kept_alike (p.offset + capped m.offset) (p.offset + m.offset) (sums p.offset m.offset))
    by false = refl

-- with the first of a list that is gone through
pub tally_step : {A : Type 0} (found here later : Sought A) (first others : List A) (all : Sought A) → later ≡ together found here → here ≡ tally first
    → together found (tally (first ++ others)) ≡ all → together later (tally others) ≡ all
tally_step found here later first others all e f h =
    ap (λ s. together s (tally others)) (e ∙ ap (together found) f) ∙ together_assoc found (tally first) (tally others)
    ∙ ap (together found) (sym (tally_append first others)) ∙ h

pub named_step : (x : List ℕ) (p : Part) (m : Placed) (ms : List Placed) (found here later all : Sought MemberPlace) → later ≡ together found here
    → here ≡ tally (named_among x p (m ∷ [])) → together found (tally (named_among x p (m ∷ ms))) ≡ all → together later (tally (named_among x p ms)) ≡ all
named_step x p m ms found here later all e f h =
    tally_step found here later (named_among x p (m ∷ [])) (named_among x p ms) all e f
    (ap (λ l. together found (tally l)) (sym (named_cons x p m ms)) ∙ h)

pub named_last : (x : List ℕ) (p : Part) (ms : List Placed) (found all : Sought MemberPlace) → ms ≡ [] → together found (tally (named_among x p ms)) ≡ all → found ≡ all
named_last x p ms found all e h =
    sym (together_none found) ∙ ap (λ l. together found (tally (named_among x p l))) (sym e) ∙ h

-- AT A LEVEL

pub copies_tally : {A : Type 0} (f : Part → List A) (b : Bool) (p : Part) (here found : Sought A) → here ≡ tally (f p) → found ≡ (if b then together here here else here)
    → found ≡ tally (flat_map f (copies b p))
copies_tally f true p here found e g =
    g ∙ ap (λ s. together s s) e ∙ ap (together (tally (f p))) (sym (ap tally (append-nil (f p)))) ∙ sym (tally_append (f p) (f p ++ []))
copies_tally f false p here found e g = g ∙ e ∙ ap tally (sym (append-nil (f p)))

pub level_step : {A : Type 0} (f : Part → List A) (s : Standing) (ss : List Standing) (found here later all : Sought A) → later ≡ together found here
    → here ≡ tally (flat_map f (copies_of s)) → together found (tally (flat_map f (spread (s ∷ ss)))) ≡ all → together later (tally (flat_map f (spread ss))) ≡ all
level_step f s ss found here later all e g h =
    tally_step found here later (flat_map f (copies_of s)) (flat_map f (spread ss)) all e g
    (ap (λ l. together found (tally l)) (sym (flat_map-append f (copies_of s) (spread ss))) ∙ h)

pub level_last : {A : Type 0} (f : Part → List A) (ss : List Standing) (found all : Sought A) → ss ≡ [] → together found (tally (flat_map f (spread ss))) ≡ all → found ≡ all
level_last f ss found all e h = sym (together_none found) ∙ ap (λ l. together found (tally (flat_map f (spread l)))) (sym e) ∙ h

-- WITHOUT THEIR TYPES

abbrev pub told_found : Sought MemberPlace → Found
told_found Nowhere = found.Missing
told_found (One m) = found.At m.offset m.tag m.member
told_found Several = found.Ambiguous

told_map : (s : Sought FoundMember) → told_found (sought_map place_of s) ≡ without_type (found_of s)
told_map Nowhere = refl
told_map (One m) = refl
told_map Several = refl

pub found_in : (tags : Tags) (i : ℕ) (x : List ℕ) → has_body (slice_get tags i) ≡ true
    → told_found (sought (length tags) tags (named_places tags x) (whole i ∷ [])) ≡ without_type (find_member tags i x)
found_in tags i x h = by_tag (slice_get tags i) h
  where
    same : told_found (sought (length tags) tags (named_places tags x) (whole i ∷ [])) ≡ without_type (found_of (sought (length tags) tags (named_members tags x) (whole i ∷ [])))
    same = ap told_found (sought_mapped place_of (length tags) tags (named_members tags x) (whole i ∷ [])) ∙ told_map (sought (length tags) tags (named_members tags x) (whole i ∷ []))

    by_body : (o : Option (List MemberTree)) → has_members o ≡ true
        → told_found (sought (length tags) tags (named_places tags x) (whole i ∷ [])) ≡ without_type (find_in_body tags i x o)
    by_body None e = cc
    by_body (Some ms) e = same

    by_tag : (o : Option TagTree) → has_body o ≡ true
        → told_found (sought (length tags) tags (named_places tags x) (whole i ∷ [])) ≡ without_type (find_in_tag tags i x o)
    by_tag None e = cc
    by_tag (Some tag) e = by_body tag.members e

pub found_incomplete : (tags : Tags) (i : ℕ) (x : List ℕ) → has_body (slice_get tags i) ≡ false → found.Incomplete ≡ without_type (find_member tags i x)
found_incomplete tags i x h = by_tag (slice_get tags i) h
  where
    by_body : (o : Option (List MemberTree)) → has_members o ≡ false → found.Incomplete ≡ without_type (find_in_body tags i x o)
    by_body None e = refl
    by_body (Some ms) e = cc

    by_tag : (o : Option TagTree) → has_body o ≡ false → found.Incomplete ≡ without_type (find_in_tag tags i x o)
    by_tag None e = refl
    by_tag (Some tag) e = by_body tag.members e

pub found_by : (list ts : List Tag) (i : ℕ) (x : List ℕ) (f g : sight.Sought MemberPlace) → list ≡ ts → has_body (slice_get (tags_of list) i) ≡ true → f ≡ g
    → told_sought f ≡ sought (length (tags_of list)) (tags_of list) (named_places (tags_of list) x) (whole i ∷ [])
    → told_found (told_sought g) ≡ without_type (find_member (tags_of ts) i x)
found_by list ts i x f g e h same r =
    ap (λ k. told_found (told_sought k)) (sym same) ∙ ap told_found r ∙ found_in (tags_of list) i x h ∙ ap (λ l. without_type (find_member (tags_of l) i x)) e

pub there : {T : Type 0} (f : sight.Sought T) → ((x : T) × (f ≡ variants.One x)) ⊎ (f ≡ variants.Several) → told_sought f ≡ Nowhere → ⊥
there f (inl h) e = unlike (sym (ap told_sought h.1) ∙ e)
  where
    unlike : One h.0 ≡ Nowhere → ⊥
    unlike g = cc
there {T = T} f (inr h) e = unlike (sym (ap told_sought h) ∙ e)
  where
    unlike : let several : Sought T = Several in several ≡ Nowhere → ⊥
    unlike g = cc

-- NAMES ARE LOOKED FOR IN STRUCTURES, WHEREVER THESE STAND

map_nil : {A B : Type 0} (g : A → B) (xs : List A) → map g xs ≡ [] → xs ≡ []
map_nil g [] e = refl
map_nil g (x ∷ xs) e = cc

pub names_uniform : (tags : Tags) (x : List ℕ) → IsUniform (named_places tags x)
names_uniform tags x p q e h =
    let none : filter (λ m. same_name x m.name) (placed tags p.tag) ≡ [] = map_nil (found_member p) _ (map_nil place_of _ h) in
    ap (λ l. map place_of (map (found_member q) l)) (subst (λ t. filter (λ m. same_name x m.name) (placed tags t) ≡ []) e none)

pub names_blind : (tags : Tags) (x : List ℕ) → IsBlind (named_places tags x)
names_blind tags x p = by (filter (λ m. same_name x m.name) (placed tags p.tag))
  where
    sums : (o n : ℕ) → capped (capped o + n) ≡ capped (o + n)
    sums o n = omega arith

    by : (ms : List Placed) → map place_of (map (found_member (cut_part p)) ms) ≡ map place_of (map (found_member p) ms)
    by [] = refl
    by (m ∷ ms) =
        ap (λ k. record { offset = k; tag = p.tag; member = m.number } ∷ map place_of (map (found_member (cut_part p)) ms))
        (kept_alike (capped p.offset + m.offset) (p.offset + m.offset) (sums p.offset m.offset))
        ∙ ap (λ l. place_of (found_member p m) ∷ l) (by ms)
