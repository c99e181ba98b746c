-- A member that is found stands in its structure's body.
use Rattle.std.proofs.Common.{◌≡◌, ◌⊎◌, inl, inr, ℕ, zero, suc, ◌+◌, Bool, true, false, IsTrue, if◌then◌else◌, List, [], ◌∷◌, ◌++◌, map, length, slice_get, Option, Some, None, refl, sym, ap, subst, ◌∙◌, arith}
use Rattle.std.specs.List.{flat_map, filter}
use Rattle.p9_lang.specs.Names.{same_name}
use Rattle.p9_lang.specs.Types.{MemberTree, TagTree, Tags}
use Rattle.p9_lang.specs.Layout.{Extent, layout, nothing_yet, with_member}
use Rattle.p9_lang.specs.Members.{Part, Placed, or_empty, placed_from, placed_in_body, placed_in_tag, placed, Sought, Nowhere, One, Several, or_deeper, sought, inner_parts, FoundMember, found_member, named_members, found_of, find_in_body, find_in_tag, find_member, whole}
use Rattle.p9_lang.specs.Members as members
use Rattle.p9_types.specs.declared.finding.Found.{Found}
use Rattle.p9_types.specs.Offsets.{kept_offset}
use Rattle.p9_types.specs.Sightings.{without_type}
use Rattle.p9_types.specs.FoundMembers.{member_in_body, member_in, IsWritten, TellsMember}

abbrev Has : {A : Type 0} → A → List A → Type 0
Has x [] = ⊥
Has x (y ∷ ys) = (y ≡ x) ⊎ Has x ys

has_either : {A : Type 0} (x : A) (ys zs : List A) → Has x (ys ++ zs) → Has x ys ⊎ Has x zs
has_either x [] zs h = inr h
has_either x (y ∷ ys) zs (inl e) = inl (inl e)
has_either {A = A} x (y ∷ ys) zs (inr h) = by (has_either x ys zs h)
  where
    by : Has x ys ⊎ Has x zs → Has x (y ∷ ys) ⊎ Has x zs
    by (inl k) = inl (inr k)
    by (inr k) = inr k

in_flat : {A : Type 0} (x : A) (f : Part → List A) (L : List Part) → Has x (flat_map f L) → (p : Part) × Has x (f p)
in_flat x f [] h = absurd h
in_flat {A = A} x f (p ∷ L) h = by (has_either x (f p) (flat_map f L) h) (in_flat x f L)
  where
    by : Has x (f p) ⊎ Has x (flat_map f L) → (Has x (flat_map f L) → (q : Part) × Has x (f q)) → (q : Part) × Has x (f q)
    by (inl k) g = (p, k)
    by (inr k) g = g k

-- what is sought and found stands in a part
sought_in : {A : Type 0} (d : ℕ) (tags : Tags) (has : Part → List A) (L : List Part) (x : A) → sought d tags has L ≡ One x → (p : Part) × Has x (has p)
sought_in zero tags has L x e = cc
sought_in {A = A} (suc d) tags has L x e = by (flat_map has L) refl e (sought_in d tags has (flat_map (inner_parts tags) L) x)
  where
    by : (xs : List A) → flat_map has L ≡ xs → or_deeper xs (sought d tags has (flat_map (inner_parts tags) L)) ≡ One x
        → (sought d tags has (flat_map (inner_parts tags) L) ≡ One x → (p : Part) × Has x (has p)) → (p : Part) × Has x (has p)
    by [] f g next = next g
    by (y ∷ []) f g next = in_flat x has L (subst (Has x) (sym f) (inl (one y g)))
      where
        one : (y : A) → One y ≡ One x → y ≡ x
        one y g = cc
    by (y ∷ (z ∷ zs)) f g next = cc

-- a member with its number in a body
numbered : (tags : Tags) (u : Bool) (so_far : Extent) (n : ℕ) (ms : List MemberTree) (q : Placed) → Has q (placed_from tags u so_far n ms)
    → (k : ℕ) × (q.number ≡ n + k) × (slice_get ms k ≡ Some (record { name = q.name; type = q.type }))
numbered tags u so_far n [] q h = absurd h
numbered tags u so_far n (m ∷ ms) q (inl e) =
    (0, sym (ap (λ p. p.number) e) ∙ omega arith, ap (λ (p : Placed). Some (record { name = p.name; type = p.type })) e)
numbered tags u so_far n (m ∷ ms) q (inr h) =
    let r = numbered tags u (with_member u so_far (or_empty (layout tags m.type))) (suc n) ms q h in
    (suc r.0, more n r.0 q.number r.1, r.2)
  where
    more : (n k c : ℕ) → c ≡ suc n + k → c ≡ n + suc k
    more n k c e = omega arith

in_tag : (tags : Tags) (o : Option TagTree) (q : Placed) → Has q (placed_in_tag tags o) → member_in o q.number ≡ Some (record { name = q.name; type = q.type })
in_tag tags None q h = absurd h
in_tag tags (Some tag) q h = by tag.members h
  where
    by : (o : Option (List MemberTree)) → Has q (placed_in_body tags tag.is_union o) → member_in_body o q.number ≡ Some (record { name = q.name; type = q.type })
    by None k = absurd k
    by (Some ms) k = let r = numbered tags tag.is_union nothing_yet 0 ms q k in ap (slice_get ms) (the_number r.0 q.number r.1) ∙ r.2
      where
        the_number : (k c : ℕ) → c ≡ 0 + k → c ≡ k
        the_number k c e = omega arith

-- a member that has the name
named_one : (x : List ℕ) (p : Part) (ms : List Placed) (m : FoundMember) → Has m (map (found_member p) (filter (λ q. same_name x q.name) ms))
    → (q : Placed) × Has q ms × IsTrue (same_name x q.name) × (found_member p q ≡ m)
named_one x p [] m h = absurd h
named_one x p (q ∷ ms) m h = by (same_name x q.name) refl h (named_one x p ms m)
  where
    later : (r : Placed) × Has r ms × IsTrue (same_name x r.name) × (found_member p r ≡ m) → (r : Placed) × Has r (q ∷ ms) × IsTrue (same_name x r.name) × (found_member p r ≡ m)
    later k = (k.0, inr k.1, k.2, k.3)

    by : (b : Bool) → same_name x q.name ≡ b → Has m (map (found_member p) (if b then q ∷ filter (λ r. same_name x r.name) ms else filter (λ r. same_name x r.name) ms))
        → (Has m (map (found_member p) (filter (λ r. same_name x r.name) ms)) → (r : Placed) × Has r ms × IsTrue (same_name x r.name) × (found_member p r ≡ m))
        → (r : Placed) × Has r (q ∷ ms) × IsTrue (same_name x r.name) × (found_member p r ≡ m)
    by true e (inl k) next = (q, inl refl, e, k)
    by true e (inr k) next = later (next k)
    by false e k next = later (next k)

written : (tags : Tags) (i : ℕ) (x : List ℕ) (m : FoundMember) → sought (length tags) tags (named_members tags x) (whole i ∷ []) ≡ One m
    → find_member tags i x ≡ members.At m.offset m.tag m.number m.type → IsWritten tags i x (kept_offset m.offset) m.tag m.number
written tags i x m e f =
    let r = sought_in (length tags) tags (named_members tags x) (whole i ∷ []) m e in
    let q = named_one x r.0 (placed tags r.0.tag) m r.1 in
    record {
      begins = m.offset;
      member = record { name = q.0.name; type = q.0.type };
      stands =
          sym (ap (λ (y : FoundMember). member_in (slice_get tags y.tag) y.number) q.3)
          ∙ in_tag tags (slice_get tags r.0.tag) q.0 q.1;
      named = q.2;
      found = f ∙ sym (ap (λ (y : FoundMember). members.At m.offset m.tag m.number y.type) q.3);
      told = refl;
    }

tells_sought : (tags : Tags) (i : ℕ) (x : List ℕ) (s : Sought FoundMember) → sought (length tags) tags (named_members tags x) (whole i ∷ []) ≡ s
    → find_member tags i x ≡ found_of s → TellsMember tags i x (without_type (found_of s))
tells_sought tags i x Nowhere e f = tt
tells_sought tags i x (One m) e f = written tags i x m e f
tells_sought tags i x Several e f = tt

tells_body : (tags : Tags) (i : ℕ) (x : List ℕ) (o : Option (List MemberTree)) → find_member tags i x ≡ find_in_body tags i x o
    → TellsMember tags i x (without_type (find_in_body tags i x o))
tells_body tags i x None f = tt
tells_body tags i x (Some ms) f = tells_sought tags i x (sought (length tags) tags (named_members tags x) (whole i ∷ [])) refl f

tells_tag : (tags : Tags) (i : ℕ) (x : List ℕ) (o : Option TagTree) → find_member tags i x ≡ find_in_tag tags i x o
    → TellsMember tags i x (without_type (find_in_tag tags i x o))
tells_tag tags i x None f = tt
tells_tag tags i x (Some tag) f = tells_body tags i x tag.members f

pub tells_member : (tags : Tags) (i : ℕ) (x : List ℕ) (f : Found) → f ≡ without_type (find_member tags i x) → TellsMember tags i x f
tells_member tags i x f e = subst (TellsMember tags i x) (sym e) (tells_tag tags i x (slice_get tags i) refl)
