-- Members by their numbers and names.
use Rattle.std.proofs.Common.{◌≡◌, ◌≤◌, ◌<◌, ◌+◌, ℕ, zero, suc, nat_eq, Bool, true, false, ◌&&◌, cond, List, [], ◌∷◌, length, slice_get, get_or, Option, Some, None, MatchOption, IfSome, Bor, refl, sym, ap, ◌∙◌, arith}
use Rattle.std.specs.List.{HoldsAt, filter}
use Rattle.std.specs.Cmp.Lexicographic.{pointwise}
use Rattle.p9_lang.specs.declared.types.Member.{Member}
use Rattle.p9_lang.specs.Names.{same_name}
use Rattle.p9_lang.specs.Types.{MemberTree, TagTree, Tags, member_of, members_of}
use Rattle.p9_lang.specs.Layout.{Extent, layout, nothing_yet, with_member}
use Rattle.p9_lang.specs.Members.{Placed, or_empty, placed_from, placed_in_body, placed_in_tag, placed, direct_member}
use Rattle.p9_opening.specs.Filling.{Placing, placing, body_members, tag_members, numbered, first_named}

-- A MEMBER BY ITS NUMBER

numbered_from : (tags : Tags) (u : Bool) (e : Extent) (n k at : ℕ) (ms : List MemberTree) → at ≡ n + k
    → placing (slice_get (placed_from tags u e n ms) k) ≡ numbered at (slice_get ms k)
numbered_from tags u e n zero at [] eq = refl
numbered_from tags u e n (suc k) at [] eq = refl
numbered_from tags u e n zero at (m ∷ ms) eq =
    let same : n ≡ at = omega arith in ap (λ z. Some (record { type = m.type; number = z })) same
numbered_from tags u e n (suc k) at (m ∷ ms) eq =
    numbered_from tags u (with_member u e (or_empty (layout tags m.type))) (suc n) k at ms (omega arith)

numbered_in_body : (tags : Tags) (u : Bool) (k : ℕ) (body : Option (List MemberTree))
    → placing (slice_get (placed_in_body tags u body) k) ≡ numbered k (slice_get (body_members body) k)
numbered_in_body tags u zero None = refl
numbered_in_body tags u (suc k) None = refl
numbered_in_body tags u k (Some ms) = numbered_from tags u nothing_yet 0 k k ms (omega arith)

numbered_in_tag : (tags : Tags) (k : ℕ) (tag : Option TagTree)
    → placing (slice_get (placed_in_tag tags tag) k) ≡ numbered k (slice_get (tag_members tag) k)
numbered_in_tag tags zero None = refl
numbered_in_tag tags (suc k) None = refl
numbered_in_tag tags k (Some tag) = numbered_in_body tags tag.is_union k tag.members

pub placed_by_number : (tags : Tags) (i k : ℕ) → placing (slice_get (placed tags i) k) ≡ numbered k (slice_get (tag_members (slice_get tags i)) k)
placed_by_number tags i k = numbered_in_tag tags k (slice_get tags i)

-- A MEMBER BY ITS NAME

pub names_by_bytes : (xs ys : List ℕ) (b : Bool) → b ≡ pointwise nat_eq xs ys → b ≡ same_name xs ys
names_by_bytes xs ys b e = e ∙ same xs ys
  where
    same : (xs ys : List ℕ) → pointwise nat_eq xs ys ≡ same_name xs ys
    same [] [] = refl
    same [] (y ∷ ys) = refl
    same (x ∷ xs) [] = refl
    same (x ∷ xs) (y ∷ ys) = ap (λ c. nat_eq x y && c) (same xs ys)

named_first : (t : Bool) (first : Placed) (others : List Placed) (further : Option Placing)
    → placing (slice_get others 0) ≡ further → placing (slice_get (cond t (first ∷ others) others) 0) ≡ cond t (placing (Some first)) further
named_first true first others further e = refl
named_first false first others further e = e

named_from : (tags : Tags) (u : Bool) (x : List ℕ) (e : Extent) (n : ℕ) (ms : List MemberTree)
    → placing (slice_get (filter (λ m. same_name x m.name) (placed_from tags u e n ms)) 0) ≡ first_named x n ms
named_from tags u x e n [] = refl
named_from tags u x e n (m ∷ ms) =
    named_first (same_name x m.name) _ _ _ (named_from tags u x (with_member u e (or_empty (layout tags m.type))) (suc n) ms)

named_in_body : (tags : Tags) (u : Bool) (x : List ℕ) (body : Option (List MemberTree))
    → placing (slice_get (filter (λ m. same_name x m.name) (placed_in_body tags u body)) 0) ≡ first_named x 0 (body_members body)
named_in_body tags u x None = refl
named_in_body tags u x (Some ms) = named_from tags u x nothing_yet 0 ms

named_in_tag : (tags : Tags) (x : List ℕ) (tag : Option TagTree)
    → placing (slice_get (filter (λ m. same_name x m.name) (placed_in_tag tags tag)) 0) ≡ first_named x 0 (tag_members tag)
named_in_tag tags x None = refl
named_in_tag tags x (Some tag) = named_in_body tags tag.is_union x tag.members

pub placed_by_name : (tags : Tags) (i : ℕ) (x : List ℕ) → placing (slice_get (direct_member tags i x) 0) ≡ first_named x 0 (tag_members (slice_get tags i))
placed_by_name tags i x = named_in_tag tags x (slice_get tags i)

-- MEMBERS OF THE PROGRAM

member_past : (ms : List Member) (k : ℕ) → length ms ≤ k → slice_get (members_of ms) k ≡ None
member_past [] zero le = refl
member_past [] (suc k) le = refl
member_past (m ∷ ms) zero le = absurd (omega arith)
member_past (m ∷ ms) (suc k) le = member_past ms k (omega arith)

member_within : (ms : List Member) (k : ℕ) (m : Member) → k < length ms → m ≡ get_or ms k m → slice_get (members_of ms) k ≡ Some (member_of m)
member_within [] zero m lt e = absurd (omega arith)
member_within [] (suc k) m lt e = absurd (omega arith)
member_within (n ∷ ms) zero m lt e = ap (λ q. Some (member_of q)) (sym e)
member_within (n ∷ ms) (suc k) m lt e = member_within ms k m (omega arith) e

-- what is looked up is there
pub member_looked_up : (ms : List Member) (k : ℕ) (o : Option (Bor Member))
    → MatchOption o (length ms ≤ k) (λ x. (k < length ms) × HoldsAt (λ y. x.now ≡ y) ms k) → IfSome o (λ x. x.now ≡ get_or ms k x.now)
    → MatchOption o (slice_get (members_of ms) k ≡ None) (λ x. slice_get (members_of ms) k ≡ Some (member_of x.now))
member_looked_up ms k None h e = member_past ms k h
member_looked_up ms k (Some x) h e = member_within ms k x.now h.0 e
