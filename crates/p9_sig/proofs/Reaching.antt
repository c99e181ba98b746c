-- The structures that a type reaches.
use Rattle.std.proofs.Common.{◌≡◌, inl, inr, ℕ, zero, suc, ◌+◌, ◌==◌, not, Bool, true, false, if◌then◌else◌, List, [], ◌∷◌, length, slice_get, Option, Some, None, refl, sym, ap, ◌∙◌, arith}
use Rattle.std.specs.List.{list_all}
use Rattle.std.proofs.lemmas.Bool.{eqb-true, eq-eqb, and_parts, or_cases, or_left, or_right}
use Rattle.p9_lang.specs.Names.{same_name, is_nameless}
use Rattle.p9_lang.specs.Types.{TypeTree, Pointer, Array, Function, Tagged, TypeRow, none, more, MemberTree, TagTree, Tags}
use Rattle.p9_lang.specs.Agreement.{open_body}
use Rattle.p9_lang.specs.TagRules.{is_name_or_none, is_type_over, is_member_over, is_body_over, is_tag_over, Mentioned, AreMentioned, MembersMention, BodyMentions, AreValid, mentions, row_mentions, members_mention, body_mentions, tag_mentions, leads_to, reaches, name_at, ArePlainFor}
use Rattle.p9_sig.proofs.Names.{same_self}
use Rattle.p9_sig.proofs.Numbers.{name_is_word}
use Rattle.p9_sig.proofs.Ending.{in_list, open_mentions}
use Rattle.p9_sig.proofs.Reading.{NamesDiffer}
use Rattle.p9_sig.proofs.CoupledTags.{AreWords, BodyWords, AreReached}

-- a wider test finds as much

module _ (f g : ℕ → Bool) (h : (i : ℕ) → f i ≡ true → g i ≡ true) where
  mutual
    mentions_more : (t : TypeTree) → mentions f t ≡ true → mentions g t ≡ true
    mentions_more (Pointer t) e = mentions_more t e
    mentions_more (Array t n) e = mentions_more t e
    mentions_more (Function t ts) e = elim (or_cases (mentions f t) (row_mentions f ts) e) [
      | inl p ↦ or_left (mentions g t) (row_mentions g ts) (mentions_more t p)
      | inr p ↦ or_right (mentions g t) (row_mentions g ts) (row_more ts p)
    ]
    mentions_more (Tagged i) e = h i e
    mentions_more t e = e

    row_more : (ts : TypeRow) → row_mentions f ts ≡ true → row_mentions g ts ≡ true
    row_more none e = e
    row_more (more t ts) e = elim (or_cases (mentions f t) (row_mentions f ts) e) [
      | inl p ↦ or_left (mentions g t) (row_mentions g ts) (mentions_more t p)
      | inr p ↦ or_right (mentions g t) (row_mentions g ts) (row_more ts p)
    ]

  members_more : (ms : List MemberTree) → members_mention f ms ≡ true → members_mention g ms ≡ true
  members_more [] e = e
  members_more (m ∷ ms) e = elim (or_cases (mentions f m.type) (members_mention f ms) e) [
    | inl p ↦ or_left (mentions g m.type) (members_mention g ms) (mentions_more m.type p)
    | inr p ↦ or_right (mentions g m.type) (members_mention g ms) (members_more ms p)
  ]

  body_more : (b : Option (List MemberTree)) → body_mentions f b ≡ true → body_mentions g b ≡ true
  body_more None e = e
  body_more (Some ms) e = members_more ms e

  tag_more : (o : Option TagTree) → tag_mentions f o ≡ true → tag_mentions g o ≡ true
  tag_more None e = e
  tag_more (Some t) e = body_more t.members e

-- what holds of each structure that is mentioned

mutual
  mentioned_all : (P : ℕ → Type 0) (t : TypeTree) → ((k : ℕ) → mentions (λ q. q == k) t ≡ true → P k) → Mentioned P t
  mentioned_all P (Pointer t) h = mentioned_all P t h
  mentioned_all P (Array t n) h = mentioned_all P t h
  mentioned_all P (Function t ts) h = (
    mentioned_all P t (λ k e. h k (or_left (mentions (λ q. q == k) t) (row_mentions (λ q. q == k) ts) e)),
    row_all P ts (λ k e. h k (or_right (mentions (λ q. q == k) t) (row_mentions (λ q. q == k) ts) e)),
  )
  mentioned_all P (Tagged i) h = h i (eq-eqb i i refl)
  mentioned_all P t h = tt

  row_all : (P : ℕ → Type 0) (ts : TypeRow) → ((k : ℕ) → row_mentions (λ q. q == k) ts ≡ true → P k) → AreMentioned P ts
  row_all P none h = tt
  row_all P (more t ts) h = (
    mentioned_all P t (λ k e. h k (or_left (mentions (λ q. q == k) t) (row_mentions (λ q. q == k) ts) e)),
    row_all P ts (λ k e. h k (or_right (mentions (λ q. q == k) t) (row_mentions (λ q. q == k) ts) e)),
  )

members_all : (P : ℕ → Type 0) (ms : List MemberTree) → ((k : ℕ) → members_mention (λ q. q == k) ms ≡ true → P k) → MembersMention P ms
members_all P [] h = tt
members_all P (m ∷ ms) h = (
  mentioned_all P m.type (λ k e. h k (or_left (mentions (λ q. q == k) m.type) (members_mention (λ q. q == k) ms) e)),
  members_all P ms (λ k e. h k (or_right (mentions (λ q. q == k) m.type) (members_mention (λ q. q == k) ms) e)),
)

body_all : (P : ℕ → Type 0) (b : Option (List MemberTree)) → ((k : ℕ) → body_mentions (λ q. q == k) b ≡ true → P k) → BodyMentions P b
body_all P None h = tt
body_all P (Some ms) h = members_all P ms h

-- WHAT A TYPE REACHES

pub record Reached (A : Tags) (type : TypeTree) (i : ℕ) : Type 0 where
  pub depth : ℕ
  pub is : reaches depth A type i ≡ true

leads_self : (d : ℕ) (A : Tags) (k q : ℕ) → (q == k) ≡ true → leads_to d A k q ≡ true
leads_self zero A k q e = e
leads_self (suc d) A k q e = or_left (q == k) (tag_mentions (leads_to d A k) (slice_get A q)) e

leads_deeper : (d : ℕ) (A : Tags) (i j : ℕ) → leads_to d A i j ≡ true → leads_to (suc d) A i j ≡ true
leads_deeper zero A i j e = or_left (j == i) (tag_mentions (leads_to zero A i) (slice_get A j)) e
leads_deeper (suc d) A i j e = elim (or_cases (j == i) (tag_mentions (leads_to d A i) (slice_get A j)) e) [
  | inl p ↦ or_left (j == i) (tag_mentions (leads_to (suc d) A i) (slice_get A j)) p
  | inr p ↦ or_right (j == i) (tag_mentions (leads_to (suc d) A i) (slice_get A j))
      (tag_more (leads_to d A i) (leads_to (suc d) A i) (λ q f. leads_deeper d A i q f) (slice_get A j) p)
]

-- a structure leads to what its body mentions
leads_once : (d : ℕ) (A : Tags) (i k : ℕ) (s : TagTree) → slice_get A i ≡ Some s → body_mentions (λ q. q == k) s.members ≡ true → leads_to (suc d) A k i ≡ true
leads_once d A i k s f e =
    or_right (i == k) (tag_mentions (leads_to d A k) (slice_get A i))
    (ap (tag_mentions (leads_to d A k)) f ∙ body_more (λ q. q == k) (leads_to d A k) (λ q g. leads_self d A k q g) s.members e)

leads_on : (d : ℕ) (A : Tags) (i k j : ℕ) (s : TagTree) → slice_get A i ≡ Some s → body_mentions (λ q. q == k) s.members ≡ true
    → leads_to d A i j ≡ true → leads_to (suc d) A k j ≡ true
leads_on zero A i k j s f e g = ap (leads_to 1 A k) (eqb-true j i g) ∙ leads_once 0 A i k s f e
leads_on (suc d) A i k j s f e g = elim (or_cases (j == i) (tag_mentions (leads_to d A i) (slice_get A j)) g) [
  | inl p ↦ ap (leads_to (suc (suc d)) A k) (eqb-true j i p) ∙ leads_once (suc d) A i k s f e
  | inr p ↦ or_right (j == k) (tag_mentions (leads_to (suc d) A k) (slice_get A j))
      (tag_more (leads_to d A i) (leads_to (suc d) A k) (λ q r. leads_on d A i k q s f e r) (slice_get A j) p)
]

pub reached_first : (A : Tags) (type : TypeTree) → Mentioned (Reached A type) type
reached_first A type =
    mentioned_all (Reached A type) type (λ k e. record { depth = 0; is = mentions_more (λ q. q == k) (leads_to 0 A k) (λ q f. f) type e })

reached_bodies : (A : Tags) (type : TypeTree) (i : ℕ) (s : TagTree) → Reached A type i → slice_get A i ≡ Some s → BodyMentions (Reached A type) s.members
reached_bodies A type i s r f =
    body_all (Reached A type) s.members (λ k e. record {
      depth = suc r.depth;
      is = mentions_more (leads_to r.depth A i) (leads_to (suc r.depth) A k) (λ q g. leads_on r.depth A i k q s f e g) type r.is;
    })

-- NAMES OF WHAT IS REACHED

reaches_to : (k a d : ℕ) (A : Tags) (type : TypeTree) (i : ℕ) → reaches a A type i ≡ true → d ≡ a + k → reaches d A type i ≡ true
reaches_to zero a d A type i e f = let same : d ≡ a = omega arith in ap (λ n. reaches n A type i) same ∙ e
reaches_to (suc k) a d A type i e f =
    reaches_to k (suc a) d A type i (mentions_more (leads_to a A i) (leads_to (suc a) A i) (λ q g. leads_deeper a A i q g) type e) (omega arith)

pub names_differ : (A : Tags) (type : TypeTree) → ArePlainFor A type → NamesDiffer A (Reached A type)
names_differ A type plain i j s t c cs ri rj f g m n =
    let ei : name_at (slice_get A i) ≡ c ∷ cs = ap name_at f ∙ m in
    let ej : name_at (slice_get A j) ≡ c ∷ cs = ap name_at g ∙ n in
    let same : i ≡ j = plain (ri.depth + rj.depth) i j (reaches_to rj.depth ri.depth (ri.depth + rj.depth) A type i ri.is refl)
    (reaches_to ri.depth rj.depth (ri.depth + rj.depth) A type j rj.is (omega arith))
    (ap (λ x. not (is_nameless x)) ei)
    (ap (λ x. same_name x (name_at (slice_get A j))) ei ∙ ap (same_name (c ∷ cs)) ej ∙ same_self (c ∷ cs)) in
    let there : Some s ≡ Some t = sym f ∙ ap (slice_get A) same ∙ g in
    cc

members_words : (n : ℕ) (ms : List MemberTree) → list_all (is_member_over n) ms ≡ true → AreWords ms
members_words n [] e = tt
members_words n (m ∷ ms) e =
    let p = and_parts (is_member_over n m) (list_all (is_member_over n) ms) e in
    (name_is_word m.name (and_parts (is_name_or_none m.name) (is_type_over n m.type) p.0).0, members_words n ms p.1)

body_words : (n : ℕ) (x marked : Bool) (body : Option (List MemberTree)) → is_body_over n x marked body ≡ true → BodyWords body
body_words n x marked None e = tt
body_words n x marked (Some ms) e = members_words n ms (and_parts _ (list_all (is_member_over n) ms) e).1

open_words : (t : TagTree) → BodyWords t.members → BodyWords (open_body t)
open_words t h = by t.is_marked
  where
    by : (b : Bool) → BodyWords (if b then None else t.members)
    by true = tt
    by false = h

pub all_reached : (A : Tags) (type : TypeTree) → AreValid A → AreReached A (Reached A type)
all_reached A type valid = record {
  names = λ i t f.
      (let p = and_parts (is_name_or_none t.name) (is_body_over (length A) (is_nameless t.name) t.is_marked t.members) (in_list (is_tag_over (length A)) A i t valid.in_range f) in
      (name_is_word t.name p.0, open_words t (body_words (length A) (is_nameless t.name) t.is_marked t.members p.1)));
  bodies = λ i t r f. open_mentions (Reached A type) t (reached_bodies A type i t r f);
}
