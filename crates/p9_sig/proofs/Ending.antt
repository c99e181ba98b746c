-- Over valid structures each type has a text.
use Rattle.std.proofs.Common.{◌≡◌, ◌<◌, ◌≤◌, ℕ, zero, suc, ◌+◌, ◌*◌, Bool, true, false, if◌then◌else◌, List, [], ◌∷◌, ◌++◌, length, slice_get, Option, Some, None, is_some, codes, refl, sym, ap, ◌∙◌, arith}
use Rattle.std.specs.List.{list_all}
use Rattle.std.proofs.lemmas.Bool.{and_parts, ltb-true, true≢false}
use Rattle.std.proofs.Math.Nat.{mul-le-mul_right}
use Rattle.p9_lang.specs.Names.{is_among, is_nameless}
use Rattle.p9_lang.specs.Types.{TypeTree, Void, Char, UChar, Short, UShort, Int, UInt, Long, ULong, Pointer, Array, Function, Tagged, TypeRow, none, more, MemberTree, TagTree, Tags}
use Rattle.p9_lang.specs.Agreement.{open_body}
use Rattle.p9_lang.specs.TagRules.{is_name_or_none, is_type_over, are_types_over, is_member_over, is_body_over, is_tag_over, Mentioned, AreMentioned, MembersMention, BodyMentions, UnlessNamed, TagMentions, NamelessEnds, AreValid}
use Rattle.p9_sig.specs.Parts.{Written, Part, writes, behind, continued, ◌⨟◌}
use Rattle.p9_sig.specs.Texts.{number_text, opening, closing, type_text, row_text, members_text, body_text, once, tag_text_by, tag_text, deepest, text_in}
use Rattle.p9_sig.specs.TypesInRange.{IsOver}
use Rattle.p9_sig.specs.Laws.{TypesHaveTexts}
use Rattle.p9_sig.proofs.Names.{Grows, grows_on, meets, met_now}

-- WHAT A TYPE MENTIONS

mutual
  pub mentioned_both : (P Q R : ℕ → Type 0) → ((i : ℕ) → P i → Q i → R i) → (t : TypeTree) → Mentioned P t → Mentioned Q t → Mentioned R t
  mentioned_both P Q R h (Pointer t) p q = mentioned_both P Q R h t p q
  mentioned_both P Q R h (Array t n) p q = mentioned_both P Q R h t p q
  mentioned_both P Q R h (Function t ts) p q = (mentioned_both P Q R h t p.0 q.0, row_both P Q R h ts p.1 q.1)
  mentioned_both P Q R h (Tagged i) p q = h i p q
  mentioned_both P Q R h t p q = tt

  row_both : (P Q R : ℕ → Type 0) → ((i : ℕ) → P i → Q i → R i) → (ts : TypeRow) → AreMentioned P ts → AreMentioned Q ts → AreMentioned R ts
  row_both P Q R h none p q = tt
  row_both P Q R h (more t ts) p q = (mentioned_both P Q R h t p.0 q.0, row_both P Q R h ts p.1 q.1)

members_both : (P Q R : ℕ → Type 0) → ((i : ℕ) → P i → Q i → R i) → (ms : List MemberTree) → MembersMention P ms → MembersMention Q ms
    → MembersMention R ms
members_both P Q R h [] p q = tt
members_both P Q R h (m ∷ ms) p q = (mentioned_both P Q R h m.type p.0 q.0, members_both P Q R h ms p.1 q.1)

body_both : (P Q R : ℕ → Type 0) → ((i : ℕ) → P i → Q i → R i) → (body : Option (List MemberTree)) → BodyMentions P body → BodyMentions Q body
    → BodyMentions R body
body_both P Q R h None p q = tt
body_both P Q R h (Some ms) p q = members_both P Q R h ms p q

pub open_mentions : (P : ℕ → Type 0) (t : TagTree) → BodyMentions P t.members → BodyMentions P (open_body t)
open_mentions P t h = by t.is_marked
  where
    by : (b : Bool) → BodyMentions P (if b then None else t.members)
    by true = tt
    by false = h

-- structures of valid lists mention structures that there are

mutual
  over_type : (n : ℕ) (t : TypeTree) → is_type_over n t ≡ true → Mentioned (λ i. i < n) t
  over_type n (Pointer t) e = over_type n t e
  over_type n (Array t k) e = over_type n t (and_parts _ (is_type_over n t) e).1
  over_type n (Function t ts) e =
      let p = and_parts (is_type_over n t) (are_types_over n ts) e in
      (over_type n t p.0, over_row n ts p.1)
  over_type n (Tagged i) e = ltb-true i n e
  over_type n t e = tt

  over_row : (n : ℕ) (ts : TypeRow) → are_types_over n ts ≡ true → AreMentioned (λ i. i < n) ts
  over_row n none e = tt
  over_row n (more t ts) e =
      let p = and_parts (is_type_over n t) (are_types_over n ts) e in
      (over_type n t p.0, over_row n ts p.1)

over_members : (n : ℕ) (ms : List MemberTree) → list_all (is_member_over n) ms ≡ true → MembersMention (λ i. i < n) ms
over_members n [] e = tt
over_members n (m ∷ ms) e =
    let p = and_parts (is_member_over n m) (list_all (is_member_over n) ms) e in
    (over_type n m.type (and_parts (is_name_or_none m.name) (is_type_over n m.type) p.0).1, over_members n ms p.1)

over_body : (n : ℕ) (x marked : Bool) (body : Option (List MemberTree)) → is_body_over n x marked body ≡ true → BodyMentions (λ i. i < n) body
over_body n x marked None e = tt
over_body n x marked (Some ms) e = over_members n ms (and_parts _ (list_all (is_member_over n) ms) e).1

pub over_tag : (n : ℕ) (t : TagTree) → is_tag_over n t ≡ true → BodyMentions (λ i. i < n) t.members
over_tag n t e = over_body n (is_nameless t.name) t.is_marked t.members (and_parts (is_name_or_none t.name) (is_body_over n (is_nameless t.name) t.is_marked t.members) e).1

pub in_list : (test : TagTree → Bool) (A : Tags) (i : ℕ) (t : TagTree) → list_all test A ≡ true → slice_get A i ≡ Some t → test t ≡ true
in_list test [] zero t e f = cc
in_list test [] (suc i) t e f = cc
in_list test (s ∷ A) zero t e f =
    let same : s ≡ t = cc in
    ap test (sym same) ∙ (and_parts (test s) (list_all test A) e).0
in_list test (s ∷ A) (suc i) t e f = in_list test A i t (and_parts (test s) (list_all test A) e).1 f

there_is : (A : Tags) (i : ℕ) → i < length A → slice_get A i ≡ None → ⊥
there_is [] i lt e = omega arith
there_is (s ∷ A) zero lt e = cc
there_is (s ∷ A) (suc i) lt e = there_is A i (omega arith) e

-- STRUCTURES THAT ARE STILL UNMET

abbrev unmet : Tags → List (List ℕ) → ℕ
unmet [] met = 0
unmet (t ∷ ts) met = (if is_among met t.name then 0 else 1) + unmet ts met

unmet_at_most : (A : Tags) (met : List (List ℕ)) → unmet A met ≤ length A
unmet_at_most [] met = omega arith
unmet_at_most (t ∷ ts) met = by (is_among met t.name) (unmet_at_most ts met)
  where
    by : (b : Bool) → unmet ts met ≤ length ts → (if b then 0 else 1) + unmet ts met ≤ suc (length ts)
    by true h = omega arith
    by false h = omega arith

fewer_head : (b c : Bool) → (b ≡ true → c ≡ true) → (m n : ℕ) → n ≤ m → (if c then 0 else 1) + n ≤ (if b then 0 else 1) + m
fewer_head true true h m n le = omega arith
fewer_head true false h m n le = absurd (true≢false (sym (h refl)))
fewer_head false true h m n le = omega arith
fewer_head false false h m n le = omega arith

unmet_falls : (A : Tags) (met later : List (List ℕ)) → Grows met later → unmet A later ≤ unmet A met
unmet_falls [] met later g = omega arith
unmet_falls (t ∷ ts) met later g =
    fewer_head (is_among met t.name) (is_among later t.name) (g t.name) (unmet ts met) (unmet ts later) (unmet_falls ts met later g)

less_head : (b c : Bool) → b ≡ false → c ≡ true → (m n : ℕ) → n ≤ m → (if c then 0 else 1) + n < (if b then 0 else 1) + m
less_head true c e f m n le = absurd (true≢false e)
less_head false true e f m n le = omega arith
less_head false false e f m n le = absurd (true≢false (sym f))

less_tail : (b c : Bool) → (b ≡ true → c ≡ true) → (m n : ℕ) → n < m → (if c then 0 else 1) + n < (if b then 0 else 1) + m
less_tail true true h m n le = omega arith
less_tail true false h m n le = absurd (true≢false (sym (h refl)))
less_tail false true h m n le = omega arith
less_tail false false h m n le = omega arith

unmet_less : (A : Tags) (i : ℕ) (s : TagTree) (met later : List (List ℕ)) → slice_get A i ≡ Some s → Grows met later
    → is_among met s.name ≡ false → is_among later s.name ≡ true → unmet A later < unmet A met
unmet_less [] zero s met later e g n m = cc
unmet_less [] (suc i) s met later e g n m = cc
unmet_less (t ∷ ts) zero s met later e g n m =
    let same : s ≡ t = cc in
    less_head (is_among met t.name) (is_among later t.name) (ap (λ v. is_among met v.name) (sym same) ∙ n) (ap (λ v. is_among later v.name) (sym same) ∙ m)
    (unmet ts met) (unmet ts later) (unmet_falls ts met later g)
unmet_less (t ∷ ts) (suc i) s met later e g n m =
    less_tail (is_among met t.name) (is_among later t.name) (g t.name) (unmet ts met) (unmet ts later) (unmet_less ts i s met later e g n m)

-- PARTS THAT ARE WRITTEN

pub record Ends (a : Part) (met : List (List ℕ)) : Type 0 where
  pub written : Written
  pub is : a met ≡ Some written
  pub grows : Grows met written.met

-- wherever at least these names are met
abbrev Goes : List (List ℕ) → Part → Type 0
Goes from a = (met : List (List ℕ)) → Grows from met → Ends a met

goes_writes : (from : List (List ℕ)) (xs : List ℕ) → Goes from (writes xs)
goes_writes from xs met g = record { written = record { text = xs; met = met }; is = refl; grows = λ x m. m }

goes_then : (from : List (List ℕ)) (a b : Part) → Goes from a → Goes from b → Goes from (a ⨟ b)
goes_then from a b h k met g =
    let x = h met g in
    let y = k x.written.met (grows_on from met x.written.met g x.grows) in
    record {
      written = record { text = x.written.text ++ y.written.text; met = y.written.met };
      is = ap (λ o. continued o b) x.is ∙ ap (behind x.written.text) y.is;
      grows = grows_on met x.written.met y.written.met x.grows y.grows;
    }

goes_front : (from : List (List ℕ)) (xs : List ℕ) (a : Part) → Goes from a → Goes from (writes xs ⨟ a)
goes_front from xs a h = goes_then from (writes xs) a (goes_writes from xs) h

module _ (from : List (List ℕ)) (f : ℕ → Part) where
  mutual
    goes_type : (t : TypeTree) → Mentioned (λ i. Goes from (f i)) t → Goes from (type_text f t)
    goes_type (Pointer t) h = goes_front from (codes "*") (type_text f t) (goes_type t h)
    goes_type (Array t n) h =
        goes_front from (codes "[") (writes (number_text n) ⨟ writes (codes "]") ⨟ type_text f t)
        (goes_front from (number_text n) (writes (codes "]") ⨟ type_text f t) (goes_front from (codes "]") (type_text f t) (goes_type t h)))
    goes_type (Function t ts) h =
        goes_front from (codes "(") (row_text f ts ⨟ writes (codes ")") ⨟ type_text f t)
        (goes_then from (row_text f ts) (writes (codes ")") ⨟ type_text f t) (goes_row ts h.1) (goes_front from (codes ")") (type_text f t) (goes_type t h.0)))
    goes_type (Tagged i) h = h
    goes_type Void h = goes_writes from (codes "v")
    goes_type Char h = goes_writes from (codes "c")
    goes_type UChar h = goes_writes from (codes "C")
    goes_type Short h = goes_writes from (codes "s")
    goes_type UShort h = goes_writes from (codes "S")
    goes_type Int h = goes_writes from (codes "i")
    goes_type UInt h = goes_writes from (codes "I")
    goes_type Long h = goes_writes from (codes "l")
    goes_type ULong h = goes_writes from (codes "L")

    goes_row : (ts : TypeRow) → AreMentioned (λ i. Goes from (f i)) ts → Goes from (row_text f ts)
    goes_row none h = goes_writes from []
    goes_row (more t ts) h =
        goes_then from (type_text f t) (writes (codes ";") ⨟ row_text f ts) (goes_type t h.0) (goes_front from (codes ";") (row_text f ts) (goes_row ts h.1))

  goes_members : (ms : List MemberTree) → MembersMention (λ i. Goes from (f i)) ms → Goes from (members_text f ms)
  goes_members [] h = goes_writes from []
  goes_members (m ∷ ms) h =
      goes_front from m.name (writes (codes ":") ⨟ type_text f m.type ⨟ writes (codes ";") ⨟ members_text f ms)
      (goes_front from (codes ":") (type_text f m.type ⨟ writes (codes ";") ⨟ members_text f ms)
      (goes_then from (type_text f m.type) (writes (codes ";") ⨟ members_text f ms) (goes_type m.type h.0)
      (goes_front from (codes ";") (members_text f ms) (goes_members ms h.1))))

  goes_body : (u : Bool) (x : List ℕ) (body : Option (List MemberTree)) → BodyMentions (λ i. Goes from (f i)) body → Goes from (body_text f u x body)
  goes_body u x None h =
      goes_front from (codes "?") (writes (opening u) ⨟ writes x ⨟ writes (closing u))
      (goes_front from (opening u) (writes x ⨟ writes (closing u)) (goes_front from x (writes (closing u)) (goes_writes from (closing u))))
  goes_body u x (Some ms) h =
      goes_front from (opening u) (writes x ⨟ writes (codes ":") ⨟ members_text f ms ⨟ writes (closing u))
      (goes_front from x (writes (codes ":") ⨟ members_text f ms ⨟ writes (closing u))
      (goes_front from (codes ":") (members_text f ms ⨟ writes (closing u))
      (goes_then from (members_text f ms) (writes (closing u)) (goes_members ms h) (goes_writes from (closing u)))))

product_less : (u v n k d : ℕ) → u < v → v * n + suc k ≤ suc d → u * n + n ≤ d
product_less u v n k d lt le =
    let p : suc u * n ≤ v * n = mul-le-mul_right n (omega arith) in
    omega arith

product_falls : (u v n k d : ℕ) → u ≤ v → v * n + k ≤ d → u * n + k ≤ d
product_falls u v n k d lt le =
    let p : u * n ≤ v * n = mul-le-mul_right n lt in
    omega arith

module _ (A : Tags) (valid : AreValid A) where
  abbrev GoesTo : (depth : ℕ) → Type 0
  GoesTo d = (from : List (List ℕ)) (k i : ℕ) → i < length A → NamelessEnds k A i → unmet A from * length A + k ≤ d → Goes from (tag_text d A i)

  -- a structure with a tag
  goes_named : (d : ℕ) → GoesTo d → (from : List (List ℕ)) (k i : ℕ) (t : TagTree) → slice_get A i ≡ Some t
      → unmet A from * length A + suc k ≤ suc d
      → (c : ℕ) (cs : List ℕ) → t.name ≡ c ∷ cs
      → Goes from (once (c ∷ cs) (body_text (tag_text d A) t.is_union (c ∷ cs) (open_body t)))
  goes_named d go from k i t e le c cs n met g = by (is_among met (c ∷ cs)) refl
    where
      all_go : is_among met (c ∷ cs) ≡ false → BodyMentions (λ j. Goes (met ++ (c ∷ cs) ∷ []) (tag_text d A j)) t.members
      all_go f =
          body_both (λ j. j < length A) (λ j. j < length A) (λ j. Goes (met ++ (c ∷ cs) ∷ []) (tag_text d A j))
          (λ j lt same. go (met ++ (c ∷ cs) ∷ []) (length A) j lt (valid.cycles_are_named j lt)
          (product_less (unmet A (met ++ (c ∷ cs) ∷ [])) (unmet A met) (length A) k d
          (unmet_less A i t met (met ++ (c ∷ cs) ∷ []) e (meets met (c ∷ cs)) (ap (is_among met) n ∙ f) (ap (is_among (met ++ (c ∷ cs) ∷ [])) n ∙ met_now met (c ∷ cs)))
          (product_falls (unmet A met) (unmet A from) (length A) (suc k) (suc d) (unmet_falls A from met g) le)))
          t.members (over_tag (length A) t (in_list (is_tag_over (length A)) A i t valid.in_range e)) (over_tag (length A) t (in_list (is_tag_over (length A)) A i t valid.in_range e))

      ends : is_among met (c ∷ cs) ≡ false
          → Ends (body_text (tag_text d A) t.is_union (c ∷ cs) (open_body t)) (met ++ (c ∷ cs) ∷ [])
      ends f =
          goes_body (met ++ (c ∷ cs) ∷ []) (tag_text d A) t.is_union (c ∷ cs) (open_body t)
          (open_mentions (λ j. Goes (met ++ (c ∷ cs) ∷ []) (tag_text d A j)) t (all_go f)) (met ++ (c ∷ cs) ∷ []) (λ x m. m)

      by : (b : Bool) → is_among met (c ∷ cs) ≡ b → Ends (once (c ∷ cs) (body_text (tag_text d A) t.is_union (c ∷ cs) (open_body t))) met
      by true f = record {
        written = record { text = codes "@" ++ ((c ∷ cs) ++ codes ";"); met = met };
        is = ap (λ q. if q then (writes (codes "@") ⨟ writes (c ∷ cs) ⨟ writes (codes ";")) met else body_text (tag_text d A) t.is_union (c ∷ cs) (open_body t) (met ++ (c ∷ cs) ∷ [])) f;
        grows = λ x m. m;
      }
      by false f =
          let w = ends f in
          record {
            written = w.written;
            is = ap (λ q. if q then (writes (codes "@") ⨟ writes (c ∷ cs) ⨟ writes (codes ";")) met else body_text (tag_text d A) t.is_union (c ∷ cs) (open_body t) (met ++ (c ∷ cs) ∷ [])) f ∙ w.is;
            grows = grows_on met (met ++ (c ∷ cs) ∷ []) w.written.met (meets met (c ∷ cs)) w.grows;
          }

  -- one without
  goes_nameless : (d : ℕ) → GoesTo d → (from : List (List ℕ)) (k i : ℕ) (t : TagTree) → slice_get A i ≡ Some t
      → unmet A from * length A + suc k ≤ suc d → BodyMentions (NamelessEnds k A) t.members
      → Goes from (body_text (tag_text d A) t.is_union [] (open_body t))
  goes_nameless d go from k i t e le m =
      goes_body from (tag_text d A) t.is_union [] (open_body t)
      (open_mentions (λ j. Goes from (tag_text d A j)) t
      (body_both (λ j. j < length A) (NamelessEnds k A) (λ j. Goes from (tag_text d A j)) (λ j lt ends. go from k j lt ends (omega arith))
      t.members (over_tag (length A) t (in_list (is_tag_over (length A)) A i t valid.in_range e)) m))

  goes_opened : (d : ℕ) → GoesTo d → (from : List (List ℕ)) (k i : ℕ) → i < length A → NamelessEnds (suc k) A i
      → unmet A from * length A + suc k ≤ suc d → Goes from (tag_text (suc d) A i)
  goes_opened d go from k i lt e le met g = by (slice_get A i) refl e
    where
      named : (t : TagTree) → slice_get A i ≡ Some t → (x : List ℕ) → t.name ≡ x → UnlessNamed x (BodyMentions (NamelessEnds k A) t.members)
          → Ends (once x (body_text (tag_text d A) t.is_union x (open_body t))) met
      named t f [] n m =
          let r = goes_nameless d go from k i t f le m met g in
          record { written = r.written; is = r.is; grows = r.grows }
      named t f (c ∷ cs) n m = goes_named d go from k i t f le c cs n met g

      by : (o : Option TagTree) → slice_get A i ≡ o → TagMentions (NamelessEnds k A) o → Ends (tag_text_by (tag_text d A) o) met
      by None f m = absurd (there_is A i lt f)
      by (Some t) f m = let r = named t f t.name refl m in record { written = r.written; is = r.is; grows = r.grows }

  goes_tag : (d : ℕ) → GoesTo d
  goes_tag zero from zero i lt e le = absurd e
  goes_tag zero from (suc k) i lt e le = absurd (omega arith)
  goes_tag (suc d) from zero i lt e le = absurd e
  goes_tag (suc d) from (suc k) i lt e le =
      let r = goes_opened d (goes_tag d) from k i lt e le in
      λ met g. let q = r met g in record { written = q.written; is = q.is; grows = q.grows }

  pub type_ends : (t : TypeTree) → IsOver A t → Ends (type_text (tag_text (deepest A) A) t) []
  type_ends t over =
      goes_type [] (tag_text (deepest A) A) t
      (mentioned_both (λ j. j < length A) (λ j. j < length A) (λ j. Goes [] (tag_text (deepest A) A j))
      (λ j lt same. goes_tag (deepest A) [] (length A) j lt (valid.cycles_are_named j lt)
      (product_falls (unmet A []) (length A) (length A) (length A) (deepest A) (unmet_at_most A []) (omega arith)))
      t over over) [] (λ x m. m)

pub types_have_texts : TypesHaveTexts
types_have_texts A t valid over = let e = (type_ends A valid t over).is in ap (λ o. is_some (text_in o)) e
