-- Types that agree to every depth have one text.
use Rattle.std.proofs.Common.{◌≡◌, ℕ, zero, suc, ◌&&◌, ◌==◌, Bool, true, false, if◌then◌else◌, List, [], ◌∷◌, ◌++◌, slice_get, Option, Some, None, codes, refl, sym, ap, ◌∙◌}
use Rattle.std.proofs.lemmas.Bool.{and_parts, eqb-true, true≢false}
use Rattle.p9_lang.specs.Names.{same_name, is_among}
use Rattle.p9_lang.specs.Types.{TypeTree, Void, Char, UChar, Short, UShort, Int, UInt, Long, ULong, Pointer, Array, Function, Tagged, TypeRow, none, more, MemberTree, TagTree, Tags}
use Rattle.p9_lang.specs.Agreement.{open_body, same_keyword, rows_agree, members_agree, bodies_agree, tags_agree, agree}
use Rattle.p9_sig.specs.Parts.{Written, Part, writes, behind, continued, ◌⨟◌}
use Rattle.p9_sig.specs.Texts.{number_text, opening, closing, type_text, row_text, members_text, body_text, once, tag_text_by, tag_text}
use Rattle.p9_sig.proofs.Names.{same_is}

-- where both are written, they are alike
abbrev pub SamePart : Part → Part → Type 0
SamePart a b = (met : List (List ℕ)) (v w : Written) → a met ≡ Some v → b met ≡ Some w → v ≡ w

same_writes : (xs ys : List ℕ) → xs ≡ ys → SamePart (writes xs) (writes ys)
same_writes xs ys h met v w e k = cc

same_then : (a b c d : Part) → SamePart a b → SamePart c d → SamePart (a ⨟ c) (b ⨟ d)
same_then a b c d h k met v w e f = by (a met) (b met) refl refl e f
  where
    by : (o p : Option Written) → a met ≡ o → b met ≡ p → continued o c ≡ Some v → continued p d ≡ Some w → v ≡ w
    by None p i j e f = cc
    by (Some x) None i j e f = cc
    by (Some x) (Some y) i j e f =
        let same : x ≡ y = h met x y i j in
        later (c x.met) (d x.met) refl refl e (ap (λ (q : Written). behind q.text (d q.met)) same ∙ f)
      where
        later : (o p : Option Written) → c x.met ≡ o → d x.met ≡ p → behind x.text o ≡ Some v → behind x.text p ≡ Some w → v ≡ w
        later None p i j e f = cc
        later (Some z) None i j e f = cc
        later (Some z) (Some q) i j e f = let r = k x.met z q i j in cc

same_front : (xs : List ℕ) (a b : Part) → SamePart a b → SamePart (writes xs ⨟ a) (writes xs ⨟ b)
same_front xs a b h = same_then (writes xs) (writes xs) a b (same_writes xs xs refl) h

same_once : (x : List ℕ) (a b : Part) → SamePart a b → SamePart (once x a) (once x b)
same_once [] a b h met v w e f = h met v w e f
same_once (c ∷ cs) a b h met v w e f = by (is_among met (c ∷ cs)) ((writes (codes "@") ⨟ writes (c ∷ cs) ⨟ writes (codes ";")) met) e f
  where
    by : (q : Bool) (again : Option Written) → (if q then again else a (met ++ (c ∷ cs) ∷ [])) ≡ Some v
        → (if q then again else b (met ++ (c ∷ cs) ∷ [])) ≡ Some w → v ≡ w
    by true again e f = cc
    by false again e f = h (met ++ (c ∷ cs) ∷ []) v w e f

same_keywords : (u v : Bool) → same_keyword u v ≡ true → u ≡ v
same_keywords true true e = refl
same_keywords true false e = sym e
same_keywords false true e = e
same_keywords false false e = refl

module _ (A B : Tags) (f g : ℕ → Part) (tags : (i j : ℕ) → ((d : ℕ) → tags_agree (agree d A B) (slice_get A i) (slice_get B j) ≡ true) → SamePart (f i) (g j)) where
  mutual
    same_type : (t u : TypeTree) → ((d : ℕ) → agree d A B t u ≡ true) → SamePart (type_text f t) (type_text g u)
    same_type (Pointer t) (Pointer u) h = same_front (codes "*") (type_text f t) (type_text g u) (same_type t u (λ d. h (suc d)))
    same_type (Array t m) (Array u n) h =
        let e = eqb-true m n (and_parts (m == n) (agree 0 A B t u) (h 1)).0 in
        same_front (codes "[") (writes (number_text m) ⨟ writes (codes "]") ⨟ type_text f t) (writes (number_text n) ⨟ writes (codes "]") ⨟ type_text g u)
        (same_then (writes (number_text m)) (writes (number_text n)) (writes (codes "]") ⨟ type_text f t) (writes (codes "]") ⨟ type_text g u)
        (same_writes (number_text m) (number_text n) (ap number_text e))
        (same_front (codes "]") (type_text f t) (type_text g u)
        (same_type t u (λ d. (and_parts (m == n) (agree d A B t u) (h (suc d))).1))))
    same_type (Function t ts) (Function u us) h =
        same_front (codes "(") (row_text f ts ⨟ writes (codes ")") ⨟ type_text f t) (row_text g us ⨟ writes (codes ")") ⨟ type_text g u)
        (same_then (row_text f ts) (row_text g us) (writes (codes ")") ⨟ type_text f t) (writes (codes ")") ⨟ type_text g u)
        (same_row ts us (λ d. (and_parts (agree d A B t u) (rows_agree (agree d A B) ts us) (h (suc d))).1))
        (same_front (codes ")") (type_text f t) (type_text g u)
        (same_type t u (λ d. (and_parts (agree d A B t u) (rows_agree (agree d A B) ts us) (h (suc d))).0))))
    same_type (Tagged i) (Tagged j) h = tags i j (λ d. h (suc d))
    same_type Void Void h = same_writes (codes "v") (codes "v") refl
    same_type Char Char h = same_writes (codes "c") (codes "c") refl
    same_type UChar UChar h = same_writes (codes "C") (codes "C") refl
    same_type Short Short h = same_writes (codes "s") (codes "s") refl
    same_type UShort UShort h = same_writes (codes "S") (codes "S") refl
    same_type Int Int h = same_writes (codes "i") (codes "i") refl
    same_type UInt UInt h = same_writes (codes "I") (codes "I") refl
    same_type Long Long h = same_writes (codes "l") (codes "l") refl
    same_type ULong ULong h = same_writes (codes "L") (codes "L") refl
    same_type t u h = absurd (true≢false (sym (h 1)))

    same_row : (ts us : TypeRow) → ((d : ℕ) → rows_agree (agree d A B) ts us ≡ true) → SamePart (row_text f ts) (row_text g us)
    same_row none none h = same_writes [] [] refl
    same_row none (more u us) h = absurd (true≢false (sym (h 0)))
    same_row (more t ts) none h = absurd (true≢false (sym (h 0)))
    same_row (more t ts) (more u us) h =
        same_then (type_text f t) (type_text g u) (writes (codes ";") ⨟ row_text f ts) (writes (codes ";") ⨟ row_text g us)
        (same_type t u (λ d. (and_parts (agree d A B t u) (rows_agree (agree d A B) ts us) (h d)).0))
        (same_front (codes ";") (row_text f ts) (row_text g us)
        (same_row ts us (λ d. (and_parts (agree d A B t u) (rows_agree (agree d A B) ts us) (h d)).1)))

  same_members : (ms ns : List MemberTree) → ((d : ℕ) → members_agree (agree d A B) ms ns ≡ true) → SamePart (members_text f ms) (members_text g ns)
  same_members [] [] h = same_writes [] [] refl
  same_members [] (n ∷ ns) h = absurd (true≢false (sym (h 0)))
  same_members (m ∷ ms) [] h = absurd (true≢false (sym (h 0)))
  same_members (m ∷ ms) (n ∷ ns) h =
      same_then (writes m.name) (writes n.name) (writes (codes ":") ⨟ type_text f m.type ⨟ writes (codes ";") ⨟ members_text f ms)
      (writes (codes ":") ⨟ type_text g n.type ⨟ writes (codes ";") ⨟ members_text g ns)
      (same_writes m.name n.name (same_is m.name n.name (outer 0).0))
      (same_front (codes ":") (type_text f m.type ⨟ writes (codes ";") ⨟ members_text f ms) (type_text g n.type ⨟ writes (codes ";") ⨟ members_text g ns)
      (same_then (type_text f m.type) (type_text g n.type) (writes (codes ";") ⨟ members_text f ms) (writes (codes ";") ⨟ members_text g ns)
      (same_type m.type n.type (λ d. (and_parts (agree d A B m.type n.type) (members_agree (agree d A B) ms ns) (outer d).1).0))
      (same_front (codes ";") (members_text f ms) (members_text g ns)
      (same_members ms ns (λ d. (and_parts (agree d A B m.type n.type) (members_agree (agree d A B) ms ns) (outer d).1).1)))))
    where
      outer : (d : ℕ) → (same_name m.name n.name ≡ true) × ((agree d A B m.type n.type && members_agree (agree d A B) ms ns) ≡ true)
      outer d = and_parts (same_name m.name n.name) (agree d A B m.type n.type && members_agree (agree d A B) ms ns) (h d)

  same_body : (u : Bool) (x : List ℕ) (a b : Option (List MemberTree)) → ((d : ℕ) → bodies_agree (agree d A B) a b ≡ true)
      → SamePart (body_text f u x a) (body_text g u x b)
  same_body u x None None h = λ met v w e k. cc
  same_body u x None (Some ns) h = absurd (true≢false (sym (h 0)))
  same_body u x (Some ms) None h = absurd (true≢false (sym (h 0)))
  same_body u x (Some ms) (Some ns) h =
      same_front (opening u) (writes x ⨟ writes (codes ":") ⨟ members_text f ms ⨟ writes (closing u)) (writes x ⨟ writes (codes ":") ⨟ members_text g ns ⨟ writes (closing u))
      (same_front x (writes (codes ":") ⨟ members_text f ms ⨟ writes (closing u)) (writes (codes ":") ⨟ members_text g ns ⨟ writes (closing u))
      (same_front (codes ":") (members_text f ms ⨟ writes (closing u)) (members_text g ns ⨟ writes (closing u))
      (same_then (members_text f ms) (members_text g ns) (writes (closing u)) (writes (closing u)) (same_members ms ns h) (same_writes (closing u) (closing u) refl))))

  same_tag : (a b : Option TagTree) → ((d : ℕ) → tags_agree (agree d A B) a b ≡ true) → SamePart (tag_text_by f a) (tag_text_by g b)
  same_tag None b h = λ met v w e k. cc
  same_tag (Some s) None h = λ met v w e k. cc
  same_tag (Some s) (Some t) h = λ met v w e k.
      same_once s.name (body_text f s.is_union s.name (open_body s)) (body_text g s.is_union s.name (open_body t))
      (same_body s.is_union s.name (open_body s) (open_body t) (λ d. (inner d).1)) met v w e
      (ap (λ u. once s.name (body_text g u s.name (open_body t)) met) (same_keywords s.is_union t.is_union (outer 0).0)
      ∙ ap (λ x. once x (body_text g t.is_union x (open_body t)) met) (same_is s.name t.name (inner 0).0) ∙ k)
    where
      outer : (d : ℕ) → (same_keyword s.is_union t.is_union ≡ true) × ((same_name s.name t.name && bodies_agree (agree d A B) (open_body s) (open_body t)) ≡ true)
      outer d = and_parts (same_keyword s.is_union t.is_union) (same_name s.name t.name && bodies_agree (agree d A B) (open_body s) (open_body t)) (h d)

      inner : (d : ℕ) → (same_name s.name t.name ≡ true) × (bodies_agree (agree d A B) (open_body s) (open_body t) ≡ true)
      inner d = and_parts (same_name s.name t.name) (bodies_agree (agree d A B) (open_body s) (open_body t)) (outer d).1

same_tags : (m n : ℕ) (A B : Tags) (i j : ℕ) → ((d : ℕ) → tags_agree (agree d A B) (slice_get A i) (slice_get B j) ≡ true)
    → SamePart (tag_text m A i) (tag_text n B j)
same_tags zero n A B i j h = λ met v w e k. cc
same_tags (suc m) zero A B i j h = λ met v w e k. cc
same_tags (suc m) (suc n) A B i j h =
    let r = same_tag A B (tag_text m A) (tag_text n B) (same_tags m n A B) (slice_get A i) (slice_get B j) h in
    λ met v w e k. r met v w e k

pub agreed_same : (m n : ℕ) (A B : Tags) (t u : TypeTree) → ((d : ℕ) → agree d A B t u ≡ true)
    → SamePart (type_text (tag_text m A) t) (type_text (tag_text n B) u)
agreed_same m n A B t u h = same_type A B (tag_text m A) (tag_text n B) (same_tags m n A B) t u h
