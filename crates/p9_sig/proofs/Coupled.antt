-- Types that are written with one text are read alike.
use Rattle.std.proofs.Common.{◌≡◌, ℕ, zero, suc, ◌==◌, Bool, true, false, if◌then◌else◌, List, [], ◌∷◌, ◌++◌, slice_get, Option, Some, None, codes, refl, sym, ap, ◌∙◌}
use Rattle.std.proofs.lemmas.Bool.{eqb-false}
use Rattle.p9_lang.specs.Names.{is_among}
use Rattle.p9_lang.specs.Types.{TypeTree, Void, Char, UChar, Short, UShort, Int, UInt, Long, ULong, Pointer, Array, Function, Tagged, TypeRow, none, more, MemberTree, TagTree, Tags}
use Rattle.p9_lang.specs.Agreement.{open_body, kind_number}
use Rattle.p9_lang.specs.TagRules.{Mentioned, AreMentioned}
use Rattle.p9_sig.specs.Parts.{Written, Part, writes, ◌⨟◌}
use Rattle.p9_sig.specs.Texts.{number_text, opening, closing, type_text, row_text, members_text, body_text, once, tag_text_by, tag_text}
use Rattle.p9_sig.proofs.Composing.{grouped}
use Rattle.p9_sig.proofs.Numbers.{same_number, number_is_word}
use Rattle.p9_sig.proofs.Reading.{Met, Alike, AlikeRow, AlikeTags}
use Rattle.p9_sig.proofs.Coupling.{halves_of, fronted_of, Couples, couple_so, couple_as, couple_then, couple_writes, couple_front, couple_words}

-- FIRST BYTES

pub record Begins (c : ℕ) (text : List ℕ) : Type 0 where
  pub others : List ℕ
  pub is : text ≡ c ∷ others

pub firsts_same : (c e : ℕ) (v w r s : List ℕ) → Begins c v → Begins e w → v ++ r ≡ w ++ s → c ≡ e
firsts_same c e v w r s a b h =
    let g : c ∷ (a.others ++ r) ≡ e ∷ (b.others ++ s) = ap (λ t. t ++ r) (sym a.is) ∙ h ∙ ap (λ t. t ++ s) b.is in
    cc

pub begins_front : (c : ℕ) (cs : List ℕ) (a : Part) (met : Met) (v : Written) → (writes (c ∷ cs) ⨟ a) met ≡ Some v → Begins c v.text
begins_front c cs a met v e = let f = fronted_of (c ∷ cs) a met v e in record { others = cs ++ f.back.text; is = f.text }

begins_writes : (c : ℕ) (cs : List ℕ) (met : Met) (v : Written) → writes (c ∷ cs) met ≡ Some v → Begins c v.text
begins_writes c cs met v e =
    let p : record { text = c ∷ cs; met = met } ≡ v = cc in
    record { others = cs; is = ap (λ t. t.text) (sym p) }

-- the kind of type that begins with a byte
unfoldable pub head_kind : ℕ → ℕ
head_kind c =
    if c == 118 then 0 else if c == 99 then 1 else if c == 67 then 2 else if c == 115 then 3 else if c == 83 then 4
    else if c == 105 then 5 else if c == 73 then 6 else if c == 108 then 7 else if c == 76 then 8 else if c == 42 then 9
    else if c == 91 then 10 else if c == 40 then 11 else if c == 41 then 13 else 12

pub record Starts (kind : ℕ) (text : List ℕ) : Type 0 where
  pub byte : ℕ
  pub begins : Begins byte text
  pub is : head_kind byte ≡ kind

kinds_same : (k l : ℕ) (v w r s : List ℕ) → Starts k v → Starts l w → v ++ r ≡ w ++ s → k ≡ l
kinds_same k l v w r s a b h = sym a.is ∙ ap head_kind (firsts_same a.byte b.byte v w r s a.begins b.begins h) ∙ b.is

unfoldable pub open_byte : Bool → ℕ
open_byte true = 60
open_byte false = 123

begins_open : (u : Bool) (a : Part) (met : Met) (v : Written) → (writes (opening u) ⨟ a) met ≡ Some v → Begins (open_byte u) v.text
unfolding open_byte
begins_open true a met v e = begins_front 60 [] a met v e
begins_open false a met v e = begins_front 123 [] a met v e

-- a body or, where its members don't count, a tag alone
unfoldable pub body_byte : Bool → Option (List MemberTree) → ℕ
body_byte u None = 63
body_byte u (Some ms) = open_byte u

pub begins_body : (f : ℕ → Part) (u : Bool) (x : List ℕ) (a : Option (List MemberTree)) (met : Met) (v : Written) → body_text f u x a met ≡ Some v
    → Begins (body_byte u a) v.text
unfolding body_byte
begins_body f u x None met v e = begins_front 63 [] (writes (opening u) ⨟ writes x ⨟ writes (closing u)) met v e
begins_body f u x (Some ms) met v e = begins_open u (writes x ⨟ writes (codes ":") ⨟ members_text f ms ⨟ writes (closing u)) met v e

pub not_again : (u : Bool) (a : Option (List MemberTree)) → 64 ≡ body_byte u a → ⊥
unfolding body_byte open_byte
not_again u None e = eqb-false 64 63 refl e
not_again true (Some ms) e = eqb-false 64 60 refl e
not_again false (Some ms) e = eqb-false 64 123 refl e

body_starts : (u : Bool) (a : Option (List MemberTree)) → head_kind (body_byte u a) ≡ 12
unfolding body_byte open_byte head_kind
body_starts u None = refl
body_starts true (Some ms) = refl
body_starts false (Some ms) = refl

again_starts : head_kind 64 ≡ 12
unfolding head_kind
again_starts = refl

starts_once : (f : ℕ → Part) (u : Bool) (x : List ℕ) (a : Option (List MemberTree)) (met : Met) (v : Written) → once x (body_text f u x a) met ≡ Some v
    → Starts 12 v.text
starts_once f u [] a met v e = record { byte = body_byte u a; begins = begins_body f u [] a met v e; is = body_starts u a }
starts_once f u (c ∷ cs) a met v e = by (is_among met (c ∷ cs)) e
  where
    by : (b : Bool) → (if b then (writes (codes "@") ⨟ writes (c ∷ cs) ⨟ writes (codes ";")) met else body_text f u (c ∷ cs) a (met ++ (c ∷ cs) ∷ [])) ≡ Some v
        → Starts 12 v.text
    by true e = record { byte = 64; begins = begins_front 64 [] (writes (c ∷ cs) ⨟ writes (codes ";")) met v e; is = again_starts }
    by false e = record { byte = body_byte u a; begins = begins_body f u (c ∷ cs) a (met ++ (c ∷ cs) ∷ []) v e; is = body_starts u a }

starts_tag : (n : ℕ) (A : Tags) (i : ℕ) (met : Met) (v : Written) → tag_text n A i met ≡ Some v → Starts 12 v.text
starts_tag zero A i met v e = cc
starts_tag (suc n) A i met v e = by (slice_get A i) e
  where
    by : (o : Option TagTree) → tag_text_by (tag_text n A) o met ≡ Some v → Starts 12 v.text
    by None e = cc
    by (Some s) e = starts_once (tag_text n A) s.is_union s.name (open_body s) met v e

starts_type : (n : ℕ) (A : Tags) (t : TypeTree) (met : Met) (v : Written) → type_text (tag_text n A) t met ≡ Some v → Starts (kind_number t) v.text
unfolding head_kind
starts_type n A Void met v e = record { byte = 118; begins = begins_writes 118 [] met v e; is = refl }
starts_type n A Char met v e = record { byte = 99; begins = begins_writes 99 [] met v e; is = refl }
starts_type n A UChar met v e = record { byte = 67; begins = begins_writes 67 [] met v e; is = refl }
starts_type n A Short met v e = record { byte = 115; begins = begins_writes 115 [] met v e; is = refl }
starts_type n A UShort met v e = record { byte = 83; begins = begins_writes 83 [] met v e; is = refl }
starts_type n A Int met v e = record { byte = 105; begins = begins_writes 105 [] met v e; is = refl }
starts_type n A UInt met v e = record { byte = 73; begins = begins_writes 73 [] met v e; is = refl }
starts_type n A Long met v e = record { byte = 108; begins = begins_writes 108 [] met v e; is = refl }
starts_type n A ULong met v e = record { byte = 76; begins = begins_writes 76 [] met v e; is = refl }
starts_type n A (Pointer t) met v e = record { byte = 42; begins = begins_front 42 [] (type_text (tag_text n A) t) met v e; is = refl }
starts_type n A (Array t k) met v e =
    record { byte = 91; begins = begins_front 91 [] (writes (number_text k) ⨟ writes (codes "]") ⨟ type_text (tag_text n A) t) met v e; is = refl }
starts_type n A (Function t ts) met v e =
    record { byte = 40; begins = begins_front 40 [] (row_text (tag_text n A) ts ⨟ writes (codes ")") ⨟ type_text (tag_text n A) t) met v e; is = refl }
starts_type n A (Tagged i) met v e = starts_tag n A i met v e

starts_end : (a : Part) (met : Met) (v : Written) → (writes [] ⨟ writes (codes ")") ⨟ a) met ≡ Some v → Starts 13 v.text
unfolding head_kind
starts_end a met v e =
    let f = fronted_of [] (writes (codes ")") ⨟ a) met v e in
    let b = begins_front 41 [] a met f.back f.is in
    record { byte = 41; begins = record { others = b.others; is = f.text ∙ b.is }; is = refl }

starts_then : (k : ℕ) (a b : Part) (met : Met) (v : Written) → ((x : Written) → a met ≡ Some x → Starts k x.text) → (a ⨟ b) met ≡ Some v → Starts k v.text
starts_then k a b met v h e =
    let x = halves_of a b met v e in
    let f = h x.first x.is_first in
    record {
      byte = f.byte;
      begins = record { others = f.begins.others ++ x.second.text; is = x.text ∙ ap (λ t. t ++ x.second.text) f.begins.is };
      is = f.is;
    }

not_end : (t : TypeTree) → 13 ≡ kind_number t → ⊥
not_end Void e = eqb-false 13 0 refl e
not_end t e = eqb-false 13 (kind_number t) refl e

-- REGROUPED

pub row_grouped : (a b r c : Part) → (a ⨟ (b ⨟ r)) ⨟ c ≡ a ⨟ (b ⨟ (r ⨟ c))
row_grouped a b r c = grouped a (b ⨟ r) c ∙ ap (λ p. a ⨟ p) (grouped b r c)

pub member_grouped : (a b r q m c : Part) → (a ⨟ (b ⨟ (r ⨟ (q ⨟ m)))) ⨟ c ≡ a ⨟ (b ⨟ (r ⨟ (q ⨟ (m ⨟ c))))
member_grouped a b r q m c = row_grouped a b (r ⨟ (q ⨟ m)) c ∙ ap (λ p. a ⨟ (b ⨟ p)) (row_grouped r q m c)

-- TYPES, by what is said of structures

module _ (A B : Tags) (R S : ℕ → Type 0) (m n : ℕ) (tags : (i j : ℕ) → R i → S j → Couples A B R S (λ M. AlikeTags A B R S m M i j) (tag_text m A i) (tag_text n B j)) where
  letter : (t : TypeTree) (xs : List ℕ) → Couples A B R S (λ M. kind_number t ≡ kind_number t) (writes xs) (writes xs)
  letter t xs = couple_so A B R S (λ M. Unit {0}) (λ M. kind_number t ≡ kind_number t) (writes xs) (writes xs) (λ M l. refl) (couple_writes A B R S xs)

  mutual
    pub coupled : (t u : TypeTree) → Mentioned R t → Mentioned S u
        → Couples A B R S (λ M. Alike (AlikeTags A B R S m M) t u) (type_text (tag_text m A) t) (type_text (tag_text n B) u)
    coupled (Pointer t) (Pointer u) a b =
        couple_front A B R S (λ M. Alike (AlikeTags A B R S m M) t u) (codes "*") (type_text (tag_text m A) t) (type_text (tag_text n B) u) (coupled t u a b)
    coupled (Array t x) (Array u y) a b =
        couple_front A B R S (λ M. (x ≡ y) × Alike (AlikeTags A B R S m M) t u) (codes "[")
        (writes (number_text x) ⨟ writes (codes "]") ⨟ type_text (tag_text m A) t) (writes (number_text y) ⨟ writes (codes "]") ⨟ type_text (tag_text n B) u)
        (couple_so A B R S (λ M. (number_text x ≡ number_text y) × Alike (AlikeTags A B R S m M) t u) (λ M. (x ≡ y) × Alike (AlikeTags A B R S m M) t u)
        (writes (number_text x) ⨟ writes (codes "]") ⨟ type_text (tag_text m A) t) (writes (number_text y) ⨟ writes (codes "]") ⨟ type_text (tag_text n B) u)
        (λ M l. (same_number x y l.0, l.1))
        (couple_words A B R S (λ M. Alike (AlikeTags A B R S m M) t u) (number_text x) (number_text y) 93 (type_text (tag_text m A) t) (type_text (tag_text n B) u)
        (number_is_word x) (number_is_word y) refl (coupled t u a b)))
    coupled (Function t ts) (Function u us) a b =
        couple_front A B R S (λ M. AlikeRow (AlikeTags A B R S m M) ts us × Alike (AlikeTags A B R S m M) t u) (codes "(")
        (row_text (tag_text m A) ts ⨟ writes (codes ")") ⨟ type_text (tag_text m A) t) (row_text (tag_text n B) us ⨟ writes (codes ")") ⨟ type_text (tag_text n B) u)
        (coupled_row ts us a.1 b.1 t u (coupled t u a.0 b.0))
    coupled (Tagged i) (Tagged j) a b = tags i j a b
    coupled Void Void a b = letter Void (codes "v")
    coupled Char Char a b = letter Char (codes "c")
    coupled UChar UChar a b = letter UChar (codes "C")
    coupled Short Short a b = letter Short (codes "s")
    coupled UShort UShort a b = letter UShort (codes "S")
    coupled Int Int a b = letter Int (codes "i")
    coupled UInt UInt a b = letter UInt (codes "I")
    coupled Long Long a b = letter Long (codes "l")
    coupled ULong ULong a b = letter ULong (codes "L")
    coupled t u a b = λ met v w r s e k h.
        absurd (eqb-false (kind_number t) (kind_number u) refl (kinds_same (kind_number t) (kind_number u) v.text w.text r s (starts_type m A t met v e) (starts_type n B u met w k) h))

    coupled_row : (ts us : TypeRow) → AreMentioned R ts → AreMentioned S us → (c d : TypeTree)
        → Couples A B R S (λ M. Alike (AlikeTags A B R S m M) c d) (type_text (tag_text m A) c) (type_text (tag_text n B) d)
        → Couples A B R S (λ M. AlikeRow (AlikeTags A B R S m M) ts us × Alike (AlikeTags A B R S m M) c d) (row_text (tag_text m A) ts ⨟ writes (codes ")") ⨟ type_text (tag_text m A) c) (row_text (tag_text n B) us ⨟ writes (codes ")") ⨟ type_text (tag_text n B) d)
    coupled_row none none a b c d h =
        couple_so A B R S (λ M. Alike (AlikeTags A B R S m M) c d) (λ M. Unit {0} × Alike (AlikeTags A B R S m M) c d) (writes [] ⨟ writes (codes ")") ⨟ type_text (tag_text m A) c) (writes [] ⨟ writes (codes ")") ⨟ type_text (tag_text n B) d) (λ M l. (tt, l))
        (couple_front A B R S (λ M. Alike (AlikeTags A B R S m M) c d) [] (writes (codes ")") ⨟ type_text (tag_text m A) c) (writes (codes ")") ⨟ type_text (tag_text n B) d) (couple_front A B R S (λ M. Alike (AlikeTags A B R S m M) c d) (codes ")") (type_text (tag_text m A) c) (type_text (tag_text n B) d) h))
    coupled_row none (more u us) a b c d h = λ met v w r s e k f.
        absurd (not_end u (kinds_same 13 (kind_number u) v.text w.text r s (starts_end (type_text (tag_text m A) c) met v e)
        (starts_then (kind_number u) (type_text (tag_text n B) u ⨟ writes (codes ";") ⨟ row_text (tag_text n B) us) (writes (codes ")") ⨟ type_text (tag_text n B) d) met w
        (λ x g. starts_then (kind_number u) (type_text (tag_text n B) u) (writes (codes ";") ⨟ row_text (tag_text n B) us) met x (λ y i. starts_type n B u met y i) g) k) f))
    coupled_row (more t ts) none a b c d h = λ met v w r s e k f.
        absurd (not_end t (kinds_same 13 (kind_number t) w.text v.text s r (starts_end (type_text (tag_text n B) d) met w k)
        (starts_then (kind_number t) (type_text (tag_text m A) t ⨟ writes (codes ";") ⨟ row_text (tag_text m A) ts) (writes (codes ")") ⨟ type_text (tag_text m A) c) met v
        (λ x g. starts_then (kind_number t) (type_text (tag_text m A) t) (writes (codes ";") ⨟ row_text (tag_text m A) ts) met x (λ y i. starts_type m A t met y i) g) e) (sym f)))
    coupled_row (more t ts) (more u us) a b c d h =
        couple_as A B R S (λ M. (Alike (AlikeTags A B R S m M) t u × AlikeRow (AlikeTags A B R S m M) ts us) × Alike (AlikeTags A B R S m M) c d)
        (type_text (tag_text m A) t ⨟ writes (codes ";") ⨟ row_text (tag_text m A) ts ⨟ writes (codes ")") ⨟ type_text (tag_text m A) c)
        ((type_text (tag_text m A) t ⨟ writes (codes ";") ⨟ row_text (tag_text m A) ts) ⨟ writes (codes ")") ⨟ type_text (tag_text m A) c)
        (type_text (tag_text n B) u ⨟ writes (codes ";") ⨟ row_text (tag_text n B) us ⨟ writes (codes ")") ⨟ type_text (tag_text n B) d)
        ((type_text (tag_text n B) u ⨟ writes (codes ";") ⨟ row_text (tag_text n B) us) ⨟ writes (codes ")") ⨟ type_text (tag_text n B) d)
        (row_grouped (type_text (tag_text m A) t) (writes (codes ";")) (row_text (tag_text m A) ts) (writes (codes ")") ⨟ type_text (tag_text m A) c))
        (row_grouped (type_text (tag_text n B) u) (writes (codes ";")) (row_text (tag_text n B) us) (writes (codes ")") ⨟ type_text (tag_text n B) d))
        (couple_so A B R S (λ M. Alike (AlikeTags A B R S m M) t u × (AlikeRow (AlikeTags A B R S m M) ts us × Alike (AlikeTags A B R S m M) c d))
        (λ M. (Alike (AlikeTags A B R S m M) t u × AlikeRow (AlikeTags A B R S m M) ts us) × Alike (AlikeTags A B R S m M) c d)
        (type_text (tag_text m A) t ⨟ writes (codes ";") ⨟ row_text (tag_text m A) ts ⨟ writes (codes ")") ⨟ type_text (tag_text m A) c)
        (type_text (tag_text n B) u ⨟ writes (codes ";") ⨟ row_text (tag_text n B) us ⨟ writes (codes ")") ⨟ type_text (tag_text n B) d)
        (λ M l. ((l.0, l.1.0), l.1.1))
        (couple_then A B R S (λ M. Alike (AlikeTags A B R S m M) t u) (λ M. AlikeRow (AlikeTags A B R S m M) ts us × Alike (AlikeTags A B R S m M) c d)
        (type_text (tag_text m A) t) (type_text (tag_text n B) u)
        (writes (codes ";") ⨟ row_text (tag_text m A) ts ⨟ writes (codes ")") ⨟ type_text (tag_text m A) c) (writes (codes ";") ⨟ row_text (tag_text n B) us ⨟ writes (codes ")") ⨟ type_text (tag_text n B) d)
        (coupled t u a.0 b.0)
        (couple_front A B R S (λ M. AlikeRow (AlikeTags A B R S m M) ts us × Alike (AlikeTags A B R S m M) c d) (codes ";")
        (row_text (tag_text m A) ts ⨟ writes (codes ")") ⨟ type_text (tag_text m A) c) (row_text (tag_text n B) us ⨟ writes (codes ")") ⨟ type_text (tag_text n B) d)
        (coupled_row ts us a.1 b.1 c d h))))
