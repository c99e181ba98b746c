-- What is written to a depth is written to each greater one.
use Rattle.std.proofs.Common.{◌≡◌, ℕ, zero, suc, Bool, true, false, if◌then◌else◌, List, [], ◌∷◌, ◌++◌, slice_get, Option, Some, None, codes, refl, ap, ◌∙◌}
use Rattle.p9_lang.specs.Names.{is_among}
use Rattle.p9_lang.specs.Types.{TypeTree, Pointer, Array, Function, Tagged, TypeRow, none, more, MemberTree, TagTree, Tags}
use Rattle.p9_lang.specs.Agreement.{open_body}
use Rattle.p9_sig.specs.Parts.{Written, Part, writes, behind, continued, ◌⨟◌}
use Rattle.p9_sig.specs.Texts.{number_text, opening, closing, type_text, row_text, members_text, body_text, once, tag_text_by, tag_text}

-- where the first is written, so is the second, and alike
abbrev pub Under : Part → Part → Type 0
Under a b = (met : List (List ℕ)) (w : Written) → a met ≡ Some w → b met ≡ Some w

behind_under : (xs : List ℕ) (o p : Option Written) → ((w : Written) → o ≡ Some w → p ≡ Some w) → (w : Written)
    → behind xs o ≡ Some w → behind xs p ≡ Some w
behind_under xs None p h w e = cc
behind_under xs (Some v) p h w e = ap (behind xs) (h v refl) ∙ e

then_under : (a b c d : Part) → Under a b → Under c d → Under (a ⨟ c) (b ⨟ d)
then_under a b c d h k met w e = by (a met) refl e
  where
    by : (o : Option Written) → a met ≡ o → continued o c ≡ Some w → continued (b met) d ≡ Some w
    by None f e = cc
    by (Some v) f e = ap (λ o. continued o d) (h met v f) ∙ behind_under v.text (c v.met) (d v.met) (k v.met) w e

front_under : (xs : List ℕ) (a b : Part) → Under a b → Under (writes xs ⨟ a) (writes xs ⨟ b)
front_under xs a b h = then_under (writes xs) (writes xs) a b (λ met w e. e) h

once_under : (x : List ℕ) (a b : Part) → Under a b → Under (once x a) (once x b)
once_under [] a b h met w e = h met w e
once_under (c ∷ cs) a b h met w e = by (is_among met (c ∷ cs)) ((writes (codes "@") ⨟ writes (c ∷ cs) ⨟ writes (codes ";")) met) e
  where
    by : (q : Bool) (again : Option Written) → (if q then again else a (met ++ (c ∷ cs) ∷ [])) ≡ Some w
        → (if q then again else b (met ++ (c ∷ cs) ∷ [])) ≡ Some w
    by true again e = e
    by false again e = h (met ++ (c ∷ cs) ∷ []) w e

module _ (f g : ℕ → Part) (h : (i : ℕ) → Under (f i) (g i)) where
  mutual
    type_under : (t : TypeTree) → Under (type_text f t) (type_text g t)
    type_under (Pointer t) = front_under (codes "*") (type_text f t) (type_text g t) (type_under t)
    type_under (Array t n) =
        front_under (codes "[") (writes (number_text n) ⨟ writes (codes "]") ⨟ type_text f t) (writes (number_text n) ⨟ writes (codes "]") ⨟ type_text g t)
        (front_under (number_text n) (writes (codes "]") ⨟ type_text f t) (writes (codes "]") ⨟ type_text g t)
        (front_under (codes "]") (type_text f t) (type_text g t) (type_under t)))
    type_under (Function t ts) =
        front_under (codes "(") (row_text f ts ⨟ writes (codes ")") ⨟ type_text f t) (row_text g ts ⨟ writes (codes ")") ⨟ type_text g t)
        (then_under (row_text f ts) (row_text g ts) (writes (codes ")") ⨟ type_text f t) (writes (codes ")") ⨟ type_text g t) (row_under ts)
        (front_under (codes ")") (type_text f t) (type_text g t) (type_under t)))
    type_under (Tagged i) = h i
    type_under t = λ met w e. e

    row_under : (ts : TypeRow) → Under (row_text f ts) (row_text g ts)
    row_under none = λ met w e. e
    row_under (more t ts) =
        then_under (type_text f t) (type_text g t) (writes (codes ";") ⨟ row_text f ts) (writes (codes ";") ⨟ row_text g ts) (type_under t)
        (front_under (codes ";") (row_text f ts) (row_text g ts) (row_under ts))

  members_under : (ms : List MemberTree) → Under (members_text f ms) (members_text g ms)
  members_under [] = λ met w e. e
  members_under (m ∷ ms) =
      front_under m.name (writes (codes ":") ⨟ type_text f m.type ⨟ writes (codes ";") ⨟ members_text f ms)
      (writes (codes ":") ⨟ type_text g m.type ⨟ writes (codes ";") ⨟ members_text g ms)
      (front_under (codes ":") (type_text f m.type ⨟ writes (codes ";") ⨟ members_text f ms) (type_text g m.type ⨟ writes (codes ";") ⨟ members_text g ms)
      (then_under (type_text f m.type) (type_text g m.type) (writes (codes ";") ⨟ members_text f ms) (writes (codes ";") ⨟ members_text g ms) (type_under m.type)
      (front_under (codes ";") (members_text f ms) (members_text g ms) (members_under ms))))

  body_under : (u : Bool) (x : List ℕ) (body : Option (List MemberTree)) → Under (body_text f u x body) (body_text g u x body)
  body_under u x None = λ met w e. e
  body_under u x (Some ms) =
      front_under (opening u) (writes x ⨟ writes (codes ":") ⨟ members_text f ms ⨟ writes (closing u)) (writes x ⨟ writes (codes ":") ⨟ members_text g ms ⨟ writes (closing u))
      (front_under x (writes (codes ":") ⨟ members_text f ms ⨟ writes (closing u)) (writes (codes ":") ⨟ members_text g ms ⨟ writes (closing u))
      (front_under (codes ":") (members_text f ms ⨟ writes (closing u)) (members_text g ms ⨟ writes (closing u))
      (then_under (members_text f ms) (members_text g ms) (writes (closing u)) (writes (closing u)) (members_under ms) (λ met w e. e))))

  tag_under : (o : Option TagTree) → Under (tag_text_by f o) (tag_text_by g o)
  tag_under None met w e = cc
  tag_under (Some t) met w e =
      once_under t.name (body_text f t.is_union t.name (open_body t)) (body_text g t.is_union t.name (open_body t))
      (body_under t.is_union t.name (open_body t)) met w e

pub deeper : (d : ℕ) (A : Tags) (i : ℕ) → Under (tag_text d A i) (tag_text (suc d) A i)
deeper zero A i met w e = cc
deeper (suc d) A i met w e = tag_under (tag_text d A) (tag_text (suc d) A) (deeper d A) (slice_get A i) met w e
