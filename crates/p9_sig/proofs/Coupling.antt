-- Parts that are written with one text are read alike: what combines such parts.
use Rattle.std.proofs.Common.{◌≡◌, ◌⊎◌, inl, inr, ℕ, ◌||◌, Bool, true, false, List, [], ◌∷◌, ◌++◌, Option, Some, None, refl, sym, ap, ◌∙◌, subst, append_assoc}
use Rattle.std.proofs.lemmas.Bool.{or_cases}
use Rattle.p9_lang.specs.Names.{same_name, is_among}
use Rattle.p9_lang.specs.TagRules.{is_letter_or_digit}
use Rattle.p9_lang.specs.Types.{Tags}
use Rattle.p9_sig.specs.Parts.{Written, Part, writes, behind, continued, ◌⨟◌}
use Rattle.p9_sig.proofs.Names.{same_is, Grows, grows_on}
use Rattle.p9_sig.proofs.Numbers.{IsWord, split}
use Rattle.p9_sig.proofs.Reading.{Met, Link}

-- PARTS IN TWO

pub record Halves (a b : Part) (met : Met) (v : Written) : Type 0 where
  pub first : Written
  pub second : Written
  pub is_first : a met ≡ Some first
  pub is_second : b first.met ≡ Some second
  pub text : v.text ≡ first.text ++ second.text
  pub after : v.met ≡ second.met

pub halves_of : (a b : Part) (met : Met) (v : Written) → (a ⨟ b) met ≡ Some v → Halves a b met v
halves_of a b met v e = by (a met) refl e
  where
    later : (x : Written) → a met ≡ Some x → (o : Option Written) → b x.met ≡ o → behind x.text o ≡ Some v → Halves a b met v
    later x f None g e = cc
    later x f (Some y) g e =
        let same : record { text = x.text ++ y.text; met = y.met } ≡ v = cc in
        record { first = x; second = y; is_first = f; is_second = g; text = ap (λ w. w.text) (sym same); after = ap (λ w. w.met) (sym same) }

    by : (o : Option Written) → a met ≡ o → continued o b ≡ Some v → Halves a b met v
    by None f e = cc
    by (Some x) f e = later x f (b x.met) refl e

-- bytes, and then a part
pub record Fronted (xs : List ℕ) (a : Part) (met : Met) (v : Written) : Type 0 where
  pub back : Written
  pub is : a met ≡ Some back
  pub text : v.text ≡ xs ++ back.text
  pub after : v.met ≡ back.met

pub fronted_of : (xs : List ℕ) (a : Part) (met : Met) (v : Written) → (writes xs ⨟ a) met ≡ Some v → Fronted xs a met v
fronted_of xs a met v e = by (a met) refl e
  where
    by : (o : Option Written) → a met ≡ o → behind xs o ≡ Some v → Fronted xs a met v
    by None f e = cc
    by (Some y) f e =
        let same : record { text = xs ++ y.text; met = y.met } ≡ v = cc in
        record { back = y; is = f; text = ap (λ w. w.text) (sym same); after = ap (λ w. w.met) (sym same) }

cancelled : (xs r s : List ℕ) → xs ++ r ≡ xs ++ s → r ≡ s
cancelled [] r s e = e
cancelled (x ∷ xs) r s e = let t : xs ++ r ≡ xs ++ s = cc in cancelled xs r s t

pub among_pushed : (met : Met) (y x : List ℕ) → is_among (met ++ y ∷ []) x ≡ true → (x ≡ y) ⊎ (is_among met x ≡ true)
among_pushed [] y x m = elim (or_cases (same_name x y) false m) [ inl p ↦ inl (same_is x y p) | inr q ↦ inr q ]
among_pushed (z ∷ met) y x m = by (same_name x z) refl m (among_pushed met y x)
  where
    by : (b : Bool) → same_name x z ≡ b → (b || is_among (met ++ y ∷ []) x) ≡ true
        → (is_among (met ++ y ∷ []) x ≡ true → (x ≡ y) ⊎ (is_among met x ≡ true)) → (x ≡ y) ⊎ ((same_name x z || is_among met x) ≡ true)
    by true f m h = inr (ap (λ q. q || is_among met x) f)
    by false f m h = elim (h m) [ inl p ↦ inl p | inr q ↦ inr (ap (λ q. q || is_among met x) f ∙ q) ]

pub heads_same : (a b : ℕ) (xs ys : List ℕ) → a ∷ xs ≡ b ∷ ys → a ≡ b
heads_same a b xs ys e = cc

pub tails_same : (a b : ℕ) (xs ys : List ℕ) → a ∷ xs ≡ b ∷ ys → xs ≡ ys
tails_same a b xs ys e = cc

module _ (A B : Tags) (R S : ℕ → Type 0) where
  -- what was read: the same tags are met, what is read is alike, and each tag met here has its link
  pub record Reads (like : Met → Type 0) (met after other : Met) : Type 0 where
    pub same : after ≡ other
    pub grows : Grows met after
    pub alike : (M : Met) → Grows after M → like M
    pub links : (M : Met) → Grows after M → (x : List ℕ) → is_among after x ≡ true → (is_among met x ≡ true) ⊎ Link A B R S M x

  pub record Coupled (like : Met → Type 0) (met : Met) (v w : Written) (r s : List ℕ) : Type 0 where
    pub rest : r ≡ s
    pub reads : Reads like met v.met w.met

  abbrev pub Couples : (Met → Type 0) → Part → Part → Type 0
  Couples like a b =
      (met : Met) (v w : Written) (r s : List ℕ) → a met ≡ Some v → b met ≡ Some w → v.text ++ r ≡ w.text ++ s → Coupled like met v w r s

  still : (like : Met → Type 0) (met : Met) → ((M : Met) → Grows met M → like M) → Reads like met met met
  still like met h = record { same = refl; grows = λ x m. m; alike = h; links = λ M s x m. inl m }

  pub moved : (like : Met → Type 0) (met a a' b b' : Met) → a' ≡ a → b' ≡ b → Reads like met a b → Reads like met a' b'
  moved like met a a' b b' e f r = subst (λ v. Reads like met v b') (sym e) (subst (λ v. Reads like met a v) (sym f) r)

  -- one behind the other
  both : (like next : Met → Type 0) (met mid mid' after other : Met) → Reads like met mid mid' → Reads next mid after other
      → Reads (λ M. like M × next M) met after other
  both like next met mid mid' after other a b = record {
    same = b.same;
    grows = grows_on met mid after a.grows b.grows;
    alike = λ M s. (a.alike M (grows_on mid after M b.grows s), b.alike M s);
    links = λ M s x m. by M s x (b.links M s x m);
  }
    where
      by : (M : Met) → Grows after M → (x : List ℕ) → (is_among mid x ≡ true) ⊎ Link A B R S M x → (is_among met x ≡ true) ⊎ Link A B R S M x
      by M s x (inl m) = a.links M (grows_on mid after M b.grows s) x m
      by M s x (inr l) = inr l

  pub read_so : (like next : Met → Type 0) (met after other : Met) → ((M : Met) → Grows after M → like M → next M)
      → Reads like met after other → Reads next met after other
  read_so like next met after other h r = record { same = r.same; grows = r.grows; alike = λ M s. h M s (r.alike M s); links = r.links }

  pub couple_so : (like next : Met → Type 0) (a b : Part) → ((M : Met) → like M → next M) → Couples like a b → Couples next a b
  couple_so like next a b h k met v w r s e f g =
      let z = k met v w r s e f g in
      record { rest = z.rest; reads = read_so like next met v.met w.met (λ M grows l. h M l) z.reads }

  pub couple_as : (like : Met → Type 0) (a a' b b' : Part) → a' ≡ a → b' ≡ b → Couples like a b → Couples like a' b'
  couple_as like a a' b b' e f h = subst (λ p. Couples like p b') (sym e) (subst (λ q. Couples like a q) (sym f) h)

  pub couple_then : (like next : Met → Type 0) (a b c d : Part) → Couples like a b → Couples next c d
      → Couples (λ M. like M × next M) (a ⨟ c) (b ⨟ d)
  couple_then like next a b c d h k met v w r s e f g =
      let x = halves_of a c met v e in
      let y = halves_of b d met w f in
      let texts : x.first.text ++ (x.second.text ++ r) ≡ y.first.text ++ (y.second.text ++ s) =
      sym (append_assoc x.first.text x.second.text r) ∙ ap (λ t. t ++ r) (sym x.text) ∙ g ∙ ap (λ t. t ++ s) y.text ∙ append_assoc y.first.text y.second.text s in
      let z = h met x.first y.first (x.second.text ++ r) (y.second.text ++ s) x.is_first y.is_first texts in
      let q = k x.first.met x.second y.second r s x.is_second (ap d z.reads.same ∙ y.is_second) z.rest in
      record {
        rest = q.rest;
        reads = moved (λ M. like M × next M) met x.second.met v.met y.second.met w.met x.after y.after
            (both like next met x.first.met y.first.met x.second.met y.second.met z.reads q.reads);
      }

  pub couple_writes : (xs : List ℕ) → Couples (λ M. Unit {0}) (writes xs) (writes xs)
  couple_writes xs met v w r s e f g =
      let p : record { text = xs; met = met } ≡ v = cc in
      let q : record { text = xs; met = met } ≡ w = cc in
      record {
        rest = cancelled xs r s (ap (λ t. t.text ++ r) p ∙ g ∙ ap (λ t. t.text ++ s) (sym q));
        reads = moved (λ M. Unit {0}) met met v.met met w.met (ap (λ t. t.met) (sym p)) (ap (λ t. t.met) (sym q)) (still (λ M. Unit {0}) met (λ M grows. tt));
      }

  pub couple_front : (like : Met → Type 0) (xs : List ℕ) (a b : Part) → Couples like a b → Couples like (writes xs ⨟ a) (writes xs ⨟ b)
  couple_front like xs a b h =
      couple_so (λ M. Unit {0} × like M) like (writes xs ⨟ a) (writes xs ⨟ b) (λ M l. l.1)
      (couple_then (λ M. Unit {0}) like (writes xs) (writes xs) a b (couple_writes xs) h)

  -- words that end at the same byte
  pub couple_words : (like : Met → Type 0) (x y : List ℕ) (c : ℕ) (a b : Part) → IsWord x → IsWord y → is_letter_or_digit c ≡ false → Couples like a b
      → Couples (λ M. (x ≡ y) × like M) (writes x ⨟ writes (c ∷ []) ⨟ a) (writes y ⨟ writes (c ∷ []) ⨟ b)
  couple_words like x y c a b p q i h met v w r s e f g =
      let l = fronted_of x (writes (c ∷ []) ⨟ a) met v e in
      let m = fronted_of y (writes (c ∷ []) ⨟ b) met w f in
      let l' = fronted_of (c ∷ []) a met l.back l.is in
      let m' = fronted_of (c ∷ []) b met m.back m.is in
      let left : v.text ++ r ≡ x ++ c ∷ (l'.back.text ++ r) =
      ap (λ t. t ++ r) (l.text ∙ ap (λ t. x ++ t) l'.text) ∙ append_assoc x (c ∷ l'.back.text) r in
      let right : w.text ++ s ≡ y ++ c ∷ (m'.back.text ++ s) =
      ap (λ t. t ++ s) (m.text ∙ ap (λ t. y ++ t) m'.text) ∙ append_assoc y (c ∷ m'.back.text) s in
      let z = split x y c c (l'.back.text ++ r) (m'.back.text ++ s) p q i i (sym left ∙ g ∙ right) in
      let k = h met l'.back m'.back r s l'.is m'.is z.rest in
      record {
        rest = k.rest;
        reads = moved (λ M. (x ≡ y) × like M) met l'.back.met v.met m'.back.met w.met (l.after ∙ l'.after) (m.after ∙ m'.after)
            (read_so like (λ M. (x ≡ y) × like M) met l'.back.met m'.back.met (λ M grows t. (z.word, t)) k.reads);
      }
