-- Where the automatics of framed code are: those in memory, the variables, and the words in use.
use Rattle.std.proofs.Common.{◌≡◌, ◌≤◌, ◌<◌, ◌⊎◌, inl, inr, ℕ, zero, suc, ◌+◌, ◌*◌, ◌^◌, ◌==◌, ◌&&◌, ◌||◌, nat_le, nat_lt, Bool, true, false, if◌then◌else◌, Option, Some, None, List, [], ◌∷◌, length, map, All, slice_get, slice_index, refl, sym, ap, ◌∙◌, subst, arith}
use Rattle.std.specs.Prelude.{unwrap_or}
use Rattle.std.proofs.lemmas.Bool.{true≢false, and_parts, leb-true}
use Rattle.std.proofs.lemmas.Bool.Decides.{nat_tests}
use Rattle.std.proofs.lemmas.List.Elements.{All-nil, All-cons}
use Rattle.std.proofs.lemmas.Nat.{pow_pos}
use Rattle.p9_base.specs.Words.{IsWord}
use Rattle.p9_base.specs.Core.{Core, read_byte, read_half, read_word}
use Rattle.p9_base.specs.Holding.{HoldsWords}
use Rattle.p9_base.proofs.Holding.{read_byte-below, read_half-below, read_word-below}
use Rattle.p9_abs.specs.declared.instructions.Abs.{Abs}
use Rattle.p9_abs.specs.declared.instructions.AFunction.{AFunction}
use Rattle.p9_abs.specs.declared.forms.Location.{Location}
use Rattle.p9_abs.specs.declared.forms.Location.TheVariants.{Static, Argument, Frame, Based, Automatic}
use Rattle.p9_abs.specs.declared.forms.Form.{Form}
use Rattle.p9_abs.specs.declared.forms.Form.TheVariants as forms
use Rattle.p9_abs.specs.Validity.{IsFrame}
use Rattle.p9_abs.specs.Automatics.{form_at, holds_of, calls_in, reached, is_variable}
use Rattle.p9_abs.specs.OneCall.{IsLayout, ArePlaced, UsesWord, names_word, is_stack_word, size_at, in_automatic, in_word_at, in_stack_word, in_word_of, in_words_below}
use Rattle.p9_abs.specs.Keeping.{layout_of, memory_offsets, offset_or_none, in_variable, content}

-- a test by parts
pub either : (p q : Bool) → (p || q) ≡ true → (p ≡ true) ⊎ (q ≡ true)
either true q e = inl refl
either false q e = inr e

some-same : (a b : ℕ) → Some a ≡ Some b → a ≡ b
some-same a b e = cc

-- OFFSETS

module _ (f : AFunction) where
  pub offsets-length : (i : ℕ) (ps : List ℕ) → length (memory_offsets f i ps) ≡ length ps
  offsets-length i [] = refl
  offsets-length i (p ∷ ps) = ap suc (offsets-length (i + 1) ps)

  choice-some : (b : Bool) (p q : ℕ) → Some (offset_or_none b p) ≡ Some (Some q) → (p ≡ q) × (b ≡ false)
  choice-some true p q e = absurd (let z : None ≡ Some q = cc in cc)
  choice-some false p q e = (cc, refl)

  choice-none : (b : Bool) (p : ℕ) → Some (offset_or_none b p) ≡ Some None → b ≡ true
  choice-none true p e = refl
  choice-none false p e = absurd (let z : Some p ≡ None = cc in cc)

  -- an automatic in memory
  pub in-memory : (i : ℕ) (ps : List ℕ) (k q : ℕ) → slice_get (memory_offsets f i ps) k ≡ Some (Some q) → (slice_get ps k ≡ Some q) × (is_variable f (i + k) ≡ false)
  in-memory i [] k q e = absurd (let z : None ≡ Some (Some q) = e in cc)
  in-memory i (p ∷ ps) zero q e =
      let c = choice-some (is_variable f i) p q e in let n : i + 0 ≡ i = omega arith in
      (ap Some c.0, ap (is_variable f) n ∙ c.1)
  in-memory i (p ∷ ps) (suc k) q e =
      let r = in-memory (i + 1) ps k q e in let n : i + suc k ≡ i + 1 + k = omega arith in
      (r.0, ap (is_variable f) n ∙ r.1)

  -- a variable
  pub outside : (i : ℕ) (ps : List ℕ) (k : ℕ) → slice_get (memory_offsets f i ps) k ≡ Some None → is_variable f (i + k) ≡ true
  outside i [] k e = absurd (let z : None ≡ Some None = e in cc)
  outside i (p ∷ ps) zero e = let n : i + 0 ≡ i = omega arith in ap (is_variable f) n ∙ choice-none (is_variable f i) p e
  outside i (p ∷ ps) (suc k) e = let n : i + suc k ≡ i + 1 + k = omega arith in ap (is_variable f) n ∙ outside (i + 1) ps k e

  pub variable-outside : (i : ℕ) (ps : List ℕ) (k : ℕ) → k < length ps → is_variable f (i + k) ≡ true → slice_get (memory_offsets f i ps) k ≡ Some None
  variable-outside i [] k l e = absurd (omega (arith, l))
  variable-outside i (p ∷ ps) zero l e = let n : i + 0 ≡ i = omega arith in ap (λ b. Some (offset_or_none b p)) (ap (is_variable f) (sym n) ∙ e)
  variable-outside i (p ∷ ps) (suc k) l e = let n : i + suc k ≡ i + 1 + k = omega arith in variable-outside (i + 1) ps k (omega (arith, l)) (ap (is_variable f) (sym n) ∙ e)

  pub mapped : (ps : List ℕ) (k q : ℕ) → slice_get ps k ≡ Some q → slice_get (map Some ps) k ≡ Some (Some q)
  mapped [] k q e = absurd (let z : None ≡ Some q = e in cc)
  mapped (p ∷ ps) zero q e = ap (λ n. Some (Some n)) (some-same p q e)
  mapped (p ∷ ps) (suc k) q e = mapped ps k q e

  -- byte b is at the offset of a variable
  pub record AtVariable (i : ℕ) (ps : List ℕ) (b : ℕ) : Type 0 where
    pub k : ℕ
    pub q : ℕ
    pub is : slice_get ps k ≡ Some q
    pub variable : is_variable f (i + k) ≡ true
    pub low : q ≤ b
    pub high : b < q + size_at f (i + k)

  within : (q size b : ℕ) → (nat_le q b && nat_lt b (q + size)) ≡ true → (q ≤ b) × (b < q + size)
  within q size b e =
      let p = and_parts (nat_le q b) (nat_lt b (q + size)) e in let p1 = p.1 in
      (leb-true q b p.0, grind (arith, nat_tests))

  pub variable-at : (i : ℕ) (ps : List ℕ) (b : ℕ) → in_variable f i ps b ≡ true → AtVariable i ps b
  variable-at i [] b e = absurd (true≢false (sym e))
  variable-at i (p ∷ ps) b e = by (variable-at (i + 1) ps b) (either (is_variable f i && (nat_le p b && nat_lt b (p + size_at f i))) (in_variable f (i + 1) ps b) e)
    where
      by : (in_variable f (i + 1) ps b ≡ true → AtVariable (i + 1) ps b) → ((is_variable f i && (nat_le p b && nat_lt b (p + size_at f i))) ≡ true) ⊎ (in_variable f (i + 1) ps b ≡ true) → AtVariable i (p ∷ ps) b
      by later (inl h) =
          let a = and_parts (is_variable f i) (nat_le p b && nat_lt b (p + size_at f i)) h in let w = within p (size_at f i) b a.1 in let n : i ≡ i + 0 = omega arith in
          record { k = 0; q = p; is = refl; variable = ap (is_variable f) (sym n) ∙ a.0; low = w.0; high = subst (λ m. b < p + size_at f m) n w.1 }
      by later (inr h) =
          let r = later h in let n : i + 1 + r.k ≡ i + suc r.k = omega arith in
          record { k = suc r.k; q = r.q; is = r.is; variable = ap (is_variable f) (sym n) ∙ r.variable; low = r.low; high = subst (λ m. b < r.q + size_at f m) n r.high }

-- byte b is in an automatic in memory
pub record AtAutomatic (ps : List (Option ℕ)) (sizes : List ℕ) (b : ℕ) : Type 0 where
  pub k : ℕ
  pub q : ℕ
  pub is : slice_get ps k ≡ Some (Some q)
  pub low : q ≤ b
  pub high : b < q + slice_index sizes k

pub automatic-at : (ps : List (Option ℕ)) (sizes : List ℕ) (b : ℕ) → in_automatic ps sizes b ≡ true → AtAutomatic ps sizes b
automatic-at [] sizes b e = absurd (true≢false (sym e))
automatic-at (p ∷ ps) [] b e = absurd (true≢false (sym e))
automatic-at (None ∷ ps) (size ∷ sizes) b e = let r = automatic-at ps sizes b e in record { k = suc r.k; q = r.q; is = r.is; low = r.low; high = r.high }
automatic-at (Some p ∷ ps) (size ∷ sizes) b e = by (automatic-at ps sizes b) (either (nat_le p b && nat_lt b (p + size)) (in_automatic ps sizes b) e)
  where
    by : (in_automatic ps sizes b ≡ true → AtAutomatic ps sizes b) → ((nat_le p b && nat_lt b (p + size)) ≡ true) ⊎ (in_automatic ps sizes b ≡ true) → AtAutomatic (Some p ∷ ps) (size ∷ sizes) b
    by later (inl h) =
        let a = and_parts (nat_le p b) (nat_lt b (p + size)) h in let a1 = a.1 in
        record { k = 0; q = p; is = refl; low = leb-true p b a.0; high = grind (arith, nat_tests) }
    by later (inr h) = let r = later h in record { k = suc r.k; q = r.q; is = r.is; low = r.low; high = r.high }

-- WORDS IN USE

-- byte b is in a word that a reached instruction uses
pub record AtWord (code : List Abs) (b : ℕ) : Type 0 where
  pub i : ℕ
  pub o : ℕ
  pub reached_is : reached code i ≡ true
  pub uses : UsesWord code i o
  pub low : o ≤ b
  pub high : b < o + 4

record InWord (o b : ℕ) : Type 0 where
  pub low : o ≤ b
  pub high : b < o + 4

word-parts : (o b : ℕ) → in_word_at o b ≡ true → InWord o b
word-parts o b e =
    let a = and_parts (nat_le o b) (nat_lt b (o + 4)) e in let a1 = a.1 in
    record { low = leb-true o b a.0; high = grind (arith, nat_tests) }

equal-self : (n : ℕ) → (n == n) ≡ true
equal-self n = grind (arith, nat_tests)

record StackWord (from : Location) (b : ℕ) : Type 0 where
  pub o : ℕ
  pub names : is_stack_word o from ≡ true
  pub inside : InWord o b

stack-word : (from : Location) (b : ℕ) → in_stack_word b from ≡ true → StackWord from b
stack-word (Based r o) b e =
    let a = and_parts (r == 29) (in_word_at o b) e in
    record { o = o; names = (λ t. a.0 t && equal-self o t); inside = word-parts o b a.1 }
stack-word (Static s o) b e = absurd (true≢false (sym e))
stack-word (Argument o) b e = absurd (true≢false (sym e))
stack-word (Frame o) b e = absurd (true≢false (sym e))
stack-word (Automatic v o) b e = absurd (true≢false (sym e))

word-of-form : (code : List Abs) (i b : ℕ) → reached code i ≡ true → (form : Form) → form_at code i ≡ Some form → in_word_of b form ≡ true → AtWord code b
word-of-form code i b r (forms.Load w from to) e h =
    let s = stack-word from b h in
    record { i = i; o = s.o; reached_is = r; uses = inr (ap (holds_of (names_word s.o)) e ∙ s.names); low = s.inside.low; high = s.inside.high }
word-of-form code i b r (forms.Store w from to) e h =
    let s = stack-word to b h in
    record { i = i; o = s.o; reached_is = r; uses = inr (ap (holds_of (names_word s.o)) e ∙ s.names); low = s.inside.low; high = s.inside.high }
word-of-form code i b r (forms.Call s) e h =
    let w = word-parts 4 b h in record { i = i; o = 4; reached_is = r; uses = inl (ap (holds_of calls_in) e, refl); low = w.low; high = w.high }
word-of-form code i b r (forms.CallRegister a) e h =
    let w = word-parts 4 b h in record { i = i; o = 4; reached_is = r; uses = inl (ap (holds_of calls_in) e, refl); low = w.low; high = w.high }
word-of-form code i b r _ e h = absurd (true≢false (sym h))

pub word-at : (code : List Abs) (b m : ℕ) → in_words_below code b m ≡ true → AtWord code b
word-at code b zero e = absurd (true≢false (sym e))
word-at code b (suc m) e = by (word-at code b m) (either (reached code m && holds_of (in_word_of b) (form_at code m)) (in_words_below code b m) e)
  where
    formed : (o : Option Form) → form_at code m ≡ o → reached code m ≡ true → holds_of (in_word_of b) o ≡ true → AtWord code b
    formed None f r h = absurd (true≢false (sym h))
    formed (Some form) f r h = word-of-form code m b r form f h

    by : (in_words_below code b m ≡ true → AtWord code b) → ((reached code m && holds_of (in_word_of b) (form_at code m)) ≡ true) ⊎ (in_words_below code b m ≡ true) → AtWord code b
    by later (inl h) = let a = and_parts (reached code m) (holds_of (in_word_of b) (form_at code m)) h in formed (form_at code m) refl a.0 a.1
    by later (inr h) = later h

-- THE LAYOUT in which framed code has these offsets

pub layout-is : (f : AFunction) (frame : ℕ) (ps : List ℕ) → IsFrame frame → ArePlaced f frame (map Some ps) → IsLayout f (layout_of f frame ps)
layout-is f frame ps frame_is placed = record {
  frame = frame_is;
  placed = record {
    count = offsets-length f 0 ps ∙ (sym (map-length ps) ∙ placed.count);
    fourfold = λ v p e. placed.fourfold v p (up v p e);
    within = λ v p e. placed.within v p (up v p e);
    disjoint = λ v w p q l e d. placed.disjoint v w p q l (up v p e) (up w q d);
    words = placed.words;
    apart = λ i o v p r u e. placed.apart i o v p r u (up v p e);
  };
  variables = λ v l. (
    (λ e. let n : 0 + v ≡ v = omega arith in ap (is_variable f) (sym n) ∙ outside f 0 ps v e),
    (λ e. let n : 0 + v ≡ v = omega arith in variable-outside f 0 ps v (let c = placed.count in let m = map-length ps in omega (arith, l, c, m)) (ap (is_variable f) n ∙ e)),
  );
}
  where
    map-length : (ps : List ℕ) → length (map Some ps) ≡ length ps
    map-length [] = refl
    map-length (p ∷ ps) = ap suc (map-length ps)

    up : (v p : ℕ) → slice_get (memory_offsets f 0 ps) v ≡ Some (Some p) → slice_get (map Some ps) v ≡ Some (Some p)
    up v p e = mapped f ps v p (in-memory f 0 ps v p e).0

-- CONTENTS of all automatics, as words

abbrev pub contents : AFunction → Core → (sp i : ℕ) → List ℕ → List ℕ
contents f c sp i [] = []
contents f c sp i (p ∷ ps) = unwrap_or (content c (sp + p) (size_at f i)) 0 ∷ contents f c sp (i + 1) ps

module _ (f : AFunction) (c : Core) (sp : ℕ) (words : HoldsWords c) where
  pub contents-length : (i : ℕ) (ps : List ℕ) → length (contents f c sp i ps) ≡ length ps
  contents-length i [] = refl
  contents-length i (p ∷ ps) = ap suc (contents-length (i + 1) ps)

  pub contents-hold : (i : ℕ) (ps : List ℕ) (k q value : ℕ) → slice_get ps k ≡ Some q → content c (sp + q) (size_at f (i + k)) ≡ Some value → slice_get (contents f c sp i ps) k ≡ Some value
  contents-hold i [] k q value e h = absurd (let z : None ≡ Some q = e in cc)
  contents-hold i (p ∷ ps) zero q value e h =
      let n : i ≡ i + 0 = omega arith in
      ap (λ o. Some (unwrap_or o 0)) (ap (λ m. content c (sp + p) (size_at f m)) n ∙ (ap (λ m. content c (sp + m) (size_at f (i + 0))) (some-same p q e) ∙ h))
  contents-hold i (p ∷ ps) (suc k) q value e h =
      let n : i + 1 + k ≡ i + suc k = omega arith in
      contents-hold (i + 1) ps k q value e (ap (λ m. content c (sp + q) (size_at f m)) n ∙ h)

  -- a content is as large as its automatic
  content-low : (a size : ℕ) → unwrap_or (content c a size) 0 < 2 ^ (8 * size)
  content-low a size = by (size == 1) refl (size == 2) refl (size == 4) refl
    where
      by : (x : Bool) → (size == 1) ≡ x → (y : Bool) → (size == 2) ≡ y → (z : Bool) → (size == 4) ≡ z
          → unwrap_or (if x then Some (read_byte c a) else (if y then Some (read_half c a) else (if z then Some (read_word c a) else None))) 0 < 2 ^ (8 * size)
      by true e y g z h = let n : 1 ≡ size = grind (arith, nat_tests) in subst (λ m. read_byte c a < 2 ^ (8 * m)) n (read_byte-below c a words)
      by false e true g z h = let n : 2 ≡ size = grind (arith, nat_tests) in subst (λ m. read_half c a < 2 ^ (8 * m)) n (read_half-below c a words)
      by false e false g true h = let n : 4 ≡ size = grind (arith, nat_tests) in subst (λ m. read_word c a < 2 ^ (8 * m)) n (read_word-below c a words)
      by false e false g false h = pow_pos (8 * size)

  content-word : (a size : ℕ) → IsWord (unwrap_or (content c a size) 0)
  content-word a size = by (size == 1) (size == 2) (size == 4)
    where
      by : (x y z : Bool) → IsWord (unwrap_or (if x then Some (read_byte c a) else (if y then Some (read_half c a) else (if z then Some (read_word c a) else None))) 0)
      by true y z = let l = read_byte-below c a words in omega (arith, l)
      by false true z = let l = read_half-below c a words in omega (arith, l)
      by false false true = read_word-below c a words
      by false false false = omega arith

  pub contents-words : (i : ℕ) (ps : List ℕ) → All IsWord (contents f c sp i ps)
  contents-words i [] = All-nil IsWord
  contents-words i (p ∷ ps) = All-cons IsWord _ (contents f c sp (i + 1) ps) (content-word (sp + p) (size_at f i)) (contents-words (i + 1) ps)

  pub contents-low : (i : ℕ) (ps : List ℕ) (k value : ℕ) → slice_get (contents f c sp i ps) k ≡ Some value → value < 2 ^ (8 * size_at f (i + k))
  contents-low i [] k value e = absurd (let z : None ≡ Some value = e in cc)
  contents-low i (p ∷ ps) zero value e =
      let n : i ≡ i + 0 = omega arith in
      subst (λ m. value < 2 ^ (8 * size_at f m)) n (subst (λ m. m < 2 ^ (8 * size_at f i)) (some-same _ value e) (content-low (sp + p) (size_at f i)))
  contents-low i (p ∷ ps) (suc k) value e =
      let n : i + 1 + k ≡ i + suc k = omega arith in
      subst (λ m. value < 2 ^ (8 * size_at f m)) n (contents-low (i + 1) ps k value e)
