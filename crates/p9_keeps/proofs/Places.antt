-- Where automatics stand: the places of variables are in the frame, apart from each other and from all
-- that the code given may touch.
use Rattle.std.proofs.Common.{ℕ, zero, suc, ◌+◌, ◌-◌, ◌%◌, ◌==◌, ◌&&◌, ◌||◌, ◌≡◌, ◌≢◌, ◌⊎◌, inl, inr, ◌≤◌, ◌<◌, nat_le, nat_lt, Bool, true, false, not, Option, Some, None, refl, sym, ap, ◌∙◌, subst, arith, if◌then◌else◌, List, [], ◌∷◌, map, length, slice_get, slice_index}
use Rattle.std.proofs.lemmas.Bool.{false≢true, true≢false, and_parts, and_from, or_cases, or_from, or_parts, or_right, leb-true, le-leb, ltb-true, lt-ltb, eq-eqb, false_from_ne_true, cases_order}
use Rattle.std.proofs.lemmas.Option.{none-some, same_Some, slice_get_within, slice_get-get_or}
use Rattle.std.proofs.lemmas.List.{length-map}
use Rattle.p9_base.specs.Core.{Core, text_start}
use Rattle.p9_base.specs.Holding.{LaidOut}
use Rattle.p9_abs.specs.declared.instructions.Abs.{Abs}
use Rattle.p9_abs.specs.declared.instructions.AFunction.{AFunction}
use Rattle.p9_abs.specs.declared.forms.Location.{Location}
use Rattle.p9_abs.specs.declared.forms.Location.TheVariants.{Static, Argument, Frame, Based, Automatic}
use Rattle.p9_abs.specs.declared.forms.Form.{Form}
use Rattle.p9_abs.specs.declared.forms.Form.TheVariants as forms
use Rattle.p9_abs.specs.Automatics.{form_at, holds_of, calls_in, reached, is_variable}
use Rattle.p9_abs.specs.Steps.{is_free}
use Rattle.p9_abs.specs.Runs.{keeps_return, keeps, in_word}
use Rattle.p9_abs.specs.OneCall.{ArePlaced, AreDisjoint, UsesWord, names_word, is_stack_word, size_at, in_automatic, in_word_at, in_stack_word, in_word_of, in_words_below, in_words, in_gap}
use Rattle.p9_abs.specs.Keeping.{memory_offsets, offset_or_none, in_variable}
use Rattle.p9_keeps.proofs.Cores.{IsInStack}
use Rattle.p9_keeps.proofs.Living.{variable-size}
use Rattle.p9_keeps.proofs.Scenes.{Scene, layout, given, made, apart, place, given-keeps, made-keeps}

-- Offsets

pub memory-get : (f : AFunction) (i : ℕ) (ps : List ℕ) (k p : ℕ) → slice_get ps k ≡ Some p → slice_get (memory_offsets f i ps) k ≡ Some (offset_or_none (is_variable f (i + k)) p)
memory-get f i [] k p e = absurd (none-some p e)
memory-get f i (q ∷ ps) zero p e = let n : i ≡ i + 0 = omega arith in (λ t. Some (offset_or_none (is_variable f (n t)) (same_Some q p e t)))
memory-get f i (q ∷ ps) (suc k) p e = let n : i + 1 + k ≡ i + suc k = omega arith in memory-get f (i + 1) ps k p e ∙ ap (λ z. Some (offset_or_none (is_variable f z) p)) n

pub memory-past : (f : AFunction) (i : ℕ) (ps : List ℕ) (k : ℕ) → slice_get ps k ≡ None → slice_get (memory_offsets f i ps) k ≡ None
memory-past f i [] k e = refl
memory-past f i (q ∷ ps) zero e = absurd (none-some q (sym e))
memory-past f i (q ∷ ps) (suc k) e = memory-past f (i + 1) ps k e

pub mapped : (ps : List ℕ) (k q : ℕ) → slice_get ps k ≡ Some q → slice_get (map (λ x. Some x) ps) k ≡ Some (Some q)
mapped [] k q e = absurd (none-some q e)
mapped (p ∷ ps) zero q e = ap (λ n. Some (Some n)) (same_Some p q e)
mapped (p ∷ ps) (suc k) q e = mapped ps k q e

-- an automatic in memory has its offset, and is no variable
record InMemory (f : AFunction) (ps : List ℕ) (k q : ℕ) : Type 0 where
  is : slice_get ps k ≡ Some q
  in_memory : is_variable f k ≡ false

memory-some : (f : AFunction) (ps : List ℕ) (k q : ℕ) → slice_get (memory_offsets f 0 ps) k ≡ Some (Some q) → InMemory f ps k q
memory-some f ps k q e = by (slice_get ps k) refl
  where
    choice : (b : Bool) (p : ℕ) → Some (offset_or_none b p) ≡ Some (Some q) → (p ≡ q) × (b ≡ false)
    choice true p d = absurd (let z : None ≡ Some q = cc in cc)
    choice false p d = (cc, refl)

    by : (o : Option ℕ) → slice_get ps k ≡ o → InMemory f ps k q
    by None d = absurd (none-some (Some q) (sym (memory-past f 0 ps k d) ∙ e))
    by (Some p) d =
        let n : 0 + k ≡ k = omega arith in
        let c = choice (is_variable f (0 + k)) p (sym (memory-get f 0 ps k p d) ∙ e) in
        record { is = d ∙ ap (λ z. Some z) c.0; in_memory = ap (is_variable f) (sym n) ∙ c.1 }

-- Bytes of places

-- a byte is at the offset of a variable
record AtVariable (f : AFunction) (i : ℕ) (ps : List ℕ) (b : ℕ) : Type 0 where
  k : ℕ
  q : ℕ
  is : slice_get ps k ≡ Some q
  variable : is_variable f (i + k) ≡ true
  low : q ≤ b
  high : b < q + size_at f (i + k)

range : (q size b : ℕ) → (nat_le q b && nat_lt b (q + size)) ≡ true → (q ≤ b) × (b < q + size)
range q size b e = let p = and_parts (nat_le q b) (nat_lt b (q + size)) e in (leb-true q b p.0, ltb-true b (q + size) p.1)

variable-at : (f : AFunction) (i : ℕ) (ps : List ℕ) (b : ℕ) → in_variable f i ps b ≡ true → AtVariable f i ps b
variable-at f i [] b e = absurd (false≢true e)
variable-at f i (p ∷ ps) b e = by (variable-at f (i + 1) ps b) (or_cases (is_variable f i && (nat_le p b && nat_lt b (p + size_at f i))) (in_variable f (i + 1) ps b) e)
  where
    by : (in_variable f (i + 1) ps b ≡ true → AtVariable f (i + 1) ps b) → ((is_variable f i && (nat_le p b && nat_lt b (p + size_at f i))) ≡ true) ⊎ (in_variable f (i + 1) ps b ≡ true) → AtVariable f i (p ∷ ps) b
    by later (inl h) =
        let a = and_parts (is_variable f i) (nat_le p b && nat_lt b (p + size_at f i)) h in let w = range p (size_at f i) b a.1 in let n : i ≡ i + 0 = omega arith in
        record { k = 0; q = p; is = refl; variable = ap (is_variable f) (sym n) ∙ a.0; low = w.0; high = subst (λ m. b < p + size_at f m) n w.1 }
    by later (inr h) =
        let r = later h in let n : i + 1 + r.k ≡ i + suc r.k = omega arith in
        record { k = suc r.k; q = r.q; is = r.is; variable = ap (is_variable f) (sym n) ∙ r.variable; low = r.low; high = subst (λ m. b < r.q + size_at f m) n r.high }

at-variable : (f : AFunction) (i : ℕ) (ps : List ℕ) (b k q : ℕ) → slice_get ps k ≡ Some q → is_variable f (i + k) ≡ true → q ≤ b → b < q + size_at f (i + k) → in_variable f i ps b ≡ true
at-variable f i [] b k q e v l h = absurd (none-some q e)
at-variable f i (p ∷ ps) b zero q e v l h =
    let n : i + 0 ≡ i = omega arith in let same = same_Some p q e in
    let high : b < p + size_at f i = subst (λ m. b < p + size_at f m) n (subst (λ m. b < m + size_at f (i + 0)) (sym same) h) in
    ap (λ t. t || in_variable f (i + 1) ps b)
    (and_from (is_variable f i) (nat_le p b && nat_lt b (p + size_at f i)) (ap (is_variable f) (sym n) ∙ v)
    (and_from (nat_le p b) (nat_lt b (p + size_at f i)) (le-leb p b (omega (arith, same, l))) (lt-ltb b (p + size_at f i) high)))
at-variable f i (p ∷ ps) b (suc k) q e v l h =
    let n : i + suc k ≡ i + 1 + k = omega arith in
    or_right (is_variable f i && (nat_le p b && nat_lt b (p + size_at f i))) (in_variable f (i + 1) ps b)
    (at-variable f (i + 1) ps b k q e (ap (is_variable f) (sym n) ∙ v) l (subst (λ m. b < q + size_at f m) n h))

-- a byte is in an automatic in memory
record AtAutomatic (ps : List (Option ℕ)) (sizes : List ℕ) (b : ℕ) : Type 0 where
  k : ℕ
  q : ℕ
  is : slice_get ps k ≡ Some (Some q)
  low : q ≤ b
  high : b < q + slice_index sizes k

automatic-at : (ps : List (Option ℕ)) (sizes : List ℕ) (b : ℕ) → in_automatic ps sizes b ≡ true → AtAutomatic ps sizes b
automatic-at [] sizes b e = absurd (false≢true e)
automatic-at (p ∷ ps) [] b e = absurd (false≢true e)
automatic-at (None ∷ ps) (size ∷ sizes) b e = let r = automatic-at ps sizes b e in record { k = suc r.k; q = r.q; is = r.is; low = r.low; high = r.high }
automatic-at (Some p ∷ ps) (size ∷ sizes) b e = by (automatic-at ps sizes b) (or_cases (nat_le p b && nat_lt b (p + size)) (in_automatic ps sizes b) e)
  where
    by : (in_automatic ps sizes b ≡ true → AtAutomatic ps sizes b) → ((nat_le p b && nat_lt b (p + size)) ≡ true) ⊎ (in_automatic ps sizes b ≡ true) → AtAutomatic (Some p ∷ ps) (size ∷ sizes) b
    by later (inl h) = let w = range p size b h in record { k = 0; q = p; is = refl; low = w.0; high = w.1 }
    by later (inr h) = let r = later h in record { k = suc r.k; q = r.q; is = r.is; low = r.low; high = r.high }

-- a byte is in a word that a reached instruction uses
record AtWord (code : List Abs) (b : ℕ) : Type 0 where
  i : ℕ
  o : ℕ
  reached_is : reached code i ≡ true
  uses : UsesWord code i o
  low : o ≤ b
  high : b < o + 4

record StackWord (from : Location) (b : ℕ) : Type 0 where
  o : ℕ
  names : is_stack_word o from ≡ true
  inside : (o ≤ b) × (b < o + 4)

stack-word : (from : Location) (b : ℕ) → in_stack_word b from ≡ true → StackWord from b
stack-word (Based r o) b e =
    let a = and_parts (r == 29) (in_word_at o b) e in
    record { o = o; names = and_from (r == 29) (o == o) a.0 (eq-eqb o o refl); inside = range o 4 b a.1 }
stack-word (Static k o) b e = absurd (false≢true e)
stack-word (Argument o) b e = absurd (false≢true e)
stack-word (Frame o) b e = absurd (false≢true e)
stack-word (Automatic v o) b e = absurd (false≢true e)

word-of-form : (code : List Abs) (i b : ℕ) → reached code i ≡ true → (form : Form) → form_at code i ≡ Some form → in_word_of b form ≡ true → AtWord code b
word-of-form code i b r (forms.Load w from to) e h =
    let s = stack-word from b h in record { i = i; o = s.o; reached_is = r; uses = inr (ap (holds_of (names_word s.o)) e ∙ s.names); low = s.inside.0; high = s.inside.1 }
word-of-form code i b r (forms.Store w from to) e h =
    let s = stack-word to b h in record { i = i; o = s.o; reached_is = r; uses = inr (ap (holds_of (names_word s.o)) e ∙ s.names); low = s.inside.0; high = s.inside.1 }
word-of-form code i b r (forms.Call s) e h = let w = range 4 4 b h in record { i = i; o = 4; reached_is = r; uses = inl (ap (holds_of calls_in) e, refl); low = w.0; high = w.1 }
word-of-form code i b r (forms.CallRegister a) e h = let w = range 4 4 b h in record { i = i; o = 4; reached_is = r; uses = inl (ap (holds_of calls_in) e, refl); low = w.0; high = w.1 }
word-of-form code i b r _ e h = absurd (false≢true h)

word-at : (code : List Abs) (b m : ℕ) → in_words_below code b m ≡ true → AtWord code b
word-at code b zero e = absurd (false≢true e)
word-at code b (suc m) e = by (word-at code b m) (or_cases (reached code m && holds_of (in_word_of b) (form_at code m)) (in_words_below code b m) e)
  where
    formed : (o : Option Form) → form_at code m ≡ o → reached code m ≡ true → holds_of (in_word_of b) o ≡ true → AtWord code b
    formed None f r h = absurd (false≢true h)
    formed (Some form) f r h = word-of-form code m b r form f h

    by : (in_words_below code b m ≡ true → AtWord code b) → ((reached code m && holds_of (in_word_of b) (form_at code m)) ≡ true) ⊎ (in_words_below code b m ≡ true) → AtWord code b
    by later (inl h) = let a = and_parts (reached code m) (holds_of (in_word_of b) (form_at code m)) h in formed (form_at code m) refl a.0 a.1
    by later (inr h) = later h

free-by : (banned : ℕ → Bool) (n a : ℕ) → ((k : ℕ) → k < n → banned (a + k) ≡ false) → is_free banned a n ≡ true
free-by banned zero a h = refl
free-by banned (suc n) a h =
    let z : a + 0 ≡ a = omega arith in
    ap (λ t. if t then false else is_free banned (a + 1) n) (ap banned (sym z) ∙ h 0 (omega arith))
    ∙ free-by banned n (a + 1) (λ k l. (let e : a + 1 + k ≡ a + suc k = omega arith in ap banned e ∙ h (suc k) (omega (arith, l))))

pub free-at : (banned : ℕ → Bool) (n a k : ℕ) → is_free banned a n ≡ true → k < n → banned (a + k) ≡ false
free-at banned zero a k h l = absurd (omega (arith, l))
free-at banned (suc n) a k h l = by (banned a) refl h k l (free-at banned n (a + 1))
  where
    by : (t : Bool) → banned a ≡ t → (if t then false else is_free banned (a + 1) n) ≡ true → (k : ℕ) → k < suc n → ((j : ℕ) → is_free banned (a + 1) n ≡ true → j < n → banned (a + 1 + j) ≡ false) → banned (a + k) ≡ false
    by true e g k m rest = absurd (false≢true g)
    by false e g zero m rest = let z : a + 0 ≡ a = omega arith in ap banned z ∙ e
    by false e g (suc j) m rest = let z : a + suc j ≡ a + 1 + j = omega arith in ap banned z ∙ rest j g (omega (arith, m))

-- In a scene

module _ (s : Scene) where
  placed : ArePlaced s.f s.def.frame (map (λ x. Some x) s.p.offsets)
  placed = s.framed.placed

  count : length s.p.offsets ≡ length s.f.autos
  count = sym (length-map s.p.offsets (λ x. Some x)) ∙ placed.count

  within-autos : (v : ℕ) → is_variable s.f v ≡ true → v < length s.f.autos
  within-autos v h = slice_get_within s.f.autos v (size_at s.f v) (variable-size s.f v h)

  pub offset-get : (v : ℕ) → v < length s.f.autos → slice_get s.p.offsets v ≡ Some (slice_index s.p.offsets v)
  offset-get v l = let c = count in slice_get-get_or s.p.offsets v 0 (omega (arith, c, l))

  offset-of : (v : ℕ) → is_variable s.f v ≡ true → slice_get (map (λ x. Some x) s.p.offsets) v ≡ Some (Some (slice_index s.p.offsets v))
  offset-of v h = mapped s.p.offsets v (slice_index s.p.offsets v) (offset-get v (within-autos v h))

  -- a variable's place is in the frame
  pub record HasPlace (v : ℕ) : Type 0 where
    pub fourfold : (s.sp + slice_index s.p.offsets v) % 4 ≡ 0
    pub above : s.sp + 4 ≤ s.sp + slice_index s.p.offsets v
    pub below : s.sp + slice_index s.p.offsets v + size_at s.f v ≤ s.sp + s.def.frame + 4

  pub has-place : (v : ℕ) → is_variable s.f v ≡ true → HasPlace v
  has-place v h =
      let w = placed.within v (slice_index s.p.offsets v) (offset-of v h) in
      let q = placed.fourfold v (slice_index s.p.offsets v) (offset-of v h) in
      let w0 = w.0 in let w1 = w.1 in let d = s.fourfold in
      record { fourfold = omega (arith, q, d); above = omega (arith, w0); below = omega (arith, w1) }

  pub place-apart : (v k : ℕ) → is_variable s.f v ≡ true → k < size_at s.f v → apart s (place s v + k) ≡ true
  place-apart v k h l =
      let z : place s v + k - s.sp ≡ slice_index s.p.offsets v + k = omega arith in let n : v ≡ 0 + v = omega arith in
      and_from (nat_le s.sp (place s v + k)) _ (le-leb s.sp (place s v + k) (omega arith))
      (ap (in_variable s.f 0 s.p.offsets) z
      ∙ at-variable s.f 0 s.p.offsets (slice_index s.p.offsets v + k) v (slice_index s.p.offsets v) (offset-get v (within-autos v h)) (ap (is_variable s.f) (sym n) ∙ h)
      (omega arith) (subst (λ m. slice_index s.p.offsets v + k < slice_index s.p.offsets v + size_at s.f m) n (omega (arith, l))))

  pub place-stack : (v : ℕ) (c : Core) → is_variable s.f v ≡ true → LaidOut c → c.text_end ≡ text_start → IsInStack c (place s v) (size_at s.f v)
  place-stack v c h laid bare =
      let w = has-place v h in let a = w.above in let b = w.below in let l = s.low in let u = s.high in
      record { low = omega (arith, a, l); high = omega (arith, b, u); laid = laid; bare = bare }

  -- the moves may touch it
  pub place-free : (v : ℕ) → is_variable s.f v ≡ true → is_free (made s).banned (place s v) (size_at s.f v) ≡ true
  place-free v h = free-by (made s).banned (size_at s.f v) (place s v) free
    where
      free : (k : ℕ) → k < size_at s.f v → (s.others (place s v + k) || (keeps s.def && in_word (place s v + k) (Some s.sp))) ≡ false
      free k l =
          let w = has-place v h in let a = w.above in let b = w.below in
          let z : place s v + k ≡ s.sp + (slice_index s.p.offsets v + k) = omega arith in
          or_from (s.others (place s v + k)) (keeps s.def && in_word (place s v + k) (Some s.sp))
          (ap s.others z ∙ s.clear (slice_index s.p.offsets v + k) (omega (arith, b, l)))
          (false_from_ne_true (keeps s.def && in_word (place s v + k) (Some s.sp)) (λ t.
          let q = and_parts (keeps s.def) (in_word (place s v + k) (Some s.sp)) t in
          let r = ltb-true (place s v + k) (s.sp + 4) (and_parts (nat_le s.sp (place s v + k)) (nat_lt (place s v + k) (s.sp + 4)) q.1).1 in
          omega (arith, r, a)))

  -- two variables' places are apart
  pub places-apart : (v w : ℕ) → v ≢ w → is_variable s.f v ≡ true → is_variable s.f w ≡ true → (place s v + size_at s.f v ≤ place s w) ⊎ (place s w + size_at s.f w ≤ place s v)
  places-apart v w ne hv hw = by (cases_order v w)
    where
      up : (a n b m sp : ℕ) → AreDisjoint a n b m → (sp + a + n ≤ sp + b) ⊎ (sp + b + m ≤ sp + a)
      up a n b m sp (inl l) = inl (omega (arith, l))
      up a n b m sp (inr l) = inr (omega (arith, l))

      turn : (a b : Type 0) → a ⊎ b → b ⊎ a
      turn a b (inl x) = inr x
      turn a b (inr x) = inl x

      by : (v ≡ w) ⊎ ((v < w) ⊎ (w < v)) → (place s v + size_at s.f v ≤ place s w) ⊎ (place s w + size_at s.f w ≤ place s v)
      by (inl e) = absurd (ne e)
      by (inr (inl l)) = up _ _ _ _ s.sp (placed.disjoint v w _ _ l (offset-of v hv) (offset-of w hw))
      by (inr (inr l)) = turn _ _ (up _ _ _ _ s.sp (placed.disjoint w v _ _ l (offset-of w hw) (offset-of v hv)))

  -- What the code given may touch

  no-automatic : (b : ℕ) (a : AtVariable s.f 0 s.p.offsets b) → in_automatic (memory_offsets s.f 0 s.p.offsets) s.f.autos b ≡ false
  no-automatic b a = false_from_ne_true (in_automatic (memory_offsets s.f 0 s.p.offsets) s.f.autos b) (λ t. at (automatic-at (memory_offsets s.f 0 s.p.offsets) s.f.autos b t))
    where
      var : is_variable s.f a.k ≡ true
      var = let n : 0 + a.k ≡ a.k = omega arith in ap (is_variable s.f) (sym n) ∙ a.variable

      far : (p n q m : ℕ) → AreDisjoint p n q m → p ≤ b → b < p + n → q ≤ b → b < q + m → ⊥
      far p n q m (inl l) h1 h2 h3 h4 = omega (arith, l, h2, h3)
      far p n q m (inr l) h1 h2 h3 h4 = omega (arith, l, h1, h4)

      high : b < a.q + size_at s.f a.k
      high = let n : 0 + a.k ≡ a.k = omega arith in subst (λ m. b < a.q + size_at s.f m) n a.high

      at : AtAutomatic (memory_offsets s.f 0 s.p.offsets) s.f.autos b → ⊥
      at c = by (cases_order a.k c.k) (memory-some s.f s.p.offsets c.k c.q c.is)
        where
          by : (a.k ≡ c.k) ⊎ ((a.k < c.k) ⊎ (c.k < a.k)) → InMemory s.f s.p.offsets c.k c.q → ⊥
          by (inl e) m = true≢false (sym var ∙ (ap (is_variable s.f) e ∙ m.in_memory))
          by (inr (inl l)) m = far _ _ _ _ (placed.disjoint a.k c.k a.q c.q l (mapped s.p.offsets a.k a.q a.is) (mapped s.p.offsets c.k c.q m.is)) a.low high c.low c.high
          by (inr (inr l)) m = far _ _ _ _ (placed.disjoint c.k a.k c.q a.q l (mapped s.p.offsets c.k c.q m.is) (mapped s.p.offsets a.k a.q a.is)) c.low c.high a.low high

  no-word : (b : ℕ) (a : AtVariable s.f 0 s.p.offsets b) → in_words s.f.code b ≡ false
  no-word b a = false_from_ne_true (in_words s.f.code b) (λ t. at (word-at s.f.code b (length s.f.code) t))
    where
      far : (o n : ℕ) → AreDisjoint o 4 a.q n → o ≤ b → b < o + 4 → b < a.q + n → ⊥
      far o n (inl l) h1 h2 h3 = let x = a.low in omega (arith, l, h2, x)
      far o n (inr l) h1 h2 h3 = omega (arith, l, h1, h3)

      at : AtWord s.f.code b → ⊥
      at c =
          let n : 0 + a.k ≡ a.k = omega arith in
          far c.o (size_at s.f a.k) (placed.apart c.i c.o a.k a.q c.reached_is c.uses (mapped s.p.offsets a.k a.q a.is)) c.low c.high (subst (λ m. b < a.q + size_at s.f m) n a.high)

  -- the places of variables are banned from the code given
  pub covers : (b : ℕ) → (given s).banned b ≡ false → apart s b ≡ false
  covers b h = false_from_ne_true (apart s b) (λ t. false≢true (sym h ∙ banned t))
    where
      banned : apart s b ≡ true → (given s).banned b ≡ true
      banned t =
          let q = and_parts (nat_le s.sp b) (in_variable s.f 0 s.p.offsets (b - s.sp)) t in
          let a = variable-at s.f 0 s.p.offsets (b - s.sp) q.1 in
          let l = leb-true s.sp b q.0 in
          let n : 0 + a.k ≡ a.k = omega arith in
          let high : b - s.sp < a.q + size_at s.f a.k = subst (λ m. b - s.sp < a.q + size_at s.f m) n a.high in
          let w = placed.within a.k a.q (mapped s.p.offsets a.k a.q a.is) in
          let w0 = w.0 in let w1 = w.1 in let low = a.low in
          or_right (s.others b) _
          (and_from (keeps_return s.def.frame s.f.code) _ (given-keeps s)
          (or_right (in_word b (Some s.sp)) _
          (and_from (nat_le (s.sp + 4) b && nat_lt b (s.sp + 4 + s.def.frame)) _
          (and_from (nat_le (s.sp + 4) b) (nat_lt b (s.sp + 4 + s.def.frame)) (le-leb (s.sp + 4) b (omega (arith, l, low, w0))) (lt-ltb b (s.sp + 4 + s.def.frame) (omega (arith, l, high, w1))))
          (ap not (or_from (in_automatic (memory_offsets s.f 0 s.p.offsets) s.f.autos (b - s.sp)) (in_words s.f.code (b - s.sp)) (no-automatic (b - s.sp) a) (no-word (b - s.sp) a))))))

  -- framed code may touch what the code given may
  pub fewer : (b : ℕ) → (given s).banned b ≡ false → (made s).banned b ≡ false
  fewer b h = by (s.others b) refl
    where
      either : s.others b ≡ false → (keeps_return s.def.frame s.f.code && (in_word b (Some s.sp) || in_gap s.f (layout s) s.sp b)) ≡ false
      either e = sym (ap (λ t. t || (keeps_return s.def.frame s.f.code && (in_word b (Some s.sp) || in_gap s.f (layout s) s.sp b))) e) ∙ h

      word : s.others b ≡ false → (in_word b (Some s.sp) || in_gap s.f (layout s) s.sp b) ≡ false
      word e = sym (ap (λ t. t && (in_word b (Some s.sp) || in_gap s.f (layout s) s.sp b)) (given-keeps s)) ∙ either e

      by : (t : Bool) → s.others b ≡ t → (made s).banned b ≡ false
      by true e = absurd (true≢false (sym (ap (λ t. t || (keeps_return s.def.frame s.f.code && (in_word b (Some s.sp) || in_gap s.f (layout s) s.sp b))) e) ∙ h))
      by false e = or_from (s.others b) (keeps s.def && in_word b (Some s.sp)) e
          (ap (λ t. t && in_word b (Some s.sp)) (made-keeps s) ∙ (or_parts (in_word b (Some s.sp)) _ (word e)).0)

  pub fewer-free : (n a : ℕ) → is_free (given s).banned a n ≡ true → is_free (made s).banned a n ≡ true
  fewer-free n a h = free-by (made s).banned n a (λ k l. fewer (a + k) (free-at (given s).banned n a k h l))

  pub free-together : (n a k : ℕ) → is_free (given s).banned a n ≡ true → k < n → apart s (a + k) ≡ false
  free-together n a k h l = covers (a + k) (free-at (given s).banned n a k h l)
