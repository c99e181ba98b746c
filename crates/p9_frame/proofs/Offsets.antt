-- Where automatics stand in a frame.
use Rattle.std.proofs.Common.{ℕ, zero, suc, ◌+◌, ◌*◌, ◌/◌, ◌%◌, ◌==◌, ◌≡◌, ◌≤◌, ◌<◌, max, true, Option, Some, None, refl, sym, ap, ◌∙◌, subst, arith, List, [], ◌∷◌, ◌++◌, length, slice_get, slice_index, get_or, drop, sum_by, append_assoc, if◌then◌else◌}
use Rattle.std.proofs.Math.Seq.{drop-cons}
use Rattle.std.proofs.lemmas.List.Sums.{sum_by-cons}
use Rattle.std.proofs.lemmas.Bool.{false≢true, and_parts, eqb-true}
use Rattle.p9_abs.specs.declared.instructions.Abs.{Abs}
use Rattle.p9_abs.specs.declared.forms.Location.{Location}
use Rattle.p9_abs.specs.declared.forms.Location.TheVariants.{Static, Argument, Frame, Based, Automatic}
use Rattle.p9_abs.specs.declared.forms.Form.{Form}
use Rattle.p9_abs.specs.declared.forms.Form.TheVariants as forms
use Rattle.p9_abs.specs.Forms.{decoded}
use Rattle.p9_abs.specs.Automatics.{form_at, holds_of}
use Rattle.p9_abs.specs.OneCall.{is_stack_word, names_word}
use Rattle.p9_frame.specs.Sizes.{rounded, stack_offset, offset_in, offset_of, greatest_named, first_offset, offsets_from, end_from}

pub drop-item : {X : Type 0} (xs : List X) (x : X) (i : ℕ) → i < length xs → x ≡ get_or xs i x → drop i xs ≡ x ∷ drop (i + 1) xs
drop-item xs x i l e = drop-cons xs i x l ∙ (ap (λ z. z ∷ drop (suc i) xs) (sym e) ∙ ap (λ k. x ∷ drop k xs) (let q : suc i ≡ i + 1 = omega arith in q))

-- Loops

pub greatest-step : (code : List Abs) (a : Abs) (i g next whole : ℕ) → i < length code → a ≡ get_or code i a → next ≡ max (offset_of (decoded a)) g →
    max g (greatest_named (drop i code)) ≡ whole → max next (greatest_named (drop (i + 1) code)) ≡ whole
greatest-step code a i g next whole l e n h =
    let d : greatest_named (drop i code) ≡ max (offset_of (decoded a)) (greatest_named (drop (i + 1) code)) = ap greatest_named (drop-item code a i l e) in
    omega (arith, d, n, h)

number-here : (sizes : List ℕ) (size i : ℕ) → i < length sizes → size ≡ slice_index sizes i → size ≡ get_or sizes i size
number-here [] size i l e = absurd (omega (arith, l))
number-here (s ∷ sizes) size zero l e = e
number-here (s ∷ sizes) size (suc i) l e = number-here sizes size i (omega (arith, l)) e

end-cons : (at size : ℕ) (sizes : List ℕ) → end_from at (size ∷ sizes) ≡ at + (rounded size + sum_by rounded sizes)
end-cons at size sizes = ap (λ z. at + z) (sum_by-cons rounded size sizes)

module _ (sizes : List ℕ) (size i at one : ℕ) (l : i < length sizes) (e : size ≡ slice_index sizes i) (r : one ≡ rounded size) where
  at-drop : drop i sizes ≡ size ∷ drop (i + 1) sizes
  at-drop = drop-item sizes size i l (number-here sizes size i l e)

  pub offsets-step : (list after whole : List ℕ) → after ≡ list ++ at ∷ [] → list ++ offsets_from at (drop i sizes) ≡ whole → after ++ offsets_from (at + one) (drop (i + 1) sizes) ≡ whole
  offsets-step list after whole a h =
      ap (λ z. after ++ offsets_from (at + z) (drop (i + 1) sizes)) r
      ∙ (ap (λ z. z ++ offsets_from (at + rounded size) (drop (i + 1) sizes)) a
      ∙ (append_assoc list (at ∷ []) (offsets_from (at + rounded size) (drop (i + 1) sizes))
      ∙ (ap (λ z. list ++ offsets_from at z) (sym at-drop) ∙ h)))

  pub end-step : (n : ℕ) → end_from at (drop i sizes) ≡ n → end_from (at + one) (drop (i + 1) sizes) ≡ n
  end-step n h = let d : end_from at (drop i sizes) ≡ at + (rounded size + sum_by rounded (drop (i + 1) sizes)) = ap (end_from at) at-drop ∙ end-cons at size (drop (i + 1) sizes) in omega (arith, d, h, r)

  pub end-room : (n : ℕ) → end_from at (drop i sizes) ≡ n → at + one ≤ n
  end-room n h = let d : end_from at (drop i sizes) ≡ at + (rounded size + sum_by rounded (drop (i + 1) sizes)) = ap (end_from at) at-drop ∙ end-cons at size (drop (i + 1) sizes) in omega (arith, d, h, r)

-- Offsets

pub offsets-length : (first : ℕ) (sizes : List ℕ) → length (offsets_from first sizes) ≡ length sizes
offsets-length first [] = refl
offsets-length first (size ∷ sizes) = ap suc (offsets-length (first + rounded size) sizes)

pub offset-facts : (first : ℕ) (sizes : List ℕ) (v p : ℕ) → first % 4 ≡ 0 → slice_get (offsets_from first sizes) v ≡ Some p →
    (p % 4 ≡ 0) × (first ≤ p) × (p + rounded (slice_index sizes v) ≤ end_from first sizes)
offset-facts first [] v p f e = absurd (let x : None ≡ Some p = e in cc)
offset-facts first (size ∷ sizes) zero p f e =
    let q : first ≡ p = (let x : Some first ≡ Some p = e in cc) in
    (subst (λ z. z % 4 ≡ 0) q f, omega (arith, q), (let s : end_from first (size ∷ sizes) ≡ first + (rounded size + sum_by rounded sizes) = end-cons first size sizes in omega (arith, q, s)))
offset-facts first (size ∷ sizes) (suc v) p f e =
    let w = offset-facts (first + rounded size) sizes v p (let r : (first + (size + 3) / 4 * 4) % 4 ≡ 0 = omega (arith, f) in r) e in
    (w.0, omega (arith, w.1), (let s : end_from first (size ∷ sizes) ≡ first + (rounded size + sum_by rounded sizes) = end-cons first size sizes in let t = w.2 in omega (arith, t, s)))

pub offset-order : (first : ℕ) (sizes : List ℕ) (v w p q : ℕ) → first % 4 ≡ 0 → v < w → slice_get (offsets_from first sizes) v ≡ Some p → slice_get (offsets_from first sizes) w ≡ Some q →
    p + rounded (slice_index sizes v) ≤ q
offset-order first [] v w p q f l e d = absurd (let x : None ≡ Some p = e in cc)
offset-order first (size ∷ sizes) v zero p q f l e d = absurd (omega (arith, l))
offset-order first (size ∷ sizes) zero (suc w) p q f l e d =
    let x : first ≡ p = (let y : Some first ≡ Some p = e in cc) in
    let g = offset-facts (first + rounded size) sizes w q (let r : (first + (size + 3) / 4 * 4) % 4 ≡ 0 = omega (arith, f) in r) d in
    let m : first + rounded size ≤ q = g.1 in
    omega (arith, m, x)
offset-order first (size ∷ sizes) (suc v) (suc w) p q f l e d =
    offset-order (first + rounded size) sizes v w p q (let r : (first + (size + 3) / 4 * 4) % 4 ≡ 0 = omega (arith, f) in r) (omega (arith, l)) e d

pub sum-fourfold : (sizes : List ℕ) → sum_by rounded sizes % 4 ≡ 0
sum-fourfold [] = refl
sum-fourfold (size ∷ sizes) = let h : sum_by rounded sizes % 4 ≡ 0 = sum-fourfold sizes in let s : sum_by rounded (size ∷ sizes) ≡ (size + 3) / 4 * 4 + sum_by rounded sizes = sum_by-cons rounded size sizes in omega (arith, h, s)

pub first-fourfold : (named : ℕ) → first_offset named % 4 ≡ 0
first-fourfold named = let q : ((max 4 named + 3) / 4 * 4 + 4) % 4 ≡ 0 = omega arith in q

pub first-above : (named o : ℕ) → o ≤ max 4 named → o + 4 ≤ first_offset named
first-above named o l = let q : o + 4 ≤ (max 4 named + 3) / 4 * 4 + 4 = omega (arith, l) in q

pub end-fourfold : (named : ℕ) (sizes : List ℕ) → end_from (first_offset named) sizes % 4 ≡ 0
end-fourfold named sizes = let a = first-fourfold named in let b = sum-fourfold sizes in omega (arith, a, b)

pub end-bound : (named : ℕ) (sizes : List ℕ) → end_from (first_offset named) sizes ≤ 8 + rounded named + sum_by rounded sizes
end-bound named sizes = let q : (max 4 named + 3) / 4 * 4 + 4 ≤ 8 + (named + 3) / 4 * 4 = omega arith in omega (arith, q)

-- Named words

stack-word : (o : ℕ) (l : Location) → is_stack_word o l ≡ true → o ≡ stack_offset l
stack-word o (Based r p) h =
    let q = and_parts (r == 29) (p == o) h in
    sym (eqb-true p o q.1) ∙ sym (ap (λ b. if b then p else 0) q.0)
stack-word o (Static s p) h = absurd (false≢true h)
stack-word o (Argument p) h = absurd (false≢true h)
stack-word o (Frame p) h = absurd (false≢true h)
stack-word o (Automatic v p) h = absurd (false≢true h)

named-word : (o : ℕ) (form : Form) → names_word o form ≡ true → o ≡ offset_in form
named-word o (forms.Load w from to) h = stack-word o from h
named-word o (forms.Store w from to) h = stack-word o to h
named-word o (forms.Move w a b) h = absurd (false≢true h)
named-word o (forms.SetConstant c b) h = absurd (false≢true h)
named-word o (forms.SetAddress a b) h = absurd (false≢true h)
named-word o (forms.GetHiLo a b) h = absurd (false≢true h)
named-word o (forms.SetHiLo a b) h = absurd (false≢true h)
named-word o (forms.Calculate k a b c) h = absurd (false≢true h)
named-word o (forms.CalculateConstant k a b c) h = absurd (false≢true h)
named-word o (forms.ShiftConstant k a b c) h = absurd (false≢true h)
named-word o (forms.Multiply k a b) h = absurd (false≢true h)
named-word o (forms.BranchPair k a b l) h = absurd (false≢true h)
named-word o (forms.BranchSign k a l) h = absurd (false≢true h)
named-word o (forms.Jump l) h = absurd (false≢true h)
named-word o (forms.Call s) h = absurd (false≢true h)
named-word o (forms.CallRegister a) h = absurd (false≢true h)
named-word o forms.Return h = absurd (false≢true h)
named-word o forms.SystemCall h = absurd (false≢true h)

named-of : (o : ℕ) (form : Option Form) → holds_of (names_word o) form ≡ true → o ≡ offset_of form
named-of o None h = absurd (false≢true h)
named-of o (Some form) h = named-word o form h

pub named-bound : (code : List Abs) (i o : ℕ) → holds_of (names_word o) (form_at code i) ≡ true → o ≤ greatest_named code
named-bound [] i o h = absurd (false≢true h)
named-bound (a ∷ code) zero o h = let q : o ≡ offset_of (decoded a) = named-of o (decoded a) h in omega (arith, q)
named-bound (a ∷ code) (suc i) o h = let q : o ≤ greatest_named code = named-bound code i o h in omega (arith, q)
