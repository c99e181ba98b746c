-- What steps and rows tell of the points of a candidate, and of the ways between them.
use Rattle.std.proofs.Common.{ℕ, zero, suc, ◌+◌, ◌*◌, ◌/◌, ◌%◌, ◌==◌, ◌&&◌, ◌||◌, ◌≡◌, ◌⊎◌, ◌↔◌, inl, inr, ◌<◌, nat_lt, Bool, true, false, not, Option, Some, None, option_map, option_and_then, refl, sym, ap, ◌∙◌, subst, arith, rules, List, [], ◌∷◌, length, slice_get, slice_index, map}
use Rattle.std.specs.Int.{bit_at}
use Rattle.std.proofs.lemmas.Bool.{false≢true, and_parts, or_cases, eqb-true}
use Rattle.std.proofs.lemmas.Option.{slice_get-map}
use Rattle.std.proofs.lemmas.List.{length-map}
use Rattle.p9_abs.specs.declared.instructions.Abs.{Abs}
use Rattle.p9_abs.specs.declared.instructions.AFunction.{AFunction}
use Rattle.p9_abs.specs.declared.forms.Form.{Form}
use Rattle.p9_abs.specs.declared.forms.Form.TheVariants as forms
use Rattle.p9_abs.specs.Forms.{decoded}
use Rattle.p9_abs.specs.Automatics.{form_at, holds_of, falls, goes_to, calls_in, writes, writes_at, is_candidate, IsLive}
use Rattle.p9_abs.specs.Regions.{IsPoint, Leads}
use Rattle.p9_flow.specs.Acts.{jump_of, written_of}
use Rattle.p9_flow.proofs.Meaning.{writes-is, jumps-is, eqb-same}
use Rattle.p9_region.specs.declared.steps.Step.{Step}
use Rattle.p9_region.specs.Picking.{step_of, GoesOn, is_it, live_bit, written_in, point_bit, ArePoints, AreAdjacent}
use Rattle.p9_region.specs.Finding.{points_in}
use Rattle.p9_region.proofs.Picks.{picked-rising, picked-has, picked-from, picked-within}
use Rattle.p9_region.proofs.Within.{point-within}

bool-iff : (b c : Bool) → (b ≡ true → c ≡ true) → (c ≡ true → b ≡ true) → b ≡ c
bool-iff true c f g = sym (f refl)
bool-iff false true f g = g refl
bool-iff false false f g = refl

or-left : (b c : Bool) → b ≡ true → (b || c) ≡ true
or-left true c e = refl
or-left false c e = absurd (false≢true e)

or-right : (b c : Bool) → c ≡ true → (b || c) ≡ true
or-right true c e = refl
or-right false c e = e

-- Forms

written-is : (v : ℕ) (form : Form) → is_it v (written_of form) ≡ writes v form
written-is v form = bool-iff (is_it v (written_of form)) (writes v form) (λ h. (writes-is v form).1 (is-it (written_of form) h)) (λ h. it-is (written_of form) ((writes-is v form).0 h))
  where
    is-it : (o : Option ℕ) → is_it v o ≡ true → o ≡ Some v
    is-it None h = absurd (false≢true h)
    is-it (Some w) h = ap (λ z. Some z) (eqb-true w v h)

    it-is : (o : Option ℕ) → o ≡ Some v → is_it v o ≡ true
    it-is None h = cc
    it-is (Some w) h = let e : w ≡ v = cc in ap (λ z. z == v) e ∙ eqb-same v

-- what jumps is no call
jump-no-call : (form : Form) (l : ℕ) → jump_of form ≡ Some l → calls_in form ≡ false
jump-no-call (forms.BranchPair k a b l) j h = refl
jump-no-call (forms.BranchSign k a l) j h = refl
jump-no-call (forms.Jump l) j h = refl
jump-no-call (forms.Load w a to) j h = refl
jump-no-call (forms.Store w from a) j h = refl
jump-no-call (forms.SetAddress a to) j h = refl
jump-no-call (forms.Move w a b) j h = refl
jump-no-call (forms.SetConstant c b) j h = refl
jump-no-call (forms.GetHiLo a b) j h = refl
jump-no-call (forms.SetHiLo a b) j h = refl
jump-no-call (forms.Calculate k a b c) j h = refl
jump-no-call (forms.CalculateConstant k a b c) j h = refl
jump-no-call (forms.ShiftConstant k a b c) j h = refl
jump-no-call (forms.Multiply k a b) j h = refl
jump-no-call (forms.Call s) j h = cc
jump-no-call (forms.CallRegister a) j h = cc
jump-no-call forms.Return j h = refl
jump-no-call forms.SystemCall j h = refl

not-true : (b : Bool) → not b ≡ true → b ≡ false
not-true true h = absurd (false≢true h)
not-true false h = refl

-- a step goes on where its form, that is no call, does
goes-no-call : (o : Option Form) (i j : ℕ) → GoesOn (step_of o) i j → holds_of calls_in o ≡ false
goes-no-call None i j (inl g) = refl
goes-no-call None i j (inr g) = refl
goes-no-call (Some form) i j (inl g) = not-true (calls_in form) (and_parts (falls form) (not (calls_in form)) g.0).1
goes-no-call (Some form) i j (inr g) = jump-no-call form j g

goes-flows : (o : Option Form) (i j : ℕ) → GoesOn (step_of o) i j → holds_of (λ form. (falls form && (j == i + 1)) || goes_to j form) o ≡ true
goes-flows None i j (inl g) = absurd (false≢true g.0)
goes-flows None i j (inr g) = cc
goes-flows (Some form) i j (inl g) =
    or-left (falls form && (j == i + 1)) (goes_to j form)
    (ap (λ b. b && (j == i + 1)) (and_parts (falls form) (not (calls_in form)) g.0).0 ∙ (ap (λ z. z == (i + 1)) g.1 ∙ eqb-same (i + 1)))
goes-flows (Some form) i j (inr g) = or-right (falls form && (j == i + 1)) (goes_to j form) ((jumps-is j form).1 g)

flows-goes : (o : Option Form) (i j : ℕ) → holds_of calls_in o ≡ false → holds_of (λ form. (falls form && (j == i + 1)) || goes_to j form) o ≡ true → GoesOn (step_of o) i j
flows-goes None i j c h = absurd (false≢true h)
flows-goes (Some form) i j c h = by (or_cases (falls form && (j == i + 1)) (goes_to j form) h)
  where
    by : ((falls form && (j == i + 1)) ≡ true) ⊎ (goes_to j form ≡ true) → GoesOn (step_of (Some form)) i j
    by (inl x) = let p = and_parts (falls form) (j == i + 1) x in inl (ap (λ b. b && not (calls_in form)) p.0 ∙ ap not c, eqb-true j (i + 1) p.1)
    by (inr x) = inr ((jumps-is j form).0 x)

-- Steps and rows of a function

module _ (f : AFunction) (steps : List Step) (bits : List ℕ) (width v : ℕ) (same : steps ≡ map (λ a. step_of (decoded a)) f.code) (candidate : is_candidate f v ≡ true)
    (exact : (i : ℕ) → i < length f.code → (bit_at (slice_index bits (i * width + v / 64)) (v % 64) ≡ 1) ↔ ((is_candidate f v ≡ true) × IsLive f v i)) where
  steps-length : length steps ≡ length f.code
  steps-length = ap length same ∙ length-map f.code (λ a. step_of (decoded a))

  step-at : (i : ℕ) → slice_get steps i ≡ option_map (λ a. step_of (decoded a)) (slice_get f.code i)
  step-at i = ap (λ z. slice_get z i) same ∙ slice_get-map (λ a. step_of (decoded a)) f.code i

  -- a step that stands there is of the form there
  step-form : (i : ℕ) (s : Step) → slice_get steps i ≡ Some s → s ≡ step_of (form_at f.code i)
  step-form i s e = by (slice_get f.code i) refl
    where
      by : (o : Option Abs) → slice_get f.code i ≡ o → s ≡ step_of (form_at f.code i)
      by None q = let none : Some s ≡ None = sym e ∙ (step-at i ∙ ap (option_map (λ a. step_of (decoded a))) q) in absurd (let x : ⊥ = cc in x)
      by (Some a) q =
          let found : Some s ≡ Some (step_of (decoded a)) = sym e ∙ (step-at i ∙ ap (option_map (λ a. step_of (decoded a))) q) in
          let here : s ≡ step_of (decoded a) = cc in
          here ∙ ap (λ o. step_of (option_and_then decoded o)) (sym q)

  form-step : (i : ℕ) → i < length f.code → slice_get steps i ≡ Some (step_of (form_at f.code i))
  form-step i l = by (slice_get f.code i) refl
    where
      outside : (code : List Abs) (k : ℕ) → slice_get code k ≡ None → k < length code → ⊥
      outside [] k q l = absurd (omega (arith, l))
      outside (a ∷ code) zero q l = cc
      outside (a ∷ code) (suc k) q l = outside code k q (omega (arith, l))

      by : (o : Option Abs) → slice_get f.code i ≡ o → slice_get steps i ≡ Some (step_of (form_at f.code i))
      by None q = absurd (outside f.code i q l)
      by (Some a) q = step-at i ∙ (ap (option_map (λ a. step_of (decoded a))) q ∙ ap (λ o. Some (step_of (option_and_then decoded o))) (sym q))

  written-at : (i : ℕ) → written_in v (slice_get steps i) ≡ writes_at f.code v i
  written-at i = ap (written_in v) (step-at i) ∙ by (slice_get f.code i)
    where
      of-form : (o : Option Form) → is_it v (step_of o).written ≡ holds_of (writes v) o
      of-form None = refl
      of-form (Some form) = written-is v form

      by : (o : Option Abs) → written_in v (option_map (λ a. step_of (decoded a)) o) ≡ holds_of (writes v) (option_and_then decoded o)
      by None = refl
      by (Some a) = of-form (decoded a)

  bit-live : (i : ℕ) → i < length f.code → live_bit bits width v i ≡ true → IsLive f v i
  bit-live i l h = ((exact i l).0 (eqb-true _ 1 h)).1

  live-bit : (i : ℕ) → i < length f.code → IsLive f v i → live_bit bits width v i ≡ true
  live-bit i l h = ap (λ b. b == 1) ((exact i l).1 (candidate, h))

  bit-point : (i : ℕ) → i < length f.code → point_bit steps bits width v i ≡ true → IsPoint f v i
  bit-point i l h = by (or_cases (live_bit bits width v i) (written_in v (slice_get steps i)) h)
    where
      by : (live_bit bits width v i ≡ true) ⊎ (written_in v (slice_get steps i) ≡ true) → IsPoint f v i
      by (inl x) = inl (bit-live i l x)
      by (inr x) = inr (sym (written-at i) ∙ x)

  point-bit : (i : ℕ) → IsPoint f v i → point_bit steps bits width v i ≡ true
  point-bit i (inl x) = or-left (live_bit bits width v i) (written_in v (slice_get steps i)) (live-bit i (point-within f v i (inl x)) x)
  point-bit i (inr x) = or-right (live_bit bits width v i) (written_in v (slice_get steps i)) (written-at i ∙ x)

  pub are-points : ArePoints f v (points_in steps bits width v)
  are-points = record {
    rising = picked-rising (point_bit steps bits width v) (length steps);
    each = λ i c. bit-point i (let l = picked-within (point_bit steps bits width v) (length steps) i c in omega (arith, l, steps-length)) (picked-from (point_bit steps bits width v) (length steps) i c);
    every = λ i p. picked-has (point_bit steps bits width v) (length steps) i (let l = point-within f v i p in omega (arith, l, steps-length)) (point-bit i p);
  }

  -- Ways between points

  ltb-is : (a b : ℕ) → a < b → nat_lt a b ≡ true
  ltb-is a b h = search (rules, h)

  pub adjacent-leads : (points : List ℕ) (k m : ℕ) → IsPoint f v (slice_index points k) → IsPoint f v (slice_index points m) → AreAdjacent steps bits width v points k m → Leads f v (slice_index points k) (slice_index points m)
  adjacent-leads points k m pk pm (s, e, g, b) =
      let i = slice_index points k in
      let j = slice_index points m in
      let q = step-form (slice_index points k) s e in
      let go = subst (λ (z : Step). GoesOn z (slice_index points k) (slice_index points m)) q g in
      let l = point-within f v (slice_index points m) pm in (
        pk,
        goes-no-call (form_at f.code (slice_index points k)) (slice_index points k) (slice_index points m) go,
        ap (λ t. t && holds_of (λ form. (falls form && (slice_index points m == slice_index points k + 1)) || goes_to (slice_index points m) form) (form_at f.code (slice_index points k)))
            (ltb-is (slice_index points m) (length f.code) l)
            ∙ goes-flows (form_at f.code (slice_index points k)) (slice_index points k) (slice_index points m) go,
        bit-live (slice_index points m) l b,
      )

  pub leads-adjacent : (points : List ℕ) (k m : ℕ) → Leads f v (slice_index points k) (slice_index points m) → AreAdjacent steps bits width v points k m
  leads-adjacent points k m (pk, c, fl, live) = (
    step_of (form_at f.code (slice_index points k)),
    form-step (slice_index points k) (point-within f v (slice_index points k) pk),
    flows-goes (form_at f.code (slice_index points k)) (slice_index points k) (slice_index points m) c (and_parts (nat_lt (slice_index points m) (length f.code)) _ fl).1,
    live-bit (slice_index points m) (point-within f v (slice_index points m) (inl live)) live,
  )
