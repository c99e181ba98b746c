-- Of a candidate each write is of its whole, and each instruction spares it.
use Rattle.std.proofs.Common.{◌≡◌, ◌≤◌, ◌<◌, ◌⊎◌, inl, inr, ℕ, zero, suc, ◌&&◌, ◌||◌, nat_le, Bool, true, false, not, Option, Some, None, List, [], ◌∷◌, length, slice_get, refl, sym, ap, ◌∙◌, subst, arith}
use Rattle.std.proofs.lemmas.Bool.{true≢false, and_parts, or_cases}
use Rattle.std.proofs.lemmas.Option.{none-some}
use Rattle.p9_abs.specs.declared.instructions.Abs.{Abs}
use Rattle.p9_abs.specs.declared.instructions.AFunction.{AFunction}
use Rattle.p9_abs.specs.declared.forms.Location.{Location}
use Rattle.p9_abs.specs.declared.forms.Width.{Width}
use Rattle.p9_abs.specs.declared.forms.Form.{Form}
use Rattle.p9_abs.specs.declared.forms.Form.TheVariants as forms
use Rattle.p9_abs.specs.Automatics.{form_at, holds_of, keeps_whole, keeps_whole_at, keep_whole_below, is_small_whole, is_candidate, is_whole, is_automatic, writes, writes_at, fills, fills_of_size, fills_at}

pub keep-at : (code : List Abs) (v size : ℕ) (asked : ℕ → Bool) (m i : ℕ) → keep_whole_below code v size asked m ≡ true → i < m → asked i ≡ true → keeps_whole_at code v size i ≡ true
keep-at code v size asked zero i h l a = absurd (omega arith)
keep-at code v size asked (suc m) i h l a =
    let p = and_parts (not (asked m) || keeps_whole_at code v size m) (keep_whole_below code v size asked m) h in
    at (keep-at code v size asked m i p.1) (cases i m l) p.0
  where
    cases : (a b : ℕ) → a < suc b → (a < b) ⊎ (a ≡ b)
    cases a b g = grind (arith)

    at : (i < m → asked i ≡ true → keeps_whole_at code v size i ≡ true) → (i < m) ⊎ (i ≡ m) → (not (asked m) || keeps_whole_at code v size m) ≡ true
        → keeps_whole_at code v size i ≡ true
    at below (inl g) e = below g a
    at below (inr g) e = subst (λ k. keeps_whole_at code v size k ≡ true) (sym g) (last (or_cases (not (asked m)) (keeps_whole_at code v size m) e))
      where
        last : (not (asked m) ≡ true) ⊎ (keeps_whole_at code v size m ≡ true) → keeps_whole_at code v size m ≡ true
        last (inl x) = absurd (true≢false (sym x ∙ ap not (subst (λ k. asked k ≡ true) g a)))
        last (inr x) = x

and-true : (a b : Bool) → b ≡ true → (a && b) ≡ a
and-true true b h = h
and-true false b h = refl

pub fills-is : (v size : ℕ) (form : Form) → keeps_whole v size form ≡ true → fills v size form ≡ writes v form
fills-is v size (forms.Store w a b) h = and-true (is_automatic v b) (is_whole v size w b) h
fills-is v size (forms.Move w a b) h = refl
fills-is v size (forms.SetConstant c b) h = refl
fills-is v size (forms.SetAddress a b) h = refl
fills-is v size (forms.Load w a b) h = refl
fills-is v size (forms.GetHiLo a b) h = refl
fills-is v size (forms.SetHiLo a b) h = refl
fills-is v size (forms.Calculate k a b c) h = refl
fills-is v size (forms.CalculateConstant k a b c) h = refl
fills-is v size (forms.ShiftConstant k a b c) h = refl
fills-is v size (forms.Multiply k a b) h = refl
fills-is v size (forms.BranchPair k a b l) h = refl
fills-is v size (forms.BranchSign k a l) h = refl
fills-is v size (forms.Jump l) h = refl
fills-is v size (forms.Call s) h = refl
fills-is v size (forms.CallRegister a) h = refl
fills-is v size forms.Return h = refl
fills-is v size forms.SystemCall h = refl

not-not : (b : Bool) → not (not b) ≡ true → b ≡ true
not-not true h = refl
not-not false h = absurd (true≢false (sym h))

fills-form : (v size : ℕ) (o : Option Form) → not (holds_of (λ form. not (keeps_whole v size form)) o) ≡ true → holds_of (fills v size) o ≡ holds_of (writes v) o
fills-form v size None h = refl
fills-form v size (Some form) h = fills-is v size form (not-not (keeps_whole v size form) h)

past : (code : List Abs) (i : ℕ) → length code ≤ i → form_at code i ≡ None
past [] i h = refl
past (a ∷ code) zero h = absurd (omega arith)
past (a ∷ code) (suc i) h = past code i (omega arith)

-- a write of a candidate is of its whole
pub candidate-fills : (f : AFunction) (v i : ℕ) → is_candidate f v ≡ true → fills_at f v i ≡ writes_at f.code v i
candidate-fills f v i h = by (slice_get f.autos v) refl
  where
    within : (size : ℕ) → is_small_whole f.code v (Some size) (λ k. true) ≡ true → (i < length f.code) ⊎ (length f.code ≤ i) → holds_of (fills v size) (form_at f.code i) ≡ writes_at f.code v i
    within size g (inl l) = fills-form v size (form_at f.code i) (keep-at f.code v size (λ k. true) (length f.code) i (and_parts (nat_le size 4) _ g).1 l refl)
    within size g (inr l) =
        let e : form_at f.code i ≡ None = past f.code i l in
        ap (holds_of (fills v size)) e ∙ sym (ap (holds_of (writes v)) e)

    order : (a b : ℕ) → (a < b) ⊎ (b ≤ a)
    order a b = grind (arith)

    by : (o : Option ℕ) → slice_get f.autos v ≡ o → fills_at f v i ≡ writes_at f.code v i
    by None e = absurd (true≢false (sym h ∙ ap (λ o. is_small_whole f.code v o (λ k. true)) e))
    by (Some size) e =
        ap (λ o. fills_of_size f.code v o i) e
        ∙ within size (sym (ap (λ o. is_small_whole f.code v o (λ k. true)) e) ∙ h) (order i (length f.code))
