-- The candidates that are left after each instruction.
use Rattle.std.proofs.Common.{ℕ, zero, suc, ◌+◌, ◌==◌, ◌&&◌, ◌||◌, ◌≡◌, ◌≢◌, ◌⊎◌, inl, inr, nat_le, Bool, true, false, not, Option, Some, None, option_and_then, refl, sym, ap, ◌∙◌, subst, arith, if◌then◌else◌, List, [], ◌∷◌, length, slice_get, slice_index, slice_index_or, slice_set, map}
use Rattle.std.proofs.lemmas.Bool.Decides.{eqb_tells}
use Rattle.std.proofs.lemmas.List.{get_or-set_other, length-set, length-map}
use Rattle.p9_abs.specs.declared.instructions.Abs.{Abs}
use Rattle.p9_abs.specs.declared.instructions.AFunction.{AFunction}
use Rattle.p9_abs.specs.declared.forms.Location.{Location}
use Rattle.p9_abs.specs.declared.forms.Location.TheVariants as location
use Rattle.p9_abs.specs.declared.forms.Width.{Width}
use Rattle.p9_abs.specs.declared.forms.Form.{Form}
use Rattle.p9_abs.specs.declared.forms.Form.TheVariants as forms
use Rattle.p9_abs.specs.Forms.{decoded}
use Rattle.p9_abs.specs.Steps.{bytes_of}
use Rattle.p9_abs.specs.Automatics.{form_at, holds_of, is_automatic, is_whole, keeps_whole, keeps_whole_at, keep_whole_below, is_small_whole, is_candidate}
use Rattle.p9_flow.specs.Acts.{automatic_of, part_of, barred_by, barred_at, without, fits_below, AreFitBelow}

abbrev Tells : ℕ → ℕ → Type 0
Tells x y = (((x == y) ≡ true) × (x ≡ y)) ⊎ (((x == y) ≡ false) × (x ≢ y))

-- the automatic is this one
abbrev is_it : ℕ → Option ℕ → Bool
is_it v None = false
is_it v (Some w) = w == v

and-true : (b : Bool) → b ≡ (b && true)
and-true true = refl
and-true false = refl

and-false : (b : Bool) → false ≡ (b && false)
and-false true = refl
and-false false = refl

-- What a form bars

address-bars : (v : ℕ) (a : Location) → not (is_automatic v a) ≡ not (is_it v (automatic_of a))
address-bars v (location.Automatic w o) = refl
address-bars v (location.Static s o) = refl
address-bars v (location.Argument o) = refl
address-bars v (location.Frame o) = refl
address-bars v (location.Based r o) = refl

or-not : (b c : Bool) → (b ≡ true → c ≡ true) → (not b || c) ≡ (not b || true)
or-not true c h = h refl
or-not false c h = refl

part-bars : (autos : List ℕ) (v size : ℕ) (w : Width) (a : Location) → slice_index autos v ≡ size → is_whole v size w a ≡ not (is_it v (part_of autos w a))
part-bars autos v size w (location.Automatic u o) e = whole (eqb_tells u v)
  where
    by : (whole : Bool) → whole ≡ ((o == 0) && (bytes_of w == slice_index autos u)) → (not true || whole) ≡ not (is_it u (if whole then None else Some u))
    by true h = refl
    by false h = ap not (sym (same (eqb_tells u u)))
      where
        same : Tells u u → (u == u) ≡ true
        same (inl t) = t.0
        same (inr t) = absurd (t.1 refl)

    other : (whole : Bool) → u ≢ v → (u == v) ≡ false → true ≡ not (is_it v (if whole then None else Some u))
    other true ne t = refl
    other false ne t = ap not (sym t)

    whole : Tells u v → (not (u == v) || ((o == 0) && (bytes_of w == size))) ≡ not (is_it v (if (o == 0) && (bytes_of w == slice_index autos u) then None else Some u))
    whole (inl t) =
        ap (λ b. not b || ((o == 0) && (bytes_of w == size))) t.0
        ∙ (ap (λ n. (o == 0) && (bytes_of w == n)) (sym e ∙ ap (slice_index autos) (sym t.1))
        ∙ (by ((o == 0) && (bytes_of w == slice_index autos u)) refl
        ∙ ap (λ n. not (is_it n (if (o == 0) && (bytes_of w == slice_index autos u) then None else Some u))) t.1))
    whole (inr t) =
        ap (λ b. not b || ((o == 0) && (bytes_of w == size))) t.0
        ∙ other ((o == 0) && (bytes_of w == slice_index autos u)) t.1 t.0
part-bars autos v size w (location.Static s o) e = refl
part-bars autos v size w (location.Argument o) e = refl
part-bars autos v size w (location.Frame o) e = refl
part-bars autos v size w (location.Based r o) e = refl

form-bars : (autos : List ℕ) (v size : ℕ) (form : Form) → slice_index autos v ≡ size → keeps_whole v size form ≡ not (is_it v (barred_by autos form))
form-bars autos v size (forms.SetAddress a to) e = address-bars v a
form-bars autos v size (forms.Load w a to) e = part-bars autos v size w a e
form-bars autos v size (forms.Store w from a) e = part-bars autos v size w a e
form-bars autos v size (forms.Move w a b) e = refl
form-bars autos v size (forms.SetConstant c b) e = refl
form-bars autos v size (forms.GetHiLo a b) e = refl
form-bars autos v size (forms.SetHiLo a b) e = refl
form-bars autos v size (forms.Calculate k a b c) e = refl
form-bars autos v size (forms.CalculateConstant k a b c) e = refl
form-bars autos v size (forms.ShiftConstant k a b c) e = refl
form-bars autos v size (forms.Multiply k a b) e = refl
form-bars autos v size (forms.BranchPair k a b l) e = refl
form-bars autos v size (forms.BranchSign k a l) e = refl
form-bars autos v size (forms.Jump l) e = refl
form-bars autos v size (forms.Call s) e = refl
form-bars autos v size (forms.CallRegister a) e = refl
form-bars autos v size forms.Return e = refl
form-bars autos v size forms.SystemCall e = refl

-- Lists of candidates

index-of : (autos : List ℕ) (v size : ℕ) → slice_get autos v ≡ Some size → slice_index autos v ≡ size
index-of [] v size e = cc
index-of (x ∷ xs) zero size e = cc
index-of (x ∷ xs) (suc v) size e = index-of xs v size e

past-end : (autos : List ℕ) (candidates : List Bool) (v : ℕ) → length candidates ≡ length autos → slice_get autos v ≡ None → slice_index_or candidates v false ≡ false
past-end [] [] v n e = refl
past-end [] (c ∷ cs) v n e = absurd (omega (arith, n))
past-end (x ∷ xs) [] v n e = absurd (omega (arith, n))
past-end (x ∷ xs) (c ∷ cs) zero n e = cc
past-end (x ∷ xs) (c ∷ cs) (suc v) n e = past-end xs cs v (omega (arith, n)) e

cleared : (candidates : List Bool) (u : ℕ) → slice_index_or (slice_set candidates u false) u false ≡ false
cleared [] u = refl
cleared (c ∷ cs) zero = refl
cleared (c ∷ cs) (suc u) = cleared cs u

set-clears : (candidates : List Bool) (u v : ℕ) → slice_index_or (slice_set candidates u false) v false ≡ (slice_index_or candidates v false && not (u == v))
set-clears candidates u v = by (eqb_tells u v)
  where
    by : Tells u v → slice_index_or (slice_set candidates u false) v false ≡ (slice_index_or candidates v false && not (u == v))
    by (inl t) =
        subst (λ z. slice_index_or (slice_set candidates u false) z false ≡ false) t.1 (cleared candidates u)
        ∙ (and-false (slice_index_or candidates v false) ∙ ap (λ b. slice_index_or candidates v false && not b) (sym t.0))
    by (inr t) =
        get_or-set_other candidates u v false false (λ e. t.1 (sym e))
        ∙ (and-true (slice_index_or candidates v false) ∙ ap (λ b. slice_index_or candidates v false && not b) (sym t.0))

without-clears : (candidates : List Bool) (o : Option ℕ) (v : ℕ) → slice_index_or (without candidates o) v false ≡ (slice_index_or candidates v false && not (is_it v o))
without-clears candidates None v = and-true (slice_index_or candidates v false)
without-clears candidates (Some u) v = set-clears candidates u v

without-length : (candidates : List Bool) (o : Option ℕ) → length (without candidates o) ≡ length candidates
without-length candidates None = refl
without-length candidates (Some u) = length-set candidates u false

-- One more instruction

and-swap : (a b c : Bool) → ((a && b) && c) ≡ (a && (c && b))
and-swap true true true = refl
and-swap true true false = refl
and-swap true false true = refl
and-swap true false false = refl
and-swap false b c = refl

module _ (autos : List ℕ) (code : List Abs) (m : ℕ) (candidates : List Bool) where
  more : (v : ℕ) (size : Option ℕ) (kept : Bool) → ((s : ℕ) → size ≡ Some s → keeps_whole_at code v s m ≡ kept) → (fits_below code v size m && kept) ≡ fits_below code v size (m + 1)
  more v None kept h = refl
  more v (Some s) kept h =
      and-swap (nat_le s 4) (keep_whole_below code v s (λ i. true) m) kept
      ∙ (ap (λ b. nat_le s 4 && (b && keep_whole_below code v s (λ i. true) m)) (sym (h s refl))
      ∙ ap (λ n. nat_le s 4 && keep_whole_below code v s (λ i. true) n) (let e : suc m ≡ m + 1 = omega arith in e))

  pub fit-more : (form : Form) → form_at code m ≡ Some form → AreFitBelow autos code m candidates → AreFitBelow autos code (m + 1) (without candidates (barred_by autos form))
  unfolding AreFitBelow
  fit-more form e fit = (
    without-length candidates (barred_by autos form) ∙ fit.0,
    λ v.
        without-clears candidates (barred_by autos form) v
        ∙ (ap (λ b. b && not (is_it v (barred_by autos form))) (fit.1 v)
        ∙ more v (slice_get autos v) (not (is_it v (barred_by autos form))) (λ s g. kept v s g)),
  )
    where
      not-not : (b : Bool) → not (not b) ≡ b
      not-not true = refl
      not-not false = refl

      kept : (v s : ℕ) → slice_get autos v ≡ Some s → keeps_whole_at code v s m ≡ not (is_it v (barred_by autos form))
      kept v s g =
          ap (λ o. not (holds_of (λ form. not (keeps_whole v s form)) o)) e
          ∙ (not-not (keeps_whole v s form) ∙ form-bars autos v s form (index-of autos v s g))

  pub fit-same : form_at code m ≡ None → AreFitBelow autos code m candidates → AreFitBelow autos code (m + 1) candidates
  unfolding AreFitBelow
  fit-same e fit = (fit.0, λ v. fit.1 v ∙ (and-true (fits_below code v (slice_get autos v) m) ∙ more v (slice_get autos v) true (λ s g. ap (λ o. not (holds_of (λ form. not (keeps_whole v s form)) o)) e)))

pub fit-next : (autos : List ℕ) (code : List Abs) (m : ℕ) (candidates after : List Bool) (a : Abs) → slice_get code m ≡ Some a → after ≡ without candidates (barred_at autos (decoded a)) →
    AreFitBelow autos code m candidates → AreFitBelow autos code (m + 1) after
fit-next autos code m candidates after a g e fit = subst (λ z. AreFitBelow autos code (m + 1) z) (sym e) (by (decoded a) refl)
  where
    by : (o : Option Form) → decoded a ≡ o → AreFitBelow autos code (m + 1) (without candidates (barred_at autos (decoded a)))
    by None q =
        subst (λ z. AreFitBelow autos code (m + 1) (without candidates (barred_at autos z))) (sym q)
        (fit-same autos code m candidates (ap (option_and_then decoded) g ∙ q) fit)
    by (Some form) q =
        subst (λ z. AreFitBelow autos code (m + 1) (without candidates (barred_at autos z))) (sym q)
        (fit-more autos code m candidates form (ap (option_and_then decoded) g ∙ q) fit)

small-at : (autos : List ℕ) (code : List Abs) (v : ℕ) (w : ℕ) → slice_index_or (map (λ size. nat_le size 4) autos) v false ≡ fits_below code w (slice_get autos v) 0
small-at [] code v w = refl
small-at (x ∷ xs) code zero w = and-true (nat_le x 4)
small-at (x ∷ xs) code (suc v) w = small-at xs code v w

pub fit-first : (autos : List ℕ) (code : List Abs) (candidates : List Bool) → candidates ≡ map (λ size. nat_le size 4) autos → AreFitBelow autos code 0 candidates
unfolding AreFitBelow
fit-first autos code candidates e = (ap length e ∙ length-map autos (λ size. nat_le size 4), λ v. ap (λ cs. slice_index_or cs v false) e ∙ small-at autos code v v)

-- after all of them
pub fit-all : (f : AFunction) (autos : List ℕ) (code : List Abs) (candidates : List Bool) → autos ≡ f.autos → code ≡ f.code → AreFitBelow autos code (length code) candidates →
    (v : ℕ) → slice_index_or candidates v false ≡ is_candidate f v
unfolding AreFitBelow
fit-all f autos code candidates ea ec fit v =
    fit.1 v ∙ (ap (λ a. fits_below code v (slice_get a v) (length code)) ea ∙ (ap (λ c. fits_below c v (slice_get f.autos v) (length c)) ec ∙ whole (slice_get f.autos v)))
  where
    whole : (o : Option ℕ) → fits_below f.code v o (length f.code) ≡ is_small_whole f.code v o (λ i. true)
    whole None = refl
    whole (Some size) = refl
