-- Where a step stands in the code, where it goes on, and that there are no variables in assembled code.
use Rattle.std.proofs.Common.{◌≡◌, ◌<◌, ℕ, zero, suc, ◌+◌, Bool, true, false, Option, Some, None, List, [], ◌∷◌, length, slice_get, slice_set, refl, subst, arith}
use Rattle.std.specs.Prelude.{option_and_then}
use Rattle.std.proofs.lemmas.Bool.{true≢false}
use Rattle.p9_base.specs.declared.halt.Ending.{Ending}
use Rattle.p9_base.specs.declared.halt.Ending.TheVariants.{Running, Exited, Halted}
use Rattle.p9_base.specs.SystemCalls.{State, asked, called}
use Rattle.p9_abs.specs.declared.instructions.Abs.{Abs}
use Rattle.p9_abs.specs.declared.forms.Form.{Form}
use Rattle.p9_abs.specs.Forms.{decoded}
use Rattle.p9_abs.specs.Automatics.{form_at}
use Rattle.p9_abs.specs.Steps.{Mach, Around, Step, Next, Turns, Calls, Returns, Exits, Undefined, step, without_text, ended}
use Rattle.p9_abs.specs.Steps as st
use Rattle.p9_abs.proofs.Walking.{Walk, walked}
use Rattle.p9_abs.proofs.StepLaws.{step-by}

-- no variables before, none behind
abbrev pub Bare : Mach → Mach → Type 0
Bare x z = x.vars ≡ [] → z.vars ≡ []

pub record Plain (n : ℕ) (x z : Mach) : Type 0 where
  pub inside : x.at < n
  pub at : z.at ≡ x.at + 1
  pub bare : Bare x z
  pub out : z.state.out ≡ x.state.out
  pub left : z.state.left ≡ x.state.left

-- of a code of n instructions
abbrev pub Shape : ℕ → Mach → Step → Type 0
Shape n x (Next z) = (x.at < n) × (z.at ≡ x.at + 1) × Bare x z
Shape n x (Turns taken z) = (x.at < n) × (taken ≡ false → z.at ≡ x.at + 1) × Bare x z
Shape n x (Calls to z) = Plain n x z
Shape n x (Returns z) = x.at < n
Shape n x (Exits z) = x.at < n
Shape n x Undefined = Unit {0}

pub inside : (code : List Abs) (k : ℕ) (a : Abs) → slice_get code k ≡ Some a → k < length code
inside [] k a h = absurd (let z : None ≡ Some a = h in cc)
inside (b ∷ code) zero a h = omega arith
inside (b ∷ code) (suc k) a h = let r = inside code k a h in omega (arith, r)

formed : (code : List Abs) (k : ℕ) (form : Form) → form_at code k ≡ Some form → k < length code
formed code k form h = go (slice_get code k) refl h
  where
    go : (o : Option Abs) → slice_get code k ≡ o → option_and_then decoded o ≡ Some form → k < length code
    go None e f = absurd (let z : None ≡ Some form = f in cc)
    go (Some a) e f = inside code k a e

none-set : (v value : ℕ) (vars : List ℕ) → vars ≡ [] → slice_set vars v value ≡ []
none-set v value [] h = refl
none-set v value (x ∷ xs) h = absurd (let z : x ∷ xs ≡ [] = h in cc)

ended-shape : (n : ℕ) (x : Mach) (e : Ending) (s : State) → x.at < n → Shape n x (ended e (record x { state = s; at = x.at + 1 }))
ended-shape n x Running s i = (i, refl, λ h. h)
ended-shape n x (Exited at k) s i = i
ended-shape n x (Halted cause pc) s i = tt

turn-shape : (n : ℕ) (x : Mach) (taken : Bool) (l : ℕ) → x.at < n → Shape n x (st.turns taken l x)
turn-shape n x true l i = (i, (λ h. absurd (true≢false h)), λ h. h)
turn-shape n x false l i = (i, (λ h. refl), λ h. h)

shape-walk : (around : Around) (form : Form) (n : ℕ) (x : Mach) → x.at < n → Walk around form x (Shape n x)
shape-walk around form n x i = record {
  undefined = tt;
  register = λ r v d h. (i, refl, λ e. e);
  pair = λ h l w. (i, refl, λ e. e);
  byte = λ a v f w s. (i, refl, λ e. e);
  half = λ a v f w. (i, refl, λ e. e);
  word = λ a v f w. (i, refl, λ e. e);
  variable = λ v value h. (i, refl, λ e. none-set v value x.vars e);
  turn = λ taken l. turn-shape n x taken l i;
  call = λ to. record { inside = i; at = refl; bare = λ e. e; out = refl; left = refl };
  back = i;
  system = λ e f. (let s : State = called (asked x.state.core) x.state in ended-shape n x s.core.ending s i);
}

over-text : (n : ℕ) (x : Mach) (s : Step) → Shape n (without_text x) s → Shape n x s
over-text n x (Next z) h = h
over-text n x (Turns taken z) h = h
over-text n x (Calls to z) h = record { inside = h.inside; at = h.at; bare = h.bare; out = h.out; left = h.left }
over-text n x (Returns z) h = h
over-text n x (Exits z) h = h
over-text n x Undefined h = tt

pub shaped : (around : Around) (code : List Abs) (x : Mach) (s : Step) → step around code x ≡ s → Shape (length code) x s
shaped around code x s e =
    over-text (length code) x s
    (subst (Shape (length code) (without_text x)) e
    (step-by around code x (Shape (length code) (without_text x)) tt
    (λ form f. walked around form (without_text x) (Shape (length code) (without_text x)) (shape-walk around form (length code) (without_text x) (formed code x.at form f)))))
