-- The run of the machine over the code of statements comes to what the values of variables say.
use Rattle.std.proofs.Common.{◌≡◌, ◌≢◌, ℕ, zero, suc, ◌+◌, ◌≤◌, Bool, true, false, ◌&&◌, List, [], ◌∷◌, ◌++◌, All, length, length-append, Option, Some, None, refl, sym, ap, ◌∙◌, subst, arith}
use Rattle.std.specs.Prelude.{Contains, IsTrue}
use Rattle.std.specs.List.{list_all}
use Rattle.std.proofs.Math.ListN.{get_or-append}
use Rattle.std.proofs.lemmas.List.{get_or-append-add}
use Rattle.p9_first.specs.Form.{is_text_byte}
use Rattle.p9_r3k.specs.declared.inst.Inst.{Inst}
use Rattle.p9_base.specs.declared.halt.Ending.TheVariants.{Running}
use Rattle.p9_r3k.specs.Machine.{State, run, exit_text}
use Rattle.p9_r3k.proofs.Runs.{run-sum, run-zero}
use Rattle.p9_vi.specs.Run.{IsExited}
use Rattle.p9_form.specs.declared.file.Operand.{Operand}
use Rattle.p9_form.specs.declared.file.Operand.TheVariants.{Variable, Number}
use Rattle.p9_form.specs.declared.file.Statement.{Statement}
use Rattle.p9_form.specs.declared.file.Statement.TheVariants.{Assign, Write, Exits}
use Rattle.p9_form.specs.Sharing.{named_by}
use Rattle.p9_straight.specs.FormRun.{Came, Ends, RunsOut, Fails}
use Rattle.p9_straight.proofs.MachineMemory.{IsKnown}

-- within a limit of steps the machine comes to the same: to the exit, or, where turns are out, to a place where
-- it goes on, after at least as many steps; it has read nothing
abbrev pub Runs : Came → State → (turns limit : ℕ) → Type 0
Runs (Ends output text) s turns limit =
    (m : ℕ) × (m ≤ limit) × IsExited (run m s).core.ending × (exit_text (run m s).core ≡ text) × ((run m s).out ≡ output)
    × ((run m s).left ≡ s.left)
Runs (RunsOut output) s turns limit =
    (m : ℕ) × (turns ≤ m) × (m ≤ limit) × ((run m s).core.ending ≡ Running) × ((run m s).out ≡ output)
    × ((run m s).left ≡ s.left)
Runs Fails s turns limit = Unit {0}

-- Runs that are put together

run_on : (s t : State) (n m : ℕ) → run n s ≡ t → run m t ≡ run (n + m) s
run_on s t n m e = ap (λ u. run m u) (sym e) ∙ sym (run-sum n m s)

runs_after : (came : Came) (s t : State) (n turns later limit : ℕ) → run n s ≡ t → t.left ≡ s.left → turns ≤ n + later → Runs came t later limit → Runs came s turns (n + limit)
runs_after (Ends output text) s t n turns later limit e same more h =
    let k : run h.0 t ≡ run (n + h.0) s = run_on s t n h.0 e in (
      n + h.0,
      omega (arith, h.1),
      subst (λ (u : State). IsExited u.core.ending) k h.2,
      subst (λ (u : State). exit_text u.core ≡ text) k h.3,
      subst (λ (u : State). u.out ≡ output) k h.4,
      subst (λ (u : State). u.left ≡ s.left) k (h.5 ∙ same),
    )
runs_after (RunsOut output) s t n turns later limit e same more h =
    let k : run h.0 t ≡ run (n + h.0) s = run_on s t n h.0 e in (
      n + h.0,
      omega (arith, h.1, more),
      omega (arith, h.2),
      subst (λ (u : State). u.core.ending ≡ Running) k h.3,
      subst (λ (u : State). u.out ≡ output) k h.4,
      subst (λ (u : State). u.left ≡ s.left) k (h.5 ∙ same),
    )
runs_after Fails s t n turns later limit e same more h = tt

-- a piece of code, and then what is behind it
pub runs_then : (came : Came) (xs ys : List Inst) (s t : State) (turns later : ℕ) → run (length xs) s ≡ t → t.left ≡ s.left → turns ≤ length xs + later → Runs came t later (length ys) → Runs came s turns (length (xs ++ ys))
runs_then came xs ys s t turns later e same more h =
    subst (λ limit. Runs came s turns limit) (sym (length-append xs ys)) (runs_after came s t (length xs) turns later (length ys) e same more h)

-- out of turns at once
pub runs_out : (s : State) (limit : ℕ) (output : List ℕ) → s.core.ending ≡ Running → s.out ≡ output → Runs (RunsOut output) s 0 limit
runs_out s limit output running out = (
  0,
  omega arith,
  omega arith,
  subst (λ (u : State). u.core.ending ≡ Running) (sym (run-zero s)) running,
  subst (λ (u : State). u.out ≡ output) (sym (run-zero s)) out,
  ap (λ (u : State). u.left) (run-zero s),
)

-- an exit
pub ends_by : (s t : State) (n turns limit : ℕ) (output text : List ℕ) → run n s ≡ t → n ≤ limit → IsExited t.core.ending → exit_text t.core ≡ text → t.out ≡ output → t.left ≡ s.left → Runs (Ends output text) s turns limit
ends_by s t n turns limit output text e within exits same out left = (
  n,
  within,
  subst (λ (u : State). IsExited u.core.ending) (sym e) exits,
  subst (λ (u : State). exit_text u.core ≡ text) (sym e) same,
  subst (λ (u : State). u.out ≡ output) (sym e) out,
  subst (λ (u : State). u.left ≡ s.left) (sym e) left,
)

-- What is asked of statements

-- a number that int has
abbrev pub IsFitOperand : Operand → Type 0
IsFitOperand (Variable x) = Unit {0}
IsFitOperand (Number n) = n ≤ 2147483647

abbrev pub IsFitIf : Option Operand → Type 0
IsFitIf None = Unit {0}
IsFitIf (Some operand) = IsFitOperand operand

abbrev pub IsFitText : List ℕ → Type 0
IsFitText text = IsTrue (list_all is_text_byte text)

abbrev pub IsFit : Statement → Type 0
IsFit (Assign x left right) = IsFitOperand left × IsFitIf right
IsFit (Write text count) = IsFitText text × IsFitOperand count
IsFit (Exits None) = Unit {0}
IsFit (Exits (Some text)) = IsFitText text

-- their numbers are numbers that int has, and their texts have no zero byte
abbrev pub AreFit : List Statement → Type 0
AreFit [] = Unit {0}
AreFit (s ∷ ss) = IsFit s × AreFit ss

-- Lists of names

abbrev pub AreIn : (names xs : List (List ℕ)) → Type 0
AreIn names xs = All (λ x. Contains names x) xs

pub in_front : (names xs ys : List (List ℕ)) → AreIn names (xs ++ ys) → AreIn names xs
in_front names xs ys h i d within =
    subst (λ x. Contains names x) (get_or-append xs ys d i within) (h i d (omega (arith, length-append xs ys, within)))

pub in_back : (names xs ys : List (List ℕ)) → AreIn names (xs ++ ys) → AreIn names ys
in_back names xs ys h i d within =
    subst (λ x. Contains names x) (get_or-append-add xs ys i d) (h (length xs + i) d (omega (arith, length-append xs ys, within)))

pub in_first : (names : List (List ℕ)) (x : List ℕ) (xs : List (List ℕ)) → AreIn names (x ∷ xs) → Contains names x
in_first names x xs h = h 0 [] (omega arith)

pub is_known : (names : List (List ℕ)) (operand : Operand) → AreIn names (named_by operand) → IsFitOperand operand → IsKnown names operand
is_known names (Variable x) known fit = in_first names x [] known
is_known names (Number n) known fit = fit

-- Texts have no zero byte

record BothTrue (a b : Bool) : Type 0 where
  left : IsTrue a
  right : IsTrue b

both_true : (a b : Bool) → IsTrue (a && b) → BothTrue a b
both_true true true h = record { left = refl; right = refl }
both_true true false h = cc
both_true false b h = cc

byte_some : (b : ℕ) → IsTrue (is_text_byte b) → b ≢ 0
byte_some zero h e = cc
byte_some (suc b) h e = omega arith

pub no_zero : (text : List ℕ) → IsFitText text → All (λ c. c ≢ 0) text
no_zero [] h i d within = absurd (omega arith)
no_zero (c ∷ cs) h zero d within = byte_some c (both_true (is_text_byte c) (list_all is_text_byte cs) h).left
no_zero (c ∷ cs) h (suc i) d within = no_zero cs (both_true (is_text_byte c) (list_all is_text_byte cs) h).right i d (omega (arith, within))
