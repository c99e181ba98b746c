-- Output only grows, a run that has ended stays, and runs compose.
use Rattle.std.proofs.Common.{◌≡◌, ℕ, zero, suc, ◌+◌, ◌-◌, ◌^◌, Bool, true, false, Option, Some, None, List, [], ◌∷◌, ◌++◌, length, min, take, refl, sym, ap, ◌∙◌, subst, arith}
use Rattle.std.proofs.lemmas.List.{append-nil}
use Rattle.p9_base.specs.declared.halt.Asked.{Asked}
use Rattle.p9_base.specs.declared.halt.Asked.TheVariants as asks
use Rattle.p9_base.specs.Core.{bytes_from}
use Rattle.p9_base.specs.SystemCalls.{State, asked, called}
use Rattle.p9_abs.specs.declared.instructions.Abs.{Abs}
use Rattle.p9_abs.specs.declared.forms.Form.{Form}
use Rattle.p9_abs.specs.Steps.{Mach, Around, Step, without_text, step, ended}
use Rattle.p9_abs.specs.Runs.{Routine, Addresses, Status, Going, Gone, Broken, onward, arun_from}
use Rattle.p9_abs.specs.Laws.{IfMach, Grows, OutputGrows, RunsCompose, EndedRunsStay, HasEnded}
use Rattle.p9_abs.proofs.Walking.{Walk, walked}
use Rattle.p9_abs.proofs.StepLaws.{step-by, ended-by}

grows-none : (xs : List ℕ) → Grows xs xs
grows-none xs = ([], sym (append-nil xs))

called-grows : (q : Asked) (s : State) → (let t : State = called q s in Grows s.out t.out)
called-grows (asks.Exits at n) s = grows-none s.out
called-grows (asks.Read at n) s = grows-none s.out
called-grows (asks.Write at n) s = (bytes_from s.core at n, refl)
called-grows asks.Refused s = grows-none s.out
called-grows (asks.Stop cause) s = grows-none s.out

grow-walk : (around : Around) (form : Form) (x : Mach) → Walk around form x (IfMach (λ y. Grows x.state.out y.state.out))
grow-walk around form x = record {
  undefined = tt;
  register = λ r v d h. grows-none x.state.out;
  pair = λ h l w. grows-none x.state.out;
  byte = λ a v f w s. grows-none x.state.out;
  half = λ a v f w. grows-none x.state.out;
  word = λ a v f w. grows-none x.state.out;
  variable = λ v value h. grows-none x.state.out;
  turn = λ taken l. grows-none x.state.out;
  call = λ to. grows-none x.state.out;
  back = grows-none x.state.out;
  system = λ e f.
      (let s : State = called (asked x.state.core) x.state in
      ended-by (λ y. Grows x.state.out y.state.out) s.core.ending (record x { state = s; at = x.at + 1 }) (called-grows (asked x.state.core) x.state));
}

pub output_grows : OutputGrows
output_grows around code x =
    step-by around code x (IfMach (λ y. Grows x.state.out y.state.out)) tt
    (λ form e. walked around form (without_text x) (IfMach (λ y. Grows x.state.out y.state.out)) (grow-walk around form (without_text x)))

pub runs_compose : RunsCompose
unfolding arun_from
runs_compose p rs m zero s = let e : m + 0 ≡ m = omega arith in ap (λ k. arun_from p rs k s) e
runs_compose p rs m (suc n) s =
    let e : m + suc n ≡ suc (m + n) = omega arith in
    ap (λ k. arun_from p rs k s) e ∙ ap (onward p rs) (runs_compose p rs m n s)

onward-ended : (p : Addresses) (rs : List Routine) (s : Status) → HasEnded s → onward p rs s ≡ s
onward-ended p rs (Going r) h = absurd h
onward-ended p rs (Gone s) h = refl
onward-ended p rs Broken h = refl

pub ended_runs_stay : EndedRunsStay
unfolding arun_from
ended_runs_stay p rs zero s h = refl
ended_runs_stay p rs (suc n) s h = ap (onward p rs) (ended_runs_stay p rs n s h) ∙ onward-ended p rs s h
