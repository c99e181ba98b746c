-- Runs with more turns.
use Rattle.std.proofs.Common.{◌≡◌, ◌≤◌, ℕ, ◌+◌, ◌-◌, List, refl, sym, ap, subst, arith}
use Rattle.p9_lang.specs.declared.module.Module.{Module}
use Rattle.p9_lang.specs.Modules.{Source, sources_of}
use Rattle.p9_cmean.specs.Turns.{Outcome, Ended, Out, Undefined, Deep, NoOutcome, End, Gave, Over, calls_to, state_of, outcome_of, copied_of}
use Rattle.p9_cmean.specs.Union.{Union, union_of, base_need}
use Rattle.p9_cmean.specs.CRun.{functions_of, main_call, first_state, run_of, return_text, source_run, crun, copied}
use Rattle.p9_cmean.specs.PlayLaws.{Goes, GoesOn}
use Rattle.p9_cmean.specs.RunLaws.{RunsGoOn, OutputGrows, InputFalls}
use Rattle.p9_cmean.proofs.Going.{goes_refl}
use Rattle.p9_cmean.proofs.Later.{Later, state_at, calls_go_on}
use Rattle.p9_cmean.proofs.Fitting.{functions_fit}

state_outcome : (text : List ℕ) (e : End) → state_of (outcome_of text e) ≡ state_at e
state_outcome text (Gave v s n c) = refl
state_outcome text (Over o c) = refl

goes_on : (text : List ℕ) (more : ℕ) (e later : End) → Later more e later → GoesOn (outcome_of text e) (outcome_of text later)
goes_on text more (Gave v s n c) later h = ap (outcome_of text) h
goes_on text more (Over (Ended t s) c) later h = ap (outcome_of text) h
goes_on text more (Over (Out waits s) c) later h = subst (Goes s) (sym (state_outcome text later)) h
goes_on text more (Over (Undefined why place s) c) later h = ap (outcome_of text) h
goes_on text more (Over (Deep place s) c) later h = ap (outcome_of text) h
goes_on text more (Over (NoOutcome place s) c) later h = ap (outcome_of text) h

run_goes_on : (union : Union) (input : List ℕ) (m n : ℕ) → m ≤ n → GoesOn (outcome_of return_text (run_of union input m)) (outcome_of return_text (run_of union input n))
run_goes_on union input m n le =
    let e : m + (n - m) ≡ n = omega arith in
    let most : m + (n - m) ≤ n = omega arith in
    goes_on return_text (n - m) (run_of union input m) (run_of union input n)
    (subst (λ i. Later (n - m) (run_of union input m) (calls_to n (functions_of union) base_need i 0 (main_call union) (first_state union input))) e
    (calls_go_on (functions_of union) (functions_fit union) m n base_need m (n - m) 0 (main_call union) (first_state union input) (omega arith) most))

pub runs_go_on : RunsGoOn
unfolding crun source_run
runs_go_on modules input m n le = run_goes_on (union_of (sources_of modules)) input m n le

goes_later : (o later : Outcome) → GoesOn o later → Goes (state_of o) (state_of later)
goes_later (Ended text s) later h = subst (λ r. Goes s (state_of r)) (sym h) (goes_refl s)
goes_later (Out waits s) later h = h
goes_later (Undefined why place s) later h = subst (λ r. Goes s (state_of r)) (sym h) (goes_refl s)
goes_later (Deep place s) later h = subst (λ r. Goes s (state_of r)) (sym h) (goes_refl s)
goes_later (NoOutcome place s) later h = subst (λ r. Goes s (state_of r)) (sym h) (goes_refl s)

pub output_grows : OutputGrows
output_grows modules input m n le = (goes_later (crun modules input m) (crun modules input n) (runs_go_on modules input m n le)).0

pub input_falls : InputFalls
input_falls modules input m n le = (goes_later (crun modules input m) (crun modules input n) (runs_go_on modules input m n le)).1

-- what `crun` and `copied` are, for rewriting
pub crun_is : (modules : List Module) (input : List ℕ) (n : ℕ) → crun modules input n ≡ source_run (sources_of modules) input n
unfolding crun
crun_is modules input n = refl

pub source_run_is : (modules : List Source) (input : List ℕ) (n : ℕ) → source_run modules input n ≡ outcome_of return_text (run_of (union_of modules) input n)
unfolding source_run
source_run_is modules input n = refl

pub copied_is : (modules : List Module) (input : List ℕ) (n : ℕ) → copied modules input n ≡ copied_of (run_of (union_of (sources_of modules)) input n)
unfolding copied
copied_is modules input n = refl
