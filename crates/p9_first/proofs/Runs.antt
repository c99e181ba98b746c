-- Runs with more turns.
use Rattle.std.proofs.Common.{◌≡◌, ◌≤◌, ℕ, ◌+◌, ◌-◌, List, refl, sym, ap, subst, arith}
use Rattle.p9_first.specs.declared.module.Module.{Module}
use Rattle.p9_first.specs.Modules.{Source, sources_of}
use Rattle.p9_first.specs.Turns.{Outcome, Ended, Out, Undefined, Deep, End, Gave, Over, calls_to}
use Rattle.p9_first.specs.CRun.{functions_of, main_call, first_state, run_of, outcome_of, copied_of, source_run, crun, copied}
use Rattle.p9_first.specs.Union.{base_need}
use Rattle.p9_first.specs.PlayLaws.{Begins, output_of, GoesOn, RunsGoOn, OutputGrows}
use Rattle.p9_first.proofs.Outputs.{begins_refl}
use Rattle.p9_first.proofs.Later.{Later, output_at, calls_go_on}
use Rattle.p9_first.proofs.Fitting.{functions_fit}

output_outcome : (e : End) → output_of (outcome_of e) ≡ output_at e
output_outcome (Gave v s n c) = refl
output_outcome (Over o c) = refl

goes_on : (more : ℕ) (e later : End) → Later more e later → GoesOn (outcome_of e) (outcome_of later)
goes_on more (Gave v s n c) later h = ap outcome_of h
goes_on more (Over (Ended o t) c) later h = ap outcome_of h
goes_on more (Over (Out o) c) later h = subst (Begins o) (sym (output_outcome later)) h
goes_on more (Over (Undefined o why place) c) later h = ap outcome_of h
goes_on more (Over (Deep o place) c) later h = ap outcome_of h

run_goes_on : (modules : List Source) (input : List ℕ) (m n : ℕ) → m ≤ n → GoesOn (source_run modules input m) (source_run modules input n)
unfolding source_run
run_goes_on modules input m n le =
    let e : m + (n - m) ≡ n = omega arith in
    let most : m + (n - m) ≤ n = omega arith in
    goes_on (n - m) (run_of modules input m) (run_of modules input n)
    (subst (λ i. Later (n - m) (run_of modules input m) (calls_to n (functions_of modules) base_need i 0 (main_call modules) (first_state modules input))) e
    (calls_go_on (functions_of modules) (functions_fit modules) m n base_need m (n - m) 0 (main_call modules) (first_state modules input) (omega arith) most))

pub runs_go_on : RunsGoOn
unfolding crun
runs_go_on modules input m n le = run_goes_on (sources_of modules) input m n le

begins_on : (o later : Outcome) → GoesOn o later → Begins (output_of o) (output_of later)
begins_on (Ended o t) later h = subst (λ r. Begins o (output_of r)) (sym h) (begins_refl o)
begins_on (Out o) later h = h
begins_on (Undefined o why place) later h = subst (λ r. Begins o (output_of r)) (sym h) (begins_refl o)
begins_on (Deep o place) later h = subst (λ r. Begins o (output_of r)) (sym h) (begins_refl o)

pub output_grows : OutputGrows
output_grows modules input m n le = begins_on (crun modules input m) (crun modules input n) (runs_go_on modules input m n le)

-- what `crun` and `copied` are, for rewriting
pub crun_is : (modules : List Module) (input : List ℕ) (n : ℕ) → crun modules input n ≡ source_run (sources_of modules) input n
unfolding crun
crun_is modules input n = refl

pub source_run_is : (modules : List Source) (input : List ℕ) (n : ℕ) → source_run modules input n ≡ outcome_of (run_of modules input n)
unfolding source_run
source_run_is modules input n = refl

pub copied_is : (modules : List Module) (input : List ℕ) (n : ℕ) → copied modules input n ≡ copied_of (run_of (sources_of modules) input n)
unfolding copied
copied_is modules input n = refl
