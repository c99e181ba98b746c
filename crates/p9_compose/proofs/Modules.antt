-- The union of C modules as a program.
use Rattle.std.proofs.Common.{◌≡◌, ◌≢◌, ◌⊎◌, inl, inr, ℕ, refl, sym, ap, ◌∙◌, subst}
use Rattle.p9_cmean.specs.Cells as c
use Rattle.p9_cmean.specs.Cells.{FunctionName}
use Rattle.p9_cmean.specs.Plays.{Call}
use Rattle.p9_cmean.specs.Union.{Union, FunctionEntry, base_need}
use Rattle.p9_cmean.specs.SystemCalls.{SystemCall}
use Rattle.p9_cmean.specs.CRun.{Callee, System, Defined, NoCallee, callee, callee_body, functions_of, main_call, first_state}
use Rattle.p9_cmean.proofs.Fitting.{bodies_last}
use Rattle.p9_compose.specs.Calling.{HasCode, IsMeaningless, IsAbsent, UnionIsProgram, MainIsRight}
use Rattle.p9_compose.proofs.Composing.{calls_are_right}

system-is : (system : SystemCall) → System system ≢ NoCallee
system-is system h = cc

defined-is : (entry : FunctionEntry) → Defined entry ≢ NoCallee
defined-is entry h = cc

absent-body : (union : Union) (turns : ℕ) (call : Call) (s : c.State) (name : FunctionName) → callee union name ≡ NoCallee → call.function ≡ name → IsMeaningless (callee_body union turns (callee union call.function) call s)
absent-body union turns call s name none same = subst (λ o. IsMeaningless (callee_body union turns o call s)) (sym (ap (callee union) same ∙ none)) tt

pub union_is_program : UnionIsProgram
union_is_program p rs g union most codes = record { codes = λ name. by name (callee union name) refl; last = bodies_last union }
  where
    by : (name : FunctionName) (o : Callee) → callee union name ≡ o → HasCode p rs g (functions_of union) most name ⊎ IsAbsent (functions_of union) name
    by name NoCallee e = inr (λ turns call s same. absent-body union turns call s name e same)
    by name (System system) e = inl (codes name (λ h. system-is system (sym e ∙ h)))
    by name (Defined entry) e = inl (codes name (λ h. defined-is entry (sym e ∙ h)))

pub main_is_right : MainIsRight
main_is_right p rs g union most codes input turns m f kept callers rt y z is word eq at =
    calls_are_right p rs g (functions_of union) most (union_is_program p rs g union most codes) (main_call union) (first_state union input) turns 0 base_need m f kept callers rt y z is word eq at
