use Rattle.std.proofs.Common.{◌≡◌, Err, refl, sym, ap, subst, ◌∙◌}
use Rattle.p9_cpp.specs.Units.{Run, State, begun, main_run, no_state, ends}
use Rattle.p9_lex.specs.declared.token.Tokens.{Tokens}
use Rattle.p9_cpp.specs.declared.fault.CppFault.{CppFault}
use Rattle.p9_cpp.specs.Calls.{state_of, ComesTo, IsEnded}
use Rattle.p9_cpp.proofs.Walking.{counts_memory, counts_behind}
use Rattle.p9_cpp.proofs.Complete.{unbegun, main_stopped, main_ended, main_unfinished}
use Rattle.p9_cpp.proofs.whole.unit_of.Goals as goal

pub returns-in-Err-clause-comes : goal.returns-in-Err-clause-comes
returns-in-Err-clause-comes g c =
    let begins = λ (s : State). begun main_run c.args.name.now c.args.bytes s in
    unbegun g.F.Files.did c.args.files.now c.in-Err.fault (begins no_state)
    (subst (λ s. IsEnded c.in-Err.fault (begins s)) c.new-unit.ensures.value (c.in-Err.ensures.begun main_run))

pub returns-in-Err-go_through-clause-comes : goal.returns-in-Err-go_through-clause-comes
returns-in-Err-go_through-clause-comes g c =
    let begins = λ (s : State). begun main_run c.args.name.now c.args.bytes s in
    main_stopped g.F.Files.did c.args.files.now c.go_through.new.files c.in-Err-go_through.fault c.in-Ok.source (state_of c.begin.new.unit) (begins no_state) (ends (state_of c.go_through.new.unit))
    (ap begins (sym c.new-unit.ensures.value) ∙ c.in-Ok.ensures.begun main_run) c.in-Err-go_through.ensures.comes

pub returns-in-Ok-finish-clause-comes : goal.returns-in-Ok-finish-clause-comes
returns-in-Ok-finish-clause-comes g c =
    let begins = λ (s : State). begun main_run c.args.name.now c.args.bytes s in
    let f = c.in-Ok-finish.ensures in
    main_ended g.F.Files.did c.args.files.now c.go_through.new.files c.in-Ok.source (state_of c.begin.new.unit) (state_of c.go_through.new.unit) (begins no_state) c.in-Ok-go_through.end c.in-Ok-finish.tokens
    (ap begins (sym c.new-unit.ensures.value) ∙ c.in-Ok.ensures.begun main_run) c.in-Ok-go_through.ensures.comes c.in-Ok-go_through.ensures.end f.list f.sources f.marks

pub returns-clause-comes : goal.returns-clause-comes
returns-clause-comes g c =
    let begins = λ (s : State). begun main_run c.args.name.now c.args.bytes s in
    subst (λ (e : CppFault). ComesTo g.F.Files.did c.args.files.now c.go_through.new.files (Err e) (begins no_state)) (sym c.in-Err-finish.ensures.memory)
    (main_unfinished g.F.Files.did c.args.files.now c.go_through.new.files c.in-Ok.source (state_of c.begin.new.unit) (begins no_state) (ends (state_of c.go_through.new.unit)) c.in-Ok-go_through.end
    (ap begins (sym c.new-unit.ensures.value) ∙ c.in-Ok.ensures.begun main_run) c.in-Ok-go_through.ensures.comes)

pub returns-in-Err-clause-counts : goal.returns-in-Err-clause-counts
returns-in-Err-clause-counts g c = counts_memory {A = Tokens} (Err c.in-Err.fault) (g.F.Files.faults c.args.files.now) (g.F.Files.faults c.args.files.now) c.in-Err.ensures.memory refl

pub returns-in-Err-go_through-clause-counts : goal.returns-in-Err-go_through-clause-counts
returns-in-Err-go_through-clause-counts g c =
    counts_behind c.in-Err-go_through.fault (g.F.Files.faults c.args.files.now) (g.F.Files.faults c.args.files.now) (g.F.Files.faults c.go_through.new.files) refl c.in-Err-go_through.ensures.counts

pub returns-clause-counts : goal.returns-clause-counts
returns-clause-counts g c =
    counts_memory {A = Tokens} (Err c.in-Err-finish.fault) (g.F.Files.faults c.args.files.now) (g.F.Files.faults c.go_through.new.files) c.in-Err-finish.ensures.memory c.in-Ok-go_through.ensures.counts
