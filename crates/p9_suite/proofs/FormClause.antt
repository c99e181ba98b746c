-- What is special to the form of C so far.
use Rattle.std.proofs.Common.{◌≡◌, ◌≢◌, ◌≤◌, ℕ, ◌+◌, true, false, List, ◌∷◌, ◌++◌, map, Option, Some, None, Result, Ok, refl, sym, ◌∙◌, ap, subst}
use Rattle.std.specs.Prelude.{IsSomeAnd}
use Rattle.p9_agree.specs.Depth.{IsNotDeep}
use Rattle.p9_base.specs.CallBytes.{IsSteady, brought_in, written_in}
use Rattle.p9_base.specs.Calls.{Call, OnFiles, OnStream, StreamCall, StreamsDid, Did}
use Rattle.p9_base.specs.Core.{Core}
use Rattle.p9_base.specs.Outside.{FileCall, WriteCall}
use Rattle.p9_base.specs.SystemCalls.{State, state, exit_text}
use Rattle.p9_base.specs.declared.halt.Ending.{Ending}
use Rattle.p9_base.specs.declared.halt.Ending.TheVariants as endings
use Rattle.p9_first.specs.declared.Cause.{Cause}
use Rattle.p9_first.specs.declared.Place.{Place}
use Rattle.p9_first.specs.CRun.{source_run}
use Rattle.p9_first.specs.Modules.{Source}
use Rattle.p9_first.specs.Turns.{Outcome}
use Rattle.p9_first.specs.Turns as outcome
use Rattle.p9_form.specs.declared.file.File.{File}
use Rattle.p9_form.specs.Items.{source_of}
use Rattle.p9_headline.proofs.Exited.{exit_later}
use Rattle.p9_headline.proofs.Sources.{ended_as_exited}
use Rattle.p9_headline.specs.declared.TheConstants.{DEFAULT_BUDGET}
use Rattle.p9_headline.specs.Headline.{IsDefined, AreDefined, HasExited}
use Rattle.p9_headline.specs.Headline as seen
use Rattle.p9_straight.specs.Headline.{seen_of, union_run}
use Rattle.p9_vi.specs.Run.{vrun, IsExited}
use Rattle.p9_suite.proofs.Calls.{of_store, of_streams, split}
use Rattle.p9_suite.proofs.RunCases.{LinkCase, not_linked, no_link, has_linked, RunCase, unread_forms, read_forms, run_case}
use Rattle.p9_suite.proofs.Executed.{not_executed, ran_behind}
use Rattle.p9_suite.proofs.HeadlineClause.{modules_sources}
use Rattle.p9_suite.proofs.Meaning.{Meaning, told_by}
use Rattle.p9_suite.proofs.Ran as runs
use Rattle.p9_suite.proofs.Refusals.{no_run}
use Rattle.p9_suite.specs.Scene.{Scene, IsAnswer, has_run}
use Rattle.p9_suite.specs.Simulation.{IsRunBy, exit_answer, answer_by, answer_at}
use Rattle.p9_suite.specs.Suite.{Answered, Comes, CommandComes, answer_of, command}
use Rattle.p9_suite.specs.commands.{Command, RunCommand}
use Rattle.p9_suite.specs.commands.Run.{DoNothingUndefined, HaveEnded, OfForm, FormSays, Run, RunStages, ReadsForms, IsProgram}
use Rattle.p9_suite.specs.declared.answer.Answer.{Answer}
use Rattle.p9_suite.specs.declared.answer.Answer.TheVariants.{Refused}
use Rattle.p9_suite.specs.declared.answer.Refusal.{Refusal}
use Rattle.p9_suite.specs.declared.answer.Refusal.TheVariants.{Link, Memory}

-- The end of the sources

some_same : {A : Type 0} {x y : A} → Some x ≡ Some y → x ≡ y
some_same e = cc

defined : (input : List ℕ) (o : Outcome) → IsNotDeep o → ((output : List ℕ) (why : Cause) (place : Place) → o ≢ outcome.Undefined output why place) → IsDefined (seen_of input o)
defined input (outcome.Ended output text) deep undefined = tt
defined input (outcome.Out output) deep undefined = tt
defined input (outcome.Undefined output why place) deep undefined = absurd (undefined output why place refl)
defined input (outcome.Deep output place) deep undefined = deep

ended_same : {a b c x y z : List ℕ} → seen.Ended a b c ≡ seen.Ended x y z → (a ≡ x) × (b ≡ y)
ended_same e = (first e, second e)
  where
    first : {a b c x y z : List ℕ} → seen.Ended a b c ≡ seen.Ended x y z → a ≡ x
    first e = cc

    second : {a b c x y z : List ℕ} → seen.Ended a b c ≡ seen.Ended x y z → b ≡ y
    second e = cc

no_out : {a b x y z : List ℕ} → seen.Out a b ≡ seen.Ended x y z → ⊥
no_out e = cc

no_other : {x y z : List ℕ} → seen.Other ≡ seen.Ended x y z → ⊥
no_other e = cc

ended_of : (input : List ℕ) (o : Outcome) (output text rest : List ℕ) → seen_of input o ≡ seen.Ended output text rest → o ≡ outcome.Ended output text
ended_of input (outcome.Ended a b) output text rest e = let s = ended_same e in λ i. outcome.Ended (s.0 i) (s.1 i)
ended_of input (outcome.Out a) output text rest e = absurd (no_out e)
ended_of input (outcome.Undefined a why place) output text rest e = absurd (no_other e)
ended_of input (outcome.Deep a place) output text rest e = absurd (no_other e)

-- a machine that has exited is answered by its text
exit_by : (budget : ℕ) (core : Core) (e : Ending) → IsExited e → answer_by budget core e ≡ exit_answer (exit_text core)
exit_by budget core endings.Running x = absurd x
exit_by budget core (endings.Exited at size) x = refl
exit_by budget core (endings.Halted cause pc) x = absurd x

exit_of : (budget : ℕ) (core : Core) (after out : List ℕ) (v : Option State) (output text rest : List ℕ) → v ≡ Some (state core after out) → IsSomeAnd v (λ s. IsExited s.core.ending × (exit_text s.core ≡ text) × (s.out ≡ output) × (s.left ≡ rest)) → (answer_at budget core ≡ exit_answer text) × (out ≡ output)
unfolding state
exit_of budget core after out None output text rest e h = absurd h
exit_of budget core after out (Some s) output text rest e h =
    let same : s ≡ state core after out = some_same e in
    let x : IsExited core.ending = subst (λ (t : State). IsExited t.core.ending) same h.0 in
    let t : exit_text core ≡ text = ap (λ (t : State). exit_text t.core) (sym same) ∙ h.1 in
    (exit_by budget core core.ending x ∙ ap exit_answer t, ap (λ (t : State). t.out) (sym same) ∙ h.2)

has_ended : {I O F : Type 0} (call : Scene I O F) (run : Run) (files : List File) (bytes : List ℕ) (own : List StreamCall) (answer : Answer) → DEFAULT_BUDGET ≤ run.budget → IsProgram files bytes → IsRunBy bytes run.budget own answer → IsAnswer call answer → (after : List ℕ) → IsSteady own after → DoNothingUndefined (map source_of files) (brought_in own ++ after) → HaveEnded call (map source_of files) (brought_in own ++ after) (written_in own)
has_ended call run files bytes own answer enough program b is after steady fine =
    let input : List ℕ = brought_in own ++ after in
    let sources : List Source = map source_of files in
    let runs_defined : AreDefined (union_run sources) input = λ turns. defined input (source_run sources input turns) (program.has_room input turns) (fine turns) in
    let exit = program.ends input runs_defined in
    let later : HasExited bytes input run.budget exit.0 exit.1 input = exit_later bytes input DEFAULT_BUDGET run.budget exit.0 exit.1 input enough exit.2 in
    let machine = exit_of run.budget b.end after (written_in own) (vrun bytes input run.budget) exit.0 exit.1 input (b.runs after steady) later in
    let source = ended_as_exited (union_run sources) bytes input run.budget exit.0 exit.1 input program.keeps runs_defined later in
    record {
      text = exit.1;
      turns = run.budget + 1;
      ended =
          ended_of input (source_run sources input (run.budget + 1)) exit.0 exit.1 input source
          ∙ ap (λ (x : List ℕ). outcome.Ended x exit.1) (sym machine.1);
      answers = subst (IsAnswer call) (b.answers ∙ machine.0) is;
    }

-- The clause

false_true : false ≡ true → ⊥
false_true e = cc

module _ {I O F : Type 0} (call : Scene I O F) (means : Meaning call) (run : Run) (enough : DEFAULT_BUDGET ≤ run.budget) (ran : has_run call.status ≡ true) (seven : call.status ≢ 7) (eight : call.status ≢ 8) where
  refused : (why : Refusal) → IsAnswer call (Refused why) → OfForm call run
  refused why is = absurd (false_true (sym (no_run why) ∙ (ap has_run (sym is.0) ∙ ran)))

  whole : (files : List File) (reads : List FileCall) (bytes : List ℕ) (own : List StreamCall) (answer : Answer) → ReadsForms run.files (Ok files) reads → IsProgram files bytes → IsRunBy bytes run.budget own answer → IsAnswer call answer
      → Did call.doing call.old (map OnFiles reads ++ OnFiles (WriteCall run.output bytes (Ok tt)) ∷ map OnStream own) call.new → OfForm call run
  whole files reads bytes own answer are program b is d =
      let s = split call.doing.takes call.doing.puts call.doing.stores (map OnFiles reads) (OnFiles (WriteCall run.output bytes (Ok tt)) ∷ map OnStream own) call.old call.new d in
      let o = of_store call.doing.takes call.doing.puts call.doing.stores reads call.old s.middle s.first in
      let streams = of_streams call.doing.takes call.doing.puts call.doing.stores own s.then.0 call.new s.then.2 in
      let did : StreamsDid call.doing.takes call.doing.puts call.old.input call.old.out own call.new.input call.new.out =
      subst (λ x. StreamsDid call.doing.takes call.doing.puts x call.old.out own call.new.input call.new.out) (s.then.1.1 ∙ o.input)
      (subst (λ x. StreamsDid call.doing.takes call.doing.puts s.then.0.input x own call.new.input call.new.out) (s.then.1.2 ∙ o.out) streams.did) in
      let told = told_by call own means did in
      record {
        files = files;
        reads = reads;
        bytes = bytes;
        behind = own;
        did = d;
        are = are;
        program = program;
        answer = answer;
        answers = is;
        runs = b;
        takes = λ input at. let t = told.input input at in (t.after, t.split, t.steady, t.left);
        puts = told.out;
        ends = has_ended call run files bytes own answer enough program b is;
        modules = modules_sources files;
      }

  by_link : (files : List File) (reads : List FileCall) (r : Result Answer Refusal) (behind : List Call) → ReadsForms run.files (Ok files) reads → LinkCase run files r behind → IsAnswer call (answer_of r) → Did call.doing call.old (map OnFiles reads ++ behind) call.new → OfForm call run
  by_link files reads _ _ are (not_linked why h) is d = refused (Link why) is
  by_link files reads _ _ are no_link is d = refused Memory is
  by_link files reads _ _ are (has_linked bytes program _ _ (not_executed why own u)) is d = refused why is
  by_link files reads r _ are (has_linked bytes program _ _ (ran_behind _ own s)) is d =
      let sim = runs.simulated bytes run.budget r own s in
      let own_answer : IsAnswer call sim.answer = subst (λ (x : Result Answer Refusal). IsAnswer call (answer_of x)) sim.is is in
      whole files reads bytes own sim.answer are program (sim.whole (λ e. seven (own_answer.0 ∙ e)) (λ e. eight (own_answer.0 ∙ e))) own_answer d

  by_run : (r : Result Answer Refusal) (calls : List Call) → RunCase run r calls → IsAnswer call (answer_of r) → Did call.doing call.old calls call.new → OfForm call run
  by_run _ _ (unread_forms why own s) is d = refused why is
  by_run r _ (read_forms files own s _ behind l) is d = by_link files own r behind s l is d

pub form_says : {I O F : Type 0} (call : Scene I O F) → Meaning call → Answered call → (run : Run) → command call ≡ Some (RunCommand run) → FormSays call run
form_says call means a run w enough ran seven eight =
    let comes : Comes (RunStages run) a.answer a.calls = subst (λ (c : Option Command). CommandComes c a.answer a.calls) w a.comes in
    by_run call means run enough ran seven eight comes.0 a.calls (run_case run comes.0 a.calls comes.2) (subst (IsAnswer call) comes.1 a.is) a.did
