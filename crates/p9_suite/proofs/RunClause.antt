-- The clause of `run`.
use Rattle.std.proofs.Common.{◌≡◌, ◌≢◌, ℕ, true, false, List, [], ◌∷◌, map, Option, Some, Result, Ok, Err, inl, inr, refl, sym, ◌∙◌, ap, subst}
use Rattle.p9_base.specs.Calls.{Call, OnFiles, Objects, Did}
use Rattle.p9_base.specs.Outside.{Held}
use Rattle.p9_form.specs.declared.file.File.{File}
use Rattle.p9_abs.specs.BuiltIn.{linked}
use Rattle.p9_names.specs.Answers.{Joins}
use Rattle.p9_names.specs.declared.table.LinkFault.{LinkFault}
use Rattle.p9_names.specs.declared.table.LinkFault.TheVariants as links
use Rattle.p9_share.specs.Symbols.{module_of}
use Rattle.p9_suite.proofs.Calls.{reads_agree, reads_keep, of_store, split}
use Rattle.p9_suite.proofs.RunCases.{LinkCase, not_linked, no_link, has_linked, RunCase, unread_forms, read_forms, run_case, forms_read}
use Rattle.p9_suite.proofs.Exclusion.{absent_files, formless_files, absent_formless, refused_joined}
use Rattle.p9_suite.proofs.Executed.{executed_says}
use Rattle.p9_suite.proofs.Meaning.{Meaning}
use Rattle.p9_suite.proofs.Told.{if_held, files_told, FirstFault, forms_fault}
use Rattle.p9_suite.specs.Answers.{link_status}
use Rattle.p9_suite.specs.Scene.{Scene, IsAnswer, held, has_run}
use Rattle.p9_suite.specs.Suite.{Answered, Comes, CommandComes, answer_of, command}
use Rattle.p9_suite.specs.commands.{Command, RunCommand}
use Rattle.p9_suite.specs.commands.Run.{Run, RunStages, AreFiles, IsFirst, IsAbsent, IsFormless, AreRefused, RunAnswer, at_absent, at_formless, at_refused, at_run, OfFiles, FilesSay}
use Rattle.p9_suite.specs.declared.answer.Answer.{Answer}
use Rattle.p9_suite.specs.declared.answer.Answer.TheVariants.{Refused}
use Rattle.p9_suite.specs.declared.answer.Refusal.{Refusal}
use Rattle.p9_suite.specs.declared.answer.Refusal.TheVariants.{Absent, NotBuilt}

pub first_map : (P Q : (name : List ℕ) → Option (List ℕ) → Type 0) → ((name : List ℕ) (there : Option (List ℕ)) → P name there → Q name there) → (before : Held) (names : List (List ℕ)) → IsFirst P before names → IsFirst Q before names
first_map P Q f before [] i = i
first_map P Q f before (name ∷ names) (inl i) = inl (f name (before name) i)
first_map P Q f before (name ∷ names) (inr i) = inr (i.0, i.1, i.2, i.3, first_map P Q f before names i.4)

-- there is such a name
some_first : (P : (name : List ℕ) → Option (List ℕ) → Type 0) (before : Held) (names : List (List ℕ)) → IsFirst P before names → (name : List ℕ) × (there : Option (List ℕ)) × P name there
some_first P before [] i = absurd i
some_first P before (name ∷ names) (inl i) = (name, before name, i)
some_first P before (name ∷ names) (inr i) = some_first P before names i.4

-- The answer

module _ {I O F : Type 0} (call : Scene I O F) (means : Meaning call) (run : Run) (before : Held) (at : held call ≡ Some before) (nine : call.status ≢ 9) (ten : call.status ≢ 10) where
  not_read : (why : Refusal) → FirstFault before run.files why → IsAnswer call (Refused why) → RunAnswer call run before
  not_read why (inl f) is =
      at_absent (first_map (λ name there. IsAbsent name there × (why ≡ Absent name)) (λ name there. IsAbsent name there × IsAnswer call (Refused (Absent name)))
      (λ name there p. (p.0, subst (λ (w : Refusal). IsAnswer call (Refused w)) p.1 is)) before run.files f)
  not_read why (inr f) is =
      at_formless (first_map (λ name there. IsFormless name there × (why ≡ NotBuilt name)) (λ name there. IsFormless name there × IsAnswer call (Refused (NotBuilt name)))
      (λ name there p. (p.0, subst (λ (w : Refusal). IsAnswer call (Refused w)) p.1 is)) before run.files f)

  linked_way : (files : List File) → AreFiles before run.files files → (r : Result Answer Refusal) (calls : List Call) (middle : Objects I O F) → middle.input ≡ call.old.input → middle.out ≡ call.old.out → call.telling.held middle.files ≡ Some before → LinkCase run files r calls → Did call.doing middle calls call.new → IsAnswer call (answer_of r) → RunAnswer call run before
  linked_way files are _ _ middle i o h (not_linked why refused) d is = at_refused files are why ((λ e. ten (is.0 ∙ ap link_status e)), refused) is
  linked_way files are _ _ middle i o h no_link d is = absurd (ten is.0)
  linked_way files are r _ middle i o h (has_linked bytes program _ calls e) d is =
      let says = executed_says call means before nine ten run.output run.budget bytes r calls middle i o h e d is in at_run files are bytes program says.0 says.1

  by_way : (r : Result Answer Refusal) (calls : List Call) → RunCase run r calls → Did call.doing call.old calls call.new → IsAnswer call (answer_of r) → RunAnswer call run before
  by_way _ _ (unread_forms why own s) d is =
      let o = of_store call.doing.takes call.doing.puts call.doing.stores own call.old call.new d in
      let agree = reads_agree call.doing.takes call.doing.puts call.telling.held call.counts.store_faults call.doing.stores means.stores before own call.old.files call.new.files (forms_read run.files (Err why) own s).reads at o.did in
      not_read why (forms_fault before run.files why own s agree (λ e. nine (is.0 ∙ e)) (λ e. ten (is.0 ∙ e))) is
  by_way r _ (read_forms files own s _ behind l) d is =
      let b = split call.doing.takes call.doing.puts call.doing.stores (map OnFiles own) behind call.old call.new d in
      let o = of_store call.doing.takes call.doing.puts call.doing.stores own call.old b.middle b.first in
      let reads = (forms_read run.files (Ok files) own s).reads in
      let agree = reads_agree call.doing.takes call.doing.puts call.telling.held call.counts.store_faults call.doing.stores means.stores before own call.old.files b.middle.files reads at o.did in
      let same = reads_keep call.doing.takes call.doing.puts call.telling.held call.counts.store_faults call.doing.stores means.stores own call.old.files b.middle.files reads o.did in
      linked_way files (files_told before run.files files own s agree) r behind b.middle o.input o.out (same ∙ at) l b.then is

pub run_answer : {I O F : Type 0} (call : Scene I O F) → Meaning call → Answered call → (run : Run) (before : Held) → command call ≡ Some (RunCommand run) → held call ≡ Some before → call.status ≢ 9 → call.status ≢ 10 → RunAnswer call run before
run_answer call means a run before w at nine ten =
    let comes : Comes (RunStages run) a.answer a.calls = subst (λ (c : Option Command). CommandComes c a.answer a.calls) w a.comes in
    by_way call means run before at nine ten comes.0 a.calls (run_case run comes.0 a.calls comes.2) a.did (subst (IsAnswer call) comes.1 a.is)

-- The statuses

five : (why : LinkFault) → why ≢ links.Memory → link_status why ≡ 5
five (links.Twice name i j) n = refl
five links.NoMain n = refl
five (links.MainType i) n = refl
five (links.Unresolved name i) n = refl
five (links.Disagree name i j) n = refl
five links.Memory n = absurd (n refl)

false_true : {n : ℕ} {m : ℕ} → has_run n ≡ true → n ≡ m → has_run m ≡ false → ⊥
false_true h e f = let x : true ≡ false = sym h ∙ (ap has_run e ∙ f) in no x
  where
    no : true ≡ false → ⊥
    no x = cc

six_sixteen : ◌≡◌ {A = ℕ} 6 16 → ⊥
six_sixteen e = cc

six_five : ◌≡◌ {A = ℕ} 6 5 → ⊥
six_five e = cc

sixteen_five : ◌≡◌ {A = ℕ} 16 5 → ⊥
sixteen_five e = cc

-- the status of each answer
pub data StatusOf {I O F : Type 0} (call : Scene I O F) (run : Run) (before : Held) : Type 0 where
  six : call.status ≡ 6 → IsFirst IsAbsent before run.files → StatusOf call run before
  sixteen : call.status ≡ 16 → IsFirst IsFormless before run.files → StatusOf call run before
  refusal : call.status ≡ 5 → (files : List File) → AreFiles before run.files files → (why : LinkFault) → AreRefused files why → StatusOf call run before
  other : has_run call.status ≡ true → (files : List File) → AreFiles before run.files files → Joins (linked (map module_of files)) → StatusOf call run before

status_of : {I O F : Type 0} (call : Scene I O F) (run : Run) (before : Held) → RunAnswer call run before → StatusOf call run before
status_of call run before (at_absent f) =
    let s = some_first (λ name there. IsAbsent name there × IsAnswer call (Refused (Absent name))) before run.files f in
    six s.2.1.0 (first_map (λ name there. IsAbsent name there × IsAnswer call (Refused (Absent name))) IsAbsent (λ name there p. p.0) before run.files f)
status_of call run before (at_formless f) =
    let s = some_first (λ name there. IsFormless name there × IsAnswer call (Refused (NotBuilt name))) before run.files f in
    sixteen s.2.1.0 (first_map (λ name there. IsFormless name there × IsAnswer call (Refused (NotBuilt name))) IsFormless (λ name there p. p.0) before run.files f)
status_of call run before (at_refused files are why r is) = refusal (is.0 ∙ five why r.0) files are why r
status_of call run before (at_run files are bytes program there o) = other o.ran files are program.joins

of_files : {I O F : Type 0} (call : Scene I O F) (run : Run) (before : Held) → RunAnswer call run before → StatusOf call run before → OfFiles call run before
of_files call run before answer (six s f) = record {
  answer = answer;
  absent = ((λ _. f), (λ _. s));
  formless = ((λ e. absurd (six_sixteen (sym s ∙ e))), (λ g. absurd (absent_formless before run.files f g)));
  refused = ((λ e. absurd (six_five (sym s ∙ e))), (λ g. absurd (absent_files before run.files g.0 f g.1)));
  joined = λ n _ _. absurd (n s);
}
of_files call run before answer (sixteen s f) = record {
  answer = answer;
  absent = ((λ e. absurd (six_sixteen (sym e ∙ s))), (λ g. absurd (absent_formless before run.files g f)));
  formless = ((λ _. f), (λ _. s));
  refused = ((λ e. absurd (sixteen_five (sym s ∙ e))), (λ g. absurd (formless_files before run.files g.0 f g.1)));
  joined = λ _ n _. absurd (n s);
}
of_files call run before answer (refusal s files are why r) = record {
  answer = answer;
  absent = ((λ e. absurd (six_five (sym e ∙ s))), (λ g. absurd (absent_files before run.files files g are)));
  formless = ((λ e. absurd (sixteen_five (sym e ∙ s))), (λ g. absurd (formless_files before run.files files g are)));
  refused = ((λ _. (files, are, why, r)), (λ _. s));
  joined = λ _ _ n. absurd (n s);
}
of_files call run before answer (other h files are joins) = record {
  answer = answer;
  absent = ((λ e. absurd (false_true h e refl)), (λ g. absurd (absent_files before run.files files g are)));
  formless = ((λ e. absurd (false_true h e refl)), (λ g. absurd (formless_files before run.files files g are)));
  refused = ((λ e. absurd (false_true h e refl)), (λ g. absurd (refused_joined before run.files g.0 files g.2 g.1 g.3 are joins)));
  joined = λ _ _ _. (files, are, joins);
}

pub run_says : {I O F : Type 0} (call : Scene I O F) → Meaning call → Answered call → (run : Run) → command call ≡ Some (RunCommand run) → FilesSay call run
run_says call means a run w nine ten = if_held call (λ before. OfFiles call run before) (λ before at.
    let answer = run_answer call means a run before w at nine ten in of_files call run before answer (status_of call run before answer))
