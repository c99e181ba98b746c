-- The ways on which `run` comes to its result, each with its calls.
use Rattle.std.proofs.Common.{◌≢◌, ℕ, List, [], ◌∷◌, ◌++◌, map, Option, Result, Ok, Err, refl, sym, subst}
use Rattle.p9_abs.specs.BuiltIn.{linked}
use Rattle.p9_aout.specs.Image.{parts_of}
use Rattle.p9_base.specs.Calls.{Call, OnFiles, Failing, CallsEnd}
use Rattle.p9_base.specs.Outside.{FileCall}
use Rattle.p9_form.specs.declared.file.File.{File}
use Rattle.p9_names.specs.Answers.{IsRefusal}
use Rattle.p9_names.specs.declared.table.LinkFault.{LinkFault}
use Rattle.p9_share.specs.Symbols.{module_of}
use Rattle.p9_suite.proofs.EachFile.{each_reads}
use Rattle.p9_suite.proofs.Executed.{Executed, executed, executed_tidy, executed_usual}
use Rattle.p9_suite.proofs.Refusals.{no_usage, link_fine}
use Rattle.p9_suite.proofs.Tidy.{OnlyReads, then_reads, file_reads, Tidy, reads_tidy, behind_reads}
use Rattle.p9_suite.specs.Answers.{status}
use Rattle.p9_suite.specs.Stages.{stops, goes_on, ReadsFile}
use Rattle.p9_suite.specs.Suite.{answer_of}
use Rattle.p9_suite.specs.commands.Run.{Run, TakesForm, taken, formless, take_no_memory, ReadsForm, ReadsForms, IsProgram, compiled, unlinked, link_no_memory, LinksAndRuns, RunStages}
use Rattle.p9_suite.specs.declared.answer.Answer.{Answer}
use Rattle.p9_suite.specs.declared.answer.Refusal.{Refusal}
use Rattle.p9_suite.specs.declared.answer.Refusal.TheVariants.{Link, Memory}

-- Reading

form_takes : (name bytes : List ℕ) (r : Result File Refusal) (calls : List FileCall) → TakesForm name bytes r calls → OnlyReads r calls
form_takes name bytes _ _ (taken file f m) = record { reads = tt; ends = tt }
form_takes name bytes _ _ (formless n) = record { reads = tt; ends = tt }
form_takes name bytes _ _ take_no_memory = record { reads = tt; ends = tt }

form_reads : (name : List ℕ) (r : Result File Refusal) (calls : List FileCall) → ReadsForm name r calls → OnlyReads r calls
form_reads name = then_reads (ReadsFile name) (TakesForm name) (file_reads name) (form_takes name)

pub forms_read : (names : List (List ℕ)) (r : Result (List File) Refusal) (calls : List FileCall) → ReadsForms names r calls → OnlyReads r calls
forms_read = each_reads ReadsForm form_reads

-- The ways

-- the calls behind the reads
pub data LinkCase (run : Run) (files : List File) : Result Answer Refusal → List Call → Type 0 where
  not_linked : (why : LinkFault) → IsRefusal (linked (map module_of files)) why → LinkCase run files (Err (Link why)) []
  no_link : LinkCase run files (Err Memory) []
  has_linked : (bytes : List ℕ) → IsProgram files bytes → (r : Result Answer Refusal) (calls : List Call) → Executed run.output run.budget bytes r calls → LinkCase run files r calls

pub link_case : (run : Run) (files : List File) (r : Result Answer Refusal) (calls : List Call) → LinksAndRuns run.output run.budget files r calls → LinkCase run files r calls
link_case run files _ _ (stops _ _ (unlinked why h)) = not_linked why h
link_case run files _ _ (stops _ _ link_no_memory) = no_link
link_case run files r _ (goes_on _ _ _ behind (compiled bytes program) t) = has_linked bytes program r behind (executed run.output run.budget bytes (parts_of program.stripped.image, program.stripped.is) r behind t)

pub data RunCase (run : Run) : Result Answer Refusal → List Call → Type 0 where
  unread_forms : (why : Refusal) (own : List FileCall) → ReadsForms run.files (Err why) own → RunCase run (Err why) (map OnFiles own)
  read_forms : (files : List File) (own : List FileCall) → ReadsForms run.files (Ok files) own → (r : Result Answer Refusal) (behind : List Call) → LinkCase run files r behind → RunCase run r (map OnFiles own ++ behind)

pub run_case : (run : Run) (r : Result Answer Refusal) (calls : List Call) → RunStages run r calls → RunCase run r calls
run_case run _ _ (stops why calls (own, e, s)) = subst (λ (x : List Call). RunCase run (Err why) x) (sym e) (unread_forms why own s)
run_case run r _ (goes_on files _ front behind (own, e, s) t) =
    subst (λ (x : List Call). RunCase run r (x ++ behind)) (sym e) (read_forms files own s r behind (link_case run files r behind t))

-- What their calls are

link_tidy : (run : Run) (files : List File) (r : Result Answer Refusal) (calls : List Call) → LinkCase run files r calls → Tidy (run.output ∷ []) (answer_of r) calls
link_tidy run files _ _ (not_linked why h) = record {
  ends = subst (λ (f : Option Failing). CallsEnd [] f) (sym (link_fine why).fine) tt;
  count = 0;
  writes = refl;
  early = λ _. refl;
  quiet = λ _. ([], refl);
}
link_tidy run files _ _ no_link = record {
  ends = tt;
  count = 0;
  writes = refl;
  early = λ e. cc;
  quiet = λ _. ([], refl);
}
link_tidy run files r _ (has_linked bytes program _ calls e) = executed_tidy run.output run.budget bytes r calls e

pub run_tidy : (run : Run) (r : Result Answer Refusal) (calls : List Call) → RunCase run r calls → Tidy (run.output ∷ []) (answer_of r) calls
run_tidy run _ _ (unread_forms why own s) = let o = forms_read run.files (Err why) own s in reads_tidy (run.output ∷ []) why own (record { reads = o.reads; ends = o.ends })
run_tidy run r _ (read_forms files own s _ behind l) =
    let o = forms_read run.files (Ok files) own s in behind_reads (run.output ∷ []) (answer_of r) own behind o.reads o.ends (link_tidy run files r behind l)

link_usual : (run : Run) (files : List File) (r : Result Answer Refusal) (calls : List Call) → LinkCase run files r calls → status (answer_of r) ≢ 2
link_usual run files _ _ (not_linked why h) = (link_fine why).usual
link_usual run files _ _ no_link = no_usage Memory
link_usual run files r _ (has_linked bytes program _ calls e) = executed_usual run.output run.budget bytes r calls e

pub run_usual : (run : Run) (r : Result Answer Refusal) (calls : List Call) → RunCase run r calls → status (answer_of r) ≢ 2
run_usual run _ _ (unread_forms why own s) = no_usage why
run_usual run r _ (read_forms files own s _ behind l) = link_usual run files r behind l
