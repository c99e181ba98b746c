-- The ways on which `vi` comes to its result, each with its calls.
use Rattle.std.proofs.Common.{◌≡◌, ◌≢◌, ℕ, List, [], ◌∷◌, ◌++◌, map, Option, Result, Ok, Err, refl, sym, subst}
use Rattle.p9_aout.specs.Image.{image_of}
use Rattle.p9_aout.specs.declared.format.AoutFault.{AoutFault}
use Rattle.p9_base.specs.Calls.{Call, OnFiles, OnStream, StreamCall, Failing, CallsEnd}
use Rattle.p9_base.specs.Outside.{FileCall, ReadCall}
use Rattle.p9_base.specs.declared.outside.Got.TheVariants as got
use Rattle.p9_suite.proofs.Ran as runs
use Rattle.p9_suite.proofs.Refusals.{no_usage, executable_fine}
use Rattle.p9_suite.proofs.Tidy.{Tidy, reads_tidy, ran_tidy, ran_usual, file_reads}
use Rattle.p9_suite.specs.Answers.{status}
use Rattle.p9_suite.specs.Simulation.{Simulates, RunsFile}
use Rattle.p9_suite.specs.Stages.{stops, goes_on, OnStreams, ReadsFile, found, loaded, unloaded, load_no_memory}
use Rattle.p9_suite.specs.Suite.{answer_of}
use Rattle.p9_suite.specs.commands.Vi.{Vi, ViStages}
use Rattle.p9_suite.specs.declared.answer.Answer.{Answer}
use Rattle.p9_suite.specs.declared.answer.Refusal.{Refusal}
use Rattle.p9_suite.specs.declared.answer.Refusal.TheVariants.{Executable, Memory}

pub data ViCase (vi : Vi) : Result Answer Refusal → List Call → Type 0 where
  unread : (why : Refusal) (own : List FileCall) → ReadsFile vi.file (Err why) own → ViCase vi (Err why) (map OnFiles own)
  refused : (bytes : List ℕ) (why : AoutFault) → image_of bytes ≡ Err why → ViCase vi (Err (Executable vi.file why)) (OnFiles (ReadCall vi.file (got.Found bytes)) ∷ [])
  no_machine : (bytes : List ℕ) → ViCase vi (Err Memory) (OnFiles (ReadCall vi.file (got.Found bytes)) ∷ [])
  simulated : (bytes : List ℕ) (r : Result Answer Refusal) (own : List StreamCall) → Simulates bytes vi.budget r own → ViCase vi r (OnFiles (ReadCall vi.file (got.Found bytes)) ∷ map OnStream own)

vi_ran : (vi : Vi) (bytes : List ℕ) (r : Result Answer Refusal) (own : List StreamCall) → RunsFile vi.file bytes vi.budget r own → ViCase vi r (OnFiles (ReadCall vi.file (got.Found bytes)) ∷ map OnStream own)
vi_ran vi bytes _ _ (stops _ _ (unloaded why e)) = refused bytes why e
vi_ran vi bytes _ _ (stops _ _ load_no_memory) = no_machine bytes
vi_ran vi bytes r _ (goes_on _ _ _ behind (loaded parts e) s) = simulated bytes r behind s

vi_read : (vi : Vi) (bytes : List ℕ) (own : List FileCall) (r : Result Answer Refusal) (behind : List Call) → ReadsFile vi.file (Ok bytes) own → OnStreams (RunsFile vi.file bytes vi.budget) r behind → ViCase vi r (map OnFiles own ++ behind)
vi_read vi _ _ r behind (found bytes) (own, e, s) =
    subst (λ (x : List Call). ViCase vi r (OnFiles (ReadCall vi.file (got.Found bytes)) ∷ x)) (sym e) (vi_ran vi bytes r own s)

pub vi_case : (vi : Vi) (r : Result Answer Refusal) (calls : List Call) → ViStages vi r calls → ViCase vi r calls
vi_case vi _ _ (stops why calls (own, e, s)) = subst (λ (x : List Call). ViCase vi (Err why) x) (sym e) (unread why own s)
vi_case vi r _ (goes_on bytes _ front behind (own, e, s) t) = subst (λ (x : List Call). ViCase vi r (x ++ behind)) (sym e) (vi_read vi bytes own r behind s t)

-- What their calls are

pub vi_tidy : (vi : Vi) (r : Result Answer Refusal) (calls : List Call) → ViCase vi r calls → Tidy [] (answer_of r) calls
vi_tidy vi _ _ (unread why own s) = let o = file_reads vi.file (Err why) own s in reads_tidy [] why own (record { reads = o.reads; ends = o.ends })
vi_tidy vi _ _ (refused bytes why e) = record {
  ends = subst (λ (f : Option Failing). CallsEnd (OnFiles (ReadCall vi.file (got.Found bytes)) ∷ []) f) (sym (executable_fine why).fine) (refl, tt);
  count = 0;
  writes = refl;
  early = λ _. refl;
  quiet = λ _. (ReadCall vi.file (got.Found bytes) ∷ [], refl);
}
vi_tidy vi _ _ (no_machine bytes) = record {
  ends = (refl, tt);
  count = 0;
  writes = refl;
  early = λ _. refl;
  quiet = λ _. (ReadCall vi.file (got.Found bytes) ∷ [], refl);
}
vi_tidy vi r _ (simulated bytes _ own s) =
    ran_tidy [] bytes vi.budget (OnFiles (ReadCall vi.file (got.Found bytes)) ∷ []) 0 r own (refl, tt) refl (runs.simulated bytes vi.budget r own s)

pub vi_usual : (vi : Vi) (r : Result Answer Refusal) (calls : List Call) → ViCase vi r calls → status (answer_of r) ≢ 2
vi_usual vi _ _ (unread why own s) = no_usage why
vi_usual vi _ _ (refused bytes why e) = (executable_fine why).usual
vi_usual vi _ _ (no_machine bytes) = no_usage Memory
vi_usual vi r _ (simulated bytes _ own s) = ran_usual bytes vi.budget r own (runs.simulated bytes vi.budget r own s)
