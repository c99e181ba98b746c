-- The ways on which an executable is written and then simulated, each with its calls, and what they tell.
use Rattle.std.proofs.Common.{◌≡◌, ◌≢◌, ℕ, List, [], ◌∷◌, ◌++◌, map, take, Option, Some, Result, Ok, Err, refl, sym, ◌∙◌, ap, subst}
use Rattle.std.specs.Prelude.{IsSomeAnd}
use Rattle.p9_aout.specs.Image.{ImageParts, image_of}
use Rattle.p9_base.specs.Calls.{Call, OnFiles, OnStream, StreamCall, Objects, Did, CallsFine}
use Rattle.p9_base.specs.Outside.{Held, FileCall, WriteCall}
use Rattle.p9_base.specs.declared.outside.FileFault.TheVariants as store
use Rattle.p9_suite.proofs.Calls.{of_streams, stands}
use Rattle.p9_suite.proofs.Meaning.{Meaning}
use Rattle.p9_suite.proofs.Ran as runs
use Rattle.p9_suite.proofs.Refusals.{no_usage}
use Rattle.p9_suite.proofs.Tidy.{Tidy, ran_tidy, ran_usual}
use Rattle.p9_suite.proofs.Told.{simulation_told}
use Rattle.p9_suite.specs.Answers.{status}
use Rattle.p9_suite.specs.Scene.{Scene, IsAnswer, held_now, names_written}
use Rattle.p9_suite.specs.Simulation.{Simulates, RunsFile, WritesAndRuns}
use Rattle.p9_suite.specs.Stages.{stops, goes_on, OnStreams, WritesFile, written, write_fault, write_no_memory, output_no_memory, loaded, unloaded, load_no_memory}
use Rattle.p9_suite.specs.Suite.{answer_of}
use Rattle.p9_suite.specs.Told.{OfRun}
use Rattle.p9_suite.specs.declared.answer.Answer.{Answer}
use Rattle.p9_suite.specs.declared.answer.Refusal.{Refusal}
use Rattle.p9_suite.specs.declared.answer.Refusal.TheVariants.{StoreFault, Memory}

-- calls on the store behind which memory ran out: at most the write
pub record RanOut (output : List ℕ) (own : List FileCall) : Type 0 where
  pub fine : CallsFine (map OnFiles own)
  pub count : ℕ
  pub names : names_written (map OnFiles own) ≡ take count (output ∷ [])

-- bytes that are written: not at all, or with a fault, or so that memory ran out
pub data Unwritten (output bytes : List ℕ) : Refusal → List FileCall → Type 0 where
  out_of_memory : (own : List FileCall) → RanOut output own → Unwritten output bytes Memory own
  faulty : Unwritten output bytes (StoreFault output) (WriteCall output bytes (Err store.Failed) ∷ [])

pub unwritten : (output bytes : List ℕ) (why : Refusal) (own : List FileCall) → WritesFile output bytes (Err why) own → Unwritten output bytes why own
unwritten output bytes _ _ write_fault = faulty
unwritten output bytes _ _ write_no_memory = out_of_memory (WriteCall output bytes (Err store.NoMemory) ∷ []) (record { fine = (refl, tt); count = 1; names = refl })
unwritten output bytes _ _ output_no_memory = out_of_memory [] (record { fine = tt; count = 0; names = refl })

pub unwritten_tidy : (output bytes : List ℕ) (why : Refusal) (own : List FileCall) → Unwritten output bytes why own → Tidy (output ∷ []) (answer_of (Err why)) (map OnFiles own)
unwritten_tidy output bytes _ _ (out_of_memory own o) = record {
  ends = o.fine;
  count = o.count;
  writes = o.names;
  early = λ e. cc;
  quiet = λ _. (own, refl);
}
unwritten_tidy output bytes _ _ faulty = record {
  ends = ([], OnFiles (WriteCall output bytes (Err store.Failed)), refl, tt, refl);
  count = 1;
  writes = refl;
  early = λ e. cc;
  quiet = λ _. (WriteCall output bytes (Err store.Failed) ∷ [], refl);
}

-- The ways

pub data Executed (output : List ℕ) (budget : ℕ) (bytes : List ℕ) : Result Answer Refusal → List Call → Type 0 where
  not_executed : (why : Refusal) (own : List FileCall) → Unwritten output bytes why own → Executed output budget bytes (Err why) (map OnFiles own)
  ran_behind : (r : Result Answer Refusal) (own : List StreamCall) → Simulates bytes budget r own → Executed output budget bytes r (OnFiles (WriteCall output bytes (Ok tt)) ∷ map OnStream own)

abbrev pub IsImage : (bytes : List ℕ) → Type 0
IsImage bytes = (parts : ImageParts) × (image_of bytes ≡ Ok parts)

not_both : {E A : Type 0} {a : A} {e : E} {r : Result A E} → r ≡ Ok a → r ≡ Err e → ⊥
not_both p q = cc

module _ (output : List ℕ) (budget : ℕ) (bytes : List ℕ) (image : IsImage bytes) where
  simulated : (r : Result Answer Refusal) (own : List StreamCall) → RunsFile output bytes budget r own → Executed output budget bytes r (OnFiles (WriteCall output bytes (Ok tt)) ∷ map OnStream own)
  simulated _ _ (stops _ _ (unloaded why e)) = absurd (not_both image.1 e)
  simulated _ _ (stops _ _ load_no_memory) = not_executed Memory (WriteCall output bytes (Ok tt) ∷ []) (out_of_memory (WriteCall output bytes (Ok tt) ∷ []) (record { fine = (refl, tt); count = 1; names = refl }))
  simulated r _ (goes_on _ _ _ behind (loaded parts e) s) = ran_behind r behind s

  wrote : (done : Unit {0}) (own : List FileCall) (r : Result Answer Refusal) (behind : List Call) → WritesFile output bytes (Ok done) own → OnStreams (RunsFile output bytes budget) r behind → Executed output budget bytes r (map OnFiles own ++ behind)
  wrote done _ r behind written (own, e, s) = subst (λ (x : List Call). Executed output budget bytes r (OnFiles (WriteCall output bytes (Ok tt)) ∷ x)) (sym e) (simulated r own s)

  pub executed : (r : Result Answer Refusal) (calls : List Call) → WritesAndRuns output budget bytes r calls → Executed output budget bytes r calls
  executed _ _ (stops why calls (own, e, s)) = subst (λ (x : List Call). Executed output budget bytes (Err why) x) (sym e) (not_executed why own (unwritten output bytes why own s))
  executed r _ (goes_on done _ front behind (own, e, s) t) = subst (λ (x : List Call). Executed output budget bytes r (x ++ behind)) (sym e) (wrote done own r behind s t)

-- What their calls are

pub executed_tidy : (output : List ℕ) (budget : ℕ) (bytes : List ℕ) (r : Result Answer Refusal) (calls : List Call) → Executed output budget bytes r calls → Tidy (output ∷ []) (answer_of r) calls
executed_tidy output budget bytes _ _ (not_executed why own u) = unwritten_tidy output bytes why own u
executed_tidy output budget bytes r _ (ran_behind _ own s) =
    ran_tidy (output ∷ []) bytes budget (OnFiles (WriteCall output bytes (Ok tt)) ∷ []) 1 r own (refl, tt) refl (runs.simulated bytes budget r own s)

pub executed_usual : (output : List ℕ) (budget : ℕ) (bytes : List ℕ) (r : Result Answer Refusal) (calls : List Call) → Executed output budget bytes r calls → status (answer_of r) ≢ 2
executed_usual output budget bytes _ _ (not_executed why own u) = no_usage why
executed_usual output budget bytes r _ (ran_behind _ own s) = ran_usual bytes budget r own (runs.simulated bytes budget r own s)

-- What they tell

-- bytes stand in the store
abbrev pub Stands : {I O F : Type 0} → Scene I O F → (output bytes : List ℕ) → Type 0
Stands call output bytes = IsSomeAnd (held_now call) (λ now. now output ≡ Some bytes)

module _ {I O F : Type 0} (call : Scene I O F) (means : Meaning call) (before : Held) (nine : call.status ≢ 9) (ten : call.status ≢ 10) where
  pub not_unwritten : (output bytes : List ℕ) (why : Refusal) (own : List FileCall) → Unwritten output bytes why own → IsAnswer call (answer_of (Err why)) → ⊥
  not_unwritten output bytes _ _ (out_of_memory own o) is = ten is.0
  not_unwritten output bytes _ _ faulty is = nine is.0

  pub executed_says : (output : List ℕ) (budget : ℕ) (bytes : List ℕ) (r : Result Answer Refusal) (calls : List Call) (middle : Objects I O F) → middle.input ≡ call.old.input → middle.out ≡ call.old.out → call.telling.held middle.files ≡ Some before → Executed output budget bytes r calls → Did call.doing middle calls call.new → IsAnswer call (answer_of r) → Stands call output bytes × OfRun call bytes budget
  executed_says output budget bytes _ _ middle i o h (not_executed why own u) d is = absurd (not_unwritten output bytes why own u is)
  executed_says output budget bytes r _ middle i o h (ran_behind _ own s) d is =
      let streams = of_streams call.doing.takes call.doing.puts call.doing.stores own d.0 call.new d.2 in
      let there = stands call.doing.takes call.doing.puts call.telling.held call.counts.store_faults call.doing.stores means.stores output bytes middle.files d.0.files before h d.1.0 in (
        subst (λ (x : Option Held). IsSomeAnd x (λ now. now output ≡ Some bytes)) (ap call.telling.held (sym streams.files)) there,
        simulation_told call means bytes budget r own d.0.input d.0.out (d.1.1 ∙ i) (d.1.2 ∙ o) streams.did s is,
      )
