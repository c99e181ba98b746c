-- What the calls of a command are, whatever the command: stages that only read, and programs that ran.
use Rattle.std.proofs.Common.{◌≡◌, ◌≢◌, ℕ, true, false, List, [], ◌∷◌, ◌++◌, map, take, Option, None, Result, Ok, Err, refl, sym, ◌∙◌, ap, subst, append-nil}
use Rattle.std.proofs.lemmas.List.{map-append}
use Rattle.p9_base.specs.Calls.{Call, OnFiles, OnStream, StreamCall, Failing, CallsFine, CallsEnd}
use Rattle.p9_base.specs.Outside.{FileCall, ReadCall}
use Rattle.p9_base.specs.declared.outside.Got.TheVariants as got
use Rattle.p9_suite.proofs.Calls.{AreReads, reads_append, after_fine, names_append, names_streams, names_reads}
use Rattle.p9_suite.proofs.Ran as runs
use Rattle.p9_suite.specs.Answers.{status, refusal_status}
use Rattle.p9_suite.specs.Scene.{failing_at, has_run, is_early, names_written}
use Rattle.p9_suite.specs.Stages.{Stage, Then, stops, goes_on, ReadsFile, found, absent, read_fault, read_no_memory, name_no_memory}
use Rattle.p9_suite.specs.Suite.{answer_of}
use Rattle.p9_suite.specs.declared.answer.Answer.{Answer}
use Rattle.p9_suite.specs.declared.answer.Answer.TheVariants.{Refused}
use Rattle.p9_suite.specs.declared.answer.Refusal.{Refusal}

-- Stages that only read

-- the object whose call failed, where the result is a refusal
abbrev pub failed_in : {A : Type 0} → Result A Refusal → Option Failing
failed_in (Ok value) = None
failed_in (Err why) = failing_at (refusal_status why)

pub record OnlyReads {A : Type 0} (r : Result A Refusal) (calls : List FileCall) : Type 0 where
  pub reads : AreReads calls
  pub ends : CallsEnd (map OnFiles calls) (failed_in r)

pub then_reads : {A B : Type 0} (first : Stage FileCall A) (next : A → Stage FileCall B) → ((r : Result A Refusal) (calls : List FileCall) → first r calls → OnlyReads r calls) → ((value : A) (r : Result B Refusal) (calls : List FileCall) → next value r calls → OnlyReads r calls) → (r : Result B Refusal) (calls : List FileCall) → Then first next r calls → OnlyReads r calls
then_reads first next f n _ _ (stops why calls s) = let o = f (Err why) calls s in record { reads = o.reads; ends = o.ends }
then_reads first next f n _ _ (goes_on value r front behind s t) =
    let a = f (Ok value) front s in
    let b = n value r behind t in
    record {
      reads = reads_append front behind a.reads b.reads;
      ends = subst (λ (x : List Call). CallsEnd x (failed_in r)) (sym (map-append OnFiles front behind)) (after_fine (map OnFiles front) (map OnFiles behind) (failed_in r) a.ends b.ends);
    }

pub file_reads : (name : List ℕ) (r : Result (List ℕ) Refusal) (calls : List FileCall) → ReadsFile name r calls → OnlyReads r calls
file_reads name _ _ (found bytes) = record { reads = tt; ends = (refl, tt) }
file_reads name _ _ absent = record { reads = tt; ends = (refl, tt) }
file_reads name _ _ read_fault = record { reads = tt; ends = ([], OnFiles (ReadCall name got.Failed), refl, tt, refl) }
file_reads name _ _ read_no_memory = record { reads = tt; ends = (refl, tt) }
file_reads name _ _ name_no_memory = record { reads = tt; ends = tt }

-- What the calls of a command are

pub take_none : (names : List (List ℕ)) → take 0 names ≡ []
take_none [] = refl
take_none (x ∷ xs) = refl

true_false : true ≡ false → ⊥
true_false e = cc

pub record Tidy (names : List (List ℕ)) (answer : Answer) (calls : List Call) : Type 0 where
  pub ends : CallsEnd calls (failing_at (status answer))
  pub count : ℕ
  pub writes : names_written calls ≡ take count names
  pub early : is_early (status answer) ≡ true → names_written calls ≡ []
  pub quiet : has_run (status answer) ≡ false → (own : List FileCall) × (calls ≡ map OnFiles own)

pub reads_tidy : (names : List (List ℕ)) (why : Refusal) (own : List FileCall) → OnlyReads {A = Answer} (Err why) own → Tidy names (Refused why) (map OnFiles own)
reads_tidy names why own o = record {
  ends = o.ends;
  count = 0;
  writes = names_reads own o.reads ∙ sym (take_none names);
  early = λ _. names_reads own o.reads;
  quiet = λ _. (own, refl);
}

-- a program that ran behind calls that were fine
pub ran_tidy : (names : List (List ℕ)) (file : List ℕ) (budget : ℕ) (front : List Call) (count : ℕ) (r : Result Answer Refusal) (own : List StreamCall) → CallsFine front → names_written front ≡ take count names → runs.Simulated file budget r own → Tidy names (answer_of r) (front ++ map OnStream own)
ran_tidy names file budget front count r own fine writes s =
    subst (λ (x : Result Answer Refusal). Tidy names (answer_of x) (front ++ map OnStream own)) (sym s.is) (record {
      ends = after_fine front (map OnStream own) (failing_at (status s.answer)) fine s.ends;
      count = count;
      writes = names_append front (map OnStream own) ∙ (ap (λ (x : List (List ℕ)). names_written front ++ x) (names_streams own) ∙ (append-nil (names_written front) ∙ writes));
      early = λ e. absurd (true_false (sym e ∙ s.late));
      quiet = λ e. absurd (true_false (sym s.ran ∙ e));
    })

-- fine reads, and the calls behind them
pub behind_reads : (names : List (List ℕ)) (answer : Answer) (reads : List FileCall) (behind : List Call) → AreReads reads → CallsFine (map OnFiles reads) → Tidy names answer behind → Tidy names answer (map OnFiles reads ++ behind)
behind_reads names answer reads behind r fine t =
    let same : names_written (map OnFiles reads ++ behind) ≡ names_written behind =
    names_append (map OnFiles reads) behind ∙ ap (λ (x : List (List ℕ)). x ++ names_written behind) (names_reads reads r) in
    record {
      ends = after_fine (map OnFiles reads) behind (failing_at (status answer)) fine t.ends;
      count = t.count;
      writes = same ∙ t.writes;
      early = λ e. same ∙ t.early e;
      quiet = λ e. let q = t.quiet e in (reads ++ q.0, ap (λ (x : List Call). map OnFiles reads ++ x) q.1 ∙ sym (map-append OnFiles reads q.0));
    }

-- no command answers as words that are none

pub ran_usual : (file : List ℕ) (budget : ℕ) (r : Result Answer Refusal) (own : List StreamCall) → runs.Simulated file budget r own → status (answer_of r) ≢ 2
ran_usual file budget r own s e =
    let two : status s.answer ≡ 2 = ap (λ (x : Result Answer Refusal). status (answer_of x)) (sym s.is) ∙ e in
    true_false (sym s.ran ∙ ap has_run two)
