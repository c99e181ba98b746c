-- The simulation of an executable: the calls that it makes are those of the machine's steps.
use Rattle.std.specs.Prelude.{◌≡◌, ◌<◌, ◌≤◌, ℕ, List, [], ◌∷◌, ◌++◌, Some, Result, Ok}
use Rattle.p9_aout.specs.Image.{ImageParts, image_of}
use Rattle.p9_base.specs.CallBytes.{Stretch, calls_of, steps_of, IsSteady, brought_in, written_in}
use Rattle.p9_base.specs.Calls.{Call, StreamCall, StreamsFine, StreamsEnd, Failing, Input, Out}
use Rattle.p9_base.specs.Core.{Core}
use Rattle.p9_base.specs.SystemCalls.{state, exit_text}
use Rattle.p9_base.specs.declared.halt.Ending.{Ending}
use Rattle.p9_base.specs.declared.halt.Ending.TheVariants as endings
use Rattle.p9_vi.specs.Run.{vrun, start_of}
use Rattle.p9_vi.specs.Tied.{Goes, Fails}
use Rattle.p9_vi.specs.declared.stop.Stop.{Stop}
use Rattle.p9_vi.specs.declared.stop.Stop.TheVariants as stops
use Rattle.p9_suite.specs.declared.answer.Answer.{Answer}
use Rattle.p9_suite.specs.declared.answer.Answer.TheVariants.{Done, Ran}
use Rattle.p9_suite.specs.declared.answer.End.TheVariants.{Exit, ReadFault, WriteFault, Halted, Spent}
use Rattle.p9_suite.specs.declared.answer.Refusal.{Refusal}
use Rattle.p9_suite.specs.Stages.{Stage, Then, OnStore, OnStreams, WritesFile, Loads}

-- the answer to a program's text
abbrev pub exit_answer : List ℕ → Answer
exit_answer [] = Done
exit_answer (c ∷ cs) = Ran (Exit (c ∷ cs))

-- the answer to a run that has come to such an end
abbrev pub answer_by : (budget : ℕ) → Core → Ending → Answer
answer_by budget core endings.Running = Ran (Spent budget)
answer_by budget core (endings.Exited at length) = exit_answer (exit_text core)
answer_by budget core (endings.Halted cause pc) = Ran (Halted cause pc)

-- the answer to a simulation that has stopped so
abbrev pub stop_answer : (budget : ℕ) → Core → Stop → Answer
stop_answer budget core stops.Exit = exit_answer (exit_text core)
stop_answer budget core stops.Budget = Ran (Spent budget)
stop_answer budget core (stops.Halt cause pc) = Ran (Halted cause pc)
stop_answer budget core stops.ReadFault = Ran ReadFault
stop_answer budget core stops.WriteFault = Ran WriteFault

abbrev pub answer_at : (budget : ℕ) → Core → Answer
answer_at budget core = answer_by budget core core.ending

-- The calls are, in this order, those of the machine's steps from the file's image, of which no more than the budget
-- were made, and the answer is that of where the machine came to. So the file's run at the budget, whose input is what
-- the takes brought and whatever came behind it, reads just what they brought and writes what the puts wrote.
pub record IsRunBy (file : List ℕ) (budget : ℕ) (calls : List StreamCall) (answer : Answer) : Type 0 where
  pub parts : ImageParts
  pub image : image_of file ≡ Ok parts
  pub end : Core
  pub answers : answer ≡ answer_at budget end
  pub stretches : List Stretch
  pub are : calls ≡ calls_of stretches
  pub goes : Goes stretches (start_of parts []).core end
  pub within : steps_of stretches ≤ budget
  -- all of it, where the machine still runs
  pub spent : end.ending ≡ endings.Running → steps_of stretches ≡ budget
  -- the whole run
  pub runs : (l : List ℕ) → IsSteady calls l → vrun file (brought_in calls ++ l) budget ≡ Some (state end l (written_in calls))

-- The calls are those of fewer steps than the budget, and then those of a system call of which the last failed.
pub record IsRunTo (file : List ℕ) (budget : ℕ) (calls : List StreamCall) (object : Failing) : Type 0 where
  pub parts : ImageParts
  pub image : image_of file ≡ Ok parts
  pub before : Core
  pub stretches : List Stretch
  pub last : List StreamCall
  pub are : calls ≡ calls_of stretches ++ last
  pub goes : Goes stretches (start_of parts []).core before
  pub fewer : steps_of stretches < budget
  pub end : Core
  pub fails : Fails (Some object) last before end
  -- the run up to that system call
  pub runs : (l : List ℕ) → IsSteady (calls_of stretches) l →
      vrun file (brought_in (calls_of stretches) ++ l) (steps_of stretches) ≡ Some (state before l (written_in (calls_of stretches)))

-- an executable is simulated: no call fails, or only the last
pub data Simulates (file : List ℕ) (budget : ℕ) : Result Answer Refusal → List StreamCall → Type 0 where
  stopped : (answer : Answer) (calls : List StreamCall) →
      StreamsFine calls → IsRunBy file budget calls answer → Simulates file budget (Ok answer) calls
  read_failed : (calls : List StreamCall) →
      StreamsEnd calls (Some Input) → IsRunTo file budget calls Input → Simulates file budget (Ok (Ran ReadFault)) calls
  write_failed : (calls : List StreamCall) →
      StreamsEnd calls (Some Out) → IsRunTo file budget calls Out → Simulates file budget (Ok (Ran WriteFault)) calls

-- a file's bytes are taken as an executable, and simulated
abbrev pub RunsFile : (name bytes : List ℕ) (budget : ℕ) → Stage StreamCall Answer
RunsFile name bytes budget = Then (Loads name bytes) (λ parts. Simulates bytes budget)

-- bytes are written as a file, and the same bytes are simulated
abbrev pub WritesAndRuns : (output : List ℕ) (budget : ℕ) (bytes : List ℕ) → Stage Call Answer
WritesAndRuns output budget bytes = Then (OnStore (WritesFile output bytes)) (λ _. OnStreams (RunsFile output bytes budget))
