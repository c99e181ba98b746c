-- A call of the suite: its answer, what holds of it whatever its command, and what its command says.
use Rattle.std.specs.Prelude.{◌≡◌, ◌≢◌, ◌↔◌, ℕ, true, false, List, [], Option, Some, None, IfSome, IsSomeAnd, take, Result, Ok, Err}
use Rattle.std.specs.List.{Contains}
use Rattle.p9_base.specs.Calls.{Call, Did, CallsEnd}
use Rattle.p9_base.specs.Outside.{Rose}
use Rattle.p9_suite.specs.commands.{Command, CommandSays, command_of, outputs, stages}
use Rattle.p9_suite.specs.declared.answer.Answer.{Answer}
use Rattle.p9_suite.specs.declared.answer.Answer.TheVariants.{Usage, Refused}
use Rattle.p9_suite.specs.declared.answer.Refusal.{Refusal}
use Rattle.p9_suite.specs.Scene.{Scene, IsAnswer, held, held_now, failing_at, has_run, is_early, names_written}
use Rattle.p9_suite.specs.Stages.{Stage}

-- the command of its words
abbrev pub command : {I O F : Type 0} → Scene I O F → Option Command
command call = command_of call.words

-- The answer

-- what the last stage gives, or the refusal that ended the command
abbrev pub answer_of : Result Answer Refusal → Answer
answer_of (Ok answer) = answer
answer_of (Err why) = Refused why

abbrev pub Comes : Stage Call Answer → Answer → List Call → Type 0
Comes way answer calls = (result : Result Answer Refusal) × (answer ≡ answer_of result) × way result calls

-- the calls by which a command comes to an answer; words that are none make no call
abbrev pub CommandComes : Option Command → Answer → List Call → Type 0
CommandComes None answer calls = (answer ≡ Usage) × (calls ≡ [])
CommandComes (Some command) answer calls = Comes (stages command) answer calls

-- the calls that were made are those by which the command comes to an answer, and the status and the line are its
pub record Answered {I O F : Type 0} (call : Scene I O F) : Type 0 where
  pub answer : Answer
  pub calls : List Call
  pub did : Did call.doing call.old calls call.new
  pub comes : CommandComes (command call) answer calls
  pub is : IsAnswer call answer

-- Every command

-- No call follows one that failed, and the status says whose call that was. Of the names that the command may write
-- so many have been written, in their order and each once, and none before an early refusal.
pub record MadeCalls {I O F : Type 0} (call : Scene I O F) : Type 0 where
  pub calls : List Call
  pub did : Did call.doing call.old calls call.new
  pub ends : CallsEnd calls (failing_at call.status)
  pub count : ℕ
  pub writes : names_written calls ≡ take count (outputs (command call))
  pub early : is_early call.status ≡ true → names_written calls ≡ []

pub record OfEveryCommand {I O F : Type 0} (call : Scene I O F) : Type 0 where
  -- 2 exactly where the words are no command
  pub usage : (call.status ≡ 2) ↔ (command call ≡ None)
  -- 7 exactly where a call on the source failed: its count rose, and at every other status it stays
  pub read_fault : call.status ≡ 7 → Rose (call.counts.input_faults call.old.input) (call.counts.input_faults call.new.input)
  pub no_read_fault : call.status ≢ 7 → call.counts.input_faults call.new.input ≡ call.counts.input_faults call.old.input
  -- 8 exactly where a call on the sink failed
  pub write_fault : call.status ≡ 8 → Rose (call.counts.out_faults call.old.out) (call.counts.out_faults call.new.out)
  pub no_write_fault : call.status ≢ 8 → call.counts.out_faults call.new.out ≡ call.counts.out_faults call.old.out
  -- 9 exactly where a call on the store failed
  pub store_fault : call.status ≡ 9 → Rose (call.counts.store_faults call.old.files) (call.counts.store_faults call.new.files)
  pub no_store_fault : call.status ≢ 9 → call.counts.store_faults call.new.files ≡ call.counts.store_faults call.old.files
  pub made : MadeCalls call
  -- where no program ran, the source and the sink are as they were
  pub untouched : has_run call.status ≡ false → (call.new.input ≡ call.old.input) × (call.new.out ≡ call.old.out)
  -- an early refusal leaves the store as it was
  pub unwritten : is_early call.status ≡ true → held_now call ≡ held call
  -- whatever the status, every name that the command doesn't write has what it had
  pub others : IfSome (held call) (λ before. IsSomeAnd (held_now call) (λ now. (name : List ℕ) →
      ¬ (Contains (outputs (command call)) name) → now name ≡ before name))

-- where the words are a command, what that command says of its call
abbrev pub Says : {I O F : Type 0} → Scene I O F → Type 0
Says call = IfSome (command call) (CommandSays call)
