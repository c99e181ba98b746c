-- C that can't be built where it stands.
use Rattle.std.proofs.Common.{◌≡◌, ◌≢◌, ℕ, List, [], Option, Some, Result, Err, inl, inr, refl, subst, sym}
use Rattle.p9_base.specs.Calls.{Call}
use Rattle.p9_suite.proofs.Refusals.{no_usage}
use Rattle.p9_suite.proofs.Tidy.{Tidy}
use Rattle.p9_suite.specs.Answers.{status}
use Rattle.p9_suite.specs.Scene.{Scene, IsAnswer}
use Rattle.p9_suite.specs.Suite.{Answered, Comes, CommandComes, answer_of, command}
use Rattle.p9_suite.specs.commands.{Command, NotBuiltCommand, TellsNotBuilt, NotBuiltSays}
use Rattle.p9_suite.specs.declared.answer.Answer.{Answer}
use Rattle.p9_suite.specs.declared.answer.Refusal.{Refusal}
use Rattle.p9_suite.specs.declared.answer.Refusal.TheVariants.{NotBuilt, Memory}

-- a refusal that makes no call
data Told (file : List ℕ) : Result Answer Refusal → List Call → Type 0 where
  named : Told file (Err (NotBuilt file)) []
  no_memory : Told file (Err Memory) []

told : (file : List ℕ) (r : Result Answer Refusal) (calls : List Call) → TellsNotBuilt file r calls → Told file r calls
told file r calls (inl e, n) = subst (λ (x : Result Answer Refusal). Told file x calls) (sym e) (subst (λ (x : List Call). Told file (Err (NotBuilt file)) x) (sym n) named)
told file r calls (inr e, n) = subst (λ (x : Result Answer Refusal). Told file x calls) (sym e) (subst (λ (x : List Call). Told file (Err Memory) x) (sym n) no_memory)

tidy : (file : List ℕ) (r : Result Answer Refusal) (calls : List Call) → Told file r calls → Tidy [] (answer_of r) calls
tidy file _ _ named = record { ends = tt; count = 0; writes = refl; early = λ _. refl; quiet = λ _. ([], refl) }
tidy file _ _ no_memory = record { ends = tt; count = 0; writes = refl; early = λ _. refl; quiet = λ _. ([], refl) }

usual : (file : List ℕ) (r : Result Answer Refusal) (calls : List Call) → Told file r calls → status (answer_of r) ≢ 2
usual file _ _ named = no_usage (NotBuilt file)
usual file _ _ no_memory = no_usage Memory

pub not_built_tidy : (file : List ℕ) (r : Result Answer Refusal) (calls : List Call) → TellsNotBuilt file r calls → Tidy [] (answer_of r) calls
not_built_tidy file r calls t = tidy file r calls (told file r calls t)

pub not_built_usual : (file : List ℕ) (r : Result Answer Refusal) (calls : List Call) → TellsNotBuilt file r calls → status (answer_of r) ≢ 2
not_built_usual file r calls t = usual file r calls (told file r calls t)

says : {I O F : Type 0} (call : Scene I O F) (file : List ℕ) (r : Result Answer Refusal) (calls : List Call) → Told file r calls → IsAnswer call (answer_of r) → NotBuiltSays call file
says call file _ _ named is ten = is
says call file _ _ no_memory is ten = absurd (ten is.0)

pub not_built_says : {I O F : Type 0} (call : Scene I O F) → Answered call → (file : List ℕ) → command call ≡ Some (NotBuiltCommand file) → NotBuiltSays call file
not_built_says call a file w =
    let comes : Comes (TellsNotBuilt file) a.answer a.calls = subst (λ (c : Option Command). CommandComes c a.answer a.calls) w a.comes in
    says call file comes.0 a.calls (told file comes.0 a.calls comes.2) (subst (IsAnswer call) comes.1 a.is)
