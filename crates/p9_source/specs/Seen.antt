-- What is seen of a run by the meaning of C: what the headline speaks of.
use Rattle.std.specs.Prelude.{◌≡◌, ◌≤◌, ℕ, List}
use Rattle.p9_lang.specs.declared.module.Module.{Module}
use Rattle.p9_cmean.specs.Turns.{Outcome}
use Rattle.p9_cmean.specs.Turns as outcome
use Rattle.p9_cmean.specs.CRun.{crun}
use Rattle.p9_headline.specs.Headline.{Seen, SourceRun, Ended, Out, Other, KeepsMeaning}

-- of an outcome: the output and the input that is left are its state's
abbrev pub seen_of : Outcome → Seen
seen_of (outcome.Ended text state) = Ended state.output text state.input
seen_of (outcome.Out waits state) = Out state.output state.input
seen_of (outcome.Undefined why place state) = Other
seen_of (outcome.Deep place state) = Other
seen_of (outcome.NoOutcome place state) = Other

-- of the union of C modules
abbrev pub source_of : List Module → SourceRun
source_of modules input turns = seen_of (crun modules input turns)

-- an executable keeps the meaning of C modules
abbrev pub KeepsModules : List Module → (bytes : List ℕ) → Type 0
KeepsModules modules bytes = KeepsMeaning (source_of modules) bytes

-- with more turns a run that has ended is seen as before
abbrev pub EndedIsSeen : Type 0
EndedIsSeen =
    (modules : List Module) (input : List ℕ) (m n : ℕ) (output text left : List ℕ) → m ≤ n
    → source_of modules input m ≡ Ended output text left → source_of modules input n ≡ Ended output text left
