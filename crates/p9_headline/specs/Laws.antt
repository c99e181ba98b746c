-- What follows from the headline.
use Rattle.std.specs.Prelude.{◌≡◌, ℕ, ◌+◌, List}
use Rattle.p9_base.specs.declared.halt.HaltCause.{HaltCause}
use Rattle.p9_vi.specs.Run.{HasHalted}
use Rattle.p9_headline.specs.Headline.{SourceRun, Ended, AreDefined, HasExited, KeepsMeaning}

-- two exits of one run are the same
abbrev pub ExitsAreUnique : Type 0
ExitsAreUnique =
    (bytes input : List ℕ) (m n : ℕ) (output text left other end rest : List ℕ) →
    HasExited bytes input m output text left → HasExited bytes input n other end rest →
    (output ≡ other) × (text ≡ end) × (left ≡ rest)

-- where the machine has exited after m steps, a source that is defined has ended in m + 1 turns, in the same way
abbrev pub DefinedSourcesHaveEnded : Type 0
DefinedSourcesHaveEnded =
    (source : SourceRun) (bytes input : List ℕ) (m : ℕ) (output text left : List ℕ) →
    KeepsMeaning source bytes → AreDefined source input → HasExited bytes input m output text left →
    source input (m + 1) ≡ Ended output text left

-- where the source is defined, the machine never halts
abbrev pub NoHaltOfDefinedSources : Type 0
NoHaltOfDefinedSources =
    (source : SourceRun) (bytes input : List ℕ) (m : ℕ) (output : List ℕ) (cause : HaltCause) (pc : ℕ) →
    KeepsMeaning source bytes → AreDefined source input → HasHalted bytes input m output cause pc → ⊥
