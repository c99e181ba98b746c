-- The headline: an executable keeps the meaning of a source. No language is named: a source is its run, which says
-- what is seen of it for each input and number of turns.
use Rattle.std.specs.Prelude.{◌≡◌, ◌≤◌, ℕ, List, IsSomeAnd}
use Rattle.p9_base.specs.declared.halt.Ending.TheVariants.{Running}
use Rattle.p9_r3k.specs.Machine.{exit_text}
use Rattle.p9_vi.specs.Run.{vrun, IsExited}

-- Sources

-- what is seen of a run: its output, the text with which it has ended, and the input that it has left. It has ended;
-- or it is out of turns; or it has done something undefined or was too deep, of which nothing is promised
pub data Seen : Type 0 where
  Ended : (output text left : List ℕ) → Seen
  Out : (output left : List ℕ) → Seen
  Other : Seen

-- what is seen for this input in so many turns
abbrev pub SourceRun : Type 0
SourceRun = (input : List ℕ) (turns : ℕ) → Seen

-- a run that has done nothing undefined, and had room for its calls
abbrev pub IsDefined : Seen → Type 0
IsDefined (Ended output text left) = Unit {0}
IsDefined (Out output left) = Unit {0}
IsDefined Other = ⊥

-- for this input the source never does anything undefined, and always has room
abbrev pub AreDefined : SourceRun → (input : List ℕ) → Type 0
AreDefined source input = (turns : ℕ) → IsDefined (source input turns)

-- Executables

-- after m steps the machine has exited, with this output and this text, and has this input left
abbrev pub HasExited : (bytes input : List ℕ) (m : ℕ) (output text left : List ℕ) → Type 0
HasExited bytes input m output text left =
    IsSomeAnd (vrun bytes input m) (λ s. IsExited s.core.ending × (exit_text s.core ≡ text) × (s.out ≡ output) × (s.left ≡ left))

-- after m steps the machine goes on, with this output so far, and has this input left
abbrev pub IsRunning : (bytes input : List ℕ) (m : ℕ) (output left : List ℕ) → Type 0
IsRunning bytes input m output left =
    IsSomeAnd (vrun bytes input m) (λ s. (s.core.ending ≡ Running) × (s.out ≡ output) × (s.left ≡ left))

-- For every input and number of turns in which the source does nothing undefined and has room for its calls: where it
-- has ended, the machine comes to the same output and exit; where it is out of turns, the machine comes to the same
-- output, and runs on after at least as many instructions. Either way the machine has read as much as the source.
pub record KeepsMeaning (source : SourceRun) (bytes : List ℕ) : Type 0 where
  pub ended :
      (input : List ℕ) (turns : ℕ) (output text left : List ℕ) → source input turns ≡ Ended output text left →
      (m : ℕ) × HasExited bytes input m output text left
  pub goes_on :
      (input : List ℕ) (turns : ℕ) (output left : List ℕ) → source input turns ≡ Out output left →
      (m : ℕ) × (turns ≤ m) × IsRunning bytes input m output left
