-- What is seen of a union of sources of the form, and what is special to the form: its programs end in time.
use Rattle.std.specs.Prelude.{ℕ, List}
use Rattle.p9_first.specs.Modules.{Source}
use Rattle.p9_first.specs.Turns.{Outcome, Ended, Out, Undefined, Deep}
use Rattle.p9_first.specs.CRun.{source_run}
use Rattle.p9_headline.specs.declared.TheConstants.{DEFAULT_BUDGET}
use Rattle.p9_headline.specs.Headline.{Seen, SourceRun, AreDefined, HasExited}
use Rattle.p9_headline.specs.Headline as seen

-- programs of the form read nothing, so all of the input is left
abbrev pub seen_of : (input : List ℕ) → Outcome → Seen
seen_of input (Ended output text) = seen.Ended output text input
seen_of input (Out output) = seen.Out output input
seen_of input (Undefined output why place) = seen.Other
seen_of input (Deep output place) = seen.Other

-- the run of the union of the sources
abbrev pub union_run : List Source → SourceRun
union_run sources input turns = seen_of input (source_run sources input turns)

-- where the sources do nothing undefined, the machine has exited within the default budget
abbrev pub EndsInTime : (sources : List Source) (bytes : List ℕ) → Type 0
EndsInTime sources bytes =
    (input : List ℕ) → AreDefined (union_run sources) input →
    (output text : List ℕ) × HasExited bytes input DEFAULT_BUDGET output text input
