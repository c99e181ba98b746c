-- What the machine's run from an executable shows of the run of its modules.
use Rattle.std.specs.Prelude.{ℕ, ◌+◌, ◌-◌, ◌*◌, ◌^◌, ◌≡◌, ◌≤◌, ◌<◌, List, ◌++◌, length, All}
use Rattle.p9_base.specs.declared.halt.Ending.TheVariants.{Running}
use Rattle.p9_base.specs.Core.{text_start}
use Rattle.p9_base.specs.SystemCalls.{State, exit_text}
use Rattle.p9_abs.specs.declared.modules.AModule.{AModule}
use Rattle.p9_abs.specs.BuiltIn.{linked}
use Rattle.p9_abs.specs.Runs.{Status, Going, Gone, Broken}
use Rattle.p9_abs.specs.Programs.{Placing, addresses_of, init_bytes, bss_size, arun}
use Rattle.p9_object.specs.Laws.{IsObject}
use Rattle.p9_names.specs.declared.rules.Rule.TheVariants.{Once}
use Rattle.p9_names.specs.Linking.{IsKept}
use Rattle.p9_r3k.specs.declared.lines.Line.{Line}
use Rattle.p9_r3k.specs.Delayed.{line_address, enter}
use Rattle.p9_r3k.specs.Laws.{ImageFits}
use Rattle.p9_r3k.specs.Machine.{run}
use Rattle.p9_r3k.specs.Start.{start, page_from, zeros}
use Rattle.p9_slot.specs.Runs.{RunsAsStraight}
use Rattle.p9_expand.specs.Program.{program_lines}
use Rattle.p9_image.specs.Text.{address_at, text_bytes, LinesFit}
use Rattle.p9_image_laws.specs.Reaching.{LinesReach}
use Rattle.p9_refine.specs.Maps.{IsMap, GoesBy}
use Rattle.p9_refine.specs.Refining.{HasExited}

-- The executable

-- a line of the program has the address at which it is entered among the scheduled lines
abbrev pub entry_address : (moved : List ℕ) → (new : List Line) → ℕ → ℕ
entry_address moved new i = line_address (enter moved (length new) i)

-- data begin at the first page behind the text
abbrev pub data_start_of : List Line → ℕ
data_start_of new = page_from (line_address (length new))

-- the bytes from the text's start to the data
abbrev pub below_data : (text : List ℕ) → (new : List Line) → List ℕ
below_data text new = text ++ zeros (data_start_of new - line_address (length new))

-- the lines of modules are scheduled, fit their words and reach their targets; a placing goes by the addresses at which
-- they are entered; and tables have the addresses of the modules' symbols by it
pub record IsArranged (modules : List AModule) (p : Placing) (moved : List ℕ) (new : List Line) (tables : List (List ℕ)) : Type 0 where
  pub runs : RunsAsStraight (program_lines modules) new moved
  pub fit : LinesFit new
  pub reach : LinesReach new
  pub small : line_address (length new) < 2 ^ 28
  pub map : IsMap modules (entry_address moved new)
  pub goes : GoesBy modules (entry_address moved new) p
  pub begin : p.data_start ≡ data_start_of new
  pub symbols : (unit k : ℕ) → address_at tables unit k ≡ (addresses_of modules p).symbol unit k

-- before the first instruction of the executable with these parts
abbrev pub executable_start : List AModule → Placing → (new : List Line) → (tables : List (List ℕ)) → (input : List ℕ) → State
executable_start modules p new tables input = start (text_bytes tables new) (init_bytes modules p) (bss_size (linked modules)) text_start input

-- What is shown

-- From a start the machine comes to show what a run of modules shows after n steps: the same exit, or the same output and
-- input left after at least n instructions. Nothing is said where a step was undefined.
abbrev pub ShowsAs : State → ℕ → Status → Type 0
ShowsAs s n (Going r) =
    (m : ℕ) × (n ≤ m) × (m ≤ 24 * n + 24) × ((run m s).core.ending ≡ Running)
    × ((run m s).out ≡ r.mach.state.out) × ((run m s).left ≡ r.mach.state.left)
ShowsAs s n (Gone t) =
    (m : ℕ) × (m ≤ 24 * n + 24) × HasExited (run m s).core.ending × (exit_text (run m s).core ≡ exit_text t.core)
    × ((run m s).out ≡ t.out) × ((run m s).left ≡ t.left)
ShowsAs s n Broken = Unit {0}

-- for objects that define no name twice, each placing, and each input: after each number of steps
abbrev pub MachineShows : Type 0
MachineShows =
    (modules : List AModule) (p : Placing) (moved : List ℕ) (new : List Line) (tables : List (List ℕ)) (input : List ℕ) (n : ℕ) →
    All IsObject modules → IsKept Once (linked modules) → IsArranged modules p moved new tables →
    (let text : List ℕ = text_bytes tables new in
    ImageFits text (init_bytes modules p) (bss_size (linked modules)) →
    ShowsAs (executable_start modules p new tables input) n (arun modules p (below_data text new) input n))
