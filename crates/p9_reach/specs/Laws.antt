-- What holds of the scheduled lines of programs: they are few enough, the fields of their instructions fit their bits, and
-- each branch reaches its target.
use Rattle.std.specs.Prelude.{ℕ, ◌≤◌, List, length, All}
use Rattle.p9_abs.specs.declared.modules.AModule.{AModule}
use Rattle.p9_abs.specs.Programs.{routines_of}
use Rattle.p9_object.specs.Laws.{IsObject}
use Rattle.p9_r3k.specs.declared.lines.Line.{Line}
use Rattle.p9_slot.specs.Schedule.{EachOnce, AddsOnlyNoops, IsSpaced}
use Rattle.p9_text.specs.Weights.{text_weight}
use Rattle.p9_expand.specs.Program.{program_lines}
use Rattle.p9_image.specs.Text.{LinesFit}
use Rattle.p9_image_laws.specs.Reaching.{LinesReach}

-- with all no-ops the lines are within the weights of instructions, entries and the start
abbrev pub ScheduleWithin : Type 0
ScheduleWithin =
    (modules : List AModule) (new : List Line) (moved : List ℕ) →
    EachOnce (program_lines modules) new moved → IsSpaced (program_lines modules) new moved →
    length new ≤ text_weight (routines_of modules)

abbrev pub ScheduleFits : Type 0
ScheduleFits =
    (modules : List AModule) (new : List Line) (moved : List ℕ) → All IsObject modules →
    EachOnce (program_lines modules) new moved → AddsOnlyNoops (program_lines modules) new moved → LinesFit new

abbrev pub ScheduleReaches : Type 0
ScheduleReaches =
    (modules : List AModule) (new : List Line) (moved : List ℕ) → All IsObject modules →
    EachOnce (program_lines modules) new moved → AddsOnlyNoops (program_lines modules) new moved →
    IsSpaced (program_lines modules) new moved → LinesReach new
