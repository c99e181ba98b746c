-- What is said of the lines of programs.
use Rattle.std.specs.Prelude.{ℕ, ◌≡◌, ◌||◌, Some, List, slice_get}
use Rattle.p9_abs.specs.declared.modules.AModule.{AModule}
use Rattle.p9_abs.specs.Programs.{routines_of}
use Rattle.p9_r3k.specs.declared.lines.Line.{Line}
use Rattle.p9_slot.specs.Blocks.{is_named}
use Rattle.p9_pieces.specs.Callees.{callee_in}
use Rattle.p9_expand.specs.Program.{starts_of, is_first}

-- the targets are the first line of each function, and each line that some line names
abbrev pub IsMarked : List AModule → List Line → Type 0
IsMarked modules lines =
    (i : ℕ) (line : Line) → slice_get lines i ≡ Some line →
    line.is_target ≡ is_first (starts_of (callee_in modules) (routines_of modules)) 0 (routines_of modules) i || is_named lines i
