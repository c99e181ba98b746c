-- The machine runs the words of lines as the machine with delays runs the lines.
use Rattle.std.specs.Prelude.{ℕ, ◌^◌, ◌≡◌, ◌<◌, List, length}
use Rattle.p9_base.specs.Core.{text_start}
use Rattle.p9_r3k.specs.declared.lines.Line.{Line}
use Rattle.p9_r3k.specs.Delayed.{line_address, delayed_run}
use Rattle.p9_r3k.specs.Laws.{ImageFits}
use Rattle.p9_r3k.specs.Machine.{State, run}
use Rattle.p9_r3k.specs.Start.{start}
use Rattle.p9_r3k.specs.Straight.{Addresses}
use Rattle.p9_image.specs.Text.{address_at, text_bytes, LinesFit}
use Rattle.p9_image_laws.specs.Reaching.{LinesReach}

-- the machine before the first instruction of an executable whose text has the words of the lines
abbrev pub start_of_lines : (tables : List (List ℕ)) → List Line → (init : List ℕ) → (bss : ℕ) → (input : List ℕ) → State
start_of_lines tables lines init bss input = start (text_bytes tables lines) init bss text_start input

-- whatever addresses the lines of the straight machine have
abbrev pub RunsItsLines : Type 0
RunsItsLines =
    (tables : List (List ℕ)) (lines : List Line) (init : List ℕ) (bss : ℕ) (input : List ℕ) (line : ℕ → ℕ) (n : ℕ) →
    LinesFit lines → LinesReach lines → line_address (length lines) < 2 ^ 28 → ImageFits (text_bytes tables lines) init bss →
    (let a : Addresses = record { line = line; symbol = address_at tables } in
    let s : State = start_of_lines tables lines init bss input in
    run n s ≡ delayed_run a lines n s)
