-- The lines of a program, by their own numbers.
use Rattle.std.specs.Prelude.{ℕ, ◌+◌, ◌==◌, ◌||◌, Bool, false, Option, option_map, List, [], ◌∷◌, ◌++◌, map, slice_index, length}
use Rattle.p9_abs.specs.declared.modules.AModule.{AModule}
use Rattle.p9_abs.specs.Runs.{Routine}
use Rattle.p9_abs.specs.Programs.{routines_of}
use Rattle.p9_r3k.specs.declared.lines.Line.{Line}
use Rattle.p9_slot.specs.Blocks.{is_named}
use Rattle.p9_text.specs.Places.{places_of}
use Rattle.p9_lines.specs.FormLines.{start_lines}
use Rattle.p9_pieces.specs.Callees.{callee_in}
use Rattle.p9_pieces.specs.Pieces.{pieces_from, joined, starts_from}
use Rattle.p9_expand.specs.Base.{argument_list, base_offset}

-- Targets, where pieces begin with lines of these numbers

-- a line whose target is the number of a line
abbrev pub aimed : List ℕ → Line → Line
aimed starts line = record line { target = option_map (slice_index starts) line.target }

-- line i is the first of a function, where the first of their entries has number n
abbrev pub is_first : List ℕ → ℕ → List Routine → ℕ → Bool
is_first starts n [] i = false
is_first starts n (r ∷ rs) i = (slice_index starts n == i) || is_first starts (n + places_of r) rs i

-- lines, the first of which has number i, where those that pass a test are targets
abbrev pub marked : (ℕ → Bool) → ℕ → List Line → List Line
marked test i [] = []
marked test i (line ∷ rest) = record line { is_target = test i } ∷ marked test (i + 1) rest

-- the targets are the first line of each function, and each line that is named
abbrev pub with_targets : List ℕ → List Routine → List Line → List Line
with_targets starts rs lines = marked (λ i. is_first starts 0 rs i || is_named lines i) 0 lines

-- Programs

-- the pieces of functions begin behind the two lines of the start
abbrev pub starts_of : (ℕ → ℕ → Option ℕ) → List Routine → List ℕ
starts_of callee rs = starts_from 2 (pieces_from callee 0 rs)

-- of functions, behind lines of the start, where symbols of modules name functions
abbrev pub lines_of : (ℕ → ℕ → Option ℕ) → List Routine → List Line → List Line
lines_of callee rs start =
    with_targets (starts_of callee rs) rs (map (aimed (starts_of callee rs)) (start ++ joined (pieces_from callee 0 rs)))

-- of modules with the built-in one
abbrev pub program_lines : List AModule → List Line
program_lines modules =
    lines_of (callee_in modules) (routines_of modules) (start_lines (length modules) argument_list (base_offset modules))
