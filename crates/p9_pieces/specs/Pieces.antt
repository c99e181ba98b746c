-- The lines of a program in pieces: one for each function's entry, and one for each instruction, in the order of the text.
use Rattle.std.specs.Prelude.{ℕ, ◌+◌, Option, Some, None, List, [], ◌∷◌, ◌++◌, length, flat_map}
use Rattle.p9_abs.specs.declared.instructions.Abs.{Abs}
use Rattle.p9_abs.specs.declared.forms.Form.{Form}
use Rattle.p9_abs.specs.Forms.{decoded}
use Rattle.p9_abs.specs.Runs.{Routine}
use Rattle.p9_r3k.specs.declared.lines.Line.{Line}
use Rattle.p9_text.specs.Places.{places_of}
use Rattle.p9_lines.specs.FormLines.{lines_of, entry_lines}
use Rattle.p9_pieces.specs.Ways.{Scope, scope_of, way_of}

abbrev pub Piece : Type 0
Piece = List Line

-- what is no instruction has no lines
abbrev pub form_lines : Scope → ℕ → Option Form → Piece
form_lines s k None = []
form_lines s k (Some form) = lines_of s.setting (way_of s k form) form

-- of code whose first instruction is number k of its function
abbrev pub code_pieces : Scope → ℕ → List Abs → List Piece
code_pieces s k [] = []
code_pieces s k (a ∷ rest) = form_lines s k (decoded a) ∷ code_pieces s (k + 1) rest

-- of a function, with its entry
abbrev pub function_pieces : Scope → List Abs → List Piece
function_pieces s code = entry_lines s.setting ∷ code_pieces s 0 code

-- of functions, the first of whose entries has number n
abbrev pub pieces_from : (ℕ → ℕ → Option ℕ) → ℕ → List Routine → List Piece
pieces_from callee n [] = []
pieces_from callee n (r ∷ rs) = function_pieces (scope_of callee n r) r.def.code ++ pieces_from callee (n + places_of r) rs

-- the lines of all pieces
abbrev pub joined : List Piece → List Line
joined pieces = flat_map (λ (p : Piece). p) pieces

-- the number of the first line of each piece, where n lines come before
abbrev pub starts_from : ℕ → List Piece → List ℕ
starts_from n [] = []
starts_from n (p ∷ ps) = n ∷ starts_from (n + length p) ps
