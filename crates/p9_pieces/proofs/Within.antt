-- The lines of pieces are within the weights.
use Rattle.std.proofs.Common.{ℕ, ◌+◌, ◌≡◌, ◌≤◌, Option, Some, None, List, [], ◌∷◌, ◌++◌, sum_by, sym, subst, arith}
use Rattle.std.specs.Prelude.{unwrap_or, option_map}
use Rattle.std.proofs.lemmas.List.Sums.{sum_by-append, sum_by-cons}
use Rattle.p9_abs.specs.declared.instructions.Abs.{Abs}
use Rattle.p9_abs.specs.declared.forms.Form.{Form}
use Rattle.p9_abs.specs.Forms.{decoded, words_of, weight_of, entry_weight}
use Rattle.p9_abs.specs.Runs.{Routine}
use Rattle.p9_r3k.specs.declared.lines.Line.{Line}
use Rattle.p9_text.specs.Places.{places_of}
use Rattle.p9_text.specs.Weights.{routine_weight, text_weight}
use Rattle.p9_lines.specs.Weights.{inst_words, words_needed}
use Rattle.p9_lines.specs.FormLines.{start_lines, entry_lines}
use Rattle.p9_lines.proofs.Weighing.{within_weights, entry_within, start_within}
use Rattle.p9_pieces.specs.Ways.{Scope, scope_of, way_of}
use Rattle.p9_pieces.specs.Pieces.{form_lines, code_pieces, function_pieces, pieces_from, joined}
use Rattle.p9_pieces.specs.Laws.{InstructionsWithin}
use Rattle.p9_pieces.proofs.Stepping.{joined-append}

form-within : (s : Scope) (k : ℕ) (o : Option Form) → words_needed (form_lines s k o) ≤ unwrap_or (option_map words_of o) 0
form-within s k None = omega arith
form-within s k (Some form) = within_weights s.setting (way_of s k form) form

pub instructions_within : InstructionsWithin
instructions_within s k a = form-within s k (decoded a)

append-within : (xs ys : List Line) (m n : ℕ) → words_needed xs ≤ m → words_needed ys ≤ n → words_needed (xs ++ ys) ≤ m + n
append-within xs ys m n h k = omega (arith, sum_by-append (λ (line : Line). inst_words line.inst) xs ys, h, k)

code-within : (s : Scope) (k : ℕ) (code : List Abs) → words_needed (joined (code_pieces s k code)) ≤ sum_by weight_of code
code-within s k [] = omega arith
code-within s k (a ∷ rest) =
    let both : words_needed (form_lines s k (decoded a) ++ joined (code_pieces s (k + 1) rest)) ≤ weight_of a + sum_by weight_of rest =
    append-within (form_lines s k (decoded a)) (joined (code_pieces s (k + 1) rest)) (weight_of a) (sum_by weight_of rest)
    (instructions_within s k a) (code-within s (k + 1) rest) in
    omega (arith, both, sum_by-cons weight_of a rest)

function-within : (s : Scope) (code : List Abs) → words_needed (joined (function_pieces s code)) ≤ entry_weight + sum_by weight_of code
function-within s code =
    append-within (entry_lines s.setting) (joined (code_pieces s 0 code)) entry_weight (sum_by weight_of code) (entry_within s.setting) (code-within s 0 code)

functions-within : (callee : ℕ → ℕ → Option ℕ) (n : ℕ) (rs : List Routine) → words_needed (joined (pieces_from callee n rs)) ≤ sum_by routine_weight rs
functions-within callee n [] = omega arith
functions-within callee n (r ∷ rs) =
    let here = function-within (scope_of callee n r) r.def.code in
    let after = functions-within callee (n + places_of r) rs in
    let both = append-within (joined (function_pieces (scope_of callee n r) r.def.code)) (joined (pieces_from callee (n + places_of r) rs)) (entry_weight + sum_by weight_of r.def.code) (sum_by routine_weight rs) here after in
    subst (λ (l : List Line). words_needed l ≤ sum_by routine_weight (r ∷ rs))
    (sym (joined-append (function_pieces (scope_of callee n r) r.def.code) (pieces_from callee (n + places_of r) rs)))
    (omega (arith, both, sum_by-cons routine_weight r rs))

pub program_within : (callee : ℕ → ℕ → Option ℕ) (unit symbol offset : ℕ) (rs : List Routine) (lines : List Line) →
    lines ≡ start_lines unit symbol offset ++ joined (pieces_from callee 0 rs) → words_needed lines ≤ text_weight rs
program_within callee unit symbol offset rs lines e =
    subst (λ (l : List Line). words_needed l ≤ text_weight rs) (sym e)
    (omega (arith, append-within (start_lines unit symbol offset) (joined (pieces_from callee 0 rs)) 2 (sum_by routine_weight rs) (start_within unit symbol offset) (functions-within callee 0 rs)))
