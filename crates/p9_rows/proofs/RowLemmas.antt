-- A line more among the rows.
use Rattle.std.proofs.Common.{◌≡◌, ℕ, ◌+◌, ◌-◌, ◌<◌, List, [], ◌∷◌, ◌++◌, length, take, drop, position, Option, Some, sym, ap, ◌∙◌, append_assoc, arith}
use Rattle.std.proofs.lemmas.Grind.{common_steps}
use Rattle.p9_statement.specs.declared.lexemes.Lexeme.{Lexeme}
use Rattle.p9_statement.specs.declared.statements.Line.{Line}
use Rattle.p9_statement.specs.Statements.{line_of}
use Rattle.p9_rows.specs.declared.rows.Place.{Place}
use Rattle.p9_rows.specs.declared.rows.Row.{Row}
use Rattle.p9_rows.specs.Rows.{is_line_end, lines_of, after_content, rows_from}
use Rattle.p9_rows.proofs.LineLemmas.{lines_cut}

-- what is left behind a place
pub rest_is : (k : ℕ) (xs : List Lexeme) → take (length xs - k) (drop k xs) ≡ drop k xs
rest_is k xs = grind (arith, common_steps)

pub rest_count : (token k total : ℕ) (rest : List Lexeme) → k < length rest → token + length rest ≡ total → token + (k + 1) + length (take (length rest - (k + 1)) (drop (k + 1) rest)) ≡ total
rest_count token k total rest within count =
    let left : length (take (length rest - (k + 1)) (drop (k + 1) rest)) ≡ length rest - (k + 1) = grind (arith, common_steps) in
    omega (arith, left, within, count)

rows_step : (n token k : ℕ) (place : Place) (rest : List Lexeme) → position is_line_end rest ≡ Some k → k < length rest → rows_from n token place (lines_of rest) ≡ record { token = token; content = line_of (take k rest); place = place } ∷ rows_from (n + 1) (token + (k + 1)) (after_content n place (line_of (take k rest))) (lines_of (drop (k + 1) rest))
rows_step n token k place rest found within =
    let len : length (take k rest) ≡ k = grind (arith, common_steps) in
    let at : token + length (take k rest) + 1 ≡ token + (k + 1) = omega (arith, len) in
    rw (lines_cut rest k found)
    (ap (λ t. record { token = token; content = line_of (take k rest); place = place } ∷ rows_from (n + 1) t (after_content n place (line_of (take k rest))) (lines_of (drop (k + 1) rest))) at)

pub rows_turn : (all done more : List Row) (n index count token k : ℕ) (place next : Place) (rest head behind : List Lexeme) (content : Option Line) → position is_line_end rest ≡ Some k → k < length rest → content ≡ line_of head → head ≡ take k rest → behind ≡ drop (k + 1) rest → more ≡ done ++ record { token = token; content = content; place = place } ∷ [] → index ≡ n → count ≡ n + 1 → next ≡ after_content index place content → done ++ rows_from n token place (lines_of rest) ≡ all → more ++ rows_from count (token + (k + 1)) next (lines_of behind) ≡ all
rows_turn all done more n index count token k place next rest head behind content found within is_line is_head is_behind is_more is_index is_count is_next h =
    let is_content : content ≡ line_of (take k rest) = is_line ∙ ap line_of is_head in
    rw (is_more, is_count, is_next, is_index, is_behind, is_content)
    (append_assoc done (record { token = token; content = line_of (take k rest); place = place } ∷ []) (rows_from (n + 1) (token + (k + 1)) (after_content n place (line_of (take k rest))) (lines_of (drop (k + 1) rest)))
    ∙ (ap (λ xs. done ++ xs) (sym (rows_step n token k place rest found within)) ∙ h))
