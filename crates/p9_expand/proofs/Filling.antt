-- Behind each piece of valid functions a line comes, so each number of a piece is that of a line.
use Rattle.std.proofs.Common.{ℕ, zero, suc, ◌+◌, ◌≡◌, ◌<◌, get_or, Option, Some, None, IsSome, List, [], ◌∷◌, ◌++◌, length, length-append, ap, ◌∙◌, All, arith}
use Rattle.std.proofs.lemmas.List.Elements.{All-head, All-tail, All-weaker}
use Rattle.p9_abs.specs.declared.instructions.Abs.{Abs}
use Rattle.p9_abs.specs.declared.forms.Form.{Form}
use Rattle.p9_abs.specs.Forms.{IsForm, decoded}
use Rattle.p9_abs.specs.Runs.{Routine}
use Rattle.p9_abs.specs.Validity.{EndsWell, IsInstruction}
use Rattle.p9_text.specs.Places.{places_of}
use Rattle.p9_lines.specs.FormLines.{entry_lines}
use Rattle.p9_lines.proofs.Having.{have_lines}
use Rattle.p9_pieces.specs.Ways.{Scope, scope_of, way_of}
use Rattle.p9_pieces.specs.Pieces.{Piece, form_lines, code_pieces, function_pieces, pieces_from, joined, starts_from}
use Rattle.p9_pieces.proofs.Stepping.{joined-append}
use Rattle.p9_expand.proofs.Valid.{IsSound}

-- each piece has a line, or one behind it
abbrev pub AreFull : List Piece → Type 0
AreFull [] = Unit {0}
AreFull (p ∷ ps) = (0 < length (joined (p ∷ ps))) × AreFull ps

full-append : (ps qs : List Piece) → AreFull ps → AreFull qs → AreFull (ps ++ qs)
full-append [] qs h k = k
full-append (p ∷ ps) qs h k =
    let all : length (joined (p ∷ (ps ++ qs))) ≡ length (joined (p ∷ ps)) + length (joined qs) =
    ap length (joined-append (p ∷ ps) qs) ∙ length-append (joined (p ∷ ps)) (joined qs) in
    (omega (arith, all, h.0), full-append ps qs h.1 k)

form-full : (s : Scope) (k : ℕ) (o : Option Form) → IsSome o → 0 < length (form_lines s k o)
form-full s k None h = absurd (cc h)
form-full s k (Some form) h = have_lines s.setting (way_of s k form) form

code-full : (s : Scope) (k : ℕ) (code : List Abs) → All IsForm code → AreFull (code_pieces s k code)
code-full s k [] h = tt
code-full s k (a ∷ rest) h =
    let here : 0 < length (form_lines s k (decoded a)) = form-full s k (decoded a) (All-head IsForm a rest h) in
    (omega (arith, here, length-append (form_lines s k (decoded a)) (joined (code_pieces s (k + 1) rest))), code-full s (k + 1) rest (All-tail IsForm a rest h))

function-full : (s : Scope) (code : List Abs) → EndsWell code → All IsForm code → AreFull (function_pieces s code)
function-full s [] e h = absurd e
function-full s (a ∷ rest) e h =
    let full : AreFull (code_pieces s 0 (a ∷ rest)) = code-full s 0 (a ∷ rest) h in
    (omega (arith, full.0, length-append (entry_lines s.setting) (joined (code_pieces s 0 (a ∷ rest)))), full)

forms-of : (frame count : ℕ) (code : List Abs) → All (IsInstruction frame count) code → All IsForm code
forms-of frame count code h = All-weaker (IsInstruction frame count) IsForm (λ a i. i.form) code h

pub pieces_full : (callee : ℕ → ℕ → Option ℕ) (n : ℕ) (rs : List Routine) → All IsSound rs → AreFull (pieces_from callee n rs)
pieces_full callee n [] h = tt
pieces_full callee n (r ∷ rs) h =
    let sound : IsSound r = All-head IsSound r rs h in
    full-append (function_pieces (scope_of callee n r) r.def.code) (pieces_from callee (n + places_of r) rs)
    (function-full (scope_of callee n r) r.def.code sound.ending (forms-of r.def.frame (length r.def.code) r.def.code sound.instructions))
    (pieces_full callee (n + places_of r) rs (All-tail IsSound r rs h))

pub starts_below : (n : ℕ) (ps : List Piece) (t : ℕ) → AreFull ps → t < length ps → get_or (starts_from n ps) t 0 < n + length (joined ps)
starts_below n [] t h below = absurd (omega (arith, below))
starts_below n (p ∷ ps) zero h below = omega (arith, h.0)
starts_below n (p ∷ ps) (suc t) h below =
    omega (arith, starts_below (n + length p) ps t h.1 (omega (arith, below)), length-append p (joined ps))
