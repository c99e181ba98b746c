-- Pieces as they are added, one after the other.
use Rattle.std.proofs.Common.{ℕ, ◌+◌, ◌-◌, ◌≡◌, ◌≤◌, get_or, take, drop, List, [], ◌∷◌, ◌++◌, length, sym, ap, ◌∙◌, arith, append_assoc, length-append}
use Rattle.std.proofs.lemmas.Grind.{common_steps, flat_map-append}
use Rattle.p9_abs.specs.declared.instructions.Abs.{Abs}
use Rattle.p9_abs.specs.Forms.{decoded}
use Rattle.p9_abs.specs.Runs.{Routine}
use Rattle.p9_r3k.specs.declared.lines.Line.{Line}
use Rattle.p9_text.specs.Places.{places_of}
use Rattle.std.proofs.Common.{Option}
use Rattle.p9_pieces.specs.Ways.{Scope, scope_of}
use Rattle.p9_pieces.specs.Pieces.{Piece, form_lines, code_pieces, function_pieces, pieces_from, joined, starts_from}

-- the first of a list that isn't empty, and the rest
pub front : {X : Type 0} (rest next : List X) (x : X) → 1 ≤ length rest → x ≡ get_or rest 0 x → next ≡ take (length rest - 1) (drop 1 rest) → rest ≡ x ∷ next
front {X = X} [] next x n here e = absurd (omega arith)
front {X = X} (y ∷ after) next x n here e =
    let same : next ≡ after = e ∙ take-of-itself y after in
    ap (λ v. v ∷ after) (sym here) ∙ ap (λ l. x ∷ l) (sym same)
  where
    take-of-itself : (y : X) (after : List X) → take (length (y ∷ after) - 1) (drop 1 (y ∷ after)) ≡ after
    take-of-itself y after = grind (arith, common_steps)

-- after some elements
turned : {X : Type 0} (done more step rest all : List X) → more ≡ done ++ step → done ++ (step ++ rest) ≡ all → more ++ rest ≡ all
turned done more step rest all m h = ap (λ l. l ++ rest) m ∙ append_assoc done step rest ∙ h

longer : (done more step : List Line) → more ≡ done ++ step → length done + length step ≡ length more
longer done more step e = sym (ap length e ∙ length-append done step)

pub joined-append : (xs ys : List Piece) → joined (xs ++ ys) ≡ joined xs ++ joined ys
joined-append xs ys = flat_map-append (λ (p : Piece). p) xs ys

pub starts-append : (n : ℕ) (xs ys : List Piece) → starts_from n (xs ++ ys) ≡ starts_from n xs ++ starts_from (n + length (joined xs)) ys
starts-append n [] ys = ap (λ m. starts_from m ys) (omega arith)
starts-append n (p ∷ ps) ys =
    let here : n + length p + length (joined ps) ≡ n + length (joined (p ∷ ps)) = omega (arith, length-append p (joined ps)) in
    ap (λ l. n ∷ l) (starts-append (n + length p) ps ys ∙ ap (λ m. starts_from (n + length p) ps ++ starts_from m ys) here)

-- Code

pub code_lines_turn : (s : Scope) (k next : ℕ) (a : Abs) (rest after : List Abs) (done more all : List Line) →
    rest ≡ a ∷ after → next ≡ k + 1 → more ≡ done ++ form_lines s k (decoded a) →
    done ++ joined (code_pieces s k rest) ≡ all → more ++ joined (code_pieces s next after) ≡ all
code_lines_turn s k next a rest after done more all e up m h =
    turned done more (form_lines s k (decoded a)) (joined (code_pieces s next after)) all m
    (ap (λ n. done ++ (form_lines s k (decoded a) ++ joined (code_pieces s n after))) up ∙ ap (λ l. done ++ joined (code_pieces s k l)) (sym e) ∙ h)

pub code_starts_turn : (s : Scope) (k next : ℕ) (a : Abs) (rest after : List Abs) (done seen more : List Line) (marks marked all : List ℕ) →
    rest ≡ a ∷ after → next ≡ k + 1 → more ≡ done ++ form_lines s k (decoded a) → marked ≡ marks ++ length seen ∷ [] → seen ≡ done →
    marks ++ starts_from (length done) (code_pieces s k rest) ≡ all → marked ++ starts_from (length more) (code_pieces s next after) ≡ all
code_starts_turn s k next a rest after done seen more marks marked all e up m n same h =
    turned marks marked (length done ∷ []) (starts_from (length more) (code_pieces s next after)) all (n ∙ ap (λ (l : List Line). marks ++ (length l ∷ [])) same)
    (ap (λ x. marks ++ (length done ∷ starts_from (length more) (code_pieces s x after))) up ∙ ap (λ x. marks ++ (length done ∷ starts_from x (code_pieces s (k + 1) after))) (sym (longer done more (form_lines s k (decoded a)) m))
    ∙ ap (λ l. marks ++ starts_from (length done) (code_pieces s k l)) (sym e) ∙ h)

-- Functions

pub functions_lines_turn : (callee : ℕ → ℕ → Option ℕ) (n next : ℕ) (r : Routine) (s : Scope) (code : List Abs) (rest after : List Routine) (done more all : List Line) →
    rest ≡ r ∷ after → s ≡ scope_of callee n r → code ≡ r.def.code → next ≡ n + places_of r → more ≡ done ++ joined (function_pieces s code) →
    done ++ joined (pieces_from callee n rest) ≡ all → more ++ joined (pieces_from callee next after) ≡ all
functions_lines_turn callee n next r s code rest after done more all e same own up m h =
    let own_pieces : function_pieces s code ≡ function_pieces (scope_of callee n r) r.def.code = ap (λ x. function_pieces x code) same ∙ ap (function_pieces (scope_of callee n r)) own in
    turned done more (joined (function_pieces s code)) (joined (pieces_from callee next after)) all m
    (ap (λ x. done ++ (joined (function_pieces s code) ++ joined (pieces_from callee x after))) up ∙ ap (λ p. done ++ (joined p ++ joined (pieces_from callee (n + places_of r) after))) own_pieces
    ∙ ap (λ l. done ++ l) (sym (joined-append (function_pieces (scope_of callee n r) r.def.code) (pieces_from callee (n + places_of r) after)))
    ∙ ap (λ l. done ++ joined (pieces_from callee n l)) (sym e) ∙ h)

pub functions_starts_turn : (callee : ℕ → ℕ → Option ℕ) (n next : ℕ) (r : Routine) (s : Scope) (code : List Abs) (rest after : List Routine) (done more : List Line) (marks marked all : List ℕ) →
    rest ≡ r ∷ after → s ≡ scope_of callee n r → code ≡ r.def.code → next ≡ n + places_of r → more ≡ done ++ joined (function_pieces s code) →
    marked ≡ marks ++ starts_from (length done) (function_pieces s code) →
    marks ++ starts_from (length done) (pieces_from callee n rest) ≡ all → marked ++ starts_from (length more) (pieces_from callee next after) ≡ all
functions_starts_turn callee n next r s code rest after done more marks marked all e same own up m k h =
    let own_pieces : function_pieces s code ≡ function_pieces (scope_of callee n r) r.def.code = ap (λ x. function_pieces x code) same ∙ ap (function_pieces (scope_of callee n r)) own in
    turned marks marked (starts_from (length done) (function_pieces s code)) (starts_from (length more) (pieces_from callee next after)) all k
    (ap (λ x. marks ++ (starts_from (length done) (function_pieces s code) ++ starts_from (length more) (pieces_from callee x after))) up ∙ ap (λ x. marks ++ (starts_from (length done) (function_pieces s code) ++ starts_from x (pieces_from callee (n + places_of r) after))) (sym (longer done more (joined (function_pieces s code)) m))
    ∙ ap (λ p. marks ++ (starts_from (length done) p ++ starts_from (length done + length (joined p)) (pieces_from callee (n + places_of r) after))) own_pieces
    ∙ ap (λ l. marks ++ l) (sym (starts-append (length done) (function_pieces (scope_of callee n r) r.def.code) (pieces_from callee (n + places_of r) after)))
    ∙ ap (λ l. marks ++ starts_from (length done) (pieces_from callee n l)) (sym e) ∙ h)
