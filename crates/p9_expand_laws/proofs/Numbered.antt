-- The piece of each number.
use Rattle.std.proofs.Common.{ℕ, zero, suc, ◌+◌, ◌≡◌, ◌<◌, get_or, Option, Some, List, [], ◌∷◌, ◌++◌, length, length-append, take, drop, append_assoc, sum_by, refl, sym, ap, ◌∙◌, subst, arith}
use Rattle.std.specs.Prelude.{slice_get}
use Rattle.std.proofs.lemmas.List.Sums.{sum_by-cons}
use Rattle.p9_abs.specs.declared.instructions.Abs.{Abs}
use Rattle.p9_abs.specs.Forms.{decoded}
use Rattle.p9_abs.specs.Runs.{Routine}
use Rattle.p9_text.specs.Places.{places_of}
use Rattle.p9_pieces.specs.Ways.{Scope, scope_of}
use Rattle.p9_pieces.specs.Pieces.{Piece, form_lines, code_pieces, function_pieces, pieces_from, joined, starts_from}

-- all lines, around those of one piece
pub split : (ps : List Piece) (i : ℕ) (p : Piece) → slice_get ps i ≡ Some p → joined ps ≡ joined (take i ps) ++ (p ++ joined (drop (suc i) ps))
split [] i p e = absurd (cc e)
split (q ∷ ps) zero p e = let same : q ≡ p = cc in ap (λ r. r ++ joined ps) same
split (q ∷ ps) (suc i) p e =
    ap (λ l. q ++ l) (split ps i p e) ∙ sym (append_assoc q (joined (take i ps)) (p ++ joined (drop (suc i) ps)))

pub joined-longer : (ps : List Piece) (i : ℕ) (p : Piece) → slice_get ps i ≡ Some p → length (joined (take (suc i) ps)) ≡ length (joined (take i ps)) + length p
joined-longer [] i p e = absurd (cc e)
joined-longer (q ∷ ps) zero p e = let same : q ≡ p = cc in omega (arith, length-append q [], ap length same)
joined-longer (q ∷ ps) (suc i) p e =
    omega (arith, length-append q (joined (take (suc i) ps)), length-append q (joined (take i ps)), joined-longer ps i p e)

pub starts-at : (n : ℕ) (ps : List Piece) (t : ℕ) → t < length ps → get_or (starts_from n ps) t 0 ≡ n + length (joined (take t ps))
starts-at n [] t h = absurd (omega (arith, h))
starts-at n (p ∷ ps) zero h = omega arith
starts-at n (p ∷ ps) (suc t) h =
    starts-at (n + length p) ps t (omega (arith, h)) ∙ omega (arith, length-append p (joined (take t ps)))

-- Numbers

got-first : (xs ys : List Piece) (j : ℕ) (p : Piece) → slice_get xs j ≡ Some p → slice_get (xs ++ ys) j ≡ Some p
got-first [] ys j p e = absurd (cc e)
got-first (x ∷ xs) ys zero p e = e
got-first (x ∷ xs) ys (suc j) p e = got-first xs ys j p e

got-rest : (xs ys : List Piece) (n j : ℕ) → n ≡ length xs + j → slice_get (xs ++ ys) n ≡ slice_get ys j
got-rest [] ys n j e = ap (slice_get ys) (omega (arith, e))
got-rest (x ∷ xs) ys zero j e = absurd (omega (arith, e))
got-rest (x ∷ xs) ys (suc n) j e = got-rest xs ys n j (omega (arith, e))

code-length : (s : Scope) (k : ℕ) (code : List Abs) → length (code_pieces s k code) ≡ length code
code-length s k [] = refl
code-length s k (a ∷ rest) = ap suc (code-length s (k + 1) rest)

pub code-piece : (s : Scope) (m k : ℕ) (code : List Abs) (a : Abs) → slice_get code k ≡ Some a → slice_get (code_pieces s m code) k ≡ Some (form_lines s (m + k) (decoded a))
code-piece s m k [] a e = absurd (cc e)
code-piece s m zero (b ∷ rest) a e =
    let same : b ≡ a = cc in
    ap (λ z. Some (form_lines s m (decoded z))) same ∙ ap (λ n. Some (form_lines s n (decoded a))) (omega arith)
code-piece s m (suc k) (b ∷ rest) a e = code-piece s (m + 1) k rest a e ∙ ap (λ n. Some (form_lines s n (decoded a))) (omega arith)

pub piece-at : (callee : ℕ → ℕ → Option ℕ) (n : ℕ) (rs : List Routine) (f : ℕ) (r : Routine) (j : ℕ) (p : Piece) → slice_get rs f ≡ Some r →
    slice_get (function_pieces (scope_of callee (n + sum_by places_of (take f rs)) r) r.def.code) j ≡ Some p →
    slice_get (pieces_from callee n rs) (sum_by places_of (take f rs) + j) ≡ Some p
piece-at callee n [] f r j p e h = absurd (cc e)
piece-at callee n (q ∷ rs) zero r j p e h =
    let same : q ≡ r = cc in
    let here : slice_get (function_pieces (scope_of callee n q) q.def.code) j ≡ Some p =
    subst (λ z. slice_get (function_pieces (scope_of callee n z) z.def.code) j ≡ Some p) (sym same)
    (subst (λ m. slice_get (function_pieces (scope_of callee m r) r.def.code) j ≡ Some p) (omega arith) h) in
    ap (slice_get (pieces_from callee n (q ∷ rs))) (omega arith)
    ∙ got-first (function_pieces (scope_of callee n q) q.def.code) (pieces_from callee (n + places_of q) rs) j p here
piece-at callee n (q ∷ rs) (suc f) r j p e h =
    let before : ℕ = sum_by places_of (take f rs) in
    let all : sum_by places_of (take (suc f) (q ∷ rs)) ≡ places_of q + before = sum_by-cons places_of q (take f rs) in
    let deep : slice_get (function_pieces (scope_of callee (n + places_of q + before) r) r.def.code) j ≡ Some p =
    subst (λ m. slice_get (function_pieces (scope_of callee m r) r.def.code) j ≡ Some p) (omega (arith, all)) h in
    got-rest (function_pieces (scope_of callee n q) q.def.code) (pieces_from callee (n + places_of q) rs) (sum_by places_of (take (suc f) (q ∷ rs)) + j) (before + j)
    (omega (arith, all, code-length (scope_of callee n q) 0 q.def.code))
    ∙ piece-at callee (n + places_of q) rs f r j p e deep
