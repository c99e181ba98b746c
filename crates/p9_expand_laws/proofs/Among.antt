-- Pieces of lines among others, with their targets and marks.
use Rattle.std.proofs.Common.{ℕ, ◌+◌, ◌≡◌, ◌<◌, Bool, get_or, Option, Some, None, List, [], ◌∷◌, ◌++◌, length, length-append, map, append_assoc, refl, ap, ◌∙◌, subst, arith}
use Rattle.std.specs.Prelude.{option_map, slice_get, slice_index}
use Rattle.p9_r3k.specs.declared.inst.Inst.{Inst}
use Rattle.p9_r3k.specs.declared.lines.Line.{Line}
use Rattle.p9_slot.specs.Aimed.{IsAimed, AreAimed}
use Rattle.p9_forms.specs.Standing.{Stand}
use Rattle.p9_expand.specs.Program.{aimed, marked}

-- the line behind some others
got : (test : ℕ → Bool) (starts : List ℕ) (m : ℕ) (before : List Line) (line : Line) (after : List Line) →
    slice_get (marked test m (map (aimed starts) (before ++ line ∷ after))) (length before) ≡ Some (record (aimed starts line) { is_target = test (m + length before) })
got test starts m [] line after = ap (λ n. Some (record (aimed starts line) { is_target = test n })) (omega arith)
got test starts m (b ∷ bs) line after =
    got test starts (m + 1) bs line after ∙ ap (λ n. Some (record (aimed starts line) { is_target = test n })) (omega arith)

target-same : (place : ℕ → ℕ) (starts : List ℕ) (n : ℕ) (inst : Inst) (o : Option ℕ) → ((t : ℕ) → t < n → get_or starts t 0 ≡ place t) → IsAimed n inst o →
    option_map (slice_index starts) o ≡ option_map place o
target-same place starts n inst None same h = refl
target-same place starts n inst (Some t) same h = ap Some (same t h)

pub stands-among : (test : ℕ → Bool) (starts : List ℕ) (place : ℕ → ℕ) (n : ℕ) → ((t : ℕ) → t < n → get_or starts t 0 ≡ place t) →
    (before piece after : List Line) → AreAimed n piece → Stand (marked test 0 (map (aimed starts) (before ++ (piece ++ after)))) place (length before) piece
stands-among test starts place n same before [] after h = tt
stands-among test starts place n same before (line ∷ rest) after h =
    let more : List Line = before ++ line ∷ [] in
    let lines : more ++ (rest ++ after) ≡ before ++ (line ∷ (rest ++ after)) = append_assoc before (line ∷ []) (rest ++ after) in
    let count : length more ≡ length before + 1 = length-append before (line ∷ []) in (
      test (0 + length before),
      got test starts 0 before line (rest ++ after)
          ∙ ap (λ o. Some (record line { target = o; is_target = test (0 + length before) })) (target-same place starts n line.inst line.target same h.0),
      subst (λ l. Stand (marked test 0 (map (aimed starts) l)) place (length before + 1) rest) lines
          (subst (λ m. Stand (marked test 0 (map (aimed starts) (more ++ (rest ++ after)))) place m rest) count
          (stands-among test starts place n same more rest after h.1)),
    )

pub aimed-rest : (n : ℕ) (xs ys : List Line) → AreAimed n (xs ++ ys) → AreAimed n ys
aimed-rest n [] ys h = h
aimed-rest n (x ∷ xs) ys h = aimed-rest n xs ys h.1

pub aimed-first : (n : ℕ) (xs ys : List Line) → AreAimed n (xs ++ ys) → AreAimed n xs
aimed-first n [] ys h = tt
aimed-first n (x ∷ xs) ys h = (h.0, aimed-first n xs ys h.1)
