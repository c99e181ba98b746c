-- A slice's first element and the rest of it, as patterns and ranges give them.
use Rattle.std.proofs.Common.{◌≡◌, ℕ, ◌-◌, ◌≤◌, List, [], ◌∷◌, length, take, drop, get_or, sym, ap, ◌∙◌, length-drop, arith}
use Rattle.std.proofs.Math.Seq.{take-length}

pub slice_rest : (n : ℕ) (s : List ℕ) → take (length s - n) (drop n s) ≡ drop n s
slice_rest n s = ap (λ m. take m (drop n s)) (sym (length-drop n s)) ∙ take-length (drop n s)

pub slice_front : (s : List ℕ) → 1 ≤ length s → s ≡ get_or s 0 0 ∷ take (length s - 1) (drop 1 s)
slice_front [] h = absurd (omega (arith, h))
slice_front (b ∷ s) h = ap (λ r. b ∷ r) (sym (slice_rest 1 (b ∷ s)))
