-- Lists that loops walk down.
use Rattle.std.proofs.Common.{◌≡◌, ◌≤◌, ◌-◌, List, [], ◌∷◌, length, get_or, take, drop, sym, ap, ◌∙◌, arith}
use Rattle.std.proofs.lemmas.List.{take_rest}

-- a list's first item, and what is behind it
pub uncons : {X : Type 0} (rest : List X) (z : X) → 1 ≤ length rest → rest ≡ get_or rest 0 z ∷ take (length rest - 1) (drop 1 rest)
uncons [] z h = absurd (omega arith)
uncons (x ∷ rest) z h = ap (λ xs. x ∷ xs) (sym (take_rest (x ∷ rest) 1))

-- the same, where the item is known
pub uncons_is : {X : Type 0} (rest : List X) (x : X) → 1 ≤ length rest → x ≡ get_or rest 0 x → rest ≡ x ∷ take (length rest - 1) (drop 1 rest)
uncons_is rest x h e = uncons rest x h ∙ ap (λ y. y ∷ take (length rest - 1) (drop 1 rest)) (sym e)
