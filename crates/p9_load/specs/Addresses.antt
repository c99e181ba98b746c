-- The addresses at which old lines are entered.
use Rattle.std.specs.Prelude.{ℕ, List, [], ◌∷◌, map}
use Rattle.p9_r3k.specs.Delayed.{line_address, least, enter}

-- where each line of new numbers is entered, and the end
abbrev pub entered_numbers : (count : ℕ) → (moved : List ℕ) → List ℕ
entered_numbers count [] = count ∷ []
entered_numbers count (n ∷ ns) = least count (n ∷ ns) ∷ entered_numbers count ns

abbrev pub entered_addresses : (moved : List ℕ) → (count : ℕ) → List ℕ → List ℕ
entered_addresses moved count olds = map (λ i. line_address (enter moved count i)) olds
