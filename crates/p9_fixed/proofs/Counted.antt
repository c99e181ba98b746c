-- Parts by how many there are.
use Rattle.std.proofs.Common.{◌≡◌, ◌≤◌, ◌<◌, List, [], ◌∷◌, length, None, refl, arith}
use Rattle.p9_fixed.specs.declared.kinds.FixedPart.{FixedPart}
use Rattle.p9_fixed.specs.Told.{told_parts}
use Rattle.p9_fixed.specs.Arities.{the_one, the_two, the_three}

pub fewer_than_one : (os : List FixedPart) → length os < 1 → the_one (told_parts os) ≡ None
fewer_than_one [] lt = refl
fewer_than_one (a ∷ os) lt = absurd (omega arith)

pub more_than_one : (os : List FixedPart) → 2 ≤ length os → the_one (told_parts os) ≡ None
more_than_one [] le = refl
more_than_one (a ∷ []) le = absurd (omega arith)
more_than_one (a ∷ (b ∷ os)) le = refl

pub fewer_than_two : (os : List FixedPart) → length os < 2 → the_two (told_parts os) ≡ None
fewer_than_two [] lt = refl
fewer_than_two (a ∷ []) lt = refl
fewer_than_two (a ∷ (b ∷ os)) lt = absurd (omega arith)

pub more_than_two : (os : List FixedPart) → 3 ≤ length os → the_two (told_parts os) ≡ None
more_than_two [] le = refl
more_than_two (a ∷ []) le = refl
more_than_two (a ∷ (b ∷ [])) le = absurd (omega arith)
more_than_two (a ∷ (b ∷ (c ∷ os))) le = refl

pub fewer_than_three : (os : List FixedPart) → length os < 3 → the_three (told_parts os) ≡ None
fewer_than_three [] lt = refl
fewer_than_three (a ∷ []) lt = refl
fewer_than_three (a ∷ (b ∷ [])) lt = refl
fewer_than_three (a ∷ (b ∷ (c ∷ os))) lt = absurd (omega arith)

pub more_than_three : (os : List FixedPart) → 4 ≤ length os → the_three (told_parts os) ≡ None
more_than_three [] le = refl
more_than_three (a ∷ []) le = refl
more_than_three (a ∷ (b ∷ [])) le = refl
more_than_three (a ∷ (b ∷ (c ∷ []))) le = absurd (omega arith)
more_than_three (a ∷ (b ∷ (c ∷ (d ∷ os)))) le = refl
