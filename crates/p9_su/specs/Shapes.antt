-- Shapes of expressions: their leaves, and Sethi and Ullman's number.
use Rattle.std.specs.Prelude.{ℕ, ◌+◌, ◌==◌, max, if◌then◌else◌}
use Rattle.p9_su.specs.declared.shapes.Shape.{Shape, Leaf, Pair'}

-- how many leaves there are
abbrev pub leaves_of : Shape → ℕ
leaves_of Leaf = 1
leaves_of (Pair' p left q right) = leaves_of left + leaves_of right

-- the number of a node whose sons have these numbers
abbrev pub joined_number : ℕ → ℕ → ℕ
joined_number left right = if left == right then left + 1 else max left right

-- Sethi and Ullman's number
abbrev pub number_of : Shape → ℕ
number_of Leaf = 1
number_of (Pair' p left q right) = joined_number (number_of left) (number_of right)
