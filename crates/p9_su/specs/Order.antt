-- The order of Sethi and Ullman: the son that needs more registers goes first.
use Rattle.std.specs.Prelude.{ℕ, ◌+◌, List, [], ◌∷◌, ◌++◌, nat_le, if◌then◌else◌}
use Rattle.p9_su.specs.declared.shapes.Shape.{Shape, Leaf, Pair'}
use Rattle.p9_su.specs.declared.moves.Move.{Move}
use Rattle.p9_su.specs.declared.moves.Move.TheVariants.{Load, Combine}
use Rattle.p9_su.specs.declared.plans.Label.{Label}
use Rattle.p9_su.specs.Shapes.{leaves_of, number_of, joined_number}

-- the moves that leave a shape's value in a register, with its first leaf's number
abbrev pub moves_of : Shape → (leaf register : ℕ) → List Move
moves_of Leaf leaf register = Load leaf register ∷ []
moves_of (Pair' p left q right) leaf register =
    (if nat_le (number_of right) (number_of left)
    then moves_of left leaf register ++ moves_of right (leaf + leaves_of left) (register + 1)
    else moves_of right (leaf + leaves_of left) register ++ moves_of left leaf (register + 1))
    ++ Combine register (register + 1) ∷ []

-- the label of a node whose sons have these labels
abbrev pub joined_label : Label → Label → Label
joined_label left right = record { number = joined_number left.number right.number; leaves = left.leaves + right.leaves }

abbrev pub label_of : Shape → Label
label_of shape = record { number = number_of shape; leaves = leaves_of shape }

-- the labels of all nodes, each node's after those of its sons
abbrev pub labels_of : Shape → List Label
labels_of Leaf = label_of Leaf ∷ []
labels_of (Pair' p left q right) = labels_of left ++ labels_of right ++ label_of (Pair' p left q right) ∷ []
