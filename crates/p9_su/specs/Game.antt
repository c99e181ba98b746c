-- The register game: registers hold values of a shape's nodes, and moves load leaves and combine sons.
use Rattle.std.specs.Prelude.{◌≡◌, ℕ, ◌+◌, ◌<◌, ◌==◌, List, [], ◌∷◌, ◌++◌, Option, Some, None, ◌⊎◌, All, slice_get, if◌then◌else◌}
use Rattle.p9_su.specs.declared.shapes.Shape.{Shape, Leaf, Pair'}
use Rattle.p9_su.specs.declared.moves.Move.{Move}
use Rattle.p9_su.specs.declared.moves.Move.TheVariants.{Load, Combine}
use Rattle.p9_su.specs.Shapes.{leaves_of}

-- Nodes

pub data Side : Type 0 where
  Left : Side
  Right : Side

-- A node is named by the way from it up to the root. The root is [], and the sons of the node p are
-- Left ∷ p and Right ∷ p.
abbrev pub Place : Type 0
Place = List Side

-- the leaves of the shape that stands at a place, from left to right
abbrev pub leaf_places : Shape → Place → List Place
leaf_places Leaf place = place ∷ []
leaf_places (Pair' p left q right) place =
    leaf_places left (Left ∷ place) ++ leaf_places right (Right ∷ place)

-- Registers

-- what each register holds: the value of the node at a place, or nothing
abbrev pub Registers : Type 0
Registers = ℕ → Option Place

abbrev pub all_free : Registers
all_free register = None

-- the registers after one of them has got other content
abbrev pub with_content : Registers → ℕ → Option Place → Registers
with_content registers register content other =
    if other == register then content else registers other

-- the two registers' contents are the two sons' values of a node, in either order
abbrev pub AreSons : Place → Option Place → Option Place → Type 0
AreSons place one other =
    ((one ≡ Some (Left ∷ place)) × (other ≡ Some (Right ∷ place)))
    ⊎ ((one ≡ Some (Right ∷ place)) × (other ≡ Some (Left ∷ place)))

-- Moves

-- The moves can be made one after the other, from the one state of the registers to the other. A leaf is
-- loaded into a free register. Two sons' values become their node's value in one register, and the other
-- is free from then on.
abbrev pub Leads : Shape → Registers → List Move → Registers → Type 0
Leads shape before [] after = before ≡ after
Leads shape before (Load leaf register ∷ rest) after =
    (place : Place) × (slice_get (leaf_places shape []) leaf ≡ Some place) × (before register ≡ None)
    × Leads shape (with_content before register (Some place)) rest after
Leads shape before (Combine into with ∷ rest) after =
    (place : Place) × AreSons place (before into) (before with)
    × Leads shape (with_content (with_content before with None) into (Some place)) rest after

-- the move's registers have numbers below this one
abbrev pub UsesBelow : ℕ → Move → Type 0
UsesBelow count (Load leaf register) = register < count
UsesBelow count (Combine into with) = (into < count) × (with < count)

-- how often a leaf is loaded
abbrev pub loads_of : ℕ → List Move → ℕ
loads_of leaf [] = 0
loads_of leaf (Load loaded register ∷ rest) = (if loaded == leaf then 1 else 0) + loads_of leaf rest
loads_of leaf (Combine into with ∷ rest) = loads_of leaf rest

-- Plays

-- from free registers the moves lead to the root's value in one of so many registers
abbrev pub ReachesRoot : Shape → List Move → ℕ → Type 0
ReachesRoot shape moves count =
    (after : Registers) × (register : ℕ) × Leads shape all_free moves after
    × (register < count) × (after register ≡ Some [])

-- a play on a shape with so many registers, in any order of moves
pub record IsPlay (shape : Shape) (moves : List Move) (count : ℕ) : Type 0 where
  pub registers : All (UsesBelow count) moves
  pub each_leaf_once : (leaf : ℕ) → leaf < leaves_of shape → loads_of leaf moves ≡ 1
  pub root : ReachesRoot shape moves count

-- there is a play with so many registers
abbrev pub CanBePlayed : Shape → ℕ → Type 0
CanBePlayed shape count = (moves : List Move) × IsPlay shape moves count
