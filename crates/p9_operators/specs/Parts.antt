-- What is known of a tree by its outermost part.
use Rattle.std.specs.Prelude.{ℕ, Option, Some, None}
use Rattle.p9_tree.specs.Trees.{Tree, Const, Addr}

-- the number that a tree is
abbrev pub number_in : Tree → Option ℕ
number_in (Const word) = Some word
number_in tree = None

-- the symbol whose address a tree is, and by how much that is moved
abbrev pub symbol_in : Tree → Option (ℕ × ℕ)
symbol_in (Addr symbol offset) = Some (symbol, offset)
symbol_in tree = None
