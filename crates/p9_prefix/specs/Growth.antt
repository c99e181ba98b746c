-- How high a whole is at least, and how many nodes it has at least, by what is read of it.
use Rattle.std.specs.Prelude.{◌≡◌, ℕ, suc, ◌+◌, ◌-◌, ◌≤◌, max, List, [], ◌∷◌, ◌++◌, Option, Some, None}
use Rattle.p9_grammar.specs.declared.terminal.Terminal.{Terminal}
use Rattle.p9_grammar.specs.declared.terminal.Terminal.TheVariants.{End}
use Rattle.p9_grammar.specs.Trees.{Trees, height, height_in, nodes, nodes_in}
use Rattle.p9_grammar.specs.Machine.{Stack, State, Read, run, step}
use Rattle.p9_prefix.specs.Goals.{Goal, IsWhole, start}

-- the height of the whole, where a part of this height stands in the innermost open node
abbrev pub raised : Stack → ℕ → ℕ
raised [] h = h
raised (f ∷ s) h = raised s (suc (max (height_in f.parts) h))

-- the nodes of the whole, where a part with so many nodes stands in the innermost open node
abbrev pub joined : Stack → ℕ → ℕ
joined [] n = n
joined (f ∷ s) n = joined s (suc (nodes_in f.parts + n))

abbrev pub height_of : Option Read → ℕ
height_of None = 0
height_of (Some n) = height n.tree

abbrev pub size_of : Option Read → ℕ
size_of None = 0
size_of (Some n) = nodes n.tree

-- without the outermost, which holds the whole
abbrev pub height_so_far : State → ℕ
height_so_far st = raised st.stack (height_of st.last) - 1

abbrev pub nodes_so_far : State → ℕ
nodes_so_far st = joined st.stack (size_of st.last) - 1

-- What is read of a whole is no higher than the whole, and has no more nodes.
abbrev pub OnlyGrows : Type 0
OnlyGrows =
    (goal : Goal) (ns : Trees) (front rest : List Terminal) (st : State) → IsWhole goal ns (front ++ rest) → run (Some (start goal)) front ≡ Some st →
    (height_so_far st ≤ height_in ns) × (nodes_so_far st ≤ nodes_in ns)

-- The end makes what is read no higher, and adds no nodes.
abbrev pub EndAddsNothing : Type 0
EndAddsNothing = (st new : State) → step st End ≡ Some new → (height_so_far new ≤ height_so_far st) × (nodes_so_far new ≤ nodes_so_far st)
