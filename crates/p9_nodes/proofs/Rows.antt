-- Nodes beside each other by how many there are.
use Rattle.std.proofs.Common.{◌≡◌, ◌≤◌, ℕ, Bool, true, false, List, [], ◌∷◌, Option, Some, None, unwrap_or, refl, sym, ap, ◌∙◌, length, arith}
use Rattle.p9_lang.specs.declared.module.Module.{Module}
use Rattle.p9_lang.specs.declared.tree.Node.{Node}
use Rattle.p9_lang.specs.Trees.{none, more}
use Rattle.p9_lang.specs.Modules.{Typed, TypedRow}
use Rattle.p9_lang.specs.Modules as modules
use Rattle.p9_nodes.specs.declared.nodes.TypedNode.{TypedNode}
use Rattle.p9_nodes.specs.declared.nodes.NodeRow.{NodeRow}
use Rattle.p9_nodes.specs.Nodes.{node_in, row_in}
use Rattle.p9_nodes.specs.Arities.{is_none, the_one, the_two, the_three, told_one, told_two, told_three}

-- a row that has none, by what the_one and its like say of it

pub one_none : (row : TypedRow) → row ≡ none → None ≡ the_one row
one_none row e = ap the_one (sym e)

pub one_here : (row others : TypedRow) (a : Typed) → row ≡ more a others → true ≡ is_none others → Some a ≡ the_one row
one_here row none a e h = ap the_one (sym e)
one_here row (more b others) a e h = cc

pub one_more : (row others : TypedRow) (a : Typed) → row ≡ more a others → false ≡ is_none others → None ≡ the_one row
one_more row none a e h = cc
one_more row (more b others) a e h = ap the_one (sym e)

pub two_none : (row : TypedRow) → row ≡ none → None ≡ the_two row
two_none row e = ap the_two (sym e)

pub two_here : (row others : TypedRow) (a b : Typed) → row ≡ more a others → Some b ≡ the_one others → Some (a, b) ≡ the_two row
two_here row none a b e h = cc
two_here row (more c none) a b e h = (let same : b ≡ c = cc in ap (λ x. Some (a, x)) same) ∙ ap the_two (sym e)
two_here row (more c (more d others)) a b e h = cc

pub two_more : (row others : TypedRow) (a : Typed) → row ≡ more a others → None ≡ the_one others → None ≡ the_two row
two_more row none a e h = ap the_two (sym e)
two_more row (more c none) a e h = cc
two_more row (more c (more d others)) a e h = ap the_two (sym e)

pub three_none : (row : TypedRow) → row ≡ none → None ≡ the_three row
three_none row e = ap the_three (sym e)

pub three_here : (row others : TypedRow) (a b c : Typed) → row ≡ more a others → Some (b, c) ≡ the_two others → Some (a, b, c) ≡ the_three row
three_here row none a b c e h = cc
three_here row (more x none) a b c e h = cc
three_here row (more x (more y none)) a b c e h = ap (λ p. Some (a, p.0, p.1)) (ap (λ o. unwrap_or o (b, c)) h) ∙ ap the_three (sym e)
three_here row (more x (more y (more z others))) a b c e h = cc

pub three_more : (row others : TypedRow) (a : Typed) → row ≡ more a others → None ≡ the_two others → None ≡ the_three row
three_more row none a e h = ap the_three (sym e)
three_more row (more x none) a e h = ap the_three (sym e)
three_more row (more x (more y none)) a e h = cc
three_more row (more x (more y (more z others))) a e h = ap the_three (sym e)

-- rows of the program

pub none_in : (m : Module) (row : NodeRow) → length row.nodes.now ≤ 0 → true ≡ is_none (row_in m row)
unfolding row_in
none_in m row h = none_at m row.first row.nodes.now h
  where
    none_at : (m : Module) (first : ℕ) (nodes : List Node) → length nodes ≤ 0
        → true ≡ is_none (modules.typed_row (Rattle.p9_lang.specs.Types.types_of m.types) (Rattle.p9_lang.specs.Types.all_meant m.binds) first (Rattle.p9_lang.specs.Trees.row_of nodes))
    none_at m first [] h = refl
    none_at m first (n ∷ ns) h = absurd (omega arith)

pub some_in : (m : Module) (row : NodeRow) → 1 ≤ length row.nodes.now → false ≡ is_none (row_in m row)
unfolding row_in
some_in m row h = some_at m row.first row.nodes.now h
  where
    some_at : (m : Module) (first : ℕ) (nodes : List Node) → 1 ≤ length nodes
        → false ≡ is_none (modules.typed_row (Rattle.p9_lang.specs.Types.types_of m.types) (Rattle.p9_lang.specs.Types.all_meant m.binds) first (Rattle.p9_lang.specs.Trees.row_of nodes))
    some_at m first [] h = absurd (omega arith)
    some_at m first (n ∷ ns) h = refl
