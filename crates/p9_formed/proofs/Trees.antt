-- The trees of the grammar as those of typing.
use Rattle.std.proofs.Common.{◌≡◌, List, [], ◌∷◌, map, refl, ap, sym, ◌∙◌}
use Rattle.p9_lang.specs.declared.tree.Node.{Node, roll-Node, fold-roll-Node, ind-Node}
use Rattle.p9_lang.specs.declared.tree.Node.TheOpen.{Node-F}
use Rattle.p9_lang.specs.Trees.{Syntax, SyntaxRow, row, syntax_step, syntax_of, row_of}
use Rattle.p9_lang.specs.Trees as typing
use Rattle.p9_grammar.specs.Trees.{Tree, node, Trees, none, more, tree_of, trees_of}
use Rattle.p9_grammar.proofs.Nodes.{tree_of-roll}

abbrev mutual
  pub syntax : Tree → Syntax
  syntax (node kind at parts) = typing.node kind at (syntaxes parts)

  pub syntaxes : Trees → SyntaxRow
  syntaxes none = typing.none
  syntaxes (more first others) = typing.more (syntax first) (syntaxes others)

row_map : (ns : List Node) → row (map syntax_of ns) ≡ row_of ns
row_map [] = refl
row_map (n ∷ ns) = ap (typing.more (syntax_of n)) (row_map ns)

-- a node that is made
syntax_roll : (x : Node-F Node) → syntax_of (roll-Node x) ≡ typing.node x.kind x.token (row_of x.parts)
unfolding syntax_of
syntax_roll x = fold-roll-Node Syntax syntax_step x ∙ ap (typing.node x.kind x.token) (row_map x.parts)

parts_agree : {X : Type 0} (f : X → Node) (ys : List X) → ((y : X) → syntax (tree_of (f y)) ≡ syntax_of (f y)) → syntaxes (trees_of (map f ys)) ≡ row_of (map f ys)
parts_agree f [] h = refl
parts_agree f (y ∷ ys) h =
    ap (λ m. typing.more m (syntaxes (trees_of (map f ys)))) (h y) ∙ ap (typing.more (syntax_of (f y))) (parts_agree f ys h)

-- a node is one tree to both
tree_agrees : (n : Node) → syntax (tree_of n) ≡ syntax_of n
tree_agrees = ind-Node (λ n. syntax (tree_of n) ≡ syntax_of n) (λ x y e.
    ap syntax (tree_of-roll x)
    ∙ ap (typing.node x.kind x.token)
    (let parts : map (λ e. e.0) y.parts ≡ x.parts = ap (λ l. l.parts) e in
    ap (λ ps. syntaxes (trees_of ps)) (sym parts) ∙ parts_agree (λ e. e.0) y.parts (λ e. e.1) ∙ ap row_of parts)
    ∙ sym (syntax_roll x))

pub trees_agree : (ns : List Node) → syntaxes (trees_of ns) ≡ row_of ns
trees_agree [] = refl
trees_agree (n ∷ ns) =
    ap (λ m. typing.more m (syntaxes (trees_of ns))) (tree_agrees n) ∙ ap (typing.more (syntax_of n)) (trees_agree ns)
