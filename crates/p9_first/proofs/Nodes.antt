-- Nodes and types that are made, as plain data.
use Rattle.std.proofs.Common.{◌≡◌, ℕ, List, [], ◌∷◌, map, refl, ap, sym, ◌∙◌}
use Rattle.p9_first.specs.declared.tree.Node.{Node, out-Node, roll-Node, fold-roll-Node, fold_out-Node}
use Rattle.p9_first.specs.declared.tree.Node.TheOpen.{Node-F}
use Rattle.p9_first.specs.declared.types.CType.{CType, fold-roll-CType}
use Rattle.p9_first.specs.declared.types.CType.TheOpen.{CType-F}
use Rattle.p9_first.specs.declared.types.CType.TheVariants as ctype
use Rattle.p9_first.specs.Trees.{Syntax, node, row, syntax_step, syntax_of, row_of}
use Rattle.p9_first.specs.Types.{TypeTree, Void, Char, Int, Long, Pointer, Array, Function, type_row, type_step, type_of, types_of}

row-map : (ns : List Node) → row (map syntax_of ns) ≡ row_of ns
row-map [] = refl
row-map (n ∷ ns) = ap (Rattle.p9_first.specs.Trees.more (syntax_of n)) (row-map ns)

-- a node that is made
pub syntax_of-roll : (x : Node-F Node) → syntax_of (roll-Node x) ≡ node x.kind x.token (row_of x.parts)
unfolding syntax_of
syntax_of-roll x = fold-roll-Node Syntax syntax_step x ∙ ap (node x.kind x.token) (row-map x.parts)

-- a node that is looked into
pub syntax_of-out : (n : Node) → syntax_of n ≡ node (out-Node n).kind (out-Node n).token (row_of (out-Node n).parts)
unfolding syntax_of
syntax_of-out n = fold_out-Node Syntax syntax_step n ∙ ap (node (out-Node n).kind (out-Node n).token) (row-map (out-Node n).parts)

types-map : (ts : List CType) → map type_of ts ≡ types_of ts
types-map [] = refl
types-map (t ∷ ts) = ap (λ us. type_of t ∷ us) (types-map ts)

pub type_of-void : type_of ctype.Void ≡ Void
unfolding type_of
type_of-void = ap type_of (sym ctype.rolls-Void) ∙ fold-roll-CType TypeTree type_step CType-F.Void

pub type_of-int : type_of ctype.Int ≡ Int
unfolding type_of
type_of-int = ap type_of (sym ctype.rolls-Int) ∙ fold-roll-CType TypeTree type_step CType-F.Int

pub type_of-long : type_of ctype.Long ≡ Long
unfolding type_of
type_of-long = ap type_of (sym ctype.rolls-Long) ∙ fold-roll-CType TypeTree type_step CType-F.Long

pub type_of-char : type_of ctype.Char ≡ Char
unfolding type_of
type_of-char = ap type_of (sym ctype.rolls-Char) ∙ fold-roll-CType TypeTree type_step CType-F.Char

pub type_of-pointer : (t : CType) → type_of (ctype.Pointer t) ≡ Pointer (type_of t)
unfolding type_of
type_of-pointer t = ap type_of (sym (ctype.rolls-Pointer t)) ∙ fold-roll-CType TypeTree type_step (CType-F.Pointer t)

pub type_of-array : (t : CType) (n : ℕ) → type_of (ctype.Array t n) ≡ Array (type_of t) n
unfolding type_of
type_of-array t n = ap type_of (sym (ctype.rolls-Array t n)) ∙ fold-roll-CType TypeTree type_step (CType-F.Array t n)

pub type_of-function : (t : CType) (ts : List CType) → type_of (ctype.Function t ts) ≡ Function (type_of t) (type_row (types_of ts))
unfolding type_of
type_of-function t ts =
    ap type_of (sym (ctype.rolls-Function t ts))
    ∙ fold-roll-CType TypeTree type_step (CType-F.Function t ts)
    ∙ ap (λ us. Function (type_of t) (type_row us)) (types-map ts)
