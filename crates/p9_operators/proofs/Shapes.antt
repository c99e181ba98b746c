-- Typed trees of the program as plain data, by their variants.
use Rattle.std.proofs.Common.{ℕ, ◌≡◌, Bool, List, map, ap, sym, ◌∙◌}
use Rattle.p9_tree.specs.declared.tree.BinOp.{BinOp}
use Rattle.p9_tree.specs.declared.tree.UnOp.{UnOp}
use Rattle.p9_tree.specs.declared.tree.Width.{Width}
use Rattle.p9_tree.specs.declared.tree.TTree.{TTree, fold-roll-TTree}
use Rattle.p9_tree.specs.declared.tree.TTree.TheOpen.{TTree-F}
use Rattle.p9_tree.specs.declared.tree.TTree.TheVariants as tree
use Rattle.p9_tree.specs.Trees as trees
use Rattle.p9_tree.specs.Trees.{Tree, tree_row, tree_step, tree_of}

pub tree_const : (word : ℕ) → tree_of (tree.Const word) ≡ trees.Const word
unfolding tree_of
tree_const word = ap tree_of (sym (tree.rolls-Const word)) ∙ fold-roll-TTree Tree tree_step (TTree-F.Const word)

pub tree_addr : (symbol : ℕ) (offset : ℕ) → tree_of (tree.Addr symbol offset) ≡ trees.Addr symbol offset
unfolding tree_of
tree_addr symbol offset = ap tree_of (sym (tree.rolls-Addr symbol offset)) ∙ fold-roll-TTree Tree tree_step (TTree-F.Addr symbol offset)

pub tree_auto : (number : ℕ) → tree_of (tree.Auto number) ≡ trees.Auto number
unfolding tree_of
tree_auto number = ap tree_of (sym (tree.rolls-Auto number)) ∙ fold-roll-TTree Tree tree_step (TTree-F.Auto number)

pub tree_load : (width : Width) (from : TTree) → tree_of (tree.Load width from) ≡ trees.Load width (tree_of from)
unfolding tree_of
tree_load width from = ap tree_of (sym (tree.rolls-Load width from)) ∙ fold-roll-TTree Tree tree_step (TTree-F.Load width from)

pub tree_store : (width : Width) (to : TTree) (value : TTree) → tree_of (tree.Store width to value) ≡ trees.Store width (tree_of to) (tree_of value)
unfolding tree_of
tree_store width to value = ap tree_of (sym (tree.rolls-Store width to value)) ∙ fold-roll-TTree Tree tree_step (TTree-F.Store width to value)

pub tree_update : (width : Width) (op : BinOp) (to : TTree) (right : TTree) → tree_of (tree.Update width op to right) ≡ trees.Update width op (tree_of to) (tree_of right)
unfolding tree_of
tree_update width op to right = ap tree_of (sym (tree.rolls-Update width op to right)) ∙ fold-roll-TTree Tree tree_step (TTree-F.Update width op to right)

pub tree_copy : (bytes : ℕ) (to : TTree) (from : TTree) → tree_of (tree.Copy bytes to from) ≡ trees.Copy bytes (tree_of to) (tree_of from)
unfolding tree_of
tree_copy bytes to from = ap tree_of (sym (tree.rolls-Copy bytes to from)) ∙ fold-roll-TTree Tree tree_step (TTree-F.Copy bytes to from)

pub tree_un : (op : UnOp) (operand : TTree) → tree_of (tree.Un op operand) ≡ trees.Un op (tree_of operand)
unfolding tree_of
tree_un op operand = ap tree_of (sym (tree.rolls-Un op operand)) ∙ fold-roll-TTree Tree tree_step (TTree-F.Un op operand)

pub tree_bin : (op : BinOp) (left : TTree) (right : TTree) → tree_of (tree.Bin op left right) ≡ trees.Bin op (tree_of left) (tree_of right)
unfolding tree_of
tree_bin op left right = ap tree_of (sym (tree.rolls-Bin op left right)) ∙ fold-roll-TTree Tree tree_step (TTree-F.Bin op left right)

pub tree_conv : (width : Width) (operand : TTree) → tree_of (tree.Conv width operand) ≡ trees.Conv width (tree_of operand)
unfolding tree_of
tree_conv width operand = ap tree_of (sym (tree.rolls-Conv width operand)) ∙ fold-roll-TTree Tree tree_step (TTree-F.Conv width operand)

pub tree_choose : (test : TTree) (first : TTree) (second : TTree) → tree_of (tree.Choose test first second) ≡ trees.Choose (tree_of test) (tree_of first) (tree_of second)
unfolding tree_of
tree_choose test first second = ap tree_of (sym (tree.rolls-Choose test first second)) ∙ fold-roll-TTree Tree tree_step (TTree-F.Choose test first second)

pub tree_both : (is_and : Bool) (left : TTree) (right : TTree) → tree_of (tree.Both is_and left right) ≡ trees.Both is_and (tree_of left) (tree_of right)
unfolding tree_of
tree_both is_and left right = ap tree_of (sym (tree.rolls-Both is_and left right)) ∙ fold-roll-TTree Tree tree_step (TTree-F.Both is_and left right)

pub tree_stepped : (width : Width) (is_prefix : Bool) (amount : ℕ) (to : TTree) → tree_of (tree.Step width is_prefix amount to) ≡ trees.Step width is_prefix amount (tree_of to)
unfolding tree_of
tree_stepped width is_prefix amount to = ap tree_of (sym (tree.rolls-Step width is_prefix amount to)) ∙ fold-roll-TTree Tree tree_step (TTree-F.Step width is_prefix amount to)

pub tree_seq : (left : TTree) (right : TTree) → tree_of (tree.Seq left right) ≡ trees.Seq (tree_of left) (tree_of right)
unfolding tree_of
tree_seq left right = ap tree_of (sym (tree.rolls-Seq left right)) ∙ fold-roll-TTree Tree tree_step (TTree-F.Seq left right)

pub tree_call : (function : TTree) (arguments : List TTree) → tree_of (tree.Call function arguments) ≡ trees.Call (tree_of function) (tree_row (map tree_of arguments))
unfolding tree_of
tree_call function arguments = ap tree_of (sym (tree.rolls-Call function arguments)) ∙ fold-roll-TTree Tree tree_step (TTree-F.Call function arguments)

pub ruleset tree_shapes = (tree_const, tree_addr, tree_auto, tree_load, tree_store, tree_update, tree_copy, tree_un, tree_bin, tree_conv, tree_choose, tree_both, tree_stepped, tree_seq, tree_call)
