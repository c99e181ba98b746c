-- Typed trees and statements as plain data.
use Rattle.std.specs.Prelude.{ℕ, Bool, List, [], ◌∷◌, Option, Some, None}
use Rattle.p9_tree.specs.declared.tree.Width.{Width}
use Rattle.p9_tree.specs.declared.tree.UnOp.{UnOp}
use Rattle.p9_tree.specs.declared.tree.BinOp.{BinOp}
use Rattle.p9_tree.specs.declared.tree.TTree.{TTree, fold-TTree}
use Rattle.p9_tree.specs.declared.tree.TTree.TheOpen.{TTree-F}
use Rattle.p9_tree.specs.declared.tree.TStmt.{TStmt, fold-TStmt}
use Rattle.p9_tree.specs.declared.tree.TArm.TheOpen.{TArm-F, TStmt-F}

-- Expressions. Every width, conversion and pointer offset is explicit in them.
mutual
  pub data Tree : Type 0 where
    Const : (word : ℕ) → Tree
    -- the address of a symbol of the module, moved
    Addr : (symbol offset : ℕ) → Tree
    -- the address of an automatic of the function
    Auto : (number : ℕ) → Tree
    Load : (width : Width) (from : Tree) → Tree
    Store : (width : Width) (to value : Tree) → Tree
    Update : (width : Width) (op : BinOp) (to right : Tree) → Tree
    Copy : (bytes : ℕ) (to from : Tree) → Tree
    Un : (op : UnOp) (operand : Tree) → Tree
    Bin : (op : BinOp) (left right : Tree) → Tree
    Conv : (width : Width) (operand : Tree) → Tree
    Choose : (test first second : Tree) → Tree
    Both : (is_and : Bool) (left right : Tree) → Tree
    Step : (width : Width) (is_prefix : Bool) (amount : ℕ) (to : Tree) → Tree
    Seq : (left right : Tree) → Tree
    Call : (function : Tree) (arguments : Trees) → Tree

  pub data Trees : Type 0 where
    none : Trees
    more : (first : Tree) (others : Trees) → Trees

-- Statements, and the parts of a `switch`
mutual
  pub data Stmt : Type 0 where
    Nothing : Stmt
    Effect : (tree : Tree) → Stmt
    Block : (automatics : List ℕ) (body : Stmts) → Stmt
    If : (test : Tree) (first : Stmt) → Stmt
    IfElse : (test : Tree) (first second : Stmt) → Stmt
    While : (test : Tree) (body : Stmt) → Stmt
    DoWhile : (body : Stmt) (test : Tree) → Stmt
    For : (first test step : Option Tree) (body : Stmt) → Stmt
    Switch : (tree : Tree) (arms : Arms) → Stmt
    Break : Stmt
    Continue : Stmt
    Return : (tree : Option Tree) → Stmt
    Label : (number : ℕ) → Stmt
    Goto : (number : ℕ) → Stmt

  pub data Stmts : Type 0 where
    end : Stmts
    thereafter : (first : Stmt) (others : Stmts) → Stmts

  pub data Arms : Type 0 where
    no_arms : Arms
    Case : (word : ℕ) (others : Arms) → Arms
    Default : (others : Arms) → Arms
    Arm : (stmt : Stmt) (others : Arms) → Arms

-- The trees of the program as such trees

abbrev pub tree_row : List Tree → Trees
tree_row [] = none
tree_row (first ∷ others) = more first (tree_row others)

abbrev pub tree_step : TTree-F Tree → Tree
tree_step (TTree-F.Const word) = Const word
tree_step (TTree-F.Addr symbol offset) = Addr symbol offset
tree_step (TTree-F.Auto number) = Auto number
tree_step (TTree-F.Load width from) = Load width from
tree_step (TTree-F.Store width to value) = Store width to value
tree_step (TTree-F.Update width op to right) = Update width op to right
tree_step (TTree-F.Copy bytes to from) = Copy bytes to from
tree_step (TTree-F.Un op operand) = Un op operand
tree_step (TTree-F.Bin op left right) = Bin op left right
tree_step (TTree-F.Conv width operand) = Conv width operand
tree_step (TTree-F.Choose test first second) = Choose test first second
tree_step (TTree-F.Both is_and left right) = Both is_and left right
tree_step (TTree-F.Step width is_prefix amount to) = Step width is_prefix amount to
tree_step (TTree-F.Seq left right) = Seq left right
tree_step (TTree-F.Call function arguments) = Call function (tree_row arguments)

unfoldable pub tree_of : TTree → Tree
tree_of = fold-TTree Tree tree_step

abbrev pub tree_in : Option TTree → Option Tree
tree_in None = None
tree_in (Some t) = Some (tree_of t)

-- a part of a `switch`, as it is read
pub data ArmTree : Type 0 where
  CaseArm : (word : ℕ) → ArmTree
  DefaultArm : ArmTree
  StmtArm : (stmt : Stmt) → ArmTree

abbrev pub stmt_row : List Stmt → Stmts
stmt_row [] = end
stmt_row (first ∷ others) = thereafter first (stmt_row others)

abbrev pub with_arm : ArmTree → Arms → Arms
with_arm (CaseArm word) others = Case word others
with_arm DefaultArm others = Default others
with_arm (StmtArm stmt) others = Arm stmt others

abbrev pub arm_row : List ArmTree → Arms
arm_row [] = no_arms
arm_row (first ∷ others) = with_arm first (arm_row others)

abbrev pub if_stmt : Tree → Stmt → Option Stmt → Stmt
if_stmt test first None = If test first
if_stmt test first (Some second) = IfElse test first second

abbrev pub arm_step : TArm-F ArmTree Stmt → ArmTree
arm_step (TArm-F.Case word) = CaseArm word
arm_step TArm-F.Default = DefaultArm
arm_step (TArm-F.Stmt stmt) = StmtArm stmt

abbrev pub stmt_step : TStmt-F ArmTree Stmt → Stmt
stmt_step TStmt-F.Nothing = Nothing
stmt_step (TStmt-F.Value tree) = Effect (tree_of tree)
stmt_step (TStmt-F.Block automatics body) = Block automatics (stmt_row body)
stmt_step (TStmt-F.If test first second) = if_stmt (tree_of test) first second
stmt_step (TStmt-F.While test body) = While (tree_of test) body
stmt_step (TStmt-F.DoWhile body test) = DoWhile body (tree_of test)
stmt_step (TStmt-F.For first test step body) = For (tree_in first) (tree_in test) (tree_in step) body
stmt_step (TStmt-F.Switch tree arms) = Switch (tree_of tree) (arm_row arms)
stmt_step TStmt-F.Break = Break
stmt_step TStmt-F.Continue = Continue
stmt_step (TStmt-F.Return tree) = Return (tree_in tree)
stmt_step (TStmt-F.Label number) = Label number
stmt_step (TStmt-F.Goto number) = Goto number

unfoldable pub stmt_of : TStmt → Stmt
stmt_of = fold-TStmt ArmTree Stmt arm_step stmt_step
