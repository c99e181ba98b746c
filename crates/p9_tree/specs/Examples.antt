-- Small programs by their typed trees: what their runs come to, how many nodes their functions count and
-- what these are charged; the registers that trees want; and what entries write. The sources stand in
-- the examples of the meaning.
use Rattle.std.specs.Prelude.{◌≡◌, ◌-◌, ◌^◌, ℕ, true, false, List, [], ◌∷◌, map, flat_map, Option, Some, Result, Ok, Err, codes}
use Rattle.p9_lang.specs.Types.{TypeTree, Char, Int, Pointer}
use Rattle.p9_lang.specs.Trees.{Syntax}
use Rattle.p9_lang.specs.Layout.{on_some}
use Rattle.p9_lang.specs.Modules.{Source}
use Rattle.p9_lang.specs.Symbols.{symbols}
use Rattle.p9_lang.specs.Initialisers.{BrokenItem, NotConstant, TooManyItems}
use Rattle.p9_cmean.specs.Union.{weighed_nodes}
use Rattle.p9_cmean.specs.ExampleRuns.{Seen, Ends, seen, modules_of}
use Rattle.p9_tree.specs.declared.tree.Width.TheVariants.{S8, W32}
use Rattle.p9_tree.specs.declared.tree.UnOp.TheVariants.{Not}
use Rattle.p9_tree.specs.declared.tree.BinOp.TheVariants as bin
use Rattle.p9_tree.specs.Trees.{Tree, Const, Addr, Auto, Load, Store, Update, Copy, Un, Bin, Conv, Choose, Both, Step, Seq, Call, tree_row, Stmt, Effect, Block, If, For, Switch, Break, Return, stmt_row, CaseArm, DefaultArm, StmtArm, arm_row}
use Rattle.p9_tree.specs.Charges.{pure, count, stmt_charge, stmt_waiting}
use Rattle.p9_tree.specs.Meaning.{Function}
use Rattle.p9_tree.specs.Modules.{Entry, TypedModule}
use Rattle.p9_tree.specs.TRun.{trun}
use Rattle.p9_tree.specs.Means.{code_items}
use Rattle.p9_tree.specs.Contents.{Content, Word, AddressOf, Write, writes_of}
use Rattle.p9_cmean.specs.ExamplesOfExpressions.{left_first, copied, steps}
use Rattle.p9_cmean.specs.ExamplesOfStatements.{for_and_switch}
use Rattle.p9_cmean.specs.ExamplesOfCalls.{recursion}
use Rattle.p9_cmean.specs.ExamplesOfOperators.{compared, without_values}

-- RUNS

abbrev pub function : (symbol : ℕ) → (sizes : List ℕ) → (parameters nodes : ℕ) → (automatics : List ℕ) → List Stmt → Function
function symbol sizes parameters nodes automatics stmts = record {
  symbol = symbol;
  sizes = sizes;
  parameters = parameters;
  body = Block automatics (stmt_row stmts);
  nodes = nodes;
}

-- a module of these functions; its symbols are those of its source
abbrev pub only : List Function → List TypedModule
only functions = record { symbols = []; tags = []; functions = functions; initialisers = [] } ∷ []

-- what is seen of the run of a file by the typed trees of its functions
unfoldable pub typed_run : List (List Syntax) → List Function → (turns : ℕ) → Option Seen
typed_run files functions turns = on_some (modules_of files) (λ modules. Some (seen (trun modules (only functions) [] turns)))

abbrev pub counts : List Source → List ℕ
counts modules = flat_map (λ m. map weighed_nodes (code_items (symbols m))) modules

-- how many nodes the functions of a file count
unfoldable pub node_counts : List (List Syntax) → Option (List ℕ)
node_counts files = on_some (modules_of files) (λ modules. Some (counts modules))

abbrev pub node_numbers : List Function → List ℕ
node_numbers functions = map (λ f. f.nodes) functions

abbrev pub charges : List Function → List ℕ
charges functions = map (λ f. stmt_charge f.body) functions

abbrev pub waitings : List Function → List ℕ
waitings functions = map (λ f. stmt_waiting f.body) functions

-- words in a symbol and in an automatic
abbrev pub symbol : ℕ → Tree
symbol k = Load W32 (Addr k 0)

abbrev pub automatic : ℕ → Tree
automatic k = Load W32 (Auto k)

abbrev pub call : ℕ → List Tree → Tree
call k arguments = Call (Addr k 0) (tree_row arguments)

abbrev pub both : Tree → Tree → Tree
both left right = Both true left right

-- exits is symbol 0, x 1, f 2, main 3, and "bad" 4
abbrev pub left_first_trees : List Function
left_first_trees =
    function 2 [] 0 12 []
    (Effect (Store W32 (Addr 1 0) (Bin bin.Add (symbol 1) (Const 1)))
    ∷ Return (Some (Const 4)) ∷ [])
    ∷ function 3 [] 0 26 []
    (Effect (Store W32 (Addr 1 0) (Const 3))
    ∷ If (Bin bin.Eq (Bin bin.Add (symbol 1) (call 2 [])) (Const 7)) (Effect (call 0 (Const 0 ∷ [])))
    ∷ Effect (call 0 (Addr 4 0 ∷ [])) ∷ [])
    ∷ []

-- exits is symbol 0, write 1 and main 2; i is automatic 0, s 1 and c 2
abbrev pub for_and_switch_trees : List Function
for_and_switch_trees =
    function 2 (4 ∷ 4 ∷ 1 ∷ []) 0 61 (0 ∷ 1 ∷ 2 ∷ [])
    (Effect (Store W32 (Auto 1) (Const 0))
    ∷ For
    (Some (Store W32 (Auto 0) (Const 0)))
    (Some (Bin bin.Lt (automatic 0) (Const 4)))
    (Some (Step W32 false 1 (Auto 0)))
    (Switch
    (automatic 0)
    (arm_row
    (CaseArm 1
    ∷ StmtArm (Effect (Update W32 bin.Add (Auto 1) (Const 1)))
    ∷ CaseArm 2
    ∷ StmtArm (Effect (Update W32 bin.Add (Auto 1) (Const 2)))
    ∷ StmtArm Break
    ∷ DefaultArm
    ∷ StmtArm (Effect (Update W32 bin.Add (Auto 1) (Const 3))) ∷ [])))
    ∷ Effect (Store S8 (Auto 2) (Conv S8 (Bin bin.Add (Const 48) (automatic 1))))
    ∷ Effect (call 1 (Const 1 ∷ Auto 2 ∷ Const 1 ∷ []))
    ∷ Effect (call 0 (Const 0 ∷ [])) ∷ [])
    ∷ []

-- exits is symbol 0, sum 1, main 2, and "bad" 3; n is automatic 0 and m 1
abbrev pub recursion_trees : List Function
recursion_trees =
    function 1 (4 ∷ 4 ∷ []) 1 25 (1 ∷ [])
    (Effect (Store W32 (Auto 1) (automatic 0))
    ∷ If
    (automatic 1)
    (Return (Some (Bin bin.Add (automatic 1) (call 1 (Bin bin.Sub (automatic 1) (Const 1) ∷ [])))))
    ∷ Return (Some (Const 0)) ∷ [])
    ∷ function 2 [] 0 21 []
    (If (Bin bin.Eq (call 1 (Const 3 ∷ [])) (Const 6)) (Effect (call 0 (Const 0 ∷ [])))
    ∷ Effect (call 0 (Addr 3 0 ∷ [])) ∷ [])
    ∷ []

-- exits is symbol 0, write 1, s 2, t 3 and main 4
abbrev pub copied_trees : List Function
copied_trees =
    function 4 [] 0 40 []
    (Effect (Store W32 (Addr 2 0) (Const 5))
    ∷ Effect (Store S8 (Addr 2 4) (Const 65))
    ∷ Effect (Copy 8 (Addr 3 0) (Addr 2 0))
    ∷ Effect (Store W32 (Addr 2 0) (Const 6))
    ∷ Effect (call 1 (Const 1 ∷ Addr 3 4 ∷ Bin bin.Sub (symbol 3) (Const 4) ∷ []))
    ∷ Effect (call 0 (Const 0 ∷ [])) ∷ [])
    ∷ []

-- exits is symbol 0, x 1, a 2, p 3, main 4, and "bad" 5; a step of -1 is one of 2^32 - 1
abbrev pub steps_trees : List Function
steps_trees =
    function 4 [] 0 72 []
    (Effect (Store W32 (Addr 3 0) (Addr 2 0))
    ∷ Effect (Store W32 (Step W32 false 4 (Addr 3 0)) (Const 5))
    ∷ Effect (Store W32 (symbol 3) (Const 6))
    ∷ Effect (Step W32 true 1 (symbol 3))
    ∷ Effect (Store W32 (Addr 1 0) (Bin bin.Div (Bin bin.Sub (symbol 3) (Addr 2 0)) (Const 4)))
    ∷ Effect (Update W32 bin.Add (Addr 1 0) (Const 4))
    ∷ Effect (Update W32 bin.Shl (Addr 1 0) (Const 2))
    ∷ If
    (both
    (both
    (both
    (both (Bin bin.Eq (symbol 2) (Const 5)) (Bin bin.Eq (Load W32 (Addr 2 4)) (Const 7)))
    (Bin bin.Eq (symbol 1) (Const 20)))
    (Bin bin.Eq (Step W32 false (2 ^ 32 - 1) (Addr 1 0)) (Const 20)))
    (Bin bin.Eq (symbol 1) (Const 19)))
    (Effect (call 0 (Const 0 ∷ [])))
    ∷ Effect (call 0 (Addr 5 0 ∷ [])) ∷ [])
    ∷ []

-- exits is symbol 0, a 1, b 2, f 3, g 4, main 5, and "bad" 6; p is automatic 0, q 1 and h 2
abbrev pub compared_trees : List Function
compared_trees =
    function 3 [] 0 6 [] (Return (Some (Const 1)) ∷ [])
    ∷ function 4 [] 0 6 [] (Return (Some (Const 2)) ∷ [])
    ∷ function 5 (4 ∷ 4 ∷ 4 ∷ []) 0 78 (0 ∷ 1 ∷ 2 ∷ [])
    (Effect (Store W32 (Auto 0) (Addr 1 0))
    ∷ Effect (Store W32 (Auto 1) (Bin bin.Add (Addr 1 0) (Const 4)))
    ∷ Effect (Store W32 (Auto 2) (Addr 3 0))
    ∷ If
    (both
    (both
    (both
    (both
    (both
    (both
    (both
    (both (Bin bin.LeU (automatic 0) (automatic 1)) (Bin bin.GeU (automatic 1) (automatic 0)))
    (Bin bin.Ne (automatic 0) (Addr 2 0)))
    (Bin bin.Eq (automatic 1) (Addr 1 4)))
    (Bin bin.Eq (automatic 2) (Addr 3 0)))
    (Bin bin.Ne (automatic 2) (Addr 4 0)))
    (automatic 2))
    (Un Not (Bin bin.Eq (automatic 0) (Const 0))))
    (Bin bin.GtU (Addr 1 8) (automatic 1)))
    (Effect (call 0 (Const 0 ∷ [])))
    ∷ Effect (call 0 (Addr 6 0 ∷ [])) ∷ [])
    ∷ []

-- exits is symbol 0, x 1, n 2, main 3, and the two texts 4 and 5
abbrev pub without_values_trees : List Function
without_values_trees =
    function 2 [] 0 7 [] (Effect (Step W32 false 1 (Addr 1 0)) ∷ [])
    ∷ function 3 [] 0 40 []
    (Effect (Choose (Const 1) (call 2 []) (call 0 (Addr 4 0 ∷ [])))
    ∷ Effect (Seq (call 2 []) (call 2 []))
    ∷ Effect (Const 0)
    ∷ If (Bin bin.Eq (symbol 1) (Const 3)) (Effect (call 0 (Const 0 ∷ [])))
    ∷ Effect (call 0 (Addr 5 0 ∷ [])) ∷ [])
    ∷ []

pub record RunsOfTrees : Type 0 where
  pub runs_left_first : typed_run left_first left_first_trees 12 ≡ Some (Ends [] [] [])
  pub runs_for_and_switch : typed_run for_and_switch for_and_switch_trees 12 ≡ Some (Ends (codes ";") [] [])
  pub runs_recursion : typed_run recursion recursion_trees 6 ≡ Some (Ends [] [] [])
  pub runs_copied : typed_run copied copied_trees 12 ≡ Some (Ends (codes "A") [] [])
  pub runs_steps : typed_run steps steps_trees 12 ≡ Some (Ends [] [] [])
  pub runs_compared : typed_run compared compared_trees 2 ≡ Some (Ends [] [] [])
  pub runs_without_values : typed_run without_values without_values_trees 5 ≡ Some (Ends [] [] [])

-- SIZES: of nodes, of code, of the frame, and of registers

abbrev pub less : Tree → Tree → Tree
less left right = Bin bin.Sub left right

-- a - (b - (c - d)), (a - b) - (c - d) and a - (f() - x)
abbrev pub nested : Tree
nested = less (automatic 0) (less (automatic 1) (less (automatic 2) (automatic 3)))

abbrev pub balanced : Tree
balanced = less (less (automatic 0) (automatic 1)) (less (automatic 2) (automatic 3))

abbrev pub with_call : Tree
with_call = less (automatic 0) (less (call 2 []) (symbol 1))

pub record SizesOfTrees : Type 0 where
  pub nodes_of_left_first : node_counts left_first ≡ Some (node_numbers left_first_trees)
  pub nodes_of_for_and_switch : node_counts for_and_switch ≡ Some (node_numbers for_and_switch_trees)
  pub nodes_of_recursion : node_counts recursion ≡ Some (node_numbers recursion_trees)
  pub nodes_of_copied : node_counts copied ≡ Some (node_numbers copied_trees)
  pub nodes_of_steps : node_counts steps ≡ Some (node_numbers steps_trees)
  pub nodes_of_compared : node_counts compared ≡ Some (node_numbers compared_trees)
  pub nodes_of_without_values : node_counts without_values ≡ Some (node_numbers without_values_trees)
  pub charges_of_left_first : charges left_first_trees ≡ 44 ∷ 367 ∷ []
  pub charges_of_recursion : charges recursion_trees ≡ 195 ∷ 344 ∷ []
  pub waitings_of_left_first : waitings left_first_trees ≡ 1 ∷ 7 ∷ []
  -- operands without effects are exchanged where that wants fewer registers; a call's are not
  pub registers : map count (nested ∷ balanced ∷ with_call ∷ Store W32 (Auto 0) nested ∷ Store W32 (Auto 0) (call 2 []) ∷ []) ≡ 2 ∷ 3 ∷ 3 ∷ 2 ∷ 2 ∷ []
  pub effects : map pure (nested ∷ with_call ∷ Step W32 true 1 (Auto 0) ∷ Seq (automatic 0) (Const 1) ∷ Store S8 (Auto 0) (Const 1) ∷ []) ≡ true ∷ false ∷ false ∷ true ∷ false ∷ []

-- FIRST CONTENTS: the address of symbol 1, moved; a number that is narrowed; `1 ? 2 : 1 / 0`; a pointer
-- by 0, and not by 1; a number by an address, or by a load; and what lies outside the object

abbrev pub entry : (offset : ℕ) → TypeTree → (node : ℕ) → Tree → Entry
entry offset type node value = record { offset = offset; type = type; node = node; is_inside = true; value = value }

abbrev pub outside : (node : ℕ) → Entry
outside node = record { offset = 8; type = Int; node = node; is_inside = false; value = symbol 1 }

abbrev pub write : (offset : ℕ) → TypeTree → Content → Write
write offset type content = record { offset = offset; type = type; content = content }

abbrev pub address : Entry
address = entry 0 (Pointer Int) 3 (Bin bin.Add (Addr 1 0) (Const 8))

abbrev pub narrow : Entry
narrow = entry 4 Char 5 (Const 300)

abbrev pub chosen : Entry
chosen = entry 8 Int 9 (Choose (Const 1) (Const 2) (Bin bin.Div (Const 1) (Const 0)))

abbrev pub no_constant : ℕ → Result (List Write) BrokenItem
no_constant node = Err (record { number = node; rule = NotConstant })

pub record ContentsOfTrees : Type 0 where
  pub written : writes_of (address ∷ narrow ∷ chosen ∷ entry 12 (Pointer Char) 11 (Const 0) ∷ [])
      ≡ Ok (write 0 (Pointer Int) (AddressOf 1 8) ∷ write 4 Char (Word 44) ∷ write 8 Int (Word 2) ∷ write 12 (Pointer Char) (Word 0) ∷ [])
  pub pointer_by_one : writes_of (entry 0 (Pointer Int) 3 (Const 1) ∷ []) ≡ no_constant 3
  pub number_by_address : writes_of (entry 0 Int 3 (Addr 1 0) ∷ []) ≡ no_constant 3
  pub loaded : writes_of (narrow ∷ entry 8 Int 7 (symbol 1) ∷ outside 9 ∷ []) ≡ no_constant 7
  pub past_the_end : writes_of (narrow ∷ outside 6 ∷ entry 8 Int 7 (symbol 1) ∷ []) ≡ Err (record { number = 6; rule = TooManyItems })
