-- How much code trees may take: which have no effects, how many registers they want, and the words of
-- code that a compiler is allowed for them.
use Rattle.std.specs.Prelude.{ℕ, suc, ◌+◌, max, ◌==◌, ◌&&◌, if◌then◌else◌, Bool, true, false, Option, Some, None}
use Rattle.p9_tree.specs.Trees.{Tree, Const, Addr, Auto, Load, Store, Update, Copy, Un, Bin, Conv, Choose, Both, Step, Seq, Call, Trees, none, more, Stmt, Nothing, Effect, Block, If, IfElse, While, DoWhile, For, Switch, Break, Continue, Return, Label, Goto, Stmts, end, thereafter, Arms, no_arms, Case, Default, Arm}

-- WITHOUT EFFECTS: nothing is stored, stepped, copied or called

abbrev mutual
  pub pure : Tree → Bool
  pure (Const word) = true
  pure (Addr symbol offset) = true
  pure (Auto number) = true
  pure (Load w from) = pure from
  pure (Store w to value) = false
  pure (Update w op to right) = false
  pure (Copy bytes to from) = false
  pure (Un op operand) = pure operand
  pure (Bin op left right) = pure left && pure right
  pure (Conv w operand) = pure operand
  pure (Choose test first second) = pure test && (pure first && pure second)
  pure (Both is_and left right) = pure left && pure right
  pure (Step w is_prefix amount to) = false
  pure (Seq left right) = pure left && pure right
  pure (Call function arguments) = false

-- REGISTERS, after Sethi and Ullman: operands without effects may be exchanged. A call keeps no
-- register, so of one only its parts are counted.

-- of two parts in the order that wants fewer, where both have no effects; else left first
abbrev pub pure_pair : (left right : ℕ) → ℕ
pure_pair left right = if left == right then suc left else max left right

abbrev pub ordered_pair : (left right : ℕ) → ℕ
ordered_pair left right = max left (suc right)

abbrev pub pair : (both_pure : Bool) → (left right : ℕ) → ℕ
pair true left right = pure_pair left right
pair false left right = ordered_pair left right

abbrev mutual
  pub count : Tree → ℕ
  count (Const word) = 1
  count (Addr symbol offset) = 1
  count (Auto number) = 1
  count (Load w from) = count from
  count (Store w to value) = pair (pure to && pure value) (count to) (count value)
  count (Update w op to right) = pair (pure to && pure right) (count to) (count right)
  count (Copy bytes to from) = pair (pure to && pure from) (count to) (count from)
  count (Un op operand) = count operand
  count (Bin op left right) = pair (pure left && pure right) (count left) (count right)
  count (Conv w operand) = count operand
  count (Choose test first second) = max (count test) (max (count first) (count second))
  count (Both is_and left right) = max (count left) (count right)
  count (Step w is_prefix amount to) = count to
  count (Seq left right) = max (count left) (count right)
  count (Call function arguments) = max (count function) (count_row arguments)

  pub count_row : Trees → ℕ
  count_row none = 0
  count_row (more first others) = max (count first) (count_row others)

-- WORDS OF CODE: what a node may take beside its parts. A call may take 84 more for what stands
-- round it.

abbrev mutual
  pub charge : Tree → ℕ
  charge (Const word) = 2
  charge (Addr symbol offset) = 3
  charge (Auto number) = 3
  charge (Load w from) = 4 + charge from
  charge (Store w to value) = 12 + (charge to + charge value)
  charge (Update w op to right) = 20 + (charge to + charge right)
  charge (Copy bytes to from) = 30 + (charge to + charge from)
  charge (Un op operand) = 6 + charge operand
  charge (Bin op left right) = 11 + (charge left + charge right)
  charge (Conv w operand) = 2 + charge operand
  charge (Choose test first second) = 6 + (charge test + (charge first + charge second))
  charge (Both is_and left right) = 11 + (charge left + charge right)
  charge (Step w is_prefix amount to) = 14 + charge to
  charge (Seq left right) = charge left + charge right
  charge (Call function arguments) = 93 + (charge function + charge_row arguments)

  -- an argument takes 10 more
  pub charge_row : Trees → ℕ
  charge_row none = 0
  charge_row (more first others) = 10 + (charge first + charge_row others)

abbrev pub charge_if : Option Tree → ℕ
charge_if None = 0
charge_if (Some tree) = charge tree

abbrev mutual
  pub stmt_charge : Stmt → ℕ
  stmt_charge Nothing = 0
  stmt_charge (Effect tree) = charge tree
  stmt_charge (Block automatics body) = row_charge body
  stmt_charge (If test first) = 6 + (charge test + stmt_charge first)
  stmt_charge (IfElse test first second) = 8 + (charge test + (stmt_charge first + stmt_charge second))
  stmt_charge (While test body) = 8 + (charge test + stmt_charge body)
  stmt_charge (DoWhile body test) = 8 + (charge test + stmt_charge body)
  stmt_charge (For first test step body) = 8 + (charge_if first + (charge_if test + (charge_if step + stmt_charge body)))
  stmt_charge (Switch tree arms) = 4 + (charge tree + arms_charge arms)
  stmt_charge Break = 2
  stmt_charge Continue = 2
  stmt_charge (Return tree) = 7 + charge_if tree
  stmt_charge (Label number) = 0
  stmt_charge (Goto number) = 2

  pub row_charge : Stmts → ℕ
  row_charge end = 0
  row_charge (thereafter first others) = stmt_charge first + row_charge others

  -- a case is a constant and a branch
  pub arms_charge : Arms → ℕ
  arms_charge no_arms = 0
  arms_charge (Case word others) = 6 + arms_charge others
  arms_charge (Default others) = 2 + arms_charge others
  arms_charge (Arm stmt others) = stmt_charge stmt + arms_charge others

-- WORDS OF THE FRAME: values that may have to wait in it while another part is computed, and the words
-- that callers keep for arguments. A constant at the right of an operator is part of the instruction, and
-- nothing waits for it.

abbrev mutual
  pub waiting : Tree → ℕ
  waiting (Const word) = 0
  waiting (Addr symbol offset) = 0
  waiting (Auto number) = 0
  waiting (Load w from) = waiting from
  waiting (Store w to value) = suc (waiting to + waiting value)
  waiting (Update w op to right) = suc (waiting to + waiting right)
  waiting (Copy bytes to from) = suc (waiting to + waiting from)
  waiting (Un op operand) = waiting operand
  waiting (Bin op left (Const word)) = waiting left
  waiting (Bin op left right) = suc (waiting left + waiting right)
  waiting (Conv w operand) = waiting operand
  waiting (Choose test first second) = waiting test + (waiting first + waiting second)
  waiting (Both is_and left right) = waiting left + waiting right
  waiting (Step w is_prefix amount to) = suc (waiting to)
  waiting (Seq left right) = waiting left + waiting right
  waiting (Call function arguments) = suc (waiting function + waiting_row arguments)

  pub waiting_row : Trees → ℕ
  waiting_row none = 0
  waiting_row (more first others) = suc (waiting first + waiting_row others)

abbrev pub waiting_if : Option Tree → ℕ
waiting_if None = 0
waiting_if (Some tree) = waiting tree

abbrev mutual
  pub stmt_waiting : Stmt → ℕ
  stmt_waiting Nothing = 0
  stmt_waiting (Effect tree) = waiting tree
  stmt_waiting (Block automatics body) = row_waiting body
  stmt_waiting (If test first) = waiting test + stmt_waiting first
  stmt_waiting (IfElse test first second) = waiting test + (stmt_waiting first + stmt_waiting second)
  stmt_waiting (While test body) = waiting test + stmt_waiting body
  stmt_waiting (DoWhile body test) = waiting test + stmt_waiting body
  stmt_waiting (For first test step body) = waiting_if first + (waiting_if test + (waiting_if step + stmt_waiting body))
  stmt_waiting (Switch tree arms) = suc (waiting tree + arms_waiting arms)
  stmt_waiting Break = 0
  stmt_waiting Continue = 0
  stmt_waiting (Return tree) = waiting_if tree
  stmt_waiting (Label number) = 0
  stmt_waiting (Goto number) = 0

  pub row_waiting : Stmts → ℕ
  row_waiting end = 0
  row_waiting (thereafter first others) = stmt_waiting first + row_waiting others

  pub arms_waiting : Arms → ℕ
  arms_waiting no_arms = 0
  arms_waiting (Case word others) = arms_waiting others
  arms_waiting (Default others) = arms_waiting others
  arms_waiting (Arm stmt others) = stmt_waiting stmt + arms_waiting others
