-- The typed statement of a statement. A kind of node that has no clause here is no statement.
use Rattle.std.specs.Prelude.{Bool, true, false, List, [], ◌∷◌, map, Option, Some, None}
use Rattle.p9_lang.specs.declared.tree.Kind.TheVariants as kind
use Rattle.p9_lang.specs.Trees.{node, none, more}
use Rattle.p9_lang.specs.Constants.{Constant, NotConstant, Undefined, Null, constant_of}
use Rattle.p9_lang.specs.Constants as constants
use Rattle.p9_lang.specs.Modules.{Typed, TypedRow}
use Rattle.p9_cmean.specs.Declarations.{Automatic, declared_by, declared_in}
use Rattle.p9_tree.specs.Trees.{Tree, Seq, Stmt, Nothing, Effect, Block, If, IfElse, While, DoWhile, For, Switch, Break, Continue, Return, Stmts, end, thereafter, Arms, no_arms, Case, Default, Arm}
use Rattle.p9_lower.specs.Names.{Setting, name_tree}
use Rattle.p9_lower.specs.Operators.{passed_tree, assigned_tree}
use Rattle.p9_lower.specs.Expressions.{value_tree}

-- DECLARATIONS do what their initialisers do, which are assignments

abbrev pub initial_tree : Setting → Automatic → Typed → Tree
initial_tree setting a e = assigned_tree setting.tags e a.name.type (name_tree setting a.name.means) (value_tree setting e)

abbrev pub with_initial : Setting → Automatic → Option Typed → List Tree → List Tree
with_initial setting a None others = others
with_initial setting a (Some e) others = initial_tree setting a e ∷ others

abbrev pub initial_trees : Setting → List Automatic → List Tree
initial_trees setting [] = []
initial_trees setting (a ∷ others) = with_initial setting a a.initialiser (initial_trees setting others)

-- one tree after the other
abbrev pub sequence : Tree → List Tree → Tree
sequence first [] = first
sequence first (next ∷ others) = Seq first (sequence next others)

abbrev pub effects : List Tree → Stmt
effects [] = Nothing
effects (first ∷ others) = Effect (sequence first others)

-- LABELS of a `switch`. One without a value, which no valid module has, is a part that does nothing.
abbrev pub case_arm : Constant → Arms → Arms
case_arm NotConstant others = Arm Nothing others
case_arm Undefined others = Arm Nothing others
case_arm (constants.Value word) others = Case word others
case_arm Null others = Arm Nothing others

-- the first part of a `for` without the others, which no valid module has
abbrev pub first_stmt : Option Tree → Stmt
first_stmt None = Nothing
first_stmt (Some tree) = Effect tree

-- STATEMENTS
abbrev mutual
  pub stmt_tree : Setting → Typed → Stmt
  stmt_tree setting (node kind.Block label parts) = Block (map (λ a. a.number) (declared_in parts)) (stmt_trees setting parts)
  stmt_tree setting (node (kind.Declaration spec inits) label parts) =
      effects (initial_trees setting (declared_by (node (kind.Declaration spec inits) label parts)))
  stmt_tree setting (node kind.Expression label none) = Nothing
  stmt_tree setting (node kind.Expression label (more e none)) = Effect (value_tree setting e)
  stmt_tree setting (node kind.If label (more test (more first none))) = If (value_tree setting test) (stmt_tree setting first)
  stmt_tree setting (node kind.If label (more test (more first (more second none)))) =
      IfElse (value_tree setting test) (stmt_tree setting first) (stmt_tree setting second)
  stmt_tree setting (node kind.While label (more test (more body none))) =
      While (value_tree setting test) (stmt_tree setting body)
  stmt_tree setting (node kind.Do label (more body (more test none))) =
      DoWhile (stmt_tree setting body) (value_tree setting test)
  stmt_tree setting (node (kind.For true test step) label (more first others)) =
      loop_tree setting (Some (value_tree setting first)) test step others
  stmt_tree setting (node (kind.For false test step) label others) = loop_tree setting None test step others
  stmt_tree setting (node kind.Switch label (more e arms)) = Switch (value_tree setting e) (arm_trees setting arms)
  stmt_tree setting (node kind.Case label (more constant none)) = Nothing
  stmt_tree setting (node kind.Default label none) = Nothing
  stmt_tree setting (node kind.Break label none) = Break
  stmt_tree setting (node kind.Continue label none) = Continue
  stmt_tree setting (node kind.Return label none) = Return None
  stmt_tree setting (node kind.Return label (more e none)) = Return (Some (passed_tree setting.tags e setting.result (value_tree setting e)))
  stmt_tree setting (node k label parts) = Nothing

  pub stmt_trees : Setting → TypedRow → Stmts
  stmt_trees setting none = end
  stmt_trees setting (more first others) = thereafter (stmt_tree setting first) (stmt_trees setting others)

  -- `for` behind its first part, with its test and its step where there are such
  pub loop_tree : Setting → (first : Option Tree) → (test step : Bool) → TypedRow → Stmt
  loop_tree setting first true true (more test (more step (more body none))) =
      For first (Some (value_tree setting test)) (Some (value_tree setting step)) (stmt_tree setting body)
  loop_tree setting first true false (more test (more body none)) =
      For first (Some (value_tree setting test)) None (stmt_tree setting body)
  loop_tree setting first false true (more step (more body none)) =
      For first None (Some (value_tree setting step)) (stmt_tree setting body)
  loop_tree setting first false false (more body none) = For first None None (stmt_tree setting body)
  loop_tree setting first test step others = first_stmt first

  pub arm_trees : Setting → TypedRow → Arms
  arm_trees setting none = no_arms
  arm_trees setting (more (node kind.Case label (more constant none)) others) =
      case_arm (constant_of setting.tags constant) (arm_trees setting others)
  arm_trees setting (more (node kind.Default label none) others) = Default (arm_trees setting others)
  arm_trees setting (more first others) = Arm (stmt_tree setting first) (arm_trees setting others)
