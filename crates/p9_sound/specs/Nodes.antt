-- What typing says of the expressions of a file, by the types that its nodes have in the end.
use Rattle.std.specs.Prelude.{◌≡◌, ◌≤◌, ℕ, Bool, true, false, List, map, length, Ok}
use Rattle.p9_lang.specs.declared.tree.Kind.{Kind}
use Rattle.p9_lang.specs.declared.tree.Kind.TheVariants as kind
use Rattle.p9_lang.specs.Trees.{node, none, more, SyntaxRow}
use Rattle.p9_lang.specs.Types.{Nothing, Tags}
use Rattle.p9_lang.specs.Constants.{Operand, constants_of}
use Rattle.p9_lang.specs.Expressions.{Verdict, verdict}
use Rattle.p9_lang.specs.Modules.{Label, Typed, TypedRow, typed_row}
use Rattle.p9_lang.specs.Files.{Typing, typed_file}
use Rattle.p9_lang.specs.Laws.{KeepsBodies}

-- the kinds of nodes that the table of expressions has
abbrev pub has_verdict : Kind → Bool
has_verdict (kind.Number value unsigned long) = true
has_verdict (kind.Character value) = true
has_verdict kind.Parens = true
has_verdict kind.Index = true
has_verdict kind.Call = true
has_verdict (kind.Dot arrow x) = true
has_verdict (kind.Post minus) = true
has_verdict (kind.Pre minus) = true
has_verdict (kind.Unary op) = true
has_verdict kind.SizeofValue = true
has_verdict kind.SizeofType = true
has_verdict kind.Cast = true
has_verdict (kind.Binary op) = true
has_verdict kind.Choose = true
has_verdict (kind.Assign op) = true
has_verdict kind.Comma = true
has_verdict k = false

-- an operand, whether it is an lvalue or not
abbrev pub valued : Operand → Operand
valued o = record { type = o.type; is_lvalue = false; constant = o.constant }

-- The table took the node, over structures that keep their bodies since: the operands have the types and
-- the constants that its parts have in the end, and the node has the type that the table gives.
pub record IsJudged (tags : Tags) (k : Kind) (label : Label) (parts : TypedRow) : Type 0 where
  pub before : Tags
  pub is_statement : Bool
  pub operands : List Operand
  pub outcome : Verdict
  pub bodies : KeepsBodies before tags
  pub count : length before ≤ length tags
  pub are : constants_of tags parts ≡ map valued operands
  pub taken : verdict before is_statement k operands ≡ Ok outcome
  pub type : label.type ≡ outcome.type
  pub means : label.means ≡ Nothing

abbrev mutual
  pub TreeIsTyped : Tags → Typed → Type 0
  TreeIsTyped tags (node k label parts) = (has_verdict k ≡ true → IsJudged tags k label parts) × RowIsTyped tags parts

  pub RowIsTyped : Tags → TypedRow → Type 0
  RowIsTyped tags none = Unit {0}
  RowIsTyped tags (more first others) = TreeIsTyped tags first × RowIsTyped tags others

-- of a file that is typed, each node of an expression is so
abbrev pub NodesAreTyped : Type 0
NodesAreTyped =
    (items : SyntaxRow) (marks : List (List ℕ)) (t : Typing) → typed_file items marks ≡ Ok t
    → RowIsTyped t.tags (typed_row t.types t.means 0 items)
