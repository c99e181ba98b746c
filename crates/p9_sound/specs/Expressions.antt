-- What is left to ask of an expression of a file that is typed, so that it is as the law of trees asks.
use Rattle.std.specs.Prelude.{◌≡◌, true, Some}
use Rattle.p9_lang.specs.declared.tree.CBinary.TheVariants as operator
use Rattle.p9_lang.specs.declared.tree.Kind.{Kind}
use Rattle.p9_lang.specs.declared.tree.Kind.TheVariants as kind
use Rattle.p9_lang.specs.Trees.{node, none, more}
use Rattle.p9_lang.specs.Types.{TypeTree, Pointer, Tags}
use Rattle.p9_lang.specs.Layout.{size_of, is_complete}
use Rattle.p9_lang.specs.Modules.{Label, Typed, TypedRow}
use Rattle.p9_cmean.specs.Expressions.{operand_type}
use Rattle.p9_lower.specs.Names.{Setting}
use Rattle.p9_lower.specs.Premises.{is_size, NameIsKnown, ExpressionIsSound}
use Rattle.p9_lower.specs.Verdicts.{is_assigning}
use Rattle.p9_sound.specs.Nodes.{TreeIsTyped}
use Rattle.p9_sound.specs.Constants.{NameIsInteger}

-- what a complete type is whose pointers are subtracted
abbrev pub HasSize : Tags → TypeTree → Type 0
HasSize tags type = (target : TypeTree) → type ≡ Pointer target → is_complete tags target ≡ true → is_size (size_of tags target) ≡ true

-- Names and texts have symbols; numbers, characters and names have no parts; an `op=` has one of its
-- operators; what pointers that are subtracted point to has a size within the limit.
abbrev pub NodeIsPlain : Setting → Kind → Label → TypedRow → Type 0
NodeIsPlain setting (kind.Name x) label parts = NameIsKnown setting.symbols label.type label.means × NameIsInteger (kind.Name x) label × (parts ≡ none)
NodeIsPlain setting (kind.Text texts) label parts = NameIsKnown setting.symbols label.type label.means
NodeIsPlain setting (kind.Number value unsigned long) label parts = parts ≡ none
NodeIsPlain setting (kind.Character value) label parts = parts ≡ none
NodeIsPlain setting (kind.Assign (Some op)) label parts = is_assigning op ≡ true
NodeIsPlain setting (kind.Binary operator.Sub) label (more left others) = HasSize setting.tags (operand_type left)
NodeIsPlain setting k label parts = Unit {0}

abbrev mutual
  pub TreeIsPlain : Setting → Typed → Type 0
  TreeIsPlain setting (node k label parts) = NodeIsPlain setting k label parts × RowIsPlain setting parts

  pub RowIsPlain : Setting → TypedRow → Type 0
  RowIsPlain setting none = Unit {0}
  RowIsPlain setting (more first others) = TreeIsPlain setting first × RowIsPlain setting others

abbrev pub TypedExpressionsAreSound : Type 0
TypedExpressionsAreSound = (setting : Setting) (e : Typed) → TreeIsTyped setting.tags e → TreeIsPlain setting e → ExpressionIsSound setting e
