-- What is plain, by the tree that was read and by what its names stand for.
use Rattle.std.specs.Prelude.{◌≡◌, ℕ, true, Some, List}
use Rattle.p9_lang.specs.declared.tree.CBinary.TheVariants as operator
use Rattle.p9_lang.specs.declared.tree.Kind.{Kind}
use Rattle.p9_lang.specs.declared.tree.Kind.TheVariants as kind
use Rattle.p9_lang.specs.Trees.{node, none, more, Syntax, SyntaxRow}
use Rattle.p9_lang.specs.Types.{TypeTree, Meant}
use Rattle.p9_lang.specs.Modules.{Label, Typed, TypedRow, typed_row}
use Rattle.p9_cmean.specs.Expressions.{operand_type}
use Rattle.p9_lower.specs.Names.{Setting}
use Rattle.p9_lower.specs.Premises.{NameIsKnown}
use Rattle.p9_lower.specs.Verdicts.{is_assigning}
use Rattle.p9_sound.specs.Constants.{NameIsInteger}
use Rattle.p9_sound.specs.Expressions.{HasSize, RowIsPlain}

-- numbers, characters and names have no parts, and an `op=` has one of its operators
abbrev pub NodeIsMade : Kind → SyntaxRow → Type 0
NodeIsMade (kind.Name x) parts = parts ≡ none
NodeIsMade (kind.Number value unsigned long) parts = parts ≡ none
NodeIsMade (kind.Character value) parts = parts ≡ none
NodeIsMade (kind.Assign (Some op)) parts = is_assigning op ≡ true
NodeIsMade k parts = Unit {0}

abbrev mutual
  pub IsMade : Syntax → Type 0
  IsMade (node k at parts) = NodeIsMade k parts × AreMade parts

  pub AreMade : SyntaxRow → Type 0
  AreMade none = Unit {0}
  AreMade (more first others) = IsMade first × AreMade others

-- names and texts have symbols, an enumeration constant has an integer type, and what pointers that are
-- subtracted point to has a size within the limit
abbrev pub NodeIsKnown : Setting → Kind → Label → TypedRow → Type 0
NodeIsKnown setting (kind.Name x) label parts = NameIsKnown setting.symbols label.type label.means × NameIsInteger (kind.Name x) label
NodeIsKnown setting (kind.Text texts) label parts = NameIsKnown setting.symbols label.type label.means
NodeIsKnown setting (kind.Binary operator.Sub) label (more left others) = HasSize setting.tags (operand_type left)
NodeIsKnown setting k label parts = Unit {0}

abbrev mutual
  pub TreeIsKnown : Setting → Typed → Type 0
  TreeIsKnown setting (node k label parts) = NodeIsKnown setting k label parts × RowIsKnown setting parts

  pub RowIsKnown : Setting → TypedRow → Type 0
  RowIsKnown setting none = Unit {0}
  RowIsKnown setting (more first others) = TreeIsKnown setting first × RowIsKnown setting others

abbrev pub MadeTreesArePlain : Type 0
MadeTreesArePlain =
    (setting : Setting) (types : List TypeTree) (means : List Meant) (first : ℕ) (ts : SyntaxRow) → AreMade ts
    → RowIsKnown setting (typed_row types means first ts) → RowIsPlain setting (typed_row types means first ts)
