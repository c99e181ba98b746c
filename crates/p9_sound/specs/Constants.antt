-- Constants of the expressions of a file that is typed: integer constants have integer types.
use Rattle.std.specs.Prelude.{◌≡◌, ℕ, true}
use Rattle.p9_lang.specs.declared.tree.Kind.{Kind}
use Rattle.p9_lang.specs.declared.tree.Kind.TheVariants as kind
use Rattle.p9_lang.specs.Trees.{node, none, more}
use Rattle.p9_lang.specs.Types.{EnumValue, Tags}
use Rattle.p9_lang.specs.Conversions.{is_integer}
use Rattle.p9_lang.specs.Modules.{Label, Typed, TypedRow}
use Rattle.p9_cmean.specs.ConstantLaws.{LeafIsAlone, ConstantsAreTyped}
use Rattle.p9_sound.specs.Nodes.{TreeIsTyped}

-- an enumeration constant has an integer type
abbrev pub NameIsInteger : Kind → Label → Type 0
NameIsInteger (kind.Name x) label = (word : ℕ) → label.means ≡ EnumValue word → is_integer label.type ≡ true
NameIsInteger k label = Unit {0}

abbrev mutual
  pub NamesAreIntegers : Typed → Type 0
  NamesAreIntegers (node k label parts) = NameIsInteger k label × AllNamesAreIntegers parts

  pub AllNamesAreIntegers : TypedRow → Type 0
  AllNamesAreIntegers none = Unit {0}
  AllNamesAreIntegers (more first others) = NamesAreIntegers first × AllNamesAreIntegers others

-- numbers, characters and names have no parts
abbrev mutual
  pub LeavesAreAlone : Typed → Type 0
  LeavesAreAlone (node k label parts) = LeafIsAlone k parts × AllLeavesAreAlone parts

  pub AllLeavesAreAlone : TypedRow → Type 0
  AllLeavesAreAlone none = Unit {0}
  AllLeavesAreAlone (more first others) = LeavesAreAlone first × AllLeavesAreAlone others

abbrev pub TypedConstantsAreIntegers : Type 0
TypedConstantsAreIntegers =
    (tags : Tags) (e : Typed) → TreeIsTyped tags e → NamesAreIntegers e → LeavesAreAlone e → ConstantsAreTyped tags e
