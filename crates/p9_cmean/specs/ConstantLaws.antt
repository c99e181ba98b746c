-- The law of constant expressions: the meaning gives them the value that typing does.
use Rattle.std.specs.Prelude.{◌≡◌, ℕ, Bool, true, false, ◌&&◌}
use Rattle.p9_lang.specs.declared.tree.Kind.{Kind}
use Rattle.p9_lang.specs.declared.tree.Kind.TheVariants as kind
use Rattle.p9_lang.specs.Types.{TypeTree, Tags}
use Rattle.p9_lang.specs.Trees.{node, none, more}
use Rattle.p9_lang.specs.Modules.{Typed, TypedRow}
use Rattle.p9_lang.specs.Conversions.{is_integer}
use Rattle.p9_lang.specs.Constants.{Constant, NotConstant, Undefined, Value, Null, type_at, constant_of}
use Rattle.p9_cmean.specs.Cells.{Word, State}
use Rattle.p9_cmean.specs.Plays.{Done}
use Rattle.p9_cmean.specs.Expressions.{Surroundings, value}

-- What typing leaves in a module: an integer constant has an integer type, and so have its parts that
-- are such; a number, a character and a name have no parts.

abbrev pub HasIntegerType : Tags → Typed → Type 0
HasIntegerType tags e = (word : ℕ) → constant_of tags e ≡ Value word → is_integer (type_at e) ≡ true

abbrev pub LeafIsAlone : Kind → TypedRow → Type 0
LeafIsAlone (kind.Number n unsigned long) parts = parts ≡ none
LeafIsAlone (kind.Character n) parts = parts ≡ none
LeafIsAlone (kind.Name x) parts = parts ≡ none
LeafIsAlone k parts = Unit {0}

abbrev mutual
  pub ConstantsAreTyped : Tags → Typed → Type 0
  ConstantsAreTyped tags (node k label parts) = HasIntegerType tags (node k label parts) × LeafIsAlone k parts × AllConstantsAreTyped tags parts

  pub AllConstantsAreTyped : Tags → TypedRow → Type 0
  AllConstantsAreTyped tags none = Unit {0}
  AllConstantsAreTyped tags (more first others) = ConstantsAreTyped tags first × AllConstantsAreTyped tags others

-- An integer constant expression is worth its value, and changes nothing.
abbrev pub ConstantsKeepTheirValues : Type 0
ConstantsKeepTheirValues =
    (around : Surroundings) (e : Typed) (word : ℕ) (s : State)
    → ConstantsAreTyped around.tags e → constant_of around.tags e ≡ Value word → value around e s ≡ Done (Word word) s

-- That a module's constants are so is computed by a test.

abbrev pub is_typed_constant : Constant → TypeTree → Bool
is_typed_constant (Value word) type = is_integer type
is_typed_constant NotConstant type = true
is_typed_constant Undefined type = true
is_typed_constant Null type = true

abbrev pub has_no_parts : TypedRow → Bool
has_no_parts none = true
has_no_parts (more first others) = false

abbrev pub leaf_is_alone : Kind → TypedRow → Bool
leaf_is_alone (kind.Number n unsigned long) parts = has_no_parts parts
leaf_is_alone (kind.Character n) parts = has_no_parts parts
leaf_is_alone (kind.Name x) parts = has_no_parts parts
leaf_is_alone k parts = true

abbrev mutual
  pub constants_are_typed : Tags → Typed → Bool
  constants_are_typed tags (node k label parts) =
      is_typed_constant (constant_of tags (node k label parts)) label.type && (leaf_is_alone k parts && all_constants_are_typed tags parts)

  pub all_constants_are_typed : Tags → TypedRow → Bool
  all_constants_are_typed tags none = true
  all_constants_are_typed tags (more first others) = constants_are_typed tags first && all_constants_are_typed tags others

abbrev pub TestedConstantsAreTyped : Type 0
TestedConstantsAreTyped = (tags : Tags) (e : Typed) → constants_are_typed tags e ≡ true → ConstantsAreTyped tags e
