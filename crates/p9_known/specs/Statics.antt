-- The numbers that nodes of texts and of names stand for: those of texts and of statics of blocks.
use Rattle.std.specs.Prelude.{◌≡◌, ℕ, true}
use Rattle.p9_lang.specs.declared.module.Module.{Module}
use Rattle.p9_lang.specs.declared.tree.Kind.{Kind}
use Rattle.p9_lang.specs.declared.tree.Kind.TheVariants as kind
use Rattle.p9_lang.specs.Trees.{node, none, more}
use Rattle.p9_lang.specs.Types.{Meant, Nothing, Outer, Static, Auto, EnumValue, TypeName}
use Rattle.p9_lang.specs.Modules.{Typed, TypedRow, source_of}
use Rattle.p9_lang.specs.Files.{IsTyped}
use Rattle.p9_lang.specs.Symbols.{symbols}
use Rattle.p9_lower.specs.Names.{static_symbol}
use Rattle.p9_lower.specs.Premises.{is_found}

-- what is meant by its number is one of which this holds
abbrev pub IsAmong : (ℕ → Type 0) → Meant → Type 0
IsAmong holds (Static number) = holds number
IsAmong holds Nothing = Unit {0}
IsAmong holds (Outer name) = Unit {0}
IsAmong holds (Auto number) = Unit {0}
IsAmong holds (EnumValue value) = Unit {0}
IsAmong holds (TypeName type) = Unit {0}

abbrev pub NodeIsAmong : (ℕ → Type 0) → Kind → Meant → Type 0
NodeIsAmong holds (kind.Name x) means = IsAmong holds means
NodeIsAmong holds (kind.Text texts) means = IsAmong holds means
NodeIsAmong holds k means = Unit {0}

-- so it is of each text and each name of a tree
abbrev mutual
  pub StaticsAreAmong : (ℕ → Type 0) → Typed → Type 0
  StaticsAreAmong holds (node k label parts) = NodeIsAmong holds k label.means × RowIsAmong holds parts

  pub RowIsAmong : (ℕ → Type 0) → TypedRow → Type 0
  RowIsAmong holds none = Unit {0}
  RowIsAmong holds (more first others) = StaticsAreAmong holds first × RowIsAmong holds others

-- Each text and each static of a block that a name of a typed module stands for has a symbol.
abbrev pub TypedStaticsAreFound : Type 0
TypedStaticsAreFound =
    (m : Module) → IsTyped m
    → RowIsAmong (λ number. is_found (static_symbol (symbols (source_of m)) number) ≡ true) (source_of m).items
