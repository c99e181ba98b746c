-- What is left to ask of a function's block, so that it is as the law of trees asks.
use Rattle.std.specs.Prelude.{ℕ, List, ◌++◌, length}
use Rattle.p9_lang.specs.declared.tree.Kind.TheVariants as kind
use Rattle.p9_lang.specs.Trees.{node, none, more}
use Rattle.p9_lang.specs.Types.{TypeTree}
use Rattle.p9_lang.specs.Modules.{Typed, TypedRow}
use Rattle.p9_cmean.specs.Declarations.{declared_in}
use Rattle.p9_cmean.specs.Union.{types_within}
use Rattle.p9_lower.specs.Names.{Setting}
use Rattle.p9_lower.specs.Premises.{AutomaticsAreKnown, StatementIsSound}
use Rattle.p9_sound.specs.Nodes.{TreeIsTyped}
use Rattle.p9_sound.specs.Expressions.{TreeIsPlain}
use Rattle.p9_sound.specs.Automatics.{automatics_within, numbers, AreNumbered}

-- the automatics of each block have the types that stand in a list at their numbers
abbrev mutual
  pub BlocksAreKnown : List TypeTree → Typed → Type 0
  BlocksAreKnown types (node kind.Block label parts) = AutomaticsAreKnown types (declared_in parts) × AllBlocksAreKnown types parts
  BlocksAreKnown types (node k label parts) = AllBlocksAreKnown types parts

  pub AllBlocksAreKnown : List TypeTree → TypedRow → Type 0
  AllBlocksAreKnown types none = Unit {0}
  AllBlocksAreKnown types (more first others) = BlocksAreKnown types first × AllBlocksAreKnown types others

-- so it is where the automatics are numbered behind the parameters
abbrev pub NumberedBlocksAreKnown : Type 0
NumberedBlocksAreKnown =
    (parameters : List TypeTree) (n : Typed) (to : ℕ) → AreNumbered (length parameters) (numbers (automatics_within n)) to
    → BlocksAreKnown (parameters ++ types_within n) n

abbrev pub TypedStatementsAreSound : Type 0
TypedStatementsAreSound =
    (setting : Setting) (types : List TypeTree) (n : Typed) → TreeIsTyped setting.tags n → TreeIsPlain setting n → BlocksAreKnown types n
    → StatementIsSound setting types n
