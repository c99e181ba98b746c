-- When trees mean what their sources mean: by the same plays, for surroundings and an environment in which
-- names stand for the same.
use Rattle.std.specs.Prelude.{◌≡◌, ℕ, Bool, false, List, Option, Some, None, option_map, slice_get}
use Rattle.p9_base.specs.Words.{word_sum}
use Rattle.p9_lang.specs.Types.{TypeTree}
use Rattle.p9_lang.specs.Conversions.{is_function}
use Rattle.p9_lang.specs.Symbols.{Symbol}
use Rattle.p9_cmean.specs.Cells.{Value, Missing}
use Rattle.p9_cmean.specs.Access.{with_offset}
use Rattle.p9_cmean.specs.Expressions.{Surroundings, outer_pointer}
use Rattle.p9_tree.specs.Meaning.{Environment}
use Rattle.p9_lower.specs.Names.{Setting, outer_symbol, static_symbol}

-- A value of a tree stands for one of its source: it is that one, or the source has none, as of a cast
-- to void.
abbrev pub Stands : Value → Value → Type 0
Stands (Missing call) w = Unit {0}
Stands v w = v ≡ w

-- whether the symbol that was found, if one was, is a function
abbrev pub is_function_at : List Symbol → Option ℕ → Option Bool
is_function_at symbols None = None
is_function_at symbols (Some k) = option_map (λ s. is_function s.type) (slice_get symbols k)

pub record Agree (symbols : List Symbol) (around : Surroundings) (env : Environment) : Type 0 where
  pub outer : (name : List ℕ) (type : TypeTree) (k : ℕ) → outer_symbol symbols name ≡ Some k → is_function_at symbols (Some k) ≡ Some (is_function type)
      → env.symbol k 0 ≡ outer_pointer around type name
  pub static : (number k : ℕ) → static_symbol symbols number ≡ Some k → is_function_at symbols (Some k) ≡ Some false
      → env.symbol k 0 ≡ around.static number
  -- the address of a symbol that is moved is the address, moved
  pub moved : (k offset bytes : ℕ)
      → env.symbol k (word_sum offset bytes) ≡ option_map (with_offset (λ start. word_sum start bytes)) (env.symbol k offset)
  pub automatics : env.automatics ≡ around.automatics

-- the setting of trees for a source with these surroundings
abbrev pub setting_in : List Symbol → Surroundings → Setting
setting_in symbols around = record { tags = around.tags; symbols = symbols; result = around.result }
