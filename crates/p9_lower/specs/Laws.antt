-- The laws of the trees of a source.
use Rattle.std.specs.Prelude.{◌≡◌, ℕ, true, List, map, slice_get, Some}
use Rattle.p9_lang.specs.Types.{TypeTree}
use Rattle.p9_lang.specs.Layout.{size_of}
use Rattle.p9_lang.specs.Modules.{Typed, Source}
use Rattle.p9_lang.specs.Symbols.{Symbol, symbols}
use Rattle.p9_cmean.specs.Cells.{State}
use Rattle.p9_cmean.specs.Expressions.{Surroundings, address, value}
use Rattle.p9_cmean.specs.Statements.{statement}
use Rattle.p9_tree.specs.Meaning.{Environment, evaluate, execute}
use Rattle.p9_cmean.specs.Union.{union_of, weighed_nodes}
use Rattle.p9_tree.specs.Modules.{TypedModule}
use Rattle.p9_tree.specs.TRun.{functions_at}
use Rattle.p9_tree.specs.Means.{SourceMeans, FunctionsMean, InitialisersMean, data_symbols, typed_symbol, code_of, first_of, code_items, numbers_with}
use Rattle.p9_tree.specs.Same.{Same, AlikeFlow}
use Rattle.p9_lower.specs.Expressions.{place_tree, value_tree}
use Rattle.p9_lower.specs.Statements.{stmt_tree}
use Rattle.p9_lower.specs.Modules.{setting_of, lowered}
use Rattle.p9_lower.specs.Keeping.{Stands, Agree, setting_in}
use Rattle.p9_lower.specs.Premises.{ExpressionIsSound, StatementIsSound, ItemsAreSound, firsts_are_sound, SourceIsSound}

-- An expression's tree means what the expression means.
abbrev pub ValuesMean : Type 0
ValuesMean =
    (symbols : List Symbol) (around : Surroundings) (env : Environment) → Agree symbols around env
    → (e : Typed) → ExpressionIsSound (setting_in symbols around) e → (s : State)
    → Same Stands (value around e s) (evaluate env (value_tree (setting_in symbols around) e) s)

-- So does the tree of an lvalue's address.
abbrev pub PlacesMean : Type 0
PlacesMean =
    (symbols : List Symbol) (around : Surroundings) (env : Environment) → Agree symbols around env
    → (e : Typed) → ExpressionIsSound (setting_in symbols around) e → (s : State)
    → Same Stands (address around e s) (evaluate env (place_tree (setting_in symbols around) e) s)

-- So does a typed statement, in a function whose automatics have these types.
abbrev pub StatementsMean : Type 0
StatementsMean =
    (turns : ℕ) (symbols : List Symbol) (types : List TypeTree) (around : Surroundings) (env : Environment)
    → Agree symbols around env → env.sizes ≡ map (size_of around.tags) types
    → (n : Typed) → StatementIsSound (setting_in symbols around) types n → (s : State)
    → Same AlikeFlow (statement turns around n s) (execute turns env (stmt_tree (setting_in symbols around) n) s)

-- So do the functions of a module, in every program that the module is part of; they need the same room,
-- and are small.
abbrev pub FunctionsMeanSame : Type 0
FunctionsMeanSame =
    (m : Source) → ItemsAreSound m (code_items (symbols m))
    → (modules : List Source) (owner : ℕ) → slice_get modules owner ≡ Some m
    → FunctionsMean (union_of modules) (functions_at owner m) (lowered m).functions

-- A typed module has the symbols of its source, and a function and an initialiser for each that has one.
pub record Parts (m : Source) (typed : TypedModule) : Type 0 where
  pub symbols_are : typed.symbols ≡ map typed_symbol (symbols m)
  pub tags_are : typed.tags ≡ m.tags
  pub function_numbers : map (λ f. f.symbol) typed.functions ≡ numbers_with code_of 0 (symbols m)
  pub node_counts : map (λ f. f.nodes) typed.functions ≡ map weighed_nodes (code_items (symbols m))
  pub initialiser_numbers : map (λ i. i.symbol) typed.initialisers ≡ numbers_with first_of 0 (symbols m)

abbrev pub PartsAreSame : Type 0
PartsAreSame = (m : Source) → Parts m (lowered m)

-- The first contents of a module's objects are the same, or the same item breaks a rule.
abbrev pub ContentsMeanSame : Type 0
ContentsMeanSame =
    (m : Source) → firsts_are_sound (setting_of m) (data_symbols (symbols m)) ≡ true
    → (modules : List Source) (owner : ℕ) → slice_get modules owner ≡ Some m
    → InitialisersMean (union_of modules) owner (symbols m) m.tags (data_symbols (symbols m)) (lowered m).initialisers

-- A typed module means what its source means.
abbrev pub LoweredMeans : Type 0
LoweredMeans = (m : Source) → SourceIsSound m → SourceMeans m (lowered m)
