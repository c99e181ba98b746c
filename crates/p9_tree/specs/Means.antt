-- When a typed module means what a module means: it has the same symbols, structures and first
-- contents, and each of its functions means the same as its source, in every program that the module
-- is part of; and its functions are small enough for the code that is promised of them.
use Rattle.std.specs.Prelude.{◌≡◌, ◌≤◌, ℕ, suc, ◌+◌, ◌*◌, Bool, true, false, ◌&&◌, IsTrue, List, [], ◌∷◌, ◌++◌, map, flat_map, length, slice_get, Some, Result, Ok, Err}
use Rattle.p9_lang.specs.declared.module.Module.{Module}
use Rattle.p9_lang.specs.Types.{Tags}
use Rattle.p9_lang.specs.Initialisers.{BrokenItem}
use Rattle.p9_lang.specs.Initialisers as source
use Rattle.p9_lang.specs.Modules.{Typed, Source, source_of}
use Rattle.p9_lang.specs.Symbols.{Symbol, SymbolKind, DeclaredOnly, Used, Code, Data, Common, symbols}
use Rattle.p9_tree.specs.declared.module.State as symbol_state
use Rattle.p9_tree.specs.declared.module.State.TheVariants as state
use Rattle.p9_tree.specs.declared.module.TModule.{TModule}
use Rattle.p9_tree.specs.Trees.{Stmt, Nothing, Effect, Block, If, IfElse, While, DoWhile, For, Switch, Break, Continue, Return, Label, Goto, Stmts, end, thereafter, Arms, no_arms, Case, Default, Arm}
use Rattle.p9_tree.specs.Charges.{stmt_charge, stmt_waiting}
use Rattle.p9_tree.specs.Meaning.{Function, function_body}
use Rattle.p9_tree.specs.Modules.{TypedSymbol, Initialiser, TypedModule, module_of}
use Rattle.p9_tree.specs.Same.{Alike, SameCall, Same, SameOutcome}
use Rattle.p9_tree.specs.TRun.{environment, functions_at, need_of, trun}
use Rattle.p9_tree.specs.Contents.{Write, writes_of, first_cells}
use Rattle.p9_cmean.specs.Cells.{State}
use Rattle.p9_cmean.specs.Plays.{Call}
use Rattle.p9_cmean.specs.Union.{Entry, FunctionEntry, Union, union_of, weighed_nodes}
use Rattle.p9_cmean.specs.FirstContents as first
use Rattle.p9_cmean.specs.Statements as statements
use Rattle.p9_cmean.specs.CRun.{surroundings, source_run}

-- SYMBOLS

abbrev pub state_of : SymbolKind → symbol_state.State
state_of DeclaredOnly = state.Declared
state_of Used = state.Used
state_of (Code item) = state.Defined
state_of (Data first) = state.Defined
state_of Common = state.Common

abbrev pub typed_symbol : Symbol → TypedSymbol
typed_symbol s = record { name = s.name; is_local = s.is_local; type = s.type; state = state_of s.kind }

-- FUNCTIONS

-- `goto` isn't compiled yet
abbrev mutual
  pub has_no_goto : Stmt → Bool
  has_no_goto Nothing = true
  has_no_goto (Effect tree) = true
  has_no_goto (Block automatics body) = row_has_no_goto body
  has_no_goto (If test first) = has_no_goto first
  has_no_goto (IfElse test first second) = has_no_goto first && has_no_goto second
  has_no_goto (While test body) = has_no_goto body
  has_no_goto (DoWhile body test) = has_no_goto body
  has_no_goto (For first test step body) = has_no_goto body
  has_no_goto (Switch tree arms) = arms_have_no_goto arms
  has_no_goto Break = true
  has_no_goto Continue = true
  has_no_goto (Return tree) = true
  has_no_goto (Label number) = false
  has_no_goto (Goto number) = false

  pub row_has_no_goto : Stmts → Bool
  row_has_no_goto end = true
  row_has_no_goto (thereafter s ss) = has_no_goto s && row_has_no_goto ss

  pub arms_have_no_goto : Arms → Bool
  arms_have_no_goto no_arms = true
  arms_have_no_goto (Case word others) = arms_have_no_goto others
  arms_have_no_goto (Default others) = arms_have_no_goto others
  arms_have_no_goto (Arm stmt others) = has_no_goto stmt && arms_have_no_goto others

-- The code of a function and its entry has at most 64 words a node; and the values that wait in its
-- frame are no more than its nodes, so that the frame has room for them and for arguments.
pub record IsSmall (f : Function) : Type 0 where
  pub code : stmt_charge f.body + 52 ≤ 64 * f.nodes
  pub frame : stmt_waiting f.body ≤ f.nodes

pub record FunctionMeans (program : Union) (entry : FunctionEntry) (f : Function) : Type 0 where
  pub bodies : (turns : ℕ) (call other : Call) (s : State) → SameCall call other
      → Same Alike (statements.function_body turns (surroundings program entry.owner entry.tags) entry.definition call s)
      (function_body turns (environment program entry.owner) f other s)
  pub need : need_of f ≡ entry.need
  pub parameters : f.parameters ≤ length f.sizes
  pub small : IsSmall f
  pub no_goto : IsTrue (has_no_goto f.body)

-- one for each function of the module, in the order of the symbols
abbrev pub FunctionsMean : Union → List FunctionEntry → List Function → Type 0
FunctionsMean program [] [] = Unit {0}
FunctionsMean program [] (f ∷ fs) = ⊥
FunctionsMean program (e ∷ es) [] = ⊥
FunctionsMean program (e ∷ es) (f ∷ fs) = FunctionMeans program e f × FunctionsMean program es fs

abbrev pub code_of : SymbolKind → List Typed
code_of DeclaredOnly = []
code_of Used = []
code_of (Code item) = item ∷ []
code_of (Data first) = []
code_of Common = []

abbrev pub code_items : List Symbol → List Typed
code_items symbols = flat_map (λ s. code_of s.kind) symbols

abbrev pub first_of : SymbolKind → List (Result (List source.Write) BrokenItem)
first_of DeclaredOnly = []
first_of Used = []
first_of (Code item) = []
first_of (Data first) = first ∷ []
first_of Common = []

-- the numbers of the symbols of which there is something
abbrev pub numbers_with : {A : Type 0} → (SymbolKind → List A) → (from : ℕ) → List Symbol → List ℕ
numbers_with part from [] = []
numbers_with part from (s ∷ ss) = map (λ x. from) (part s.kind) ++ numbers_with part (suc from) ss

-- FIRST CONTENTS: the same cells, or the same item that breaks a rule

abbrev pub entry_at : (owner : ℕ) → Tags → Symbol → Entry
entry_at owner tags symbol = record { owner = owner; tags = tags; symbol = symbol }

abbrev pub ContentsMean : Union → (owner : ℕ) → List Symbol → Tags → Symbol → Result (List source.Write) BrokenItem → Result (List Write) BrokenItem → Type 0
ContentsMean program owner all tags symbol (Ok ws) (Ok typed) =
    first_cells program owner all tags symbol.type typed ≡ first.first_cells program (entry_at owner tags symbol)
ContentsMean program owner all tags symbol (Ok ws) (Err broken) = ⊥
ContentsMean program owner all tags symbol (Err broken) typed = typed ≡ Err broken

-- a symbol with its first content
pub record DataSymbol : Type 0 where
  pub symbol : Symbol
  pub first : Result (List source.Write) BrokenItem

abbrev pub data_symbols : List Symbol → List DataSymbol
data_symbols [] = []
data_symbols (s ∷ ss) = map (λ first. record { symbol = s; first = first }) (first_of s.kind) ++ data_symbols ss

-- one for each of these, in their order
abbrev pub InitialisersMean : Union → (owner : ℕ) → List Symbol → Tags → List DataSymbol → List Initialiser → Type 0
InitialisersMean program owner all tags [] [] = Unit {0}
InitialisersMean program owner all tags [] (i ∷ others) = ⊥
InitialisersMean program owner all tags (d ∷ ds) [] = ⊥
InitialisersMean program owner all tags (d ∷ ds) (i ∷ others) =
    ContentsMean program owner all tags d.symbol d.first (writes_of i.entries) × InitialisersMean program owner all tags ds others

-- MODULES: in every list of modules that has the source at some place

pub record SourceMeans (m : Source) (typed : TypedModule) : Type 0 where
  pub symbols_are : typed.symbols ≡ map typed_symbol (symbols m)
  pub tags_are : typed.tags ≡ m.tags
  pub function_numbers : map (λ f. f.symbol) typed.functions ≡ numbers_with code_of 0 (symbols m)
  pub node_counts : map (λ f. f.nodes) typed.functions ≡ map weighed_nodes (code_items (symbols m))
  pub initialiser_numbers : map (λ i. i.symbol) typed.initialisers ≡ numbers_with first_of 0 (symbols m)
  pub functions : (modules : List Source) (owner : ℕ) → slice_get modules owner ≡ Some m
      → FunctionsMean (union_of modules) (functions_at owner m) typed.functions
  pub contents : (modules : List Source) (owner : ℕ) → slice_get modules owner ≡ Some m
      → InitialisersMean (union_of modules) owner (symbols m) m.tags (data_symbols (symbols m)) typed.initialisers

-- a module of the program, and its typed module
abbrev pub Means : Module → TModule → Type 0
Means m typed = SourceMeans (source_of m) (module_of typed)

-- sources and their typed modules, one by one
abbrev pub AllMean : List Source → List TypedModule → Type 0
AllMean [] [] = Unit {0}
AllMean [] (t ∷ ts) = ⊥
AllMean (m ∷ ms) [] = ⊥
AllMean (m ∷ ms) (t ∷ ts) = SourceMeans m t × AllMean ms ts

-- By typed modules that mean the same, a run that is neither undefined nor too deep comes to the same.
abbrev pub RunsMeanSame : Type 0
RunsMeanSame =
    (modules : List Source) (typed : List TypedModule) → AllMean modules typed → (input : List ℕ) (turns : ℕ)
    → SameOutcome (source_run modules input turns) (trun modules typed input turns)
