-- The typed module of a source: its parts, and its functions in every program.
use Rattle.std.proofs.Common.{◌≡◌, ◌≤◌, ℕ, suc, ◌+◌, ◌*◌, Bool, List, [], ◌∷◌, ◌++◌, map, slice_get, Option, Some, None, Result, refl, sym, ap, ◌∙◌, arith, flat_map}
use Rattle.std.proofs.lemmas.List.{map-append}
use Rattle.p9_lang.specs.Types.{TypeTree}
use Rattle.p9_lang.specs.Initialisers.{Write, BrokenItem}
use Rattle.p9_lang.specs.Modules.{Typed, Source}
use Rattle.p9_lang.specs.Symbols.{Symbol, SymbolKind, DeclaredOnly, Used, Code, Data, Common, symbols}
use Rattle.p9_cmean.specs.Declarations.{Definition, definition_of}
use Rattle.p9_cmean.specs.Union.{FunctionEntry, union_of, entries_of, functions_in, function_entry, weighed_nodes}
use Rattle.p9_tree.specs.Charges.{stmt_charge, stmt_waiting}
use Rattle.p9_tree.specs.Meaning as typed
use Rattle.p9_tree.specs.Means.{IsSmall, FunctionsMean, code_of, first_of, code_items, numbers_with, entry_at}
use Rattle.p9_lower.specs.Names.{Setting}
use Rattle.p9_lower.specs.Statements.{stmt_tree}
use Rattle.p9_lower.specs.Modules.{setting_of, function_of, function_or_empty, item_function, functions_from, initialiser_of, initialisers_from}
use Rattle.p9_lower.specs.Premises.{function_setting, ItemIsSound, ItemsAreSound}
use Rattle.p9_lower.specs.Laws.{FunctionsMeanSame, PartsAreSame, LoweredMeans}
use Rattle.p9_lower.proofs.Contents.{contents_mean_same}
use Rattle.p9_lower.proofs.Functions.{bodies_same, need_is, parameters_first}
use Rattle.p9_lower.proofs.Small.{statement_charge, statement_waits, statement_goes, block_of_item}

-- SMALL

small_code : (c b n : ℕ) → c ≤ 64 * b → b + 1 ≤ n → c + 52 ≤ 64 * n
small_code c b n h g = omega arith

small_frame : (c b n : ℕ) → c ≤ b → b + 1 ≤ n → c ≤ n
small_frame c b n h g = omega arith

is_small : (m : Source) (symbol : ℕ) (item : Typed) (d : Definition) → definition_of item ≡ Some d → IsSmall (function_of (setting_of m) symbol item d)
is_small m symbol item d e = record {
  code = small_code (stmt_charge (stmt_tree (function_setting m d) d.block)) (weighed_nodes d.block) (weighed_nodes item) (statement_charge (function_setting m d) d.block) (block_of_item item d e);
  frame = small_frame (stmt_waiting (stmt_tree (function_setting m d) d.block)) (weighed_nodes d.block) (weighed_nodes item)
      (statement_waits (function_setting m d) d.block) (block_of_item item d e);
}

-- FUNCTIONS

module _ (m : Source) (modules : List Source) (owner : ℕ) (here : slice_get modules owner ≡ Some m) where
  function_by : (symbol : Symbol) (k : ℕ) (item : Typed) (o : Option Definition) (es : List FunctionEntry) (fs : List typed.Function) → definition_of item ≡ o → ItemIsSound m o
      → FunctionsMean (union_of modules) es fs
      → FunctionsMean (union_of modules) (function_entry (entry_at owner m.tags symbol) item o ++ es) (function_or_empty (setting_of m) k item o ∷ fs)
  function_by symbol k item None es fs e h g = absurd h
  function_by symbol k item (Some d) es fs e h g = (
    record {
      bodies = λ turns call other s same. bodies_same modules owner m here turns k item d h call other s same;
      need = need_is m k item d;
      parameters = parameters_first m k item d;
      small = is_small m k item d e;
      no_goto = statement_goes (function_setting m d) d.block;
    },
    g,
  )

  symbol_by : (name : List ℕ) (static : Option ℕ) (l : Bool) (type : TypeTree) (kd : SymbolKind) (ss : List Symbol) (k : ℕ)
      → ItemsAreSound m (code_of kd ++ code_items ss)
      → (ItemsAreSound m (code_items ss) → FunctionsMean (union_of modules) (flat_map functions_in (entries_of owner m.tags ss)) (functions_from (setting_of m) (suc k) ss))
      → FunctionsMean (union_of modules)
      (flat_map functions_in (entries_of owner m.tags (record { name = name; static = static; is_local = l; type = type; kind = kd } ∷ ss)))
      (functions_from (setting_of m) k (record { name = name; static = static; is_local = l; type = type; kind = kd } ∷ ss))
  symbol_by name static l type DeclaredOnly ss k h g = g h
  symbol_by name static l type Used ss k h g = g h
  symbol_by name static l type (Code item) ss k h g =
      function_by (record { name = name; static = static; is_local = l; type = type; kind = Code item }) k item (definition_of item) _ _ refl h.0 (g h.1)
  symbol_by name static l type (Data first) ss k h g = g h
  symbol_by name static l type Common ss k h g = g h

  functions_mean : (ss : List Symbol) (k : ℕ) → ItemsAreSound m (code_items ss)
      → FunctionsMean (union_of modules) (flat_map functions_in (entries_of owner m.tags ss)) (functions_from (setting_of m) k ss)
  functions_mean [] k h = tt
  functions_mean (s ∷ ss) k h = symbol_by s.name s.static s.is_local s.type s.kind ss k h (λ g. functions_mean ss (suc k) g)

pub functions_mean_same : FunctionsMeanSame
functions_mean_same m h modules owner here = functions_mean m modules owner here (symbols m) 0 h

-- PARTS

symbol_of_item : (setting : Setting) (k : ℕ) (item : Typed) (o : Option Definition) → (function_or_empty setting k item o).symbol ≡ k
symbol_of_item setting k item None = refl
symbol_of_item setting k item (Some d) = refl

nodes_of_item : (setting : Setting) (k : ℕ) (item : Typed) (o : Option Definition) → (function_or_empty setting k item o).nodes ≡ weighed_nodes item
nodes_of_item setting k item None = refl
nodes_of_item setting k item (Some d) = refl

numbers_here : (setting : Setting) (k : ℕ) (items : List Typed) → map (λ f. f.symbol) (map (item_function setting k) items) ≡ map (λ x. k) items
numbers_here setting k [] = refl
numbers_here setting k (item ∷ items) =
    ap (λ n. n ∷ map (λ f. f.symbol) (map (item_function setting k) items)) (symbol_of_item setting k item (definition_of item)) ∙ ap (λ l. k ∷ l) (numbers_here setting k items)

nodes_here : (setting : Setting) (k : ℕ) (items : List Typed) → map (λ f. f.nodes) (map (item_function setting k) items) ≡ map weighed_nodes items
nodes_here setting k [] = refl
nodes_here setting k (item ∷ items) =
    ap (λ n. n ∷ map (λ f. f.nodes) (map (item_function setting k) items)) (nodes_of_item setting k item (definition_of item)) ∙ ap (λ l. weighed_nodes item ∷ l) (nodes_here setting k items)

initials_here : (setting : Setting) (k : ℕ) (firsts : List (Result (List Write) BrokenItem)) → map (λ i. i.symbol) (map (initialiser_of setting k) firsts) ≡ map (λ x. k) firsts
initials_here setting k [] = refl
initials_here setting k (f ∷ fs) = ap (λ l. k ∷ l) (initials_here setting k fs)

function_numbers : (setting : Setting) (k : ℕ) (ss : List Symbol) → map (λ f. f.symbol) (functions_from setting k ss) ≡ numbers_with code_of k ss
function_numbers setting k [] = refl
function_numbers setting k (s ∷ ss) =
    map-append (λ f. f.symbol) (map (item_function setting k) (code_of s.kind)) (functions_from setting (suc k) ss)
    ∙ ap (λ l. l ++ map (λ f. f.symbol) (functions_from setting (suc k) ss)) (numbers_here setting k (code_of s.kind))
    ∙ ap (λ l. map (λ x. k) (code_of s.kind) ++ l) (function_numbers setting (suc k) ss)

node_counts : (setting : Setting) (k : ℕ) (ss : List Symbol) → map (λ f. f.nodes) (functions_from setting k ss) ≡ map weighed_nodes (code_items ss)
node_counts setting k [] = refl
node_counts setting k (s ∷ ss) =
    map-append (λ f. f.nodes) (map (item_function setting k) (code_of s.kind)) (functions_from setting (suc k) ss)
    ∙ ap (λ l. l ++ map (λ f. f.nodes) (functions_from setting (suc k) ss)) (nodes_here setting k (code_of s.kind))
    ∙ ap (λ l. map weighed_nodes (code_of s.kind) ++ l) (node_counts setting (suc k) ss)
    ∙ sym (map-append weighed_nodes (code_of s.kind) (code_items ss))

initialiser_numbers : (setting : Setting) (k : ℕ) (ss : List Symbol) → map (λ i. i.symbol) (initialisers_from setting k ss) ≡ numbers_with first_of k ss
initialiser_numbers setting k [] = refl
initialiser_numbers setting k (s ∷ ss) =
    map-append (λ i. i.symbol) (map (initialiser_of setting k) (first_of s.kind)) (initialisers_from setting (suc k) ss)
    ∙ ap (λ l. l ++ map (λ i. i.symbol) (initialisers_from setting (suc k) ss)) (initials_here setting k (first_of s.kind))
    ∙ ap (λ l. map (λ x. k) (first_of s.kind) ++ l) (initialiser_numbers setting (suc k) ss)

pub parts_are_same : PartsAreSame
parts_are_same m = record {
  symbols_are = refl;
  tags_are = refl;
  function_numbers = function_numbers (setting_of m) 0 (symbols m);
  node_counts = node_counts (setting_of m) 0 (symbols m);
  initialiser_numbers = initialiser_numbers (setting_of m) 0 (symbols m);
}

-- THE WHOLE

pub lowered_means : LoweredMeans
lowered_means m sound = record {
  symbols_are = refl;
  tags_are = refl;
  function_numbers = function_numbers (setting_of m) 0 (symbols m);
  node_counts = node_counts (setting_of m) 0 (symbols m);
  initialiser_numbers = initialiser_numbers (setting_of m) 0 (symbols m);
  functions = functions_mean_same m sound.items;
  contents = contents_mean_same m sound.firsts;
}
