-- The typed module of a module: its symbols, its functions, and what its objects hold first.
use Rattle.std.specs.Prelude.{ℕ, suc, Bool, true, false, List, [], ◌∷◌, ◌++◌, map, length, Option, Some, None, Result, Ok, Err}
use Rattle.p9_lang.specs.Types.{TypeTree, Void, Char, Function}
use Rattle.p9_lang.specs.Layout.{size_of}
use Rattle.p9_lang.specs.Initialisers.{Base, OuterBase, StaticBase, Content, Word, AddressOf, Bytes, Write, ItemRule, NotConstant, TooManyItems, BrokenItem}
use Rattle.p9_lang.specs.Modules.{Typed, Source}
use Rattle.p9_lang.specs.Symbols.{Symbol, symbols}
use Rattle.p9_cmean.specs.Declarations.{Definition, definition_of}
use Rattle.p9_cmean.specs.Union.{parameter_types, types_within, weighed_nodes}
use Rattle.p9_tree.specs.Trees.{Tree, Const, Addr, Auto, Nothing}
use Rattle.p9_tree.specs.Meaning as typed
use Rattle.p9_tree.specs.Modules.{Entry, Initialiser, TypedModule}
use Rattle.p9_tree.specs.Means.{typed_symbol, code_of, first_of}
use Rattle.p9_lower.specs.Names.{Setting, outer_symbol, static_symbol}
use Rattle.p9_lower.specs.Statements.{stmt_tree}

abbrev pub setting_of : Source → Setting
setting_of m = record { tags = m.tags; symbols = symbols m; result = Void }

-- FUNCTIONS. The automatics are the parameters and then those of blocks, in the order of the nodes.

abbrev pub result_of : TypeTree → TypeTree
result_of (Function result parameters) = result
result_of type = Void

abbrev pub automatic_sizes : Setting → Definition → List ℕ
automatic_sizes setting d = map (size_of setting.tags) (parameter_types d.name.type ++ types_within d.block)

abbrev pub function_of : Setting → (symbol : ℕ) → (item : Typed) → Definition → typed.Function
function_of setting symbol item d = record {
  symbol = symbol;
  sizes = automatic_sizes setting d;
  parameters = length (parameter_types d.name.type);
  body = stmt_tree (record setting { result = result_of d.name.type }) d.block;
  nodes = weighed_nodes item;
}

-- an item without a block, which is in no valid module, does nothing
abbrev pub empty_function : (symbol : ℕ) → (item : Typed) → typed.Function
empty_function symbol item = record { symbol = symbol; sizes = []; parameters = 0; body = Nothing; nodes = weighed_nodes item }

abbrev pub function_or_empty : Setting → (symbol : ℕ) → (item : Typed) → Option Definition → typed.Function
function_or_empty setting symbol item None = empty_function symbol item
function_or_empty setting symbol item (Some d) = function_of setting symbol item d

abbrev pub item_function : Setting → (symbol : ℕ) → (item : Typed) → typed.Function
item_function setting symbol item = function_or_empty setting symbol item (definition_of item)

-- of the symbols from this number on
abbrev pub functions_from : Setting → ℕ → List Symbol → List typed.Function
functions_from setting k [] = []
functions_from setting k (s ∷ ss) = map (item_function setting k) (code_of s.kind) ++ functions_from setting (suc k) ss

-- FIRST CONTENTS: an entry for each number and address, and for each byte of a string. Of an initialiser
-- that breaks a rule there is the item that does: one that isn't fixed, or one that lies outside.

-- what isn't fixed before the program runs
abbrev pub unfixed : Tree
unfixed = Auto 0

abbrev pub fixed_address : Option ℕ → (offset : ℕ) → Tree
fixed_address None offset = unfixed
fixed_address (Some symbol) offset = Addr symbol offset

abbrev pub base_symbol : Setting → Base → Option ℕ
base_symbol setting (OuterBase name) = outer_symbol setting.symbols name
base_symbol setting (StaticBase number) = static_symbol setting.symbols number

abbrev pub entry : (offset : ℕ) → TypeTree → Tree → Entry
entry offset type value = record { offset = offset; type = type; node = 0; is_inside = true; value = value }

abbrev pub byte_entries : (offset : ℕ) → List ℕ → List Entry
byte_entries offset [] = []
byte_entries offset (byte ∷ bytes) = entry offset Char (Const byte) ∷ byte_entries (suc offset) bytes

abbrev pub content_entries : Setting → (offset : ℕ) → TypeTree → Content → List Entry
content_entries setting offset type (Word word) = entry offset type (Const word) ∷ []
content_entries setting offset type (AddressOf base moved) = entry offset type (fixed_address (base_symbol setting base) moved) ∷ []
content_entries setting offset type (Bytes bytes) = byte_entries offset bytes

abbrev pub write_entries : Setting → List Write → List Entry
write_entries setting [] = []
write_entries setting (w ∷ ws) = content_entries setting w.offset w.type w.content ++ write_entries setting ws

abbrev pub is_inside : ItemRule → Bool
is_inside NotConstant = true
is_inside TooManyItems = false

abbrev pub broken_entry : BrokenItem → Entry
broken_entry broken = record { offset = 0; type = Char; node = broken.number; is_inside = is_inside broken.rule; value = unfixed }

abbrev pub first_entries : Setting → Result (List Write) BrokenItem → List Entry
first_entries setting (Ok writes) = write_entries setting writes
first_entries setting (Err broken) = broken_entry broken ∷ []

abbrev pub initialiser_of : Setting → (symbol : ℕ) → Result (List Write) BrokenItem → Initialiser
initialiser_of setting symbol first = record { symbol = symbol; entries = first_entries setting first }

abbrev pub initialisers_from : Setting → ℕ → List Symbol → List Initialiser
initialisers_from setting k [] = []
initialisers_from setting k (s ∷ ss) = map (initialiser_of setting k) (first_of s.kind) ++ initialisers_from setting (suc k) ss

-- THE TYPED MODULE

abbrev pub lowered : Source → TypedModule
lowered m = record {
  symbols = map typed_symbol (symbols m);
  tags = m.tags;
  functions = functions_from (setting_of m) 0 (symbols m);
  initialisers = initialisers_from (setting_of m) 0 (symbols m);
}
