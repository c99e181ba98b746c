-- Typed modules as plain data.
use Rattle.std.specs.Prelude.{ℕ, Bool, List, map}
use Rattle.p9_lang.specs.Types.{TypeTree, Tags, type_of, tags_of}
use Rattle.p9_tree.specs.declared.module.TFunction.{TFunction}
use Rattle.p9_tree.specs.declared.module.TEntry.{TEntry}
use Rattle.p9_tree.specs.declared.module.TInit.{TInit}
use Rattle.p9_tree.specs.declared.module.State.{State}
use Rattle.p9_tree.specs.declared.module.TSym.{TSym}
use Rattle.p9_tree.specs.declared.module.TModule.{TModule}
use Rattle.p9_tree.specs.Trees.{Tree, tree_of, stmt_of}
use Rattle.p9_tree.specs.Meaning.{Function}

pub record TypedSymbol : Type 0 where
  pub name : List ℕ
  pub is_local : Bool
  pub type : TypeTree
  pub state : State

-- a scalar at an offset, by the node of its expression; or an item that lies outside the object, by
-- the node that is told
pub record Entry : Type 0 where
  pub offset : ℕ
  pub type : TypeTree
  pub node : ℕ
  pub is_inside : Bool
  pub value : Tree

-- the initialiser of the symbol with a number
pub record Initialiser : Type 0 where
  pub symbol : ℕ
  pub entries : List Entry

pub record TypedModule : Type 0 where
  pub symbols : List TypedSymbol
  pub tags : Tags
  pub functions : List Function
  pub initialisers : List Initialiser

-- The modules of the program as such

abbrev pub symbol_of : TSym → TypedSymbol
symbol_of s = record { name = s.name; is_local = s.local; type = type_of s.ty; state = s.state }

abbrev pub function_of : TFunction → Function
function_of f = record { symbol = f.symbol; sizes = f.autos; parameters = f.params; body = stmt_of f.body; nodes = f.nodes }

abbrev pub entry_of : TEntry → Entry
entry_of e = record { offset = e.offset; type = type_of e.ty; node = e.node; is_inside = e.inside; value = tree_of e.value }

abbrev pub initialiser_of : TInit → Initialiser
initialiser_of i = record { symbol = i.symbol; entries = map entry_of i.entries }

abbrev pub module_of : TModule → TypedModule
module_of m = record {
  symbols = map symbol_of m.symbols;
  tags = tags_of m.tags.list;
  functions = map function_of m.functions;
  initialisers = map initialiser_of m.inits;
}
