-- What the trees of a module are made from, and how they call what names stand for: an object or
-- function of file scope, a string literal and a block static by the number of its symbol, an automatic
-- by its own.
use Rattle.std.specs.Prelude.{ℕ, Bool, true, false, ◌&&◌, List, Option, Some, None}
use Rattle.p9_lang.specs.Names.{same_name}
use Rattle.p9_lang.specs.Types.{TypeTree, Tags, Meant, Nothing, Outer, Static, EnumValue, TypeName}
use Rattle.p9_lang.specs.Types as types
use Rattle.p9_lang.specs.Symbols.{Symbol}
use Rattle.p9_cmean.specs.Union.{number_from, has_number}
use Rattle.p9_tree.specs.Trees.{Tree, Const, Addr, Auto}

-- the structures of a module, its symbols, and the type of a function's result
pub record Setting : Type 0 where
  pub tags : Tags
  pub symbols : List Symbol
  pub result : TypeTree

abbrev pub has_no_number : Option ℕ → Bool
has_no_number None = true
has_no_number (Some number) = false

-- the symbol of file scope with this name, and the one of the literal or block static with this number
abbrev pub is_outer_symbol : (name : List ℕ) → Symbol → Bool
is_outer_symbol name symbol = has_no_number symbol.static && same_name name symbol.name

abbrev pub is_static_symbol : (number : ℕ) → Symbol → Bool
is_static_symbol number symbol = has_number number symbol.static

abbrev pub outer_symbol : List Symbol → (name : List ℕ) → Option ℕ
outer_symbol symbols name = number_from 0 (is_outer_symbol name) symbols

abbrev pub static_symbol : List Symbol → (number : ℕ) → Option ℕ
static_symbol symbols number = number_from 0 (is_static_symbol number) symbols

-- where a source has no meaning, which is in no valid module, any tree will do
abbrev pub no_tree : Tree
no_tree = Const 0

abbrev pub symbol_tree : Option ℕ → Tree
symbol_tree None = no_tree
symbol_tree (Some symbol) = Addr symbol 0

-- the address of what a name or literal stands for
abbrev pub name_tree : Setting → Meant → Tree
name_tree setting Nothing = no_tree
name_tree setting (Outer name) = symbol_tree (outer_symbol setting.symbols name)
name_tree setting (Static number) = symbol_tree (static_symbol setting.symbols number)
name_tree setting (types.Auto number) = Auto number
name_tree setting (EnumValue value) = no_tree
name_tree setting (TypeName type) = no_tree
