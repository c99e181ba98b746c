-- The functions of a module are among its items.
use Rattle.p9_lang.specs.declared.tree.Kind.TheVariants as kind
use Rattle.p9_lang.specs.Trees.{node, none, more}
use Rattle.p9_lang.specs.Modules.{Typed, TypedRow, Source}
use Rattle.p9_lang.specs.Symbols.{symbols}
use Rattle.p9_cmean.specs.Declarations.{definition_of}
use Rattle.p9_tree.specs.Means.{code_items}
use Rattle.p9_lower.specs.Premises.{ItemIsSound, ItemsAreSound}

abbrev pub FunctionIsSound : Source → Typed → Type 0
FunctionIsSound m (node (kind.Function spec) label parts) = ItemIsSound m (definition_of (node (kind.Function spec) label parts))
FunctionIsSound m (node k label parts) = Unit {0}

abbrev pub FunctionsAreSound : Source → TypedRow → Type 0
FunctionsAreSound m none = Unit {0}
FunctionsAreSound m (more item items) = FunctionIsSound m item × FunctionsAreSound m items

-- where all functions with bodies are sound, the code items of the module's symbols are
abbrev pub CodeItemsAreSound : Type 0
CodeItemsAreSound = (m : Source) → FunctionsAreSound m m.items → ItemsAreSound m (code_items (symbols m))
