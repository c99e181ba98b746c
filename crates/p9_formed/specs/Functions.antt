-- The functions of a file are items: none stands within another item.
use Rattle.std.specs.Prelude.{◌≡◌, Bool, true, false}
use Rattle.p9_lang.specs.declared.tree.Kind.{Kind}
use Rattle.p9_lang.specs.declared.tree.Kind.TheVariants as kind
use Rattle.p9_lang.specs.Trees.{node, none, more, Syntax, SyntaxRow}

-- whether a node is a function with a body
abbrev pub is_function_node : Kind → Bool
is_function_node (kind.Function spec) = true
is_function_node k = false

-- no function stands in a tree
abbrev mutual
  pub HasNoFunction : Syntax → Type 0
  HasNoFunction (node k at parts) = (is_function_node k ≡ false) × HaveNoFunctions parts

  pub HaveNoFunctions : SyntaxRow → Type 0
  HaveNoFunctions none = Unit {0}
  HaveNoFunctions (more first others) = HasNoFunction first × HaveNoFunctions others

-- none stands in the parts of an item
abbrev pub IsFunctionless : Syntax → Type 0
IsFunctionless (node k at parts) = HaveNoFunctions parts

-- none stands in the parts of any of these items
abbrev pub FunctionsAreItems : SyntaxRow → Type 0
FunctionsAreItems none = Unit {0}
FunctionsAreItems (more item items) = IsFunctionless item × FunctionsAreItems items
