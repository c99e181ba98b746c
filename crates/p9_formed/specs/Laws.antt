-- The laws of well-formed files.
use Rattle.std.specs.Prelude.{List}
use Rattle.p9_lang.specs.declared.tree.Node.{Node}
use Rattle.p9_lang.specs.Trees.{row_of}
use Rattle.p9_grammar.specs.Trees.{trees_of}
use Rattle.p9_grammar.specs.Promise.{IsFile}
use Rattle.p9_sound.specs.Made.{AreMade}
use Rattle.p9_sound.specs.Functions.{AreOrderly}
use Rattle.p9_formed.specs.Functions.{FunctionsAreItems}

-- Numbers, characters and names have no parts, and an `op=` has one of its operators.
abbrev pub WellFormedFilesAreMade : Type 0
WellFormedFilesAreMade = (items : List Node) → IsFile (trees_of items) → AreMade (row_of items)

-- A function's block stands last, directly behind its declarator, and declarations stand in blocks and in
-- statements only.
abbrev pub WellFormedFilesAreOrderly : Type 0
WellFormedFilesAreOrderly = (items : List Node) → IsFile (trees_of items) → AreOrderly (row_of items)

-- No function stands within an item.
abbrev pub WellFormedFilesHoldFunctions : Type 0
WellFormedFilesHoldFunctions = (items : List Node) → IsFile (trees_of items) → FunctionsAreItems (row_of items)
