-- What typing leaves in a module is what the law of trees asks of its functions, where its expressions are
-- plain.
use Rattle.p9_lang.specs.declared.module.Module.{Module}
use Rattle.p9_lang.specs.Trees.{row_of}
use Rattle.p9_lang.specs.Modules.{source_of}
use Rattle.p9_lang.specs.Files.{IsTyped}
use Rattle.p9_lang.specs.Symbols.{symbols}
use Rattle.p9_tree.specs.Means.{code_items}
use Rattle.p9_lower.specs.Modules.{setting_of}
use Rattle.p9_lower.specs.Premises.{ItemsAreSound}
use Rattle.p9_sound.specs.Expressions.{RowIsPlain}
use Rattle.p9_sound.specs.Functions.{AreOrderly}

abbrev pub TypedItemsAreSound : Type 0
TypedItemsAreSound =
    (m : Module) → IsTyped m → AreOrderly (row_of m.tree.items) → RowIsPlain (setting_of (source_of m)) (source_of m).items
    → ItemsAreSound (source_of m) (code_items (symbols (source_of m)))
