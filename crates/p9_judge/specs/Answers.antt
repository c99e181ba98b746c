-- What typing a file answers: the module of its tree, or the rule that its first broken node breaks.
use Rattle.std.specs.Prelude.{◌≡◌, Result, Ok, Err}
use Rattle.p9_lang.specs.declared.module.Module.{Module}
use Rattle.p9_lang.specs.declared.tree.Tree.{Tree}
use Rattle.p9_lang.specs.Trees.{row_of}
use Rattle.p9_lang.specs.Rules.{at_node}
use Rattle.p9_lang.specs.Files.{typed_file, IsTyped}
use Rattle.p9_operand.specs.Told.{told_rule}
use Rattle.p9_declare.specs.declared.fault.TypingFault.{TypingFault}
use Rattle.p9_declare.specs.declared.fault.TypingFault.TheVariants as fault

pub record Types (tree : Tree) (m : Module) : Type 0 where
  pub keeps_its_tree : m.tree ≡ tree
  pub is_typed : IsTyped m

abbrev pub Answers : Tree → Result Module TypingFault → Type 0
Answers tree (Ok m) = Types tree m
Answers tree (Err (fault.Broken node rule)) = typed_file (row_of tree.items) tree.marks ≡ Err (at_node node (told_rule rule))
Answers tree (Err fault.Memory) = Unit {0}
