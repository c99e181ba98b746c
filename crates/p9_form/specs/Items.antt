-- The tree of a file of the form. Each node knows the place of its first token.
use Rattle.std.specs.Prelude.{ℕ, ◌+◌, Bool, true, false, if◌then◌else◌, List, [], ◌∷◌, Option, Some, None, codes}
use Rattle.p9_first.specs.declared.tree.CBinary.TheVariants as operator
use Rattle.p9_first.specs.declared.tree.SpecWord.{SpecWord}
use Rattle.p9_first.specs.declared.tree.SpecWord.TheVariants as word
use Rattle.p9_first.specs.declared.tree.Kind.{Kind}
use Rattle.p9_first.specs.declared.tree.Kind.TheVariants as kind
use Rattle.p9_first.specs.Trees.{node, none, more, Syntax, SyntaxRow, row}
use Rattle.p9_first.specs.Modules.{Source, source_from}
use Rattle.p9_form.specs.declared.file.Operand.{Operand}
use Rattle.p9_form.specs.declared.file.Operand.TheVariants.{Variable, Number}
use Rattle.p9_form.specs.declared.file.Statement.{Statement}
use Rattle.p9_form.specs.declared.file.Statement.TheVariants.{Assign, Write, Exits}
use Rattle.p9_form.specs.declared.file.First.{First}
use Rattle.p9_form.specs.declared.file.First.TheVariants as first
use Rattle.p9_form.specs.declared.file.Declaration.{Declaration}
use Rattle.p9_form.specs.declared.file.File.{File}

-- a node without parts
abbrev pub leaf : Kind → (at : ℕ) → Syntax
leaf k at = node k at none

abbrev pub number_leaf : (value at : ℕ) → Syntax
number_leaf value at = leaf (kind.Number value false false) at

abbrev pub text_leaf : (text : List ℕ) → (at : ℕ) → Syntax
text_leaf text at = leaf (kind.Text (text ∷ [])) at

-- Statements

abbrev pub operand_tree : ℕ → Operand → Syntax
operand_tree at (Variable x) = leaf (kind.Name x) at
operand_tree at (Number value) = number_leaf value at

abbrev pub sum_tree : ℕ → Operand → Option Operand → Syntax
sum_tree at left None = operand_tree at left
sum_tree at left (Some right) =
    node (kind.Binary operator.Add) at (row (operand_tree at left ∷ operand_tree (at + 2) right ∷ []))

abbrev pub exit_tree : ℕ → Option (List ℕ) → Syntax
exit_tree at None = number_leaf 0 at
exit_tree at (Some text) = text_leaf text at

abbrev pub effect_tree : ℕ → Statement → Syntax
effect_tree at (Assign x left right) =
    node (kind.Assign None) at (row (leaf (kind.Name x) at ∷ sum_tree (at + 2) left right ∷ []))
effect_tree at (Write text count) =
    node kind.Call at (row (leaf (kind.Name (codes "write")) at ∷ number_leaf 1 (at + 2) ∷ text_leaf text (at + 4) ∷ operand_tree (at + 6) count ∷ []))
effect_tree at (Exits text) =
    node kind.Call at (row (leaf (kind.Name (codes "exits")) at ∷ exit_tree (at + 2) text ∷ []))

abbrev pub statement_tree : ℕ → Statement → Syntax
statement_tree at s = node kind.Expression at (row (effect_tree at s ∷ []))

-- how many tokens a statement has
abbrev pub statement_size : Statement → ℕ
statement_size (Assign x left None) = 4
statement_size (Assign x left (Some right)) = 6
statement_size (Write text count) = 9
statement_size (Exits text) = 5

abbrev pub statement_trees : ℕ → List Statement → SyntaxRow
statement_trees at [] = none
statement_trees at (s ∷ ss) = more (statement_tree at s) (statement_trees (at + statement_size s) ss)

abbrev pub statements_size : List Statement → ℕ
statements_size [] = 0
statements_size (s ∷ ss) = statement_size s + statements_size ss

-- Items

abbrev pub number_word : (is_long : Bool) → SpecWord
number_word is_long = if is_long then word.Long else word.Int

abbrev pub declaration_tree : ℕ → Declaration → Syntax
declaration_tree at d = by d.first
  where
    by : First → Syntax
    by first.Extern =
        node (kind.Declaration (record { words = word.Extern ∷ number_word d.is_long ∷ [] }) (false ∷ [])) at
        (row (leaf (kind.DeclName d.name) (at + 2) ∷ []))
    by first.Zero =
        node (kind.Declaration (record { words = number_word d.is_long ∷ [] }) (false ∷ [])) at
        (row (leaf (kind.DeclName d.name) (at + 1) ∷ []))
    by (first.Number value) =
        node (kind.Declaration (record { words = number_word d.is_long ∷ [] }) (true ∷ [])) at
        (row (leaf (kind.DeclName d.name) (at + 1) ∷ number_leaf value (at + 3) ∷ []))

-- how many tokens a declaration has
abbrev pub declaration_size : First → ℕ
declaration_size first.Extern = 4
declaration_size first.Zero = 3
declaration_size (first.Number value) = 5

abbrev pub declarations_size : List Declaration → ℕ
declarations_size [] = 0
declarations_size (d ∷ ds) = declaration_size d.first + declarations_size ds

-- declarations, and then these items
abbrev pub declaration_trees : ℕ → List Declaration → SyntaxRow → SyntaxRow
declaration_trees at [] others = others
declaration_trees at (d ∷ ds) others =
    more (declaration_tree at d) (declaration_trees (at + declaration_size d.first) ds others)

abbrev pub main_tree : ℕ → List Statement → Syntax
main_tree at ss =
    node (kind.Function (record { words = word.Void ∷ [] })) at
    (row (node (kind.Params true true) (at + 1) (row (leaf (kind.DeclName (codes "main")) (at + 1) ∷ []))
    ∷ node kind.Block (at + 5) (statement_trees (at + 6) ss)
    ∷ []))

abbrev pub main_size : List Statement → ℕ
main_size ss = 7 + statements_size ss

-- what follows the declarations before `main`; without it, the declarations behind follow at once
abbrev pub main_trees : ℕ → Option (List Statement) → List Declaration → SyntaxRow
main_trees at None after = declaration_trees at after none
main_trees at (Some ss) after = more (main_tree at ss) (declaration_trees (at + main_size ss) after none)

abbrev pub items_of : File → SyntaxRow
items_of file = declaration_trees 0 file.before (main_trees (declarations_size file.before) file.main file.after)

-- the file's module, as plain data
abbrev pub source_of : File → Source
source_of file = source_from (items_of file)
