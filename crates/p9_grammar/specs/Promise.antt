-- Whole files.
use Rattle.std.specs.Prelude.{◌≡◌, ℕ, false, List, [], ◌∷◌, ◌++◌, Option, Some, None, codes}
use Rattle.p9_lang.specs.declared.tree.Kind.TheVariants as kind
use Rattle.p9_lang.specs.declared.tree.SpecWord.TheVariants as word
use Rattle.p9_lang.specs.declared.tree.Node.{Node}
use Rattle.p9_grammar.specs.declared.terminal.Terminal.{Terminal}
use Rattle.p9_grammar.specs.declared.terminal.Terminal.TheVariants as t
use Rattle.p9_grammar.specs.declared.terminal.Keyword.TheVariants as key
use Rattle.p9_grammar.specs.declared.terminal.Punctuator.TheVariants as mark
use Rattle.p9_grammar.specs.declared.head.Class.TheVariants as class
use Rattle.p9_grammar.specs.declared.head.Head.TheVariants as head
use Rattle.p9_grammar.specs.Trees.{Trees, node, none, more, count, tree_of, trees_of}
use Rattle.p9_grammar.specs.Symbols.{file_symbols}
use Rattle.p9_grammar.specs.Scopes.{Scope, Told}
use Rattle.p9_grammar.specs.Machine.{State, run, file_start}
use Rattle.p9_grammar.specs.Grammar.{tokens, write, Fills, Formed}

-- before the first item: the level of the file, without a name
abbrev pub file_scope : Scope
file_scope = [] ∷ []

-- the items of a file, and how they are written
abbrev pub IsFile : Trees → Type 0
IsFile items = Fills class.Body (file_symbols (count items)) file_scope 0 items

abbrev pub file_tokens : Trees → List Terminal
file_tokens items = write (file_symbols (count items)) items

-- tokens that begin a file
abbrev pub BeginsFile : List Terminal → Type 0
BeginsFile ts = (items : Trees) × (rest : List Terminal) × IsFile items × (file_tokens items ≡ ts ++ rest)

-- Tokens are written by at most one list of well-formed items.
abbrev pub OneFile : Type 0
OneFile = (a b : List Node) → IsFile (trees_of a) → IsFile (trees_of b) → file_tokens (trees_of a) ≡ file_tokens (trees_of b) → a ≡ b

-- The same of one well-formed tree of a class under some names.
abbrev pub OneExpression : Type 0
OneExpression =
    (a b : Node) (scope : Scope) (at : ℕ) → Formed (class.Expression 1) scope at (tree_of a) → Formed (class.Expression 1) scope at (tree_of b) →
    tokens (tree_of a) ≡ tokens (tree_of b) → a ≡ b

-- What the reader's machine does

-- The machine stands at the end of a file with these items.
abbrev pub IsRead : Trees → Option State → Type 0
IsRead items None = ⊥
IsRead items (Some st) = (tl : Told) × (st.stack ≡ record { head = head.FileOver; from = 0; parts = items; told = tl } ∷ [])

-- It reads the tokens of each well-formed file, to its items.
abbrev pub ReadsFiles : Type 0
ReadsFiles = (items : Trees) → IsFile items → IsRead items (run (Some file_start) (file_tokens items))

-- Where it stops, no well-formed file begins with the tokens so far.
abbrev pub RefusesRightly : Type 0
RefusesRightly = (ts : List Terminal) → run (Some file_start) ts ≡ None → BeginsFile ts → ⊥

-- Where it comes to the end, the items are a well-formed file, and the tokens read are its own.
abbrev pub ReadsOnlyFiles : Type 0
ReadsOnlyFiles = (items : Trees) (ts : List Terminal) → IsRead items (run (Some file_start) ts) → IsFile items × (file_tokens items ≡ ts)

-- a file: `int x;`
abbrev pub small_items : Trees
small_items = more (node (kind.Declaration (record { words = word.Int ∷ [] }) (false ∷ [])) 0 (more (node (kind.DeclName (codes "x")) 1 none) none)) none

abbrev pub SmallFile : Type 0
SmallFile = IsFile small_items × (file_tokens small_items ≡ t.Key key.Int ∷ t.Name (codes "x") ∷ t.Mark mark.Semicolon ∷ t.End ∷ [])
