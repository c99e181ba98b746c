-- What a reader may be given to read: a whole file, one expression, or one declaration. A declaration
-- may also be the head of a function, which ends with the brace of the function's block.
use Rattle.std.specs.Prelude.{◌≡◌, ◌⊎◌, ℕ, true, List, [], ◌∷◌, ◌++◌, Option, Some, None}
use Rattle.p9_lang.specs.declared.tree.SpecWord.{SpecWord}
use Rattle.p9_lang.specs.declared.tree.Kind.TheVariants as kind
use Rattle.p9_grammar.specs.declared.terminal.Punctuator.TheVariants as mark
use Rattle.p9_grammar.specs.declared.terminal.Terminal.{Terminal}
use Rattle.p9_grammar.specs.declared.terminal.Terminal.TheVariants.{End}
use Rattle.p9_grammar.specs.declared.head.Naming.TheVariants as naming
use Rattle.p9_grammar.specs.declared.head.Class.TheVariants as class
use Rattle.p9_grammar.specs.declared.head.Head.{Head}
use Rattle.p9_grammar.specs.declared.head.Head.TheVariants as head
use Rattle.p9_grammar.specs.Trees.{Tree, node, Trees, none, more}
use Rattle.p9_grammar.specs.Symbols.{Symbol, Begins, expression, declarator_of, is_typedef, sign, spec_symbols}
use Rattle.p9_grammar.specs.Scopes.{Scope, Told, after, through}
use Rattle.p9_grammar.specs.Grammar.{Fills, Formed, IsSpec, tokens, write}
use Rattle.p9_grammar.specs.Machine.{Frame, State, file_start, fresh, run, state}
use Rattle.p9_grammar.specs.Promise.{IsFile, IsRead, file_tokens}
use Rattle.p9_prefix.specs.declared.phrase.Phrase.{Phrase}
use Rattle.p9_prefix.specs.declared.phrase.Phrase.TheVariants.{Expression, Declaration}

-- One phrase stands at a place, among names that are in scope.
pub data Goal : Type 0 where
  File : Goal
  One : Phrase → Scope → (at : ℕ) → Goal

-- What is written

-- a function up to its block, with the block's brace
abbrev pub head_symbols : List SpecWord → List Symbol
head_symbols words = spec_symbols words ++ (declarator_of naming.Named (Begins (is_typedef words)) ∷ sign mark.OpenBrace ∷ [])

-- A declaration, or a function's head, whose tree has no block.
abbrev pub IsDeclaration : Scope → (at : ℕ) → Tree → List Terminal → Type 0
IsDeclaration scope at (node (kind.Function s) token parts) ts =
    (token ≡ at) × IsSpec true scope s.words × Fills class.HeadItem (head_symbols s.words) scope at parts × (write (head_symbols s.words) parts ≡ ts)
IsDeclaration scope at n ts = Formed class.HeadItem scope at n × (tokens n ≡ ts)

-- The tree, whose first token has this place, is one under these names, and these are its tokens.
abbrev pub IsPhrase : Phrase → Scope → (at : ℕ) → Tree → List Terminal → Type 0
IsPhrase Expression scope at n ts = Formed expression scope at n × (tokens n ≡ ts)
IsPhrase Declaration scope at n ts = IsDeclaration scope at n ts

-- The names in scope behind it: a function's head opens the level with the names of its parameters.
abbrev pub names_behind : Tree → Scope → Scope
names_behind (node (kind.Function s) token parts) scope = through (head_symbols s.words) parts scope
names_behind n scope = after n scope

-- A whole: a file with its end, an expression with the end behind it, or a declaration.
abbrev pub IsWhole : Goal → Trees → List Terminal → Type 0
IsWhole File items ts = IsFile items × (file_tokens items ≡ ts)
IsWhole (One Expression scope at) (more n none) ts = Formed expression scope at n × (tokens n ++ (End ∷ []) ≡ ts)
IsWhole (One Declaration scope at) (more n none) ts = IsDeclaration scope at n ts
IsWhole (One p scope at) ns ts = ⊥

-- tokens that begin a whole
abbrev pub BeginsWhole : Goal → List Terminal → Type 0
BeginsWhole goal ts = (ns : Trees) × (rest : List Terminal) × IsWhole goal ns (ts ++ rest)

-- Where the machine begins and ends

abbrev pub bottom : Phrase → Head
bottom Expression = head.GoalExpression
bottom Declaration = head.GoalHead

abbrev pub start : Goal → State
start File = file_start
start (One p scope at) = state (fresh (bottom p) at ∷ []) scope at None

-- behind a declaration it has just been read
abbrev pub JustRead : Tree → State → Type 0
JustRead n st = (tl : Told) × (f : Frame) × (f.head ≡ head.GoalHead) × (st.stack ≡ f ∷ []) × (st.last ≡ Some (record { tree = n; told = tl }))

-- behind a function's head the function is open
abbrev pub IsOpen : Tree → State → Type 0
IsOpen (node (kind.Function s) token parts) st =
    (tl : Told) × (f : Frame) × (f.head ≡ head.GoalHead) × (st.stack ≡ record { head = head.HeadOver s.words; from = token; parts = parts; told = tl } ∷ f ∷ []) × (st.last ≡ None)
IsOpen n st = ⊥

-- The machine stands behind a whole with these parts.
abbrev pub HasEnded : Goal → Trees → Option State → Type 0
HasEnded File items r = IsRead items r
HasEnded (One p scope at) ns None = ⊥
HasEnded (One Expression scope at) ns (Some st) = (from : ℕ) × (tl : Told) × (st.stack ≡ record { head = head.GoalOver; from = from; parts = ns; told = tl } ∷ [])
HasEnded (One Declaration scope at) (more n none) (Some st) = JustRead n st ⊎ IsOpen n st
HasEnded (One Declaration scope at) ns (Some st) = ⊥

-- It reads the tokens of each whole to its end.
abbrev pub ReadsWholes : Type 0
ReadsWholes = (goal : Goal) (ns : Trees) (ts : List Terminal) → IsWhole goal ns ts → HasEnded goal ns (run (Some (start goal)) ts)

-- Where it stops, no whole begins with the tokens so far.
abbrev pub Refuses : Type 0
Refuses = (goal : Goal) (ts : List Terminal) → run (Some (start goal)) ts ≡ None → BeginsWhole goal ts → ⊥
