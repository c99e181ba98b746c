-- The automatics of a function are numbered in the order of their nodes.
use Rattle.std.specs.Prelude.{◌≡◌, ℕ, suc, Bool, true, false, List, [], ◌∷◌, ◌++◌, length, map, Ok}
use Rattle.p9_lang.specs.declared.tree.Kind.{Kind}
use Rattle.p9_lang.specs.declared.tree.Kind.TheVariants as kind
use Rattle.p9_lang.specs.Trees.{node, none, more, Syntax, SyntaxRow}
use Rattle.p9_lang.specs.Scopes.{Known, next_node}
use Rattle.p9_lang.specs.Parts.{Context, Part}
use Rattle.p9_lang.specs.Typing.{judge}
use Rattle.p9_lang.specs.Modules.{Typed, TypedRow, typed}
use Rattle.p9_cmean.specs.Declarations.{Automatic, declared_by}

-- a declaration or a function
abbrev pub declares : Kind → Bool
declares (kind.Declaration spec inits) = true
declares (kind.Function spec) = true
declares k = false

-- no declaration stands in a tree
abbrev mutual
  pub HasNone : Syntax → Type 0
  HasNone (node k at parts) = (declares k ≡ false) × HaveNone parts

  pub HaveNone : SyntaxRow → Type 0
  HaveNone none = Unit {0}
  HaveNone (more first others) = HasNone first × HaveNone others

-- Declarations stand in blocks, and in other statements that statements are parts of; none stands in
-- another.
abbrev mutual
  pub IsStatement : Syntax → Type 0
  IsStatement (node (kind.Declaration spec inits) at parts) = HaveNone parts
  IsStatement (node kind.Block at parts) = AreStatements parts
  IsStatement (node kind.If at parts) = AreStatements parts
  IsStatement (node kind.While at parts) = AreStatements parts
  IsStatement (node kind.Do at parts) = AreStatements parts
  IsStatement (node (kind.For first test step) at parts) = AreStatements parts
  IsStatement (node kind.Switch at parts) = AreStatements parts
  IsStatement (node k at parts) = HasNone (node k at parts)

  pub AreStatements : SyntaxRow → Type 0
  AreStatements none = Unit {0}
  AreStatements (more first others) = IsStatement first × AreStatements others

-- the automatics that a statement declares, in the order of nodes
abbrev mutual
  pub automatics_within : Typed → List Automatic
  automatics_within (node k label parts) = declared_by (node k label parts) ++ automatics_of_row parts

  pub automatics_of_row : TypedRow → List Automatic
  automatics_of_row none = []
  automatics_of_row (more first others) = automatics_within first ++ automatics_of_row others

abbrev pub numbers : List Automatic → List ℕ
numbers automatics = map (λ a. a.number) automatics

-- each number is one more than that before it, from the first on up to the last, which isn't reached
abbrev pub AreNumbered : (from : ℕ) → List ℕ → (to : ℕ) → Type 0
AreNumbered from [] to = from ≡ to
AreNumbered from (n ∷ ns) to = (n ≡ from) × AreNumbered (suc from) ns to

abbrev pub AutomaticsAreNumbered : Type 0
AutomaticsAreNumbered =
    (t : Syntax) (c : Context) (s : Known) (r : Part × Known) → length s.means ≡ length s.types → IsStatement t → judge t c s ≡ Ok r
    → AreNumbered s.autos (numbers (automatics_within (typed r.1.types r.1.means (next_node s) t))) r.1.autos
