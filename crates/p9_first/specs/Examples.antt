-- Files of the form, and what their runs come to.
use Rattle.std.specs.Prelude.{◌≡◌, ℕ, true, false, List, [], ◌∷◌, None, codes}
use Rattle.p9_first.specs.declared.tree.CBinary.TheVariants as operator
use Rattle.p9_first.specs.declared.tree.SpecWord.{SpecWord}
use Rattle.p9_first.specs.declared.tree.SpecWord.TheVariants as word
use Rattle.p9_first.specs.declared.tree.Spec.{Spec}
use Rattle.p9_first.specs.declared.tree.Kind.{Kind}
use Rattle.p9_first.specs.declared.tree.Kind.TheVariants as kind
use Rattle.p9_first.specs.Trees.{node, none, more, Syntax, SyntaxRow}
use Rattle.p9_first.specs.Modules.{Source, source_from}
use Rattle.p9_first.specs.declared.Cause.TheVariants as cause
use Rattle.p9_first.specs.Turns.{Ended, Out, Undefined}
use Rattle.p9_first.specs.CRun.{source_run}

-- The parts of a file. The places of tokens are left out, since a run doesn't look at them.

abbrev pub leaf : Kind → Syntax
leaf k = node k 0 none

abbrev pub row : List Syntax → SyntaxRow
row [] = none
row (first ∷ others) = more first (row others)

abbrev pub name : List ℕ → Syntax
name x = leaf (kind.Name x)

abbrev pub number : ℕ → Syntax
number n = leaf (kind.Number n false false)

abbrev pub text : List ℕ → Syntax
text bytes = leaf (kind.Text (bytes ∷ []))

abbrev pub plus : Syntax → Syntax → Syntax
plus a b = node (kind.Binary operator.Add) 0 (row (a ∷ b ∷ []))

abbrev pub effect : Syntax → Syntax
effect e = node kind.Expression 0 (row (e ∷ []))

abbrev pub assign : List ℕ → Syntax → Syntax
assign x e = effect (node (kind.Assign None) 0 (row (name x ∷ e ∷ [])))

abbrev pub writes : Syntax → Syntax → Syntax
writes t count = effect (node kind.Call 0 (row (name (codes "write") ∷ number 1 ∷ t ∷ count ∷ [])))

abbrev pub exits : Syntax → Syntax
exits t = effect (node kind.Call 0 (row (name (codes "exits") ∷ t ∷ [])))

abbrev pub head : List SpecWord → Spec
head words = record { words = words }

abbrev pub variable : List ℕ → Syntax
variable x = node (kind.Declaration (head (word.Int ∷ [])) (false ∷ [])) 0 (row (leaf (kind.DeclName x) ∷ []))

abbrev pub elsewhere : List ℕ → Syntax
elsewhere x = node (kind.Declaration (head (word.Extern ∷ word.Int ∷ [])) (false ∷ [])) 0 (row (leaf (kind.DeclName x) ∷ []))

abbrev pub variable_of : List ℕ → ℕ → Syntax
variable_of x n = node (kind.Declaration (head (word.Int ∷ [])) (true ∷ [])) 0 (row (leaf (kind.DeclName x) ∷ number n ∷ []))

abbrev pub main : List Syntax → Syntax
main statements =
    node (kind.Function (head (word.Void ∷ []))) 0
    (row (node (kind.Params true true) 0 (row (leaf (kind.DeclName (codes "main")) ∷ [])) ∷ node kind.Block 0 (row statements) ∷ []))

abbrev pub file : List Syntax → Source
file items = source_from (row items)

-- void main(void){ exits(0); }
abbrev pub exits_at_once : List Source
exits_at_once = file (main (exits (number 0) ∷ []) ∷ []) ∷ []

-- void main(void){}
abbrev pub returns_at_once : List Source
returns_at_once = file (main [] ∷ []) ∷ []

-- extern int y; int x; void main(void){ x = y + 1; write(1, "abcdef", x); exits(0); }
-- int y = 2;
abbrev pub adds_one : List Source
adds_one =
    file (elsewhere (codes "y") ∷ variable (codes "x")
    ∷ main (assign (codes "x") (plus (name (codes "y")) (number 1)) ∷ writes (text (codes "abcdef")) (name (codes "x")) ∷ exits (number 0) ∷ [])
    ∷ [])
    ∷ file (variable_of (codes "y") 2 ∷ []) ∷ []

-- int x = 2147483647; void main(void){ x = x + x; x = x + 5; write(1, "abcdef", x); exits("w"); }
abbrev pub wraps : List Source
wraps =
    file (variable_of (codes "x") 2147483647
    ∷ main (assign (codes "x") (plus (name (codes "x")) (name (codes "x"))) ∷ assign (codes "x") (plus (name (codes "x")) (number 5))
    ∷ writes (text (codes "abcdef")) (name (codes "x")) ∷ exits (text (codes "w")) ∷ [])
    ∷ [])
    ∷ []

-- void main(void){ write(1, "ab", 4); }
abbrev pub writes_past : List Source
writes_past = file (main (writes (text (codes "ab")) (number 4) ∷ []) ∷ []) ∷ []

-- what the runs come to, with the turns of `main` and of each system call
pub record RunsOfForm : Type 0 where
  pub exits_with_no_text : source_run exits_at_once [] 2 ≡ Ended [] []
  pub returns_with_main : source_run returns_at_once [] 1 ≡ Ended [] (codes "main")
  pub three : source_run adds_one [] 3 ≡ Ended (codes "abc") []
  pub wraps_to_three : source_run wraps [] 3 ≡ Ended (codes "abc") (codes "w")
  -- the call is node 6: the name `main`, its parentheses, the name `write`, 1, the text, 4
  pub past_the_text : source_run writes_past [] 2 ≡ Undefined [] cause.Range (record { «module» = 0; node = 6 })
  pub no_turn : source_run adds_one [] 0 ≡ Out []
  pub one_turn : source_run adds_one [] 1 ≡ Out []
  pub two_turns : source_run adds_one [] 2 ≡ Out (codes "abc")
