-- Files that join, and files that don't.
use Rattle.std.specs.Prelude.{◌≡◌, Bool, true, false, List, [], ◌∷◌, Option, Some, codes}
use Rattle.p9_lang.specs.declared.tree.SpecWord.TheVariants as word
use Rattle.p9_lang.specs.declared.tree.Kind.TheVariants as kind
use Rattle.p9_lang.specs.Trees.{Syntax}
use Rattle.p9_lang.specs.ExampleTrees.{tree, declaration, function, parameter, named, used, number}
use Rattle.p9_lang.specs.Layout.{on_some}
use Rattle.p9_cmean.specs.JoinTests.{joins}
use Rattle.p9_cmean.specs.ExampleRuns.{variable, main, no_parameters, block, effect, call, assign, returns, modules_of}
use Rattle.p9_cmean.specs.ExamplesOfCalls.{arguments}
use Rattle.p9_cmean.specs.ExamplesOfFiles.{commons, texts, declared_only, own_names, shared_nodes, renamed_nodes}

-- whether files join, unless one of them breaks a rule by itself
unfoldable pub joining : List (List Syntax) → Option Bool
joining files = on_some (modules_of files) (λ modules. Some (joins modules))

-- int x = 1; void main(void){ }
-- int x = 2;
abbrev pub defined_twice : List (List Syntax)
defined_twice =
    (declaration (word.Int ∷ []) (true ∷ []) (named (codes "x") ∷ number 1 ∷ []) ∷ main ([]) ∷ [])
    ∷ (declaration (word.Int ∷ []) (true ∷ []) (named (codes "x") ∷ number 2 ∷ []) ∷ []) ∷ []

-- void f(void){ } void main(void){ }
-- void f(void){ }
abbrev pub bodies_twice : List (List Syntax)
bodies_twice =
    (function (word.Void ∷ []) (no_parameters (named (codes "f")) ∷ block ([]) ∷ []) ∷ main ([]) ∷ [])
    ∷ (function (word.Void ∷ []) (no_parameters (named (codes "f")) ∷ block ([]) ∷ []) ∷ []) ∷ []

-- extern int x; void f(void); void main(void){ f(); x = 1; }
-- int x; void f(void){ }
abbrev pub declared_elsewhere : List (List Syntax)
declared_elsewhere =
    (declaration (word.Extern ∷ word.Int ∷ []) (false ∷ []) (named (codes "x") ∷ [])
    ∷ declaration (word.Void ∷ []) (false ∷ []) (no_parameters (named (codes "f")) ∷ [])
    ∷ main
    (effect (call (used (codes "f")) ([])) ∷ effect (assign (used (codes "x")) (number 1)) ∷ []) ∷ [])
    ∷ (variable (codes "x")
    ∷ function (word.Void ∷ []) (no_parameters (named (codes "f")) ∷ block ([]) ∷ []) ∷ []) ∷ []

-- extern int y; void main(void){ y = 1; }
abbrev pub not_defined : List (List Syntax)
not_defined =
    (declaration (word.Extern ∷ word.Int ∷ []) (false ∷ []) (named (codes "y") ∷ [])
    ∷ main (effect (assign (used (codes "y")) (number 1)) ∷ []) ∷ []) ∷ []

-- int x; void main(void){ }
-- extern long x;
abbrev pub other_type : List (List Syntax)
other_type =
    (variable (codes "x") ∷ main ([]) ∷ [])
    ∷ (declaration (word.Extern ∷ word.Long ∷ []) (false ∷ []) (named (codes "x") ∷ []) ∷ []) ∷ []

-- int x;
abbrev pub no_main : List (List Syntax)
no_main = (variable (codes "x") ∷ []) ∷ []

-- int main = 1;
abbrev pub main_as_data : List (List Syntax)
main_as_data =
    (declaration (word.Int ∷ []) (true ∷ []) (named (codes "main") ∷ number 1 ∷ []) ∷ []) ∷ []

-- int main(void){ return 0; }
abbrev pub main_with_result : List (List Syntax)
main_with_result =
    (function (word.Int ∷ [])
    (no_parameters (named (codes "main")) ∷ block (returns (number 0) ∷ []) ∷ []) ∷ []) ∷ []

-- void exits(char *text){ } void main(void){ }
abbrev pub own_exits : List (List Syntax)
own_exits =
    (function (word.Void ∷ []) (tree (kind.Params true false) (named (codes "exits")
    ∷ parameter (word.Char ∷ []) (tree (kind.Star []) (named (codes "text") ∷ []) ∷ []) ∷ [])
    ∷ block ([]) ∷ [])
    ∷ main ([]) ∷ []) ∷ []

pub record JoiningFiles : Type 0 where
  pub joins_commons : joining commons ≡ Some true
  pub joins_texts : joining texts ≡ Some true
  pub joins_declared_only : joining declared_only ≡ Some true
  pub joins_own_names : joining own_names ≡ Some true
  pub joins_shared_nodes : joining shared_nodes ≡ Some true
  pub joins_renamed_nodes : joining renamed_nodes ≡ Some false
  pub joins_arguments : joining arguments ≡ Some true
  pub joins_defined_twice : joining defined_twice ≡ Some false
  pub joins_bodies_twice : joining bodies_twice ≡ Some false
  pub joins_declared_elsewhere : joining declared_elsewhere ≡ Some true
  pub joins_not_defined : joining not_defined ≡ Some false
  pub joins_other_type : joining other_type ≡ Some false
  pub joins_no_main : joining no_main ≡ Some false
  pub joins_main_as_data : joining main_as_data ≡ Some false
  pub joins_main_with_result : joining main_with_result ≡ Some false
  pub joins_own_exits : joining own_exits ≡ Some false
