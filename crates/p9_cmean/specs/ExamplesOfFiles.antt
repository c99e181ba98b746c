-- Programs of several files, and first contents.
use Rattle.std.specs.Prelude.{◌≡◌, true, false, List, [], ◌∷◌, Some, None, codes}
use Rattle.p9_lang.specs.declared.tree.CBinary.TheVariants as operator
use Rattle.p9_lang.specs.declared.tree.CUnary.TheVariants as unary
use Rattle.p9_lang.specs.declared.tree.EntryBy.TheVariants as by
use Rattle.p9_lang.specs.declared.tree.SpecWord.TheVariants as word
use Rattle.p9_lang.specs.declared.tree.Kind.TheVariants as kind
use Rattle.p9_lang.specs.Trees.{Syntax}
use Rattle.p9_lang.specs.ExampleTrees.{tree, declaration, function, member, named, used, number, text, binary}
use Rattle.p9_cmean.specs.ExampleRuns.{variable, main, no_parameters, block, effect, call, assign, unary_of, if_holds, returns, element, Ends, run, agreement}

-- int x; void main(void){ if(x == 1) exits(0); exits("no"); }
-- int x;
-- int x = 1;
abbrev pub commons : List (List Syntax)
commons =
    (variable (codes "x")
    ∷ main
    (if_holds
    (binary operator.Eq (used (codes "x") ∷ number 1 ∷ []))
    (effect (call (used (codes "exits")) (number 0 ∷ [])))
    ∷ effect (call (used (codes "exits")) (text (codes "no" ∷ []) ∷ [])) ∷ []) ∷ [])
    ∷ (variable (codes "x") ∷ [])
    ∷ (declaration (word.Int ∷ []) (true ∷ []) (named (codes "x") ∷ number 1 ∷ []) ∷ []) ∷ []

-- int x; int *p = &x; int t[] = { [2] = 5, 6 }; char *q = "xyz" + 1; struct Pair { char a; int *b; } s
-- = { 7, &t[1] }; int n = 2 + 3; char w[3] = "abc"; void main(void){ *p = 2; if(x == 2 && t[0] == 0 &&
-- t[3] == 6 && sizeof t == 16 && *q == 121 && s.a == 7 && s.b[1] == 5 && n == 5 && w[2] == 99)
-- exits(0); exits("bad"); }
abbrev pub first_contents : List (List Syntax)
first_contents =
    (variable (codes "x")
    ∷ declaration
    (word.Int ∷ [])
    (true ∷ [])
    (tree (kind.Star []) (named (codes "p") ∷ [])
    ∷ unary_of unary.Address (used (codes "x")) ∷ [])
    ∷ declaration
    (word.Int ∷ [])
    (true ∷ [])
    (tree (kind.Brackets true false) (named (codes "t") ∷ [])
    ∷ tree
    (kind.InitList false)
    (tree (kind.Entry by.Index true) (number 2 ∷ number 5 ∷ [])
    ∷ tree (kind.Entry by.Nothing false) (number 6 ∷ []) ∷ []) ∷ [])
    ∷ declaration
    (word.Char ∷ [])
    (true ∷ [])
    (tree (kind.Star []) (named (codes "q") ∷ [])
    ∷ binary operator.Add (text (codes "xyz" ∷ []) ∷ number 1 ∷ []) ∷ [])
    ∷ declaration
    (word.Tag false (codes "Pair") (Some 2) ∷ [])
    (true ∷ [])
    (member (word.Char ∷ []) (named (codes "a") ∷ [])
    ∷ member (word.Int ∷ []) (tree (kind.Star []) (named (codes "b") ∷ []) ∷ [])
    ∷ named (codes "s")
    ∷ tree
    (kind.InitList false)
    (tree (kind.Entry by.Nothing false) (number 7 ∷ [])
    ∷ tree
    (kind.Entry by.Nothing false)
    (unary_of unary.Address (element (used (codes "t")) (number 1)) ∷ []) ∷ []) ∷ [])
    ∷ declaration
    (word.Int ∷ [])
    (true ∷ [])
    (named (codes "n") ∷ binary operator.Add (number 2 ∷ number 3 ∷ []) ∷ [])
    ∷ declaration
    (word.Char ∷ [])
    (true ∷ [])
    (tree (kind.Brackets true true) (named (codes "w") ∷ number 3 ∷ [])
    ∷ text (codes "abc" ∷ []) ∷ [])
    ∷ main
    (effect (assign (unary_of unary.Deref (used (codes "p"))) (number 2))
    ∷ if_holds
    (binary operator.AndAnd
    (binary operator.AndAnd
    (binary operator.AndAnd
    (binary operator.AndAnd
    (binary operator.AndAnd
    (binary operator.AndAnd
    (binary operator.AndAnd
    (binary operator.AndAnd
    (binary operator.Eq
    (used (codes "x") ∷ number 2 ∷ [])
    ∷ binary operator.Eq
    (element (used (codes "t")) (number 0)
    ∷ number 0 ∷ []) ∷ [])
    ∷ binary operator.Eq
    (element (used (codes "t")) (number 3)
    ∷ number 6 ∷ []) ∷ [])
    ∷ binary operator.Eq
    (tree kind.SizeofValue (used (codes "t") ∷ [])
    ∷ number 16 ∷ []) ∷ [])
    ∷ binary operator.Eq
    (unary_of unary.Deref (used (codes "q")) ∷ number 121 ∷ []) ∷ [])
    ∷ binary operator.Eq
    (tree (kind.Dot false (codes "a")) (used (codes "s") ∷ [])
    ∷ number 7 ∷ []) ∷ [])
    ∷ binary operator.Eq
    (element
    (tree (kind.Dot false (codes "b")) (used (codes "s") ∷ []))
    (number 1)
    ∷ number 5 ∷ []) ∷ [])
    ∷ binary operator.Eq (used (codes "n") ∷ number 5 ∷ []) ∷ [])
    ∷ binary operator.Eq (element (used (codes "w")) (number 2) ∷ number 99 ∷ []) ∷ []))
    (effect (call (used (codes "exits")) (number 0 ∷ [])))
    ∷ effect (call (used (codes "exits")) (text (codes "bad" ∷ []) ∷ [])) ∷ []) ∷ []) ∷ []

-- int x; union Word { int *p; char c[4]; } u[1] = { [0] = { .p = &x }, [0] = { .c = { [1] = 5 } } };
-- void main(void){ if(u[0].c[0] == 0 && u[0].c[1] == 5 && u[0].c[3] == 0) exits(0); exits("bad"); }
abbrev pub over_address : List (List Syntax)
over_address =
    (variable (codes "x")
    ∷ declaration
    (word.Tag true (codes "Word") (Some 2) ∷ [])
    (true ∷ [])
    (member (word.Int ∷ []) (tree (kind.Star []) (named (codes "p") ∷ []) ∷ [])
    ∷ member
    (word.Char ∷ [])
    (tree (kind.Brackets true true) (named (codes "c") ∷ number 4 ∷ []) ∷ [])
    ∷ tree (kind.Brackets true true) (named (codes "u") ∷ number 1 ∷ [])
    ∷ tree
    (kind.InitList false)
    (tree
    (kind.Entry by.Index true)
    (number 0
    ∷ tree
    (kind.InitList false)
    (tree
    (kind.Entry (by.Member (codes "p")) true)
    (unary_of unary.Address (used (codes "x")) ∷ []) ∷ []) ∷ [])
    ∷ tree
    (kind.Entry by.Index true)
    (number 0
    ∷ tree
    (kind.InitList false)
    (tree
    (kind.Entry (by.Member (codes "c")) true)
    (tree
    (kind.InitList false)
    (tree (kind.Entry by.Index true) (number 1 ∷ number 5 ∷ []) ∷ []) ∷ []) ∷ []) ∷ []) ∷ []) ∷ [])
    ∷ main
    (if_holds
    (binary operator.AndAnd
    (binary operator.AndAnd
    (binary operator.Eq
    (element
    (tree
    (kind.Dot false (codes "c"))
    (element (used (codes "u")) (number 0) ∷ []))
    (number 0)
    ∷ number 0 ∷ [])
    ∷ binary operator.Eq
    (element
    (tree
    (kind.Dot false (codes "c"))
    (element (used (codes "u")) (number 0) ∷ []))
    (number 1)
    ∷ number 5 ∷ []) ∷ [])
    ∷ binary operator.Eq
    (element
    (tree
    (kind.Dot false (codes "c"))
    (element (used (codes "u")) (number 0) ∷ []))
    (number 3)
    ∷ number 0 ∷ []) ∷ []))
    (effect (call (used (codes "exits")) (number 0 ∷ [])))
    ∷ effect (call (used (codes "exits")) (text (codes "bad" ∷ []) ∷ [])) ∷ []) ∷ []) ∷ []

-- extern char *b; char *a = "x"; void main(void){ write(1, a, 1); write(1, b, 1); write(1, "z", 1);
-- exits("end"); }
-- char *b = "y";
abbrev pub texts : List (List Syntax)
texts =
    (declaration
    (word.Extern ∷ word.Char ∷ [])
    (false ∷ [])
    (tree (kind.Star []) (named (codes "b") ∷ []) ∷ [])
    ∷ declaration
    (word.Char ∷ [])
    (true ∷ [])
    (tree (kind.Star []) (named (codes "a") ∷ []) ∷ text (codes "x" ∷ []) ∷ [])
    ∷ main
    (effect (call (used (codes "write")) (number 1 ∷ used (codes "a") ∷ number 1 ∷ []))
    ∷ effect (call (used (codes "write")) (number 1 ∷ used (codes "b") ∷ number 1 ∷ []))
    ∷ effect (call (used (codes "write")) (number 1 ∷ text (codes "z" ∷ []) ∷ number 1 ∷ []))
    ∷ effect (call (used (codes "exits")) (text (codes "end" ∷ []) ∷ [])) ∷ []) ∷ [])
    ∷ (declaration
    (word.Char ∷ [])
    (true ∷ [])
    (tree (kind.Star []) (named (codes "b") ∷ []) ∷ text (codes "y" ∷ []) ∷ []) ∷ []) ∷ []

-- extern void f(void); extern int y; long l; int two(void); void main(void){ l = 3; exits(0); }
abbrev pub declared_only : List (List Syntax)
declared_only =
    (declaration
    (word.Extern ∷ word.Void ∷ [])
    (false ∷ [])
    (no_parameters (named (codes "f")) ∷ [])
    ∷ declaration (word.Extern ∷ word.Int ∷ []) (false ∷ []) (named (codes "y") ∷ [])
    ∷ declaration (word.Long ∷ []) (false ∷ []) (named (codes "l") ∷ [])
    ∷ declaration (word.Int ∷ []) (false ∷ []) (no_parameters (named (codes "two")) ∷ [])
    ∷ main
    (effect (assign (used (codes "l")) (number 3))
    ∷ effect (call (used (codes "exits")) (number 0 ∷ [])) ∷ []) ∷ []) ∷ []

-- static int k(void){ return 3; } static int x = 1; int (*p)(void) = k; extern int f(void); void
-- main(void){ if(p() + f() + x == 8) exits(0); exits("bad"); }
-- int k; static int x; int f(void){ k = 4; x = 9; return k; }
abbrev pub own_names : List (List Syntax)
own_names =
    (function
    (word.Static ∷ word.Int ∷ [])
    (no_parameters (named (codes "k")) ∷ block (returns (number 3) ∷ []) ∷ [])
    ∷ declaration (word.Static ∷ word.Int ∷ []) (true ∷ []) (named (codes "x") ∷ number 1 ∷ [])
    ∷ declaration
    (word.Int ∷ [])
    (true ∷ [])
    (no_parameters (tree kind.DeclParens (tree (kind.Star []) (named (codes "p") ∷ []) ∷ []))
    ∷ used (codes "k") ∷ [])
    ∷ declaration (word.Extern ∷ word.Int ∷ []) (false ∷ []) (no_parameters (named (codes "f")) ∷ [])
    ∷ main
    (if_holds
    (binary operator.Eq
    (binary operator.Add
    (binary operator.Add
    (call (used (codes "p")) [] ∷ call (used (codes "f")) [] ∷ [])
    ∷ used (codes "x") ∷ [])
    ∷ number 8 ∷ []))
    (effect (call (used (codes "exits")) (number 0 ∷ [])))
    ∷ effect (call (used (codes "exits")) (text (codes "bad" ∷ []) ∷ [])) ∷ []) ∷ [])
    ∷ (variable (codes "k")
    ∷ declaration (word.Static ∷ word.Int ∷ []) (false ∷ []) (named (codes "x") ∷ [])
    ∷ function
    (word.Int ∷ [])
    (no_parameters (named (codes "f"))
    ∷ block
    (effect (assign (used (codes "k")) (number 4))
    ∷ effect (assign (used (codes "x")) (number 9))
    ∷ returns (used (codes "k")) ∷ []) ∷ []) ∷ []) ∷ []

-- struct Edge; struct Node { int v; struct Edge *e; }; struct Edge { struct Node *to; }; extern struct
-- Node *first; void main(void){ if(first == 0) exits(0); exits("set"); }
-- struct Node; struct Edge { struct Node *to; }; struct Node { int v; struct Edge *e; }; struct Node
-- *first;
abbrev pub shared_nodes : List (List Syntax)
shared_nodes =
    (declaration (word.Tag false (codes "Edge") None ∷ []) [] []
    ∷ declaration
    (word.Tag false (codes "Node") (Some 2) ∷ []) []
    (member (word.Int ∷ []) (named (codes "v") ∷ [])
    ∷ member
    (word.Tag false (codes "Edge") None ∷ [])
    (tree (kind.Star []) (named (codes "e") ∷ []) ∷ []) ∷ [])
    ∷ declaration
    (word.Tag false (codes "Edge") (Some 1) ∷ []) []
    (member
    (word.Tag false (codes "Node") None ∷ [])
    (tree (kind.Star []) (named (codes "to") ∷ []) ∷ []) ∷ [])
    ∷ declaration
    (word.Extern ∷ word.Tag false (codes "Node") None ∷ [])
    (false ∷ [])
    (tree (kind.Star []) (named (codes "first") ∷ []) ∷ [])
    ∷ main
    (if_holds
    (binary operator.Eq (used (codes "first") ∷ number 0 ∷ []))
    (effect (call (used (codes "exits")) (number 0 ∷ [])))
    ∷ effect (call (used (codes "exits")) (text (codes "set" ∷ []) ∷ [])) ∷ []) ∷ [])
    ∷ (declaration (word.Tag false (codes "Node") None ∷ []) [] []
    ∷ declaration
    (word.Tag false (codes "Edge") (Some 1) ∷ []) []
    (member
    (word.Tag false (codes "Node") None ∷ [])
    (tree (kind.Star []) (named (codes "to") ∷ []) ∷ []) ∷ [])
    ∷ declaration
    (word.Tag false (codes "Node") (Some 2) ∷ []) []
    (member (word.Int ∷ []) (named (codes "v") ∷ [])
    ∷ member
    (word.Tag false (codes "Edge") None ∷ [])
    (tree (kind.Star []) (named (codes "e") ∷ []) ∷ []) ∷ [])
    ∷ declaration
    (word.Tag false (codes "Node") None ∷ [])
    (false ∷ [])
    (tree (kind.Star []) (named (codes "first") ∷ []) ∷ []) ∷ []) ∷ []

-- with `to` renamed in the second file
abbrev pub renamed_nodes : List (List Syntax)
renamed_nodes =
    (declaration (word.Tag false (codes "Edge") None ∷ []) [] []
    ∷ declaration
    (word.Tag false (codes "Node") (Some 2) ∷ []) []
    (member (word.Int ∷ []) (named (codes "v") ∷ [])
    ∷ member
    (word.Tag false (codes "Edge") None ∷ [])
    (tree (kind.Star []) (named (codes "e") ∷ []) ∷ []) ∷ [])
    ∷ declaration
    (word.Tag false (codes "Edge") (Some 1) ∷ []) []
    (member
    (word.Tag false (codes "Node") None ∷ [])
    (tree (kind.Star []) (named (codes "to") ∷ []) ∷ []) ∷ [])
    ∷ declaration
    (word.Extern ∷ word.Tag false (codes "Node") None ∷ [])
    (false ∷ [])
    (tree (kind.Star []) (named (codes "first") ∷ []) ∷ [])
    ∷ main
    (if_holds
    (binary operator.Eq (used (codes "first") ∷ number 0 ∷ []))
    (effect (call (used (codes "exits")) (number 0 ∷ [])))
    ∷ effect (call (used (codes "exits")) (text (codes "set" ∷ []) ∷ [])) ∷ []) ∷ [])
    ∷ (declaration (word.Tag false (codes "Node") None ∷ []) [] []
    ∷ declaration
    (word.Tag false (codes "Edge") (Some 1) ∷ []) []
    (member
    (word.Tag false (codes "Node") None ∷ [])
    (tree (kind.Star []) (named (codes "dst") ∷ []) ∷ []) ∷ [])
    ∷ declaration
    (word.Tag false (codes "Node") (Some 2) ∷ []) []
    (member (word.Int ∷ []) (named (codes "v") ∷ [])
    ∷ member
    (word.Tag false (codes "Edge") None ∷ [])
    (tree (kind.Star []) (named (codes "e") ∷ []) ∷ []) ∷ [])
    ∷ declaration
    (word.Tag false (codes "Node") None ∷ [])
    (false ∷ [])
    (tree (kind.Star []) (named (codes "first") ∷ []) ∷ []) ∷ []) ∷ []

pub record RunsOfFiles : Type 0 where
  pub runs_commons : run commons [] 12 ≡ Some (Ends [] [] [])
  pub runs_first_contents : run first_contents [] 12 ≡ Some (Ends [] [] [])
  pub runs_over_address : run over_address [] 12 ≡ Some (Ends [] [] [])
  pub runs_texts : run texts [] 12 ≡ Some (Ends (codes "xyz") (codes "end") [])
  pub runs_declared_only : run declared_only [] 12 ≡ Some (Ends [] [] [])
  pub runs_own_names : run own_names [] 12 ≡ Some (Ends [] [] [])
  pub runs_shared_nodes : run shared_nodes [] 12 ≡ Some (Ends [] [] [])
  pub nodes_agree : agreement (codes "first") shared_nodes ≡ Some true
  pub renamed_nodes_disagree : agreement (codes "first") renamed_nodes ≡ Some false
