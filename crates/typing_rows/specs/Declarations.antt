-- Items of a file behind the same declarations, by the rule that is told; those of 0 break none.
use Rattle.std.specs.Prelude.{◌≡◌, true, false, List, [], ◌∷◌, Some, None, codes}
use Rattle.p9_lang.specs.declared.tree.CBinary.TheVariants as operator
use Rattle.p9_lang.specs.declared.tree.CUnary.TheVariants as unary
use Rattle.p9_lang.specs.declared.tree.EntryBy.TheVariants as by
use Rattle.p9_lang.specs.declared.tree.SpecWord.TheVariants as word
use Rattle.p9_lang.specs.declared.tree.Kind.TheVariants as kind
use Rattle.p9_lang.specs.Trees.{Syntax}
use Rattle.p9_lang.specs.ExampleTrees.{tree, leaf, declaration, function, member, parameter, named_type, named, used, number, text, binary}
use Rattle.typing_rows.specs.Words.{variable, no_parameters, block, effect, call, assign, unary_of, returns, files_told}

abbrev pub valid : List (List Syntax)
valid =
    -- extern int x;
    (declaration (word.Extern ∷ word.Int ∷ []) (false ∷ []) (named (codes "x") ∷ []) ∷ [])
    -- int y = 1; int y;
    ∷ (declaration (word.Int ∷ []) (true ∷ []) (named (codes "y") ∷ number 1 ∷ [])
    ∷ variable (codes "y") ∷ [])
    -- int y; int y;
    ∷ (variable (codes "y") ∷ variable (codes "y") ∷ [])
    -- typedef int T; typedef int T;
    ∷ (declaration (word.Typedef ∷ word.Int ∷ []) (false ∷ []) (named (codes "T") ∷ [])
    ∷ declaration (word.Typedef ∷ word.Int ∷ []) (false ∷ []) (named (codes "T") ∷ []) ∷ [])
    -- struct Q { int a; struct { int a; }; };
    ∷ (declaration (word.Tag false (codes "Q") (Some 2) ∷ []) []
    (member (word.Int ∷ []) (named (codes "a") ∷ [])
    ∷ member (word.Tag false (codes "") (Some 1) ∷ [])
    (member (word.Int ∷ []) (named (codes "a") ∷ []) ∷ []) ∷ []) ∷ [])
    -- struct Q { struct Q *q; };
    ∷ (declaration (word.Tag false (codes "Q") (Some 1) ∷ []) []
    (member (word.Tag false (codes "Q") None ∷ [])
    (tree (kind.Star []) (named (codes "q") ∷ []) ∷ []) ∷ []) ∷ [])
    -- int y[] = { 1 };
    ∷ (declaration (word.Int ∷ []) (true ∷ [])
    (tree (kind.Brackets true false) (named (codes "y") ∷ [])
    ∷ tree (kind.InitList false) (tree (kind.Entry by.Nothing false) (number 1 ∷ []) ∷ []) ∷ []) ∷ [])
    -- int y[][3] = { { 1 } };
    ∷ (declaration (word.Int ∷ []) (true ∷ []) (tree (kind.Brackets true true)
    (tree (kind.Brackets true false) (named (codes "y") ∷ []) ∷ number 3 ∷ [])
    ∷ tree (kind.InitList false) (tree (kind.Entry by.Nothing false)
    (tree (kind.InitList false) (tree (kind.Entry by.Nothing false) (number 1 ∷ []) ∷ []) ∷ []) ∷ []) ∷ []) ∷ [])
    -- char y[] = "abc";
    ∷ (declaration (word.Char ∷ []) (true ∷ [])
    (tree (kind.Brackets true false) (named (codes "y") ∷ []) ∷ text (codes "abc" ∷ []) ∷ []) ∷ [])
    -- int h(int y[]);
    ∷ (declaration (word.Int ∷ []) (false ∷ []) (tree (kind.Params true false) (named (codes "h")
    ∷ parameter (word.Int ∷ []) (tree (kind.Brackets true false) (named (codes "y") ∷ []) ∷ []) ∷ []) ∷ []) ∷ [])
    -- int h(int y[][3]);
    ∷ (declaration (word.Int ∷ []) (false ∷ []) (tree (kind.Params true false) (named (codes "h")
    ∷ parameter (word.Int ∷ []) (tree (kind.Brackets true true)
    (tree (kind.Brackets true false) (named (codes "y") ∷ []) ∷ number 3 ∷ []) ∷ []) ∷ []) ∷ []) ∷ [])
    -- int h(int, int);
    ∷ (declaration (word.Int ∷ []) (false ∷ []) (tree (kind.Params true false)
    (named (codes "h") ∷ parameter (word.Int ∷ []) [] ∷ parameter (word.Int ∷ []) [] ∷ []) ∷ []) ∷ [])
    -- typedef int H(void); H h;
    ∷ (declaration (word.Typedef ∷ word.Int ∷ []) (false ∷ []) (no_parameters (named (codes "H")) ∷ [])
    ∷ declaration (word.TypeName (codes "H") ∷ []) (false ∷ []) (named (codes "h") ∷ []) ∷ [])
    -- char y[16777216];
    ∷ (declaration (word.Char ∷ []) (false ∷ [])
    (tree (kind.Brackets true true) (named (codes "y") ∷ number 16777216 ∷ []) ∷ []) ∷ [])
    -- int y[sizeof(int)];
    ∷ (declaration (word.Int ∷ []) (false ∷ []) (tree (kind.Brackets true true)
    (named (codes "y") ∷ tree kind.SizeofType (named_type (word.Int ∷ []) [] ∷ []) ∷ []) ∷ []) ∷ [])
    -- enum { A = 4, B }; int y[B];
    ∷ (declaration (word.Enum [] (Some 2) false ∷ []) []
    (tree (kind.EnumConst (codes "A") true) (number 4 ∷ [])
    ∷ tree (kind.EnumConst (codes "B") false) [] ∷ [])
    ∷ declaration (word.Int ∷ []) (false ∷ [])
    (tree (kind.Brackets true true) (named (codes "y") ∷ used (codes "B") ∷ []) ∷ []) ∷ [])
    -- void g(void){ typedef int H(void); }
    ∷ (function (word.Void ∷ []) (no_parameters (named (codes "g"))
    ∷ block
    (declaration (word.Typedef ∷ word.Int ∷ []) (false ∷ []) (no_parameters (named (codes "H")) ∷ []) ∷ []) ∷ []) ∷ [])
    -- void g(void){ int y; { int y; } }
    ∷ (function (word.Void ∷ []) (no_parameters (named (codes "g"))
    ∷ block (variable (codes "y") ∷ block (variable (codes "y") ∷ []) ∷ []) ∷ []) ∷ [])
    -- void g(int y){ int y; }
    ∷ (function (word.Void ∷ []) (tree (kind.Params true false)
    (named (codes "g") ∷ parameter (word.Int ∷ []) (named (codes "y") ∷ []) ∷ [])
    ∷ block (variable (codes "y") ∷ []) ∷ []) ∷ [])
    -- void g(void){ int y = y; }
    ∷ (function (word.Void ∷ []) (no_parameters (named (codes "g"))
    ∷ block (declaration (word.Int ∷ []) (true ∷ []) (named (codes "y") ∷ used (codes "y") ∷ []) ∷ []) ∷ []) ∷ [])
    -- int y = sizeof y;
    ∷ (declaration (word.Int ∷ []) (true ∷ [])
    (named (codes "y") ∷ tree kind.SizeofValue (used (codes "y") ∷ []) ∷ []) ∷ [])
    -- struct S y = { 1 };
    ∷ (declaration (word.Tag false (codes "S") None ∷ []) (true ∷ []) (named (codes "y")
    ∷ tree (kind.InitList false) (tree (kind.Entry by.Nothing false) (number 1 ∷ []) ∷ []) ∷ []) ∷ [])
    -- struct S y = { 1, 2 };
    ∷ (declaration (word.Tag false (codes "S") None ∷ []) (true ∷ []) (named (codes "y")
    ∷ tree (kind.InitList false) (tree (kind.Entry by.Nothing false) (number 1 ∷ [])
    ∷ tree (kind.Entry by.Nothing false) (number 2 ∷ []) ∷ []) ∷ []) ∷ [])
    -- struct S y = { .a = 1 };
    ∷ (declaration (word.Tag false (codes "S") None ∷ []) (true ∷ []) (named (codes "y")
    ∷ tree (kind.InitList false) (tree (kind.Entry (by.Member (codes "a")) true) (number 1 ∷ []) ∷ []) ∷ []) ∷ [])
    -- char y[2][4] = { "abc", "de" };
    ∷ (declaration (word.Char ∷ []) (true ∷ []) (tree (kind.Brackets true true)
    (tree (kind.Brackets true true) (named (codes "y") ∷ number 2 ∷ []) ∷ number 4 ∷ [])
    ∷ tree (kind.InitList false) (tree (kind.Entry by.Nothing false) (text (codes "abc" ∷ []) ∷ [])
    ∷ tree (kind.Entry by.Nothing false) (text (codes "de" ∷ []) ∷ []) ∷ []) ∷ []) ∷ [])
    -- unsigned char y[4] = "abc";
    ∷ (declaration (word.Unsigned ∷ word.Char ∷ []) (true ∷ [])
    (tree (kind.Brackets true true) (named (codes "y") ∷ number 4 ∷ [])
    ∷ text (codes "abc" ∷ []) ∷ []) ∷ [])
    -- char *y = "abc";
    ∷ (declaration (word.Char ∷ []) (true ∷ [])
    (tree (kind.Star []) (named (codes "y") ∷ []) ∷ text (codes "abc" ∷ []) ∷ []) ∷ [])
    -- int *y = &x;
    ∷ (declaration (word.Int ∷ []) (true ∷ [])
    (tree (kind.Star []) (named (codes "y") ∷ []) ∷ unary_of unary.Address (used (codes "x")) ∷ []) ∷ [])
    -- union { int i; char c; } y = { .c = 1 };
    ∷ (declaration (word.Tag true (codes "") (Some 2) ∷ []) (true ∷ [])
    (member (word.Int ∷ []) (named (codes "i") ∷ [])
    ∷ member (word.Char ∷ []) (named (codes "c") ∷ [])
    ∷ named (codes "y")
    ∷ tree (kind.InitList false) (tree (kind.Entry (by.Member (codes "c")) true) (number 1 ∷ []) ∷ []) ∷ []) ∷ [])
    -- int y[] = { [2] = 1, 2 };
    ∷ (declaration (word.Int ∷ []) (true ∷ [])
    (tree (kind.Brackets true false) (named (codes "y") ∷ [])
    ∷ tree (kind.InitList false) (tree (kind.Entry by.Index true) (number 2 ∷ number 1 ∷ [])
    ∷ tree (kind.Entry by.Nothing false) (number 2 ∷ []) ∷ []) ∷ []) ∷ [])
    -- static int h(void); void g(void){ h(); } static int h(void){ return 1; }
    ∷ (declaration (word.Static ∷ word.Int ∷ []) (false ∷ []) (no_parameters (named (codes "h")) ∷ [])
    ∷ function (word.Void ∷ [])
    (no_parameters (named (codes "g")) ∷ block (effect (call (used (codes "h")) []) ∷ []) ∷ [])
    ∷ function (word.Static ∷ word.Int ∷ [])
    (no_parameters (named (codes "h")) ∷ block (returns (number 1) ∷ []) ∷ []) ∷ [])
    -- struct A { int k; }; struct B { int n; struct A; } b; struct A *y; void g(void){ y = &b;
    -- b.k = 1; }
    ∷ (declaration (word.Tag false (codes "A") (Some 1) ∷ []) []
    (member (word.Int ∷ []) (named (codes "k") ∷ []) ∷ [])
    ∷ declaration (word.Tag false (codes "B") (Some 2) ∷ []) (false ∷ [])
    (member (word.Int ∷ []) (named (codes "n") ∷ [])
    ∷ member (word.Tag false (codes "A") None ∷ []) []
    ∷ named (codes "b") ∷ [])
    ∷ declaration (word.Tag false (codes "A") None ∷ []) (false ∷ [])
    (tree (kind.Star []) (named (codes "y") ∷ []) ∷ [])
    ∷ function (word.Void ∷ []) (no_parameters (named (codes "g"))
    ∷ block (effect (assign (used (codes "y")) (unary_of unary.Address (used (codes "b"))))
    ∷ effect (assign (tree (kind.Dot false (codes "k")) (used (codes "b") ∷ [])) (number 1)) ∷ []) ∷ []) ∷ [])
    -- struct A { int k; }; struct C { struct A; struct A; } y;
    ∷ (declaration (word.Tag false (codes "A") (Some 1) ∷ []) []
    (member (word.Int ∷ []) (named (codes "k") ∷ []) ∷ [])
    ∷ declaration (word.Tag false (codes "C") (Some 2) ∷ []) (false ∷ [])
    (member (word.Tag false (codes "A") None ∷ []) []
    ∷ member (word.Tag false (codes "A") None ∷ []) []
    ∷ named (codes "y") ∷ []) ∷ [])
    -- int h(void){ return c; }
    ∷ (function (word.Int ∷ [])
    (no_parameters (named (codes "h")) ∷ block (returns (used (codes "c")) ∷ []) ∷ []) ∷ [])
    -- struct S *y; void g(void){ struct S { char z; } q; q.z = 1; }
    ∷ (declaration (word.Tag false (codes "S") None ∷ []) (false ∷ [])
    (tree (kind.Star []) (named (codes "y") ∷ []) ∷ [])
    ∷ function (word.Void ∷ []) (no_parameters (named (codes "g"))
    ∷ block (declaration (word.Tag false (codes "S") (Some 1) ∷ []) (false ∷ [])
    (member (word.Char ∷ []) (named (codes "z") ∷ []) ∷ named (codes "q") ∷ [])
    ∷ effect (assign (tree (kind.Dot false (codes "z")) (used (codes "q") ∷ [])) (number 1)) ∷ []) ∷ []) ∷ [])
    -- void g(void){ static int y = x; }
    ∷ (function (word.Void ∷ []) (no_parameters (named (codes "g"))
    ∷ block (declaration (word.Static ∷ word.Int ∷ []) (true ∷ [])
    (named (codes "y") ∷ used (codes "x") ∷ []) ∷ []) ∷ []) ∷ [])
    -- int h(int); int h(int y){ return y; }
    ∷ (declaration (word.Int ∷ []) (false ∷ [])
    (tree (kind.Params true false) (named (codes "h") ∷ parameter (word.Int ∷ []) [] ∷ []) ∷ [])
    ∷ function (word.Int ∷ []) (tree (kind.Params true false)
    (named (codes "h") ∷ parameter (word.Int ∷ []) (named (codes "y") ∷ []) ∷ [])
    ∷ block (returns (used (codes "y")) ∷ []) ∷ []) ∷ [])
    -- int h(int y[3]); int h(int*);
    ∷ (declaration (word.Int ∷ []) (false ∷ []) (tree (kind.Params true false) (named (codes "h")
    ∷ parameter (word.Int ∷ [])
    (tree (kind.Brackets true true) (named (codes "y") ∷ number 3 ∷ []) ∷ []) ∷ []) ∷ [])
    ∷ declaration (word.Int ∷ []) (false ∷ []) (tree (kind.Params true false)
    (named (codes "h") ∷ parameter (word.Int ∷ []) (leaf (kind.Star []) ∷ []) ∷ []) ∷ []) ∷ [])
    -- void g(void){ struct S *y; y = &s; }
    ∷ (function (word.Void ∷ []) (no_parameters (named (codes "g"))
    ∷ block (declaration (word.Tag false (codes "S") None ∷ []) (false ∷ [])
    (tree (kind.Star []) (named (codes "y") ∷ []) ∷ [])
    ∷ effect (assign (used (codes "y")) (unary_of unary.Address (used (codes "s")))) ∷ []) ∷ []) ∷ [])
    -- int y[3]; extern int y[3];
    ∷ (declaration (word.Int ∷ []) (false ∷ [])
    (tree (kind.Brackets true true) (named (codes "y") ∷ number 3 ∷ []) ∷ [])
    ∷ declaration (word.Extern ∷ word.Int ∷ []) (false ∷ [])
    (tree (kind.Brackets true true) (named (codes "y") ∷ number 3 ∷ []) ∷ []) ∷ [])
    -- enum E { A }; enum E y;
    ∷ (declaration (word.Enum (codes "E") (Some 1) false ∷ []) []
    (tree (kind.EnumConst (codes "A") false) [] ∷ [])
    ∷ declaration (word.Enum (codes "E") None false ∷ []) (false ∷ []) (named (codes "y") ∷ []) ∷ [])
    -- int h(char y[4]); void g(void){ h("abc"); }
    ∷ (declaration (word.Int ∷ []) (false ∷ []) (tree (kind.Params true false) (named (codes "h")
    ∷ parameter (word.Char ∷ [])
    (tree (kind.Brackets true true) (named (codes "y") ∷ number 4 ∷ []) ∷ []) ∷ []) ∷ [])
    ∷ function (word.Void ∷ []) (no_parameters (named (codes "g"))
    ∷ block (effect (call (used (codes "h")) (text (codes "abc" ∷ []) ∷ [])) ∷ []) ∷ []) ∷ [])
    ∷ []

abbrev pub incomplete : List (List Syntax)
incomplete =
    -- struct Q { struct Q q; };
    (declaration (word.Tag false (codes "Q") (Some 1) ∷ []) []
    (member (word.Tag false (codes "Q") None ∷ []) (named (codes "q") ∷ []) ∷ []) ∷ [])
    -- struct Q { void v; };
    ∷ (declaration (word.Tag false (codes "Q") (Some 1) ∷ []) []
    (member (word.Void ∷ []) (named (codes "v") ∷ []) ∷ []) ∷ [])
    -- struct Q { int f(void); };
    ∷ (declaration (word.Tag false (codes "Q") (Some 1) ∷ []) []
    (member (word.Int ∷ []) (no_parameters (named (codes "f")) ∷ []) ∷ []) ∷ [])
    -- struct Q { struct O; };
    ∷ (declaration (word.Tag false (codes "Q") (Some 1) ∷ []) []
    (member (word.Tag false (codes "O") None ∷ []) [] ∷ []) ∷ [])
    -- void y;
    ∷ (declaration (word.Void ∷ []) (false ∷ []) (named (codes "y") ∷ []) ∷ [])
    -- extern struct O y;
    ∷ (declaration (word.Extern ∷ word.Tag false (codes "O") None ∷ []) (false ∷ [])
    (named (codes "y") ∷ []) ∷ [])
    -- struct O y;
    ∷ (declaration (word.Tag false (codes "O") None ∷ []) (false ∷ []) (named (codes "y") ∷ []) ∷ [])
    -- struct O y[3];
    ∷ (declaration (word.Tag false (codes "O") None ∷ []) (false ∷ [])
    (tree (kind.Brackets true true) (named (codes "y") ∷ number 3 ∷ []) ∷ []) ∷ [])
    -- int y[3], z[sizeof(struct O)];
    ∷ (declaration (word.Int ∷ []) (false ∷ false ∷ [])
    (tree (kind.Brackets true true) (named (codes "y") ∷ number 3 ∷ [])
    ∷ tree (kind.Brackets true true) (named (codes "z")
    ∷ tree kind.SizeofType (named_type (word.Tag false (codes "O") None ∷ []) [] ∷ []) ∷ []) ∷ []) ∷ [])
    ∷ []

abbrev pub ambiguous : List (List Syntax)
ambiguous =
    -- struct A { int k; }; struct C { struct A; struct A; } y; void g(void){ y.k = 1; }
    (declaration (word.Tag false (codes "A") (Some 1) ∷ []) []
    (member (word.Int ∷ []) (named (codes "k") ∷ []) ∷ [])
    ∷ declaration (word.Tag false (codes "C") (Some 2) ∷ []) (false ∷ [])
    (member (word.Tag false (codes "A") None ∷ []) []
    ∷ member (word.Tag false (codes "A") None ∷ []) []
    ∷ named (codes "y") ∷ [])
    ∷ function (word.Void ∷ []) (no_parameters (named (codes "g"))
    ∷ block
    (effect (assign (tree (kind.Dot false (codes "k")) (used (codes "y") ∷ [])) (number 1)) ∷ []) ∷ []) ∷ [])
    -- struct A { int k; }; struct C { struct A; struct A; } y; struct A *q; void g(void){ q =
    -- &y; }
    ∷ (declaration (word.Tag false (codes "A") (Some 1) ∷ []) []
    (member (word.Int ∷ []) (named (codes "k") ∷ []) ∷ [])
    ∷ declaration (word.Tag false (codes "C") (Some 2) ∷ []) (false ∷ [])
    (member (word.Tag false (codes "A") None ∷ []) []
    ∷ member (word.Tag false (codes "A") None ∷ []) []
    ∷ named (codes "y") ∷ [])
    ∷ declaration (word.Tag false (codes "A") None ∷ []) (false ∷ [])
    (tree (kind.Star []) (named (codes "q") ∷ []) ∷ [])
    ∷ function (word.Void ∷ []) (no_parameters (named (codes "g"))
    ∷ block (effect (assign (used (codes "q")) (unary_of unary.Address (used (codes "y")))) ∷ []) ∷ []) ∷ [])
    ∷ []

abbrev pub undeclared : List (List Syntax)
undeclared =
    -- static int h(void); void g(void){ h(); }
    (declaration (word.Static ∷ word.Int ∷ []) (false ∷ []) (no_parameters (named (codes "h")) ∷ [])
    ∷ function (word.Void ∷ [])
    (no_parameters (named (codes "g")) ∷ block (effect (call (used (codes "h")) []) ∷ []) ∷ []) ∷ [])
    -- int y = z;
    ∷ (declaration (word.Int ∷ []) (true ∷ []) (named (codes "y") ∷ used (codes "z") ∷ []) ∷ [])
    -- int y[sizeof z];
    ∷ (declaration (word.Int ∷ []) (false ∷ []) (tree (kind.Brackets true true)
    (named (codes "y") ∷ tree kind.SizeofValue (used (codes "z") ∷ []) ∷ []) ∷ []) ∷ [])
    ∷ []

abbrev pub redeclared : List (List Syntax)
redeclared =
    -- int y = 1; int y = 2;
    (declaration (word.Int ∷ []) (true ∷ []) (named (codes "y") ∷ number 1 ∷ [])
    ∷ declaration (word.Int ∷ []) (true ∷ []) (named (codes "y") ∷ number 2 ∷ []) ∷ [])
    -- typedef int T; typedef char T;
    ∷ (declaration (word.Typedef ∷ word.Int ∷ []) (false ∷ []) (named (codes "T") ∷ [])
    ∷ declaration (word.Typedef ∷ word.Char ∷ []) (false ∷ []) (named (codes "T") ∷ []) ∷ [])
    -- typedef int T; int T;
    ∷ (declaration (word.Typedef ∷ word.Int ∷ []) (false ∷ []) (named (codes "T") ∷ [])
    ∷ variable (codes "T") ∷ [])
    -- struct S { int b; };
    ∷ (declaration (word.Tag false (codes "S") (Some 1) ∷ []) []
    (member (word.Int ∷ []) (named (codes "b") ∷ []) ∷ []) ∷ [])
    -- union S;
    ∷ (declaration (word.Tag true (codes "S") None ∷ []) [] [] ∷ [])
    -- struct Q { int a; int a; };
    ∷ (declaration (word.Tag false (codes "Q") (Some 2) ∷ []) []
    (member (word.Int ∷ []) (named (codes "a") ∷ [])
    ∷ member (word.Int ∷ []) (named (codes "a") ∷ []) ∷ []) ∷ [])
    -- int h(int y, int y);
    ∷ (declaration (word.Int ∷ []) (false ∷ []) (tree (kind.Params true false) (named (codes "h")
    ∷ parameter (word.Int ∷ []) (named (codes "y") ∷ [])
    ∷ parameter (word.Int ∷ []) (named (codes "y") ∷ []) ∷ []) ∷ []) ∷ [])
    -- enum { A, A };
    ∷ (declaration (word.Enum [] (Some 2) false ∷ []) []
    (tree (kind.EnumConst (codes "A") false) [] ∷ tree (kind.EnumConst (codes "A") false) [] ∷ []) ∷ [])
    -- int A; enum { A };
    ∷ (variable (codes "A")
    ∷ declaration (word.Enum [] (Some 1) false ∷ []) []
    (tree (kind.EnumConst (codes "A") false) [] ∷ []) ∷ [])
    -- void g(void){ int y; int y; }
    ∷ (function (word.Void ∷ []) (no_parameters (named (codes "g"))
    ∷ block (variable (codes "y") ∷ variable (codes "y") ∷ []) ∷ []) ∷ [])
    -- int h(void){ return 1; } int h(void){ return 2; }
    ∷ (function (word.Int ∷ [])
    (no_parameters (named (codes "h")) ∷ block (returns (number 1) ∷ []) ∷ [])
    ∷ function (word.Int ∷ [])
    (no_parameters (named (codes "h")) ∷ block (returns (number 2) ∷ []) ∷ []) ∷ [])
    -- int x(void);
    ∷ (declaration (word.Int ∷ []) (false ∷ []) (no_parameters (named (codes "x")) ∷ []) ∷ [])
    -- extern char x;
    ∷ (declaration (word.Extern ∷ word.Char ∷ []) (false ∷ []) (named (codes "x") ∷ []) ∷ [])
    -- static int x;
    ∷ (declaration (word.Static ∷ word.Int ∷ []) (false ∷ []) (named (codes "x") ∷ []) ∷ [])
    -- enum S { A };
    ∷ (declaration (word.Enum (codes "S") (Some 1) false ∷ []) []
    (tree (kind.EnumConst (codes "A") false) [] ∷ []) ∷ [])
    -- int y[3]; extern int y[4];
    ∷ (declaration (word.Int ∷ []) (false ∷ [])
    (tree (kind.Brackets true true) (named (codes "y") ∷ number 3 ∷ []) ∷ [])
    ∷ declaration (word.Extern ∷ word.Int ∷ []) (false ∷ [])
    (tree (kind.Brackets true true) (named (codes "y") ∷ number 4 ∷ []) ∷ []) ∷ [])
    ∷ []

abbrev pub no_lvalues : List (List Syntax)
no_lvalues =
    -- void g(void){ int y[2] = 5; }
    (function (word.Void ∷ []) (no_parameters (named (codes "g"))
    ∷ block (declaration (word.Int ∷ []) (true ∷ [])
    (tree (kind.Brackets true true) (named (codes "y") ∷ number 2 ∷ []) ∷ number 5 ∷ []) ∷ []) ∷ []) ∷ [])
    ∷ []

abbrev pub bad_operands : List (List Syntax)
bad_operands =
    -- struct Q { int; };
    (declaration (word.Tag false (codes "Q") (Some 1) ∷ []) [] (member (word.Int ∷ []) [] ∷ []) ∷ [])
    -- int h(void y);
    ∷ (declaration (word.Int ∷ []) (false ∷ []) (tree (kind.Params true false)
    (named (codes "h") ∷ parameter (word.Void ∷ []) (named (codes "y") ∷ []) ∷ []) ∷ []) ∷ [])
    -- int h(struct S y);
    ∷ (declaration (word.Int ∷ []) (false ∷ []) (tree (kind.Params true false) (named (codes "h")
    ∷ parameter (word.Tag false (codes "S") None ∷ []) (named (codes "y") ∷ []) ∷ []) ∷ []) ∷ [])
    -- int h(void)[3];
    ∷ (declaration (word.Int ∷ []) (false ∷ [])
    (tree (kind.Brackets true true) (no_parameters (named (codes "h")) ∷ number 3 ∷ []) ∷ []) ∷ [])
    -- struct S h(void);
    ∷ (declaration (word.Tag false (codes "S") None ∷ []) (false ∷ [])
    (no_parameters (named (codes "h")) ∷ []) ∷ [])
    -- int h(void)(void);
    ∷ (declaration (word.Int ∷ []) (false ∷ [])
    (no_parameters (no_parameters (named (codes "h"))) ∷ []) ∷ [])
    -- int h(void) = 0;
    ∷ (declaration (word.Int ∷ []) (true ∷ []) (no_parameters (named (codes "h")) ∷ number 0 ∷ []) ∷ [])
    -- typedef int T = 1;
    ∷ (declaration (word.Typedef ∷ word.Int ∷ []) (true ∷ []) (named (codes "T") ∷ number 1 ∷ []) ∷ [])
    -- int y = { 1 };
    ∷ (declaration (word.Int ∷ []) (true ∷ []) (named (codes "y")
    ∷ tree (kind.InitList false) (tree (kind.Entry by.Nothing false) (number 1 ∷ []) ∷ []) ∷ []) ∷ [])
    -- int y[2] = { { 1 } };
    ∷ (declaration (word.Int ∷ []) (true ∷ [])
    (tree (kind.Brackets true true) (named (codes "y") ∷ number 2 ∷ [])
    ∷ tree (kind.InitList false) (tree (kind.Entry by.Nothing false)
    (tree (kind.InitList false) (tree (kind.Entry by.Nothing false) (number 1 ∷ []) ∷ []) ∷ []) ∷ []) ∷ []) ∷ [])
    -- int y[2][2] = { 1 };
    ∷ (declaration (word.Int ∷ []) (true ∷ []) (tree (kind.Brackets true true)
    (tree (kind.Brackets true true) (named (codes "y") ∷ number 2 ∷ []) ∷ number 2 ∷ [])
    ∷ tree (kind.InitList false) (tree (kind.Entry by.Nothing false) (number 1 ∷ []) ∷ []) ∷ []) ∷ [])
    -- struct S y = 1;
    ∷ (declaration (word.Tag false (codes "S") None ∷ []) (true ∷ [])
    (named (codes "y") ∷ number 1 ∷ []) ∷ [])
    -- struct S y = s;
    ∷ (declaration (word.Tag false (codes "S") None ∷ []) (true ∷ [])
    (named (codes "y") ∷ used (codes "s") ∷ []) ∷ [])
    -- struct S y = { [0] = 1 };
    ∷ (declaration (word.Tag false (codes "S") None ∷ []) (true ∷ []) (named (codes "y")
    ∷ tree (kind.InitList false) (tree (kind.Entry by.Index true) (number 0 ∷ number 1 ∷ []) ∷ []) ∷ []) ∷ [])
    -- int y[2] = { .a = 1 };
    ∷ (declaration (word.Int ∷ []) (true ∷ [])
    (tree (kind.Brackets true true) (named (codes "y") ∷ number 2 ∷ [])
    ∷ tree (kind.InitList false) (tree (kind.Entry (by.Member (codes "a")) true) (number 1 ∷ []) ∷ []) ∷ []) ∷ [])
    -- int y[3] = "abc";
    ∷ (declaration (word.Int ∷ []) (true ∷ [])
    (tree (kind.Brackets true true) (named (codes "y") ∷ number 3 ∷ [])
    ∷ text (codes "abc" ∷ []) ∷ []) ∷ [])
    -- void g(void){ int y = { 1 }; }
    ∷ (function (word.Void ∷ []) (no_parameters (named (codes "g"))
    ∷ block (declaration (word.Int ∷ []) (true ∷ []) (named (codes "y")
    ∷ tree (kind.InitList false) (tree (kind.Entry by.Nothing false) (number 1 ∷ []) ∷ []) ∷ []) ∷ []) ∷ []) ∷ [])
    -- int z = { 1 };
    ∷ (declaration (word.Int ∷ []) (true ∷ []) (named (codes "z")
    ∷ tree (kind.InitList false) (tree (kind.Entry by.Nothing false) (number 1 ∷ []) ∷ []) ∷ []) ∷ [])
    -- int u[2] = 5;
    ∷ (declaration (word.Int ∷ []) (true ∷ [])
    (tree (kind.Brackets true true) (named (codes "u") ∷ number 2 ∷ []) ∷ number 5 ∷ []) ∷ [])
    -- struct S w = { [0] = 1 };
    ∷ (declaration (word.Tag false (codes "S") None ∷ []) (true ∷ []) (named (codes "w")
    ∷ tree (kind.InitList false) (tree (kind.Entry by.Index true) (number 0 ∷ number 1 ∷ []) ∷ []) ∷ []) ∷ [])
    ∷ []

abbrev pub bad_assignments : List (List Syntax)
bad_assignments =
    -- char y[4] = { "abc" };
    (declaration (word.Char ∷ []) (true ∷ [])
    (tree (kind.Brackets true true) (named (codes "y") ∷ number 4 ∷ [])
    ∷ tree (kind.InitList false)
    (tree (kind.Entry by.Nothing false) (text (codes "abc" ∷ []) ∷ []) ∷ []) ∷ []) ∷ [])
    -- int *y = &c;
    ∷ (declaration (word.Int ∷ []) (true ∷ [])
    (tree (kind.Star []) (named (codes "y") ∷ []) ∷ unary_of unary.Address (used (codes "c")) ∷ []) ∷ [])
    -- int h(void){ return p; }
    ∷ (function (word.Int ∷ [])
    (no_parameters (named (codes "h")) ∷ block (returns (used (codes "p")) ∷ []) ∷ []) ∷ [])
    -- int *y = 5;
    ∷ (declaration (word.Int ∷ []) (true ∷ [])
    (tree (kind.Star []) (named (codes "y") ∷ []) ∷ number 5 ∷ []) ∷ [])
    -- int g(void){ return p; }
    ∷ (function (word.Int ∷ [])
    (no_parameters (named (codes "g")) ∷ block (returns (used (codes "p")) ∷ []) ∷ []) ∷ [])
    -- int *u[1] = { 5 };
    ∷ (declaration (word.Int ∷ []) (true ∷ [])
    (tree (kind.Star []) (tree (kind.Brackets true true) (named (codes "u") ∷ number 1 ∷ []) ∷ [])
    ∷ tree (kind.InitList false) (tree (kind.Entry by.Nothing false) (number 5 ∷ []) ∷ []) ∷ []) ∷ [])
    ∷ []

abbrev pub no_functions : List (List Syntax)
no_functions =
    -- int (*h)(void){ }
    (function (word.Int ∷ [])
    (no_parameters (tree kind.DeclParens (tree (kind.Star []) (named (codes "h") ∷ []) ∷ []))
    ∷ block [] ∷ []) ∷ [])
    -- typedef int h(void){ }
    ∷ (function (word.Typedef ∷ word.Int ∷ []) (no_parameters (named (codes "h")) ∷ block [] ∷ []) ∷ [])
    ∷ []

abbrev pub no_members : List (List Syntax)
no_members =
    -- struct S y = { .b = 1 };
    (declaration (word.Tag false (codes "S") None ∷ []) (true ∷ []) (named (codes "y")
    ∷ tree (kind.InitList false) (tree (kind.Entry (by.Member (codes "b")) true) (number 1 ∷ []) ∷ []) ∷ []) ∷ [])
    -- struct S w = { .b = 1 };
    ∷ (declaration (word.Tag false (codes "S") None ∷ []) (true ∷ []) (named (codes "w")
    ∷ tree (kind.InitList false) (tree (kind.Entry (by.Member (codes "b")) true) (number 1 ∷ []) ∷ []) ∷ []) ∷ [])
    ∷ []

abbrev pub bad_constants : List (List Syntax)
bad_constants =
    -- extern int y[];
    (declaration (word.Extern ∷ word.Int ∷ []) (false ∷ [])
    (tree (kind.Brackets true false) (named (codes "y") ∷ []) ∷ []) ∷ [])
    -- int y[];
    ∷ (declaration (word.Int ∷ []) (false ∷ [])
    (tree (kind.Brackets true false) (named (codes "y") ∷ []) ∷ []) ∷ [])
    -- int y[3][];
    ∷ (declaration (word.Int ∷ []) (false ∷ []) (tree (kind.Brackets true false)
    (tree (kind.Brackets true true) (named (codes "y") ∷ number 3 ∷ []) ∷ []) ∷ []) ∷ [])
    -- int h(int y[3][]);
    ∷ (declaration (word.Int ∷ []) (false ∷ []) (tree (kind.Params true false) (named (codes "h")
    ∷ parameter (word.Int ∷ []) (tree (kind.Brackets true false)
    (tree (kind.Brackets true true) (named (codes "y") ∷ number 3 ∷ []) ∷ []) ∷ []) ∷ []) ∷ []) ∷ [])
    -- int y[1/0];
    ∷ (declaration (word.Int ∷ []) (false ∷ []) (tree (kind.Brackets true true)
    (named (codes "y") ∷ binary operator.Div (number 1 ∷ number 0 ∷ []) ∷ []) ∷ []) ∷ [])
    -- int y[-1];
    ∷ (declaration (word.Int ∷ []) (false ∷ [])
    (tree (kind.Brackets true true) (named (codes "y") ∷ unary_of unary.Minus (number 1) ∷ []) ∷ []) ∷ [])
    -- char y[16777217];
    ∷ (declaration (word.Char ∷ []) (false ∷ [])
    (tree (kind.Brackets true true) (named (codes "y") ∷ number 16777217 ∷ []) ∷ []) ∷ [])
    -- int y[x];
    ∷ (declaration (word.Int ∷ []) (false ∷ [])
    (tree (kind.Brackets true true) (named (codes "y") ∷ used (codes "x") ∷ []) ∷ []) ∷ [])
    -- enum { A = x };
    ∷ (declaration (word.Enum [] (Some 1) false ∷ []) []
    (tree (kind.EnumConst (codes "A") true) (used (codes "x") ∷ []) ∷ []) ∷ [])
    -- int y[] = 5;
    ∷ (declaration (word.Int ∷ []) (true ∷ [])
    (tree (kind.Brackets true false) (named (codes "y") ∷ []) ∷ number 5 ∷ []) ∷ [])
    -- int y[0];
    ∷ (declaration (word.Int ∷ []) (false ∷ [])
    (tree (kind.Brackets true true) (named (codes "y") ∷ number 0 ∷ []) ∷ []) ∷ [])
    -- struct Q { char z[16777216]; char w; };
    ∷ (declaration (word.Tag false (codes "Q") (Some 2) ∷ []) [] (member (word.Char ∷ [])
    (tree (kind.Brackets true true) (named (codes "z") ∷ number 16777216 ∷ []) ∷ [])
    ∷ member (word.Char ∷ []) (named (codes "w") ∷ []) ∷ []) ∷ [])
    -- int y[0 && 1];
    ∷ (declaration (word.Int ∷ []) (false ∷ []) (tree (kind.Brackets true true)
    (named (codes "y") ∷ binary operator.AndAnd (number 0 ∷ number 1 ∷ []) ∷ []) ∷ []) ∷ [])
    -- int y[1 << 32];
    ∷ (declaration (word.Int ∷ []) (false ∷ []) (tree (kind.Brackets true true)
    (named (codes "y") ∷ binary operator.Shl (number 1 ∷ number 32 ∷ []) ∷ []) ∷ []) ∷ [])
    -- int y[f(1)];
    ∷ (declaration (word.Int ∷ []) (false ∷ []) (tree (kind.Brackets true true)
    (named (codes "y") ∷ call (used (codes "f")) (number 1 ∷ []) ∷ []) ∷ []) ∷ [])
    -- int u[2] = { [x] = 1 };
    ∷ (declaration (word.Int ∷ []) (true ∷ [])
    (tree (kind.Brackets true true) (named (codes "u") ∷ number 2 ∷ [])
    ∷ tree (kind.InitList false)
    (tree (kind.Entry by.Index true) (used (codes "x") ∷ number 1 ∷ []) ∷ []) ∷ []) ∷ [])
    ∷ []

abbrev pub bad_returns : List (List Syntax)
bad_returns =
    -- int h(void){ return; }
    (function (word.Int ∷ [])
    (no_parameters (named (codes "h")) ∷ block (leaf kind.Return ∷ []) ∷ []) ∷ [])
    ∷ []

abbrev pub misplaced : List (List Syntax)
misplaced =
    -- void g(void){ extern int y; }
    (function (word.Void ∷ []) (no_parameters (named (codes "g"))
    ∷ block (declaration (word.Extern ∷ word.Int ∷ []) (false ∷ []) (named (codes "y") ∷ []) ∷ []) ∷ []) ∷ [])
    -- void g(void){ int h(void); }
    ∷ (function (word.Void ∷ []) (no_parameters (named (codes "g"))
    ∷ block (declaration (word.Int ∷ []) (false ∷ []) (no_parameters (named (codes "h")) ∷ []) ∷ []) ∷ []) ∷ [])
    ∷ []

abbrev pub too_many_items : List (List Syntax)
too_many_items =
    -- int u[] = { [16777216] = 1 };
    (declaration (word.Int ∷ []) (true ∷ [])
    (tree (kind.Brackets true false) (named (codes "u") ∷ [])
    ∷ tree (kind.InitList false)
    (tree (kind.Entry by.Index true) (number 16777216 ∷ number 1 ∷ []) ∷ []) ∷ []) ∷ [])
    ∷ []

pub record RowsOfDeclarations : Type 0 where
  pub valid_told : files_told 0 valid ≡ true
  pub incomplete_told : files_told 13 incomplete ≡ true
  pub ambiguous_told : files_told 14 ambiguous ≡ true
  pub undeclared_told : files_told 15 undeclared ≡ true
  pub redeclared_told : files_told 16 redeclared ≡ true
  pub no_lvalues_told : files_told 17 no_lvalues ≡ true
  pub bad_operands_told : files_told 18 bad_operands ≡ true
  pub bad_assignments_told : files_told 19 bad_assignments ≡ true
  pub no_functions_told : files_told 20 no_functions ≡ true
  pub no_members_told : files_told 22 no_members ≡ true
  pub bad_constants_told : files_told 24 bad_constants ≡ true
  pub bad_returns_told : files_told 25 bad_returns ≡ true
  pub misplaced_told : files_told 26 misplaced ≡ true
  pub too_many_items_told : files_told 28 too_many_items ≡ true
