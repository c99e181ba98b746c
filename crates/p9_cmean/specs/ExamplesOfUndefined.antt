-- Programs that come to an undefined operation, each in the second of two files, behind a write of the
-- first. The number is that of the operation's node.
use Rattle.std.specs.Prelude.{◌≡◌, true, false, List, [], ◌∷◌, Some, None, codes}
use Rattle.p9_lang.specs.declared.tree.CBinary.TheVariants as operator
use Rattle.p9_lang.specs.declared.tree.CUnary.TheVariants as unary
use Rattle.p9_lang.specs.declared.tree.SpecWord.TheVariants as word
use Rattle.p9_lang.specs.declared.tree.Kind.TheVariants as kind
use Rattle.p9_lang.specs.Trees.{Syntax}
use Rattle.p9_lang.specs.ExampleTrees.{tree, leaf, declaration, function, member, parameter, named_type, named, used, number, text, binary}
use Rattle.p9_cmean.specs.declared.Cause.TheVariants as cause
use Rattle.p9_cmean.specs.ExampleRuns.{variable, main, no_parameters, block, effect, call, assign, unary_of, if_holds, returns, element, parens, IsUndefined, run}

-- extern void f(void); void main(void){ write(1, "a", 1); f(); }
abbrev pub caller : List Syntax
caller =
    declaration
    (word.Extern ∷ word.Void ∷ [])
    (false ∷ [])
    (no_parameters (named (codes "f")) ∷ [])
    ∷ main
    (effect (call (used (codes "write")) (number 1 ∷ text (codes "a" ∷ []) ∷ number 1 ∷ []))
    ∷ effect (call (used (codes "f")) []) ∷ []) ∷ []

-- void f(void){ int v[3]; int x; v[0] = 1; x = v[1]; }
abbrev pub unset : List (List Syntax)
unset =
    caller ∷ (function
    (word.Void ∷ [])
    (no_parameters (named (codes "f"))
    ∷ block
    (declaration
    (word.Int ∷ [])
    (false ∷ [])
    (tree (kind.Brackets true true) (named (codes "v") ∷ number 3 ∷ []) ∷ [])
    ∷ variable (codes "x")
    ∷ effect (assign (element (used (codes "v")) (number 0)) (number 1))
    ∷ effect (assign (used (codes "x")) (element (used (codes "v")) (number 1))) ∷ []) ∷ []) ∷ []) ∷ []

-- int x; int *p; void f(void){ p = &x; x = *(int*)&p; }
abbrev pub mixed : List (List Syntax)
mixed =
    caller ∷ (variable (codes "x")
    ∷ declaration (word.Int ∷ []) (false ∷ []) (tree (kind.Star []) (named (codes "p") ∷ []) ∷ [])
    ∷ function
    (word.Void ∷ [])
    (no_parameters (named (codes "f"))
    ∷ block
    (effect (assign (used (codes "p")) (unary_of unary.Address (used (codes "x"))))
    ∷ effect
    (assign
    (used (codes "x"))
    (unary_of unary.Deref
    (tree kind.Cast
    (named_type (word.Int ∷ []) (leaf (kind.Star []) ∷ [])
    ∷ unary_of unary.Address (used (codes "p")) ∷ [])))) ∷ []) ∷ []) ∷ []) ∷ []

-- int x; int *p; void f(void){ x = 5; p = *(int**)&x; }
abbrev pub mixed_pointer : List (List Syntax)
mixed_pointer =
    caller ∷ (variable (codes "x")
    ∷ declaration (word.Int ∷ []) (false ∷ []) (tree (kind.Star []) (named (codes "p") ∷ []) ∷ [])
    ∷ function
    (word.Void ∷ [])
    (no_parameters (named (codes "f"))
    ∷ block
    (effect (assign (used (codes "x")) (number 5))
    ∷ effect
    (assign
    (used (codes "p"))
    (unary_of unary.Deref
    (tree kind.Cast
    (named_type
    (word.Int ∷ [])
    (tree (kind.Star []) (leaf (kind.Star []) ∷ []) ∷ [])
    ∷ unary_of unary.Address (used (codes "x")) ∷ [])))) ∷ []) ∷ []) ∷ []) ∷ []

-- int x; struct Pair { int *a; int *b; } n, m; void f(void){ n.a = &x; m = n; ((char*)&n)[0] = 0; m =
-- n; m.b = m.a; }
abbrev pub mixed_cells : List (List Syntax)
mixed_cells =
    caller ∷ (variable (codes "x")
    ∷ declaration
    (word.Tag false (codes "Pair") (Some 2) ∷ [])
    (false ∷ false ∷ [])
    (member (word.Int ∷ []) (tree (kind.Star []) (named (codes "a") ∷ []) ∷ [])
    ∷ member (word.Int ∷ []) (tree (kind.Star []) (named (codes "b") ∷ []) ∷ [])
    ∷ named (codes "n")
    ∷ named (codes "m") ∷ [])
    ∷ function
    (word.Void ∷ [])
    (no_parameters (named (codes "f"))
    ∷ block
    (effect
    (assign
    (tree (kind.Dot false (codes "a")) (used (codes "n") ∷ []))
    (unary_of unary.Address (used (codes "x"))))
    ∷ effect (assign (used (codes "m")) (used (codes "n")))
    ∷ effect
    (assign
    (element
    (parens
    (tree kind.Cast
    (named_type (word.Char ∷ []) (leaf (kind.Star []) ∷ [])
    ∷ unary_of unary.Address (used (codes "n")) ∷ [])))
    (number 0))
    (number 0))
    ∷ effect (assign (used (codes "m")) (used (codes "n")))
    ∷ effect
    (assign
    (tree (kind.Dot false (codes "b")) (used (codes "m") ∷ []))
    (tree (kind.Dot false (codes "a")) (used (codes "m") ∷ []))) ∷ []) ∷ []) ∷ []) ∷ []

-- int a[4]; void f(void){ int *p; p = a + 4; p = a + 5; }
abbrev pub range : List (List Syntax)
range =
    caller ∷ (declaration
    (word.Int ∷ [])
    (false ∷ [])
    (tree (kind.Brackets true true) (named (codes "a") ∷ number 4 ∷ []) ∷ [])
    ∷ function
    (word.Void ∷ [])
    (no_parameters (named (codes "f"))
    ∷ block
    (declaration
    (word.Int ∷ [])
    (false ∷ [])
    (tree (kind.Star []) (named (codes "p") ∷ []) ∷ [])
    ∷ effect
    (assign (used (codes "p")) (binary operator.Add (used (codes "a") ∷ number 4 ∷ [])))
    ∷ effect
    (assign (used (codes "p")) (binary operator.Add (used (codes "a") ∷ number 5 ∷ []))) ∷ []) ∷ []) ∷ []) ∷ []

-- int a[4]; void f(void){ int *p; p = a + 4; *p = 1; }
abbrev pub range_access : List (List Syntax)
range_access =
    caller ∷ (declaration
    (word.Int ∷ [])
    (false ∷ [])
    (tree (kind.Brackets true true) (named (codes "a") ∷ number 4 ∷ []) ∷ [])
    ∷ function
    (word.Void ∷ [])
    (no_parameters (named (codes "f"))
    ∷ block
    (declaration
    (word.Int ∷ [])
    (false ∷ [])
    (tree (kind.Star []) (named (codes "p") ∷ []) ∷ [])
    ∷ effect
    (assign (used (codes "p")) (binary operator.Add (used (codes "a") ∷ number 4 ∷ [])))
    ∷ effect (assign (unary_of unary.Deref (used (codes "p"))) (number 1)) ∷ []) ∷ []) ∷ []) ∷ []

-- int a[4]; int *p = a - 1; void f(void){ int *q; q = p; q = p + 1; }
abbrev pub range_initialised : List (List Syntax)
range_initialised =
    caller ∷ (declaration
    (word.Int ∷ [])
    (false ∷ [])
    (tree (kind.Brackets true true) (named (codes "a") ∷ number 4 ∷ []) ∷ [])
    ∷ declaration
    (word.Int ∷ [])
    (true ∷ [])
    (tree (kind.Star []) (named (codes "p") ∷ [])
    ∷ binary operator.Sub (used (codes "a") ∷ number 1 ∷ []) ∷ [])
    ∷ function
    (word.Void ∷ [])
    (no_parameters (named (codes "f"))
    ∷ block
    (declaration
    (word.Int ∷ [])
    (false ∷ [])
    (tree (kind.Star []) (named (codes "q") ∷ []) ∷ [])
    ∷ effect (assign (used (codes "q")) (used (codes "p")))
    ∷ effect
    (assign (used (codes "q")) (binary operator.Add (used (codes "p") ∷ number 1 ∷ []))) ∷ []) ∷ []) ∷ []) ∷ []

-- void f(void){ write(1, "abc", 5); }
abbrev pub range_written : List (List Syntax)
range_written =
    caller ∷ (function
    (word.Void ∷ [])
    (no_parameters (named (codes "f"))
    ∷ block
    (effect
    (call (used (codes "write")) (number 1 ∷ text (codes "abc" ∷ []) ∷ number 5 ∷ [])) ∷ []) ∷ []) ∷ []) ∷ []

-- char c[8]; void f(void){ read(0, c, 9); }
abbrev pub range_read : List (List Syntax)
range_read =
    caller ∷ (declaration
    (word.Char ∷ [])
    (false ∷ [])
    (tree (kind.Brackets true true) (named (codes "c") ∷ number 8 ∷ []) ∷ [])
    ∷ function
    (word.Void ∷ [])
    (no_parameters (named (codes "f"))
    ∷ block
    (effect (call (used (codes "read")) (number 0 ∷ used (codes "c") ∷ number 9 ∷ [])) ∷ []) ∷ []) ∷ []) ∷ []

-- int *g(void){ int v; v = 1; return &v; } void f(void){ int *p; p = g(); *p = 2; }
abbrev pub dead : List (List Syntax)
dead =
    caller ∷ (function
    (word.Int ∷ [])
    (tree (kind.Star []) (no_parameters (named (codes "g")) ∷ [])
    ∷ block
    (variable (codes "v")
    ∷ effect (assign (used (codes "v")) (number 1))
    ∷ returns (unary_of unary.Address (used (codes "v"))) ∷ []) ∷ [])
    ∷ function
    (word.Void ∷ [])
    (no_parameters (named (codes "f"))
    ∷ block
    (declaration
    (word.Int ∷ [])
    (false ∷ [])
    (tree (kind.Star []) (named (codes "p") ∷ []) ∷ [])
    ∷ effect (assign (used (codes "p")) (call (used (codes "g")) []))
    ∷ effect (assign (unary_of unary.Deref (used (codes "p"))) (number 2)) ∷ []) ∷ []) ∷ []) ∷ []

-- int *p; void f(void){ { int v; p = &v; } p = p + 0; }
abbrev pub dead_used : List (List Syntax)
dead_used =
    caller ∷ (declaration (word.Int ∷ []) (false ∷ []) (tree (kind.Star []) (named (codes "p") ∷ []) ∷ [])
    ∷ function
    (word.Void ∷ [])
    (no_parameters (named (codes "f"))
    ∷ block
    (block
    (variable (codes "v")
    ∷ effect (assign (used (codes "p")) (unary_of unary.Address (used (codes "v")))) ∷ [])
    ∷ effect
    (assign (used (codes "p")) (binary operator.Add (used (codes "p") ∷ number 0 ∷ []))) ∷ []) ∷ []) ∷ []) ∷ []

-- int *p; void f(void){ *p = 1; }
abbrev pub null : List (List Syntax)
null =
    caller ∷ (declaration (word.Int ∷ []) (false ∷ []) (tree (kind.Star []) (named (codes "p") ∷ []) ∷ [])
    ∷ function
    (word.Void ∷ [])
    (no_parameters (named (codes "f"))
    ∷ block (effect (assign (unary_of unary.Deref (used (codes "p"))) (number 1)) ∷ []) ∷ []) ∷ []) ∷ []

-- struct Pair { int a; char b; } *s; void f(void){ char *c; c = &s->b; }
abbrev pub null_member : List (List Syntax)
null_member =
    caller ∷ (declaration
    (word.Tag false (codes "Pair") (Some 2) ∷ [])
    (false ∷ [])
    (member (word.Int ∷ []) (named (codes "a") ∷ [])
    ∷ member (word.Char ∷ []) (named (codes "b") ∷ [])
    ∷ tree (kind.Star []) (named (codes "s") ∷ []) ∷ [])
    ∷ function
    (word.Void ∷ [])
    (no_parameters (named (codes "f"))
    ∷ block
    (declaration
    (word.Char ∷ [])
    (false ∷ [])
    (tree (kind.Star []) (named (codes "c") ∷ []) ∷ [])
    ∷ effect
    (assign
    (used (codes "c"))
    (unary_of unary.Address
    (tree (kind.Dot true (codes "b")) (used (codes "s") ∷ [])))) ∷ []) ∷ []) ∷ []) ∷ []

-- void (*h)(void); void f(void){ h(); }
abbrev pub null_call : List (List Syntax)
null_call =
    caller ∷ (declaration
    (word.Void ∷ [])
    (false ∷ [])
    (no_parameters (tree kind.DeclParens (tree (kind.Star []) (named (codes "h") ∷ []) ∷ [])) ∷ [])
    ∷ function
    (word.Void ∷ [])
    (no_parameters (named (codes "f")) ∷ block (effect (call (used (codes "h")) []) ∷ []) ∷ []) ∷ []) ∷ []

-- char c[8]; void f(void){ *(int*)(c + 1) = 1; }
abbrev pub misaligned : List (List Syntax)
misaligned =
    caller ∷ (declaration
    (word.Char ∷ [])
    (false ∷ [])
    (tree (kind.Brackets true true) (named (codes "c") ∷ number 8 ∷ []) ∷ [])
    ∷ function
    (word.Void ∷ [])
    (no_parameters (named (codes "f"))
    ∷ block
    (effect
    (assign
    (unary_of unary.Deref
    (tree kind.Cast
    (named_type (word.Int ∷ []) (leaf (kind.Star []) ∷ [])
    ∷ parens (binary operator.Add (used (codes "c") ∷ number 1 ∷ [])) ∷ [])))
    (number 1)) ∷ []) ∷ []) ∷ []) ∷ []

-- int z; void f(void){ z = 1 / z; }
abbrev pub divide : List (List Syntax)
divide =
    caller ∷ (variable (codes "z")
    ∷ function
    (word.Void ∷ [])
    (no_parameters (named (codes "f"))
    ∷ block
    (effect
    (assign (used (codes "z")) (binary operator.Div (number 1 ∷ used (codes "z") ∷ []))) ∷ []) ∷ []) ∷ []) ∷ []

-- int a, b; void f(void){ a = -2147483647 - 1; b = -1; a = a % b; }
abbrev pub divide_least : List (List Syntax)
divide_least =
    caller ∷ (declaration (word.Int ∷ []) (false ∷ false ∷ []) (named (codes "a") ∷ named (codes "b") ∷ [])
    ∷ function
    (word.Void ∷ [])
    (no_parameters (named (codes "f"))
    ∷ block
    (effect
    (assign
    (used (codes "a"))
    (binary operator.Sub (unary_of unary.Minus (number 2147483647) ∷ number 1 ∷ [])))
    ∷ effect (assign (used (codes "b")) (unary_of unary.Minus (number 1)))
    ∷ effect
    (assign
    (used (codes "a"))
    (binary operator.Rem (used (codes "a") ∷ used (codes "b") ∷ []))) ∷ []) ∷ []) ∷ []) ∷ []

-- int x; void f(void){ x = 32; x = 1 << x; }
abbrev pub shift : List (List Syntax)
shift =
    caller ∷ (variable (codes "x")
    ∷ function
    (word.Void ∷ [])
    (no_parameters (named (codes "f"))
    ∷ block
    (effect (assign (used (codes "x")) (number 32))
    ∷ effect
    (assign (used (codes "x")) (binary operator.Shl (number 1 ∷ used (codes "x") ∷ []))) ∷ []) ∷ []) ∷ []) ∷ []

-- int a[2], b[2]; int x; void f(void){ x = a < b; }
abbrev pub compare : List (List Syntax)
compare =
    caller ∷ (declaration
    (word.Int ∷ [])
    (false ∷ false ∷ [])
    (tree (kind.Brackets true true) (named (codes "a") ∷ number 2 ∷ [])
    ∷ tree (kind.Brackets true true) (named (codes "b") ∷ number 2 ∷ []) ∷ [])
    ∷ variable (codes "x")
    ∷ function
    (word.Void ∷ [])
    (no_parameters (named (codes "f"))
    ∷ block
    (effect
    (assign
    (used (codes "x"))
    (binary operator.Lt (used (codes "a") ∷ used (codes "b") ∷ []))) ∷ []) ∷ []) ∷ []) ∷ []

-- int a[2], b[2]; int x; void f(void){ x = a + 2 == b; }
abbrev pub compare_end : List (List Syntax)
compare_end =
    caller ∷ (declaration
    (word.Int ∷ [])
    (false ∷ false ∷ [])
    (tree (kind.Brackets true true) (named (codes "a") ∷ number 2 ∷ [])
    ∷ tree (kind.Brackets true true) (named (codes "b") ∷ number 2 ∷ []) ∷ [])
    ∷ variable (codes "x")
    ∷ function
    (word.Void ∷ [])
    (no_parameters (named (codes "f"))
    ∷ block
    (effect
    (assign
    (used (codes "x"))
    (binary operator.Eq
    (binary operator.Add (used (codes "a") ∷ number 2 ∷ [])
    ∷ used (codes "b") ∷ []))) ∷ []) ∷ []) ∷ []) ∷ []

-- int a[2]; int x; void f(void){ x = (int*)((char*)a + 1) - a; }
abbrev pub compare_elements : List (List Syntax)
compare_elements =
    caller ∷ (declaration
    (word.Int ∷ [])
    (false ∷ [])
    (tree (kind.Brackets true true) (named (codes "a") ∷ number 2 ∷ []) ∷ [])
    ∷ variable (codes "x")
    ∷ function
    (word.Void ∷ [])
    (no_parameters (named (codes "f"))
    ∷ block
    (effect
    (assign
    (used (codes "x"))
    (binary operator.Sub
    (tree kind.Cast
    (named_type (word.Int ∷ []) (leaf (kind.Star []) ∷ [])
    ∷ parens
    (binary operator.Add
    (tree kind.Cast
    (named_type (word.Char ∷ []) (leaf (kind.Star []) ∷ [])
    ∷ used (codes "a") ∷ [])
    ∷ number 1 ∷ [])) ∷ [])
    ∷ used (codes "a") ∷ []))) ∷ []) ∷ []) ∷ []) ∷ []

-- int g(int v){ return v; } void f(void){ int (*w)(char); w = (int (*)(char))g; w(1); }
abbrev pub wrong_call : List (List Syntax)
wrong_call =
    caller ∷ (function
    (word.Int ∷ [])
    (tree
    (kind.Params true false)
    (named (codes "g") ∷ parameter (word.Int ∷ []) (named (codes "v") ∷ []) ∷ [])
    ∷ block (returns (used (codes "v")) ∷ []) ∷ [])
    ∷ function
    (word.Void ∷ [])
    (no_parameters (named (codes "f"))
    ∷ block
    (declaration
    (word.Int ∷ [])
    (false ∷ [])
    (tree
    (kind.Params true false)
    (tree kind.DeclParens (tree (kind.Star []) (named (codes "w") ∷ []) ∷ [])
    ∷ parameter (word.Char ∷ []) [] ∷ []) ∷ [])
    ∷ effect
    (assign
    (used (codes "w"))
    (tree kind.Cast
    (named_type
    (word.Int ∷ [])
    (tree
    (kind.Params true false)
    (tree kind.DeclParens (leaf (kind.Star []) ∷ [])
    ∷ parameter (word.Char ∷ []) [] ∷ []) ∷ [])
    ∷ used (codes "g") ∷ [])))
    ∷ effect (call (used (codes "w")) (number 1 ∷ [])) ∷ []) ∷ []) ∷ []) ∷ []

-- int x; void (*h)(void); int *p; void f(void){ p = &x; h = *(void (**)(void))&p; h(); }
abbrev pub wrong_object : List (List Syntax)
wrong_object =
    caller ∷ (variable (codes "x")
    ∷ declaration
    (word.Void ∷ [])
    (false ∷ [])
    (no_parameters (tree kind.DeclParens (tree (kind.Star []) (named (codes "h") ∷ []) ∷ [])) ∷ [])
    ∷ declaration (word.Int ∷ []) (false ∷ []) (tree (kind.Star []) (named (codes "p") ∷ []) ∷ [])
    ∷ function
    (word.Void ∷ [])
    (no_parameters (named (codes "f"))
    ∷ block
    (effect (assign (used (codes "p")) (unary_of unary.Address (used (codes "x"))))
    ∷ effect
    (assign
    (used (codes "h"))
    (unary_of unary.Deref
    (tree kind.Cast
    (named_type
    (word.Void ∷ [])
    (no_parameters
    (tree kind.DeclParens
    (tree (kind.Star []) (leaf (kind.Star []) ∷ []) ∷ [])) ∷ [])
    ∷ unary_of unary.Address (used (codes "p")) ∷ []))))
    ∷ effect (call (used (codes "h")) []) ∷ []) ∷ []) ∷ []) ∷ []

-- int g(int v){ if(v) return 1; } void f(void){ int x; g(0); x = g(1); x = g(0); }
abbrev pub no_value : List (List Syntax)
no_value =
    caller ∷ (function
    (word.Int ∷ [])
    (tree
    (kind.Params true false)
    (named (codes "g") ∷ parameter (word.Int ∷ []) (named (codes "v") ∷ []) ∷ [])
    ∷ block (if_holds (used (codes "v")) (returns (number 1)) ∷ []) ∷ [])
    ∷ function
    (word.Void ∷ [])
    (no_parameters (named (codes "f"))
    ∷ block
    (variable (codes "x")
    ∷ effect (call (used (codes "g")) (number 0 ∷ []))
    ∷ effect (assign (used (codes "x")) (call (used (codes "g")) (number 1 ∷ [])))
    ∷ effect (assign (used (codes "x")) (call (used (codes "g")) (number 0 ∷ []))) ∷ []) ∷ []) ∷ []) ∷ []

-- struct Pair { int a; int b; }; int c[3]; void f(void){ struct Pair *p; struct Pair *q; p = (struct
-- Pair*)c; q = (struct Pair*)(c + 1); *p = *p; *q = *p; }
abbrev pub overlap : List (List Syntax)
overlap =
    caller ∷ (declaration
    (word.Tag false (codes "Pair") (Some 2) ∷ []) []
    (member (word.Int ∷ []) (named (codes "a") ∷ [])
    ∷ member (word.Int ∷ []) (named (codes "b") ∷ []) ∷ [])
    ∷ declaration
    (word.Int ∷ [])
    (false ∷ [])
    (tree (kind.Brackets true true) (named (codes "c") ∷ number 3 ∷ []) ∷ [])
    ∷ function
    (word.Void ∷ [])
    (no_parameters (named (codes "f"))
    ∷ block
    (declaration
    (word.Tag false (codes "Pair") None ∷ [])
    (false ∷ [])
    (tree (kind.Star []) (named (codes "p") ∷ []) ∷ [])
    ∷ declaration
    (word.Tag false (codes "Pair") None ∷ [])
    (false ∷ [])
    (tree (kind.Star []) (named (codes "q") ∷ []) ∷ [])
    ∷ effect
    (assign
    (used (codes "p"))
    (tree kind.Cast
    (named_type
    (word.Tag false (codes "Pair") None ∷ [])
    (leaf (kind.Star []) ∷ [])
    ∷ used (codes "c") ∷ [])))
    ∷ effect
    (assign
    (used (codes "q"))
    (tree kind.Cast
    (named_type
    (word.Tag false (codes "Pair") None ∷ [])
    (leaf (kind.Star []) ∷ [])
    ∷ parens (binary operator.Add (used (codes "c") ∷ number 1 ∷ [])) ∷ [])))
    ∷ effect
    (assign
    (unary_of unary.Deref (used (codes "p")))
    (unary_of unary.Deref (used (codes "p"))))
    ∷ effect
    (assign
    (unary_of unary.Deref (used (codes "q")))
    (unary_of unary.Deref (used (codes "p")))) ∷ []) ∷ []) ∷ []) ∷ []

-- void f(void){ char v[2]; v[0] = 65; exits(v); }
abbrev pub unset_before_end : List (List Syntax)
unset_before_end =
    caller ∷ (function
    (word.Void ∷ [])
    (no_parameters (named (codes "f"))
    ∷ block
    (declaration
    (word.Char ∷ [])
    (false ∷ [])
    (tree (kind.Brackets true true) (named (codes "v") ∷ number 2 ∷ []) ∷ [])
    ∷ effect (assign (element (used (codes "v")) (number 0)) (number 65))
    ∷ effect (call (used (codes "exits")) (used (codes "v") ∷ [])) ∷ []) ∷ []) ∷ []) ∷ []

-- void f(void){ char v[2]; write(1, v, 3); }
abbrev pub range_before_unset : List (List Syntax)
range_before_unset =
    caller ∷ (function
    (word.Void ∷ [])
    (no_parameters (named (codes "f"))
    ∷ block
    (declaration
    (word.Char ∷ [])
    (false ∷ [])
    (tree (kind.Brackets true true) (named (codes "v") ∷ number 2 ∷ []) ∷ [])
    ∷ effect (call (used (codes "write")) (number 1 ∷ used (codes "v") ∷ number 3 ∷ [])) ∷ []) ∷ []) ∷ []) ∷ []

pub record RunsOfUndefined : Type 0 where
  pub runs_unset : run unset [] 12 ≡ Some (IsUndefined (codes "a") cause.Unset 1 17)
  pub runs_mixed : run mixed [] 12 ≡ Some (IsUndefined (codes "a") cause.Mixed 1 18)
  pub runs_mixed_pointer : run mixed_pointer [] 12 ≡ Some (IsUndefined (codes "a") cause.Mixed 1 18)
  pub runs_mixed_cells : run mixed_cells [] 12 ≡ Some (IsUndefined (codes "a") cause.Mixed 1 41)
  pub runs_range : run range [] 12 ≡ Some (IsUndefined (codes "a") cause.Range 1 18)
  pub runs_range_access : run range_access [] 12 ≡ Some (IsUndefined (codes "a") cause.Range 1 18)
  pub runs_range_initialised : run range_initialised [] 12 ≡ Some (IsUndefined (codes "a") cause.Range 1 22)
  pub runs_range_written : run range_written [] 12 ≡ Some (IsUndefined (codes "a") cause.Range 1 6)
  pub runs_range_read : run range_read [] 12 ≡ Some (IsUndefined (codes "a") cause.Range 1 10)
  pub runs_dead : run dead [] 12 ≡ Some (IsUndefined (codes "a") cause.Dead 1 27)
  pub runs_dead_used : run dead_used [] 12 ≡ Some (IsUndefined (codes "a") cause.Dead 1 16)
  pub runs_null : run null [] 12 ≡ Some (IsUndefined (codes "a") cause.Null 1 8)
  pub runs_null_member : run null_member [] 12 ≡ Some (IsUndefined (codes "a") cause.Null 1 14)
  pub runs_null_call : run null_call [] 12 ≡ Some (IsUndefined (codes "a") cause.Null 1 8)
  pub runs_misaligned : run misaligned [] 12 ≡ Some (IsUndefined (codes "a") cause.Misaligned 1 15)
  pub runs_divide : run divide [] 12 ≡ Some (IsUndefined (codes "a") cause.Divide 1 7)
  pub runs_divide_least : run divide_least [] 12 ≡ Some (IsUndefined (codes "a") cause.Divide 1 20)
  pub runs_shift : run shift [] 12 ≡ Some (IsUndefined (codes "a") cause.Shift 1 11)
  pub runs_compare : run compare [] 12 ≡ Some (IsUndefined (codes "a") cause.Compare 1 14)
  pub runs_compare_end : run compare_end [] 12 ≡ Some (IsUndefined (codes "a") cause.Compare 1 16)
  pub runs_compare_elements : run compare_elements [] 12 ≡ Some (IsUndefined (codes "a") cause.Compare 1 20)
  pub runs_wrong_call : run wrong_call [] 12 ≡ Some (IsUndefined (codes "a") cause.WrongCall 1 28)
  pub runs_wrong_object : run wrong_object [] 12 ≡ Some (IsUndefined (codes "a") cause.WrongCall 1 30)
  pub runs_no_value : run no_value [] 12 ≡ Some (IsUndefined (codes "a") cause.NoValue 1 27)
  pub runs_overlap : run overlap [] 12 ≡ Some (IsUndefined (codes "a") cause.Overlap 1 44)
  pub runs_unset_before_end : run unset_before_end [] 12 ≡ Some (IsUndefined (codes "a") cause.Unset 1 14)
  pub runs_range_before_unset : run range_before_unset [] 12 ≡ Some (IsUndefined (codes "a") cause.Range 1 10)
