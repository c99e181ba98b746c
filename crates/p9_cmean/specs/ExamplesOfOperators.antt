-- Programs for operators, constants, casts and order: what small ones come to.
use Rattle.std.specs.Prelude.{◌≡◌, true, false, List, [], ◌∷◌, Some, codes}
use Rattle.p9_lang.specs.declared.tree.CBinary.TheVariants as operator
use Rattle.p9_lang.specs.declared.tree.CUnary.TheVariants as unary
use Rattle.p9_lang.specs.declared.tree.SpecWord.TheVariants as word
use Rattle.p9_lang.specs.declared.tree.Kind.TheVariants as kind
use Rattle.p9_lang.specs.Trees.{Syntax}
use Rattle.p9_lang.specs.ExampleTrees.{tree, leaf, declaration, function, member, parameter, named_type, named, used, number, text, binary}
use Rattle.p9_cmean.specs.ExampleRuns.{variable, main, no_parameters, block, effect, call, assign, unary_of, if_holds, returns, element, parens, Ends, run, bytes_copied}

-- enum { Four = 4, Five }; void main(void){ if('A' == 65 && '\377' == -1 && Four + Five == 9 &&
-- sizeof(short) == 2 && sizeof(int*) == 4) exits(0); exits("bad"); }
abbrev pub constants : List (List Syntax)
constants =
    (declaration (word.Enum [] (Some 2) false ∷ []) ([])
    (tree (kind.EnumConst (codes "Four") true) (number 4 ∷ [])
    ∷ tree (kind.EnumConst (codes "Five") false) ([]) ∷ [])
    ∷ main (if_holds (binary operator.AndAnd (binary operator.AndAnd (binary operator.AndAnd
    (binary operator.AndAnd (binary operator.Eq (leaf (kind.Character 65) ∷ number 65 ∷ [])
    ∷ binary operator.Eq (leaf (kind.Character 4294967295) ∷ unary_of unary.Minus (number 1) ∷ []) ∷ [])
    ∷ binary operator.Eq
    (binary operator.Add (used (codes "Four") ∷ used (codes "Five") ∷ []) ∷ number 9 ∷ []) ∷ [])
    ∷ binary operator.Eq
    (tree kind.SizeofType (named_type (word.Short ∷ []) ([]) ∷ []) ∷ number 2 ∷ []) ∷ [])
    ∷ binary operator.Eq
    (tree kind.SizeofType (named_type (word.Int ∷ []) (leaf (kind.Star []) ∷ []) ∷ [])
    ∷ number 4 ∷ []) ∷ [])) (effect (call (used (codes "exits")) (number 0 ∷ [])))
    ∷ effect (call (used (codes "exits")) (text (codes "bad" ∷ []) ∷ [])) ∷ []) ∷ []) ∷ []

-- void main(void){ int x; x = 6; if(+x == 6 && ~x == -7 && x * 7 == 42 && (x & 3) == 2 && (x ^
-- 3) == 5 && (x | 9) == 15 && x <= 6 && x >= 6 && !(x >= 7) && 2147483647 + x < 0) exits(0);
-- exits("bad"); }
abbrev pub bits : List (List Syntax)
bits =
    (main (variable (codes "x")
    ∷ effect (assign (used (codes "x")) (number 6))
    ∷ if_holds (binary operator.AndAnd
    (binary operator.AndAnd (binary operator.AndAnd (binary operator.AndAnd (binary operator.AndAnd
    (binary operator.AndAnd (binary operator.AndAnd (binary operator.AndAnd (binary operator.AndAnd
    (binary operator.Eq (unary_of unary.Plus (used (codes "x")) ∷ number 6 ∷ [])
    ∷ binary operator.Eq
    (unary_of unary.Complement (used (codes "x")) ∷ unary_of unary.Minus (number 7) ∷ []) ∷ [])
    ∷ binary operator.Eq (binary operator.Mul (used (codes "x") ∷ number 7 ∷ []) ∷ number 42 ∷ []) ∷ [])
    ∷ binary operator.Eq
    (parens (binary operator.And (used (codes "x") ∷ number 3 ∷ [])) ∷ number 2 ∷ []) ∷ [])
    ∷ binary operator.Eq
    (parens (binary operator.Xor (used (codes "x") ∷ number 3 ∷ [])) ∷ number 5 ∷ []) ∷ [])
    ∷ binary operator.Eq
    (parens (binary operator.Or (used (codes "x") ∷ number 9 ∷ [])) ∷ number 15 ∷ []) ∷ [])
    ∷ binary operator.Le (used (codes "x") ∷ number 6 ∷ []) ∷ [])
    ∷ binary operator.Ge (used (codes "x") ∷ number 6 ∷ []) ∷ [])
    ∷ unary_of unary.Not (parens (binary operator.Ge (used (codes "x") ∷ number 7 ∷ []))) ∷ [])
    ∷ binary operator.Lt
    (binary operator.Add (number 2147483647 ∷ used (codes "x") ∷ []) ∷ number 0 ∷ []) ∷ []))
    (effect (call (used (codes "exits")) (number 0 ∷ [])))
    ∷ effect (call (used (codes "exits")) (text (codes "bad" ∷ []) ∷ [])) ∷ []) ∷ []) ∷ []

-- int x; int f(void){ x++; return 1; } void main(void){ if((0 && f()) == 0 && (1 || f()) && x ==
-- 0 && (f() || f()) && x == 1 && (f() && 0) == 0 && x == 2) exits(0); exits("bad"); }
abbrev pub short_circuit : List (List Syntax)
short_circuit =
    (variable (codes "x")
    ∷ function (word.Int ∷ []) (no_parameters (named (codes "f"))
    ∷ block (effect (tree (kind.Post false) (used (codes "x") ∷ [])) ∷ returns (number 1) ∷ []) ∷ [])
    ∷ main (if_holds (binary operator.AndAnd (binary operator.AndAnd (binary operator.AndAnd
    (binary operator.AndAnd (binary operator.AndAnd (binary operator.AndAnd (binary operator.Eq
    (parens (binary operator.AndAnd (number 0 ∷ call (used (codes "f")) ([]) ∷ [])) ∷ number 0 ∷ [])
    ∷ parens (binary operator.OrOr (number 1 ∷ call (used (codes "f")) ([]) ∷ [])) ∷ [])
    ∷ binary operator.Eq (used (codes "x") ∷ number 0 ∷ []) ∷ [])
    ∷ parens (binary operator.OrOr (call (used (codes "f")) ([]) ∷ call (used (codes "f")) ([]) ∷ [])) ∷ [])
    ∷ binary operator.Eq (used (codes "x") ∷ number 1 ∷ []) ∷ [])
    ∷ binary operator.Eq
    (parens (binary operator.AndAnd (call (used (codes "f")) ([]) ∷ number 0 ∷ [])) ∷ number 0 ∷ []) ∷ [])
    ∷ binary operator.Eq (used (codes "x") ∷ number 2 ∷ []) ∷ []))
    (effect (call (used (codes "exits")) (number 0 ∷ [])))
    ∷ effect (call (used (codes "exits")) (text (codes "bad" ∷ []) ∷ [])) ∷ []) ∷ []) ∷ []

-- int x, a[3]; int f(void){ x = 2; return 7; } int g(int m, int n){ return m * 10 + n; } void
-- main(void){ a[x] = f(); x = 3; x += f(); if(a[0] == 7 && a[2] == 0 && x == 9 && g(x++, x) ==
-- 100) exits(0); exits("bad"); }
abbrev pub places_first : List (List Syntax)
places_first =
    (declaration (word.Int ∷ []) (false ∷ false ∷ [])
    (named (codes "x") ∷ tree (kind.Brackets true true) (named (codes "a") ∷ number 3 ∷ []) ∷ [])
    ∷ function (word.Int ∷ []) (no_parameters (named (codes "f"))
    ∷ block (effect (assign (used (codes "x")) (number 2)) ∷ returns (number 7) ∷ []) ∷ [])
    ∷ function (word.Int ∷ []) (tree (kind.Params true false) (named (codes "g")
    ∷ parameter (word.Int ∷ []) (named (codes "m") ∷ [])
    ∷ parameter (word.Int ∷ []) (named (codes "n") ∷ []) ∷ [])
    ∷ block (returns (binary operator.Add
    (binary operator.Mul (used (codes "m") ∷ number 10 ∷ []) ∷ used (codes "n") ∷ [])) ∷ []) ∷ [])
    ∷ main
    (effect (assign (element (used (codes "a")) (used (codes "x"))) (call (used (codes "f")) ([])))
    ∷ effect (assign (used (codes "x")) (number 3))
    ∷ effect
    (tree (kind.Assign (Some operator.Add)) (used (codes "x") ∷ call (used (codes "f")) ([]) ∷ []))
    ∷ if_holds (binary operator.AndAnd (binary operator.AndAnd (binary operator.AndAnd
    (binary operator.Eq (element (used (codes "a")) (number 0) ∷ number 7 ∷ [])
    ∷ binary operator.Eq (element (used (codes "a")) (number 2) ∷ number 0 ∷ []) ∷ [])
    ∷ binary operator.Eq (used (codes "x") ∷ number 9 ∷ []) ∷ [])
    ∷ binary operator.Eq
    (call (used (codes "g")) (tree (kind.Post false) (used (codes "x") ∷ []) ∷ used (codes "x") ∷ [])
    ∷ number 100 ∷ []) ∷ [])) (effect (call (used (codes "exits")) (number 0 ∷ [])))
    ∷ effect (call (used (codes "exits")) (text (codes "bad" ∷ []) ∷ [])) ∷ []) ∷ []) ∷ []

-- char c; short h; unsigned int u; int x, *p, a[4]; void main(void){ c = 127; c++; h = 32767; h
-- += 2; u = 1; u -= 2; p = a; p += 3; p -= 1; --p; x = 7; x *= 3; x /= 2; x %= 6; x |= 9; x &=
-- 12; x ^= 5; if(c == -128 && h == -32767 && u == 4294967295 && p - a == 1 && x == 9 && (c +=
-- 300) == -84 && c-- == -84 && c == -85 && (u >>= 31) == 1) exits(0); exits("bad"); }
abbrev pub updates : List (List Syntax)
updates =
    (declaration (word.Char ∷ []) (false ∷ []) (named (codes "c") ∷ [])
    ∷ declaration (word.Short ∷ []) (false ∷ []) (named (codes "h") ∷ [])
    ∷ declaration (word.Unsigned ∷ word.Int ∷ []) (false ∷ []) (named (codes "u") ∷ [])
    ∷ declaration (word.Int ∷ []) (false ∷ false ∷ false ∷ []) (named (codes "x")
    ∷ tree (kind.Star []) (named (codes "p") ∷ [])
    ∷ tree (kind.Brackets true true) (named (codes "a") ∷ number 4 ∷ []) ∷ [])
    ∷ main (effect (assign (used (codes "c")) (number 127))
    ∷ effect (tree (kind.Post false) (used (codes "c") ∷ []))
    ∷ effect (assign (used (codes "h")) (number 32767))
    ∷ effect (tree (kind.Assign (Some operator.Add)) (used (codes "h") ∷ number 2 ∷ []))
    ∷ effect (assign (used (codes "u")) (number 1))
    ∷ effect (tree (kind.Assign (Some operator.Sub)) (used (codes "u") ∷ number 2 ∷ []))
    ∷ effect (assign (used (codes "p")) (used (codes "a")))
    ∷ effect (tree (kind.Assign (Some operator.Add)) (used (codes "p") ∷ number 3 ∷ []))
    ∷ effect (tree (kind.Assign (Some operator.Sub)) (used (codes "p") ∷ number 1 ∷ []))
    ∷ effect (tree (kind.Pre true) (used (codes "p") ∷ []))
    ∷ effect (assign (used (codes "x")) (number 7))
    ∷ effect (tree (kind.Assign (Some operator.Mul)) (used (codes "x") ∷ number 3 ∷ []))
    ∷ effect (tree (kind.Assign (Some operator.Div)) (used (codes "x") ∷ number 2 ∷ []))
    ∷ effect (tree (kind.Assign (Some operator.Rem)) (used (codes "x") ∷ number 6 ∷ []))
    ∷ effect (tree (kind.Assign (Some operator.Or)) (used (codes "x") ∷ number 9 ∷ []))
    ∷ effect (tree (kind.Assign (Some operator.And)) (used (codes "x") ∷ number 12 ∷ []))
    ∷ effect (tree (kind.Assign (Some operator.Xor)) (used (codes "x") ∷ number 5 ∷ []))
    ∷ if_holds
    (binary operator.AndAnd (binary operator.AndAnd (binary operator.AndAnd (binary operator.AndAnd
    (binary operator.AndAnd (binary operator.AndAnd (binary operator.AndAnd (binary operator.AndAnd
    (binary operator.Eq (used (codes "c") ∷ unary_of unary.Minus (number 128) ∷ [])
    ∷ binary operator.Eq (used (codes "h") ∷ unary_of unary.Minus (number 32767) ∷ []) ∷ [])
    ∷ binary operator.Eq (used (codes "u") ∷ number 4294967295 ∷ []) ∷ [])
    ∷ binary operator.Eq
    (binary operator.Sub (used (codes "p") ∷ used (codes "a") ∷ []) ∷ number 1 ∷ []) ∷ [])
    ∷ binary operator.Eq (used (codes "x") ∷ number 9 ∷ []) ∷ [])
    ∷ binary operator.Eq
    (parens (tree (kind.Assign (Some operator.Add)) (used (codes "c") ∷ number 300 ∷ []))
    ∷ unary_of unary.Minus (number 84) ∷ []) ∷ [])
    ∷ binary operator.Eq
    (tree (kind.Post true) (used (codes "c") ∷ []) ∷ unary_of unary.Minus (number 84) ∷ []) ∷ [])
    ∷ binary operator.Eq (used (codes "c") ∷ unary_of unary.Minus (number 85) ∷ []) ∷ [])
    ∷ binary operator.Eq
    (parens (tree (kind.Assign (Some operator.Shr)) (used (codes "u") ∷ number 31 ∷ []))
    ∷ number 1 ∷ []) ∷ [])) (effect (call (used (codes "exits")) (number 0 ∷ [])))
    ∷ effect (call (used (codes "exits")) (text (codes "bad" ∷ []) ∷ [])) ∷ []) ∷ []) ∷ []

-- int x, *p; void *v; char c; int f(void){ return 300; } void main(void){ v = &x; p = v; *p =
-- 300; c = (char)x; (void)f(); if(c == 44 && (unsigned char)-1 == 255 && (short)65535 == -1 &&
-- *(int*)v == 300 && (c = 3, c + 1) == 4 && (1 ? p : 0) == v && (0 ? p : 0) == 0) exits(0);
-- exits("bad"); }
abbrev pub casts : List (List Syntax)
casts =
    (declaration (word.Int ∷ []) (false ∷ false ∷ [])
    (named (codes "x") ∷ tree (kind.Star []) (named (codes "p") ∷ []) ∷ [])
    ∷ declaration (word.Void ∷ []) (false ∷ []) (tree (kind.Star []) (named (codes "v") ∷ []) ∷ [])
    ∷ declaration (word.Char ∷ []) (false ∷ []) (named (codes "c") ∷ [])
    ∷ function (word.Int ∷ [])
    (no_parameters (named (codes "f")) ∷ block (returns (number 300) ∷ []) ∷ [])
    ∷ main (effect (assign (used (codes "v")) (unary_of unary.Address (used (codes "x"))))
    ∷ effect (assign (used (codes "p")) (used (codes "v")))
    ∷ effect (assign (unary_of unary.Deref (used (codes "p"))) (number 300))
    ∷ effect (assign (used (codes "c"))
    (tree kind.Cast (named_type (word.Char ∷ []) ([]) ∷ used (codes "x") ∷ [])))
    ∷ effect (tree kind.Cast (named_type (word.Void ∷ []) ([]) ∷ call (used (codes "f")) ([]) ∷ []))
    ∷ if_holds (binary operator.AndAnd
    (binary operator.AndAnd (binary operator.AndAnd (binary operator.AndAnd (binary operator.AndAnd
    (binary operator.AndAnd (binary operator.Eq (used (codes "c") ∷ number 44 ∷ [])
    ∷ binary operator.Eq (tree kind.Cast
    (named_type (word.Unsigned ∷ word.Char ∷ []) ([]) ∷ unary_of unary.Minus (number 1) ∷ [])
    ∷ number 255 ∷ []) ∷ [])
    ∷ binary operator.Eq (tree kind.Cast (named_type (word.Short ∷ []) ([]) ∷ number 65535 ∷ [])
    ∷ unary_of unary.Minus (number 1) ∷ []) ∷ [])
    ∷ binary operator.Eq (unary_of unary.Deref
    (tree kind.Cast (named_type (word.Int ∷ []) (leaf (kind.Star []) ∷ []) ∷ used (codes "v") ∷ []))
    ∷ number 300 ∷ []) ∷ [])
    ∷ binary operator.Eq (parens (tree kind.Comma (assign (used (codes "c")) (number 3)
    ∷ binary operator.Add (used (codes "c") ∷ number 1 ∷ []) ∷ []))
    ∷ number 4 ∷ []) ∷ [])
    ∷ binary operator.Eq
    (parens (tree kind.Choose (number 1 ∷ used (codes "p") ∷ number 0 ∷ [])) ∷ used (codes "v") ∷ []) ∷ [])
    ∷ binary operator.Eq
    (parens (tree kind.Choose (number 0 ∷ used (codes "p") ∷ number 0 ∷ [])) ∷ number 0 ∷ []) ∷ []))
    (effect (call (used (codes "exits")) (number 0 ∷ [])))
    ∷ effect (call (used (codes "exits")) (text (codes "bad" ∷ []) ∷ [])) ∷ []) ∷ []) ∷ []

-- int a[2], b[2]; int f(void){ return 1; } int g(void){ return 2; } void main(void){ int *p, *q,
-- (*h)(void); p = a; q = a + 1; h = f; if(p <= q && q >= p && p != b && q == &a[1] && h == f &&
-- h != g && h && !(p == 0) && a + 2 > q) exits(0); exits("bad"); }
abbrev pub compared : List (List Syntax)
compared =
    (declaration (word.Int ∷ []) (false ∷ false ∷ [])
    (tree (kind.Brackets true true) (named (codes "a") ∷ number 2 ∷ [])
    ∷ tree (kind.Brackets true true) (named (codes "b") ∷ number 2 ∷ []) ∷ [])
    ∷ function (word.Int ∷ [])
    (no_parameters (named (codes "f")) ∷ block (returns (number 1) ∷ []) ∷ [])
    ∷ function (word.Int ∷ [])
    (no_parameters (named (codes "g")) ∷ block (returns (number 2) ∷ []) ∷ [])
    ∷ main (declaration (word.Int ∷ []) (false ∷ false ∷ false ∷ [])
    (tree (kind.Star []) (named (codes "p") ∷ [])
    ∷ tree (kind.Star []) (named (codes "q") ∷ [])
    ∷ no_parameters (tree kind.DeclParens (tree (kind.Star []) (named (codes "h") ∷ []) ∷ [])) ∷ [])
    ∷ effect (assign (used (codes "p")) (used (codes "a")))
    ∷ effect (assign (used (codes "q")) (binary operator.Add (used (codes "a") ∷ number 1 ∷ [])))
    ∷ effect (assign (used (codes "h")) (used (codes "f")))
    ∷ if_holds (binary operator.AndAnd (binary operator.AndAnd (binary operator.AndAnd
    (binary operator.AndAnd (binary operator.AndAnd (binary operator.AndAnd (binary operator.AndAnd
    (binary operator.AndAnd (binary operator.Le (used (codes "p") ∷ used (codes "q") ∷ [])
    ∷ binary operator.Ge (used (codes "q") ∷ used (codes "p") ∷ []) ∷ [])
    ∷ binary operator.Ne (used (codes "p") ∷ used (codes "b") ∷ []) ∷ [])
    ∷ binary operator.Eq
    (used (codes "q") ∷ unary_of unary.Address (element (used (codes "a")) (number 1)) ∷ []) ∷ [])
    ∷ binary operator.Eq (used (codes "h") ∷ used (codes "f") ∷ []) ∷ [])
    ∷ binary operator.Ne (used (codes "h") ∷ used (codes "g") ∷ []) ∷ [])
    ∷ used (codes "h") ∷ [])
    ∷ unary_of unary.Not (parens (binary operator.Eq (used (codes "p") ∷ number 0 ∷ []))) ∷ [])
    ∷ binary operator.Gt
    (binary operator.Add (used (codes "a") ∷ number 2 ∷ []) ∷ used (codes "q") ∷ []) ∷ []))
    (effect (call (used (codes "exits")) (number 0 ∷ [])))
    ∷ effect (call (used (codes "exits")) (text (codes "bad" ∷ []) ∷ [])) ∷ []) ∷ []) ∷ []

-- int x; void n(void){ x++; } void main(void){ 1 ? n() : exits("bad"); n(), n(); (void)0; if(x
-- == 3) exits(0); exits("bad"); }
abbrev pub without_values : List (List Syntax)
without_values =
    (variable (codes "x")
    ∷ function (word.Void ∷ []) (no_parameters (named (codes "n"))
    ∷ block (effect (tree (kind.Post false) (used (codes "x") ∷ [])) ∷ []) ∷ [])
    ∷ main (effect (tree kind.Choose (number 1
    ∷ call (used (codes "n")) ([])
    ∷ call (used (codes "exits")) (text (codes "bad" ∷ []) ∷ []) ∷ []))
    ∷ effect (tree kind.Comma (call (used (codes "n")) ([]) ∷ call (used (codes "n")) ([]) ∷ []))
    ∷ effect (tree kind.Cast (named_type (word.Void ∷ []) ([]) ∷ number 0 ∷ []))
    ∷ if_holds (binary operator.Eq (used (codes "x") ∷ number 3 ∷ []))
    (effect (call (used (codes "exits")) (number 0 ∷ [])))
    ∷ effect (call (used (codes "exits")) (text (codes "bad" ∷ []) ∷ [])) ∷ []) ∷ []) ∷ []

-- char *p = "abc"; void main(void){ p[0] = 120; write(1, p, 3); if("a" == "a") exits("bad");
-- exits(0); }
abbrev pub texts_apart : List (List Syntax)
texts_apart =
    (declaration (word.Char ∷ []) (true ∷ [])
    (tree (kind.Star []) (named (codes "p") ∷ []) ∷ text (codes "abc" ∷ []) ∷ [])
    ∷ main (effect (assign (element (used (codes "p")) (number 0)) (number 120))
    ∷ effect (call (used (codes "write")) (number 1 ∷ used (codes "p") ∷ number 3 ∷ []))
    ∷ if_holds (binary operator.Eq (text (codes "a" ∷ []) ∷ text (codes "a" ∷ []) ∷ []))
    (effect (call (used (codes "exits")) (text (codes "bad" ∷ []) ∷ [])))
    ∷ effect (call (used (codes "exits")) (number 0 ∷ [])) ∷ []) ∷ []) ∷ []

-- int x, *p; int f(void){ x = 1; return 2; } void main(void){ if(sizeof f() == 4 && sizeof *p ==
-- 4 && sizeof(1 / 0) == 4 && x == 0) exits(0); exits("bad"); }
abbrev pub unevaluated : List (List Syntax)
unevaluated =
    (declaration (word.Int ∷ []) (false ∷ false ∷ [])
    (named (codes "x") ∷ tree (kind.Star []) (named (codes "p") ∷ []) ∷ [])
    ∷ function (word.Int ∷ []) (no_parameters (named (codes "f"))
    ∷ block (effect (assign (used (codes "x")) (number 1)) ∷ returns (number 2) ∷ []) ∷ [])
    ∷ main (if_holds (binary operator.AndAnd (binary operator.AndAnd (binary operator.AndAnd
    (binary operator.Eq (tree kind.SizeofValue (call (used (codes "f")) ([]) ∷ []) ∷ number 4 ∷ [])
    ∷ binary operator.Eq
    (tree kind.SizeofValue (unary_of unary.Deref (used (codes "p")) ∷ []) ∷ number 4 ∷ []) ∷ [])
    ∷ binary operator.Eq
    (tree kind.SizeofValue (parens (binary operator.Div (number 1 ∷ number 0 ∷ [])) ∷ [])
    ∷ number 4 ∷ []) ∷ [])
    ∷ binary operator.Eq (used (codes "x") ∷ number 0 ∷ []) ∷ []))
    (effect (call (used (codes "exits")) (number 0 ∷ [])))
    ∷ effect (call (used (codes "exits")) (text (codes "bad" ∷ []) ∷ [])) ∷ []) ∷ []) ∷ []

-- struct Pair { int a; char b; } s, t; void main(void){ t = s; s = t; s = s; exits(0); }
abbrev pub copies : List (List Syntax)
copies =
    (declaration (word.Tag false (codes "Pair") (Some 2) ∷ []) (false ∷ false ∷ [])
    (member (word.Int ∷ []) (named (codes "a") ∷ [])
    ∷ member (word.Char ∷ []) (named (codes "b") ∷ [])
    ∷ named (codes "s")
    ∷ named (codes "t") ∷ [])
    ∷ main (effect (assign (used (codes "t")) (used (codes "s")))
    ∷ effect (assign (used (codes "s")) (used (codes "t")))
    ∷ effect (assign (used (codes "s")) (used (codes "s")))
    ∷ effect (call (used (codes "exits")) (number 0 ∷ [])) ∷ []) ∷ []) ∷ []

pub record RunsOfOperators : Type 0 where
  pub runs_constants : run constants [] 2 ≡ Some (Ends [] [] [])
  pub runs_bits : run bits [] 2 ≡ Some (Ends [] [] [])
  pub runs_short_circuit : run short_circuit [] 4 ≡ Some (Ends [] [] [])
  pub runs_places_first : run places_first [] 5 ≡ Some (Ends [] [] [])
  pub runs_updates : run updates [] 2 ≡ Some (Ends [] [] [])
  pub runs_casts : run casts [] 3 ≡ Some (Ends [] [] [])
  pub runs_compared : run compared [] 2 ≡ Some (Ends [] [] [])
  pub runs_without_values : run without_values [] 5 ≡ Some (Ends [] [] [])
  pub runs_texts_apart : run texts_apart [] 3 ≡ Some (Ends (codes "xbc") [] [])
  pub runs_unevaluated : run unevaluated [] 2 ≡ Some (Ends [] [] [])
  pub runs_copies : run copies [] 2 ≡ Some (Ends [] [] [])
  pub copies_copies : bytes_copied copies [] 2 ≡ Some 24
