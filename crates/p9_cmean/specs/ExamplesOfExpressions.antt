-- Programs for expressions: what small ones come to.
use Rattle.std.specs.Prelude.{◌≡◌, true, false, List, [], ◌∷◌, Some, None, codes}
use Rattle.p9_lang.specs.declared.tree.CBinary.TheVariants as operator
use Rattle.p9_lang.specs.declared.tree.CUnary.TheVariants as unary
use Rattle.p9_lang.specs.declared.tree.SpecWord.TheVariants as word
use Rattle.p9_lang.specs.declared.tree.Kind.TheVariants as kind
use Rattle.p9_lang.specs.Trees.{Syntax}
use Rattle.p9_lang.specs.ExampleTrees.{tree, declaration, function, member, parameter, named, used, number, text, binary}
use Rattle.p9_cmean.specs.ExampleRuns.{variable, main, no_parameters, block, effect, call, assign, unary_of, if_holds, returns, element, parens, Ends, run}

-- typedef struct Lock Lock; struct Lock { int key; }; typedef struct Buf Buf; struct Buf { int n;
-- Lock; }; void lock(Lock *l){ l->key = l->key + 5; } void main(void){ Buf b; Buf *p; p = &b; b.n = 1;
-- p->key = 2; lock(p); if(p->key == 7 && b.n == 1) exits(0); exits("bad"); }
abbrev pub substructure : List (List Syntax)
substructure =
    (declaration
    (word.Typedef ∷ word.Tag false (codes "Lock") None ∷ [])
    (false ∷ [])
    (named (codes "Lock") ∷ [])
    ∷ declaration
    (word.Tag false (codes "Lock") (Some 1) ∷ []) []
    (member (word.Int ∷ []) (named (codes "key") ∷ []) ∷ [])
    ∷ declaration
    (word.Typedef ∷ word.Tag false (codes "Buf") None ∷ [])
    (false ∷ [])
    (named (codes "Buf") ∷ [])
    ∷ declaration
    (word.Tag false (codes "Buf") (Some 2) ∷ []) []
    (member (word.Int ∷ []) (named (codes "n") ∷ [])
    ∷ member (word.TypeName (codes "Lock") ∷ []) [] ∷ [])
    ∷ function
    (word.Void ∷ [])
    (tree
    (kind.Params true false)
    (named (codes "lock")
    ∷ parameter
    (word.TypeName (codes "Lock") ∷ [])
    (tree (kind.Star []) (named (codes "l") ∷ []) ∷ []) ∷ [])
    ∷ block
    (effect
    (assign
    (tree (kind.Dot true (codes "key")) (used (codes "l") ∷ []))
    (binary operator.Add
    (tree (kind.Dot true (codes "key")) (used (codes "l") ∷ []) ∷ number 5 ∷ []))) ∷ []) ∷ [])
    ∷ main
    (declaration (word.TypeName (codes "Buf") ∷ []) (false ∷ []) (named (codes "b") ∷ [])
    ∷ declaration
    (word.TypeName (codes "Buf") ∷ [])
    (false ∷ [])
    (tree (kind.Star []) (named (codes "p") ∷ []) ∷ [])
    ∷ effect (assign (used (codes "p")) (unary_of unary.Address (used (codes "b"))))
    ∷ effect (assign (tree (kind.Dot false (codes "n")) (used (codes "b") ∷ [])) (number 1))
    ∷ effect (assign (tree (kind.Dot true (codes "key")) (used (codes "p") ∷ [])) (number 2))
    ∷ effect (call (used (codes "lock")) (used (codes "p") ∷ []))
    ∷ if_holds
    (binary operator.AndAnd
    (binary operator.Eq
    (tree (kind.Dot true (codes "key")) (used (codes "p") ∷ []) ∷ number 7 ∷ [])
    ∷ binary operator.Eq
    (tree (kind.Dot false (codes "n")) (used (codes "b") ∷ []) ∷ number 1 ∷ []) ∷ []))
    (effect (call (used (codes "exits")) (number 0 ∷ [])))
    ∷ effect (call (used (codes "exits")) (text (codes "bad" ∷ []) ∷ [])) ∷ []) ∷ []) ∷ []

-- int x; int f(void){ x = x + 1; return 4; } void main(void){ x = 3; if(x + f() == 7) exits(0);
-- exits("bad"); }
abbrev pub left_first : List (List Syntax)
left_first =
    (variable (codes "x")
    ∷ function
    (word.Int ∷ [])
    (no_parameters (named (codes "f"))
    ∷ block
    (effect
    (assign (used (codes "x")) (binary operator.Add (used (codes "x") ∷ number 1 ∷ [])))
    ∷ returns (number 4) ∷ []) ∷ [])
    ∷ main
    (effect (assign (used (codes "x")) (number 3))
    ∷ if_holds
    (binary operator.Eq
    (binary operator.Add (used (codes "x") ∷ call (used (codes "f")) [] ∷ [])
    ∷ number 7 ∷ []))
    (effect (call (used (codes "exits")) (number 0 ∷ [])))
    ∷ effect (call (used (codes "exits")) (text (codes "bad" ∷ []) ∷ [])) ∷ []) ∷ []) ∷ []

-- void main(void){ if((1 > (2 > 3 ? 2 : 3) ? 1 : (2 > 3 ? 2 : 3)) == 3) exits(0); exits("bad"); }
abbrev pub greatest : List (List Syntax)
greatest =
    (main
    (if_holds
    (binary operator.Eq
    (parens
    (tree kind.Choose
    (binary operator.Gt
    (number 1
    ∷ parens
    (tree kind.Choose
    (binary operator.Gt (number 2 ∷ number 3 ∷ [])
    ∷ number 2
    ∷ number 3 ∷ [])) ∷ [])
    ∷ number 1
    ∷ parens
    (tree kind.Choose
    (binary operator.Gt (number 2 ∷ number 3 ∷ [])
    ∷ number 2
    ∷ number 3 ∷ [])) ∷ []))
    ∷ number 3 ∷ []))
    (effect (call (used (codes "exits")) (number 0 ∷ [])))
    ∷ effect (call (used (codes "exits")) (text (codes "bad" ∷ []) ∷ [])) ∷ []) ∷ []) ∷ []

-- void main(void){ unsigned int u; int s; u = 4294967295; s = -1; if(u / 2 == 2147483647 && s / 2 == 0
-- && s % 2 == -1 && u >> 31 == 1 && s >> 31 == -1 && s < 0 && !(u < 0)) exits(0); exits("bad"); }
abbrev pub signs : List (List Syntax)
signs =
    (main
    (declaration (word.Unsigned ∷ word.Int ∷ []) (false ∷ []) (named (codes "u") ∷ [])
    ∷ variable (codes "s")
    ∷ effect (assign (used (codes "u")) (number 4294967295))
    ∷ effect (assign (used (codes "s")) (unary_of unary.Minus (number 1)))
    ∷ if_holds
    (binary operator.AndAnd
    (binary operator.AndAnd
    (binary operator.AndAnd
    (binary operator.AndAnd
    (binary operator.AndAnd
    (binary operator.AndAnd
    (binary operator.Eq
    (binary operator.Div
    (used (codes "u") ∷ number 2 ∷ [])
    ∷ number 2147483647 ∷ [])
    ∷ binary operator.Eq
    (binary operator.Div
    (used (codes "s") ∷ number 2 ∷ [])
    ∷ number 0 ∷ []) ∷ [])
    ∷ binary operator.Eq
    (binary operator.Rem (used (codes "s") ∷ number 2 ∷ [])
    ∷ unary_of unary.Minus (number 1) ∷ []) ∷ [])
    ∷ binary operator.Eq
    (binary operator.Shr (used (codes "u") ∷ number 31 ∷ [])
    ∷ number 1 ∷ []) ∷ [])
    ∷ binary operator.Eq
    (binary operator.Shr (used (codes "s") ∷ number 31 ∷ [])
    ∷ unary_of unary.Minus (number 1) ∷ []) ∷ [])
    ∷ binary operator.Lt (used (codes "s") ∷ number 0 ∷ []) ∷ [])
    ∷ unary_of unary.Not
    (parens (binary operator.Lt (used (codes "u") ∷ number 0 ∷ []))) ∷ []))
    (effect (call (used (codes "exits")) (number 0 ∷ [])))
    ∷ effect (call (used (codes "exits")) (text (codes "bad" ∷ []) ∷ [])) ∷ []) ∷ []) ∷ []

-- char c; unsigned char b; short h; void main(void){ c = 200; b = 456; h = 65535; if(c == -56 && b ==
-- 200 && h == -1 && (c = 300) == 44) exits(0); exits("bad"); }
abbrev pub narrowing : List (List Syntax)
narrowing =
    (declaration (word.Char ∷ []) (false ∷ []) (named (codes "c") ∷ [])
    ∷ declaration (word.Unsigned ∷ word.Char ∷ []) (false ∷ []) (named (codes "b") ∷ [])
    ∷ declaration (word.Short ∷ []) (false ∷ []) (named (codes "h") ∷ [])
    ∷ main
    (effect (assign (used (codes "c")) (number 200))
    ∷ effect (assign (used (codes "b")) (number 456))
    ∷ effect (assign (used (codes "h")) (number 65535))
    ∷ if_holds
    (binary operator.AndAnd
    (binary operator.AndAnd
    (binary operator.AndAnd
    (binary operator.Eq
    (used (codes "c") ∷ unary_of unary.Minus (number 56) ∷ [])
    ∷ binary operator.Eq (used (codes "b") ∷ number 200 ∷ []) ∷ [])
    ∷ binary operator.Eq (used (codes "h") ∷ unary_of unary.Minus (number 1) ∷ []) ∷ [])
    ∷ binary operator.Eq
    (parens (assign (used (codes "c")) (number 300)) ∷ number 44 ∷ []) ∷ []))
    (effect (call (used (codes "exits")) (number 0 ∷ [])))
    ∷ effect (call (used (codes "exits")) (text (codes "bad" ∷ []) ∷ [])) ∷ []) ∷ []) ∷ []

-- int x, a[3]; int *p; void main(void){ p = a; *p++ = 5; *p = 6; ++*p; x = p - a; x += 4; x <<= 2;
-- if(a[0] == 5 && a[1] == 7 && x == 20 && x-- == 20 && x == 19) exits(0); exits("bad"); }
abbrev pub steps : List (List Syntax)
steps =
    (declaration
    (word.Int ∷ [])
    (false ∷ false ∷ [])
    (named (codes "x") ∷ tree (kind.Brackets true true) (named (codes "a") ∷ number 3 ∷ []) ∷ [])
    ∷ declaration (word.Int ∷ []) (false ∷ []) (tree (kind.Star []) (named (codes "p") ∷ []) ∷ [])
    ∷ main
    (effect (assign (used (codes "p")) (used (codes "a")))
    ∷ effect
    (assign
    (unary_of unary.Deref (tree (kind.Post false) (used (codes "p") ∷ [])))
    (number 5))
    ∷ effect (assign (unary_of unary.Deref (used (codes "p"))) (number 6))
    ∷ effect (tree (kind.Pre false) (unary_of unary.Deref (used (codes "p")) ∷ []))
    ∷ effect
    (assign
    (used (codes "x"))
    (binary operator.Sub (used (codes "p") ∷ used (codes "a") ∷ [])))
    ∷ effect (tree (kind.Assign (Some operator.Add)) (used (codes "x") ∷ number 4 ∷ []))
    ∷ effect (tree (kind.Assign (Some operator.Shl)) (used (codes "x") ∷ number 2 ∷ []))
    ∷ if_holds
    (binary operator.AndAnd
    (binary operator.AndAnd
    (binary operator.AndAnd
    (binary operator.AndAnd
    (binary operator.Eq
    (element (used (codes "a")) (number 0) ∷ number 5 ∷ [])
    ∷ binary operator.Eq
    (element (used (codes "a")) (number 1) ∷ number 7 ∷ []) ∷ [])
    ∷ binary operator.Eq (used (codes "x") ∷ number 20 ∷ []) ∷ [])
    ∷ binary operator.Eq
    (tree (kind.Post true) (used (codes "x") ∷ []) ∷ number 20 ∷ []) ∷ [])
    ∷ binary operator.Eq (used (codes "x") ∷ number 19 ∷ []) ∷ []))
    (effect (call (used (codes "exits")) (number 0 ∷ [])))
    ∷ effect (call (used (codes "exits")) (text (codes "bad" ∷ []) ∷ [])) ∷ []) ∷ []) ∷ []

-- union Both { int word; char bytes[4]; } u; void main(void){ u.word = 16909060; if(u.bytes[0] == 1 &&
-- u.bytes[3] == 4) exits(0); exits("bad"); }
abbrev pub overlaid : List (List Syntax)
overlaid =
    (declaration
    (word.Tag true (codes "Both") (Some 2) ∷ [])
    (false ∷ [])
    (member (word.Int ∷ []) (named (codes "word") ∷ [])
    ∷ member
    (word.Char ∷ [])
    (tree (kind.Brackets true true) (named (codes "bytes") ∷ number 4 ∷ []) ∷ [])
    ∷ named (codes "u") ∷ [])
    ∷ main
    (effect
    (assign (tree (kind.Dot false (codes "word")) (used (codes "u") ∷ [])) (number 16909060))
    ∷ if_holds
    (binary operator.AndAnd
    (binary operator.Eq
    (element
    (tree (kind.Dot false (codes "bytes")) (used (codes "u") ∷ []))
    (number 0)
    ∷ number 1 ∷ [])
    ∷ binary operator.Eq
    (element
    (tree (kind.Dot false (codes "bytes")) (used (codes "u") ∷ []))
    (number 3)
    ∷ number 4 ∷ []) ∷ []))
    (effect (call (used (codes "exits")) (number 0 ∷ [])))
    ∷ effect (call (used (codes "exits")) (text (codes "bad" ∷ []) ∷ [])) ∷ []) ∷ []) ∷ []

-- struct Pair { int a; char b; } s, t; void main(void){ s.a = 5; s.b = 65; t = s; s.a = 6; write(1,
-- &t.b, t.a - 4); exits(0); }
abbrev pub copied : List (List Syntax)
copied =
    (declaration
    (word.Tag false (codes "Pair") (Some 2) ∷ [])
    (false ∷ false ∷ [])
    (member (word.Int ∷ []) (named (codes "a") ∷ [])
    ∷ member (word.Char ∷ []) (named (codes "b") ∷ [])
    ∷ named (codes "s")
    ∷ named (codes "t") ∷ [])
    ∷ main
    (effect (assign (tree (kind.Dot false (codes "a")) (used (codes "s") ∷ [])) (number 5))
    ∷ effect (assign (tree (kind.Dot false (codes "b")) (used (codes "s") ∷ [])) (number 65))
    ∷ effect (assign (used (codes "t")) (used (codes "s")))
    ∷ effect (assign (tree (kind.Dot false (codes "a")) (used (codes "s") ∷ [])) (number 6))
    ∷ effect
    (call
    (used (codes "write"))
    (number 1
    ∷ unary_of unary.Address (tree (kind.Dot false (codes "b")) (used (codes "t") ∷ []))
    ∷ binary operator.Sub
    (tree (kind.Dot false (codes "a")) (used (codes "t") ∷ []) ∷ number 4 ∷ []) ∷ []))
    ∷ effect (call (used (codes "exits")) (number 0 ∷ [])) ∷ []) ∷ []) ∷ []

-- int a[4]; void main(void){ int *p, *q; p = a + 3; q = p + -1; if(q - a == 2 && a - q == -2 && q < p
-- && a + 4 > p && p != 0 && q + 1 == p) exits(0); exits("bad"); }
abbrev pub pointers : List (List Syntax)
pointers =
    (declaration
    (word.Int ∷ [])
    (false ∷ [])
    (tree (kind.Brackets true true) (named (codes "a") ∷ number 4 ∷ []) ∷ [])
    ∷ main
    (declaration
    (word.Int ∷ [])
    (false ∷ false ∷ [])
    (tree (kind.Star []) (named (codes "p") ∷ [])
    ∷ tree (kind.Star []) (named (codes "q") ∷ []) ∷ [])
    ∷ effect
    (assign (used (codes "p")) (binary operator.Add (used (codes "a") ∷ number 3 ∷ [])))
    ∷ effect
    (assign
    (used (codes "q"))
    (binary operator.Add (used (codes "p") ∷ unary_of unary.Minus (number 1) ∷ [])))
    ∷ if_holds
    (binary operator.AndAnd
    (binary operator.AndAnd
    (binary operator.AndAnd
    (binary operator.AndAnd
    (binary operator.AndAnd
    (binary operator.Eq
    (binary operator.Sub
    (used (codes "q") ∷ used (codes "a") ∷ [])
    ∷ number 2 ∷ [])
    ∷ binary operator.Eq
    (binary operator.Sub
    (used (codes "a") ∷ used (codes "q") ∷ [])
    ∷ unary_of unary.Minus (number 2) ∷ []) ∷ [])
    ∷ binary operator.Lt (used (codes "q") ∷ used (codes "p") ∷ []) ∷ [])
    ∷ binary operator.Gt
    (binary operator.Add (used (codes "a") ∷ number 4 ∷ [])
    ∷ used (codes "p") ∷ []) ∷ [])
    ∷ binary operator.Ne (used (codes "p") ∷ number 0 ∷ []) ∷ [])
    ∷ binary operator.Eq
    (binary operator.Add (used (codes "q") ∷ number 1 ∷ []) ∷ used (codes "p") ∷ []) ∷ []))
    (effect (call (used (codes "exits")) (number 0 ∷ [])))
    ∷ effect (call (used (codes "exits")) (text (codes "bad" ∷ []) ∷ [])) ∷ []) ∷ []) ∷ []

-- struct Pair { int a; char b; } *s; void main(void){ int *p; p = 0; p = p + 0; p = &s->a; if(p)
-- exits("bad"); exits(0); }
abbrev pub null_moved : List (List Syntax)
null_moved =
    (declaration
    (word.Tag false (codes "Pair") (Some 2) ∷ [])
    (false ∷ [])
    (member (word.Int ∷ []) (named (codes "a") ∷ [])
    ∷ member (word.Char ∷ []) (named (codes "b") ∷ [])
    ∷ tree (kind.Star []) (named (codes "s") ∷ []) ∷ [])
    ∷ main
    (declaration
    (word.Int ∷ [])
    (false ∷ [])
    (tree (kind.Star []) (named (codes "p") ∷ []) ∷ [])
    ∷ effect (assign (used (codes "p")) (number 0))
    ∷ effect
    (assign (used (codes "p")) (binary operator.Add (used (codes "p") ∷ number 0 ∷ [])))
    ∷ effect
    (assign
    (used (codes "p"))
    (unary_of unary.Address (tree (kind.Dot true (codes "a")) (used (codes "s") ∷ []))))
    ∷ if_holds
    (used (codes "p"))
    (effect (call (used (codes "exits")) (text (codes "bad" ∷ []) ∷ [])))
    ∷ effect (call (used (codes "exits")) (number 0 ∷ [])) ∷ []) ∷ []) ∷ []

pub record RunsOfExpressions : Type 0 where
  pub runs_substructure : run substructure [] 12 ≡ Some (Ends [] [] [])
  pub runs_left_first : run left_first [] 12 ≡ Some (Ends [] [] [])
  pub runs_greatest : run greatest [] 12 ≡ Some (Ends [] [] [])
  pub runs_signs : run signs [] 12 ≡ Some (Ends [] [] [])
  pub runs_narrowing : run narrowing [] 12 ≡ Some (Ends [] [] [])
  pub runs_steps : run steps [] 12 ≡ Some (Ends [] [] [])
  pub runs_overlaid : run overlaid [] 12 ≡ Some (Ends [] [] [])
  pub runs_copied : run copied [] 12 ≡ Some (Ends (codes "A") [] [])
  pub runs_pointers : run pointers [] 12 ≡ Some (Ends [] [] [])
  pub runs_null_moved : run null_moved [] 12 ≡ Some (Ends [] [] [])
