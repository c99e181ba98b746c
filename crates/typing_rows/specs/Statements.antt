-- Statements of one function behind the same declarations, by the rule that is told; those of 0 break none.
use Rattle.std.specs.Prelude.{◌≡◌, true, false, List, [], ◌∷◌, Some, None, codes}
use Rattle.p9_lang.specs.declared.tree.CBinary.TheVariants as operator
use Rattle.p9_lang.specs.declared.tree.CUnary.TheVariants as unary
use Rattle.p9_lang.specs.declared.tree.SpecWord.TheVariants as word
use Rattle.p9_lang.specs.declared.tree.Kind.TheVariants as kind
use Rattle.p9_lang.specs.Trees.{Syntax}
use Rattle.p9_lang.specs.ExampleTrees.{tree, leaf, parameter, named_type, used, number, text, binary}
use Rattle.typing_rows.specs.Words.{effect, call, assign, unary_of, if_holds, returns, element, parens, bodies_told}

abbrev pub valid : List Syntax
valid =
    -- (x) = 2;
    effect (assign (parens (used (codes "x"))) (number 2))
    -- &(x);
    ∷ effect (unary_of unary.Address (parens (used (codes "x"))))
    -- &f;
    ∷ effect (unary_of unary.Address (used (codes "f")))
    -- &a;
    ∷ effect (unary_of unary.Address (used (codes "a")))
    -- &"abc";
    ∷ effect (unary_of unary.Address (text (codes "abc" ∷ [])))
    -- "abc"[0] = 1;
    ∷ effect (assign (element (text (codes "abc" ∷ [])) (number 0)) (number 1))
    -- &s.a;
    ∷ effect (unary_of unary.Address (tree (kind.Dot false (codes "a")) (used (codes "s") ∷ [])))
    -- *p = 1;
    ∷ effect (assign (unary_of unary.Deref (used (codes "p"))) (number 1))
    -- *f;
    ∷ effect (unary_of unary.Deref (used (codes "f")))
    -- (*f)(1);
    ∷ effect (call (parens (unary_of unary.Deref (used (codes "f")))) (number 1 ∷ []))
    -- (**fp)(1);
    ∷ effect
    (call (parens (unary_of unary.Deref (unary_of unary.Deref (used (codes "fp"))))) (number 1 ∷ []))
    -- fp(1);
    ∷ effect (call (used (codes "fp")) (number 1 ∷ []))
    -- (*fp)(1);
    ∷ effect (call (parens (unary_of unary.Deref (used (codes "fp")))) (number 1 ∷ []))
    -- n();
    ∷ effect (call (used (codes "n")) [])
    -- 1 ? n() : n();
    ∷ effect
    (tree kind.Choose (number 1 ∷ call (used (codes "n")) [] ∷ call (used (codes "n")) [] ∷ []))
    -- (void)x;
    ∷ effect (tree kind.Cast (named_type (word.Void ∷ []) [] ∷ used (codes "x") ∷ []))
    -- (char)x;
    ∷ effect (tree kind.Cast (named_type (word.Char ∷ []) [] ∷ used (codes "x") ∷ []))
    -- (int*)0;
    ∷ effect (tree kind.Cast (named_type (word.Int ∷ []) (leaf (kind.Star []) ∷ []) ∷ number 0 ∷ []))
    -- (int*)v;
    ∷ effect
    (tree kind.Cast (named_type (word.Int ∷ []) (leaf (kind.Star []) ∷ []) ∷ used (codes "v") ∷ []))
    -- (int (*)(int))f;
    ∷ effect (tree kind.Cast (named_type (word.Int ∷ []) (tree (kind.Params true false)
    (tree kind.DeclParens (leaf (kind.Star []) ∷ []) ∷ parameter (word.Int ∷ []) [] ∷ []) ∷ [])
    ∷ used (codes "f") ∷ []))
    -- (int (*)(int))0;
    ∷ effect (tree kind.Cast (named_type (word.Int ∷ []) (tree (kind.Params true false)
    (tree kind.DeclParens (leaf (kind.Star []) ∷ []) ∷ parameter (word.Int ∷ []) [] ∷ []) ∷ [])
    ∷ number 0 ∷ []))
    -- p = v;
    ∷ effect (assign (used (codes "p")) (used (codes "v")))
    -- v = p;
    ∷ effect (assign (used (codes "v")) (used (codes "p")))
    -- fp = f;
    ∷ effect (assign (used (codes "fp")) (used (codes "f")))
    -- fp = &f;
    ∷ effect (assign (used (codes "fp")) (unary_of unary.Address (used (codes "f"))))
    -- fp = 0;
    ∷ effect (assign (used (codes "fp")) (number 0))
    -- p = 0;
    ∷ effect (assign (used (codes "p")) (number 0))
    -- p = 1 - 1;
    ∷ effect (assign (used (codes "p")) (binary operator.Sub (number 1 ∷ number 1 ∷ [])))
    -- p = (void*)0;
    ∷ effect (assign (used (codes "p"))
    (tree kind.Cast (named_type (word.Void ∷ []) (leaf (kind.Star []) ∷ []) ∷ number 0 ∷ [])))
    -- fp = (void*)0;
    ∷ effect (assign (used (codes "fp"))
    (tree kind.Cast (named_type (word.Void ∷ []) (leaf (kind.Star []) ∷ []) ∷ number 0 ∷ [])))
    -- c = 300;
    ∷ effect (assign (used (codes "c")) (number 300))
    -- o = 0;
    ∷ effect (assign (used (codes "o")) (number 0))
    -- o == o;
    ∷ effect (binary operator.Eq (used (codes "o") ∷ used (codes "o") ∷ []))
    -- p - p;
    ∷ effect (binary operator.Sub (used (codes "p") ∷ used (codes "p") ∷ []))
    -- p - a;
    ∷ effect (binary operator.Sub (used (codes "p") ∷ used (codes "a") ∷ []))
    -- p + l;
    ∷ effect (binary operator.Add (used (codes "p") ∷ used (codes "l") ∷ []))
    -- 1 + p;
    ∷ effect (binary operator.Add (number 1 ∷ used (codes "p") ∷ []))
    -- p == v;
    ∷ effect (binary operator.Eq (used (codes "p") ∷ used (codes "v") ∷ []))
    -- fp == f;
    ∷ effect (binary operator.Eq (used (codes "fp") ∷ used (codes "f") ∷ []))
    -- p += 1;
    ∷ effect (tree (kind.Assign (Some operator.Add)) (used (codes "p") ∷ number 1 ∷ []))
    -- p -= x;
    ∷ effect (tree (kind.Assign (Some operator.Sub)) (used (codes "p") ∷ used (codes "x") ∷ []))
    -- c += 1;
    ∷ effect (tree (kind.Assign (Some operator.Add)) (used (codes "c") ∷ number 1 ∷ []))
    -- s = t;
    ∷ effect (assign (used (codes "s")) (used (codes "t")))
    -- s;
    ∷ effect (used (codes "s"))
    -- *&s;
    ∷ effect (unary_of unary.Deref (unary_of unary.Address (used (codes "s"))))
    -- s.a = 1;
    ∷ effect (assign (tree (kind.Dot false (codes "a")) (used (codes "s") ∷ [])) (number 1))
    -- (s).a;
    ∷ effect (tree (kind.Dot false (codes "a")) (parens (used (codes "s")) ∷ []))
    -- (&s)->a;
    ∷ effect
    (tree (kind.Dot true (codes "a")) (parens (unary_of unary.Address (used (codes "s"))) ∷ []))
    -- f(c);
    ∷ effect (call (used (codes "f")) (used (codes "c") ∷ []))
    -- (f)(1);
    ∷ effect (call (parens (used (codes "f"))) (number 1 ∷ []))
    -- exits(0);
    ∷ effect (call (used (codes "exits")) (number 0 ∷ []))
    -- exits("a");
    ∷ effect (call (used (codes "exits")) (text (codes "a" ∷ []) ∷ []))
    -- write(1, p, 1);
    ∷ effect (call (used (codes "write")) (number 1 ∷ used (codes "p") ∷ number 1 ∷ []))
    -- read(0, v, 1);
    ∷ effect (call (used (codes "read")) (number 0 ∷ used (codes "v") ∷ number 1 ∷ []))
    -- sizeof(int[3]);
    ∷ effect (tree kind.SizeofType
    (named_type (word.Int ∷ []) (tree (kind.Brackets false true) (number 3 ∷ []) ∷ []) ∷ []))
    -- sizeof v;
    ∷ effect (tree kind.SizeofValue (used (codes "v") ∷ []))
    -- sizeof a;
    ∷ effect (tree kind.SizeofValue (used (codes "a") ∷ []))
    -- sizeof "abc";
    ∷ effect (tree kind.SizeofValue (text (codes "abc" ∷ []) ∷ []))
    -- g();
    ∷ effect (call (used (codes "g")) [])
    -- switch(c){ case 1: ; }
    ∷ tree kind.Switch (used (codes "c") ∷ tree kind.Case (number 1 ∷ []) ∷ leaf kind.Expression ∷ [])
    -- switch(l){ default: ; }
    ∷ tree kind.Switch (used (codes "l") ∷ leaf kind.Default ∷ leaf kind.Expression ∷ [])
    -- switch(1){ case 1: case 257: ; }
    ∷ tree kind.Switch (number 1
    ∷ tree kind.Case (number 1 ∷ [])
    ∷ tree kind.Case (number 257 ∷ [])
    ∷ leaf kind.Expression ∷ [])
    -- while(1) switch(x){ default: continue; }
    ∷ tree kind.While (number 1
    ∷ tree kind.Switch (used (codes "x") ∷ leaf kind.Default ∷ leaf kind.Continue ∷ []) ∷ [])
    -- while(x) break;
    ∷ tree kind.While (used (codes "x") ∷ leaf kind.Break ∷ [])
    -- return;
    ∷ leaf kind.Return
    -- 1 ? p : v;
    ∷ effect (tree kind.Choose (number 1 ∷ used (codes "p") ∷ used (codes "v") ∷ []))
    -- 1 ? p : 0;
    ∷ effect (tree kind.Choose (number 1 ∷ used (codes "p") ∷ number 0 ∷ []))
    -- x ? c : l;
    ∷ effect (tree kind.Choose (used (codes "x") ∷ used (codes "c") ∷ used (codes "l") ∷ []))
    -- p = x ? p : 0;
    ∷ effect (assign (used (codes "p"))
    (tree kind.Choose (used (codes "x") ∷ used (codes "p") ∷ number 0 ∷ [])))
    -- if(p) ;
    ∷ if_holds (used (codes "p")) (leaf kind.Expression)
    -- for(;p;) ;
    ∷ tree (kind.For false true false) (used (codes "p") ∷ leaf kind.Expression ∷ [])
    -- a[1] = 2;
    ∷ effect (assign (element (used (codes "a")) (number 1)) (number 2))
    -- 1[a] = 2;
    ∷ effect (assign (element (number 1) (used (codes "a"))) (number 2))
    -- v = o;
    ∷ effect (assign (used (codes "v")) (used (codes "o")))
    -- o = v;
    ∷ effect (assign (used (codes "o")) (used (codes "v")))
    -- (void)s;
    ∷ effect (tree kind.Cast (named_type (word.Void ∷ []) [] ∷ used (codes "s") ∷ []))
    -- (void)n();
    ∷ effect (tree kind.Cast (named_type (word.Void ∷ []) [] ∷ call (used (codes "n")) [] ∷ []))
    -- x = (n(), 1);
    ∷ effect (assign (used (codes "x"))
    (parens (tree kind.Comma (call (used (codes "n")) [] ∷ number 1 ∷ []))))
    -- sizeof(fp);
    ∷ effect (tree kind.SizeofValue (parens (used (codes "fp")) ∷ []))
    -- &*p;
    ∷ effect (unary_of unary.Address (unary_of unary.Deref (used (codes "p"))))
    -- &p[1];
    ∷ effect (unary_of unary.Address (element (used (codes "p")) (number 1)))
    -- p == 0;
    ∷ effect (binary operator.Eq (used (codes "p") ∷ number 0 ∷ []))
    -- 0 == p;
    ∷ effect (binary operator.Eq (number 0 ∷ used (codes "p") ∷ []))
    ∷ []

abbrev pub incomplete : List Syntax
incomplete =
    -- *o;
    effect (unary_of unary.Deref (used (codes "o")))
    -- o->a;
    ∷ effect (tree (kind.Dot true (codes "a")) (used (codes "o") ∷ []))
    -- sizeof(struct O);
    ∷ effect (tree kind.SizeofType (named_type (word.Tag false (codes "O") None ∷ []) [] ∷ []))
    -- sizeof(void);
    ∷ effect (tree kind.SizeofType (named_type (word.Void ∷ []) [] ∷ []))
    -- sizeof n();
    ∷ effect (tree kind.SizeofValue (call (used (codes "n")) [] ∷ []))
    -- sizeof *o;
    ∷ effect (tree kind.SizeofValue (unary_of unary.Deref (used (codes "o")) ∷ []))
    -- (*o).a;
    ∷ effect
    (tree (kind.Dot false (codes "a")) (parens (unary_of unary.Deref (used (codes "o"))) ∷ []))
    ∷ []

abbrev pub undeclared : List Syntax
undeclared =
    -- y;
    effect (used (codes "y"))
    -- y();
    ∷ effect (call (used (codes "y")) [])
    -- &y;
    ∷ effect (unary_of unary.Address (used (codes "y")))
    ∷ []

abbrev pub no_lvalues : List Syntax
no_lvalues =
    -- (1, x) = 2;
    effect (assign (parens (tree kind.Comma (number 1 ∷ used (codes "x") ∷ []))) (number 2))
    -- (1 ? x : x) = 2;
    ∷ effect (assign (parens (tree kind.Choose (number 1 ∷ used (codes "x") ∷ used (codes "x") ∷ [])))
    (number 2))
    -- f = 0;
    ∷ effect (assign (used (codes "f")) (number 0))
    -- a = p;
    ∷ effect (assign (used (codes "a")) (used (codes "p")))
    -- a++;
    ∷ effect (tree (kind.Post false) (used (codes "a") ∷ []))
    -- f++;
    ∷ effect (tree (kind.Post false) (used (codes "f") ∷ []))
    -- &(1, x);
    ∷ effect (unary_of unary.Address (parens (tree kind.Comma (number 1 ∷ used (codes "x") ∷ []))))
    -- &x++;
    ∷ effect (unary_of unary.Address (tree (kind.Post false) (used (codes "x") ∷ [])))
    -- &1;
    ∷ effect (unary_of unary.Address (number 1))
    -- 1 += 1;
    ∷ effect (tree (kind.Assign (Some operator.Add)) (number 1 ∷ number 1 ∷ []))
    -- 1 += p;
    ∷ effect (tree (kind.Assign (Some operator.Add)) (number 1 ∷ used (codes "p") ∷ []))
    -- x++ = 1;
    ∷ effect (assign (tree (kind.Post false) (used (codes "x") ∷ [])) (number 1))
    -- -x = 1;
    ∷ effect (assign (unary_of unary.Minus (used (codes "x"))) (number 1))
    -- &(x + 1);
    ∷ effect
    (unary_of unary.Address (parens (binary operator.Add (used (codes "x") ∷ number 1 ∷ []))))
    -- sizeof x = 1;
    ∷ effect (assign (tree kind.SizeofValue (used (codes "x") ∷ [])) (number 1))
    -- 1++;
    ∷ effect (tree (kind.Post false) (number 1 ∷ []))
    -- 1 = 2;
    ∷ effect (assign (number 1) (number 2))
    ∷ []

abbrev pub bad_operands : List Syntax
bad_operands =
    -- *v = 1;
    effect (assign (unary_of unary.Deref (used (codes "v"))) (number 1))
    -- **p;
    ∷ effect (unary_of unary.Deref (unary_of unary.Deref (used (codes "p"))))
    -- n() + 1;
    ∷ effect (binary operator.Add (call (used (codes "n")) [] ∷ number 1 ∷ []))
    -- 1 ? n() : 1;
    ∷ effect (tree kind.Choose (number 1 ∷ call (used (codes "n")) [] ∷ number 1 ∷ []))
    -- (int)n();
    ∷ effect (tree kind.Cast (named_type (word.Int ∷ []) [] ∷ call (used (codes "n")) [] ∷ []))
    -- (int*)x;
    ∷ effect
    (tree kind.Cast (named_type (word.Int ∷ []) (leaf (kind.Star []) ∷ []) ∷ used (codes "x") ∷ []))
    -- (int (*)(int))v;
    ∷ effect (tree kind.Cast (named_type (word.Int ∷ []) (tree (kind.Params true false)
    (tree kind.DeclParens (leaf (kind.Star []) ∷ []) ∷ parameter (word.Int ∷ []) [] ∷ []) ∷ [])
    ∷ used (codes "v") ∷ []))
    -- (void*)f;
    ∷ effect
    (tree kind.Cast (named_type (word.Void ∷ []) (leaf (kind.Star []) ∷ []) ∷ used (codes "f") ∷ []))
    -- (int)p;
    ∷ effect (tree kind.Cast (named_type (word.Int ∷ []) [] ∷ used (codes "p") ∷ []))
    -- (struct S)s;
    ∷ effect
    (tree kind.Cast (named_type (word.Tag false (codes "S") None ∷ []) [] ∷ used (codes "s") ∷ []))
    -- o + 1;
    ∷ effect (binary operator.Add (used (codes "o") ∷ number 1 ∷ []))
    -- o++;
    ∷ effect (tree (kind.Post false) (used (codes "o") ∷ []))
    -- v - v;
    ∷ effect (binary operator.Sub (used (codes "v") ∷ used (codes "v") ∷ []))
    -- fp - fp;
    ∷ effect (binary operator.Sub (used (codes "fp") ∷ used (codes "fp") ∷ []))
    -- p - &c;
    ∷ effect (binary operator.Sub (used (codes "p") ∷ unary_of unary.Address (used (codes "c")) ∷ []))
    -- x - p;
    ∷ effect (binary operator.Sub (used (codes "x") ∷ used (codes "p") ∷ []))
    -- p + p;
    ∷ effect (binary operator.Add (used (codes "p") ∷ used (codes "p") ∷ []))
    -- fp + 1;
    ∷ effect (binary operator.Add (used (codes "fp") ∷ number 1 ∷ []))
    -- p == fp;
    ∷ effect (binary operator.Eq (used (codes "p") ∷ used (codes "fp") ∷ []))
    -- fp < fp;
    ∷ effect (binary operator.Lt (used (codes "fp") ∷ used (codes "fp") ∷ []))
    -- p < 0;
    ∷ effect (binary operator.Lt (used (codes "p") ∷ number 0 ∷ []))
    -- p == x;
    ∷ effect (binary operator.Eq (used (codes "p") ∷ used (codes "x") ∷ []))
    -- s == s;
    ∷ effect (binary operator.Eq (used (codes "s") ∷ used (codes "s") ∷ []))
    -- x % p;
    ∷ effect (binary operator.Rem (used (codes "x") ∷ used (codes "p") ∷ []))
    -- -s;
    ∷ effect (unary_of unary.Minus (used (codes "s")))
    -- ~p;
    ∷ effect (unary_of unary.Complement (used (codes "p")))
    -- +p;
    ∷ effect (unary_of unary.Plus (used (codes "p")))
    -- x << p;
    ∷ effect (binary operator.Shl (used (codes "x") ∷ used (codes "p") ∷ []))
    -- p *= 1;
    ∷ effect (tree (kind.Assign (Some operator.Mul)) (used (codes "p") ∷ number 1 ∷ []))
    -- s += 1;
    ∷ effect (tree (kind.Assign (Some operator.Add)) (used (codes "s") ∷ number 1 ∷ []))
    -- (s = t);
    ∷ effect (parens (assign (used (codes "s")) (used (codes "t"))))
    -- x = (s = t, 1);
    ∷ effect (assign (used (codes "x"))
    (parens (tree kind.Comma (assign (used (codes "s")) (used (codes "t")) ∷ number 1 ∷ []))))
    -- f(1).a;
    ∷ effect (tree (kind.Dot false (codes "a")) (call (used (codes "f")) (number 1 ∷ []) ∷ []))
    -- s->a;
    ∷ effect (tree (kind.Dot true (codes "a")) (used (codes "s") ∷ []))
    -- p->a;
    ∷ effect (tree (kind.Dot true (codes "a")) (used (codes "p") ∷ []))
    -- x.a;
    ∷ effect (tree (kind.Dot false (codes "a")) (used (codes "x") ∷ []))
    -- sizeof f;
    ∷ effect (tree kind.SizeofValue (used (codes "f") ∷ []))
    -- sizeof(int (void));
    ∷ effect
    (tree kind.SizeofType (named_type (word.Int ∷ []) (leaf (kind.Params false true) ∷ []) ∷ []))
    -- switch(p){ }
    ∷ tree kind.Switch (used (codes "p") ∷ [])
    -- v + 1;
    ∷ effect (binary operator.Add (used (codes "v") ∷ number 1 ∷ []))
    -- fp++;
    ∷ effect (tree (kind.Post false) (used (codes "fp") ∷ []))
    -- v++;
    ∷ effect (tree (kind.Post false) (used (codes "v") ∷ []))
    -- 5[6];
    ∷ effect (element (number 5) (number 6))
    -- 1 ? p : &c;
    ∷ effect
    (tree kind.Choose (number 1 ∷ used (codes "p") ∷ unary_of unary.Address (used (codes "c")) ∷ []))
    -- 1 ? s : t;
    ∷ effect (tree kind.Choose (number 1 ∷ used (codes "s") ∷ used (codes "t") ∷ []))
    -- p > v;
    ∷ effect (binary operator.Gt (used (codes "p") ∷ used (codes "v") ∷ []))
    -- p[p];
    ∷ effect (element (used (codes "p")) (used (codes "p")))
    -- *x;
    ∷ effect (unary_of unary.Deref (used (codes "x")))
    -- s++;
    ∷ effect (tree (kind.Post false) (used (codes "s") ∷ []))
    -- *v;
    ∷ effect (unary_of unary.Deref (used (codes "v")))
    -- -p;
    ∷ effect (unary_of unary.Minus (used (codes "p")))
    -- p * 2;
    ∷ effect (binary operator.Mul (used (codes "p") ∷ number 2 ∷ []))
    -- p << 1;
    ∷ effect (binary operator.Shl (used (codes "p") ∷ number 1 ∷ []))
    -- 1 - p;
    ∷ effect (binary operator.Sub (number 1 ∷ used (codes "p") ∷ []))
    -- p == 1;
    ∷ effect (binary operator.Eq (used (codes "p") ∷ number 1 ∷ []))
    -- 1 ? p : 1;
    ∷ effect (tree kind.Choose (number 1 ∷ used (codes "p") ∷ number 1 ∷ []))
    -- p *= 2;
    ∷ effect (tree (kind.Assign (Some operator.Mul)) (used (codes "p") ∷ number 2 ∷ []))
    ∷ []

abbrev pub bad_assignments : List Syntax
bad_assignments =
    -- v = f;
    effect (assign (used (codes "v")) (used (codes "f")))
    -- fp = v;
    ∷ effect (assign (used (codes "fp")) (used (codes "v")))
    -- p = x;
    ∷ effect (assign (used (codes "p")) (used (codes "x")))
    -- p = &c;
    ∷ effect (assign (used (codes "p")) (unary_of unary.Address (used (codes "c"))))
    -- x = p;
    ∷ effect (assign (used (codes "x")) (used (codes "p")))
    -- x = n();
    ∷ effect (assign (used (codes "x")) (call (used (codes "n")) []))
    -- s = 1;
    ∷ effect (assign (used (codes "s")) (number 1))
    -- f(p);
    ∷ effect (call (used (codes "f")) (used (codes "p") ∷ []))
    -- f(s);
    ∷ effect (call (used (codes "f")) (used (codes "s") ∷ []))
    -- f(n());
    ∷ effect (call (used (codes "f")) (call (used (codes "n")) [] ∷ []))
    -- f(p, p);
    ∷ effect (call (used (codes "f")) (used (codes "p") ∷ used (codes "p") ∷ []))
    -- exits(p);
    ∷ effect (call (used (codes "exits")) (used (codes "p") ∷ []))
    -- write(1, f, 1);
    ∷ effect (call (used (codes "write")) (number 1 ∷ used (codes "f") ∷ number 1 ∷ []))
    -- p -= p;
    ∷ effect (tree (kind.Assign (Some operator.Sub)) (used (codes "p") ∷ used (codes "p") ∷ []))
    -- x += p;
    ∷ effect (tree (kind.Assign (Some operator.Add)) (used (codes "x") ∷ used (codes "p") ∷ []))
    -- p = s;
    ∷ effect (assign (used (codes "p")) (used (codes "s")))
    -- p = 1;
    ∷ effect (assign (used (codes "p")) (number 1))
    -- c = p;
    ∷ effect (assign (used (codes "c")) (used (codes "p")))
    -- p = (char*)0;
    ∷ effect (assign (used (codes "p"))
    (tree kind.Cast (named_type (word.Char ∷ []) (leaf (kind.Star []) ∷ []) ∷ number 0 ∷ [])))
    -- p = 5;
    ∷ effect (assign (used (codes "p")) (number 5))
    ∷ []

abbrev pub no_functions : List Syntax
no_functions =
    -- x();
    effect (call (used (codes "x")) [])
    -- p();
    ∷ effect (call (used (codes "p")) [])
    -- s();
    ∷ effect (call (used (codes "s")) [])
    -- 1();
    ∷ effect (call (number 1) [])
    ∷ []

abbrev pub wrong_counts : List Syntax
wrong_counts =
    -- f();
    effect (call (used (codes "f")) [])
    -- f(1, 2);
    ∷ effect (call (used (codes "f")) (number 1 ∷ number 2 ∷ []))
    -- n(1);
    ∷ effect (call (used (codes "n")) (number 1 ∷ []))
    -- exits();
    ∷ effect (call (used (codes "exits")) [])
    ∷ []

abbrev pub no_members : List Syntax
no_members =
    -- s.b;
    effect (tree (kind.Dot false (codes "b")) (used (codes "s") ∷ []))
    -- (&s)->b;
    ∷ effect
    (tree (kind.Dot true (codes "b")) (parens (unary_of unary.Address (used (codes "s"))) ∷ []))
    ∷ []

abbrev pub no_scalars : List Syntax
no_scalars =
    -- !s;
    effect (unary_of unary.Not (used (codes "s")))
    -- s && 1;
    ∷ effect (binary operator.AndAnd (used (codes "s") ∷ number 1 ∷ []))
    -- 1 || s;
    ∷ effect (binary operator.OrOr (number 1 ∷ used (codes "s") ∷ []))
    -- if(s) ;
    ∷ if_holds (used (codes "s")) (leaf kind.Expression)
    -- !n();
    ∷ effect (unary_of unary.Not (call (used (codes "n")) []))
    -- n() ? 1 : 2;
    ∷ effect (tree kind.Choose (call (used (codes "n")) [] ∷ number 1 ∷ number 2 ∷ []))
    -- while(n()) ;
    ∷ tree kind.While (call (used (codes "n")) [] ∷ leaf kind.Expression ∷ [])
    -- do ; while(s);
    ∷ tree kind.Do (leaf kind.Expression ∷ used (codes "s") ∷ [])
    -- for(;s;) ;
    ∷ tree (kind.For false true false) (used (codes "s") ∷ leaf kind.Expression ∷ [])
    -- s ? 1 : 2;
    ∷ effect (tree kind.Choose (used (codes "s") ∷ number 1 ∷ number 2 ∷ []))
    -- while(s);
    ∷ tree kind.While (used (codes "s") ∷ leaf kind.Expression ∷ [])
    ∷ []

abbrev pub bad_constants : List Syntax
bad_constants =
    -- sizeof(int[0]);
    effect (tree kind.SizeofType
    (named_type (word.Int ∷ []) (tree (kind.Brackets false true) (number 0 ∷ []) ∷ []) ∷ []))
    -- switch(x){ case x: ; }
    ∷ tree kind.Switch
    (used (codes "x") ∷ tree kind.Case (used (codes "x") ∷ []) ∷ leaf kind.Expression ∷ [])
    -- switch(x){ case 1 / 0: ; }
    ∷ tree kind.Switch (used (codes "x")
    ∷ tree kind.Case (binary operator.Div (number 1 ∷ number 0 ∷ []) ∷ [])
    ∷ leaf kind.Expression ∷ [])
    -- (int*)0, sizeof(char[16777217]);
    ∷ effect (tree kind.Comma
    (tree kind.Cast (named_type (word.Int ∷ []) (leaf (kind.Star []) ∷ []) ∷ number 0 ∷ [])
    ∷ tree kind.SizeofType
    (named_type (word.Char ∷ []) (tree (kind.Brackets false true) (number 16777217 ∷ []) ∷ []) ∷ []) ∷ []))
    ∷ []

abbrev pub bad_returns : List Syntax
bad_returns =
    -- return 1;
    returns (number 1)
    -- return x;
    ∷ returns (used (codes "x"))
    ∷ []

abbrev pub misplaced : List Syntax
misplaced =
    -- break;
    leaf kind.Break
    -- continue;
    ∷ leaf kind.Continue
    -- switch(1){ case -1: case 4294967295: ; }
    ∷ tree kind.Switch (number 1
    ∷ tree kind.Case (unary_of unary.Minus (number 1) ∷ [])
    ∷ tree kind.Case (number 4294967295 ∷ [])
    ∷ leaf kind.Expression ∷ [])
    -- switch(1){ default: default: ; }
    ∷ tree kind.Switch (number 1 ∷ leaf kind.Default ∷ leaf kind.Default ∷ leaf kind.Expression ∷ [])
    -- switch(x){ case 1: case 1: ; }
    ∷ tree kind.Switch (used (codes "x")
    ∷ tree kind.Case (number 1 ∷ [])
    ∷ tree kind.Case (number 1 ∷ [])
    ∷ leaf kind.Expression ∷ [])
    -- switch(x){ default: default: ; }
    ∷ tree kind.Switch
    (used (codes "x") ∷ leaf kind.Default ∷ leaf kind.Default ∷ leaf kind.Expression ∷ [])
    -- switch(x){ default: continue; }
    ∷ tree kind.Switch (used (codes "x") ∷ leaf kind.Default ∷ leaf kind.Continue ∷ [])
    ∷ []

pub record RowsOfStatements : Type 0 where
  pub valid_told : bodies_told 0 valid ≡ true
  pub incomplete_told : bodies_told 13 incomplete ≡ true
  pub undeclared_told : bodies_told 15 undeclared ≡ true
  pub no_lvalues_told : bodies_told 17 no_lvalues ≡ true
  pub bad_operands_told : bodies_told 18 bad_operands ≡ true
  pub bad_assignments_told : bodies_told 19 bad_assignments ≡ true
  pub no_functions_told : bodies_told 20 no_functions ≡ true
  pub wrong_counts_told : bodies_told 21 wrong_counts ≡ true
  pub no_members_told : bodies_told 22 no_members ≡ true
  pub no_scalars_told : bodies_told 23 no_scalars ≡ true
  pub bad_constants_told : bodies_told 24 bad_constants ≡ true
  pub bad_returns_told : bodies_told 25 bad_returns ≡ true
  pub misplaced_told : bodies_told 26 misplaced ≡ true
