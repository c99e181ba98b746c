-- Programs for calls: arguments, system calls, turns and room.
use Rattle.std.specs.Prelude.{◌≡◌, true, false, List, [], ◌∷◌, Some, codes}
use Rattle.p9_lang.specs.declared.tree.CBinary.TheVariants as operator
use Rattle.p9_lang.specs.declared.tree.CUnary.TheVariants as unary
use Rattle.p9_lang.specs.declared.tree.SpecWord.TheVariants as word
use Rattle.p9_lang.specs.declared.tree.Kind.TheVariants as kind
use Rattle.p9_lang.specs.Trees.{Syntax}
use Rattle.p9_lang.specs.ExampleTrees.{tree, declaration, function, parameter, named, used, number, text, binary}
use Rattle.p9_cmean.specs.Cells.{Global}
use Rattle.p9_cmean.specs.ExampleRuns.{variable, main, no_parameters, block, effect, call, assign, unary_of, if_holds, returns, element, parens, Ends, Waits, IsDeep, run}

-- void main(int argc, char **argv){ if(argc == 1 && argv[1] == 0) write(1, argv[0], 5);
-- exits(argv[0]); }
abbrev pub arguments : List (List Syntax)
arguments =
    (function
    (word.Void ∷ [])
    (tree
    (kind.Params true false)
    (named (codes "main")
    ∷ parameter (word.Int ∷ []) (named (codes "argc") ∷ [])
    ∷ parameter
    (word.Char ∷ [])
    (tree (kind.Star []) (tree (kind.Star []) (named (codes "argv") ∷ []) ∷ []) ∷ []) ∷ [])
    ∷ block
    (if_holds
    (binary operator.AndAnd
    (binary operator.Eq (used (codes "argc") ∷ number 1 ∷ [])
    ∷ binary operator.Eq (element (used (codes "argv")) (number 1) ∷ number 0 ∷ []) ∷ []))
    (effect
    (call
    (used (codes "write"))
    (number 1 ∷ element (used (codes "argv")) (number 0) ∷ number 5 ∷ [])))
    ∷ effect (call (used (codes "exits")) (element (used (codes "argv")) (number 0) ∷ [])) ∷ []) ∷ []) ∷ []) ∷ []

-- char c; void main(void){ read(0, &c, 1); write(1, &c, 1); read(0, &c, 1); write(1, &c, 1); read(0,
-- &c, 1); exits(0); }
abbrev pub echo : List (List Syntax)
echo =
    (declaration (word.Char ∷ []) (false ∷ []) (named (codes "c") ∷ [])
    ∷ main
    (effect
    (call
    (used (codes "read"))
    (number 0 ∷ unary_of unary.Address (used (codes "c")) ∷ number 1 ∷ []))
    ∷ effect
    (call
    (used (codes "write"))
    (number 1 ∷ unary_of unary.Address (used (codes "c")) ∷ number 1 ∷ []))
    ∷ effect
    (call
    (used (codes "read"))
    (number 0 ∷ unary_of unary.Address (used (codes "c")) ∷ number 1 ∷ []))
    ∷ effect
    (call
    (used (codes "write"))
    (number 1 ∷ unary_of unary.Address (used (codes "c")) ∷ number 1 ∷ []))
    ∷ effect
    (call
    (used (codes "read"))
    (number 0 ∷ unary_of unary.Address (used (codes "c")) ∷ number 1 ∷ []))
    ∷ effect (call (used (codes "exits")) (number 0 ∷ [])) ∷ []) ∷ []) ∷ []

-- char c; void main(void){ read(0, &c, 1); write(1, &c, 1); read(0, &c, 1); write(1, &c, 1); read(0,
-- &c, 1); exits(0); }
abbrev pub echo_waits : List (List Syntax)
echo_waits =
    (declaration (word.Char ∷ []) (false ∷ []) (named (codes "c") ∷ [])
    ∷ main
    (effect
    (call
    (used (codes "read"))
    (number 0 ∷ unary_of unary.Address (used (codes "c")) ∷ number 1 ∷ []))
    ∷ effect
    (call
    (used (codes "write"))
    (number 1 ∷ unary_of unary.Address (used (codes "c")) ∷ number 1 ∷ []))
    ∷ effect
    (call
    (used (codes "read"))
    (number 0 ∷ unary_of unary.Address (used (codes "c")) ∷ number 1 ∷ []))
    ∷ effect
    (call
    (used (codes "write"))
    (number 1 ∷ unary_of unary.Address (used (codes "c")) ∷ number 1 ∷ []))
    ∷ effect
    (call
    (used (codes "read"))
    (number 0 ∷ unary_of unary.Address (used (codes "c")) ∷ number 1 ∷ []))
    ∷ effect (call (used (codes "exits")) (number 0 ∷ [])) ∷ []) ∷ []) ∷ []

-- char c[4]; void main(void){ if(write(1, c, 0) == 0 && write(1, c, -1) == -1 && write(0, c, 1) == -1
-- && read(0, c, 0) == 0 && read(0, c, -1) == -1 && read(1, c, 1) == -1 && read(0, c, 4) == 2 &&
-- read(0, c, 4) == 0) exits(c); exits("bad"); }
abbrev pub counts : List (List Syntax)
counts =
    (declaration
    (word.Char ∷ [])
    (false ∷ [])
    (tree (kind.Brackets true true) (named (codes "c") ∷ number 4 ∷ []) ∷ [])
    ∷ main
    (if_holds
    (binary operator.AndAnd
    (binary operator.AndAnd
    (binary operator.AndAnd
    (binary operator.AndAnd
    (binary operator.AndAnd
    (binary operator.AndAnd
    (binary operator.AndAnd
    (binary operator.Eq
    (call
    (used (codes "write"))
    (number 1 ∷ used (codes "c") ∷ number 0 ∷ [])
    ∷ number 0 ∷ [])
    ∷ binary operator.Eq
    (call
    (used (codes "write"))
    (number 1
    ∷ used (codes "c")
    ∷ unary_of unary.Minus (number 1) ∷ [])
    ∷ unary_of unary.Minus (number 1) ∷ []) ∷ [])
    ∷ binary operator.Eq
    (call
    (used (codes "write"))
    (number 0 ∷ used (codes "c") ∷ number 1 ∷ [])
    ∷ unary_of unary.Minus (number 1) ∷ []) ∷ [])
    ∷ binary operator.Eq
    (call
    (used (codes "read"))
    (number 0 ∷ used (codes "c") ∷ number 0 ∷ [])
    ∷ number 0 ∷ []) ∷ [])
    ∷ binary operator.Eq
    (call
    (used (codes "read"))
    (number 0
    ∷ used (codes "c")
    ∷ unary_of unary.Minus (number 1) ∷ [])
    ∷ unary_of unary.Minus (number 1) ∷ []) ∷ [])
    ∷ binary operator.Eq
    (call
    (used (codes "read"))
    (number 1 ∷ used (codes "c") ∷ number 1 ∷ [])
    ∷ unary_of unary.Minus (number 1) ∷ []) ∷ [])
    ∷ binary operator.Eq
    (call (used (codes "read")) (number 0 ∷ used (codes "c") ∷ number 4 ∷ [])
    ∷ number 2 ∷ []) ∷ [])
    ∷ binary operator.Eq
    (call (used (codes "read")) (number 0 ∷ used (codes "c") ∷ number 4 ∷ [])
    ∷ number 0 ∷ []) ∷ []))
    (effect (call (used (codes "exits")) (used (codes "c") ∷ [])))
    ∷ effect (call (used (codes "exits")) (text (codes "bad" ∷ []) ∷ [])) ∷ []) ∷ []) ∷ []

-- int f(void), g(int); int (*h)(void); static int k(int a){ return a; } int f(void){ return 5; } int
-- g(int x){ return k(x); } void main(void){ h = f; if(h == f && (*h)() + g(2) == 7) exits(0);
-- exits("bad"); }
abbrev pub through_pointers : List (List Syntax)
through_pointers =
    (declaration
    (word.Int ∷ [])
    (false ∷ false ∷ [])
    (no_parameters (named (codes "f"))
    ∷ tree (kind.Params true false) (named (codes "g") ∷ parameter (word.Int ∷ []) [] ∷ []) ∷ [])
    ∷ declaration
    (word.Int ∷ [])
    (false ∷ [])
    (no_parameters (tree kind.DeclParens (tree (kind.Star []) (named (codes "h") ∷ []) ∷ [])) ∷ [])
    ∷ function
    (word.Static ∷ word.Int ∷ [])
    (tree
    (kind.Params true false)
    (named (codes "k") ∷ parameter (word.Int ∷ []) (named (codes "a") ∷ []) ∷ [])
    ∷ block (returns (used (codes "a")) ∷ []) ∷ [])
    ∷ function
    (word.Int ∷ [])
    (no_parameters (named (codes "f")) ∷ block (returns (number 5) ∷ []) ∷ [])
    ∷ function
    (word.Int ∷ [])
    (tree
    (kind.Params true false)
    (named (codes "g") ∷ parameter (word.Int ∷ []) (named (codes "x") ∷ []) ∷ [])
    ∷ block (returns (call (used (codes "k")) (used (codes "x") ∷ [])) ∷ []) ∷ [])
    ∷ main
    (effect (assign (used (codes "h")) (used (codes "f")))
    ∷ if_holds
    (binary operator.AndAnd
    (binary operator.Eq (used (codes "h") ∷ used (codes "f") ∷ [])
    ∷ binary operator.Eq
    (binary operator.Add
    (call (parens (unary_of unary.Deref (used (codes "h")))) []
    ∷ call (used (codes "g")) (number 2 ∷ []) ∷ [])
    ∷ number 7 ∷ []) ∷ []))
    (effect (call (used (codes "exits")) (number 0 ∷ [])))
    ∷ effect (call (used (codes "exits")) (text (codes "bad" ∷ []) ∷ [])) ∷ []) ∷ []) ∷ []

-- int sum(int n){ int m; m = n; if(m) return m + sum(m - 1); return 0; } void main(void){ if(sum(3) ==
-- 6) exits(0); exits("bad"); }
abbrev pub recursion : List (List Syntax)
recursion =
    (function
    (word.Int ∷ [])
    (tree
    (kind.Params true false)
    (named (codes "sum") ∷ parameter (word.Int ∷ []) (named (codes "n") ∷ []) ∷ [])
    ∷ block
    (variable (codes "m")
    ∷ effect (assign (used (codes "m")) (used (codes "n")))
    ∷ if_holds
    (used (codes "m"))
    (returns
    (binary operator.Add
    (used (codes "m")
    ∷ call
    (used (codes "sum"))
    (binary operator.Sub (used (codes "m") ∷ number 1 ∷ []) ∷ []) ∷ [])))
    ∷ returns (number 0) ∷ []) ∷ [])
    ∷ main
    (if_holds
    (binary operator.Eq (call (used (codes "sum")) (number 3 ∷ []) ∷ number 6 ∷ []))
    (effect (call (used (codes "exits")) (number 0 ∷ [])))
    ∷ effect (call (used (codes "exits")) (text (codes "bad" ∷ []) ∷ [])) ∷ []) ∷ []) ∷ []

-- int sum(int n){ int m; m = n; if(m) return m + sum(m - 1); return 0; } void main(void){ if(sum(3) ==
-- 6) exits(0); exits("bad"); }
abbrev pub recursion_out : List (List Syntax)
recursion_out =
    (function
    (word.Int ∷ [])
    (tree
    (kind.Params true false)
    (named (codes "sum") ∷ parameter (word.Int ∷ []) (named (codes "n") ∷ []) ∷ [])
    ∷ block
    (variable (codes "m")
    ∷ effect (assign (used (codes "m")) (used (codes "n")))
    ∷ if_holds
    (used (codes "m"))
    (returns
    (binary operator.Add
    (used (codes "m")
    ∷ call
    (used (codes "sum"))
    (binary operator.Sub (used (codes "m") ∷ number 1 ∷ []) ∷ []) ∷ [])))
    ∷ returns (number 0) ∷ []) ∷ [])
    ∷ main
    (if_holds
    (binary operator.Eq (call (used (codes "sum")) (number 3 ∷ []) ∷ number 6 ∷ []))
    (effect (call (used (codes "exits")) (number 0 ∷ [])))
    ∷ effect (call (used (codes "exits")) (text (codes "bad" ∷ []) ∷ [])) ∷ []) ∷ []) ∷ []

-- void main(void){ if(0){ char a[16777000]; } }
abbrev pub just_fits : List (List Syntax)
just_fits =
    (main
    (if_holds
    (number 0)
    (block
    (declaration
    (word.Char ∷ [])
    (false ∷ [])
    (tree (kind.Brackets true true) (named (codes "a") ∷ number 16777000 ∷ []) ∷ []) ∷ [])) ∷ []) ∷ []) ∷ []

-- void main(void){ if(0){ char a[16777001]; } }
abbrev pub too_deep : List (List Syntax)
too_deep =
    (main
    (if_holds
    (number 0)
    (block
    (declaration
    (word.Char ∷ [])
    (false ∷ [])
    (tree (kind.Brackets true true) (named (codes "a") ∷ number 16777001 ∷ []) ∷ []) ∷ [])) ∷ []) ∷ []) ∷ []

-- void main(void){ if(0){ char a[16776840]; } write(1, "a", 1); exits(0); }
abbrev pub call_fits : List (List Syntax)
call_fits =
    (main
    (if_holds
    (number 0)
    (block
    (declaration
    (word.Char ∷ [])
    (false ∷ [])
    (tree (kind.Brackets true true) (named (codes "a") ∷ number 16776840 ∷ []) ∷ []) ∷ []))
    ∷ effect (call (used (codes "write")) (number 1 ∷ text (codes "a" ∷ []) ∷ number 1 ∷ []))
    ∷ effect (call (used (codes "exits")) (number 0 ∷ [])) ∷ []) ∷ []) ∷ []

-- void main(void){ if(0){ char a[16776841]; } write(1, "a", 1); exits(0); }
abbrev pub call_too_deep : List (List Syntax)
call_too_deep =
    (main
    (if_holds
    (number 0)
    (block
    (declaration
    (word.Char ∷ [])
    (false ∷ [])
    (tree (kind.Brackets true true) (named (codes "a") ∷ number 16776841 ∷ []) ∷ []) ∷ []))
    ∷ effect (call (used (codes "write")) (number 1 ∷ text (codes "a" ∷ []) ∷ number 1 ∷ []))
    ∷ effect (call (used (codes "exits")) (number 0 ∷ [])) ∷ []) ∷ []) ∷ []

pub record RunsOfCalls : Type 0 where
  pub runs_arguments : run arguments [] 12 ≡ Some (Ends (codes "v.out") (codes "v.out") [])
  pub runs_echo : run echo (codes "abc") 7 ≡ Some (Ends (codes "ab") [] [])
  pub runs_echo_waits : run echo_waits (codes "abc") 5 ≡ Some (Waits (Global (codes "read")) (codes "ab") (codes "c"))
  pub runs_counts : run counts (codes "hi") 10 ≡ Some (Ends [] (codes "hi") [])
  pub runs_through_pointers : run through_pointers [] 12 ≡ Some (Ends [] [] [])
  pub runs_recursion : run recursion [] 6 ≡ Some (Ends [] [] [])
  pub runs_recursion_out : run recursion_out [] 3 ≡ Some (Waits (Global (codes "sum")) [] [])
  pub runs_just_fits : run just_fits [] 1 ≡ Some (Ends [] (codes "main") [])
  pub runs_too_deep : run too_deep [] 1 ≡ Some (IsDeep [] 0 10)
  pub runs_call_fits : run call_fits [] 9 ≡ Some (Ends (codes "a") [] [])
  pub runs_call_too_deep : run call_too_deep [] 9 ≡ Some (IsDeep [] 0 13)
