-- Two parts of a program that counts lines, words and characters.
use Rattle.std.specs.Prelude.{◌≡◌, true, false, List, [], ◌∷◌, Some, codes}
use Rattle.p9_lang.specs.declared.tree.CBinary.TheVariants as operator
use Rattle.p9_lang.specs.declared.tree.CUnary.TheVariants as unary
use Rattle.p9_lang.specs.declared.tree.SpecWord.TheVariants as word
use Rattle.p9_lang.specs.declared.tree.Kind.TheVariants as kind
use Rattle.p9_lang.specs.Trees.{Syntax}
use Rattle.p9_lang.specs.ExampleTrees.{tree, leaf, declaration, function, member, parameter, named, used, number, text, binary}
use Rattle.p9_cmean.specs.ExampleRuns.{variable, main, block, effect, call, assign, unary_of, if_holds, element, parens, Ends, run}

-- void put(unsigned long v, char end){ char t[12]; int i; i = 11; t[i] = end; do { i = i - 1; t[i] =
-- 48 + v % 10; v = v / 10; } while(v != 0); write(1, &t[i], 12 - i); } void main(void){ put(305, 32);
-- put(0, 10); exits(0); }
abbrev pub printed : List (List Syntax)
printed =
    (function
    (word.Void ∷ [])
    (tree
    (kind.Params true false)
    (named (codes "put")
    ∷ parameter (word.Unsigned ∷ word.Long ∷ []) (named (codes "v") ∷ [])
    ∷ parameter (word.Char ∷ []) (named (codes "end") ∷ []) ∷ [])
    ∷ block
    (declaration
    (word.Char ∷ [])
    (false ∷ [])
    (tree (kind.Brackets true true) (named (codes "t") ∷ number 12 ∷ []) ∷ [])
    ∷ variable (codes "i")
    ∷ effect (assign (used (codes "i")) (number 11))
    ∷ effect (assign (element (used (codes "t")) (used (codes "i"))) (used (codes "end")))
    ∷ tree kind.Do
    (block
    (effect
    (assign
    (used (codes "i"))
    (binary operator.Sub (used (codes "i") ∷ number 1 ∷ [])))
    ∷ effect
    (assign
    (element (used (codes "t")) (used (codes "i")))
    (binary operator.Add
    (number 48
    ∷ binary operator.Rem (used (codes "v") ∷ number 10 ∷ []) ∷ [])))
    ∷ effect
    (assign
    (used (codes "v"))
    (binary operator.Div (used (codes "v") ∷ number 10 ∷ []))) ∷ [])
    ∷ binary operator.Ne (used (codes "v") ∷ number 0 ∷ []) ∷ [])
    ∷ effect
    (call
    (used (codes "write"))
    (number 1
    ∷ unary_of unary.Address (element (used (codes "t")) (used (codes "i")))
    ∷ binary operator.Sub (number 12 ∷ used (codes "i") ∷ []) ∷ [])) ∷ []) ∷ [])
    ∷ main
    (effect (call (used (codes "put")) (number 305 ∷ number 32 ∷ []))
    ∷ effect (call (used (codes "put")) (number 0 ∷ number 10 ∷ []))
    ∷ effect (call (used (codes "exits")) (number 0 ∷ [])) ∷ []) ∷ []) ∷ []

-- struct Count { unsigned long n[3]; } total; char buf[8]; void main(void){ int state; long i, n;
-- state = 0; while((n = read(0, buf, sizeof buf)) > 0) for(i = 0; i < n; i++){ total.n[2]++;
-- switch(buf[i]){ case 10: total.n[0]++; case 32: case 9: state = 0; break; default: if(state == 0)
-- total.n[1]++; state = 1; } } if(total.n[0] == 1 && total.n[1] == 2 && total.n[2] == 5) exits(0);
-- exits("bad"); }
abbrev pub counted : List (List Syntax)
counted =
    (declaration
    (word.Tag false (codes "Count") (Some 1) ∷ [])
    (false ∷ [])
    (member
    (word.Unsigned ∷ word.Long ∷ [])
    (tree (kind.Brackets true true) (named (codes "n") ∷ number 3 ∷ []) ∷ [])
    ∷ named (codes "total") ∷ [])
    ∷ declaration
    (word.Char ∷ [])
    (false ∷ [])
    (tree (kind.Brackets true true) (named (codes "buf") ∷ number 8 ∷ []) ∷ [])
    ∷ main
    (variable (codes "state")
    ∷ declaration
    (word.Long ∷ [])
    (false ∷ false ∷ [])
    (named (codes "i") ∷ named (codes "n") ∷ [])
    ∷ effect (assign (used (codes "state")) (number 0))
    ∷ tree kind.While
    (binary operator.Gt
    (parens
    (assign
    (used (codes "n"))
    (call
    (used (codes "read"))
    (number 0
    ∷ used (codes "buf")
    ∷ tree kind.SizeofValue (used (codes "buf") ∷ []) ∷ [])))
    ∷ number 0 ∷ [])
    ∷ tree
    (kind.For true true true)
    (assign (used (codes "i")) (number 0)
    ∷ binary operator.Lt (used (codes "i") ∷ used (codes "n") ∷ [])
    ∷ tree (kind.Post false) (used (codes "i") ∷ [])
    ∷ block
    (effect
    (tree
    (kind.Post false)
    (element
    (tree (kind.Dot false (codes "n")) (used (codes "total") ∷ []))
    (number 2) ∷ []))
    ∷ tree kind.Switch
    (element (used (codes "buf")) (used (codes "i"))
    ∷ tree kind.Case (number 10 ∷ [])
    ∷ effect
    (tree
    (kind.Post false)
    (element
    (tree
    (kind.Dot false (codes "n"))
    (used (codes "total") ∷ []))
    (number 0) ∷ []))
    ∷ tree kind.Case (number 32 ∷ [])
    ∷ tree kind.Case (number 9 ∷ [])
    ∷ effect (assign (used (codes "state")) (number 0))
    ∷ leaf kind.Break
    ∷ leaf kind.Default
    ∷ if_holds
    (binary operator.Eq (used (codes "state") ∷ number 0 ∷ []))
    (effect
    (tree
    (kind.Post false)
    (element
    (tree
    (kind.Dot false (codes "n"))
    (used (codes "total") ∷ []))
    (number 1) ∷ [])))
    ∷ effect (assign (used (codes "state")) (number 1)) ∷ []) ∷ []) ∷ []) ∷ [])
    ∷ if_holds
    (binary operator.AndAnd
    (binary operator.AndAnd
    (binary operator.Eq
    (element
    (tree (kind.Dot false (codes "n")) (used (codes "total") ∷ []))
    (number 0)
    ∷ number 1 ∷ [])
    ∷ binary operator.Eq
    (element
    (tree (kind.Dot false (codes "n")) (used (codes "total") ∷ []))
    (number 1)
    ∷ number 2 ∷ []) ∷ [])
    ∷ binary operator.Eq
    (element
    (tree (kind.Dot false (codes "n")) (used (codes "total") ∷ []))
    (number 2)
    ∷ number 5 ∷ []) ∷ []))
    (effect (call (used (codes "exits")) (number 0 ∷ [])))
    ∷ effect (call (used (codes "exits")) (text (codes "bad" ∷ []) ∷ [])) ∷ []) ∷ []) ∷ []

pub record RunsOfWordCounter : Type 0 where
  pub runs_printed : run printed [] 12 ≡ Some (Ends (51 ∷ 48 ∷ 53 ∷ 32 ∷ 48 ∷ 10 ∷ []) [] [])
  pub runs_counted : run counted (97 ∷ 32 ∷ 98 ∷ 99 ∷ 10 ∷ []) 12 ≡ Some (Ends [] [] [])
