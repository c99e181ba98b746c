-- Programs for statements: loops, switches, blocks and returns.
use Rattle.std.specs.Prelude.{◌≡◌, true, false, List, [], ◌∷◌, Some, codes}
use Rattle.p9_lang.specs.declared.tree.CBinary.TheVariants as operator
use Rattle.p9_lang.specs.declared.tree.CUnary.TheVariants as unary
use Rattle.p9_lang.specs.declared.tree.SpecWord.TheVariants as word
use Rattle.p9_lang.specs.declared.tree.Kind.TheVariants as kind
use Rattle.p9_lang.specs.Trees.{Syntax}
use Rattle.p9_lang.specs.ExampleTrees.{tree, leaf, declaration, function, named, used, number, text, binary}
use Rattle.p9_cmean.specs.ExampleRuns.{variable, main, no_parameters, block, effect, call, assign, unary_of, if_holds, returns, Ends, InLoop, run}

-- int i, s; void main(void){ char c; while(i < 9){ i++; if(i == 2) continue; if(i == 5) break; s += i;
-- } c = 48 + s; write(1, &c, 1); exits(0); }
abbrev pub while_loop : List (List Syntax)
while_loop =
    (declaration (word.Int ∷ []) (false ∷ false ∷ []) (named (codes "i") ∷ named (codes "s") ∷ [])
    ∷ main
    (declaration (word.Char ∷ []) (false ∷ []) (named (codes "c") ∷ [])
    ∷ tree kind.While
    (binary operator.Lt (used (codes "i") ∷ number 9 ∷ [])
    ∷ block
    (effect (tree (kind.Post false) (used (codes "i") ∷ []))
    ∷ if_holds
    (binary operator.Eq (used (codes "i") ∷ number 2 ∷ []))
    (leaf kind.Continue)
    ∷ if_holds
    (binary operator.Eq (used (codes "i") ∷ number 5 ∷ []))
    (leaf kind.Break)
    ∷ effect
    (tree
    (kind.Assign (Some operator.Add))
    (used (codes "s") ∷ used (codes "i") ∷ [])) ∷ []) ∷ [])
    ∷ effect
    (assign (used (codes "c")) (binary operator.Add (number 48 ∷ used (codes "s") ∷ [])))
    ∷ effect
    (call
    (used (codes "write"))
    (number 1 ∷ unary_of unary.Address (used (codes "c")) ∷ number 1 ∷ []))
    ∷ effect (call (used (codes "exits")) (number 0 ∷ [])) ∷ []) ∷ []) ∷ []

-- int i, s; void main(void){ char c; do { i++; if(i == 2) continue; if(i == 5) break; s += i; }
-- while(i < 9); c = 48 + s; write(1, &c, 1); exits(0); }
abbrev pub do_loop : List (List Syntax)
do_loop =
    (declaration (word.Int ∷ []) (false ∷ false ∷ []) (named (codes "i") ∷ named (codes "s") ∷ [])
    ∷ main
    (declaration (word.Char ∷ []) (false ∷ []) (named (codes "c") ∷ [])
    ∷ tree kind.Do
    (block
    (effect (tree (kind.Post false) (used (codes "i") ∷ []))
    ∷ if_holds
    (binary operator.Eq (used (codes "i") ∷ number 2 ∷ []))
    (leaf kind.Continue)
    ∷ if_holds
    (binary operator.Eq (used (codes "i") ∷ number 5 ∷ []))
    (leaf kind.Break)
    ∷ effect
    (tree
    (kind.Assign (Some operator.Add))
    (used (codes "s") ∷ used (codes "i") ∷ [])) ∷ [])
    ∷ binary operator.Lt (used (codes "i") ∷ number 9 ∷ []) ∷ [])
    ∷ effect
    (assign (used (codes "c")) (binary operator.Add (number 48 ∷ used (codes "s") ∷ [])))
    ∷ effect
    (call
    (used (codes "write"))
    (number 1 ∷ unary_of unary.Address (used (codes "c")) ∷ number 1 ∷ []))
    ∷ effect (call (used (codes "exits")) (number 0 ∷ [])) ∷ []) ∷ []) ∷ []

-- void main(void){ int i, s; char c; s = 0; for(i = 0; i < 4; i++) switch(i){ case 1: s += 1; case 2:
-- s += 2; break; default: s += 3; } c = 48 + s; write(1, &c, 1); exits(0); }
abbrev pub for_and_switch : List (List Syntax)
for_and_switch =
    (main
    (declaration
    (word.Int ∷ [])
    (false ∷ false ∷ [])
    (named (codes "i") ∷ named (codes "s") ∷ [])
    ∷ declaration (word.Char ∷ []) (false ∷ []) (named (codes "c") ∷ [])
    ∷ effect (assign (used (codes "s")) (number 0))
    ∷ tree
    (kind.For true true true)
    (assign (used (codes "i")) (number 0)
    ∷ binary operator.Lt (used (codes "i") ∷ number 4 ∷ [])
    ∷ tree (kind.Post false) (used (codes "i") ∷ [])
    ∷ tree kind.Switch
    (used (codes "i")
    ∷ tree kind.Case (number 1 ∷ [])
    ∷ effect
    (tree (kind.Assign (Some operator.Add)) (used (codes "s") ∷ number 1 ∷ []))
    ∷ tree kind.Case (number 2 ∷ [])
    ∷ effect
    (tree (kind.Assign (Some operator.Add)) (used (codes "s") ∷ number 2 ∷ []))
    ∷ leaf kind.Break
    ∷ leaf kind.Default
    ∷ effect
    (tree (kind.Assign (Some operator.Add)) (used (codes "s") ∷ number 3 ∷ [])) ∷ []) ∷ [])
    ∷ effect
    (assign (used (codes "c")) (binary operator.Add (number 48 ∷ used (codes "s") ∷ [])))
    ∷ effect
    (call
    (used (codes "write"))
    (number 1 ∷ unary_of unary.Address (used (codes "c")) ∷ number 1 ∷ []))
    ∷ effect (call (used (codes "exits")) (number 0 ∷ [])) ∷ []) ∷ []) ∷ []

-- void main(void){ write(1, "a", 1); for(;;); }
abbrev pub forever : List (List Syntax)
forever =
    (main
    (effect (call (used (codes "write")) (number 1 ∷ text (codes "a" ∷ []) ∷ number 1 ∷ []))
    ∷ tree (kind.For false false false) (leaf kind.Expression ∷ []) ∷ []) ∷ []) ∷ []

-- void main(void){ int i, s; s = 0; for(i = 0; i < 3; i++){ int k = i; { int k; k = 5; s = s + k; } s
-- = s + k; } if(s == 18) exits(0); exits("bad"); }
abbrev pub blocks : List (List Syntax)
blocks =
    (main
    (declaration
    (word.Int ∷ [])
    (false ∷ false ∷ [])
    (named (codes "i") ∷ named (codes "s") ∷ [])
    ∷ effect (assign (used (codes "s")) (number 0))
    ∷ tree
    (kind.For true true true)
    (assign (used (codes "i")) (number 0)
    ∷ binary operator.Lt (used (codes "i") ∷ number 3 ∷ [])
    ∷ tree (kind.Post false) (used (codes "i") ∷ [])
    ∷ block
    (declaration
    (word.Int ∷ [])
    (true ∷ [])
    (named (codes "k") ∷ used (codes "i") ∷ [])
    ∷ block
    (variable (codes "k")
    ∷ effect (assign (used (codes "k")) (number 5))
    ∷ effect
    (assign
    (used (codes "s"))
    (binary operator.Add (used (codes "s") ∷ used (codes "k") ∷ []))) ∷ [])
    ∷ effect
    (assign
    (used (codes "s"))
    (binary operator.Add (used (codes "s") ∷ used (codes "k") ∷ []))) ∷ []) ∷ [])
    ∷ if_holds
    (binary operator.Eq (used (codes "s") ∷ number 18 ∷ []))
    (effect (call (used (codes "exits")) (number 0 ∷ [])))
    ∷ effect (call (used (codes "exits")) (text (codes "bad" ∷ []) ∷ [])) ∷ []) ∷ []) ∷ []

-- int next(void){ static int n = 3; static int calls; calls++; return n++ + calls; } void main(void){
-- if(next() == 4 && next() == 6) exits(0); exits("bad"); }
abbrev pub remembers : List (List Syntax)
remembers =
    (function
    (word.Int ∷ [])
    (no_parameters (named (codes "next"))
    ∷ block
    (declaration
    (word.Static ∷ word.Int ∷ [])
    (true ∷ [])
    (named (codes "n") ∷ number 3 ∷ [])
    ∷ declaration (word.Static ∷ word.Int ∷ []) (false ∷ []) (named (codes "calls") ∷ [])
    ∷ effect (tree (kind.Post false) (used (codes "calls") ∷ []))
    ∷ returns
    (binary operator.Add
    (tree (kind.Post false) (used (codes "n") ∷ []) ∷ used (codes "calls") ∷ [])) ∷ []) ∷ [])
    ∷ main
    (if_holds
    (binary operator.AndAnd
    (binary operator.Eq (call (used (codes "next")) [] ∷ number 4 ∷ [])
    ∷ binary operator.Eq (call (used (codes "next")) [] ∷ number 6 ∷ []) ∷ []))
    (effect (call (used (codes "exits")) (number 0 ∷ [])))
    ∷ effect (call (used (codes "exits")) (text (codes "bad" ∷ []) ∷ [])) ∷ []) ∷ []) ∷ []

-- void main(void){ return; }
abbrev pub returns_main : List (List Syntax)
returns_main =
    (main (leaf kind.Return ∷ []) ∷ []) ∷ []

pub record RunsOfStatements : Type 0 where
  pub runs_while_loop : run while_loop [] 12 ≡ Some (Ends (codes "8") [] [])
  pub runs_do_loop : run do_loop [] 12 ≡ Some (Ends (codes "8") [] [])
  pub runs_for_and_switch : run for_and_switch [] 12 ≡ Some (Ends (codes ";") [] [])
  pub runs_forever : run forever [] 9 ≡ Some (InLoop (codes "a") [])
  pub runs_blocks : run blocks [] 12 ≡ Some (Ends [] [] [])
  pub runs_remembers : run remembers [] 12 ≡ Some (Ends [] [] [])
  pub runs_returns_main : run returns_main [] 1 ≡ Some (Ends [] (codes "main") [])
