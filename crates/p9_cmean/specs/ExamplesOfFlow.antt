-- Programs for the order in which statements are run: what small ones come to.
use Rattle.std.specs.Prelude.{◌≡◌, true, false, List, [], ◌∷◌, Some, codes}
use Rattle.p9_lang.specs.declared.tree.CBinary.TheVariants as operator
use Rattle.p9_lang.specs.declared.tree.CUnary.TheVariants as unary
use Rattle.p9_lang.specs.declared.tree.SpecWord.TheVariants as word
use Rattle.p9_lang.specs.declared.tree.Kind.TheVariants as kind
use Rattle.p9_lang.specs.Trees.{Syntax}
use Rattle.p9_lang.specs.ExampleTrees.{tree, leaf, declaration, function, parameter, named, used, number, text, binary}
use Rattle.p9_cmean.specs.declared.Cause.TheVariants as cause
use Rattle.p9_cmean.specs.Cells.{Global}
use Rattle.p9_cmean.specs.ExampleRuns.{variable, main, no_parameters, block, effect, call, assign, unary_of, if_holds, returns, Ends, InLoop, Waits, IsUndefined, run}

-- int x; void main(void){ if(x) exits("bad"); else x = 1; if(x) x = 2; else exits("bad"); if(x
-- == 2) exits(0); exits("bad"); }
abbrev pub if_and_else : List (List Syntax)
if_and_else =
    (variable (codes "x")
    ∷ main (tree kind.If (used (codes "x")
    ∷ effect (call (used (codes "exits")) (text (codes "bad" ∷ []) ∷ []))
    ∷ effect (assign (used (codes "x")) (number 1)) ∷ [])
    ∷ tree kind.If (used (codes "x")
    ∷ effect (assign (used (codes "x")) (number 2))
    ∷ effect (call (used (codes "exits")) (text (codes "bad" ∷ []) ∷ [])) ∷ [])
    ∷ if_holds (binary operator.Eq (used (codes "x") ∷ number 2 ∷ []))
    (effect (call (used (codes "exits")) (number 0 ∷ [])))
    ∷ effect (call (used (codes "exits")) (text (codes "bad" ∷ []) ∷ [])) ∷ []) ∷ []) ∷ []

-- int i, s; void main(void){ for(; i < 3; i++) s += i; for(i = 0; ; i++) if(i == 2) break; for(;
-- ; i++) if(i == 4) break; for(i += 3; i > 5; ) i--; for(; i; ) i--; for(i = 8; ; ) if(i++ == 9)
-- break; if(s == 3 && i == 10) exits(0); exits("bad"); }
abbrev pub parts_of_for : List (List Syntax)
parts_of_for =
    (declaration (word.Int ∷ []) (false ∷ false ∷ []) (named (codes "i") ∷ named (codes "s") ∷ [])
    ∷ main (tree (kind.For false true true) (binary operator.Lt (used (codes "i") ∷ number 3 ∷ [])
    ∷ tree (kind.Post false) (used (codes "i") ∷ [])
    ∷ effect (tree (kind.Assign (Some operator.Add)) (used (codes "s") ∷ used (codes "i") ∷ [])) ∷ [])
    ∷ tree (kind.For true false true) (assign (used (codes "i")) (number 0)
    ∷ tree (kind.Post false) (used (codes "i") ∷ [])
    ∷ if_holds (binary operator.Eq (used (codes "i") ∷ number 2 ∷ [])) (leaf kind.Break) ∷ [])
    ∷ tree (kind.For false false true) (tree (kind.Post false) (used (codes "i") ∷ [])
    ∷ if_holds (binary operator.Eq (used (codes "i") ∷ number 4 ∷ [])) (leaf kind.Break) ∷ [])
    ∷ tree (kind.For true true false)
    (tree (kind.Assign (Some operator.Add)) (used (codes "i") ∷ number 3 ∷ [])
    ∷ binary operator.Gt (used (codes "i") ∷ number 5 ∷ [])
    ∷ effect (tree (kind.Post true) (used (codes "i") ∷ [])) ∷ [])
    ∷ tree (kind.For false true false)
    (used (codes "i") ∷ effect (tree (kind.Post true) (used (codes "i") ∷ [])) ∷ [])
    ∷ tree (kind.For true false false) (assign (used (codes "i")) (number 8)
    ∷ if_holds (binary operator.Eq (tree (kind.Post false) (used (codes "i") ∷ []) ∷ number 9 ∷ []))
    (leaf kind.Break) ∷ [])
    ∷ if_holds (binary operator.AndAnd (binary operator.Eq (used (codes "s") ∷ number 3 ∷ [])
    ∷ binary operator.Eq (used (codes "i") ∷ number 10 ∷ []) ∷ []))
    (effect (call (used (codes "exits")) (number 0 ∷ [])))
    ∷ effect (call (used (codes "exits")) (text (codes "bad" ∷ []) ∷ [])) ∷ []) ∷ []) ∷ []

-- int i, s, x; void main(void){ switch(5){ case 1: exits("bad"); } switch(9){ case 1:
-- exits("bad"); default: x = 1; case 2: x++; } switch(-1){ case 4294967295: x += 5; } for(i = 0;
-- i < 3; i++){ switch(i){ case 1: continue; } s++; } if(x == 7 && s == 2) exits(0);
-- exits("bad"); }
abbrev pub cases : List (List Syntax)
cases =
    (declaration (word.Int ∷ []) (false ∷ false ∷ false ∷ [])
    (named (codes "i") ∷ named (codes "s") ∷ named (codes "x") ∷ [])
    ∷ main (tree kind.Switch (number 5
    ∷ tree kind.Case (number 1 ∷ [])
    ∷ effect (call (used (codes "exits")) (text (codes "bad" ∷ []) ∷ [])) ∷ [])
    ∷ tree kind.Switch (number 9
    ∷ tree kind.Case (number 1 ∷ [])
    ∷ effect (call (used (codes "exits")) (text (codes "bad" ∷ []) ∷ []))
    ∷ leaf kind.Default
    ∷ effect (assign (used (codes "x")) (number 1))
    ∷ tree kind.Case (number 2 ∷ [])
    ∷ effect (tree (kind.Post false) (used (codes "x") ∷ [])) ∷ [])
    ∷ tree kind.Switch (unary_of unary.Minus (number 1)
    ∷ tree kind.Case (number 4294967295 ∷ [])
    ∷ effect (tree (kind.Assign (Some operator.Add)) (used (codes "x") ∷ number 5 ∷ [])) ∷ [])
    ∷ tree (kind.For true true true) (assign (used (codes "i")) (number 0)
    ∷ binary operator.Lt (used (codes "i") ∷ number 3 ∷ [])
    ∷ tree (kind.Post false) (used (codes "i") ∷ [])
    ∷ block
    (tree kind.Switch (used (codes "i") ∷ tree kind.Case (number 1 ∷ []) ∷ leaf kind.Continue ∷ [])
    ∷ effect (tree (kind.Post false) (used (codes "s") ∷ [])) ∷ []) ∷ [])
    ∷ if_holds (binary operator.AndAnd (binary operator.Eq (used (codes "x") ∷ number 7 ∷ [])
    ∷ binary operator.Eq (used (codes "s") ∷ number 2 ∷ []) ∷ []))
    (effect (call (used (codes "exits")) (number 0 ∷ [])))
    ∷ effect (call (used (codes "exits")) (text (codes "bad" ∷ []) ∷ [])) ∷ []) ∷ []) ∷ []

-- int f(int n){ int i; for(i = 0; ; i++){ while(1){ if(i == n) return i; break; } } } int
-- g(void){ for(;;) switch(1){ default: return 5; } } void main(void){ if(f(2) == 2 && g() == 5)
-- exits(0); exits("bad"); }
abbrev pub out_of_loops : List (List Syntax)
out_of_loops =
    (function (word.Int ∷ []) (tree (kind.Params true false)
    (named (codes "f") ∷ parameter (word.Int ∷ []) (named (codes "n") ∷ []) ∷ [])
    ∷ block (variable (codes "i")
    ∷ tree (kind.For true false true) (assign (used (codes "i")) (number 0)
    ∷ tree (kind.Post false) (used (codes "i") ∷ [])
    ∷ block (tree kind.While (number 1
    ∷ block (if_holds (binary operator.Eq (used (codes "i") ∷ used (codes "n") ∷ []))
    (returns (used (codes "i")))
    ∷ leaf kind.Break ∷ []) ∷ []) ∷ []) ∷ []) ∷ []) ∷ [])
    ∷ function (word.Int ∷ []) (no_parameters (named (codes "g"))
    ∷ block (tree (kind.For false false false)
    (tree kind.Switch (number 1 ∷ leaf kind.Default ∷ returns (number 5) ∷ []) ∷ []) ∷ []) ∷ [])
    ∷ main (if_holds (binary operator.AndAnd
    (binary operator.Eq (call (used (codes "f")) (number 2 ∷ []) ∷ number 2 ∷ [])
    ∷ binary operator.Eq (call (used (codes "g")) ([]) ∷ number 5 ∷ []) ∷ []))
    (effect (call (used (codes "exits")) (number 0 ∷ [])))
    ∷ effect (call (used (codes "exits")) (text (codes "bad" ∷ []) ∷ [])) ∷ []) ∷ []) ∷ []

-- int x; void main(void){ do x++; while(0); while(0) exits("bad"); if(x == 1) exits(0);
-- exits("bad"); }
abbrev pub once_and_never : List (List Syntax)
once_and_never =
    (variable (codes "x")
    ∷ main (tree kind.Do (effect (tree (kind.Post false) (used (codes "x") ∷ [])) ∷ number 0 ∷ [])
    ∷ tree kind.While
    (number 0 ∷ effect (call (used (codes "exits")) (text (codes "bad" ∷ []) ∷ [])) ∷ [])
    ∷ if_holds (binary operator.Eq (used (codes "x") ∷ number 1 ∷ []))
    (effect (call (used (codes "exits")) (number 0 ∷ [])))
    ∷ effect (call (used (codes "exits")) (text (codes "bad" ∷ []) ∷ [])) ∷ []) ∷ []) ∷ []

-- void main(void){ while(1) exits("end"); }
abbrev pub turns : List (List Syntax)
turns =
    (main (tree kind.While
    (number 1 ∷ effect (call (used (codes "exits")) (text (codes "end" ∷ []) ∷ [])) ∷ []) ∷ []) ∷ []) ∷ []

-- int *p; void main(void){ for(;;){ int v; p = &v; break; } *p = 1; }
abbrev pub dead_by_break : List (List Syntax)
dead_by_break =
    (declaration (word.Int ∷ []) (false ∷ []) (tree (kind.Star []) (named (codes "p") ∷ []) ∷ [])
    ∷ main (tree (kind.For false false false) (block (variable (codes "v")
    ∷ effect (assign (used (codes "p")) (unary_of unary.Address (used (codes "v"))))
    ∷ leaf kind.Break ∷ []) ∷ [])
    ∷ effect (assign (unary_of unary.Deref (used (codes "p"))) (number 1)) ∷ []) ∷ []) ∷ []

-- int *p; void f(int v){ p = &v; return; } void main(void){ f(1); if(!p) exits(0); }
abbrev pub dead_by_return : List (List Syntax)
dead_by_return =
    (declaration (word.Int ∷ []) (false ∷ []) (tree (kind.Star []) (named (codes "p") ∷ []) ∷ [])
    ∷ function (word.Void ∷ []) (tree (kind.Params true false)
    (named (codes "f") ∷ parameter (word.Int ∷ []) (named (codes "v") ∷ []) ∷ [])
    ∷ block (effect (assign (used (codes "p")) (unary_of unary.Address (used (codes "v"))))
    ∷ leaf kind.Return ∷ []) ∷ [])
    ∷ main (effect (call (used (codes "f")) (number 1 ∷ []))
    ∷ if_holds (unary_of unary.Not (used (codes "p")))
    (effect (call (used (codes "exits")) (number 0 ∷ []))) ∷ []) ∷ []) ∷ []

pub record RunsOfFlow : Type 0 where
  pub runs_if_and_else : run if_and_else [] 2 ≡ Some (Ends [] [] [])
  pub runs_parts_of_for : run parts_of_for [] 22 ≡ Some (Ends [] [] [])
  pub runs_cases : run cases [] 5 ≡ Some (Ends [] [] [])
  pub runs_out_of_loops : run out_of_loops [] 12 ≡ Some (Ends [] [] [])
  pub runs_once_and_never : run once_and_never [] 3 ≡ Some (Ends [] [] [])
  pub runs_turns : run turns [] 3 ≡ Some (Ends [] (codes "end") [])
  pub runs_turns_at_a_call : run turns [] 2 ≡ Some (Waits (Global (codes "exits")) [] [])
  pub runs_turns_in_a_loop : run turns [] 1 ≡ Some (InLoop [] [])
  pub runs_turns_of_none : run turns [] 0 ≡ Some (Waits (Global (codes "main")) [] [])
  pub runs_dead_by_break : run dead_by_break [] 2 ≡ Some (IsUndefined [] cause.Dead 0 18)
  pub runs_dead_by_return : run dead_by_return [] 3 ≡ Some (IsUndefined [] cause.Dead 0 22)
