-- Programs of one file that come to an undefined operation, each behind the same declarations. The
-- number is that of the operation's node.
use Rattle.std.specs.Prelude.{◌≡◌, true, false, List, [], ◌∷◌, ◌++◌, Some, None, codes}
use Rattle.p9_lang.specs.declared.tree.CBinary.TheVariants as operator
use Rattle.p9_lang.specs.declared.tree.CUnary.TheVariants as unary
use Rattle.p9_lang.specs.declared.tree.SpecWord.TheVariants as word
use Rattle.p9_lang.specs.declared.tree.Kind.TheVariants as kind
use Rattle.p9_lang.specs.Trees.{Syntax}
use Rattle.p9_lang.specs.ExampleTrees.{tree, leaf, declaration, function, member, parameter, named_type, named, used, number, text, binary}
use Rattle.p9_cmean.specs.declared.Cause.TheVariants as cause
use Rattle.p9_cmean.specs.ExampleRuns.{variable, main, no_parameters, block, effect, call, assign, unary_of, if_holds, returns, element, IsUndefined, run}

-- int x, a[4], *p, b[4]; char c[8]; struct S { int k; struct S *n; char t[5]; } s, *q; int f(void){ }
-- int g(int v){ if(v) return 1; } void h(int *r){ *r = 1; } int *loc(void){ int v; v = 1; return &v; }
abbrev pub declarations : List Syntax
declarations =
    declaration (word.Int ∷ []) (false ∷ false ∷ false ∷ false ∷ []) (named (codes "x")
    ∷ tree (kind.Brackets true true) (named (codes "a") ∷ number 4 ∷ [])
    ∷ tree (kind.Star []) (named (codes "p") ∷ [])
    ∷ tree (kind.Brackets true true) (named (codes "b") ∷ number 4 ∷ []) ∷ [])
    ∷ declaration (word.Char ∷ []) (false ∷ [])
    (tree (kind.Brackets true true) (named (codes "c") ∷ number 8 ∷ []) ∷ [])
    ∷ declaration (word.Tag false (codes "S") (Some 3) ∷ []) (false ∷ false ∷ [])
    (member (word.Int ∷ []) (named (codes "k") ∷ [])
    ∷ member (word.Tag false (codes "S") None ∷ [])
    (tree (kind.Star []) (named (codes "n") ∷ []) ∷ [])
    ∷ member (word.Char ∷ [])
    (tree (kind.Brackets true true) (named (codes "t") ∷ number 5 ∷ []) ∷ [])
    ∷ named (codes "s")
    ∷ tree (kind.Star []) (named (codes "q") ∷ []) ∷ [])
    ∷ function (word.Int ∷ []) (no_parameters (named (codes "f")) ∷ block ([]) ∷ [])
    ∷ function (word.Int ∷ []) (tree (kind.Params true false)
    (named (codes "g") ∷ parameter (word.Int ∷ []) (named (codes "v") ∷ []) ∷ [])
    ∷ block (if_holds (used (codes "v")) (returns (number 1)) ∷ []) ∷ [])
    ∷ function (word.Void ∷ []) (tree (kind.Params true false) (named (codes "h")
    ∷ parameter (word.Int ∷ []) (tree (kind.Star []) (named (codes "r") ∷ []) ∷ []) ∷ [])
    ∷ block (effect (assign (unary_of unary.Deref (used (codes "r"))) (number 1)) ∷ []) ∷ [])
    ∷ function (word.Int ∷ []) (tree (kind.Star []) (no_parameters (named (codes "loc")) ∷ [])
    ∷ block (variable (codes "v")
    ∷ effect (assign (used (codes "v")) (number 1))
    ∷ returns (unary_of unary.Address (used (codes "v"))) ∷ []) ∷ []) ∷ []

abbrev pub after : Syntax → List (List Syntax)
after program = (declarations ++ program ∷ []) ∷ []

-- void main(void){ struct S t; t.k = 1; x = t.t[2]; exits(0); }
abbrev pub unset_member : List (List Syntax)
unset_member =
    after
    (main (declaration (word.Tag false (codes "S") None ∷ []) (false ∷ []) (named (codes "t") ∷ [])
    ∷ effect (assign (tree (kind.Dot false (codes "k")) (used (codes "t") ∷ [])) (number 1))
    ∷ effect (assign (used (codes "x"))
    (element (tree (kind.Dot false (codes "t")) (used (codes "t") ∷ [])) (number 2)))
    ∷ effect (call (used (codes "exits")) (number 0 ∷ [])) ∷ []))

-- void main(void){ int v[3]; v[0] = 1; x = v[1]; exits(0); }
abbrev pub unset_element : List (List Syntax)
unset_element =
    after (main (declaration (word.Int ∷ []) (false ∷ [])
    (tree (kind.Brackets true true) (named (codes "v") ∷ number 3 ∷ []) ∷ [])
    ∷ effect (assign (element (used (codes "v")) (number 0)) (number 1))
    ∷ effect (assign (used (codes "x")) (element (used (codes "v")) (number 1)))
    ∷ effect (call (used (codes "exits")) (number 0 ∷ [])) ∷ []))

-- void main(void){ char v[4]; v[0] = 65; write(1, v, 2); exits(0); }
abbrev pub unset_written : List (List Syntax)
unset_written =
    after (main (declaration (word.Char ∷ []) (false ∷ [])
    (tree (kind.Brackets true true) (named (codes "v") ∷ number 4 ∷ []) ∷ [])
    ∷ effect (assign (element (used (codes "v")) (number 0)) (number 65))
    ∷ effect (call (used (codes "write")) (number 1 ∷ used (codes "v") ∷ number 2 ∷ []))
    ∷ effect (call (used (codes "exits")) (number 0 ∷ [])) ∷ []))

-- void main(void){ char v[2]; v[0] = 65; exits(v); exits(0); }
abbrev pub unset_text : List (List Syntax)
unset_text =
    after (main (declaration (word.Char ∷ []) (false ∷ [])
    (tree (kind.Brackets true true) (named (codes "v") ∷ number 2 ∷ []) ∷ [])
    ∷ effect (assign (element (used (codes "v")) (number 0)) (number 65))
    ∷ effect (call (used (codes "exits")) (used (codes "v") ∷ []))
    ∷ effect (call (used (codes "exits")) (number 0 ∷ [])) ∷ []))

-- void main(void){ int i; { int j; j = 1; } for(x = 0; x < 2; x++){ int k; if(x) a[0] = k; k =
-- 1; } exits(0); }
abbrev pub unset_again : List (List Syntax)
unset_again =
    after (main (variable (codes "i")
    ∷ block (variable (codes "j") ∷ effect (assign (used (codes "j")) (number 1)) ∷ [])
    ∷ tree (kind.For true true true) (assign (used (codes "x")) (number 0)
    ∷ binary operator.Lt (used (codes "x") ∷ number 2 ∷ [])
    ∷ tree (kind.Post false) (used (codes "x") ∷ [])
    ∷ block (variable (codes "k")
    ∷ if_holds (used (codes "x"))
    (effect (assign (element (used (codes "a")) (number 0)) (used (codes "k"))))
    ∷ effect (assign (used (codes "k")) (number 1)) ∷ []) ∷ [])
    ∷ effect (call (used (codes "exits")) (number 0 ∷ [])) ∷ []))

-- void main(void){ x = 5; q = *(struct S**)&x; exits(0); }
abbrev pub mixed_number : List (List Syntax)
mixed_number =
    after (main (effect (assign (used (codes "x")) (number 5))
    ∷ effect (assign (used (codes "q"))
    (unary_of unary.Deref (tree kind.Cast (named_type (word.Tag false (codes "S") None ∷ [])
    (tree (kind.Star []) (leaf (kind.Star []) ∷ []) ∷ [])
    ∷ unary_of unary.Address (used (codes "x")) ∷ []))))
    ∷ effect (call (used (codes "exits")) (number 0 ∷ [])) ∷ []))

-- void main(void){ p = a + 5; exits(0); }
abbrev pub range_moved : List (List Syntax)
range_moved =
    after (main
    (effect (assign (used (codes "p")) (binary operator.Add (used (codes "a") ∷ number 5 ∷ [])))
    ∷ effect (call (used (codes "exits")) (number 0 ∷ [])) ∷ []))

-- void main(void){ x = "abc"[4]; exits(0); }
abbrev pub range_of_text : List (List Syntax)
range_of_text =
    after (main (effect (assign (used (codes "x")) (element (text (codes "abc" ∷ [])) (number 4)))
    ∷ effect (call (used (codes "exits")) (number 0 ∷ [])) ∷ []))

-- void main(void){ write(1, "abc", 5); exits(0); }
abbrev pub range_write : List (List Syntax)
range_write =
    after
    (main (effect (call (used (codes "write")) (number 1 ∷ text (codes "abc" ∷ []) ∷ number 5 ∷ []))
    ∷ effect (call (used (codes "exits")) (number 0 ∷ [])) ∷ []))

-- void main(void){ read(0, c, 9); exits(0); }
abbrev pub range_room : List (List Syntax)
range_room =
    after (main (effect (call (used (codes "read")) (number 0 ∷ used (codes "c") ∷ number 9 ∷ []))
    ∷ effect (call (used (codes "exits")) (number 0 ∷ [])) ∷ []))

-- void main(void){ q = (struct S*)&x; x = q->n == 0; exits(0); }
abbrev pub range_member : List (List Syntax)
range_member =
    after (main (effect (assign (used (codes "q"))
    (tree kind.Cast (named_type (word.Tag false (codes "S") None ∷ []) (leaf (kind.Star []) ∷ [])
    ∷ unary_of unary.Address (used (codes "x")) ∷ [])))
    ∷ effect (assign (used (codes "x"))
    (binary operator.Eq (tree (kind.Dot true (codes "n")) (used (codes "q") ∷ []) ∷ number 0 ∷ [])))
    ∷ effect (call (used (codes "exits")) (number 0 ∷ [])) ∷ []))

-- void main(void){ c[7] = 1; c[6] = 1; exits(&c[6]); exits(0); }
abbrev pub range_text : List (List Syntax)
range_text =
    after (main (effect (assign (element (used (codes "c")) (number 7)) (number 1))
    ∷ effect (assign (element (used (codes "c")) (number 6)) (number 1))
    ∷ effect (call (used (codes "exits"))
    (unary_of unary.Address (element (used (codes "c")) (number 6)) ∷ []))
    ∷ effect (call (used (codes "exits")) (number 0 ∷ [])) ∷ []))

-- void main(void){ { int v; p = &v; } p = p + 0; exits(0); }
abbrev pub dead_moved : List (List Syntax)
dead_moved =
    after (main (block (variable (codes "v")
    ∷ effect (assign (used (codes "p")) (unary_of unary.Address (used (codes "v")))) ∷ [])
    ∷ effect (assign (used (codes "p")) (binary operator.Add (used (codes "p") ∷ number 0 ∷ [])))
    ∷ effect (call (used (codes "exits")) (number 0 ∷ [])) ∷ []))

-- void main(void){ x = *p; exits(0); }
abbrev pub null_read : List (List Syntax)
null_read =
    after (main (effect (assign (used (codes "x")) (unary_of unary.Deref (used (codes "p"))))
    ∷ effect (call (used (codes "exits")) (number 0 ∷ [])) ∷ []))

-- void main(void){ p[1] = 2; exits(0); }
abbrev pub null_element : List (List Syntax)
null_element =
    after (main (effect (assign (element (used (codes "p")) (number 1)) (number 2))
    ∷ effect (call (used (codes "exits")) (number 0 ∷ [])) ∷ []))

-- void main(void){ x = q->k; exits(0); }
abbrev pub null_structure : List (List Syntax)
null_structure =
    after (main
    (effect (assign (used (codes "x")) (tree (kind.Dot true (codes "k")) (used (codes "q") ∷ [])))
    ∷ effect (call (used (codes "exits")) (number 0 ∷ [])) ∷ []))

-- void main(void){ x = 1 / x; exits(0); }
abbrev pub divided_by_zero : List (List Syntax)
divided_by_zero =
    after (main
    (effect (assign (used (codes "x")) (binary operator.Div (number 1 ∷ used (codes "x") ∷ [])))
    ∷ effect (call (used (codes "exits")) (number 0 ∷ [])) ∷ []))

-- void main(void){ a[0] = -2147483647 - 1; a[1] = -1; x = a[0] % a[1]; exits(0); }
abbrev pub least_remainder : List (List Syntax)
least_remainder =
    after (main (effect (assign (element (used (codes "a")) (number 0))
    (binary operator.Sub (unary_of unary.Minus (number 2147483647) ∷ number 1 ∷ [])))
    ∷ effect (assign (element (used (codes "a")) (number 1)) (unary_of unary.Minus (number 1)))
    ∷ effect (assign (used (codes "x")) (binary operator.Rem
    (element (used (codes "a")) (number 0) ∷ element (used (codes "a")) (number 1) ∷ [])))
    ∷ effect (call (used (codes "exits")) (number 0 ∷ [])) ∷ []))

-- void main(void){ int (*w)(char); w = (int (*)(char))g; w(1); exits(0); }
abbrev pub call_with_char : List (List Syntax)
call_with_char =
    after (main (declaration (word.Int ∷ []) (false ∷ []) (tree (kind.Params true false)
    (tree kind.DeclParens (tree (kind.Star []) (named (codes "w") ∷ []) ∷ [])
    ∷ parameter (word.Char ∷ []) ([]) ∷ []) ∷ [])
    ∷ effect (assign (used (codes "w"))
    (tree kind.Cast (named_type (word.Int ∷ []) (tree (kind.Params true false)
    (tree kind.DeclParens (leaf (kind.Star []) ∷ []) ∷ parameter (word.Char ∷ []) ([]) ∷ []) ∷ [])
    ∷ used (codes "g") ∷ [])))
    ∷ effect (call (used (codes "w")) (number 1 ∷ []))
    ∷ effect (call (used (codes "exits")) (number 0 ∷ [])) ∷ []))

-- void main(void){ void (*w)(void); w = (void (*)(void))f; w(); exits(0); }
abbrev pub call_for_nothing : List (List Syntax)
call_for_nothing =
    after (main (declaration (word.Void ∷ []) (false ∷ [])
    (no_parameters (tree kind.DeclParens (tree (kind.Star []) (named (codes "w") ∷ []) ∷ [])) ∷ [])
    ∷ effect (assign (used (codes "w")) (tree kind.Cast (named_type (word.Void ∷ [])
    (no_parameters (tree kind.DeclParens (leaf (kind.Star []) ∷ [])) ∷ [])
    ∷ used (codes "f") ∷ [])))
    ∷ effect (call (used (codes "w")) ([]))
    ∷ effect (call (used (codes "exits")) (number 0 ∷ [])) ∷ []))

-- void main(void){ x = f(); exits(0); }
abbrev pub no_value_at_the_end : List (List Syntax)
no_value_at_the_end =
    after (main (effect (assign (used (codes "x")) (call (used (codes "f")) ([])))
    ∷ effect (call (used (codes "exits")) (number 0 ∷ [])) ∷ []))

-- void main(void){ x = g(0); exits(0); }
abbrev pub no_value_past_an_if : List (List Syntax)
no_value_past_an_if =
    after (main (effect (assign (used (codes "x")) (call (used (codes "g")) (number 0 ∷ [])))
    ∷ effect (call (used (codes "exits")) (number 0 ∷ [])) ∷ []))

pub record RunsOfMisuse : Type 0 where
  pub runs_unset_member : run unset_member [] 12 ≡ Some (IsUndefined [] cause.Unset 0 80)
  pub runs_unset_element : run unset_element [] 12 ≡ Some (IsUndefined [] cause.Unset 0 82)
  pub runs_unset_written : run unset_written [] 12 ≡ Some (IsUndefined [] cause.Unset 0 83)
  pub runs_unset_text : run unset_text [] 12 ≡ Some (IsUndefined [] cause.Unset 0 81)
  pub runs_unset_again : run unset_again [] 12 ≡ Some (IsUndefined [] cause.Unset 0 92)
  pub runs_mixed_number : run mixed_number [] 12 ≡ Some (IsUndefined [] cause.Mixed 0 80)
  pub runs_range_moved : run range_moved [] 12 ≡ Some (IsUndefined [] cause.Range 0 72)
  pub runs_range_of_text : run range_of_text [] 12 ≡ Some (IsUndefined [] cause.Range 0 72)
  pub runs_range_write : run range_write [] 12 ≡ Some (IsUndefined [] cause.Range 0 73)
  pub runs_range_room : run range_room [] 12 ≡ Some (IsUndefined [] cause.Range 0 73)
  pub runs_range_member : run range_member [] 12 ≡ Some (IsUndefined [] cause.Range 0 79)
  pub runs_range_text : run range_text [] 12 ≡ Some (IsUndefined [] cause.Range 0 86)
  pub runs_dead_moved : run dead_moved [] 12 ≡ Some (IsUndefined [] cause.Dead 0 80)
  pub runs_null_read : run null_read [] 12 ≡ Some (IsUndefined [] cause.Null 0 71)
  pub runs_null_element : run null_element [] 12 ≡ Some (IsUndefined [] cause.Null 0 71)
  pub runs_null_structure : run null_structure [] 12 ≡ Some (IsUndefined [] cause.Null 0 71)
  pub runs_divided_by_zero : run divided_by_zero [] 12 ≡ Some (IsUndefined [] cause.Divide 0 72)
  pub runs_least_remainder : run least_remainder [] 12 ≡ Some (IsUndefined [] cause.Divide 0 92)
  pub runs_call_with_char : run call_with_char [] 12 ≡ Some (IsUndefined [] cause.WrongCall 0 87)
  pub runs_call_for_nothing : run call_for_nothing [] 12 ≡ Some (IsUndefined [] cause.WrongCall 0 84)
  pub runs_no_value_at_the_end : run no_value_at_the_end [] 12 ≡ Some (IsUndefined [] cause.NoValue 0 71)
  pub runs_no_value_past_an_if : run no_value_past_an_if [] 12 ≡ Some (IsUndefined [] cause.NoValue 0 72)
