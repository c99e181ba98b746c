-- Programs for values that calls don't give, for accesses with several causes, for pointers outside
-- their objects, and for system calls with pointers that they can't use. The number is that of the
-- operation's node.
use Rattle.std.specs.Prelude.{◌≡◌, true, false, List, [], ◌∷◌, Some, None, codes}
use Rattle.p9_lang.specs.declared.tree.CBinary.TheVariants as operator
use Rattle.p9_lang.specs.declared.tree.CUnary.TheVariants as unary
use Rattle.p9_lang.specs.declared.tree.SpecWord.TheVariants as word
use Rattle.p9_lang.specs.declared.tree.Kind.TheVariants as kind
use Rattle.p9_lang.specs.Trees.{Syntax}
use Rattle.p9_lang.specs.ExampleTrees.{tree, leaf, declaration, function, member, parameter, named_type, named, used, number, binary}
use Rattle.p9_cmean.specs.declared.Cause.TheVariants as cause
use Rattle.p9_cmean.specs.ExampleRuns.{variable, main, no_parameters, block, effect, call, assign, unary_of, if_holds, returns, element, parens, Ends, IsUndefined, run}

-- int f(void){ } void main(void){ f(); (void)f(); f(), exits(0); }
abbrev pub unused : List (List Syntax)
unused =
    (function (word.Int ∷ []) (no_parameters (named (codes "f")) ∷ block ([]) ∷ [])
    ∷ main (effect (call (used (codes "f")) ([]))
    ∷ effect (tree kind.Cast (named_type (word.Void ∷ []) ([]) ∷ call (used (codes "f")) ([]) ∷ []))
    ∷ effect (tree kind.Comma
    (call (used (codes "f")) ([]) ∷ call (used (codes "exits")) (number 0 ∷ []) ∷ [])) ∷ []) ∷ []) ∷ []

-- int f(void){ } void main(void){ int x; x = 1 + f(); }
abbrev pub as_operand : List (List Syntax)
as_operand =
    (function (word.Int ∷ []) (no_parameters (named (codes "f")) ∷ block ([]) ∷ [])
    ∷ main (variable (codes "x")
    ∷ effect
    (assign (used (codes "x")) (binary operator.Add (number 1 ∷ call (used (codes "f")) ([]) ∷ []))) ∷ []) ∷ []) ∷ []

-- int f(void){ } int g(void){ exits(0); } void main(void){ f() + g(); }
abbrev pub as_left_operand : List (List Syntax)
as_left_operand =
    (function (word.Int ∷ []) (no_parameters (named (codes "f")) ∷ block ([]) ∷ [])
    ∷ function (word.Int ∷ [])
    (no_parameters (named (codes "g")) ∷ block (effect (call (used (codes "exits")) (number 0 ∷ [])) ∷ []) ∷ [])
    ∷ main (effect (binary operator.Add (call (used (codes "f")) ([]) ∷ call (used (codes "g")) ([]) ∷ [])) ∷ []) ∷ []) ∷ []

-- int f(void){ } void main(void){ if(f()) exits(0); }
abbrev pub as_test : List (List Syntax)
as_test =
    (function (word.Int ∷ []) (no_parameters (named (codes "f")) ∷ block ([]) ∷ [])
    ∷ main
    (if_holds (call (used (codes "f")) ([])) (effect (call (used (codes "exits")) (number 0 ∷ []))) ∷ []) ∷ []) ∷ []

-- int z; int f(void){ } void g(int a, int b){ } void main(void){ g(f(), 1 / z); }
abbrev pub as_argument : List (List Syntax)
as_argument =
    (variable (codes "z")
    ∷ function (word.Int ∷ []) (no_parameters (named (codes "f")) ∷ block ([]) ∷ [])
    ∷ function (word.Void ∷ []) (tree (kind.Params true false) (named (codes "g")
    ∷ parameter (word.Int ∷ []) (named (codes "a") ∷ [])
    ∷ parameter (word.Int ∷ []) (named (codes "b") ∷ []) ∷ [])
    ∷ block ([]) ∷ [])
    ∷ main (effect (call (used (codes "g"))
    (call (used (codes "f")) ([]) ∷ binary operator.Div (number 1 ∷ used (codes "z") ∷ []) ∷ [])) ∷ []) ∷ []) ∷ []

-- int f(void){ } int g(void){ return f(); } void main(void){ g(); }
abbrev pub as_result : List (List Syntax)
as_result =
    (function (word.Int ∷ []) (no_parameters (named (codes "f")) ∷ block ([]) ∷ [])
    ∷ function (word.Int ∷ [])
    (no_parameters (named (codes "g")) ∷ block (returns (call (used (codes "f")) ([])) ∷ []) ∷ [])
    ∷ main (effect (call (used (codes "g")) ([])) ∷ []) ∷ []) ∷ []

-- int f(void){ } void main(void){ 1 ? f() : 2; }
abbrev pub as_part : List (List Syntax)
as_part =
    (function (word.Int ∷ []) (no_parameters (named (codes "f")) ∷ block ([]) ∷ [])
    ∷ main (effect (tree kind.Choose (number 1 ∷ call (used (codes "f")) ([]) ∷ number 2 ∷ [])) ∷ []) ∷ []) ∷ []

-- int *f(void){ } void main(void){ *f(); }
abbrev pub as_address : List (List Syntax)
as_address =
    (function (word.Int ∷ [])
    (tree (kind.Star []) (no_parameters (named (codes "f")) ∷ []) ∷ block ([]) ∷ [])
    ∷ main (effect (unary_of unary.Deref (call (used (codes "f")) ([]))) ∷ []) ∷ []) ∷ []

-- int f(void){ } void main(void){ switch(f()){ default: exits(0); } }
abbrev pub as_case : List (List Syntax)
as_case =
    (function (word.Int ∷ []) (no_parameters (named (codes "f")) ∷ block ([]) ∷ [])
    ∷ main (tree kind.Switch (call (used (codes "f")) ([])
    ∷ leaf kind.Default
    ∷ effect (call (used (codes "exits")) (number 0 ∷ [])) ∷ []) ∷ []) ∷ []) ∷ []

-- struct Lock { int key; }; typedef struct Lock Lock; struct Buf { int n; Lock; } *b; void
-- lock(Lock *l){ } void main(void){ lock(b); }
abbrev pub null_substructure : List (List Syntax)
null_substructure =
    (declaration (word.Tag false (codes "Lock") (Some 1) ∷ []) ([])
    (member (word.Int ∷ []) (named (codes "key") ∷ []) ∷ [])
    ∷ declaration (word.Typedef ∷ word.Tag false (codes "Lock") None ∷ []) (false ∷ [])
    (named (codes "Lock") ∷ [])
    ∷ declaration (word.Tag false (codes "Buf") (Some 2) ∷ []) (false ∷ [])
    (member (word.Int ∷ []) (named (codes "n") ∷ [])
    ∷ member (word.TypeName (codes "Lock") ∷ []) ([])
    ∷ tree (kind.Star []) (named (codes "b") ∷ []) ∷ [])
    ∷ function (word.Void ∷ []) (tree (kind.Params true false) (named (codes "lock")
    ∷ parameter (word.TypeName (codes "Lock") ∷ [])
    (tree (kind.Star []) (named (codes "l") ∷ []) ∷ []) ∷ [])
    ∷ block ([]) ∷ [])
    ∷ main (effect (call (used (codes "lock")) (used (codes "b") ∷ [])) ∷ []) ∷ []) ∷ []

-- struct Pair { int a; int b; } s; int x; void main(void){ s = *(struct Pair*)&x; }
abbrev pub copied_past_the_end : List (List Syntax)
copied_past_the_end =
    (declaration (word.Tag false (codes "Pair") (Some 2) ∷ []) (false ∷ [])
    (member (word.Int ∷ []) (named (codes "a") ∷ [])
    ∷ member (word.Int ∷ []) (named (codes "b") ∷ [])
    ∷ named (codes "s") ∷ [])
    ∷ variable (codes "x")
    ∷ main (effect (assign (used (codes "s")) (unary_of unary.Deref
    (tree kind.Cast (named_type (word.Tag false (codes "Pair") None ∷ []) (leaf (kind.Star []) ∷ [])
    ∷ unary_of unary.Address (used (codes "x")) ∷ [])))) ∷ []) ∷ []) ∷ []

-- char c[5]; void main(void){ *(int*)(c + 3) = 1; }
abbrev pub misaligned_first : List (List Syntax)
misaligned_first =
    (declaration (word.Char ∷ []) (false ∷ [])
    (tree (kind.Brackets true true) (named (codes "c") ∷ number 5 ∷ []) ∷ [])
    ∷ main (effect (assign
    (unary_of unary.Deref (tree kind.Cast (named_type (word.Int ∷ []) (leaf (kind.Star []) ∷ [])
    ∷ parens (binary operator.Add (used (codes "c") ∷ number 3 ∷ [])) ∷ []))) (number 1)) ∷ []) ∷ []) ∷ []

-- char c[2], *p = c - 1; void main(void){ exits(p); }
abbrev pub before_its_object : List (List Syntax)
before_its_object =
    (declaration (word.Char ∷ []) (false ∷ true ∷ [])
    (tree (kind.Brackets true true) (named (codes "c") ∷ number 2 ∷ [])
    ∷ tree (kind.Star []) (named (codes "p") ∷ [])
    ∷ binary operator.Sub (used (codes "c") ∷ number 1 ∷ []) ∷ [])
    ∷ main (effect (call (used (codes "exits")) (used (codes "p") ∷ [])) ∷ []) ∷ []) ∷ []

-- char c[2], *p = c - 1; void main(void){ if(p == c) exits(0); }
abbrev pub compared_outside : List (List Syntax)
compared_outside =
    (declaration (word.Char ∷ []) (false ∷ true ∷ [])
    (tree (kind.Brackets true true) (named (codes "c") ∷ number 2 ∷ [])
    ∷ tree (kind.Star []) (named (codes "p") ∷ [])
    ∷ binary operator.Sub (used (codes "c") ∷ number 1 ∷ []) ∷ [])
    ∷ main (if_holds (binary operator.Eq (used (codes "p") ∷ used (codes "c") ∷ []))
    (effect (call (used (codes "exits")) (number 0 ∷ []))) ∷ []) ∷ []) ∷ []

-- int a[2], *p; void main(void){ p = a + 1; p = p + -1; p = a + 1; p = p + 4294967295; }
abbrev pub unsigned_count : List (List Syntax)
unsigned_count =
    (declaration (word.Int ∷ []) (false ∷ false ∷ [])
    (tree (kind.Brackets true true) (named (codes "a") ∷ number 2 ∷ [])
    ∷ tree (kind.Star []) (named (codes "p") ∷ []) ∷ [])
    ∷ main
    (effect (assign (used (codes "p")) (binary operator.Add (used (codes "a") ∷ number 1 ∷ [])))
    ∷ effect (assign (used (codes "p"))
    (binary operator.Add (used (codes "p") ∷ unary_of unary.Minus (number 1) ∷ [])))
    ∷ effect (assign (used (codes "p")) (binary operator.Add (used (codes "a") ∷ number 1 ∷ [])))
    ∷ effect
    (assign (used (codes "p")) (binary operator.Add (used (codes "p") ∷ number 4294967295 ∷ []))) ∷ []) ∷ []) ∷ []

-- int a[2]; void main(void){ a[-1] = 1; }
abbrev pub negative_index : List (List Syntax)
negative_index =
    (declaration (word.Int ∷ []) (false ∷ [])
    (tree (kind.Brackets true true) (named (codes "a") ∷ number 2 ∷ []) ∷ [])
    ∷ main
    (effect (assign (element (used (codes "a")) (unary_of unary.Minus (number 1))) (number 1)) ∷ []) ∷ []) ∷ []

-- void (*h)(void); int *p; void main(void){ { int v; p = &v; } h = *(void (**)(void))&p; h(); }
abbrev pub called_dead : List (List Syntax)
called_dead =
    (declaration (word.Void ∷ []) (false ∷ [])
    (no_parameters (tree kind.DeclParens (tree (kind.Star []) (named (codes "h") ∷ []) ∷ [])) ∷ [])
    ∷ declaration (word.Int ∷ []) (false ∷ []) (tree (kind.Star []) (named (codes "p") ∷ []) ∷ [])
    ∷ main (block (variable (codes "v")
    ∷ effect (assign (used (codes "p")) (unary_of unary.Address (used (codes "v")))) ∷ [])
    ∷ effect
    (assign (used (codes "h")) (unary_of unary.Deref (tree kind.Cast (named_type (word.Void ∷ [])
    (no_parameters (tree kind.DeclParens (tree (kind.Star []) (leaf (kind.Star []) ∷ []) ∷ [])) ∷ [])
    ∷ unary_of unary.Address (used (codes "p")) ∷ []))))
    ∷ effect (call (used (codes "h")) ([])) ∷ []) ∷ []) ∷ []

-- int x; void main(void){ int v; x = 1; v += x; }
abbrev pub updated_unset : List (List Syntax)
updated_unset =
    (variable (codes "x")
    ∷ main (variable (codes "v")
    ∷ effect (assign (used (codes "x")) (number 1))
    ∷ effect (tree (kind.Assign (Some operator.Add)) (used (codes "v") ∷ used (codes "x") ∷ [])) ∷ []) ∷ []) ∷ []

-- int x; void main(void){ int v; x = ((v)); }
abbrev pub within_parentheses : List (List Syntax)
within_parentheses =
    (variable (codes "x")
    ∷ main (variable (codes "v")
    ∷ effect (assign (used (codes "x")) (parens (parens (used (codes "v"))))) ∷ []) ∷ []) ∷ []

-- int x, *p; void main(void){ p = &x; write(1, &p, 4); }
abbrev pub written_pointer : List (List Syntax)
written_pointer =
    (declaration (word.Int ∷ []) (false ∷ false ∷ [])
    (named (codes "x") ∷ tree (kind.Star []) (named (codes "p") ∷ []) ∷ [])
    ∷ main (effect (assign (used (codes "p")) (unary_of unary.Address (used (codes "x"))))
    ∷ effect (call (used (codes "write"))
    (number 1 ∷ unary_of unary.Address (used (codes "p")) ∷ number 4 ∷ [])) ∷ []) ∷ []) ∷ []

-- int x, *p; void main(void){ p = &x; exits((char*)&p); }
abbrev pub pointer_as_text : List (List Syntax)
pointer_as_text =
    (declaration (word.Int ∷ []) (false ∷ false ∷ [])
    (named (codes "x") ∷ tree (kind.Star []) (named (codes "p") ∷ []) ∷ [])
    ∷ main (effect (assign (used (codes "p")) (unary_of unary.Address (used (codes "x"))))
    ∷ effect (call (used (codes "exits"))
    (tree kind.Cast (named_type (word.Char ∷ []) (leaf (kind.Star []) ∷ [])
    ∷ unary_of unary.Address (used (codes "p")) ∷ []) ∷ [])) ∷ []) ∷ []) ∷ []

-- void main(void){ if(write(1, 0, 0) == 0 && write(1, 0, -1) == -1 && read(0, 0, 0) == 0)
-- write(1, 0, 1); }
abbrev pub written_null : List (List Syntax)
written_null =
    (main (if_holds (binary operator.AndAnd (binary operator.AndAnd (binary operator.Eq
    (call (used (codes "write")) (number 1 ∷ number 0 ∷ number 0 ∷ []) ∷ number 0 ∷ [])
    ∷ binary operator.Eq
    (call (used (codes "write")) (number 1 ∷ number 0 ∷ unary_of unary.Minus (number 1) ∷ [])
    ∷ unary_of unary.Minus (number 1) ∷ []) ∷ [])
    ∷ binary operator.Eq
    (call (used (codes "read")) (number 0 ∷ number 0 ∷ number 0 ∷ []) ∷ number 0 ∷ []) ∷ []))
    (effect (call (used (codes "write")) (number 1 ∷ number 0 ∷ number 1 ∷ []))) ∷ []) ∷ []) ∷ []

-- void main(void){ read(0, 0, 1); }
abbrev pub read_to_null : List (List Syntax)
read_to_null =
    (main (effect (call (used (codes "read")) (number 0 ∷ number 0 ∷ number 1 ∷ [])) ∷ []) ∷ []) ∷ []

-- char *p; void main(void){ { char v[2]; p = v; } exits(p); }
abbrev pub dead_text : List (List Syntax)
dead_text =
    (declaration (word.Char ∷ []) (false ∷ []) (tree (kind.Star []) (named (codes "p") ∷ []) ∷ [])
    ∷ main (block (declaration (word.Char ∷ []) (false ∷ [])
    (tree (kind.Brackets true true) (named (codes "v") ∷ number 2 ∷ []) ∷ [])
    ∷ effect (assign (used (codes "p")) (used (codes "v"))) ∷ [])
    ∷ effect (call (used (codes "exits")) (used (codes "p") ∷ [])) ∷ []) ∷ []) ∷ []

pub record RunsOfMissing : Type 0 where
  pub runs_unused : run unused [] 5 ≡ Some (Ends [] [] [])
  pub runs_as_operand : run as_operand [] 2 ≡ Some (IsUndefined [] cause.NoValue 0 11)
  pub runs_as_left_operand : run as_left_operand [] 5 ≡ Some (IsUndefined [] cause.NoValue 0 15)
  pub runs_as_test : run as_test [] 2 ≡ Some (IsUndefined [] cause.NoValue 0 7)
  pub runs_as_argument : run as_argument [] 2 ≡ Some (IsUndefined [] cause.NoValue 0 18)
  pub runs_as_result : run as_result [] 3 ≡ Some (IsUndefined [] cause.NoValue 0 7)
  pub runs_as_part : run as_part [] 2 ≡ Some (IsUndefined [] cause.NoValue 0 8)
  pub runs_as_address : run as_address [] 2 ≡ Some (IsUndefined [] cause.NoValue 0 8)
  pub runs_as_case : run as_case [] 2 ≡ Some (IsUndefined [] cause.NoValue 0 7)
  pub runs_null_substructure : run null_substructure [] 2 ≡ Some (IsUndefined [] cause.Null 0 22)
  pub runs_copied_past_the_end : run copied_past_the_end [] 2 ≡ Some (IsUndefined [] cause.Range 0 16)
  pub runs_misaligned_first : run misaligned_first [] 2 ≡ Some (IsUndefined [] cause.Misaligned 0 15)
  pub runs_before_its_object : run before_its_object [] 2 ≡ Some (IsUndefined [] cause.Range 0 13)
  pub runs_compared_outside : run compared_outside [] 2 ≡ Some (IsUndefined [] cause.Range 0 13)
  pub runs_unsigned_count : run unsigned_count [] 2 ≡ Some (IsUndefined [] cause.Range 0 30)
  pub runs_negative_index : run negative_index [] 2 ≡ Some (IsUndefined [] cause.Range 0 9)
  pub runs_called_dead : run called_dead [] 2 ≡ Some (IsUndefined [] cause.Dead 0 31)
  pub runs_updated_unset : run updated_unset [] 2 ≡ Some (IsUndefined [] cause.Unset 0 10)
  pub runs_within_parentheses : run within_parentheses [] 2 ≡ Some (IsUndefined [] cause.Unset 0 7)
  pub runs_written_pointer : run written_pointer [] 2 ≡ Some (IsUndefined [] cause.Mixed 0 16)
  pub runs_pointer_as_text : run pointer_as_text [] 2 ≡ Some (IsUndefined [] cause.Mixed 0 17)
  pub runs_written_null : run written_null [] 5 ≡ Some (IsUndefined [] cause.Null 0 31)
  pub runs_read_to_null : run read_to_null [] 2 ≡ Some (IsUndefined [] cause.Null 0 6)
  pub runs_dead_text : run dead_text [] 2 ≡ Some (IsUndefined [] cause.Dead 0 16)
